use Rattle.std.proofs.Common.{◌≡◌, ◌≤◌, ◌+◌, Ok, drop, length}
use Rattle.rv_isa.specs.Assembly.{word_count, joined, words_from}
use Rattle.rv_isa.proofs.placing.assemble.Given as goal

abbrev pub invariant-loop-item : goal.invariant-loop-item
invariant-loop-item l = record {
  same : joined (Ok l.words.items) (words_from l.places (length l.words.items) (drop l.item-index l.items)) ≡ words_from l.places 0 l.items;
  room : length l.words.items + word_count (drop l.item-index l.items) ≤ 268435456;
}
