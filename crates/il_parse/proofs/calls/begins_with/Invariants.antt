use Rattle.std.proofs.Common.{◌≡◌, map, drop}
use Rattle.il_model.specs.Instructions.{plain_words}
use Rattle.il_parse.specs.Mnemonics.{begin_with}
use Rattle.il_parse.proofs.calls.begins_with.Given as goal

abbrev pub invariant-loop-word : goal.invariant-loop-word
invariant-loop-word l = begin_with (map (λ w. w.now) l.words) (plain_words l.cursor) ≡ begin_with (map (λ w. w.now) (drop l.word-index l.words)) (plain_words l.rest)
