use Rattle.std.proofs.Common.{◌≡◌, ◌+◌, length}
use Rattle.rgctx_words.specs.Stacks.{mem_of}
use Rattle.crossings.specs.Copies.{copied}
use Rattle.crossings.proofs.copying.copy_words.Given as goal

abbrev pub invariant-loop-k : goal.invariant-loop-k
invariant-loop-k l = record {
  same_size : length l.stack.words ≡ length l.fn.stack.words;
  same_bases : l.stack.bases ≡ l.fn.stack.bases;
  memory : mem_of l.stack ≡ copied l.to l.k (λ j. mem_of l.fn.stack (l.from + j)) (mem_of l.fn.stack);
}
