use Rattle.std.proofs.Common.{◌≡◌, length, take}
use Rattle.rgctx_words.specs.Stacks.{mem_of}
use Rattle.crossings.specs.Copies.{with_arguments}
use Rattle.crossings.proofs.copying.copy_arguments.Given as goal

abbrev pub invariant-loop-number : goal.invariant-loop-number
invariant-loop-number l = record {
  same_size : length l.stack.words ≡ length l.fn.stack.words;
  same_bases : l.stack.bases ≡ l.fn.stack.bases;
  memory : mem_of l.stack ≡ with_arguments l.base (take l.base l.fn.stack.words) l.list l.widths l.number (mem_of l.fn.stack);
}
