use Rattle.std.proofs.Common.{◌≡◌, ◌+◌, length}
use Rattle.il_text.specs.Spelling.{is_text_end}
use Rattle.il_text.specs.Faults.{longest_front}
use Rattle.il_text.proofs.Longest.{shifted}
use Rattle.il_text.proofs.lengths.text_end_len.Given as goal

abbrev pub invariant-loop-b : goal.invariant-loop-b
invariant-loop-b l = record {
  shift : longest_front is_text_end (length l.bytes) l.bytes ≡ shifted l.len (longest_front is_text_end (length l.rest) l.rest);
  inside : l.len + length l.rest ≡ length l.bytes;
}

abbrev pub decreases-loop-b : goal.decreases-loop-b
decreases-loop-b l = length l.rest
