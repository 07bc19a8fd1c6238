use Rattle.std.proofs.Common.{◌≡◌, ◌+◌, drop}
use Rattle.std.specs.List.{prefix_len}
use Rattle.aot_image.specs.ChoosingTypes.{is_type_byte}
use Rattle.aot_image.proofs.choice_cursor.word_len.Given as goal

abbrev pub invariant-loop-i : goal.invariant-loop-i
invariant-loop-i l = l.i + prefix_len is_type_byte (drop l.i l.bytes) ≡ prefix_len is_type_byte l.bytes
