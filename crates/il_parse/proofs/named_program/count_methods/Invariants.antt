use Rattle.std.proofs.Common.{◌≡◌, ◌≤◌, ◌+◌, length, drop}
use Rattle.il_model.specs.Bounds.{methods_of}
use Rattle.il_parse.proofs.named_program.count_methods.Given as goal

abbrev pub invariant-loop-member : goal.invariant-loop-member
invariant-loop-member l = record {
  few : l.count ≤ l.member-index;
  all : l.count + length (methods_of (drop l.member-index l.members)) ≡ length (methods_of l.members);
}
