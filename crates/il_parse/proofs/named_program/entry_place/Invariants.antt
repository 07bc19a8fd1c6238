use Rattle.std.proofs.Common.{◌≡◌, ◌≤◌, drop}
use Rattle.il_model.specs.Bounds.{methods_of}
use Rattle.il_parse.specs.EntryPoints.{entry_from}
use Rattle.il_parse.proofs.named_program.entry_place.Given as goal

abbrev pub invariant-loop-member : goal.invariant-loop-member
invariant-loop-member l = record {
  few : l.count ≤ l.member-index;
  same : entry_from 0 (methods_of l.members) ≡ entry_from l.count (methods_of (drop l.member-index l.members));
}
