use Rattle.std.proofs.Common.{◌≡◌, ◌++◌, map, drop}
use Rattle.il_model.specs.Bounds.{methods_of}
use Rattle.il_parse.specs.Answer.{spots_of_method}
use Rattle.il_parse.proofs.placing.put_members.Given as goal

abbrev pub invariant-loop-member : goal.invariant-loop-member
invariant-loop-member l = (l.found ++ map (spots_of_method l.initial.places) (methods_of (drop l.member-index l.members)) ≡ l.initial.found ++ map (spots_of_method l.initial.places) (methods_of l.members)) × (l.places ≡ l.initial.places)
