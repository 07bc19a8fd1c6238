use Rattle.std.proofs.Common.{◌≡◌, true, take}
use Rattle.std.specs.List.{list_all}
use Rattle.il_model.specs.ClassRules.{has_counts}
use Rattle.cil_verify.proofs.bounds.+has_counts.Given as goal

abbrev pub invariant-have_counts-loop-each : goal.invariant-have_counts-loop-each
invariant-have_counts-loop-each l = list_all (has_counts l.program) (take l.each-index l.kinds) ≡ true
