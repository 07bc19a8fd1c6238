use Rattle.std.proofs.Common.{◌≡◌, true, is_some, take}
use Rattle.std.specs.List.{list_all}
use Rattle.il_model.specs.Slots.{candidates, match_of_place}
use Rattle.cil_verify.proofs.class_rules.finds_all.Given as goal

abbrev pub invariant-loop-each : goal.invariant-loop-each
invariant-loop-each l = list_all (λ place. is_some (match_of_place l.program l.own place)) (candidates l.program (take l.each-index l.listed)) ≡ true
