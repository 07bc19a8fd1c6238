use Rattle.std.proofs.Common.{◌≡◌, true, is_some, map, take}
use Rattle.std.specs.List.{list_all}
use Rattle.il_model.specs.Slots.{match_of_place}
use Rattle.cil_verify.proofs.class_rules.finds_own.Given as goal

abbrev pub invariant-loop-number : goal.invariant-loop-number
invariant-loop-number l = list_all (λ place. is_some (match_of_place l.program l.own place)) (map (λ number. (l.interface, number)) (take l.number-index l.number-items)) ≡ true
