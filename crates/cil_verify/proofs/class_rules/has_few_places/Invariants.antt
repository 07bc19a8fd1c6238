use Rattle.std.proofs.Common.{◌≡◌, ◌+◌, length, take}
use Rattle.il_model.specs.Slots.{candidates}
use Rattle.cil_verify.proofs.class_rules.has_few_places.Given as goal

abbrev pub invariant-loop-each : goal.invariant-loop-each
invariant-loop-each l = length (candidates l.program (take l.each-index l.listed)) + l.left ≡ l.most
