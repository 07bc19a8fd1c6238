use Rattle.std.proofs.Common.{◌≡◌, false, map, take}
use Rattle.il_model.specs.Trees.{is_among}
use Rattle.cil_verify.proofs.type_set.TypeSet.has.Given as goal

abbrev pub invariant-loop-key : goal.invariant-loop-key
invariant-loop-key l = is_among (map (λ k. k.kind) (take l.key-index l.key-items)) l.kind ≡ false
