use Rattle.std.proofs.Common.{◌≡◌, ◌∙◌, ◌++◌, ◌∷◌, [], suc, ◌+◌, List, ap, arith}
use Rattle.cil_verify.specs.declared.arrival.Arrival.{Arrival}
use Rattle.cil_verify.specs.Arrivals.{nothing, none_arrived}
use Rattle.cil_verify.proofs.pass.none_arrived.Goals as goal

pub loop-i-preserved : goal.loop-i-preserved
loop-i-preserved c =
    let next : suc c.loop-i.i ≡ c.loop-i.i + 1 = omega arith in
    c.in_ok-put_arrival.ensures {u = tt} ∙ ap (λ (all : List Arrival). all ++ nothing ∷ []) c.loop-i.invariant ∙ ap none_arrived next
