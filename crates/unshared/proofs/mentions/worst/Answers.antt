use Rattle.std.proofs.Common.{◌∙◌, map, take, ap, sym}
use Rattle.il_model.specs.Admission.{limit_of}
use Rattle.il_model.specs.Methods.{worse, worst}
use Rattle.unshared.proofs.LimitLemmas.{worst_more}
use Rattle.unshared.proofs.mentions.worst.Goals as goal

pub loop-kind-preserved : goal.loop-kind-preserved
loop-kind-preserved c =
    let p = c.args.program.now in
    c.worse-found.ensures
    ∙ ap (λ l. worse l c.in_ok-own.own) c.loop-kind.invariant
    ∙ ap (worse (worst (map (limit_of p) (take c.loop-kind.kind-index c.args.kinds.now)))) (c.in_ok-own.ensures {u = tt} ∙ ap (limit_of p) c.kind-item.is)
    ∙ sym (worst_more (limit_of p) c.args.kinds.now c.loop-kind.kind-index c.kind-item.result c.loop-kind-test.true)
