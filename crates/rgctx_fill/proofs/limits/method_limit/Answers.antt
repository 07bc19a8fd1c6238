use Rattle.std.proofs.Common.{◌≡◌, map, rules}
use Rattle.il_model.specs.Admission.{limit_of}
use Rattle.il_model.specs.Methods.{worst}
use Rattle.rgctx_fill.proofs.LoopLemmas.{limit-whole}
use Rattle.rgctx_fill.proofs.limits.method_limit.Goals as goal

pub returns : goal.returns
returns c =
    let p = c.args.program.now in
    let m = c.args.method.now in
    let args : c.in_ok-args.args ≡ worst (map (limit_of p) m.args) = search rules in
    let rest : c.in_ok-rest.rest ≡ worst (map (limit_of p) c.in_ok-kinds.kinds) = search rules in
    limit-whole p m c.in_ok-class.class c.in_ok-args.args c.in_ok-rest.rest c.worse.result c.worse-2.result c.in_ok-kinds.kinds (search rules) c.in_ok-class.ensures args c.in_ok-kinds.ensures rest c.worse.ensures c.worse-2.ensures
