use Rattle.std.proofs.Common.{◌≡◌, ◌∙◌, Option, length, sym, ap}
use Rattle.il_model.specs.declared.method.Body.{Body}
use Rattle.cil_verify.specs.Places.{view_of, code_of}
use Rattle.cil_verify.proofs.PassLemmas.{knows_at_start, stays_inside}
use Rattle.cil_verify.proofs.pass.states_of.Goals as goal

pub pass-requires-clause-inside : goal.pass-requires-clause-inside
pass-requires-clause-inside c = stays_inside c.args.program.now c.args.method.now c.in-Some.body c.in-Some.is c.requires.flow

pub pass-requires-clause-knows : goal.pass-requires-clause-knows
pass-requires-clause-knows c =
    let size : c.len.result ≡ length (code_of c.args.method.now.body) = c.len.ensures ∙ ap (λ (o : Option Body). length (code_of o)) (sym c.in-Some.is) in
    knows_at_start (view_of c.args.program.now c.args.method.now) c.len.result c.in-Ok.all size (c.in-Ok.ensures {u = tt})
