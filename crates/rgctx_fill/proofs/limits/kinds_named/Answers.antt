use Rattle.std.proofs.Common.{◌≡◌, ◌≤◌, length, Some, refl, sym, ap, ◌∙◌, subst}
use Rattle.std.specs.Prelude.{IfOk, slice_get}
use Rattle.std.proofs.lemmas.Option.{slice_get_read}
use Rattle.il_model.specs.Found.{method_at}
use Rattle.rgctx_fill.proofs.LoopLemmas.{kinds-some, kinds-none}
use Rattle.rgctx_fill.proofs.limits.kinds_named.Goals as goal

pub returns-in-Some : goal.returns-in-Some
returns-in-Some c =
    let p = c.args.program.now in
    let m = c.args.method.now in
    let listed = c.as_slice.result.now in
    let some : method_at p m.method ≡ Some c.in-Some.definition.now =
    ap (λ ms. slice_get ms m.method) (sym c.as_slice.ensures)
    ∙ slice_get_read listed (length listed) m.method c.in-Some.definition.now refl c.in-Some.ensures.lookup.3.0 c.in-Some.ensures.lookup.1 in
    subst (λ named. IfOk c.kinds_of.result (λ kinds. kinds ≡ named)) (kinds-some m (method_at p m.method) c.in-Some.definition.now some) c.kinds_of.ensures

pub returns-in-None : goal.returns-in-None
returns-in-None c =
    let p = c.args.program.now in
    let m = c.args.method.now in
    let past : length p.methods ≤ m.method = subst (λ ms. length ms ≤ m.method) c.as_slice.ensures c.in-None.ensures.lookup.3 in
    kinds-none m p.methods m.method c.new.result past c.new.ensures
