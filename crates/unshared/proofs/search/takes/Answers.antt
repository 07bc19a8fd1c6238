use Rattle.std.proofs.Common.{rules, arith, ℕ, ◌≡◌, Some, slice_get, sym}
use Rattle.std.proofs.lemmas.Grind.{common_steps}
use Rattle.cil_meaning.specs.Naming.{put_type}
use Rattle.cil_meaning.specs.Types.{passes_as}
use Rattle.type_inst.proofs.OpeningLemmas.{kept_at}
use Rattle.unshared.proofs.SearchSteps.{talk_stops, uncovered, finally_is, caught, passes}
use Rattle.unshared.proofs.search.takes.Goals as goal

pub returns-then-not-covers-clause-tells : goal.returns-then-not-covers-clause-tells
returns-then-not-covers-clause-tells c = λ later ext. uncovered c.args.program.now later c.args.method.now c.args.thrown.kind c.args.at c.args.clause.now c.args.replies.now (sym (c.if-not-covers.ensures {u = tt}))

pub returns-in_default-clause-tells : goal.returns-in_default-clause-tells
returns-in_default-clause-tells c = λ later ext. finally_is c.args.program.now later c.args.method.now c.args.thrown.kind c.args.at c.args.clause.now c.args.replies.now (sym (c.if-not-covers.ensures {u = tt})) c.in_default.is

pub returns-in_err-settle-clause-tells : goal.returns-in_err-settle-clause-tells
returns-in_err-settle-clause-tells c = λ later ext.
    talk_stops {A = ℕ} (λ number. number) _ _ _ _ c.settle.new.replies _ c.from_residual-in_err-settle.result c.in_err-settle.field-0.0 c.from_residual-in_err-settle.ensures
    (caught c.args.program.now later c.args.method.now c.args.thrown.kind c.args.at c.args.clause.now c.args.replies.now _ _ (sym (c.if-not-covers.ensures {u = tt})) c.in-Catch.is (c.in_ok-copied.ensures {u = tt}))
    ((c.in_err-settle.ensures {u = tt}).settles later ext)

pub returns-clause-tells : goal.returns-clause-tells
returns-clause-tells c = λ later ext.
    let here : slice_get c.settle.new.trees.kinds c.args.thrown.kind ≡ Some c.in-Some.exact.now = first_of (search rules, grind (arith, common_steps)) in
    let so : c.in_ok-passes_as.field-0 ≡ passes_as c.args.program.now c.in-Some.exact.now (put_type c.args.method.now c.in-Catch.kind) = first_of (search rules, grind (arith, common_steps)) in
    passes c.args.program.now later c.args.method.now c.args.thrown.kind c.args.at c.args.clause.now c.args.replies.now _ _ c.in-Some.exact.now _ c.in_ok-passes_as.field-0 c.settle.new.replies
    (sym (c.if-not-covers.ensures {u = tt})) c.in-Catch.is (c.in_ok-copied.ensures {u = tt}) ((c.in_ok-settle.ensures {u = tt}).settles later ext) (kept_at c.settle.new.trees.kinds later c.args.thrown.kind c.in-Some.exact.now ext here) so
