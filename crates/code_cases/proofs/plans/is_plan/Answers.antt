use Rattle.std.proofs.Common.{◌≡◌, sym, ap, ◌∙◌, subst, arith, length}
use Rattle.code_cases.proofs.PlanLemmas.{Laid, laid_next, laid_plan}
use Rattle.code_cases.proofs.plans.is_plan.Goals as goal

pub loop-place-preserved : goal.loop-place-preserved
loop-place-preserved c =
    laid_next c.as_slice-offsets.result.now c.as_slice-widths.result.now c.loop-place.place c.loop-place.end c.from-offset.result c.from-width.result c.loop-place.invariant
    c.from-offset.ensures c.from-width.ensures c.if-width-gt16.false c.if-offset-end.false

pub returns : goal.returns
returns c = λ last.
    let got = c.lies_last.ensures last in
    let offsets : c.as_slice-offsets.result.now ≡ c.args.plan.now.offsets = c.as_slice-offsets.ensures in
    let widths : c.as_slice-widths.result.now ≡ c.args.plan.now.widths = c.as_slice-widths.ensures in
    let all : c.loop-place.place ≡ length c.as_slice-offsets.result.now = omega (arith, c.loop-place.auto.place-end, c.loop-place-test.false) in
    let whole : Laid c.as_slice-offsets.result.now c.as_slice-widths.result.now (length c.as_slice-offsets.result.now) c.loop-place.end =
    subst (λ n. Laid c.as_slice-offsets.result.now c.as_slice-widths.result.now n c.loop-place.end) all c.loop-place.invariant in
    let first : Laid c.args.plan.now.offsets c.as_slice-widths.result.now (length c.args.plan.now.offsets) c.loop-place.end =
    subst (λ os. Laid os c.as_slice-widths.result.now (length os) c.loop-place.end) offsets whole in
    laid_plan c.args.plan.now c.loop-place.end
    (sym (ap length widths) ∙ c.if-widths-offsets.false ∙ ap length offsets)
    (subst (λ ws. Laid c.args.plan.now.offsets ws (length c.args.plan.now.offsets) c.loop-place.end) widths first)
    (omega (arith, c.if-end-from.false, c.from.ensures)) got.0 got.1 got.2
