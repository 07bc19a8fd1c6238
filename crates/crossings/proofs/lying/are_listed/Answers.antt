use Rattle.std.proofs.Common.{◌≡◌, ℕ, ◌+◌, ◌<◌, length, sym, ap, ◌∙◌, arith, subst, true≢false, rules}
use Rattle.std.specs.Prelude.{slice_index}
use Rattle.crossings.specs.Calls.{Lies, argument_at}
use Rattle.crossings.specs.Copies.{index_at}
use Rattle.crossings.proofs.LyingLemmas.{listed-inside, listed-address, listed-more}
use Rattle.crossings.proofs.lying.are_listed.Goals as goal

pub overflow_add-first : goal.overflow_add-first
overflow_add-first c =
    let lies : Lies c.args.stack.now.words c.args.list (length c.args.widths.now) = search (rules, c.lie_before.ensures, c.if-not-lie_before.false, c.if-not-lie_before.ensures) in
    let inside : index_at c.args.stack.now.words c.args.list + c.loop-number.number < length c.args.stack.now.words =
    listed-inside c.args.stack.now.words c.args.list (length c.args.widths.now) c.loop-number.number lies (omega (arith, c.loop-number-test.true)) in
    omega (arith, inside, c.index_at-first.ensures, c.end-end.ensures.shape.small, c.end-end.ensures.shape.few)

pub returns-then-not-lie_before-2 : goal.returns-then-not-lie_before-2
returns-then-not-lie_before-2 c = (
  (λ e. absurd (true≢false (sym e))),
  (λ listed.
      let left : c.loop-number.number < length c.args.widths.now = omega (arith, c.loop-number-test.true) in
      let at : c.word-address.result ≡ argument_at c.args.stack.now.words c.args.list c.loop-number.number =
      c.word-address.ensures ∙ ap (λ (k : ℕ). slice_index c.args.stack.now.words (k + c.loop-number.number)) c.index_at-first.ensures
      ∙ listed-address c.args.stack.now.words c.args.list (length c.args.widths.now) c.loop-number.number listed.addresses left in
      let lies : Lies c.args.stack.now.words c.word-address.result (slice_index c.args.widths.now c.loop-number.number) =
      subst (λ (a : ℕ). Lies c.args.stack.now.words a (slice_index c.args.widths.now c.loop-number.number)) (sym at) (listed.each c.loop-number.number left) in
      search (rules, lies, c.lie_before-in-loop-number.ensures, c.if-not-lie_before-2.true, c.if-not-lie_before-2.ensures)),
)

pub loop-number-preserved : goal.loop-number-preserved
loop-number-preserved c =
    let lies : Lies c.args.stack.now.words c.args.list (length c.args.widths.now) = search (rules, c.lie_before.ensures, c.if-not-lie_before.false, c.if-not-lie_before.ensures) in
    let left : c.loop-number.number < length c.args.widths.now = omega (arith, c.loop-number-test.true) in
    let at : c.word-address.result ≡ argument_at c.args.stack.now.words c.args.list c.loop-number.number =
    c.word-address.ensures ∙ ap (λ (k : ℕ). slice_index c.args.stack.now.words (k + c.loop-number.number)) c.index_at-first.ensures
    ∙ listed-address c.args.stack.now.words c.args.list (length c.args.widths.now) c.loop-number.number lies left in
    let here : Lies c.args.stack.now.words c.word-address.result (slice_index c.args.widths.now c.loop-number.number) =
    search (rules, c.lie_before-in-loop-number.ensures, c.if-not-lie_before-2.false, c.if-not-lie_before-2.ensures) in
    listed-more c.args.stack.now.words c.args.list c.args.widths.now c.loop-number.number c.word-address.result c.loop-number.invariant here at
