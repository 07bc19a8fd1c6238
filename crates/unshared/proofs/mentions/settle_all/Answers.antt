use Rattle.std.proofs.Common.{ℕ, Vec, Global, ◌≡◌, ◌∙◌, ◌+◌, ◌++◌, ◌∷◌, [], drop, Err, ap, sym, subst}
use Rattle.cil_verify.proofs.JudgingLemmas.{handed_on}
use Rattle.type_inst.proofs.OpeningLemmas.{extends_both}
use Rattle.unshared.specs.Settled.{settles_from, settles_entry}
use Rattle.unshared.specs.Talk.{Talks, and_then}
use Rattle.unshared.proofs.NumberLemmas.{grown_both}
use Rattle.unshared.proofs.Turns.{word_left, stops_grown}
use Rattle.unshared.proofs.mentions.settle_all.Goals as goal

pub returns-in_err-number-clause-settles : goal.returns-in_err-number-clause-settles
unfolding settles_from
returns-in_err-number-clause-settles c = λ later ext.
    let p = c.args.program.now in
    let m = c.args.method.now in
    let rest = drop (c.loop-entry.entry-index + 1) c.args.entries.now in
    let failed = c.in_err-number.ensures {u = tt} in
    let err : c.from_residual.result ≡ Err c.in_err-number.field-0.0 = handed_on c.from_residual.result c.in_err-number.field-0.0 c.from_residual.ensures in
    subst (λ r. Talks (λ (numbers : Vec ℕ Global). numbers.items) (settles_from p later m c.args.entries.now [] c.args.replies.now) r c.settle.new.replies) (sym err)
    (stops_grown (λ number. number) (λ (numbers : Vec ℕ Global). numbers.items) (settles_entry p later m c.entry-item.result) (λ v. settles_from p later m rest (c.loop-entry.numbers.items ++ v ∷ [])) _ c.loop-entry.replies _ _
    c.loop-entry.trees.kinds c.settle.new.trees.kinds c.in_err-number.field-0.0 failed.grows
    (λ grown.
    word_left (λ es. settles_from p later m es c.loop-entry.numbers.items c.loop-entry.replies) c.args.entries.now c.loop-entry.entry-index c.entry-item.result c.loop-entry-test.true
    (c.loop-entry.invariant.so later (extends_both _ _ _ grown.extends ext))
    ∙ ap (λ e. settles_from p later m (e ∷ rest) c.loop-entry.numbers.items c.loop-entry.replies) (sym c.entry-item.is))
    (failed.settles later ext))

pub loop-entry-preserved : goal.loop-entry-preserved
unfolding settles_from
loop-entry-preserved c =
    let p = c.args.program.now in
    let m = c.args.method.now in
    let rest = drop (c.loop-entry.entry-index + 1) c.args.entries.now in
    let done = c.in_ok-number.ensures {u = tt} in
    record {
      grown = grown_both _ _ _ c.loop-entry.invariant.grown done.grows;
      so = λ later ext.
          word_left (λ es. settles_from p later m es c.loop-entry.numbers.items c.loop-entry.replies) c.args.entries.now c.loop-entry.entry-index c.entry-item.result c.loop-entry-test.true
          (c.loop-entry.invariant.so later (extends_both _ _ _ done.grows.extends ext))
          ∙ ap (λ e. settles_from p later m (e ∷ rest) c.loop-entry.numbers.items c.loop-entry.replies) (sym c.entry-item.is)
          ∙ ap (λ r. and_then r (λ v. settles_from p later m rest (c.loop-entry.numbers.items ++ v ∷ []))) (done.settles later ext)
          ∙ ap (λ l. settles_from p later m rest l c.settle.new.replies) (sym (c.in_ok-note.ensures {u = tt}));
    }
