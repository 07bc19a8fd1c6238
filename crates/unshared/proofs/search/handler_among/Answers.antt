use Rattle.std.proofs.Common.{◌∙◌, ◌+◌, ◌∷◌, ℕ, Bool, Option, Some, drop, if◌then◌else◌, ap, sym}
use Rattle.type_inst.proofs.OpeningLemmas.{extends_both}
use Rattle.unshared.specs.Searched.{takes, finds}
use Rattle.unshared.specs.Talk.{and_then, pure}
use Rattle.unshared.proofs.NumberLemmas.{grown_both}
use Rattle.unshared.proofs.SearchSteps.{tell_stops}
use Rattle.unshared.proofs.Turns.{word_left, words_left}
use Rattle.unshared.proofs.search.handler_among.Goals as goal

pub returns-in_err-takes-clause-tells : goal.returns-in_err-takes-clause-tells
unfolding finds
returns-in_err-takes-clause-tells c = λ later ext.
    let p = c.args.program.now in
    let m = c.args.frame.now.method in
    let rest = drop (c.loop-clause.clause-index + 1) c.args.clauses.now in
    let failed = c.in_err-takes.ensures {u = tt} in
    tell_stops {A = Bool} (λ b. b) (λ (handler : Option ℕ). handler) (takes p later m c.args.thrown.kind c.args.frame.now.at c.clause-item.result c.loop-clause.replies) (λ b. if b then pure (Some c.clause-item.result.handler) else finds p later m c.args.thrown.kind c.args.frame.now.at rest)
    (finds p later m c.args.thrown.kind c.args.frame.now.at c.args.clauses.now c.args.replies.now) c.takes.new.replies c.takes.new.replies c.loop-clause.trees.kinds c.takes.new.trees.kinds c.from_residual.result c.in_err-takes.field-0.0 c.from_residual.ensures failed.grows
    (λ grown.
    word_left (λ cs. finds p later m c.args.thrown.kind c.args.frame.now.at cs c.loop-clause.replies) c.args.clauses.now c.loop-clause.clause-index c.clause-item.result c.loop-clause-test.true
    (c.loop-clause.invariant.so later (extends_both _ _ _ grown.extends ext))
    ∙ ap (λ e. finds p later m c.args.thrown.kind c.args.frame.now.at (e ∷ rest) c.loop-clause.replies) (sym c.clause-item.is))
    (failed.tells later ext)

pub returns-then-branch-clause-tells : goal.returns-then-branch-clause-tells
unfolding finds
returns-then-branch-clause-tells c = λ later ext.
    let p = c.args.program.now in
    let m = c.args.frame.now.method in
    let rest = drop (c.loop-clause.clause-index + 1) c.args.clauses.now in
    let done = c.in_ok-takes.ensures {u = tt} in
    word_left (λ cs. finds p later m c.args.thrown.kind c.args.frame.now.at cs c.loop-clause.replies) c.args.clauses.now c.loop-clause.clause-index c.clause-item.result c.loop-clause-test.true
    (c.loop-clause.invariant.so later (extends_both _ _ _ done.grows.extends ext))
    ∙ ap (λ e. finds p later m c.args.thrown.kind c.args.frame.now.at (e ∷ rest) c.loop-clause.replies) (sym c.clause-item.is)
    ∙ ap (λ r. and_then r (λ b. if b then pure (Some c.clause-item.result.handler) else finds p later m c.args.thrown.kind c.args.frame.now.at rest)) (done.tells later ext)
    ∙ ap (λ b. (if b then pure (Some c.clause-item.result.handler) else finds p later m c.args.thrown.kind c.args.frame.now.at rest) c.takes.new.replies) c.if-branch.true

pub loop-clause-preserved : goal.loop-clause-preserved
unfolding finds
loop-clause-preserved c =
    let p = c.args.program.now in
    let m = c.args.frame.now.method in
    let rest = drop (c.loop-clause.clause-index + 1) c.args.clauses.now in
    let done = c.in_ok-takes.ensures {u = tt} in
    record {
      grown = grown_both _ _ _ c.loop-clause.invariant.grown done.grows;
      so = λ later ext.
          word_left (λ cs. finds p later m c.args.thrown.kind c.args.frame.now.at cs c.loop-clause.replies) c.args.clauses.now c.loop-clause.clause-index c.clause-item.result c.loop-clause-test.true
          (c.loop-clause.invariant.so later (extends_both _ _ _ done.grows.extends ext))
          ∙ ap (λ e. finds p later m c.args.thrown.kind c.args.frame.now.at (e ∷ rest) c.loop-clause.replies) (sym c.clause-item.is)
          ∙ ap (λ r. and_then r (λ b. if b then pure (Some c.clause-item.result.handler) else finds p later m c.args.thrown.kind c.args.frame.now.at rest)) (done.tells later ext)
          ∙ ap (λ b. (if b then pure (Some c.clause-item.result.handler) else finds p later m c.args.thrown.kind c.args.frame.now.at rest) c.takes.new.replies) c.if-branch.false;
    }

pub returns-clause-tells : goal.returns-clause-tells
unfolding finds
returns-clause-tells c = λ later ext.
    words_left (λ cs. finds c.args.program.now later c.args.frame.now.method c.args.thrown.kind c.args.frame.now.at cs c.loop-clause.replies) c.args.clauses.now c.loop-clause.clause-index c.loop-clause-test.false (c.loop-clause.invariant.so later ext)
