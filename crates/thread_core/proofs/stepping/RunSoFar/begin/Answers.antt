use Rattle.std.proofs.Common.{◌++◌, [], List, ℕ, length, refl, sym, subst}
use Rattle.rgctx_fill.specs.ThreadStates.{image_of}
use Rattle.thread_core.specs.Reached.{IsAt}
use Rattle.thread_core.proofs.stepping.RunSoFar.begin.Goals as goal

pub returns-clause-begun : goal.returns-clause-begun
returns-clause-begun c = let e = c.in_ok-progress.ensures {u = tt} in (refl, (e.at []).schedule, e.empty)

pub returns-clause-stands : goal.returns-clause-stands
returns-clause-stands c = λ rest.
    let im = image_of c.args.image.now in
    let r = c.in_ok-progress.progress in
    let at = (c.in_ok-progress.ensures {u = tt}).at in
    subst (λ (s : List ℕ). IsAt im (s ++ rest) (length s) (length s) r) (sym (at []).schedule) (at rest)
