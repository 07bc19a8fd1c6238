use Rattle.std.proofs.Common.{rules, arith, refl, sym, subst}
use Rattle.std.proofs.lemmas.Grind.{common_steps}
use Rattle.rgctx_template.specs.Catalogue.{data_of}
use Rattle.rgctx_fill.specs.ThreadStates.{image_of}
use Rattle.thread_core.specs.Reached.{AreMet}
use Rattle.thread_core.proofs.FirstLemmas.{at_first}
use Rattle.thread_core.proofs.progress.Progress.opening.Goals as goal

pub returns-clause-at : goal.returns-clause-at
returns-clause-at c = λ ks.
    at_first (image_of c.args.image.now) ks _ c.in_ok-first.first
    (first_of (search rules, grind (arith, common_steps)))
    (c.in_ok-first.ensures {u = tt})
    (first_of (search rules, grind (arith, common_steps)))
    (first_of (search rules, grind (arith, common_steps)))
    (first_of (search rules, grind (arith, common_steps)))
    (first_of (search rules, grind (arith, common_steps)))
    (subst (AreMet (data_of c.args.image.now.cat)) (sym (c.in_ok-words.ensures {u = tt}).words) ((c.in_ok-opening.ensures {u = tt}).fit c.args.image.now.cat refl))
    (first_of (search rules, grind (arith, common_steps)))
    (first_of (search rules, grind (arith, common_steps)))
    (first_of (search rules, grind (arith, common_steps)))
    (first_of (search rules, grind (arith, common_steps)))
