use Rattle.std.proofs.Common.{[], ◌∷◌, ◌++◌, ◌∙◌, sym, subst, bytes_eq}
use Rattle.std.specs.List.{IsDistinct}
use Rattle.il_model.specs.Names.{plain_names}
use Rattle.il_model.proofs.finding_tests.one_class.Goals as goal

pub returns : goal.returns
unfolding IsDistinct
returns c =
    subst (λ cs. IsDistinct bytes_eq (plain_names cs))
    (sym ((c.in_ok-push.ensures {u = tt}).ok ∙ (λ i. c.new-classes.ensures i ++ c.in_ok-object.object ∷ []))) (tt, tt)
