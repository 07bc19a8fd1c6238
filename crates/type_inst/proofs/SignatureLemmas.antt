-- Tests of signatures decide equality.
use Rattle.std.proofs.Common.{◌≡◌, List, Some, None, Option, ap, refl}
use Rattle.std.specs.Bool.{Decides}
use Rattle.std.proofs.lemmas.Bool.Decides.{Decides-like}
use Rattle.std.proofs.lemmas.Slice.Eq.{slice_eq-Decides}
use Rattle.std.specs.Cmp.Lexicographic.{pointwise}
use Rattle.type_tree.specs.declared.tree.TExpr.{TExpr}
use Rattle.type_tree.specs.Same.{is_same}
use Rattle.type_tree.proofs.SameLemmas.{is_same-Decides}
use Rattle.il_model.specs.declared.method.PType.{PType}
use Rattle.il_model.specs.declared.method.PType.TheVariants as ptype
use Rattle.il_model.specs.Found.{same_param, same_result}

same_param-Decides : (a b : PType) → Decides (same_param a b) (a ≡ b)
same_param-Decides (ptype.Value s) (ptype.Value t) = Decides-like (is_same s t) (λ e. ap ptype.Value e) (λ e. cc) (is_same-Decides s t)
same_param-Decides (ptype.Pointer s) (ptype.Pointer t) = Decides-like (is_same s t) (λ e. ap ptype.Pointer e) (λ e. cc) (is_same-Decides s t)
same_param-Decides ptype.Native ptype.Native = ((λ _. refl), (λ _. refl))
same_param-Decides _ _ = ((λ e. cc), (λ e. cc))

pub same_params-Decides : (a b : List PType) → Decides (pointwise same_param a b) (a ≡ b)
same_params-Decides a b = slice_eq-Decides same_param-Decides a b (pointwise same_param a b) refl

pub same_result-Decides : (a b : Option TExpr) → Decides (same_result a b) (a ≡ b)
same_result-Decides (Some s) (Some t) = Decides-like (is_same s t) (λ e. ap Some e) (λ e. cc) (is_same-Decides s t)
same_result-Decides None None = ((λ _. refl), (λ _. refl))
same_result-Decides (Some s) None = ((λ e. cc), (λ e. cc))
same_result-Decides None (Some t) = ((λ e. cc), (λ e. cc))
