-- Keys that are compared by their types, and a set to which they are added in turn.
use Rattle.std.proofs.Common.{◌≡◌, ◌∙◌, Bool, true, false, ◌||◌, cond, ℕ, List, [], ◌∷◌, ◌++◌, map, Some, option_map, slice_get, ap, sym, refl}
use Rattle.std.specs.List.{list_any}
use Rattle.std.proofs.lemmas.List.{map-append}
use Rattle.std.proofs.lemmas.Option.{slice_get-map}
use Rattle.indexmap.specs.IndexSet.{insert_key}
use Rattle.type_tree.specs.declared.tree.TExpr.{TExpr}
use Rattle.type_tree.specs.Same.{is_same}
use Rattle.type_tree.proofs.SameLemmas.{is_same-Decides}
use Rattle.il_model.specs.Trees.{is_among, with_new}
use Rattle.type_inst.specs.Opening.{Extends}
use Rattle.type_inst.proofs.ClosureLemmas.{both_true}
use Rattle.type_inst.proofs.OpeningLemmas.{extends_itself, extends_by}

same_swapped : (s t : TExpr) → is_same s t ≡ is_same t s
same_swapped s t =
    both_true (is_same s t) (is_same t s) (λ e. (is_same-Decides t s).1 (sym ((is_same-Decides s t).0 e))) (λ e. (is_same-Decides s t).1 (sym ((is_same-Decides t s).0 e)))

module _ {K : Type 0} (kind_of : K → TExpr) where
  abbrev same_key : K → K → Bool
  same_key a b = is_same (kind_of a) (kind_of b)

  pub any_key : (ks : List K) (t : TExpr) → list_any (λ k. is_same t (kind_of k)) ks ≡ is_among (map kind_of ks) t
  any_key [] t = refl
  any_key (k ∷ ks) t = ap (λ b. b || list_any (λ k. is_same t (kind_of k)) ks) (same_swapped t (kind_of k)) ∙ ap (λ b. is_same (kind_of k) t || b) (any_key ks t)

  by_test : (b : Bool) (ks : List K) (k : K) → map kind_of (cond b ks (ks ++ k ∷ [])) ≡ cond b (map kind_of ks) (map kind_of ks ++ kind_of k ∷ [])
  by_test true ks k = refl
  by_test false ks k = map-append kind_of ks (k ∷ [])

  -- the set's types are the list with the type put at its end, if it is new
  pub inserted : (ks : List K) (k : K) → map kind_of (insert_key same_key ks k) ≡ with_new (map kind_of ks) (kind_of k)
  inserted ks k = ap (λ b. map kind_of (cond b ks (ks ++ k ∷ []))) (any_key ks (kind_of k)) ∙ by_test (is_among (map kind_of ks) (kind_of k)) ks k

extends_if : (b : Bool) (ts : List TExpr) (t : TExpr) → Extends ts (cond b ts (ts ++ t ∷ []))
extends_if true ts t = extends_itself ts
extends_if false ts t = extends_by ts (ts ++ t ∷ []) t refl

pub extends_with_new : (ts : List TExpr) (t : TExpr) → Extends ts (with_new ts t)
extends_with_new ts t = extends_if (is_among ts t) ts t

-- a key that is found at a place shows its type there
pub found_key : {K : Type 0} (kind_of : K → TExpr) (ks : List K) (t : TExpr) (place : ℕ) (k : K) → slice_get ks place ≡ Some k →
    is_same t (kind_of k) ≡ true → slice_get (map kind_of ks) place ≡ Some t
found_key kind_of ks t place k at same = slice_get-map kind_of ks place ∙ ap (option_map kind_of) at ∙ ap Some (sym ((is_same-Decides t (kind_of k)).0 same))
