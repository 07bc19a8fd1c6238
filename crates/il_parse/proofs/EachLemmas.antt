-- Looking up one item after another.
use Rattle.std.proofs.Common.{◌≡◌, ◌∙◌, ℕ, ◌+◌, ◌<◌, ◌≤◌, List, [], ◌∷◌, ◌++◌, length, drop, map, slice_index_or, Ok, Err, refl, sym, ap}
use Rattle.std.proofs.Math.Seq.{drop-cons}
use Rattle.std.proofs.Math.Numerals.{suc-eq-add-one}
use Rattle.std.proofs.Math.ListN.{drop_of_length-le}
use Rattle.type_tree.specs.declared.tree.TExpr.{TExpr}
use Rattle.il_parse.specs.Looking.{Look, ◌>>=◌, each_from}
use Rattle.il_parse.specs.NamedTypes.{all_found}

-- the item at a place in front of those behind it
pub seam : {A : Type 0} (xs : List A) (i : ℕ) (x : A) → i < length xs → x ≡ slice_index_or xs i x → drop i xs ≡ x ∷ drop (i + 1) xs
seam xs i x inside is = drop-cons xs i x inside ∙ (λ j. sym is j ∷ drop (suc-eq-add-one i j) xs)

module _ {A B : Type 0} (f : A → Look B) (found : List B) (xs : List A) (i : ℕ) where
  -- at the end what was found is all
  pub each_end : length xs ≤ i → each_from f found (drop i xs) ≡ Ok found
  unfolding each_from
  each_end past = ap (each_from f found) (drop_of_length-le xs past)

  -- the item at a place is the next
  pub each_next : (x : A) → i < length xs → x ≡ slice_index_or xs i x →
      each_from f found (drop i xs) ≡ (f x >>= (λ y. each_from f (found ++ y ∷ []) (drop (i + 1) xs)))
  unfolding each_from
  each_next x inside is = ap (each_from f found) (seam xs i x inside is)

-- looking items up and then taking what each gave is the same
pub all_each : {A : Type 0} (f : A → Look TExpr) (found : List TExpr) (xs : List A) → all_found found (map f xs) ≡ each_from f found xs
unfolding all_found each_from
all_each f found [] = refl
all_each f found (x ∷ xs) = by (f x) (λ t. all_each f (found ++ t ∷ []) xs)
  where
    by : (r : Look TExpr) → ((t : TExpr) → all_found (found ++ t ∷ []) (map f xs) ≡ each_from f (found ++ t ∷ []) xs) →
        (r >>= (λ t. all_found (found ++ t ∷ []) (map f xs))) ≡ (r >>= (λ t. each_from f (found ++ t ∷ []) xs))
    by (Err fault) rest = refl
    by (Ok t) rest = rest t
