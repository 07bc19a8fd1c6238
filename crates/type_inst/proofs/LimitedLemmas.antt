-- The closures of several types, one behind the other.
use Rattle.std.proofs.Common.{◌≡◌, ℕ, zero, suc, ◌+◌, ◌*◌, ◌<◌, ◌≤◌, true, false, ◌||◌, inl, Bool, List, [], ◌∷◌, ◌++◌, length, flat_map, take, get_or, Some, refl, sym, ap, ◌∙◌, arith}
use Rattle.std.specs.List.{list_any}
use Rattle.std.proofs.lemmas.List.{take_more, flat_map_more}
use Rattle.std.proofs.lemmas.List.Folds.{list_any-append, list_any_at}
use Rattle.type_tree.specs.declared.tree.TExpr.{TExpr}
use Rattle.type_tree.specs.Positions.{positions_of}
use Rattle.il_model.specs.declared.program.Program.{Program}
use Rattle.il_model.specs.Trees.{trees_within, trees_in}
use Rattle.il_model.specs.Layouts.{most_trees}
use Rattle.il_model.specs.Admission.{closure_of, limited_trees_of, is_large}
use Rattle.type_inst.specs.Reaching.{TestAlike, SmallOf}
use Rattle.type_inst.proofs.ListLemmas.{Has, has_flat}
use Rattle.type_inst.proofs.ClosureLemmas.{any_of_has, reached_itself}

pub take_all : (xs : List TExpr) (n : ℕ) → length xs ≤ n → take n xs ≡ xs
take_all [] zero le = refl
take_all [] (suc n) le = refl
take_all (x ∷ xs) zero le = absurd (omega (arith, le))
take_all (x ∷ xs) (suc n) le = ap (λ ys. x ∷ ys) (take_all xs n (omega (arith, le)))

first_within : (n : ℕ) (t : TExpr) → Has (trees_within n t) t
first_within zero t = inl refl
first_within (suc n) t = inl refl

module _ (program : Program) (t : TExpr) where
  in_own_closure : Has (closure_of program t) t
  in_own_closure = reached_itself program (most_trees * positions_of t) t

  -- a tree that is too large is in its own closure, and among the trees that the limits are asked of
  pub closure_large : is_large t ≡ true → list_any is_large (closure_of program t) ≡ true
  closure_large large = any_of_has is_large (closure_of program t) t in_own_closure large

  pub limited_large : is_large t ≡ true → list_any is_large (limited_trees_of program t) ≡ true
  limited_large large =
      any_of_has is_large (limited_trees_of program t) t
      (has_flat (closure_of program) (trees_in t) t t (first_within (positions_of t) t) in_own_closure) large

module _ (f : TExpr → List TExpr) where
  any_flat : (test : TExpr → Bool) (xs : List TExpr) → list_any test (flat_map f xs) ≡ list_any (λ x. list_any test (f x)) xs
  any_flat test [] = refl
  any_flat test (x ∷ xs) = list_any-append test (f x) (flat_map f xs) ∙ ap (λ b. list_any test (f x) || b) (any_flat test xs)

  -- what passes in one part passes in all
  pub part_large : (xs : List TExpr) (i : ℕ) (x : TExpr) → i < length xs → x ≡ get_or xs i x → list_any is_large (f x) ≡ true →
      list_any is_large (flat_map f xs) ≡ true
  part_large xs i x inside is large =
      any_flat is_large xs ∙ list_any_at (λ y. list_any is_large (f y)) xs i x inside (ap (λ y. list_any is_large (f y)) (sym is) ∙ large)

  -- one part more
  pub part_more : (xs : List TExpr) (i : ℕ) (x : TExpr) (all found new : List TExpr) → i < length xs → x ≡ get_or xs i x → new ≡ all ++ found →
      (list_any is_large all ≡ false) × TestAlike all (flat_map f (take i xs)) → SmallOf (f x) (Some found) →
      (list_any is_large new ≡ false) × TestAlike new (flat_map f (take (i + 1) xs))
  part_more xs i x all found new inside is put before here =
      let whole : flat_map f (take (i + 1) xs) ≡ flat_map f (take i xs) ++ f x =
      ap (flat_map f) (take_more xs i x inside ∙ ap (λ y. take i xs ++ y ∷ []) (sym is)) ∙ sym (flat_map_more f [] (take i xs) x) in (
        ap (λ ys. list_any is_large ys) put ∙ list_any-append is_large all found ∙ ap (λ b. b || list_any is_large found) before.0 ∙ here.0,
        λ test. ap (λ ys. list_any test ys) put
            ∙ list_any-append test all found
            ∙ ap (λ b. b || list_any test found) (before.1 test)
            ∙ ap (λ b. list_any test (flat_map f (take i xs)) || b) (here.1 test)
            ∙ sym (list_any-append test (flat_map f (take i xs)) (f x))
            ∙ ap (λ ys. list_any test ys) (sym whole),
      )
