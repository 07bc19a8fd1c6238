-- Membership in lists of types, and what lists without repeats hold.
use Rattle.std.proofs.Common.{◌≡◌, ℕ, ◌+◌, ◌<◌, Bool, true, false, cond, ◌&&◌, ◌||◌, ◌⊎◌, inl, inr, List, [], ◌∷◌, ◌++◌, length, map, fold, flat_map, take, get_or, refl, sym, ap, ◌∙◌, subst, arith}
use Rattle.std.specs.List.{list_all}
use Rattle.std.proofs.lemmas.List.{length-map, get_or-map}
use Rattle.std.proofs.lemmas.List.Sums.{fold_more}
use Rattle.type_tree.specs.declared.tree.TExpr.{TExpr}
use Rattle.type_tree.specs.Same.{is_same}
use Rattle.type_tree.proofs.SameLemmas.{is_same-Decides}
use Rattle.il_model.specs.Trees.{is_among, with_new}

-- a fold over mapped items takes one more
pub fold_mapped : {X Y : Type 0} (f : Y → X → Y) (g : X → X) (a : Y) (xs : List X) (i : ℕ) (x : X) → i < length xs → x ≡ get_or xs i x →
    fold f a (take (i + 1) (map g xs)) ≡ f (fold f a (take i (map g xs))) (g x)
fold_mapped f g a xs i x inside is =
    let within : i < length (map g xs) = omega (arith, length-map xs g) in
    fold_more f a (map g xs) i (g x) within
    ∙ ap (λ y. f (fold f a (take i (map g xs))) y) (get_or-map g xs i x (g x) inside ∙ ap g (sym is))

pub fold_joined : {X Y : Type 0} (f : Y → X → Y) (a : Y) (xs ys : List X) → fold f a (xs ++ ys) ≡ fold f (fold f a xs) ys
fold_joined f a [] ys = refl
fold_joined f a (x ∷ xs) ys = fold_joined f (f a x) xs ys

-- the type is in the list
abbrev pub Has : List TExpr → TExpr → Type 0
Has [] x = ⊥
Has (y ∷ ys) x = (y ≡ x) ⊎ Has ys x

pub has_left : (xs ys : List TExpr) (x : TExpr) → Has xs x → Has (xs ++ ys) x
has_left [] ys x h = absurd h
has_left (y ∷ xs) ys x h = elim h [ inl e ↦ inl e | inr r ↦ inr (has_left xs ys x r) ]

pub has_right : (xs ys : List TExpr) (x : TExpr) → Has ys x → Has (xs ++ ys) x
has_right [] ys x h = h
has_right (y ∷ xs) ys x h = inr (has_right xs ys x h)

pub has_split : (xs ys : List TExpr) (x : TExpr) → Has (xs ++ ys) x → Has xs x ⊎ Has ys x
has_split [] ys x h = inr h
has_split (y ∷ xs) ys x h = elim h [ inl e ↦ inl (inl e) | inr r ↦ elim (has_split xs ys x r) [ inl a ↦ inl (inr a) | inr b ↦ inr b ] ]

pub from_map : (g : TExpr → TExpr) (P : Type 0) (xs : List TExpr) (y : TExpr) → Has (map g xs) y → ((x : TExpr) → Has xs x → g x ≡ y → P) → P
from_map g P [] y h go = absurd h
from_map g P (z ∷ xs) y h go = elim h [ inl e ↦ go z (inl refl) e | inr r ↦ from_map g P xs y r (λ x in_xs is. go x (inr in_xs) is) ]

module _ (f : TExpr → List TExpr) where
  pub has_flat : (xs : List TExpr) (x y : TExpr) → Has xs x → Has (f x) y → Has (flat_map f xs) y
  has_flat [] x y h g = absurd h
  has_flat (z ∷ xs) x y h g = elim h [ inl e ↦ has_left (f z) (flat_map f xs) y (subst (λ u. Has (f u) y) (sym e) g) | inr r ↦ has_right (f z) (flat_map f xs) y (has_flat xs x y r g) ]

  -- what holds of all of each part holds of all
  pub from_flat : (P : Type 0) (xs : List TExpr) (y : TExpr) → Has (flat_map f xs) y → ((x : TExpr) → Has xs x → Has (f x) y → P) → P
  from_flat P [] y h go = absurd h
  from_flat P (z ∷ xs) y h go = elim (has_split (f z) (flat_map f xs) y h) [ inl a ↦ go z (inl refl) a | inr b ↦ from_flat P xs y b (λ x r g. go x (inr r) g) ]

  pub flat_same : (g : TExpr → List TExpr) (xs : List TExpr) → ((x : TExpr) → Has xs x → f x ≡ g x) → flat_map f xs ≡ flat_map g xs
  flat_same g [] each = refl
  flat_same g (x ∷ xs) each = ap (λ ys. ys ++ flat_map f xs) (each x (inl refl)) ∙ ap (λ ys. g x ++ ys) (flat_same g xs (λ y r. each y (inr r)))

pub first_of_two : (a b : Bool) → (a && b) ≡ true → a ≡ true
first_of_two true b e = refl
first_of_two false b e = e

pub second_of_two : (a b : Bool) → (a && b) ≡ true → b ≡ true
second_of_two true b e = e
second_of_two false b e = cc

module _ (test : TExpr → Bool) where
  pub each_passes : (xs : List TExpr) → list_all test xs ≡ true → (x : TExpr) → Has xs x → test x ≡ true
  each_passes [] e x h = absurd h
  each_passes (y ∷ xs) e x h =
      elim h [ inl same ↦ subst (λ u. test u ≡ true) same (first_of_two (test y) (list_all test xs) e) | inr r ↦ each_passes xs (second_of_two (test y) (list_all test xs) e) x r ]

  pub all_pass : (xs : List TExpr) → ((x : TExpr) → Has xs x → test x ≡ true) → list_all test xs ≡ true
  all_pass [] each = refl
  all_pass (y ∷ xs) each = ap (λ b. b && list_all test xs) (each y (inl refl)) ∙ all_pass xs (λ x r. each x (inr r))

pub true_of_two : (a b : Bool) → (a || b) ≡ true → (a ≡ true) ⊎ (b ≡ true)
true_of_two true b e = inl refl
true_of_two false b e = inr e

pub or_true : (a b : Bool) → b ≡ true → (a || b) ≡ true
or_true true b e = refl
or_true false b e = e

pub has_of_among : (xs : List TExpr) (x : TExpr) → is_among xs x ≡ true → Has xs x
has_of_among [] x e = cc
has_of_among (y ∷ xs) x e =
    elim (true_of_two (is_same y x) (is_among xs x) e) [ inl same ↦ inl ((is_same-Decides y x).0 same) | inr r ↦ inr (has_of_among xs x r) ]

pub among_of_has : (xs : List TExpr) (x : TExpr) → Has xs x → is_among xs x ≡ true
among_of_has [] x h = absurd h
among_of_has (y ∷ xs) x h =
    elim h [ inl same ↦ ap (λ b. b || is_among xs x) ((is_same-Decides y x).1 same) | inr r ↦ or_true (is_same y x) (is_among xs x) (among_of_has xs x r) ]

-- the list with those of another one that are not in it put at its end
abbrev pub joined : List TExpr → List TExpr → List TExpr
joined = fold with_new

pub with_new_among : (xs : List TExpr) (x : TExpr) → is_among xs x ≡ true → with_new xs x ≡ xs
with_new_among xs x e = ap (λ b. cond b xs (xs ++ x ∷ [])) e

pub with_new_other : (xs : List TExpr) (x : TExpr) → is_among xs x ≡ false → with_new xs x ≡ xs ++ x ∷ []
with_new_other xs x e = ap (λ b. cond b xs (xs ++ x ∷ [])) e

-- nothing new leaves the list as it is
pub joined_none : (xs ys : List TExpr) → ((y : TExpr) → Has ys y → Has xs y) → joined xs ys ≡ xs
joined_none xs [] each = refl
joined_none xs (y ∷ ys) each =
    ap (λ zs. joined zs ys) (with_new_among xs y (among_of_has xs y (each y (inl refl)))) ∙ joined_none xs ys (λ z r. each z (inr r))

new_kept : (xs : List TExpr) (y x : TExpr) (b : Bool) → Has xs x → Has (cond b xs (xs ++ y ∷ [])) x
new_kept xs y x true h = h
new_kept xs y x false h = has_left xs (y ∷ []) x h

new_has : (xs : List TExpr) (y : TExpr) (b : Bool) → is_among xs y ≡ b → Has (cond b xs (xs ++ y ∷ [])) y
new_has xs y true e = has_of_among xs y e
new_has xs y false e = has_right xs (y ∷ []) y (inl refl)

new_split : (xs : List TExpr) (y x : TExpr) (b : Bool) → Has (cond b xs (xs ++ y ∷ [])) x → Has xs x ⊎ (y ≡ x)
new_split xs y x true h = inl h
new_split xs y x false h = elim (has_split xs (y ∷ []) x h) [ inl a ↦ inl a | inr b ↦ elim b [ inl e ↦ inr e | inr none ↦ absurd none ] ]

pub joined_kept : (xs ys : List TExpr) (x : TExpr) → Has xs x → Has (joined xs ys) x
joined_kept xs [] x h = h
joined_kept xs (y ∷ ys) x h = joined_kept (with_new xs y) ys x (new_kept xs y x (is_among xs y) h)

pub joined_has : (xs ys : List TExpr) (x : TExpr) → Has ys x → Has (joined xs ys) x
joined_has xs [] x h = absurd h
joined_has xs (y ∷ ys) x h =
    elim h [ inl e ↦ subst (Has (joined (with_new xs y) ys)) e (joined_kept (with_new xs y) ys y (new_has xs y (is_among xs y) refl)) | inr r ↦ joined_has (with_new xs y) ys x r ]

pub joined_split : (xs ys : List TExpr) (x : TExpr) → Has (joined xs ys) x → Has xs x ⊎ Has ys x
joined_split xs [] x h = inl h
joined_split xs (y ∷ ys) x h =
    elim (joined_split (with_new xs y) ys x h) [
      | inl a ↦ elim (new_split xs y x (is_among xs y) a) [ inl old ↦ inl old | inr e ↦ inr (inl e) ]
      | inr r ↦ inr (inr r)
    ]
