-- Lists of types without repeats: how long they are beside others that have their members.
use Rattle.std.proofs.Common.{◌≡◌, ℕ, zero, suc, ◌<◌, ◌≤◌, Bool, true, false, cond, ◌⊎◌, inl, inr, List, [], ◌∷◌, ◌++◌, length, slice_get, Option, Some, fold, refl, sym, ap, ◌∙◌, subst, arith}
use Rattle.type_tree.specs.declared.tree.TExpr.{TExpr}
use Rattle.il_model.specs.Trees.{is_among, with_new, without_repeats}
use Rattle.type_inst.proofs.ListLemmas.{Has, has_split, has_of_among, among_of_has, joined}

-- each stands once
abbrev pub Once : List TExpr → Type 0
Once [] = Unit {0}
Once (x ∷ xs) = ¬ (Has xs x) × Once xs

once_end : (xs : List TExpr) (x : TExpr) → Once xs → ¬ (Has xs x) → Once (xs ++ x ∷ [])
once_end [] x once new = ((λ h. h), tt)
once_end (y ∷ xs) x once new = (
  λ h. elim (has_split xs (x ∷ []) y h) [ inl old ↦ once.0 old | inr one ↦ elim one [ inl e ↦ new (inl (sym e)) | inr none ↦ none ] ],
  once_end xs x once.1 (λ h. new (inr h)),
)

once_if : (xs : List TExpr) (x : TExpr) (b : Bool) → is_among xs x ≡ b → Once xs → Once (cond b xs (xs ++ x ∷ []))
once_if xs x true is once = once
once_if xs x false is once = once_end xs x once (λ h. let yes : is_among xs x ≡ true = among_of_has xs x h in cc)

pub once_joined : (xs ys : List TExpr) → Once xs → Once (joined xs ys)
once_joined xs [] once = once
once_joined xs (y ∷ ys) once = once_joined (with_new xs y) ys (once_if xs y (is_among xs y) refl once)

pub once_without : (xs : List TExpr) → Once (without_repeats xs)
once_without xs = once_joined [] xs tt

-- a list without one of its members
record Without (ys : List TExpr) (x : TExpr) : Type 0 where
  rest : List TExpr
  count : length ys ≡ suc (length rest)
  each : (z : TExpr) → Has ys z → (x ≡ z) ⊎ Has rest z

without : (ys : List TExpr) (x : TExpr) → Has ys x → Without ys x
without [] x h = absurd h
without (y ∷ ys) x h =
    elim h [
      | inl e ↦ record { rest = ys; count = refl; each = λ z g. elim g [ inl same ↦ inl (sym e ∙ same) | inr r ↦ inr r ] }
      | inr r ↦
          let w = without ys x r in
          record {
            rest = y ∷ w.rest;
            count = ap suc w.count;
            each = λ z g. elim g [ inl same ↦ inr (inl same) | inr q ↦ elim (w.each z q) [ inl e ↦ inl e | inr s ↦ inr (inr s) ] ];
          }
    ]

-- a list without repeats is no longer than one with all of its members
pub fits_in : (xs ys : List TExpr) → Once xs → ((x : TExpr) → Has xs x → Has ys x) → length xs ≤ length ys
fits_in [] ys once each = omega arith
fits_in (x ∷ xs) ys once each =
    let w = without ys x (each x (inl refl)) in
    let less : length xs ≤ length w.rest =
    fits_in xs w.rest once.1 (λ z h. elim (w.each z (each z (inr h))) [ inl e ↦ absurd (once.0 (subst (Has xs) (sym e) h)) | inr r ↦ r ]) in
    omega (arith, less, w.count)

at_kept : (xs : List TExpr) (y : TExpr) (b : Bool) (k : ℕ) (x : TExpr) → slice_get xs k ≡ Some x → slice_get (cond b xs (xs ++ y ∷ [])) k ≡ Some x
at_kept xs y true k x is = is
at_kept [] y false k x is = cc
at_kept (z ∷ xs) y false zero x is = is
at_kept (z ∷ xs) y false (suc k) x is = at_kept xs y false k x is

-- what stands at a place stays there
pub joined_at : (xs ys : List TExpr) (k : ℕ) (x : TExpr) → slice_get xs k ≡ Some x → slice_get (joined xs ys) k ≡ Some x
joined_at xs [] k x is = is
joined_at xs (y ∷ ys) k x is = joined_at (with_new xs y) ys k x (at_kept xs y (is_among xs y) k x is)

pub record Placed (xs : List TExpr) (x : TExpr) : Type 0 where
  pub place : ℕ
  pub inside : place < length xs
  pub is : slice_get xs place ≡ Some x

pub placed : (xs : List TExpr) (x : TExpr) → Has xs x → Placed xs x
placed [] x h = absurd h
placed (y ∷ xs) x h =
    elim h [
      | inl e ↦ record { place = 0; inside = omega arith; is = ap Some e }
      | inr r ↦ let p = placed xs x r in record { place = suc p.place; inside = omega (arith, p.inside); is = p.is }
    ]

pub at_place : (xs : List TExpr) (k : ℕ) → k < length xs → (x : TExpr) × (slice_get xs k ≡ Some x)
at_place [] k inside = absurd (omega (arith, inside))
at_place (y ∷ xs) zero inside = (y, refl)
at_place (y ∷ xs) (suc k) inside = at_place xs k (omega (arith, inside))

pub has_at : (xs : List TExpr) (k : ℕ) (x : TExpr) → slice_get xs k ≡ Some x → Has xs x
has_at [] k x is = cc
has_at (y ∷ xs) zero x is = inl cc
has_at (y ∷ xs) (suc k) x is = inr (has_at xs k x is)
