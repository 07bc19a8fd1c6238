-- What is reached from a type in steps, and lists that hold each tree of it once.
use Rattle.std.proofs.Common.{◌≡◌, ℕ, zero, suc, ◌<◌, ◌≤◌, Bool, true, false, ◌||◌, ◌⊎◌, inl, inr, List, [], ◌∷◌, ◌++◌, flat_map, fold, refl, sym, ap, ◌∙◌, subst, arith}
use Rattle.std.specs.List.{list_any}
use Rattle.type_tree.specs.declared.tree.TExpr.{TExpr}
use Rattle.il_model.specs.declared.program.Program.{Program}
use Rattle.il_model.specs.Admission.{steps_of, closure_within, is_large}
use Rattle.il_model.specs.Trees.{with_new}
use Rattle.type_inst.specs.Reaching.{spread_one}
use Rattle.type_inst.proofs.ListLemmas.{Has, has_right, has_split, has_flat, from_flat, joined, joined_kept, joined_has, joined_split, fold_joined, true_of_two, or_true}

module _ (test : TExpr → Bool) where
  pub any_of_has : (xs : List TExpr) (x : TExpr) → Has xs x → test x ≡ true → list_any test xs ≡ true
  any_of_has [] x h e = absurd h
  any_of_has (y ∷ xs) x h e =
      elim h [ inl same ↦ ap (λ b. b || list_any test xs) (subst (λ v. test v ≡ true) (sym same) e) | inr r ↦ or_true (test y) (list_any test xs) (any_of_has xs x r e) ]

  pub has_of_any : (P : Type 0) (xs : List TExpr) → list_any test xs ≡ true → ((x : TExpr) → Has xs x → test x ≡ true → P) → P
  has_of_any P [] e go = cc
  has_of_any P (y ∷ xs) e go =
      elim (true_of_two (test y) (list_any test xs) e) [ inl here ↦ go y (inl refl) here | inr r ↦ has_of_any P xs r (λ x h is. go x (inr h) is) ]

pub both_true : (a b : Bool) → (a ≡ true → b ≡ true) → (b ≡ true → a ≡ true) → a ≡ b
both_true true true f g = refl
both_true true false f g = let no : false ≡ true = f refl in cc
both_true false true f g = g refl
both_true false false f g = refl

-- two lists have the same members
pub record SameMembers (xs : List TExpr) (ys : List TExpr) : Type 0 where
  pub found : (x : TExpr) → Has xs x → Has ys x
  pub whole : (x : TExpr) → Has ys x → Has xs x

pub same_any : (test : TExpr → Bool) (xs ys : List TExpr) → SameMembers xs ys → list_any test xs ≡ list_any test ys
same_any test xs ys same =
    both_true (list_any test xs) (list_any test ys)
    (λ e. has_of_any test (list_any test ys ≡ true) xs e (λ x h is. any_of_has test ys x (same.found x h) is))
    (λ e. has_of_any test (list_any test xs ≡ true) ys e (λ x h is. any_of_has test xs x (same.whole x h) is))

module _ (program : Program) where
  abbrev steps : TExpr → List TExpr
  steps t = steps_of program t

  abbrev within : ℕ → TExpr → List TExpr
  within n t = closure_within program n t

  pub reached_itself : (n : ℕ) (t : TExpr) → Has (within n t) t
  reached_itself zero t = inl refl
  reached_itself (suc n) t = inl refl

  -- more steps reach no less
  pub reached_in_more : (n m : ℕ) (t x : TExpr) → n ≤ m → Has (within n t) x → Has (within m t) x
  reached_in_more zero m t x le h = elim h [ inl e ↦ subst (Has (within m t)) e (reached_itself m t) | inr none ↦ absurd none ]
  reached_in_more (suc n) zero t x le h = absurd (omega (arith, le))
  reached_in_more (suc n) (suc m) t x le h =
      elim h [
        | inl e ↦ inl e
        | inr r ↦ inr (from_flat (λ u. within n u) (Has (flat_map (λ u. within m u) (steps t)) x) (steps t) x r
            (λ u is in_u. has_flat (λ v. within m v) (steps t) u x is (reached_in_more n m u x (omega (arith, le)) in_u)))
      ]

  -- one step further at the end
  pub reached_next : (n : ℕ) (t y x : TExpr) → Has (within n t) y → Has (steps y) x → Has (within (suc n) t) x
  reached_next zero t y x h g =
      elim h [ inl e ↦ inr (has_flat (λ v. within zero v) (steps t) x x (subst (λ v. Has (steps v) x) (sym e) g) (inl refl)) | inr none ↦ absurd none ]
  reached_next (suc n) t y x h g =
      elim h [
        | inl e ↦ inr (has_flat (λ v. within (suc n) v) (steps t) x x (subst (λ v. Has (steps v) x) (sym e) g) (inl refl))
        | inr r ↦ inr (from_flat (λ u. within n u) (Has (flat_map (λ u. within (suc n) u) (steps t)) x) (steps t) y r
            (λ u is in_u. has_flat (λ v. within (suc n) v) (steps t) u x is (reached_next n u y x in_u g)))
      ]

  -- what is reached is reached in fewer steps, or by a last one
  pub reached_last : (n : ℕ) (t x : TExpr) (P : Type 0) → Has (within (suc n) t) x → (Has (within n t) x → P) →
      ((y : TExpr) → Has (within n t) y → Has (steps y) x → P) → P
  reached_last zero t x P h before last =
      elim h [
        | inl e ↦ before (inl e)
        | inr r ↦ from_flat (λ u. within zero u) P (steps t) x r
            (λ u is in_u. elim in_u [ inl e ↦ last t (inl refl) (subst (Has (steps t)) e is) | inr none ↦ absurd none ])
      ]
  reached_last (suc n) t x P h before last =
      elim h [
        | inl e ↦ before (inl e)
        | inr r ↦ from_flat (λ u. within (suc n) u) P (steps t) x r
            (λ u is in_u. reached_last n u x P in_u
            (λ less. before (inr (has_flat (λ v. within n v) (steps t) u x is less)))
            (λ y in_y g. last y (inr (has_flat (λ v. within n v) (steps t) u y is in_y)) g))
      ]

  -- a list with the steps from each of its types has all that is reached from one of them
  pub reached_inside : (all : List TExpr) → ((y : TExpr) → Has all y → (x : TExpr) → Has (steps y) x → Has all x) →
      (n : ℕ) (t x : TExpr) → Has all t → Has (within n t) x → Has all x
  reached_inside all each zero t x at h = elim h [ inl e ↦ subst (Has all) e at | inr none ↦ absurd none ]
  reached_inside all each (suc n) t x at h =
      elim h [
        | inl e ↦ subst (Has all) e at
        | inr r ↦ from_flat (λ u. within n u) (Has all x) (steps t) x r (λ u is in_u. reached_inside all each n u x (each t at u is) in_u)
      ]

  -- the list has what is reached in so many steps, the fresh ones being those whose own steps are still to be gone; none is too large
  pub record Layered (root : TExpr) (n : ℕ) (all : List TExpr) (fresh : List TExpr) : Type 0 where
    pub found : (x : TExpr) → Has all x → Has (within n root) x
    pub whole : (x : TExpr) → Has (within n root) x → Has all x
    pub part : (x : TExpr) → Has fresh x → Has all x
    pub gone : (y : TExpr) → Has all y → Has fresh y ⊎ ((x : TExpr) → Has (steps y) x → Has all x)
    pub small : list_any is_large all ≡ false

  pub layered_first : (root : TExpr) → is_large root ≡ false → Layered root zero (root ∷ []) (root ∷ [])
  layered_first root small = record {
    found = λ x h. h;
    whole = λ x h. h;
    part = λ x h. h;
    gone = λ y h. inl h;
    small = ap (λ b. b || false) small;
  }

  -- the list after the steps from these types
  pub spread_is : (fresh all : List TExpr) → fold (spread_one program) all fresh ≡ joined all (flat_map (steps_of program) fresh)
  spread_is [] all = refl
  spread_is (t ∷ fresh) all = spread_is fresh (joined all (steps t)) ∙ sym (fold_joined with_new all (steps t) (flat_map (steps_of program) fresh))

  small_both : (xs ys : List TExpr) → list_any is_large xs ≡ false → list_any is_large ys ≡ false → list_any is_large (xs ++ ys) ≡ false
  small_both [] ys e f = f
  small_both (x ∷ xs) ys e f = both (is_large x) (list_any is_large xs) (list_any is_large (xs ++ ys)) e (λ r. small_both xs ys r f)
    where
      both : (a b d : Bool) → (a || b) ≡ false → (b ≡ false → d ≡ false) → (a || d) ≡ false
      both false b d e go = go e
      both true b d e go = cc

  -- the list after one more step
  pub layered_all : (root : TExpr) (n : ℕ) (all fresh new : List TExpr) → Layered root n all fresh → new ≡ joined all (flat_map (steps_of program) fresh) →
      ((x : TExpr) → Has new x → Has (within (suc n) root) x) × ((x : TExpr) → Has (within (suc n) root) x → Has new x)
  layered_all root n all fresh new l is = (
    λ x h. elim (joined_split all (flat_map (steps_of program) fresh) x (subst (λ xs. Has xs x) is h)) [
      | inl old ↦ reached_in_more n (suc n) root x (omega arith) (l.found x old)
      | inr r ↦ from_flat (steps_of program) (Has (within (suc n) root) x) fresh x r (λ y in_fresh g. reached_next n root y x (l.found y (l.part y in_fresh)) g)
    ],
    λ x h. subst (λ xs. Has xs x) (sym is) (reached_last n root x (Has (joined all (flat_map (steps_of program) fresh)) x) h
        (λ less. joined_kept all (flat_map (steps_of program) fresh) x (l.whole x less))
        (λ y in_y g. elim (l.gone y (l.whole y in_y)) [
          | inl in_fresh ↦ joined_has all (flat_map (steps_of program) fresh) x (has_flat (steps_of program) fresh y x in_fresh g)
          | inr past ↦ joined_kept all (flat_map (steps_of program) fresh) x (past x g)
        ])),
  )

  pub layered_step : (root : TExpr) (n : ℕ) (all fresh new next : List TExpr) → Layered root n all fresh → new ≡ joined all (flat_map (steps_of program) fresh) →
      new ≡ all ++ next → list_any is_large next ≡ false → Layered root (suc n) new next
  layered_step root n all fresh new next l is split small =
      let both = layered_all root n all fresh new l is in
      record {
        found = both.0;
        whole = both.1;
        part = λ x h. subst (λ xs. Has xs x) (sym split) (has_right all next x h);
        gone = λ y h. elim (has_split all next y (subst (λ xs. Has xs y) split h)) [
          | inl old ↦ inr (λ x g. elim (l.gone y old) [
            | inl in_fresh ↦ subst (λ xs. Has xs x) (sym is) (joined_has all (flat_map (steps_of program) fresh) x (has_flat (steps_of program) fresh y x in_fresh g))
            | inr past ↦ subst (λ xs. Has xs x) (sym is) (joined_kept all (flat_map (steps_of program) fresh) x (past x g))
          ])
          | inr new_one ↦ inl new_one
        ];
        small = subst (λ xs. list_any is_large xs ≡ false) (sym split) (small_both all next l.small small);
      }

  -- what was found is what is reached, where as many steps were gone or nothing is left to go from
  pub layered_whole : (root : TExpr) (n : ℕ) (all fresh : List TExpr) → Layered root n all fresh → SameMembers all (within n root)
  layered_whole root n all fresh l = record { found = l.found; whole = l.whole }

  pub layered_done : (root : TExpr) (n m : ℕ) (all : List TExpr) → n ≤ m → Layered root n all [] → SameMembers all (within m root)
  layered_done root n m all le l = record {
    found = λ x h. reached_in_more n m root x le (l.found x h);
    whole = λ x h. reached_inside all (λ y at z g. elim (l.gone y at) [ inl none ↦ absurd none | inr past ↦ past z g ]) m root x (l.whole root (reached_itself n root)) h;
  }

  -- a large one that is found is reached
  pub layered_large : (root : TExpr) (n m : ℕ) (all fresh new next : List TExpr) → n < m → Layered root n all fresh → new ≡ joined all (flat_map (steps_of program) fresh) →
      new ≡ all ++ next → list_any is_large next ≡ true → list_any is_large (within m root) ≡ true
  layered_large root n m all fresh new next less l is split large =
      has_of_any is_large (list_any is_large (within m root) ≡ true) next large
      (λ x h e. any_of_has is_large (within m root) x
      (reached_in_more (suc n) m root x (omega (arith, less)) ((layered_all root n all fresh new l is).0 x (subst (λ xs. Has xs x) (sym split) (has_right all next x h)))) e)
