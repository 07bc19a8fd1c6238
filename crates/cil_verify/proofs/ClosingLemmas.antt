-- The walk over what is reached from several types.
use Rattle.std.proofs.Common.{◌≡◌, ℕ, zero, suc, ◌+◌, ◌*◌, ◌<◌, ◌≤◌, Bool, true, false, ◌||◌, ◌⊎◌, inl, inr, List, [], ◌∷◌, ◌++◌, length, flat_map, slice_get, Option, Some, None, fold, refl, sym, ap, ◌∙◌, subst, arith}
use Rattle.std.specs.List.{list_any, list_all}
use Rattle.type_tree.specs.declared.tree.TExpr.{TExpr}
use Rattle.type_tree.specs.Positions.{positions_of}
use Rattle.type_tree.proofs.PositionsLemmas.{positions_of-positive}
use Rattle.il_model.specs.declared.program.Program.{Program}
use Rattle.il_model.specs.Trees.{is_among, with_new, without_repeats}
use Rattle.il_model.specs.Layouts.{most_trees}
use Rattle.il_model.specs.Admission.{steps_of, closure_within, closure_of, is_large}
use Rattle.type_inst.specs.Reaching.{TestAlike}
use Rattle.type_inst.proofs.ListLemmas.{Has, has_flat, from_flat, has_of_among, among_of_has, all_pass, joined, joined_kept, joined_has, joined_split}
use Rattle.type_inst.proofs.ClosureLemmas.{any_of_has, has_of_any, SameMembers, same_any, reached_itself, reached_in_more, reached_next, reached_inside}
use Rattle.cil_verify.specs.Closures.{closures_of, steps_from, HasClosures, AreTooMuch}
use Rattle.cil_verify.proofs.OnceLemmas.{Once, once_joined, once_without, fits_in, joined_at, Placed, placed, at_place, has_at}

module _ (program : Program) (roots : List TExpr) where
  abbrev pub reached_in : ℕ → List TExpr
  reached_in n = flat_map (λ root. closure_within program n root) roots

  more : (n m : ℕ) (x : TExpr) → n ≤ m → Has (reached_in n) x → Has (reached_in m) x
  more n m x le h =
      from_flat (λ r. closure_within program n r) (Has (reached_in m) x) roots x h
      (λ r is in_r. has_flat (λ r. closure_within program m r) roots r x is (reached_in_more program n m r x le in_r))

  next : (n : ℕ) (y x : TExpr) → Has (reached_in n) y → Has (steps_of program y) x → Has (reached_in (suc n)) x
  next n y x h g =
      from_flat (λ r. closure_within program n r) (Has (reached_in (suc n)) x) roots y h
      (λ r is in_r. has_flat (λ r. closure_within program (suc n) r) roots r x is (reached_next program n r y x in_r g))

  into : (n : ℕ) (x : TExpr) → n ≤ most_trees → Has (reached_in n) x → Has (closures_of program roots) x
  into n x le h =
      from_flat (λ r. closure_within program n r) (Has (closures_of program roots) x) roots x h
      (λ r is in_r.
      let far : n ≤ most_trees * positions_of r = omega (arith, le, positions_of-positive r) in
      has_flat (closure_of program) roots r x is (reached_in_more program n (most_trees * positions_of r) r x far in_r))

  itself : (x : TExpr) → Has roots x → Has (reached_in 0) x
  itself x h = has_flat (λ r. closure_within program 0 r) roots x x h (reached_itself program 0 x)

  -- the list has the roots and what the steps from its first types reach, each tree once
  pub record Walk (at : ℕ) (all : List TExpr) : Type 0 where
    pub found : (x : TExpr) → Has all x → Has (reached_in at) x
    pub rooted : (x : TExpr) → Has roots x → Has all x
    pub gone : (k : ℕ) (y : TExpr) → k < at → slice_get all k ≡ Some y → (x : TExpr) → Has (steps_of program y) x → Has all x
    pub once : Once all
    pub small : list_any is_large all ≡ false
    pub few : length all ≤ most_trees
    pub inside : at ≤ length all

  no_large : (xs ys : List TExpr) → list_any is_large xs ≡ false → list_any is_large ys ≡ false → list_any is_large (joined xs ys) ≡ false
  no_large xs ys e f = by_cases (list_any is_large (joined xs ys)) refl
    where
      by_cases : (b : Bool) → list_any is_large (joined xs ys) ≡ b → list_any is_large (joined xs ys) ≡ false
      by_cases false is = is
      by_cases true is =
          has_of_any is_large (list_any is_large (joined xs ys) ≡ false) (joined xs ys) is
          (λ x h large. elim (joined_split xs ys x h) [
            | inl old ↦ let no : list_any is_large xs ≡ true = any_of_has is_large xs x old large in cc
            | inr new ↦ let no : list_any is_large ys ≡ true = any_of_has is_large ys x new large in cc
          ])

  pub first_all : (all : List TExpr) → all ≡ joined [] roots → list_any is_large roots ≡ false → length all ≤ most_trees → Walk 0 all
  first_all all is small few = record {
    found = λ x h. elim (joined_split [] roots x (subst (λ xs. Has xs x) is h)) [ inl none ↦ absurd none | inr r ↦ itself x r ];
    rooted = λ x h. subst (λ xs. Has xs x) (sym is) (joined_has [] roots x h);
    gone = λ k y below at x g. absurd (omega (arith, below));
    once = subst Once (sym is) (once_joined [] roots tt);
    small = ap (λ xs. list_any is_large xs) is ∙ no_large [] roots refl small;
    few = few;
    inside = omega arith;
  }

  -- too large already among the roots
  pub roots_large : list_any is_large roots ≡ true → AreTooMuch program roots
  roots_large large =
      has_of_any is_large (AreTooMuch program roots) roots large
      (λ x h is. inl (any_of_has is_large (closures_of program roots) x (into 0 x (omega arith) (itself x h)) is))

  too_many : (n : ℕ) (all : List TExpr) → n ≤ most_trees → Once all → ((x : TExpr) → Has all x → Has (reached_in n) x) → most_trees < length all → AreTooMuch program roots
  too_many n all le once found many =
      let fits : length all ≤ length (without_repeats (closures_of program roots)) =
      fits_in all (without_repeats (closures_of program roots)) once (λ x h. joined_has [] (closures_of program roots) x (into n x le (found x h))) in
      inr (omega (arith, fits, many))

  pub roots_many : (all : List TExpr) → all ≡ joined [] roots → most_trees < length all → AreTooMuch program roots
  roots_many all is many =
      too_many 0 all (omega arith) (subst Once (sym is) (once_joined [] roots tt))
      (λ x h. elim (joined_split [] roots x (subst (λ xs. Has xs x) is h)) [ inl none ↦ absurd none | inr r ↦ itself x r ]) many

  module _ (at : ℕ) (all : List TExpr) (w : Walk at all) (here : at < length all) where
    abbrev this : TExpr
    this = (at_place all at here).0

    this_at : slice_get all at ≡ Some this
    this_at = (at_place all at here).1

    steps_are : steps_from program (slice_get all at) ≡ steps_of program this
    steps_are = ap (steps_from program) this_at

    step_found : (x : TExpr) → Has (steps_from program (slice_get all at)) x → Has (reached_in (suc at)) x
    step_found x h = next at this x (w.found this (has_at all at this this_at)) (subst (λ xs. Has xs x) steps_are h)

    new_found : (steps new : List TExpr) → steps ≡ steps_from program (slice_get all at) → new ≡ joined all steps → (x : TExpr) → Has new x → Has (reached_in (suc at)) x
    new_found steps new are is x h =
        elim (joined_split all steps x (subst (λ xs. Has xs x) is h)) [
          | inl old ↦ more at (suc at) x (omega arith) (w.found x old)
          | inr fresh ↦ step_found x (subst (λ xs. Has xs x) are fresh)
        ]

    pub step_large : (steps : List TExpr) → steps ≡ steps_from program (slice_get all at) → list_any is_large steps ≡ true → AreTooMuch program roots
    step_large steps are large =
        has_of_any is_large (AreTooMuch program roots) steps large
        (λ x h is. inl (any_of_has is_large (closures_of program roots) x (into (suc at) x (omega (arith, here, w.few)) (step_found x (subst (λ xs. Has xs x) are h))) is))

    pub step_many : (steps new : List TExpr) → steps ≡ steps_from program (slice_get all at) → new ≡ joined all steps → most_trees < length new → AreTooMuch program roots
    step_many steps new are is many =
        too_many (suc at) new (omega (arith, here, w.few)) (subst Once (sym is) (once_joined all steps w.once)) (new_found steps new are is) many

    grows : (steps new : List TExpr) → new ≡ joined all steps → length all ≤ length new
    grows steps new is =
        fits_in all new w.once (λ x h. subst (λ xs. Has xs x) (sym is) (joined_kept all steps x h))

    gone_next : (steps new : List TExpr) → steps ≡ steps_from program (slice_get all at) → new ≡ joined all steps →
        (k : ℕ) (y : TExpr) → k < suc at → slice_get new k ≡ Some y → (x : TExpr) → Has (steps_of program y) x → Has new x
    gone_next steps new are is k y below placed_at x g =
        let old = at_place all k (omega (arith, below, here)) in
        let kept : slice_get new k ≡ Some old.0 = ap (λ xs. slice_get xs k) is ∙ joined_at all steps k old.0 old.1 in
        let same : old.0 ≡ y = cc in
        let was : slice_get all k ≡ Some y = old.1 ∙ ap Some same in
        subst (λ xs. Has xs x) (sym is) (by_order (nat_order k at (omega (arith, below))) was x g)
      where
        nat_order : (a b : ℕ) → a ≤ b → (a < b) ⊎ (a ≡ b)
        nat_order zero zero le = inr refl
        nat_order zero (suc b) le = inl (omega arith)
        nat_order (suc a) zero le = absurd (omega (arith, le))
        nat_order (suc a) (suc b) le = elim (nat_order a b (omega (arith, le))) [ inl less ↦ inl (omega (arith, less)) | inr e ↦ inr (ap suc e) ]

        by_order : (k < at) ⊎ (k ≡ at) → slice_get all k ≡ Some y → (x : TExpr) → Has (steps_of program y) x → Has (joined all steps) x
        by_order (inl less) was x g = joined_kept all steps x (w.gone k y less was x g)
        by_order (inr e) was x g =
            let here_is : slice_get all at ≡ Some y = ap (λ (m : ℕ). slice_get all m) (sym e) ∙ was in
            let list : steps ≡ steps_of program y = are ∙ ap (steps_from program) here_is in
            joined_has all steps x (subst (λ xs. Has xs x) (sym list) g)

    pub next_all : (steps new : List TExpr) → steps ≡ steps_from program (slice_get all at) → new ≡ joined all steps → list_any is_large steps ≡ false →
        length new ≤ most_trees → Walk (suc at) new
    next_all steps new are is small few = record {
      found = new_found steps new are is;
      rooted = λ x h. subst (λ xs. Has xs x) (sym is) (joined_kept all steps x (w.rooted x h));
      gone = gone_next steps new are is;
      once = subst Once (sym is) (once_joined all steps w.once);
      small = ap (λ xs. list_any is_large xs) is ∙ no_large all steps w.small small;
      few = few;
      inside = omega (arith, grows steps new is, here);
    }

  -- once all steps are gone, the list has all that is reached
  module _ (at : ℕ) (all : List TExpr) (w : Walk at all) (over : length all ≤ at) where
    each_gone : (y : TExpr) → Has all y → (x : TExpr) → Has (steps_of program y) x → Has all x
    each_gone y h x g = let p = placed all y h in w.gone p.place y (omega (arith, p.inside, over)) p.is x g

    within : (x : TExpr) → Has (closures_of program roots) x → Has all x
    within x h =
        from_flat (closure_of program) (Has all x) roots x h
        (λ r is in_r. reached_inside program all each_gone (most_trees * positions_of r) r x (w.rooted r is) in_r)

    back : (x : TExpr) → Has all x → Has (closures_of program roots) x
    back x h = into at x (omega (arith, w.inside, w.few)) (w.found x h)

    alike : TestAlike all (closures_of program roots)
    alike test = same_any test all (closures_of program roots) (record { found = back; whole = within })

    pub closed_all : HasClosures program roots all
    closed_all = record {
      small = sym (alike is_large) ∙ w.small;
      few =
          (let fits : length (without_repeats (closures_of program roots)) ≤ length all =
          fits_in (without_repeats (closures_of program roots)) all (once_without (closures_of program roots))
          (λ x h. elim (joined_split [] (closures_of program roots) x h) [ inl none ↦ absurd none | inr r ↦ within x r ]) in
          omega (arith, fits, w.few));
      alike = alike;
      whole = all_pass (λ y. list_all (is_among all) (steps_of program y)) all
          (λ y h. all_pass (is_among all) (steps_of program y) (λ x g. among_of_has all x (each_gone y h x g)));
    }
