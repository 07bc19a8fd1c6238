-- The walk that passes over what is listed lists what the whole walk does, repeats left out.
use Rattle.std.proofs.Common.{◌≡◌, ℕ, zero, suc, ◌<◌, ◌≤◌, Bool, true, false, cond, inl, inr, List, [], ◌∷◌, ◌++◌, fold, flat_map, option_to_list, refl, sym, ap, ◌∙◌, subst, arith}
use Rattle.std.specs.List.{list_all}
use Rattle.type_tree.specs.declared.tree.TExpr.{TExpr}
use Rattle.il_model.specs.declared.program.Program.{Program}
use Rattle.il_model.specs.Trees.{is_among, with_new, without_repeats}
use Rattle.il_model.specs.Bases.{base_of}
use Rattle.il_model.specs.Interfaces.{own_interfaces_of, interfaces_met}
use Rattle.type_inst.specs.Listing.{listed_unless, listed}
use Rattle.type_inst.proofs.ListLemmas.{fold_joined, Has, has_left, has_right, has_split, has_flat, from_flat, flat_same, each_passes, all_pass, has_of_among, joined, with_new_other, joined_none, joined_kept, joined_has, joined_split}

module _ (program : Program) where
  abbrev bases : TExpr → List TExpr
  bases t = option_to_list (base_of program t)

  abbrev own : TExpr → List TExpr
  own t = own_interfaces_of program t

  -- whether each way up from a type ends within so many levels
  abbrev pub tends : ℕ → TExpr → Bool
  tends zero t = false
  tends (suc n) t = list_all (λ u. tends n u) (bases t ++ own t)

  tends_base : (n : ℕ) (t u : TExpr) → tends (suc n) t ≡ true → Has (bases t) u → tends n u ≡ true
  tends_base n t u ends h = each_passes (λ v. tends n v) (bases t ++ own t) ends u (has_left (bases t) (own t) u h)

  tends_own : (n : ℕ) (t u : TExpr) → tends (suc n) t ≡ true → Has (own t) u → tends n u ≡ true
  tends_own n t u ends h = each_passes (λ v. tends n v) (bases t ++ own t) ends u (has_right (bases t) (own t) u h)

  tends_more : (n m : ℕ) (t : TExpr) → n ≤ m → tends n t ≡ true → tends m t ≡ true
  tends_more zero m t le ends = cc
  tends_more (suc n) zero t le ends = absurd (omega (arith, le))
  tends_more (suc n) (suc m) t le ends =
      all_pass (λ v. tends m v) (bases t ++ own t)
      (λ u h. tends_more n m u (omega (arith, le)) (each_passes (λ v. tends n v) (bases t ++ own t) ends u h))

  abbrev met : ℕ → TExpr → List TExpr
  met n t = interfaces_met program n t

  -- more levels find no more
  met_same : (n m : ℕ) (t : TExpr) → n ≤ m → tends n t ≡ true → met m t ≡ met n t
  met_same zero m t le ends = cc
  met_same (suc n) zero t le ends = absurd (omega (arith, le))
  met_same (suc n) (suc m) t le ends =
      let less : n ≤ m = omega (arith, le) in
      ap (λ xs. xs ++ flat_map (λ i. i ∷ met m i) (own t))
      (flat_same (λ b. met m b) (λ b. met n b) (bases t) (λ u h. met_same n m u less (tends_base n t u ends h)))
      ∙ ap (λ xs. flat_map (λ b. met n b) (bases t) ++ xs)
      (flat_same (λ i. i ∷ met m i) (λ i. i ∷ met n i) (own t) (λ u h. ap (λ xs. u ∷ xs) (met_same n m u less (tends_own n t u ends h))))

  abbrev Nearer : ℕ → Type 0
  Nearer m = (n : ℕ) (t x : TExpr) → tends (suc n) t ≡ true → Has (met m t) x → tends n x ≡ true

  not_further : (m n : ℕ) (u x : TExpr) → Nearer m → tends n u ≡ true → Has (met m u) x → tends n x ≡ true
  not_further m zero u x nearer ends h = cc
  not_further m (suc n) u x nearer ends h = tends_more n (suc n) x (omega arith) (nearer n u x ends h)

  -- what is met is nearer to an end
  reached : (m : ℕ) → Nearer m
  reached zero n t x ends h = absurd h
  reached (suc m) n t x ends h =
      elim (has_split (flat_map (λ b. met m b) (bases t)) (flat_map (λ i. i ∷ met m i) (own t)) x h) [
        | inl base ↦ from_flat (λ b. met m b) (tends n x ≡ true) (bases t) x base (λ u is in_u. not_further m n u x (reached m) (tends_base n t u ends is) in_u)
        | inr each ↦ from_flat (λ i. i ∷ met m i) (tends n x ≡ true) (own t) x each (λ u is in_u. elim in_u [ inl e ↦ subst (λ v. tends n v ≡ true) e (tends_own n t u ends is) | inr r ↦ not_further m n u x (reached m) (tends_own n t u ends is) r ])
      ]

  -- what is met from a type that is met is met
  through : (m : ℕ) (t x y : TExpr) → tends m t ≡ true → Has (met m t) x → Has (met m x) y → Has (met m t) y
  through zero t x y ends h g = absurd h
  through (suc m) t x y ends h g =
      let whole : List TExpr = flat_map (λ b. met m b) (bases t) ++ flat_map (λ i. i ∷ met m i) (own t) in
      let shorter : tends m x ≡ true → Has (met m x) y = λ near. subst (λ xs. Has xs y) (met_same m (suc m) x (omega arith) near) g in
      let inside : (u : TExpr) → tends m u ≡ true → Has (met m u) x → Has (met m u) y =
      λ u near in_u. through m u x y near in_u (shorter (not_further m m u x (reached m) near in_u)) in
      elim (has_split (flat_map (λ b. met m b) (bases t)) (flat_map (λ i. i ∷ met m i) (own t)) x h) [
        | inl base ↦ from_flat (λ b. met m b) (Has whole y) (bases t) x base (λ u is in_u. has_left (flat_map (λ b. met m b) (bases t)) (flat_map (λ i. i ∷ met m i) (own t)) y (has_flat (λ b. met m b) (bases t) u y is (inside u (tends_base m t u ends is) in_u)))
        | inr each ↦ from_flat (λ i. i ∷ met m i) (Has whole y) (own t) x each (λ u is in_u. has_right (flat_map (λ b. met m b) (bases t)) (flat_map (λ i. i ∷ met m i) (own t)) y (has_flat (λ i. i ∷ met m i) (own t) u y is (inr (elim in_u [ inl e ↦ subst (λ v. Has (met m v) y) (sym e) (shorter (subst (λ v. tends m v ≡ true) e (tends_own m t u ends is))) | inr r ↦ inside u (tends_own m t u ends is) r ]))))
      ]

  -- with each of its types that ends so soon, the list has all that is met from it
  pub record Closed (k : ℕ) (all : List TExpr) : Type 0 where
    pub each : (x : TExpr) → Has all x → tends k x ≡ true → (y : TExpr) → Has (met k x) y → Has all y

  closed_less : (j k : ℕ) (all : List TExpr) → j ≤ k → Closed k all → Closed j all
  closed_less j k all le closed = record {
    each = λ x h ends y g. closed.each x h (tends_more j k x le ends) y (subst (λ xs. Has xs y) (sym (met_same j k x le ends)) g);
  }

  closed_base : (k : ℕ) (all : List TExpr) (b : TExpr) → tends k b ≡ true → Closed k all → Closed k (joined all (met k b))
  closed_base k all b ends closed = record {
    each = λ x h near y g. elim (joined_split all (met k b) x h) [
      | inl old ↦ joined_kept all (met k b) y (closed.each x old near y g)
      | inr new ↦ joined_has all (met k b) y (through k b x y ends new g)
    ];
  }

  closed_own : (k : ℕ) (all : List TExpr) (i : TExpr) → tends k i ≡ true → Closed k all → Closed k (joined all (i ∷ met k i))
  closed_own k all i ends closed = record {
    each = λ x h near y g. elim (joined_split all (i ∷ met k i) x h) [
      | inl old ↦ joined_kept all (i ∷ met k i) y (closed.each x old near y g)
      | inr new ↦ joined_has all (i ∷ met k i) y (inr (elim new [ inl e ↦ subst (λ v. Has (met k v) y) (sym e) g | inr r ↦ through k i x y ends r g ]))
    ];
  }

  -- a type ends at some level and not before
  pub record Rank (k : ℕ) (t : TExpr) : Type 0 where
    pub level : ℕ
    pub below : level < k
    pub ends : tends (suc level) t ≡ true
    pub first : tends level t ≡ false

  rank_if : (k : ℕ) (t : TExpr) (b : Bool) → tends k t ≡ b → tends (suc k) t ≡ true → (tends k t ≡ true → Rank k t) → Rank (suc k) t
  rank_if k t true e ends go = let r = go e in record { level = r.level; below = omega (arith, r.below); ends = r.ends; first = r.first }
  rank_if k t false e ends go = record { level = k; below = omega arith; ends = ends; first = e }

  rank : (k : ℕ) (t : TExpr) → tends k t ≡ true → Rank k t
  rank zero t ends = cc
  rank (suc k) t ends = rank_if k t (tends k t) refl ends (rank k t)

  closed_before : (k j : ℕ) (all : List TExpr) (i : TExpr) → j ≤ k → tends j i ≡ false → Closed k all → Closed j (all ++ i ∷ [])
  closed_before k j all i le first closed =
      let less = closed_less j k all le closed in
      record {
        each = λ x h near y g. elim (has_split all (i ∷ []) x h) [
          | inl old ↦ has_left all (i ∷ []) y (less.each x old near y g)
          | inr new ↦ elim new [ inl e ↦ (let no_end : tends j x ≡ false = subst (λ v. tends j v ≡ false) e first in cc) | inr none ↦ absurd none ]
        ];
      }

  -- a walk over types, each of which lists what it should and keeps what is known, lists what all should
  chain : (P : List TExpr → Type 0) (f : List TExpr → TExpr → List TExpr) (g : TExpr → List TExpr) (xs : List TExpr) →
      ((x : TExpr) → Has xs x → (all : List TExpr) → P all → (f all x ≡ joined all (g x)) × P (joined all (g x))) →
      (all : List TExpr) → P all → (fold f all xs ≡ joined all (flat_map g xs)) × P (joined all (flat_map g xs))
  chain P f g [] each all p = (refl, p)
  chain P f g (x ∷ xs) each all p =
      let here = each x (inl refl) all p in
      let rest = chain P f g xs (λ y h. each y (inr h)) (joined all (g x)) here.1 in
      let whole : joined all (g x ++ flat_map g xs) ≡ joined (joined all (g x)) (flat_map g xs) = fold_joined with_new all (g x) (flat_map g xs) in
      (ap (λ now. fold f now xs) here.0 ∙ rest.0 ∙ sym whole, subst P (sym whole) rest.1)

  abbrev Lists : ℕ → ℕ → Type 0
  Lists k levels = (t : TExpr) (all : List TExpr) → tends (suc k) t ≡ true → Closed k all → listed program levels all t ≡ joined all (met levels t)

  one_base : (k levels : ℕ) (u : TExpr) (all : List TExpr) → k ≤ levels → ((j : ℕ) → j < k → Lists j levels) → tends k u ≡ true → Closed k all →
      (listed program levels all u ≡ joined all (met levels u)) × Closed k (joined all (met levels u))
  one_base zero levels u all le lists ends closed = cc
  one_base (suc k) levels u all le lists ends closed = (
    lists k (omega arith) u all ends (closed_less k (suc k) all (omega arith) closed),
    subst (λ xs. Closed (suc k) (joined all xs)) (sym (met_same (suc k) levels u le ends)) (closed_base (suc k) all u ends closed),
  )

  one_own_if : (k levels : ℕ) (u : TExpr) (all : List TExpr) (b : Bool) → is_among all u ≡ b → k ≤ levels → ((j : ℕ) → j < k → Lists j levels) →
      tends k u ≡ true → Closed k all → listed_unless (listed program levels) all u ≡ joined all (u ∷ met levels u)
  one_own_if k levels u all true e le lists ends closed =
      ap (λ b. cond b all (listed program levels (all ++ u ∷ []) u)) e
      ∙ sym (joined_none all (u ∷ met levels u)
      (λ y h. elim h [ inl same ↦ subst (Has all) same (has_of_among all u e) | inr r ↦ closed.each u (has_of_among all u e) ends y (subst (λ xs. Has xs y) (met_same k levels u le ends) r) ]))
  one_own_if k levels u all false e le lists ends closed =
      let r = rank k u ends in
      let near : r.level ≤ k = omega (arith, r.below) in
      ap (λ b. cond b all (listed program levels (all ++ u ∷ []) u)) e
      ∙ lists r.level r.below u (all ++ u ∷ []) r.ends (closed_before k r.level all u near r.first closed)
      ∙ ap (λ now. joined now (met levels u)) (sym (with_new_other all u e))

  one_own : (k levels : ℕ) (u : TExpr) (all : List TExpr) → k ≤ levels → ((j : ℕ) → j < k → Lists j levels) → tends k u ≡ true → Closed k all →
      (listed_unless (listed program levels) all u ≡ joined all (u ∷ met levels u)) × Closed k (joined all (u ∷ met levels u))
  one_own k levels u all le lists ends closed = (
    one_own_if k levels u all (is_among all u) refl le lists ends closed,
    subst (λ xs. Closed k (joined all (u ∷ xs))) (sym (met_same k levels u le ends)) (closed_own k all u ends closed),
  )

  lists_all : (levels k : ℕ) → k < levels → Lists k levels
  lists_all zero k le t all ends closed = absurd (omega (arith, le))
  lists_all (suc levels) k le t all ends closed =
      let near : k ≤ levels = omega (arith, le) in
      let lower : (j : ℕ) → j < k → Lists j levels = λ j less. lists_all levels j (omega (arith, le, less)) in
      let up = chain (Closed k) (λ now base. listed program levels now base) (λ b. met levels b) (bases t)
      (λ u h now p. one_base k levels u now near lower (tends_base k t u ends h) p) all closed in
      let across = chain (Closed k) (listed_unless (listed program levels)) (λ i. i ∷ met levels i) (own t)
      (λ u h now p. one_own k levels u now near lower (tends_own k t u ends h) p) (joined all (flat_map (λ b. met levels b) (bases t))) up.1 in
      ap (λ now. fold (listed_unless (listed program levels)) now (own t)) up.0
      ∙ across.0
      ∙ sym (fold_joined with_new all (flat_map (λ b. met levels b) (bases t)) (flat_map (λ i. i ∷ met levels i) (own t)))

  pub listed_is : (levels : ℕ) (t : TExpr) → tends levels t ≡ true → listed program levels [] t ≡ without_repeats (interfaces_met program levels t)
  listed_is zero t ends = cc
  listed_is (suc levels) t ends = lists_all (suc levels) levels (omega arith) t [] ends (record { each = λ x h near y g. absurd h })
