-- Items that are met one after another, each of which is none of those met before.
use Rattle.std.proofs.Common.{◌≡◌, Bool, true, false, ◌||◌, List, [], ◌∷◌, ◌++◌, map, refl, sym, ap, ◌∙◌}
use Rattle.std.specs.List.{AllByRecursion, IsDistinct, list_any}
use Rattle.std.proofs.lemmas.Bool.{or_parts, or_from}
use Rattle.il_parse.proofs.Finding.{all_map}

pub all_both : {X : Type 0} (P Q R : X → Type 0) → ((x : X) → P x → Q x → R x) → (xs : List X) → AllByRecursion P xs → AllByRecursion Q xs → AllByRecursion R xs
all_both P Q R f [] p q = tt
all_both P Q R f (x ∷ xs) p q = (f x p.0 q.0, all_both P Q R f xs p.1 q.1)

pub all_split : {X : Type 0} (P : X → Type 0) (xs ys : List X) → AllByRecursion P (xs ++ ys) → AllByRecursion P xs × AllByRecursion P ys
all_split P [] ys all = (tt, all)
all_split P (x ∷ xs) ys all = let r = all_split P xs ys all.1 in ((all.0, r.0), r.1)

or_swap : (a b c : Bool) → (a || (b || c)) ≡ (b || (a || c))
or_swap true true c = refl
or_swap true false c = refl
or_swap false b c = refl

-- whether an item is one of those met
abbrev pub is_met : {K : Type 0} → (K → K → Bool) → List K → K → Bool
is_met e met x = list_any (λ m. e m x) met

-- each is none of those met, and none of those before it
abbrev pub Fresh : {K : Type 0} → (K → K → Bool) → List K → List K → Type 0
Fresh e met [] = Unit {0}
Fresh e met (x ∷ xs) = (is_met e met x ≡ false) × Fresh e (x ∷ met) xs

module _ {K : Type 0} (e : K → K → Bool) where
  pub met-moved : (x : K) (xs met : List K) (y : K) → is_met e (x ∷ xs ++ met) y ≡ is_met e (xs ++ x ∷ met) y
  met-moved x [] met y = refl
  met-moved x (z ∷ zs) met y = or_swap (e x y) (e z y) (is_met e (zs ++ met) y) ∙ ap (λ b. e z y || b) (met-moved x zs met y)

  pub met-back : (x : K) (xs : List K) (y : K) → is_met e (xs ++ x ∷ []) y ≡ is_met e (x ∷ xs) y
  met-back x [] y = refl
  met-back x (z ∷ zs) y = ap (λ b. e z y || b) (met-back x zs y) ∙ or_swap (e z y) (e x y) (is_met e zs y)

  pub met-pushed : {X : Type 0} (f : X → K) (x : X) (xs : List X) (y : K) → is_met e (map f (xs ++ x ∷ [])) y ≡ is_met e (f x ∷ map f xs) y
  met-pushed f x [] y = refl
  met-pushed f x (z ∷ zs) y = ap (λ b. e (f z) y || b) (met-pushed f x zs y) ∙ or_swap (e (f z) y) (e (f x) y) (is_met e (map f zs) y)

  -- only what is met matters
  pub fresh-same : (a b : List K) → ((y : K) → is_met e a y ≡ is_met e b y) → (xs : List K) → Fresh e a xs → Fresh e b xs
  fresh-same a b same [] f = tt
  fresh-same a b same (x ∷ xs) f = (sym (same x) ∙ f.0, fresh-same (x ∷ a) (x ∷ b) (λ y. ap (λ r. e x y || r) (same y)) xs f.1)

  pub fresh_joined : (met xs ys : List K) → Fresh e met xs → Fresh e (xs ++ met) ys → Fresh e met (xs ++ ys)
  fresh_joined met [] ys a b = b
  fresh_joined met (x ∷ xs) ys a b = (a.0, fresh_joined (x ∷ met) xs ys a.1 (fresh-same (x ∷ xs ++ met) (xs ++ x ∷ met) (met-moved x xs met) ys b))

  pub fresh_split : (met xs ys : List K) → Fresh e met (xs ++ ys) → Fresh e met xs × Fresh e (xs ++ met) ys
  fresh_split met [] ys f = (tt, f)
  fresh_split met (x ∷ xs) ys f =
      let r = fresh_split (x ∷ met) xs ys f.1 in
      ((f.0, r.0), fresh-same (xs ++ x ∷ met) (x ∷ xs ++ met) (λ y. sym (met-moved x xs met y)) ys r.1)

  fresh_apart : (met xs : List K) → Fresh e met xs → AllByRecursion (λ y. is_met e met y ≡ false) xs
  fresh_apart met [] f = tt
  fresh_apart met (x ∷ xs) f =
      (f.0, all_map (λ y. is_met e (x ∷ met) y ≡ false) (λ y. is_met e met y ≡ false) (λ y m. (or_parts (e x y) (is_met e met y) m).1) xs (fresh_apart (x ∷ met) xs f.1))

  -- what is fresh differs from each other
  pub fresh_distinct : (met xs : List K) → Fresh e met xs → IsDistinct e xs
  unfolding IsDistinct
  fresh_distinct met [] f = tt
  fresh_distinct met (x ∷ xs) f = (
    all_map (λ y. is_met e (x ∷ met) y ≡ false) (λ y. e x y ≡ false) (λ y m. (or_parts (e x y) (is_met e met y) m).0) xs (fresh_apart (x ∷ met) xs f.1),
    fresh_distinct (x ∷ met) xs f.1,
  )

  pub distinct_apart : (met xs : List K) → AllByRecursion (λ y. is_met e met y ≡ false) xs → IsDistinct e xs → Fresh e met xs
  unfolding IsDistinct
  distinct_apart met [] apart d = tt
  distinct_apart met (x ∷ xs) apart d = (
    apart.0,
    distinct_apart (x ∷ met) xs
        (all_both (λ y. e x y ≡ false) (λ y. is_met e met y ≡ false) (λ y. is_met e (x ∷ met) y ≡ false) (λ y a b. or_from (e x y) (is_met e met y) a b) xs d.0 apart.1)
        d.1,
  )

  all_unmet : (xs : List K) → AllByRecursion (λ y. is_met e [] y ≡ false) xs
  all_unmet [] = tt
  all_unmet (x ∷ xs) = (refl, all_unmet xs)

  -- what differs from each other is fresh where nothing was met
  pub distinct_fresh : (xs : List K) → IsDistinct e xs → Fresh e [] xs
  distinct_fresh xs d = distinct_apart [] xs (all_unmet xs) d
