-- Facts on each item of a list, through the functions of lists.
use Rattle.std.proofs.Common.{◌≡◌, ℕ, zero, suc, ◌<◌, Bool, true, false, cond, ◌&&◌, List, [], ◌∷◌, ◌++◌, length, map, flat_map, fold, find, take, position, nat_lt, slice_get, slice_set, Option, Some, refl, ap, ◌∙◌, subst, arith, ltb-true}
use Rattle.std.specs.List.{list_all, position_or_len, AllByRecursion}
use Rattle.std.proofs.lemmas.Option.{cond_some}
use Rattle.std.proofs.lemmas.List.Elements.{All-from_recursion, recursion_from_All, All-set}

module _ {X : Type 0} (P : X → Type 0) where
  pub join_all : (xs ys : List X) → AllByRecursion P xs → AllByRecursion P ys → AllByRecursion P (xs ++ ys)
  join_all [] ys a b = b
  join_all (x ∷ xs) ys a b = (a.0, join_all xs ys a.1 b)

  pub front_all : (xs ys : List X) → AllByRecursion P (xs ++ ys) → AllByRecursion P xs
  front_all [] ys a = tt
  front_all (x ∷ xs) ys a = (a.0, front_all xs ys a.1)

  pub back_all : (xs ys : List X) → AllByRecursion P (xs ++ ys) → AllByRecursion P ys
  back_all [] ys a = a
  back_all (x ∷ xs) ys a = back_all xs ys a.1

  pub item_holds : (xs : List X) (k : ℕ) (x : X) → AllByRecursion P xs → slice_get xs k ≡ Some x → P x
  item_holds [] k x all is = cc
  item_holds (y ∷ xs) zero x all is = let same : y ≡ x = cc in subst P same all.0
  item_holds (y ∷ xs) (suc k) x all is = item_holds xs k x all.1 is

  pub set_all : (xs : List X) (k : ℕ) (x : X) → AllByRecursion P xs → P x → AllByRecursion P (slice_set xs k x)
  set_all xs k x all p = recursion_from_All P (slice_set xs k x) (All-set P xs k x p (All-from_recursion P xs all))

  find_step : (test : X → Bool) (y x : X) (rest : Option X) (b : Bool) → test y ≡ b → cond b (Some y) rest ≡ Some x → P y
      → (rest ≡ Some x → P x × (test x ≡ true)) → P x × (test x ≡ true)
  find_step test y x rest true is e p later = let same : y ≡ x = cc in (subst P same p, subst (λ z. test z ≡ true) same is)
  find_step test y x rest false is e p later = later e

  -- what is found is one of the list and passes
  pub found_holds : (test : X → Bool) (xs : List X) (x : X) → AllByRecursion P xs → find test xs ≡ Some x → P x × (test x ≡ true)
  found_holds test [] x all e = cc
  found_holds test (y ∷ xs) x all e = find_step test y x (find test xs) (test y) refl e all.0 (λ d. found_holds test xs x all.1 d)

  pub fold_keeps : {A : Type 0} (Q : A → Type 0) (f : A → X → A) → ((a : A) (x : X) → Q a → P x → Q (f a x)) → (xs : List X) (a : A) → AllByRecursion P xs → Q a → Q (fold f a xs)
  fold_keeps Q f step [] a all q = q
  fold_keeps Q f step (x ∷ xs) a all q = fold_keeps Q f step xs (f a x) all.1 (step a x q all.0)

module _ {X : Type 0} (P Q : X → Type 0) where
  pub all_weaker : ((x : X) → P x → Q x) → (xs : List X) → AllByRecursion P xs → AllByRecursion Q xs
  all_weaker f [] all = tt
  all_weaker f (x ∷ xs) all = (f x all.0, all_weaker f xs all.1)

  pub all_both : (R : X → Type 0) → ((x : X) → P x → Q x → R x) → (xs : List X) → AllByRecursion P xs → AllByRecursion Q xs → AllByRecursion R xs
  all_both R f [] a b = tt
  all_both R f (x ∷ xs) a b = (f x a.0 b.0, all_both R f xs a.1 b.1)

  pub all_follows : (xs : List X) → AllByRecursion (λ x. P x → Q x) xs → AllByRecursion P xs → AllByRecursion Q xs
  all_follows [] f all = tt
  all_follows (x ∷ xs) f all = (f.0 all.0, all_follows xs f.1 all.1)

module _ {X Y : Type 0} (Q : Y → Type 0) where
  pub map_all : (f : X → Y) (xs : List X) → AllByRecursion (λ x. Q (f x)) xs → AllByRecursion Q (map f xs)
  map_all f [] all = tt
  map_all f (x ∷ xs) all = (all.0, map_all f xs all.1)

  pub flat_all : (f : X → List Y) (xs : List X) → AllByRecursion (λ x. AllByRecursion Q (f x)) xs → AllByRecursion Q (flat_map f xs)
  flat_all f [] all = tt
  flat_all f (x ∷ xs) all = join_all Q (f x) (flat_map f xs) all.0 (flat_all f xs all.1)

  pub parts_all : (f : X → List Y) (xs : List X) → AllByRecursion Q (flat_map f xs) → AllByRecursion (λ x. AllByRecursion Q (f x)) xs
  parts_all f [] all = tt
  parts_all f (x ∷ xs) all = (front_all Q (f x) (flat_map f xs) all, parts_all f xs (back_all Q (f x) (flat_map f xs) all))

pub both_of : (a b : Bool) → (a && b) ≡ true → (a ≡ true) × (b ≡ true)
both_of true b h = (refl, h)
both_of false b h = cc

module _ {X : Type 0} (test : X → Bool) where
  pub all_of_test : (xs : List X) → list_all test xs ≡ true → AllByRecursion (λ x. test x ≡ true) xs
  all_of_test [] h = tt
  all_of_test (x ∷ xs) h = let p : (test x ≡ true) × (list_all test xs ≡ true) = both_of (test x) (list_all test xs) h in (p.0, all_of_test xs p.1)

  pub test_of_all : (xs : List X) → AllByRecursion (λ x. test x ≡ true) xs → list_all test xs ≡ true
  test_of_all [] all = refl
  test_of_all (x ∷ xs) all = ap (λ b. b && list_all test xs) all.0 ∙ test_of_all xs all.1

-- an item stands at this place
pub record IsItem {A : Type 0} (xs : List A) (k : ℕ) : Type 0 where
  pub item : A
  pub is : slice_get xs k ≡ Some item

pub item_at : {A : Type 0} (xs : List A) (k : ℕ) → k < length xs → IsItem xs k
item_at [] k low = absurd (omega (arith, low))
item_at (x ∷ xs) zero low = record { item = x; is = refl }
item_at (x ∷ xs) (suc k) low = let h = item_at xs k (let l : suc k < suc (length xs) = low in omega arith) in record { item = h.item; is = h.is }

-- so it does at the place that is found
pub placed : {X : Type 0} (test : X → Bool) (xs : List X) (place : ℕ) → position test xs ≡ Some place → IsItem xs place
placed test xs place e =
    let p : (nat_lt (position_or_len test xs) (length xs) ≡ true) × (position_or_len test xs ≡ place) = cond_some (nat_lt (position_or_len test xs) (length xs)) (position_or_len test xs) place e in
    item_at xs place (subst (λ k. k < length xs) p.1 (ltb-true (position_or_len test xs) (length xs) p.0))

pub get_of_take : {X : Type 0} (n : ℕ) (xs : List X) (k : ℕ) (x : X) → slice_get (take n xs) k ≡ Some x → slice_get xs k ≡ Some x
get_of_take zero xs k x e = cc
get_of_take (suc n) [] k x e = cc
get_of_take (suc n) (y ∷ xs) zero x e = e
get_of_take (suc n) (y ∷ xs) (suc k) x e = get_of_take n xs k x e
