-- What is found in a list is in it.
use Rattle.std.proofs.Common.{◌≡◌, zero, suc, Bool, true, false, cond, List, [], ◌∷◌, Option, Some, None, refl, sym, ap, subst, ◌∙◌, arith, find, Contains, All, ◌++◌, option_map, is_some, inl, inr}
use Rattle.std.specs.Option.{unwrap_or}
use Rattle.std.specs.List.{AllByRecursion, list_any, list_all}
use Rattle.std.proofs.lemmas.Bool.{true≢false, cases_Bool, and_parts}

pub some_is : {A : Type 0} (x y : A) → Some x ≡ Some y → x ≡ y
some_is x y e = ap (λ o. unwrap_or o x) e

pub none_is : {A C : Type 0} (x : A) → (let o : Option A = None in o ≡ Some x) → C
none_is x e = absurd (true≢false (sym (ap is_some e)))

pub contains_later : {X : Type 0} (y : X) (xs : List X) (x : X) → Contains xs x → Contains (y ∷ xs) x
contains_later y xs x (k, inside, is) = (suc k, omega (arith, inside), is)

pub found_in : {X : Type 0} (test : X → Bool) (xs : List X) (x : X) → find test xs ≡ Some x → Contains xs x × (test x ≡ true)
found_in test [] x e = none_is x e
found_in test (y ∷ xs) x e =
    elim (cases_Bool (test y)) [
      | inl hit ↦
          let is : y ≡ x = some_is y x (ap (λ b. cond b (Some y) (find test xs)) (sym hit) ∙ e) in
          ((0, omega arith, is), subst (λ z. test z ≡ true) is hit)
      | inr miss ↦
          let later = found_in test xs x (ap (λ b. cond b (Some y) (find test xs)) (sym miss) ∙ e) in
          (contains_later y xs x later.0, later.1)
    ]

-- what holds of each item holds of the one that is found
pub found_holds : {X : Type 0} (P : X → Type 0) (test : X → Bool) (xs : List X) (x : X) → AllByRecursion P xs → find test xs ≡ Some x → P x
found_holds P test [] x all e = none_is x e
found_holds P test (y ∷ xs) x all e =
    elim (cases_Bool (test y)) [
      | inl hit ↦ subst P (some_is y x (ap (λ b. cond b (Some y) (find test xs)) (sym hit) ∙ e)) all.0
      | inr miss ↦ found_holds P test xs x all.1 (ap (λ b. cond b (Some y) (find test xs)) (sym miss) ∙ e)
    ]

-- the item behind a value that is made of what is found
pub record Made {X Y : Type 0} (f : X → Y) (o : Option X) (y : Y) : Type 0 where
  pub item : X
  pub found : o ≡ Some item
  pub gives : f item ≡ y

pub made : {X Y : Type 0} (f : X → Y) (o : Option X) (y : Y) → option_map f o ≡ Some y → Made f o y
made f None y e = none_is y e
made f (Some x) y e = record { item = x; found = refl; gives = some_is (f x) y e }

-- where nothing is found no item passes
pub none_found : {X : Type 0} (test : X → Bool) (xs : List X) → find test xs ≡ None → list_any test xs ≡ false
none_found test [] e = refl
none_found test (y ∷ xs) e =
    elim (cases_Bool (test y)) [
      | inl hit ↦ none_is y (sym e ∙ ap (λ b. cond b (Some y) (find test xs)) hit)
      | inr miss ↦ rw miss (none_found test xs (ap (λ b. cond b (Some y) (find test xs)) (sym miss) ∙ e))
    ]

pub unmade : {X Y : Type 0} (f : X → Y) (o : Option X) → option_map f o ≡ None → o ≡ None
unmade f None e = refl
unmade f (Some x) e = none_is (f x) (sym e)

-- a test that every item passes is passed by the one that is found
pub found_passes : {X : Type 0} (p : X → Bool) (test : X → Bool) (xs : List X) (x : X) → list_all p xs ≡ true → find test xs ≡ Some x → p x ≡ true
found_passes p test [] x all e = none_is x e
found_passes p test (y ∷ xs) x all e =
    let parts = and_parts (p y) (list_all p xs) all in
    elim (cases_Bool (test y)) [
      | inl hit ↦ subst (λ z. p z ≡ true) (some_is y x (ap (λ b. cond b (Some y) (find test xs)) (sym hit) ∙ e)) parts.0
      | inr miss ↦ found_passes p test xs x parts.1 (ap (λ b. cond b (Some y) (find test xs)) (sym miss) ∙ e)
    ]

pub all_of : {X : Type 0} (P : X → Type 0) (xs : List X) → AllByRecursion P xs → All P xs
all_of P [] all k d inside = absurd (omega (arith, inside))
all_of P (x ∷ xs) all zero d inside = all.0
all_of P (x ∷ xs) all (suc k) d inside = all_of P xs all.1 k d (omega (arith, inside))

pub all_contains : {X : Type 0} (P : X → Type 0) (xs : List X) (x : X) → AllByRecursion P xs → Contains xs x → P x
all_contains P xs x all (k, inside, is) = subst P is (all_of P xs all k x inside)

pub all_map : {X : Type 0} (P Q : X → Type 0) → ((x : X) → P x → Q x) → (xs : List X) → AllByRecursion P xs → AllByRecursion Q xs
all_map P Q f [] all = tt
all_map P Q f (x ∷ xs) all = (f x all.0, all_map P Q f xs all.1)

pub all-append : {X : Type 0} (P : X → Type 0) (xs ys : List X) → AllByRecursion P xs → AllByRecursion P ys → AllByRecursion P (xs ++ ys)
all-append P [] ys a b = b
all-append P (x ∷ xs) ys a b = (a.0, all-append P xs ys a.1 b)
