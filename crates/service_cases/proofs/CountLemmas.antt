-- What is tested of each body and of each method is what services ask of an image.
use Rattle.std.proofs.Common.{◌≡◌, ℕ, zero, suc, ◌+◌, ◌≤◌, ◌==◌, nat_le, Bool, true, false, if◌then◌else◌, List, [], ◌∷◌, length, slice_get, Option, Some, refl, sym, subst, arith}
use Rattle.std.specs.List.{list_all}
use Rattle.std.proofs.lemmas.Bool.{and_parts}
use Rattle.std.proofs.lemmas.Bool.Decides.{nat_tests}
use Rattle.il_model.specs.declared.key.BodyRow.{BodyRow}
use Rattle.il_model.specs.declared.method.MethodDef.{MethodDef}
use Rattle.il_model.specs.Find.{takes_object}
use Rattle.crossings.specs.Calls.{IsBodyFrame}
use Rattle.rgctx_fill.specs.declared.image.FrameCount.{FrameCount}
use Rattle.rgctx_fill.specs.CallServices.{count_in}
use Rattle.rgctx_fill.specs.Serving.{IsCounted}
use Rattle.service_cases.specs.Served.{has_frame, has_few, are_four}

all_at : {A : Type 0} (test : A → Bool) (xs : List A) (k : ℕ) (y : A) → list_all test xs ≡ true → slice_get xs k ≡ Some y → test y ≡ true
all_at test [] k y all is = absurd (cc is)
all_at test (z ∷ zs) zero y all is = let q : z ≡ y = cc is in subst (λ w. test w ≡ true) q (and_parts (test z) (list_all test zs) all).0
all_at test (z ∷ zs) (suc k) y all is = all_at test zs k y (and_parts (test z) (list_all test zs) all).1 is

pub framed : (rows : List BodyRow) → list_all has_frame rows ≡ true → (number : ℕ) (row : BodyRow) → slice_get rows number ≡ Some row → IsBodyFrame row.frame
framed rows all number row is =
    let tests : has_frame row ≡ true = all_at has_frame rows number row all is in
    let low : nat_le 8 row.frame ≡ true = (and_parts (nat_le 8 row.frame) (nat_le row.frame 2064) tests).0 in
    let high : nat_le row.frame 2064 ≡ true = (and_parts (nat_le 8 row.frame) (nat_le row.frame 2064) tests).1 in
    record { low = grind (arith, nat_tests); high = grind (arith, nat_tests) }

counted : (m : MethodDef) (c : FrameCount) → has_few m ≡ true → are_four c ≡ true → IsCounted m c
counted m c few four =
    let places : (c.places == 4) ≡ true = (and_parts (c.places == 4) (c.list == 4) four).0 in
    let list : (c.list == 4) ≡ true = (and_parts (c.places == 4) (c.list == 4) four).1 in
    let most : length m.params ≤ 3 = grind (arith, nat_tests) in
    let are : c.places ≡ 4 = grind (arith, nat_tests) in
    let listed : c.list ≡ 4 = grind (arith, nat_tests) in
    record { arguments = by_test are most (takes_object m.shape); places = omega (arith, are); list = omega (arith, listed) }
  where
    by_test : c.places ≡ 4 → length m.params ≤ 3 → (b : Bool) → (if b then 1 else 0) + length m.params ≤ c.places
    by_test are most true = omega (arith, are, most)
    by_test are most false = omega (arith, are, most)

-- a list that is as long has an element there
beside : {A B : Type 0} (xs : List A) (ys : List B) (k : ℕ) (x : A) → length ys ≡ length xs → slice_get xs k ≡ Some x → (y : B) × (slice_get ys k ≡ Some y)
beside [] ys k x same is = absurd (cc is)
beside (z ∷ zs) [] k x same is = absurd (omega (arith, same))
beside (z ∷ zs) (y ∷ ys) zero x same is = (y, refl)
beside (z ∷ zs) (y ∷ ys) (suc k) x same is = beside zs ys k x (omega (arith, same)) is

pub all_counted : (methods : List MethodDef) (frames : List FrameCount) → list_all has_few methods ≡ true → list_all are_four frames ≡ true → length frames ≡ length methods
    → (number : ℕ) (m : MethodDef) → slice_get methods number ≡ Some m → IsCounted m (count_in (slice_get frames number))
all_counted methods frames few four same number m is =
    let found = beside methods frames number m same is in
    subst (λ (c : Option FrameCount). IsCounted m (count_in c)) (sym found.1) (counted m found.0 (all_at has_few methods number m few is) (all_at are_four frames number found.0 four found.1))
