-- The labels of a canonical body: each place that is named has its own, and no two are alike.
use Rattle.std.proofs.Common.{◌≡◌, ℕ, zero, suc, ◌+◌, ◌<◌, ◌≤◌, ◌^◌, ◌==◌, Bool, true, false, if◌then◌else◌, List, [], ◌∷◌, ◌++◌, length, map, Some, refl, sym, ap, ◌∙◌, subst, decimal, arith, Contains, slice_get, unwrap_or, bytes_eq, inl, inr, position}
use Rattle.std.specs.List.{AllByRecursion, list_any, IsDistinct}
use Rattle.std.proofs.lemmas.Bool.{true≢false, cases_Bool, or_left, or_right, eqb-true, eq-eqb, false_from_ne_true}
use Rattle.std.proofs.lemmas.Slice.Eq.{bytes_eq-Decides}
use Rattle.il_text.specs.Spelling.{digits_value}
use Rattle.il_model.specs.Canonical.{Printing, label_text, passing}
use Rattle.il_print.proofs.NumberTokens.{decimal_value}
use Rattle.il_print.proofs.MarkLemmas.{position_of_some, within}
use Rattle.il_print.proofs.AgainScopes.{first_passes}
use Rattle.il_print.proofs.AgainLines.{mark_if, mark_at, marks_from}

-- ---- places that are named

-- so many numbers that pass the test have among them each that does
pub passing_has : (test : ℕ → Bool) (count from at : ℕ) → from ≤ at → at < from + count → test at ≡ true → list_any (λ to. to == at) (passing test count from) ≡ true
passing_has test zero from at low high e = absurd (omega (arith, low, high))
passing_has test (suc count) from at low high e =
    elim (cases_Bool (from == at)) [
      | inl here ↦ has_first from (passing test count (from + 1)) at (test from) (ap test (eqb-true from at here) ∙ e) here
      | inr later ↦
          has_rest from (passing test count (from + 1)) at (test from)
          (passing_has test count (from + 1) at (omega (arith, low, not_same from at later)) (omega (arith, high)) e)
    ] where
      has_first : (n : ℕ) (ns : List ℕ) (at : ℕ) (b : Bool) → b ≡ true → (n == at) ≡ true → list_any (λ to. to == at) (if b then n ∷ ns else ns) ≡ true
      has_first n ns at true e same = or_left (n == at) (list_any (λ to. to == at) ns) same
      has_first n ns at false e same = absurd (true≢false (sym e))

      has_rest : (n : ℕ) (ns : List ℕ) (at : ℕ) (b : Bool) → list_any (λ to. to == at) ns ≡ true → list_any (λ to. to == at) (if b then n ∷ ns else ns) ≡ true
      has_rest n ns at true e = or_right (n == at) (list_any (λ to. to == at) ns) e
      has_rest n ns at false e = e

      not_same : (a b : ℕ) → (a == b) ≡ false → ¬ (a ≡ b)
      not_same a b e same = true≢false (sym (eq-eqb a b same) ∙ e)

-- what holds of each number of a list by a test
pub each_number : (Q : ℕ → Type 0) (ns : List ℕ) → ((n : ℕ) → list_any (λ to. to == n) ns ≡ true → Q n) → AllByRecursion Q ns
each_number Q [] f = tt
each_number Q (n ∷ ns) f =
    (f n (or_left (n == n) (list_any (λ to. to == n) ns) (eq-eqb n n refl)), each_number Q ns (λ m e. f m (or_right (n == m) (list_any (λ to. to == m) ns) e)))

pub each_item : {X : Type 0} (Q : ℕ → Type 0) (numbers : X → List ℕ) (xs : List X) → ((n : ℕ) → list_any (λ x. list_any (λ to. to == n) (numbers x)) xs ≡ true → Q n) →
    AllByRecursion (λ x. AllByRecursion Q (numbers x)) xs
each_item Q numbers [] f = tt
each_item Q numbers (x ∷ xs) f = (
  each_number Q (numbers x) (λ n e. f n (or_left (list_any (λ to. to == n) (numbers x)) (list_any (λ y. list_any (λ to. to == n) (numbers y)) xs) e)),
  each_item Q numbers xs (λ n e. f n (or_right (list_any (λ to. to == n) (numbers x)) (list_any (λ y. list_any (λ to. to == n) (numbers y)) xs) e)),
)

-- ---- each such place has its label

contains_front : {X : Type 0} (xs ys : List X) (x : X) → Contains xs x → Contains (xs ++ ys) x
contains_front [] ys x (k, inside, is) = absurd (omega (arith, inside))
contains_front (z ∷ zs) ys x (zero, inside, is) = (0, omega arith, is)
contains_front (z ∷ zs) ys x (suc k, inside, is) =
    let r = contains_front zs ys x (k, omega (arith, inside), is) in
    (suc r.0, omega (arith, r.1), r.2)

contains_back : {X : Type 0} (xs ys : List X) (x : X) → Contains ys x → Contains (xs ++ ys) x
contains_back [] ys x c = c
contains_back (z ∷ zs) ys x c = let r = contains_back zs ys x c in (suc r.0, omega (arith, r.1), r.2)

mark_here : (p : Printing) (at : ℕ) → list_any (λ to. to == at) p.places ≡ true → Contains (mark_at p at) (label_text p.places at, at)
mark_here p at has = subst (λ b. Contains (mark_if p at b) (label_text p.places at, at)) (sym has) (0, omega arith, refl)

pub marks_have : {A : Type 0} (p : Printing) (xs : List A) (from to : ℕ) → from ≤ to → to ≤ from + length xs → list_any (λ n. n == to) p.places ≡ true →
    Contains (marks_from p from xs) (label_text p.places to, to)
marks_have p [] from to low high has =
    let same : to ≡ from = omega (arith, low, high) in
    subst (λ n. Contains (mark_at p n) (label_text p.places to, to)) same (mark_here p to has)
marks_have p (x ∷ xs) from to low high has =
    elim (cases_Bool (from == to)) [
      | inl here ↦ subst (λ n. Contains (mark_at p n ++ marks_from p (from + 1) xs) (label_text p.places to, to)) (sym (eqb-true from to here))
          (contains_front (mark_at p to) (marks_from p (from + 1) xs) (label_text p.places to, to) (mark_here p to has))
      | inr later ↦
          let other : ¬ (from ≡ to) = λ same. true≢false (sym (eq-eqb from to same) ∙ later) in
          contains_back (mark_at p from) (marks_from p (from + 1) xs) (label_text p.places to, to)
          (marks_have p xs (from + 1) to (omega (arith, low, other)) (omega (arith, high)) has)
    ]

-- ---- no two labels are alike

-- a label, before a place that is at or behind this one
record IsMark (p : Printing) (from : ℕ) (m : List ℕ × ℕ) : Type 0 where
  above : from ≤ m.1
  name : m.0 ≡ label_text p.places m.1
  has : list_any (λ to. to == m.1) p.places ≡ true

mark_is : (p : Printing) (at : ℕ) (b : Bool) → list_any (λ to. to == at) p.places ≡ b → AllByRecursion (IsMark p at) (mark_if p at b)
mark_is p at true e = (record { above = omega arith; name = refl; has = e }, tt)
mark_is p at false e = tt

marks_later : (p : Printing) (at : ℕ) (ms : List (List ℕ × ℕ)) → AllByRecursion (IsMark p (at + 1)) ms → AllByRecursion (IsMark p at) ms
marks_later p at [] all = tt
marks_later p at (m ∷ ms) all = (record { above = omega (arith, all.0.above); name = all.0.name; has = all.0.has }, marks_later p at ms all.1)

all_joined : {X : Type 0} (P : X → Type 0) (xs ys : List X) → AllByRecursion P xs → AllByRecursion P ys → AllByRecursion P (xs ++ ys)
all_joined P [] ys a b = b
all_joined P (x ∷ xs) ys a b = (a.0, all_joined P xs ys a.1 b)

marks_are : {A : Type 0} (p : Printing) (xs : List A) (from : ℕ) → AllByRecursion (IsMark p from) (marks_from p from xs)
marks_are p [] from = mark_is p from (list_any (λ to. to == from) p.places) refl
marks_are p (x ∷ xs) from =
    all_joined (IsMark p from) (mark_at p from) (marks_from p (from + 1) xs) (mark_is p from (list_any (λ to. to == from) p.places) refl)
    (marks_later p from (marks_from p (from + 1) xs) (marks_are p xs (from + 1)))

-- the number of a place gives the place
rank_gives : (places : List ℕ) (at : ℕ) → list_any (λ to. to == at) places ≡ true → slice_get places (unwrap_or (position (λ to. to == at) places) 0) ≡ Some at
rank_gives places at has =
    let r = first_passes (λ to. to == at) places (within (λ to. to == at) places has) in
    ap (slice_get places) (position_of_some (λ to. to == at) places has) ∙ r.is ∙ ap Some (eqb-true r.item at r.passes)

rank_low : (places : List ℕ) (at : ℕ) → list_any (λ to. to == at) places ≡ true → length places < 2 ^ 64 → unwrap_or (position (λ to. to == at) places) 0 < 2 ^ 64
rank_low places at has few = omega (arith, few, position_of_some (λ to. to == at) places has, within (λ to. to == at) places has)

digits_of_label : List ℕ → List ℕ
digits_of_label [] = []
digits_of_label (b ∷ bs) = bs

-- labels that are alike stand before one place
label_place : (places : List ℕ) (a b : ℕ) → length places < 2 ^ 64 → list_any (λ to. to == a) places ≡ true → list_any (λ to. to == b) places ≡ true →
    label_text places a ≡ label_text places b → a ≡ b
unfolding digits_of_label
label_place places a b few has_a has_b e =
    let rank_a = unwrap_or (position (λ to. to == a) places) 0 in
    let rank_b = unwrap_or (position (λ to. to == b) places) 0 in
    let digits : decimal rank_a ≡ decimal rank_b = ap digits_of_label e in
    let same : rank_a ≡ rank_b =
    sym (decimal_value rank_a (rank_low places a has_a few)) ∙ ap (digits_value 10) digits ∙ decimal_value rank_b (rank_low places b has_b few)
    in
    let item : Some a ≡ Some b = sym (rank_gives places a has_a) ∙ ap (slice_get places) same ∙ rank_gives places b has_b in
    ap (λ o. unwrap_or o a) item

apart_from : (p : Printing) (at : ℕ) (ms : List (List ℕ × ℕ)) → length p.places < 2 ^ 64 → list_any (λ to. to == at) p.places ≡ true →
    AllByRecursion (IsMark p (at + 1)) ms → AllByRecursion (λ name. bytes_eq (label_text p.places at) name ≡ false) (map (λ m. m.0) ms)
apart_from p at [] few has all = tt
apart_from p at (m ∷ ms) few has all = (
  false_from_ne_true (bytes_eq (label_text p.places at) m.0) (λ hit.
      let alike : label_text p.places at ≡ label_text p.places m.1 = (bytes_eq-Decides (label_text p.places at) m.0).0 hit ∙ all.0.name in
      omega (arith, label_place p.places at m.1 few has all.0.has alike, all.0.above)),
  apart_from p at ms few has all.1,
)

distinct_with : (p : Printing) (at : ℕ) (b : Bool) (ms : List (List ℕ × ℕ)) → list_any (λ to. to == at) p.places ≡ b → length p.places < 2 ^ 64 →
    AllByRecursion (IsMark p (at + 1)) ms → IsDistinct bytes_eq (map (λ m. m.0) ms) → IsDistinct bytes_eq (map (λ m. m.0) (mark_if p at b ++ ms))
unfolding IsDistinct
distinct_with p at true ms has few all distinct = (apart_from p at ms few has all, distinct)
distinct_with p at false ms has few all distinct = distinct

distinct_one : (p : Printing) (at : ℕ) (b : Bool) → IsDistinct bytes_eq (map (λ m. m.0) (mark_if p at b))
unfolding IsDistinct
distinct_one p at true = (tt, tt)
distinct_one p at false = tt

pub marks_distinct : {A : Type 0} (p : Printing) (xs : List A) (from : ℕ) → length p.places < 2 ^ 64 → IsDistinct bytes_eq (map (λ m. m.0) (marks_from p from xs))
marks_distinct p [] from few = distinct_one p from (list_any (λ to. to == from) p.places)
marks_distinct p (x ∷ xs) from few =
    distinct_with p from (list_any (λ to. to == from) p.places) (marks_from p (from + 1) xs) refl few (marks_are p xs (from + 1)) (marks_distinct p xs (from + 1) few)
