-- Marks, the places that they stand for, and the numbers of labels.
use Rattle.std.proofs.Common.{◌≡◌, ℕ, zero, suc, ◌+◌, ◌<◌, ◌≤◌, Bool, true, false, ◌||◌, ◌==◌, ◌≢◌, List, [], ◌∷◌, ◌++◌, length, replicate, flat_map, slice_get, slice_set, unwrap_or, position, not, refl, sym, ap, ◌∙◌, cond, arith, eq-eqb, ne_eqb, lt-ltb, le-ltb, get_or, drop, zero-add, append_assoc, drop-cons, add-one, if◌then◌else◌}
use Rattle.std.specs.List.{list_any, position_or_len}
use Rattle.std.proofs.Math.Bool.{or-false, or-true, or_assoc}
use Rattle.std.proofs.lemmas.List.Folds.{list_any-append}
use Rattle.il_model.specs.declared.method.Body.{Body}
use Rattle.il_model.specs.declared.method.Clause.{Clause}
use Rattle.il_model.specs.declared.op.Op.{Op}
use Rattle.il_model.specs.Ops.{operand_of}
use Rattle.il_model.specs.Canonical.{passing, is_named, targets_of, ends_of}
use Rattle.il_print.specs.Marks.{marked_from, ranks_from, marks_by, marked_at, targets_in, ends_in}

-- the places of marks that a test sets are those that pass it
pub marked_by : (test : ℕ → Bool) (count from : ℕ) → marked_from from (marks_by test count from) ≡ passing test count from
marked_by test zero from = refl
marked_by test (suc count) from = ap (λ rest. if test from then from ∷ rest else rest) (marked_by test count (from + 1))

-- no place is below the first one
none_below : (ms : List Bool) (from at : ℕ) → at < from → list_any (λ to. to == at) (marked_from from ms) ≡ false
none_below [] from at low = refl
none_below (true ∷ ms) from at low = rw (ne_eqb from at (omega arith)) (none_below ms (from + 1) at (omega arith))
none_below (false ∷ ms) from at low = none_below ms (from + 1) at (omega arith)

-- a place is among them where its mark is set
pub has_mark : (ms : List Bool) (from k at : ℕ) → at ≡ from + k → list_any (λ to. to == at) (marked_from from ms) ≡ unwrap_or (slice_get ms k) false
has_mark [] from k at is = refl
has_mark (true ∷ ms) from zero at is = rw (eq-eqb from at (omega arith)) refl
has_mark (true ∷ ms) from (suc k) at is = rw (ne_eqb from at (omega arith)) (has_mark ms (from + 1) k at (omega arith))
has_mark (false ∷ ms) from zero at is = none_below ms (from + 1) at (omega arith)
has_mark (false ∷ ms) from (suc k) at is = has_mark ms (from + 1) k at (omega arith)

-- its number is that of the marks before it
pub rank_is : (ms : List Bool) (from k at count : ℕ) → at ≡ from + k → unwrap_or (slice_get ms k) false ≡ true →
    unwrap_or (slice_get (ranks_from count ms) k) 0 ≡ count + position_or_len (λ to. to == at) (marked_from from ms)
rank_is [] from k at count is marked = cc
rank_is (true ∷ ms) from zero at count is marked = rw (eq-eqb from at (omega arith)) (omega arith)
rank_is (true ∷ ms) from (suc k) at count is marked = rw (ne_eqb from at (omega arith)) (omega (arith, rank_is ms (from + 1) k at (count + 1) (omega arith) marked))
rank_is (false ∷ ms) from zero at count is marked = cc
rank_is (false ∷ ms) from (suc k) at count is marked = rank_is ms (from + 1) k at count (omega arith) marked

pub within : (p : ℕ → Bool) (xs : List ℕ) → list_any p xs ≡ true → position_or_len p xs < length xs
within p [] some = cc
within p (x ∷ xs) some = within_from (p x) some (λ rest. within p xs rest) where
  within_from : (b : Bool) → (b || list_any p xs) ≡ true → (list_any p xs ≡ true → position_or_len p xs < length xs) →
      cond (not b) (1 + position_or_len p xs) 0 < suc (length xs)
  within_from true some later = omega arith
  within_from false some later = omega (arith, later some)

not_within : (p : ℕ → Bool) (xs : List ℕ) → list_any p xs ≡ false → position_or_len p xs ≡ length xs
not_within p [] none = refl
not_within p (x ∷ xs) none = past_from (p x) none (λ rest. not_within p xs rest) where
  past_from : (b : Bool) → (b || list_any p xs) ≡ false → (list_any p xs ≡ false → position_or_len p xs ≡ length xs) →
      cond (not b) (1 + position_or_len p xs) 0 ≡ suc (length xs)
  past_from true none later = cc
  past_from false none later = omega (arith, later none)

pub position_of_some : (p : ℕ → Bool) (xs : List ℕ) → list_any p xs ≡ true → unwrap_or (position p xs) 0 ≡ position_or_len p xs
position_of_some p xs some = rw (lt-ltb (position_or_len p xs) (length xs) (within p xs some)) refl

pub position_of_none : (p : ℕ → Bool) (xs : List ℕ) → list_any p xs ≡ false → unwrap_or (position p xs) 0 ≡ 0
position_of_none p xs none = rw (not_within p xs none) (rw (le-ltb (length xs) (length xs) (omega arith)) refl)

same_marks : (f g : ℕ → Bool) (count from : ℕ) → ((at : ℕ) → f at ≡ g at) → marks_by f count from ≡ marks_by g count from
same_marks f g zero from same = refl
same_marks f g (suc count) from same = λ i. same from i ∷ same_marks f g count (from + 1) same i

same_marks_from : (f g : ℕ → Bool) (count from : ℕ) → ((at : ℕ) → from ≤ at → f at ≡ g at) → marks_by f count from ≡ marks_by g count from
same_marks_from f g zero from same = refl
same_marks_from f g (suc count) from same = λ i. same from (omega arith) i ∷ same_marks_from f g count (from + 1) (λ at above. same at (omega arith)) i

-- one mark more
mark_here : (b : Bool) (from at : ℕ) → at ≡ from → true ≡ (b || (at == from))
mark_here b from at is = rw (eq-eqb at from is) (sym (or-true b))

mark_there : (b : Bool) (from at : ℕ) → at ≢ from → b ≡ (b || (at == from))
mark_there b from at other = rw (ne_eqb at from other) (sym (or-false b))

pub set_mark : (test : ℕ → Bool) (count from k at : ℕ) → at ≡ from + k →
    slice_set (marks_by test count from) k true ≡ marks_by (λ place. test place || (at == place)) count from
set_mark test zero from k at is = refl
set_mark test (suc count) from zero at is =
    let here : true ≡ (test from || (at == from)) = mark_here (test from) from at (omega arith) in
    let later : marks_by test count (from + 1) ≡ marks_by (λ place. test place || (at == place)) count (from + 1) =
    same_marks_from test (λ place. test place || (at == place)) count (from + 1) (λ place above. mark_there (test place) place at (omega arith)) in
    λ i. here i ∷ later i
set_mark test (suc count) from (suc k) at is =
    let here : test from ≡ (test from || (at == from)) = mark_there (test from) from at (omega arith) in
    λ i. here i ∷ set_mark test count (from + 1) k at (omega arith) i

-- all of these marks more
pub set_marks : (test : ℕ → Bool) (count : ℕ) (places : List ℕ) →
    marked_at (marks_by test count 0) places ≡ marks_by (λ place. test place || list_any (λ to. to == place) places) count 0
set_marks test count [] = same_marks test (λ place. test place || false) count 0 (λ place. sym (or-false (test place)))
set_marks test count (at ∷ places) =
    ap (λ marks. marked_at marks places) (set_mark test count 0 at at (omega arith))
    ∙ set_marks (λ place. test place || (at == place)) count places
    ∙ same_marks (λ place. (test place || (at == place)) || list_any (λ to. to == place) places) (λ place. test place || list_any (λ to. to == place) (at ∷ places)) count 0
    (λ place. or_assoc (test place) (at == place) (list_any (λ to. to == place) places))

any_of_parts : {X : Type 0} (p : ℕ → Bool) (f : X → List ℕ) (xs : List X) → list_any p (flat_map f xs) ≡ list_any (λ x. list_any p (f x)) xs
any_of_parts p f [] = refl
any_of_parts p f (x ∷ xs) = list_any-append p (f x) (flat_map f xs) ∙ ap (λ rest. list_any p (f x) || rest) (any_of_parts p f xs)

no_marks : (count from : ℕ) → replicate count false ≡ marks_by (λ place. false) count from
no_marks zero from = refl
no_marks (suc count) from = ap (λ rest. false ∷ rest) (no_marks count (from + 1))

-- the marks of a body
pub marks_of_body : (b : Body) (count : ℕ) →
    marked_at (marked_at (replicate count false) (targets_in b.code)) (ends_in b.clauses) ≡ marks_by (is_named b) count 0
marks_of_body b count =
    ap (λ marks. marked_at (marked_at marks (targets_in b.code)) (ends_in b.clauses)) (no_marks count 0)
    ∙ ap (λ marks. marked_at marks (ends_in b.clauses)) (set_marks (λ place. false) count (targets_in b.code))
    ∙ set_marks (λ place. list_any (λ to. to == place) (targets_in b.code)) count (ends_in b.clauses)
    ∙ same_marks (λ place. list_any (λ to. to == place) (targets_in b.code) || list_any (λ to. to == place) (ends_in b.clauses)) (is_named b) count 0
    (λ place i. any_of_parts (λ to. to == place) (λ op. targets_of (operand_of op)) b.code i || any_of_parts (λ to. to == place) ends_of b.clauses i)

-- the number of a label, and of a place that has none
pub label_number : (ms : List Bool) (ranks places : List ℕ) (at : ℕ) → ranks ≡ ranks_from 0 ms → marked_from 0 ms ≡ places →
    unwrap_or (slice_get ms at) false ≡ true → unwrap_or (slice_get ranks at) 0 ≡ unwrap_or (position (λ to. to == at) places) 0
label_number ms ranks places at are_ranks are_places marked =
    ap (λ rs. unwrap_or (slice_get rs at) 0) are_ranks
    ∙ rank_is ms 0 at at 0 (omega arith) marked
    ∙ zero-add (position_or_len (λ to. to == at) (marked_from 0 ms))
    ∙ sym (position_of_some (λ to. to == at) (marked_from 0 ms) (has_mark ms 0 at at (omega arith) ∙ marked))
    ∙ ap (λ ps. unwrap_or (position (λ to. to == at) ps) 0) are_places

pub no_label_number : (ms : List Bool) (places : List ℕ) (at : ℕ) → marked_from 0 ms ≡ places →
    unwrap_or (slice_get ms at) false ≡ false → 0 ≡ unwrap_or (position (λ to. to == at) places) 0
no_label_number ms places at are_places unmarked =
    sym (position_of_none (λ to. to == at) (marked_from 0 ms) (has_mark ms 0 at at (omega arith) ∙ unmarked))
    ∙ ap (λ ps. unwrap_or (position (λ to. to == at) ps) 0) are_places

-- one place further
pub next_rank : (ms : List Bool) (i : ℕ) (m : Bool) (before now all : List ℕ) (count : ℕ) → i < length ms → m ≡ get_or ms i m →
    before ++ ranks_from count (drop i ms) ≡ all → now ≡ before ++ count ∷ [] → now ++ ranks_from (if m then count + 1 else count) (drop (i + 1) ms) ≡ all
next_rank ms i m before now all count inside is so_far pushed =
    ap (λ rs. rs ++ ranks_from (if m then count + 1 else count) (drop (i + 1) ms)) pushed
    ∙ append_assoc before (count ∷ []) (ranks_from (if m then count + 1 else count) (drop (i + 1) ms))
    ∙ ap (λ b. before ++ (count ∷ ranks_from (if b then count + 1 else count) (drop (i + 1) ms))) is
    ∙ ap (λ rest. before ++ ranks_from count rest) (sym (drop-cons ms i m inside ∙ ap (λ k. get_or ms i m ∷ drop k ms) (sym (add-one i))))
    ∙ so_far

-- the marks of a body, set one list after the other
pub marks_in_steps : (b : Body) (count : ℕ) (none some all : List Bool) (code : List Op) (clauses : List Clause) → none ≡ replicate count false →
    code ≡ b.code → some ≡ marked_at none (targets_in code) → clauses ≡ b.clauses → all ≡ marked_at some (ends_in clauses) → all ≡ marks_by (is_named b) count 0
marks_in_steps b count none some all code clauses are_none is_code set_some are_clauses set_all =
    set_all
    ∙ (λ i. marked_at (set_some i) (ends_in (are_clauses i)))
    ∙ (λ i. marked_at (marked_at (are_none i) (targets_in (is_code i))) (ends_in b.clauses))
    ∙ marks_of_body b count
