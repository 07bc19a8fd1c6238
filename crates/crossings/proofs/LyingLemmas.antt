-- Which word begins at an address, and when words lie in the frames.
use Rattle.std.proofs.Common.{◌≡◌, ℕ, suc, ◌+◌, ◌-◌, ◌*◌, ◌/◌, ◌%◌, ◌<◌, ◌≤◌, ◌==◌, ◌&&◌, Bool, true, false, List, length, if◌then◌else◌, refl, sym, ap, ◌∙◌, arith, subst, eq-or-lt_of_le, inl, inr}
use Rattle.std.specs.Prelude.{nat_lt, nat_le, slice_index, Option, Some, None, IsSome}
use Rattle.std.proofs.lemmas.Bool.{leb-true, eqb-true, and_parts}
use Rattle.std.proofs.lemmas.Bool.Decides.{nat_tests}
use Rattle.rgctx_words.specs.Frames.{frames_at, frame_address, frame_index}
use Rattle.crossings.specs.Calls.{word_at, Lies, argument_at}
use Rattle.crossings.specs.Copies.{index_at, index_or_first}

-- ---- one address

pub some_of : (o : Option ℕ) → IsSome o → (i : ℕ) × (o ≡ Some i)
some_of (Some i) h = (i, refl)
some_of None h = cc

pub is_some-of : (o : Option ℕ) (i : ℕ) → o ≡ Some i → IsSome o
is_some-of o i e = subst (λ (x : Option ℕ). IsSome x) (sym e) refl

when_some : (b : Bool) (x y : ℕ) → (if b then Some x else None) ≡ Some y → (b ≡ true) × (x ≡ y)
when_some true x y e = (refl, cc)
when_some false x y e = (cc, cc)

-- the word at an index begins at its address
pub frame_index-of : (end i : ℕ) → i < end → frame_index end (frame_address i) ≡ Some i
frame_index-of end i less =
    let low : nat_le frames_at (frames_at + 8 * i) ≡ true = grind (arith, nat_tests) in
    let offset : (frames_at + 8 * i) - frames_at ≡ 8 * i = omega arith in
    let place : 8 * i / 8 ≡ i = omega arith in
    let whole : 8 * i % 8 ≡ 0 = omega arith in
    let inside : nat_lt i end ≡ true = grind (arith, nat_tests) in
    rw low (rw offset (rw place (rw whole (rw inside refl))))

-- what begins at an address is a word of the frames, with that address
pub record Begins (end address i : ℕ) : Type 0 where
  pub inside : i < end
  pub is : frame_address i ≡ address

pub begins-of : (end address i : ℕ) → frame_index end address ≡ Some i → Begins end address i
begins-of end address i e =
    let h : ((nat_le frames_at address && (nat_lt ((address - frames_at) / 8) end && ((address - frames_at) % 8 == 0))) ≡ true) × ((address - frames_at) / 8 ≡ i) = when_some (nat_le frames_at address && (nat_lt ((address - frames_at) / 8) end && ((address - frames_at) % 8 == 0))) ((address - frames_at) / 8) i e in
    let p : (nat_le frames_at address ≡ true) × ((nat_lt ((address - frames_at) / 8) end && ((address - frames_at) % 8 == 0)) ≡ true) = and_parts (nat_le frames_at address) (nat_lt ((address - frames_at) / 8) end && ((address - frames_at) % 8 == 0)) h.0 in
    let q : (nat_lt ((address - frames_at) / 8) end ≡ true) × (((address - frames_at) % 8 == 0) ≡ true) = and_parts (nat_lt ((address - frames_at) / 8) end) ((address - frames_at) % 8 == 0) p.1 in
    let low : frames_at ≤ address = leb-true frames_at address p.0 in
    let high : suc ((address - frames_at) / 8) ≤ end = leb-true (suc ((address - frames_at) / 8)) end q.0 in
    let whole : (address - frames_at) % 8 ≡ 0 = eqb-true ((address - frames_at) % 8) 0 q.1 in
    let place : (address - frames_at) / 8 ≡ i = h.1 in
    record { inside = omega arith; is = omega arith }

pub frame_index-at : (end address i : ℕ) → i < end → frame_address i ≡ address → frame_index end address ≡ Some i
frame_index-at end address i less is = subst (λ a. frame_index end a ≡ Some i) is (frame_index-of end i less)

-- ---- several words

-- some words lie where they begin at an index with room behind it
pub lies-from : (words : List ℕ) (address count i : ℕ) → frame_index (length words) address ≡ Some i → i + count ≤ length words → Lies words address count
lies-from words address count i e room =
    let b : Begins (length words) address i = begins-of (length words) address i e in
    record { each = λ j less. is_some-of (frame_index (length words) (address + 8 * j)) (i + j) (frame_index-at (length words) (address + 8 * j) (i + j) (omega arith) (let is : frame_address i ≡ address = b.is in omega arith)) }

pub lies-none : (words : List ℕ) (address : ℕ) → Lies words address 0
lies-none words address = record { each = λ j less. absurd (omega (arith, less)) }

-- where words lie, and there is one, they begin at an index with room behind it
pub record Room (words : List ℕ) (address count : ℕ) : Type 0 where
  pub index : ℕ
  pub is : frame_index (length words) address ≡ Some index
  pub room : index + count ≤ length words

begins_at : (words : List ℕ) (address count j : ℕ) → Lies words address count → j < count → (i : ℕ) × Begins (length words) (address + 8 * j) i
begins_at words address count j lies less =
    let s : (i : ℕ) × (frame_index (length words) (address + 8 * j) ≡ Some i) = some_of (frame_index (length words) (address + 8 * j)) (lies.each j less) in
    (s.0, begins-of (length words) (address + 8 * j) s.0 s.1)

pub room-of : (words : List ℕ) (address count : ℕ) → 0 < count → Lies words address count → Room words address count
room-of words address count some lies =
    let f : (i : ℕ) × Begins (length words) (address + 8 * 0) i = begins_at words address count 0 lies some in
    let l : (i : ℕ) × Begins (length words) (address + 8 * (count - 1)) i = begins_at words address count (count - 1) lies (omega arith) in
    let f_is : frame_address f.0 ≡ address + 8 * 0 = f.1.is in
    let l_is : frame_address l.0 ≡ address + 8 * (count - 1) = l.1.is in
    let l_in : l.0 < length words = l.1.inside in
    record {
      index = f.0;
      is = frame_index-at (length words) address f.0 (omega arith) (omega arith);
      room = omega arith;
    }

pub index_at-is : (words : List ℕ) (address i : ℕ) → frame_index (length words) address ≡ Some i → index_at words address ≡ i
index_at-is words address i e = ap index_or_first e

index_inside : (words : List ℕ) (address : ℕ) (o : Option ℕ) → frame_index (length words) address ≡ o → index_or_first o ≤ length words
index_inside words address (Some i) e = let b : Begins (length words) address i = begins-of (length words) address i e in let h : i < length words = b.inside in omega arith
index_inside words address None e = omega arith

-- the index of the first, and of all behind it
pub index_at-room : (words : List ℕ) (address count : ℕ) → 0 < count → Lies words address count → index_at words address + count ≤ length words
index_at-room words address count some lies =
    let r : Room words address count = room-of words address count some lies in
    let e : index_at words address ≡ r.index = index_at-is words address r.index r.is in
    let h : r.index + count ≤ length words = r.room in
    omega arith

pub word_at-is : (words : List ℕ) (address count j : ℕ) → Lies words address count → j < count → word_at words (address + 8 * j) ≡ slice_index words (index_at words address + j)
word_at-is words address count j lies less =
    let r : Room words address count = room-of words address count (omega arith) lies in
    let e : index_at words address ≡ r.index = index_at-is words address r.index r.is in
    let h : r.index + count ≤ length words = r.room in
    let b : Begins (length words) address r.index = begins-of (length words) address r.index r.is in
    let is : frame_address r.index ≡ address = b.is in
    let at : frame_index (length words) (address + 8 * j) ≡ Some (r.index + j) = frame_index-at (length words) (address + 8 * j) (r.index + j) (omega arith) (omega arith) in
    rw at (ap (λ (n : ℕ). slice_index words (n + j)) (sym e))

-- among more words it is the same one
pub index_at-more : (fewer more : List ℕ) (address count : ℕ) → 0 < count → Lies fewer address count → length fewer ≤ length more → index_at more address ≡ index_at fewer address
index_at-more fewer more address count some lies less =
    let r : Room fewer address count = room-of fewer address count some lies in
    let b : Begins (length fewer) address r.index = begins-of (length fewer) address r.index r.is in
    let h : r.index < length fewer = b.inside in
    index_at-is more address r.index (frame_index-at (length more) address r.index (omega arith) b.is) ∙ sym (index_at-is fewer address r.index r.is)

-- ---- a list of addresses, walked

pub listed-inside : (words : List ℕ) (list count n : ℕ) → Lies words list count → n < count → index_at words list + n < length words
listed-inside words list count n lies less = let h : index_at words list + count ≤ length words = index_at-room words list count (omega arith) lies in omega arith

pub listed-address : (words : List ℕ) (list count n : ℕ) → Lies words list count → n < count → slice_index words (index_at words list + n) ≡ argument_at words list n
listed-address words list count n lies less = sym (word_at-is words list count n lies less)

pub listed-more : (words : List ℕ) (list : ℕ) (widths : List ℕ) (n address : ℕ) → ((i : ℕ) → i < n → Lies words (argument_at words list i) (slice_index widths i)) → Lies words address (slice_index widths n)
    → address ≡ argument_at words list n → (i : ℕ) → i < n + 1 → Lies words (argument_at words list i) (slice_index widths i)
listed-more words list widths n address before lies is i less =
    elim (eq-or-lt_of_le {n = i} {m = n} (omega arith)) [
      | inl same ↦ subst (λ (m : ℕ). Lies words (argument_at words list m) (slice_index widths m)) (sym same) (subst (λ (a : ℕ). Lies words a (slice_index widths n)) is lies)
      | inr earlier ↦ before i earlier
    ]
