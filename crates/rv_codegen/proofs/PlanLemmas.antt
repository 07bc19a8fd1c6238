-- Offsets of plans are small.
use Rattle.std.proofs.Common.{Bool, true, false, ltb, ltb-true, ltb-false, refl, ◌≤◌, ◌+◌, ◌≡◌, ℕ, zero, suc, ◌<◌, List, [], ◌∷◌, length, slice_get, slice_index, Some, arith}
use Rattle.cil_flow.specs.declared.plan.Plan.{Plan}
use Rattle.cil_flow.specs.FramePlans.{IsPlan}

index_of : (xs : List ℕ) (n x : ℕ) → slice_get xs n ≡ Some x → (n < length xs) × (slice_index xs n ≡ x)
index_of [] n x is = absurd (cc is)
index_of (y ∷ xs) zero x is = (omega arith, cc is)
index_of (y ∷ xs) (suc n) x is = let h = index_of xs n x is in let l = h.0 in (omega arith, h.1)

pub offset_low : (k : Plan) → IsPlan k → (n x : ℕ) → slice_get k.offsets n ≡ Some x → (x < 4096) × (slice_index k.offsets n ≡ x)
offset_low k plan n x is =
    let h = index_of k.offsets n x is in
    let low = plan.below n h.0 in
    let r = plan.room in
    let a = plan.all in
    let s = plan.short in
    let e = h.1 in
    (omega arith, e)

pub width_low : (k : Plan) → IsPlan k → (n x : ℕ) → slice_get k.widths n ≡ Some x → (x < 4096) × (slice_index k.widths n ≡ x)
width_low k plan n x is =
    let h = index_of k.widths n x is in
    let same = plan.widths in
    let l = h.0 in
    let low = plan.narrow n (omega arith) in
    let e = h.1 in
    (omega arith, e)

index_past : (xs : List ℕ) (n : ℕ) → length xs ≤ n → slice_index xs n ≡ 0
index_past [] n le = refl
index_past (x ∷ xs) zero le = absurd (omega arith)
index_past (x ∷ xs) (suc n) le = index_past xs n (omega arith)

-- a place ends within the frame
pub place_low : (k : Plan) → IsPlan k → (n : ℕ) → slice_index k.offsets n + slice_index k.widths n ≤ 4096
place_low k plan n = by_order (ltb n (length k.offsets)) refl
  where
    by_order : (t : Bool) → ltb n (length k.offsets) ≡ t → slice_index k.offsets n + slice_index k.widths n ≤ 4096
    by_order true t =
        let h = ltb-true n (length k.offsets) t in
        let low = plan.below n h in
        let r = plan.room in
        let a = plan.all in
        let s = plan.short in
        omega arith
    by_order false t =
        let h = ltb-false n (length k.offsets) t in
        let same = plan.widths in
        let a = index_past k.offsets n h in
        let b = index_past k.widths n (omega arith) in
        omega arith

-- no place has more words than the largest value
pub all_narrow : (k : Plan) → IsPlan k → (n : ℕ) → slice_index k.widths n ≤ 16
all_narrow k plan n = by_order (ltb n (length k.widths)) refl
  where
    by_order : (t : Bool) → ltb n (length k.widths) ≡ t → slice_index k.widths n ≤ 16
    by_order true t =
        let h = ltb-true n (length k.widths) t in
        let same = plan.widths in
        plan.narrow n (omega arith)
    by_order false t = let e = index_past k.widths n (ltb-false n (length k.widths) t) in omega arith

-- a place so far behind that it isn't there
pub offset_past : (k : Plan) (first number : ℕ) → length k.offsets ≤ number → slice_index k.offsets (first + number) ≡ 0
offset_past k first number le = index_past k.offsets (first + number) (omega arith)

pub width_past : (k : Plan) → IsPlan k → (first number : ℕ) → length k.offsets ≤ number → slice_index k.widths (first + number) ≡ 0
width_past k plan first number le = let same = plan.widths in index_past k.widths (first + number) (omega arith)

-- the largest value has room behind each offset
pub offset_roomy : (k : Plan) → IsPlan k → (n : ℕ) → slice_index k.offsets n ≤ 4080
offset_roomy k plan n = by_order (ltb n (length k.offsets)) refl
  where
    by_order : (t : Bool) → ltb n (length k.offsets) ≡ t → slice_index k.offsets n ≤ 4080
    by_order true t =
        let h = ltb-true n (length k.offsets) t in
        let low = plan.below n h in
        let r = plan.room in
        let a = plan.all in
        let s = plan.short in
        omega arith
    by_order false t = let e = index_past k.offsets n (ltb-false n (length k.offsets) t) in omega arith
