-- Places one behind the other.
use Rattle.std.proofs.Common.{◌≡◌, ℕ, zero, suc, ◌+◌, ◌*◌, ◌<◌, ◌≤◌, List, [], ◌∷◌, length, slice_index, refl, ap, sym, arith}
use Rattle.std.specs.List.{sum, AllByRecursion}
use Rattle.std.proofs.lemmas.List.Sums.{sum_by-cons}
use Rattle.il_model.specs.Layouts.{offsets_from}
use Rattle.il_model.specs.Admission.{most_words}
use Rattle.cil_flow.specs.FramePlans.{IsPlan}
use Rattle.frame_plan.specs.Planned.{laid, most_places}

-- each width is that of one value at most
abbrev pub AreNarrow : List ℕ → Type 0
AreNarrow ws = AllByRecursion (λ w. w ≤ most_words) ws

length-offsets : (at : ℕ) (ws : List ℕ) → length (offsets_from at ws) ≡ length ws
length-offsets at [] = refl
length-offsets at (w ∷ ws) = ap suc (length-offsets (at + w) ws)

above : (at : ℕ) (ws : List ℕ) (p : ℕ) → p < length ws → at ≤ slice_index (offsets_from at ws) p
above at [] p inside = absurd (omega (arith, inside))
above at (w ∷ ws) zero inside = omega arith
above at (w ∷ ws) (suc p) inside = let rest : at + w ≤ slice_index (offsets_from (at + w) ws) p = above (at + w) ws p (omega (arith, inside)) in omega arith

sum-cons : (w : ℕ) (ws : List ℕ) → sum (w ∷ ws) ≡ w + sum ws
sum-cons w ws = sum_by-cons (λ x. x) w ws

below : (at : ℕ) (ws : List ℕ) (p : ℕ) → p < length ws → slice_index (offsets_from at ws) p + slice_index ws p ≤ at + sum ws
below at [] p inside = absurd (omega (arith, inside))
below at (w ∷ ws) zero inside = let all = sum-cons w ws in omega arith
below at (w ∷ ws) (suc p) inside =
    let rest : slice_index (offsets_from (at + w) ws) p + slice_index ws p ≤ at + w + sum ws = below (at + w) ws p (omega (arith, inside)) in
    let all = sum-cons w ws in
    omega arith

apart : (at : ℕ) (ws : List ℕ) (p q : ℕ) → p < q → q < length ws → slice_index (offsets_from at ws) p + slice_index ws p ≤ slice_index (offsets_from at ws) q
apart at [] p q less inside = absurd (omega (arith, inside))
apart at (w ∷ ws) p zero less inside = absurd (omega (arith, less))
apart at (w ∷ ws) zero (suc q) less inside = above (at + w) ws q (omega (arith, inside))
apart at (w ∷ ws) (suc p) (suc q) less inside = apart (at + w) ws p q (omega (arith, less)) (omega (arith, inside))

narrow_at : (ws : List ℕ) (p : ℕ) → p < length ws → AreNarrow ws → slice_index ws p ≤ most_words
narrow_at [] p inside narrow = absurd (omega (arith, inside))
narrow_at (w ∷ ws) zero inside narrow = narrow.0
narrow_at (w ∷ ws) (suc p) inside narrow = narrow_at ws p (omega (arith, inside)) narrow.1

-- narrow places have few words together
few_together : (ws : List ℕ) → AreNarrow ws → sum ws ≤ most_words * length ws
few_together [] narrow = omega arith
few_together (w ∷ ws) narrow =
    let first : w ≤ most_words = narrow.0 in
    let rest : sum ws ≤ most_words * length ws = few_together ws narrow.1 in
    let all = sum-cons w ws in
    omega arith

-- so a few of them make a legal frame
pub laid_legal : (ws : List ℕ) (addresses : ℕ) → length ws ≤ most_places → AreNarrow ws → addresses ≤ most_places → IsPlan (laid ws addresses)
laid_legal ws addresses few narrow short =
    let same = length-offsets 8 ws in
    let inside : (p : ℕ) → p < length (offsets_from 8 ws) → p < length ws = λ p less. omega (arith, less, same) in
    let words = few_together ws narrow in
    record {
      widths = sym same;
      narrow = λ p less. narrow_at ws p (inside p less) narrow;
      above = λ p less. above 8 ws p (inside p less);
      apart = λ p q less last. apart 8 ws p q less (inside q last);
      below = λ p less. below 8 ws p (inside p less);
      behind = omega arith;
      room = refl;
      all = omega arith;
      short = omega (arith, words, few, short);
    }
