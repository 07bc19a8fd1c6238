-- Places that lie one behind the other make a legal plan.
use Rattle.std.proofs.Common.{◌≡◌, ℕ, ◌+◌, ◌<◌, ◌≤◌, ◌⊎◌, inl, inr, List, length, refl, subst, arith, Bool, true, false, nat_lt}
use Rattle.std.proofs.lemmas.Bool.{ltb-true}
use Rattle.std.proofs.lemmas.Bool.Decides.{nat_tests}
use Rattle.std.specs.Prelude.{slice_index}
use Rattle.cil_flow.specs.declared.plan.Plan.{Plan}
use Rattle.cil_flow.specs.FramePlans.{IsPlan}

-- the first so many places are narrow and lie apart, from the header on, and end at this word
pub record Laid (offsets widths : List ℕ) (n end : ℕ) : Type 0 where
  pub low : 8 ≤ end
  pub narrow : (p : ℕ) → p < n → slice_index widths p ≤ 16
  pub above : (p : ℕ) → p < n → 8 ≤ slice_index offsets p
  pub apart : (p q : ℕ) → p < q → q < n → slice_index offsets p + slice_index widths p ≤ slice_index offsets q
  pub below : (p : ℕ) → p < n → slice_index offsets p + slice_index widths p ≤ end

pub laid_first : (offsets widths : List ℕ) → Laid offsets widths 0 8
laid_first offsets widths = record {
  low = omega arith;
  narrow = λ p lt. absurd (omega (arith, lt));
  above = λ p lt. absurd (omega (arith, lt));
  apart = λ p q lt lt'. absurd (omega (arith, lt'));
  below = λ p lt. absurd (omega (arith, lt));
}

before_or_here : (p n : ℕ) → p < n + 1 → (p < n) ⊎ (n ≡ p)
before_or_here p n lt = by_test (nat_lt p n) refl
  where
    by_test : (b : Bool) → nat_lt p n ≡ b → (p < n) ⊎ (n ≡ p)
    by_test true is = inl (ltb-true p n is)
    by_test false is = inr (grind (arith, nat_tests))

pub laid_next : (offsets widths : List ℕ) (n end o w : ℕ) → Laid offsets widths n end → o ≡ slice_index offsets n → w ≡ slice_index widths n → w ≤ 16 → end ≤ o → Laid offsets widths (n + 1) (o + w)
laid_next offsets widths n end o w h at wide narrow behind = record {
  low = omega (arith, h.low, behind);
  narrow = λ p lt. elim (before_or_here p n lt) [ inl less ↦ h.narrow p less | inr here ↦ subst (λ k. slice_index widths k ≤ 16) here (omega (arith, wide, narrow)) ];
  above = λ p lt. elim (before_or_here p n lt) [ inl less ↦ h.above p less | inr here ↦ subst (λ k. 8 ≤ slice_index offsets k) here (omega (arith, at, behind, h.low)) ];
  apart = λ p q lt lt'. elim (before_or_here q n lt') [
    | inl less ↦ h.apart p q lt less
    | inr here ↦ subst (λ k. slice_index offsets p + slice_index widths p ≤ slice_index offsets k) here (let b = h.below p (omega (arith, lt, here)) in omega (arith, b, behind, at))
  ];
  below = λ p lt. elim (before_or_here p n lt) [
    | inl less ↦ (let b = h.below p less in omega (arith, b, behind))
    | inr here ↦ subst (λ k. slice_index offsets k + slice_index widths k ≤ o + w) here (omega (arith, at, wide))
  ];
}

pub laid_plan : (k : Plan) (end : ℕ) → length k.widths ≡ length k.offsets → Laid k.offsets k.widths (length k.offsets) end → end ≤ k.scratch → k.list ≡ k.scratch + 16 → k.list ≤ k.frame → k.frame ≤ 2064 → IsPlan k
laid_plan k end count h past room all short = record {
  widths = count;
  narrow = h.narrow;
  above = h.above;
  apart = h.apart;
  below = λ p lt. (let b = h.below p lt in omega (arith, b, past));
  behind = omega (arith, h.low, past);
  room = room;
  all = all;
  short = short;
}
