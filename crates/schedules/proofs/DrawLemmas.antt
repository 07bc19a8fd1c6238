-- Numbers that are left to a run.
use Rattle.std.proofs.Common.{true, false, nat_le, ⊎_elim, ◌≡◌, ◌∙◌, ℕ, zero, suc, ◌+◌, ◌-◌, ◌<◌, ◌≤◌, List, [], ◌∷◌, length, take, drop, get_or, refl, sym, ap, subst, arith, drop-cons}
use Rattle.std.proofs.lemmas.List.{drop_all, length-take-le}
use Rattle.std.proofs.lemmas.Bool.Decides.{leb_tells}
use Rattle.store_object.specs.declared.ending.Chooser.{Chooser}
use Rattle.store_object.specs.declared.ending.Chooser.TheVariants as by
use Rattle.schedules.specs.declared.drawing.Drawing.{Drawing}
use Rattle.schedules.specs.Numbers.{next_seed, drawn, numbers, HasNumbers}
use Rattle.schedules.specs.Drawn.{left, HasLeft}

pub take_next : (xs : List ℕ) (at n : ℕ) → at + suc n ≤ length xs → take (suc n) (drop at xs) ≡ get_or xs at 0 ∷ take n (drop (at + 1) xs)
take_next xs at n enough =
    let inside : at < length xs = omega (arith, enough) in
    let one : at + 1 ≡ suc at = omega arith in
    ap (take (suc n)) (drop-cons xs at 0 inside) ∙ ap (λ k. get_or xs at 0 ∷ take n (drop k xs)) (sym one)

pub inside_of : (ks rest : List ℕ) (i k : ℕ) → drop i ks ≡ k ∷ rest → i < length ks
inside_of ks rest i k e = ⊎_elim (λ (h : (nat_le (length ks) i ≡ true) × (length ks ≤ i)). let none : drop i ks ≡ [] = drop_all i ks h.1 in absurd (cc (none, e))) (λ (h : (nat_le (length ks) i ≡ false) × (i < length ks)). h.1) (leb_tells (length ks) i)

next_of : (xs : List ℕ) (i x : ℕ) (rest : List ℕ) → drop i xs ≡ x ∷ rest → drop (i + 1) xs ≡ rest
next_of xs i x rest e =
    let inside : i < length xs = inside_of xs rest i x e in
    let step : get_or xs i 0 ∷ drop (suc i) xs ≡ x ∷ rest = sym (drop-cons xs i 0 inside) ∙ e in
    let tail : drop (suc i) xs ≡ rest = cc step in
    let one : i + 1 ≡ suc i = omega arith in
    ap (λ j. drop j xs) one ∙ tail

-- The numbers left to a loop, behind one that was drawn.
pub record Drawn (ks : List ℕ) (chooser : Chooser) (next : Drawing) (number at turns : ℕ) : Type 0 where
  pub split : drop at ks ≡ number ∷ drop (at + 1) ks
  pub rest : drop (at + 1) ks ≡ left chooser next (turns - (at + 1))
  pub enough : HasLeft chooser next (turns - (at + 1))

pub drawn_next : (ks : List ℕ) (chooser : Chooser) (d next : Drawing) (number at turns : ℕ) → at < turns → drop at ks ≡ left chooser d (turns - at) → HasLeft chooser d (turns - at) →
    ((n : ℕ) → HasLeft chooser d (suc n) → left chooser d (suc n) ≡ number ∷ left chooser next n) → ((n : ℕ) → HasLeft chooser d (suc n) → HasLeft chooser next n) → Drawn ks chooser next number at turns
drawn_next ks chooser d next number at turns below lefts enough draws keeps =
    let count : turns - at ≡ suc (turns - (at + 1)) = omega (arith, below) in
    let more : HasLeft chooser d (suc (turns - (at + 1))) = subst (HasLeft chooser d) count enough in
    let front : drop at ks ≡ number ∷ left chooser next (turns - (at + 1)) = lefts ∙ ap (left chooser d) count ∙ draws (turns - (at + 1)) more in
    let rest : drop (at + 1) ks ≡ left chooser next (turns - (at + 1)) = next_of ks at number (left chooser next (turns - (at + 1))) front in
    record { split = front ∙ ap (λ l. number ∷ l) (sym rest); rest = rest; enough = keeps (turns - (at + 1)) more }

nothing_left : (chooser : Chooser) (d : Drawing) → left chooser d 0 ≡ []
nothing_left (by.Seed s) d = refl
nothing_left (by.List xs) d = refl

pub drawn_all : (ks : List ℕ) (chooser : Chooser) (d : Drawing) (at turns : ℕ) → turns ≤ at → drop at ks ≡ left chooser d (turns - at) → drop at ks ≡ []
drawn_all ks chooser d at turns past lefts =
    let none : turns - at ≡ 0 = omega (arith, past) in
    lefts ∙ ap (left chooser d) none ∙ nothing_left chooser d

length_drawn : (n s : ℕ) → length (drawn n s) ≡ n
length_drawn zero s = refl
length_drawn (suc n) s = ap suc (length_drawn n (next_seed s))

-- there are as many numbers as turns
pub length_numbers : (chooser : Chooser) (turns : ℕ) → HasNumbers chooser turns → length (numbers chooser turns) ≡ turns
length_numbers (by.Seed s) turns enough = length_drawn turns s
length_numbers (by.List xs) turns enough = length-take-le turns xs.items enough
