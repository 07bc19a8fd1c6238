-- Words cut out of others, and put in place of others.
use Rattle.std.proofs.Common.{◌≡◌, ◌∙◌, ℕ, zero, suc, ◌+◌, ◌-◌, ◌≤◌, List, [], ◌∷◌, ◌++◌, length, take, drop, refl, sym, ap, arith, slice_range, nat_le, true, Ok}
use Rattle.std.proofs.lemmas.Bool.Decides.{nat_tests}
use Rattle.unshared.specs.Silent.{where_so}
use Rattle.std.proofs.lemmas.List.{length-drop, take_all}
use Rattle.cil_meaning.specs.Words.{cut, spliced}

take_none : (n : ℕ) → take {A = ℕ} n [] ≡ []
take_none zero = refl
take_none (suc n) = refl

drop_none : (n : ℕ) → drop {A = ℕ} n [] ≡ []
drop_none zero = refl
drop_none (suc n) = refl

cut_so : (words : List ℕ) (i n : ℕ) → cut words i n ≡ take n (drop i words)
cut_so [] i n = sym (ap (take n) (drop_none i) ∙ take_none n)
cut_so (w ∷ ws) zero zero = refl
cut_so (w ∷ ws) zero (suc n) = ap (λ l. w ∷ l) (cut_so ws zero n)
cut_so (w ∷ ws) (suc i) n = cut_so ws i n

pub cut_is : (words : List ℕ) (i n : ℕ) → cut words i n ≡ slice_range words i (i + n)
cut_is words i n = let count : n ≡ (i + n) - i = omega arith in cut_so words i n ∙ ap (λ k. take k (drop i words)) count

-- the words before those that are replaced, the new ones, and the words behind
pub spliced_is : (words : List ℕ) (i : ℕ) (new : List ℕ) → i + length new ≤ length words → spliced words i new ≡ (take i words ++ new) ++ drop (i + length new) words
spliced_is [] zero [] fits = refl
spliced_is [] zero (u ∷ us) fits = absurd (omega (arith, fits))
spliced_is [] (suc i) new fits = absurd (omega (arith, fits))
spliced_is (w ∷ ws) zero [] fits = refl
spliced_is (w ∷ ws) zero (u ∷ us) fits =
    let less : 0 + length us ≤ length ws = omega (arith, fits) in
    let past : 0 + length (u ∷ us) ≡ suc (0 + length us) = omega arith in
    ap (λ l. u ∷ l) (spliced_is ws zero us less) ∙ ap (λ k. u ∷ us ++ drop k (w ∷ ws)) (sym past)
spliced_is (w ∷ ws) (suc i) new fits =
    let less : i + length new ≤ length ws = omega (arith, fits) in
    let past : suc i + length new ≡ suc (i + length new) = omega arith in
    ap (λ l. w ∷ l) (spliced_is ws i new less) ∙ ap (λ k. w ∷ (take i ws ++ new) ++ drop k (w ∷ ws)) (sym past)

pub changed_is : (words : List ℕ) (i : ℕ) (new : List ℕ) → i + length new ≤ length words → (slice_range words 0 i ++ new) ++ slice_range words (i + length new) (length words) ≡ spliced words i new
changed_is words i new fits =
    let front : slice_range words 0 i ≡ take i words = let less : i - 0 ≡ i = omega arith in ap (λ k. take k words) less in
    let rest : length (drop (i + length new) words) ≤ length words - (i + length new) = omega (arith, length-drop (i + length new) words) in
    let back : slice_range words (i + length new) (length words) ≡ drop (i + length new) words = take_all (length words - (i + length new)) (drop (i + length new) words) rest in
    ap (λ l. (l ++ new) ++ slice_range words (i + length new) (length words)) front ∙ ap (λ l. (take i words ++ new) ++ l) back ∙ sym (spliced_is words i new fits)

pub where_fits : (words : List ℕ) (i : ℕ) (new : List ℕ) → length new ≤ length words → i ≤ length words - length new →
    where_so (nat_le (i + length new) (length words)) (Ok (spliced words i new)) ≡ Ok ((take i words ++ new) ++ slice_range words (i + length new) (length words))
where_fits words i new few inside =
    let within : i + length new ≤ length words = omega (arith, few, inside) in
    let fits : nat_le (i + length new) (length words) ≡ true = grind (arith, nat_tests) in
    let front : slice_range words 0 i ≡ take i words = let less : i - 0 ≡ i = omega arith in ap (λ k. take k words) less in
    ap (λ b. where_so b (Ok (spliced words i new))) fits ∙ ap Ok (sym (changed_is words i new within) ∙ ap (λ l. (l ++ new) ++ slice_range words (i + length new) (length words)) front)
