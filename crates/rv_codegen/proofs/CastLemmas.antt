-- Words of integers.
use Rattle.std.proofs.Common.{ℕ, Bool, true, false, cond, pos, negsuc, ◌%◌, refl, sym, ap, ◌∙◌, ◌≡◌, ltb-true, ltb-false, ◌≤◌, ◌+◌, ◌-◌, ◌^◌, ◌<◌, ℤ, FitsSigned, nat_lt, arith}
use Rattle.std.proofs.lemmas.Int.{ints}
use Rattle.std.specs.Int.{w32, w64, cast_signed, cast_unsigned, int_shr}
use Rattle.std.proofs.lemmas.Nat.{shr_le}
use Rattle.store_object.specs.Store.{sign_extended}
use Rattle.cil_meaning.specs.Words.{narrow, int32_word, int64_word}
use Rattle.rv_codegen.proofs.StraightLemmas.{by_if}

pub wide_small : (z : ℤ) → FitsSigned w64 z → int64_word z < 2 ^ 64
wide_small z fits = grind (arith, ints)

pub narrow_cast_small : (z : ℤ) → FitsSigned w32 z → cast_unsigned w32 z < 2 ^ 32
narrow_cast_small z fits = grind (arith, ints)

pub int32_small : (z : ℤ) → FitsSigned w32 z → int32_word z < 2 ^ 64
int32_small z fits =
    let h = narrow_cast_small z fits in
    by_if (λ v. v < 2 ^ 64) (nat_lt (cast_unsigned w32 z) (2 ^ 31)) (cast_unsigned w32 z) (cast_unsigned w32 z + (2 ^ 64 - 2 ^ 32)) (λ t. omega arith) (λ t. omega arith)

same_signed : (a : ℕ) → a < 2 ^ 31 → cast_signed w64 a ≡ cast_signed w32 a
same_signed a small = grind (arith, ints)

same_signed_down : (a : ℕ) → a < 2 ^ 64 → 2 ^ 64 - 2 ^ 31 ≤ a → cast_signed w64 a ≡ cast_signed w32 (a - (2 ^ 64 - 2 ^ 32))
same_signed_down a small large = grind (arith, ints)

same_cast : (z : ℤ) → FitsSigned w32 z → cast_unsigned w64 z ≡ sign_extended (cast_unsigned w32 z)
same_cast z fits =
    by_if (λ v. cast_unsigned w64 z ≡ v) (nat_lt (cast_unsigned w32 z) (2 ^ 31)) (cast_unsigned w32 z) (cast_unsigned w32 z + (2 ^ 64 - 2 ^ 32)) (λ t. let h = ltb-true (cast_unsigned w32 z) (2 ^ 31) t in grind (arith, ints)) (λ t. let h = ltb-false (cast_unsigned w32 z) (2 ^ 31) t in grind (arith, ints))

shifted_fits : (z : ℤ) (k : ℕ) → FitsSigned w32 z → FitsSigned w32 (int_shr z k)
shifted_fits (pos n) k fits = let h = shr_le n k in grind (arith, ints)
shifted_fits (negsuc n) k fits = let h = shr_le n k in grind (arith, ints)

signed_fits : (n : ℕ) → n < 2 ^ 32 → FitsSigned w32 (cast_signed w32 n)
signed_fits n small = grind (arith, ints)

-- an int32's word is the same number at both widths
pub same_number : (a : ℕ) → a < 2 ^ 64 → narrow a ≡ a → cast_signed w64 a ≡ cast_signed w32 (a % 2 ^ 32)
same_number a small is = by_test (nat_lt (a % 2 ^ 32) (2 ^ 31)) refl
  where
    by_test : (t : Bool) → nat_lt (a % 2 ^ 32) (2 ^ 31) ≡ t → cast_signed w64 a ≡ cast_signed w32 (a % 2 ^ 32)
    by_test true t =
        let h = ltb-true (a % 2 ^ 32) (2 ^ 31) t in
        let e : a % 2 ^ 32 ≡ a = ap (λ b. cond b (a % 2 ^ 32) (a % 2 ^ 32 + (2 ^ 64 - 2 ^ 32))) (sym t) ∙ is in
        same_signed a (omega arith) ∙ ap (cast_signed w32) (sym e)
    by_test false t =
        let h = ltb-false (a % 2 ^ 32) (2 ^ 31) t in
        let e : a % 2 ^ 32 + (2 ^ 64 - 2 ^ 32) ≡ a = ap (λ b. cond b (a % 2 ^ 32) (a % 2 ^ 32 + (2 ^ 64 - 2 ^ 32))) (sym t) ∙ is in
        let d : a - (2 ^ 64 - 2 ^ 32) ≡ a % 2 ^ 32 = omega arith in
        same_signed_down a small (omega arith) ∙ ap (cast_signed w32) d

-- a shift to the right of an int32, with its sign
pub narrow_shift : (a k : ℕ) → a < 2 ^ 64 → narrow a ≡ a → cast_unsigned w64 (int_shr (cast_signed w32 (a % 2 ^ 32)) k) ≡ int32_word (int_shr (cast_signed w64 a) k)
narrow_shift a k small is =
    same_cast (int_shr (cast_signed w32 (a % 2 ^ 32)) k) (shifted_fits (cast_signed w32 (a % 2 ^ 32)) k (signed_fits (a % 2 ^ 32) (omega arith)))
    ∙ ap (λ z. int32_word (int_shr z k)) (sym (same_number a small is))

pub narrow_shift_small : (a k : ℕ) → int32_word (int_shr (cast_signed w32 (a % 2 ^ 32)) k) < 2 ^ 64
narrow_shift_small a k = int32_small (int_shr (cast_signed w32 (a % 2 ^ 32)) k) (shifted_fits (cast_signed w32 (a % 2 ^ 32)) k (signed_fits (a % 2 ^ 32) (omega arith)))

wide_shifted_fits : (z : ℤ) (k : ℕ) → FitsSigned w64 z → FitsSigned w64 (int_shr z k)
wide_shifted_fits (pos n) k fits = let h = shr_le n k in grind (arith, ints)
wide_shifted_fits (negsuc n) k fits = let h = shr_le n k in grind (arith, ints)

wide_signed_fits : (n : ℕ) → n < 2 ^ 64 → FitsSigned w64 (cast_signed w64 n)
wide_signed_fits n small = grind (arith, ints)

pub wide_shift_small : (a k : ℕ) → a < 2 ^ 64 → int64_word (int_shr (cast_signed w64 a) k) < 2 ^ 64
wide_shift_small a k small = wide_small (int_shr (cast_signed w64 a) k) (wide_shifted_fits (cast_signed w64 a) k (wide_signed_fits a small))
