-- Signed quotients and remainders as words.
use Rattle.std.proofs.Common.{◌≡◌, ◌∙◌, ℕ, zero, suc, ◌+◌, ◌-◌, ◌/◌, ◌%◌, ◌^◌, ◌<◌, ◌≤◌, Bool, true, false, if◌then◌else◌, nat_lt, ℤ, pos, negsuc, refl, sym, ap, subst, arith}
use Rattle.std.specs.Prelude.{neg_ℤ, int_div, int_rem, unsigned_abs}
use Rattle.std.specs.Int.{w32, w64, cast_signed, cast_unsigned}
use Rattle.std.proofs.lemmas.Bool.Decides.{nat_tests}
use Rattle.std.proofs.lemmas.Int.{of_z-to_z}
use native.Mathlib.Nat.{div-le_self, mod-le}
use Rattle.store_object.specs.Store.{sign_extended}
use Rattle.cil_meaning.specs.Words.{signed}
use Rattle.cil_meaning.specs.Arithmetic.{wrapped, wrapped_int}
use Rattle.unshared.specs.declared.numbers.Width.{Width as WidthHere}
use Rattle.unshared.specs.declared.numbers.Width.TheVariants as width
use Rattle.unshared.specs.Forms.{the_width, IsExtended}

abs_neg : (n : ℕ) → unsigned_abs (neg_ℤ (pos n)) ≡ n
abs_neg zero = refl
abs_neg (suc n) = refl

-- neither is larger than the dividend
quotient_few : (a b : ℤ) → unsigned_abs (int_div a b) ≤ unsigned_abs a
quotient_few (pos a) (pos b) = div-le_self a b
quotient_few (pos a) (negsuc b) = subst (λ k. k ≤ a) (sym (abs_neg (a / suc b))) (div-le_self a (suc b))
quotient_few (negsuc a) (pos b) = subst (λ k. k ≤ suc a) (sym (abs_neg (suc a / b))) (div-le_self (suc a) b)
quotient_few (negsuc a) (negsuc b) = div-le_self (suc a) (suc b)

remainder_few : (a b : ℤ) → unsigned_abs (int_rem a b) ≤ unsigned_abs a
remainder_few (pos a) b = mod-le a (unsigned_abs b)
remainder_few (negsuc a) b = subst (λ k. k ≤ suc a) (sym (abs_neg (suc a % unsigned_abs b))) (mod-le (suc a) (unsigned_abs b))

-- the low bits of a number that fits 32 of them
low_bits : (z : ℤ) → unsigned_abs z ≤ 2 ^ 31 → cast_unsigned w64 z % 2 ^ 32 ≡ cast_unsigned w32 z
low_bits (pos n) few = omega (arith, few)
low_bits (negsuc n) few = omega (arith, few)

below : (z : ℤ) → unsigned_abs z ≤ 2 ^ 63 → cast_unsigned w64 z < 2 ^ 64
below (pos n) few = omega (arith, few)
below (negsuc n) few = omega arith

-- half of the numbers of a width
abbrev pub half : WidthHere → ℕ
half width.Narrow = 2 ^ 31
half width.Wide = 2 ^ 63

within : (w : WidthHere) (z : ℤ) → unsigned_abs z ≤ half w → unsigned_abs z ≤ 2 ^ 63
within width.Narrow z few = omega (arith, few)
within width.Wide z few = few

wrapped_alike : (w : WidthHere) (z : ℤ) → unsigned_abs z ≤ half w → wrapped (the_width w) (cast_unsigned w64 z) ≡ wrapped_int (the_width w) z
wrapped_alike width.Narrow z few = ap sign_extended (low_bits z few)
wrapped_alike width.Wide z few = let less = below z few in omega (arith, less)

word_is : (w : WidthHere) (z : ℤ) (word v : ℕ) → unsigned_abs z ≤ half w → word ≡ cast_unsigned w64 (cast_signed w64 (cast_unsigned w64 z)) → ((n : ℕ) → word ≡ n % 2 ^ 64 → v ≡ wrapped (the_width w) n) → v ≡ wrapped_int (the_width w) z
word_is w z word v few e clause =
    let less = below z (within w z few) in
    let whole : cast_unsigned w64 z ≡ cast_unsigned w64 z % 2 ^ 64 = omega (arith, less) in
    clause (cast_unsigned w64 z) (e ∙ of_z-to_z w64 (cast_unsigned w64 z) less ∙ whole) ∙ wrapped_alike w z few

-- an operand that stands sign-extended
by_sign : (b : Bool) (a : ℕ) → nat_lt a (2 ^ 63) ≡ b → signed a ≡ (if b then pos a else negsuc (2 ^ 64 - suc a))
by_sign true a e = ap (λ t. if t then pos a else negsuc (2 ^ 64 - suc a)) e
by_sign false a e = ap (λ t. if t then pos a else negsuc (2 ^ 64 - suc a)) e

few_by : (b : Bool) (a k : ℕ) → nat_lt a (2 ^ 63) ≡ b → (b ≡ true → a ≤ k) → (b ≡ false → suc (2 ^ 64 - suc a) ≤ k) → unsigned_abs (signed a) ≤ k
few_by true a k e here there = subst (λ z. unsigned_abs z ≤ k) (sym (by_sign true a e)) (here refl)
few_by false a k e here there = subst (λ z. unsigned_abs z ≤ k) (sym (by_sign false a e)) (there refl)

small_by : (c : Bool) (a : ℕ) → nat_lt (a % 2 ^ 32) (2 ^ 31) ≡ c → (if c then a % 2 ^ 32 else a % 2 ^ 32 + (2 ^ 64 - 2 ^ 32)) ≡ a → unsigned_abs (signed a) ≤ 2 ^ 31
small_by true a e is =
    let low : a < 2 ^ 31 = let less : a % 2 ^ 32 < 2 ^ 31 = grind (arith, nat_tests) in omega (arith, less, is) in
    let test : nat_lt a (2 ^ 63) ≡ true = grind (arith, nat_tests) in
    few_by true a (2 ^ 31) test (λ h. omega (arith, low)) (λ h. absurd (cc h))
small_by false a e is =
    let much : 2 ^ 31 ≤ a % 2 ^ 32 = grind (arith, nat_tests) in
    let high : 2 ^ 64 - 2 ^ 31 ≤ a = omega (arith, much, is) in
    let test : nat_lt a (2 ^ 63) ≡ false = grind (arith, nat_tests) in
    few_by false a (2 ^ 31) test (λ h. absurd (cc h)) (λ h. omega (arith, high))

operand_few : (w : WidthHere) (a : ℕ) → a < 2 ^ 64 → IsExtended w a → unsigned_abs (signed a) ≤ half w
operand_few width.Narrow a less e = small_by (nat_lt (a % 2 ^ 32) (2 ^ 31)) a refl e
operand_few width.Wide a less e = few_by (nat_lt a (2 ^ 63)) a (2 ^ 63) refl (λ h. grind (arith, nat_tests)) (λ h. grind (arith, nat_tests))

read_back : (a : ℕ) (x : ℤ) → a < 2 ^ 64 → x ≡ signed a → cast_signed w64 (cast_unsigned w64 x) ≡ signed a
read_back a x less e = ap (λ z. cast_signed w64 (cast_unsigned w64 z)) e ∙ ap (cast_signed w64) (of_z-to_z w64 a less)

pub quotient_is : (w : WidthHere) (a b word v : ℕ) (x y d : ℤ) → a < 2 ^ 64 → b < 2 ^ 64 → IsExtended w a → x ≡ signed a → y ≡ signed b →
    d ≡ cast_signed w64 (cast_unsigned w64 (int_div (cast_signed w64 (cast_unsigned w64 x)) (cast_signed w64 (cast_unsigned w64 y)))) → word ≡ cast_unsigned w64 (cast_signed w64 (cast_unsigned w64 d)) → ((n : ℕ) → word ≡ n % 2 ^ 64 → v ≡ wrapped (the_width w) n) →
    v ≡ wrapped_int (the_width w) (int_div (signed a) (signed b))
quotient_is w a b word v x y d less also ext first second e is clause =
    let few : unsigned_abs (int_div (signed a) (signed b)) ≤ half w = let one = quotient_few (signed a) (signed b) in let two = operand_few w a less ext in omega (arith, one, two) in
    let bounded = below (int_div (signed a) (signed b)) (within w (int_div (signed a) (signed b)) few) in
    let d_is : d ≡ cast_signed w64 (cast_unsigned w64 (int_div (signed a) (signed b))) = e ∙ ap (λ z. cast_signed w64 (cast_unsigned w64 (int_div z (cast_signed w64 (cast_unsigned w64 y))))) (read_back a x less first) ∙ ap (λ z. cast_signed w64 (cast_unsigned w64 (int_div (signed a) z))) (read_back b y also second) in
    word_is w (int_div (signed a) (signed b)) word v few (is ∙ ap (λ z. cast_unsigned w64 (cast_signed w64 (cast_unsigned w64 z))) d_is ∙ ap (λ k. cast_unsigned w64 (cast_signed w64 k)) (of_z-to_z w64 (cast_unsigned w64 (int_div (signed a) (signed b))) bounded)) clause

pub remainder_is : (w : WidthHere) (a b word v : ℕ) (x y d : ℤ) → a < 2 ^ 64 → b < 2 ^ 64 → IsExtended w a → x ≡ signed a → y ≡ signed b →
    d ≡ int_rem (cast_signed w64 (cast_unsigned w64 x)) (cast_signed w64 (cast_unsigned w64 y)) → word ≡ cast_unsigned w64 (cast_signed w64 (cast_unsigned w64 d)) → ((n : ℕ) → word ≡ n % 2 ^ 64 → v ≡ wrapped (the_width w) n) →
    v ≡ wrapped_int (the_width w) (int_rem (signed a) (signed b))
remainder_is w a b word v x y d less also ext first second e is clause =
    let few : unsigned_abs (int_rem (signed a) (signed b)) ≤ half w = let one = remainder_few (signed a) (signed b) in let two = operand_few w a less ext in omega (arith, one, two) in
    let d_is : d ≡ int_rem (signed a) (signed b) = e ∙ ap (λ z. int_rem z (cast_signed w64 (cast_unsigned w64 y))) (read_back a x less first) ∙ ap (λ z. int_rem (signed a) z) (read_back b y also second) in
    word_is w (int_rem (signed a) (signed b)) word v few (is ∙ ap (λ z. cast_unsigned w64 (cast_signed w64 (cast_unsigned w64 z))) d_is) clause
