-- Numbers on the stack: what arithmetic leaves is an int32 or an int64 again.
use Rattle.std.proofs.Common.{◌≡◌, ◌≢◌, ◌⊎◌, inl, inr, ⊎_elim, ℕ, zero, suc, ◌+◌, ◌-◌, ◌*◌, ◌/◌, ◌%◌, ◌^◌, ◌<◌, ◌≤◌, Bool, true, false, refl, sym, ap, ◌∙◌, subst, arith, eq-eqb, ltb-true, lt-ltb}
use Rattle.std.proofs.lemmas.Bool.Decides.{nat_tests}
use Rattle.std.proofs.lemmas.Nat.{and_le_l, or_lt, xor_lt, and_block, or_block, xor_block, mod_below}
use Rattle.std.proofs.Math.Nat.{div-le_self, div-mul-le_self}
use Rattle.std.specs.Prelude.{◌==◌, ◌&&◌, nat_lt, nat_le, if◌then◌else◌, ℤ, pos, negsuc, neg_ℤ, int_div, int_rem, bit_and, bit_or, bit_xor}
use Rattle.std.specs.Int.{int_shr}
use Rattle.std.specs.Int.Signed.{mag, mag_rem, mag_shr}
use Rattle.store_object.specs.Store.{sign_extended, summed}
use Rattle.cil_meaning.specs.Words.{narrow, signed, int32_word, int64_word}
use Rattle.cil_meaning.specs.Groups.{Wrapping, Sum, Difference, Product, Conjunction, Disjunction, Exclusive, Division, Quotient, Remainder, Shift, Leftwards, Rightwards, Unary, Negative, Complement}
use Rattle.cil_meaning.specs.Arithmetic.{Width, Narrow, Wide, bits_of, unsigned_at, wrapped, wrapped_int, wrapping_of, fits, fits_signed, passes_least, divides_past, divided, shifted_by, turned}
use Rattle.cil_safety.proofs.Fit.{IsInt32, plus, minus}

both : (a b : Bool) → (a && b) ≡ true → (a ≡ true) × (b ≡ true)
both true b e = (refl, e)
both false b e = absurd (cc e)

-- ---- int32

sign_extended_low : (n : ℕ) → n < 2 ^ 31 → sign_extended n ≡ n
sign_extended_low n h = let t : nat_lt n (2 ^ 31) ≡ true = lt-ltb n (2 ^ 31) h in rw t refl

sign_extended_high : (n : ℕ) → 2 ^ 31 ≤ n → sign_extended n ≡ n + (2 ^ 64 - 2 ^ 32)
sign_extended_high n h = let t : nat_lt n (2 ^ 31) ≡ false = grind (arith, nat_tests) in rw t refl

pub sign_extended_fits : (n : ℕ) → n < 2 ^ 32 → IsInt32 (sign_extended n)
sign_extended_fits n h = by_test (nat_lt n (2 ^ 31)) refl
  where
    by_test : (b : Bool) → nat_lt n (2 ^ 31) ≡ b → IsInt32 (if b then n else n + (2 ^ 64 - 2 ^ 32))
    by_test true e = plus (ltb-true n (2 ^ 31) e)
    by_test false e = let high : 2 ^ 31 ≤ n = grind (arith, nat_tests) in minus (omega (arith, high)) (omega (arith, h))

pub below_low : (n : ℕ) → n % 2 ^ 32 < 2 ^ 32
below_low n = mod_below n (2 ^ 32) (omega arith)

pub narrow_fits : (n : ℕ) → IsInt32 (narrow n)
narrow_fits n = sign_extended_fits (n % 2 ^ 32) (below_low n)

-- an int32 stands as it is narrowed
pub narrow_is : (w : ℕ) → IsInt32 w → narrow w ≡ w
narrow_is w (plus h) =
    let m : w % 2 ^ 32 ≡ w = omega (arith, h) in
    ap sign_extended m ∙ sign_extended_low w h
narrow_is w (minus h k) =
    let m : w % 2 ^ 32 ≡ w - (2 ^ 64 - 2 ^ 32) = omega (arith, h, k) in
    let high : 2 ^ 31 ≤ w - (2 ^ 64 - 2 ^ 32) = omega (arith, h) in
    let back : w - (2 ^ 64 - 2 ^ 32) + (2 ^ 64 - 2 ^ 32) ≡ w = omega (arith, h) in
    ap sign_extended m ∙ sign_extended_high (w - (2 ^ 64 - 2 ^ 32)) high ∙ back

pub int32_below : (w : ℕ) → IsInt32 w → w < 2 ^ 64
int32_below w (plus h) = omega (arith, h)
int32_below w (minus h k) = k

pub int32_word_fits : (z : ℤ) → mag z < 2 ^ 31 → IsInt32 (int32_word z)
int32_word_fits (pos n) h = sign_extended_fits n (omega (arith, h))
int32_word_fits (negsuc n) h = sign_extended_fits (2 ^ 32 - suc n) (omega arith)

pub int64_word_fits : (z : ℤ) → mag z < 2 ^ 63 → int64_word z < 2 ^ 64
int64_word_fits (pos n) h = omega (arith, h)
int64_word_fits (negsuc n) h = omega arith

-- the number that a word is, as its magnitude
signed_low : (w : ℕ) → w < 2 ^ 63 → signed w ≡ pos w
signed_low w h = let t : nat_lt w (2 ^ 63) ≡ true = lt-ltb w (2 ^ 63) h in rw t refl

signed_high : (w : ℕ) → 2 ^ 63 ≤ w → signed w ≡ negsuc (2 ^ 64 - suc w)
signed_high w h = let t : nat_lt w (2 ^ 63) ≡ false = grind (arith, nat_tests) in rw t refl

pub signed_int32 : (w : ℕ) → IsInt32 w → mag (signed w) < 2 ^ 31
signed_int32 w (plus h) = subst (λ z. mag z < 2 ^ 31) (sym (signed_low w (omega (arith, h)))) h
signed_int32 w (minus h k) = subst (λ z. mag z < 2 ^ 31) (sym (signed_high w (omega (arith, h)))) (let r : 2 ^ 64 - suc w < 2 ^ 31 = omega (arith, h, k) in r)

pub signed_int64 : (w : ℕ) → w < 2 ^ 64 → mag (signed w) < 2 ^ 63
signed_int64 w h = ⊎_elim
    (λ (c : w < 2 ^ 63). subst (λ z. mag z < 2 ^ 63) (sym (signed_low w c)) c)
    (λ (c : 2 ^ 63 ≤ w). subst (λ z. mag z < 2 ^ 63) (sym (signed_high w c)) (let r : 2 ^ 64 - suc w < 2 ^ 63 = omega (arith, h, c) in r))
    (split w)
  where
    split : (w : ℕ) → (w < 2 ^ 63) ⊎ (2 ^ 63 ≤ w)
    split w = by_test (nat_lt w (2 ^ 63)) refl
      where
        by_test : (b : Bool) → nat_lt w (2 ^ 63) ≡ b → (w < 2 ^ 63) ⊎ (2 ^ 63 ≤ w)
        by_test true e = inl (ltb-true w (2 ^ 63) e)
        by_test false e = inr (grind (arith, nat_tests))

-- ---- both widths

-- a number of a width
abbrev pub NumberFits : Width → ℕ → Type 0
NumberFits Narrow w = IsInt32 w
NumberFits Wide w = w < 2 ^ 64

abbrev pub magnitude : Width → ℕ
magnitude Narrow = 2 ^ 31
magnitude Wide = 2 ^ 63

pub number_below : (width : Width) (w : ℕ) → NumberFits width w → w < 2 ^ 64
number_below Narrow w h = int32_below w h
number_below Wide w h = h

pub signed_fits : (width : Width) (w : ℕ) → NumberFits width w → mag (signed w) < magnitude width
signed_fits Narrow w h = signed_int32 w h
signed_fits Wide w h = signed_int64 w h

pub wrapped_fits : (width : Width) (n : ℕ) → NumberFits width (wrapped width n)
wrapped_fits Narrow n = narrow_fits n
wrapped_fits Wide n = mod_below n (2 ^ 64) (omega arith)

pub wrapped_int_fits : (width : Width) (z : ℤ) → mag z < magnitude width → NumberFits width (wrapped_int width z)
wrapped_int_fits Narrow z h = int32_word_fits z h
wrapped_int_fits Wide z h = int64_word_fits z h

pub bit_fits : (width : Width) (n : ℕ) → n < 2 ^ 31 → NumberFits width n
bit_fits Narrow n h = plus h
bit_fits Wide n h = omega (arith, h)

-- ---- bitwise

-- the high bits of an int32 are all 0 or all 1
record Split (w : ℕ) : Type 0 where
  high : ℕ
  low : ℕ
  sign : (high ≡ 0) ⊎ (high ≡ 2 ^ 33 - 1)
  small : low < 2 ^ 31
  is : w ≡ high * 2 ^ 31 + low

split_of : (w : ℕ) → IsInt32 w → Split w
split_of w (plus h) = record { high = 0; low = w; sign = inl refl; small = h; is = omega arith }
split_of w (minus h k) = record { high = 2 ^ 33 - 1; low = w - (2 ^ 64 - 2 ^ 31); sign = inr refl; small = omega (arith, h, k); is = omega (arith, h) }

joined : (high low : ℕ) → (high ≡ 0) ⊎ (high ≡ 2 ^ 33 - 1) → low < 2 ^ 31 → IsInt32 (high * 2 ^ 31 + low)
joined high low (inl e) h = plus (omega (arith, e, h))
joined high low (inr e) h = minus (omega (arith, e, h)) (omega (arith, e, h))

-- an operation on bits that keeps 0 and all ones
bits_fit : (f : ℕ → ℕ → ℕ) → ((a b r s : ℕ) → r < 2 ^ 31 → s < 2 ^ 31 → f (a * 2 ^ 31 + r) (b * 2 ^ 31 + s) ≡ f a b * 2 ^ 31 + f r s) →
    ((r s : ℕ) → r < 2 ^ 31 → s < 2 ^ 31 → f r s < 2 ^ 31) →
    ((x y : Bool) → (f (if x then 2 ^ 33 - 1 else 0) (if y then 2 ^ 33 - 1 else 0) ≡ 0) ⊎ (f (if x then 2 ^ 33 - 1 else 0) (if y then 2 ^ 33 - 1 else 0) ≡ 2 ^ 33 - 1)) →
    (a b : ℕ) → IsInt32 a → IsInt32 b → IsInt32 (f a b)
bits_fit f block low high a b ha hb =
    let s = split_of a ha in
    let t = split_of b hb in
    let e : f a b ≡ f s.high t.high * 2 ^ 31 + f s.low t.low = ap (λ z. f z b) s.is ∙ ap (λ z. f (s.high * 2 ^ 31 + s.low) z) t.is ∙ block s.high t.high s.low t.low s.small t.small in
    subst (λ z. IsInt32 z) (sym e) (joined (f s.high t.high) (f s.low t.low) (by_signs s.high t.high s.sign t.sign) (low s.low t.low s.small t.small))
  where
    by_signs : (x y : ℕ) → (x ≡ 0) ⊎ (x ≡ 2 ^ 33 - 1) → (y ≡ 0) ⊎ (y ≡ 2 ^ 33 - 1) → (f x y ≡ 0) ⊎ (f x y ≡ 2 ^ 33 - 1)
    by_signs x y (inl e) (inl d) = subst (λ z. (f z y ≡ 0) ⊎ (f z y ≡ 2 ^ 33 - 1)) (sym e) (subst (λ z. (f 0 z ≡ 0) ⊎ (f 0 z ≡ 2 ^ 33 - 1)) (sym d) (high false false))
    by_signs x y (inl e) (inr d) = subst (λ z. (f z y ≡ 0) ⊎ (f z y ≡ 2 ^ 33 - 1)) (sym e) (subst (λ z. (f 0 z ≡ 0) ⊎ (f 0 z ≡ 2 ^ 33 - 1)) (sym d) (high false true))
    by_signs x y (inr e) (inl d) = subst (λ z. (f z y ≡ 0) ⊎ (f z y ≡ 2 ^ 33 - 1)) (sym e) (subst (λ z. (f (2 ^ 33 - 1) z ≡ 0) ⊎ (f (2 ^ 33 - 1) z ≡ 2 ^ 33 - 1)) (sym d) (high true false))
    by_signs x y (inr e) (inr d) = subst (λ z. (f z y ≡ 0) ⊎ (f z y ≡ 2 ^ 33 - 1)) (sym e) (subst (λ z. (f (2 ^ 33 - 1) z ≡ 0) ⊎ (f (2 ^ 33 - 1) z ≡ 2 ^ 33 - 1)) (sym d) (high true true))

and_below : (k a b : ℕ) → a < 2 ^ k → bit_and a b < 2 ^ k
and_below k a b h = let le : bit_and a b ≤ a = and_le_l a b in omega (arith, le, h)

and_int32 : (a b : ℕ) → IsInt32 a → IsInt32 b → IsInt32 (bit_and a b)
and_int32 = bit_and_fit
  where
    signs : (x y : Bool) → (bit_and (if x then 2 ^ 33 - 1 else 0) (if y then 2 ^ 33 - 1 else 0) ≡ 0) ⊎ (bit_and (if x then 2 ^ 33 - 1 else 0) (if y then 2 ^ 33 - 1 else 0) ≡ 2 ^ 33 - 1)
    signs false false = inl refl
    signs false true = inl refl
    signs true false = inl refl
    signs true true = inr refl

    bit_and_fit : (a b : ℕ) → IsInt32 a → IsInt32 b → IsInt32 (bit_and a b)
    bit_and_fit = bits_fit bit_and (λ a b r s h k. and_block 31 a b r s h k) (λ r s h k. and_below 31 r s h) signs

or_int32 : (a b : ℕ) → IsInt32 a → IsInt32 b → IsInt32 (bit_or a b)
or_int32 = bit_or_fit
  where
    signs : (x y : Bool) → (bit_or (if x then 2 ^ 33 - 1 else 0) (if y then 2 ^ 33 - 1 else 0) ≡ 0) ⊎ (bit_or (if x then 2 ^ 33 - 1 else 0) (if y then 2 ^ 33 - 1 else 0) ≡ 2 ^ 33 - 1)
    signs false false = inl refl
    signs false true = inr refl
    signs true false = inr refl
    signs true true = inr refl

    bit_or_fit : (a b : ℕ) → IsInt32 a → IsInt32 b → IsInt32 (bit_or a b)
    bit_or_fit = bits_fit bit_or (λ a b r s h k. or_block 31 a b r s h k) (λ r s h k. or_lt 31 r s h k) signs

xor_int32 : (a b : ℕ) → IsInt32 a → IsInt32 b → IsInt32 (bit_xor a b)
xor_int32 = bit_xor_fit
  where
    signs : (x y : Bool) → (bit_xor (if x then 2 ^ 33 - 1 else 0) (if y then 2 ^ 33 - 1 else 0) ≡ 0) ⊎ (bit_xor (if x then 2 ^ 33 - 1 else 0) (if y then 2 ^ 33 - 1 else 0) ≡ 2 ^ 33 - 1)
    signs false false = inl refl
    signs false true = inr refl
    signs true false = inr refl
    signs true true = inl refl

    bit_xor_fit : (a b : ℕ) → IsInt32 a → IsInt32 b → IsInt32 (bit_xor a b)
    bit_xor_fit = bits_fit bit_xor (λ a b r s h k. xor_block 31 a b r s h k) (λ r s h k. xor_lt 31 r s h k) signs

-- ---- results

pub wrapping_fits : (f : Wrapping) (width : Width) (a b : ℕ) → NumberFits width a → NumberFits width b → NumberFits width (wrapping_of f width a b)
wrapping_fits Sum width a b h k = wrapped_fits width (a + b)
wrapping_fits Difference width a b h k = wrapped_fits width (a + (2 ^ 64 - b))
wrapping_fits Product width a b h k = wrapped_fits width (a * b)
wrapping_fits Conjunction Narrow a b h k = and_int32 a b h k
wrapping_fits Conjunction Wide a b h k = and_below 64 a b h
wrapping_fits Disjunction Narrow a b h k = or_int32 a b h k
wrapping_fits Disjunction Wide a b h k = or_lt 64 a b h k
wrapping_fits Exclusive Narrow a b h k = xor_int32 a b h k
wrapping_fits Exclusive Wide a b h k = xor_lt 64 a b h k

-- an exact result that fits its width
pub checked_fits : (is_signed : Bool) (width : Width) (z : ℤ) → fits is_signed width z ≡ true → NumberFits width (wrapped_int width z)
checked_fits true Narrow (pos n) h = let lt : n < 2 ^ 31 = ltb-true n (2 ^ 31) (both true (nat_lt n (2 ^ 31)) h).1 in int32_word_fits (pos n) lt
checked_fits true Narrow (negsuc n) h = let le : nat_le n (2 ^ 31 - 1) ≡ true = (both (nat_le n (2 ^ 31 - 1)) true h).0 in int32_word_fits (negsuc n) (grind (arith, nat_tests))
checked_fits true Wide (pos n) h = let lt : n < 2 ^ 63 = ltb-true n (2 ^ 63) (both true (nat_lt n (2 ^ 63)) h).1 in int64_word_fits (pos n) lt
checked_fits true Wide (negsuc n) h = let le : nat_le n (2 ^ 63 - 1) ≡ true = (both (nat_le n (2 ^ 63 - 1)) true h).0 in int64_word_fits (negsuc n) (grind (arith, nat_tests))
checked_fits false Narrow (pos n) h = let lt : n < 2 ^ 32 = ltb-true n (2 ^ 32) (both (nat_le 0 n) (nat_lt n (2 ^ 32)) h).1 in sign_extended_fits n lt
checked_fits false Narrow (negsuc n) h = absurd (cc h)
checked_fits false Wide (pos n) h = ltb-true n (2 ^ 64) (both (nat_le 0 n) (nat_lt n (2 ^ 64)) h).1
checked_fits false Wide (negsuc n) h = absurd (cc h)

pub shifted_fits : (f : Shift) (width : Width) (a count : ℕ) → NumberFits width a → NumberFits width (shifted_by f width a count)
shifted_fits Leftwards width a count h = wrapped_fits width (a * 2 ^ (count % bits_of width))
shifted_fits (Rightwards true) width a count h =
    let le : mag (int_shr (signed a) (count % bits_of width)) ≤ mag (signed a) = mag_shr (signed a) (2 ^ (count % bits_of width)) in
    let lt : mag (signed a) < magnitude width = signed_fits width a h in
    wrapped_int_fits width (int_shr (signed a) (count % bits_of width)) (omega (arith, le, lt))
shifted_fits (Rightwards false) width a count h = wrapped_fits width (unsigned_at width a / 2 ^ (count % bits_of width))

complement_int32 : (a : ℕ) → IsInt32 a → IsInt32 (2 ^ 64 - 1 - a)
complement_int32 a (plus h) = minus (omega (arith, h)) (omega (arith, h))
complement_int32 a (minus h k) = plus (omega (arith, h, k))

pub turned_fits : (f : Unary) (width : Width) (a : ℕ) → NumberFits width a → NumberFits width (turned f width a)
turned_fits Negative width a h = wrapped_fits width (2 ^ 64 - a)
turned_fits Complement Narrow a h = complement_int32 a h
turned_fits Complement Wide a h = omega arith

-- ---- division

-- the quotient of numbers of a width is one, but for the least by -1
negated_below : (n m : ℕ) → n ≤ m → 0 < m → mag (neg_ℤ (pos n)) < m
negated_below zero m h k = k
negated_below (suc n) m h k = omega (arith, h)

quotient_small : (x y : ℤ) (m : ℕ) → mag x < m → (x ≡ negsuc (m - 1) → y ≡ negsuc 0 → ⊥) → mag (int_div x y) < m
quotient_small (pos a) (pos b) m h ne = let le : a / b ≤ a = div-le_self a b in omega (arith, le, h)
quotient_small (pos a) (negsuc b) m h ne = let le : a / suc b ≤ a = div-le_self a (suc b) in negated_below (a / suc b) m (omega (arith, le, h)) (omega (arith, h))
quotient_small (negsuc a) (pos b) m h ne = let le : suc a / b ≤ suc a = div-le_self (suc a) b in negated_below (suc a / b) m (omega (arith, le, h)) (omega (arith, h))
quotient_small (negsuc a) (negsuc zero) m h ne =
    let one : suc a / 1 ≡ suc a = omega arith in
    let differ : a ≢ m - 1 = λ e. ne (ap negsuc e) refl in
    omega (arith, one, h, differ)
quotient_small (negsuc a) (negsuc (suc b)) m h ne =
    let le : suc a / suc (suc b) ≤ a = half a b in
    omega (arith, le, h)
  where
    half : (a b : ℕ) → suc a / suc (suc b) ≤ a
    half a b =
        let fits' : suc a / suc (suc b) * suc (suc b) ≤ suc a = div-mul-le_self (suc a) (suc (suc b)) in
        let parts : suc a / suc (suc b) * suc (suc b) ≡ suc a / suc (suc b) * b + suc a / suc (suc b) * 2 = grind arith in
        omega (arith, fits', parts)

signed_negative : (w k : ℕ) → w < 2 ^ 64 → signed w ≡ negsuc k → w + suc k ≡ 2 ^ 64
signed_negative w k h e = by_test (nat_lt w (2 ^ 63)) refl
  where
    by_test : (b : Bool) → nat_lt w (2 ^ 63) ≡ b → w + suc k ≡ 2 ^ 64
    by_test true t = let lt : w < 2 ^ 63 = ltb-true w (2 ^ 63) t in let p : signed w ≡ pos w = signed_low w lt in absurd (cc (p, e))
    by_test false t =
        let high : 2 ^ 63 ≤ w = grind (arith, nat_tests) in
        let q : signed w ≡ negsuc (2 ^ 64 - suc w) = signed_high w high in
        let r : 2 ^ 64 - suc w ≡ k = cc (q, e) in
        omega (arith, r, h)

least_is : (width : Width) (a b : ℕ) → a < 2 ^ 64 → b < 2 ^ 64 → passes_least width a b ≡ false → signed a ≡ negsuc (magnitude width - 1) → signed b ≡ negsuc 0 → ⊥
least_is Narrow a b ha hb no' e f =
    let x : a + suc (2 ^ 31 - 1) ≡ 2 ^ 64 = signed_negative a (2 ^ 31 - 1) ha e in
    let y : b + suc 0 ≡ 2 ^ 64 = signed_negative b 0 hb f in
    let p : (a == 2 ^ 64 - 2 ^ 31) ≡ true = eq-eqb a (2 ^ 64 - 2 ^ 31) (omega (arith, x)) in
    let q : (b == 2 ^ 64 - 1) ≡ true = eq-eqb b (2 ^ 64 - 1) (omega (arith, y)) in
    let r : ((a == 2 ^ 64 - 2 ^ 31) && (b == 2 ^ 64 - 1)) ≡ true = rw (p, q) refl in
    cc (r, no')
least_is Wide a b ha hb no' e f =
    let x : a + suc (2 ^ 63 - 1) ≡ 2 ^ 64 = signed_negative a (2 ^ 63 - 1) ha e in
    let y : b + suc 0 ≡ 2 ^ 64 = signed_negative b 0 hb f in
    let p : (a == 2 ^ 64 - 2 ^ 63) ≡ true = eq-eqb a (2 ^ 64 - 2 ^ 63) (omega (arith, x)) in
    let q : (b == 2 ^ 64 - 1) ≡ true = eq-eqb b (2 ^ 64 - 1) (omega (arith, y)) in
    let r : ((a == 2 ^ 64 - 2 ^ 63) && (b == 2 ^ 64 - 1)) ≡ true = rw (p, q) refl in
    cc (r, no')

pub divided_fits : (f : Division) (width : Width) (a b : ℕ) → NumberFits width a → NumberFits width b → divides_past f width a b ≡ false → NumberFits width (divided f width a b)
divided_fits (Quotient true) width a b h k no' = wrapped_int_fits width (int_div (signed a) (signed b)) (quotient_small (signed a) (signed b) (magnitude width) (signed_fits width a h) (least_is width a b (number_below width a h) (number_below width b k) no'))
divided_fits (Quotient false) width a b h k no' = wrapped_fits width (unsigned_at width a / unsigned_at width b)
divided_fits (Remainder true) width a b h k no' =
    let le : mag (int_rem (signed a) (signed b)) ≤ mag (signed a) = mag_rem (signed a) (signed b) in
    let lt : mag (signed a) < magnitude width = signed_fits width a h in
    wrapped_int_fits width (int_rem (signed a) (signed b)) (omega (arith, le, lt))
divided_fits (Remainder false) width a b h k no' = wrapped_fits width (unsigned_at width a % unsigned_at width b)

-- what one word read and written at once leaves
pub summed_int32 : (old w : ℕ) → IsInt32 (summed true old w)
summed_int32 old w = sign_extended_fits ((old + w) % 2 ^ 32) (below_low (old + w))

pub summed_int64 : (old w : ℕ) → summed false old w < 2 ^ 64
summed_int64 old w = mod_below (old + w) (2 ^ 64) (omega arith)

-- a word whose number fits 32 bits is an int32
pub narrow_low : (w : ℕ) → w < 2 ^ 64 → fits_signed Narrow (signed w) ≡ true → IsInt32 w
narrow_low w h e = by_test (nat_lt w (2 ^ 63)) refl
  where
    by_test : (b : Bool) → nat_lt w (2 ^ 63) ≡ b → IsInt32 w
    by_test true t =
        let lt : w < 2 ^ 63 = ltb-true w (2 ^ 63) t in
        let q : fits_signed Narrow (pos w) ≡ true = subst (λ z. fits_signed Narrow z ≡ true) (signed_low w lt) e in
        plus (ltb-true w (2 ^ 31) (both true (nat_lt w (2 ^ 31)) q).1)
    by_test false t =
        let high : 2 ^ 63 ≤ w = grind (arith, nat_tests) in
        let q : fits_signed Narrow (negsuc (2 ^ 64 - suc w)) ≡ true = subst (λ z. fits_signed Narrow z ≡ true) (signed_high w high) e in
        let le : nat_le (2 ^ 64 - suc w) (2 ^ 31 - 1) ≡ true = (both (nat_le (2 ^ 64 - suc w) (2 ^ 31 - 1)) true q).0 in
        let le' : 2 ^ 64 - suc w ≤ 2 ^ 31 - 1 = grind (arith, nat_tests) in
        minus (omega (arith, le', h)) h
