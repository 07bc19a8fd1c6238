-- Checked arithmetic without sign.
use Rattle.std.proofs.Common.{◌≡◌, ◌∙◌, ℕ, ◌+◌, ◌-◌, ◌%◌, ◌^◌, Bool, true, false, ◌&&◌, Some, None, if◌then◌else◌, nat_lt, pos, refl, sym, ap, arith}
use Rattle.std.proofs.lemmas.Bool.Decides.{nat_tests}
use Rattle.cil_meaning.specs.Arithmetic.{Width, Narrow, Wide, unsigned_at, wrapped, wrapped_int, fits_unsigned, exact_of}
use Rattle.unshared.specs.declared.numbers.Checked.{Checked}
use Rattle.unshared.specs.declared.numbers.Checked.TheVariants as checked
use Rattle.unshared.specs.Checked.{checked_word}
use Rattle.unshared.specs.Forms.{the_checked, exact_int}

exact_is : (f : Checked) (w : Width) (a b : ℕ) → exact_of (the_checked f false) w a b ≡ exact_int f (pos (unsigned_at w a)) (pos (unsigned_at w b))
exact_is checked.Sum w a b = refl
exact_is checked.Difference w a b = refl
exact_is checked.Product w a b = refl

word_by : (f : Checked) (w : Width) (a b : ℕ) → checked_word (the_checked f false) w a b ≡ (if fits_unsigned w (exact_of (the_checked f false) w a b) then Some (wrapped_int w (exact_of (the_checked f false) w a b)) else None)
word_by checked.Sum w a b = refl
word_by checked.Difference w a b = refl
word_by checked.Product w a b = refl

second_of : (a b : Bool) → (a && b) ≡ true → b ≡ true
second_of true b e = e
second_of false b e = absurd (cc e)

word_is : (w : Width) (number : ℕ) → fits_unsigned w (pos number) ≡ true → wrapped_int w (pos number) ≡ wrapped w number
word_is Narrow number fits = let below : number % 2 ^ 32 ≡ number = let less : nat_lt number (2 ^ 32) ≡ true = second_of _ (nat_lt number (2 ^ 32)) fits in grind (arith, nat_tests) in ap (λ k. if nat_lt k (2 ^ 31) then k else k + (2 ^ 64 - 2 ^ 32)) (sym below)
word_is Wide number fits = let below : number % 2 ^ 64 ≡ number = let less : nat_lt number (2 ^ 64) ≡ true = second_of _ (nat_lt number (2 ^ 64)) fits in grind (arith, nat_tests) in sym below

pub unsigned_some : (f : Checked) (w : Width) (a b number v : ℕ) → pos number ≡ exact_int f (pos (unsigned_at w a)) (pos (unsigned_at w b)) → fits_unsigned w (pos number) ≡ true → v ≡ wrapped w number →
    Some v ≡ checked_word (the_checked f false) w a b
unsigned_some f w a b number v e fits is =
    let exact : exact_of (the_checked f false) w a b ≡ pos number = exact_is f w a b ∙ sym e in
    sym (word_by f w a b
    ∙ ap (λ z. if fits_unsigned w z then Some (wrapped_int w z) else None) exact
    ∙ ap (λ t. if t then Some (wrapped_int w (pos number)) else None) fits
    ∙ ap Some (word_is w number fits ∙ sym is))

pub unsigned_none : (f : Checked) (w : Width) (a b : ℕ) → fits_unsigned w (exact_int f (pos (unsigned_at w a)) (pos (unsigned_at w b))) ≡ false → None ≡ checked_word (the_checked f false) w a b
unsigned_none f w a b fails =
    sym (word_by f w a b
    ∙ ap (λ z. if fits_unsigned w z then Some (wrapped_int w z) else None) (exact_is f w a b)
    ∙ ap (λ t. if t then Some (wrapped_int w (exact_int f (pos (unsigned_at w a)) (pos (unsigned_at w b)))) else None) fails)
