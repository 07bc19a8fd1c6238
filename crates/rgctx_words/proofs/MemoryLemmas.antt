-- Lists of words as memory: what is put at the end, zeros, and what is cut off.
use Rattle.std.proofs.Common.{◌≡◌, ℕ, zero, suc, ◌-◌, Bool, true, false, List, [], ◌∷◌, ◌++◌, length, take, replicate, if◌then◌else◌, refl, ◌∙◌, arith}
use Rattle.std.specs.Prelude.{slice_index, nat_lt}
use Rattle.std.proofs.lemmas.Bool.Decides.{nat_tests}
use Rattle.rgctx_words.specs.Memory.{beyond}

-- the words of a list as memory has them
abbrev pub memory : List ℕ → ℕ → ℕ
memory words i = slice_index words i

-- functions that agree everywhere are equal
pub same_memory : {f g : ℕ → ℕ} → ((i : ℕ) → f i ≡ g i) → f ≡ g
same_memory h = λ i x. h x i

-- a test of the next numbers
next_test : (xs : List ℕ) (x i : ℕ) (more mem : ℕ → ℕ) → (if nat_lt i (length xs) then mem i else more (i - length xs)) ≡ (if nat_lt (suc i) (length (x ∷ xs)) then mem i else more (suc i - length (x ∷ xs)))
next_test xs x i more mem =
    let t : nat_lt (suc i) (suc (length xs)) ≡ nat_lt i (length xs) = grind (arith, nat_tests) in
    let e : suc i - suc (length xs) ≡ i - length xs = omega arith in
    rw (t, e) refl

word-append : (xs ys : List ℕ) (i : ℕ) → slice_index (xs ++ ys) i ≡ beyond (length xs) (memory ys) (memory xs) i
word-append [] ys i =
    let t : nat_lt i 0 ≡ false = grind (arith, nat_tests) in
    let e : i - 0 ≡ i = omega arith in
    rw (t, e) refl
word-append (x ∷ xs) ys zero = let t : nat_lt 0 (length (x ∷ xs)) ≡ true = grind (arith, nat_tests) in rw t refl
word-append (x ∷ xs) ys (suc i) = word-append xs ys i ∙ next_test xs x i (memory ys) (memory xs)

pub memory-append : (xs ys : List ℕ) → memory (xs ++ ys) ≡ beyond (length xs) (memory ys) (memory xs)
memory-append xs ys = same_memory (word-append xs ys)

word-zeros : (n i : ℕ) → slice_index (replicate n 0) i ≡ 0
word-zeros zero i = refl
word-zeros (suc n) zero = refl
word-zeros (suc n) (suc i) = word-zeros n i

word-append_zeros : (xs : List ℕ) (n i : ℕ) → slice_index (xs ++ replicate n 0) i ≡ slice_index xs i
word-append_zeros [] n i = word-zeros n i
word-append_zeros (x ∷ xs) n zero = refl
word-append_zeros (x ∷ xs) n (suc i) = word-append_zeros xs n i

-- zeros at the end change no word
pub memory-append_zeros : (xs : List ℕ) (n : ℕ) → memory (xs ++ replicate n 0) ≡ memory xs
memory-append_zeros xs n = same_memory (word-append_zeros xs n)

always_zero : (b : Bool) → ◌≡◌ {A = ℕ} 0 (if b then 0 else 0)
always_zero true = refl
always_zero false = refl

word-take : (xs : List ℕ) (n i : ℕ) → slice_index (take n xs) i ≡ beyond n (λ j. 0) (memory xs) i
word-take xs zero i = let t : nat_lt i 0 ≡ false = grind (arith, nat_tests) in rw t refl
word-take [] (suc n) i = always_zero (nat_lt i (suc n))
word-take (x ∷ xs) (suc n) zero = let t : nat_lt 0 (suc n) ≡ true = grind (arith, nat_tests) in rw t refl
word-take (x ∷ xs) (suc n) (suc i) = word-take xs n i ∙ (let t : nat_lt (suc i) (suc n) ≡ nat_lt i n = grind (arith, nat_tests) in rw t refl)

-- the words from an index on go
pub memory-take : (xs : List ℕ) (n : ℕ) → memory (take n xs) ≡ beyond n (λ j. 0) (memory xs)
memory-take xs n = same_memory (word-take xs n)
