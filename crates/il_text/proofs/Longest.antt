-- The longest front of bytes that passes a test.
use Rattle.std.proofs.Common.{◌≡◌, ◌≢◌, ◌<◌, ◌≤◌, ◌+◌, ◌&&◌, ◌||◌, ◌==◌, ℕ, zero, suc, max, Bool, true, false, cond, nat_lt, List, [], ◌∷◌, length, take, refl, sym, ap, ◌∙◌, arith, inl, inr, eq-eqb, eqb-true}
use Rattle.std.specs.List.{prefix_len, list_all}
use Rattle.std.proofs.lemmas.Bool.{cases_Bool, cases_eq, cases_lt, or_left, or_right, or_from, and_left, and_right, and_from}
use Rattle.std.proofs.lemmas.List.Sums.{prefix_len-le-length}
use Rattle.il_text.specs.Spelling.{is_led_by, is_run}
use Rattle.il_text.specs.Faults.{longest_front}

-- how long a front is with k bytes before it, where there is one
abbrev pub shifted : ℕ → ℕ → ℕ
shifted k n = cond (nat_lt 0 n) (k + n) 0

step_true : (test : List ℕ → Bool) (n : ℕ) (bytes : List ℕ) → test (take (suc n) bytes) ≡ true → longest_front test (suc n) bytes ≡ suc n
step_true test n bytes e = ap (λ b. cond b (suc n) (longest_front test n bytes)) e

step_false : (test : List ℕ → Bool) (n : ℕ) (bytes : List ℕ) → test (take (suc n) bytes) ≡ false → longest_front test (suc n) bytes ≡ longest_front test n bytes
step_false test n bytes e = ap (λ b. cond b (suc n) (longest_front test n bytes)) e

pub longest_front-le : (test : List ℕ → Bool) (n : ℕ) (bytes : List ℕ) → longest_front test n bytes ≤ n
longest_front-le test zero bytes = omega arith
longest_front-le test (suc n) bytes =
    elim (cases_Bool (test (take (suc n) bytes))) [
      | inl e ↦ omega (arith, step_true test n bytes e)
      | inr e ↦ omega (arith, step_false test n bytes e, longest_front-le test n bytes)
    ]

pub longest_front-spells : (test : List ℕ → Bool) (n : ℕ) (bytes : List ℕ) → 0 < longest_front test n bytes → test (take (longest_front test n bytes) bytes) ≡ true
longest_front-spells test zero bytes l = absurd (omega (arith, l))
longest_front-spells test (suc n) bytes l =
    elim (cases_Bool (test (take (suc n) bytes))) [
      | inl e ↦ ap (λ k. test (take k bytes)) (step_true test n bytes e) ∙ e
      | inr e ↦ ap (λ k. test (take k bytes)) (step_false test n bytes e) ∙ longest_front-spells test n bytes (omega (arith, l, step_false test n bytes e))
    ]

pub longest_front-longest : (test : List ℕ → Bool) (n : ℕ) (bytes : List ℕ) (m : ℕ) → longest_front test n bytes < m → m ≤ n → test (take m bytes) ≡ false
longest_front-longest test zero bytes m l h = absurd (omega (arith, l, h))
longest_front-longest test (suc n) bytes m l h =
    elim (cases_Bool (test (take (suc n) bytes))) [
      | inl e ↦ absurd (omega (arith, l, h, step_true test n bytes e))
      | inr e ↦ elim (cases_eq m (suc n)) [
        | inl same ↦ ap (λ k. test (take k bytes)) same ∙ e
        | inr other ↦ longest_front-longest test n bytes m (omega (arith, l, step_false test n bytes e)) (omega (arith, h, other))
      ]
    ]

-- what is true of the longest front fixes it
pub longest_front-is : (test : List ℕ → Bool) (n : ℕ) (bytes : List ℕ) (k : ℕ) → k ≤ n → (0 < k → test (take k bytes) ≡ true) → ((m : ℕ) → k < m → m ≤ n → test (take m bytes) ≡ false) → longest_front test n bytes ≡ k
longest_front-is test zero bytes k le spelled longer = omega (arith, le)
longest_front-is test (suc n) bytes k le spelled longer =
    elim (cases_eq k (suc n)) [
      | inl same ↦ step_true test n bytes (ap (λ j. test (take j bytes)) (sym same) ∙ spelled (omega (arith, same))) ∙ sym same
      | inr other ↦ step_false test n bytes (longer (suc n) (omega (arith, le, other)) (omega arith)) ∙ longest_front-is test n bytes k (omega (arith, le, other)) spelled (λ m l h. longer m l (omega (arith, h)))
    ]

pub longest_front-none : (test : List ℕ → Bool) (n : ℕ) (bytes : List ℕ) → ((m : ℕ) → 0 < m → m ≤ n → test (take m bytes) ≡ false) → longest_front test n bytes ≡ 0
longest_front-none test n bytes none = longest_front-is test n bytes 0 (omega arith) (λ l. absurd (omega (arith, l))) none

pub longest_front-same : (p q : List ℕ → Bool) (n : ℕ) (bytes : List ℕ) → ((m : ℕ) → 0 < m → m ≤ n → p (take m bytes) ≡ q (take m bytes)) → longest_front p n bytes ≡ longest_front q n bytes
longest_front-same p q n bytes same =
    longest_front-is p n bytes (longest_front q n bytes) (longest_front-le q n bytes)
    (λ l. same (longest_front q n bytes) l (longest_front-le q n bytes) ∙ longest_front-spells q n bytes l)
    (λ m l h. same m (omega (arith, l)) h ∙ longest_front-longest q n bytes m l h)

pub longest_front-or : (p q : List ℕ → Bool) (n : ℕ) (bytes : List ℕ) → longest_front (λ bs. p bs || q bs) n bytes ≡ max (longest_front p n bytes) (longest_front q n bytes)
longest_front-or p q n bytes =
    let a = longest_front p n bytes in
    let b = longest_front q n bytes in
    let k = max a b in
    longest_front-is (λ bs. p bs || q bs) n bytes k
    (omega (arith, longest_front-le p n bytes, longest_front-le q n bytes))
    (λ l. elim (cases_lt a b) [
      | inl less ↦ let same : k ≡ b = omega arith in or_right (p (take k bytes)) (q (take k bytes)) (ap (λ j. q (take j bytes)) same ∙ longest_front-spells q n bytes (omega arith))
      | inr more ↦ let same : k ≡ a = omega arith in or_left (p (take k bytes)) (q (take k bytes)) (ap (λ j. p (take j bytes)) same ∙ longest_front-spells p n bytes (omega arith))
    ])
    (λ m l h. or_from (p (take m bytes)) (q (take m bytes)) (longest_front-longest p n bytes m (omega arith) h) (longest_front-longest q n bytes m (omega arith) h))

shifted_suc : (n : ℕ) → shifted 1 (suc n) ≡ suc (suc n)
shifted_suc n = grind arith

-- a first byte, and then what another test says of the rest
pub longest_front-shift : (test after : List ℕ → Bool) (n b : ℕ) (rest : List ℕ) → ((m : ℕ) → test (b ∷ take m rest) ≡ after (take m rest)) → after [] ≡ false → longest_front test (suc n) (b ∷ rest) ≡ shifted 1 (longest_front after n rest)
longest_front-shift test after zero b rest same none = step_false test 0 (b ∷ rest) (same 0 ∙ none)
longest_front-shift test after (suc n) b rest same none =
    elim (cases_Bool (after (take (suc n) rest))) [
      | inl e ↦ step_true test (suc n) (b ∷ rest) (same (suc n) ∙ e) ∙ sym (ap (shifted 1) (step_true after n rest e) ∙ shifted_suc n)
      | inr e ↦ step_false test (suc n) (b ∷ rest) (same (suc n) ∙ e) ∙ longest_front-shift test after n b rest same none ∙ sym (ap (shifted 1) (step_false after n rest e))
    ]

same_led : (first : ℕ) (test : List ℕ → Bool) (bytes : List ℕ) → is_led_by first test (first ∷ bytes) ≡ test bytes
same_led first test bytes = ap (λ b. b && test bytes) (eq-eqb first first refl)

pub longest_front-led : (first : ℕ) (test : List ℕ → Bool) (bytes rest : List ℕ) → bytes ≡ first ∷ rest → test [] ≡ false → longest_front (is_led_by first test) (length bytes) bytes ≡ shifted 1 (longest_front test (length rest) rest)
longest_front-led first test bytes rest e none =
    ap (λ bs. longest_front (is_led_by first test) (length bs) bs) e
    ∙ longest_front-shift (is_led_by first test) test (length rest) first rest (λ m. same_led first test (take m rest)) none

no_led : (first : ℕ) (test : List ℕ → Bool) (bytes : List ℕ) (m : ℕ) → ((rest : List ℕ) → bytes ≢ first ∷ rest) → is_led_by first test (take m bytes) ≡ false
no_led first test bytes zero other = refl
no_led first test [] (suc m) other = refl
no_led first test (b ∷ bs) (suc m) other =
    elim (cases_Bool (b == first)) [
      | inl e ↦ absurd (other bs (ap (λ c. c ∷ bs) (eqb-true b first e)))
      | inr e ↦ and_left (b == first) (test (take m bs)) e
    ]

pub longest_front-not_led : (first : ℕ) (test : List ℕ → Bool) (n : ℕ) (bytes : List ℕ) → ((rest : List ℕ) → bytes ≢ first ∷ rest) → longest_front (is_led_by first test) n bytes ≡ 0
longest_front-not_led first test n bytes other = longest_front-none (is_led_by first test) n bytes (λ m l h. no_led first test bytes m other)

pub prefix_len-true : (p : ℕ → Bool) (x : ℕ) (xs : List ℕ) → p x ≡ true → prefix_len p (x ∷ xs) ≡ suc (prefix_len p xs)
prefix_len-true p x xs e = ap (λ b. cond b (1 + prefix_len p xs) 0) e ∙ omega arith

pub prefix_len-false : (p : ℕ → Bool) (x : ℕ) (xs : List ℕ) → p x ≡ false → prefix_len p (x ∷ xs) ≡ 0
prefix_len-false p x xs e = ap (λ b. cond b (1 + prefix_len p xs) 0) e

pub list_all-front : (p : ℕ → Bool) (xs : List ℕ) → list_all p (take (prefix_len p xs) xs) ≡ true
list_all-front p [] = refl
list_all-front p (x ∷ xs) =
    elim (cases_Bool (p x)) [
      | inl e ↦ ap (λ k. list_all p (take k (x ∷ xs))) (prefix_len-true p x xs e) ∙ and_from (p x) (list_all p (take (prefix_len p xs) xs)) e (list_all-front p xs)
      | inr e ↦ ap (λ k. list_all p (take k (x ∷ xs))) (prefix_len-false p x xs e)
    ]

pub list_all-longer : (p : ℕ → Bool) (xs : List ℕ) (m : ℕ) → prefix_len p xs < m → m ≤ length xs → list_all p (take m xs) ≡ false
list_all-longer p xs zero l h = absurd (omega (arith, l))
list_all-longer p [] (suc m) l h = absurd (omega (arith, h))
list_all-longer p (x ∷ xs) (suc m) l h =
    elim (cases_Bool (p x)) [
      | inl e ↦ and_right (p x) (list_all p (take m xs)) (list_all-longer p xs m (omega (arith, l, prefix_len-true p x xs e)) (omega (arith, h)))
      | inr e ↦ and_left (p x) (list_all p (take m xs)) e
    ]

run_all : (p : ℕ → Bool) (xs : List ℕ) (m : ℕ) → 0 < m → m ≤ length xs → is_run p (take m xs) ≡ list_all p (take m xs)
run_all p xs zero l h = absurd (omega (arith, l))
run_all p [] (suc m) l h = absurd (omega (arith, h))
run_all p (x ∷ xs) (suc m) l h = refl

pub longest_front-run : (p : ℕ → Bool) (bytes : List ℕ) → longest_front (is_run p) (length bytes) bytes ≡ prefix_len p bytes
longest_front-run p bytes =
    longest_front-is (is_run p) (length bytes) bytes (prefix_len p bytes) (prefix_len-le-length p bytes)
    (λ l. run_all p bytes (prefix_len p bytes) l (prefix_len-le-length p bytes) ∙ list_all-front p bytes)
    (λ m l h. run_all p bytes m (omega (arith, l)) h ∙ list_all-longer p bytes m l h)
