-- What a copied word, a copied argument, and all arguments make of memory.
use Rattle.std.proofs.Common.{◌≡◌, ℕ, suc, ◌+◌, ◌-◌, ◌*◌, ◌/◌, ◌%◌, ◌<◌, ◌≤◌, ◌&&◌, true, false, List, ◌++◌, length, map, get_or, if◌then◌else◌, refl, sym, ap, ◌∙◌, arith, subst, length-append, length-set, ext_get_or, inl, inr, ◌≢◌}
use Rattle.std.specs.Prelude.{nat_lt, nat_le, slice_index}
use Rattle.std.specs.List.{range_with_len}
use Rattle.std.proofs.lemmas.Bool.Decides.{nat_tests, leb_tells, eqb_tells}
use Rattle.std.proofs.lemmas.List.{get_or_past}
use Rattle.std.proofs.lemmas.List.FromFn.{length-map-range_with_len, get_or-map-range_with_len}
use Rattle.rgctx_words.specs.declared.frame.NewFrame.{NewFrame}
use Rattle.rgctx_words.specs.Frames.{header, header_words, header_count}
use Rattle.rgctx_words.specs.Memory.{put, beyond}
use Rattle.rgctx_words.specs.Stacks.{StackWords, mem_of, current_address, with_word}
use Rattle.rgctx_words.proofs.MemoryLemmas.{memory, memory-append, same_memory}
use Rattle.crossings.specs.Calls.{argument_word, interpreted_word}
use Rattle.crossings.specs.Copies.{copied, with_arguments}

-- ---- one word after the other

copied-none_at : (to : ℕ) (word mem : ℕ → ℕ) (k : ℕ) → copied to 0 word mem k ≡ mem k
copied-none_at to word mem k = grind (arith, nat_tests)

pub copied-none : (to : ℕ) (word mem : ℕ → ℕ) → copied to 0 word mem ≡ mem
copied-none to word mem = same_memory (copied-none_at to word mem)

copied-next_at : (to n : ℕ) (word mem : ℕ → ℕ) (w : ℕ) → w ≡ word n → (k : ℕ) → put (to + n) w (copied to n word mem) k ≡ copied to (n + 1) word mem k
copied-next_at to n word mem w is k = grind (arith, nat_tests)

pub copied-next : (to n : ℕ) (word mem : ℕ → ℕ) (w : ℕ) → w ≡ word n → put (to + n) w (copied to n word mem) ≡ copied to (n + 1) word mem
copied-next to n word mem w is = same_memory (copied-next_at to n word mem w is)

-- what lies below the copy stays
pub copied-below : (to n : ℕ) (word mem : ℕ → ℕ) (k : ℕ) → k < to → copied to n word mem k ≡ mem k
copied-below to n word mem k less = let t : nat_le to k ≡ false = grind (arith, nat_tests) in rw t refl

-- ---- one argument after the other

arguments-none_at : (base : ℕ) (words : List ℕ) (list : ℕ) (widths : List ℕ) (mem : ℕ → ℕ) (k : ℕ) → with_arguments base words list widths 0 mem k ≡ mem k
arguments-none_at base words list widths mem k = grind (arith, nat_tests)

pub arguments-none : (base : ℕ) (words : List ℕ) (list : ℕ) (widths : List ℕ) (mem : ℕ → ℕ) → with_arguments base words list widths 0 mem ≡ mem
arguments-none base words list widths mem = same_memory (arguments-none_at base words list widths mem)

pub arguments-below : (base : ℕ) (words : List ℕ) (list : ℕ) (widths : List ℕ) (n : ℕ) (mem : ℕ → ℕ) (k : ℕ) → k < base → with_arguments base words list widths n mem k ≡ mem k
arguments-below base words list widths n mem k less = let t : nat_le (base + header_count) k ≡ false = grind (arith, nat_tests) in rw t refl

by_order : (P : Type 0) (i n : ℕ) → (i < n → P) → (i ≡ n → P) → (n < i → P) → P
by_order P i n before same behind =
    elim (leb_tells (suc i) n) as (λ _. P) [
      | inl less ↦ before less.1
      | inr more ↦ elim (eqb_tells i n) as (λ _. P) [
        | inl is ↦ same is.1
        | inr other ↦ behind (let a : n < suc i = more.1 in let b : i ≢ n = other.1 in omega arith)
      ]
    ]

-- word j of place i, where `at` is the beginning of the first place: before place n, at it, and behind it
placed_before : (at n w : ℕ) (widths : List ℕ) (argument : ℕ → ℕ → ℕ) (word mem : ℕ → ℕ) (k i j : ℕ) → k ≡ at + (16 * i + j) → j < 16 → i < n
    → (if nat_le (at + 16 * n) k && nat_lt k (at + 16 * n + w) then word (k - (at + 16 * n)) else (if nat_lt i n && nat_lt j (slice_index widths i) then argument i j else mem k))
    ≡ (if nat_lt i (n + 1) && nat_lt j (slice_index widths i) then argument i j else mem k)
placed_before at n w widths argument word mem k i j is low before =
    let f : nat_le (at + 16 * n) k ≡ false = grind (arith, nat_tests) in
    let t : nat_lt i n ≡ true = grind (arith, nat_tests) in
    let u : nat_lt i (n + 1) ≡ true = grind (arith, nat_tests) in
    rw f (rw t (rw u refl))

placed_at : (at n w : ℕ) (widths : List ℕ) (argument : ℕ → ℕ → ℕ) (word mem : ℕ → ℕ) (k j : ℕ) → k ≡ at + (16 * n + j) → w ≡ slice_index widths n → ((j : ℕ) → j < w → word j ≡ argument n j)
    → (if nat_le (at + 16 * n) k && nat_lt k (at + 16 * n + w) then word (k - (at + 16 * n)) else (if nat_lt n n && nat_lt j (slice_index widths n) then argument n j else mem k))
    ≡ (if nat_lt n (n + 1) && nat_lt j (slice_index widths n) then argument n j else mem k)
placed_at at n w widths argument word mem k j is width same =
    let f : nat_le (at + 16 * n) k ≡ true = grind (arith, nat_tests) in
    let t : nat_lt n n ≡ false = grind (arith, nat_tests) in
    let u : nat_lt n (n + 1) ≡ true = grind (arith, nat_tests) in
    let e : k - (at + 16 * n) ≡ j = omega arith in
    rw (← width) (rw f (rw t (rw u (elim (leb_tells (suc j) w) as (λ _. (if nat_lt k (at + 16 * n + w) then word (k - (at + 16 * n)) else mem k) ≡ (if nat_lt j w then argument n j else mem k)) [
      | inl inside ↦ (
          let a : suc j ≤ w = inside.1 in
          let g : nat_lt k (at + 16 * n + w) ≡ true = grind (arith, nat_tests) in
          let h : nat_lt j w ≡ true = inside.0 in
          rw g (rw h (ap word e ∙ same j a)))
      | inr outside ↦ (
          let a : w < suc j = outside.1 in
          let g : nat_lt k (at + 16 * n + w) ≡ false = grind (arith, nat_tests) in
          let h : nat_lt j w ≡ false = outside.0 in
          rw g (rw h refl))
    ]))))

placed_behind : (at n w : ℕ) (widths : List ℕ) (argument : ℕ → ℕ → ℕ) (word mem : ℕ → ℕ) (k i j : ℕ) → k ≡ at + (16 * i + j) → w ≤ 16 → n < i
    → (if nat_le (at + 16 * n) k && nat_lt k (at + 16 * n + w) then word (k - (at + 16 * n)) else (if nat_lt i n && nat_lt j (slice_index widths i) then argument i j else mem k))
    ≡ (if nat_lt i (n + 1) && nat_lt j (slice_index widths i) then argument i j else mem k)
placed_behind at n w widths argument word mem k i j is wide behind =
    let f : nat_le (at + 16 * n) k ≡ true = grind (arith, nat_tests) in
    let g : nat_lt k (at + 16 * n + w) ≡ false = grind (arith, nat_tests) in
    let t : nat_lt i n ≡ false = grind (arith, nat_tests) in
    let u : nat_lt i (n + 1) ≡ false = grind (arith, nat_tests) in
    rw f (rw g (rw t (rw u refl)))

abbrev Placed : (at n w : ℕ) (widths : List ℕ) (argument : ℕ → ℕ → ℕ) (word mem : ℕ → ℕ) (k i j : ℕ) → Type 0
Placed at n w widths argument word mem k i j =
    (if nat_le (at + 16 * n) k && nat_lt k (at + 16 * n + w) then word (k - (at + 16 * n)) else (if nat_lt i n && nat_lt j (slice_index widths i) then argument i j else mem k))
    ≡ (if nat_lt i (n + 1) && nat_lt j (slice_index widths i) then argument i j else mem k)

placed : (at n w : ℕ) (widths : List ℕ) (argument : ℕ → ℕ → ℕ) (word mem : ℕ → ℕ) (k i j : ℕ) → k ≡ at + (16 * i + j) → j < 16 → w ≤ 16 → w ≡ slice_index widths n → ((j : ℕ) → j < w → word j ≡ argument n j) → Placed at n w widths argument word mem k i j
placed at n w widths argument word mem k i j is low wide width same =
    by_order (Placed at n w widths argument word mem k i j) i n
    (placed_before at n w widths argument word mem k i j is low)
    (λ e. subst (λ (m : ℕ). Placed at n w widths argument word mem k m j) (sym e) (placed_at at n w widths argument word mem k j (subst (λ (m : ℕ). k ≡ at + (16 * m + j)) e is) width same))
    (placed_behind at n w widths argument word mem k i j is wide)

-- a word of the memory with one argument more: before the places, or in them
next_before : (base : ℕ) (words : List ℕ) (list : ℕ) (widths : List ℕ) (n w : ℕ) (word mem : ℕ → ℕ) (k : ℕ) → k < base + 8
    → copied (base + (8 + 16 * n)) w word (with_arguments base words list widths n mem) k ≡ with_arguments base words list widths (n + 1) mem k
next_before base words list widths n w word mem k less =
    let f : nat_le (base + (8 + 16 * n)) k ≡ false = grind (arith, nat_tests) in
    let g : nat_le (base + 8) k ≡ false = grind (arith, nat_tests) in
    rw f (rw g refl)

next_behind : (base : ℕ) (words : List ℕ) (list : ℕ) (widths : List ℕ) (n w : ℕ) (word mem : ℕ → ℕ) (k : ℕ) → base + 8 ≤ k → w ≤ 16 → w ≡ slice_index widths n → ((j : ℕ) → j < w → word j ≡ argument_word words list n j)
    → copied (base + (8 + 16 * n)) w word (with_arguments base words list widths n mem) k ≡ with_arguments base words list widths (n + 1) mem k
next_behind base words list widths n w word mem k more wide width same =
    let e : base + (8 + 16 * n) ≡ base + 8 + 16 * n = omega arith in
    let g : nat_le (base + 8) k ≡ true = grind (arith, nat_tests) in
    let is : k ≡ base + 8 + (16 * ((k - (base + 8)) / 16) + (k - (base + 8)) % 16) = omega arith in
    let low : (k - (base + 8)) % 16 < 16 = omega arith in
    rw e (rw g (placed (base + 8) n w widths (argument_word words list) word mem k ((k - (base + 8)) / 16) ((k - (base + 8)) % 16) is low wide width same))

pub arguments-next : (base : ℕ) (words : List ℕ) (list : ℕ) (widths : List ℕ) (n w : ℕ) (word mem : ℕ → ℕ) → w ≤ 16 → w ≡ slice_index widths n → ((j : ℕ) → j < w → word j ≡ argument_word words list n j)
    → copied (base + (8 + 16 * n)) w word (with_arguments base words list widths n mem) ≡ with_arguments base words list widths (n + 1) mem
arguments-next base words list widths n w word mem wide width same =
    same_memory (λ k. elim (leb_tells (base + 8) k) as (λ _. copied (base + (8 + 16 * n)) w word (with_arguments base words list widths n mem) k ≡ with_arguments base words list widths (n + 1) mem k) [
      | inl more ↦ next_behind base words list widths n w word mem k more.1 wide width same
      | inr less ↦ next_before base words list widths n w word mem k less.1
    ])

-- ---- the whole frame

header_past : (caller : ℕ) (f : NewFrame) (k : ℕ) → 8 ≤ k → header caller f k ≡ 0
header_past caller f k past = get_or_past (header_words caller f) k 0 past

arrive_at : (s : StackWords) (list : ℕ) (widths : List ℕ) (f : NewFrame) (k : ℕ)
    → with_arguments (length s.words) s.words list widths (length widths) (beyond (length s.words) (header (current_address s) f) (mem_of s)) k
    ≡ beyond (length s.words) (interpreted_word s list widths f) (mem_of s) k
arrive_at s list widths f k =
    elim (leb_tells (suc k) (length s.words)) as (λ _. with_arguments (length s.words) s.words list widths (length widths) (beyond (length s.words) (header (current_address s) f) (mem_of s)) k ≡ beyond (length s.words) (interpreted_word s list widths f) (mem_of s) k) [
      | inl below ↦ (
          let h : k < length s.words = below.1 in
          let a : nat_le (length s.words + 8) k ≡ false = grind (arith, nat_tests) in
          let b : nat_lt k (length s.words) ≡ true = below.0 in
          rw a (rw b refl))
      | inr above ↦ (
          let h : length s.words < suc k = above.1 in
          let b : nat_lt k (length s.words) ≡ false = above.0 in
          elim (leb_tells (suc (k - length s.words)) 8) as (λ _. with_arguments (length s.words) s.words list widths (length widths) (beyond (length s.words) (header (current_address s) f) (mem_of s)) k ≡ beyond (length s.words) (interpreted_word s list widths f) (mem_of s) k) [
            | inl inside ↦ (
                let i : suc (k - length s.words) ≤ 8 = inside.1 in
                let a : nat_le (length s.words + 8) k ≡ false = grind (arith, nat_tests) in
                let c : nat_lt (k - length s.words) 8 ≡ true = inside.0 in
                rw a (rw b (rw c refl)))
            | inr behind ↦ (
                let i : 8 < suc (k - length s.words) = behind.1 in
                let a : nat_le (length s.words + 8) k ≡ true = grind (arith, nat_tests) in
                let c : nat_lt (k - length s.words) 8 ≡ false = behind.0 in
                let e : k - (length s.words + 8) ≡ k - length s.words - 8 = omega arith in
                let z : header (current_address s) f (k - length s.words) ≡ 0 = header_past (current_address s) f (k - length s.words) (omega arith) in
                rw a (rw e (rw b (rw c (rw z refl)))))
          ])
    ]

-- the header with the arguments in their places is the interpreted callee's frame
pub arguments-arrive : (s : StackWords) (list : ℕ) (widths : List ℕ) (f : NewFrame)
    → with_arguments (length s.words) s.words list widths (length widths) (beyond (length s.words) (header (current_address s) f) (mem_of s))
    ≡ beyond (length s.words) (interpreted_word s list widths f) (mem_of s)
arguments-arrive s list widths f = same_memory (arrive_at s list widths f)

-- ---- a list from its memory

tail_word : (xs ys : List ℕ) (count : ℕ) (f : ℕ → ℕ) → length xs ≡ length ys + count → memory xs ≡ beyond (length ys) f (memory ys) → (i : ℕ) → i < length xs → get_or xs i 0 ≡ get_or (ys ++ map f (range_with_len 0 count)) i 0
tail_word xs ys count f size is i less =
    ap (λ m. m i) is
    ∙ (elim (leb_tells (suc i) (length ys)) as (λ _. beyond (length ys) f (memory ys) i ≡ beyond (length ys) (memory (map f (range_with_len 0 count))) (memory ys) i) [
      | inl below ↦ (let b : nat_lt i (length ys) ≡ true = below.0 in rw b refl)
      | inr above ↦ (
          let h : length ys < suc i = above.1 in
          let b : nat_lt i (length ys) ≡ false = above.0 in
          rw b (sym (get_or-map-range_with_len f 0 count (i - length ys) (i - length ys) 0 (omega arith) (omega arith))))
    ])
    ∙ sym (ap (λ m. m i) (memory-append ys (map f (range_with_len 0 count))))

pub words-of_memory : (xs ys : List ℕ) (count : ℕ) (f : ℕ → ℕ) → length xs ≡ length ys + count → memory xs ≡ beyond (length ys) f (memory ys) → xs ≡ ys ++ map f (range_with_len 0 count)
words-of_memory xs ys count f size is =
    let sizes : length (ys ++ map f (range_with_len 0 count)) ≡ length ys + length (map f (range_with_len 0 count)) = length-append ys (map f (range_with_len 0 count)) in
    let more : length (map f (range_with_len 0 count)) ≡ count = length-map-range_with_len f 0 count in
    ext_get_or 0 xs (ys ++ map f (range_with_len 0 count)) (omega arith) (tail_word xs ys count f size is)

-- a stack is its words and its bases
pub same_stack : (s t : StackWords) → s.words ≡ t.words → s.bases ≡ t.bases → s ≡ t
same_stack s t words bases = λ i. record { words = words i; bases = bases i }

-- one word more of a copy from below it
pub copied-step : (old now new : StackWords) (from to k word : ℕ) → from + k < to → mem_of now ≡ copied to k (λ j. mem_of old (from + j)) (mem_of old) → word ≡ mem_of now (from + k)
    → mem_of new ≡ put (to + k) word (mem_of now) → mem_of new ≡ copied to (k + 1) (λ j. mem_of old (from + j)) (mem_of old)
copied-step old now new from to k word below is read then_is =
    then_is
    ∙ ap (λ (mem : ℕ → ℕ). put (to + k) word mem) is
    ∙ copied-next to k (λ j. mem_of old (from + j)) (mem_of old) word (read ∙ ap (λ (mem : ℕ → ℕ). mem (from + k)) is ∙ copied-below to k (λ j. mem_of old (from + j)) (mem_of old) (from + k) below)

-- a word put leaves the count of words
pub length-with_word : (old new : StackWords) (i word : ℕ) → new ≡ with_word old i word → length new.words ≡ length old.words
length-with_word old new i word is = ap (λ (s : StackWords). length s.words) is ∙ length-set old.words i word
