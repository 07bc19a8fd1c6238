-- One argument is copied from where the list says.
use Rattle.std.proofs.Common.{◌≡◌, ℕ, ◌+◌, ◌*◌, ◌<◌, ◌≤◌, true, List, length, take, refl, sym, ap, ◌∙◌, arith, subst, length-take}
use Rattle.std.specs.Prelude.{nat_lt, slice_index}
use Rattle.std.proofs.lemmas.Bool.Decides.{nat_tests}
use Rattle.rgctx_words.specs.Stacks.{StackWords, mem_of}
use Rattle.rgctx_words.proofs.MemoryLemmas.{memory-take}
use Rattle.crossings.specs.Calls.{word_at, Lies, argument_at, argument_word, AreListed}
use Rattle.crossings.specs.Copies.{index_at, copied, with_arguments}
use Rattle.crossings.proofs.LyingLemmas.{index_at-room, word_at-is, index_at-more}
use Rattle.crossings.proofs.CopyLemmas.{arguments-below, arguments-next}

-- the words below the new frame
abbrev pub below : StackWords → ℕ → List ℕ
below s base = take base s.words

pub length-below : (s : StackWords) (base : ℕ) → base ≤ length s.words → length (below s base) ≡ base
length-below s base room = omega (arith, length-take base s.words)

pub kept_below : (s : StackWords) (base k : ℕ) → k < base → slice_index (below s base) k ≡ mem_of s k
kept_below s base k less = ap (λ m. m k) (memory-take s.words base) ∙ (let t : nat_lt k base ≡ true = grind (arith, nat_tests) in rw t refl)

-- where the copies have come: the old words below, and the arguments so far
pub record Copying (old now : StackWords) (base list : ℕ) (widths : List ℕ) (n : ℕ) : Type 0 where
  pub room : base ≤ length old.words
  pub size : length now.words ≡ length old.words
  pub listed : AreListed (below old base) list widths
  pub left : n < length widths
  pub memory : mem_of now ≡ with_arguments base (below old base) list widths n (mem_of old)

pub still_below : (old now : StackWords) (base list : ℕ) (widths : List ℕ) (n : ℕ) → Copying old now base list widths n → (k : ℕ) → k < base → mem_of now k ≡ slice_index (below old base) k
still_below old now base list widths n is k less =
    ap (λ m. m k) is.memory ∙ arguments-below base (below old base) list widths n (mem_of old) k less ∙ sym (kept_below old base k less)

-- the list's words lie below the new frame
pub list_below : (old now : StackWords) (base list : ℕ) (widths : List ℕ) (n : ℕ) → Copying old now base list widths n → index_at old.words list + n < base
list_below old now base list widths n is =
    let left : n < length widths = is.left in
    let size : length (below old base) ≡ base = length-below old base is.room in
    let room : base ≤ length old.words = is.room in
    let e : index_at old.words list ≡ index_at (below old base) list = index_at-more (below old base) old.words list (length widths) (omega arith) is.listed.addresses (omega arith) in
    let h : index_at (below old base) list + length widths ≤ length (below old base) = index_at-room (below old base) list (length widths) (omega arith) is.listed.addresses in
    omega arith

pub address_is : (old now : StackWords) (base list : ℕ) (widths : List ℕ) (n : ℕ) → Copying old now base list widths n → (address : ℕ) → address ≡ mem_of now (index_at old.words list + n) → address ≡ argument_at (below old base) list n
address_is old now base list widths n is address read =
    let left : n < length widths = is.left in
    let size : length (below old base) ≡ base = length-below old base is.room in
    let room : base ≤ length old.words = is.room in
    let e : index_at old.words list ≡ index_at (below old base) list = index_at-more (below old base) old.words list (length widths) (omega arith) is.listed.addresses (omega arith) in
    read
    ∙ still_below old now base list widths n is (index_at old.words list + n) (list_below old now base list widths n is)
    ∙ ap (λ (k : ℕ). slice_index (below old base) (k + n)) e
    ∙ sym (word_at-is (below old base) list (length widths) n is.listed.addresses left)

-- an argument with words lies below the new frame
pub argument_below : (old now : StackWords) (base list : ℕ) (widths : List ℕ) (n : ℕ) → Copying old now base list widths n → (address : ℕ) → address ≡ mem_of now (index_at old.words list + n)
    → 0 < slice_index widths n → index_at now.words address ≡ index_at (below old base) address
argument_below old now base list widths n is address read some =
    let size : length (below old base) ≡ base = length-below old base is.room in
    let room : base ≤ length old.words = is.room in
    let same : length now.words ≡ length old.words = is.size in
    let e : address ≡ argument_at (below old base) list n = address_is old now base list widths n is address read in
    index_at-more (below old base) now.words address (slice_index widths n) some (subst (λ (a : ℕ). Lies (below old base) a (slice_index widths n)) (sym e) (is.listed.each n is.left)) (omega arith)

pub apart : (old now : StackWords) (base list : ℕ) (widths : List ℕ) (n : ℕ) → Copying old now base list widths n → (address from : ℕ) → address ≡ mem_of now (index_at old.words list + n)
    → from ≡ index_at now.words address → 0 < slice_index widths n → from + slice_index widths n ≤ base
apart old now base list widths n is address from read found some =
    let size : length (below old base) ≡ base = length-below old base is.room in
    let e : address ≡ argument_at (below old base) list n = address_is old now base list widths n is address read in
    let lies : Lies (below old base) address (slice_index widths n) = subst (λ (a : ℕ). Lies (below old base) a (slice_index widths n)) (sym e) (is.listed.each n is.left) in
    let same : index_at now.words address ≡ index_at (below old base) address = argument_below old now base list widths n is address read some in
    let h : index_at (below old base) address + slice_index widths n ≤ length (below old base) = index_at-room (below old base) address (slice_index widths n) some lies in
    omega arith

word_is : (old now : StackWords) (base list : ℕ) (widths : List ℕ) (n : ℕ) → Copying old now base list widths n → (address from : ℕ) → address ≡ mem_of now (index_at old.words list + n)
    → from ≡ index_at now.words address → (j : ℕ) → j < slice_index widths n → mem_of now (from + j) ≡ argument_word (below old base) list n j
word_is old now base list widths n is address from read found j inside =
    let e : address ≡ argument_at (below old base) list n = address_is old now base list widths n is address read in
    let lies : Lies (below old base) address (slice_index widths n) = subst (λ (a : ℕ). Lies (below old base) a (slice_index widths n)) (sym e) (is.listed.each n is.left) in
    let low : from + slice_index widths n ≤ base = apart old now base list widths n is address from read found (omega arith) in
    let same : from ≡ index_at (below old base) address = found ∙ argument_below old now base list widths n is address read (omega arith) in
    still_below old now base list widths n is (from + j) (omega arith)
    ∙ ap (λ (k : ℕ). slice_index (below old base) (k + j)) same
    ∙ sym (word_at-is (below old base) address (slice_index widths n) j lies inside)
    ∙ ap (λ (a : ℕ). word_at (below old base) (a + 8 * j)) e

-- one argument more
pub copied_argument : (old now new : StackWords) (base list : ℕ) (widths : List ℕ) (n : ℕ) → Copying old now base list widths n → (address from : ℕ) → address ≡ mem_of now (index_at old.words list + n)
    → from ≡ index_at now.words address → slice_index widths n ≤ 16
    → mem_of new ≡ copied (base + (8 + 16 * n)) (slice_index widths n) (λ j. mem_of now (from + j)) (mem_of now)
    → mem_of new ≡ with_arguments base (below old base) list widths (n + 1) (mem_of old)
copied_argument old now new base list widths n is address from read found wide then_is =
    then_is
    ∙ ap (λ (mem : ℕ → ℕ). copied (base + (8 + 16 * n)) (slice_index widths n) (λ j. mem_of now (from + j)) mem) is.memory
    ∙ arguments-next base (below old base) list widths n (slice_index widths n) (λ j. mem_of now (from + j)) (mem_of old) wide refl (word_is old now base list widths n is address from read found)
