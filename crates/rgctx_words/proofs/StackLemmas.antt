-- What entering and leaving a frame does to memory, and that the frames that are left still rise.
use Rattle.std.proofs.Common.{◌≡◌, ℕ, ◌+◌, ◌-◌, ◌*◌, ◌<◌, ◌≤◌, true, List, ◌++◌, length, take, replicate, refl, ap, ◌∙◌, arith, length-take}
use Rattle.std.specs.Prelude.{slice_index, nat_lt}
use Rattle.std.proofs.lemmas.Bool.Decides.{nat_tests}
use Rattle.rgctx_words.specs.declared.frame.NewFrame.{NewFrame}
use Rattle.rgctx_words.specs.Memory.{beyond}
use Rattle.rgctx_words.specs.Frames.{header, header_words, header_count, most_words}
use Rattle.rgctx_words.specs.Stacks.{StackWords, mem_of, base_of, IsStack, current_address, entered, end_of, left_to}
use Rattle.rgctx_words.proofs.MemoryLemmas.{memory, memory-append, memory-append_zeros, memory-take}

-- words that begin with those of a stack and go on with a new frame's
pub memory-with_frame : (s : StackWords) (f : NewFrame) (caller : ℕ) (words : List ℕ) → caller ≡ current_address s → words ≡ s.words ++ (header_words caller f ++ replicate (f.words - header_count) 0) → memory words ≡ beyond (length s.words) (header (current_address s) f) (mem_of s)
memory-with_frame s f caller words from is =
    ap memory is
    ∙ memory-append s.words (header_words caller f ++ replicate (f.words - header_count) 0)
    ∙ ap (λ more. beyond (length s.words) more (mem_of s)) (memory-append_zeros (header_words caller f) (f.words - header_count) ∙ ap (λ c. header c f) from)

-- a new frame is put beyond the end: its header, then zeros
pub memory-entered : (s : StackWords) (f : NewFrame) → mem_of (entered s f) ≡ beyond (length s.words) (header (current_address s) f) (mem_of s)
memory-entered s f = memory-with_frame s f (current_address s) (entered s f).words refl refl

-- from the end of the frame that is left to, all words are 0
pub memory-left : (s : StackWords) (level : ℕ) → mem_of (left_to s level) ≡ beyond (end_of s level) (λ j. 0) (mem_of s)
memory-left s level = memory-take s.words (end_of s level)

-- a frame with one above it ends where that one begins
pub end-below : (s : StackWords) (level : ℕ) → level + 1 < length s.bases → end_of s level ≡ base_of s (level + 1)
end-below s level less = let t : nat_lt (level + 1) (length s.bases) ≡ true = grind (arith, nat_tests) in rw t refl

kept_word : (xs : List ℕ) (n i : ℕ) → i < n → slice_index (take n xs) i ≡ slice_index xs i
kept_word xs n i less = ap (λ m. m i) (memory-take xs n) ∙ (let t : nat_lt i n ≡ true = grind (arith, nat_tests) in rw t refl)

-- the frames up to a level are a stack
pub is_stack-cut : (s : StackWords) (level : ℕ) → IsStack s → level + 1 < length s.bases → IsStack (record { words = take (base_of s (level + 1)) s.words; bases = take (level + 1) s.bases })
is_stack-cut s level shape less =
    let end : ℕ = base_of s (level + 1) in
    let kept : length (take (level + 1) s.bases) ≡ level + 1 = omega (arith, length-take (level + 1) s.bases) in
    let room : end + header_count ≤ length s.words = shape.inside (level + 1) less in
    let cut : length (take end s.words) ≡ end = omega (arith, length-take end s.words) in
    let same : (l : ℕ) → l < level + 1 → slice_index (take (level + 1) s.bases) l ≡ base_of s l = kept_word s.bases (level + 1) in
    record {
      few = omega (arith, shape.few);
      low = λ l below. let e : slice_index (take (level + 1) s.bases) l ≡ base_of s l = same l (omega arith) in let h : base_of s l ≤ most_words * l = shape.low l (omega arith) in omega arith;
      rising = λ l m lower below.
          let e : slice_index (take (level + 1) s.bases) l ≡ base_of s l = same l (omega arith) in
          let d : slice_index (take (level + 1) s.bases) m ≡ base_of s m = same m (omega arith) in
          let h : base_of s l + header_count ≤ base_of s m = shape.rising l m lower (omega arith) in
          omega arith;
      inside = λ l below.
          let e : slice_index (take (level + 1) s.bases) l ≡ base_of s l = same l (omega arith) in
          let h : base_of s l + header_count ≤ end = shape.rising l (level + 1) (omega arith) less in
          omega arith;
      small = let h : end ≤ most_words * (level + 1) = shape.low (level + 1) less in omega arith;
    }
