-- The words of a value go to an address, as a return gives its result.
use Rattle.std.proofs.Common.{◌≡◌, ◌≢◌, ◌⊎◌, inl, inr, ℕ, zero, suc, ◌+◌, ◌*◌, ◌%◌, ◌^◌, ◌<◌, ◌≤◌, Bool, true, false, bit_and, if◌then◌else◌, List, [], ◌∷◌, ◌++◌, length, refl, sym, ap, ◌∙◌, subst, arith}
use Rattle.std.proofs.lemmas.List.{append-nil, length-set, length-append}
use Rattle.std.proofs.lemmas.Nat.{and_mask}
use Rattle.cil_flow.specs.declared.state.StackType.{StackType}
use Rattle.rgctx_words.specs.Memory.{Only}
use Rattle.rgctx_words.specs.Frames.{frame_address}
use Rattle.rgctx_words.specs.Stacks.{StackWords, mem_of, with_word}
use Rattle.rv_isa.specs.declared.instr.Instr.{Instr}
use Rattle.rv_isa.specs.declared.instr.Instr.TheVariants as rv
use Rattle.rv_machine.specs.declared.effect.Effect.TheVariants.{Sets}
use Rattle.rv_machine.specs.Arithmetic.{extended, sum_of}
use Rattle.rv_machine.specs.Registers.{register_of}
use Rattle.rgctx_fill.specs.ThreadStates.{ThreadData}
use Rattle.rgctx_fill.specs.Constructed.{IsSized}
use Rattle.rgctx_fill.proofs.MachineLemmas.{Run, stop, run_then, run_pc, word_same, word_other}
use Rattle.rv_codegen.specs.FrameWords.{loads_word}
use Rattle.rv_codegen.specs.PlainItems.{BodyData, give_words}
use Rattle.rv_codegen.proofs.StraightLemmas.{Set, Stored, InFrame, in_frame, set_by, store_by, loads, loads_short, short_up, add_addresses, address_small, small_mod}
use Rattle.rv_codegen.proofs.ItemLemmas.{AreRows, rows_both, loads_rows}
use Rattle.rv_codegen.proofs.CalcLemmas.{set_again}

-- what is kept of a word: of a bool the low eight bits
abbrev pub keep : Bool → ℕ → ℕ
keep is_bool v = if is_bool then v % 256 else v

abbrev masks : Bool → List Instr
masks is_bool = if is_bool then rv.Andi 6 6 255 ∷ [] else []

masks_few : (is_bool : Bool) → length (masks is_bool) ≤ 1
masks_few true = omega arith
masks_few false = omega arith

masks_rows : (is_bool : Bool) → AreRows (masks is_bool)
masks_rows true = ((omega arith, omega arith, omega arith), tt)
masks_rows false = tt

module _ (b : BodyData) (at : ℕ) (types : List StackType) where
  pub gives_rows : (n from word : ℕ) (is_bool : Bool) → word + n ≤ 16 → from + n ≤ 65536 → AreRows (give_words b at types n from word is_bool)
  gives_rows zero from word is_bool few low = tt
  gives_rows (suc n) from word is_bool few low =
      rows_both (loads_word 6 from ++ masks is_bool) (rv.Sd 6 5 (8 * word) ∷ give_words b at types n (from + 1) (word + 1) is_bool)
      (rows_both (loads_word 6 from) (masks is_bool) (loads_rows 6 from (omega arith) (omega arith)) (masks_rows is_bool))
      ((omega arith, omega arith, omega arith), gives_rows n (from + 1) (word + 1) is_bool (omega arith) (omega arith))

  pub gives_short : (n from word : ℕ) (is_bool : Bool) → length (give_words b at types n from word is_bool) ≤ 5 * n
  gives_short zero from word is_bool = omega arith
  gives_short (suc n) from word is_bool =
      let x1 = length-append (loads_word 6 from ++ masks is_bool) (rv.Sd 6 5 (8 * word) ∷ give_words b at types n (from + 1) (word + 1) is_bool) in
      let x2 = length-append (loads_word 6 from) (masks is_bool) in
      let l1 = loads_short 6 from in
      let l2 = masks_few is_bool in
      let l3 = gives_short n (from + 1) (word + 1) is_bool in
      omega arith

-- Words were given, and nothing else changed but x6 and x7.
pub record Gave (s : ThreadData) (is : List Instr) (from to n : ℕ) (is_bool : Bool) : Type 0 where
  pub t : ThreadData
  pub run : Run s is t
  pub others : (r : ℕ) → r ≢ 6 → r ≢ 7 → register_of t.core r ≡ register_of s.core r
  pub bases : t.stack.bases ≡ s.stack.bases
  pub count : length t.stack.words ≡ length s.stack.words
  pub only : Only (mem_of s.stack) (mem_of t.stack) to n
  pub words : (j : ℕ) → j < n → mem_of t.stack (to + j) ≡ keep is_bool (mem_of s.stack (from + j))
  pub sized : IsSized t

-- one word
record One (s : ThreadData) (from word : ℕ) (is_bool : Bool) (source target : ℕ) : Type 0 where
  t : ThreadData
  run : (is : List Instr) (v : ThreadData) → Run t is v → Run s (loads_word 6 from ++ masks is_bool ++ rv.Sd 6 5 (8 * word) ∷ is) v
  others : (r : ℕ) → r ≢ 6 → r ≢ 7 → register_of t.core r ≡ register_of s.core r
  stack : t.stack ≡ with_word s.stack target (keep is_bool (mem_of s.stack source))
  sized : IsSized t

pub word_address : (a v word : ℕ) → v ≡ frame_address a → word < 256 → a + word < 2113536 → sum_of v (extended 12 (8 * word)) ≡ frame_address (a + word)
word_address a v word is few inside =
    ap (λ x. sum_of x (extended 12 (8 * word))) is
    ∙ ap (sum_of (frame_address a)) (short_up (8 * word) (omega arith))
    ∙ ap (λ n. n % 2 ^ 64) (add_addresses a word)
    ∙ small_mod (frame_address (a + word)) (address_small (a + word) inside)

module _ {base : ℕ} (a : ℕ) where
  one_given : {s : ThreadData} → InFrame s base → register_of s.core 5 ≡ frame_address a → (from word : ℕ) (is_bool : Bool) → word < 16 → from < 65536 → base + from < length s.stack.words → a + word < length s.stack.words → s.core.pc + 20 < 2 ^ 64 →
      One s from word is_bool (base + from) (a + word)
  one_given {s = s} f five from word is_bool few low inf int room = then_mask is_bool (loads f 6 from low inf refl (omega arith) (omega arith))
    where
      store_it : (k : Bool) (y : Set s (loads_word 6 from ++ masks k) 6 (keep k (mem_of s.stack (base + from)))) → Stored y.t (rv.Sd 6 5 (8 * word) ∷ []) (a + word) (register_of y.t.core 6) → One s from word k (base + from) (a + word)
      store_it k y z = record {
        t = z.t;
        run = λ is v r. run_then y.run (run_then z.run r);
        others = λ r ne6 ne7. z.others r ne7 ∙ y.others r ne6 ne7;
        stack = z.stack ∙ ap (λ v. with_word y.t.stack (a + word) v) y.value ∙ ap (λ (q : StackWords). with_word q (a + word) (keep k (mem_of s.stack (base + from)))) y.stack;
        sized = z.sized;
      }

      then_store : (k : Bool) → Set s (loads_word 6 from ++ masks k) 6 (keep k (mem_of s.stack (base + from))) → One s from word k (base + from) (a + word)
      then_store k y =
          let pc = run_pc y.run in
          let x = length-append (loads_word 6 from) (masks k) in
          let l1 = loads_short 6 from in
          let l2 = masks_few k in
          let small = f.small in
          store_it k y (store_by y.t y.sized (omega arith) 6 5 (8 * word) (a + word)
          (word_address a (register_of y.t.core 5) word (y.others 5 (λ e. omega (arith, e)) (λ e. omega (arith, e)) ∙ five) (omega arith) (omega arith))
          (subst (λ (q : StackWords). a + word < length q.words) (sym y.stack) int))

      then_mask : (k : Bool) → Set s (loads_word 6 from) 6 (mem_of s.stack (base + from)) → One s from word k (base + from) (a + word)
      then_mask true x =
          let pc = run_pc x.run in
          let l1 = loads_short 6 from in
          let v = f.sized.word (base + from) in
          then_store true (set_again x (set_by x.t x.sized (omega arith) (rv.Andi 6 6 255) 6 (mem_of s.stack (base + from) % 256) (ap (λ n. Sets 6 (bit_and n 255)) x.value ∙ ap (Sets 6) (and_mask (mem_of s.stack (base + from)) 8)) refl (omega arith) (omega arith)))
      then_mask false x = then_store false (subst (λ (is : List Instr). Set s is 6 (mem_of s.stack (base + from))) (sym (append-nil (loads_word 6 from))) x)

  module _ (b : BodyData) (at : ℕ) (types : List StackType) where
    -- So many words of the frame go to words that lie before them.
    pub gives : {s : ThreadData} → InFrame s base → register_of s.core 5 ≡ frame_address a → (n from word : ℕ) (is_bool : Bool) → word + n ≤ 16 → from + n ≤ 65536 → base + from + n ≤ length s.stack.words → a + word + n ≤ base + from → s.core.pc + 20 * n < 2 ^ 64 →
        Gave s (give_words b at types n from word is_bool) (base + from) (a + word) n is_bool
    gives {s = s} f five zero from word is_bool few low inf before room = record {
      t = s;
      run = stop;
      others = λ r ne6 ne7. refl;
      bases = refl;
      count = refl;
      only = λ i o. refl;
      words = λ j lt. absurd (omega arith);
      sized = f.sized;
    }
    gives {s = s} f five (suc n) from word is_bool few low inf before room =
        then_rest (one_given f five from word is_bool (omega arith) (omega arith) (omega arith) (omega arith) (omega arith))
        (λ t f' five' count room'. gives f' five' n (from + 1) (word + 1) is_bool (omega arith) (omega arith) (omega arith) (omega arith) room')
      where
        then_rest : One s from word is_bool (base + from) (a + word) →
            ((t : ThreadData) → InFrame t base → register_of t.core 5 ≡ frame_address a → length t.stack.words ≡ length s.stack.words → t.core.pc + 20 * n < 2 ^ 64 → Gave t (give_words b at types n (from + 1) (word + 1) is_bool) (base + (from + 1)) (a + (word + 1)) n is_bool) →
            Gave s (give_words b at types (suc n) from word is_bool) (base + from) (a + word) (suc n) is_bool
        then_rest x rest =
            let pc = run_pc (x.run [] x.t stop) in
            let l0 = length-append (loads_word 6 from ++ masks is_bool) (rv.Sd 6 5 (8 * word) ∷ []) in
            let l1 = length-append (loads_word 6 from) (masks is_bool) in
            let l2 = loads_short 6 from in
            let l3 = masks_few is_bool in
            let count : length x.t.stack.words ≡ length s.stack.words = ap (λ (q : StackWords). length q.words) x.stack ∙ length-set s.stack.words (a + word) (keep is_bool (mem_of s.stack (base + from))) in
            let f' = in_frame f (x.others 8 (λ e. omega (arith, e)) (λ e. omega (arith, e))) count x.sized in
            build x count (rest x.t f' (x.others 5 (λ e. omega (arith, e)) (λ e. omega (arith, e)) ∙ five) count (omega arith))
          where
            build : (x : One s from word is_bool (base + from) (a + word)) → length x.t.stack.words ≡ length s.stack.words → Gave x.t (give_words b at types n (from + 1) (word + 1) is_bool) (base + (from + 1)) (a + (word + 1)) n is_bool →
                Gave s (give_words b at types (suc n) from word is_bool) (base + from) (a + word) (suc n) is_bool
            build x count y = record {
              t = y.t;
              run = x.run (give_words b at types n (from + 1) (word + 1) is_bool) y.t y.run;
              others = λ r ne6 ne7. y.others r ne6 ne7 ∙ x.others r ne6 ne7;
              bases = y.bases ∙ ap (λ (q : StackWords). q.bases) x.stack;
              count = y.count ∙ count;
              only = λ i o. y.only i (wider i o) ∙ same i (outside i o);
              words = λ j lt. each j lt;
              sized = y.sized;
            }
              where
                same : (i : ℕ) → i ≢ a + word → mem_of x.t.stack i ≡ mem_of s.stack i
                same i ne = ap (λ (q : StackWords). mem_of q i) x.stack ∙ word_other s.stack (a + word) (keep is_bool (mem_of s.stack (base + from))) i ne

                wider : (i : ℕ) → (i < a + word) ⊎ (a + word + suc n ≤ i) → (i < a + (word + 1)) ⊎ (a + (word + 1) + n ≤ i)
                wider i (inl h) = inl (omega arith)
                wider i (inr h) = inr (omega arith)

                outside : (i : ℕ) → (i < a + word) ⊎ (a + word + suc n ≤ i) → i ≢ a + word
                outside i (inl h) q = omega arith
                outside i (inr h) q = omega arith

                each : (j : ℕ) → j < suc n → mem_of y.t.stack (a + word + j) ≡ keep is_bool (mem_of s.stack (base + from + j))
                each zero lt =
                    let e : a + word + 0 ≡ a + word = omega arith in
                    let d : base + from ≡ base + from + 0 = omega arith in
                    y.only (a + word + 0) (inl (omega arith))
                    ∙ ap (mem_of x.t.stack) e
                    ∙ ap (λ (q : StackWords). mem_of q (a + word)) x.stack
                    ∙ word_same s.stack (a + word) (keep is_bool (mem_of s.stack (base + from))) (omega arith)
                    ∙ ap (λ i. keep is_bool (mem_of s.stack i)) d
                each (suc j) lt =
                    let e : a + word + suc j ≡ a + (word + 1) + j = omega arith in
                    let d : base + (from + 1) + j ≡ base + from + suc j = omega arith in
                    ap (mem_of y.t.stack) e
                    ∙ y.words j (omega arith)
                    ∙ ap (keep is_bool) (ap (mem_of x.t.stack) d ∙ same (base + from + suc j) (λ q. omega (arith, q)))
