-- Straight-line code over the current frame: what loads, stores and moves leave in registers and frame words.
use Rattle.std.proofs.Common.{◌≡◌, ◌≢◌, ◌⊎◌, inl, inr, ℕ, zero, suc, ◌+◌, ◌-◌, ◌*◌, ◌%◌, ◌^◌, ◌<◌, ◌≤◌, Bool, true, false, ◌==◌, cond, nat_lt, List, [], ◌∷◌, ◌++◌, length, slice_set, refl, sym, ap, ◌∙◌, subst, arith, eqb-true, eq-eqb, ltb-true, ltb-false}
use Rattle.std.proofs.lemmas.Bool.Decides.{nat_tests}
use Rattle.std.proofs.lemmas.List.{length-set, length-append}
use Rattle.rgctx_words.specs.Memory.{Only}
use Rattle.rgctx_words.specs.Frames.{frames_at, frame_address}
use Rattle.rgctx_words.specs.Stacks.{StackWords, mem_of, with_word}
use Rattle.rv_isa.specs.declared.instr.Instr.{Instr}
use Rattle.rv_isa.specs.declared.instr.Instr.TheVariants.{Ld, Sd, Addi, Add, Lui}
use Rattle.rv_machine.specs.declared.registers.Core.{Core}
use Rattle.rv_machine.specs.declared.effect.Effect.TheVariants.{Sets, Loads, Stores}
use Rattle.rv_machine.specs.declared.size.Size.TheVariants.{Eight}
use Rattle.rv_machine.specs.Arithmetic.{extended, sum_of}
use Rattle.rv_machine.specs.Registers.{register_of, next_pc, at_pc}
use Rattle.rv_machine.specs.Effect.{effect_of, address_of}
use Rattle.rgctx_fill.specs.ThreadStates.{ThreadData, with_core, with_stack}
use Rattle.rgctx_fill.specs.MachineTurns.{sets, does}
use Rattle.rgctx_fill.specs.Constructed.{IsSized}
use Rattle.rgctx_fill.proofs.MachineLemmas.{register_same, register_other, word_same, word_other, does_load, does_store, Run, stop, step, run_then, run_pc}
use Rattle.rv_codegen.specs.FrameWords.{is_near, upper_of, far_base, loads_word, stores_word, moves_words, addresses_word}

-- Numbers ------------------------------------------------------------------

pub small_mod : (n : ℕ) → n < 2 ^ 64 → n % 2 ^ 64 ≡ n
small_mod n small = omega arith

-- a choice by a test
pub by_if : {X : Type 0} (P : X → Type 0) (b : Bool) (x y : X) → (b ≡ true → P x) → (b ≡ false → P y) → P (cond b x y)
by_if P true x y so other = so refl
by_if P false x y so other = other refl

-- an immediate of twelve bits, as the number that it is
pub short_up : (n : ℕ) → n < 2048 → extended 12 n ≡ n
short_up n small =
    let t : nat_lt (n % 2 ^ 12) (2 ^ 11) ≡ true = grind (arith, nat_tests) in
    let m : n % 2 ^ 12 ≡ n = omega arith in
    ap (λ b. cond b (n % 2 ^ 12) (n % 2 ^ 12 + (2 ^ 64 - 2 ^ 12))) t ∙ m

pub short_down : (n : ℕ) → 2048 ≤ n → n < 4096 → extended 12 n ≡ n + (2 ^ 64 - 4096)
short_down n large small =
    let t : nat_lt (n % 2 ^ 12) (2 ^ 11) ≡ false = grind (arith, nat_tests) in
    let m : n % 2 ^ 12 ≡ n = omega arith in
    ap (λ b. cond b (n % 2 ^ 12) (n % 2 ^ 12 + (2 ^ 64 - 2 ^ 12))) t ∙ ap (λ k. k + (2 ^ 64 - 4096)) m

pub upper_up : (n : ℕ) → n < 524288 → extended 32 (4096 * n) ≡ 4096 * n
upper_up n small =
    let t : nat_lt (4096 * n % 2 ^ 32) (2 ^ 31) ≡ true = grind (arith, nat_tests) in
    let m : 4096 * n % 2 ^ 32 ≡ 4096 * n = omega arith in
    ap (λ b. cond b (4096 * n % 2 ^ 32) (4096 * n % 2 ^ 32 + (2 ^ 64 - 2 ^ 32))) t ∙ m

-- Registers ----------------------------------------------------------------

module _ (s : ThreadData) (rd w : ℕ) (set : (rd == 0) ≡ false) where
  sized_register : IsSized s → rd < 32 → w < 2 ^ 64 → (r : ℕ) (b : Bool) → (r == rd) ≡ b → register_of (sets s rd w).core r < 2 ^ 64
  sized_register z lt small r true e =
      subst (λ n. register_of (sets s rd w).core n < 2 ^ 64) (sym (eqb-true r rd e))
      (subst (λ v. v < 2 ^ 64) (sym (register_same s.core rd w set (subst (λ n. rd < n) (sym z.registers) lt))) small)
  sized_register z lt small r false e = subst (λ v. v < 2 ^ 64) (sym (register_other s.core rd w set r (λ q. cc (eq-eqb r rd q)))) (z.register r)

  pub sized_sets : IsSized s → rd < 32 → w < 2 ^ 64 → IsSized (sets s rd w)
  sized_sets z lt small = record {
    registers = ap (λ b. length (cond b s.core (record s.core { x = slice_set s.core.x rd w })).x) set ∙ length-set s.core.x rd w ∙ z.registers;
    register = λ r. sized_register z lt small r (r == rd) refl;
    word = z.word;
  }

module _ (s : ThreadData) where
  -- the next code word's address
  pub next_is : s.core.pc + 4 < 2 ^ 64 → next_pc s.core ≡ s.core.pc + 4
  next_is room = small_mod (s.core.pc + 4) room

  -- One register is set, and nothing else changes but x7.
  pub record Set (is : List Instr) (rd w : ℕ) : Type 0 where
    pub t : ThreadData
    pub run : Run s is t
    pub value : register_of t.core rd ≡ w
    pub others : (r : ℕ) → r ≢ rd → r ≢ 7 → register_of t.core r ≡ register_of s.core r
    pub stack : t.stack ≡ s.stack
    pub sized : IsSized t

  -- One frame word is set, and nothing else changes but x7.
  pub record Stored (is : List Instr) (i w : ℕ) : Type 0 where
    pub t : ThreadData
    pub run : Run s is t
    pub others : (r : ℕ) → r ≢ 7 → register_of t.core r ≡ register_of s.core r
    pub stack : t.stack ≡ with_word s.stack i w
    pub sized : IsSized t

  module _ (z : IsSized s) (room : s.core.pc + 4 < 2 ^ 64) where
    -- an instruction that sets a register
    pub set_by : (i : Instr) (rd w : ℕ) → effect_of i s.core ≡ Sets rd w → (rd == 0) ≡ false → rd < 32 → w < 2 ^ 64 → Set (i ∷ []) rd w
    set_by i rd w e set lt small = record {
      t = sets s rd w;
      run = step (sets s rd w) (λ word. ap (does s word) e) (next_is room) refl stop;
      value = register_same s.core rd w set (subst (λ n. rd < n) (sym z.registers) lt);
      others = λ r ne ne7. register_other s.core rd w set r ne;
      stack = refl;
      sized = sized_sets s rd w set z lt small;
    }

    -- LD of a frame word
    pub load_by : (rd rs imm a : ℕ) → address_of s.core rs imm ≡ frame_address a → a < length s.stack.words → (rd == 0) ≡ false → rd < 32 → Set (Ld rd rs imm ∷ []) rd (mem_of s.stack a)
    load_by rd rs imm a e inside set lt = record {
      t = sets s rd (mem_of s.stack a);
      run = step (sets s rd (mem_of s.stack a)) (λ word. ap (λ x. does s word (Loads rd Eight true x)) e ∙ does_load s word a inside rd (z.word a)) (next_is room) refl stop;
      value = register_same s.core rd (mem_of s.stack a) set (subst (λ n. rd < n) (sym z.registers) lt);
      others = λ r ne ne7. register_other s.core rd (mem_of s.stack a) set r ne;
      stack = refl;
      sized = sized_sets s rd (mem_of s.stack a) set z lt (z.word a);
    }

    abbrev after_store : ℕ → ℕ → ThreadData
    after_store a w = with_stack (with_core s (at_pc s.core (next_pc s.core))) (with_word s.stack a w)

    stored_word : (a w : ℕ) → a < length s.stack.words → w < 2 ^ 64 → (j : ℕ) (b : Bool) → (j == a) ≡ b → mem_of (with_word s.stack a w) j < 2 ^ 64
    stored_word a w inside small j true e = subst (λ n. mem_of (with_word s.stack a w) n < 2 ^ 64) (sym (eqb-true j a e)) (subst (λ v. v < 2 ^ 64) (sym (word_same s.stack a w inside)) small)
    stored_word a w inside small j false e = subst (λ v. v < 2 ^ 64) (sym (word_other s.stack a w j (λ q. cc (eq-eqb j a q)))) (z.word j)

    -- SD of a register
    pub store_by : (rs base imm a : ℕ) → address_of s.core base imm ≡ frame_address a → a < length s.stack.words → Stored (Sd rs base imm ∷ []) a (register_of s.core rs)
    store_by rs base imm a e inside = record {
      t = after_store a (register_of s.core rs);
      run = step (after_store a (register_of s.core rs)) (λ word. ap (λ x. does s word (Stores Eight x (register_of s.core rs))) e ∙ does_store s word a inside (register_of s.core rs) (z.register rs)) (next_is room) refl stop;
      others = λ r ne. refl;
      stack = refl;
      sized = record {
        registers = z.registers;
        register = z.register;
        word = λ j. stored_word a (register_of s.core rs) inside (z.register rs) j (j == a) refl;
      };
    }

-- one after the other
pub set_then : {s : ThreadData} {a b : List Instr} {q v rd w : ℕ} (x : Set s a q v) → (y : Set x.t b rd w) → q ≡ 7 → Set s (a ++ b) rd w
set_then x y seven = record {
  t = y.t;
  run = run_then x.run y.run;
  value = y.value;
  others = λ r ne ne7. y.others r ne ne7 ∙ x.others r (λ e. ne7 (e ∙ seven)) ne7;
  stack = y.stack ∙ x.stack;
  sized = y.sized;
}

-- Words of the current frame -----------------------------------------------

-- x8 is the address of a frame's first word, and all frames together have so many words at most
pub record InFrame (s : ThreadData) (base : ℕ) : Type 0 where
  pub copy : register_of s.core 8 ≡ frame_address base
  pub small : length s.stack.words ≤ 2113536
  pub sized : IsSized s

-- what has the same x8 and as many words
pub in_frame : {s t : ThreadData} {base : ℕ} → InFrame s base → register_of t.core 8 ≡ register_of s.core 8 → length t.stack.words ≡ length s.stack.words → IsSized t → InFrame t base
in_frame f copy count sized = record { copy = copy ∙ f.copy; small = subst (λ n. n ≤ 2113536) (sym count) f.small; sized = sized }

pub address_small : (i : ℕ) → i < 2113536 → frame_address i < 2 ^ 64
unfolding frames_at
address_small i small = omega arith

pub add_addresses : (a n : ℕ) → frame_address a + 8 * n ≡ frame_address (a + n)
add_addresses a n = omega arith

module _ {s : ThreadData} {base : ℕ} (f : InFrame s base) where
  near_address : (offset : ℕ) → offset < 256 → base + offset < length s.stack.words → address_of s.core 8 (8 * offset) ≡ frame_address (base + offset)
  near_address offset near inside =
      let small = f.small in
      ap (λ v. sum_of v (extended 12 (8 * offset))) f.copy
      ∙ ap (sum_of (frame_address base)) (short_up (8 * offset) (omega arith))
      ∙ ap (λ n. n % 2 ^ 64) (add_addresses base offset)
      ∙ small_mod (frame_address (base + offset)) (address_small (base + offset) (omega arith))

  -- x7 as the address, but for the lower twelve bits of the offset
  abbrev far : ℕ → ℕ
  far offset = sum_of (4096 * upper_of offset) (frame_address base)

  far_set : (offset : ℕ) → offset < 65536 → s.core.pc + 8 < 2 ^ 64 → Set s (far_base offset) 7 (far offset)
  far_set offset low room = then_add (set_by s f.sized (omega arith) (Lui 7 (upper_of offset)) 7 (extended 32 (4096 * upper_of offset)) refl refl (omega arith) (let e = upper_up (upper_of offset) (omega arith) in omega arith))
    where
      then_add : Set s (Lui 7 (upper_of offset) ∷ []) 7 (extended 32 (4096 * upper_of offset)) → Set s (far_base offset) 7 (far offset)
      then_add x =
          let pc = run_pc x.run in
          let e : sum_of (register_of x.t.core 7) (register_of x.t.core 8) ≡ far offset =
          ap (λ v. sum_of v (register_of x.t.core 8)) (x.value ∙ upper_up (upper_of offset) (omega arith)) ∙ ap (sum_of (4096 * upper_of offset)) (x.others 8 (λ q. omega (arith, q)) (λ q. omega (arith, q)) ∙ f.copy) in
          set_then x (set_by x.t x.sized (omega arith) (Add 7 7 8) 7 (far offset) (ap (Sets 7) e) refl (omega arith) (omega arith)) refl

  far_address : (c : Core) (offset : ℕ) → register_of c 7 ≡ far offset → offset < 65536 → base + offset < length s.stack.words → address_of c 7 (8 * offset % 4096) ≡ frame_address (base + offset)
  far_address c offset seven low inside =
      ap (λ v. sum_of v (extended 12 (8 * offset % 4096))) seven
      ∙ by_if (λ v. sum_of (far offset) v ≡ frame_address (base + offset)) (nat_lt (8 * offset % 4096 % 2 ^ 12) (2 ^ 11)) (8 * offset % 4096 % 2 ^ 12) (8 * offset % 4096 % 2 ^ 12 + (2 ^ 64 - 2 ^ 12))
      (λ yes. up (ltb-true (8 * offset % 4096 % 2 ^ 12) (2 ^ 11) yes))
      (λ no. down (ltb-false (8 * offset % 4096 % 2 ^ 12) (2 ^ 11) no))
    where
      big : frame_address (base + offset) < 2 ^ 64
      big = let small = f.small in address_small (base + offset) (omega arith)

      up : 8 * offset % 4096 % 2 ^ 12 < 2 ^ 11 → sum_of (far offset) (8 * offset % 4096 % 2 ^ 12) ≡ frame_address (base + offset)
      up h = let b = big in omega arith

      down : 2 ^ 11 ≤ 8 * offset % 4096 % 2 ^ 12 → sum_of (far offset) (8 * offset % 4096 % 2 ^ 12 + (2 ^ 64 - 2 ^ 12)) ≡ frame_address (base + offset)
      down h = let b = big in omega arith

  -- a register takes a word of the frame
  pub loads : (rd offset : ℕ) → offset < 65536 → base + offset < length s.stack.words → (rd == 0) ≡ false → rd < 32 → s.core.pc + 12 < 2 ^ 64 → Set s (loads_word rd offset) rd (mem_of s.stack (base + offset))
  loads rd offset low inside set lt room =
      by_if (λ is. Set s is rd (mem_of s.stack (base + offset))) (is_near offset) (Ld rd 8 (8 * offset) ∷ []) (far_base offset ++ Ld rd 7 (8 * offset % 4096) ∷ [])
      (λ yes. load_by s f.sized (omega arith) rd 8 (8 * offset) (base + offset) (near_address offset (ltb-true offset 256 yes) inside) inside set lt)
      (λ no. then_load (far_set offset low (omega arith)))
    where
      then_load : Set s (far_base offset) 7 (far offset) → Set s (far_base offset ++ Ld rd 7 (8 * offset % 4096) ∷ []) rd (mem_of s.stack (base + offset))
      then_load x =
          let pc = run_pc x.run in
          let inside' : base + offset < length x.t.stack.words = subst (λ (k : StackWords). base + offset < length k.words) (sym x.stack) inside in
          let y = load_by x.t x.sized (omega arith) rd 7 (8 * offset % 4096) (base + offset) (far_address x.t.core offset x.value low inside) inside' set lt in
          subst (Set s (far_base offset ++ Ld rd 7 (8 * offset % 4096) ∷ []) rd) (ap (λ (k : StackWords). mem_of k (base + offset)) x.stack) (set_then x y refl)

  -- a word of the frame takes a register's
  pub stores : (rs offset : ℕ) → rs ≢ 7 → offset < 65536 → base + offset < length s.stack.words → s.core.pc + 12 < 2 ^ 64 → Stored s (stores_word rs offset) (base + offset) (register_of s.core rs)
  stores rs offset ne low inside room =
      by_if (λ is. Stored s is (base + offset) (register_of s.core rs)) (is_near offset) (Sd rs 8 (8 * offset) ∷ []) (far_base offset ++ Sd rs 7 (8 * offset % 4096) ∷ [])
      (λ yes. store_by s f.sized (omega arith) rs 8 (8 * offset) (base + offset) (near_address offset (ltb-true offset 256 yes) inside) inside)
      (λ no. then_store (far_set offset low (omega arith)))
    where
      then_store : Set s (far_base offset) 7 (far offset) → Stored s (far_base offset ++ Sd rs 7 (8 * offset % 4096) ∷ []) (base + offset) (register_of s.core rs)
      then_store x =
          let pc = run_pc x.run in
          let inside' : base + offset < length x.t.stack.words = subst (λ (k : StackWords). base + offset < length k.words) (sym x.stack) inside in
          build (store_by x.t x.sized (omega arith) rs 7 (8 * offset % 4096) (base + offset) (far_address x.t.core offset x.value low inside) inside')
        where
          build : Stored x.t (Sd rs 7 (8 * offset % 4096) ∷ []) (base + offset) (register_of x.t.core rs) → Stored s (far_base offset ++ Sd rs 7 (8 * offset % 4096) ∷ []) (base + offset) (register_of s.core rs)
          build y = record {
            t = y.t;
            run = run_then x.run y.run;
            others = λ r ne7. y.others r ne7 ∙ x.others r ne7 ne7;
            stack = y.stack ∙ ap (λ v. with_word x.t.stack (base + offset) v) (x.others rs ne ne) ∙ ap (λ (k : StackWords). with_word k (base + offset) (register_of s.core rs)) x.stack;
            sized = y.sized;
          }

-- Moves of words -----------------------------------------------------------

-- Words were moved, and nothing else changed but x6 and x7.
pub record Moved (s : ThreadData) (is : List Instr) (from to n : ℕ) : Type 0 where
  pub t : ThreadData
  pub run : Run s is t
  pub others : (r : ℕ) → r ≢ 6 → r ≢ 7 → register_of t.core r ≡ register_of s.core r
  pub bases : t.stack.bases ≡ s.stack.bases
  pub count : length t.stack.words ≡ length s.stack.words
  pub only : Only (mem_of s.stack) (mem_of t.stack) to n
  pub words : (j : ℕ) → j < n → mem_of t.stack (to + j) ≡ mem_of s.stack (from + j)
  pub sized : IsSized t

-- how many code words a load, a store and a move of one word have at most
pub loads_short : (rd offset : ℕ) → length (loads_word rd offset) ≤ 3
loads_short rd offset = by_if (λ is. length is ≤ 3) (is_near offset) (Ld rd 8 (8 * offset) ∷ []) (far_base offset ++ Ld rd 7 (8 * offset % 4096) ∷ []) (λ t. omega arith) (λ t. omega arith)

pub stores_short : (rs offset : ℕ) → length (stores_word rs offset) ≤ 3
stores_short rs offset = by_if (λ is. length is ≤ 3) (is_near offset) (Sd rs 8 (8 * offset) ∷ []) (far_base offset ++ Sd rs 7 (8 * offset % 4096) ∷ []) (λ t. omega arith) (λ t. omega arith)

-- and one at least
pub loads_some : (rd offset : ℕ) → 0 < length (loads_word rd offset)
loads_some rd offset = by_if (λ is. 0 < length is) (is_near offset) (Ld rd 8 (8 * offset) ∷ []) (far_base offset ++ Ld rd 7 (8 * offset % 4096) ∷ []) (λ t. omega arith) (λ t. omega arith)

pub stores_some : (rs offset : ℕ) → 0 < length (stores_word rs offset)
stores_some rs offset = by_if (λ is. 0 < length is) (is_near offset) (Sd rs 8 (8 * offset) ∷ []) (far_base offset ++ Sd rs 7 (8 * offset % 4096) ∷ []) (λ t. omega arith) (λ t. omega arith)

pub moves_short : (n from to : ℕ) → length (moves_words n from to) ≤ 6 * n
moves_short zero from to = omega arith
moves_short (suc n) from to =
    let a = length-append (loads_word 6 from ++ stores_word 6 to) (moves_words n (from + 1) (to + 1)) in
    let b = length-append (loads_word 6 from) (stores_word 6 to) in
    let c = loads_short 6 from in
    let d = stores_short 6 to in
    let e = moves_short n (from + 1) (to + 1) in
    omega arith

pub moves_some : (n from to : ℕ) → n ≢ 0 → 0 < length (moves_words n from to)
moves_some zero from to ne = absurd (ne refl)
moves_some (suc n) from to ne =
    let a = length-append (loads_word 6 from ++ stores_word 6 to) (moves_words n (from + 1) (to + 1)) in
    let b = length-append (loads_word 6 from) (stores_word 6 to) in
    let c = loads_some 6 from in
    omega arith

module _ {base : ℕ} where
  -- one word
  one_moved : {s : ThreadData} → InFrame s base → (from to : ℕ) → from < 65536 → to < 65536 → base + from < length s.stack.words → base + to < length s.stack.words → s.core.pc + 24 < 2 ^ 64 →
      Moved s (loads_word 6 from ++ stores_word 6 to) (base + from) (base + to) 1
  one_moved {s = s} f from to lf lt inf int room = then_store (loads f 6 from lf inf refl (omega arith) (omega arith))
    where
      then_store : Set s (loads_word 6 from) 6 (mem_of s.stack (base + from)) → Moved s (loads_word 6 from ++ stores_word 6 to) (base + from) (base + to) 1
      then_store x =
          let pc = run_pc x.run in
          let short = loads_short 6 from in
          let int' : base + to < length x.t.stack.words = subst (λ (k : StackWords). base + to < length k.words) (sym x.stack) int in
          let f' = in_frame f (x.others 8 (λ q. omega (arith, q)) (λ q. omega (arith, q))) (ap (λ (k : StackWords). length k.words) x.stack) x.sized in
          build x (stores f' 6 to (λ q. omega (arith, q)) lt int' (omega arith))
        where
          build : (x : Set s (loads_word 6 from) 6 (mem_of s.stack (base + from))) → Stored x.t (stores_word 6 to) (base + to) (register_of x.t.core 6) → Moved s (loads_word 6 from ++ stores_word 6 to) (base + from) (base + to) 1
          build x y =
              let e : y.t.stack ≡ with_word s.stack (base + to) (mem_of s.stack (base + from)) =
              y.stack ∙ ap (λ v. with_word x.t.stack (base + to) v) x.value ∙ ap (λ (k : StackWords). with_word k (base + to) (mem_of s.stack (base + from))) x.stack in
              record {
                t = y.t;
                run = run_then x.run y.run;
                others = λ r ne6 ne7. y.others r ne7 ∙ x.others r ne6 ne7;
                bases = ap (λ (k : StackWords). k.bases) e;
                count = ap (λ (k : StackWords). length k.words) e ∙ length-set s.stack.words (base + to) (mem_of s.stack (base + from));
                only = λ i o. ap (λ (k : StackWords). mem_of k i) e ∙ word_other s.stack (base + to) (mem_of s.stack (base + from)) i (outside i o);
                words = λ j low. one_word e j low;
                sized = y.sized;
              }
            where
              outside : (i : ℕ) → (i < base + to) ⊎ (base + to + 1 ≤ i) → i ≢ base + to
              outside i (inl h) q = omega arith
              outside i (inr h) q = omega arith

              one_word : y.t.stack ≡ with_word s.stack (base + to) (mem_of s.stack (base + from)) → (j : ℕ) → j < 1 → mem_of y.t.stack (base + to + j) ≡ mem_of s.stack (base + from + j)
              one_word e zero low =
                  let a : base + to + 0 ≡ base + to = omega arith in
                  let b : base + from + 0 ≡ base + from = omega arith in
                  rw (a, b) (ap (λ (k : StackWords). mem_of k (base + to)) e ∙ word_same s.stack (base + to) (mem_of s.stack (base + from)) int)
              one_word e (suc j) low = absurd (omega arith)

  -- The words of one place go to another, which shares none with it.
  pub moved : {s : ThreadData} → InFrame s base → (n from to : ℕ) → from + n ≤ 65536 → to + n ≤ 65536 → base + from + n ≤ length s.stack.words → base + to + n ≤ length s.stack.words →
      (from + n ≤ to) ⊎ (to + n ≤ from) → s.core.pc + 24 * n < 2 ^ 64 → Moved s (moves_words n from to) (base + from) (base + to) n
  moved {s = s} f zero from to lf lt inf int far room = record {
    t = s;
    run = stop;
    others = λ r ne6 ne7. refl;
    bases = refl;
    count = refl;
    only = λ i o. refl;
    words = λ j low. absurd (omega arith);
    sized = f.sized;
  }
  moved {s = s} f (suc n) from to lf lt inf int far room =
      then_rest (one_moved f from to (omega arith) (omega arith) (omega arith) (omega arith) (omega arith))
      (λ t f' count room'. moved f' n (from + 1) (to + 1) (omega arith) (omega arith) (omega arith) (omega arith) (farther far) room')
    where
      farther : (from + suc n ≤ to) ⊎ (to + suc n ≤ from) → (from + 1 + n ≤ to + 1) ⊎ (to + 1 + n ≤ from + 1)
      farther (inl h) = inl (omega arith)
      farther (inr h) = inr (omega arith)

      then_rest : Moved s (loads_word 6 from ++ stores_word 6 to) (base + from) (base + to) 1 →
          ((t : ThreadData) → InFrame t base → length t.stack.words ≡ length s.stack.words → t.core.pc + 24 * n < 2 ^ 64 → Moved t (moves_words n (from + 1) (to + 1)) (base + (from + 1)) (base + (to + 1)) n) →
          Moved s (moves_words (suc n) from to) (base + from) (base + to) (suc n)
      then_rest x rest =
          let pc = run_pc x.run in
          let a = length-append (loads_word 6 from) (stores_word 6 to) in
          let c = loads_short 6 from in
          let d = stores_short 6 to in
          let f' = in_frame f (x.others 8 (λ q. omega (arith, q)) (λ q. omega (arith, q))) x.count x.sized in
          build x (rest x.t f' x.count (omega arith))
        where
          build : (x : Moved s (loads_word 6 from ++ stores_word 6 to) (base + from) (base + to) 1) → Moved x.t (moves_words n (from + 1) (to + 1)) (base + (from + 1)) (base + (to + 1)) n → Moved s (moves_words (suc n) from to) (base + from) (base + to) (suc n)
          build x y = record {
            t = y.t;
            run = run_then x.run y.run;
            others = λ r ne6 ne7. y.others r ne6 ne7 ∙ x.others r ne6 ne7;
            bases = y.bases ∙ x.bases;
            count = y.count ∙ x.count;
            only = λ i o. y.only i (wider i o) ∙ x.only i (first i o);
            words = λ j low. each j low far;
            sized = y.sized;
          }
            where
              wider : (i : ℕ) → (i < base + to) ⊎ (base + to + suc n ≤ i) → (i < base + (to + 1)) ⊎ (base + (to + 1) + n ≤ i)
              wider i (inl h) = inl (omega arith)
              wider i (inr h) = inr (omega arith)

              first : (i : ℕ) → (i < base + to) ⊎ (base + to + suc n ≤ i) → (i < base + to) ⊎ (base + to + 1 ≤ i)
              first i (inl h) = inl h
              first i (inr h) = inr (omega arith)

              away : (j : ℕ) → j < n → (from + suc n ≤ to) ⊎ (to + suc n ≤ from) → (base + from + suc j < base + to) ⊎ (base + to + 1 ≤ base + from + suc j)
              away j low (inl h) = inl (omega arith)
              away j low (inr h) = inr (omega arith)

              each : (j : ℕ) → j < suc n → (from + suc n ≤ to) ⊎ (to + suc n ≤ from) → mem_of y.t.stack (base + to + j) ≡ mem_of s.stack (base + from + j)
              each zero low h = y.only (base + to + 0) (inl (omega arith)) ∙ x.words 0 (omega arith)
              each (suc j) low h =
                  let a : base + to + suc j ≡ base + (to + 1) + j = omega arith in
                  let b : base + from + suc j ≡ base + (from + 1) + j = omega arith in
                  ap (mem_of y.t.stack) a ∙ y.words j (omega arith) ∙ ap (mem_of x.t.stack) (sym b) ∙ x.only (base + from + suc j) (away j (omega arith) h)

-- The address of a word of the frame.
pub addresses : {s : ThreadData} {base : ℕ} → InFrame s base → (rd offset : ℕ) → offset < 65536 → base + offset < length s.stack.words → (rd == 0) ≡ false → rd < 32 → s.core.pc + 12 < 2 ^ 64 → Set s (addresses_word rd offset) rd (frame_address (base + offset))
addresses {s = s} {base = base} f rd offset low inside set lt room =
    by_if (λ is. Set s is rd (frame_address (base + offset))) (is_near offset) (Addi rd 8 (8 * offset) ∷ []) (far_base offset ++ Addi rd 7 (8 * offset % 4096) ∷ [])
    (λ t. set_by s f.sized (omega arith) (Addi rd 8 (8 * offset)) rd (frame_address (base + offset)) (ap (Sets rd) (near_address f offset (ltb-true offset 256 t) inside)) set lt small)
    (λ t. then_add (far_set f offset low (omega arith)))
  where
    small : frame_address (base + offset) < 2 ^ 64
    small = let h = f.small in address_small (base + offset) (omega arith)

    then_add : Set s (far_base offset) 7 (far f offset) → Set s (far_base offset ++ Addi rd 7 (8 * offset % 4096) ∷ []) rd (frame_address (base + offset))
    then_add x =
        let pc = run_pc x.run in
        set_then x (set_by x.t x.sized (omega arith) (Addi rd 7 (8 * offset % 4096)) rd (frame_address (base + offset)) (ap (Sets rd) (far_address f x.t.core offset x.value low inside)) set lt small) refl
