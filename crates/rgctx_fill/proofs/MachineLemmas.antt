-- Turns of machine code over the frames: what registers and frame words are after an instruction.
use Rattle.std.proofs.Common.{◌≡◌, ◌≢◌, ℕ, suc, ◌+◌, ◌-◌, ◌*◌, ◌/◌, ◌%◌, ◌^◌, ◌<◌, ◌≤◌, Bool, true, false, ◌==◌, cond, nat_lt, nat_le, List, [], ◌∷◌, ◌++◌, length, slice_index, slice_set, Some, None, option_map, refl, sym, ap, ◌∙◌, subst, arith, eq-eqb}
use Rattle.std.proofs.lemmas.Bool.Decides.{nat_tests}
use Rattle.std.proofs.lemmas.List.{get_or-set_same, get_or-set_other}
use Rattle.rgctx_words.specs.Regions.{unit_at, context_index}
use Rattle.rgctx_words.specs.Frames.{frames_at, frame_address}
use Rattle.rgctx_words.specs.Stacks.{StackWords, mem_of, with_word}
use Rattle.rv_isa.specs.declared.instr.Instr.{Instr}
use Rattle.rv_isa.specs.Reading.{decode_of}
use Rattle.rv_machine.specs.declared.registers.Core.{Core}
use Rattle.rv_machine.specs.declared.effect.Effect.TheVariants.{Loads, Stores}
use Rattle.rv_machine.specs.declared.size.Size.TheVariants.{Eight}
use Rattle.rv_machine.specs.Registers.{register_of, with_register, next_pc, at_pc}
use Rattle.rv_machine.specs.Effect.{effect_of}
use Rattle.rv_machine.specs.Steps.{fetched, stored, loaded}
use Rattle.rgctx_fill.specs.declared.doing.Doing.TheVariants.{Runs}
use Rattle.rgctx_fill.specs.ThreadStates.{ImageData, ThreadData, Move, plain, with_core, with_stack}
use Rattle.rgctx_fill.specs.ThreadStates as move
use Rattle.rgctx_fill.specs.Accesses.{unit_of, frame_written}
use Rattle.rgctx_fill.specs.MachineTurns.{faults, sets, instr, does, decoded, at_word, loads_frame, loads_from, stores}
use Rattle.rgctx_fill.specs.ThreadTurns.{move_of, want}
use Rattle.rgctx_fill.specs.Standing.{sides}
use Rattle.type_tree.specs.declared.tree.TExpr.{TExpr}
use Rattle.interaction.specs.Process.{Naming}
use Rattle.interaction.specs.Simulation.{Sides, Keeps, Onward}
use Rattle.interaction.specs.Simulation as simulation
use Rattle.interaction.proofs.Compose.{more}
use Rattle.store_object.specs.declared.request.Request.{Request}
use Rattle.store_object.specs.declared.reply.Reply.{Reply}
use Rattle.cil_meaning.specs.Naming.{Mention}
use Rattle.cil_meaning.specs.Frames.{Frames}
use Rattle.cil_meaning.specs.Replies.{Left}
use Rattle.mn_outside.specs.declared.machine.FaultCause.TheVariants.{Misaligned}

-- Registers ----------------------------------------------------------------

module _ (c : Core) (r w : ℕ) (set : (r == 0) ≡ false) where
  pub register_same : r < length c.x → register_of (with_register c r w) r ≡ w
  register_same inside =
      ap (λ b. cond b 0 (slice_index (with_register c r w).x r)) set
      ∙ ap (λ b. slice_index (cond b c (record c { x = slice_set c.x r w })).x r) set
      ∙ get_or-set_same c.x r w 0 inside

  pub register_other : (m : ℕ) → m ≢ r → register_of (with_register c r w) m ≡ register_of c m
  register_other m other =
      ap (λ b. cond (m == 0) 0 (slice_index (cond b c (record c { x = slice_set c.x r w })).x m)) set
      ∙ ap (λ v. cond (m == 0) 0 v) (get_or-set_other c.x r m w 0 other)

-- Frame words --------------------------------------------------------------

pub word_same : (s : StackWords) (i w : ℕ) → i < length s.words → mem_of (with_word s i w) i ≡ w
word_same s i w inside = get_or-set_same s.words i w 0 inside

pub word_other : (s : StackWords) (i w j : ℕ) → j ≢ i → mem_of (with_word s i w) j ≡ mem_of s j
word_other s i w j other = get_or-set_other s.words i j w 0 other

unit_found : (start many i : ℕ) → i < many → unit_at start 8 many (start + 8 * i) ≡ Some i
unit_found start many i inside =
    let low : nat_le start (start + 8 * i) ≡ true = grind (arith, nat_tests) in
    let back : start + 8 * i - start ≡ 8 * i = omega arith in
    let half : 8 * i / 8 ≡ i = omega arith in
    let even : 8 * i % 8 ≡ 0 = omega arith in
    let here : nat_lt i many ≡ true = grind (arith, nat_tests) in
    rw (low, back, half, even, here) refl

module _ (i : ℕ) where
  -- the address of a frame word in use leads to it
  pub frame_found : (s : StackWords) → i < length s.words → unit_of 8 s (frame_address i) ≡ Some i
  frame_found s inside = unit_found frames_at (length s.words * 1) i (omega (arith, inside))

  -- and to no context word
  pub no_context : context_index (frame_address i) ≡ None
  unfolding frames_at
  no_context =
      let past : nat_lt ((0x40000000 + 8 * i - 0x20000000) / 8) 81920 ≡ false = grind (arith, nat_tests) in
      let low : nat_le 0x20000000 (0x40000000 + 8 * i) ≡ true = grind (arith, nat_tests) in
      rw (low, past) refl

  pub aligned : frame_address i % 8 ≡ 0
  unfolding frames_at
  aligned = omega arith

-- Turns --------------------------------------------------------------------

-- the instruction stands at this address
pub record HasInstr (im : ImageData) (pc : ℕ) (i : Instr) : Type 0 where
  pub word : ℕ
  pub fetches : fetched im.code pc ≡ Some word
  pub decodes : decode_of word ≡ Some i

-- the turn of machine code is what its instruction does
pub turn_is : (im : ImageData) (s : ThreadData) (i : Instr) (h : HasInstr im s.core.pc i) → s.doing ≡ Runs → want im s ≡ plain (does s h.word (effect_of i s.core))
turn_is im s i h runs =
    ap (λ d. plain (move_of im s d)) runs
    ∙ ap (λ f. plain (at_word s f)) h.fetches
    ∙ ap (λ d. plain (decoded s h.word d)) h.decodes

module _ (s : ThreadData) (word : ℕ) where
  either_way : (b : Bool) (n : ℕ) → cond b n (n + 0) ≡ n
  either_way true n = refl
  either_way false n = omega arith

  -- a word of 64 bits is loaded as it is
  whole : (n : ℕ) → n < 2 ^ 64 → loaded Eight true n ≡ n
  whole n small =
      let same : n % 2 ^ 64 ≡ n = omega arith in
      ap (λ k. cond (nat_lt k (2 ^ 63)) k (k + 0)) same ∙ either_way (nat_lt n (2 ^ 63)) n

  whole_stored : (n : ℕ) → n < 2 ^ 64 → stored Eight n ≡ n
  whole_stored n small = omega arith

  module _ (i : ℕ) (inside : i < length s.stack.words) where
    abbrev there : ℕ
    there = frame_address i

    even : (there % 8 == 0) ≡ true
    even = eq-eqb (there % 8) 0 (aligned i)

    -- LD of a frame word
    pub does_load : (rd : ℕ) → mem_of s.stack i < 2 ^ 64 → does s word (Loads rd Eight true there) ≡ move.Goes (instr s word) (sets s rd (mem_of s.stack i))
    does_load rd small =
        ap (λ b. cond b (loads_from s word rd Eight true there (context_index there)) (faults s (Misaligned there))) even
        ∙ ap (loads_from s word rd Eight true there) (no_context i)
        ∙ ap (λ u. loads_frame s word rd Eight true there (option_map (mem_of s.stack) u)) (frame_found i s.stack inside)
        ∙ ap (λ n. move.Goes (instr s word) (sets s rd n)) (whole (mem_of s.stack i) small)

    -- SD of a frame word
    pub does_store : (w : ℕ) → w < 2 ^ 64 →
        does s word (Stores Eight there w) ≡ move.Goes (instr s word) (with_stack (with_core s (at_pc s.core (next_pc s.core))) (with_word s.stack i w))
    does_store w small =
        ap (λ b. cond b (stores s word there (frame_written Eight s.stack there (stored Eight w))) (faults s (Misaligned there))) even
        ∙ ap (λ u. stores s word there (option_map (λ j. with_word s.stack j (stored Eight w)) u)) (frame_found i s.stack inside)
        ∙ ap (λ n. move.Goes (instr s word) (with_stack (with_core s (at_pc s.core (next_pc s.core))) (with_word s.stack i n))) (whole_stored w small)

-- Straight-line code -------------------------------------------------------

-- the instructions stand one behind the other from this address on
abbrev pub Stands : ImageData → ℕ → List Instr → Type 0
Stands im pc [] = Unit {0}
Stands im pc (i ∷ is) = HasInstr im pc i × Stands im (pc + 4) is

pub stands_front : (im : ImageData) (pc : ℕ) (a b : List Instr) → Stands im pc (a ++ b) → Stands im pc a
stands_front im pc [] b h = tt
stands_front im pc (i ∷ a) b h = (h.0, stands_front im (pc + 4) a b h.1)

pub stands_back : (im : ImageData) (pc : ℕ) (a b : List Instr) → Stands im pc (a ++ b) → Stands im (pc + 4 * length a) b
stands_back im pc [] b h = let e : pc ≡ pc + 4 * 0 = omega arith in subst (λ n. Stands im n b) e h
stands_back im pc (i ∷ a) b h =
    let e : pc + 4 + 4 * length a ≡ pc + 4 * suc (length a) = omega arith in
    subst (λ n. Stands im n b) e (stands_back im (pc + 4) a b h.1)

-- The instructions lead from one state to another without a request or a fault, whatever the code words are.
pub data Run : ThreadData → List Instr → ThreadData → Type 0 where
  stop : {s : ThreadData} → Run s [] s
  step : {s t : ThreadData} {i : Instr} {is : List Instr} (u : ThreadData) → ((word : ℕ) → does s word (effect_of i s.core) ≡ move.Goes (instr s word) u) →
      u.core.pc ≡ s.core.pc + 4 → u.doing ≡ s.doing → Run u is t → Run s (i ∷ is) t

pub run_then : {s t u : ThreadData} {a b : List Instr} → Run s a t → Run t b u → Run s (a ++ b) u
run_then stop r = r
run_then (step v does_it pc doing q) r = step v does_it pc doing (run_then q r)

pub run_pc : {s t : ThreadData} {a : List Instr} → Run s a t → t.core.pc ≡ s.core.pc + 4 * length a
run_pc stop = omega arith
run_pc (step v does_it pc doing q) = let h = run_pc q in omega arith

module _ (im : ImageData) (naming : Naming Mention TExpr) (gain : ThreadData → ℕ) (w : ℕ → ℕ) (To : Left → ThreadData → Type 0) where
  abbrev on : Sides Mention TExpr Request Reply Frames ThreadData
  on = sides im naming gain w

  -- turns of straight-line code: each takes one of those that there are to spend
  pub run_keeps : {s t : ThreadData} {a : List Instr} {p : Left} → Run s a t → (m n : ℕ) → s.doing ≡ Runs → Stands im s.core.pc a → Keeps on To false m p t → m + length a ≤ n → Keeps on To false n p s
  run_keeps stop m n runs st k le = more n (omega arith) k
  run_keeps {s = s} {p = p} (step {i = i} {is = is} u does_it pc doing r) m n runs st k le =
      let rest = run_keeps r m (m + length is) (doing ∙ runs) (subst (λ q. Stands im q is) (sym pc) st.1) k (omega arith) in
      simulation.turns (m + length is) (omega arith)
      (subst (Onward on To (m + length is) p) (sym (turn_is im s i st.0 runs ∙ ap plain (does_it st.0.word))) (simulation.goes rest))

  -- the same where a turn is to come first
  pub first_run : {s t : ThreadData} {i : Instr} {is : List Instr} {p : Left} → Run s (i ∷ is) t → (b : Bool) (m n : ℕ) → s.doing ≡ Runs → Stands im s.core.pc (i ∷ is) → Keeps on To false m p t → m + length is < n → Keeps on To b n p s
  first_run {s = s} {i = i} {is = is} {p = p} (step u does_it pc doing r) b m n runs st k le =
      let rest = run_keeps r m (m + length is) (doing ∙ runs) (subst (λ q. Stands im q is) (sym pc) st.1) k (omega arith) in
      simulation.turns (m + length is) (omega arith)
      (subst (Onward on To (m + length is) p) (sym (turn_is im s i st.0 runs ∙ ap plain (does_it st.0.word))) (simulation.goes rest))
