-- Words of arguments as they are copied at a body's entry.
use Rattle.std.proofs.Common.{◌≡◌, ◌≢◌, ◌⊎◌, inl, inr, ℕ, zero, suc, ◌+◌, ◌*◌, ◌/◌, ◌%◌, ◌^◌, ◌<◌, ◌≤◌, ◌==◌, Bool, true, false, not, cond, bit_and, if◌then◌else◌, List, [], ◌∷◌, ◌++◌, length, refl, sym, ap, ap₂, ◌∙◌, subst, arith, eqb-true}
use Rattle.std.proofs.lemmas.List.{length-set, length-append}
use Rattle.std.proofs.lemmas.Nat.{and_mask}
use Rattle.rgctx_words.specs.Memory.{Only}
use Rattle.rgctx_words.specs.Frames.{frame_address}
use Rattle.rgctx_words.specs.Stacks.{StackWords, mem_of, with_word}
use Rattle.rv_isa.specs.declared.instr.Instr.{Instr}
use Rattle.rv_isa.specs.declared.instr.Instr.TheVariants as rv
use Rattle.rv_machine.specs.declared.effect.Effect.TheVariants.{Sets, Goes}
use Rattle.rv_machine.specs.Arithmetic.{extended, sum_of, left_shift_of, right_shift_of}
use Rattle.rv_machine.specs.Registers.{register_of, next_pc, at_pc}
use Rattle.rv_machine.specs.Effect.{effect_of}
use Rattle.rgctx_fill.specs.declared.doing.Doing.TheVariants.{Runs}
use Rattle.rgctx_fill.specs.ThreadStates.{ImageData, ThreadData, with_core}
use Rattle.rgctx_fill.specs.ThreadStates.{plain as plain_move}
use Rattle.rgctx_fill.specs.MachineTurns.{does as machine_does}
use Rattle.rgctx_fill.specs.Constructed.{IsSized, Walk, stays, walks}
use Rattle.rgctx_fill.proofs.MachineLemmas.{HasInstr, turn_is, Stands, stands_front, stands_back, Run, run_then, run_pc, word_same, word_other}
use Rattle.rv_codegen.specs.FrameWords.{stores_word}
use Rattle.rv_codegen.specs.PlainItems.{BodyData, is_bool_place, place_type, is_unboxed, points_into_box, adapts, take_words}
use Rattle.cil_meaning.specs.Groups.{Argument}
use Rattle.rv_codegen.specs.Entering.{unboxed, adapted}
use Rattle.rv_codegen.proofs.StraightLemmas.{Set, Stored, InFrame, in_frame, set_by, load_by, stores, stores_short, next_is, small_mod}
use Rattle.rv_codegen.proofs.WalkLemmas.{walk_then, run_walk}
use Rattle.rv_codegen.proofs.ItemLemmas.{AreRows, rows_both, stores_rows}
use Rattle.rv_codegen.proofs.GiveLemmas.{word_address}
use Rattle.rv_codegen.proofs.FormLemmas.{run_doing}
use Rattle.rv_codegen.proofs.CalcLemmas.{mod_small}

module _ (im : ImageData) where
  -- a turn of an instruction that jumps
  pub jump_walk : {n : ℕ} {u : ThreadData} (t : ThreadData) (i : Instr) (target : ℕ) → t.doing ≡ Runs → HasInstr im t.core.pc i → effect_of i t.core ≡ Goes 0 target → Walk im n (with_core t (at_pc t.core target)) u → Walk im (suc n) t u
  jump_walk t i target runs h move r = walks _ (with_core t (at_pc t.core target)) (turn_is im t i h runs ∙ ap (λ x. plain_move (machine_does t h.word x)) move) r

  -- Code ran from one state to another, over x6 and x7 alone; x6 is then a word.
  pub record Adapted (u : ThreadData) (is : List Instr) (y : ℕ) : Type 0 where
    pub t : ThreadData
    pub turns : ℕ
    pub quick : turns ≤ length is
    pub walk : Walk im turns u t
    pub pc : t.core.pc ≡ u.core.pc + 4 * length is
    pub six : register_of t.core 6 ≡ y
    pub others : (r : ℕ) → r ≢ 6 → r ≢ 7 → register_of t.core r ≡ register_of u.core r
    pub stack : t.stack ≡ u.stack
    pub doing : t.doing ≡ u.doing
    pub sized : IsSized t

  pub jumped_sized : (t : ThreadData) (target : ℕ) → IsSized t → IsSized (with_core t (at_pc t.core target))
  jumped_sized t target z = record { registers = z.registers; register = z.register; word = z.word }

  -- the four instructions behind the tests
  abbrev boxing : List Instr
  boxing = rv.Slli 6 6 24 ∷ rv.Addi 7 0 1 ∷ rv.Slli 7 7 62 ∷ rv.Add 6 6 7 ∷ []

  record Boxes (v : ThreadData) (x : ℕ) : Type 0 where
    t : ThreadData
    run : Run v boxing t
    value : register_of t.core 6 ≡ 2 ^ 62 + x * 2 ^ 24
    others : (r : ℕ) → r ≢ 6 → r ≢ 7 → register_of t.core r ≡ register_of v.core r
    stack : t.stack ≡ v.stack
    sized : IsSized t

  box_word : (x : ℕ) → x < 2 ^ 64 → x / 2 ^ 30 ≡ 0 → (x * 2 ^ 24 % 2 ^ 64 + 2 ^ 62) % 2 ^ 64 ≡ 2 ^ 62 + x * 2 ^ 24
  box_word x small low = omega arith

  module _ (u : ThreadData) (z : IsSized u) (runs : u.doing ≡ Runs) (x : ℕ) (six : register_of u.core 6 ≡ x) (room : u.core.pc + 64 < 2 ^ 64) (st : Stands im u.core.pc points_into_box) where
    small_x : x < 2 ^ 64
    small_x = subst (λ v. v < 2 ^ 64) six (z.register 6)

    module _ (v : ThreadData) (zv : IsSized v) (six_v : register_of v.core 6 ≡ x) (low : x / 2 ^ 30 ≡ 0) (room_v : v.core.pc + 16 < 2 ^ 64) where
      boxed : Boxes v x
      boxed = first (set_by v zv (omega arith) (rv.Slli 6 6 24) 6 (x * 2 ^ 24 % 2 ^ 64) (ap (λ n. Sets 6 (left_shift_of n 24)) six_v) refl (omega arith) (mod_small (x * 2 ^ 24)))
        where
          fourth : (a : Set v (rv.Slli 6 6 24 ∷ []) 6 (x * 2 ^ 24 % 2 ^ 64)) (d : Set a.t (rv.Addi 7 0 1 ∷ []) 7 1) (e : Set d.t (rv.Slli 7 7 62 ∷ []) 7 (2 ^ 62)) → Set e.t (rv.Add 6 6 7 ∷ []) 6 (2 ^ 62 + x * 2 ^ 24) → Boxes v x
          fourth a d e h = record {
            t = h.t;
            run = run_then a.run (run_then d.run (run_then e.run h.run));
            value = h.value;
            others = λ r ne6 ne7. h.others r ne6 ne7 ∙ e.others r ne7 ne7 ∙ d.others r ne7 ne7 ∙ a.others r ne6 ne7;
            stack = h.stack ∙ e.stack ∙ d.stack ∙ a.stack;
            sized = h.sized;
          }

          third : (a : Set v (rv.Slli 6 6 24 ∷ []) 6 (x * 2 ^ 24 % 2 ^ 64)) (d : Set a.t (rv.Addi 7 0 1 ∷ []) 7 1) → Set d.t (rv.Slli 7 7 62 ∷ []) 7 (2 ^ 62) → Boxes v x
          third a d e =
              let p1 = run_pc a.run in
              let p2 = run_pc d.run in
              let p3 = run_pc e.run in
              let six_now : register_of e.t.core 6 ≡ x * 2 ^ 24 % 2 ^ 64 = e.others 6 (λ q. omega (arith, q)) (λ q. omega (arith, q)) ∙ d.others 6 (λ q. omega (arith, q)) (λ q. omega (arith, q)) ∙ a.value in
              let sum : sum_of (register_of e.t.core 6) (register_of e.t.core 7) ≡ 2 ^ 62 + x * 2 ^ 24 = ap₂ sum_of six_now e.value ∙ box_word x small_x low in
              fourth a d e (set_by e.t e.sized (omega arith) (rv.Add 6 6 7) 6 (2 ^ 62 + x * 2 ^ 24) (ap (Sets 6) sum) refl (omega arith) (omega arith))

          second : (a : Set v (rv.Slli 6 6 24 ∷ []) 6 (x * 2 ^ 24 % 2 ^ 64)) → Set a.t (rv.Addi 7 0 1 ∷ []) 7 1 → Boxes v x
          second a d =
              let p1 = run_pc a.run in
              let p2 = run_pc d.run in
              third a d (set_by d.t d.sized (omega arith) (rv.Slli 7 7 62) 7 (2 ^ 62) (ap (λ n. Sets 7 (left_shift_of n 62)) d.value) refl (omega arith) (omega arith))

          first : Set v (rv.Slli 6 6 24 ∷ []) 6 (x * 2 ^ 24 % 2 ^ 64) → Boxes v x
          first a =
              let p1 = run_pc a.run in
              second a (set_by a.t a.sized (omega arith) (rv.Addi 7 0 1) 7 1 refl refl (omega arith) (omega arith))

    unboxes : Adapted u points_into_box (unboxed x)
    unboxes = tested (set_by u z (omega arith) (rv.Srli 7 6 30) 7 (x / 2 ^ 30) (ap (λ n. Sets 7 (right_shift_of n 30)) six) refl (omega arith) (omega (arith, small_x))) (x / 2 ^ 30 == 0) refl
      where
        tested : Set u (rv.Srli 7 6 30 ∷ []) 7 (x / 2 ^ 30) → (high : Bool) → (x / 2 ^ 30 == 0) ≡ high → Adapted u points_into_box (unboxed x)
        tested a false e =
            let p = run_pc a.run in
            let h = subst (λ n. HasInstr im n (rv.Bne 7 0 24)) (sym p) st.1.0 in
            let target : sum_of a.t.core.pc (extended 13 24) ≡ u.core.pc + 28 = small_mod (a.t.core.pc + 24) (omega arith) ∙ omega arith in
            let move : effect_of (rv.Bne 7 0 24) a.t.core ≡ Goes 0 (sum_of a.t.core.pc (extended 13 24)) = ap (λ n. Goes 0 (cond (not (n == 0)) (sum_of a.t.core.pc (extended 13 24)) (next_pc a.t.core))) a.value ∙ ap (λ k. Goes 0 (cond (not k) (sum_of a.t.core.pc (extended 13 24)) (next_pc a.t.core))) e in
            record {
              t = with_core a.t (at_pc a.t.core (sum_of a.t.core.pc (extended 13 24)));
              turns = 2;
              quick = omega arith;
              walk = walk_then im (run_walk im a.run runs (st.0, tt)) (jump_walk a.t (rv.Bne 7 0 24) (sum_of a.t.core.pc (extended 13 24)) (run_doing a.run ∙ runs) h move stays);
              pc = target;
              six = a.others 6 (λ q. omega (arith, q)) (λ q. omega (arith, q)) ∙ six ∙ sym (ap (λ k. if k then (if x == 0 then x else 2 ^ 62 + x * 2 ^ 24) else x) e);
              others = λ r ne6 ne7. a.others r ne7 ne7;
              stack = a.stack;
              doing = run_doing a.run;
              sized = jumped_sized a.t (sum_of a.t.core.pc (extended 13 24)) a.sized;
            }
        tested a true e =
            let p = run_pc a.run in
            let h = subst (λ n. HasInstr im n (rv.Bne 7 0 24)) (sym p) st.1.0 in
            let move : effect_of (rv.Bne 7 0 24) a.t.core ≡ Goes 0 (next_pc a.t.core) = ap (λ n. Goes 0 (cond (not (n == 0)) (sum_of a.t.core.pc (extended 13 24)) (next_pc a.t.core))) a.value ∙ ap (λ k. Goes 0 (cond (not k) (sum_of a.t.core.pc (extended 13 24)) (next_pc a.t.core))) e in
            let next : next_pc a.t.core ≡ a.t.core.pc + 4 = next_is a.t (omega arith) in
            second (with_core a.t (at_pc a.t.core (next_pc a.t.core))) (next ∙ ap (λ n. n + 4) p ∙ omega arith)
            (walk_then im (run_walk im a.run runs (st.0, tt)) (jump_walk a.t (rv.Bne 7 0 24) (next_pc a.t.core) (run_doing a.run ∙ runs) h move stays))
            (a.others 6 (λ q. omega (arith, q)) (λ q. omega (arith, q)) ∙ six) (λ r ne7. a.others r ne7 ne7) a.stack (run_doing a.run) (jumped_sized a.t (next_pc a.t.core) a.sized) (x == 0) refl
          where
            second : (v : ThreadData) → v.core.pc ≡ u.core.pc + 8 → Walk im 2 u v → register_of v.core 6 ≡ x → ((r : ℕ) → r ≢ 7 → register_of v.core r ≡ register_of u.core r) → v.stack ≡ u.stack → v.doing ≡ u.doing → IsSized v → (null : Bool) → (x == 0) ≡ null → Adapted u points_into_box (unboxed x)
            second v at_v walk six_v others stack doing sized true e0 =
                let h = subst (λ n. HasInstr im n (rv.Beq 6 0 20)) (omega arith ∙ sym at_v) st.1.1.0 in
                let target : sum_of v.core.pc (extended 13 20) ≡ u.core.pc + 28 = small_mod (v.core.pc + 20) (omega arith) ∙ omega arith in
                let move : effect_of (rv.Beq 6 0 20) v.core ≡ Goes 0 (sum_of v.core.pc (extended 13 20)) = ap (λ n. Goes 0 (cond (n == 0) (sum_of v.core.pc (extended 13 20)) (next_pc v.core))) six_v ∙ ap (λ k. Goes 0 (cond k (sum_of v.core.pc (extended 13 20)) (next_pc v.core))) e0 in
                record {
                  t = with_core v (at_pc v.core (sum_of v.core.pc (extended 13 20)));
                  turns = 3;
                  quick = omega arith;
                  walk = walk_then im walk (jump_walk v (rv.Beq 6 0 20) (sum_of v.core.pc (extended 13 20)) (doing ∙ runs) h move stays);
                  pc = target;
                  six = six_v ∙ sym (ap (λ k. if k then (if x == 0 then x else 2 ^ 62 + x * 2 ^ 24) else x) e ∙ ap (λ k. if k then x else 2 ^ 62 + x * 2 ^ 24) e0);
                  others = λ r ne6 ne7. others r ne7;
                  stack = stack;
                  doing = doing;
                  sized = jumped_sized v (sum_of v.core.pc (extended 13 20)) sized;
                }
            second v at_v walk six_v others stack doing sized false e0 =
                let h = subst (λ n. HasInstr im n (rv.Beq 6 0 20)) (omega arith ∙ sym at_v) st.1.1.0 in
                let move : effect_of (rv.Beq 6 0 20) v.core ≡ Goes 0 (next_pc v.core) = ap (λ n. Goes 0 (cond (n == 0) (sum_of v.core.pc (extended 13 20)) (next_pc v.core))) six_v ∙ ap (λ k. Goes 0 (cond k (sum_of v.core.pc (extended 13 20)) (next_pc v.core))) e0 in
                let next : next_pc v.core ≡ v.core.pc + 4 = next_is v (omega arith) in
                third (with_core v (at_pc v.core (next_pc v.core))) (next ∙ ap (λ n. n + 4) at_v ∙ omega arith) (walk_then im walk (jump_walk v (rv.Beq 6 0 20) (next_pc v.core) (doing ∙ runs) h move stays)) doing others stack
                (boxed (with_core v (at_pc v.core (next_pc v.core))) (jumped_sized v (next_pc v.core) sized) six_v (eqb-true (x / 2 ^ 30) 0 e) (omega arith))
              where
                third : (y : ThreadData) → y.core.pc ≡ u.core.pc + 12 → Walk im 3 u y → y.doing ≡ u.doing → ((r : ℕ) → r ≢ 7 → register_of y.core r ≡ register_of u.core r) → y.stack ≡ u.stack → Boxes y x → Adapted u points_into_box (unboxed x)
                third y at_y walk' doing' same_others same_stack k = record {
                  t = k.t;
                  turns = 7;
                  quick = omega arith;
                  walk = walk_then im walk' (run_walk im k.run (doing' ∙ runs) (subst (λ n. Stands im n boxing) (omega arith ∙ sym at_y) st.1.1.1));
                  pc = run_pc k.run ∙ ap (λ n. n + 16) at_y ∙ omega arith;
                  six = k.value ∙ sym (ap (λ n. if n then (if x == 0 then x else 2 ^ 62 + x * 2 ^ 24) else x) e ∙ ap (λ n. if n then x else 2 ^ 62 + x * 2 ^ 24) e0);
                  others = λ r ne6 ne7. k.others r ne6 ne7 ∙ same_others r ne7;
                  stack = k.stack ∙ same_stack;
                  doing = run_doing k.run ∙ doing';
                  sized = k.sized;
                }

-- Words of one argument --------------------------------------------------------

module _ (b : BodyData) (arg : ℕ) where
  pub adapts_few : length (adapts b arg) ≤ 7
  adapts_few = by_test (is_bool_place (place_type b (Argument arg))) (is_unboxed b arg)
    where
      by_test : (is_bool is_box : Bool) → length (if is_bool then rv.Andi 6 6 255 ∷ [] else if is_box then points_into_box else []) ≤ 7
      by_test true is_box = omega arith
      by_test false true = omega arith
      by_test false false = omega arith

  pub adapts_rows : AreRows (adapts b arg)
  adapts_rows = by_test (is_bool_place (place_type b (Argument arg))) (is_unboxed b arg)
    where
      by_test : (is_bool is_box : Bool) → AreRows (if is_bool then rv.Andi 6 6 255 ∷ [] else if is_box then points_into_box else [])
      by_test true is_box = ((omega arith, omega arith, omega arith), tt)
      by_test false true = ((omega arith, omega arith, omega arith), ((omega arith, refl, omega arith, omega arith), ((omega arith, refl, omega arith, omega arith), ((omega arith, omega arith, omega arith), ((omega arith, omega arith, omega arith), ((omega arith, omega arith, omega arith), ((omega arith, omega arith, omega arith), tt)))))))
      by_test false false = tt

  pub takes_rows : (n word offset : ℕ) → word + n ≤ 16 → offset + n ≤ 65536 → AreRows (take_words b (adapts b arg) n word offset)
  takes_rows zero word offset few low = tt
  takes_rows (suc n) word offset few low =
      rows_both (rv.Ld 6 5 (8 * word) ∷ adapts b arg ++ stores_word 6 offset) (take_words b (adapts b arg) n (word + 1) (offset + 1))
      (rows_both (rv.Ld 6 5 (8 * word) ∷ adapts b arg) (stores_word 6 offset) ((omega arith, omega arith, omega arith), adapts_rows) (stores_rows 6 offset (omega arith) (omega arith)))
      (takes_rows n (word + 1) (offset + 1) (omega arith) (omega arith))

  abbrev pub one_code : ℕ → ℕ → List Instr
  one_code word offset = rv.Ld 6 5 (8 * word) ∷ adapts b arg ++ stores_word 6 offset

  pub one_short : (word offset : ℕ) → length (one_code word offset) ≤ 11
  one_short word offset =
      let a = length-append (rv.Ld 6 5 (8 * word) ∷ adapts b arg) (stores_word 6 offset) in
      let d = adapts_few in
      let e = stores_short 6 offset in
      omega arith

module _ (b : BodyData) (im : ImageData) (arg : ℕ) where
  pub adapts_word : (u : ThreadData) → IsSized u → u.doing ≡ Runs → (x : ℕ) → register_of u.core 6 ≡ x → u.core.pc + 64 < 2 ^ 64 → Stands im u.core.pc (adapts b arg) → Adapted im u (adapts b arg) (adapted b arg x)
  adapts_word u z runs x six room st = by_test (is_bool_place (place_type b (Argument arg))) (is_unboxed b arg) st
    where
      masked : Stands im u.core.pc (rv.Andi 6 6 255 ∷ []) → Set u (rv.Andi 6 6 255 ∷ []) 6 (x % 256) → Adapted im u (rv.Andi 6 6 255 ∷ []) (x % 256)
      masked st a = record {
        t = a.t;
        turns = 1;
        quick = omega arith;
        walk = run_walk im a.run runs st;
        pc = run_pc a.run;
        six = a.value;
        others = λ r ne6 ne7. a.others r ne6 ne7;
        stack = a.stack;
        doing = run_doing a.run;
        sized = a.sized;
      }

      by_test : (is_bool is_box : Bool) → Stands im u.core.pc (if is_bool then rv.Andi 6 6 255 ∷ [] else if is_box then points_into_box else []) →
          Adapted im u (if is_bool then rv.Andi 6 6 255 ∷ [] else if is_box then points_into_box else []) (if is_bool then x % 256 else (if is_box then unboxed x else x))
      by_test true is_box st = masked st (set_by u z (omega arith) (rv.Andi 6 6 255) 6 (x % 256) (ap (λ n. Sets 6 (bit_and n 255)) six ∙ ap (Sets 6) (and_mask x 8)) refl (omega arith) (omega arith))
      by_test false true st = unboxes im u z runs x six room st
      by_test false false st = record {
        t = u;
        turns = 0;
        quick = omega arith;
        walk = stays;
        pc = omega arith;
        six = six;
        others = λ r ne6 ne7. refl;
        stack = refl;
        doing = refl;
        sized = z;
      }

  -- Words were taken, over x6 and x7 alone.
  pub record Took (s : ThreadData) (is : List Instr) (source target n : ℕ) : Type 0 where
    pub t : ThreadData
    pub turns : ℕ
    pub quick : turns ≤ length is
    pub walk : Walk im turns s t
    pub pc : t.core.pc ≡ s.core.pc + 4 * length is
    pub others : (r : ℕ) → r ≢ 6 → r ≢ 7 → register_of t.core r ≡ register_of s.core r
    pub bases : t.stack.bases ≡ s.stack.bases
    pub count : length t.stack.words ≡ length s.stack.words
    pub only : Only (mem_of s.stack) (mem_of t.stack) target n
    pub words : (j : ℕ) → j < n → mem_of t.stack (target + j) ≡ adapted b arg (mem_of s.stack (source + j))
    pub doing : t.doing ≡ s.doing
    pub sized : IsSized t

  -- one word
  record TookOne (base a : ℕ) (s : ThreadData) (word offset : ℕ) : Type 0 where
    t : ThreadData
    turns : ℕ
    quick : turns ≤ length (one_code b arg word offset)
    walk : Walk im turns s t
    pc : t.core.pc ≡ s.core.pc + 4 * length (one_code b arg word offset)
    others : (r : ℕ) → r ≢ 6 → r ≢ 7 → register_of t.core r ≡ register_of s.core r
    stack : t.stack ≡ with_word s.stack (base + offset) (adapted b arg (mem_of s.stack (a + word)))
    doing : t.doing ≡ s.doing
    sized : IsSized t

  module _ {base : ℕ} (a : ℕ) where
    one_taken : {s : ThreadData} → InFrame s base → s.doing ≡ Runs → register_of s.core 5 ≡ frame_address a → (word offset : ℕ) → word < 16 → offset < 65536 → a + word < length s.stack.words → base + offset < length s.stack.words → s.core.pc + 100 < 2 ^ 64 →
        Stands im s.core.pc (one_code b arg word offset) → TookOne base a s word offset
    one_taken {s = s} f runs five word offset few low inside_from inside_to room st =
        then_adapt (load_by s f.sized (omega arith) 6 5 (8 * word) (a + word) (let small = f.small in word_address a (register_of s.core 5) word five (omega arith) (omega arith)) inside_from refl (omega arith))
      where
        then_adapt : Set s (rv.Ld 6 5 (8 * word) ∷ []) 6 (mem_of s.stack (a + word)) → TookOne base a s word offset
        then_adapt x =
            let p = run_pc x.run in
            then_store x (adapts_word x.t x.sized (run_doing x.run ∙ runs) (mem_of s.stack (a + word)) x.value (omega arith)
            (subst (λ n. Stands im n (adapts b arg)) (sym p) (stands_front im s.core.pc (rv.Ld 6 5 (8 * word) ∷ adapts b arg) (stores_word 6 offset) st).1))
          where
            then_store : (x : Set s (rv.Ld 6 5 (8 * word) ∷ []) 6 (mem_of s.stack (a + word))) → Adapted im x.t (adapts b arg) (adapted b arg (mem_of s.stack (a + word))) → TookOne base a s word offset
            then_store x y =
                let p = run_pc x.run in
                let p' = y.pc in
                let d = adapts_few b arg in
                let count : length y.t.stack.words ≡ length s.stack.words = ap (λ (k : StackWords). length k.words) (y.stack ∙ x.stack) in
                let f' = in_frame f (y.others 8 (λ e. omega (arith, e)) (λ e. omega (arith, e)) ∙ x.others 8 (λ e. omega (arith, e)) (λ e. omega (arith, e))) count y.sized in
                build x y (stores f' 6 offset (λ e. omega (arith, e)) low (omega arith) (omega arith))
              where
                build : (x : Set s (rv.Ld 6 5 (8 * word) ∷ []) 6 (mem_of s.stack (a + word))) → (y : Adapted im x.t (adapts b arg) (adapted b arg (mem_of s.stack (a + word)))) → Stored y.t (stores_word 6 offset) (base + offset) (register_of y.t.core 6) → TookOne base a s word offset
                build x y z =
                    let p = run_pc x.run in
                    let p' = y.pc in
                    let p'' = run_pc z.run in
                    let long = length-append (rv.Ld 6 5 (8 * word) ∷ adapts b arg) (stores_word 6 offset) in
                    let q = y.quick in
                    let there : s.core.pc + 4 * length (rv.Ld 6 5 (8 * word) ∷ adapts b arg) ≡ y.t.core.pc = omega arith in
                    record {
                      t = z.t;
                      turns = 1 + (y.turns + length (stores_word 6 offset));
                      quick = omega arith;
                      walk = walk_then im (run_walk im x.run runs (st.0, tt)) (walk_then im y.walk (run_walk im z.run (y.doing ∙ run_doing x.run ∙ runs)
                          (subst (λ n. Stands im n (stores_word 6 offset)) there (stands_back im s.core.pc (rv.Ld 6 5 (8 * word) ∷ adapts b arg) (stores_word 6 offset) st))));
                      pc = omega arith;
                      others = λ r ne6 ne7. z.others r ne7 ∙ y.others r ne6 ne7 ∙ x.others r ne6 ne7;
                      stack = z.stack ∙ ap (λ v. with_word y.t.stack (base + offset) v) y.six ∙ ap (λ (k : StackWords). with_word k (base + offset) (adapted b arg (mem_of s.stack (a + word)))) (y.stack ∙ x.stack);
                      doing = run_doing z.run ∙ y.doing ∙ run_doing x.run;
                      sized = z.sized;
                    }

    -- So many words, which lie before those that they go to.
    pub takes : {s : ThreadData} → InFrame s base → s.doing ≡ Runs → register_of s.core 5 ≡ frame_address a → (n word offset : ℕ) → word + n ≤ 16 → offset + n ≤ 65536 → a + word + n ≤ base + offset → base + offset + n ≤ length s.stack.words → s.core.pc + 100 * suc n < 2 ^ 64 →
        Stands im s.core.pc (take_words b (adapts b arg) n word offset) → Took s (take_words b (adapts b arg) n word offset) (a + word) (base + offset) n
    takes {s = s} f runs five zero word offset few low before inside room st = record {
      t = s;
      turns = 0;
      quick = omega arith;
      walk = stays;
      pc = omega arith;
      others = λ r ne6 ne7. refl;
      bases = refl;
      count = refl;
      only = λ i o. refl;
      words = λ j lt. absurd (omega arith);
      doing = refl;
      sized = f.sized;
    }
    takes {s = s} f runs five (suc n) word offset few low before inside room st =
        then_rest (one_taken f runs five word offset (omega arith) (omega arith) (omega arith) (omega arith) (omega arith) (stands_front im s.core.pc (one_code b arg word offset) (take_words b (adapts b arg) n (word + 1) (offset + 1)) st))
        (λ t f' runs' five' count room' st'. takes f' runs' five' n (word + 1) (offset + 1) (omega arith) (omega arith) (omega arith) (omega arith) room' st')
      where
        then_rest : TookOne base a s word offset →
            ((t : ThreadData) → InFrame t base → t.doing ≡ Runs → register_of t.core 5 ≡ frame_address a → length t.stack.words ≡ length s.stack.words → t.core.pc + 100 * suc n < 2 ^ 64 → Stands im t.core.pc (take_words b (adapts b arg) n (word + 1) (offset + 1)) →
            Took t (take_words b (adapts b arg) n (word + 1) (offset + 1)) (a + (word + 1)) (base + (offset + 1)) n) →
            Took s (take_words b (adapts b arg) (suc n) word offset) (a + word) (base + offset) (suc n)
        then_rest x rest =
            let short = one_short b arg word offset in
            let p = x.pc in
            let count : length x.t.stack.words ≡ length s.stack.words = ap (λ (k : StackWords). length k.words) x.stack ∙ length-set s.stack.words (base + offset) (adapted b arg (mem_of s.stack (a + word))) in
            let f' = in_frame f (x.others 8 (λ e. omega (arith, e)) (λ e. omega (arith, e))) count x.sized in
            build x count (rest x.t f' (x.doing ∙ runs) (x.others 5 (λ e. omega (arith, e)) (λ e. omega (arith, e)) ∙ five) count (omega arith)
            (subst (λ k. Stands im k (take_words b (adapts b arg) n (word + 1) (offset + 1))) (sym p) (stands_back im s.core.pc (one_code b arg word offset) (take_words b (adapts b arg) n (word + 1) (offset + 1)) st)))
          where
            build : (x : TookOne base a s word offset) → length x.t.stack.words ≡ length s.stack.words → Took x.t (take_words b (adapts b arg) n (word + 1) (offset + 1)) (a + (word + 1)) (base + (offset + 1)) n →
                Took s (take_words b (adapts b arg) (suc n) word offset) (a + word) (base + offset) (suc n)
            build x count y =
                let long = length-append (one_code b arg word offset) (take_words b (adapts b arg) n (word + 1) (offset + 1)) in
                let q = x.quick in
                let q' = y.quick in
                let p = x.pc in
                let p' = y.pc in
                record {
                  t = y.t;
                  turns = x.turns + y.turns;
                  quick = omega arith;
                  walk = walk_then im x.walk y.walk;
                  pc = omega arith;
                  others = λ r ne6 ne7. y.others r ne6 ne7 ∙ x.others r ne6 ne7;
                  bases = y.bases ∙ ap (λ (k : StackWords). k.bases) x.stack;
                  count = y.count ∙ count;
                  only = λ i o. y.only i (wider i o) ∙ same i (outside i o);
                  words = λ j lt. each j lt;
                  doing = y.doing ∙ x.doing;
                  sized = y.sized;
                }
              where
                same : (i : ℕ) → i ≢ base + offset → mem_of x.t.stack i ≡ mem_of s.stack i
                same i ne = ap (λ (k : StackWords). mem_of k i) x.stack ∙ word_other s.stack (base + offset) (adapted b arg (mem_of s.stack (a + word))) i ne

                wider : (i : ℕ) → (i < base + offset) ⊎ (base + offset + suc n ≤ i) → (i < base + (offset + 1)) ⊎ (base + (offset + 1) + n ≤ i)
                wider i (inl h) = inl (omega arith)
                wider i (inr h) = inr (omega arith)

                outside : (i : ℕ) → (i < base + offset) ⊎ (base + offset + suc n ≤ i) → i ≢ base + offset
                outside i (inl h) q = omega arith
                outside i (inr h) q = omega arith

                each : (j : ℕ) → j < suc n → mem_of y.t.stack (base + offset + j) ≡ adapted b arg (mem_of s.stack (a + word + j))
                each zero lt =
                    let e : base + offset + 0 ≡ base + offset = omega arith in
                    let d : a + word ≡ a + word + 0 = omega arith in
                    y.only (base + offset + 0) (inl (omega arith))
                    ∙ ap (mem_of x.t.stack) e
                    ∙ ap (λ (k : StackWords). mem_of k (base + offset)) x.stack
                    ∙ word_same s.stack (base + offset) (adapted b arg (mem_of s.stack (a + word))) (omega arith)
                    ∙ ap (λ i. adapted b arg (mem_of s.stack i)) d
                each (suc j) lt =
                    let e : base + offset + suc j ≡ base + (offset + 1) + j = omega arith in
                    let d : a + (word + 1) + j ≡ a + word + suc j = omega arith in
                    ap (mem_of y.t.stack) e
                    ∙ y.words j (omega arith)
                    ∙ ap (adapted b arg) (ap (mem_of x.t.stack) d ∙ same (a + word + suc j) (λ q. omega (arith, q)))

-- how many code words so many words take
pub takes_short : (b : BodyData) (arg n word offset : ℕ) → length (take_words b (adapts b arg) n word offset) ≤ 11 * n
takes_short b arg zero word offset = omega arith
takes_short b arg (suc n) word offset =
    let a = length-append (one_code b arg word offset) (take_words b (adapts b arg) n (word + 1) (offset + 1)) in
    let d = one_short b arg word offset in
    let r = takes_short b arg n (word + 1) (offset + 1) in
    omega arith
