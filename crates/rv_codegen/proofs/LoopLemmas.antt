-- The words of an argument, as a body's entry copies them: one after the other, or in a loop.
use Rattle.std.proofs.Common.{◌≡◌, ◌≢◌, ◌⊎◌, inl, inr, ℕ, zero, suc, ◌+◌, ◌-◌, ◌*◌, ◌%◌, ◌^◌, ◌<◌, ◌≤◌, ◌==◌, nat_lt, Bool, true, false, not, cond, if◌then◌else◌, List, [], ◌∷◌, ◌++◌, length, refl, sym, ap, ap₂, ◌∙◌, subst, arith, eqb-true, eq-eqb, ltb-true, ltb-false}
use Rattle.std.proofs.lemmas.Bool.Decides.{nat_tests}
use Rattle.std.proofs.lemmas.List.{length-set, length-append}
use Rattle.rgctx_words.specs.Memory.{Only}
use Rattle.rgctx_words.specs.Frames.{frames_at, frame_address}
use Rattle.rgctx_words.specs.Stacks.{StackWords, mem_of, with_word}
use Rattle.rv_isa.specs.declared.instr.Instr.{Instr}
use Rattle.rv_isa.specs.declared.instr.Instr.TheVariants as rv
use Rattle.rv_machine.specs.declared.effect.Effect.TheVariants.{Sets, Goes}
use Rattle.rv_machine.specs.Arithmetic.{extended, sum_of}
use Rattle.rv_machine.specs.Registers.{register_of, next_pc, at_pc}
use Rattle.rv_machine.specs.Effect.{effect_of}
use Rattle.rgctx_fill.specs.declared.doing.Doing.TheVariants.{Runs}
use Rattle.rgctx_fill.specs.ThreadStates.{ImageData, ThreadData, with_core}
use Rattle.rgctx_fill.specs.Constructed.{IsSized, Walk, stays}
use Rattle.rgctx_fill.proofs.MachineLemmas.{HasInstr, Stands, stands_front, stands_back, run_then, run_pc, word_same, word_other}
use Rattle.rv_codegen.specs.FrameWords.{upper_of, stores_word}
use Rattle.rv_codegen.specs.PlainItems.{BodyData, is_bool_place, place_type, is_unboxed, points_into_box, offset_of, width_of, adapts, take_words, round_instrs, loop_words, is_looped, taken_argument}
use Rattle.cil_meaning.specs.Groups.{Argument}
use Rattle.rv_codegen.specs.Entering.{adapted}
use Rattle.rv_codegen.proofs.StraightLemmas.{Set, Stored, InFrame, in_frame, by_if, short_up, upper_up, set_by, load_by, store_by, small_mod, next_is, stores_short, address_small}
use Rattle.rv_codegen.proofs.WalkLemmas.{walk_then, run_walk}
use Rattle.rv_codegen.proofs.ItemLemmas.{AreRows, rows_both}
use Rattle.rv_codegen.proofs.GiveLemmas.{word_address}
use Rattle.rv_codegen.proofs.FormLemmas.{run_doing}
use Rattle.rv_codegen.proofs.EntryLemmas.{Adapted, adapts_word, adapts_few, adapts_rows, takes_rows, takes_short, one_code, Took, takes, jump_walk, jumped_sized}

-- Numbers ------------------------------------------------------------------------

-- an offset of thirteen bits that leads back
short_back : (n : ℕ) → 4096 ≤ n → n < 8192 → extended 13 n ≡ n + (2 ^ 64 - 8192)
short_back n large small =
    let t : nat_lt (n % 2 ^ 13) (2 ^ 12) ≡ false = grind (arith, nat_tests) in
    let m : n % 2 ^ 13 ≡ n = omega arith in
    ap (λ b. cond b (n % 2 ^ 13) (n % 2 ^ 13 + (2 ^ 64 - 2 ^ 13))) t ∙ ap (λ k. k + (2 ^ 64 - 8192)) m

goes_back : (p o k : ℕ) → k ≤ 7 → o + 4 * k ≡ 8176 → p + 100 < 2 ^ 64 → sum_of (p + 4 * (4 + k)) (extended 13 o) ≡ p
goes_back p o k few is room =
    ap (sum_of (p + 4 * (4 + k))) (short_back o (omega arith) (omega arith))
    ∙ (let e : (p + 4 * (4 + k) + (o + (2 ^ 64 - 8192))) % 2 ^ 64 ≡ p = omega arith in e)

differs : (x y : ℕ) → x < y → (x == y) ≡ false
differs x y lt = by_test (x == y) refl
  where
    by_test : (t : Bool) → (x == y) ≡ t → (x == y) ≡ false
    by_test true e = absurd (let d = eqb-true x y e in omega arith)
    by_test false e = e

address_roomy : (i : ℕ) → i < 2113536 → frame_address i + 4096 < 2 ^ 64
unfolding frames_at
address_roomy i small = omega arith

here_address : (v a : ℕ) → v ≡ frame_address a → a < 2113536 → sum_of v (extended 12 0) ≡ frame_address a
here_address v a is small =
    let z : frame_address a + 0 ≡ frame_address a = omega arith in
    ap (λ x. sum_of x (extended 12 0)) is
    ∙ ap (sum_of (frame_address a)) (short_up 0 (omega arith))
    ∙ ap (λ n. n % 2 ^ 64) z
    ∙ small_mod (frame_address a) (address_small a small)

next_address : (v a : ℕ) → v ≡ frame_address a → a + 1 < 2113536 → sum_of v (extended 12 8) ≡ frame_address (a + 1)
next_address v a is small = word_address a v 1 is (omega arith) small

-- where a word goes, but for the lower twelve bits of the first one's offset
module _ (base offset : ℕ) where
  abbrev along : ℕ → ℕ
  along j = 4096 * upper_of offset + frame_address base + 8 * j

  along_small : (j : ℕ) → base + offset + j < 2113536 → along j + 8 < 2 ^ 64
  along_small j inside =
      let room = address_roomy (base + offset + j) inside in
      omega arith

  along_next : (v j : ℕ) → v ≡ along j → base + offset + j < 2113536 → sum_of v (extended 12 8) ≡ along (j + 1)
  along_next v j is inside =
      let small = along_small j inside in
      let e : along j + 8 ≡ along (j + 1) = omega arith in
      ap (λ x. sum_of x (extended 12 8)) is
      ∙ ap (sum_of (along j)) (short_up 8 (omega arith))
      ∙ small_mod (along j + 8) small
      ∙ e

  along_address : (v j : ℕ) → v ≡ along j → base + offset + j < 2113536 → sum_of v (extended 12 (8 * offset % 4096)) ≡ frame_address (base + offset + j)
  along_address v j is inside =
      ap (λ x. sum_of x (extended 12 (8 * offset % 4096))) is
      ∙ by_if (λ x. sum_of (along j) x ≡ frame_address (base + offset + j)) (nat_lt (8 * offset % 4096 % 2 ^ 12) (2 ^ 11)) (8 * offset % 4096 % 2 ^ 12) (8 * offset % 4096 % 2 ^ 12 + (2 ^ 64 - 2 ^ 12))
      (λ e. up (ltb-true (8 * offset % 4096 % 2 ^ 12) (2 ^ 11) e))
      (λ e. down (ltb-false (8 * offset % 4096 % 2 ^ 12) (2 ^ 11) e))
    where
      big : frame_address (base + offset + j) < 2 ^ 64
      big = address_small (base + offset + j) inside

      up : 8 * offset % 4096 % 2 ^ 12 < 2 ^ 11 → sum_of (along j) (8 * offset % 4096 % 2 ^ 12) ≡ frame_address (base + offset + j)
      up h = let b = big in omega arith

      down : 2 ^ 11 ≤ 8 * offset % 4096 % 2 ^ 12 → sum_of (along j) (8 * offset % 4096 % 2 ^ 12 + (2 ^ 64 - 2 ^ 12)) ≡ frame_address (base + offset + j)
      down h = let b = big in omega arith

module _ (b : BodyData) (im : ImageData) (arg : ℕ) where
  -- Words were taken, in so many turns at most. x8 and x12 are kept.
  pub record Taken (s : ThreadData) (is : List Instr) (source target n most : ℕ) : Type 0 where
    pub t : ThreadData
    pub turns : ℕ
    pub quick : turns ≤ most
    pub walk : Walk im turns s t
    pub pc : t.core.pc ≡ s.core.pc + 4 * length is
    pub eight : register_of t.core 8 ≡ register_of s.core 8
    pub twelve : register_of t.core 12 ≡ register_of s.core 12
    pub bases : t.stack.bases ≡ s.stack.bases
    pub count : length t.stack.words ≡ length s.stack.words
    pub only : Only (mem_of s.stack) (mem_of t.stack) target n
    pub words : (j : ℕ) → j < n → mem_of t.stack (target + j) ≡ adapted b arg (mem_of s.stack (source + j))
    pub doing : t.doing ≡ s.doing
    pub sized : IsSized t

  abbrev few : ℕ
  few = length (adapts b arg)

  abbrev back : Instr
  back = rv.Bne 5 29 (8176 - 4 * few)

  module _ (base a offset : ℕ) where
    abbrev round : List Instr
    round = round_instrs (adapts b arg) offset

    -- a store, and on to the next word
    abbrev goes_on : List Instr
    goes_on = rv.Sd 6 28 (8 * offset % 4096) ∷ rv.Addi 5 5 8 ∷ rv.Addi 28 28 8 ∷ []

    -- before the round of a word
    record Before (n j : ℕ) (u : ThreadData) : Type 0 where
      frame : InFrame u base
      runs : u.doing ≡ Runs
      five : register_of u.core 5 ≡ frame_address (a + j)
      target : register_of u.core 28 ≡ along base offset j
      end : register_of u.core 29 ≡ frame_address (a + n)

    -- behind it, but for its branch
    record Behind (u : ThreadData) (j : ℕ) : Type 0 where
      t : ThreadData
      turns : ℕ
      quick : turns ≤ 4 + few
      walk : Walk im turns u t
      pc : t.core.pc ≡ u.core.pc + 4 * (4 + few)
      five : register_of t.core 5 ≡ frame_address (a + (j + 1))
      target : register_of t.core 28 ≡ along base offset (j + 1)
      others : (r : ℕ) → r ≢ 5 → r ≢ 6 → r ≢ 7 → r ≢ 28 → register_of t.core r ≡ register_of u.core r
      stack : t.stack ≡ with_word u.stack (base + offset + j) (adapted b arg (mem_of u.stack (a + j)))
      doing : t.doing ≡ u.doing
      sized : IsSized t

    one_round : {u : ThreadData} {n j : ℕ} → Before n j u → a + j < length u.stack.words → base + offset + j < length u.stack.words → a + (j + 1) < 2113536 → u.core.pc + 200 < 2 ^ 64 →
        Stands im u.core.pc round → Behind u j
    one_round {u = u} {n = n} {j = j} h inside_from inside_to near room st =
        then_adapt (load_by u h.frame.sized (omega arith) 6 5 0 (a + j) (here_address (register_of u.core 5) (a + j) h.five (omega arith)) inside_from refl (omega arith))
      where
        then_adapt : Set u (rv.Ld 6 5 0 ∷ []) 6 (mem_of u.stack (a + j)) → Behind u j
        then_adapt x =
            let p = run_pc x.run in
            then_store x (adapts_word b im arg x.t x.sized (run_doing x.run ∙ h.runs) (mem_of u.stack (a + j)) x.value (omega arith)
            (subst (λ n. Stands im n (adapts b arg)) (sym p) (stands_front im u.core.pc (rv.Ld 6 5 0 ∷ adapts b arg) (goes_on ++ back ∷ []) st).1))
          where
            then_store : (x : Set u (rv.Ld 6 5 0 ∷ []) 6 (mem_of u.stack (a + j))) → Adapted im x.t (adapts b arg) (adapted b arg (mem_of u.stack (a + j))) → Behind u j
            then_store x y =
                let p = run_pc x.run in
                let p' = y.pc in
                let d = adapts_few b arg in
                let small = h.frame.small in
                let inside : base + offset + j < length y.t.stack.words = subst (λ (k : StackWords). base + offset + j < length k.words) (sym (y.stack ∙ x.stack)) inside_to in
                let there = y.others 28 (λ e. omega (arith, e)) (λ e. omega (arith, e)) ∙ x.others 28 (λ e. omega (arith, e)) (λ e. omega (arith, e)) ∙ h.target in
                then_five x y (store_by y.t y.sized (omega arith) 6 28 (8 * offset % 4096) (base + offset + j) (along_address base offset (register_of y.t.core 28) j there (omega arith)) inside)
              where
                then_five : (x : Set u (rv.Ld 6 5 0 ∷ []) 6 (mem_of u.stack (a + j))) → (y : Adapted im x.t (adapts b arg) (adapted b arg (mem_of u.stack (a + j)))) → Stored y.t (rv.Sd 6 28 (8 * offset % 4096) ∷ []) (base + offset + j) (register_of y.t.core 6) → Behind u j
                then_five x y z =
                    let p = run_pc x.run in
                    let p' = y.pc in
                    let p'' = run_pc z.run in
                    let d = adapts_few b arg in
                    let w : a + j + 1 ≡ a + (j + 1) = omega arith in
                    let five = z.others 5 (λ e. omega (arith, e)) ∙ y.others 5 (λ e. omega (arith, e)) (λ e. omega (arith, e)) ∙ x.others 5 (λ e. omega (arith, e)) (λ e. omega (arith, e)) ∙ h.five in
                    then_along x y z (set_by z.t z.sized (omega arith) (rv.Addi 5 5 8) 5 (frame_address (a + (j + 1))) (ap (Sets 5) (next_address (register_of z.t.core 5) (a + j) five (omega arith) ∙ ap (λ n. frame_address n) w)) refl (omega arith) (address_small (a + (j + 1)) near))
                  where
                    then_along : (x : Set u (rv.Ld 6 5 0 ∷ []) 6 (mem_of u.stack (a + j))) → (y : Adapted im x.t (adapts b arg) (adapted b arg (mem_of u.stack (a + j)))) → (z : Stored y.t (rv.Sd 6 28 (8 * offset % 4096) ∷ []) (base + offset + j) (register_of y.t.core 6)) →
                        Set z.t (rv.Addi 5 5 8 ∷ []) 5 (frame_address (a + (j + 1))) → Behind u j
                    then_along x y z k =
                        let p = run_pc x.run in
                        let p' = y.pc in
                        let p'' = run_pc z.run in
                        let p3 = run_pc k.run in
                        let d = adapts_few b arg in
                        let small = h.frame.small in
                        let s1 = along_small base offset j (omega arith) in
                        let there = k.others 28 (λ e. omega (arith, e)) (λ e. omega (arith, e)) ∙ z.others 28 (λ e. omega (arith, e)) ∙ y.others 28 (λ e. omega (arith, e)) (λ e. omega (arith, e)) ∙ x.others 28 (λ e. omega (arith, e)) (λ e. omega (arith, e)) ∙ h.target in
                        build x y z k (set_by k.t k.sized (omega arith) (rv.Addi 28 28 8) 28 (along base offset (j + 1)) (ap (Sets 28) (along_next base offset (register_of k.t.core 28) j there (omega arith))) refl (omega arith) (omega arith))
                      where
                        build : (x : Set u (rv.Ld 6 5 0 ∷ []) 6 (mem_of u.stack (a + j))) → (y : Adapted im x.t (adapts b arg) (adapted b arg (mem_of u.stack (a + j)))) → (z : Stored y.t (rv.Sd 6 28 (8 * offset % 4096) ∷ []) (base + offset + j) (register_of y.t.core 6)) →
                            (k : Set z.t (rv.Addi 5 5 8 ∷ []) 5 (frame_address (a + (j + 1)))) → Set k.t (rv.Addi 28 28 8 ∷ []) 28 (along base offset (j + 1)) → Behind u j
                        build x y z k q =
                            let p = run_pc x.run in
                            let p' = y.pc in
                            let p'' = run_pc z.run in
                            let p3 = run_pc k.run in
                            let p4 = run_pc q.run in
                            let quick = y.quick in
                            let there : u.core.pc + 4 * length (rv.Ld 6 5 0 ∷ adapts b arg) ≡ y.t.core.pc = omega arith in
                            record {
                              t = q.t;
                              turns = 1 + (y.turns + 3);
                              quick = omega arith;
                              walk = walk_then im (run_walk im x.run h.runs (st.0, tt)) (walk_then im y.walk (run_walk im (run_then z.run (run_then k.run q.run)) (y.doing ∙ run_doing x.run ∙ h.runs)
                                  (subst (λ n. Stands im n goes_on) there (stands_front im (u.core.pc + 4 * length (rv.Ld 6 5 0 ∷ adapts b arg)) goes_on (back ∷ []) (stands_back im u.core.pc (rv.Ld 6 5 0 ∷ adapts b arg) (goes_on ++ back ∷ []) st)))));
                              pc = omega arith;
                              five = q.others 5 (λ e. omega (arith, e)) (λ e. omega (arith, e)) ∙ k.value;
                              target = q.value;
                              others = λ r n5 n6 n7 n28. q.others r n28 n7 ∙ k.others r n5 n7 ∙ z.others r n7 ∙ y.others r n6 n7 ∙ x.others r n6 n7;
                              stack = q.stack ∙ k.stack ∙ z.stack ∙ ap (λ v. with_word y.t.stack (base + offset + j) v) y.six ∙ ap (λ (m : StackWords). with_word m (base + offset + j) (adapted b arg (mem_of u.stack (a + j)))) (y.stack ∙ x.stack);
                              doing = run_doing q.run ∙ run_doing k.run ∙ run_doing z.run ∙ y.doing ∙ run_doing x.run;
                              sized = q.sized;
                            }

    -- One word more, where the branch leads to the rest of them.
    joined : {u : ThreadData} {j : ℕ} (x : Behind u j) (to : ℕ) → u.doing ≡ Runs → HasInstr im x.t.core.pc back → effect_of back x.t.core ≡ Goes 0 to → (is : List Instr) (m most : ℕ) → to + 4 * length is ≡ u.core.pc + 4 * length round → a + (j + 1) + m ≤ base + offset → base + offset + j < length u.stack.words →
        Taken (with_core x.t (at_pc x.t.core to)) is (a + (j + 1)) (base + offset + (j + 1)) m most → Taken u round (a + j) (base + offset + j) (suc m) (12 + most)
    joined {u = u} {j = j} x to runs h move is m most at before inside y =
        let q = x.quick in
        let q' = y.quick in
        let d = adapts_few b arg in
        let p = y.pc in
        record {
          t = y.t;
          turns = x.turns + suc y.turns;
          quick = omega arith;
          walk = walk_then im x.walk (jump_walk im x.t back to (x.doing ∙ runs) h move y.walk);
          pc = omega arith;
          eight = y.eight ∙ x.others 8 (λ e. omega (arith, e)) (λ e. omega (arith, e)) (λ e. omega (arith, e)) (λ e. omega (arith, e));
          twelve = y.twelve ∙ x.others 12 (λ e. omega (arith, e)) (λ e. omega (arith, e)) (λ e. omega (arith, e)) (λ e. omega (arith, e));
          bases = y.bases ∙ ap (λ (k : StackWords). k.bases) x.stack;
          count = y.count ∙ ap (λ (k : StackWords). length k.words) x.stack ∙ length-set u.stack.words (base + offset + j) (adapted b arg (mem_of u.stack (a + j)));
          only = λ i o. y.only i (wider i o) ∙ same i (outside i o);
          words = λ i lt. each i lt;
          doing = y.doing ∙ x.doing;
          sized = y.sized;
        }
      where
        same : (i : ℕ) → i ≢ base + offset + j → mem_of x.t.stack i ≡ mem_of u.stack i
        same i ne = ap (λ (k : StackWords). mem_of k i) x.stack ∙ word_other u.stack (base + offset + j) (adapted b arg (mem_of u.stack (a + j))) i ne

        wider : (i : ℕ) → (i < base + offset + j) ⊎ (base + offset + j + suc m ≤ i) → (i < base + offset + (j + 1)) ⊎ (base + offset + (j + 1) + m ≤ i)
        wider i (inl h) = inl (omega arith)
        wider i (inr h) = inr (omega arith)

        outside : (i : ℕ) → (i < base + offset + j) ⊎ (base + offset + j + suc m ≤ i) → i ≢ base + offset + j
        outside i (inl h) q = omega arith
        outside i (inr h) q = omega arith

        each : (i : ℕ) → i < suc m → mem_of y.t.stack (base + offset + j + i) ≡ adapted b arg (mem_of u.stack (a + j + i))
        each zero lt =
            let e : base + offset + j + 0 ≡ base + offset + j = omega arith in
            let d : a + j ≡ a + j + 0 = omega arith in
            y.only (base + offset + j + 0) (inl (omega arith))
            ∙ ap (mem_of x.t.stack) e
            ∙ ap (λ (k : StackWords). mem_of k (base + offset + j)) x.stack
            ∙ word_same u.stack (base + offset + j) (adapted b arg (mem_of u.stack (a + j))) inside
            ∙ ap (λ i. adapted b arg (mem_of u.stack i)) d
        each (suc i) lt =
            let e : base + offset + j + suc i ≡ base + offset + (j + 1) + i = omega arith in
            let d : a + (j + 1) + i ≡ a + j + suc i = omega arith in
            ap (mem_of y.t.stack) e
            ∙ y.words i (omega arith)
            ∙ ap (adapted b arg) (ap (mem_of x.t.stack) d ∙ same (a + j + suc i) (λ q. omega (arith, q)))

    round_len : length round ≡ 5 + few
    round_len = let e = length-append (rv.Ld 6 5 0 ∷ adapts b arg) (goes_on ++ back ∷ []) in omega arith

    round_behind : {u : ThreadData} {j : ℕ} (x : Behind u j) → Stands im u.core.pc round → HasInstr im x.t.core.pc back
    round_behind {u = u} x st =
        let p = x.pc in
        let e : u.core.pc + 4 * length (rv.Ld 6 5 0 ∷ adapts b arg) + 4 * length goes_on ≡ x.t.core.pc = omega arith in
        subst (λ n. HasInstr im n back) e (stands_back im (u.core.pc + 4 * length (rv.Ld 6 5 0 ∷ adapts b arg)) goes_on (back ∷ []) (stands_back im u.core.pc (rv.Ld 6 5 0 ∷ adapts b arg) (goes_on ++ back ∷ []) st)).0

    -- where the branch leads by a test of the two addresses
    branch_move : {u : ThreadData} {n j : ℕ} (x : Behind u j) → Before n j u → (t : Bool) → (frame_address (a + (j + 1)) == frame_address (a + n)) ≡ t →
        effect_of back x.t.core ≡ Goes 0 (cond (not t) (sum_of x.t.core.pc (extended 13 (8176 - 4 * few))) (next_pc x.t.core))
    branch_move {n = n} {j = j} x h t e =
        ap (λ v. Goes 0 (cond (not (v == register_of x.t.core 29)) (sum_of x.t.core.pc (extended 13 (8176 - 4 * few))) (next_pc x.t.core))) x.five
        ∙ ap (λ v. Goes 0 (cond (not (frame_address (a + (j + 1)) == v)) (sum_of x.t.core.pc (extended 13 (8176 - 4 * few))) (next_pc x.t.core)))
        (x.others 29 (λ q. omega (arith, q)) (λ q. omega (arith, q)) (λ q. omega (arith, q)) (λ q. omega (arith, q)) ∙ h.end)
        ∙ ap (λ k. Goes 0 (cond (not k) (sum_of x.t.core.pc (extended 13 (8176 - 4 * few))) (next_pc x.t.core))) e

    -- The rounds of as many words and one more.
    rounds : (m : ℕ) {u : ThreadData} {n j : ℕ} → Before n j u → j + suc m ≡ n → a + n ≤ base + offset → base + offset + n ≤ length u.stack.words → u.core.pc + 200 < 2 ^ 64 → Stands im u.core.pc round →
        Taken u round (a + j) (base + offset + j) (suc m) (12 * suc m)
    rounds zero {u = u} {n = n} {j = j} h last before inside room st =
        let small = h.frame.small in
        then_end (one_round h (omega arith) (omega arith) (omega arith) room st)
      where
        then_end : Behind u j → Taken u round (a + j) (base + offset + j) 1 12
        then_end x =
            let p = x.pc in
            let d = adapts_few b arg in
            let l = round_len in
            let is : a + (j + 1) ≡ a + n = omega arith in
            let next : next_pc x.t.core ≡ x.t.core.pc + 4 = next_is x.t (omega arith) in
            let to : next_pc x.t.core + 4 * 0 ≡ u.core.pc + 4 * length round = omega arith in
            joined x (next_pc x.t.core) h.runs (round_behind x st) (branch_move x h true (eq-eqb (frame_address (a + (j + 1))) (frame_address (a + n)) (ap (λ k. frame_address k) is))) [] 0 0 to (omega arith) (omega arith)
            (record {
              t = with_core x.t (at_pc x.t.core (next_pc x.t.core));
              turns = 0;
              quick = omega arith;
              walk = stays;
              pc = omega arith;
              eight = refl;
              twelve = refl;
              bases = refl;
              count = refl;
              only = λ i o. refl;
              words = λ i lt. absurd (omega arith);
              doing = refl;
              sized = jumped_sized im x.t (next_pc x.t.core) x.sized;
            })
    rounds (suc m) {u = u} {n = n} {j = j} h last before inside room st =
        let small = h.frame.small in
        then_rest (one_round h (omega arith) (omega arith) (omega arith) room st) (λ v h' inside' room' st'. rounds m h' (omega arith) before inside' room' st')
      where
        then_rest : Behind u j → ((v : ThreadData) → Before n (j + 1) v → base + offset + n ≤ length v.stack.words → v.core.pc + 200 < 2 ^ 64 → Stands im v.core.pc round → Taken v round (a + (j + 1)) (base + offset + (j + 1)) (suc m) (12 * suc m)) →
            Taken u round (a + j) (base + offset + j) (suc (suc m)) (12 * suc (suc m))
        then_rest x rest =
            let p = x.pc in
            let d = adapts_few b arg in
            let l = round_len in
            let less : frame_address (a + (j + 1)) < frame_address (a + n) = omega arith in
            let is : 8176 - 4 * few + 4 * few ≡ 8176 = omega arith in
            let to : sum_of x.t.core.pc (extended 13 (8176 - 4 * few)) ≡ u.core.pc = ap (λ k. sum_of k (extended 13 (8176 - 4 * few))) p ∙ goes_back u.core.pc (8176 - 4 * few) few d is (omega arith) in
            let count : length x.t.stack.words ≡ length u.stack.words = ap (λ (k : StackWords). length k.words) x.stack ∙ length-set u.stack.words (base + offset + j) (adapted b arg (mem_of u.stack (a + j))) in
            let there : u.core.pc + 4 * length round ≡ u.core.pc + 4 * length round = refl in
            let most : 12 + 12 * suc m ≡ 12 * suc (suc m) = omega arith in
            let inside' : base + offset + n ≤ length x.t.stack.words = omega arith in
            subst (Taken u round (a + j) (base + offset + j) (suc (suc m))) most
            (joined x u.core.pc h.runs (round_behind x st) (branch_move x h false (differs (frame_address (a + (j + 1))) (frame_address (a + n)) less) ∙ ap (Goes 0) to) round (suc m) (12 * suc m) there (omega arith) (omega arith)
            (rest (with_core x.t (at_pc x.t.core u.core.pc))
            (record {
              frame = in_frame h.frame (x.others 8 (λ e. omega (arith, e)) (λ e. omega (arith, e)) (λ e. omega (arith, e)) (λ e. omega (arith, e))) count (jumped_sized im x.t u.core.pc x.sized);
              runs = x.doing ∙ h.runs;
              five = x.five;
              target = x.target;
              end = x.others 29 (λ e. omega (arith, e)) (λ e. omega (arith, e)) (λ e. omega (arith, e)) (λ e. omega (arith, e)) ∙ h.end;
            })
            inside' room st))

    -- So many words, which lie before those that they go to.
    loops : {s : ThreadData} → InFrame s base → s.doing ≡ Runs → register_of s.core 5 ≡ frame_address a → (n : ℕ) → 0 < n → n ≤ 16 → offset + n ≤ 65536 → a + n ≤ base + offset → base + offset + n ≤ length s.stack.words → s.core.pc + 400 < 2 ^ 64 →
        Stands im s.core.pc (loop_words (adapts b arg) n offset) → Taken s (loop_words (adapts b arg) n offset) a (base + offset) n (3 + 12 * n)
    loops f runs five zero some narrow low before inside room st = absurd (omega arith)
    loops {s = s} f runs five (suc m) some narrow low before inside room st =
        then_add (set_by s f.sized (omega arith) (rv.Lui 28 (upper_of offset)) 28 (4096 * upper_of offset) (ap (Sets 28) (upper_up (upper_of offset) (omega arith))) refl (omega arith) (omega arith))
      where
        then_add : Set s (rv.Lui 28 (upper_of offset) ∷ []) 28 (4096 * upper_of offset) → Taken s (loop_words (adapts b arg) (suc m) offset) a (base + offset) (suc m) (3 + 12 * suc m)
        then_add x =
            let p = run_pc x.run in
            let small = f.small in
            let s1 = along_small base offset 0 (omega arith) in
            let e : 4096 * upper_of offset + frame_address base ≡ along base offset 0 = omega arith in
            let sum : sum_of (register_of x.t.core 28) (register_of x.t.core 8) ≡ along base offset 0 =
            ap₂ sum_of x.value (x.others 8 (λ q. omega (arith, q)) (λ q. omega (arith, q)) ∙ f.copy) ∙ small_mod (4096 * upper_of offset + frame_address base) (omega arith) ∙ e in
            then_end x (set_by x.t x.sized (omega arith) (rv.Add 28 28 8) 28 (along base offset 0) (ap (Sets 28) sum) refl (omega arith) (omega arith))
          where
            then_end : (x : Set s (rv.Lui 28 (upper_of offset) ∷ []) 28 (4096 * upper_of offset)) → Set x.t (rv.Add 28 28 8 ∷ []) 28 (along base offset 0) → Taken s (loop_words (adapts b arg) (suc m) offset) a (base + offset) (suc m) (3 + 12 * suc m)
            then_end x y =
                let p = run_pc x.run in
                let p' = run_pc y.run in
                let small = f.small in
                let from = y.others 5 (λ q. omega (arith, q)) (λ q. omega (arith, q)) ∙ x.others 5 (λ q. omega (arith, q)) (λ q. omega (arith, q)) ∙ five in
                then_rounds x y (set_by y.t y.sized (omega arith) (rv.Addi 29 5 (8 * suc m)) 29 (frame_address (a + suc m)) (ap (Sets 29) (word_address a (register_of y.t.core 5) (suc m) from (omega arith) (omega arith))) refl (omega arith) (address_small (a + suc m) (omega arith)))
              where
                then_rounds : (x : Set s (rv.Lui 28 (upper_of offset) ∷ []) 28 (4096 * upper_of offset)) (y : Set x.t (rv.Add 28 28 8 ∷ []) 28 (along base offset 0)) → Set y.t (rv.Addi 29 5 (8 * suc m) ∷ []) 29 (frame_address (a + suc m)) →
                    Taken s (loop_words (adapts b arg) (suc m) offset) a (base + offset) (suc m) (3 + 12 * suc m)
                then_rounds x y z =
                    let p = run_pc x.run in
                    let p' = run_pc y.run in
                    let p'' = run_pc z.run in
                    let zero_more : a ≡ a + 0 = omega arith in
                    let stack = z.stack ∙ y.stack ∙ x.stack in
                    let count : length z.t.stack.words ≡ length s.stack.words = ap (λ (k : StackWords). length k.words) stack in
                    let there : s.core.pc + 4 + 4 + 4 ≡ z.t.core.pc = omega arith in
                    let first : 0 + suc m ≡ suc m = omega arith in
                    build x y z (rounds m {u = z.t} {n = suc m} {j = 0}
                    (record {
                      frame = in_frame f (z.others 8 (λ q. omega (arith, q)) (λ q. omega (arith, q)) ∙ y.others 8 (λ q. omega (arith, q)) (λ q. omega (arith, q)) ∙ x.others 8 (λ q. omega (arith, q)) (λ q. omega (arith, q))) count z.sized;
                      runs = run_doing z.run ∙ run_doing y.run ∙ run_doing x.run ∙ runs;
                      five = z.others 5 (λ q. omega (arith, q)) (λ q. omega (arith, q)) ∙ y.others 5 (λ q. omega (arith, q)) (λ q. omega (arith, q)) ∙ x.others 5 (λ q. omega (arith, q)) (λ q. omega (arith, q)) ∙ five ∙ ap (λ k. frame_address k) zero_more;
                      target = z.others 28 (λ q. omega (arith, q)) (λ q. omega (arith, q)) ∙ y.value;
                      end = z.value;
                    })
                    first before (omega arith) (omega arith) (subst (λ k. Stands im k round) there st.1.1.1))
                  where
                    build : (x : Set s (rv.Lui 28 (upper_of offset) ∷ []) 28 (4096 * upper_of offset)) (y : Set x.t (rv.Add 28 28 8 ∷ []) 28 (along base offset 0)) (z : Set y.t (rv.Addi 29 5 (8 * suc m) ∷ []) 29 (frame_address (a + suc m))) →
                        Taken z.t round (a + 0) (base + offset + 0) (suc m) (12 * suc m) → Taken s (loop_words (adapts b arg) (suc m) offset) a (base + offset) (suc m) (3 + 12 * suc m)
                    build x y z r =
                        let p = run_pc x.run in
                        let p' = run_pc y.run in
                        let p'' = run_pc z.run in
                        let p3 = r.pc in
                        let q = r.quick in
                        let stack = z.stack ∙ y.stack ∙ x.stack in
                        let from : a + 0 ≡ a = omega arith in
                        let to : base + offset + 0 ≡ base + offset = omega arith in
                        record {
                          t = r.t;
                          turns = 3 + r.turns;
                          quick = omega arith;
                          walk = walk_then im (run_walk im (run_then x.run (run_then y.run z.run)) runs (st.0, (st.1.0, (st.1.1.0, tt)))) r.walk;
                          pc = omega arith;
                          eight = r.eight ∙ z.others 8 (λ q. omega (arith, q)) (λ q. omega (arith, q)) ∙ y.others 8 (λ q. omega (arith, q)) (λ q. omega (arith, q)) ∙ x.others 8 (λ q. omega (arith, q)) (λ q. omega (arith, q));
                          twelve = r.twelve ∙ z.others 12 (λ q. omega (arith, q)) (λ q. omega (arith, q)) ∙ y.others 12 (λ q. omega (arith, q)) (λ q. omega (arith, q)) ∙ x.others 12 (λ q. omega (arith, q)) (λ q. omega (arith, q));
                          bases = r.bases ∙ ap (λ (k : StackWords). k.bases) stack;
                          count = r.count ∙ ap (λ (k : StackWords). length k.words) stack;
                          only = λ i o. subst (λ k. Only (mem_of z.t.stack) (mem_of r.t.stack) k (suc m)) to r.only i o ∙ ap (λ (k : StackWords). mem_of k i) stack;
                          words = λ i lt. ap (λ k. mem_of r.t.stack (k + i)) (sym to) ∙ r.words i lt ∙ ap (λ k. adapted b arg (mem_of z.t.stack (k + i))) from ∙ ap (λ (k : StackWords). adapted b arg (mem_of k (a + i))) stack;
                          doing = r.doing ∙ run_doing z.run ∙ run_doing y.run ∙ run_doing x.run;
                          sized = r.sized;
                        }

  -- The words of the argument, which lie before its place.
  pub takes_argument : {s : ThreadData} {base : ℕ} (a : ℕ) → InFrame s base → s.doing ≡ Runs → register_of s.core 5 ≡ frame_address a → width_of b arg ≤ 16 → offset_of b arg + width_of b arg ≤ 65536 → a + width_of b arg ≤ base + offset_of b arg →
      base + offset_of b arg + width_of b arg ≤ length s.stack.words → s.core.pc + 2000 < 2 ^ 64 → Stands im s.core.pc (taken_argument b arg) → Taken s (taken_argument b arg) a (base + offset_of b arg) (width_of b arg) (3 + 12 * width_of b arg)
  takes_argument {s = s} {base = base} a f runs five narrow low before inside room =
      by_if (λ is. Stands im s.core.pc is → Taken s is a (base + offset_of b arg) (width_of b arg) (3 + 12 * width_of b arg)) (is_looped b arg)
      (loop_words (adapts b arg) (width_of b arg) (offset_of b arg)) (take_words b (adapts b arg) (width_of b arg) 0 (offset_of b arg))
      (λ e st. loops base a (offset_of b arg) f runs five (width_of b arg) (some e) narrow low before inside (omega arith) st)
      (λ e st. straight (takes b im arg a f runs five (width_of b arg) 0 (offset_of b arg) (omega arith) (omega arith) (omega arith) (omega arith) (omega arith) st))
    where
      some : is_looped b arg ≡ true → 0 < width_of b arg
      some e = let h = ltb-true (if is_unboxed b arg then 1 else 3) (width_of b arg) e in omega arith

      straight : Took b im arg s (take_words b (adapts b arg) (width_of b arg) 0 (offset_of b arg)) (a + 0) (base + offset_of b arg) (width_of b arg) →
          Taken s (take_words b (adapts b arg) (width_of b arg) 0 (offset_of b arg)) a (base + offset_of b arg) (width_of b arg) (3 + 12 * width_of b arg)
      straight x =
          let q = x.quick in
          let l = takes_short b arg (width_of b arg) 0 (offset_of b arg) in
          let from : a + 0 ≡ a = omega arith in
          record {
            t = x.t;
            turns = x.turns;
            quick = omega arith;
            walk = x.walk;
            pc = x.pc;
            eight = x.others 8 (λ e. omega (arith, e)) (λ e. omega (arith, e));
            twelve = x.others 12 (λ e. omega (arith, e)) (λ e. omega (arith, e));
            bases = x.bases;
            count = x.count;
            only = x.only;
            words = λ i lt. x.words i lt ∙ ap (λ k. adapted b arg (mem_of s.stack (k + i))) from;
            doing = x.doing;
            sized = x.sized;
          }

-- How many code words ------------------------------------------------------------

module _ (b : BodyData) (arg : ℕ) where
  loops_rows : (n offset : ℕ) → n ≤ 16 → offset < 65536 → AreRows (loop_words (adapts b arg) n offset)
  loops_rows n offset narrow low =
      let d = adapts_few b arg in
      let even : (8176 - 4 * length (adapts b arg)) % 2 ≡ 0 = omega arith in
      let small : 8176 - 4 * length (adapts b arg) < 8192 = omega arith in
      rows_both (rv.Lui 28 (upper_of offset) ∷ rv.Add 28 28 8 ∷ rv.Addi 29 5 (8 * n) ∷ rv.Ld 6 5 0 ∷ adapts b arg) (rv.Sd 6 28 (8 * offset % 4096) ∷ rv.Addi 5 5 8 ∷ rv.Addi 28 28 8 ∷ rv.Bne 5 29 (8176 - 4 * length (adapts b arg)) ∷ [])
      ((omega arith, omega arith), ((omega arith, omega arith, omega arith), ((omega arith, omega arith, omega arith), ((omega arith, omega arith, omega arith), adapts_rows b arg))))
      ((omega arith, omega arith, omega arith), ((omega arith, omega arith, omega arith), ((omega arith, omega arith, omega arith), ((small, even, omega arith, omega arith), tt))))

  pub taken_rows : width_of b arg ≤ 16 → offset_of b arg + width_of b arg ≤ 65536 → AreRows (taken_argument b arg)
  taken_rows narrow low =
      by_if AreRows (is_looped b arg) (loop_words (adapts b arg) (width_of b arg) (offset_of b arg)) (take_words b (adapts b arg) (width_of b arg) 0 (offset_of b arg))
      (λ e. let h = ltb-true (if is_unboxed b arg then 1 else 3) (width_of b arg) e in loops_rows (width_of b arg) (offset_of b arg) narrow (omega arith))
      (λ e. takes_rows b arg (width_of b arg) 0 (offset_of b arg) (omega arith) low)

  -- one instruction adapts a word at most, but for a box's number
  adapts_one : is_unboxed b arg ≡ false → length (adapts b arg) ≤ 1
  adapts_one e = by_test (is_bool_place (place_type b (Argument arg))) (is_unboxed b arg) e
    where
      by_test : (is_bool is_box : Bool) → is_box ≡ false → length (if is_bool then rv.Andi 6 6 255 ∷ [] else if is_box then points_into_box else []) ≤ 1
      by_test true is_box e = omega arith
      by_test false true e = absurd (cc e)
      by_test false false e = omega arith

  takes_few : length (adapts b arg) ≤ 1 → (n word offset : ℕ) → length (take_words b (adapts b arg) n word offset) ≤ 5 * n
  takes_few one zero word offset = omega arith
  takes_few one (suc n) word offset =
      let l = length-append (one_code b arg word offset) (take_words b (adapts b arg) n (word + 1) (offset + 1)) in
      let d = length-append (rv.Ld 6 5 (8 * word) ∷ adapts b arg) (stores_word 6 offset) in
      let e = stores_short 6 offset in
      let r = takes_few one n (word + 1) (offset + 1) in
      omega arith

  pub taken_short : length (taken_argument b arg) ≤ 15
  taken_short =
      by_if (λ is. length is ≤ 15) (is_looped b arg) (loop_words (adapts b arg) (width_of b arg) (offset_of b arg)) (take_words b (adapts b arg) (width_of b arg) 0 (offset_of b arg))
      (λ e.
      let d = adapts_few b arg in
      let l = length-append (rv.Lui 28 (upper_of (offset_of b arg)) ∷ rv.Add 28 28 8 ∷ rv.Addi 29 5 (8 * width_of b arg) ∷ rv.Ld 6 5 0 ∷ adapts b arg) (rv.Sd 6 28 (8 * offset_of b arg % 4096) ∷ rv.Addi 5 5 8 ∷ rv.Addi 28 28 8 ∷ rv.Bne 5 29 (8176 - 4 * length (adapts b arg)) ∷ []) in
      omega arith)
      (λ e. by_box (is_unboxed b arg) refl (ltb-false (if is_unboxed b arg then 1 else 3) (width_of b arg) e))
    where
      by_box : (t : Bool) → is_unboxed b arg ≡ t → width_of b arg ≤ (if is_unboxed b arg then 1 else 3) → length (take_words b (adapts b arg) (width_of b arg) 0 (offset_of b arg)) ≤ 15
      by_box true e le =
          let width : width_of b arg ≤ 1 = subst (λ (k : Bool). width_of b arg ≤ (if k then 1 else 3)) e le in
          let l = takes_short b arg (width_of b arg) 0 (offset_of b arg) in
          omega arith
      by_box false e le =
          let width : width_of b arg ≤ 3 = subst (λ (k : Bool). width_of b arg ≤ (if k then 1 else 3)) e le in
          let l = takes_few (adapts_one e) (width_of b arg) 0 (offset_of b arg) in
          omega arith
