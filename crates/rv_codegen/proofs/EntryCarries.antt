-- The copy of arguments at a body's entry: its code carries the thread to instruction 0.
use Rattle.std.proofs.Common.{◌≡◌, ◌⊎◌, inl, inr, ℕ, zero, suc, ◌+◌, ◌*◌, ◌^◌, ◌<◌, ◌≤◌, ◌==◌, ◌&&◌, nat_lt, nat_le, Bool, true, false, cond, List, [], ◌∷◌, length, slice_index, Option, Some, None, refl, sym, ap, ap₂, ◌∙◌, subst, arith, eqb-true, eq-eqb}
use Rattle.std.proofs.lemmas.Bool.Decides.{nat_tests}
use Rattle.std.proofs.lemmas.List.{length-append}
use Rattle.cil_flow.specs.declared.plan.Plan.{Plan}
use Rattle.cil_meaning.specs.Values.{Value}
use Rattle.cil_meaning.specs.Frames.{Frames}
use Rattle.rgctx_words.specs.Memory.{put}
use Rattle.rgctx_words.specs.Frames.{frame_address}
use Rattle.rgctx_words.specs.Stacks.{StackWords, mem_of, base_of}
use Rattle.rv_isa.specs.declared.instr.Instr.{Instr}
use Rattle.rv_isa.specs.declared.instr.Instr.TheVariants as rv
use Rattle.rv_isa.specs.Assembly.{word_count}
use Rattle.rv_machine.specs.Registers.{register_of}
use Rattle.rgctx_fill.specs.declared.doing.Doing.TheVariants.{Runs}
use Rattle.rgctx_fill.specs.ThreadStates.{ImageData, ThreadData}
use Rattle.cil_flow.specs.FramePlans.{IsPlan}
use Rattle.rgctx_fill.specs.FrameMaps.{FrameMap, place_count, width_at, spot, size_of, word_in, Holds, Stacked, with_value}
use Rattle.rgctx_fill.specs.Constructed.{IsSized, Walk, stays}
use Rattle.rgctx_fill.specs.Standing.{Compiled, plan_of, value_at, fresh_at, map_of, Headed, Together}
use Rattle.rgctx_fill.proofs.FrameLemmas.{bounds, inside, write, reframe}
use Rattle.rgctx_fill.proofs.MachineLemmas.{Stands, stands_front, stands_back, run_pc}
use Rattle.rv_codegen.specs.Carried.{StandFrom, code_address, IsBodyOf}
use Rattle.rv_codegen.specs.PlainItems.{BodyData, argument_count, offset_of, width_of, taken_argument, copies_arguments, entry_items}
use Rattle.rv_codegen.specs.Entering.{adapted, argument_words, forgets, IsEntering, Copies, EntryIsCarried}
use Rattle.rv_codegen.proofs.StraightLemmas.{Set, InFrame, load_by}
use Rattle.rv_codegen.proofs.ItemLemmas.{AreRows, rows_both, words_plain, plain_items_stand, stand_within}
use Rattle.rv_codegen.proofs.FormLemmas.{run_doing, stack_kept, map_kept}
use Rattle.rv_codegen.proofs.GiveLemmas.{word_address}
use Rattle.rv_codegen.proofs.WalkLemmas.{walk_then, run_walk}
use Rattle.rv_codegen.proofs.LoopLemmas.{Taken, takes_argument, taken_rows, taken_short}

-- What is forgotten ------------------------------------------------------------

module _ (top last : ℕ) (value : ℕ → ℕ → Option Value) where
  -- one place more holds its value
  forgets_less : (k l p : ℕ) → (forgets top (k + 1) last value l p ≡ with_value top k (value top k) (forgets top k last value) l p) ⊎ (forgets top (k + 1) last value l p ≡ None)
  forgets_less k l p = by_tests (l == top) refl (nat_le (k + 1) p && nat_lt p last) refl (p == k) refl
    where
      old : ℕ → ℕ → Option Value
      old = forgets top k last value

      by_tests : (here : Bool) → (l == top) ≡ here → (later : Bool) → (nat_le (k + 1) p && nat_lt p last) ≡ later → (same : Bool) → (p == k) ≡ same →
          (forgets top (k + 1) last value l p ≡ with_value top k (value top k) (forgets top k last value) l p) ⊎ (forgets top (k + 1) last value l p ≡ None)
      by_tests false e later e2 same e3 = inl
          (ap (λ t. cond (t && (nat_le (k + 1) p && nat_lt p last)) None (value l p)) e
          ∙ sym (ap (λ t. cond t (put k (value top k) (forgets top k last value top)) (forgets top k last value l) p) e
          ∙ ap (λ t. cond (t && (nat_le k p && nat_lt p last)) None (value l p)) e))
      by_tests true e true e2 same e3 = inr
          (ap (λ t. cond (t && (nat_le (k + 1) p && nat_lt p last)) None (value l p)) e ∙ ap (λ t. cond t None (value l p)) e2)
      by_tests true e false e2 true e3 = inl
          (ap (λ t. cond (t && (nat_le (k + 1) p && nat_lt p last)) None (value l p)) e ∙ ap (λ t. cond t None (value l p)) e2
          ∙ ap₂ value (eqb-true l top e) (eqb-true p k e3)
          ∙ sym (ap (λ t. cond t (put k (value top k) (forgets top k last value top)) (forgets top k last value l) p) e
          ∙ ap (λ t. cond t (value top k) (forgets top k last value top p)) e3))
      by_tests true e false e2 false e3 =
          let t4 : (nat_le k p && nat_lt p last) ≡ false = grind (arith, nat_tests, e2, e3) in
          inl
          (ap (λ t. cond (t && (nat_le (k + 1) p && nat_lt p last)) None (value l p)) e ∙ ap (λ t. cond t None (value l p)) e2
          ∙ ap (λ m. value m p) (eqb-true l top e)
          ∙ sym (ap (λ t. cond t (put k (value top k) (forgets top k last value top)) (forgets top k last value l) p) e
          ∙ ap (λ t. cond t (value top k) (forgets top k last value top p)) e3
          ∙ ap (λ t. cond (t && (nat_le k p && nat_lt p last)) None (value top p)) (eq-eqb top top refl)
          ∙ ap (λ t. cond t None (value top p)) t4))

  forgets_none : (l p : ℕ) → value l p ≡ forgets top last last value l p
  forgets_none l p = by_test (l == top)
    where
      by_test : (here : Bool) → value l p ≡ cond (here && (nat_le last p && nat_lt p last)) None (value l p)
      by_test false = refl
      by_test true = let t : (nat_le last p && nat_lt p last) ≡ false = grind (arith, nat_tests) in sym (ap (λ k. cond k None (value l p)) t)

module _ (b : BodyData) (im : ImageData) (c : Compiled) (row from : ℕ) (places : List (Option ℕ)) (body : IsBodyOf b im c row places) (room : argument_count b ≤ length b.plan.offsets) (few : argument_count b < 256)
    (w : ℕ → ℕ) (fs : Frames) (s : ThreadData) (e : IsEntering b im w c row from fs s) where
  abbrev map : FrameMap
  map = map_of c e.runner s.stack

  abbrev base : ℕ
  base = base_of s.stack e.top

  abbrev last : ℕ
  last = argument_count b

  abbrev Holding : (ℕ → ℕ) → ℕ → Type 0
  Holding mem k = Stacked map e.head mem (length s.stack.words) e.top (forgets e.top k last (value_at fs)) (fresh_at fs)

  plan_is : map.plan e.top ≡ b.plan
  plan_is = ap (plan_of c) e.compiled ∙ body.plan

  plan : IsPlan b.plan
  plan = subst IsPlan plan_is (e.stacked.plans e.top (omega arith))

  -- a place of an argument
  record Place (k : ℕ) : Type 0 where
    there : k < place_count map e.top
    at : spot map e.top k ≡ base + offset_of b k
    wide : width_at map e.top k ≡ width_of b k
    narrow : width_of b k ≤ 16
    low : offset_of b k + width_of b k ≤ 65536
    high : base + offset_of b k + width_of b k ≤ length s.stack.words
    above : 8 ≤ offset_of b k

  place : (k : ℕ) → k < last → Place k
  place k low =
      let inner : k < length b.plan.offsets = omega arith in
      let there : k < place_count map e.top = subst (λ (p : Plan). k < length p.offsets) (sym plan_is) inner in
      let at : spot map e.top k ≡ base + offset_of b k = ap (λ (p : Plan). base + slice_index p.offsets k) plan_is in
      let wide : width_at map e.top k ≡ width_of b k = ap (λ (p : Plan). slice_index p.widths k) plan_is in
      let h = (bounds e.stacked e.top k (omega arith) there).high in
      let i = inside e.stacked e.top (omega arith) in
      let b1 = plan.below k inner in
      let b2 = plan.room in
      let b3 = plan.all in
      let b4 = plan.short in
      record { there = there; at = at; wide = wide; narrow = plan.narrow k inner; low = omega arith; high = omega arith; above = plan.above k inner }

  -- a state of this code, which has copied the arguments below a number
  record Copied (k : ℕ) (u : ThreadData) : Type 0 where
    eight : register_of u.core 8 ≡ register_of s.core 8
    twelve : register_of u.core 12 ≡ register_of s.core 12
    bases : u.stack.bases ≡ s.stack.bases
    count : length u.stack.words ≡ length s.stack.words
    goes : u.doing ≡ Runs
    sized : IsSized u
    kept : (i : ℕ) → i < base → mem_of u.stack i ≡ mem_of s.stack i
    holds : Holding (mem_of u.stack) k

  record Went (u : ThreadData) (is : List Instr) (k most : ℕ) : Type 0 where
    t : ThreadData
    turns : ℕ
    quick : turns ≤ most
    walk : Walk im turns u t
    pc : t.core.pc ≡ u.core.pc + 4 * length is
    copied : Copied k t

  abbrev one_code : ℕ → List Instr
  one_code k = rv.Ld 5 12 (8 * k) ∷ taken_argument b k

  -- one argument
  one_copied : (u : ThreadData) (k : ℕ) → Copied k u → k < last → u.core.pc + 4 < 2 ^ 40 → Stands im u.core.pc (one_code k) → Went u (one_code k) (k + 1) (4 + 12 * width_of b k)
  one_copied u k d low pc st =
      let g = place k low in
      let g1 = g.high in
      let small = e.around.stack.small in
      let most = e.around.stack.few in
      let lb = e.list_below in
      let n = d.count in
      then_take (load_by u d.sized (omega arith) 5 12 (8 * k) (e.list + k) (word_address e.list (register_of u.core 12) k (d.twelve ∙ e.listed_at) (omega arith) (omega arith)) (omega arith) refl (omega arith))
    where
      then_take : Set u (rv.Ld 5 12 (8 * k) ∷ []) 5 (mem_of u.stack (e.list + k)) → Went u (one_code k) (k + 1) (4 + 12 * width_of b k)
      then_take x =
          let g = place k low in
          let g1 = g.high in
          let g2 = g.narrow in
          let g3 = g.low in
          let small = e.around.stack.small in
          let most = e.around.stack.few in
          let lb = e.list_below in
          let n = d.count in
          let p = run_pc x.run in
          let below = e.below k low in
          let count : length x.t.stack.words ≡ length s.stack.words = ap (λ (q : StackWords). length q.words) x.stack ∙ d.count in
          let five : register_of x.t.core 5 ≡ frame_address (e.address k) = x.value ∙ d.kept (e.list + k) (omega arith) ∙ e.listed k low in
          let f : InFrame x.t base = record { copy = x.others 8 (λ z. omega (arith, z)) (λ z. omega (arith, z)) ∙ d.eight ∙ e.around.copy; small = omega arith; sized = x.sized } in
          build x (takes_argument b im k (e.address k) f (run_doing x.run ∙ d.goes) five (omega arith) (omega arith) (omega arith) (omega arith) (omega arith)
          (subst (λ n. Stands im n (taken_argument b k)) (sym p) st.1))
        where
          build : (x : Set u (rv.Ld 5 12 (8 * k) ∷ []) 5 (mem_of u.stack (e.list + k))) → Taken b im k x.t (taken_argument b k) (e.address k) (base + offset_of b k) (width_of b k) (3 + 12 * width_of b k) → Went u (one_code k) (k + 1) (4 + 12 * width_of b k)
          build x y =
              let p = run_pc x.run in
              let p' = y.pc in
              let q = y.quick in
              record {
                t = y.t;
                turns = 1 + y.turns;
                quick = omega arith;
                walk = walk_then im (run_walk im x.run d.goes (st.0, tt)) y.walk;
                pc = omega arith;
                copied = record {
                  eight = y.eight ∙ x.others 8 (λ z. omega (arith, z)) (λ z. omega (arith, z)) ∙ d.eight;
                  twelve = y.twelve ∙ x.others 12 (λ z. omega (arith, z)) (λ z. omega (arith, z)) ∙ d.twelve;
                  bases = y.bases ∙ ap (λ (q : StackWords). q.bases) x.stack ∙ d.bases;
                  count = y.count ∙ ap (λ (q : StackWords). length q.words) x.stack ∙ d.count;
                  goes = y.doing ∙ run_doing x.run ∙ d.goes;
                  sized = y.sized;
                  kept = λ i lt. y.only i (inl (omega arith)) ∙ ap (λ (q : StackWords). mem_of q i) x.stack ∙ d.kept i lt;
                  holds = reframe
                      (write d.holds e.top k (value_at fs e.top k) (omega arith) (place k low).there (λ i o. y.only i (narrower i o) ∙ ap (λ (q : StackWords). mem_of q i) x.stack) (new (value_at fs e.top k) refl))
                      (forgets e.top (k + 1) last (value_at fs)) (λ l n le. forgets_less e.top last (value_at fs) k l n);
                };
              }
            where
              narrower : (i : ℕ) → (i < spot map e.top k) ⊎ (spot map e.top k + width_at map e.top k ≤ i) → (i < base + offset_of b k) ⊎ (base + offset_of b k + width_of b k ≤ i)
              narrower i (inl h) = inl (let a = (place k low).at in omega arith)
              narrower i (inr h) = inr (let a = (place k low).at in let d = (place k low).wide in omega arith)

              new : (o : Option Value) → value_at fs e.top k ≡ o → Holds map (mem_of y.t.stack) e.top k o
              new None is = tt
              new (Some v) is = record {
                fits = let a = e.fits k v low is in let d = (place k low).wide in omega arith;
                leads = e.leads k v low is;
                words = λ j lt. the_word j v is lt;
              }
                where
                  the_word : (j : ℕ) (v : Value) → value_at fs e.top k ≡ Some v → j < size_of v → mem_of y.t.stack (spot map e.top k + j) ≡ word_in map v j
                  the_word j v is lt =
                      let fits = e.fits k v low is in
                      let below = e.below k low in
                      ap (λ n. mem_of y.t.stack (n + j)) (place k low).at
                      ∙ y.words j (omega arith)
                      ∙ ap (λ (q : StackWords). adapted b k (mem_of q (e.address k + j))) x.stack
                      ∙ ap (adapted b k) (d.kept (e.address k + j) (omega arith))
                      ∙ e.words k j v low is lt

  -- so many arguments from one on
  all_copied : (n k : ℕ) (u : ThreadData) → Copied k u → k + n ≤ last → (0 < length (copies_arguments b n k) → u.core.pc + 4 * length (copies_arguments b n k) < 2 ^ 40) → Stands im u.core.pc (copies_arguments b n k) → Went u (copies_arguments b n k) (k + n) (4 * n + 12 * argument_words b n k)
  all_copied zero k u d le pc st = record { t = u; turns = 0; quick = omega arith; walk = stays; pc = omega arith; copied = let z : k ≡ k + 0 = omega arith in subst (λ n. Copied n u) z d }
  all_copied (suc n) k u d le pc st =
      let long = length-append (one_code k) (copies_arguments b n (k + 1)) in
      let some = pc (omega arith) in
      then_rest (one_copied u k d (omega arith) (omega arith) (stands_front im u.core.pc (one_code k) (copies_arguments b n (k + 1)) st)) (λ t d' le' pc' st'. all_copied n (k + 1) t d' le' pc' st')
    where
      then_rest : Went u (one_code k) (k + 1) (4 + 12 * width_of b k) →
          ((t : ThreadData) → Copied (k + 1) t → k + 1 + n ≤ last → (0 < length (copies_arguments b n (k + 1)) → t.core.pc + 4 * length (copies_arguments b n (k + 1)) < 2 ^ 40) → Stands im t.core.pc (copies_arguments b n (k + 1)) → Went t (copies_arguments b n (k + 1)) (k + 1 + n) (4 * n + 12 * argument_words b n (k + 1))) →
          Went u (copies_arguments b (suc n) k) (k + suc n) (4 * suc n + 12 * argument_words b (suc n) k)
      then_rest x rest =
          let long = length-append (one_code k) (copies_arguments b n (k + 1)) in
          let some = pc (omega arith) in
          let p = x.pc in
          both x (rest x.t x.copied (omega arith) (λ h. omega arith) (subst (λ q. Stands im q (copies_arguments b n (k + 1))) (sym p) (stands_back im u.core.pc (one_code k) (copies_arguments b n (k + 1)) st)))
        where
          both : (x : Went u (one_code k) (k + 1) (4 + 12 * width_of b k)) → Went x.t (copies_arguments b n (k + 1)) (k + 1 + n) (4 * n + 12 * argument_words b n (k + 1)) → Went u (copies_arguments b (suc n) k) (k + suc n) (4 * suc n + 12 * argument_words b (suc n) k)
          both x y =
              let long = length-append (one_code k) (copies_arguments b n (k + 1)) in
              let q = x.quick in
              let q' = y.quick in
              let p = x.pc in
              let p' = y.pc in
              let z : k + 1 + n ≡ k + suc n = omega arith in
              record { t = y.t; turns = x.turns + y.turns; quick = omega arith; walk = walk_then im x.walk y.walk; pc = omega arith; copied = subst (λ m. Copied m y.t) z y.copied }

  copies_rows : (n k : ℕ) → k + n ≤ last → AreRows (copies_arguments b n k)
  copies_rows zero k le = tt
  copies_rows (suc n) k le =
      let g = place k (omega arith) in
      let g2 = g.narrow in
      let g3 = g.low in
      rows_both (one_code k) (copies_arguments b n (k + 1)) ((omega arith, omega arith, omega arith), taken_rows b k (omega arith) (omega arith)) (copies_rows n (k + 1) (omega arith))

  pub entry_copies : StandFrom im places from (entry_items b) → c.pc row 0 ≡ code_address (from + word_count (entry_items b)) → Copies b im w c fs s
  entry_copies st next =
      let rows = copies_rows last 0 (omega arith) in
      let stands : Stands im (code_address from) (copies_arguments b last 0) = plain_items_stand im places from (copies_arguments b last 0) rows st in
      let begin = e.here in
      let short = body.short in
      arrived (all_copied last 0 s (record { eight = refl; twelve = refl; bases = refl; count = refl; goes = e.goes; sized = e.around.sized; kept = λ i lt. refl; holds = e.stacked }) (omega arith)
      (λ some. let h = stand_within im (code_address from) from (copies_arguments b last 0) refl stands some in omega arith)
      (subst (λ n. Stands im n (copies_arguments b last 0)) (sym begin) stands))
    where
      arrived : Went s (copies_arguments b last 0) (0 + last) (4 * last + 12 * argument_words b last 0) → Copies b im w c fs s
      arrived x =
          let n = words_plain (copies_arguments b last 0) in
          let q = x.quick in
          let z : 0 + last ≡ last = omega arith in
          let d : Copied last x.t = subst (λ m. Copied m x.t) z x.copied in
          let p = x.pc in
          let begin = e.here in
          let to : x.t.core.pc ≡ c.pc row 0 = omega arith in
          record { t = x.t; turns = x.turns; quick = omega arith; walk = x.walk; together = together x.t d to }
        where
          together : (t : ThreadData) → Copied last t → t.core.pc ≡ c.pc row 0 → Together im w c fs t
          together t d to = record {
            top = e.top;
            runner = e.runner;
            node = e.node;
            head = e.head;
            around = record {
              frames = e.around.frames;
              places = e.around.places;
              bases = ap length d.bases ∙ e.around.bases;
              bodies = e.around.bodies;
              nodes = e.around.nodes;
              fresh = e.around.fresh;
              copy = d.eight ∙ e.around.copy ∙ ap (λ (bs : List ℕ). frame_address (slice_index bs e.top)) (sym d.bases);
              stack = stack_kept s.stack t.stack d.bases d.count e.around.stack;
              sized = d.sized;
            };
            headed = subst (λ m. Headed im c e.runner e.node m fs e.head e.top) (sym (map_kept c e.runner s.stack t.stack d.bases)) e.headed;
            stacked = subst (λ m. Stacked m e.head (mem_of t.stack) (length t.stack.words) e.top (value_at fs) (fresh_at fs)) (sym (map_kept c e.runner s.stack t.stack d.bases))
                (subst (λ n. Stacked map e.head (mem_of t.stack) n e.top (value_at fs) (fresh_at fs)) (sym d.count)
                (reframe d.holds (value_at fs) (λ l n le. inl (forgets_none e.top last (value_at fs) l n))));
            calm = e.calm;
            goes = d.goes;
            row = row;
            compiled = e.compiled;
            here = λ f is. to ∙ ap (c.pc row) (sym (e.first f is));
          }

pub entry_carries : (b : BodyData) → EntryIsCarried b
entry_carries b im c row from places body room few st next w fs s e = entry_copies b im c row from places body room few w fs s e st next

-- How many code words ------------------------------------------------------------

copies_short : (b : BodyData) (n k : ℕ) → length (copies_arguments b n k) ≤ 16 * n
copies_short b zero k = omega arith
copies_short b (suc n) k =
    let a = length-append (rv.Ld 5 12 (8 * k) ∷ taken_argument b k) (copies_arguments b n (k + 1)) in
    let d = taken_short b k in
    let r = copies_short b n (k + 1) in
    omega arith

pub entry_short : (b : BodyData) → word_count (entry_items b) ≤ 16 * argument_count b
entry_short b = let n = words_plain (copies_arguments b (argument_count b) 0) in let h = copies_short b (argument_count b) 0 in omega arith
