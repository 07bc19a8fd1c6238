-- Code over the places of the current frame: what it leaves in them, by piece.
use Rattle.std.proofs.Common.{◌≡◌, ◌≢◌, ◌⊎◌, inl, inr, ℕ, zero, suc, ◌+◌, ◌*◌, ◌^◌, ◌<◌, ◌≤◌, List, [], ◌∷◌, ◌++◌, length, slice_index, Option, Some, refl, sym, ap, ◌∙◌, subst, arith}
use Rattle.std.proofs.lemmas.List.{length-set}
use Rattle.cil_flow.specs.declared.plan.Plan.{Plan}
use Rattle.cil_meaning.specs.Values.{Kind, InFrame as OfFrame, Value, Plain, Managed}
use Rattle.cil_meaning.specs.Frames.{Frame, Places}
use Rattle.rgctx_words.specs.Stacks.{StackWords, mem_of, base_of, with_word}
use Rattle.rv_isa.specs.declared.instr.Instr.{Instr}
use Rattle.rv_machine.specs.Registers.{register_of}
use Rattle.rgctx_fill.specs.ThreadStates.{ImageData, ThreadData}
use Rattle.rgctx_fill.specs.MachineTurns.{sets}
use Rattle.cil_flow.specs.FramePlans.{IsPlan}
use Rattle.rgctx_fill.specs.FrameMaps.{FrameMap, place_count, width_at, spot, size_of, Lies, Holds, Stacked, with_value}
use Rattle.rgctx_fill.specs.Constructed.{IsSized}
use Rattle.rgctx_fill.specs.Standing.{Compiled, value_at, fresh_at, map_of, plan_of, Together}
use Rattle.rgctx_fill.proofs.FrameLemmas.{bounds, inside, write}
use Rattle.rgctx_fill.proofs.MachineLemmas.{Run, stop, step, run_then, run_pc, word_same, word_other}
use Rattle.rv_codegen.specs.PlainItems.{rest as rest_instrs}
use Rattle.rv_codegen.specs.FrameWords.{loads_word, stores_word, moves_words, addresses_word}
use Rattle.rv_codegen.proofs.StraightLemmas.{Set, Stored, Moved, InFrame, in_frame, next_is, loads, stores, addresses, moved, loads_short}
use Rattle.rgctx_words.specs.Frames.{frame_address}
use Rattle.rv_codegen.proofs.ItemLemmas.{addresses_short}
use Rattle.rv_codegen.proofs.FormLemmas.{frames_with, Kept, run_doing}

module _ {im : ImageData} {w : ℕ → ℕ} {c : Compiled} {f : Frame} {rest : List Frame} {p : Places} {ps : List Places} {s : ThreadData} (g : Together im w c (frames_with f rest p ps) s) where
  -- where the current frame begins, its plan, and the offset of a place
  abbrev pub base : ℕ
  base = base_of s.stack g.top

  abbrev pub map : FrameMap
  map = map_of c g.runner s.stack

  abbrev pub offset : ℕ → ℕ
  offset k = slice_index (c.plan g.row).offsets k

  abbrev pub width : ℕ → ℕ
  width k = slice_index (c.plan g.row).widths k

  abbrev pub places : ℕ
  places = length (c.plan g.row).offsets

  pub plan_is : map.plan g.top ≡ c.plan g.row
  plan_is = ap (plan_of c) g.compiled

  pub spot_is : (k : ℕ) → spot map g.top k ≡ base + offset k
  spot_is k = ap (λ (q : Plan). base + slice_index q.offsets k) plan_is

  width_is : (k : ℕ) → width_at map g.top k ≡ width k
  width_is k = ap (λ (q : Plan). slice_index q.widths k) plan_is

  count_is : place_count map g.top ≡ places
  count_is = ap (λ (q : Plan). length q.offsets) plan_is

  pub in_current : InFrame s base
  in_current = record {
    copy = g.around.copy;
    small = let a = g.around.stack.small in let b = g.around.stack.few in omega arith;
    sized = g.around.sized;
  }

  -- a place lies in the frame, whose words have small offsets
  pub record Room (k : ℕ) : Type 0 where
    pub low : offset k + width k ≤ 65536
    pub short : offset k < 65536
    pub narrow : width k ≤ 16
    pub inside : base + offset k + width k ≤ length s.stack.words

  pub room : (k : ℕ) → k < places → Room k
  room k kk =
      let a = bounds g.stacked g.top k (omega arith) (subst (λ n. k < n) (sym count_is) kk) in
      let b = a.high in
      let d = inside g.stacked g.top (omega arith) in
      let e = spot_is k in
      let h = width_is k in
      let q = subst IsPlan plan_is (g.stacked.plans g.top (omega arith)) in
      let below = q.below k kk in
      let r = q.room in
      let all = q.all in
      let short = q.short in
      let n = q.narrow k kk in
      record { low = omega arith; short = omega arith; narrow = n; inside = omega arith }

  -- A piece of code: it ran in the current frame, and left these values.
  pub record Did (is : List Instr) (left : ℕ → ℕ → Option Value) : Type 0 where
    pub t : ThreadData
    pub run : Run s is t
    pub kept : Kept s t
    pub stacked : Stacked map g.head (mem_of t.stack) (length s.stack.words) g.top left (fresh_at (frames_with f rest p ps))

  abbrev pub now : ℕ → ℕ → Option Value
  now = value_at (frames_with f rest p ps)

  -- A place takes a word.
  pub word_put : (is : List Instr) (t : ThreadData) (k v : ℕ) (kind : Kind) → Run s is t → register_of t.core 8 ≡ register_of s.core 8 → t.stack ≡ with_word s.stack (base + offset k) v → IsSized t →
      k < places → 1 ≤ width k → Did is (with_value g.top k (Some (Plain kind (v ∷ []))) now)
  word_put is t k v kind run copy stack sized kk wide = record {
    t = t;
    run = run;
    kept = record {
      copy = copy;
      bases = ap (λ (q : StackWords). q.bases) stack;
      count = ap (λ (q : StackWords). length q.words) stack ∙ length-set s.stack.words (base + offset k) v;
      doing = run_doing run;
      sized = sized;
    };
    stacked =
        write g.stacked g.top k (Some (Plain kind (v ∷ []))) (omega arith) (subst (λ n. k < n) (sym count_is) kk)
        (λ i o. ap (λ (q : StackWords). mem_of q i) stack ∙ word_other s.stack (base + offset k) v i (outside i o))
        (record {
          fits = subst (λ n. 1 ≤ n) (sym (width_is k)) wide;
          leads = tt;
          words = λ j lt. the_word j lt;
        });
  }
    where
      outside : (i : ℕ) → (i < spot map g.top k) ⊎ (spot map g.top k + width_at map g.top k ≤ i) → i ≢ base + offset k
      outside i (inl h) q = let e = spot_is k in omega arith
      outside i (inr h) q = let e = spot_is k in let d = width_is k in omega arith

      the_word : (j : ℕ) → j < 1 → mem_of t.stack (spot map g.top k + j) ≡ slice_index (v ∷ []) j
      the_word zero lt =
          let r = (room k kk).inside in
          let e : spot map g.top k + 0 ≡ base + offset k = let q = spot_is k in omega arith in
          ap (mem_of t.stack) e ∙ ap (λ (q : StackWords). mem_of q (base + offset k)) stack ∙ word_same s.stack (base + offset k) v (omega arith)
      the_word (suc j) lt = absurd (omega arith)

  -- A place takes the words of another.
  pub value_moved : (from to n : ℕ) (v : Value) → from < places → to < places → n ≤ width from → n ≤ width to → size_of v ≤ n → (from < to) ⊎ (to < from) → now g.top from ≡ Some v →
      s.core.pc + 24 * n < 2 ^ 64 → Did (moves_words n (offset from) (offset to)) (with_value g.top to (Some v) now)
  value_moved from to n v ff tt' nf nt size differ is pc =
      let a = room from ff in
      let a1 = a.low in
      let a2 = a.inside in
      let b = room to tt' in
      let b1 = b.low in
      let b2 = b.inside in
      build (moved in_current n (offset from) (offset to) (omega arith) (omega arith) (omega arith) (omega arith) (far differ) pc)
    where
      plan : IsPlan (c.plan g.row)
      plan = subst IsPlan plan_is (g.stacked.plans g.top (omega arith))

      far : (from < to) ⊎ (to < from) → (offset from + n ≤ offset to) ⊎ (offset to + n ≤ offset from)
      far (inl h) = let q = plan.apart from to h tt' in inl (omega arith)
      far (inr h) = let q = plan.apart to from h ff in inr (omega arith)

      old : Lies map (mem_of s.stack) g.top from v
      old = subst (Holds map (mem_of s.stack) g.top from) is (g.stacked.held g.top from (omega arith) (subst (λ m. from < m) (sym count_is) ff))

      build : Moved s (moves_words n (offset from) (offset to)) (base + offset from) (base + offset to) n → Did (moves_words n (offset from) (offset to)) (with_value g.top to (Some v) now)
      build m = record {
        t = m.t;
        run = m.run;
        kept = record { copy = m.others 8 (λ q. omega (arith, q)) (λ q. omega (arith, q)); bases = m.bases; count = m.count; doing = run_doing m.run; sized = m.sized };
        stacked =
            write g.stacked g.top to (Some v) (omega arith) (subst (λ k. to < k) (sym count_is) tt')
            (λ i o. m.only i (narrow i o))
            (record {
              fits = let q = width_is to in omega arith;
              leads = old.leads;
              words = λ j lt.
                  ap (λ k. mem_of m.t.stack (k + j)) (spot_is to)
                  ∙ m.words j (omega arith)
                  ∙ ap (λ k. mem_of s.stack (k + j)) (sym (spot_is from))
                  ∙ old.words j lt;
            });
      }
        where
          narrow : (i : ℕ) → (i < spot map g.top to) ⊎ (spot map g.top to + width_at map g.top to ≤ i) → (i < base + offset to) ⊎ (base + offset to + n ≤ i)
          narrow i (inl h) = inl (let q = spot_is to in omega arith)
          narrow i (inr h) = inr (let q = spot_is to in let r = width_is to in omega arith)

  -- The word of a value in a place.
  pub word_there : (k : ℕ) (kind : Kind) (v : ℕ) → k < places → now g.top k ≡ Some (Plain kind (v ∷ [])) → (mem_of s.stack (base + offset k) ≡ v) × (1 ≤ width k)
  word_there k kind v kk is =
      let l : Lies map (mem_of s.stack) g.top k (Plain kind (v ∷ [])) = subst (Holds map (mem_of s.stack) g.top k) is (g.stacked.held g.top k (omega arith) (subst (λ m. k < m) (sym count_is) kk)) in
      let e : base + offset k ≡ spot map g.top k + 0 = let q = spot_is k in omega arith in
      (ap (mem_of s.stack) e ∙ l.words 0 (omega arith), subst (λ n. 1 ≤ n) (width_is k) l.fits)

  -- A result in x5 goes to a place.
  pub result_put : (is : List Instr) (u : ThreadData) (k v : ℕ) (kind : Kind) → Run s is u → register_of u.core 8 ≡ register_of s.core 8 → u.stack ≡ s.stack → IsSized u → register_of u.core 5 ≡ v →
      k < places → 1 ≤ width k → u.core.pc + 12 < 2 ^ 64 → Did (is ++ stores_word 5 (offset k)) (with_value g.top k (Some (Plain kind (v ∷ []))) now)
  result_put is u k v kind run copy stack sized five kk wide high =
      let r = room k kk in
      let low = r.low in
      let fits = r.inside in
      let f' = in_frame in_current copy (ap (λ (q : StackWords). length q.words) stack) sized in
      build (stores f' 5 (offset k) (λ q. omega (arith, q)) (omega arith) (subst (λ (q : StackWords). base + offset k < length q.words) (sym stack) (omega arith)) high)
    where
      build : Stored u (stores_word 5 (offset k)) (base + offset k) (register_of u.core 5) → Did (is ++ stores_word 5 (offset k)) (with_value g.top k (Some (Plain kind (v ∷ []))) now)
      build y =
          word_put (is ++ stores_word 5 (offset k)) y.t k v kind (run_then run y.run) (y.others 8 (λ q. omega (arith, q)) ∙ copy)
          (y.stack ∙ ap (λ x. with_word u.stack (base + offset k) x) five ∙ ap (λ (q : StackWords). with_word q (base + offset k) v) stack) y.sized kk wide

  -- Two operands from places, a result by instructions on x5 and x6, and the place of the first takes it.
  pub binary_put : (instrs : List Instr) (first second a b r : ℕ) (ka kb kind : Kind) → first < places → second < places →
      now g.top first ≡ Some (Plain ka (a ∷ [])) → now g.top second ≡ Some (Plain kb (b ∷ [])) →
      ((u : ThreadData) → IsSized u → register_of u.core 5 ≡ a → register_of u.core 6 ≡ b → u.core.pc ≤ s.core.pc + 24 → Set u instrs 5 r) →
      s.core.pc + (36 + 4 * length instrs) < 2 ^ 64 →
      Did (loads_word 5 (offset first) ++ loads_word 6 (offset second) ++ instrs ++ stores_word 5 (offset first)) (with_value g.top first (Some (Plain kind (r ∷ []))) now)
  binary_put instrs first second a b r ka kb kind ff ss is_a is_b calc high =
      let low = (room first ff).low in
      let fits = (room first ff).inside in
      then_second (word_there first ka a ff is_a) (loads in_current 5 (offset first) (let x = (word_there first ka a ff is_a).1 in omega arith) (let x = (word_there first ka a ff is_a).1 in omega arith) refl (omega arith) (omega arith))
    where
      then_second : (mem_of s.stack (base + offset first) ≡ a) × (1 ≤ width first) → Set s (loads_word 5 (offset first)) 5 (mem_of s.stack (base + offset first)) →
          Did (loads_word 5 (offset first) ++ loads_word 6 (offset second) ++ instrs ++ stores_word 5 (offset first)) (with_value g.top first (Some (Plain kind (r ∷ []))) now)
      then_second wa x =
          let pc = run_pc x.run in
          let short = loads_short 5 (offset first) in
          let wb = word_there second kb b ss is_b in
          let low = (room second ss).low in
          let fits = (room second ss).inside in
          let f' = in_frame in_current (x.others 8 (λ q. omega (arith, q)) (λ q. omega (arith, q))) (ap (λ (q : StackWords). length q.words) x.stack) x.sized in
          then_calc wa wb x (loads f' 6 (offset second) (let one = wb.1 in omega arith) (subst (λ (q : StackWords). base + offset second < length q.words) (sym x.stack) (let one = wb.1 in omega arith)) refl (omega arith) (omega arith))
        where
          then_calc : (mem_of s.stack (base + offset first) ≡ a) × (1 ≤ width first) → (mem_of s.stack (base + offset second) ≡ b) × (1 ≤ width second) → (x : Set s (loads_word 5 (offset first)) 5 (mem_of s.stack (base + offset first))) → Set x.t (loads_word 6 (offset second)) 6 (mem_of x.t.stack (base + offset second)) →
              Did (loads_word 5 (offset first) ++ loads_word 6 (offset second) ++ instrs ++ stores_word 5 (offset first)) (with_value g.top first (Some (Plain kind (r ∷ []))) now)
          then_calc wa wb x y =
              let pc = run_pc x.run in
              let pc' = run_pc y.run in
              let short = loads_short 5 (offset first) in
              let short' = loads_short 6 (offset second) in
              last wa x y (calc y.t y.sized (y.others 5 (λ q. omega (arith, q)) (λ q. omega (arith, q)) ∙ x.value ∙ wa.0) (y.value ∙ ap (λ (q : StackWords). mem_of q (base + offset second)) x.stack ∙ wb.0) (omega arith))
            where
              last : (mem_of s.stack (base + offset first) ≡ a) × (1 ≤ width first) → (x : Set s (loads_word 5 (offset first)) 5 (mem_of s.stack (base + offset first))) → (y : Set x.t (loads_word 6 (offset second)) 6 (mem_of x.t.stack (base + offset second))) → Set y.t instrs 5 r →
                  Did (loads_word 5 (offset first) ++ loads_word 6 (offset second) ++ instrs ++ stores_word 5 (offset first)) (with_value g.top first (Some (Plain kind (r ∷ []))) now)
              last wa x y v =
                  let pc = run_pc x.run in
                  let pc' = run_pc y.run in
                  let pc'' = run_pc v.run in
                  let short = loads_short 5 (offset first) in
                  let short' = loads_short 6 (offset second) in
                  result_put (loads_word 5 (offset first) ++ loads_word 6 (offset second) ++ instrs) v.t first r kind (run_then (run_then x.run y.run) v.run)
                  (v.others 8 (λ q. omega (arith, q)) (λ q. omega (arith, q)) ∙ y.others 8 (λ q. omega (arith, q)) (λ q. omega (arith, q)) ∙ x.others 8 (λ q. omega (arith, q)) (λ q. omega (arith, q)))
                  (v.stack ∙ y.stack ∙ x.stack) v.sized v.value ff wa.1 (omega arith)

  -- The same with one operand.
  pub unary_put : (instrs : List Instr) (k a r : ℕ) (ka kind : Kind) → k < places → now g.top k ≡ Some (Plain ka (a ∷ [])) →
      ((u : ThreadData) → IsSized u → register_of u.core 5 ≡ a → u.core.pc ≤ s.core.pc + 12 → Set u instrs 5 r) →
      s.core.pc + (24 + 4 * length instrs) < 2 ^ 64 →
      Did (loads_word 5 (offset k) ++ instrs ++ stores_word 5 (offset k)) (with_value g.top k (Some (Plain kind (r ∷ []))) now)
  unary_put instrs k a r ka kind kk is_a calc high =
      let low = (room k kk).low in
      let fits = (room k kk).inside in
      then_calc (word_there k ka a kk is_a) (loads in_current 5 (offset k) (let x = (word_there k ka a kk is_a).1 in omega arith) (let x = (word_there k ka a kk is_a).1 in omega arith) refl (omega arith) (omega arith))
    where
      then_calc : (mem_of s.stack (base + offset k) ≡ a) × (1 ≤ width k) → Set s (loads_word 5 (offset k)) 5 (mem_of s.stack (base + offset k)) →
          Did (loads_word 5 (offset k) ++ instrs ++ stores_word 5 (offset k)) (with_value g.top k (Some (Plain kind (r ∷ []))) now)
      then_calc wa x =
          let pc = run_pc x.run in
          let short = loads_short 5 (offset k) in
          last wa x (calc x.t x.sized (x.value ∙ wa.0) (omega arith))
        where
          last : (mem_of s.stack (base + offset k) ≡ a) × (1 ≤ width k) → (x : Set s (loads_word 5 (offset k)) 5 (mem_of s.stack (base + offset k))) → Set x.t instrs 5 r →
              Did (loads_word 5 (offset k) ++ instrs ++ stores_word 5 (offset k)) (with_value g.top k (Some (Plain kind (r ∷ []))) now)
          last wa x v =
              let pc = run_pc x.run in
              let pc' = run_pc v.run in
              let short = loads_short 5 (offset k) in
              result_put (loads_word 5 (offset k) ++ instrs) v.t k r kind (run_then x.run v.run)
              (v.others 8 (λ q. omega (arith, q)) (λ q. omega (arith, q)) ∙ x.others 8 (λ q. omega (arith, q)) (λ q. omega (arith, q)))
              (v.stack ∙ x.stack) v.sized v.value kk wa.1 (omega arith)

  -- A word of code that does nothing.
  pub rested : s.core.pc + 4 < 2 ^ 64 → Did rest_instrs now
  rested high = record {
    t = sets s 0 0;
    run = step (sets s 0 0) (λ word. refl) (next_is s high) refl stop;
    kept = record {
      copy = refl;
      bases = refl;
      count = refl;
      doing = refl;
      sized = record { registers = g.around.sized.registers; register = g.around.sized.register; word = g.around.sized.word };
    };
    stacked = g.stacked;
  }

  -- what a place holds
  pub lies_there : (k : ℕ) (v : Value) → k < places → now g.top k ≡ Some v → Lies map (mem_of s.stack) g.top k v
  lies_there k v kk is = subst (Holds map (mem_of s.stack) g.top k) is (g.stacked.held g.top k (omega arith) (subst (λ m. k < m) (sym count_is) kk))

  pub fits_there : (k : ℕ) (v : Value) → k < places → now g.top k ≡ Some v → size_of v ≤ width k
  fits_there k v kk is = subst (λ n. size_of v ≤ n) (width_is k) (lies_there k v kk is).fits

  -- A value without words is in a place as soon as the place is there.
  pub nothing_moved : (from to : ℕ) (v : Value) → from < places → to < places → size_of v ≡ 0 → now g.top from ≡ Some v → s.core.pc + 4 < 2 ^ 64 → Did rest_instrs (with_value g.top to (Some v) now)
  unfolding rested
  nothing_moved from to v ff tt' none is high =
      let d = rested high in
      let l = lies_there from v ff is in
      record {
        t = d.t;
        run = d.run;
        kept = d.kept;
        stacked =
            write g.stacked g.top to (Some v) (omega arith) (subst (λ m. to < m) (sym count_is) tt') (λ i o. refl)
            (record { fits = omega arith; leads = l.leads; words = λ j lt. absurd (omega arith) });
      }

  -- A word becomes one of another kind where it stands.
  pub renamed : (k v : ℕ) (ka kind : Kind) → k < places → now g.top k ≡ Some (Plain ka (v ∷ [])) → s.core.pc + 4 < 2 ^ 64 → Did rest_instrs (with_value g.top k (Some (Plain kind (v ∷ []))) now)
  unfolding rested
  renamed k v ka kind kk is high =
      let d = rested high in
      let l = lies_there k (Plain ka (v ∷ [])) kk is in
      record {
        t = d.t;
        run = d.run;
        kept = d.kept;
        stacked =
            write g.stacked g.top k (Some (Plain kind (v ∷ []))) (omega arith) (subst (λ m. k < m) (sym count_is) kk) (λ i o. refl)
            (record { fits = l.fits; leads = tt; words = l.words });
      }

  -- A pointer to a place of the frame goes to another place.
  pub pointer_put : (of to : ℕ) → of < places → to < places → 1 ≤ width to → s.core.pc + 24 < 2 ^ 64 → Did (addresses_word 5 (offset of) ++ stores_word 5 (offset to)) (with_value g.top to (Some (Managed (OfFrame g.top of 0))) now)
  pointer_put of to oo tt' wide high =
      let r = room of oo in
      let r1 = r.short in
      let before = before_end of oo in
      then_store (addresses in_current 5 (offset of) r1 before refl (omega arith) (omega arith))
    where
      before_end : (k : ℕ) → k < places → base + offset k < length s.stack.words
      before_end k kk =
          let a = (bounds g.stacked g.top k (omega arith) (subst (λ n. k < n) (sym count_is) kk)).high in
          let d = inside g.stacked g.top (omega arith) in
          let e = spot_is k in
          omega arith

      then_store : Set s (addresses_word 5 (offset of)) 5 (frame_address (base + offset of)) → Did (addresses_word 5 (offset of) ++ stores_word 5 (offset to)) (with_value g.top to (Some (Managed (OfFrame g.top of 0))) now)
      then_store x =
          let pc = run_pc x.run in
          let few = addresses_short 5 (offset of) in
          let r = room to tt' in
          let r1 = r.short in
          let before = before_end to tt' in
          let f' = in_frame in_current (x.others 8 (λ q. omega (arith, q)) (λ q. omega (arith, q))) (ap (λ (q : StackWords). length q.words) x.stack) x.sized in
          build x (stores f' 5 (offset to) (λ q. omega (arith, q)) r1 (subst (λ (q : StackWords). base + offset to < length q.words) (sym x.stack) before) (omega arith))
        where
          build : (x : Set s (addresses_word 5 (offset of)) 5 (frame_address (base + offset of))) → Stored x.t (stores_word 5 (offset to)) (base + offset to) (register_of x.t.core 5) → Did (addresses_word 5 (offset of) ++ stores_word 5 (offset to)) (with_value g.top to (Some (Managed (OfFrame g.top of 0))) now)
          build x y =
              let stack : y.t.stack ≡ with_word s.stack (base + offset to) (frame_address (base + offset of)) =
              y.stack ∙ ap (λ v. with_word x.t.stack (base + offset to) v) x.value ∙ ap (λ (q : StackWords). with_word q (base + offset to) (frame_address (base + offset of))) x.stack in
              record {
                t = y.t;
                run = run_then x.run y.run;
                kept = record {
                  copy = y.others 8 (λ q. omega (arith, q)) ∙ x.others 8 (λ q. omega (arith, q)) (λ q. omega (arith, q));
                  bases = ap (λ (q : StackWords). q.bases) stack;
                  count = ap (λ (q : StackWords). length q.words) stack ∙ length-set s.stack.words (base + offset to) (frame_address (base + offset of));
                  doing = run_doing y.run ∙ run_doing x.run;
                  sized = y.sized;
                };
                stacked =
                    write g.stacked g.top to (Some (Managed (OfFrame g.top of 0))) (omega arith) (subst (λ n. to < n) (sym count_is) tt')
                    (λ i o. ap (λ (q : StackWords). mem_of q i) stack ∙ word_other s.stack (base + offset to) (frame_address (base + offset of)) i (outside i o))
                    (record {
                      fits = subst (λ n. 1 ≤ n) (sym (width_is to)) wide;
                      leads = (omega arith, subst (λ n. of < n) (sym count_is) oo, omega arith);
                      words = λ j lt. the_word stack j lt;
                    });
              }
            where
              outside : (i : ℕ) → (i < spot map g.top to) ⊎ (spot map g.top to + width_at map g.top to ≤ i) → i ≢ base + offset to
              outside i (inl h) q = let e = spot_is to in omega arith
              outside i (inr h) q = let e = spot_is to in let d = width_is to in omega arith

              the_word : y.t.stack ≡ with_word s.stack (base + offset to) (frame_address (base + offset of)) → (j : ℕ) → j < 1 → mem_of y.t.stack (spot map g.top to + j) ≡ frame_address (spot map g.top of + 0)
              the_word stack zero lt =
                  let e : spot map g.top to + 0 ≡ base + offset to = let q = spot_is to in omega arith in
                  let h : base + offset of ≡ spot map g.top of + 0 = let q = spot_is of in omega arith in
                  ap (mem_of y.t.stack) e ∙ ap (λ (q : StackWords). mem_of q (base + offset to)) stack ∙ word_same s.stack (base + offset to) (frame_address (base + offset of)) (before_end to tt') ∙ ap frame_address h
              the_word stack (suc j) lt = absurd (omega arith)
