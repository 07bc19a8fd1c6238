-- Where process and thread stand together after the code of an instruction: one lemma for all forms that go on in the same frame.
use Rattle.std.proofs.Common.{◌≡◌, ◌≢◌, ◌⊎◌, inl, inr, ℕ, suc, ◌+◌, ◌*◌, ◌<◌, ◌≤◌, Bool, true, false, ◌==◌, cond, List, [], ◌∷◌, ◌++◌, length, reverse, slice_index, slice_get, Option, Some, None, refl, sym, ap, ◌∙◌, subst, arith, eqb-true, eq-eqb}
use Rattle.type_tree.specs.declared.tree.TExpr.{TExpr}
use Rattle.il_model.specs.Found.{method_at}
use Rattle.il_model.specs.declared.layout.MethodTree.{MethodTree}
use Rattle.interaction.specs.Process.{Naming, Next}
use Rattle.interaction.specs.Simulation.{Sides, Keeps}
use Rattle.interaction.specs.Simulation as simulation
use Rattle.cil_meaning.specs.Values.{Value}
use Rattle.cil_meaning.specs.Naming.{Mention, put_type}
use Rattle.cil_meaning.specs.Frames.{Nothing, Frame, Places, Frames, places_at}
use Rattle.rgctx_words.specs.Regions.{node_count}
use Rattle.rgctx_words.specs.Memory.{put}
use Rattle.rgctx_words.specs.Frames.{frame_address}
use Rattle.rgctx_words.specs.Stacks.{StackWords, IsStack, mem_of, base_of}
use Rattle.rv_isa.specs.declared.instr.Instr.{Instr}
use Rattle.rv_machine.specs.Registers.{register_of}
use Rattle.rgctx_fill.specs.declared.doing.Doing.TheVariants.{Runs}
use Rattle.rgctx_fill.specs.declared.spelled.NodeTree.TheVariants as tree
use Rattle.rgctx_fill.specs.Spelled.{spelled}
use Rattle.rgctx_fill.specs.ThreadStates.{ImageData, ThreadData}
use Rattle.rgctx_fill.specs.FrameMaps.{Stacked, HasBuilt, with_value}
use Rattle.rgctx_fill.specs.Constructed.{IsSized}
use Rattle.rgctx_fill.specs.Standing.{Compiled, Runner, level_of, value_in, value_at, made_words, AreFresh, fresh_in, fresh_at, map_of, Headed, Around, Together, At, running, sides, IsRunBy, TakesResult, result_place}
use Rattle.rgctx_fill.proofs.FrameLemmas.{Order, less, same, greater, order, reframe}
use Rattle.rgctx_fill.proofs.MachineLemmas.{Stands, Run, stop, step, first_run}

-- Lists by level -----------------------------------------------------------

pub differ : (a b : ℕ) → a ≢ b → (a == b) ≡ false
differ a b ne = by_test (a == b) refl
  where
    by_test : (x : Bool) → (a == b) ≡ x → (a == b) ≡ false
    by_test true e = absurd (ne (eqb-true a b e))
    by_test false e = e

-- these frames, the current one first, with what their places hold
abbrev pub frames_with : Frame → List Frame → Places → List Places → Frames
frames_with f rest p ps = record { frames = f ∷ rest; places = p ∷ ps }

module _ (top : ℕ) (rest : List Frame) (ps : List Places) (frames : length rest ≡ top) (places : length ps ≡ top) where
  pub level_top : (f : Frame) → level_of (f ∷ rest) top ≡ Some f
  level_top f = ap (λ b. cond b (Some f) (level_of rest top)) (eq-eqb top (length rest) (sym frames))

  pub level_low : (f : Frame) (l : ℕ) → l < top → level_of (f ∷ rest) l ≡ level_of rest l
  level_low f l low = ap (λ b. cond b (Some f) (level_of rest l)) (differ l (length rest) (λ e. omega arith))

  pub places_top : (p : Places) → places_at (p ∷ ps) top ≡ Some p
  places_top p = ap (λ b. cond b (Some p) (places_at ps top)) (eq-eqb top (length ps) (sym places))

  pub places_low : (p : Places) (l : ℕ) → l < top → places_at (p ∷ ps) l ≡ places_at ps l
  places_low p l low = ap (λ b. cond b (Some p) (places_at ps l)) (differ l (length ps) (λ e. omega arith))

  -- what the current frame's places hold, and those of the frames below
  pub values_top : (f : Frame) (p : Places) (n : ℕ) → value_at (frames_with f rest p ps) top n ≡ slice_get (p.held ++ reverse f.stack) n
  values_top f p n = ap (λ o. value_in o (places_at (p ∷ ps) top) n) (level_top f) ∙ ap (λ o. value_in (Some f) o n) (places_top p)

  pub values_low : (f f' : Frame) (p p' : Places) (l n : ℕ) → l < top → value_at (frames_with f' rest p' ps) l n ≡ value_at (frames_with f rest p ps) l n
  values_low f f' p p' l n low =
      ap (λ o. value_in o (places_at (p' ∷ ps) l) n) (level_low f' l low ∙ sym (level_low f l low))
      ∙ ap (λ o. value_in (level_of (f ∷ rest) l) o n) (places_low p' l low ∙ sym (places_low p l low))

  pub fresh_low : (f f' : Frame) (p p' : Places) (l : ℕ) → l < top → fresh_at (frames_with f' rest p' ps) l ≡ fresh_at (frames_with f rest p ps) l
  fresh_low f f' p p' l h =
      ap (λ o. fresh_in o (places_at (p' ∷ ps) l)) (level_low f' l h ∙ sym (level_low f l h))
      ∙ ap (fresh_in (level_of (f ∷ rest) l)) (places_low p' l h ∙ sym (places_low p l h))

  pub fresh_top : (f : Frame) (p : Places) → fresh_at (frames_with f rest p ps) top ≡ made_words f.awaits p.fresh
  fresh_top f p = ap (λ o. fresh_in o (places_at (p ∷ ps) top)) (level_top f) ∙ ap (fresh_in (Some f)) (places_top p)

  pub fresh_same : (f f' : Frame) (p p' : Places) (l : ℕ) → l ≤ top → f.awaits ≡ Nothing → f'.awaits ≡ Nothing → p'.fresh ≡ p.fresh → fresh_at (frames_with f' rest p' ps) l ≡ fresh_at (frames_with f rest p ps) l
  fresh_same f f' p p' l le calm calm' e = by_order (order l top)
    where
      by_order : Order l top → fresh_at (frames_with f' rest p' ps) l ≡ fresh_at (frames_with f rest p ps) l
      by_order (less h) = fresh_low f f' p p' l h
      by_order (same h) =
          subst (λ n. fresh_at (frames_with f' rest p' ps) n ≡ fresh_at (frames_with f rest p ps) n) (sym h)
          (fresh_top f' p' ∙ ap (λ a. made_words a p'.fresh) calm' ∙ e ∙ sym (ap (λ a. made_words a p.fresh) calm) ∙ sym (fresh_top f p))
      by_order (greater h) = absurd (omega arith)

  -- the values that a piece left are those of the process, or more
  abbrev pub Leaves : (f' : Frame) (p' : Places) (left : ℕ → ℕ → Option Value) → Type 0
  Leaves f' p' left = (l n : ℕ) → l ≤ top → (value_at (frames_with f' rest p' ps) l n ≡ left l n) ⊎ (value_at (frames_with f' rest p' ps) l n ≡ None)

  -- nothing was written
  pub leaves_all : (f f' : Frame) (p p' : Places) →
      ((n : ℕ) → (slice_get (p'.held ++ reverse f'.stack) n ≡ slice_get (p.held ++ reverse f.stack) n) ⊎ (slice_get (p'.held ++ reverse f'.stack) n ≡ None)) →
      Leaves f' p' (value_at (frames_with f rest p ps))
  leaves_all f f' p p' here l n le = by_order (order l top)
    where
      joined : (slice_get (p'.held ++ reverse f'.stack) n ≡ slice_get (p.held ++ reverse f.stack) n) ⊎ (slice_get (p'.held ++ reverse f'.stack) n ≡ None) →
          (value_at (frames_with f' rest p' ps) top n ≡ value_at (frames_with f rest p ps) top n) ⊎ (value_at (frames_with f' rest p' ps) top n ≡ None)
      joined (inl e) = inl (values_top f' p' n ∙ e ∙ sym (values_top f p n))
      joined (inr e) = inr (values_top f' p' n ∙ e)

      by_order : Order l top → (value_at (frames_with f' rest p' ps) l n ≡ value_at (frames_with f rest p ps) l n) ⊎ (value_at (frames_with f' rest p' ps) l n ≡ None)
      by_order (less h) = inl (values_low f f' p p' l n h)
      by_order (same h) = subst (λ m. (value_at (frames_with f' rest p' ps) m n ≡ value_at (frames_with f rest p ps) m n) ⊎ (value_at (frames_with f' rest p' ps) m n ≡ None)) (sym h) (joined (here n))
      by_order (greater h) = absurd (omega arith)

  -- one place of the current frame was written
  pub leaves_value : (f f' : Frame) (p p' : Places) (k : ℕ) (v : Value) →
      ((n : ℕ) → (slice_get (p'.held ++ reverse f'.stack) n ≡ put k (Some v) (slice_get (p.held ++ reverse f.stack)) n) ⊎ (slice_get (p'.held ++ reverse f'.stack) n ≡ None)) →
      Leaves f' p' (with_value top k (Some v) (value_at (frames_with f rest p ps)))
  leaves_value f f' p p' k v here l n le = by_order (order l top)
    where
      old : ℕ → ℕ → Option Value
      old = value_at (frames_with f rest p ps)

      at_place : put k (Some v) (slice_get (p.held ++ reverse f.stack)) n ≡ put k (Some v) (value_at (frames_with f rest p ps) top) n
      at_place = ap (λ o. cond (n == k) (Some v) o) (sym (values_top f p n))

      at_top : put k (Some v) (value_at (frames_with f rest p ps) top) n ≡ with_value top k (Some v) (value_at (frames_with f rest p ps)) top n
      at_top = ap (λ b. cond b (put k (Some v) (value_at (frames_with f rest p ps) top)) (value_at (frames_with f rest p ps) top) n) (sym (eq-eqb top top refl))

      joined : (slice_get (p'.held ++ reverse f'.stack) n ≡ put k (Some v) (slice_get (p.held ++ reverse f.stack)) n) ⊎ (slice_get (p'.held ++ reverse f'.stack) n ≡ None) →
          (value_at (frames_with f' rest p' ps) top n ≡ with_value top k (Some v) (value_at (frames_with f rest p ps)) top n) ⊎ (value_at (frames_with f' rest p' ps) top n ≡ None)
      joined (inl e) = inl (values_top f' p' n ∙ e ∙ at_place ∙ at_top)
      joined (inr e) = inr (values_top f' p' n ∙ e)

      by_order : Order l top → (value_at (frames_with f' rest p' ps) l n ≡ with_value top k (Some v) (value_at (frames_with f rest p ps)) l n) ⊎ (value_at (frames_with f' rest p' ps) l n ≡ None)
      by_order (less h) = inl
          (values_low f f' p p' l n h
          ∙ ap (λ b. cond b (put k (Some v) (value_at (frames_with f rest p ps) top)) (value_at (frames_with f rest p ps) l) n) (sym (differ l top (λ e. omega arith))))
      by_order (same h) = subst (λ m. (value_at (frames_with f' rest p' ps) m n ≡ with_value top k (Some v) (value_at (frames_with f rest p ps)) m n) ⊎ (value_at (frames_with f' rest p' ps) m n ≡ None)) (sym h) (joined (here n))
      by_order (greater h) = absurd (omega arith)

-- What code keeps ----------------------------------------------------------

-- code went on from one state to another in the same frame
pub record Kept (s t : ThreadData) : Type 0 where
  pub copy : register_of t.core 8 ≡ register_of s.core 8
  pub bases : t.stack.bases ≡ s.stack.bases
  pub count : length t.stack.words ≡ length s.stack.words
  pub doing : t.doing ≡ s.doing
  pub sized : IsSized t

-- the bases alone say what a stack is
pub stack_kept : (a b : StackWords) → b.bases ≡ a.bases → length b.words ≡ length a.words → IsStack a → IsStack b
stack_kept a b bases count is = record {
  few = subst (λ (bs : List ℕ). length bs ≤ 1024) (sym bases) is.few;
  low = λ l lt. subst (λ (bs : List ℕ). l < length bs → slice_index bs l ≤ 2064 * l) (sym bases) (is.low l) lt;
  rising = λ l m lt lt'. subst (λ (bs : List ℕ). m < length bs → slice_index bs l + 8 ≤ slice_index bs m) (sym bases) (is.rising l m lt) lt';
  inside = λ l lt. subst (λ n. base_of b l + 8 ≤ n) (sym count) (subst (λ (bs : List ℕ). l < length bs → slice_index bs l + 8 ≤ length a.words) (sym bases) (is.inside l) lt);
  small = subst (λ n. n ≤ 2064 * length b.bases) (sym count) (subst (λ (bs : List ℕ). length a.words ≤ 2064 * length bs) (sym bases) is.small);
}

-- the map of the frames depends on the bases alone
pub map_kept : (c : Compiled) (runner : ℕ → Runner) (a b : StackWords) → b.bases ≡ a.bases → map_of c runner b ≡ map_of c runner a
map_kept c runner a b bases = ap (λ (bs : List ℕ). map_of c runner (record { words = a.words; bases = bs })) bases

module _ {im : ImageData} {w : ℕ → ℕ} {c : Compiled} {f : Frame} {rest : List Frame} {p : Places} {ps : List Places} {s : ThreadData} (g : Together im w c (frames_with f rest p ps) s) where
  pub rest_frames : length rest ≡ g.top
  rest_frames = let h = g.around.frames in omega arith

  pub rest_places : length ps ≡ g.top
  rest_places = let h = g.around.places in omega arith

  -- the current frame awaits nothing, and has no words of a struct
  pub is_calm : f.awaits ≡ Nothing
  is_calm = g.calm f (level_top g.top rest ps rest_frames rest_places f)

  pub none_fresh : p.fresh ≡ []
  none_fresh = subst (λ a. AreFresh a p.fresh) is_calm (g.around.fresh g.top f p (level_top g.top rest ps rest_frames rest_places f) (places_top g.top rest ps rest_frames rest_places p))

  module _ (f' : Frame) (p' : Places) (same_method : f'.method ≡ f.method) (calm : f'.awaits ≡ Nothing) where
    method_of : (l : ℕ) (x : Frame) → level_of (f' ∷ rest) l ≡ Some x → Order l g.top → (y : Frame) × (level_of (f ∷ rest) l ≡ Some y) × (x.method ≡ y.method)
    method_of l x is (less h) = (x, level_low g.top rest ps rest_frames rest_places f l h ∙ sym (level_low g.top rest ps rest_frames rest_places f' l h) ∙ is, refl)
    method_of l x is (same h) =
        let e : Some f' ≡ Some x = sym (level_top g.top rest ps rest_frames rest_places f') ∙ subst (λ n. level_of (f' ∷ rest) n ≡ Some x) h is in
        let e' : f' ≡ x = cc e in
        (f, subst (λ n. level_of (f ∷ rest) n ≡ Some f) (sym h) (level_top g.top rest ps rest_frames rest_places f), ap (λ (q : Frame). q.method) (sym e') ∙ same_method)
    method_of l x is (greater h) = absurd (cc (is, past (f' ∷ rest) l (omega (arith, rest_frames))))
      where
        past : (xs : List Frame) (n : ℕ) → length xs ≤ n → level_of xs n ≡ None
        past [] n le = refl
        past (y ∷ ys) n le = ap (λ b. cond b (Some y) (level_of ys n)) (differ n (length ys) (λ e. omega arith)) ∙ past ys n (omega arith)

    fresh_kept : (l : ℕ) (x : Frame) (y : Places) → p'.fresh ≡ p.fresh → level_of (f' ∷ rest) l ≡ Some x → places_at (p' ∷ ps) l ≡ Some y → Order l g.top → AreFresh x.awaits y.fresh
    fresh_kept l x y fresh is at_place (less h) =
        g.around.fresh l x y (level_low g.top rest ps rest_frames rest_places f l h ∙ sym (level_low g.top rest ps rest_frames rest_places f' l h) ∙ is)
        (places_low g.top rest ps rest_frames rest_places p l h ∙ sym (places_low g.top rest ps rest_frames rest_places p' l h) ∙ at_place)
    fresh_kept l x y fresh is at_place (same h) =
        let e : Some f' ≡ Some x = sym (level_top g.top rest ps rest_frames rest_places f') ∙ subst (λ n. level_of (f' ∷ rest) n ≡ Some x) h is in
        let d : Some p' ≡ Some y = sym (places_top g.top rest ps rest_frames rest_places p') ∙ subst (λ n. places_at (p' ∷ ps) n ≡ Some y) h at_place in
        let e' : f' ≡ x = cc e in
        let d' : p' ≡ y = cc d in
        subst (λ (z : Frame). AreFresh z.awaits y.fresh) e' (subst (λ a. AreFresh a y.fresh) (sym calm) (subst (λ (z : Places). z.fresh ≡ []) d' (fresh ∙ none_fresh)))
    fresh_kept l x y fresh is at_place (greater h) = absurd (cc (is, past (f' ∷ rest) l (omega (arith, rest_frames))))
      where
        past : (xs : List Frame) (n : ℕ) → length xs ≤ n → level_of xs n ≡ None
        past [] n le = refl
        past (z ∷ zs) n le = ap (λ b. cond b (Some z) (level_of zs n)) (differ n (length zs) (λ e. omega arith)) ∙ past zs n (omega arith)

    around_kept : (t : ThreadData) → Kept s t → p'.fresh ≡ p.fresh → Around im w c g.runner g.node (frames_with f' rest p' ps) t g.top
    around_kept t k fresh = record {
      frames = g.around.frames;
      places = g.around.places;
      bases = ap length k.bases ∙ g.around.bases;
      bodies = λ l x is. let m = method_of l x is (order l g.top) in subst (IsRunBy im c (g.runner l)) (sym m.2) (g.around.bodies l m.0 m.1);
      nodes = λ l x is. let m = method_of l x is (order l g.top) in subst (λ q. (g.node l < node_count) × (spelled w (g.node l) ≡ tree.Method q)) (sym m.2) (g.around.nodes l m.0 m.1);
      fresh = λ l x y is at_place. fresh_kept l x y fresh is at_place (order l g.top);
      copy = k.copy ∙ g.around.copy ∙ ap (λ (bs : List ℕ). frame_address (slice_index bs g.top)) (sym k.bases);
      stack = stack_kept s.stack t.stack k.bases k.count g.around.stack;
      sized = k.sized;
    }

    frame_low : (l : ℕ) → l < g.top → level_of (f' ∷ rest) l ≡ level_of (f ∷ rest) l
    frame_low l low = level_low g.top rest ps rest_frames rest_places f' l low ∙ sym (level_low g.top rest ps rest_frames rest_places f l low)

    place_low : (l : ℕ) → l < g.top → places_at (p' ∷ ps) l ≡ places_at (p ∷ ps) l
    place_low l low = places_low g.top rest ps rest_frames rest_places p' l low ∙ sym (places_low g.top rest ps rest_frames rest_places p l low)

    headed_kept : Headed im c g.runner g.node (map_of c g.runner s.stack) (frames_with f' rest p' ps) g.head g.top
    headed_kept = record {
      first = g.headed.first;
      ends = λ x d is found. let m = method_of 0 x is (order 0 g.top) in g.headed.ends m.0 d m.1 (ap (λ (y : MethodTree). method_at im.cat.program y.method) (sym m.2) ∙ found);
      caller = g.headed.caller;
      back = λ l x low is awaits. g.headed.back l x low (sym (frame_low l low) ∙ is) awaits;
      made = λ l x above q d low is at_place is_above makes found.
          let m = method_of (suc l) above is_above (order (suc l) g.top) in
          g.headed.made l x m.0 q d low (sym (frame_low l low) ∙ is) (sym (place_low l low) ∙ at_place) m.1 makes (ap (λ (y : MethodTree). method_at im.cat.program y.method) (sym m.2) ∙ found);
      method = g.headed.method;
      result = λ l x above q d t low is at_place is_above awaits found gives.
          let m = method_of (suc l) above is_above (order (suc l) g.top) in
          let old = g.headed.result l x m.0 q d t low (sym (frame_low l low) ∙ is) (sym (place_low l low) ∙ at_place) m.1 awaits (ap (λ (y : MethodTree). method_at im.cat.program y.method) (sym m.2) ∙ found) gives in
          (old.0, subst (λ y. TakesResult im (map_of c g.runner s.stack) l (result_place x q) (put_type y t)) (sym m.2) old.1);
      instr = λ l x low is. g.headed.instr l x low (sym (frame_low l low) ∙ is);
      size = g.headed.size;
    }

    -- The form is done: code went on in the same frame, and left what the process's new frame holds. Both stand together at its
    -- instruction, where the pc is that of its code.
    pub form_done : (t : ThreadData) → Kept s t → p'.fresh ≡ p.fresh → (left : ℕ → ℕ → Option Value) →
        Stacked (map_of c g.runner s.stack) g.head (mem_of t.stack) (length s.stack.words) g.top left (fresh_at (frames_with f rest p ps)) →
        Leaves g.top rest ps rest_frames rest_places f' p' left → t.core.pc ≡ c.pc g.row f'.at → Together im w c (frames_with f' rest p' ps) t
    form_done t k fresh left st leaves pc = record {
      top = g.top;
      runner = g.runner;
      node = g.node;
      head = g.head;
      around = around_kept t k fresh;
      headed = subst (λ m. Headed im c g.runner g.node m (frames_with f' rest p' ps) g.head g.top) (sym (map_kept c g.runner s.stack t.stack k.bases)) headed_kept;
      stacked = subst (λ m. Stacked m g.head (mem_of t.stack) (length t.stack.words) g.top (value_at (frames_with f' rest p' ps)) (fresh_at (frames_with f' rest p' ps))) (sym (map_kept c g.runner s.stack t.stack k.bases))
          (subst (λ n. Stacked (map_of c g.runner s.stack) g.head (mem_of t.stack) n g.top (value_at (frames_with f' rest p' ps)) (fresh_at (frames_with f' rest p' ps))) (sym k.count)
          (refreshed (reframe st (value_at (frames_with f' rest p' ps)) leaves)));
      calm = λ x is. ap (λ (y : Frame). y.awaits) (sym (top_is x is)) ∙ calm;
      goes = k.doing ∙ g.goes;
      row = g.row;
      compiled = g.compiled;
      here = λ x is. pc ∙ ap (λ (y : Frame). c.pc g.row y.at) (top_is x is);
    }
      where
        top_is : (x : Frame) → level_of (f' ∷ rest) g.top ≡ Some x → f' ≡ x
        top_is x is = let e : Some f' ≡ Some x = sym (level_top g.top rest ps rest_frames rest_places f') ∙ is in cc e

        refreshed : Stacked (map_of c g.runner s.stack) g.head (mem_of t.stack) (length s.stack.words) g.top (value_at (frames_with f' rest p' ps)) (fresh_at (frames_with f rest p ps)) →
            Stacked (map_of c g.runner s.stack) g.head (mem_of t.stack) (length s.stack.words) g.top (value_at (frames_with f' rest p' ps)) (fresh_at (frames_with f' rest p' ps))
        refreshed a = record {
          plans = a.plans;
          next = a.next;
          ends = a.ends;
          heads = a.heads;
          held = a.held;
          built = λ l le. subst (HasBuilt (map_of c g.runner s.stack) (mem_of t.stack) l) (sym (fresh_same g.top rest ps rest_frames rest_places f f' p p' l le is_calm calm fresh)) (a.built l le);
          clear = a.clear;
        }

-- Turns --------------------------------------------------------------------

module _ (im : ImageData) (naming : Naming Mention TExpr) (gain : ThreadData → ℕ) (w : ℕ → ℕ) (c : Compiled) where
  -- the turns of an instruction that straight-line code does, a turn a code word
  pub straight : {s t : ThreadData} {is : List Instr} {fs : Frames} → Run s is t → 0 < length is → length is < 1024 → s.doing ≡ Runs → Stands im s.core.pc is → Together im w c fs t →
      Keeps (sides im naming gain w) (At im w c) true 1024 (Next fs) s
  straight stop some few runs st g = absurd (omega arith)
  straight (step {is = is} u does_it pc doing r) some few runs st g = first_run im naming gain w (At im w c) (step u does_it pc doing r) true 0 1024 runs st (simulation.arrives (running g)) (omega arith)

pub run_doing : {s t : ThreadData} {is : List Instr} → Run s is t → t.doing ≡ s.doing
run_doing stop = refl
run_doing (step u does_it pc doing r) = run_doing r ∙ doing
