-- The service RETURN from a called frame, and where process and thread stand together in the caller.
use Rattle.std.proofs.Common.{◌≡◌, ◌≢◌, ◌⊎◌, inl, inr, ℕ, zero, suc, ◌+◌, ◌-◌, ◌*◌, ◌^◌, ◌<◌, ◌≤◌, ◌==◌, nat_lt, true, false, cond, if◌then◌else◌, List, [], ◌∷◌, length, take, slice_index, Option, Some, None, option_map, refl, sym, ap, ◌∙◌, subst, arith, eq-eqb, length-take}
use Rattle.std.proofs.lemmas.Bool.Decides.{nat_tests}
use Rattle.type_tree.specs.declared.tree.TExpr.{TExpr}
use Rattle.il_model.specs.Found.{method_at}
use Rattle.il_model.specs.declared.layout.MethodTree.{MethodTree}
use Rattle.interaction.specs.Thread as thread
use Rattle.interaction.specs.declared.turn.What.TheVariants as noted
use Rattle.cil_meaning.specs.Values.{Value}
use Rattle.cil_meaning.specs.Naming.{put_type}
use Rattle.cil_meaning.specs.Frames.{Nothing, Frame, Places, places_at}
use Rattle.rgctx_words.specs.Regions.{node_count}
use Rattle.rgctx_words.specs.Frames.{frame_address, caller_word, back_word}
use Rattle.rgctx_words.specs.Stacks.{IsStack, mem_of, base_of, end_of}
use Rattle.rgctx_words.proofs.MemoryLemmas.{memory-take}
use Rattle.rgctx_words.proofs.StackLemmas.{memory-left, end-below, is_stack-cut}
use Rattle.crossings.specs.Returns.{current_word}
use Rattle.rv_machine.specs.Registers.{register_of}
use Rattle.rgctx_fill.specs.declared.doing.Doing.TheVariants.{Runs, Serves, Interprets}
use Rattle.rgctx_fill.specs.declared.spelled.NodeTree.TheVariants as tree
use Rattle.rgctx_fill.specs.Spelled.{spelled}
use Rattle.rgctx_fill.specs.ThreadStates.{ImageData, ThreadData}
use Rattle.rgctx_fill.specs.ThreadStates as move
use Rattle.rgctx_fill.specs.ThreadStates.{plain as plain_move}
use Rattle.rgctx_fill.specs.ThreadTurns.{move_of, want}
use Rattle.rgctx_fill.specs.Services.{serves}
use Rattle.rgctx_fill.specs.CallServices.{returns, returns_to, returned_to, level_at}
use Rattle.rgctx_fill.specs.ServiceReplies.{refuses}
use Rattle.rgctx_fill.specs.FrameMaps.{Stacked, HasBuilt, Agree}
use Rattle.rgctx_fill.specs.Constructed.{IsSized, Puts, PutsBuilt}
use Rattle.cil_flow.specs.FramePlans.{IsPlan}
use Rattle.cil_flow.specs.declared.plan.Plan.{Plan}
use Rattle.rgctx_fill.specs.Standing.{Compiled, ByRow, level_of, value_in, value_at, made_words, AreFresh, fresh_in, fresh_at, map_of, Headed, Around, Together, IsRunBy, TakesResult, result_place}
use Rattle.rgctx_fill.proofs.FrameLemmas.{Order, less, same, greater, order, reframe, built_none}
use Rattle.rgctx_fill.proofs.EnterLemmas.{remap}
use Rattle.rgctx_fill.proofs.MachineLemmas.{Stands, run_pc, register_same}
use Rattle.rv_codegen.specs.FrameWords.{moves_words}
use Rattle.rv_codegen.proofs.WalkLemmas.{run_walk}
use Rattle.rv_codegen.proofs.StraightLemmas.{Moved, moved, moves_short, by_if, sized_sets}
use Rattle.rv_codegen.proofs.FormLemmas.{run_doing, differ, frames_with, level_top, level_low, places_top, places_low, fresh_top, Leaves, stack_kept, rest_frames, rest_places}

-- The service ----------------------------------------------------------------

-- the level of a frame is found by its address
level_found : (bases : List ℕ) (l : ℕ) → l < length bases → ((k : ℕ) → k < l → slice_index bases k ≢ slice_index bases l) → level_at bases (frame_address (slice_index bases l)) ≡ Some l
level_found [] l low apart = absurd (omega arith)
level_found (x ∷ xs) zero low apart = ap (λ t. cond t (Some 0) (option_map suc (level_at xs (frame_address x)))) (eq-eqb (frame_address x) (frame_address x) refl)
level_found (x ∷ xs) (suc l) low apart =
    ap (λ t. cond t (Some 0) (option_map suc (level_at xs (frame_address (slice_index xs l))))) (differ (frame_address x) (frame_address (slice_index xs l)) (λ e. apart 0 (omega arith) (omega (arith, e))))
    ∙ ap (option_map suc) (level_found xs l (omega arith) (λ k lt. apart (suc k) (omega arith)))

module _ (im : ImageData) (u : ThreadData) (l : ℕ) (frames : length u.stack.bases ≡ suc (suc l)) (shape : IsStack u.stack) (caller : current_word u.stack caller_word ≡ frame_address (base_of u.stack l)) where
  -- RETURN from the frame above a level
  pub return_is : u.doing ≡ Serves → register_of u.core 17 ≡ 2 → want im u ≡ thread.Go noted.Action (returned_to u l)
  return_is serves_now seventeen =
      let found : level_at u.stack.bases (current_word u.stack caller_word) ≡ Some l =
      ap (level_at u.stack.bases) caller ∙ level_found u.stack.bases l (omega arith) (λ k lt e. let h = shape.rising k l lt (omega arith) in omega arith) in
      let inside : nat_lt (l + 1) (length u.stack.bases) ≡ true = grind (arith, nat_tests) in
      ap (λ d. plain_move (move_of im u d)) serves_now
      ∙ ap (λ n. plain_move (serves im u n)) seventeen
      ∙ ap (λ n. plain_move (returns u n)) frames
      ∙ ap (λ o. plain_move (returns_to u o)) found
      ∙ ap (λ t. plain_move (if t then move.Goes noted.Action (returned_to u l) else refuses u)) inside

  -- the thread behind it
  pub record Back (back : ℕ) : Type 0 where
    pub goes : (returned_to u l).doing ≡ Runs
    pub here : (returned_to u l).core.pc ≡ back
    pub copy : register_of (returned_to u l).core 8 ≡ frame_address (base_of u.stack l)
    pub sized : IsSized (returned_to u l)

  pub comes_back : IsSized u → (back : ℕ) → current_word u.stack back_word ≡ back → 0 < back → Back back
  comes_back z back is some =
      let test : (current_word u.stack back_word == 0) ≡ false = differ (current_word u.stack back_word) 0 (λ e. omega arith) in
      let set = sized_sets u 8 (current_word u.stack caller_word) refl z (omega arith) (z.word (base_of u.stack (length u.stack.bases - 1) + caller_word)) in
      record {
        goes = ap (λ t. if t then Interprets else Runs) test;
        here = ap (λ t. if t then u.core.pc else current_word u.stack back_word) test ∙ is;
        copy = register_same u.core 8 (current_word u.stack caller_word) refl (subst (λ n. 8 < n) (sym z.registers) (omega arith)) ∙ caller;
        sized = record {
          registers = set.registers;
          register = set.register;
          word = λ i. subst (λ (m : ℕ → ℕ). m i < 2 ^ 64) (sym (memory-left u.stack l)) (by_if (λ v. v < 2 ^ 64) (nat_lt i (end_of u.stack l)) (mem_of u.stack i) 0 (λ t. z.word i) (λ t. omega arith));
        };
      }

  -- the words below the frame that is left stay, and those from it on are 0
  pub kept_below : (i : ℕ) → i < base_of u.stack (suc l) → mem_of (returned_to u l).stack i ≡ mem_of u.stack i
  kept_below i low =
      let e : l + 1 ≡ suc l = omega arith in
      let end : end_of u.stack l ≡ base_of u.stack (suc l) = end-below u.stack l (omega arith) ∙ ap (base_of u.stack) e in
      let t : nat_lt i (end_of u.stack l) ≡ true = grind (arith, nat_tests) in
      ap (λ (m : ℕ → ℕ). m i) (memory-left u.stack l) ∙ ap (λ b. if b then mem_of u.stack i else 0) t

  pub gone_above : (i : ℕ) → base_of u.stack (suc l) ≤ i → mem_of (returned_to u l).stack i ≡ 0
  gone_above i high =
      let e : l + 1 ≡ suc l = omega arith in
      let end : end_of u.stack l ≡ base_of u.stack (suc l) = end-below u.stack l (omega arith) ∙ ap (base_of u.stack) e in
      let t : nat_lt i (end_of u.stack l) ≡ false = grind (arith, nat_tests) in
      ap (λ (m : ℕ → ℕ). m i) (memory-left u.stack l) ∙ ap (λ b. if b then mem_of u.stack i else 0) t

  pub left_count : length (returned_to u l).stack.words ≡ base_of u.stack (suc l)
  left_count =
      let e : l + 1 ≡ suc l = omega arith in
      let end : end_of u.stack l ≡ base_of u.stack (suc l) = end-below u.stack l (omega arith) ∙ ap (base_of u.stack) e in
      let h = shape.inside (suc l) (omega arith) in
      let k = length-take (end_of u.stack l) u.stack.words in
      omega arith

-- an item of the front of a list
index_take : (xs : List ℕ) (n i : ℕ) → i < n → slice_index (take n xs) i ≡ slice_index xs i
index_take xs n i low = let t : nat_lt i n ≡ true = grind (arith, nat_tests) in ap (λ (m : ℕ → ℕ). m i) (memory-take xs n) ∙ ap (λ b. if b then slice_index xs i else 0) t

-- In the caller --------------------------------------------------------------

module _ {im : ImageData} {w : ℕ → ℕ} {c : Compiled} {f f' : Frame} {rest : List Frame} {p p' : Places} {ps : List Places} {s : ThreadData} (g : Together im w c (frames_with f (f' ∷ rest) p (p' ∷ ps)) s) where
  -- the caller's level
  abbrev pub below : ℕ
  below = length rest

  pub top_is : g.top ≡ suc below
  top_is = sym (rest_frames g)

  pub places_below : length ps ≡ below
  places_below = let h = rest_places g in let e = top_is in omega arith

  pub caller_is : level_of (f ∷ f' ∷ rest) below ≡ Some f'
  caller_is = level_low g.top (f' ∷ rest) (p' ∷ ps) (rest_frames g) (rest_places g) f below (let e = top_is in omega arith) ∙ level_top below rest ps refl places_below f'

  pub caller_places : places_at (p ∷ p' ∷ ps) below ≡ Some p'
  caller_places = places_low g.top (f' ∷ rest) (p' ∷ ps) (rest_frames g) (rest_places g) p below (let e = top_is in omega arith) ∙ places_top below rest ps refl places_below p'

  module _ (r : Frame) (q : Places) (same_method : r.method ≡ f'.method) (calm : r.awaits ≡ Nothing) (none : q.fresh ≡ []) where
    frame_low : (k : ℕ) → k < below → level_of (r ∷ rest) k ≡ level_of (f ∷ f' ∷ rest) k
    frame_low k low =
        level_low below rest ps refl places_below r k low
        ∙ sym (level_low below rest ps refl places_below f' k low)
        ∙ sym (level_low g.top (f' ∷ rest) (p' ∷ ps) (rest_frames g) (rest_places g) f k (let e = top_is in omega arith))

    place_low : (k : ℕ) → k < below → places_at (q ∷ ps) k ≡ places_at (p ∷ p' ∷ ps) k
    place_low k low =
        places_low below rest ps refl places_below q k low
        ∙ sym (places_low below rest ps refl places_below p' k low)
        ∙ sym (places_low g.top (f' ∷ rest) (p' ∷ ps) (rest_frames g) (rest_places g) p k (let e = top_is in omega arith))

    top_frame : (x : Frame) → level_of (r ∷ rest) below ≡ Some x → r ≡ x
    top_frame x is = let e : Some r ≡ Some x = sym (level_top below rest ps refl places_below r) ∙ is in cc e

    past : (xs : List Frame) (n : ℕ) → length xs ≤ n → level_of xs n ≡ None
    past [] n le = refl
    past (y ∷ ys) n le = ap (λ t. cond t (Some y) (level_of ys n)) (differ n (length ys) (λ e. omega arith)) ∙ past ys n (omega arith)

    was : (k : ℕ) (x : Frame) → level_of (r ∷ rest) k ≡ Some x → Order k below → (y : Frame) × (level_of (f ∷ f' ∷ rest) k ≡ Some y) × (x.method ≡ y.method)
    was k x is (less h) = (x, sym (frame_low k h) ∙ is, refl)
    was k x is (same h) =
        let e = top_frame x (subst (λ n. level_of (r ∷ rest) n ≡ Some x) h is) in
        (f', subst (λ n. level_of (f ∷ f' ∷ rest) n ≡ Some f') (sym h) caller_is, ap (λ (z : Frame). z.method) (sym e) ∙ same_method)
    was k x is (greater h) = absurd (cc (is, past (r ∷ rest) k (omega arith)))

    are_fresh : (k : ℕ) (x : Frame) (y : Places) → level_of (r ∷ rest) k ≡ Some x → places_at (q ∷ ps) k ≡ Some y → Order k below → AreFresh x.awaits y.fresh
    are_fresh k x y is at_place (less h) = g.around.fresh k x y (sym (frame_low k h) ∙ is) (sym (place_low k h) ∙ at_place)
    are_fresh k x y is at_place (same h) =
        let e = top_frame x (subst (λ n. level_of (r ∷ rest) n ≡ Some x) h is) in
        let d : Some q ≡ Some y = sym (places_top below rest ps refl places_below q) ∙ subst (λ n. places_at (q ∷ ps) n ≡ Some y) h at_place in
        let d' : q ≡ y = cc d in
        subst (λ (z : Frame). AreFresh z.awaits y.fresh) e (subst (λ a. AreFresh a y.fresh) (sym calm) (subst (λ (z : Places). z.fresh ≡ []) d' none))
    are_fresh k x y is at_place (greater h) = absurd (cc (is, past (r ∷ rest) k (omega arith)))

    fresh_same : (k : ℕ) → k < below → fresh_at (frames_with r rest q ps) k ≡ fresh_at (frames_with f (f' ∷ rest) p (p' ∷ ps)) k
    fresh_same k h = ap (λ o. fresh_in o (places_at (q ∷ ps) k)) (frame_low k h) ∙ ap (fresh_in (level_of (f ∷ f' ∷ rest) k)) (place_low k h)

    module _ (row : ℕ) (compiled : g.runner below ≡ ByRow row) (t : ThreadData) (goes : t.doing ≡ Runs) (here : t.core.pc ≡ c.pc row r.at) (copy : register_of t.core 8 ≡ frame_address (base_of s.stack below))
        (bases : t.stack.bases ≡ take (below + 1) s.stack.bases) (count : length t.stack.words ≡ base_of s.stack (suc below)) (sized : IsSized t) where
      base_same : (k : ℕ) → k ≤ below → base_of t.stack k ≡ base_of s.stack k
      base_same k le = ap (λ (bs : List ℕ). slice_index bs k) bases ∙ index_take s.stack.bases (below + 1) k (omega arith)

      agree : Agree (map_of c g.runner s.stack) (map_of c g.runner t.stack) below
      agree = record { base = base_same; plan = λ k le. refl }

      around : Around im w c g.runner g.node (frames_with r rest q ps) t below
      around =
          let e = top_is in
          let b = g.around.bases in
          record {
            frames = refl;
            places = ap suc places_below;
            bases = ap length bases ∙ (let k = length-take (below + 1) s.stack.bases in omega arith);
            bodies = λ k x is. let m = was k x is (order k below) in subst (IsRunBy im c (g.runner k)) (sym m.2) (g.around.bodies k m.0 m.1);
            nodes = λ k x is. let m = was k x is (order k below) in subst (λ y. (g.node k < node_count) × (spelled w (g.node k) ≡ tree.Method y)) (sym m.2) (g.around.nodes k m.0 m.1);
            fresh = λ k x y is at_place. are_fresh k x y is at_place (order k below);
            copy = copy ∙ ap frame_address (sym (base_same below (omega arith)));
            stack = stack_is;
            sized = sized;
          }
        where
          stack_is : IsStack t.stack
          stack_is =
              let e = top_is in
              let b = g.around.bases in
              let n : below + 1 ≡ suc below = omega arith in
              let inside = g.around.stack.inside (suc below) (omega arith) in
              let k = length-take (base_of s.stack (below + 1)) s.stack.words in
              let same_base : base_of s.stack (below + 1) ≡ base_of s.stack (suc below) = ap (base_of s.stack) n in
              stack_kept (record { words = take (base_of s.stack (below + 1)) s.stack.words; bases = take (below + 1) s.stack.bases }) t.stack bases (omega arith) (is_stack-cut s.stack below g.around.stack (omega arith))

      headed : Headed im c g.runner g.node (map_of c g.runner t.stack) (frames_with r rest q ps) g.head below
      headed =
          let e = top_is in
          record {
            first = g.headed.first;
            ends = λ x d is found. let m = was 0 x is (order 0 below) in g.headed.ends m.0 d m.1 (ap (λ (y : MethodTree). method_at im.cat.program y.method) (sym m.2) ∙ found);
            caller = λ k low. g.headed.caller k (omega arith) ∙ ap frame_address (sym (base_same k (omega arith)));
            back = λ k x low is awaits. g.headed.back k x (omega arith) (sym (frame_low k low) ∙ is) awaits;
            made = λ k x above y d low is at_place is_above makes found.
                let m = was (suc k) above is_above (order (suc k) below) in
                g.headed.made k x m.0 y d (omega arith) (sym (frame_low k low) ∙ is) (sym (place_low k low) ∙ at_place) m.1 makes (ap (λ (z : MethodTree). method_at im.cat.program z.method) (sym m.2) ∙ found);
            method = λ k le. g.headed.method k (omega arith);
            result = λ k x above y d ty low is at_place is_above awaits found has.
                let m = was (suc k) above is_above (order (suc k) below) in
                let old = g.headed.result k x m.0 y d ty (omega arith) (sym (frame_low k low) ∙ is) (sym (place_low k low) ∙ at_place) m.1 awaits (ap (λ (z : MethodTree). method_at im.cat.program z.method) (sym m.2) ∙ found) has in (
                  old.0 ∙ ap (λ b. frame_address (b + slice_index ((map_of c g.runner s.stack).plan k).offsets (result_place x y))) (sym (base_same k (omega arith))),
                  takes_over k (result_place x y) (put_type above.method ty) (subst (λ z. TakesResult im (map_of c g.runner s.stack) k (result_place x y) (put_type z ty)) (sym m.2) old.1),
                );
            instr = λ k x low is. g.headed.instr k x (omega arith) (sym (frame_low k low) ∙ is);
            size = λ k le. g.headed.size k (omega arith);
          }
        where
          takes_over : (k n : ℕ) (ty : TExpr) → TakesResult im (map_of c g.runner s.stack) k n ty → TakesResult im (map_of c g.runner t.stack) k n ty
          takes_over k n ty x = record { inside = x.inside; fits = x.fits }

      -- The thread goes on in the caller, whose frame holds these values. Both stand together there.
      pub stands_below : (left : ℕ → ℕ → Option Value) → Stacked (map_of c g.runner s.stack) g.head (mem_of t.stack) (base_of s.stack (suc below)) below left (fresh_at (frames_with f (f' ∷ rest) p (p' ∷ ps))) →
          Leaves below rest ps refl places_below r q left → Together im w c (frames_with r rest q ps) t
      stands_below left st leaves = record {
        top = below;
        runner = g.runner;
        node = g.node;
        head = g.head;
        around = around;
        headed = headed;
        stacked = remap agree (subst (λ n. Stacked (map_of c g.runner s.stack) g.head (mem_of t.stack) n below (value_at (frames_with r rest q ps)) (fresh_at (frames_with r rest q ps))) (sym count) (refreshed (reframe st (value_at (frames_with r rest q ps)) leaves)));
        calm = λ x is. ap (λ (y : Frame). y.awaits) (sym (top_frame x is)) ∙ calm;
        goes = goes;
        row = row;
        compiled = compiled;
        here = λ x is. here ∙ ap (λ (y : Frame). c.pc row y.at) (top_frame x is);
      }
        where
          built_now : (k : ℕ) → HasBuilt (map_of c g.runner s.stack) (mem_of t.stack) k (fresh_at (frames_with f (f' ∷ rest) p (p' ∷ ps)) k) → Order k below → k ≤ below → HasBuilt (map_of c g.runner s.stack) (mem_of t.stack) k (fresh_at (frames_with r rest q ps) k)
          built_now k old (less h) le = subst (HasBuilt (map_of c g.runner s.stack) (mem_of t.stack) k) (sym (fresh_same k h)) old
          built_now k old (same h) le = built_none k (fresh_at (frames_with r rest q ps) k) (ap (fresh_at (frames_with r rest q ps)) h ∙ fresh_top below rest ps refl places_below r q ∙ ap (λ a. made_words a q.fresh) calm ∙ none)
          built_now k old (greater h) le = absurd (omega arith)

          refreshed : Stacked (map_of c g.runner s.stack) g.head (mem_of t.stack) (base_of s.stack (suc below)) below (value_at (frames_with r rest q ps)) (fresh_at (frames_with f (f' ∷ rest) p (p' ∷ ps))) →
              Stacked (map_of c g.runner s.stack) g.head (mem_of t.stack) (base_of s.stack (suc below)) below (value_at (frames_with r rest q ps)) (fresh_at (frames_with r rest q ps))
          refreshed a = record {
            plans = a.plans;
            next = a.next;
            ends = a.ends;
            heads = a.heads;
            held = a.held;
            built = λ k le. built_now k (a.built k le) (order k below) le;
            clear = a.clear;
          }

  -- the values of the frames below, without those of the current one
  past_top : (xs : List Frame) (n : ℕ) → length xs ≤ n → level_of xs n ≡ None
  past_top [] n le = refl
  past_top (y ∷ ys) n le = ap (λ t. cond t (Some y) (level_of ys n)) (differ n (length ys) (λ e. omega arith)) ∙ past_top ys n (omega arith)

  pub values_below : (l n : ℕ) → l ≤ g.top → (value_at (frames_with f' rest p' ps) l n ≡ value_at (frames_with f (f' ∷ rest) p (p' ∷ ps)) l n) ⊎ (value_at (frames_with f' rest p' ps) l n ≡ None)
  values_below l n le = by_order (order l g.top)
    where
      by_order : Order l g.top → (value_at (frames_with f' rest p' ps) l n ≡ value_at (frames_with f (f' ∷ rest) p (p' ∷ ps)) l n) ⊎ (value_at (frames_with f' rest p' ps) l n ≡ None)
      by_order (less h) = inl
          (ap (λ o. value_in o (places_at (p' ∷ ps) l) n) (sym (level_low g.top (f' ∷ rest) (p' ∷ ps) (rest_frames g) (rest_places g) f l h))
          ∙ ap (λ o. value_in (level_of (f ∷ f' ∷ rest) l) o n) (sym (places_low g.top (f' ∷ rest) (p' ∷ ps) (rest_frames g) (rest_places g) p l h)))
      by_order (same h) = inr (ap (λ o. value_in o (places_at (p' ∷ ps) l) n) (past_top (f' ∷ rest) l (let e = rest_frames g in omega arith)))
      by_order (greater h) = absurd (omega arith)

-- The end of a newobj --------------------------------------------------------

-- Words of a newobj's end that move what was made from the scratch words to the place of the result do what a constructor's caller is owed.
pub moves_put : (im : ImageData) (k : Plan) (place many from : ℕ) → IsPlan k → place < length k.offsets → many ≤ slice_index k.widths place → from + 24 * many < 2 ^ 40 → Stands im from (moves_words many k.scratch (slice_index k.offsets place)) →
    PutsBuilt im k place many from (from + 4 * length (moves_words many k.scratch (slice_index k.offsets place)))
moves_put im k place many from plan inside fits low st base s r =
    let narrow = plan.narrow place inside in
    let below = plan.below place inside in
    let room = plan.room in
    let all = plan.all in
    let short = plan.short in
    let within = r.inside in
    let here = r.here in
    build (moved (record { copy = r.copy; small = r.few; sized = r.sized }) many k.scratch (slice_index k.offsets place) (omega arith) (omega arith) (omega arith) (omega arith) (inr (omega arith)) (omega arith))
  where
    build : Moved s (moves_words many k.scratch (slice_index k.offsets place)) (base + k.scratch) (base + slice_index k.offsets place) many →
        Puts im k base place many (from + 4 * length (moves_words many k.scratch (slice_index k.offsets place))) s
    build m =
        let narrow = plan.narrow place inside in
        let few = moves_short many k.scratch (slice_index k.offsets place) in
        record {
          t = m.t;
          turns = length (moves_words many k.scratch (slice_index k.offsets place));
          quick = omega arith;
          walk = run_walk im m.run r.goes (subst (λ n. Stands im n (moves_words many k.scratch (slice_index k.offsets place))) (sym r.here) st);
          goes = run_doing m.run ∙ r.goes;
          here = run_pc m.run ∙ ap (λ n. n + 4 * length (moves_words many k.scratch (slice_index k.offsets place))) r.here;
          copy = m.others 8 (λ e. omega (arith, e)) (λ e. omega (arith, e));
          bases = m.bases;
          count = m.count;
          only = λ i o. m.only i (wider i o);
          words = m.words;
          sized = m.sized;
        }
      where
        wider : (i : ℕ) → (i < base + slice_index k.offsets place) ⊎ (base + slice_index k.offsets place + slice_index k.widths place ≤ i) → (i < base + slice_index k.offsets place) ⊎ (base + slice_index k.offsets place + many ≤ i)
        wider i (inl h) = inl h
        wider i (inr h) = inr (omega arith)
