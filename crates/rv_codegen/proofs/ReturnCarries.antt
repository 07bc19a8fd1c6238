-- The return from a called frame, and every return: the code keeps to the instruction.
use Rattle.std.proofs.Common.{◌≡◌, ◌≢◌, ◌⊎◌, inl, inr, ℕ, zero, suc, ◌+◌, ◌-◌, ◌%◌, ◌^◌, ◌<◌, ◌≤◌, ◌==◌, ◌&&◌, min, Bool, true, false, if◌then◌else◌, List, [], ◌∷◌, ◌++◌, length, map, take, reverse, slice_get, slice_index, Option, Some, None, refl, sym, ap, ◌∙◌, subst, arith, eqb-true}
use Rattle.std.proofs.lemmas.List.{append_assoc, length-append, length-map}
use Rattle.type_tree.specs.declared.tree.TExpr.{TExpr}
use Rattle.il_model.specs.declared.op.Op.{Op}
use Rattle.il_model.specs.declared.program.Program.{Program}
use Rattle.il_model.specs.Admission.{most_words}
use Rattle.il_model.specs.Found.{method_at}
use Rattle.il_model.specs.Layouts.{words_of}
use Rattle.interaction.specs.Process.{Naming, Next}
use Rattle.interaction.specs.Simulation.{Sides, Keeps, Onward}
use Rattle.interaction.specs.Simulation as simulation
use Rattle.interaction.proofs.Compose.{more}
use Rattle.store_object.specs.declared.request.Request.{Request}
use Rattle.store_object.specs.declared.reply.Reply.{Reply}
use Rattle.cil_flow.specs.declared.plan.Plan.{Plan}
use Rattle.cil_flow.specs.declared.state.StackType.{StackType}
use Rattle.cil_meaning.specs.Values.{Kind, Reference, Struct, Value, Plain, Managed, same_kind}
use Rattle.cil_meaning.specs.Naming.{Mention, put_type}
use Rattle.cil_meaning.specs.Types.{is_bool, kept, kind_of}
use Rattle.cil_meaning.specs.Frames.{Awaited, Nothing, Result, Object, Built, Frame, Places, Frames, places_at, with_fresh}
use Rattle.cil_meaning.specs.Replies.{Left}
use Rattle.cil_meaning.specs.Site.{Site, moved, op_at}
use Rattle.cil_meaning.specs.Groups.{OnCalls, Returns}
use Rattle.cil_meaning.specs.Pieces.{keeps}
use Rattle.cil_meaning.specs.Calls.{returns_to, returns, returns_with}
use Rattle.cil_meaning.specs.Meaning.{does}
use Rattle.rgctx_words.specs.Memory.{put, Only}
use Rattle.rgctx_words.specs.Frames.{frame_address, caller_word, back_word, result_word}
use Rattle.rgctx_words.specs.Stacks.{StackWords, IsStack, mem_of, base_of}
use Rattle.crossings.specs.Returns.{current_word}
use Rattle.rv_isa.specs.declared.instr.Instr.{Instr}
use Rattle.rv_isa.specs.declared.instr.Instr.TheVariants as rv
use Rattle.rv_machine.specs.Registers.{register_of, next_pc, at_pc}
use Rattle.rgctx_fill.specs.declared.doing.Doing.TheVariants.{Serves}
use Rattle.rgctx_fill.specs.ThreadStates.{ImageData, ThreadData, with_core, now_doing}
use Rattle.rgctx_fill.specs.CallServices.{returned_to}
use Rattle.rgctx_fill.specs.FrameMaps.{place_count, width_at, spot, Lies, HasBuilt, Stacked, with_value}
use Rattle.rgctx_fill.specs.Constructed.{IsSized, RunsIn, Puts}
use Rattle.rgctx_fill.specs.Standing.{Compiled, ByRow, ByInterpreter, Runner, IsRunBy, plan_of, GoesOnAt, FinishesNew, IsWithinNew, IsMaking, AreFresh, made_words, level_of, value_at, fresh_in, fresh_at, result_place, Together, At, running, sides}
use Rattle.rgctx_fill.proofs.FrameLemmas.{bounds, below as ends_before, inside, write, reframe, leave}
use Rattle.rgctx_fill.proofs.MachineLemmas.{HasInstr, turn_is, Stands, stands_front, stands_back, Run, stop, step, run_then, run_pc, first_run}
use Rattle.rv_codegen.specs.FrameWords.{loads_word}
use Rattle.rv_codegen.specs.Carried.{StandFrom, code_address, IsBodyOf, StandsAt, KnowsResult}
use Rattle.rv_codegen.specs.PlainItems.{BodyData, leave_instrs, give_words, return_instrs, plain, stack_of, offset_of, from_top}
use Rattle.rv_codegen.proofs.StraightLemmas.{Set, set_by, loads, loads_short, in_frame}
use Rattle.rv_codegen.proofs.ItemLemmas.{AreRows, rows_both, loads_rows, plain_items_stand}
use Rattle.rv_codegen.proofs.FormLemmas.{frames_with, Leaves, level_top, rest_frames, rest_places, leaves_all, leaves_value, stack_kept, run_doing}
use Rattle.rv_codegen.proofs.StackLemmas.{replaced}
use Rattle.rv_codegen.proofs.PlaceLemmas.{now, places as place_count_here, offset, room, base, map as map_here, in_current, spot_is, lies_there, fits_there}
use Rattle.rv_codegen.proofs.GiveLemmas.{keep, Gave, gives, gives_rows, gives_short}
use Rattle.rv_codegen.proofs.WalkLemmas.{walk_keeps}
use Rattle.rv_codegen.proofs.ReturnLemmas.{return_is, Back, comes_back, kept_below, gone_above, left_count, top_is, places_below, caller_is, caller_places, values_below, stands_below}
use Rattle.rv_codegen.proofs.WriteCarries.{both_true}
use Rattle.rv_codegen.proofs.FinishCarries.{finishes_kept}
use Rattle.rv_codegen.proofs.NumberCarries.{pops_kept, if_kept, plan_here, depth_is, first_held, inside_plan, stands_there}
use Rattle.rv_codegen.proofs.CarryLemmas.{site, Kept_to, found, far_below, pc_is}

-- what a place keeps of words, word by word
kept_long : (t : TExpr) (ws : List ℕ) → length (kept t ws) ≡ length ws
kept_long t ws = by_bool (is_bool t)
  where
    by_bool : (k : Bool) → length (if k then map (λ x. x % 256) ws else ws) ≡ length ws
    by_bool true = length-map ws (λ x. x % 256)
    by_bool false = refl

masked_word : (ws : List ℕ) (j : ℕ) → j < length ws → slice_index (map (λ x. x % 256) ws) j ≡ slice_index ws j % 256
masked_word [] j low = absurd (omega arith)
masked_word (x ∷ ws) zero low = refl
masked_word (x ∷ ws) (suc j) low = masked_word ws j (omega arith)

kept_word : (t : TExpr) (ws : List ℕ) (j : ℕ) → j < length ws → slice_index (kept t ws) j ≡ keep (is_bool t) (slice_index ws j)
kept_word t ws j low = by_bool (is_bool t)
  where
    by_bool : (k : Bool) → slice_index (if k then map (λ x. x % 256) ws else ws) j ≡ keep k (slice_index ws j)
    by_bool true = masked_word ws j low
    by_bool false = refl

module _ (b : BodyData) (at : ℕ) (op : Op) (im : ImageData) (c : Compiled) (row from : ℕ) (places : List (Option ℕ)) (body : IsBodyOf b im c row places) (is_op : op_at b.method at ≡ Some op)
    (naming : Naming Mention TExpr) (gain : ThreadData → ℕ) (w : ℕ → ℕ) (f f' : Frame) (rest : List Frame) (q p' : Places) (ps : List Places) (s : ThreadData)
    (here : StandsAt b at op im c row from w f (f' ∷ rest) q (p' ∷ ps) s) where
  abbrev K : Left → Type 0
  K left = Kept_to b at op im c row from places body is_op naming gain w f (f' ∷ rest) q (p' ∷ ps) s here left

  abbrev g : Together im w c (frames_with f (f' ∷ rest) q (p' ∷ ps)) s
  g = here.together

  -- the caller's level
  abbrev l : ℕ
  l = length rest

  abbrev ts_here : List StackType
  ts_here = stack_of (slice_get b.states at)

  abbrev Site_here : Site
  Site_here = site b at op im c row from places body is_op naming gain w f (f' ∷ rest) q (p' ∷ ps) s here

  abbrev Stands_here : List Instr → Type 0
  Stands_here is = StandFrom im places from (plain is)

  abbrev Begins_here : Type 0
  Begins_here = c.pc row at ≡ code_address from

  abbrev on : Sides Mention TExpr Request Reply Frames ThreadData
  on = sides im naming gain w

  -- what the frames below hold
  abbrev old : ℕ → ℕ → Option Value
  old = value_at (frames_with f' rest p' ps)

  abbrev Holding : (ℕ → ℕ) → (end top : ℕ) → (ℕ → ℕ → Option Value) → Type 0
  Holding mem end top left = Stacked (map_here g) g.head mem end top left (fresh_at (frames_with f (f' ∷ rest) q (p' ∷ ps)))

  held_below : Holding (mem_of s.stack) (length s.stack.words) g.top old
  held_below = reframe g.stacked old (values_below g)

  -- The code before ECALL has run.
  record Ready (front : List Instr) (left : ℕ → ℕ → Option Value) : Type 0 where
    t : ThreadData
    run : Run s front t
    seventeen : register_of t.core 17 ≡ 2
    bases : t.stack.bases ≡ s.stack.bases
    count : length t.stack.words ≡ length s.stack.words
    sized : IsSized t
    holds : Holding (mem_of t.stack) (length s.stack.words) g.top left

  -- after ECALL, and after RETURN
  abbrev called : ThreadData → ThreadData
  called t = now_doing (with_core t (at_pc t.core (next_pc t.core))) Serves

  abbrev after : ThreadData → ThreadData
  after t = returned_to (called t) l

  module _ (front : List Instr) (left : ℕ → ℕ → Option Value) (r : Ready front left) where
    frame_count : length r.t.stack.bases ≡ suc (suc l)
    frame_count = ap length r.bases ∙ g.around.bases ∙ ap suc (top_is g)

    shape : IsStack r.t.stack
    shape = stack_kept s.stack r.t.stack r.bases r.count g.around.stack

    base_same : (k : ℕ) → base_of r.t.stack k ≡ base_of s.stack k
    base_same k = ap (λ (bs : List ℕ). slice_index bs k) r.bases

    -- a header word of the current frame
    word_is : (k : ℕ) → k < 6 → k ≢ 4 → current_word r.t.stack k ≡ g.head (suc l) k
    word_is k few ne =
        let n : length r.t.stack.bases - 1 ≡ g.top = let a = frame_count in let e = top_is g in omega arith in
        ap (λ m. mem_of r.t.stack (base_of r.t.stack m + k)) n
        ∙ ap (λ m. mem_of r.t.stack (m + k)) (base_same g.top)
        ∙ r.holds.heads g.top k (omega arith) (record { word = few; instr = λ e. ne })
        ∙ ap (λ m. g.head m k) (top_is g)

    caller_address : current_word r.t.stack caller_word ≡ frame_address (base_of r.t.stack l)
    caller_address = word_is 0 (omega arith) (λ e. omega (arith, e)) ∙ g.headed.caller l (let e = top_is g in omega arith) ∙ ap frame_address (sym (base_same l))

    back_is : current_word r.t.stack back_word ≡ g.head (suc l) back_word
    back_is = word_is 1 (omega arith) (λ e. omega (arith, e))

    -- the turns of ECALL and RETURN
    leave_turns : HasInstr im r.t.core.pc rv.Ecall → (m : ℕ) (next : Left) → Keeps on (At im w c) false m next (after r.t) → Keeps on (At im w c) false (suc (suc m)) next r.t
    leave_turns h m next k =
        simulation.turns (suc m) (omega arith) (subst (Onward on (At im w c) (suc m) next) (sym (turn_is im r.t rv.Ecall h (run_doing r.run ∙ g.goes))) (simulation.goes
        (simulation.turns m (omega arith) (subst (Onward on (At im w c) m next) (sym (return_is im (called r.t) l frame_count shape caller_address refl r.seventeen)) (simulation.goes k)))))

    came : IsSized (called r.t)
    came = record { registers = r.sized.registers; register = r.sized.register; word = r.sized.word }

    back : (n : ℕ) → g.head (suc l) back_word ≡ n → 0 < n → Back im (called r.t) l frame_count shape caller_address n
    back n is some = comes_back im (called r.t) l frame_count shape caller_address came n (back_is ∙ is) some

    -- the frames without the current one
    left_holds : Holding (mem_of (after r.t).stack) (base_of s.stack (suc l)) l left
    left_holds =
        leave (subst (λ n. Holding (mem_of r.t.stack) (length s.stack.words) n left) (top_is g) r.holds)
        (λ i low. kept_below im (called r.t) l frame_count shape caller_address i (subst (λ n. i < n) (sym (base_same (suc l))) low))
        (λ i high. gone_above im (called r.t) l frame_count shape caller_address i (subst (λ n. n ≤ i) (sym (base_same (suc l))) high))

    left_words : length (after r.t).stack.words ≡ base_of s.stack (suc l)
    left_words = left_count im (called r.t) l frame_count shape caller_address ∙ base_same (suc l)

    left_bases : (after r.t).stack.bases ≡ take (l + 1) s.stack.bases
    left_bases = ap (take (l + 1)) r.bases

    left_copy : (n : ℕ) → Back im (called r.t) l frame_count shape caller_address n → register_of (after r.t).core 8 ≡ frame_address (base_of s.stack l)
    left_copy n k = k.copy ∙ ap frame_address (base_same l)

    below_top : l < g.top
    below_top = let e = top_is g in omega arith

    -- Where the caller awaits a result, both stand together behind RETURN.
    result_arrives : f'.awaits ≡ Result → (row' : ℕ) → g.runner l ≡ ByRow row' → HasInstr im r.t.core.pc rv.Ecall → (stack : List Value) → Leaves l rest ps refl (places_below g) (moved f' (suc f'.at) stack) p' left →
        Keeps on (At im w c) false 2 (Next (frames_with (moved f' (suc f'.at) stack) rest p' ps)) r.t
    result_arrives awaits row' is h stack leaves =
        let goes_at : GoesOnAt c (ByRow row') (suc f'.at) (g.head (suc l) back_word) = subst (λ x. GoesOnAt c x (suc f'.at) (g.head (suc l) back_word)) is (g.headed.back l f' below_top (caller_is g) awaits) in
        let none : p'.fresh ≡ [] = subst (λ a. AreFresh a p'.fresh) awaits (g.around.fresh l f' p' (caller_is g) (caller_places g)) in
        let k = back (c.pc row' (suc f'.at)) goes_at.0 (subst (λ n. 0 < n) goes_at.0 goes_at.1) in
        leave_turns h 0 (Next (frames_with (moved f' (suc f'.at) stack) rest p' ps))
        (simulation.arrives (running (stands_below g (moved f' (suc f'.at) stack) p' refl refl none row' is (after r.t) k.goes k.here (left_copy (c.pc row' (suc f'.at)) k) left_bases left_words k.sized left left_holds leaves)))

  -- Where the caller awaits an object or a struct, the end of its newobj puts it into the place of the result.
  module _ (front : List Instr) (r : Ready front old) (kind : Kind) (words : List ℕ) (made : words ≡ made_words f'.awaits p'.fresh) (q' : Places) (same_held : q'.held ≡ p'.held) (none : q'.fresh ≡ []) (row' : ℕ) (is : g.runner l ≡ ByRow row')
      (within : IsWithinNew im (c.plan row') (c.pc row' (suc f'.at)) (result_place f' p') (length words) (g.head (suc l) back_word)) where
    abbrev place : ℕ
    place = result_place f' p'

    behind : Back im (called r.t) l (frame_count front old r) (shape front old r) (caller_address front old r) (g.head (suc l) back_word)
    behind = back front old r (g.head (suc l) back_word) refl within.code

    plan_below : (map_here g).plan l ≡ c.plan row'
    plan_below = ap (plan_of c) is

    runs_in : RunsIn (c.plan row') (base_of s.stack l) (g.head (suc l) back_word) (after r.t)
    runs_in =
        let e = top_is g in
        let n = left_words front old r in
        let ends = (left_holds front old r).ends in
        let size = ap (λ (k : Plan). k.frame) plan_below in
        let b = g.around.bases in
        let few = g.around.stack.few in
        let small = g.around.stack.small in
        let last = g.around.stack.inside (suc l) (omega arith) in
        record {
          goes = behind.goes;
          here = behind.here;
          copy = left_copy front old r (g.head (suc l) back_word) behind;
          inside = omega arith;
          few = omega arith;
          sized = behind.sized;
        }

    putting : Puts im (c.plan row') (base_of s.stack l) place (length words) (c.pc row' (suc f'.at)) (after r.t)
    putting = within.puts (base_of s.stack l) (after r.t) runs_in

    module _ (x : Puts im (c.plan row') (base_of s.stack l) place (length words) (c.pc row' (suc f'.at)) (after r.t)) where
      built : HasBuilt (map_here g) (mem_of (after r.t).stack) l words
      built =
          subst (HasBuilt (map_here g) (mem_of (after r.t).stack) l)
          (ap (λ o. fresh_in o (places_at (q ∷ p' ∷ ps) l)) (caller_is g) ∙ ap (fresh_in (Some f')) (caller_places g) ∙ sym made)
          ((left_holds front old r).built l (omega arith))

      lies : Lies (map_here g) (mem_of x.t.stack) l place (Plain kind words)
      lies = record {
        fits = subst (λ (k : Plan). length words ≤ slice_index k.widths place) (sym plan_below) within.fits;
        leads = tt;
        words = λ j lt.
            subst (λ (k : Plan). mem_of x.t.stack (base_of s.stack l + slice_index k.offsets place + j) ≡ mem_of (after r.t).stack (base_of s.stack l + k.scratch + j)) (sym plan_below) (x.words j lt)
            ∙ built.lie j lt;
      }

      holds_new : Holding (mem_of x.t.stack) (base_of s.stack (suc l)) l (with_value l place (Some (Plain kind words)) old)
      holds_new =
          write (left_holds front old r) l place (Some (Plain kind words)) (omega arith)
          (subst (λ (k : Plan). place < length k.offsets) (sym plan_below) within.inside)
          (subst (λ (k : Plan). Only (mem_of (after r.t).stack) (mem_of x.t.stack) (base_of s.stack l + slice_index k.offsets place) (slice_index k.widths place)) (sym plan_below) x.only)
          lies

      new_stands : Together im w c (frames_with (moved f' (suc f'.at) (Plain kind words ∷ f'.stack)) rest q' ps) x.t
      new_stands =
          stands_below g (moved f' (suc f'.at) (Plain kind words ∷ f'.stack)) q' refl refl none row' is x.t x.goes x.here (x.copy ∙ left_copy front old r (g.head (suc l) back_word) behind)
          (x.bases ∙ left_bases front old r) (x.count ∙ left_words front old r) x.sized (with_value l place (Some (Plain kind words)) old) holds_new
          (leaves_value l rest ps refl (places_below g) f' (moved f' (suc f'.at) (Plain kind words ∷ f'.stack)) p' q' place (Plain kind words)
          (λ n. subst (λ (vs : List Value). (slice_get (vs ++ reverse (Plain kind words ∷ f'.stack)) n ≡ put place (Some (Plain kind words)) (slice_get (p'.held ++ reverse f'.stack)) n) ⊎ (slice_get (vs ++ reverse (Plain kind words ∷ f'.stack)) n ≡ None)) (sym same_held)
          (replaced p'.held [] f'.stack (Plain kind words) n)))

      new_keeps : HasInstr im r.t.core.pc rv.Ecall → Keeps on (At im w c) false 300 (Next (frames_with (moved f' (suc f'.at) (Plain kind words ∷ f'.stack)) rest q' ps)) r.t
      new_keeps h =
          more 300 (let quick = x.quick in omega arith)
          (leave_turns front old r h (0 + x.turns) (Next (frames_with (moved f' (suc f'.at) (Plain kind words ∷ f'.stack)) rest q' ps))
          (walk_keeps im naming gain w (At im w c) x.walk 0 (simulation.arrives (running new_stands))))

    new_arrives : HasInstr im r.t.core.pc rv.Ecall → Keeps on (At im w c) false 300 (Next (frames_with (moved f' (suc f'.at) (Plain kind words ∷ f'.stack)) rest q' ps)) r.t
    new_arrives h = new_keeps putting h

  -- Without a result -------------------------------------------------------------

  abbrev plain_front : List Instr
  plain_front = rv.Addi 17 0 2 ∷ []

  leave_rows : AreRows (leave_instrs b at ts_here)
  leave_rows = ((omega arith, omega arith, omega arith), (tt, tt))

  ready_plain : s.core.pc < 2 ^ 40 → Ready plain_front old
  ready_plain low = with_number (set_by s g.around.sized (omega arith) (rv.Addi 17 0 2) 17 2 refl refl (omega arith) (omega arith))
    where
      with_number : Set s plain_front 17 2 → Ready plain_front old
      with_number x = record {
        t = x.t;
        run = x.run;
        seventeen = x.value;
        bases = ap (λ (k : StackWords). k.bases) x.stack;
        count = ap (λ (k : StackWords). length k.words) x.stack;
        sized = x.sized;
        holds = subst (λ (k : StackWords). Holding (mem_of k) (length s.stack.words) g.top old) (sym x.stack) held_below;
      }

  -- code that comes to ECALL, and goes on from there
  run_all : {left : ℕ → ℕ → Option Value} (front : List Instr) (r : Ready front left) → 0 < length front → length front ≤ 100 → Stands im s.core.pc (front ++ rv.Ecall ∷ []) → (next : Left) →
      (HasInstr im r.t.core.pc rv.Ecall → Keeps on (At im w c) false 300 next r.t) → K next
  run_all front r some few all next k =
      run_some r.run some few (stands_front im s.core.pc front (rv.Ecall ∷ []) all)
      (k (subst (λ n. HasInstr im n rv.Ecall) (sym (run_pc r.run)) (stands_back im s.core.pc front (rv.Ecall ∷ []) all).0))
    where
      run_some : {is : List Instr} {t : ThreadData} → Run s is t → 0 < length is → length is ≤ 100 → Stands im s.core.pc is → Keeps on (At im w c) false 300 next t → K next
      run_some stop some few st k = absurd (omega arith)
      run_some (step u does_it pc doing r) some few st k = first_run im naming gain w (At im w c) (step u does_it pc doing r) true 300 1024 g.goes st k (omega arith)

  -- what a constructor's caller is owed
  finishes_new : IsMaking f'.awaits → (row' : ℕ) → g.runner l ≡ ByRow row' → (b.method.result ≡ None) × IsWithinNew im (c.plan row') (c.pc row' (suc f'.at)) (result_place f' p') (length (made_words f'.awaits p'.fresh)) (g.head (suc l) back_word)
  finishes_new making row' is =
      let low : l < g.top = let e = top_is g in omega arith in
      let above : level_of (f ∷ f' ∷ rest) (suc l) ≡ Some f = subst (λ n. level_of (f ∷ f' ∷ rest) n ≡ Some f) (top_is g) (level_top g.top (f' ∷ rest) (p' ∷ ps) (rest_frames g) (rest_places g) f) in
      let known : method_at im.cat.program f.method.method ≡ Some b.method = ap (λ (p : Program). method_at p f.method.method) body.program ∙ found b at op im c row from places body is_op naming gain w f (f' ∷ rest) q (p' ∷ ps) s here in
      let x = g.headed.made l f' f p' b.method low (caller_is g) (caller_places g) above making known in
      (x.0, subst (λ y. FinishesNew im c y f' p' (g.head (suc l) back_word)) is x.1)

  pub plain_kept : (row' : ℕ) → g.runner l ≡ ByRow row' → Begins_here → Stands_here (leave_instrs b at ts_here) → (a : Awaited) → f'.awaits ≡ a → K (returns_to b.program Site_here a f' rest (p' ∷ ps) [])
  plain_kept row' is pc st a e = by_awaited a e (ready_plain (let h = far_below b at op im c row from places body is_op naming gain w f (f' ∷ rest) q (p' ∷ ps) s here (leave_instrs b at ts_here) leave_rows (omega arith) st pc in omega arith))
    where
      stands : Stands im s.core.pc (plain_front ++ rv.Ecall ∷ [])
      stands = subst (λ n. Stands im n (leave_instrs b at ts_here)) (sym (pc_is b at op im c row from places body is_op naming gain w f (f' ∷ rest) q (p' ∷ ps) s here pc)) (plain_items_stand im places from (leave_instrs b at ts_here) leave_rows st)

      by_awaited : (a : Awaited) → f'.awaits ≡ a → Ready plain_front old → K (returns_to b.program Site_here a f' rest (p' ∷ ps) [])
      by_awaited Nothing e r = simulation.nowhere tt
      by_awaited Result e r =
          run_all plain_front r (omega arith) (omega arith) stands (Next (frames_with (moved f' (suc f'.at) f'.stack) rest p' ps))
          (λ h. more 300 (omega arith) (result_arrives plain_front old r e row' is h f'.stack (leaves_all l rest ps refl (places_below g) f' (moved f' (suc f'.at) f'.stack) p' p' (λ n. inl refl))))
      by_awaited (Object o) e r =
          let x = finishes_new (subst IsMaking (sym e) tt) row' is in
          let made : o ∷ [] ≡ made_words f'.awaits p'.fresh = sym (ap (λ a. made_words a p'.fresh) e) in
          let none : p'.fresh ≡ [] = subst (λ a. AreFresh a p'.fresh) e (g.around.fresh l f' p' (caller_is g) (caller_places g)) in
          run_all plain_front r (omega arith) (omega arith) stands (Next (frames_with (moved f' (suc f'.at) (Plain Reference (o ∷ []) ∷ f'.stack)) rest p' ps))
          (λ h. new_arrives plain_front r Reference (o ∷ []) made p' refl none row' is (subst (λ (ws : List ℕ). IsWithinNew im (c.plan row') (c.pc row' (suc f'.at)) (result_place f' p') (length ws) (g.head (suc l) back_word)) (sym made) x.1) h)
      by_awaited Built e r =
          let x = finishes_new (subst IsMaking (sym e) tt) row' is in
          let made : p'.fresh ≡ made_words f'.awaits p'.fresh = sym (ap (λ a. made_words a p'.fresh) e) in
          run_all plain_front r (omega arith) (omega arith) stands (Next (frames_with (moved f' (suc f'.at) (Plain Struct p'.fresh ∷ f'.stack)) rest (with_fresh p' []) ps))
          (λ h. new_arrives plain_front r Struct p'.fresh made (with_fresh p' []) refl refl row' is (subst (λ (ws : List ℕ). IsWithinNew im (c.plan row') (c.pc row' (suc f'.at)) (result_place f' p') (length ws) (g.head (suc l) back_word)) (sym made) x.1) h)

  -- With a result ----------------------------------------------------------------

  -- The result goes to the place of the caller that takes it.
  module _ (t : TExpr) (kind : Kind) (ws : List ℕ) (us : List Value) (e : f.stack ≡ Plain kind ws ∷ us) (has : b.method.result ≡ Some t) (awaits : f'.awaits ≡ Result) (long : length ws ≡ words_of b.program (put_type f.method t))
      (knows : (is_bool (put_type f.method t) ≡ is_bool t) × (words_of b.program (put_type f.method t) ≡ words_of b.program t)) where
    abbrev many : ℕ
    many = min (words_of b.program t) most_words

    abbrev source : ℕ
    source = from_top b at ts_here 1

    abbrev target : ℕ
    target = result_place f' p'

    abbrev given_front : List Instr
    given_front = loads_word 5 3 ++ (give_words b at ts_here many (offset_of b source) 0 (is_bool t) ++ rv.Addi 17 0 2 ∷ [])

    abbrev given_value : Value
    given_value = Plain (kind_of b.program (put_type f.method t)) (kept (put_type f.method t) ws)

    low : l < g.top
    low = let x = top_is g in omega arith

    -- the place of the result, and its address in the frame's header
    record Taken : Type 0 where
      address : g.head (suc l) result_word ≡ frame_address (spot (map_here g) l target)
      inside : target < place_count (map_here g) l
      fits : words_of b.program (put_type f.method t) ≤ width_at (map_here g) l target
      narrow : width_at (map_here g) l target ≤ 16

    taken : Taken
    taken =
        let above : level_of (f ∷ f' ∷ rest) (suc l) ≡ Some f = subst (λ n. level_of (f ∷ f' ∷ rest) n ≡ Some f) (top_is g) (level_top g.top (f' ∷ rest) (p' ∷ ps) (rest_frames g) (rest_places g) f) in
        let known : method_at im.cat.program f.method.method ≡ Some b.method = ap (λ (p : Program). method_at p f.method.method) body.program ∙ found b at op im c row from places body is_op naming gain w f (f' ∷ rest) q (p' ∷ ps) s here in
        let x = g.headed.result l f' f p' b.method t low (caller_is g) (caller_places g) above awaits known has in
        record {
          address = x.0;
          inside = x.1.inside;
          fits = subst (λ (p : Program). words_of p (put_type f.method t) ≤ width_at (map_here g) l target) body.program x.1.fits;
          narrow = (g.stacked.plans l (omega (arith, low))).narrow target x.1.inside;
        }

    many_is : many ≡ length ws
    many_is = let x = taken.fits in let y = taken.narrow in let z = knows.1 in omega arith

    -- where the value stands
    record From : Type 0 where
      inside : source < place_count_here g
      there : now g g.top source ≡ Some (Plain kind ws)
      same : offset g source ≡ offset_of b source
      first : source ≡ length q.held + length us

    standing : From
    standing =
        let d = depth_is b at op im c row from places body is_op naming gain w f (f' ∷ rest) q (p' ∷ ps) s here in
        let a = first_held b at op im c row from places body is_op naming gain w f (f' ∷ rest) q (p' ∷ ps) s here in
        let n : length f.stack ≡ suc (length us) = ap length e in
        let k : source ≡ length q.held + length us = omega arith in
        record {
          inside = inside_plan b at op im c row from places body is_op naming gain w f (f' ∷ rest) q (p' ∷ ps) s here source (omega arith);
          there = ap (now g g.top) k ∙ stands_there b at op im c row from places body is_op naming gain w f (f' ∷ rest) q (p' ∷ ps) s here [] us (Plain kind ws) e;
          same = ap (λ (p : Plan). slice_index p.offsets source) (plan_here b at op im c row from places body is_op naming gain w f (f' ∷ rest) q (p' ∷ ps) s here);
          first = k;
        }

    -- the target lies in a frame below
    before : spot (map_here g) l target + length ws ≤ base g + offset g source
    before =
        let x = taken.fits in
        let y = (bounds g.stacked l target (omega (arith, low)) taken.inside).high in
        let z = ends_before g.stacked l g.top low (omega arith) in
        omega arith

    abbrev after_values : ℕ → ℕ → Option Value
    after_values = with_value l target (Some given_value) old

    ready_given : s.core.pc < 2 ^ 40 → Ready given_front after_values
    ready_given pc =
        let r = room g source standing.inside in
        let r1 = r.low in
        let r2 = r.inside in
        let size : length ws ≤ slice_index (c.plan g.row).widths source = fits_there g source (Plain kind ws) standing.inside standing.there in
        let head_low : base g + 3 < length s.stack.words = let i = inside g.stacked g.top (omega arith) in let p = g.stacked.plans g.top (omega arith) in let p1 = p.behind in let p2 = p.room in let p3 = p.all in omega arith in
        let five : mem_of s.stack (base g + 3) ≡ frame_address (spot (map_here g) l target) =
        g.stacked.heads g.top 3 (omega arith) (record { word = omega arith; instr = λ z y. omega (arith, y) }) ∙ ap (λ n. g.head n 3) (top_is g) ∙ taken.address in
        then_give five (loads (in_current g) 5 3 (omega arith) head_low refl (omega arith) (omega arith))
      where
        then_give : mem_of s.stack (base g + 3) ≡ frame_address (spot (map_here g) l target) → Set s (loads_word 5 3) 5 (mem_of s.stack (base g + 3)) → Ready given_front after_values
        then_give five x =
            let at_pc = run_pc x.run in
            let few = loads_short 5 3 in
            let r = room g source standing.inside in
            let r1 = r.low in
            let r2 = r.inside in
            let size : length ws ≤ slice_index (c.plan g.row).widths source = fits_there g source (Plain kind ws) standing.inside standing.there in
            let narrow = r.narrow in
            let n = many_is in
            let same = standing.same in
            let far = before in
            let count : length x.t.stack.words ≡ length s.stack.words = ap (λ (k : StackWords). length k.words) x.stack in
            let f' = in_frame (in_current g) (x.others 8 (λ z. omega (arith, z)) (λ z. omega (arith, z))) count x.sized in
            then_number x (gives (spot (map_here g) l target) b at ts_here f' (x.value ∙ five) many (offset_of b source) 0 (is_bool t) (omega arith) (omega arith) (omega arith) (omega arith) (omega arith))
          where
            then_number : (x : Set s (loads_word 5 3) 5 (mem_of s.stack (base g + 3))) → Gave x.t (give_words b at ts_here many (offset_of b source) 0 (is_bool t)) (base g + offset_of b source) (spot (map_here g) l target + 0) many (is_bool t) → Ready given_front after_values
            then_number x y =
                let at_pc = run_pc x.run in
                let few = loads_short 5 3 in
                let at_pc' = run_pc y.run in
                let few' = gives_short b at ts_here many (offset_of b source) 0 (is_bool t) in
                let n = many_is in
                let fit = taken.fits in
                let narrow = taken.narrow in
                build x y (set_by y.t y.sized (omega arith) (rv.Addi 17 0 2) 17 2 refl refl (omega arith) (omega arith))
              where
                build : (x : Set s (loads_word 5 3) 5 (mem_of s.stack (base g + 3))) → (y : Gave x.t (give_words b at ts_here many (offset_of b source) 0 (is_bool t)) (base g + offset_of b source) (spot (map_here g) l target + 0) many (is_bool t)) → Set y.t (rv.Addi 17 0 2 ∷ []) 17 2 → Ready given_front after_values
                build x y z = record {
                  t = z.t;
                  run = run_then x.run (run_then y.run z.run);
                  seventeen = z.value;
                  bases = ap (λ (k : StackWords). k.bases) z.stack ∙ y.bases ∙ ap (λ (k : StackWords). k.bases) x.stack;
                  count = ap (λ (k : StackWords). length k.words) z.stack ∙ y.count ∙ ap (λ (k : StackWords). length k.words) x.stack;
                  sized = z.sized;
                  holds = subst (λ (k : StackWords). Holding (mem_of k) (length s.stack.words) g.top after_values) (sym z.stack)
                      (write held_below l target (Some given_value) (omega (arith, low)) taken.inside
                      (λ i o. y.only i (narrower i o) ∙ ap (λ (k : StackWords). mem_of k i) x.stack)
                      (record {
                        fits = let a = taken.fits in let d = kept_long (put_type f.method t) ws in omega arith;
                        leads = tt;
                        words = λ j lt. the_word j (let d = kept_long (put_type f.method t) ws in omega arith);
                      }));
                }
                  where
                    narrower : (i : ℕ) → (i < spot (map_here g) l target) ⊎ (spot (map_here g) l target + width_at (map_here g) l target ≤ i) → (i < spot (map_here g) l target + 0) ⊎ (spot (map_here g) l target + 0 + many ≤ i)
                    narrower i (inl h) = inl (omega arith)
                    narrower i (inr h) = inr (let a = taken.fits in let n = many_is in omega arith)

                    the_word : (j : ℕ) → j < length ws → mem_of y.t.stack (spot (map_here g) l target + j) ≡ slice_index (kept (put_type f.method t) ws) j
                    the_word j lt =
                        let n = many_is in
                        let z : spot (map_here g) l target + j ≡ spot (map_here g) l target + 0 + j = omega arith in
                        let at_source : base g + offset_of b source + j ≡ spot (map_here g) g.top source + j = let a = standing.same in let d = spot_is g source in omega arith in
                        ap (mem_of y.t.stack) z
                        ∙ y.words j (omega arith)
                        ∙ ap (λ (k : StackWords). keep (is_bool t) (mem_of k (base g + offset_of b source + j))) x.stack
                        ∙ ap (λ i. keep (is_bool t) (mem_of s.stack i)) at_source
                        ∙ ap (keep (is_bool t)) ((lies_there g source (Plain kind ws) standing.inside standing.there).words j lt)
                        ∙ ap (λ k. keep k (slice_index ws j)) (sym knows.0)
                        ∙ sym (kept_word (put_type f.method t) ws j lt)

    given_rows : AreRows (given_front ++ rv.Ecall ∷ [])
    given_rows =
        let r = room g source standing.inside in
        let r1 = r.low in
        let size : length ws ≤ slice_index (c.plan g.row).widths source = fits_there g source (Plain kind ws) standing.inside standing.there in
        let n = many_is in
        let same = standing.same in
        let fit = taken.fits in
        let narrow = taken.narrow in
        rows_both given_front (rv.Ecall ∷ [])
        (rows_both (loads_word 5 3) (give_words b at ts_here many (offset_of b source) 0 (is_bool t) ++ rv.Addi 17 0 2 ∷ []) (loads_rows 5 3 (omega arith) (omega arith))
        (rows_both (give_words b at ts_here many (offset_of b source) 0 (is_bool t)) (rv.Addi 17 0 2 ∷ []) (gives_rows b at ts_here many (offset_of b source) 0 (is_bool t) (omega arith) (omega arith)) ((omega arith, omega arith, omega arith), tt)))
        (tt, tt)

    code_is : loads_word 5 3 ++ give_words b at ts_here many (offset_of b source) 0 (is_bool t) ++ leave_instrs b at ts_here ≡ given_front ++ rv.Ecall ∷ []
    code_is =
        append_assoc (loads_word 5 3) (give_words b at ts_here many (offset_of b source) 0 (is_bool t)) (leave_instrs b at ts_here)
        ∙ ap (λ (is : List Instr). loads_word 5 3 ++ is) (sym (append_assoc (give_words b at ts_here many (offset_of b source) 0 (is_bool t)) (rv.Addi 17 0 2 ∷ []) (rv.Ecall ∷ [])))
        ∙ sym (append_assoc (loads_word 5 3) (give_words b at ts_here many (offset_of b source) 0 (is_bool t) ++ rv.Addi 17 0 2 ∷ []) (rv.Ecall ∷ []))

    given_kept : (row' : ℕ) → g.runner l ≡ ByRow row' → Begins_here → Stands_here (loads_word 5 3 ++ give_words b at ts_here many (offset_of b source) 0 (is_bool t) ++ leave_instrs b at ts_here) →
        K (Next (frames_with (moved f' (suc f'.at) (given_value ∷ f'.stack)) rest p' ps))
    given_kept row' is pc st' =
        let st = subst Stands_here code_is st' in
        let l1 = length-append given_front (rv.Ecall ∷ []) in
        let l2 = length-append (loads_word 5 3) (give_words b at ts_here many (offset_of b source) 0 (is_bool t) ++ rv.Addi 17 0 2 ∷ []) in
        let l3 = length-append (give_words b at ts_here many (offset_of b source) 0 (is_bool t)) (rv.Addi 17 0 2 ∷ []) in
        let l4 = loads_short 5 3 in
        let l5 = gives_short b at ts_here many (offset_of b source) 0 (is_bool t) in
        let n = many_is in
        let fit = taken.fits in
        let narrow = taken.narrow in
        let far = far_below b at op im c row from places body is_op naming gain w f (f' ∷ rest) q (p' ∷ ps) s here (given_front ++ rv.Ecall ∷ []) given_rows (omega arith) st pc in
        let r = ready_given (omega arith) in
        run_all given_front r (omega arith) (omega arith)
        (subst (λ n. Stands im n (given_front ++ rv.Ecall ∷ [])) (sym (pc_is b at op im c row from places body is_op naming gain w f (f' ∷ rest) q (p' ∷ ps) s here pc)) (plain_items_stand im places from (given_front ++ rv.Ecall ∷ []) given_rows st))
        (Next (frames_with (moved f' (suc f'.at) (given_value ∷ f'.stack)) rest p' ps))
        (λ h. more 300 (omega arith) (result_arrives given_front after_values r awaits row' is h (given_value ∷ f'.stack)
        (leaves_value l rest ps refl (places_below g) f' (moved f' (suc f'.at) (given_value ∷ f'.stack)) p' p' target given_value (λ n. replaced p'.held [] f'.stack given_value n))))

  -- With a result and without, to whatever the caller awaits.
  pub returns_kept : (row' : ℕ) → g.runner l ≡ ByRow row' → (o : Option TExpr) → b.method.result ≡ o → ((t : TExpr) → b.method.result ≡ Some t → (is_bool (put_type f.method t) ≡ is_bool t) × (words_of b.program (put_type f.method t) ≡ words_of b.program t)) →
      Begins_here → Stands_here (return_instrs b at ts_here o) → K (returns_with b.program Site_here o f.stack)
  returns_kept row' is None has knows pc st = plain_kept row' is pc st f'.awaits refl
  returns_kept row' is (Some t) has knows pc st =
      pops_kept b at op im c row from places body is_op naming gain w f (f' ∷ rest) q (p' ∷ ps) s here f.stack _ (λ v us e. by_value v us e)
    where
      by_awaited : (a : Awaited) → f'.awaits ≡ a → (kind : Kind) (ws : List ℕ) (us : List Value) → f.stack ≡ Plain kind ws ∷ us → length ws ≡ words_of b.program (put_type f.method t) →
          K (returns_to b.program Site_here a f' rest (p' ∷ ps) (Plain (kind_of b.program (put_type f.method t)) (kept (put_type f.method t) ws) ∷ []))
      by_awaited Nothing a kind ws us e long = simulation.nowhere tt
      by_awaited Result a kind ws us e long = given_kept t kind ws us e has a long (knows t has) row' is pc st
      by_awaited (Object o) a kind ws us e long = absurd (let x = (finishes_new (subst IsMaking (sym a) tt) row' is).0 in cc (has, x))
      by_awaited Built a kind ws us e long = absurd (let x = (finishes_new (subst IsMaking (sym a) tt) row' is).0 in cc (has, x))

      by_value : (v : Value) (us : List Value) → f.stack ≡ v ∷ us → K (keeps b.program (put_type f.method t) v (λ words. returns b.program Site_here (f' ∷ rest) (Plain (kind_of b.program (put_type f.method t)) words ∷ [])))
      by_value (Plain kind ws) us e =
          if_kept b at op im c row from places body is_op naming gain w f (f' ∷ rest) q (p' ∷ ps) s here (same_kind kind (kind_of b.program (put_type f.method t)) && (length ws == words_of b.program (put_type f.method t))) _ (λ k.
          let both = both_true (same_kind kind (kind_of b.program (put_type f.method t))) (length ws == words_of b.program (put_type f.method t)) k in
          by_awaited f'.awaits refl kind ws us e (eqb-true (length ws) (words_of b.program (put_type f.method t)) both.1))
      by_value (Managed y) us e = simulation.nowhere tt

-- Every return: from the first frame the thread is over, and from a called one the caller goes on.
pub ret_kept : (b : BodyData) (at : ℕ) (op : Op) (im : ImageData) (c : Compiled) (row from : ℕ) (places : List (Option ℕ)) (body : IsBodyOf b im c row places) (is_op : op_at b.method at ≡ Some op)
    (naming : Naming Mention TExpr) (gain : ThreadData → ℕ) (w : ℕ → ℕ) (f : Frame) (around : List Frame) (q : Places) (outer : List Places) (s : ThreadData)
    (here : StandsAt b at op im c row from w f around q outer s) → c.interprets ≡ false → KnowsResult b f.method Returns → c.pc row at ≡ code_address from →
    StandFrom im places from (plain (return_instrs b at (stack_of (slice_get b.states at)) b.method.result)) →
    Kept_to b at op im c row from places body is_op naming gain w f around q outer s here (does b.program (site b at op im c row from places body is_op naming gain w f around q outer s here) [] f.stack (OnCalls Returns))
ret_kept b at op im c row from places body is_op naming gain w f [] q outer s here caller knows pc st = by_result b.method.result refl
  where
    by_result : (o : Option TExpr) → b.method.result ≡ o → Kept_to b at op im c row from places body is_op naming gain w f [] q outer s here (does b.program (site b at op im c row from places body is_op naming gain w f [] q outer s here) [] f.stack (OnCalls Returns))
    by_result None has =
        finishes_kept b at op im c row from places body is_op naming gain w f [] q outer s here refl has pc
        (subst (λ (o : Option TExpr). StandFrom im places from (plain (return_instrs b at (stack_of (slice_get b.states at)) o))) has st)
    by_result (Some t) has =
        let known : method_at im.cat.program f.method.method ≡ Some b.method = ap (λ (p : Program). method_at p f.method.method) body.program ∙ found b at op im c row from places body is_op naming gain w f [] q outer s here in
        let none : b.method.result ≡ None = here.together.headed.ends f b.method refl known in
        absurd (cc (has, none))
ret_kept b at op im c row from places body is_op naming gain w f (f' ∷ rest) q [] s here caller knows pc st =
    absurd (let a = here.together.around.frames in let d = here.together.around.places in omega arith)
ret_kept b at op im c row from places body is_op naming gain w f (f' ∷ rest) q (p' ∷ ps) s here caller knows pc st =
    by_runner (here.together.runner (length rest)) refl (here.together.around.bodies (length rest) f' (caller_is here.together))
  where
    by_runner : (r : Runner) → here.together.runner (length rest) ≡ r → IsRunBy im c (here.together.runner (length rest)) f'.method →
        Kept_to b at op im c row from places body is_op naming gain w f (f' ∷ rest) q (p' ∷ ps) s here (does b.program (site b at op im c row from places body is_op naming gain w f (f' ∷ rest) q (p' ∷ ps) s here) [] f.stack (OnCalls Returns))
    by_runner (ByRow row') is by = returns_kept b at op im c row from places body is_op naming gain w f f' rest q p' ps s here row' is b.method.result refl knows pc st
    by_runner (ByInterpreter plan) is by = absurd (let x = (subst (λ r. IsRunBy im c r f'.method) is by).0 in cc (caller, x))
