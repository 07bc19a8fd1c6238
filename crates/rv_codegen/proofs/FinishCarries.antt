-- The return from the first frame, without a result: its code keeps to the instruction.
use Rattle.std.proofs.Common.{◌≡◌, ℕ, suc, ◌+◌, ◌*◌, ◌^◌, ◌<◌, ◌≤◌, true, false, List, [], ◌∷◌, length, slice_get, Option, Some, None, refl, sym, ap, ◌∙◌, subst, arith}
use Rattle.type_tree.specs.declared.tree.TExpr.{TExpr}
use Rattle.il_model.specs.declared.op.Op.{Op}
use Rattle.interaction.specs.Process.{Naming, Ask, Over}
use Rattle.interaction.specs.Simulation.{Sides, Keeps, Onward}
use Rattle.interaction.specs.Simulation as simulation
use Rattle.interaction.specs.Thread as thread
use Rattle.store_object.specs.declared.request.Request.{Request}
use Rattle.store_object.specs.declared.request.Request.TheVariants as ask
use Rattle.store_object.specs.declared.reply.Reply.{Reply}
use Rattle.store_object.specs.declared.reply.Reply.TheVariants as says
use Rattle.cil_flow.specs.declared.state.StackType.{StackType}
use Rattle.cil_meaning.specs.Naming.{Mention}
use Rattle.cil_meaning.specs.Frames.{Frame, Places, Frames}
use Rattle.cil_meaning.specs.Replies.{Left, on_done}
use Rattle.cil_meaning.specs.Site.{Site, op_at}
use Rattle.cil_meaning.specs.Meaning.{does}
use Rattle.rgctx_words.specs.Stacks.{StackWords}
use Rattle.rv_isa.specs.declared.instr.Instr.{Instr}
use Rattle.rv_isa.specs.declared.instr.Instr.TheVariants as rv
use Rattle.rv_isa.specs.Assembly.{word_count}
use Rattle.rv_machine.specs.Registers.{register_of, next_pc, at_pc}
use Rattle.rgctx_fill.specs.declared.doing.Doing.TheVariants.{Runs, Serves, Finishes, Ended}
use Rattle.rgctx_fill.specs.ThreadStates.{ImageData, ThreadData, with_core, now_doing}
use Rattle.rgctx_fill.specs.ThreadStates.{plain as plain_move}
use Rattle.rgctx_fill.specs.ThreadTurns.{want}
use Rattle.rgctx_fill.specs.Services.{serves}
use Rattle.rgctx_fill.specs.CallServices.{returns}
use Rattle.interaction.specs.declared.turn.What.TheVariants as noted
use Rattle.cil_meaning.specs.Calls.{returns_with, returns as process_returns}
use Rattle.cil_meaning.specs.Groups.{OnCalls, Returns}
use Rattle.rgctx_fill.specs.Standing.{Compiled, At, sides}
use Rattle.rgctx_fill.proofs.MachineLemmas.{HasInstr, turn_is, Stands, Run, stop, step, run_pc, first_run}
use Rattle.rv_codegen.specs.Carried.{StandFrom, code_address, IsBodyOf, StandsAt}
use Rattle.rv_codegen.specs.PlainItems.{BodyData, leave_instrs, plain, stack_of}
use Rattle.rv_codegen.proofs.StraightLemmas.{Set, set_by}
use Rattle.rv_codegen.proofs.ItemLemmas.{AreRows, plain_items_stand}
use Rattle.rv_codegen.proofs.FormLemmas.{run_doing, rest_frames}
use Rattle.rv_codegen.proofs.CarryLemmas.{site, Kept_to, far_below, pc_is}

module _ (b : BodyData) (at : ℕ) (op : Op) (im : ImageData) (c : Compiled) (row from : ℕ) (places : List (Option ℕ)) (body : IsBodyOf b im c row places) (is_op : op_at b.method at ≡ Some op)
    (naming : Naming Mention TExpr) (gain : ThreadData → ℕ) (w : ℕ → ℕ) (f : Frame) (around : List Frame) (q : Places) (outer : List Places) (s : ThreadData)
    (here : StandsAt b at op im c row from w f around q outer s) where
  abbrev K : Left → Type 0
  K left = Kept_to b at op im c row from places body is_op naming gain w f around q outer s here left

  abbrev top : ℕ
  top = here.together.top

  abbrev ts_here : List StackType
  ts_here = stack_of (slice_get b.states at)

  abbrev Site_here : Site
  Site_here = site b at op im c row from places body is_op naming gain w f around q outer s here

  abbrev Stands_here : List Instr → Type 0
  Stands_here is = StandFrom im places from (plain is)

  abbrev Next_is : List Instr → Type 0
  Next_is is = c.pc row (suc at) ≡ code_address (from + word_count (plain is))

  abbrev Begins_here : Type 0
  Begins_here = c.pc row at ≡ code_address from

  -- the code begins far below the last address
  begins_low : (is : List Instr) → AreRows is → 0 < length is → Begins_here → Stands_here is → s.core.pc + 4 * length is < 2 ^ 40
  begins_low is rows some pc st = far_below b at op im c row from places body is_op naming gain w f around q outer s here is rows some st pc

  abbrev on : Sides Mention TExpr Request Reply Frames ThreadData
  on = sides im naming gain w

  -- code that runs to a state from which the thread keeps to the process
  run_first : {t : ThreadData} {is : List Instr} {left : Left} → Run s is t → 0 < length is → (m n : ℕ) → Stands im s.core.pc is → Keeps on (At im w c) false m left t → m + length is ≤ n → Keeps on (At im w c) true n left s
  run_first stop some m n st k le = absurd (omega arith)
  run_first (step u does_it pc doing r) some m n st k le = first_run im naming gain w (At im w c) (step u does_it pc doing r) true m n here.together.goes st k (omega arith)

  -- after ECALL
  abbrev called : ThreadData → ThreadData
  called t = now_doing (with_core t (at_pc t.core (next_pc t.core))) Serves

  -- the service RETURN from the first frame, and the request Finish
  finish_turns : (t : ThreadData) → t.doing ≡ Runs → HasInstr im t.core.pc rv.Ecall → register_of t.core 17 ≡ 2 → length t.stack.bases ≡ 1 → Keeps on (At im w c) false 4 (Ask ask.Finish (on_done Over)) t
  finish_turns t runs h seventeen one =
      simulation.turns 3 (omega arith) (subst (Onward on (At im w c) 3 (Ask ask.Finish (on_done Over))) (sym (turn_is im t rv.Ecall h runs)) (simulation.goes
      (simulation.turns 2 (omega arith) (subst (Onward on (At im w c) 2 (Ask ask.Finish (on_done Over))) (sym returns_now) (simulation.goes
      (simulation.turns 1 (omega arith) (simulation.asks (λ y. replied y))))))))
    where
      returns_now : want im (called t) ≡ thread.Go noted.Action (now_doing (called t) Finishes)
      returns_now = ap (λ n. plain_move (serves im (called t) n)) seventeen ∙ ap (λ n. plain_move (returns (called t) n)) one

      replied : (y : Reply) → Keeps on (At im w c) false 1 (on_done Over y) (now_doing (now_doing (called t) Finishes) Ended)
      replied (says.Object number) = simulation.nowhere tt
      replied (says.Kind number) = simulation.nowhere tt
      replied (says.Word word) = simulation.nowhere tt
      replied (says.Thread number) = simulation.nowhere tt
      replied (says.Ended has_finished) = simulation.nowhere tt
      replied says.Unknown = simulation.nowhere tt
      replied says.Done = simulation.turns 0 (omega arith) simulation.ends
      replied (says.Stopped why) = simulation.nowhere tt
      replied says.Halted = simulation.nowhere tt
      replied says.Improper = simulation.nowhere tt

  leave_rows : AreRows (leave_instrs b at ts_here)
  leave_rows = ((omega arith, omega arith, omega arith), (tt, tt))

  -- the thread's first frame returns, and the thread is over
  pub finishes_kept : around ≡ [] → b.method.result ≡ None → Begins_here → Stands_here (leave_instrs b at ts_here) → K (does b.program Site_here [] f.stack (OnCalls Returns))
  finishes_kept first none pc st =
      subst K (sym (ap (λ (o : Option TExpr). returns_with b.program Site_here o f.stack) none))
      (subst (λ (fs : List Frame). K (process_returns b.program Site_here fs [])) (sym first) finishes)
    where
      stands : Stands im s.core.pc (leave_instrs b at ts_here)
      stands = subst (λ n. Stands im n (leave_instrs b at ts_here)) (sym (pc_is b at op im c row from places body is_op naming gain w f around q outer s here pc)) (plain_items_stand im places from (leave_instrs b at ts_here) leave_rows st)

      one_frame : length s.stack.bases ≡ 1
      one_frame = let a = here.together.around.bases in let d = rest_frames here.together in let e : length around ≡ 0 = ap length first in omega arith

      finishes : K (Ask ask.Finish (on_done Over))
      finishes =
          let low = begins_low (leave_instrs b at ts_here) leave_rows (omega arith) pc st in
          with_number (set_by s here.together.around.sized (omega arith) (rv.Addi 17 0 2) 17 2 refl refl (omega arith) (omega arith))
        where
          with_number : Set s (rv.Addi 17 0 2 ∷ []) 17 2 → K (Ask ask.Finish (on_done Over))
          with_number x =
              run_first x.run (omega arith) 4 1024 (stands.0, tt)
              (finish_turns x.t (run_doing x.run ∙ here.together.goes) (subst (λ n. HasInstr im n rv.Ecall) (sym (run_pc x.run)) stands.1.0) x.value (ap (λ (k : StackWords). length k.bases) x.stack ∙ one_frame))
              (omega arith)
