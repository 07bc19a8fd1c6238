-- Private turns, one after the other.
use Rattle.std.proofs.Common.{◌≡◌, ℕ, suc, ◌+◌, List, length, sym, ap, ◌∙◌, subst, arith, false}
use Rattle.type_tree.specs.declared.tree.TExpr.{TExpr}
use Rattle.interaction.specs.Process.{Naming}
use Rattle.interaction.specs.Simulation.{Sides, Keeps, Onward}
use Rattle.interaction.specs.Simulation as simulation
use Rattle.store_object.specs.declared.request.Request.{Request}
use Rattle.store_object.specs.declared.reply.Reply.{Reply}
use Rattle.cil_meaning.specs.Naming.{Mention}
use Rattle.cil_meaning.specs.Frames.{Frames}
use Rattle.cil_meaning.specs.Replies.{Left}
use Rattle.rv_isa.specs.declared.instr.Instr.{Instr}
use Rattle.rgctx_fill.specs.declared.doing.Doing.TheVariants.{Runs}
use Rattle.rgctx_fill.specs.ThreadStates.{ImageData, ThreadData}
use Rattle.rgctx_fill.specs.ThreadStates.{plain as plain_move}
use Rattle.rgctx_fill.specs.Constructed.{Walk, stays, walks}
use Rattle.rgctx_fill.specs.Standing.{sides}
use Rattle.rgctx_fill.proofs.MachineLemmas.{turn_is, Stands, Run, stop, step}

module _ (im : ImageData) where
  pub walk_then : {m n : ℕ} {s t u : ThreadData} → Walk im m s t → Walk im n t u → Walk im (m + n) s u
  walk_then {n = n} {s = s} {u = u} stays r = let i : n ≡ 0 + n = omega arith in subst (λ k. Walk im k s u) i r
  walk_then {n = n} {s = s} {u = u} (walks {n = m} what v e q) r = let i : suc (m + n) ≡ suc m + n = omega arith in subst (λ k. Walk im k s u) i (walks what v e (walk_then q r))

  pub run_walk : {s t : ThreadData} {is : List Instr} → Run s is t → s.doing ≡ Runs → Stands im s.core.pc is → Walk im (length is) s t
  run_walk stop runs st = stays
  run_walk {s = s} (step {i = i} {is = is} u does_it pc doing r) runs st =
      walks _ u (turn_is im s i st.0 runs ∙ ap plain_move (does_it st.0.word)) (run_walk r (doing ∙ runs) (subst (λ q. Stands im q is) (sym pc) st.1))

module _ (im : ImageData) (naming : Naming Mention TExpr) (gain : ThreadData → ℕ) (w : ℕ → ℕ) (To : Left → ThreadData → Type 0) where
  abbrev on : Sides Mention TExpr Request Reply Frames ThreadData
  on = sides im naming gain w

  -- each takes one of those that there are to spend
  pub walk_keeps : {n : ℕ} {s t : ThreadData} {left : Left} → Walk im n s t → (m : ℕ) → Keeps on To false m left t → Keeps on To false (m + n) left s
  walk_keeps {s = s} {left = left} stays m k = let i : m ≡ m + 0 = omega arith in subst (λ j. Keeps on To false j left s) i k
  walk_keeps {s = s} {left = left} (walks {n = n} what u e r) m k =
      let i : suc (m + n) ≡ m + suc n = omega arith in
      subst (λ j. Keeps on To false j left s) i (simulation.turns (m + n) (omega arith) (subst (Onward on To (m + n) left) (sym e) (simulation.goes (walk_keeps r m k))))
