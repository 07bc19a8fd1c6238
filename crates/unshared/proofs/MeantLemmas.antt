-- What a record of a plain run says, from where the code has come.
use Rattle.std.proofs.Common.{◌≡◌, ◌∙◌, ℕ, ◌^◌, ◌≤◌, List, [], length, take, sym, ap, subst}
use Rattle.type_tree.specs.declared.tree.TExpr.{TExpr}
use Rattle.il_model.specs.declared.program.Program.{Program}
use Rattle.interaction.specs.Object.{live_threads}
use Rattle.interaction.specs.Run.{World, Outcome, chosen, run_from, run}
use Rattle.interaction.specs.Run as running
use Rattle.store_object.specs.declared.ending.Chooser.{Chooser}
use Rattle.store_object.specs.declared.ending.Ending.{Ending}
use Rattle.store_object.specs.declared.request.Request.{Request}
use Rattle.store_object.specs.declared.reply.Reply.{Reply}
use Rattle.store_object.specs.Store.{Store}
use Rattle.store_object.specs.Replay.{store, replayed}
use Rattle.cil_meaning.specs.Replies.{Left}
use Rattle.cil_meaning.specs.Shown.{History}
use Rattle.cil_meaning.specs.Language.{Legal}
use Rattle.type_inst.specs.Opening.{Extends}
use Rattle.type_inst.proofs.OpeningLemmas.{extends_itself}
use Rattle.unshared.specs.declared.thread.Thread.{Thread as ThreadHere}
use Rattle.unshared.specs.declared.whole.Meant.{Meant as MeantHere}
use Rattle.unshared.specs.declared.whole.Run.{Run as RunHere}
use Rattle.unshared.specs.Listed.{naming_of, IsOnce}
use Rattle.schedules.specs.Numbers.{numbers, HasNumbers}
use Rattle.unshared.specs.Turns.{machine}
use Rattle.unshared.specs.Runs.{ending_at, ending_for, HasNumbersFor, IsMeant}
use Rattle.unshared.specs.Reached.{Reached, HasEnded, Ends}
use Rattle.schedules.proofs.DrawLemmas.{length_numbers}
use Rattle.unshared.proofs.Legality.{run_is_legal}
use Rattle.unshared.proofs.Naming.{list_names}
use Rattle.unshared.proofs.Reaching.{ends_here}

module _ (p : Program) (chooser : Chooser) (turns : ℕ) (trees : List TExpr) (once : IsOnce trees) (few : length trees ≤ 2 ^ 32) where
  -- where the run ends
  meant_end : (made : ℕ) (threads : List ThreadHere) (h : History) (schedule order : List ℕ) (r : Reached (naming_of trees) p (numbers chooser turns) made threads h order) (e : running.Ending Left) (ending : Ending) →
      run (machine p (naming_of trees)) (numbers chooser turns) [] ≡ record { world = r.world; ending = e } → schedule ≡ take made (numbers chooser turns) → length order ≡ made → ending ≡ ending_at h e →
      HasNumbersFor (naming_of trees) p e → ending ≡ ending_for turns (length order) h (live_threads store (replayed h)) → IsMeant p chooser turns trees schedule order h ending
  meant_end made threads h schedule order r e ending whole drawn count end numbered so =
      let history : (run (machine p (naming_of trees)) (numbers chooser turns) []).world.history ≡ h = ap (λ (o : Outcome Request Reply Left Store). o.world.history) whole ∙ r.history_is in
      let ended : (run (machine p (naming_of trees)) (numbers chooser turns) []).ending ≡ e = ap (λ (o : Outcome Request Reply Left Store). o.ending) whole in
      record {
        naming = list_names trees once few;
        numbered = subst (HasNumbersFor (naming_of trees) p) (sym ended) numbered;
        runs = ends_here (naming_of trees) p (numbers chooser turns) made threads h schedule order r e ending whole drawn count end;
        legal = subst (Legal p (naming_of trees)) history (run_is_legal p (naming_of trees) (numbers chooser turns));
        ends_so = so;
      }

  meant_ended : (made : ℕ) (r : RunHere) (e : Ending) → HasNumbers chooser turns → HasEnded p (numbers chooser turns) made r (naming_of trees) e → IsMeant p chooser turns trees r.schedule.items r.order.items r.world.history e
  meant_ended made r e enough ended =
      let live = live_threads store (replayed r.world.history) in
      let so : e ≡ ending_for turns (length r.order.items) r.world.history live = ended.so ∙ ap (λ n. ending_for n made r.world.history live) (length_numbers chooser turns enough) ∙ ap (λ n. ending_for turns n r.world.history live) (sym ended.count) in
      meant_end made ended.threads r.world.history r.schedule.items r.order.items ended.reached ended.ending e ended.whole ended.schedule ended.count ended.named ended.numbered so

-- what the record says of a run that ends here
pub meant_by : (p : Program) (chooser : Chooser) (turns made : ℕ) (r : RunHere) (e : Ending) (m : MeantHere) → HasNumbers chooser turns → Ends p (numbers chooser turns) made r e → m.trees ≡ r.trees.kinds → length m.trees ≤ 2 ^ 32 →
    m.schedule.items ≡ r.schedule.items → m.order.items ≡ r.order.items → m.history.items ≡ r.world.history → m.ending ≡ e → IsMeant p chooser turns m.trees m.schedule.items m.order.items m.history.items m.ending
meant_by p chooser turns made r e m enough ends kinds few schedule order history ending =
    let ended = ends m.trees (subst (Extends r.trees.kinds) (sym kinds) (extends_itself r.trees.kinds)) in
    let once : IsOnce m.trees = subst IsOnce (sym kinds) ended.once in
    rw (schedule, order, history, ending) (meant_ended p chooser turns m.trees once few made r e enough ended)
