-- Requests of the meaning with what it does with a reply, against what they give.
use Rattle.std.proofs.Common.{ℕ, Bool, true, false, List, [], ◌∷◌, Option, Some, None, if◌then◌else◌, refl}
use Rattle.type_tree.specs.declared.tree.TExpr.{TExpr}
use Rattle.interaction.specs.Process.{Naming, Ask}
use Rattle.store_object.specs.declared.request.Cause.{Cause}
use Rattle.store_object.specs.declared.request.Request.{Request}
use Rattle.store_object.specs.declared.request.Request.TheVariants as ask
use Rattle.store_object.specs.declared.reply.Reply.{Reply}
use Rattle.store_object.specs.declared.reply.Reply.TheVariants as says
use Rattle.cil_meaning.specs.Naming.{Mention}
use Rattle.cil_meaning.specs.Replies.{Left, on_object, on_kind, on_word, on_thread, on_ended, on_done, on_stopped}
use Rattle.unshared.specs.Talk.{say, over, is_stopped, object_in, kind_in, word_in, thread_in, ended_in, done_in, asks_object, asks_kind, asks_word, asks_thread, asks_ended, asks_done, stops}
use Rattle.unshared.specs.Silent.{stuck}
use Rattle.unshared.specs.Turns.{answered}
use Rattle.unshared.proofs.Tying.{Met, Tied, stuck_stays, over_meets}

module _ (n : Naming Mention TExpr) where
  object_meets : (y : Reply) (ys : List Reply) (k : ℕ → Left) → Met n (answered n ys (on_object k y)) k ((if is_stopped y then over else say (object_in y)) ys)
  object_meets (says.Object number) ys k = refl
  object_meets (says.Kind number) ys k = stuck_stays n ys
  object_meets (says.Word word) ys k = stuck_stays n ys
  object_meets (says.Thread number) ys k = stuck_stays n ys
  object_meets (says.Ended b) ys k = stuck_stays n ys
  object_meets says.Unknown ys k = stuck_stays n ys
  object_meets says.Done ys k = stuck_stays n ys
  object_meets (says.Stopped why) ys k = over_meets n ys k
  object_meets says.Halted ys k = stuck_stays n ys
  object_meets says.Improper ys k = stuck_stays n ys

  by_object : (r : Request) (ys : List Reply) (k : ℕ → Left) → Met n (answered n ys (Ask r (on_object k))) k (asks_object r ys)
  unfolding asks_object
  by_object r [] k = (on_object k, refl)
  by_object r (y ∷ ys) k = object_meets y ys k

  pub tied_object : (r : Request) → Tied n (λ (k : ℕ → Left). Ask r (on_object k)) (asks_object r)
  tied_object r = record { meets = by_object r }

  kind_meets : (y : Reply) (ys : List Reply) (k : ℕ → Left) → Met n (answered n ys (on_kind k y)) k (say (kind_in y) ys)
  kind_meets (says.Object number) ys k = stuck_stays n ys
  kind_meets (says.Kind number) ys k = refl
  kind_meets (says.Word word) ys k = stuck_stays n ys
  kind_meets (says.Thread number) ys k = stuck_stays n ys
  kind_meets (says.Ended b) ys k = stuck_stays n ys
  kind_meets says.Unknown ys k = stuck_stays n ys
  kind_meets says.Done ys k = stuck_stays n ys
  kind_meets (says.Stopped why) ys k = stuck_stays n ys
  kind_meets says.Halted ys k = stuck_stays n ys
  kind_meets says.Improper ys k = stuck_stays n ys

  by_kind : (r : Request) (ys : List Reply) (k : ℕ → Left) → Met n (answered n ys (Ask r (on_kind k))) k (asks_kind r ys)
  unfolding asks_kind
  by_kind r [] k = (on_kind k, refl)
  by_kind r (y ∷ ys) k = kind_meets y ys k

  pub tied_kind : (r : Request) → Tied n (λ (k : ℕ → Left). Ask r (on_kind k)) (asks_kind r)
  tied_kind r = record { meets = by_kind r }

  word_meets : (y : Reply) (ys : List Reply) (k : ℕ → Left) → Met n (answered n ys (on_word k y)) k (say (word_in y) ys)
  word_meets (says.Object number) ys k = stuck_stays n ys
  word_meets (says.Kind number) ys k = stuck_stays n ys
  word_meets (says.Word word) ys k = refl
  word_meets (says.Thread number) ys k = stuck_stays n ys
  word_meets (says.Ended b) ys k = stuck_stays n ys
  word_meets says.Unknown ys k = stuck_stays n ys
  word_meets says.Done ys k = stuck_stays n ys
  word_meets (says.Stopped why) ys k = stuck_stays n ys
  word_meets says.Halted ys k = stuck_stays n ys
  word_meets says.Improper ys k = stuck_stays n ys

  by_word : (r : Request) (ys : List Reply) (k : ℕ → Left) → Met n (answered n ys (Ask r (on_word k))) k (asks_word r ys)
  unfolding asks_word
  by_word r [] k = (on_word k, refl)
  by_word r (y ∷ ys) k = word_meets y ys k

  pub tied_word : (r : Request) → Tied n (λ (k : ℕ → Left). Ask r (on_word k)) (asks_word r)
  tied_word r = record { meets = by_word r }

  thread_meets : (y : Reply) (ys : List Reply) (k : ℕ → Left) → Met n (answered n ys (on_thread k y)) k ((if is_stopped y then over else say (thread_in y)) ys)
  thread_meets (says.Object number) ys k = stuck_stays n ys
  thread_meets (says.Kind number) ys k = stuck_stays n ys
  thread_meets (says.Word word) ys k = stuck_stays n ys
  thread_meets (says.Thread number) ys k = refl
  thread_meets (says.Ended b) ys k = stuck_stays n ys
  thread_meets says.Unknown ys k = stuck_stays n ys
  thread_meets says.Done ys k = stuck_stays n ys
  thread_meets (says.Stopped why) ys k = over_meets n ys k
  thread_meets says.Halted ys k = stuck_stays n ys
  thread_meets says.Improper ys k = stuck_stays n ys

  by_thread : (r : Request) (ys : List Reply) (k : ℕ → Left) → Met n (answered n ys (Ask r (on_thread k))) k (asks_thread r ys)
  unfolding asks_thread
  by_thread r [] k = (on_thread k, refl)
  by_thread r (y ∷ ys) k = thread_meets y ys k

  pub tied_thread : (r : Request) → Tied n (λ (k : ℕ → Left). Ask r (on_thread k)) (asks_thread r)
  tied_thread r = record { meets = by_thread r }

  done_meets : (y : Reply) (ys : List Reply) (k : Unit {0} → Left) → Met n (answered n ys (on_done (k tt) y)) k (say (done_in y) ys)
  done_meets (says.Object number) ys k = stuck_stays n ys
  done_meets (says.Kind number) ys k = stuck_stays n ys
  done_meets (says.Word word) ys k = stuck_stays n ys
  done_meets (says.Thread number) ys k = stuck_stays n ys
  done_meets (says.Ended b) ys k = stuck_stays n ys
  done_meets says.Unknown ys k = stuck_stays n ys
  done_meets says.Done ys k = refl
  done_meets (says.Stopped why) ys k = stuck_stays n ys
  done_meets says.Halted ys k = stuck_stays n ys
  done_meets says.Improper ys k = stuck_stays n ys

  by_done : (r : Request) (ys : List Reply) (k : Unit {0} → Left) → Met n (answered n ys (Ask r (on_done (k tt)))) k (asks_done r ys)
  unfolding asks_done
  by_done r [] k = (on_done (k tt), refl)
  by_done r (y ∷ ys) k = done_meets y ys k

  pub tied_done : (r : Request) → Tied n (λ (k : Unit {0} → Left). Ask r (on_done (k tt))) (asks_done r)
  tied_done r = record { meets = by_done r }

  ended_meets : (y : Reply) (ys : List Reply) (k : Option Bool → Left) → Met n (answered n ys (on_ended (k (Some true)) (k (Some false)) (k None) y)) k (say (ended_in y) ys)
  ended_meets (says.Object number) ys k = stuck_stays n ys
  ended_meets (says.Kind number) ys k = stuck_stays n ys
  ended_meets (says.Word word) ys k = stuck_stays n ys
  ended_meets (says.Thread number) ys k = stuck_stays n ys
  ended_meets (says.Ended true) ys k = refl
  ended_meets (says.Ended false) ys k = refl
  ended_meets says.Unknown ys k = refl
  ended_meets says.Done ys k = stuck_stays n ys
  ended_meets (says.Stopped why) ys k = stuck_stays n ys
  ended_meets says.Halted ys k = stuck_stays n ys
  ended_meets says.Improper ys k = stuck_stays n ys

  by_ended : (r : Request) (ys : List Reply) (k : Option Bool → Left) → Met n (answered n ys (Ask r (on_ended (k (Some true)) (k (Some false)) (k None)))) k (asks_ended r ys)
  unfolding asks_ended
  by_ended r [] k = (on_ended (k (Some true)) (k (Some false)) (k None), refl)
  by_ended r (y ∷ ys) k = ended_meets y ys k

  pub tied_ended : (r : Request) → Tied n (λ (k : Option Bool → Left). Ask r (on_ended (k (Some true)) (k (Some false)) (k None))) (asks_ended r)
  tied_ended r = record { meets = by_ended r }

  stop_meets : (y : Reply) (ys : List Reply) (k : Unit {0} → Left) → Met n (answered n ys (on_stopped y)) k ((if is_stopped y then over else say stuck) ys)
  stop_meets (says.Object number) ys k = stuck_stays n ys
  stop_meets (says.Kind number) ys k = stuck_stays n ys
  stop_meets (says.Word word) ys k = stuck_stays n ys
  stop_meets (says.Thread number) ys k = stuck_stays n ys
  stop_meets (says.Ended b) ys k = stuck_stays n ys
  stop_meets says.Unknown ys k = stuck_stays n ys
  stop_meets says.Done ys k = stuck_stays n ys
  stop_meets (says.Stopped why) ys k = over_meets n ys k
  stop_meets says.Halted ys k = stuck_stays n ys
  stop_meets says.Improper ys k = stuck_stays n ys

  by_stop : (why : Cause) (ys : List Reply) (k : Unit {0} → Left) → Met n (answered n ys (Ask (ask.Stop why) on_stopped)) k (stops why ys)
  unfolding stops
  by_stop why [] k = (on_stopped, refl)
  by_stop why (y ∷ ys) k = stop_meets y ys k

  pub tied_stop : (why : Cause) → Tied n (λ (k : Unit {0} → Left). Ask (ask.Stop why) on_stopped) (stops why)
  tied_stop why = record { meets = by_stop why }
