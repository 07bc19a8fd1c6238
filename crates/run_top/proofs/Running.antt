-- The loop's turns are those of the run.
use Rattle.std.proofs.Common.{◌≡◌, ℕ, zero, suc, ◌<◌, List, [], ◌∷◌, ◌++◌, length, drop, drop-cons, get_or, Bool, true, false, Some, None, refl, sym, ap, ◌∙◌, subst, arith}
use Rattle.std.proofs.lemmas.List.{map-append, drop_all}
use Rattle.interaction.specs.declared.history.Event.{Event}
use Rattle.interaction.specs.declared.turn.What.{What}
use Rattle.interaction.specs.declared.turn.What.TheVariants.{Action}
use Rattle.interaction.specs.Thread.{Go, Ask, Did, Asked}
use Rattle.interaction.specs.Run.{Taken, Ending, StuckAt, Idle, with_value, run_from}
use Rattle.store_object.specs.declared.ending.Ending.TheVariants.{Done as KeptDone, Turns as KeptTurns}
use Rattle.store_object.specs.declared.reply.Reply.{Reply}
use Rattle.store_object.specs.declared.reply.Reply.TheVariants.{Done}
use Rattle.store_object.specs.declared.request.Request.{Request}
use Rattle.store_object.specs.Answer.{answer}
use Rattle.store_object.specs.Replay.{noted, replayed}
use Rattle.store_object.specs.Store.{Store}
use Rattle.store_object.proofs.Histories.{replayed_nothing, replayed-push}
use Rattle.run_top.specs.declared.machine.Core.{Core}
use Rattle.run_top.specs.declared.record.Turn.{Turn}
use Rattle.run_top.specs.Executed.{IsFirst}
use Rattle.run_top.specs.Executed as first
use Rattle.run_top.specs.Machine.{Thread, Wish, want, start, stays_live}
use Rattle.run_top.specs.Gives.{thread_of, HasNone}
use Rattle.run_top.specs.Run.{machine_of, next_seed, numbers, image_run, notes_of, IsRegular, IsRun}
use Rattle.run_top.proofs.TurnKinds.{Kind, goes, prints, leaves, faults, over as is_over, kind_of, its_request}
use Rattle.run_top.proofs.OneThread.{Moves, store_of, lone, taken, event, IsNow, did, asked, faulted, idled, over, used}

-- the first number that is drawn from seed 0
pub first_number : numbers 0 1 ≡ 167951807 ∷ []
first_number = refl

pub length-numbers : (s n : ℕ) → length (numbers s n) ≡ n
length-numbers s zero = refl
length-numbers s (suc n) = ap suc (length-numbers (next_seed s) n)

-- the core and the frame with which the loop begins
pub begun : (core : Core) (frame : List ℕ) (words : ℕ) → core.pc ≡ (start 24).pc → core.x ≡ (start 24).x → core.mode ≡ (start 24).mode → frame ≡ (start words).frame → thread_of core frame ≡ start words
begun core frame words a b c d = rw (a, b, c, d) refl

-- the store's answer to a request of the first form
told : (r : Request) → IsFirst r → answer (store_of true) 0 r ≡ (Done, store_of (stays_live r))
told _ (first.prints word) = refl
told _ first.leaves = refl

told_after : (history : List (Event Request Reply)) (r : Request) → replayed history ≡ store_of true → IsFirst r → answer (replayed history) 0 r ≡ (Done, store_of (stays_live r))
told_after history r stored asks = ap (λ s. answer s 0 r) stored ∙ told r asks

-- ..and the history with it
noted_after : (history : List (Event Request Reply)) (r : Request) → replayed history ≡ store_of true → IsFirst r → noted history 0 r (answer (replayed history) 0 r).0 ≡ history ++ event r ∷ []
noted_after history r stored asks = ap (λ (p : Reply × Store). noted history 0 r p.0) (told_after history r stored asks)

stored_after : (history : List (Event Request Reply)) (r : Request) → replayed history ≡ store_of true → IsFirst r → replayed (history ++ event r ∷ []) ≡ store_of (stays_live r)
stored_after history r stored asks = replayed-push history 0 r Done ∙ ap (λ (p : Reply × Store). p.1) (told_after history r stored asks)

module _ (image : List ℕ) (words limit : ℕ) where
  -- after so many turns the thread stands here, the store is that of the history, and what is noted so far and the run
  -- from here on make the whole run
  pub record Running (made : ℕ) (t : Thread) (live : Bool) (history : List (Event Request Reply)) (turns : List Turn) : Type 0 where
    pub moved : Moves
    pub took : List (Taken Request Reply)
    pub now : IsNow image words moved t
    pub stored : replayed history ≡ store_of live
    pub notes : turns ≡ notes_of took
    pub same : run_from (machine_of image words) (drop made (numbers 0 limit)) (lone moved live history took) ≡ image_run image words limit

  -- the same, by other names
  pub as_is : {made made' : ℕ} {t : Thread} {live live' : Bool} {history history' : List (Event Request Reply)} {turns turns' : List Turn} → made' ≡ made → live' ≡ live → history' ≡ history → turns' ≡ turns → Running made t live history turns → Running made' t live' history' turns'
  as_is a b c d r = rw (a, b, c, d) r

  pub starting : (t : Thread) → t ≡ start words → Running 0 t true [] []
  starting t is = record { moved = λ u. None; took = []; now = ap Some (sym is); stored = replayed_nothing; notes = refl; same = refl }

  module _ (made : ℕ) (t : Thread) (history : List (Event Request Reply)) (turns : List Turn) (more : made < limit) (r : Running made t true history turns) where
    abbrev number : ℕ
    number = get_or (numbers 0 limit) made 0

    abbrev later : List ℕ
    later = drop (suc made) (numbers 0 limit)

    next_number : drop made (numbers 0 limit) ≡ number ∷ later
    next_number = drop-cons (numbers 0 limit) made 0 (let l = length-numbers 0 limit in omega arith)

    here : run_from (machine_of image words) (number ∷ later) (lone r.moved true history r.took) ≡ image_run image words limit
    here = ap (λ ks. run_from (machine_of image words) ks (lone r.moved true history r.took)) (sym next_number) ∙ r.same

    pub running_did : (what : What) (next : Thread) → want image t ≡ Go what next → Running (suc made) next true history (turns ++ record { thread = 0; what = what } ∷ [])
    running_did what next is = record {
      moved = with_value r.moved 0 (Some next);
      took = r.took ++ taken (Did what) ∷ [];
      now = refl;
      stored = r.stored;
      notes = ap (λ (ns : List Turn). ns ++ record { thread = 0; what = what } ∷ []) r.notes ∙ sym (map-append _ r.took _);
      same = sym (did image words r.moved history r.took number later t r.now what next is) ∙ here;
    }

    pub running_asked : (request : Request) (next : Reply → Thread) (now : Thread) → want image t ≡ Ask request next → ((reply : Reply) → now ≡ next reply) → Running (suc made) now (stays_live request) (noted history 0 request (answer (replayed history) 0 request).0) (turns ++ record { thread = 0; what = Action } ∷ [])
    running_asked request next now is to =
        let asks = its_request image t request next is in
        as_is refl refl (noted_after history request r.stored asks) refl (record {
          moved = with_value r.moved 0 (Some (next Done));
          took = r.took ++ taken (Asked (record { request = request; reply = Done })) ∷ [];
          now = ap Some (sym (to Done));
          stored = stored_after history request r.stored asks;
          notes = ap (λ (ns : List Turn). ns ++ record { thread = 0; what = Action } ∷ []) r.notes ∙ sym (map-append _ r.took _);
          same = sym (asked image words r.moved history r.took number later t r.now request next asks is) ∙ here;
        })

    -- where there is no turn the run isn't regular
    pub none_left : IsRegular (image_run image words limit).ending → HasNone (want image t) → ⊥
    none_left regular none = by_kind (want image t) refl (kind_of image t) none
      where
        ended : (e : Ending Thread) → (image_run image words limit).ending ≡ e → IsRegular e
        ended e is = subst IsRegular is regular

        by_kind : (w : Wish) → want image t ≡ w → Kind image t w → HasNone w → ⊥
        by_kind _ is (goes e g) none = none
        by_kind _ is (prints g) none = none
        by_kind _ is leaves none = none
        by_kind _ is faults none = ended (StuckAt 0 t) (ap (λ o. o.ending) (sym here ∙ faulted image words r.moved history r.took number later t r.now is))
        by_kind _ is (is_over g) none = ended (Idle 0) (ap (λ o. o.ending) (sym here ∙ idled image words r.moved history r.took number later t r.now is))

  -- the thread has finished
  pub finished : (made : ℕ) (t : Thread) (history : List (Event Request Reply)) (turns : List Turn) → Running made t false history turns → IsRun (image_run image words limit) turns history KeptDone
  finished made t history turns r =
      let whole = sym (over image words r.moved history r.took (drop made (numbers 0 limit))) ∙ r.same in
      record { turns_are = r.notes ∙ ap (λ o. notes_of o.world.turns) whole; history_is = ap (λ o. o.world.history) whole; ending_is = sym (ap (λ o. o.ending) whole) }

  -- the turns are used up
  pub used_up : (t : Thread) (history : List (Event Request Reply)) (turns : List Turn) → Running limit t true history turns → IsRun (image_run image words limit) turns history KeptTurns
  used_up t history turns r =
      let nothing : drop limit (numbers 0 limit) ≡ [] = drop_all limit (numbers 0 limit) (let l = length-numbers 0 limit in omega arith) in
      let whole = sym (used image words r.moved history r.took) ∙ ap (λ ks. run_from (machine_of image words) ks (lone r.moved true history r.took)) (sym nothing) ∙ r.same in
      record { turns_are = r.notes ∙ ap (λ o. notes_of o.world.turns) whole; history_is = ap (λ o. o.world.history) whole; ending_is = sym (ap (λ o. o.ending) whole) }
