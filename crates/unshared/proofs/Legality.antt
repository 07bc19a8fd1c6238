-- A run of the processes has a legal history.
use Rattle.std.proofs.Common.{◌≡◌, ℕ, List, [], Option, Some, None, refl, subst}
use Rattle.std.specs.Prelude.{slice_index}
use Rattle.type_tree.specs.declared.tree.TExpr.{TExpr}
use Rattle.il_model.specs.declared.program.Program.{Program}
use Rattle.interaction.specs.Process.{Next, Settle, Spell, Ask, Over, Stuck, Naming, Exchange, rests, begins, settles, spells, asks}
use Rattle.interaction.specs.Thread.{Want, Turn, Makes, Turns, request_of, requests_in}
use Rattle.interaction.specs.Thread as thread
use Rattle.interaction.specs.History.{Talks, part}
use Rattle.interaction.specs.Run.{opening, run}
use Rattle.interaction.proofs.RunLoose.{Follows, Runs, moved_runs, run_keeps}
use Rattle.interaction.proofs.Starting.{process-grows}
use Rattle.interaction.proofs.Talks.{talk_on}
use Rattle.store_object.specs.declared.request.Request.{Request}
use Rattle.store_object.specs.declared.reply.Reply.{Reply}
use Rattle.cil_meaning.specs.Naming.{Mention}
use Rattle.cil_meaning.specs.Replies.{Left}
use Rattle.cil_meaning.specs.Meaning.{meaning}
use Rattle.cil_meaning.specs.Threads.{begin, starts, main_frames}
use Rattle.cil_meaning.specs.Language.{Talk, Legal}
use Rattle.unshared.specs.Turns.{settled_by, spelled_by, silent, wants, begun, want, machine}

module _ (p : Program) (n : Naming Mention TExpr) where
  by_settled : (o : Option ℕ) (m : Mention) (k : ℕ → Left) → n.value_of m ≡ o → ((v : ℕ) → Talk p n (k v) [] (silent n (k v))) → Talk p n (Settle m k) [] (settled_by o (Settle m k) (λ v. silent n (k v)))
  by_settled None m k e go = rests
  by_settled (Some v) m k e go = settles e (go v)

  by_spelled : (o : Option TExpr) (i : ℕ) (k : TExpr → Left) → n.tree_at i ≡ o → ((t : TExpr) → Talk p n (k t) [] (silent n (k t))) → Talk p n (Spell i k) [] (spelled_by o (Spell i k) (λ t. silent n (k t)))
  by_spelled None i k e go = rests
  by_spelled (Some t) i k e go = spells e (go t)

  -- what is silent is a talk without requests
  pub silent_talk : (q : Left) → Talk p n q [] (silent n q)
  silent_talk (Next f) = rests
  silent_talk (Settle m k) = by_settled (n.value_of m) m k refl (λ v. silent_talk (k v))
  silent_talk (Spell i k) = by_spelled (n.tree_at i) i k refl (λ t. silent_talk (k t))
  silent_talk (Ask r k) = rests
  silent_talk Over = rests
  silent_talk Stuck = rests

  pub begun_talk : (q : Left) → Talk p n q [] (begun n p q)
  begun_talk (Next f) = begins rests
  begun_talk (Settle m k) = rests
  begun_talk (Spell i k) = rests
  begun_talk (Ask r k) = rests
  begun_talk Over = rests
  begun_talk Stuck = rests

  -- a turn is a talk
  made : {w : ℕ → ℕ} {s : Left} (q : Left) {turn : Turn Request Reply} {t : Left} → Makes w s (wants n q) turn t → Talk p n q (request_of turn) t
  made (Next f) thread.goes = rests
  made (Settle m k) h = elim h [ ]
  made (Spell i k) h = elim h [ ]
  made (Ask r k) (thread.asks {y = y}) = asks (silent_talk (k y))
  made Over h = elim h [ ]
  made Stuck h = elim h [ ]

  one_turn : {w : ℕ → ℕ} (q : Left) {turn : Turn Request Reply} {t : Left} → Makes w q (want n p q) turn t → Talk p n q (request_of turn) t
  one_turn q m = talk_on (begun_talk q) (talk_on (silent_talk (begun n p q)) (made (silent n (begun n p q)) m))

  pub all_turns : {w : ℕ → ℕ} {q t : Left} {ts : List (Turn Request Reply)} → Turns (want n p) w q ts t → Talk p n q (requests_in ts) t
  all_turns thread.none = rests
  all_turns (thread.more {s = s} m ts) = talk_on (one_turn s m) (all_turns ts)

  -- where threads have made their turns, they have talked
  talks_of : (w : ℕ → ℕ) (o moved : Option Left) (trail : List (Turn Request Reply)) (es : List (Exchange Request Reply)) → Follows (machine p n) w o moved trail es → Talks n (meaning p) o es
  talks_of w None moved trail es f = f.2
  talks_of w (Some q) moved trail es f = (f.0, subst (λ l. Talk p n q l f.0) f.3 (all_turns f.2))

  opening_follows : (o : Option Left) (w : ℕ → ℕ) → Follows (machine p n) w o None [] []
  opening_follows None w = (refl, refl, refl)
  opening_follows (Some s) w = (s, refl, thread.none, refl)

  runs_at_first : Runs (machine p n) (opening (machine p n) [])
  runs_at_first = record { replays = tt; stored = refl; each = λ u. opening_follows (begin p [] u) (slice_index []) }

  pub runs_at_last : (schedule : List ℕ) → Runs (machine p n) (run (machine p n) schedule []).world
  runs_at_last schedule =
      run_keeps (machine p n) (Runs (machine p n)) (moved_runs (machine p n) (λ d r u s. process-grows (main_frames p) (starts p) d r u s)) schedule (opening (machine p n) []) runs_at_first

  -- whatever the schedule
  pub run_is_legal : (schedule : List ℕ) → Legal p n (run (machine p n) schedule []).world.history
  run_is_legal schedule =
      let all = runs_at_last schedule in
      record {
        replays = all.replays;
        talks = λ u. talks_of (slice_index (run (machine p n) schedule []).world.words) (begin p (run (machine p n) schedule []).world.history u) ((run (machine p n) schedule []).world.moved u) _ (part u (run (machine p n) schedule []).world.history) (all.each u);
      }
