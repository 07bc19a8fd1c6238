-- From laws to runs: where threads keep to their processes the machine is sound, and where it is sound each run is legal.
use Rattle.std.proofs.Common.{◌≡◌, ℕ, List, Option, Some, None, refl, sym, ap, ◌∙◌, subst}
use Rattle.std.specs.Prelude.{slice_index}
use Rattle.interaction.specs.declared.history.Event.{Event}
use Rattle.interaction.specs.Process.{Act, Naming}
use Rattle.interaction.specs.Thread.{Turn}
use Rattle.interaction.specs.Simulation.{Sides, GoesOn}
use Rattle.interaction.specs.Object.{replayed}
use Rattle.interaction.specs.History.{Begins, NeverStuck, part}
use Rattle.interaction.specs.LooseRun.{IsStuck, IsSound}
use Rattle.interaction.specs.Run.{Machine, World, Ends, StuckAt, first_of, state_of, state_or, ends_in, run, turns_of, opening}
use Rattle.interaction.specs.RunLaws.{RunLaws}
use Rattle.interaction.specs.Progress.{Advances}
use Rattle.interaction.specs.Sound.{Sound, Progresses, RunsWell}
use Rattle.interaction.proofs.Joining.{Together, loose_is_sound, loose_progress}
use Rattle.interaction.proofs.RunLoose.{Follows, Sane, run_sane, opening_sane, moved_sane, sane_is_loose}
use Rattle.interaction.proofs.Endings.{EndsStuck, chosen_stuck, run_ends, used_not_stuck}

module _ {M T R Y F S X : Type 0} (m : Machine R Y S X) (Fits : List ℕ → Type 0) (Known : List ℕ → List (Turn R Y) → ℕ → Type 0) (naming_of : List ℕ → Naming M T) (meaning : F → Act M T R Y F) (begin : List (Event R Y) → ℕ → Option (Act M T R Y F)) where
  -- the two sides under these words
  abbrev pub sides : (S → ℕ) → List ℕ → Sides M T R Y F S
  sides gain w = record { naming = naming_of w; meaning = meaning; want = m.want; gain = gain; words = slice_index w }

  -- where threads keep to their processes under all words that fit, and these are never stuck, the machine is sound
  pub kept_is_sound : (gain : S → ℕ) (At : Act M T R Y F → S → Type 0) → Begins m.object begin → ((w : List ℕ) → Fits w → GoesOn (sides gain w) At) → ((w : List ℕ) → Fits w → NeverStuck m.object (naming_of w) meaning begin) → ((w : List ℕ) → Fits w → (h : List (Event R Y)) (u : ℕ) → Together (sides gain w) At m.object begin (begin h u) (m.begin h u)) → Sound m Fits Known naming_of meaning begin
  kept_is_sound gain At b on_from safe together = record { each = λ w h trail end fits loose. loose_is_sound (sides gain w) At m.object begin (on_from w fits) b (safe w fits) m.begin (together w fits) (Known w) h trail end loose }

  -- .. and the turns of its threads are paid for
  pub kept_progresses : (gain : S → ℕ) (At : Act M T R Y F → S → Type 0) → Begins m.object begin → ((w : List ℕ) → Fits w → GoesOn (sides gain w) At) → ((w : List ℕ) → Fits w → NeverStuck m.object (naming_of w) meaning begin) → ((w : List ℕ) → Fits w → (h : List (Event R Y)) (u : ℕ) → Together (sides gain w) At m.object begin (begin h u) (m.begin h u)) → Progresses m Fits Known naming_of meaning gain begin
  kept_progresses gain At b on_from safe together = record { each = λ w h trail end fits loose. loose_progress (sides gain w) At m.object begin (on_from w fits) b (safe w fits) m.begin (together w fits) (Known w) h trail end loose }

  module _ (Holds : List ℕ → S → Type 0) (law : RunLaws m Fits Holds Known) (sound : Sound m Fits Known naming_of meaning begin) where
    sound_at : (d : S) (y : World R Y S X) → Sane m Fits Holds Known law y → IsSound m.object (naming_of y.words) meaning m.want begin m.begin (slice_index y.words) y.history (ends_in m d y)
    sound_at d y sane = sound.each y.words y.history (λ u. turns_of u y.turns) (ends_in m d y) sane.fits (sane_is_loose m Fits Holds Known law d y sane)

    -- no thread is stuck in a world of a run
    never_in : (y : World R Y S X) → Sane m Fits Holds Known law y → (u : ℕ) (s : S) → EndsStuck m y u s → ⊥
    never_in y sane u s e = by_begin (m.begin y.history u) refl (sane.runs.each u)
      where
        at_end : ends_in m s y u ≡ s
        at_end = ap (state_or s) e.state

        stuck : IsStuck m.object (replayed m.object m.object.first y.history) (slice_index y.words) u (m.want (ends_in m s y u))
        stuck = subst (λ q. IsStuck m.object (replayed m.object m.object.first y.history) (slice_index y.words) u (m.want q)) (sym at_end) (subst (λ x. IsStuck m.object x (slice_index y.words) u (m.want s)) sane.runs.stored e.stuck)

        by_begin : (o : Option S) → m.begin y.history u ≡ o → Follows m (slice_index y.words) o (y.moved u) (turns_of u y.turns) (part u y.history) → ⊥
        by_begin None is f =
            let none : state_of m y u ≡ None = ap (λ q. first_of q (m.begin y.history u)) f.0 ∙ is in
            cc (none, e.state)
        by_begin (Some a) is f = (sound_at s y sane).goes_on u a is stuck

    -- Every run of a sound machine, at every turn, has a legal history, and no thread is stuck in it; `d` is any state.
    pub sound_runs_well : (d : S) (schedule words : List ℕ) → Fits words → RunsWell m Fits naming_of meaning begin (run m schedule words)
    sound_runs_well d schedule words fits =
        let sane = run_sane m Fits Holds Known law words schedule fits in
        record {
          fits = sane.fits;
          legal = (sound_at d (run m schedule words).world sane).legal;
          goes_on = run_ends m (λ n. Sane m Fits Holds Known law) (λ x e. (u : ℕ) (s : S) → e ≡ StuckAt u s → ⊥) (λ n x u s x' lives is h sane. moved_sane m Fits Holds Known law x u s x' is h sane) (λ x h u s e. used_not_stuck m _ u s e) (λ n x k e h is u s same. never_in x h u s (chosen_stuck m x (λ v t at. law.claims_right x.words t h.fits (h.holds v t at)) _ u s (is ∙ ap Ends same))) schedule (opening m words) (opening_sane m Fits Holds Known law words fits);
        }

    -- and so are the turns of the threads of each run under a schedule
    pub run_progresses : (gain : S → ℕ) → Progresses m Fits Known naming_of meaning gain begin → (d : S) (schedule words : List ℕ) → Fits words → let y = (run m schedule words).world in (u : ℕ) (p : Act M T R Y F) (s : S) → begin y.history u ≡ Some p → m.begin y.history u ≡ Some s → Advances (naming_of y.words) meaning m.want gain (slice_index y.words) p s (turns_of u y.turns) (ends_in m d y u) (part u y.history)
    run_progresses gain progress d schedule words fits =
        let sane = run_sane m Fits Holds Known law words schedule fits in
        progress.each (run m schedule words).world.words (run m schedule words).world.history (λ u. turns_of u (run m schedule words).world.turns) (ends_in m d (run m schedule words).world) sane.fits (sane_is_loose m Fits Holds Known law d (run m schedule words).world sane)
