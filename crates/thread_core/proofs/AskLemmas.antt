-- How a reply refuses a request.
use Rattle.std.proofs.Common.{◌≡◌, ◌⊎◌, ◌||◌, inl, inr, ℕ, true, false, List, [], ◌∷◌, ◌++◌, Some, None, if◌then◌else◌, refl, sym, ap, ◌∙◌}
use Rattle.interaction.specs.declared.history.Event.{Event}
use Rattle.store_object.specs.declared.ending.Ending.{Ending}
use Rattle.store_object.specs.declared.ending.Ending.TheVariants as ends
use Rattle.store_object.specs.declared.request.Request.{Request}
use Rattle.store_object.specs.declared.reply.Reply.{Reply}
use Rattle.store_object.specs.declared.reply.Reply.TheVariants as says
use Rattle.store_object.specs.Replay.{is_halted, is_improper, noted}
use Rattle.rgctx_fill.specs.ThreadStates.{ThreadData}
use Rattle.thread_core.specs.Runs.{improper_fault, refusal}

abbrev pub IsRefused : ThreadData → Reply → Ending → Type 0
IsRefused t reply e = ((is_improper reply ≡ true) × (e ≡ ends.Fault (improper_fault t))) ⊎ ((is_improper reply ≡ false) × (is_halted reply ≡ true) × (e ≡ ends.Done))

pub refused_so : (t : ThreadData) (reply : Reply) (e : Ending) → refusal t reply ≡ Some e → IsRefused t reply e
refused_so t (says.Object number) e is = absurd (cc is)
refused_so t (says.Kind number) e is = absurd (cc is)
refused_so t (says.Word word) e is = absurd (cc is)
refused_so t (says.Thread thread) e is = absurd (cc is)
refused_so t (says.Ended has_finished) e is = absurd (cc is)
refused_so t says.Unknown e is = absurd (cc is)
refused_so t says.Done e is = absurd (cc is)
refused_so t (says.Stopped why) e is = absurd (cc is)
refused_so t says.Halted e is = let same : ends.Done ≡ e = cc is in inr (refl, refl, sym same)
refused_so t says.Improper e is = let same : ends.Fault (improper_fault t) ≡ e = cc is in inl (refl, sym same)

pub accepted_so : (t : ThreadData) (reply : Reply) → refusal t reply ≡ None → (is_halted reply ≡ false) × (is_improper reply ≡ false)
accepted_so t (says.Object number) is = (refl, refl)
accepted_so t (says.Kind number) is = (refl, refl)
accepted_so t (says.Word word) is = (refl, refl)
accepted_so t (says.Thread thread) is = (refl, refl)
accepted_so t (says.Ended has_finished) is = (refl, refl)
accepted_so t says.Unknown is = (refl, refl)
accepted_so t says.Done is = (refl, refl)
accepted_so t (says.Stopped why) is = (refl, refl)
accepted_so t says.Halted is = absurd (cc is)
accepted_so t says.Improper is = absurd (cc is)

module _ (h : List (Event Request Reply)) (u : ℕ) (q : Request) (y : Reply) where
  pub noted_none : (t : ThreadData) (e : Ending) → refusal t y ≡ Some e → noted h u q y ≡ h
  noted_none t e is = by y is
    where
      by : (z : Reply) → refusal t z ≡ Some e → noted h u q z ≡ h
      by (says.Object number) is' = absurd (cc is')
      by (says.Kind number) is' = absurd (cc is')
      by (says.Word word) is' = absurd (cc is')
      by (says.Thread thread) is' = absurd (cc is')
      by (says.Ended has_finished) is' = absurd (cc is')
      by says.Unknown is' = absurd (cc is')
      by says.Done is' = absurd (cc is')
      by (says.Stopped why) is' = absurd (cc is')
      by says.Halted is' = refl
      by says.Improper is' = refl

  pub noted_one : is_halted y ≡ false → is_improper y ≡ false → noted h u q y ≡ h ++ record { thread = u; request = q; reply = y } ∷ []
  noted_one goes proper =
      ap (λ b. if b || is_improper y then h else h ++ record { thread = u; request = q; reply = y } ∷ []) goes
      ∙ ap (λ b. if b then h else h ++ record { thread = u; request = q; reply = y } ∷ []) proper
