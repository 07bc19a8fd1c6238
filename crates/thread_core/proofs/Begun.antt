-- Where threads begin when one event more has come.
use Rattle.std.proofs.Common.{◌≡◌, ℕ, zero, suc, List, [], ◌∷◌, ◌++◌, Option, Some, None, refl}
use Rattle.std.specs.Prelude.{Bool, true, false, if◌then◌else◌, ◌==◌}
use Rattle.interaction.specs.declared.history.Event.{Event}
use Rattle.interaction.specs.Run.{first_of}
use Rattle.interaction.specs.Starts.{begun_by, begun_in, begin_of}

module _ {R Y A : Type 0} (starts : R → Y → Option (ℕ × A)) where
  by_same : (b : Bool) (a : A) (later one : Option A) (o : Option A) → later ≡ first_of o one → (if b then Some a else later) ≡ first_of (if b then Some a else o) one
  by_same true a later one o e = refl
  by_same false a later one o e = e

  by_start : (u : ℕ) (s : Option (ℕ × A)) (later one o : Option A) → later ≡ first_of o one → begun_by u s later ≡ first_of (begun_by u s o) one
  by_start u None later one o e = e
  by_start u (Some b) later one o e = by_same (b.0 == u) b.1 later one o e

  -- the events that there were begin a thread, or else the last one does
  pub begun_in-push : (h : List (Event R Y)) (e : Event R Y) (u : ℕ) → begun_in starts (h ++ e ∷ []) u ≡ first_of (begun_in starts h u) (begun_by u (starts e.request e.reply) None)
  begun_in-push [] e u = refl
  begun_in-push (c ∷ h) e u = by_start u (starts c.request c.reply) (begun_in starts (h ++ e ∷ []) u) (begun_by u (starts e.request e.reply) None) (begun_in starts h u) (begun_in-push h e u)

  pub begin_of-push : (main : A) (h : List (Event R Y)) (e : Event R Y) (u : ℕ) → begin_of main starts (h ++ e ∷ []) u ≡ first_of (begin_of main starts h u) (begun_by u (starts e.request e.reply) None)
  begin_of-push main h e zero = refl
  begin_of-push main h e (suc u) = begun_in-push h e (suc u)
