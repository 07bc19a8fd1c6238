-- The end where so many turns are made, by whether a number chooses a thread then.
use Rattle.std.proofs.Common.{◌≡◌, ℕ, List, [], ◌∷◌, Some, None, refl, sym, ap}
use Rattle.std.specs.List.{last_or}
use Rattle.interaction.specs.Run.{chosen}
use Rattle.interaction.proofs.Choosing.{chosen_none}
use Rattle.cil_meaning.specs.Shown.{History}
use Rattle.store_object.specs.declared.ending.Ending.TheVariants as ends
use Rattle.schedules.specs.Ends.{ended_by}
use Rattle.unshared.specs.Runs.{last_ending}

pub ends_none : (h : History) (live : List ℕ) → chosen live 0 ≡ None → ended_by (last_or None h) ≡ last_ending h live
ends_none h live none = ap (last_ending h) (sym (chosen_none live 0 none))

pub ends_some : (h : History) (live : List ℕ) (thread : ℕ) → chosen live 0 ≡ Some thread → ends.Turns ≡ last_ending h live
ends_some h [] thread some = absurd (cc some)
ends_some h (t ∷ ts) thread some = refl
