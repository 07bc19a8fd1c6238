use Rattle.cil_safety.proofs.Known.{never_stuck_accepted}
use Rattle.unshared.proofs.NoFault.{meant_surely}
use Rattle.unshared.proofs.laws.verified_runs_end_surely.Goals as goal

pub returns : goal.returns
returns c = λ v chooser turns trees schedule order history ending of verified meant. meant_surely v.program chooser turns trees schedule order history ending (never_stuck_accepted v.program of verified.built verified.well_typed) meant
