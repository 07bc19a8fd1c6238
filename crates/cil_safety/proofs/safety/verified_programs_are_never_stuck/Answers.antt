use Rattle.cil_safety.proofs.Known.{never_stuck_accepted}
use Rattle.cil_safety.proofs.safety.verified_programs_are_never_stuck.Goals as goal

pub returns : goal.returns
returns c = record { safe = λ v of verified. never_stuck_accepted v.program of verified.built verified.well_typed }
