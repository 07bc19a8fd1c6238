use Rattle.interaction.proofs.CounterSafety.{counter_never_stuck}
use Rattle.interaction.proofs.CounterRuns.{is_sound, progress, loose, runs_well, ends_so, legal_later}
use Rattle.interaction.proofs.counter.counter_runs_soundly.Goals as goal

pub returns-clause-never_stuck : goal.returns-clause-never_stuck
returns-clause-never_stuck c = counter_never_stuck

pub returns-clause-sound : goal.returns-clause-sound
returns-clause-sound c = is_sound

pub returns-clause-progress : goal.returns-clause-progress
returns-clause-progress c = progress

pub returns-clause-loose : goal.returns-clause-loose
returns-clause-loose c = loose

pub returns-clause-runs : goal.returns-clause-runs
returns-clause-runs c = runs_well

pub returns-clause-grows : goal.returns-clause-grows
returns-clause-grows c = legal_later

pub returns-clause-ends : goal.returns-clause-ends
returns-clause-ends c = ends_so
