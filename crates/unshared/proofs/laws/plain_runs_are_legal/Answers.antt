use Rattle.unshared.proofs.Legality.{run_is_legal}
use Rattle.unshared.proofs.laws.plain_runs_are_legal.Goals as goal

pub returns : goal.returns
returns c = λ p n numbers. run_is_legal p n numbers
