use Rattle.unshared.proofs.NoFault.{ends_surely}
use Rattle.unshared.proofs.laws.plain_runs_end_surely.Goals as goal

pub returns : goal.returns
returns c = λ p n numbers never names numbered. ends_surely p n never names numbers numbered
