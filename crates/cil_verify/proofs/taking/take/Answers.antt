use Rattle.cil_verify.proofs.TakingLemmas.{top_taken}
use Rattle.cil_verify.proofs.taking.take.Goals as goal

pub returns : goal.returns
returns c = top_taken c.pop.result c.args.stack.now c.pop.new.self c.pop.ensures
