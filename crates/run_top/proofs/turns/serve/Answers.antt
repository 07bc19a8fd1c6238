use Rattle.std.proofs.Common.{refl, arith}
use Rattle.run_top.specs.declared.machine.Mode.TheVariants.{Code}
use Rattle.run_top.specs.Machine.{with_mode}
use Rattle.run_top.specs.Gives.{thread_of}
use Rattle.run_top.proofs.turns.serve.Goals as goal

pub returns-then-service-eq24 : goal.returns-then-service-eq24
returns-then-service-eq24 c = (λ reply. with_mode (thread_of c.args.core.now c.args.frame.now) Code, grind arith, λ reply. refl)
