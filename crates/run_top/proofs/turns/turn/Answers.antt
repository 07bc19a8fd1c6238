use Rattle.std.proofs.Common.{refl, ap}
use Rattle.run_top.specs.declared.machine.Mode.TheVariants.{Gone}
use Rattle.run_top.specs.Machine.{with_mode, want_in}
use Rattle.run_top.specs.Gives.{thread_of}
use Rattle.run_top.proofs.turns.turn.Goals as goal

pub returns-in-Leaving : goal.returns-in-Leaving
returns-in-Leaving c =
    let t = thread_of c.args.core.now c.args.frame.now in
    (λ reply. with_mode t Gone, ap (λ mode. want_in mode c.args.image.now t) c.in-Leaving.is, λ reply. refl)
