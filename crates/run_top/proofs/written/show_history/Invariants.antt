use Rattle.std.proofs.Common.{take}
use Rattle.run_top.specs.History.{output}
use Rattle.run_top.proofs.PutLemmas.{Grew}
use Rattle.run_top.proofs.written.show_history.Given as goal

abbrev pub invariant-loop-event : goal.invariant-loop-event
invariant-loop-event g l = Grew (g.K.Sink.written l.fn.out) (g.K.Sink.written l.out) (g.K.Sink.faults l.fn.out) (g.K.Sink.faults l.out) (output (take l.event-index l.history))
