use Rattle.std.proofs.Common.{take}
use Rattle.unshared.specs.Listed.{naming_of}
use Rattle.run_top.specs.Written.{meant_output}
use Rattle.run_top.proofs.PutLemmas.{Grew}
use Rattle.run_top.proofs.meant_lines.show_history.Given as goal

abbrev pub invariant-loop-event : goal.invariant-loop-event
invariant-loop-event g l = Grew (g.K.Sink.written l.fn.out) (g.K.Sink.written l.out) (g.K.Sink.faults l.fn.out) (g.K.Sink.faults l.out) (meant_output l.program (naming_of l.trees) (take l.event-index l.history))
