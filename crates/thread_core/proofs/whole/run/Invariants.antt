use Rattle.std.proofs.Common.{◌≡◌, ◌-◌, drop}
use Rattle.rgctx_fill.specs.ThreadStates.{image_of}
use Rattle.schedules.specs.Drawn.{left, HasLeft}
use Rattle.schedules.specs.Numbers.{numbers}
use Rattle.thread_core.specs.Reached.{IsAt}
use Rattle.thread_core.proofs.whole.run.Given as goal

abbrev pub invariant-loop-turn : goal.invariant-loop-turn
invariant-loop-turn l = record {
  at : IsAt (image_of l.image) (numbers l.chooser l.fn.turns) l._turn l._turn l.progress;
  left : drop l._turn (numbers l.chooser l.fn.turns) ≡ left l.chooser l.drawing (l.fn.turns - l._turn);
  enough : HasLeft l.chooser l.drawing (l.fn.turns - l._turn);
}
