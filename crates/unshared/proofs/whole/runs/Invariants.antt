use Rattle.std.proofs.Common.{◌≡◌, ◌-◌, drop}
use Rattle.schedules.specs.Drawn.{left, HasLeft}
use Rattle.schedules.specs.Numbers.{numbers}
use Rattle.unshared.specs.Reached.{IsAt}
use Rattle.unshared.proofs.whole.runs.Given as goal

abbrev pub invariant-loop-turn : goal.invariant-loop-turn
invariant-loop-turn l = record {
  at : IsAt l.program (numbers l.chooser l.fn.turns) l._turn l.run;
  left : drop l._turn (numbers l.chooser l.fn.turns) ≡ left l.chooser l.drawing (l.fn.turns - l._turn);
  enough : HasLeft l.chooser l.drawing (l.fn.turns - l._turn);
}
