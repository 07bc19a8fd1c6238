use Rattle.run_top.proofs.Deepest.{finds}
use Rattle.run_top.proofs.first.deepest_stack.Goals as goal

pub deepest-requires : goal.deepest-requires
deepest-requires c = finds 0 _ c.requires.fine
