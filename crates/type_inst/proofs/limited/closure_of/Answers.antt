use Rattle.std.proofs.Common.{◌∙◌, sym}
use Rattle.type_inst.proofs.LimitedLemmas.{closure_large}
use Rattle.type_inst.proofs.limited.closure_of.Goals as goal

pub returns-then-is_large : goal.returns-then-is_large
returns-then-is_large c = closure_large c.args.program.now c.args.root.now (sym c.is_large.ensures ∙ c.if-is_large.true)
