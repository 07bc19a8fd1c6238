use Rattle.std.proofs.Common.{slice_get}
use Rattle.cil_meaning.specs.Groups.{group_of}
use Rattle.rv_codegen.specs.PlainItems.{stack_of}
use Rattle.rv_codegen.proofs.ShortLemmas.{all_few}
use Rattle.rv_codegen.proofs.laws.plain_instructions_are_short.Goals as goal

pub returns : goal.returns
returns c b plan at o = all_few b plan at (stack_of (slice_get b.states at)) (group_of o)
