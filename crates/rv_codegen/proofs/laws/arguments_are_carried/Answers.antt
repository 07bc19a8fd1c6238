use Rattle.rv_codegen.proofs.EntryCarries.{entry_carries, entry_short}
use Rattle.rv_codegen.proofs.laws.arguments_are_carried.Goals as goal

pub returns-clause-entry : goal.returns-clause-entry
returns-clause-entry c b = entry_carries b

pub returns-clause-short : goal.returns-clause-short
returns-clause-short c b = entry_short b
