use Rattle.rv_isa.proofs.RowLemmas.{decodes}
use Rattle.rv_isa.proofs.laws.reads_what_was_written.Goals as goal

pub returns : goal.returns
returns c = decodes
