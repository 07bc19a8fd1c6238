use Rattle.mn_outside.proofs.EntryLemmas.{set-with_bytes_at}
use Rattle.mn_outside.proofs.entries.replace.Goals as goal

pub returns : goal.returns
returns c = set-with_bytes_at _ _ _ _ c.requires
