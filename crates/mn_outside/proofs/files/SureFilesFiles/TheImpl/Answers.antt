use Rattle.std.proofs.Common.{arith}
use Rattle.mn_outside.proofs.CauseLemmas.{cause-never}
use Rattle.mn_outside.proofs.EntryLemmas.{holds-written_or_empty, others-written_or_empty}
use Rattle.mn_outside.proofs.files.SureFilesFiles.TheImpl.Goals as goal

pub write-tells : goal.write-tells
write-tells c = record {
  held = holds-written_or_empty c.result _ _ _ _ c.ensures.ok;
  others = others-written_or_empty c.result _ _ _ _ c.ensures.ok c.ensures.err;
  cause = cause-never c.result c.ensures.never;
  reads = λ name. omega arith;
  writes = λ name. omega arith;
}
