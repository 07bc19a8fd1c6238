use Rattle.mn_outside.proofs.EntryLemmas.{holds-written, others-written}
use Rattle.mn_outside.proofs.files.MemFilesFiles.TheImpl.Goals as goal

pub write-tells : goal.write-tells
write-tells c = record {
  held = holds-written c.result _ _ _ _ c.ensures.ok;
  others = others-written c.result _ _ _ _ c.ensures.ok c.ensures.err;
  cause = c.ensures.cause;
  reads = λ name. c.ensures.cause.later;
  writes = λ name. c.ensures.cause.later;
}
