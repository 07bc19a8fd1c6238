use Rattle.std.proofs.Common.{refl}
use Rattle.mn_outside.proofs.CauseLemmas.{holds-untold, holds_now-untold}
use Rattle.mn_outside.proofs.real.RealFilesFiles.TheImpl.Goals as goal

pub read-tells : goal.read-tells
read-tells g c = record {
  bytes = holds-untold (λ x. x.items) c.result c.args.name.now;
  held = refl;
  cause = c.ensures.cause;
  reads = λ name. c.ensures.cause.later;
  writes = λ name. c.ensures.cause.later;
}

pub write-tells : goal.write-tells
write-tells g c = record {
  held = holds_now-untold c.result c.args.name.now c.args.bytes.now;
  others = tt;
  cause = c.ensures.cause;
  reads = λ name. c.ensures.cause.later;
  writes = λ name. c.ensures.cause.later;
}
