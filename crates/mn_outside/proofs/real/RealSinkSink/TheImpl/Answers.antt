use Rattle.mn_outside.proofs.CauseLemmas.{appends-untold, prefix-untold}
use Rattle.mn_outside.proofs.real.RealSinkSink.TheImpl.Goals as goal

pub put-tells : goal.put-tells
put-tells g c = record {
  ok = appends-untold c.result c.args.bytes.now;
  err = prefix-untold c.result c.args.bytes.now;
  cause = c.ensures.cause;
}
