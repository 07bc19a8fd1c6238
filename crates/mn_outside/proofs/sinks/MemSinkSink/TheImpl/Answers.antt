use Rattle.mn_outside.proofs.CauseLemmas.{prefix-on_err}
use Rattle.mn_outside.proofs.sinks.MemSinkSink.TheImpl.Goals as goal

pub put-tells : goal.put-tells
put-tells c = record {
  ok = c.ensures.ok;
  err = prefix-on_err c.result _ _ _ c.ensures.err;
  cause = c.ensures.cause;
}
