use Rattle.std.proofs.Common.{◌≡◌, drop}
use Rattle.il_parse.specs.NamedTypes.{vars_named, vars_named_from}
use Rattle.il_parse.proofs.named_params.vars_named.Given as goal

abbrev pub invariant-loop-each : goal.invariant-loop-each
invariant-loop-each l = vars_named l.scope l.fn.written ≡ vars_named_from l.scope l.met l.found (drop l.each-index l.written)
