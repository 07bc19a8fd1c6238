use Rattle.std.proofs.Common.{◌≡◌, drop}
use Rattle.il_parse.specs.Looking.{each_from}
use Rattle.il_parse.specs.NamedTypes.{param_named, params_named}
use Rattle.il_parse.proofs.named_params.params_named.Given as goal

abbrev pub invariant-loop-each : goal.invariant-loop-each
invariant-loop-each l = params_named l.scope l.fn.written ≡ each_from (param_named l.scope) l.found (drop l.each-index l.written)
