use Rattle.std.proofs.Common.{◌≡◌, drop}
use Rattle.il_parse.specs.Looking.{each_from}
use Rattle.il_parse.specs.NamedTypes.{type_named, types_named}
use Rattle.il_parse.proofs.named_types.+named.Given as goal

abbrev pub invariant-types_named-loop-each : goal.invariant-types_named-loop-each
invariant-types_named-loop-each l = types_named l.scope l.fn.written ≡ each_from (type_named l.scope) l.found (drop l.each-index l.written)
