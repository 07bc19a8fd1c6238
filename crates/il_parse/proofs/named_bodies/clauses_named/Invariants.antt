use Rattle.std.proofs.Common.{◌≡◌, drop}
use Rattle.il_parse.specs.Looking.{each_of, each_from}
use Rattle.il_parse.specs.NamedBodies.{clause_named}
use Rattle.il_parse.proofs.named_bodies.clauses_named.Given as goal

abbrev pub invariant-loop-clause : goal.invariant-loop-clause
invariant-loop-clause l = each_of (clause_named l.scope l.labels) l.written ≡ each_from (clause_named l.scope l.labels) l.found (drop l.clause-index l.written)
