use Rattle.std.proofs.Common.{◌≡◌, drop, flat_map}
use Rattle.il_model.specs.Entries.{clause_entries}
use Rattle.rgctx_template.specs.Collected.{collected}
use Rattle.rgctx_template.proofs.templating.add_clauses.Given as goal

abbrev pub invariant-loop-clause : goal.invariant-loop-clause
invariant-loop-clause l =
    collected l.entries (flat_map clause_entries (drop l.clause-index l.clauses)) ≡ collected l.initial.entries (flat_map clause_entries l.clauses)
