use Rattle.std.proofs.Common.{rules, arith}
use Rattle.std.proofs.lemmas.Grind.{common_steps}
use Rattle.unshared.proofs.NumberLemmas.{number_there, grown_new}
use Rattle.unshared.proofs.trees.Trees.number_of.Goals as goal

pub returns-in-Ok-clause-grows : goal.returns-in-Ok-clause-grows
returns-in-Ok-clause-grows c =
    let made = c.in_ok-place.ensures {u = tt} in
    grown_new c.args.self.now.kinds _ c.args.kind.now made.list made.kept c.requires

pub returns-in-Ok-clause-number : goal.returns-in-Ok-clause-number
returns-in-Ok-clause-number c = λ later ext.
    let made = c.in_ok-place.ensures {u = tt} in
    let grown = grown_new c.args.self.now.kinds _ c.args.kind.now made.list made.kept c.requires in
    let e = number_there _ later c.args.kind.now _ grown.once made.place ext in
    first_of (search rules, grind (arith, common_steps))
