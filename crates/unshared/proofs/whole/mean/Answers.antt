use Rattle.std.proofs.Common.{sym, subst}
use Rattle.il_model.specs.ClassRules.{HasTypes}
use Rattle.cil_safety.proofs.Known.{never_stuck_accepted}
use Rattle.unshared.specs.Runs.{IsMeant}
use Rattle.unshared.proofs.NoFault.{meant_surely}
use Rattle.unshared.proofs.VerifiedLemmas.{types_of}
use Rattle.unshared.proofs.whole.mean.Goals as goal

pub runs-requires-clause-types : goal.runs-requires-clause-types
runs-requires-clause-types c = subst HasTypes (sym c.program.ensures) (types_of c.args.program.now c.requires.verified)

pub returns-clause-sure : goal.returns-clause-sure
returns-clause-sure c = λ of.
    let m = c.in_ok-runs.field-0 in
    let v = c.requires.verified in
    meant_surely c.args.program.now.program c.args.chooser c.args.turns m.trees m.schedule.items m.order.items m.history.items m.ending
    (never_stuck_accepted c.args.program.now.program of v.built v.well_typed)
    (subst (λ p. IsMeant p c.args.chooser c.args.turns m.trees m.schedule.items m.order.items m.history.items m.ending) c.program.ensures (c.in_ok-runs.ensures {u = tt}))
