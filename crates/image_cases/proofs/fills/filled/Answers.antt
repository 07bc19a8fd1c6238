use Rattle.image_cases.proofs.FillLemmas.{on_more}
use Rattle.image_cases.proofs.fills.filled.Goals as goal

pub returns-in-Value : goal.returns-in-Value
returns-in-Value c = c.turn.ensures.met c.args.cat.now c.loop.invariant.0 c.loop.invariant.1.0

pub returns-in-Full : goal.returns-in-Full
returns-in-Full c = c.turn.ensures.met c.args.cat.now c.loop.invariant.0 c.loop.invariant.1.0

pub loop-preserved : goal.loop-preserved
loop-preserved c =
    let cat = c.args.cat.now in
    let met = c.loop.invariant.0 in
    let ready = c.loop.invariant.1.0 in
    (c.turn.ensures.met cat met ready, (c.in-More.ensures.comes cat met ready, on_more c.turn.new.self.stage c.in-More.ensures.turn.leads))
