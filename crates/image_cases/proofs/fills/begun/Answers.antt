use Rattle.image_cases.proofs.fills.begun.Goals as goal

pub returns-in_err-fill-clause-met : goal.returns-in_err-fill-clause-met
returns-in_err-fill-clause-met c = c.start.ensures.met c.args.cat.now c.requires.met

pub returns-in-Ready-clause-met : goal.returns-in-Ready-clause-met
returns-in-Ready-clause-met c = c.start.ensures.met c.args.cat.now c.requires.met

pub returns-in-Refused-clause-met : goal.returns-in-Refused-clause-met
returns-in-Refused-clause-met c = c.start.ensures.met c.args.cat.now c.requires.met
