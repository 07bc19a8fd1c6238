use Rattle.il_parse.proofs.FaultPlaces.{fault_inside}
use Rattle.il_parse.proofs.parsing.unreadable.Goals as goal

pub spot-requires-clause-inside : goal.spot-requires-clause-inside
spot-requires-clause-inside c = (fault_inside c.args.text.now c.args.fault c.requires).inside

pub spot-requires-clause-short : goal.spot-requires-clause-short
spot-requires-clause-short c = (fault_inside c.args.text.now c.args.fault c.requires).early
