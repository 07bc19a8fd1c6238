use Rattle.std.proofs.lemmas.Bool.Decides.{same_from_decides}
use Rattle.il_parse.specs.SameTypes.{same_result}
use Rattle.il_parse.specs.SameSignature.{same_result-Decides}
use Rattle.il_parse.proofs.signatures.is_result_same.Goals as goal

pub returns : goal.returns
returns c =
    same_from_decides c.same_result.result (same_result c.args.first.now c.args.second.now) c.same_result.ensures (same_result-Decides c.args.first.now c.args.second.now)
