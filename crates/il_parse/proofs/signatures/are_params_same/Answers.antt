use Rattle.std.proofs.lemmas.Bool.Decides.{same_from_decides}
use Rattle.il_parse.specs.SameTypes.{same_params}
use Rattle.il_parse.specs.SameSignature.{same_params-Decides}
use Rattle.il_parse.proofs.signatures.are_params_same.Goals as goal

pub returns : goal.returns
returns c =
    same_from_decides c.same_params.result (same_params c.args.first.now c.args.second.now) c.same_params.ensures (same_params-Decides c.args.first.now c.args.second.now)
