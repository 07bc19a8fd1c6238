use Rattle.text_cases.proofs.types.judged.Goals as goal
use Rattle.text_cases.proofs.Accepting.{types_of, few_of}

pub returns-clause-types : goal.returns-clause-types
returns-clause-types c = types_of _ _ c.verify.ensures

pub returns-clause-few : goal.returns-clause-few
returns-clause-few c = few_of _ _ c.verify.ensures
