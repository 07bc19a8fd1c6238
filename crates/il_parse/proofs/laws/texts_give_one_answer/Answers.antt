use Rattle.il_parse.proofs.TextsNamed.{parses_once, parses_says, accepted_parses, one_program}
use Rattle.il_parse.proofs.laws.texts_give_one_answer.Goals as goal

pub returns : goal.returns
returns c = record { one = parses_once; says = parses_says; given = accepted_parses; program = one_program }
