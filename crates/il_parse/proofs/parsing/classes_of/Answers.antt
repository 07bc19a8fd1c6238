use Rattle.std.proofs.Common.{ap, subst, [], rules}
use Rattle.il_parse.specs.Looking.{Looks}
use Rattle.il_parse.specs.Classes.{read_program, classes_from, class_room, method_room, outcome}
use Rattle.il_parse.proofs.ParsingLemmas.{read_looks}
use Rattle.il_parse.proofs.parsing.classes_of.Goals as goal

pub returns : goal.returns
unfolding read_program
returns c =
    subst (λ ws. Looks (outcome (classes_from class_room method_room [] ws)) c.read_classes.result) c.new-cursor.ensures
    (read_looks _ c.read_classes.result _ c.read_classes.ensures)
