use Rattle.il_parse.proofs.ProgramsNamed.{program_complete, program_unique}
use Rattle.il_parse.proofs.TextsNamed.{written_sound}
use Rattle.il_parse.proofs.laws.names_give_one_program.Goals as goal

pub returns : goal.returns
returns c = record { found = written_sound; named = program_complete; one = program_unique }
