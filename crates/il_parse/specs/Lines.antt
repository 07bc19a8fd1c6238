-- One line of a body, as the parser reads it. This project's own.
use Rattle.std.specs.Prelude.{ℕ, ◌==◌, ◌-◌, if◌then◌else◌, List, [], ◌∷◌, ◌++◌, drop, Option, Some, None, Ok}
use Rattle.il_model.specs.declared.written.WrittenLine.{WrittenLine}
use Rattle.il_model.specs.declared.written.WrittenLine.TheVariants as line
use Rattle.il_model.specs.Lexemes.{Lexeme, name_at}
use Rattle.il_parse.specs.declared.fault.ParseCause.TheVariants as cause
use Rattle.il_parse.specs.declared.lines.Start.{Start}
use Rattle.il_parse.specs.declared.lines.Start.TheVariants as start
use Rattle.il_parse.specs.Reading.{Reader, ◌>>=◌, pure, stuck, refuse}
use Rattle.il_parse.specs.Mnemonics.{Mnemonic}
use Rattle.il_parse.specs.Operands.{read_instr}
use Rattle.il_parse.specs.Bodies.{LineStart, no_line, labels, instructs, left_out, unknown, line_start, lines_from}
use Rattle.il_parse.specs.Tables.{mnemonic_view}

-- what the lexemes begin with; at the end no line comes
abbrev pub start_of_line : List Lexeme → LineStart
start_of_line [] = no_line
start_of_line (l ∷ ws) = line_start l ws

abbrev pub start_view : Start → LineStart
start_view start.NoLine = no_line
start_view start.Label = labels
start_view (start.Instr says) = instructs (mnemonic_view says)
start_view start.LeftOut = left_out
start_view start.Unknown = unknown

-- a label, whose name is the first lexeme, and its colon
unfoldable pub label_line : Reader (Option WrittenLine)
label_line [] = stuck []
label_line (l ∷ ws) = Ok (Some (line.Label (name_at l)), drop 1 ws)

-- an instruction, whose word is the first lexeme and says this
unfoldable pub instr_line : Mnemonic → Reader (Option WrittenLine)
instr_line says [] = stuck []
instr_line says (l ∷ ws) = (read_instr l.at says >>= (λ i. pure (Some (line.Instr i)))) ws

-- the line that begins so, where so many instructions may still come, or none
abbrev pub line_by : ℕ → LineStart → Reader (Option WrittenLine)
line_by left no_line = pure None
line_by left labels = label_line
line_by left (instructs says) = λ ws. if left == 0 then refuse cause.TooMany ws else instr_line says ws
line_by left left_out = stuck
line_by left unknown = λ ws. stuck (drop 1 ws)

unfoldable pub one_line : ℕ → Reader (Option WrittenLine)
one_line left = λ ws. line_by left (start_of_line ws) ws

-- how many instructions may come behind this line
abbrev pub left_behind : ℕ → WrittenLine → ℕ
left_behind left (line.Label name) = left
left_behind left (line.Instr i) = left - 1

-- the lines behind this one
abbrev pub lines_behind : ℕ → ℕ → List WrittenLine → Option WrittenLine → Reader (List WrittenLine)
lines_behind n left found None = pure found
lines_behind n left found (Some l) = lines_from n (left_behind left l) (found ++ l ∷ [])
