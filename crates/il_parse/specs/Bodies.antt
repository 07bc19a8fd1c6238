-- Reading bodies: the rules `body` and `try` of the grammar.
use Rattle.std.specs.Prelude.{ℕ, zero, suc, ◌-◌, ◌==◌, Bool, not, ◌&&◌, if◌then◌else◌, List, [], ◌∷◌, ◌++◌, drop, length, Option, Some, None, Ok, codes, bytes_eq}
use Rattle.il_model.specs.declared.written.WrittenParam.{WrittenParam}
use Rattle.il_model.specs.declared.written.WrittenLine.{WrittenLine}
use Rattle.il_model.specs.declared.written.WrittenLine.TheVariants as line
use Rattle.il_model.specs.declared.written.WrittenClause.{WrittenClause}
use Rattle.il_model.specs.declared.written.WrittenBody.{WrittenBody}
use Rattle.il_model.specs.Lexemes.{Lexeme, is_among, name_at}
use Rattle.il_parse.specs.declared.fault.ParseCause.TheVariants as cause
use Rattle.il_parse.specs.Reading.{Reader, ◌>>=◌, ◌>>◌, pure, stuck, refuse, unsupported_words, sees, eat, expect, is_word_kind, read_name, read_many, read_separated}
use Rattle.il_parse.specs.Types.{read_type, read_param, read_enclosed}
use Rattle.il_parse.specs.Mnemonics.{Mnemonic, mnemonic_of}
use Rattle.il_parse.specs.Operands.{read_instr}

-- the word `.entrypoint` if it stands there, which it may where the method is such that a program can begin
unfoldable pub read_entry : Bool → Reader (Option ℕ)
read_entry may_begin [] = Ok (None, [])
read_entry may_begin (l ∷ ws) =
    if bytes_eq (codes ".entrypoint") l.bytes
    then (if may_begin then Ok (Some l.at, ws) else refuse cause.Syntax (l ∷ ws))
    else Ok (None, l ∷ ws)

-- the locals, if there are any
unfoldable pub read_locals : Reader (List WrittenParam)
read_locals = do
  are_there ← eat (codes ".locals")
  if are_there then expect (codes "init") >> read_enclosed (read_separated read_param (codes ",")) else pure []

-- what a line begins with: a label; the word of an instruction; a word that is left out; or another
pub data LineStart : Type 0 where
  no_line : LineStart
  labels : LineStart
  instructs : Mnemonic → LineStart
  left_out : LineStart
  unknown : LineStart

abbrev pub start_of_word : Option Mnemonic → List ℕ → LineStart
start_of_word (Some says) bytes = instructs says
start_of_word None bytes = if is_among unsupported_words bytes then left_out else unknown

-- what these lexemes begin with. A word before `:` is a label, whatever else it is, except `.try`
unfoldable pub line_start : Lexeme → List Lexeme → LineStart
line_start l ws =
    if is_word_kind l.kind && not (bytes_eq (codes ".try") l.bytes)
    then (if sees (codes ":") ws then labels else start_of_word (mnemonic_of l.bytes) l.bytes) else no_line

-- a method has at most so many instructions
abbrev pub most_instrs : ℕ
most_instrs = 16384

-- what follows the first lexeme of a line and, by the reader of others, the lines behind it
abbrev pub read_line : (ℕ → List WrittenLine → Reader (List WrittenLine)) → ℕ → List WrittenLine → LineStart → Lexeme → Reader (List WrittenLine)
read_line others left found no_line l ws = Ok (found, l ∷ ws)
read_line others left found labels l ws = others left (found ++ line.Label (name_at l) ∷ []) (drop 1 ws)
read_line others left found (instructs says) l ws =
    if left == 0 then refuse cause.TooMany (l ∷ ws)
    else (read_instr l.at says >>= (λ i. others (left - 1) (found ++ line.Instr i ∷ []))) ws
read_line others left found left_out l ws = stuck (l ∷ ws)
read_line others left found unknown l ws = stuck ws

-- labels and instructions behind those found, where so many instructions may still come; the first number is at least that of the lexemes
unfoldable pub lines_from : ℕ → ℕ → List WrittenLine → Reader (List WrittenLine)
lines_from n left found [] = Ok (found, [])
lines_from zero left found (l ∷ ws) = Ok (found, l ∷ ws)
lines_from (suc n) left found (l ∷ ws) = read_line (λ more lines. lines_from n more lines) left found (line_start l ws) l ws

unfoldable pub read_lines : Reader (List WrittenLine)
read_lines = λ ws. lines_from (length ws) most_instrs [] ws

-- `try`
unfoldable pub read_clause : Reader WrittenClause
read_clause = do
  expect (codes ".try")
  from ← read_name
  expect (codes "to")
  to ← read_name
  expect (codes "catch")
  t ← read_type
  expect (codes "handler")
  start ← read_name
  expect (codes "to")
  end ← read_name
  pure (record { from = from; to = to; catches = t; handler = start; end = end })

-- `body`, in a method in which a program can begin or not
unfoldable pub read_body : Bool → Reader WrittenBody
read_body may_begin = do
  entry ← read_entry may_begin
  locals ← read_locals
  lines ← read_lines
  clauses ← read_many read_clause (codes ".try")
  pure (record { entry = entry; locals = locals; lines = lines; clauses = clauses })
