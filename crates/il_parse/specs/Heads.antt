-- How a type begins, as the parser keeps it. This project's own.
use Rattle.std.specs.Prelude.{List, ℕ, ◌-◌}
use Rattle.il_text.specs.declared.token.TokenKind.{TokenKind}
use Rattle.il_text.specs.declared.token.TokenKind.TheVariants as token
use Rattle.il_model.specs.declared.written.WrittenName.{WrittenName}
use Rattle.il_model.specs.declared.written.WrittenType.{WrittenType}
use Rattle.il_model.specs.declared.written.WrittenType.TheVariants as w
use Rattle.il_model.specs.Lexemes.{Lexeme}
use Rattle.il_parse.specs.declared.types.Start.{Start}
use Rattle.il_parse.specs.declared.types.Start.TheVariants as start
use Rattle.il_parse.specs.declared.fault.Fault.{Fault}
use Rattle.il_parse.specs.declared.fault.ParseCause.TheVariants as cause
use Rattle.il_parse.specs.Reading.{Reader, stuck_fault, fault_at}
use Rattle.il_parse.specs.Types.{Head, whole, class_name, no_type, read_type_within}

abbrev pub head_view : Start → Head
head_view (start.Whole t) = whole t
head_view (start.ClassName name) = class_name name
head_view start.NoType = no_type

-- how a name of this kind begins a type
abbrev pub head_of_kind : WrittenName → TokenKind → Head
head_of_kind name token.Word = class_name name
head_of_kind name token.Variable = whole (w.Variable name)
head_of_kind name token.Number = no_type
head_of_kind name token.Text = no_type
head_of_kind name token.Mark = no_type

-- the types inside a type that may nest so deep
abbrev pub inner : ℕ → ℕ → Reader (WrittenType × ℕ)
inner depth left = read_type_within (depth - 1) left

-- the fault where no position may come any more
abbrev pub no_head_fault : Head → List Lexeme → Fault
no_head_fault no_type ws = stuck_fault ws
no_head_fault (whole t) ws = fault_at ws cause.TooMany
no_head_fault (class_name name) ws = fault_at ws cause.TooMany
