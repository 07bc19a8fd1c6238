-- What written instructions and bodies stand for. This project's own.
use Rattle.std.specs.Prelude.{ℕ, Bool, if◌then◌else◌, List, [], ◌∷◌, ◌++◌, Option, Some, None, option_map, Ok, Err, bytes_eq}
use Rattle.std.specs.List.{find}
use Rattle.il_model.specs.declared.method.Sort.TheVariants as sort
use Rattle.il_model.specs.declared.method.Clause.{Clause}
use Rattle.il_model.specs.declared.method.Body.{Body}
use Rattle.il_model.specs.declared.op.Op.{Op}
use Rattle.il_model.specs.declared.written.WrittenName.{WrittenName}
use Rattle.il_model.specs.declared.written.WrittenOperand.{WrittenOperand}
use Rattle.il_model.specs.declared.written.WrittenOperand.TheVariants as operand
use Rattle.il_model.specs.declared.written.WrittenInstr.{WrittenInstr}
use Rattle.il_model.specs.declared.written.WrittenLine.{WrittenLine}
use Rattle.il_model.specs.declared.written.WrittenLine.TheVariants as line
use Rattle.il_model.specs.declared.written.WrittenClause.{WrittenClause}
use Rattle.il_model.specs.declared.written.WrittenBody.{WrittenBody}
use Rattle.il_model.specs.Lexemes.{is_among}
use Rattle.il_model.specs.Names.{Scope, place_of}
use Rattle.il_model.specs.LookUp.{labels_from}
use Rattle.il_model.specs.Ops.{Operand, nothing, int32, int64, literal, place, target, targets, type, method, field, constrained}
use Rattle.il_parse.specs.declared.fault.ParseCause.TheVariants as cause
use Rattle.il_parse.specs.Looking.{Look, ◌>>=◌, pure, repeated, found_or_unknown, each_of}
use Rattle.il_parse.specs.NamedTypes.{type_named, params_named, method_ref_named, field_ref_named}
use Rattle.il_parse.specs.NamedOps.{op_of}

-- the number of the instruction that follows the first label of this name
abbrev pub number_of_label : List (List ℕ × ℕ) → List ℕ → Option ℕ
number_of_label labels name = option_map (λ l. l.1) (find (λ l. bytes_eq l.0 name) labels)

unfoldable pub label_named : List (List ℕ × ℕ) → WrittenName → Look ℕ
label_named labels l = found_or_unknown (number_of_label labels l.name) l

-- the number of a literal, or the number 0 where it is none of these, which never is so
abbrev pub literal_or_first : Option ℕ → Operand
literal_or_first (Some number) = literal number
literal_or_first None = literal 0

-- what follows the word of an instruction
unfoldable pub operand_named : Scope → List (List ℕ) → List (List ℕ × ℕ) → WrittenOperand → Look Operand
operand_named s literals labels operand.Nothing = pure nothing
operand_named s literals labels (operand.Int32 n) = pure (int32 n)
operand_named s literals labels (operand.Int64 n) = pure (int64 n)
operand_named s literals labels (operand.Text bytes) = pure (literal_or_first (place_of literals bytes))
operand_named s literals labels (operand.Place n) = pure (place n)
operand_named s literals labels (operand.Label to) = label_named labels to >>= (λ number. pure (target number))
operand_named s literals labels (operand.Labels to) = each_of (label_named labels) to >>= (λ numbers. pure (targets numbers))
operand_named s literals labels (operand.Type written) = type_named s written >>= (λ t. pure (type t))
operand_named s literals labels (operand.Method written) = method_ref_named s written >>= (λ m. pure (method m))
operand_named s literals labels (operand.Field written) = field_ref_named s written >>= (λ f. pure (field f))
operand_named s literals labels (operand.Constrained written called) =
    type_named s written >>= (λ t. method_ref_named s called >>= (λ m. pure (constrained t m)))

-- the instruction; an operand that doesn't go with its form is never read, and would be refused at this place
abbrev pub op_or_stuck : Option Op → ℕ → Look Op
op_or_stuck (Some op) at = Ok op
op_or_stuck None at = Err (record { at = Some at; cause = cause.Syntax })

unfoldable pub instr_named : Scope → List (List ℕ) → List (List ℕ × ℕ) → WrittenInstr → Look Op
instr_named s literals labels i = operand_named s literals labels i.operand >>= (λ o. op_or_stuck (op_of i.form o) i.at)

-- the instructions among the lines behind those found, with the labels that were met
unfoldable pub lines_named : Scope → List (List ℕ) → List (List ℕ × ℕ) → List (List ℕ) → List Op → List WrittenLine → Look (List Op)
lines_named s literals labels met found [] = pure found
lines_named s literals labels met found (line.Label l ∷ lines) =
    if is_among met l.name then repeated l.at else lines_named s literals labels (l.name ∷ met) found lines
lines_named s literals labels met found (line.Instr i ∷ lines) =
    instr_named s literals labels i >>= (λ op. lines_named s literals labels met (found ++ op ∷ []) lines)

unfoldable pub clause_named : Scope → List (List ℕ × ℕ) → WrittenClause → Look Clause
clause_named s labels c =
    label_named labels c.from >>= (λ from. label_named labels c.to >>= (λ to. type_named s c.catches >>= (λ t.
    label_named labels c.handler >>= (λ handler. label_named labels c.end >>= (λ end.
    pure (record { from = from; to = to; sort = sort.Catch t; handler = handler; end = end }))))))

-- whether this method may have the entry point, which one method has
abbrev pub entry_once : Bool → Option ℕ → Look (Unit {0})
entry_once begun None = Ok tt
entry_once begun (Some at) = if begun then repeated at else Ok tt

-- a body, where an entry point was met or not
unfoldable pub body_named : Scope → List (List ℕ) → Bool → WrittenBody → Look Body
body_named s literals begun b =
    entry_once begun b.entry >>= (λ _. params_named s b.locals >>= (λ locals.
    lines_named s literals (labels_from 0 b.lines) [] [] b.lines >>= (λ code.
    each_of (clause_named s (labels_from 0 b.lines)) b.clauses >>= (λ clauses.
    pure (record { locals = locals; code = code; clauses = clauses })))))
