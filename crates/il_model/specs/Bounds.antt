-- How large a written program may be. This project's own.
use Rattle.std.specs.Prelude.{ℕ, ◌+◌, ◌≤◌, List, [], ◌∷◌, ◌++◌, length, map, sum, flat_map, All, option_to_list}
use Rattle.il_model.specs.declared.written.WrittenType.{WrittenType}
use Rattle.il_model.specs.declared.written.WrittenType.TheOpen.{WrittenType-F}
use Rattle.il_model.specs.declared.written.WrittenType.TheFolds.{fold-WrittenType}
use Rattle.il_model.specs.declared.written.WrittenParam.{WrittenParam}
use Rattle.il_model.specs.declared.written.WrittenVar.{WrittenVar}
use Rattle.il_model.specs.declared.written.WrittenMethodRef.{WrittenMethodRef}
use Rattle.il_model.specs.declared.written.WrittenOperand.{WrittenOperand}
use Rattle.il_model.specs.declared.written.WrittenOperand.TheVariants as operand
use Rattle.il_model.specs.declared.written.WrittenInstr.{WrittenInstr}
use Rattle.il_model.specs.declared.written.WrittenLine.{WrittenLine}
use Rattle.il_model.specs.declared.written.WrittenLine.TheVariants as line
use Rattle.il_model.specs.declared.written.WrittenBody.{WrittenBody}
use Rattle.il_model.specs.declared.written.WrittenField.{WrittenField}
use Rattle.il_model.specs.declared.written.WrittenMethod.{WrittenMethod}
use Rattle.il_model.specs.declared.written.WrittenMember.{WrittenMember}
use Rattle.il_model.specs.declared.written.WrittenMember.TheVariants as member
use Rattle.il_model.specs.declared.written.WrittenClass.{WrittenClass}
use Rattle.il_model.specs.Library.{library_classes, library_methods}

-- one level of a written type, with its positions in place of each type below
abbrev pub level_positions : WrittenType-F ℕ → ℕ
level_positions WrittenType-F.Int32 = 1
level_positions WrittenType-F.Int64 = 1
level_positions WrittenType-F.Bool = 1
level_positions WrittenType-F.Object = 1
level_positions WrittenType-F.String = 1
level_positions (WrittenType-F.Variable v) = 1
level_positions (WrittenType-F.Named name args) = 1 + sum args
level_positions (WrittenType-F.Vector element) = 1 + element

-- the positions of a written type, a variable being one
abbrev pub written_positions : WrittenType → ℕ
written_positions = fold-WrittenType ℕ level_positions

-- the types that stand in each part of a program

abbrev pub types_of_params : List WrittenParam → List WrittenType
types_of_params ps = map (λ p. p.kind) ps

abbrev pub types_of_vars : List WrittenVar → List WrittenType
types_of_vars vs = flat_map (λ v. v.bounds) vs

abbrev pub types_of_method_ref : WrittenMethodRef → List WrittenType
types_of_method_ref m = option_to_list m.result ++ m.class ∷ m.args ++ types_of_params m.params

abbrev pub types_of_operand : WrittenOperand → List WrittenType
types_of_operand operand.Nothing = []
types_of_operand (operand.Int32 n) = []
types_of_operand (operand.Int64 n) = []
types_of_operand (operand.Text bytes) = []
types_of_operand (operand.Place n) = []
types_of_operand (operand.Label to) = []
types_of_operand (operand.Labels to) = []
types_of_operand (operand.Type t) = t ∷ []
types_of_operand (operand.Method m) = types_of_method_ref m
types_of_operand (operand.Field f) = f.kind ∷ f.class ∷ []
types_of_operand (operand.Constrained t m) = t ∷ types_of_method_ref m

-- the instructions among the lines
abbrev pub instrs_of : List WrittenLine → List WrittenInstr
instrs_of [] = []
instrs_of (line.Label name ∷ lines) = instrs_of lines
instrs_of (line.Instr i ∷ lines) = i ∷ instrs_of lines

abbrev pub types_of_body : WrittenBody → List WrittenType
types_of_body b = types_of_params b.locals ++ flat_map (λ i. types_of_operand i.operand) (instrs_of b.lines) ++ map (λ c. c.catches) b.clauses

abbrev pub types_of_method : WrittenMethod → List WrittenType
types_of_method m = option_to_list m.result ++ types_of_vars m.vars ++ types_of_params m.params ++ flat_map types_of_body (option_to_list m.body)

-- the fields among the members
abbrev pub fields_of : List WrittenMember → List WrittenField
fields_of [] = []
fields_of (member.Field f ∷ members) = f ∷ fields_of members
fields_of (member.Method m ∷ members) = fields_of members

-- the methods among the members
abbrev pub methods_of : List WrittenMember → List WrittenMethod
methods_of [] = []
methods_of (member.Field f ∷ members) = methods_of members
methods_of (member.Method m ∷ members) = m ∷ methods_of members

abbrev pub types_of_class : WrittenClass → List WrittenType
types_of_class c = types_of_vars c.vars ++ option_to_list c.base ++ c.interfaces ++ map (λ f. f.kind) (fields_of c.members) ++
    flat_map types_of_method (methods_of c.members)

abbrev pub all_methods : List WrittenClass → List WrittenMethod
all_methods classes = flat_map (λ c. methods_of c.members) classes

-- the limits on a method
pub record IsSmallMethod (m : WrittenMethod) : Type 0 where
  pub vars : length m.vars ≤ 2
  pub instrs : All (λ b. length (instrs_of b.lines) ≤ 16384) (option_to_list m.body)

-- the limits on a program, the library's classes and methods included
pub record IsSmall (classes : List WrittenClass) : Type 0 where
  pub classes_count : length library_classes + length classes ≤ 4096
  pub methods_count : length library_methods + length (all_methods classes) ≤ 16384
  pub vars : All (λ c. length c.vars ≤ 3) classes
  pub methods : All IsSmallMethod (all_methods classes)
  pub types : All (λ t. written_positions t ≤ 256) (flat_map types_of_class classes)
