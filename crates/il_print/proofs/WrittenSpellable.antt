-- What a text spells can be written again, construct by construct.
use Rattle.std.proofs.Common.{ℕ, List, [], ◌∷◌, ◌++◌, codes, Option, subst}
use Rattle.std.specs.List.{AllByRecursion}
use Rattle.il_model.specs.declared.written.WrittenVar.{WrittenVar}
use Rattle.il_model.specs.declared.written.WrittenMethodRef.{WrittenMethodRef}
use Rattle.il_model.specs.declared.written.WrittenFieldRef.{WrittenFieldRef}
use Rattle.il_model.specs.declared.written.WrittenOperand.{WrittenOperand}
use Rattle.il_model.specs.declared.written.WrittenInstr.{WrittenInstr}
use Rattle.il_model.specs.declared.written.WrittenLine.{WrittenLine}
use Rattle.il_model.specs.declared.written.WrittenBody.{WrittenBody}
use Rattle.il_model.specs.declared.written.WrittenField.{WrittenField}
use Rattle.il_model.specs.declared.written.WrittenMethod.{WrittenMethod}
use Rattle.il_model.specs.declared.written.WrittenMember.{WrittenMember}
use Rattle.il_model.specs.declared.written.WrittenClass.{WrittenClass}
use Rattle.il_model.specs.Lexemes.{Lexeme, lexemes_of, Many, none, more}
use Rattle.il_model.specs.Types.{IsVar, unbounded, bounded, AreVars, no_vars, vars}
use Rattle.il_model.specs.Members.{IsMethodRef, method_ref, IsFieldRef, field_ref}
use Rattle.il_model.specs.Forms.{OperandKind, operand_kind}
use Rattle.il_model.specs.Instructions.{IsInside, nothing_inside, type_inside, library_words, IsOperand, nothing, int32_number, int64_number, text, place_number, target, targets, type, called, method, field, constrained, IsInstr, long, library, short, short_whole}
use Rattle.il_model.specs.Bodies as bodies
use Rattle.il_model.specs.Bodies.{AreLines, no_lines, labelled, instruction, IsBody}
use Rattle.il_model.specs.Classes as classes
use Rattle.il_model.specs.Classes.{IsField, IsBodyOrNone, bodiless, braced, IsMethod, IsMember, field_member, method_member, IsClass, IsProgram}
use Rattle.il_model.specs.Bounds.{instrs_of, fields_of, methods_of}
use Rattle.il_model.specs.Accepted.{IsWritten}
use Rattle.il_print.proofs.Spellable.{IsNameWord, IsSpellableOperand, IsSpellableBody, IsSpellableOption, AreSpellableVars, IsSpellableField, IsSpellableMethod, IsSpellableClass, AreSpellable}
use Rattle.il_print.proofs.WrittenTokens.{AreLexemes, tokens_are, lexemes_parts, name_word, many_give, separated_give, int32_spellable, int64_spellable, place_spellable, text_spellable, shortened_spellable}

-- ---- variables and members

var_spellable : (ws : List Lexeme) (v : WrittenVar) → IsVar ws v → AreLexemes ws → IsNameWord v.name.name
var_spellable ws v (unbounded l name) are = name_word [] l name are.0
var_spellable ws v (bounded l colon bounds ts name same of) are = name_word [] l name are.0

vars_spellable : (ws : List Lexeme) (vs : List WrittenVar) → AreVars ws vs → AreLexemes ws → AreSpellableVars vs
vars_spellable ws vs no_vars are = tt
vars_spellable ws vs (vars us inner left right xs split opens is closes) are =
    let inside = lexemes_parts (left ∷ inner) (right ∷ []) (subst AreLexemes split are) in
    separated_give (λ v. IsNameWord v.name.name) var_spellable inner xs is inside.0.1

method_ref_spellable : (ws : List Lexeme) (m : WrittenMethodRef) → IsMethodRef ws m → AreLexemes ws → IsNameWord m.name
method_ref_spellable ws m (method_ref us before result class args params colons name left right is_instance r c ts ps split _ _ _ _ is _ _ _ _) are =
    let front = (before ++ result) ++ class in
    let p1 = lexemes_parts (((front ++ colons ∷ name ∷ args) ++ left ∷ params)) (right ∷ []) (subst AreLexemes split are) in
    let p2 = lexemes_parts (front ++ colons ∷ name ∷ args) (left ∷ params) p1.0 in
    let p3 = lexemes_parts front (colons ∷ name ∷ args) p2.0 in
    name_word (codes ".cctor" ∷ []) name is p3.1.1.0

field_ref_spellable : (ws : List Lexeme) (f : WrittenFieldRef) → IsFieldRef ws f → AreLexemes ws → IsNameWord f.name
field_ref_spellable ws f (field_ref us kind class colons name k c split of of_class same is) are =
    let p = lexemes_parts (kind ++ class) (colons ∷ name ∷ []) (subst AreLexemes split are) in
    name_word [] name is p.1.1.0

-- ---- instructions

operand_spellable : (k : OperandKind) (ws : List Lexeme) (o : WrittenOperand) → IsOperand k ws o → AreLexemes ws → IsSpellableOperand o
operand_spellable k ws o nothing are = tt
operand_spellable k ws o (int32_number l n number e) are = int32_spellable l n e
operand_spellable k ws o (int64_number l n number e) are = int64_spellable l n e
operand_spellable k ws o (text l is) are = text_spellable l is are.0
operand_spellable k ws o (place_number l n number e) are = place_spellable l n number e are.0
operand_spellable k ws o (target us to is) are = tt
operand_spellable k ws o (targets us inner left right to split opens is closes) are = tt
operand_spellable k ws o (type us t is) are = tt
operand_spellable k ws o (called us m is other) are = method_ref_spellable us m is are
operand_spellable k ws o (method us m is) are = method_ref_spellable us m is are
operand_spellable k ws o (field us f is) are = field_ref_spellable us f is are
operand_spellable k ws o (constrained us kind named l t m split of same is) are =
    let p = lexemes_parts kind (l ∷ named) (subst AreLexemes split are) in
    method_ref_spellable named m is p.1.1

inside_spellable : (k : OperandKind) (ws : List Lexeme) (o : WrittenOperand) → IsInside k ws o → IsSpellableOperand o
inside_spellable k ws o nothing_inside = tt
inside_spellable k ws o (type_inside us t is) = tt

instr_spellable : (ws : List Lexeme) (i : WrittenInstr) → IsInstr ws i → AreLexemes ws → IsSpellableOperand i.operand
instr_spellable ws i (long l us f o is of) are = operand_spellable (operand_kind f) us o of are.1
instr_spellable ws i (library l us f o same (library_words ls front inner back g p first last split is begins of ends)) are = inside_spellable (operand_kind g) inner p of
instr_spellable ws i (short l us f o is of) are = operand_spellable (operand_kind f) us o of are.1
instr_spellable ws i (short_whole l row is same) are = shortened_spellable row is

lines_spellable : (quoted : List (List ℕ)) (ws : List Lexeme) (lines : List WrittenLine) → AreLines quoted ws lines → AreLexemes ws →
    AllByRecursion (λ i. IsSpellableOperand i.operand) (instrs_of lines)
lines_spellable quoted ws lines (no_lines q) are = tt
lines_spellable quoted ws lines (labelled q l colon rest later name same is) are = lines_spellable [] rest later is are.1.1
lines_spellable quoted ws lines (instruction q us front back i later split of is) are =
    let p = lexemes_parts front back (subst AreLexemes split are) in
    (instr_spellable front i of p.0, lines_spellable [] back later is p.1)

-- ---- bodies and members

body_spellable : (ws : List Lexeme) (b : WrittenBody) → IsBody ws b → AreLexemes ws → IsSpellableBody b
body_spellable ws b (bodies.body us first second third fourth entry locals lines clauses split _ _ of_lines _) are =
    let p = lexemes_parts ((first ++ second) ++ third) fourth (subst AreLexemes split are) in
    let q = lexemes_parts (first ++ second) third p.0 in
    lines_spellable (bodies.quoted_before entry locals) third lines of_lines q.1

option_spellable : (ws : List Lexeme) (b : Option WrittenBody) → IsBodyOrNone ws b → AreLexemes ws → IsSpellableOption b
option_spellable ws b (bodiless l same) are = tt
option_spellable ws b (braced us inner left right x split opens is closes) are =
    let p = lexemes_parts (left ∷ inner) (right ∷ []) (subst AreLexemes split are) in
    body_spellable inner x is p.0.1

method_spellable : (ws : List Lexeme) (m : WrittenMethod) → IsMethod ws m → AreLexemes ws → IsSpellableMethod m
method_spellable ws m (classes.method us shaped result vars_are params rest word name left right s quoted r vs ps b split _ _ _ is of_vars _ _ _ _ of_body) are =
    let front = (word ∷ shaped) ++ result in
    let p1 = lexemes_parts (((front ++ name ∷ vars_are) ++ left ∷ params)) (right ∷ rest) (subst AreLexemes split are) in
    let p2 = lexemes_parts (front ++ name ∷ vars_are) (left ∷ params) p1.0 in
    let p3 = lexemes_parts front (name ∷ vars_are) p2.0 in
    record {
      name = name_word (codes ".cctor" ∷ []) name is p3.1.0;
      vars = vars_spellable vars_are vs of_vars p3.1.1;
      body = option_spellable rest b of_body p1.1.1;
    }

field_spellable : (ws : List Lexeme) (f : WrittenField) → IsField ws f → AreLexemes ws → IsSpellableField f
field_spellable ws f (classes.field us fixed kind word name is_fixed t split begins opt of is) are =
    let p = lexemes_parts ((word ∷ fixed) ++ kind) (name ∷ []) (subst AreLexemes split are) in
    name_word [] name is p.1.0

-- the fields and the methods among the members
record AreSpellableMembers (ms : List WrittenMember) : Type 0 where
  fields : AllByRecursion IsSpellableField (fields_of ms)
  methods : AllByRecursion IsSpellableMethod (methods_of ms)

members_spellable : (ws : List Lexeme) (ms : List WrittenMember) → Many IsMember ws ms → AreLexemes ws → AreSpellableMembers ms
members_spellable ws ms none are = record { fields = tt; methods = tt }
members_spellable ws ms (more us front back x xs split is rest) are =
    let p = lexemes_parts front back (subst AreLexemes split are) in
    with_member front x xs is p.0 (members_spellable back xs rest p.1)
  where
    with_member : (front : List Lexeme) (x : WrittenMember) (xs : List WrittenMember) → IsMember front x → AreLexemes front → AreSpellableMembers xs →
        AreSpellableMembers (x ∷ xs)
    with_member front x xs (field_member us f is) are later = record { fields = (field_spellable us f is are, later.fields); methods = later.methods }
    with_member front x xs (method_member us m is) are later = record { fields = later.fields; methods = (method_spellable us m is are, later.methods) }

-- ---- classes and texts

class_spellable : (ws : List Lexeme) (c : WrittenClass) → IsClass ws c → AreLexemes ws → IsSpellableClass c
class_spellable ws c (classes.class us kinds vars_are base interfaces members word name left right k vs b is_ ms split _ _ is of_vars _ _ _ of_members _) are =
    let front = word ∷ kinds in
    let p1 = lexemes_parts ((((front ++ name ∷ vars_are) ++ base) ++ interfaces) ++ left ∷ members) (right ∷ []) (subst AreLexemes split are) in
    let p2 = lexemes_parts (((front ++ name ∷ vars_are) ++ base) ++ interfaces) (left ∷ members) p1.0 in
    let p3 = lexemes_parts ((front ++ name ∷ vars_are) ++ base) interfaces p2.0 in
    let p4 = lexemes_parts (front ++ name ∷ vars_are) base p3.0 in
    let p5 = lexemes_parts front (name ∷ vars_are) p4.0 in
    let all = members_spellable members ms of_members p2.1.1 in
    record {
      name = name_word _ name is p5.1.0;
      vars = vars_spellable vars_are vs of_vars p5.1.1;
      fields = all.fields;
      methods = all.methods;
    }

pub written_spellable : (bytes : List ℕ) (cs : List WrittenClass) → IsWritten bytes cs → AreSpellable cs
written_spellable bytes cs w =
    many_give IsSpellableClass class_spellable (lexemes_of bytes w.tokens) cs w.spelled (tokens_are bytes 0 w.tokens w.are_tokens.read)
