-- The look-up of names: members, bodies, classes and whole programs. This project's own.
use Rattle.std.specs.Prelude.{◌≡◌, ℕ, ℤ, ◌+◌, List, [], ◌∷◌, ◌++◌, length, map, flat_map, bytes_eq, slice_get, slice_index_or, AllPairs, Contains, Option, Some, None, option_to_list, if◌then◌else◌}
use Rattle.std.specs.List.{IsDistinct}
use Rattle.type_tree.specs.declared.tree.TExpr.{TExpr}
use Rattle.il_model.specs.declared.class.ClassKind.{ClassKind}
use Rattle.il_model.specs.declared.class.ClassKind.TheVariants as kind
use Rattle.il_model.specs.declared.class.ClassDef.{ClassDef}
use Rattle.il_model.specs.declared.class.FieldDef.{FieldDef}
use Rattle.il_model.specs.declared.method.Shape.TheVariants as shape
use Rattle.il_model.specs.declared.method.Sort.TheVariants as sort
use Rattle.il_model.specs.declared.method.Clause.{Clause}
use Rattle.il_model.specs.declared.method.Body.{Body}
use Rattle.il_model.specs.declared.method.MethodDef.{MethodDef}
use Rattle.il_model.specs.declared.member.MRef.{MRef}
use Rattle.il_model.specs.declared.member.FRef.{FRef}
use Rattle.il_model.specs.declared.op.Op.{Op}
use Rattle.il_model.specs.declared.program.Program.{Program}
use Rattle.il_model.specs.declared.written.WrittenName.{WrittenName}
use Rattle.il_model.specs.declared.written.WrittenType.{WrittenType}
use Rattle.il_model.specs.declared.written.WrittenVar.{WrittenVar}
use Rattle.il_model.specs.declared.written.WrittenMethodRef.{WrittenMethodRef}
use Rattle.il_model.specs.declared.written.WrittenFieldRef.{WrittenFieldRef}
use Rattle.il_model.specs.declared.written.WrittenOperand.{WrittenOperand}
use Rattle.il_model.specs.declared.written.WrittenOperand.TheVariants as operand
use Rattle.il_model.specs.declared.written.WrittenInstr.{WrittenInstr}
use Rattle.il_model.specs.declared.written.WrittenLine.{WrittenLine}
use Rattle.il_model.specs.declared.written.WrittenLine.TheVariants as line
use Rattle.il_model.specs.declared.written.WrittenClause.{WrittenClause}
use Rattle.il_model.specs.declared.written.WrittenBody.{WrittenBody}
use Rattle.il_model.specs.declared.written.WrittenField.{WrittenField}
use Rattle.il_model.specs.declared.written.WrittenMethod.{WrittenMethod}
use Rattle.il_model.specs.declared.written.WrittenClass.{WrittenClass}
use Rattle.il_model.specs.Lexemes.{is_among}
use Rattle.il_model.specs.Spellings.{plain_name}
use Rattle.il_model.specs.Ops.{Operand, nothing, int32, int64, literal, place, target, targets, type, method, field, constrained, form_of, operand_of}
use Rattle.il_model.specs.Library.{plain, library_classes, library_methods}
use Rattle.il_model.specs.Find.{class_number_of}
use Rattle.il_model.specs.Names.{Scope, Each, Perhaps, NamesType, NamesTypes, NamesResult, NamesParams, NamesVars}
use Rattle.il_model.specs.Bounds.{instrs_of, fields_of, methods_of, all_methods}

-- how many type variables the class has that a type names; a type that names no class has none
abbrev pub arity_of : List ℕ → Option ℕ → ℕ
arity_of arities None = 0
arity_of arities (Some number) = slice_index_or arities number 0

-- where the types of a member of this class are read: among the variables of the class, and so many of the method
abbrev pub scope_of_member : Scope → TExpr → ℕ → Scope
scope_of_member s class of_method = record s { of_class = arity_of s.arities (class_number_of class); of_method = of_method }

-- a method as an instruction names it
pub record NamesMethodRef (s : Scope) (written : WrittenMethodRef) (m : MRef) : Type 0 where
  pub instance : m.instance ≡ written.instance
  pub class : NamesType s written.class m.class
  pub name : m.name ≡ written.name
  pub args : NamesTypes s written.args m.args
  pub gives : NamesResult (scope_of_member s m.class (length written.args)) written.result m.result
  pub params : NamesParams (scope_of_member s m.class (length written.args)) written.params m.params

-- a field as an instruction names it
pub record NamesFieldRef (s : Scope) (written : WrittenFieldRef) (f : FRef) : Type 0 where
  pub class : NamesType s written.class f.class
  pub name : f.name ≡ written.name
  pub kind : NamesType (scope_of_member s f.class 0) written.kind f.kind

-- each label of a body, with the number of the instruction that follows it
abbrev pub labels_from : ℕ → List WrittenLine → List (List ℕ × ℕ)
labels_from number [] = []
labels_from number (line.Label l ∷ lines) = (l.name, number) ∷ labels_from number lines
labels_from number (line.Instr i ∷ lines) = labels_from (number + 1) lines

abbrev pub NamesLabel : List (List ℕ × ℕ) → WrittenName → ℕ → Type 0
NamesLabel labels written number = Contains labels (written.name, number)

-- what follows the word of an instruction stands for what the instruction holds
pub data NamesOperand (s : Scope) (literals : List (List ℕ)) (labels : List (List ℕ × ℕ)) : WrittenOperand → Operand → Type 0 where
  names_nothing : NamesOperand s literals labels operand.Nothing nothing
  names_int32 : (n : ℤ) → NamesOperand s literals labels (operand.Int32 n) (int32 n)
  names_int64 : (n : ℤ) → NamesOperand s literals labels (operand.Int64 n) (int64 n)
  names_literal : (bytes : List ℕ) (number : ℕ) → slice_get literals number ≡ Some bytes →
      NamesOperand s literals labels (operand.Text bytes) (literal number)
  names_place : (number : ℕ) → NamesOperand s literals labels (operand.Place number) (place number)
  names_target : (written : WrittenName) (to : ℕ) → NamesLabel labels written to →
      NamesOperand s literals labels (operand.Label written) (target to)
  names_targets : (written : List WrittenName) (to : List ℕ) → Each (NamesLabel labels) written to →
      NamesOperand s literals labels (operand.Labels written) (targets to)
  names_type : (written : WrittenType) (t : TExpr) → NamesType s written t → NamesOperand s literals labels (operand.Type written) (type t)
  names_method : (written : WrittenMethodRef) (m : MRef) → NamesMethodRef s written m →
      NamesOperand s literals labels (operand.Method written) (method m)
  names_field : (written : WrittenFieldRef) (f : FRef) → NamesFieldRef s written f →
      NamesOperand s literals labels (operand.Field written) (field f)
  names_constrained : (written : WrittenType) (named : WrittenMethodRef) (t : TExpr) (m : MRef) → NamesType s written t →
      NamesMethodRef s named m → NamesOperand s literals labels (operand.Constrained written named) (constrained t m)

pub record NamesInstr (s : Scope) (literals : List (List ℕ)) (labels : List (List ℕ × ℕ)) (written : WrittenInstr) (op : Op) : Type 0 where
  pub form : form_of op ≡ written.form
  pub operand : NamesOperand s literals labels written.operand (operand_of op)

pub record NamesClause (s : Scope) (labels : List (List ℕ × ℕ)) (written : WrittenClause) (clause : Clause) : Type 0 where
  pub from : NamesLabel labels written.from clause.from
  pub to : NamesLabel labels written.to clause.to
  pub catches : TExpr
  pub sort : clause.sort ≡ sort.Catch catches
  pub kind : NamesType s written.catches catches
  pub handler : NamesLabel labels written.handler clause.handler
  pub end : NamesLabel labels written.end clause.end

-- a body, whose labels are different
pub record NamesBody (s : Scope) (literals : List (List ℕ)) (written : WrittenBody) (b : Body) : Type 0 where
  pub distinct : IsDistinct bytes_eq (map (λ l. l.0) (labels_from 0 written.lines))
  pub locals : NamesParams s written.locals b.locals
  pub code : Each (NamesInstr s literals (labels_from 0 written.lines)) (instrs_of written.lines) b.code
  pub clauses : Each (NamesClause s (labels_from 0 written.lines)) written.clauses b.clauses

-- what is known where a class is looked up: the classes' names, how many variables each has, and the literals
pub record Known : Type 0 where
  pub names : List (List ℕ)
  pub arities : List ℕ
  pub literals : List (List ℕ)

abbrev pub scope_of : Known → ℕ → ℕ → Scope
scope_of known of_class of_method =
    record { names = known.names; arities = known.arities; of_class = of_class; of_method = of_method }

abbrev pub names_of_vars : List WrittenVar → List (List ℕ)
names_of_vars vars = map (λ v. v.name.name) vars

-- a method of the class with this number and so many variables; its own variables have different names
pub record NamesMethod (known : Known) (owner of_class : ℕ) (written : WrittenMethod) (m : MethodDef) : Type 0 where
  pub owner_is : m.owner ≡ owner
  pub name : m.name ≡ written.name.name
  pub shape : m.shape ≡ written.shape
  pub distinct : IsDistinct bytes_eq (names_of_vars written.vars)
  pub vars : NamesVars (scope_of known of_class (length written.vars)) written.vars m.vars
  pub params : NamesParams (scope_of known of_class (length written.vars)) written.params m.params
  pub gives : NamesResult (scope_of known of_class (length written.vars)) written.result m.result
  pub body : Perhaps (NamesBody (scope_of known of_class (length written.vars)) known.literals) written.body m.body

pub record NamesField (s : Scope) (written : WrittenField) (f : FieldDef) : Type 0 where
  pub fixed : f.fixed ≡ written.fixed
  pub kind : NamesType s written.kind f.kind
  pub name : f.name ≡ written.name.name

-- the base: where none is written that of a class is `object`, and a struct or an interface has none
pub data NamesBase (s : Scope) : ClassKind → Option WrittenType → Option TExpr → Type 0 where
  object_of_plain : NamesBase s kind.Plain None (Some (plain 0))
  object_of_abstract : NamesBase s kind.Abstract None (Some (plain 0))
  none_of_struct : NamesBase s kind.Struct None None
  none_of_interface : NamesBase s kind.Interface None None
  written_base : (k : ClassKind) (written : WrittenType) (t : TExpr) → NamesType s written t → NamesBase s k (Some written) (Some t)

-- so many numbers from this one on
abbrev pub numbers_from : {A : Type 0} → ℕ → List A → List ℕ
numbers_from first [] = []
numbers_from first (x ∷ xs) = first ∷ numbers_from (first + 1) xs

-- a class whose methods are numbered from this number on; its variables have different names, and so have its fields
pub record NamesClass (known : Known) (first_method : ℕ) (written : WrittenClass) (c : ClassDef) : Type 0 where
  pub name : c.name ≡ written.name.name
  pub kind : c.kind ≡ written.kind
  pub distinct_vars : IsDistinct bytes_eq (names_of_vars written.vars)
  pub vars : NamesVars (scope_of known (length written.vars) 0) written.vars c.vars
  pub base : NamesBase (scope_of known (length written.vars) 0) written.kind written.base c.base
  pub interfaces : NamesTypes (scope_of known (length written.vars) 0) written.interfaces c.interfaces
  pub distinct_fields : IsDistinct bytes_eq (map (λ f. f.name.name) (fields_of written.members))
  pub fields : Each (NamesField (scope_of known (length written.vars) 0)) (fields_of written.members) c.fields
  pub methods : c.methods ≡ numbers_from first_method (methods_of written.members)

-- the classes of a text, the methods of the first of which are numbered from this number on
pub data NamesClasses (known : Known) : ℕ → List WrittenClass → List ClassDef → Type 0 where
  no_classes : (first : ℕ) → NamesClasses known first [] []
  more_classes : (first : ℕ) (written : WrittenClass) (c : ClassDef) (ws : List WrittenClass) (cs : List ClassDef) →
      NamesClass known first written c → NamesClasses known (first + length (methods_of written.members)) ws cs →
      NamesClasses known first (written ∷ ws) (c ∷ cs)

-- a method of a text with the number and the variables of its class
pub record Owned : Type 0 where
  pub owner : ℕ
  pub of_class : ℕ
  pub written : WrittenMethod

-- the methods of a text in order, where its first class has this number
abbrev pub owned_from : ℕ → List WrittenClass → List Owned
owned_from number [] = []
owned_from number (c ∷ cs) =
    map (λ m. record { owner = number; of_class = length c.vars; written = m }) (methods_of c.members) ++ owned_from (number + 1) cs

abbrev pub NamesOwned : Known → Owned → MethodDef → Type 0
NamesOwned known o m = NamesMethod known o.owner o.of_class o.written m

-- the literals of an operand, which is one at most
abbrev pub texts_of : WrittenOperand → List (List ℕ)
texts_of (operand.Text bytes) = bytes ∷ []
texts_of operand.Nothing = []
texts_of (operand.Int32 n) = []
texts_of (operand.Int64 n) = []
texts_of (operand.Place n) = []
texts_of (operand.Label to) = []
texts_of (operand.Labels to) = []
texts_of (operand.Type t) = []
texts_of (operand.Method m) = []
texts_of (operand.Field f) = []
texts_of (operand.Constrained t m) = []

abbrev pub texts_of_method : WrittenMethod → List (List ℕ)
texts_of_method m = flat_map (λ b. flat_map (λ i. texts_of i.operand) (instrs_of b.lines)) (option_to_list m.body)

-- the texts in order of first use, those aside that were met before
abbrev pub first_uses : List (List ℕ) → List (List ℕ) → List (List ℕ)
first_uses met [] = []
first_uses met (text ∷ texts) = if is_among met text then first_uses met texts else text ∷ first_uses (text ∷ met) texts

-- the methods of one class differ in name, number of variables, parameters or result
pub record HasSameSignature (a b : MethodDef) : Type 0 where
  pub owner : a.owner ≡ b.owner
  pub name : a.name ≡ b.name
  pub vars : length a.vars ≡ length b.vars
  pub params : a.params ≡ b.params
  pub gives : a.result ≡ b.result

abbrev pub has_entry : WrittenMethod → List ℕ
has_entry m = flat_map (λ b. option_to_list b.entry) (option_to_list m.body)

-- the numbers of the methods with an entry point, once for each such word
abbrev pub entries_from : ℕ → List WrittenMethod → List ℕ
entries_from number [] = []
entries_from number (m ∷ ms) = map (λ at. number) (has_entry m) ++ entries_from (number + 1) ms

-- a method that may have the entry point: static, void, without variables or parameters
pub record MayBegin (m : WrittenMethod) : Type 0 where
  pub fixed : m.shape ≡ shape.Fixed
  pub vars : m.vars ≡ []
  pub params : m.params ≡ []
  pub void : m.result ≡ None

-- the entry point stands only in such a method, in a class without variables
abbrev pub EntryFits : WrittenClass → WrittenMethod → Type 0
EntryFits c m = (at : ℕ) → Contains (has_entry m) at → (c.vars ≡ []) × MayBegin m

pub record EntriesFit (c : WrittenClass) : Type 0 where
  pub each : (m : WrittenMethod) → Contains (methods_of c.members) m → EntryFits c m

-- what a text declares
abbrev pub known_of : List WrittenClass → Known
known_of classes = record {
  names = map (λ c. c.name) library_classes ++ map (λ c. c.name.name) classes;
  arities = map (λ c. length c.vars) library_classes ++ map (λ c. length c.vars) classes;
  literals = first_uses [] (flat_map texts_of_method (all_methods classes));
}

-- the program that the written classes stand for
pub record NamesProgram (classes : List WrittenClass) (p : Program) : Type 0 where
  pub distinct : IsDistinct bytes_eq (map plain_name (known_of classes).names)
  pub own_classes : List ClassDef
  pub classes_are : p.classes ≡ library_classes ++ own_classes
  pub named_classes : NamesClasses (known_of classes) (length library_methods) classes own_classes
  pub own_methods : List MethodDef
  pub methods_are : p.methods ≡ library_methods ++ own_methods
  pub named_methods : Each (NamesOwned (known_of classes)) (owned_from (length library_classes) classes) own_methods
  pub signatures : AllPairs (λ a b. ¬ (HasSameSignature a b)) own_methods
  pub literals : p.literals ≡ (known_of classes).literals
  pub begins : entries_from (length library_methods) (all_methods classes) ≡ p.main ∷ []
