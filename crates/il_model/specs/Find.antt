-- How the members that an instruction names are found. This project's own.
use Rattle.std.specs.Prelude.{◌≡◌, ℕ, ◌<◌, Bool, true, false, List, length, take, slice_get, Option, Some, None, option_and_then}
use Rattle.type_tree.specs.declared.tree.TExpr.{TExpr}
use Rattle.type_tree.specs.declared.tree.TNode.{TNode}
use Rattle.type_tree.specs.declared.tree.TNode.TheVariants.{Node, ClassVar, MethodVar}
use Rattle.type_tree.specs.declared.tree.Head.{Head}
use Rattle.type_tree.specs.declared.tree.Head.TheVariants as head
use Rattle.type_tree.specs.Tree.{top_of}
use Rattle.il_model.specs.declared.class.ClassDef.{ClassDef}
use Rattle.il_model.specs.declared.class.FieldDef.{FieldDef}
use Rattle.il_model.specs.declared.method.MethodDef.{MethodDef}
use Rattle.il_model.specs.declared.method.Shape.{Shape}
use Rattle.il_model.specs.declared.method.Shape.TheVariants as shape
use Rattle.il_model.specs.declared.member.MRef.{MRef}
use Rattle.il_model.specs.declared.member.FRef.{FRef}
use Rattle.il_model.specs.declared.program.Program.{Program}

abbrev pub class_in_head : Head → Option ℕ
class_in_head (head.Class number) = Some number
class_in_head head.Int32 = None
class_in_head head.Int64 = None
class_in_head head.Bool = None
class_in_head head.Vector = None

abbrev pub class_in_top : TNode TExpr → Option ℕ
class_in_top (Node h parts) = class_in_head h
class_in_top (ClassVar n) = None
class_in_top (MethodVar n) = None

-- the number of the class that a type names; a scalar, a vector and a variable name none
abbrev pub class_number_of : TExpr → Option ℕ
class_number_of t = class_in_top (top_of t)

-- the definition of the class that a type names
abbrev pub class_of : Program → TExpr → Option ClassDef
class_of program t = option_and_then (λ number. slice_get program.classes number) (class_number_of t)

-- whether a method takes an object
abbrev pub takes_object : Shape → Bool
takes_object shape.Fixed = false
takes_object shape.Instance = true
takes_object shape.Virtual = true
takes_object shape.NewSlot = true
takes_object shape.Abstract = true

-- the definition is the one that is named, class aside
pub record IsMethodNamed (named : MRef) (m : MethodDef) : Type 0 where
  pub name : m.name ≡ named.name
  pub vars : length m.vars ≡ length named.args
  pub params : m.params ≡ named.params
  pub gives : m.result ≡ named.result
  pub object : takes_object m.shape ≡ named.instance

pub record IsFieldNamed (named : FRef) (f : FieldDef) : Type 0 where
  pub name : f.name ≡ named.name
  pub kind : f.kind ≡ named.kind

-- the method of the program with this number is the one that is named
pub record HasMethod (program : Program) (named : MRef) (number : ℕ) : Type 0 where
  pub method : MethodDef
  pub is : slice_get program.methods number ≡ Some method
  pub matches : IsMethodNamed named method

-- the fact holds for none of the list before this place
pub record NoneBefore {A : Type 0} (P : A → Type 0) (xs : List A) (k : ℕ) : Type 0 where
  pub none : (j : ℕ) (x : A) → j < k → slice_get xs j ≡ Some x → ¬ (P x)

-- at this place stands the first of the list for which the fact holds
pub record IsFirstAt {A : Type 0} (P : A → Type 0) (xs : List A) (k : ℕ) : Type 0 where
  pub item : A
  pub is : slice_get xs k ≡ Some item
  pub holds : P item
  pub first : NoneBefore P xs k

-- the fact holds for none of the list
abbrev pub HoldsForNone : {A : Type 0} → (A → Type 0) → List A → Type 0
HoldsForNone P xs = NoneBefore P xs (length xs)

-- the number that stands at the first place at which the fact holds
pub record IsFirst (P : ℕ → Type 0) (numbers : List ℕ) (number : ℕ) : Type 0 where
  pub place : ℕ
  pub at : slice_get numbers place ≡ Some number
  pub first : IsFirstAt P numbers place

-- the first of the class's own methods that is named, or none
abbrev pub FindsMethod : Program → MRef → Option ClassDef → Option ℕ → Type 0
FindsMethod program named None found = found ≡ None
FindsMethod program named (Some c) None = HoldsForNone (HasMethod program named) c.methods
FindsMethod program named (Some c) (Some number) = IsFirst (HasMethod program named) c.methods number

-- the place of the first of the list for which the fact holds, or none
abbrev pub FirstOrNone : {A : Type 0} → (A → Type 0) → List A → Option ℕ → Type 0
FirstOrNone P xs None = HoldsForNone P xs
FirstOrNone P xs (Some k) = IsFirstAt P xs k

-- among so many of the class's own fields, the place of the first that is named, or none
pub record FindsFieldIn (most : ℕ) (named : FRef) (c : ClassDef) (found : Option ℕ) : Type 0 where
  pub among : FirstOrNone (IsFieldNamed named) (take most c.fields) found

-- how many of a class's own fields are looked at
abbrev pub most_fields : ℕ
most_fields = 65536

-- the place of the first of the class's own fields that is named, or none
abbrev pub FindsField : FRef → Option ClassDef → Option ℕ → Type 0
FindsField named None found = found ≡ None
FindsField named (Some c) found = FindsFieldIn most_fields named c found
