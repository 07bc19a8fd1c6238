-- What is asked of a program so that what it writes is whole: written types have the variables of their class and method alone, methods are of the classes that list them, and those with a slot have no variables.
use Rattle.std.proofs.Common.{◌≡◌, ℕ, ◌≤◌, true, [], length, Some}
use Rattle.std.specs.Prelude.{slice_get, option_to_list}
use Rattle.std.specs.List.{AllByRecursion}
use Rattle.type_tree.specs.declared.tree.TExpr.{TExpr}
use Rattle.type_tree.specs.Tree.{HasVariablesBelow}
use Rattle.il_model.specs.declared.class.ClassDef.{ClassDef}
use Rattle.il_model.specs.declared.method.Sort.{Sort}
use Rattle.il_model.specs.declared.method.Sort.TheVariants as sort
use Rattle.il_model.specs.declared.method.Body.{Body}
use Rattle.il_model.specs.declared.method.MethodDef.{MethodDef}
use Rattle.il_model.specs.declared.program.Program.{Program}
use Rattle.il_model.specs.Found.{method_at}
use Rattle.il_model.specs.Entries.{has_slot, Mention, nothing, type, kind, vector, field, call, virtual_call, constrained, new, mention_of}

-- it holds for each type that an entry of the mention names, a vector's elements aside
abbrev pub MentionHolds : (TExpr → Type 0) → Mention → Type 0
MentionHolds P nothing = Unit {0}
MentionHolds P (type t) = P t
MentionHolds P (kind t) = P t
MentionHolds P (vector t) = P t
MentionHolds P (field f) = P f.class
MentionHolds P (call m) = P m.class × AllByRecursion P m.args
MentionHolds P (virtual_call m) = P m.class × AllByRecursion P m.args
MentionHolds P (constrained t m) = P t × P m.class
MentionHolds P (new m) = P m.class × AllByRecursion P m.args

abbrev pub SortHolds : (TExpr → Type 0) → Sort → Type 0
SortHolds P (sort.Catch t) = P t
SortHolds P sort.Finally = Unit {0}

pub record BodyHolds (P : TExpr → Type 0) (b : Body) : Type 0 where
  pub code : AllByRecursion (λ i. MentionHolds P (mention_of i)) b.code
  pub clauses : AllByRecursion (λ c. SortHolds P c.sort) b.clauses

-- the method with this number is there, and is of this class
pub record IsOwned (program : Program) (owner number : ℕ) : Type 0 where
  pub method : MethodDef
  pub is : method_at program number ≡ Some method
  pub owner_is : method.owner ≡ owner

pub record IsScopedClass (program : Program) (number : ℕ) (c : ClassDef) : Type 0 where
  pub vars : length c.vars ≤ 3
  pub base : AllByRecursion (HasVariablesBelow (length c.vars) 0) (option_to_list c.base)
  pub interfaces : AllByRecursion (HasVariablesBelow (length c.vars) 0) c.interfaces
  pub methods : AllByRecursion (IsOwned program number) c.methods

pub record IsScopedMethod (program : Program) (m : MethodDef) : Type 0 where
  pub vars : length m.vars ≤ 2
  pub alone : has_slot m.shape ≡ true → m.vars ≡ []
  pub class : ClassDef
  pub class_is : slice_get program.classes m.owner ≡ Some class
  pub body : AllByRecursion (BodyHolds (HasVariablesBelow (length class.vars) (length m.vars))) (option_to_list m.body)

pub record IsScoped (program : Program) : Type 0 where
  pub few_classes : length program.classes ≤ 4096
  pub few_methods : length program.methods ≤ 16384
  pub classes : (number : ℕ) (c : ClassDef) → slice_get program.classes number ≡ Some c → IsScopedClass program number c
  pub methods : (number : ℕ) (m : MethodDef) → method_at program number ≡ Some m → IsScopedMethod program m
