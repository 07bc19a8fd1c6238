-- A small program's types, worked out: three classes one below another, an interface of the first, and a struct of two fields.
use Rattle.std.proofs.Common.{◌≡◌, ℕ, suc, true, false, List, [], ◌∷◌, Option, Some, None, codes, refl}
use Rattle.type_tree.specs.declared.tree.TExpr.{TExpr}
use Rattle.type_tree.specs.declared.tree.Head.TheVariants as head
use Rattle.type_tree.specs.Tree.{node, class_var}
use Rattle.type_tree.proofs.TreeLemmas.{top_of-tree_of}
use Rattle.type_tree.proofs.SubstitutionLemmas.{substituted-node, substituted-class_var}
use Rattle.type_tree.proofs.PositionsLemmas.{positions_of-node}
use Rattle.il_model.proofs.TreesLemmas.{is_same-node}
use Rattle.il_model.specs.declared.class.ClassKind.{ClassKind}
use Rattle.il_model.specs.declared.class.ClassKind.TheVariants as kind
use Rattle.il_model.specs.declared.class.ClassDef.{ClassDef}
use Rattle.il_model.specs.declared.class.FieldDef.{FieldDef}
use Rattle.il_model.specs.declared.class.VarDef.{VarDef}
use Rattle.il_model.specs.declared.method.Shape.{Shape}
use Rattle.il_model.specs.declared.method.Shape.TheVariants as shape
use Rattle.il_model.specs.declared.method.MethodDef.{MethodDef}
use Rattle.il_model.specs.declared.program.Program.{Program}
use Rattle.il_model.specs.Library.{plain}
use Rattle.il_model.specs.Bases.{bases_of}
use Rattle.il_model.specs.Interfaces.{interfaces_of}
use Rattle.il_model.specs.Layouts.{words_within}
use Rattle.il_model.specs.Slots.{method_of, slots_of, implementation_of}
use Rattle.il_model.specs.Assignable.{is_assignable}
use Rattle.il_model.specs.Admission.{closure_within}

abbrev class : ClassKind → Option TExpr → List TExpr → List FieldDef → List ℕ → ClassDef
class k base interfaces fields methods =
    record { name = codes "C"; kind = k; vars = []; base = base; interfaces = interfaces; fields = fields; methods = methods }

abbrev method : ℕ → Shape → MethodDef
method owner s = record { owner = owner; name = codes "f"; shape = s; vars = []; params = []; result = None; body = None }

abbrev field : TExpr → FieldDef
field t = record { name = codes "a"; fixed = false; kind = t }

abbrev var : VarDef
var = record { name = codes "T"; bounds = [] }

abbrev int32 : TExpr
int32 = node head.Int32 []

abbrev two : TExpr → TExpr
two t = node (head.Class 6) (t ∷ [])

-- class 1 has a method and an interface, class 5; class 2 overrides the method; class 3 has another one of its name; 4 is a struct of two int32, and 6 one of two values of its variable
abbrev sample : Program
sample = record {
  classes =
      class kind.Plain None [] [] [] ∷
      class kind.Plain (Some (plain 0)) (plain 5 ∷ []) [] (0 ∷ []) ∷
      class kind.Plain (Some (plain 1)) [] [] (1 ∷ []) ∷
      class kind.Plain (Some (plain 2)) [] [] (2 ∷ []) ∷
      class kind.Struct None [] (field (node head.Int32 []) ∷ field (node head.Int32 []) ∷ []) [] ∷
      class kind.Interface None [] [] (3 ∷ []) ∷
      record { name = codes "Two"; kind = kind.Struct; vars = var ∷ []; base = None; interfaces = []; fields = field (class_var 0) ∷ field (class_var 0) ∷ []; methods = [] } ∷ [];
  methods = method 1 shape.NewSlot ∷ method 2 shape.Virtual ∷ method 3 shape.NewSlot ∷ method 5 shape.Abstract ∷ [];
  literals = [];
  main = 0;
}

bases_here : bases_of sample (plain 3) ≡ plain 3 ∷ plain 2 ∷ plain 1 ∷ plain 0 ∷ []
bases_here = simp (top_of-tree_of, substituted-node) refl

interfaces_here : interfaces_of sample (plain 3) ≡ plain 5 ∷ []
interfaces_here = simp (top_of-tree_of, substituted-node, is_same-node) refl

words_here : (n : ℕ) → words_within sample (suc (suc n)) (plain 4) ≡ 2
words_here n = simp (top_of-tree_of, substituted-node) refl

words_of_nested : (n : ℕ) → words_within sample (suc (suc (suc n))) (two (two int32)) ≡ 4
words_of_nested n = simp (top_of-tree_of, substituted-node, substituted-class_var) refl

trees_of_nested : (n : ℕ) → closure_within sample (suc (suc (suc n))) (two (two int32)) ≡
    two (two int32) ∷ two int32 ∷ int32 ∷ int32 ∷ two int32 ∷ int32 ∷ int32 ∷ []
trees_of_nested n = simp (top_of-tree_of, substituted-node, substituted-class_var) refl

-- class 3 has the slot of class 1's method, in which class 2's stands, its own, and the place of the interface's, in which its own stands
slots_here : slots_of sample (plain 3) ≡ method_of (plain 2) 1 ∷ method_of (plain 3) 2 ∷ method_of (plain 3) 2 ∷ []
slots_here = simp (top_of-tree_of, substituted-node, is_same-node) refl

slots_of_middle : slots_of sample (plain 2) ≡ method_of (plain 2) 1 ∷ method_of (plain 2) 1 ∷ []
slots_of_middle = simp (top_of-tree_of, substituted-node, is_same-node) refl

place_here : implementation_of sample (plain 3) (plain 5) 0 ≡ Some 2
place_here = simp (top_of-tree_of, substituted-node, is_same-node) refl

no_place : implementation_of sample (plain 3) (plain 4) 0 ≡ None
no_place = simp (top_of-tree_of, substituted-node, is_same-node) refl

vectors_here : is_assignable sample (node head.Vector (plain 3 ∷ [])) (node head.Vector (plain 1 ∷ [])) ≡ true
vectors_here = simp (top_of-tree_of, substituted-node, is_same-node, positions_of-node) refl

numbers_here : is_assignable sample (node head.Vector (node head.Int32 [] ∷ [])) (node head.Vector (plain 0 ∷ [])) ≡ false
numbers_here = simp (top_of-tree_of, substituted-node, is_same-node, positions_of-node) refl
