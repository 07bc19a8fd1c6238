-- Whether two types, and two signatures, are the same, as tests. This project's own.
use Rattle.std.specs.Prelude.{ℕ, ◌+◌, ◌==◌, ◌&&◌, Bool, true, false, List, [], ◌∷◌, length, Option, Some, None, bytes_eq}
use Rattle.type_tree.specs.declared.tree.TExpr.{TExpr}
use Rattle.type_tree.specs.declared.tree.TNode.{TNode}
use Rattle.type_tree.specs.declared.tree.TNode.TheVariants.{Node, ClassVar, MethodVar}
use Rattle.type_tree.specs.declared.tree.Head.{Head}
use Rattle.type_tree.specs.declared.tree.Head.TheVariants as head
use Rattle.type_tree.specs.Tree.{top_of, folded}
use Rattle.il_model.specs.declared.method.PType.{PType}
use Rattle.il_model.specs.declared.method.PType.TheVariants as ptype
use Rattle.il_model.specs.declared.method.MethodDef.{MethodDef}

-- a number for each head
abbrev pub head_number : Head → ℕ
head_number head.Int32 = 0
head_number head.Int64 = 1
head_number head.Bool = 2
head_number head.Vector = 3
head_number (head.Class number) = 4 + number

-- as many tests as there are items, each of which passes
abbrev pub all_pass : {A : Type 0} → List (A → Bool) → List A → Bool
all_pass [] [] = true
all_pass [] (x ∷ xs) = false
all_pass (test ∷ tests) [] = false
all_pass (test ∷ tests) (x ∷ xs) = test x && all_pass tests xs

-- one level of a type, with a test in place of each type below
abbrev pub level_same : TNode (TExpr → Bool) → TNode TExpr → Bool
level_same (Node h tests) (Node g parts) = (head_number h == head_number g) && all_pass tests parts
level_same (Node h tests) (ClassVar n) = false
level_same (Node h tests) (MethodVar n) = false
level_same (ClassVar m) (Node g parts) = false
level_same (ClassVar m) (ClassVar n) = m == n
level_same (ClassVar m) (MethodVar n) = false
level_same (MethodVar m) (Node g parts) = false
level_same (MethodVar m) (ClassVar n) = false
level_same (MethodVar m) (MethodVar n) = m == n

unfoldable pub same_type : TExpr → TExpr → Bool
same_type = folded (λ level other. level_same level (top_of other))

abbrev pub same_result : Option TExpr → Option TExpr → Bool
same_result None None = true
same_result None (Some u) = false
same_result (Some t) None = false
same_result (Some t) (Some u) = same_type t u

abbrev pub same_param : PType → PType → Bool
same_param (ptype.Value t) (ptype.Value u) = same_type t u
same_param (ptype.Value t) (ptype.Pointer u) = false
same_param (ptype.Value t) ptype.Native = false
same_param (ptype.Pointer t) (ptype.Value u) = false
same_param (ptype.Pointer t) (ptype.Pointer u) = same_type t u
same_param (ptype.Pointer t) ptype.Native = false
same_param ptype.Native (ptype.Value u) = false
same_param ptype.Native (ptype.Pointer u) = false
same_param ptype.Native ptype.Native = true

abbrev pub same_params : List PType → List PType → Bool
same_params [] [] = true
same_params [] (q ∷ qs) = false
same_params (p ∷ ps) [] = false
same_params (p ∷ ps) (q ∷ qs) = same_param p q && same_params ps qs

-- whether a method has this name, as many type variables, these parameters and this result
abbrev pub has_signature : List ℕ → ℕ → List PType → Option TExpr → MethodDef → Bool
has_signature name vars params result m =
    bytes_eq name m.name && (vars == length m.vars) && same_params params m.params && same_result result m.result
