-- Which types are assignable to which, and which arguments meet a bound. This project's own.
use Rattle.std.specs.Prelude.{ℕ, zero, suc, Bool, false, ◌&&◌, ◌||◌, List, [], ◌∷◌, slice_get, Option, Some, None}
use Rattle.type_tree.specs.declared.tree.TExpr.{TExpr}
use Rattle.type_tree.specs.declared.tree.TNode.{TNode}
use Rattle.type_tree.specs.declared.tree.TNode.TheVariants.{Node, ClassVar, MethodVar}
use Rattle.type_tree.specs.declared.tree.Head.{Head}
use Rattle.type_tree.specs.declared.tree.Head.TheVariants as head
use Rattle.type_tree.specs.Tree.{top_of}
use Rattle.type_tree.specs.Positions.{positions_of}
use Rattle.il_model.specs.declared.class.VarDef.{VarDef}
use Rattle.il_model.specs.declared.program.Program.{Program}
use Rattle.il_model.specs.Kinds.{is_reference, is_value}
use Rattle.il_model.specs.Library.{plain}
use Rattle.type_tree.specs.Same.{is_same}
use Rattle.il_model.specs.Trees.{is_among, is_variable}
use Rattle.il_model.specs.Bases.{bases_of}
use Rattle.il_model.specs.Interfaces.{interfaces_of}

abbrev pub is_object : TExpr → Bool
is_object t = is_same t (plain 0)

abbrev pub only_of : List TExpr → Option TExpr
only_of [] = None
only_of (t ∷ []) = Some t
only_of (t ∷ u ∷ ts) = None

abbrev pub element_in : Head → List TExpr → Option TExpr
element_in head.Int32 parts = None
element_in head.Int64 parts = None
element_in head.Bool parts = None
element_in head.Vector parts = only_of parts
element_in (head.Class number) parts = None

abbrev pub element_in_top : TNode TExpr → Option TExpr
element_in_top (Node h parts) = element_in h parts
element_in_top (ClassVar n) = None
element_in_top (MethodVar n) = None

-- the type of a vector's elements
abbrev pub element_of : TExpr → Option TExpr
element_of t = element_in_top (top_of t)

-- both are there and pass
abbrev pub pass_both : (TExpr → TExpr → Bool) → Option TExpr → Option TExpr → Bool
pass_both test None other = false
pass_both test (Some t) None = false
pass_both test (Some t) (Some u) = test t u

-- whether the first type is the second or has it as a base, is a reference type where the second is `object`, or has it as an interface
abbrev pub is_assignable_flat : Program → TExpr → TExpr → Bool
is_assignable_flat program t u =
    is_among (bases_of program t) u || ((is_object u && is_reference program t) || is_among (interfaces_of program t) u)

-- the same, or both are vectors of references whose elements are assignable, so many levels far
abbrev pub assignable_within : Program → ℕ → TExpr → TExpr → Bool
assignable_within program zero t u = is_assignable_flat program t u
assignable_within program (suc levels) t u =
    is_assignable_flat program t u ||
    pass_both (λ a b. is_reference program a && (is_reference program b && assignable_within program levels a b)) (element_of t) (element_of u)

-- whether the first type is assignable to the second. A type has more positions than vectors in one another
abbrev pub is_assignable : Program → TExpr → TExpr → Bool
is_assignable program t u = assignable_within program (positions_of t) t u

-- the variables that types are read among, with their bounds
pub record Bounded : Type 0 where
  pub of_class : List VarDef
  pub of_method : List VarDef

abbrev pub bounds_in : Option VarDef → List TExpr
bounds_in None = []
bounds_in (Some v) = v.bounds

abbrev pub bounds_of_top : Bounded → TNode TExpr → List TExpr
bounds_of_top scope (Node h parts) = []
bounds_of_top scope (ClassVar n) = bounds_in (slice_get scope.of_class n)
bounds_of_top scope (MethodVar n) = bounds_in (slice_get scope.of_method n)

-- the bounds of a variable; any other type has none
abbrev pub bounds_of : Bounded → TExpr → List TExpr
bounds_of scope t = bounds_of_top scope (top_of t)

-- whether the boxed form of a value type or a variable is assignable to a type: to `object`, to the interfaces of a value type, and to the bounds of a variable, which are not followed upwards
abbrev pub is_box_assignable : Program → Bounded → TExpr → TExpr → Bool
is_box_assignable program scope t u = is_object u || (is_among (interfaces_of program t) u || is_among (bounds_of scope t) u)

-- whether an argument meets a bound: it is assignable to it or, being a value type or a variable, its boxed form is
abbrev pub meets_bound : Program → Bounded → TExpr → TExpr → Bool
meets_bound program scope t bound =
    is_assignable program t bound || ((is_value program t || is_variable t) && is_box_assignable program scope t bound)
