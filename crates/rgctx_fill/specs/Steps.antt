-- The nodes that a type or a method needs, in postorder: those of its arguments from left to right, a method's class first, then its own. This project's own.
use Rattle.std.specs.Prelude.{ℕ, ◌+◌, nat_lt, List, [], ◌∷◌, ◌++◌, length, map, slice_index, if◌then◌else◌}
use Rattle.type_tree.specs.declared.tree.Head.{Head}
use Rattle.type_tree.specs.declared.tree.Head.TheVariants as head
use Rattle.type_tree.specs.declared.tree.TExpr.{TExpr}
use Rattle.type_tree.specs.declared.tree.TNode.{TNode}
use Rattle.type_tree.specs.declared.tree.TNode.TheVariants.{Node, ClassVar, MethodVar}
use Rattle.type_tree.specs.Tree.{folded}
use Rattle.il_model.specs.declared.layout.MethodTree.{MethodTree}
use Rattle.rgctx_fill.specs.declared.stage.NodeStep.{NodeStep}

-- the most classes and methods that node words can name
abbrev pub most_named_classes : ℕ
most_named_classes = 0x7FF0

abbrev pub most_named_methods : ℕ
most_named_methods = 0x8000

-- the number of a head in a node word; 0 for a class that none can name
abbrev pub head_number : Head → ℕ
head_number head.Int32 = 1
head_number head.Int64 = 2
head_number head.Bool = 3
head_number head.Vector = 4
head_number (head.Class number) = if nat_lt number most_named_classes then 16 + number else 0

-- the same of a method
abbrev pub method_number : ℕ → ℕ
method_number number = if nat_lt number most_named_methods then 0x8000 + number else 0

-- the step of a definition, with the places of its arguments
abbrev pub step_with : ℕ → List ℕ → NodeStep
step_with number places = record { definition = number; first = slice_index places 0; second = slice_index places 1; third = slice_index places 2 }

-- lists of steps one behind the other, where each is made from the count of those before it
abbrev pub all_steps : List (ℕ → List NodeStep) → ℕ → List NodeStep
all_steps [] before = []
all_steps (made ∷ rest) before = made before ++ all_steps rest (before + length (made before))

-- the places of their last steps, counted from 1
abbrev pub places_of : List (ℕ → List NodeStep) → ℕ → List ℕ
places_of [] before = []
places_of (made ∷ rest) before = (before + length (made before)) ∷ places_of rest (before + length (made before))

abbrev pub level_steps : TNode (ℕ → List NodeStep) → ℕ → List NodeStep
level_steps (Node h parts) before = all_steps parts before ++ step_with (head_number h) (places_of parts before) ∷ []
level_steps (ClassVar n) before = []
level_steps (MethodVar n) before = []

-- the steps of a type behind so many others
abbrev pub type_steps : TExpr → ℕ → List NodeStep
type_steps t = folded level_steps t

abbrev pub types_steps : List TExpr → ℕ → List NodeStep
types_steps ts before = all_steps (map type_steps ts) before

abbrev pub types_places : List TExpr → ℕ → List ℕ
types_places ts before = places_of (map type_steps ts) before

-- the steps of a method with its class and its arguments
abbrev pub method_steps : MethodTree → List NodeStep
method_steps m = types_steps (m.class ∷ m.args) 0 ++ step_with (method_number m.method) (types_places (m.class ∷ m.args) 0) ∷ []
