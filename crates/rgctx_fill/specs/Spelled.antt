-- What a node spells: a type, or a method with its type arguments, read through the nodes of its arguments. This project's own.
use Rattle.std.specs.Prelude.{ℕ, zero, suc, ◌==◌, Bool, not, ◌&&◌, ◌||◌, nat_lt, List, [], ◌∷◌, Option, Some, None, Result, Ok, Err, if◌then◌else◌}
use Rattle.type_tree.specs.declared.tree.TExpr.{TExpr}
use Rattle.type_tree.specs.declared.tree.Head.{Head}
use Rattle.type_tree.specs.declared.tree.Head.TheVariants as head
use Rattle.type_tree.specs.Tree.{node}
use Rattle.rgctx_words.specs.declared.node_word.NodeWord.{NodeWord}
use Rattle.rgctx_words.specs.declared.node_word.Definition.{Definition}
use Rattle.rgctx_words.specs.declared.node_word.Definition.TheVariants as def
use Rattle.rgctx_words.specs.Regions.{node_count}
use Rattle.rgctx_words.specs.NodeWords.{node_read, definition_of}
use Rattle.rgctx_fill.specs.declared.spelled.NodeTree.{NodeTree}
use Rattle.rgctx_fill.specs.declared.spelled.NodeTree.TheVariants as tree

-- the nodes of the arguments in a word, from left to right, 0 where there is none
abbrev pub argument_fields : NodeWord → List ℕ
argument_fields n = n.first ∷ n.second ∷ n.third ∷ []

-- whether no argument stands behind a 0
abbrev pub is_packed : NodeWord → Bool
is_packed n = (not (n.first == 0) || (n.second == 0)) && (not (n.second == 0) || (n.third == 0))

-- the type that an argument's node spells; what a node of another kind stops the reading with
abbrev pub type_or_stop : NodeTree → Result TExpr NodeTree
type_or_stop (tree.Kind t) = Ok t
type_or_stop (tree.Method m) = Err tree.Other
type_or_stop tree.Other = Err tree.Other
type_or_stop (tree.Zero n) = Err (tree.Zero n)

abbrev pub with_type : Result TExpr NodeTree → Result (List TExpr) NodeTree → Result (List TExpr) NodeTree
with_type (Err stop) rest = Err stop
with_type (Ok t) (Err stop) = Err stop
with_type (Ok t) (Ok ts) = Ok (t ∷ ts)

-- the types that nodes spell, in order, up to the first 0; or what the first that spells none stops the reading with
abbrev pub types_of : (ℕ → NodeTree) → List ℕ → Result (List TExpr) NodeTree
types_of spells [] = Ok []
types_of spells (n ∷ ns) = if n == 0 then Ok [] else with_type (type_or_stop (spells n)) (types_of spells ns)

abbrev pub kind_applied : Head → List TExpr → NodeTree
kind_applied h ts = tree.Kind (node h ts)

abbrev pub method_applied : ℕ → List TExpr → NodeTree
method_applied number [] = tree.Other
method_applied number (class ∷ args) = tree.Method (record { method = number; class = class; args = args })

-- a definition with the types of its arguments; a method's first is its class
abbrev pub applied : Option Definition → List TExpr → NodeTree
applied (Some def.Int32) ts = kind_applied head.Int32 ts
applied (Some def.Int64) ts = kind_applied head.Int64 ts
applied (Some def.Bool) ts = kind_applied head.Bool ts
applied (Some def.Vector) ts = kind_applied head.Vector ts
applied (Some def.Image) ts = tree.Other
applied (Some (def.Class number)) ts = kind_applied (head.Class number) ts
applied (Some (def.Method number)) ts = method_applied number ts
applied None ts = tree.Other

abbrev pub applied_or_stop : Option Definition → Result (List TExpr) NodeTree → NodeTree
applied_or_stop d (Ok ts) = applied d ts
applied_or_stop d (Err stop) = stop

abbrev pub spelled_by : (ℕ → NodeTree) → NodeWord → NodeTree
spelled_by below n = if is_packed n then applied_or_stop (definition_of n.definition) (types_of below (argument_fields n)) else tree.Other

-- what the node with this number and this word spells, from what the nodes before it spell. The node is named where its word is 0
abbrev pub spelled_from : (ℕ → NodeTree) → ℕ → ℕ → NodeTree
spelled_from below i word = if word == 0 then tree.Zero i else spelled_by below (node_read word)

-- what the nodes below a number spell. The others are no arguments of the node with this number
unfoldable pub spelled_below : (ℕ → ℕ) → ℕ → ℕ → NodeTree
spelled_below at zero j = tree.Other
spelled_below at (suc n) j = if j == n then spelled_from (spelled_below at n) n (at n) else spelled_below at n j

-- what a node spells under these words. Its arguments are nodes before it
abbrev pub spelled : (ℕ → ℕ) → ℕ → NodeTree
spelled at i = spelled_from (spelled_below at i) i (at i)

abbrev pub type_in : NodeTree → Option TExpr
type_in (tree.Kind t) = Some t
type_in (tree.Method m) = None
type_in tree.Other = None
type_in (tree.Zero n) = None

-- the naming of given words: the type that each type node in use spells
abbrev pub naming_of : (ℕ → ℕ) → ℕ → Option TExpr
naming_of at i = if nat_lt i node_count then type_in (spelled at i) else None
