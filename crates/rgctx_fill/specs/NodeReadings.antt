-- Turns that need what a node spells: each word that is read is one that the turn needs first. This project's own.
use Rattle.std.specs.Prelude.{ℕ, zero, suc, ◌==◌, ◌&&◌, nat_lt, Bool, true, false, List, [], ◌∷◌, Option, Some, None, Result, Ok, Err, if◌then◌else◌}
use Rattle.type_tree.specs.declared.tree.TExpr.{TExpr}
use Rattle.rgctx_words.specs.declared.node_word.Definition.{Definition}
use Rattle.rgctx_words.specs.declared.node_word.Definition.TheVariants as def
use Rattle.rgctx_words.specs.Regions.{node_count}
use Rattle.rgctx_words.specs.NodeWords.{node_read, definition_of}
use Rattle.rgctx_fill.specs.declared.spelled.NodeTree.{NodeTree}
use Rattle.rgctx_fill.specs.declared.spelled.NodeTree.TheVariants as tree
use Rattle.rgctx_fill.specs.Spelled.{argument_fields, is_packed, type_or_stop, with_type, applied_or_stop}
use Rattle.rgctx_fill.specs.ThreadStates.{ThreadData, Move}
use Rattle.rgctx_fill.specs.ThreadStates as move
use Rattle.rgctx_fill.specs.ServiceReplies.{refuses}

-- whether a number is that of a node, in use or not
abbrev pub is_node_number : ℕ → Bool
is_node_number n = nat_lt 0 n && nat_lt n node_count

-- goes on with a number of a node, in use or not
abbrev pub numbered : ThreadData → ℕ → Move → Move
numbered s n next = if is_node_number n then next else refuses s

-- One word ------------------------------------------------------------------

-- whether a node of this definition is a type's
abbrev pub is_type : Option Definition → Bool
is_type (Some def.Int32) = true
is_type (Some def.Int64) = true
is_type (Some def.Bool) = true
is_type (Some def.Vector) = true
is_type (Some def.Image) = false
is_type (Some (def.Class number)) = true
is_type (Some (def.Method number)) = false
is_type None = false

abbrev pub is_type_word : ℕ → Bool
is_type_word word = is_type (definition_of (node_read word).definition)

-- goes on where a number is that of a type's node
abbrev pub with_type_node : ThreadData → ℕ → Move → Move
with_type_node s n next = numbered s n (move.Reads n (λ word. if is_type_word word then next else refuses s))

-- The tree ------------------------------------------------------------------

-- goes on with the type that an argument's node spells, or with what the reading stopped with
abbrev pub on_type : Result TExpr NodeTree → (NodeTree → Move) → (TExpr → Move) → Move
on_type (Ok t) stops goes = goes t
on_type (Err stop) stops goes = stops stop

-- goes on with the types that the nodes of the arguments spell, up to the first 0. They lie before the node that they are arguments of
abbrev pub reads_types : (ℕ → (NodeTree → Move) → Move) → ℕ → List ℕ → (Result (List TExpr) NodeTree → Move) → Move
reads_types reads i [] next = next (Ok [])
reads_types reads i (n ∷ ns) next =
    if n == 0 then next (Ok [])
    else (if nat_lt n i
    then reads n (λ spells. on_type (type_or_stop spells) (λ stop. next (Err stop)) (λ t. reads_types reads i ns (λ ts. next (with_type (Ok t) ts))))
    else next (Err tree.Other))

-- Goes on with what a node spells, so many levels of nodes deep. Its arguments are nodes before it, so as many levels as its number are enough.
abbrev pub reads_within : ℕ → ℕ → (NodeTree → Move) → Move
reads_within zero i next = next tree.Other
reads_within (suc levels) i next = move.Reads i (λ word.
    if is_packed (node_read word)
    then reads_types (λ n back. reads_within levels n back) i (argument_fields (node_read word)) (λ ts. next (applied_or_stop (definition_of (node_read word).definition) ts))
    else next tree.Other)

-- goes on with what the node of a number spells
abbrev pub with_tree : ThreadData → ℕ → (NodeTree → Move) → Move
with_tree s n next = numbered s n (reads_within (suc n) n next)

abbrev pub on_type_tree : ThreadData → (TExpr → Move) → NodeTree → Move
on_type_tree s next (tree.Kind t) = next t
on_type_tree s next (tree.Method m) = refuses s
on_type_tree s next tree.Other = refuses s
on_type_tree s next (tree.Zero n) = refuses s

-- the same of a type's node
abbrev pub with_type_tree : ThreadData → ℕ → (TExpr → Move) → Move
with_type_tree s n next = with_tree s n (on_type_tree s next)
