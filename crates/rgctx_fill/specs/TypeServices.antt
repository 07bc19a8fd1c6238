-- The services that ask of types: FINDSLOT, ASSIGNABLE and ELEMENT. Each is one action. This project's own.
use Rattle.std.specs.Prelude.{ℕ, nat_lt, Bool, true, false, length, Option, Some, None, if◌then◌else◌}
use Rattle.type_tree.specs.declared.tree.TExpr.{TExpr}
use Rattle.interaction.specs.declared.turn.What.TheVariants as noted
use Rattle.il_model.specs.declared.program.Program.{Program}
use Rattle.il_model.specs.Slots.{is_interface, own_methods_of, implementation_of}
use Rattle.cil_meaning.specs.Types.{passes_as}
use Rattle.rgctx_words.specs.declared.node_word.Definition.{Definition}
use Rattle.rgctx_words.specs.declared.node_word.Definition.TheVariants as def
use Rattle.rgctx_words.specs.NodeWords.{node_read, definition_of}
use Rattle.rgctx_fill.specs.ThreadStates.{ImageData, ThreadData, Move}
use Rattle.rgctx_fill.specs.ThreadStates as move
use Rattle.rgctx_fill.specs.ServiceReplies.{refuses, given, word_of_flag}
use Rattle.rgctx_fill.specs.NodeReadings.{numbered, with_type_tree}

abbrev pub is_vector : Option Definition → Bool
is_vector (Some def.Int32) = false
is_vector (Some def.Int64) = false
is_vector (Some def.Bool) = false
is_vector (Some def.Vector) = true
is_vector (Some def.Image) = false
is_vector (Some (def.Class number)) = false
is_vector (Some (def.Method number)) = false
is_vector None = false

abbrev pub is_vector_word : ℕ → Bool
is_vector_word word = is_vector (definition_of (node_read word).definition)

-- The slot in which a type has a method of an interface, by the method's place among the interface's own. None where the second type is no interface of
-- the first, or has no method with that place.
abbrev pub slot_found : Program → (exact interface : TExpr) → ℕ → Option ℕ
slot_found program exact interface ordinal =
    if is_interface program interface
    then (if nat_lt ordinal (length (own_methods_of program interface)) then implementation_of program exact interface ordinal else None)
    else None

module _ (im : ImageData) (s : ThreadData) where
  -- goes on with the types that two nodes spell. Both numbers are judged before a word is read
  abbrev pub with_two_types : ℕ → ℕ → (TExpr → TExpr → Move) → Move
  with_two_types n m next = numbered s n (numbered s m (with_type_tree s n (λ t. with_type_tree s m (λ u. next t u))))

  abbrev pub finds : Option ℕ → Move
  finds None = refuses s
  finds (Some slot) = move.Goes noted.Action (given s slot)

  abbrev pub finds_slot_of : ℕ → TExpr → TExpr → Move
  finds_slot_of ordinal exact interface = finds (slot_found im.cat.program exact interface ordinal)

  -- FINDSLOT: x10 the node of the exact type, x11 that of the interface, x12 the place of the method among the interface's own
  abbrev pub finds_slot : ℕ → ℕ → ℕ → Move
  finds_slot n m ordinal = with_two_types n m (finds_slot_of ordinal)

  -- ASSIGNABLE: x10 the node of the exact type, x11 that of the one asked for
  abbrev pub judges_assignable : ℕ → ℕ → Move
  judges_assignable n m = with_two_types n m (λ exact asked. move.Goes noted.Action (given s (word_of_flag (passes_as im.cat.program exact asked))))

  -- ELEMENT: x10 the node of a vector
  abbrev pub finds_element : ℕ → Move
  finds_element n = numbered s n (move.Reads n (λ word. if is_vector_word word then move.Goes noted.Action (given s (node_read word).first) else refuses s))
