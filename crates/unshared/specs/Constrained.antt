-- What `constrained.` and its `callvirt` come to. Only private contracts cite it.
use Rattle.std.specs.Prelude.{ℕ, if◌then◌else◌, List, [], ◌∷◌, Option, Some, None}
use Rattle.type_tree.specs.declared.tree.TExpr.{TExpr}
use Rattle.il_model.specs.declared.program.Program.{Program}
use Rattle.il_model.specs.Kinds.{is_reference}
use Rattle.il_model.specs.Layouts.{words_of}
use Rattle.cil_meaning.specs.Values.{Pointer}
use Rattle.cil_meaning.specs.Calls.{slot_found}
use Rattle.cil_meaning.specs.Search.{null_reference}
use Rattle.unshared.specs.declared.frames.Frames.{Frames as FramesHere}
use Rattle.unshared.specs.Boxed.{boxes_new}
use Rattle.unshared.specs.Called.{calls_slot, calls_object}
use Rattle.unshared.specs.Going.{Did, Throws}
use Rattle.unshared.specs.Held.{places_of}
use Rattle.unshared.specs.Memory.{reads_at}
use Rattle.unshared.specs.Operands.{only}
use Rattle.unshared.specs.Owners.{owner_pointer}
use Rattle.unshared.specs.Objects.{pointed}
use Rattle.unshared.specs.Silent.{stuck}
use Rattle.unshared.specs.Talk.{Talk, ◌>>=◌, pure, say}

-- on a reference type the object is what the pointer leads to
unfoldable pub calls_led : Program → List TExpr → (class : TExpr) → ℕ → Pointer → FramesHere → ℕ → Talk Did
calls_led p kinds class number q f given = do
  words ← reads_at (places_of f) q 1
  w ← say (only words)
  calls_object p kinds class number w f given

abbrev pub by_reference : Program → List TExpr → (class : TExpr) → ℕ → FramesHere → ℕ → Option Pointer → Talk Did
by_reference p kinds class number f given None = pure (Throws null_reference)
by_reference p kinds class number f given (Some q) = calls_led p kinds class number q f given

-- on a value type without the method the object is a new box of the type with this number
unfoldable pub calls_boxed : Program → List TExpr → ℕ → TExpr → (class : TExpr) → ℕ → Pointer → FramesHere → ℕ → Talk Did
calls_boxed p kinds v t class number q f given = do
  words ← reads_at (places_of f) q (words_of p t)
  o ← boxes_new v words
  calls_object p kinds class number o f given

abbrev pub by_box : Program → List TExpr → ℕ → TExpr → (class : TExpr) → ℕ → FramesHere → ℕ → Option Pointer → Talk Did
by_box p kinds v t class number f given None = pure (Throws null_reference)
by_box p kinds v t class number f given (Some q) = calls_boxed p kinds v t class number q f given

abbrev pub by_numbers : Program → List TExpr → List ℕ → TExpr → (class : TExpr) → ℕ → Pointer → FramesHere → ℕ → Talk Did
by_numbers p kinds [] t class number q f given = say stuck
by_numbers p kinds (v ∷ vs) t class number q f given = by_box p kinds v t class number f given (owner_pointer q)

abbrev pub by_slot : Program → List TExpr → List ℕ → TExpr → (class : TExpr) → ℕ → Pointer → FramesHere → ℕ → Option ℕ → Talk Did
by_slot p kinds numbers t class number q f given (Some slot) = calls_slot p t slot (pointed q) f given
by_slot p kinds numbers t class number q f given None = by_numbers p kinds numbers t class number q f given

unfoldable pub constrained : Program → List TExpr → List ℕ → TExpr → (class : TExpr) → ℕ → Pointer → FramesHere → ℕ → Talk Did
constrained p kinds numbers t class number q f given =
    if is_reference p t then by_reference p kinds class number f given (owner_pointer q)
    else by_slot p kinds numbers t class number q f given (slot_found p t class number)
