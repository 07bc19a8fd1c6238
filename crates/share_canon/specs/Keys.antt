-- Which types a key serves, and how close it is to them. This project's own, after Mono's shared generic code in outline.
use Rattle.std.specs.Prelude.{◌≡◌, ℕ, ◌<◌, ◌⊎◌, Bool, true, false, IsTrue, List, length, map, count_by, slice_get, Some, if◌then◌else◌}
use Rattle.type_tree.specs.declared.tree.TExpr.{TExpr}
use Rattle.il_model.specs.declared.program.Program.{Program}
use Rattle.il_model.specs.declared.key.KeyPart.{KeyPart}
use Rattle.il_model.specs.declared.key.KeyPart.TheVariants.{Ref, Any, Exact}
use Rattle.il_model.specs.Kinds.{is_reference}

-- whether a part of a key serves a type: a reference type, any type, or the one tree
abbrev pub ServesPart : Program → KeyPart → TExpr → Type 0
ServesPart program Ref t = IsTrue (is_reference program t)
ServesPart program Any t = Unit {0}
ServesPart program (Exact tree) t = t ≡ tree

-- a key serves types where it has a part for each, and each part serves its type
pub record Serves (program : Program) (key : List KeyPart) (types : List TExpr) : Type 0 where
  pub count : length key ≡ length types
  pub each : (i : ℕ) (p : KeyPart) (t : TExpr) → slice_get key i ≡ Some p → slice_get types i ≡ Some t → ServesPart program p t

abbrev pub is_exact : KeyPart → Bool
is_exact Ref = false
is_exact Any = false
is_exact (Exact tree) = true

abbrev pub is_for_references : KeyPart → Bool
is_for_references Ref = true
is_for_references Any = false
is_for_references (Exact tree) = false

-- how many parts of a key serve one tree alone
abbrev pub exact_parts : List KeyPart → ℕ
exact_parts key = count_by is_exact key

-- how many parts of a key serve the reference types
abbrev pub reference_parts : List KeyPart → ℕ
reference_parts key = count_by is_for_references key

-- a key is closer than another where it has more exact parts, or as many and more parts for references
abbrev pub IsCloser : List KeyPart → List KeyPart → Type 0
IsCloser key other = (exact_parts other < exact_parts key) ⊎ ((exact_parts other ≡ exact_parts key) × (reference_parts other < reference_parts key))

-- the part for a type in code that is shared over references
abbrev pub canonical_part : Program → TExpr → KeyPart
canonical_part program t = if is_reference program t then Ref else Exact t

-- the key of the shared code that serves these types
abbrev pub canonical : Program → List TExpr → List KeyPart
canonical program types = map (canonical_part program) types
