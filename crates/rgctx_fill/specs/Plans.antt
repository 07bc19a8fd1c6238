-- Which nodes a value needs, and what those that are found spell. This project's own.
use Rattle.std.specs.Prelude.{◌≡◌, ℕ, ◌<◌, List, length, slice_get, slice_index, Some}
use Rattle.il_model.specs.declared.program.Program.{Program}
use Rattle.rgctx_words.specs.Regions.{node_count}
use Rattle.rgctx_words.specs.NodeWords.{node_read}
use Rattle.rgctx_fill.specs.declared.spelled.NodeTree.{NodeTree}
use Rattle.rgctx_fill.specs.declared.stage.NodeStep.{NodeStep}
use Rattle.rgctx_fill.specs.Spelled.{spelled_by}
use Rattle.rgctx_fill.specs.Nodes.{MayStand}
use Rattle.rgctx_fill.specs.Turns.{word_for}

-- the number is that of a node that spells the tree, by what is told of nodes
pub record Spells (told : ℕ → NodeTree) (number : ℕ) (t : NodeTree) : Type 0 where
  pub low : 0 < number
  pub high : number < node_count
  pub is : told number ≡ t

-- each of the numbers is that of a node that spells the tree at its place
abbrev pub AreSpelled : (ℕ → NodeTree) → List NodeTree → List ℕ → Type 0
AreSpelled told trees found = (k : ℕ) (t : NodeTree) → k < length found → slice_get trees k ≡ Some t → Spells told (slice_index found k) t

-- the step is that of a tree which may have a node, and whose arguments stand before this place of the list: with their numbers its word spells the tree
pub record IsStep (program : Program) (trees : List NodeTree) (k : ℕ) (s : NodeStep) (t : NodeTree) : Type 0 where
  pub stands : MayStand program 0 t
  pub spells : (told : ℕ → NodeTree) (found : List ℕ) → length found ≡ k → AreSpelled told trees found → spelled_by told (node_read (word_for found (Some s))) ≡ t

-- the steps are those of these trees
pub record IsPlan (program : Program) (steps : List NodeStep) (trees : List NodeTree) : Type 0 where
  pub count : length trees ≡ length steps
  pub each : (k : ℕ) (s : NodeStep) (t : NodeTree) → slice_get steps k ≡ Some s → slice_get trees k ≡ Some t → IsStep program trees k s t
