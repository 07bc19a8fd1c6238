-- The example of slots.
use Rattle.std.proofs.Common.{refl}
use Rattle.type_tree.proofs.TreeLemmas.{top_of-tree_of}
use Rattle.type_tree.proofs.SubstitutionLemmas.{substituted-node}
use Rattle.il_model.proofs.TreesLemmas.{is_same-node}
use Rattle.cil_meaning.specs.SlotExample.{FindsSlots}

pub finds_slots : FindsSlots
finds_slots = record {
  first = simp (top_of-tree_of, substituted-node) refl;
  overridden = simp (top_of-tree_of, substituted-node) refl;
  new = simp (top_of-tree_of, substituted-node) refl;
  interface = simp (top_of-tree_of, substituted-node, is_same-node) refl;
  boxed = simp (top_of-tree_of, substituted-node, is_same-node) refl;
  own = simp (top_of-tree_of, substituted-node) refl;
}
