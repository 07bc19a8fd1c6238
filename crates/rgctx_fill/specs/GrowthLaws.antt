-- What fits goes on to fit as words come to the ones that are held.
use Rattle.std.proofs.Common.{◌≡◌, ◌≢◌, ℕ, ◌+◌, ◌*◌, ◌<◌, Bool, true, false, [], length, Option, Some, None, if◌then◌else◌, refl, sym, ap, ◌∙◌, subst, arith}
use Rattle.std.specs.Prelude.{nat_lt, slice_get}
use Rattle.type_tree.specs.declared.tree.TExpr.{TExpr}
use Rattle.il_model.specs.declared.entry.Entry.{Entry}
use Rattle.il_model.specs.declared.entry.Entry.TheVariants as entry
use Rattle.il_model.specs.declared.layout.MethodTree.{MethodTree}
use Rattle.il_model.specs.declared.program.Program.{Program}
use Rattle.rgctx_words.specs.declared.directory.DirectoryWord.{DirectoryWord}
use Rattle.rgctx_words.specs.Regions.{node_count}
use Rattle.rgctx_words.specs.Places.{row_entries, entry_of}
use Rattle.rgctx_words.specs.Directory.{directory_read}
use Rattle.rgctx_words.specs.Held.{Grows}
use Rattle.rgctx_template.specs.Catalogue.{CatData}
use Rattle.rgctx_fill.specs.declared.spelled.NodeTree.{NodeTree}
use Rattle.rgctx_fill.specs.declared.spelled.NodeTree.TheVariants as tree
use Rattle.rgctx_fill.specs.Spelled.{spelled, type_in, naming_of}
use Rattle.rgctx_fill.specs.Nodes.{MayStand}
use Rattle.rgctx_fill.specs.Templates.{tree_template}
use Rattle.rgctx_fill.specs.NamedValues.{IsMethodValue, IsSlotValue, IsValue, IsNamed, entry_at, method_in_slot}
use Rattle.rgctx_fill.specs.Fitting.{directory, use_of, IsRow, IsRowOf, IsNext, IsEntry}
use Rattle.rgctx_fill.specs.SpelledLaws.{is_zero, spelled-grows}

-- ---- what is told of a node is told of one whose word is not 0

pub stands-used : (program : Program) (i : ℕ) (t : NodeTree) → MayStand program i t → is_zero t ≡ false
stands-used program i (tree.Kind t) h = refl
stands-used program i (tree.Method m) h = refl
stands-used program i tree.Other h = refl
stands-used program i (tree.Zero n) h = absurd h

no_entry : {P : Type 0} (n : ℕ) (e : Entry) → slice_get [] n ≡ Some e → P
no_entry n e is = cc

pub listed-used : (cat : CatData) (t : NodeTree) (n : ℕ) (e : Entry) → slice_get (tree_template cat t) n ≡ Some e → is_zero t ≡ false
listed-used cat (tree.Kind t) n e h = refl
listed-used cat (tree.Method m) n e h = refl
listed-used cat tree.Other n e h = refl
listed-used cat (tree.Zero m) n e h = no_entry n e h

pub within-used : (cat : CatData) (t : NodeTree) (n : ℕ) → n < length (tree_template cat t) → is_zero t ≡ false
within-used cat (tree.Kind t) n h = refl
within-used cat (tree.Method m) n h = refl
within-used cat tree.Other n h = refl
within-used cat (tree.Zero m) n h = absurd (omega arith)

pub type_used : (b : Bool) (s : NodeTree) (t : TExpr) → (if b then type_in s else None) ≡ Some t → is_zero s ≡ false
type_used true (tree.Kind u) t h = refl
type_used true (tree.Method m) t h = refl
type_used true tree.Other t h = refl
type_used true (tree.Zero n) t h = cc
type_used false s t h = cc

module _ (cat : CatData) (at later : ℕ → ℕ) (grows : Grows at later) where
  pub used-grows : (i : ℕ) → at i ≢ 0 → later i ≢ 0
  used-grows i used z = used (sym (grows i used) ∙ z)

  pub stands-grows : (i : ℕ) → MayStand cat.program i (spelled at i) → MayStand cat.program i (spelled later i)
  stands-grows i h = subst (MayStand cat.program i) (sym (spelled-grows at later grows i (stands-used cat.program i (spelled at i) h))) h

  pub naming-grows : (i : ℕ) (t : TExpr) → naming_of at i ≡ Some t → naming_of later i ≡ Some t
  naming-grows i t h = ap (λ s. if nat_lt i node_count then type_in s else None) (spelled-grows at later grows i (type_used (nat_lt i node_count) (spelled at i) t h)) ∙ h

  pub method-grows : (m : MethodTree) (value : ℕ) → IsMethodValue cat at m value → IsMethodValue cat later m value
  method-grows m value h = record {
    node = h.node;
    low = h.low;
    spells = spelled-grows at later grows h.node (ap is_zero h.spells) ∙ h.spells;
    word = h.word;
    serves = h.serves;
    is = h.is;
  }

  slot_grows : (m : Option MethodTree) (value : ℕ) → IsSlotValue cat at m value → IsSlotValue cat later m value
  slot_grows (Some m) value h = method-grows m value h
  slot_grows None value h = absurd h

  pub value-grows : (s : NodeTree) (e : Entry) (value : ℕ) → IsValue cat at s e value → IsValue cat later s e value
  value-grows s (entry.Kind t) value h = naming-grows value t h
  value-grows s (entry.Method number class args) value h = method-grows (record { method = number; class = class; args = args }) value h
  value-grows s (entry.Size t) value h = h
  value-grows s (entry.Extent t) value h = h
  value-grows s (entry.Offset t place) value h = h
  value-grows s (entry.Slot number) value h = slot_grows (method_in_slot cat.program s number) value h

  pub named-grows : (i number value : ℕ) → IsNamed cat at i number value → IsNamed cat later i number value
  named-grows i number value h =
      let e : spelled later i ≡ spelled at i = spelled-grows at later grows i (listed-used cat (spelled at i) number h.entry h.is) in
      record {
        entry = h.entry;
        is = ap (λ s. slice_get (tree_template cat s) number) e ∙ h.is;
        names = subst (λ s. IsValue cat later s (entry_at s h.entry) value) (sym e) (value-grows (spelled at i) (entry_at (spelled at i) h.entry) value h.names);
      }

  pub row-grows : (word : DirectoryWord) → IsRow cat at word → IsRow cat later word
  row-grows word h =
      let e : spelled later word.node ≡ spelled at word.node = spelled-grows at later grows word.node (within-used cat (spelled at word.node) (row_entries * word.depth) h.within) in
      record {
        number = h.number;
        used = used-grows word.node h.used;
        within = subst (λ s. row_entries * word.depth < length (tree_template cat s)) (sym e) h.within;
      }

  pub use-grows : (row : ℕ) → directory at row ≢ 0 → use_of later row ≡ use_of at row
  use-grows row used = ap directory_read (grows _ used)

  pub row_of-grows : (node depth address : ℕ) → IsRowOf at node depth address → IsRowOf later node depth address
  row_of-grows node depth address h = record {
    row = h.row;
    low = h.low;
    is = h.is;
    used = used-grows _ h.used;
    of = use-grows h.row h.used ∙ h.of;
  }

  pub next-grows : (row address : ℕ) → IsNext at row address → IsNext later row address
  next-grows row address h = record {
    used = used-grows _ h.used;
    next = subst (λ u. IsRowOf later u.node (u.depth + 1) address) (sym (use-grows row h.used)) (row_of-grows (use_of at row).node ((use_of at row).depth + 1) address h.next);
  }

  pub entry-grows : (row slot value : ℕ) → IsEntry cat at row slot value → IsEntry cat later row slot value
  entry-grows row slot value h = record {
    used = used-grows _ h.used;
    named = subst (λ (u : DirectoryWord). IsNamed cat later u.node (entry_of u.depth slot) value) (sym (use-grows row h.used)) (named-grows (use_of at row).node (entry_of (use_of at row).depth slot) value h.named);
  }
