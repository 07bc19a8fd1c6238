-- The template of a node: the entries that its rows hold. This project's own.
use Rattle.std.specs.Prelude.{ℕ, List, [], length, slice_get, Option, Some, None}
use Rattle.type_tree.specs.declared.tree.TExpr.{TExpr}
use Rattle.il_model.specs.declared.class.ClassDef.{ClassDef}
use Rattle.il_model.specs.declared.entry.Entry.{Entry}
use Rattle.il_model.specs.declared.entry.Def.TheVariants as def
use Rattle.il_model.specs.declared.program.Program.{Program}
use Rattle.il_model.specs.Find.{class_number_of}
use Rattle.il_model.specs.Entries.{template_of}
use Rattle.il_model.specs.Slots.{slots_of}
use Rattle.rgctx_template.specs.Catalogue.{CatData}
use Rattle.rgctx_fill.specs.declared.spelled.NodeTree.{NodeTree}
use Rattle.rgctx_fill.specs.declared.spelled.NodeTree.TheVariants as tree
use Rattle.rgctx_fill.specs.Spelled.{spelled}

abbrev pub class_template : Program → TExpr → ℕ → Option ClassDef → List Entry
class_template program t number None = []
class_template program t number (Some c) = template_of program (def.Class number (length (slots_of program t)))

-- the template of the class that a type names, with as many slots as the type has, which are its definition's; a scalar and a vector have none
abbrev pub type_template : Program → TExpr → Option ℕ → List Entry
type_template program t None = []
type_template program t (Some number) = class_template program t number (slice_get program.classes number)

-- the template of what a node spells: that of its definition. The image's is the list of closed entries
abbrev pub tree_template : CatData → NodeTree → List Entry
tree_template cat (tree.Kind t) = type_template cat.program t (class_number_of t)
tree_template cat (tree.Method m) = template_of cat.program (def.Method m.method)
tree_template cat tree.Other = cat.got
tree_template cat (tree.Zero n) = []

-- the template of a node under these words
abbrev pub template_at : CatData → (ℕ → ℕ) → ℕ → List Entry
template_at cat at i = tree_template cat (spelled at i)
