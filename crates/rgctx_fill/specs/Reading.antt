-- What a reader of a node answers. This project's own.
use Rattle.std.specs.Prelude.{◌≡◌, ◌≢◌, ℕ, List, Ok}
use Rattle.rgctx_template.specs.Catalogue.{CatData}
use Rattle.rgctx_fill.specs.declared.spelled.NodeTree.{NodeTree}
use Rattle.rgctx_fill.specs.declared.spelled.NodeTree.TheVariants as tree
use Rattle.rgctx_fill.specs.declared.spelled.NodeTemplate.{NodeTemplate}
use Rattle.rgctx_fill.specs.declared.spelled.NodeTemplate.TheVariants as template
use Rattle.rgctx_fill.specs.declared.reading.Types.{Types}
use Rattle.rgctx_fill.specs.declared.reading.Types.TheVariants as types
use Rattle.rgctx_fill.specs.Spelled.{types_of, spelled_below, spelled}
use Rattle.rgctx_fill.specs.Templates.{template_at}
use Rattle.rgctx_fill.specs.Claims.{Shows}

-- nothing that is held shows that the index holds a word
abbrev pub IsUnknown : CatData → (ℕ → ℕ) → ℕ → Type 0
IsUnknown cat held i = ¬ (Shows cat held i)

-- what is read of a node, from the words held before and after: what its word spells; Zero where its own word was answered as 0
abbrev pub IsNodeTree : CatData → (ℕ → ℕ) → (ℕ → ℕ) → ℕ → NodeTree → Type 0
IsNodeTree cat before after i (tree.Kind t) = spelled after i ≡ tree.Kind t
IsNodeTree cat before after i (tree.Method m) = spelled after i ≡ tree.Method m
IsNodeTree cat before after i tree.Other = spelled after i ≡ tree.Other
IsNodeTree cat before after i (tree.Zero n) = (n ≡ i) × IsUnknown cat before i

-- the same of its template
abbrev pub IsNodeTemplate : CatData → (ℕ → ℕ) → (ℕ → ℕ) → ℕ → NodeTemplate → Type 0
IsNodeTemplate cat before after i (template.Listed es) = (es ≡ template_at cat after i) × (after i ≢ 0)
IsNodeTemplate cat before after i (template.Zero n) = (n ≡ i) × IsUnknown cat before i

-- the types of a node's arguments are read, through the words held after
abbrev pub AreTypes : (ℕ → ℕ) → ℕ → List ℕ → Types → Type 0
AreTypes after i fields (types.Read ts) = types_of (spelled_below after i) fields ≡ Ok ts
AreTypes after i fields (types.Stopped stop) = ⊥
