-- The reader of a node: the types of the arguments read so far go before those of the others, whatever is held later.
use Rattle.std.proofs.Common.{◌≡◌, ◌≢◌, ℕ, ◌+◌, ◌*◌, ◌^◌, ◌<◌, ◌==◌, true, false, List, [], ◌∷◌, ◌++◌, length, drop, Option, Some, None, Result, Ok, Err, if◌then◌else◌, refl, sym, ap, ◌∙◌, subst, arith, append_assoc, add-one, drop-cons}
use Rattle.std.specs.Prelude.{slice_index}
use Rattle.std.proofs.lemmas.Bool.Decides.{nat_tests}
use Rattle.type_tree.specs.declared.tree.TExpr.{TExpr}
use Rattle.il_model.specs.declared.layout.MethodTree.{MethodTree}
use Rattle.rgctx_words.specs.Regions.{node_count}
use Rattle.rgctx_words.specs.NodeWords.{node_read, definition_of}
use Rattle.rgctx_words.specs.declared.node_word.Definition.{Definition}
use Rattle.rgctx_words.specs.declared.node_word.Definition.TheVariants as def
use Rattle.rgctx_words.specs.Held.{Grows}
use Rattle.rgctx_template.specs.Catalogue.{CatData}
use Rattle.rgctx_fill.specs.declared.spelled.NodeTree.{NodeTree}
use Rattle.rgctx_fill.specs.declared.spelled.NodeTree.TheVariants as tree
use Rattle.rgctx_fill.specs.Spelled.{argument_fields, is_packed, type_or_stop, with_type, types_of, applied, applied_or_stop, spelled_by, spelled_from, spelled_below, spelled}
use Rattle.rgctx_fill.specs.Nodes.{MayStand}
use Rattle.rgctx_fill.specs.Fitting.{AreFitting}
use Rattle.rgctx_fill.specs.Claims.{NamesFrom}
use Rattle.rgctx_fill.specs.Reading.{IsUnknown, IsNodeTree}
use Rattle.rgctx_fill.specs.SpelledLaws.{is_zero, below-is, from-used, spelled-grows}
use Rattle.rgctx_fill.specs.PlaceLaws.{node-place}
use Rattle.rgctx_fill.proofs.SpellingLemmas.{Reads, from-reads}
use Rattle.rgctx_fill.proofs.NodeLaws.{type_below}
use Rattle.rgctx_fill.proofs.ShownLaws.{shows-named}

-- these types before those that are read
abbrev pub before : List TExpr → Result (List TExpr) NodeTree → Result (List TExpr) NodeTree
before ts (Ok us) = Ok (ts ++ us)
before ts (Err stop) = Err stop

before_none : (x : Result (List TExpr) NodeTree) → before [] x ≡ x
before_none (Ok us) = refl
before_none (Err stop) = refl

before_one : (ts : List TExpr) (t : TExpr) (x : Result (List TExpr) NodeTree) → before ts (with_type (Ok t) x) ≡ before (ts ++ t ∷ []) x
before_one ts t (Ok us) = ap Ok (sym (append_assoc ts (t ∷ []) us))
before_one ts t (Err stop) = refl

-- whatever is held later, the types of the fields are these and then those of the rest
abbrev pub Continues : (ℕ → ℕ) → ℕ → List ℕ → List TExpr → List ℕ → Type 0
Continues held i fields types rest = (later : ℕ → ℕ) → Grows held later → types_of (spelled_below later i) fields ≡ before types (types_of (spelled_below later i) rest)

pub grows-self : (held : ℕ → ℕ) → Grows held held
grows-self held j used = refl

pub grows-on : (held next later : ℕ → ℕ) → Grows held next → Grows next later → Grows held later
grows-on held next later a b j used = b j (λ z. used (sym (a j used) ∙ z)) ∙ a j used

pub continues-begin : (held : ℕ → ℕ) (i : ℕ) (fields : List ℕ) → Continues held i fields [] fields
continues-begin held i fields later grows = sym (before_none (types_of (spelled_below later i) fields))

pub continues-on : (held next : ℕ → ℕ) (i : ℕ) (fields : List ℕ) (types : List TExpr) (rest : List ℕ) → Grows held next → Continues held i fields types rest → Continues next i fields types rest
continues-on held next i fields types rest grows c later more = c later (grows-on held next later grows more)

field_read : (f : ℕ → NodeTree) (a : ℕ) (rest : List ℕ) (t : TExpr) → a ≢ 0 → f a ≡ tree.Kind t → types_of f (a ∷ rest) ≡ with_type (Ok t) (types_of f rest)
field_read f a rest t ne is = let e : (a == 0) ≡ false = grind (arith, nat_tests) in rw e (ap (λ s. with_type (type_or_stop s) (types_of f rest)) is)

pub continues-more : (held : ℕ → ℕ) (i : ℕ) (fields : List ℕ) (types : List TExpr) (a : ℕ) (rest : List ℕ) (t : TExpr) → a ≢ 0 → a < i → spelled held a ≡ tree.Kind t
    → Continues held i fields types (a ∷ rest) → Continues held i fields (types ++ t ∷ []) rest
continues-more held i fields types a rest t ne less is c later grows =
    c later grows
    ∙ ap (before types) (field_read (spelled_below later i) a rest t ne (below-is later i a less ∙ spelled-grows held later grows a (ap is_zero is) ∙ is))
    ∙ before_one types t (types_of (spelled_below later i) rest)

no_more : (types : List TExpr) → types ++ [] ≡ types
no_more [] = refl
no_more (t ∷ ts) = ap (λ l. t ∷ l) (no_more ts)

pub continues-end : (held : ℕ → ℕ) (i : ℕ) (fields : List ℕ) (types : List TExpr) → Continues held i fields types [] → types_of (spelled_below held i) fields ≡ Ok types
continues-end held i fields types c = c held (grows-self held) ∙ ap Ok (no_more types)

pub continues-zero : (held : ℕ → ℕ) (i : ℕ) (fields : List ℕ) (types : List TExpr) (a : ℕ) (rest : List ℕ) → a ≡ 0 → Continues held i fields types (a ∷ rest) → types_of (spelled_below held i) fields ≡ Ok types
continues-zero held i fields types a rest z c = c held (grows-self held) ∙ (let e : (a == 0) ≡ true = grind (arith, nat_tests) in rw e (ap Ok (no_more types)))

-- ---- where the words fit each argument spells a type

pub record AreRead (f : ℕ → NodeTree) (fields : List ℕ) : Type 0 where
  pub types : List TExpr
  pub is : types_of f fields ≡ Ok types

image_read : (f : ℕ → NodeTree) (word : ℕ) → word ≡ 15 * 2 ^ 48 → AreRead f (argument_fields (node_read word))
image_read f word e = record { types = []; is = ap (λ w. types_of f (argument_fields (node_read w))) e }

module _ (cat : CatData) (at : ℕ → ℕ) (fits : AreFitting cat at) (i : ℕ) (low : 0 < i) (high : i < node_count) (used : at i ≢ 0) where
  read_as : (s : NodeTree) → spelled at i ≡ s → MayStand cat.program i s → AreRead (spelled_below at i) (argument_fields (node_read (at i)))
  read_as (tree.Kind t) h stands = let r : Reads (spelled_below at i) (node_read (at i)) (tree.Kind t) = (from-reads (spelled_below at i) i (at i) (tree.Kind t) refl h).1 in record { types = r.types; is = r.read }
  read_as (tree.Method m) h stands = let r : Reads (spelled_below at i) (node_read (at i)) (tree.Method m) = (from-reads (spelled_below at i) i (at i) (tree.Method m) refl h).1 in record { types = r.types; is = r.read }
  read_as tree.Other h stands = image_read (spelled_below at i) (at i) (ap at stands ∙ fits.leaves 1 (omega arith, omega arith))
  read_as (tree.Zero n) h stands = absurd stands

  pub arguments-read : AreRead (spelled_below at i) (argument_fields (node_read (at i)))
  arguments-read = read_as (spelled at i) refl (fits.nodes i low high used)

pub record IsTypeNode (at : ℕ → ℕ) (i a : ℕ) : Type 0 where
  pub type : TExpr
  pub less : a < i
  pub is : spelled at a ≡ tree.Kind type

record IsKindTree (s : NodeTree) : Type 0 where
  type : TExpr
  is : s ≡ tree.Kind type

first_kind : (types : List TExpr) (x : NodeTree) (ts : List TExpr) (y : Result (List TExpr) NodeTree) → before types (with_type (type_or_stop x) y) ≡ Ok ts → IsKindTree x
first_kind types (tree.Kind t) ts y h = record { type = t; is = refl }
first_kind types (tree.Method m) ts y h = cc
first_kind types tree.Other ts y h = cc
first_kind types (tree.Zero n) ts y h = cc

pub field-first : (fields : List ℕ) (index : ℕ) → index < length fields → drop index fields ≡ slice_index fields index ∷ drop (index + 1) fields
field-first fields index inside = rw add-one (drop-cons fields index 0 inside)

module _ (cat : CatData) (at held : ℕ → ℕ) (fits : AreFitting cat at) (within : Grows held at) (i : ℕ) (low : 0 < i) (high : i < node_count) (used : held i ≢ 0)
    (fields : List ℕ) (from : fields ≡ argument_fields (node_read (held i))) (types : List TExpr) (index : ℕ) (inside : index < length fields)
    (ne : slice_index fields index ≢ 0) (c : Continues held i fields types (drop index fields)) where
  here : at i ≡ held i
  here = within i used

  all_read : AreRead (spelled_below at i) fields
  all_read =
      let r : AreRead (spelled_below at i) (argument_fields (node_read (at i))) = arguments-read cat at fits i low high (λ z. used (sym here ∙ z)) in
      record { types = r.types; is = ap (types_of (spelled_below at i)) (from ∙ ap (λ w. argument_fields (node_read w)) (sym here)) ∙ r.is }

  rest_read : (ts : List TExpr) → types_of (spelled_below at i) fields ≡ Ok ts → IsKindTree (spelled_below at i (slice_index fields index))
  rest_read ts is =
      let z : (slice_index fields index == 0) ≡ false = grind (arith, nat_tests) in
      first_kind types (spelled_below at i (slice_index fields index)) ts (types_of (spelled_below at i) (drop (index + 1) fields))
      (ap (λ b. before types (if b then Ok [] else with_type (type_or_stop (spelled_below at i (slice_index fields index))) (types_of (spelled_below at i) (drop (index + 1) fields)))) (sym z)
      ∙ ap (λ l. before types (types_of (spelled_below at i) l)) (sym (field-first fields index inside))
      ∙ sym (c at within) ∙ is)

  -- the next field that is not 0 is the node of a type
  pub field-is_type : IsTypeNode at i (slice_index fields index)
  field-is_type =
      let k : IsKindTree (spelled_below at i (slice_index fields index)) = rest_read all_read.types all_read.is in
      let p : (slice_index fields index < i) × (spelled at (slice_index fields index) ≡ tree.Kind k.type) = type_below at i (slice_index fields index) k.type k.is in
      record { type = k.type; less = p.0; is = p.1 }

-- ---- what is read of an argument is its type

not_method : {P : Type 0} (m : MethodTree) (t : TExpr) → tree.Method m ≡ tree.Kind t → P
not_method m t e = cc

module _ (at after : ℕ → ℕ) (within : Grows after at) (i a : ℕ) (type : IsTypeNode at i a) where
  pub argument-no_method : (m : MethodTree) → ¬ (spelled after a ≡ tree.Method m)
  argument-no_method m h = let e : tree.Method m ≡ tree.Kind type.type = sym (spelled-grows after at within a (ap is_zero h) ∙ h) ∙ type.is in cc

  pub argument-no_other : ¬ (spelled after a ≡ tree.Other)
  argument-no_other h = let e : tree.Other ≡ tree.Kind type.type = sym (spelled-grows after at within a (ap is_zero h) ∙ h) ∙ type.is in cc

pub argument-known : (cat : CatData) (held : ℕ → ℕ) (i a : ℕ) → i < node_count → held i ≢ 0 → a ≢ 0 → a < i → ¬ (IsUnknown cat held a)
argument-known cat held i a low used ne less unknown = unknown (shows-named cat held i a (omega arith) used (subst (λ p. NamesFrom p (held i) a) (sym (node-place i low)) (omega arith, less)))

-- ---- what a node spells, once its arguments are read

pub applied-used : (d : Option Definition) (ts : List TExpr) → is_zero (applied d ts) ≡ false
applied-used (Some def.Int32) ts = refl
applied-used (Some def.Int64) ts = refl
applied-used (Some def.Bool) ts = refl
applied-used (Some def.Vector) ts = refl
applied-used (Some def.Image) ts = refl
applied-used (Some (def.Class number)) ts = refl
applied-used (Some (def.Method number)) [] = refl
applied-used (Some (def.Method number)) (c ∷ ts) = refl
applied-used None ts = refl

module _ (held : ℕ → ℕ) (i word : ℕ) (is : held i ≡ word) (used : word ≢ 0) where
  spelled_word : spelled held i ≡ spelled_by (spelled_below held i) (node_read word)
  spelled_word = ap (spelled_from (spelled_below held i) i) is ∙ from-used (spelled_below held i) i word used

  pub spelled-read : (ts : List TExpr) → is_packed (node_read word) ≡ true → types_of (spelled_below held i) (argument_fields (node_read word)) ≡ Ok ts → spelled held i ≡ applied (definition_of (node_read word).definition) ts
  spelled-read ts packed read =
      spelled_word
      ∙ ap (λ b. if b then applied_or_stop (definition_of (node_read word).definition) (types_of (spelled_below held i) (argument_fields (node_read word))) else tree.Other) packed
      ∙ ap (applied_or_stop (definition_of (node_read word).definition)) read

  pub spelled-unpacked : is_packed (node_read word) ≡ false → spelled held i ≡ tree.Other
  spelled-unpacked packed =
      spelled_word
      ∙ ap (λ b. if b then applied_or_stop (definition_of (node_read word).definition) (types_of (spelled_below held i) (argument_fields (node_read word))) else tree.Other) packed

-- what is spelled is what the reader answers
pub node_tree-is : (cat : CatData) (first held : ℕ → ℕ) (i : ℕ) (s : NodeTree) → is_zero s ≡ false → spelled held i ≡ s → IsNodeTree cat first held i s
node_tree-is cat first held i (tree.Kind t) used h = h
node_tree-is cat first held i (tree.Method m) used h = h
node_tree-is cat first held i tree.Other used h = h
node_tree-is cat first held i (tree.Zero n) used h = cc
