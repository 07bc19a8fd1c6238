-- What nodes spell stays as words come to the ones that are held.
use Rattle.std.proofs.Common.{◌≡◌, ◌≢◌, ⊎_elim, ℕ, zero, suc, ◌<◌, ◌≤◌, ◌==◌, Bool, true, false, List, [], ◌∷◌, Option, Result, Ok, Err, if◌then◌else◌, refl, sym, ap, ◌∙◌, arith, eq-eqb}
use Rattle.std.proofs.lemmas.Bool.{cases_eq}
use Rattle.std.proofs.lemmas.Bool.Decides.{nat_tests}
use Rattle.type_tree.specs.declared.tree.TExpr.{TExpr}
use Rattle.rgctx_words.specs.declared.node_word.NodeWord.{NodeWord}
use Rattle.rgctx_words.specs.declared.node_word.Definition.{Definition}
use Rattle.rgctx_words.specs.NodeWords.{node_read, definition_of}
use Rattle.rgctx_words.specs.Held.{Grows}
use Rattle.rgctx_fill.specs.declared.spelled.NodeTree.{NodeTree}
use Rattle.rgctx_fill.specs.declared.spelled.NodeTree.TheVariants as tree
use Rattle.rgctx_fill.specs.Spelled.{argument_fields, is_packed, type_or_stop, with_type, types_of, applied_or_stop, spelled_by, spelled_from, spelled_below, spelled}

-- ---- nodes below a number

pub below-is : (at : ℕ → ℕ) (n j : ℕ) → j < n → spelled_below at n j ≡ spelled at j
unfolding spelled_below
below-is at zero j less = absurd (omega arith)
below-is at (suc n) j less = ⊎_elim
    (λ (e : j ≡ n). let t : (j == n) ≡ true = eq-eqb j n e in rw t (ap (spelled at) (sym e)))
    (λ (ne : j ≢ n). let t : (j == n) ≡ false = grind (arith, nat_tests) in rw t (below-is at n j (omega arith)))
    (cases_eq j n)

pub below-past : (at : ℕ → ℕ) (n j : ℕ) → n ≤ j → spelled_below at n j ≡ tree.Other
unfolding spelled_below
below-past at zero j less = refl
below-past at (suc n) j less = let t : (j == n) ≡ false = grind (arith, nat_tests) in rw t (below-past at n j (omega arith))

-- ---- words that come

-- whether the reading ends at a word that is 0
abbrev pub is_zero : NodeTree → Bool
is_zero (tree.Kind t) = false
is_zero (tree.Method m) = false
is_zero tree.Other = false
is_zero (tree.Zero n) = true

abbrev pub stops_at_zero : Result (List TExpr) NodeTree → Bool
stops_at_zero (Ok ts) = false
stops_at_zero (Err stop) = is_zero stop

-- what the first reads without a 0 the second reads too
abbrev pub Agrees : (ℕ → NodeTree) → (ℕ → NodeTree) → Type 0
Agrees f g = (j : ℕ) → is_zero (f j) ≡ false → g j ≡ f j

no_zero : {P : Type 0} → true ≡ false → P
no_zero e = cc

next_agrees : (b : Bool) (t u : NodeTree) (rest more : Result (List TExpr) NodeTree) → (is_zero t ≡ false → u ≡ t) → (stops_at_zero rest ≡ false → more ≡ rest)
    → stops_at_zero (if b then Ok [] else with_type (type_or_stop t) rest) ≡ false
    → (if b then Ok [] else with_type (type_or_stop u) more) ≡ (if b then Ok [] else with_type (type_or_stop t) rest)
next_agrees true t u rest more same others h = refl
next_agrees false (tree.Kind t) u (Ok ts) more same others h = ap (λ x. with_type (type_or_stop x) more) (same refl) ∙ ap (with_type (Ok t)) (others refl)
next_agrees false (tree.Kind t) u (Err stop) more same others h = ap (λ x. with_type (type_or_stop x) more) (same refl) ∙ ap (with_type (Ok t)) (others h)
next_agrees false (tree.Method m) u rest more same others h = ap (λ x. with_type (type_or_stop x) more) (same refl)
next_agrees false tree.Other u rest more same others h = ap (λ x. with_type (type_or_stop x) more) (same refl)
next_agrees false (tree.Zero n) u rest more same others h = no_zero h

pub types-agree : (f g : ℕ → NodeTree) → Agrees f g → (ns : List ℕ) → stops_at_zero (types_of f ns) ≡ false → types_of g ns ≡ types_of f ns
types-agree f g agrees [] h = refl
types-agree f g agrees (n ∷ ns) h = next_agrees (n == 0) (f n) (g n) (types_of f ns) (types_of g ns) (agrees n) (λ k. types-agree f g agrees ns k) h

applied_agrees : (b : Bool) (d : Option Definition) (x y : Result (List TExpr) NodeTree) → (stops_at_zero x ≡ false → y ≡ x)
    → is_zero (if b then applied_or_stop d x else tree.Other) ≡ false
    → (if b then applied_or_stop d y else tree.Other) ≡ (if b then applied_or_stop d x else tree.Other)
applied_agrees false d x y same h = refl
applied_agrees true d (Ok ts) y same h = ap (applied_or_stop d) (same refl)
applied_agrees true d (Err stop) y same h = ap (applied_or_stop d) (same h)

by-agrees : (f g : ℕ → NodeTree) → Agrees f g → (n : NodeWord) → is_zero (spelled_by f n) ≡ false → spelled_by g n ≡ spelled_by f n
by-agrees f g agrees n h = applied_agrees (is_packed n) (definition_of n.definition) (types_of f (argument_fields n)) (types_of g (argument_fields n)) (λ k. types-agree f g agrees (argument_fields n) k) h

from_agrees : (b : Bool) (i : ℕ) (x y : NodeTree) → (is_zero x ≡ false → y ≡ x) → is_zero (if b then tree.Zero i else x) ≡ false
    → (if b then tree.Zero i else y) ≡ (if b then tree.Zero i else x)
from_agrees true i x y same h = refl
from_agrees false i x y same h = same h

pub from-agrees : (f g : ℕ → NodeTree) → Agrees f g → (i word : ℕ) → is_zero (spelled_from f i word) ≡ false → spelled_from g i word ≡ spelled_from f i word
from-agrees f g agrees i word h = from_agrees (word == 0) i (spelled_by f (node_read word)) (spelled_by g (node_read word)) (λ k. by-agrees f g agrees (node_read word) k) h

-- a word that is 0 names its node
pub from-zero : (f : ℕ → NodeTree) (i word : ℕ) → word ≡ 0 → spelled_from f i word ≡ tree.Zero i
from-zero f i word e = let t : (word == 0) ≡ true = eq-eqb word 0 e in rw t refl

pub from-used : (f : ℕ → NodeTree) (i word : ℕ) → word ≢ 0 → spelled_from f i word ≡ spelled_by f (node_read word)
from-used f i word ne = let t : (word == 0) ≡ false = grind (arith, nat_tests) in rw t refl

pub no_zero_word : (f : ℕ → NodeTree) (i word : ℕ) → is_zero (spelled_from f i word) ≡ false → word ≢ 0
no_zero_word f i word h z = no_zero (ap is_zero (sym (from-zero f i word z)) ∙ h)

module _ (at later : ℕ → ℕ) (grows : Grows at later) where
  grown : (f g : ℕ → NodeTree) → Agrees f g → (i : ℕ) → is_zero (spelled_from f i (at i)) ≡ false → spelled_from g i (later i) ≡ spelled_from f i (at i)
  grown f g agrees i h = ap (spelled_from g i) (grows i (no_zero_word f i (at i) h)) ∙ from-agrees f g agrees i (at i) h

  pick_agrees : (b : Bool) (x y u v : NodeTree) → (is_zero x ≡ false → y ≡ x) → (is_zero u ≡ false → v ≡ u) → is_zero (if b then x else u) ≡ false → (if b then y else v) ≡ (if b then x else u)
  pick_agrees true x y u v same others h = same h
  pick_agrees false x y u v same others h = others h

  pub below-grows : (n : ℕ) → Agrees (spelled_below at n) (spelled_below later n)
  unfolding spelled_below
  below-grows zero j h = refl
  below-grows (suc n) j h =
      pick_agrees (j == n) (spelled_from (spelled_below at n) n (at n)) (spelled_from (spelled_below later n) n (later n)) (spelled_below at n j) (spelled_below later n j)
      (grown (spelled_below at n) (spelled_below later n) (below-grows n) n) (below-grows n j) h

  -- what a node spells it goes on to spell
  pub spelled-grows : (i : ℕ) → is_zero (spelled at i) ≡ false → spelled later i ≡ spelled at i
  spelled-grows i h = grown (spelled_below at i) (spelled_below later i) (below-grows i) i h
