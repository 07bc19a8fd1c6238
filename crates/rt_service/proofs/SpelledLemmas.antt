-- What the reader of a node found.
use Rattle.std.proofs.Common.{◌≡◌, ℕ, ◌<◌, ◌&&◌, Bool, true, false, Some, None, if◌then◌else◌, refl, ap, ◌∙◌, subst, arith}
use Rattle.std.specs.Prelude.{nat_lt}
use Rattle.std.proofs.lemmas.Bool.Decides.{nat_tests}
use Rattle.rgctx_words.specs.Regions.{node_count}
use Rattle.rgctx_template.specs.Catalogue.{CatData}
use Rattle.rgctx_fill.specs.declared.spelled.NodeTree.{NodeTree}
use Rattle.rgctx_fill.specs.declared.spelled.NodeTree.TheVariants as tree
use Rattle.rgctx_fill.specs.Spelled.{spelled}
use Rattle.rgctx_fill.specs.SpelledLaws.{is_zero}
use Rattle.rgctx_fill.specs.Reading.{IsNodeTree}
use Rattle.rt_service.specs.Numbers.{node_number}
use Rattle.rt_service.specs.Readings.{IsSpelled}

number_if : (number node : ℕ) (a b : Bool) → nat_lt 0 number ≡ a → nat_lt number node_count ≡ b → (if a && b then Some number else None) ≡ Some node
    → (number ≡ node) × ((0 < number) × (number < node_count))
number_if number node true true p q e = (cc, (grind (arith, nat_tests), grind (arith, nat_tests)))
number_if number node true false p q e = cc
number_if number node false true p q e = cc
number_if number node false false p q e = cc

pub number_is : (number node : ℕ) → node_number number ≡ Some node → (number ≡ node) × ((0 < number) × (number < node_count))
number_is number node e = number_if number node (nat_lt 0 number) (nat_lt number node_count) refl refl e

read_is : (cat : CatData) (before after : ℕ → ℕ) (node : ℕ) (t : NodeTree) → is_zero t ≡ false → IsNodeTree cat before after node t → spelled after node ≡ t
read_is cat before after node (tree.Kind t) used is = is
read_is cat before after node (tree.Method m) used is = is
read_is cat before after node tree.Other used is = is
read_is cat before after node (tree.Zero n) used is = cc

pub read_spelled : (cat : CatData) (number node : ℕ) (answer t : NodeTree) (before after : ℕ → ℕ) → node_number number ≡ Some node → IsNodeTree cat before after node answer → answer ≡ t → is_zero t ≡ false
    → IsSpelled after number t
read_spelled cat number node answer t before after found read e used =
    let n = number_is number node found in
    record {
      low = n.1.0;
      high = n.1.1;
      is = ap (spelled after) n.0 ∙ read_is cat before after node t used (subst (λ (x : NodeTree). IsNodeTree cat before after node x) e read);
      used = used;
    }
