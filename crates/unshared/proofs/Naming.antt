-- A list of different types is a naming.
use Rattle.std.proofs.Common.{◌≡◌, ◌∙◌, ℕ, ◌^◌, ◌<◌, ◌≤◌, List, length, Some, sym, ap, arith, get_or}
use Rattle.std.specs.Prelude.{slice_get}
use Rattle.std.proofs.lemmas.List.Quantifiers.{position-Some}
use Rattle.std.proofs.lemmas.Option.{slice_get-get_or, slice_get_within}
use Rattle.type_tree.specs.declared.tree.TExpr.{TExpr}
use Rattle.type_tree.specs.Same.{is_same}
use Rattle.type_tree.proofs.SameLemmas.{is_same-Decides}
use Rattle.cil_meaning.specs.Naming.{IsNaming}
use Rattle.unshared.specs.Listed.{number_in, value_in, naming_of, IsOnce}

found_there : (trees : List TExpr) (i : ℕ) (t : TExpr) → number_in trees t ≡ Some i → slice_get trees i ≡ Some t
found_there trees i t number =
    let found = position-Some (is_same t) trees i t number in
    slice_get-get_or trees i t found.0 ∙ ap Some (sym ((is_same-Decides t (get_or trees i t)).0 found.1))

pub list_names : (trees : List TExpr) → IsOnce trees → length trees ≤ 2 ^ 32 → IsNaming (naming_of trees)
list_names trees once few = record {
  distinct = once;
  small = λ i t e. let within : i < length trees = slice_get_within trees i t e in omega (arith, within, few);
  rightly = λ m i t value kind. found_there trees i t (ap (value_in trees) (sym kind) ∙ value);
}
