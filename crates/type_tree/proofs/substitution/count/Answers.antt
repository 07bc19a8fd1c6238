use Rattle.std.proofs.Common.{◌≡◌, ◌-◌, ◌^◌, ℕ, List, min, ap, ◌∙◌}
use Rattle.type_tree.specs.Positions.{weighted}
use Rattle.type_tree.proofs.SubstitutionLemmas.{capped_sizes, weighted-sizes}
use Rattle.type_tree.proofs.substitution.count.Goals as goal

pub returns : goal.returns
returns c =
    let most : ℕ = 2 ^ 128 - 1 in
    let class_sizes : c.as_slice.result.now ≡ capped_sizes (2 ^ 128 - 1) c.args.class_args.now =
    c.as_slice.ensures.value ∙ c.in_ok-class_sizes.ensures in
    let method_sizes : c.as_slice-2.result.now ≡ capped_sizes (2 ^ 128 - 1) c.args.method_args.now =
    c.as_slice-2.ensures.value ∙ c.in_ok-method_sizes.ensures in
    c.weight.ensures
    ∙ ap (λ (sizes : List ℕ). min (weighted sizes c.as_slice-2.result.now c.args.kind.now) (2 ^ 128 - 1)) class_sizes
    ∙ ap (λ (sizes : List ℕ). min (weighted (capped_sizes (2 ^ 128 - 1) c.args.class_args.now) sizes c.args.kind.now) (2 ^ 128 - 1)) method_sizes
    ∙ weighted-sizes (2 ^ 128 - 1) c.args.class_args.now c.args.method_args.now c.args.kind.now
