use Rattle.std.proofs.Common.{◌≡◌, true, List, map, sym, ap, ◌∙◌}
use Rattle.type_tree.specs.declared.tree.TExpr.{TExpr}
use Rattle.type_tree.specs.Same.{is_same}
use Rattle.il_model.specs.Trees.{is_among}
use Rattle.cil_verify.specs.declared.type_set.TypeKey.{TypeKey}
use Rattle.cil_verify.proofs.ItemsLemmas.{mapped_here}
use Rattle.cil_verify.proofs.type_set.TypeSet.has.Goals as goal

pub returns-then-is_same : goal.returns-then-is_same
returns-then-is_same c =
    let t = c.args.kind.now in
    let kind = λ (k : TypeKey). k.kind in
    let item = c.key-item.result in
    let passes : is_same item.kind t ≡ true = sym c.is_same.ensures ∙ c.if-is_same.true in
    sym (ap (λ (ks : List TypeKey). is_among (map kind ks) t) (sym c.as_slice-key-items.ensures.keys)
    ∙ mapped_here (λ (each : TExpr). is_same each t) kind c.as_slice-key-items.result.now c.loop-key.key-index item c.loop-key-test.true c.key-item.is passes)
