use Rattle.std.proofs.Common.{◌≡◌, true, List, Option, ℕ, map, sym, ap, ◌∙◌}
use Rattle.std.specs.List.{list_any}
use Rattle.type_tree.specs.declared.tree.TExpr.{TExpr}
use Rattle.il_model.specs.Find.{class_number_of}
use Rattle.il_model.specs.ClassRules.{is_number}
use Rattle.cil_verify.specs.declared.type_set.TypeKey.{TypeKey}
use Rattle.cil_verify.proofs.ItemsLemmas.{mapped_here}
use Rattle.cil_verify.proofs.layouts.has_number.Goals as goal

pub returns-then-is_number : goal.returns-then-is_number
returns-then-is_number c =
    let n = c.args.number in
    let test = λ (t : TExpr). is_number n (class_number_of t) in
    let kind = λ (k : TypeKey). k.kind in
    let item = c.key-item.result in
    let passes : is_number n (class_number_of item.kind) ≡ true =
    ap (λ (o : Option ℕ). is_number n o) (sym c.class_number.ensures) ∙ sym c.is_number.ensures ∙ c.if-is_number.true in
    sym (ap (λ (ks : List TypeKey). list_any test (map kind ks)) (sym c.as_slice-key-items.ensures.keys)
    ∙ mapped_here test kind c.as_slice-key-items.result.now c.loop-key.key-index item c.loop-key-test.true c.key-item.is passes)
