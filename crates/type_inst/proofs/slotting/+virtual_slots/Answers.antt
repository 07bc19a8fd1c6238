use Rattle.std.proofs.Common.{◌≡◌, ℕ, suc, ◌-◌, fold, IfOk, subst, sym, ap, ◌∙◌, arith}
use Rattle.type_tree.specs.declared.tree.TExpr.{TExpr}
use Rattle.il_model.specs.Bases.{base_of, definition_of}
use Rattle.il_model.specs.Slots.{VirtualSlots, own_methods_of, with_method, slots_at, slots_or_none, virtual_within}
use Rattle.type_inst.specs.declared.slotting.SlotTable.{SlotTable}
use Rattle.type_inst.specs.Matching.{seen}
use Rattle.type_inst.proofs.slotting.+virtual_slots.Goals as goal

pub virtual_slots-returns : goal.virtual_slots-returns
virtual_slots-returns t c =
    let p = c.args.program.now in
    let kind = c.args.kind.now in
    let n = c.args.levels - 1 in
    let d = c.in_ok-definition.definition in
    let more : c.args.levels ≡ suc (c.args.levels - 1) = omega arith in
    let own : seen c.add_own.new.slots ≡
    fold (with_method p (definition_of p kind)) (slots_or_none (λ base. virtual_within p n base) (base_of p (definition_of p kind))) (own_methods_of p (definition_of p kind)) =
    (c.in_ok-add_own.ensures {u = tt})
    ∙ ap (λ (s : VirtualSlots). fold (with_method p d) s (own_methods_of p d)) (c.in_ok-slots.ensures {u = tt})
    ∙ ap (λ (e : TExpr). fold (with_method p e) (slots_or_none (λ base. virtual_within p n base) (base_of p e)) (own_methods_of p e)) (c.in_ok-definition.ensures {u = tt}) in
    let whole : slots_at kind (seen c.add_own.new.slots) ≡ virtual_within p c.args.levels kind =
    ap (slots_at kind) own ∙ sym (ap (λ (k : ℕ). virtual_within p k kind) more) in
    subst (λ (answer : VirtualSlots). IfOk c.slots_at.result (λ (at : SlotTable). seen at ≡ answer)) whole c.slots_at.ensures
