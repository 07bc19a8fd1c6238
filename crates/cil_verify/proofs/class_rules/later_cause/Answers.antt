use Rattle.std.proofs.Common.{◌≡◌, Option, sym, ap, ◌∙◌}
use Rattle.type_tree.specs.declared.tree.TExpr.{TExpr}
use Rattle.il_model.specs.declared.class.ClassDef.{ClassDef}
use Rattle.il_model.specs.Bases.{own_of_class, own_of}
use Rattle.il_model.specs.Slots.{VirtualSlots, virtual_within, virtual_slots_of}
use Rattle.type_inst.specs.Matching.{seen}
use Rattle.type_inst.proofs.DefinitionLemmas.{few_variables}
use Rattle.cil_verify.proofs.RulesLemmas.{not_found, too_many_slots}
use Rattle.cil_verify.proofs.class_rules.later_cause.Goals as goal

pub own_of-requires : goal.own_of-requires
own_of-requires c = few_variables c.args.program.now c.args.number c.args.class.now c.requires.types c.requires.at

pub returns-then-not-branch-2 : goal.returns-then-not-branch-2
returns-then-not-branch-2 c =
    let own_is : c.in_ok-own.own ≡ own_of c.args.program.now c.args.number =
    (c.in_ok-own.ensures {u = tt}) ∙ ap (own_of_class c.args.number) (sym c.requires.at) in
    not_found c.args.program.now c.args.number c.args.class.now c.in_ok-own.own own_is
    (sym (c.in_ok-has_bounds.ensures {u = tt}) ∙ c.if-not-branch.false)
    (sym (c.in_ok-finds_methods.ensures {u = tt}) ∙ c.if-not-branch-2.true)

pub returns-then-not-branch-3 : goal.returns-then-not-branch-3
returns-then-not-branch-3 c =
    let p = c.args.program.now in
    let own_is : c.in_ok-own.own ≡ own_of p c.args.number =
    (c.in_ok-own.ensures {u = tt}) ∙ ap (own_of_class c.args.number) (sym c.requires.at) in
    let slots_are : seen c.in_ok-slots.slots ≡ virtual_slots_of p c.in_ok-own.own =
    (c.in_ok-slots.ensures {u = tt}) ∙ ap (λ levels. virtual_within p levels c.in_ok-own.own) c.len.ensures in
    too_many_slots p c.args.number c.args.class.now c.in_ok-own.own own_is
    (sym (c.in_ok-has_bounds.ensures {u = tt}) ∙ c.if-not-branch.false)
    (seen c.in_ok-slots.slots) slots_are
    (sym (c.in_ok-finds_methods.ensures {u = tt}) ∙ c.if-not-branch-2.false)
    (sym c.is_complete.ensures ∙ c.if-not-is_complete.false)
    (sym (c.in_ok-has_few_slots.ensures {u = tt}) ∙ c.if-not-branch-3.true)
