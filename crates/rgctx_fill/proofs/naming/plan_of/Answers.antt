use Rattle.std.proofs.Common.{◌≡◌, sym, ap, ◌∙◌, subst, rules}
use Rattle.std.specs.Prelude.{IfOk}
use Rattle.il_model.specs.declared.entry.Entry.TheVariants as entry
use Rattle.rgctx_template.specs.Catalogue.{data_of}
use Rattle.rgctx_fill.specs.Starting.{IsPlanned}
use Rattle.rgctx_fill.proofs.naming.plan_of.Goals as goal

pub returns-in-Kind : goal.returns-in-Kind
returns-in-Kind c = subst (λ e. IfOk c.kind_planned.result (λ plan. IsPlanned (data_of c.args.cat.now) c.args.tree.now e plan)) (sym c.in-Kind.is) (c.kind_planned.ensures c.args.tree.now)

pub returns-in_ok-copy_all-in-Method : goal.returns-in_ok-copy_all-in-Method
returns-in_ok-copy_all-in-Method c =
    let class : c.in_ok-copy-in-Method.field-0 ≡ c.in-Method.class = search rules in
    let args : c.in_ok-copy_all-in-Method.field-0 ≡ c.in-Method.args = search rules in
    let copied : entry.Method c.in-Method.number c.in_ok-copy-in-Method.field-0 c.in_ok-copy_all-in-Method.field-0 ≡ c.args.named.now =
    ap (λ k. entry.Method c.in-Method.number k c.in_ok-copy_all-in-Method.field-0) class ∙ ap (entry.Method c.in-Method.number c.in-Method.class) args ∙ sym c.in-Method.is in
    subst (λ e. IfOk c.method_planned.result (λ plan. IsPlanned (data_of c.args.cat.now) c.args.tree.now e plan)) copied (c.method_planned.ensures.method c.args.tree.now)

pub returns-in-Size : goal.returns-in-Size
returns-in-Size c = subst (λ e. IfOk c.size_planned.result (λ plan. IsPlanned (data_of c.args.cat.now) c.args.tree.now e plan)) (sym c.in-Size.is) (c.size_planned.ensures c.args.tree.now)

pub returns-in-Extent : goal.returns-in-Extent
returns-in-Extent c = subst (λ e. IfOk c.extent_planned.result (λ plan. IsPlanned (data_of c.args.cat.now) c.args.tree.now e plan)) (sym c.in-Extent.is) (c.extent_planned.ensures c.args.tree.now)

pub returns-in-Offset : goal.returns-in-Offset
returns-in-Offset c = subst (λ e. IfOk c.offset_planned.result (λ plan. IsPlanned (data_of c.args.cat.now) c.args.tree.now e plan)) (sym c.in-Offset.is) (c.offset_planned.ensures c.args.tree.now)
