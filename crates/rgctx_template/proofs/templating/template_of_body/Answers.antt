use Rattle.std.proofs.Common.{◌≡◌, IfOk, List, subst}
use Rattle.il_model.specs.declared.entry.Entry.{Entry}
use Rattle.rgctx_template.proofs.CollectedLemmas.{body_collected}
use Rattle.rgctx_template.proofs.templating.template_of_body.Goals as goal

pub returns : goal.returns
returns c =
    subst (λ (listed : List Entry). IfOk c.into_items.result (λ es. es ≡ listed))
    (body_collected c.args.program.now c.args.body.now c.new-entries.result c.add_code.new.entries c.add_clauses.new.entries c.as_slice.result.now c.as_slice-2.result.now
    c.new-entries.ensures c.as_slice.ensures c.as_slice-2.ensures (c.in_ok-add_code.ensures {u = tt}) (c.in_ok-add_clauses.ensures {u = tt}))
    c.into_items.ensures
