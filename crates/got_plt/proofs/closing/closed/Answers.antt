use Rattle.std.proofs.Common.{ℕ, IfOk, ◌≡◌, ◌∙◌, ap, List, flat_map, subst}
use Rattle.il_model.specs.declared.entry.Entry.{Entry}
use Rattle.il_model.specs.declared.key.Key.{Key}
use Rattle.rgctx_template.specs.Collected.{collected}
use Rattle.rgctx_template.proofs.CollectedLemmas.{collected_all}
use Rattle.got_plt.specs.Closed.{closed_of}
use Rattle.got_plt.proofs.closing.closed.Goals as goal

pub returns : goal.returns
returns c =
    subst (λ (listed : List Entry). IfOk c.into_items.result (λ es. es ≡ listed))
    ((c.in_ok-add_picks.ensures {u = tt})
    ∙ ap (λ (p : List Entry × List (ℕ × Key)). collected p.0 (flat_map (closed_of c.args.program.now) p.1)) (λ k. (c.new-entries.ensures k, c.as_slice.ensures k))
    ∙ collected_all (flat_map (closed_of c.args.program.now) c.args.picks.now.picks))
    c.into_items.ensures
