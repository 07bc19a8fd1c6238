use Rattle.std.proofs.Common.{◌∙◌, sym, ap}
use Rattle.std.specs.Str.{bytes_eq}
use Rattle.mn_outside.proofs.EntryLemmas.{with_entry-found}
use Rattle.mn_outside.proofs.entries.place_of.Goals as goal

pub returns-then-eq-clause-some : goal.returns-then-eq-clause-some
returns-then-eq-clause-some c bytes =
    let same_name = ap (λ t. bytes_eq t c.args.name.now) (c.text.ensures ∙ ap (λ e. e.0) c.index-held-at.is) in
    let found = sym (c.if-eq.ensures {u = tt} ∙ same_name) in
    c.loop-at.invariant bytes ∙ with_entry-found _ _ _ bytes c.index-held-at.result c.loop-at-test.true found
