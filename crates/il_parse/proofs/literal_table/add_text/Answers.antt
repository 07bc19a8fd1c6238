use Rattle.std.proofs.Common.{◌∙◌, ap, map}
use Rattle.il_parse.specs.Literals.{with_text}
use Rattle.il_parse.proofs.KeyLemmas.{inserted}
use Rattle.il_parse.proofs.literal_table.add_text.Goals as goal

pub returns-clause-ok : goal.returns-clause-ok
returns-clause-ok c =
    ap (λ ks. map (λ k. k.items) ks) (c.in_ok-insert.ensures {u = tt}).keys
    ∙ inserted (λ k. k.items) c.literals.inside.known.keys c.in_ok-text.text
    ∙ (λ i. with_text (c.literals.view_is i) ((c.in_ok-text.ensures {u = tt}).items i))
