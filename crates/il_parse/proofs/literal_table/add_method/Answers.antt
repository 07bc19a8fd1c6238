use Rattle.std.proofs.Common.{◌≡◌, ◌∙◌, ℕ, List, flat_map, ap, subst}
use Rattle.std.specs.Prelude.{OnOk}
use Rattle.il_parse.specs.Literals.{with_texts, texts_of_line}
use Rattle.il_parse.proofs.LiteralLemmas.{method_texts}
use Rattle.il_parse.proofs.literal_table.add_method.Goals as goal

pub returns-in-Some-clause-ok : goal.returns-in-Some-clause-ok
returns-in-Some-clause-ok c =
    subst (λ (ts : List (List ℕ)). OnOk c.add_lines.result (c.add_lines.new.literals ≡ with_texts c.args.literals.now ts))
    (ap (flat_map texts_of_line) c.as_slice.ensures ∙ method_texts c.args.method.now c.in-Some.body c.in-Some.is) c.add_lines.ensures.ok
