use Rattle.std.proofs.Common.{◌∙◌, ap, subst}
use Rattle.il_model.specs.Spellings.{plain_name}
use Rattle.il_model.specs.Lexemes.{is_among}
use Rattle.il_parse.specs.Looking.{Looks, once}
use Rattle.il_parse.proofs.met.MetNames.meet_plain.Goals as goal

pub returns-clause-looks : goal.returns-clause-looks
returns-clause-looks c =
    subst (λ n. Looks (once (is_among c.args.self.now n) c.args.name.now.at) c.meet_at.result)
    (c.plain_name.ensures ∙ ap plain_name (c.as_bytes.ensures.value ∙ c.text.ensures)) c.meet_at.ensures.looks
