use Rattle.il_parse.proofs.TokenLemmas.{tokens_readable}
use Rattle.il_parse.proofs.parsing.parsed.Goals as goal

pub classes_of-requires : goal.classes_of-requires
classes_of-requires c = tokens_readable c.args.text.now c.args.tokens.now c.requires
