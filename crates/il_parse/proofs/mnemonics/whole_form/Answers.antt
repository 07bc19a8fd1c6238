use Rattle.std.proofs.Common.{ap, ◌∙◌}
use Rattle.std.specs.Prelude.{option_map}
use Rattle.il_parse.specs.Mnemonics.{holds}
use Rattle.il_parse.specs.Tables.{held_operand}
use Rattle.il_parse.proofs.TableLemmas.{whole_is}
use Rattle.il_parse.proofs.mnemonics.whole_form.Goals as goal

pub returns : goal.returns
returns c = ap (option_map (λ found. holds found.0 (held_operand found.1))) c.whole_in.ensures ∙ whole_is c.args.word.now
