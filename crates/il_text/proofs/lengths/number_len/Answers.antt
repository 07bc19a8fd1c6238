use Rattle.std.proofs.Common.{◌∙◌, sym, ap, length, max}
use Rattle.il_text.specs.Spelling.{is_unsigned, is_negative}
use Rattle.il_text.specs.Faults.{longest_front}
use Rattle.il_text.proofs.Longest.{longest_front-or}
use Rattle.il_text.proofs.lengths.number_len.Goals as goal

pub returns-clause-value : goal.returns-clause-value
returns-clause-value c = c.max.ensures ∙ ap (λ n. max n c.negative_len.result) (c.unsigned_len.ensures.value) ∙ ap (max (longest_front is_unsigned (length c.args.bytes.now) c.args.bytes.now)) c.negative_len.ensures.value ∙ sym (longest_front-or is_unsigned is_negative (length c.args.bytes.now) c.args.bytes.now)
