use Rattle.std.proofs.Common.{◌∙◌, sym, ap, length, max}
use Rattle.il_text.specs.Bytes.{is_digit}
use Rattle.il_text.specs.Spelling.{is_run, is_hexadecimal}
use Rattle.il_text.specs.Faults.{longest_front}
use Rattle.il_text.proofs.Longest.{longest_front-run, longest_front-or}
use Rattle.il_text.proofs.lengths.unsigned_len.Goals as goal

pub returns-clause-value : goal.returns-clause-value
returns-clause-value c = c.max.ensures ∙ ap (λ n. max n c.hexadecimal_len.result) (c.run_len.ensures.value ∙ sym (longest_front-run is_digit c.args.bytes.now)) ∙ ap (max (longest_front (is_run is_digit) (length c.args.bytes.now) c.args.bytes.now)) c.hexadecimal_len.ensures.value ∙ sym (longest_front-or (is_run is_digit) is_hexadecimal (length c.args.bytes.now) c.args.bytes.now)
