use Rattle.std.proofs.Common.{◌∙◌, sym, ap, length, max}
use Rattle.il_text.specs.Spelling.{is_class_variable, is_method_variable}
use Rattle.il_text.specs.Faults.{longest_front}
use Rattle.il_text.proofs.Longest.{longest_front-or}
use Rattle.il_text.proofs.lengths.variable_len.Goals as goal

pub returns-clause-value : goal.returns-clause-value
returns-clause-value c = c.max.ensures ∙ ap (λ n. max n c.method_variable_len.result) (c.class_variable_len.ensures.value) ∙ ap (max (longest_front is_class_variable (length c.args.bytes.now) c.args.bytes.now)) c.method_variable_len.ensures.value ∙ sym (longest_front-or is_class_variable is_method_variable (length c.args.bytes.now) c.args.bytes.now)
