use Rattle.std.proofs.Common.{◌∙◌, sym}
use Rattle.il_text.proofs.KindLemmas.{longest_front-word, longest_front-not_word}
use Rattle.il_text.proofs.lengths.word_len.Goals as goal

pub returns-then-is_word_start-clause-value : goal.returns-then-is_word_start-clause-value
returns-then-is_word_start-clause-value c =
    c.run_len.ensures.value ∙ sym (longest_front-word c.args.bytes.now c.in-Some.b.now c.in-Some.field-0-1.now (c.in-Some.ensures {u = tt}).cases.0 (sym (c.if-is_word_start.ensures {u = tt})))

pub returns-else-is_word_start-clause-value : goal.returns-else-is_word_start-clause-value
returns-else-is_word_start-clause-value c =
    sym (longest_front-not_word c.args.bytes.now c.in-Some.b.now c.in-Some.field-0-1.now (c.in-Some.ensures {u = tt}).cases.0 (sym (c.if-is_word_start.ensures {u = tt})))
