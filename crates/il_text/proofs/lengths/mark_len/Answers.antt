use Rattle.il_text.proofs.KindLemmas.{marks_two, marks_one, marks_none}
use Rattle.il_text.proofs.lengths.mark_len.Goals as goal

pub returns-then-has_double_mark-clause-value : goal.returns-then-has_double_mark-clause-value
returns-then-has_double_mark-clause-value c = marks_two c.args.bytes.now (c.if-has_double_mark.ensures {u = tt})

pub returns-then-has_single_mark-clause-value : goal.returns-then-has_single_mark-clause-value
returns-then-has_single_mark-clause-value c = marks_one c.args.bytes.now (c.if-has_double_mark.ensures {u = tt}) (c.if-has_single_mark.ensures {u = tt})

pub returns-else-has_single_mark-clause-value : goal.returns-else-has_single_mark-clause-value
returns-else-has_single_mark-clause-value c = marks_none c.args.bytes.now (c.if-has_double_mark.ensures {u = tt}) (c.if-has_single_mark.ensures {u = tt})
