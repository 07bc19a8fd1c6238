use Rattle.std.proofs.Common.{Bor, List, ℕ}
use Rattle.aot_image.proofs.ReadingLemmas.{handed_on}
use Rattle.aot_image.proofs.TextLemmas.{types_of_text, head_handed, text_handed, program_handed, tables_give}
use Rattle.aot_image.proofs.decoding.decoded.Goals as goal

pub returns-in_err-counts-clause-gives : goal.returns-in_err-counts-clause-gives
returns-in_err-counts-clause-gives c =
    head_handed c.args.bytes.now c.new-cursor.result c.new-cursor.ensures c.in_err-counts.field-0.0 c.from_residual.result c.read_counts.new.cursor
    (handed_on c.from_residual.result c.in_err-counts.field-0.0 c.from_residual.ensures) (c.in_err-counts.ensures {u = tt})

pub returns-in_err-text-clause-gives : goal.returns-in_err-text-clause-gives
returns-in_err-text-clause-gives c =
    text_handed c.args.bytes.now c.new-cursor.result c.new-cursor.ensures c.in_ok-counts.counts c.read_counts.new.cursor (c.in_ok-counts.ensures {u = tt}) (λ (b : Bor (List ℕ)). b.now) c.in_err-text.field-0.0
    c.from_residual-in_err-text.result c.bytes.new.self (handed_on c.from_residual-in_err-text.result c.in_err-text.field-0.0 c.from_residual-in_err-text.ensures) (c.in_err-text.ensures {u = tt})

pub returns-in_err-program-clause-gives : goal.returns-in_err-program-clause-gives
returns-in_err-program-clause-gives c =
    program_handed c.args.bytes.now c.new-cursor.result c.new-cursor.ensures c.in_ok-counts.counts c.read_counts.new.cursor (c.in_ok-counts.ensures {u = tt}) c.in_ok-text.text.now c.bytes.new.self
    (c.in_ok-text.ensures {u = tt}) c.in_err-program.field-0.0 c.from_residual-in_err-program.result
    (handed_on c.from_residual-in_err-program.result c.in_err-program.field-0.0 c.from_residual-in_err-program.ensures) (c.in_err-program.ensures {u = tt})

pub read_tables-requires : goal.read_tables-requires
read_tables-requires c = types_of_text c.in_ok-text.text.now c.in_ok-program.program.program (c.in_ok-program.ensures {u = tt}).0

pub returns-clause-gives : goal.returns-clause-gives
returns-clause-gives c =
    tables_give c.args.bytes.now c.new-cursor.result c.new-cursor.ensures c.in_ok-counts.counts c.read_counts.new.cursor (c.in_ok-counts.ensures {u = tt}) c.in_ok-text.text.now c.bytes.new.self
    (c.in_ok-text.ensures {u = tt}) c.in_ok-program.program.program c.read_tables.new.cursor c.read_tables.result (c.in_ok-program.ensures {u = tt}).0 c.read_tables.ensures.read
