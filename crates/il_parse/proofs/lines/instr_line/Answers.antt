use Rattle.std.proofs.Common.{◌≡◌, Some, rules, arith}
use Rattle.std.proofs.lemmas.Grind.{common_steps}
use Rattle.il_parse.specs.Reading.{place_of_first}
use Rattle.il_parse.specs.Tables.{mnemonic_view}
use Rattle.il_parse.proofs.LineLemmas.{instr_some}
use Rattle.il_parse.proofs.lines.instr_line.Goals as goal

pub returns-in_err-instr : goal.returns-in_err-instr
returns-in_err-instr c =
    let some : Some c.in-Some.at ≡ place_of_first c.args.cursor.now = first_of (search rules, grind (arith, common_steps)) in
    let e = instr_some (mnemonic_view c.args.says) c.args.cursor.now c.in-Some.at some in
    first_of (search rules, grind (arith, common_steps))

pub returns : goal.returns
returns c =
    let some : Some c.in-Some.at ≡ place_of_first c.args.cursor.now = first_of (search rules, grind (arith, common_steps)) in
    let e = instr_some (mnemonic_view c.args.says) c.args.cursor.now c.in-Some.at some in
    first_of (search rules, grind (arith, common_steps))
