use Rattle.std.proofs.Common.{◌≡◌, Some, None, rules, arith}
use Rattle.std.proofs.lemmas.Grind.{common_steps}
use Rattle.il_model.specs.Literals.{int64_value}
use Rattle.il_parse.specs.Cursor.{number_of_first}
use Rattle.il_parse.proofs.ReadLemmas.{refused}
use Rattle.il_parse.proofs.OperandLemmas.{number_out, number_in}
use Rattle.il_parse.proofs.operands.read_int64.Goals as goal

pub returns-in_default-int64_value : goal.returns-in_default-int64_value
returns-in_default-int64_value c =
    let some : Some c.in-Some.bytes.now ≡ number_of_first c.args.cursor.now = first_of (search rules, grind (arith, common_steps)) in
    let none : None ≡ int64_value c.in-Some.bytes.now = first_of (search rules, grind (arith, common_steps)) in
    refused _ _ _ _ c.stuck-in_default-int64_value.ensures (number_out int64_value c.args.cursor.now c.in-Some.bytes.now some none)

pub returns : goal.returns
returns c =
    let some : Some c.in-Some.bytes.now ≡ number_of_first c.args.cursor.now = first_of (search rules, grind (arith, common_steps)) in
    let value : Some c.in-Some-int64_value.value ≡ int64_value c.in-Some.bytes.now = first_of (search rules, grind (arith, common_steps)) in
    let e = number_in int64_value c.args.cursor.now c.in-Some.bytes.now c.in-Some-int64_value.value some value in
    first_of (search rules, grind (arith, common_steps))
