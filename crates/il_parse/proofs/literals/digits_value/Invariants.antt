use Rattle.std.proofs.Common.{◌≡◌, ◌+◌, ◌*◌, drop}
use Rattle.std.specs.Prelude.{fold}
use Rattle.il_text.specs.Spelling.{digit_value, digits_value}
use Rattle.il_parse.proofs.literals.digits_value.Given as goal

abbrev pub invariant-loop-d : goal.invariant-loop-d
invariant-loop-d l = fold (λ value d. l.base * value + digit_value d) l.value (drop l.d-index l.digits) ≡ digits_value l.base l.digits
