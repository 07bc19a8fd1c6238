use Rattle.std.proofs.Common.{◌≡◌, ◌++◌, drop}
use Rattle.il_model.specs.Literals.{unescaped, text_value}
use Rattle.il_parse.proofs.literals.text_value.Given as goal

abbrev pub invariant-loop-b : goal.invariant-loop-b
invariant-loop-b l = l.held.items ++ unescaped l.behind (drop l.b-index l.b-items) ≡ text_value l.bytes
