use Rattle.std.proofs.Common.{◌≡◌, ◌≤◌, ◌++◌, List, drop, length}
use Rattle.il_text.specs.declared.token.Token.{Token}
use Rattle.il_text.specs.Tokens.{AreTokensFrom}
use Rattle.il_text.specs.Faults.{first_refusal}
use Rattle.il_text.proofs.scanning.tokens.Given as goal

abbrev pub invariant-loop-rest : goal.invariant-loop-rest
invariant-loop-rest l = record {
  place : l.rest ≡ drop l.at l.text;
  inside : l.at ≤ length l.text;
  short : l.at ≤ 4194304;
  faults : first_refusal l.at 0 l.rest ≡ first_refusal 0 0 l.text;
  reads : (tokens : List Token) → AreTokensFrom l.text l.at tokens → AreTokensFrom l.text 0 (l.found.items ++ tokens);
}

abbrev pub decreases-loop-rest : goal.decreases-loop-rest
decreases-loop-rest l = length l.rest
