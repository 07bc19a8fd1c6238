use Rattle.std.proofs.Common.{◌≡◌, ◌≤◌, ◌+◌, take}
use Rattle.il_text.specs.Places.{spot_after}
use Rattle.il_parse.proofs.places.behind.Given as goal

abbrev pub invariant-loop-at : goal.invariant-loop-at
invariant-loop-at l = record {
  line : l.line ≡ (spot_after (take l.at l.text)).line;
  column : l.column ≡ (spot_after (take l.at l.text)).column;
  small_line : l.line ≤ l.at + 1;
  small_column : l.column ≤ l.at + 1;
}
