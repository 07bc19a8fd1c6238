use Rattle.std.proofs.Common.{◌≡◌, ◌≤◌, ◌+◌, take}
use Rattle.il_text.specs.Places.{spot_after}
use Rattle.il_text.proofs.finding.spot.Given as goal

abbrev pub invariant-loop-b : goal.invariant-loop-b
invariant-loop-b l = record {
  line : l.line ≡ (spot_after (take l.b-index l.before)).line;
  column : l.column ≡ (spot_after (take l.b-index l.before)).column;
  small_line : l.line ≤ l.b-index + 1;
  small_column : l.column ≤ l.b-index + 1;
}
