use Rattle.std.proofs.Common.{◌≡◌, ◌≤◌, length, map, drop}
use Rattle.il_parse.specs.Scopes.{names_before}
use Rattle.il_parse.proofs.named_classes.add_names.Given as goal

abbrev pub invariant-loop-left : goal.invariant-loop-left
invariant-loop-left l = record {
  inside : l.left ≤ length l.names;
  front : l.met ≡ names_before (map (λ n. n.now) (drop l.left l.names)) l.initial.met;
}

abbrev pub decreases-loop-left : goal.decreases-loop-left
decreases-loop-left l = l.left
