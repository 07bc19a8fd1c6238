use Rattle.std.proofs.Common.{◌≡◌, ◌+◌, ◌≤◌, take, sum_by}
use Rattle.type_tree.specs.Positions.{positions_of}
use Rattle.rgctx_fill.proofs.limits.is_large.Given as goal

abbrev pub invariant-loop-arg : goal.invariant-loop-arg
invariant-loop-arg l = record {
  count : l.count ≡ 1 + (positions_of l.method.class + sum_by positions_of (take l.arg-index l.method.args));
  small : l.count ≤ 256;
}
