use Rattle.std.proofs.Common.{◌≡◌, ◌++◌, take, vec_len}
use Rattle.rgctx_fill.specs.Steps.{types_steps, types_places}
use Rattle.rgctx_fill.proofs.planning.+planning.Given as goal

abbrev pub invariant-add_types-loop-kind : goal.invariant-add_types-loop-kind
invariant-add_types-loop-kind l = record {
  steps : l.steps.items ≡ l.fn.steps.items ++ types_steps (take l.kind-index l.kinds) (vec_len l.fn.steps);
  places : l.places.items ≡ l.fn.places.items ++ types_places (take l.kind-index l.kinds) (vec_len l.fn.steps);
}
