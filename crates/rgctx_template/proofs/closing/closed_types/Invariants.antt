use Rattle.std.proofs.Common.{◌≡◌, map, take}
use Rattle.type_tree.specs.Substitution.{substituted}
use Rattle.rgctx_template.proofs.closing.closed_types.Given as goal

abbrev pub invariant-loop-kind : goal.invariant-loop-kind
invariant-loop-kind l = l.trees ≡ map (substituted l.class_args l.method_args) (take l.kind-index l.kinds)
