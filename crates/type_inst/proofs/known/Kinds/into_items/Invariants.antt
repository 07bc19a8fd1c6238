use Rattle.std.proofs.Common.{◌≡◌, ◌++◌, map}
use Rattle.type_inst.proofs.known.Kinds.into_items.Given as goal

abbrev pub invariant-loop-known : goal.invariant-loop-known
invariant-loop-known l = l.kinds ++ map (λ k. k.kind) l.known-iterator ≡ l.fn.self
