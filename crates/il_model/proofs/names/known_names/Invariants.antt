use Rattle.std.proofs.Common.{◌≡◌, ◌++◌, map, drop}
use Rattle.il_model.specs.Names.{plain_names}
use Rattle.il_model.proofs.names.known_names.Given as goal

abbrev pub invariant-loop-class : goal.invariant-loop-class
invariant-loop-class l = map (λ k. k.items) l.known.keys ++ plain_names (drop l.class-index l.classes) ≡ plain_names l.classes
