use Rattle.std.proofs.Common.{◌≡◌, map, take}
use Rattle.il_parse.specs.Answer.{library_spot}
use Rattle.il_parse.proofs.placing.library_code.Given as goal

abbrev pub invariant-loop-op : goal.invariant-loop-op
invariant-loop-op l = l.code ≡ map (λ _. library_spot) (take l._op-index l._op-items)
