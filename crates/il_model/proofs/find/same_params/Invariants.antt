use Rattle.std.proofs.Common.{◌≡◌, ℕ, ◌<◌, get_or}
use Rattle.il_model.specs.declared.method.PType.{PType}
use Rattle.il_model.proofs.find.same_params.Given as goal

abbrev pub invariant-loop-i : goal.invariant-loop-i
invariant-loop-i l = (k : ℕ) (d : PType) → k < l.i → get_or l.first k d ≡ get_or l.second k d
