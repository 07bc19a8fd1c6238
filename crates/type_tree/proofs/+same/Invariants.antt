use Rattle.std.proofs.Common.{◌≡◌, ℕ, ◌<◌, get_or}
use Rattle.type_tree.specs.declared.tree.TExpr.{TExpr}
use Rattle.type_tree.proofs.+same.Given as goal

abbrev pub invariant-equality::same_all-loop-i : goal.invariant-equality::same_all-loop-i
invariant-equality::same_all-loop-i l = (k : ℕ) (d : TExpr) → k < l.i → get_or l.trees k d ≡ get_or l.others k d
