use Rattle.std.proofs.Common.{◌≡◌, ℕ, ◌<◌, slice_get, Some}
use Rattle.type_tree.specs.declared.tree.TExpr.{TExpr}
use Rattle.il_model.specs.declared.key.KeyPart.{KeyPart}
use Rattle.share_canon.specs.Keys.{ServesPart}
use Rattle.share_canon.proofs.serving.serves.Given as goal

abbrev pub invariant-loop-i : goal.invariant-loop-i
invariant-loop-i l = (k : ℕ) (p : KeyPart) (t : TExpr) → k < l.i → slice_get l.key k ≡ Some p → slice_get l.args k ≡ Some t → ServesPart l.program p t
