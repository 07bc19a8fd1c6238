-- A written type has as many positions as the type that it stands for.
use Rattle.std.proofs.Common.{◌≡◌, ℕ, ◌+◌, zero-add, List, [], ◌∷◌, map, sum, refl, sym, ap, ◌∙◌}
use Rattle.type_tree.specs.declared.tree.TExpr.{TExpr}
use Rattle.type_tree.specs.declared.tree.Head.TheVariants as head
use Rattle.type_tree.specs.Positions.{positions_of, level_positions as positions_at}
use Rattle.type_tree.proofs.TreeLemmas.{folded-node, folded-class_var, folded-method_var}
use Rattle.il_model.specs.declared.written.WrittenName.{WrittenName}
use Rattle.il_model.specs.declared.written.WrittenType.{WrittenType}
use Rattle.il_model.specs.declared.written.WrittenType as views
use Rattle.il_model.specs.declared.written.WrittenType.TheVariants as w
use Rattle.il_model.specs.declared.written.WrittenType.TheOpen.{WrittenType-F}
use Rattle.il_model.specs.declared.written.WrittenType.TheFolds.{fold-roll-WrittenType}
use Rattle.il_model.specs.Bounds.{written_positions, level_positions}
use Rattle.il_model.specs.Names.{Scope, NamesType, int32, int64, bool, object, string, class_variable, method_variable, class, vector, NamesTypes, no_types, more_types}

positions-int32 : written_positions w.Int32 ≡ 1
unfolding views.roll-WrittenType denote.Hole.Carrier.roll
positions-int32 = fold-roll-WrittenType ℕ level_positions WrittenType-F.Int32

positions-int64 : written_positions w.Int64 ≡ 1
unfolding views.roll-WrittenType denote.Hole.Carrier.roll
positions-int64 = fold-roll-WrittenType ℕ level_positions WrittenType-F.Int64

positions-bool : written_positions w.Bool ≡ 1
unfolding views.roll-WrittenType denote.Hole.Carrier.roll
positions-bool = fold-roll-WrittenType ℕ level_positions WrittenType-F.Bool

positions-object : written_positions w.Object ≡ 1
unfolding views.roll-WrittenType denote.Hole.Carrier.roll
positions-object = fold-roll-WrittenType ℕ level_positions WrittenType-F.Object

positions-string : written_positions w.String ≡ 1
unfolding views.roll-WrittenType denote.Hole.Carrier.roll
positions-string = fold-roll-WrittenType ℕ level_positions WrittenType-F.String

positions-variable : (v : WrittenName) → written_positions (w.Variable v) ≡ 1
unfolding views.roll-WrittenType denote.Hole.Carrier.roll
positions-variable v = fold-roll-WrittenType ℕ level_positions (WrittenType-F.Variable v)

positions-named : (name : WrittenName) (ts : List WrittenType) → written_positions (w.Named name ts) ≡ 1 + sum (map written_positions ts)
unfolding views.roll-WrittenType denote.Hole.Carrier.roll
positions-named name ts = fold-roll-WrittenType ℕ level_positions (WrittenType-F.Named name ts)

positions-vector : (t : WrittenType) → written_positions (w.Vector t) ≡ 1 + written_positions t
unfolding views.roll-WrittenType denote.Hole.Carrier.roll
positions-vector t = fold-roll-WrittenType ℕ level_positions (WrittenType-F.Vector t)

mutual
  pub named_positions : (s : Scope) (written : WrittenType) (t : TExpr) → NamesType s written t → written_positions written ≡ positions_of t
  named_positions s written t (int32 s' w' t' e f) = ap written_positions e ∙ positions-int32 ∙ sym (ap positions_of f ∙ folded-node positions_at head.Int32 [])
  named_positions s written t (int64 s' w' t' e f) = ap written_positions e ∙ positions-int64 ∙ sym (ap positions_of f ∙ folded-node positions_at head.Int64 [])
  named_positions s written t (bool s' w' t' e f) = ap written_positions e ∙ positions-bool ∙ sym (ap positions_of f ∙ folded-node positions_at head.Bool [])
  named_positions s written t (object s' w' t' e f) = ap written_positions e ∙ positions-object ∙ sym (ap positions_of f ∙ folded-node positions_at (head.Class 0) [])
  named_positions s written t (string s' w' t' e f) = ap written_positions e ∙ positions-string ∙ sym (ap positions_of f ∙ folded-node positions_at (head.Class 1) [])
  named_positions s written t (class_variable s' w' t' v n e is below f) =
      ap written_positions e ∙ positions-variable v ∙ sym (ap positions_of f ∙ folded-class_var positions_at n)
  named_positions s written t (method_variable s' w' t' v n e is below f) =
      ap written_positions e ∙ positions-variable v ∙ sym (ap positions_of f ∙ folded-method_var positions_at n)
  named_positions s written t (class s' w' t' name args ts n e found are f) =
      ap written_positions e ∙ positions-named name args ∙ ap (λ ns. 1 + sum ns) (all_positions s args ts are)
      ∙ sym (ap positions_of f ∙ folded-node positions_at (head.Class n) ts)
  named_positions s written t (vector s' w' element t' of e is f) =
      ap written_positions e ∙ positions-vector element ∙ ap (λ n. 1 + n) (named_positions s element of is ∙ sym (zero-add (positions_of of)))
      ∙ sym (ap positions_of f ∙ folded-node positions_at head.Vector (of ∷ []))

  pub all_positions : (s : Scope) (written : List WrittenType) (ts : List TExpr) → NamesTypes s written ts → map written_positions written ≡ map positions_of ts
  all_positions s written ts (no_types s') = refl
  all_positions s written ts (more_types s' w1 t ws us is are) = ap (λ n. n ∷ map written_positions ws) (named_positions s w1 t is) ∙ ap (λ ns. positions_of t ∷ ns) (all_positions s ws us are)
