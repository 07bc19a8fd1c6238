-- The canonical key serves its types.
use Rattle.std.proofs.Common.{◌≡◌, ℕ, zero, suc, Bool, true, false, IsTrue, List, [], ◌∷◌, map, slice_get, Some, if◌then◌else◌, refl, sym, ap, ◌∙◌, subst}
use Rattle.std.proofs.lemmas.Option.{same_Some, none-some}
use Rattle.std.proofs.lemmas.List.{length-map}
use Rattle.type_tree.specs.declared.tree.TExpr.{TExpr}
use Rattle.il_model.specs.declared.program.Program.{Program}
use Rattle.il_model.specs.declared.key.KeyPart.TheVariants.{Ref, Exact}
use Rattle.il_model.specs.Kinds.{is_reference}
use Rattle.share_canon.specs.Keys.{ServesPart, Serves, canonical, canonical_part}

at_map : {A B : Type 0} (f : A → B) (xs : List A) (i : ℕ) (x : A) (y : B) → slice_get (map f xs) i ≡ Some y → slice_get xs i ≡ Some x → y ≡ f x
at_map f [] i x y there here = absurd (none-some y there)
at_map f (z ∷ xs) zero x y there here = sym (same_Some (f z) y there) ∙ ap f (same_Some z x here)
at_map f (z ∷ xs) (suc i) x y there here = at_map f xs i x y there here

part_serves : (program : Program) (t : TExpr) (b : Bool) → is_reference program t ≡ b → ServesPart program (if b then Ref else Exact t) t
part_serves program t true is = let P : Bool → Type 0 = λ b. IsTrue b in subst P (sym is) refl
part_serves program t false is = refl

pub canonical_serves : (program : Program) (types : List TExpr) → Serves program (canonical program types) types
canonical_serves program types = record {
  count = length-map types (canonical_part program);
  each = λ i p t there here. subst (λ q. ServesPart program q t) (sym (at_map (canonical_part program) types i t p there here)) (part_serves program t (is_reference program t) refl);
}
