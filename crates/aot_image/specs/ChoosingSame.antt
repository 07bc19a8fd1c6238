-- The test of equality of entries answers true exactly for equal ones, as the laws of keys say. This project's own.
use Rattle.std.proofs.Common.{◌≡◌, Bool, true, false, ◌&&◌, List, refl, ap}
use Rattle.std.specs.Prelude.{nat_eq}
use Rattle.std.specs.Bool.{Decides}
use Rattle.std.specs.Cmp.Lexicographic.{pointwise}
use Rattle.std.proofs.lemmas.Slice.Eq.{slice_eq-Decides}
use Rattle.std.proofs.lemmas.Bool.Decides.{Decides-eqb}
use Rattle.type_tree.specs.declared.tree.TExpr.{TExpr}
use Rattle.type_tree.proofs.SameLemmas.{is_same-Decides}
use Rattle.il_model.specs.declared.key.KeyPart.{KeyPart}
use Rattle.il_model.specs.declared.key.KeyPart.TheVariants.{Ref, Any, Exact}
use Rattle.aot_image.specs.declared.choice_picks.Entry.{Entry}
use Rattle.aot_image.specs.ChoosingPicks.{same_part}
use Rattle.aot_image.specs.ChoosingRounds.{same_entry}

abbrev tree_in : TExpr → KeyPart → TExpr
tree_in other Ref = other
tree_in other Any = other
tree_in other (Exact t) = t

pub same_part-Decides : (a b : KeyPart) → Decides (same_part a b) (a ≡ b)
same_part-Decides Ref Ref = (λ e. refl, λ e. refl)
same_part-Decides Ref Any = (λ e. absurd cc, λ e. absurd cc)
same_part-Decides Ref (Exact t) = (λ e. absurd cc, λ e. absurd cc)
same_part-Decides Any Ref = (λ e. absurd cc, λ e. absurd cc)
same_part-Decides Any Any = (λ e. refl, λ e. refl)
same_part-Decides Any (Exact t) = (λ e. absurd cc, λ e. absurd cc)
same_part-Decides (Exact s) Ref = (λ e. absurd cc, λ e. absurd cc)
same_part-Decides (Exact s) Any = (λ e. absurd cc, λ e. absurd cc)
same_part-Decides (Exact s) (Exact t) = (λ e. ap Exact ((is_same-Decides s t).0 e), λ e. (is_same-Decides s t).1 (ap (tree_in s) e))

pub both : (a b : Bool) → (a && b) ≡ true → (a ≡ true) × (b ≡ true)
both true true e = (refl, refl)
both true false e = absurd cc
both false b e = absurd cc

pub joined : (a b : Bool) → a ≡ true → b ≡ true → (a && b) ≡ true
joined a b e f = rw (e, f) refl

parts_decided : (xs ys : List KeyPart) → Decides (pointwise same_part xs ys) (xs ≡ ys)
parts_decided xs ys = slice_eq-Decides same_part-Decides xs ys (pointwise same_part xs ys) refl

pub same_entry-Decides : (a b : Entry) → Decides (same_entry a b) (a ≡ b)
same_entry-Decides a b = (
  λ e.
      let whole = both (nat_eq a.method b.method) _ e in
      let rest = both (nat_eq a.round b.round) _ whole.1 in
      let method = (Decides-eqb a.method b.method).0 whole.0 in
      let round = (Decides-eqb a.round b.round).0 rest.0 in
      let parts = (parts_decided a.parts b.parts).0 rest.1 in
      λ i. record { method = method i; round = round i; parts = parts i },
  λ e. joined _ _ ((Decides-eqb a.method b.method).1 (ap (λ x. x.method) e))
      (joined _ _ ((Decides-eqb a.round b.round).1 (ap (λ x. x.round) e)) ((parts_decided a.parts b.parts).1 (ap (λ x. x.parts) e))),
)
