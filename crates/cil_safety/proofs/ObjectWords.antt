-- The words of whole objects, and a part of what a pointer goes to.
use Rattle.std.proofs.Common.{◌≡◌, ℕ, zero, suc, ◌+◌, ◌<◌, ◌≤◌, List, [], ◌∷◌, length, Bool, true, false, Option, Some, None, refl, ap, ◌∙◌, subst, arith, lt-ltb}
use Rattle.std.specs.Prelude.{◌&&◌, nat_lt, if◌then◌else◌, option_and_then, slice_get}
use Rattle.type_tree.specs.declared.tree.TExpr.{TExpr}
use Rattle.type_tree.specs.declared.tree.TNode.{TNode}
use Rattle.type_tree.specs.declared.tree.TNode.TheVariants.{Node, ClassVar, MethodVar}
use Rattle.type_tree.specs.declared.tree.Head.TheVariants as head
use Rattle.type_tree.specs.Tree.{top_of}
use Rattle.il_model.specs.declared.program.Program.{Program}
use Rattle.il_model.specs.Layouts.{words_of, instance_kinds_of, instance_words_top, instance_words_of}
use Rattle.il_model.specs.Assignable.{element_of}
use Rattle.interaction.specs.Process.{Naming}
use Rattle.store_object.specs.declared.limits.TheConstants.{INDEX_LIMIT}
use Rattle.store_object.specs.declared.place.Place.TheVariants as at
use Rattle.store_object.specs.Store.{Store}
use Rattle.cil_meaning.specs.Values.{Pointer, Null, InFrame, InFresh, InObject, InStatic, shifted}
use Rattle.cil_meaning.specs.Naming.{Mention}
use Rattle.cil_safety.proofs.Sorts.{Scalar, scalars_of, instance_scalars_top, instance_scalars_of, static_scalars_of}
use Rattle.cil_safety.proofs.Fit.{Spans, Lies, Holds, ObjectOf, size_by, scalar_by, scalar_in, in_shape, in_statics, scalar_at, PointerFits}
use Rattle.cil_safety.proofs.Words.{spans_part}
use Rattle.cil_safety.proofs.Pieces.{all_lengths, length-scalars_of}

pub get_within : {A : Type 0} (xs : List A) (k : ℕ) (x : A) → slice_get xs k ≡ Some x → k < length xs
get_within [] k x e = absurd (cc e)
get_within (y ∷ ys) zero x e = omega arith
get_within (y ∷ ys) (suc k) x e = omega (arith, get_within ys k x e)

pub both : (a b : Bool) → a ≡ true → b ≡ true → (a && b) ≡ true
both true b e f = f
both false b e f = e

-- what stands at each index stands in a row
pub spans_of : (g : ℕ → Option Scalar) (k : ℕ) (as' : List Scalar) → ((j : ℕ) (a : Scalar) → slice_get as' j ≡ Some a → g (k + j) ≡ Some a) → Spans g k as'
spans_of g k [] each = tt
spans_of g k (a ∷ as') each = (
  let e : k + 0 ≡ k = omega arith in subst (λ z. g z ≡ Some a) e (each 0 a refl),
  spans_of g (suc k) as' (λ j b is. let e : k + suc j ≡ suc k + j = omega arith in subst (λ z. g z ≡ Some b) e (each (suc j) b is)),
)

module _ (p : Program) where
  pub length-instance_scalars : (t : TExpr) → length (instance_scalars_of p t) ≡ instance_words_of p t
  length-instance_scalars t = by_top (top_of t)
    where
      by_top : (top : TNode TExpr) → length (instance_scalars_top p t top) ≡ instance_words_top p t top
      by_top (Node head.Int32 parts) = refl
      by_top (Node head.Int64 parts) = refl
      by_top (Node head.Bool parts) = refl
      by_top (Node head.Vector parts) = refl
      by_top (Node (head.Class number) parts) = all_lengths (scalars_of p) (words_of p) (length-scalars_of p) (instance_kinds_of p t)
      by_top (ClassVar k) = refl
      by_top (MethodVar k) = refl

module _ (p : Program) (n : Naming Mention TExpr) where
  pub lies_part : (vs us as' : List Scalar) (k i : ℕ) → Lies vs k us → Lies us i as' → Lies vs (k + i) as'
  lies_part vs us as' k i h l =
      let outer : k + length us ≤ length vs = h.0 in
      let inner : i + length as' ≤ length us = l.0 in
      (omega (arith, outer, inner), spans_part p n (slice_get vs) k i us as' h.1 l.1)

  object_word : (x : Store) (e : TExpr) (w j : ℕ) (a : Scalar) → ObjectOf p n x e w → element_of e ≡ None → slice_get (instance_scalars_of p e) j ≡ Some a → scalar_at p n x (at.Object w j) ≡ Some a
  object_word x e w j a o none is =
      let inside : j < length (instance_scalars_of p e) = get_within (instance_scalars_of p e) j a is in
      let words : o.shape.words ≡ instance_words_of p e = o.size ∙ ap (size_by p e o.shape.length) none in
      let long : length (instance_scalars_of p e) ≡ instance_words_of p e = length-instance_scalars p e in
      let lt : j < o.shape.words = omega (arith, inside, words, long) in
      let few : o.shape.words ≤ 4194304 = o.few in
      let first : nat_lt j o.shape.words ≡ true = lt-ltb j o.shape.words lt in
      let second : nat_lt j INDEX_LIMIT ≡ true = lt-ltb j INDEX_LIMIT (omega (arith, lt, few)) in
      ap (option_and_then (in_shape p n j)) o.there
      ∙ ap (λ b. if b then option_and_then (λ t. scalar_in p t j) (n.tree_at o.shape.kind) else None) (both (nat_lt j o.shape.words) (nat_lt j INDEX_LIMIT) first second)
      ∙ ap (option_and_then (λ t. scalar_in p t j)) o.tree ∙ ap (scalar_by p e j) none ∙ is

  -- the words of an object that is no vector
  pub object_spans : (x : Store) (e : TExpr) (w : ℕ) → ObjectOf p n x e w → element_of e ≡ None → Spans (λ j. scalar_at p n x (at.Object w j)) 0 (instance_scalars_of p e)
  object_spans x e w o none = spans_of (λ j. scalar_at p n x (at.Object w j)) 0 (instance_scalars_of p e) (λ j a is. let z : j ≡ 0 + j = omega arith in subst (λ k. scalar_at p n x (at.Object w k) ≡ Some a) z (object_word x e w j a o none is))

  -- static words of a type whose number is known
  pub static_spans : (x : Store) (t : TExpr) (v i : ℕ) (as' : List Scalar) → n.tree_at v ≡ Some t → i + length as' ≤ INDEX_LIMIT → Spans (slice_get (static_scalars_of p t)) i as' → Spans (λ j. scalar_at p n x (at.Fixed v j)) i as'
  static_spans x t v i [] tree few h = tt
  static_spans x t v i (a ∷ as') tree few h =
      let most : i + suc (length as') ≤ 16777216 = few in
      let second : nat_lt i INDEX_LIMIT ≡ true = lt-ltb i INDEX_LIMIT (omega (arith, most)) in
      (ap (option_and_then (in_statics p n i)) tree ∙ ap (λ b. if b then slice_get (static_scalars_of p t) i else None) second ∙ h.0, static_spans x t v (suc i) as' tree (let m' : suc i + length as' ≤ 16777216 = omega (arith, most) in m') h.1)

  -- a part of what a pointer goes to
  pub pointer_part : (x : Store) (env : List Holds) (us : List Scalar) (i : ℕ) (as' : List Scalar) (q : Pointer) → Lies us i as' → PointerFits p n x env us q → PointerFits p n x env as' (shifted q i)
  pointer_part x env us i as' Null l h = tt
  pointer_part x env us i as' (InFrame level place k) l h = (h.0, h.1, h.2, h.3, h.4, lies_part h.2 us as' k i h.5 l)
  pointer_part x env us i as' (InFresh level k) l h = (h.0, h.1, lies_part h.0.fresh us as' k i h.2 l)
  pointer_part x env us i as' (InObject o j) l h = spans_part p n (λ k. scalar_at p n x (at.Object o k)) j i us as' h l.1
  pointer_part x env us i as' (InStatic v j) l h = spans_part p n (λ k. scalar_at p n x (at.Fixed v k)) j i us as' h l.1
