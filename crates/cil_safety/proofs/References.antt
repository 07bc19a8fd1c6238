-- What a reference leads to: null, an object of an exact type, or a string; and the pieces that tell these apart.
use Rattle.std.proofs.Common.{◌≡◌, ◌≢◌, inr, ℕ, ◌-◌, ◌≤◌, length, Bool, true, false, Option, Some, None, refl, arith, lt-ltb}
use Rattle.std.proofs.lemmas.Bool.Decides.{nat_tests}
use Rattle.std.specs.Prelude.{nat_lt, if◌then◌else◌, slice_get}
use Rattle.type_tree.specs.declared.tree.TExpr.{TExpr}
use Rattle.il_model.specs.declared.program.Program.{Program}
use Rattle.il_model.specs.Library.{plain}
use Rattle.il_model.specs.Kinds.{is_reference}
use Rattle.interaction.specs.Process.{Naming, Spell, Ask, Stuck}
use Rattle.store_object.specs.declared.request.Request.TheVariants as ask
use Rattle.store_object.specs.Store.{Store, is_live}
use Rattle.store_object.specs.Answer.{ended_reply}
use Rattle.store_object.specs.Growth.{Grows}
use Rattle.cil_meaning.specs.Naming.{Mention, IsNaming, strings_from, names_from}
use Rattle.cil_meaning.specs.Types.{passes_as}
use Rattle.cil_meaning.specs.Replies.{Left, on_kind, on_ended}
use Rattle.cil_meaning.specs.Pieces.{Exact, Text, Numbered, as_object, as_string, types}
use Rattle.cil_safety.proofs.Sorts.{Scalar, Number32, Number64, Length, Truth, Ref, BoxOf, Nil, boxed_scalar}
use Rattle.cil_safety.proofs.Fit.{ObjectOf, IsString, literal, name, RefTo, null, object, string, BoxTo, no_box, box, WordFits, Typed}
use Rattle.cil_safety.proofs.Requests.{Answered, answers, kind_is}
use Rattle.cil_safety.proofs.Pieces.{Runs, where_true, spelled}

-- the scalars of references
pub data IsRefScalar : Scalar → Type 0 where
  ref : {t : TExpr} → IsRefScalar (Ref t)
  box_of : {t : TExpr} → IsRefScalar (BoxOf t)
  nil : IsRefScalar Nil

pub boxed_is_ref : (p : Program) (t : TExpr) → IsRefScalar (boxed_scalar p t)
boxed_is_ref p t = by_test (is_reference p t)
  where
    by_test : (b : Bool) → IsRefScalar (if b then Ref t else BoxOf t)
    by_test true = ref
    by_test false = box_of

module _ (p : Program) (n : Naming Mention TExpr) where
  -- a reference whose exact type, where it isn't null, is one of these
  pub data Refers (x : Store) (Q : TExpr → Type 0) (w : ℕ) : Type 0 where
    nowhere : w ≡ 0 → Refers x Q w
    to_object : (e : TExpr) → ObjectOf p n x e w → Q e → Refers x Q w
    to_string : IsString p n w → Q (plain 1) → Refers x Q w

  abbrev pub Passes : TExpr → TExpr → Type 0
  Passes t e = passes_as p e t ≡ true

  pub ref_refers : (x : Store) (t : TExpr) (w : ℕ) → RefTo p n x t w → Refers x (Passes t) w
  ref_refers x t w (null z) = nowhere z
  ref_refers x t w (object e o pass) = to_object e o pass
  ref_refers x t w (string is pass) = to_string is pass

  pub refers_ref : (x : Store) (t : TExpr) (w : ℕ) → Refers x (Passes t) w → RefTo p n x t w
  refers_ref x t w (nowhere z) = null z
  refers_ref x t w (to_object e o pass) = object e o pass
  refers_ref x t w (to_string is pass) = string is pass

  abbrev pub Anything : TExpr → Type 0
  Anything e = Unit {0}

  ref_any : (x : Store) (t : TExpr) (w : ℕ) → RefTo p n x t w → Refers x Anything w
  ref_any x t w (null z) = nowhere z
  ref_any x t w (object e o pass) = to_object e o tt
  ref_any x t w (string is pass) = to_string is tt

  box_any : (x : Store) (t : TExpr) (w : ℕ) → BoxTo p n x t w → Refers x Anything w
  box_any x t w (no_box z) = nowhere z
  box_any x t w (box o) = to_object t o tt

  pub word_refers : (x : Store) (a : Scalar) (w : ℕ) → IsRefScalar a → WordFits p n x a w → Refers x Anything w
  word_refers x Number32 w r f = elim r [ ]
  word_refers x Number64 w r f = elim r [ ]
  word_refers x Length w r f = elim r [ ]
  word_refers x Truth w r f = elim r [ ]
  word_refers x (Ref t) w ref f = ref_any x t w f
  word_refers x (BoxOf t) w box_of f = box_any x t w f
  word_refers x Nil w nil f = nowhere f

module _ (p : Program) (n : Naming Mention TExpr) (names : IsNaming n) where
  pub where_false : (u : ℕ) (x : Store) (b : Bool) (q r : Left) → b ≡ false → Runs p n names u x r → Runs p n names u x (if b then q else r)
  where_false u x true q r e f = absurd (cc e)
  where_false u x false q r e f = f

  -- a string word is one
  pub string_fits : (u : ℕ) (x : Store) (w : ℕ) (k : Left) → IsString p n w → Runs p n names u x k → Runs p n names u x (as_string p w k)
  string_fits u x w k (literal low high few) go =
      where_true p n names u x (nat_lt w names_from) (if nat_lt (w - strings_from) (length p.literals) then k else Stuck) (Spell (w - names_from) (λ t. k)) (lt-ltb w names_from high)
      (where_true p n names u x (nat_lt (w - strings_from) (length p.literals)) k Stuck (lt-ltb (w - strings_from) (length p.literals) few) go)
  string_fits u x w k (name high t is) go =
      let past : nat_lt w names_from ≡ false = grind (arith, nat_tests) in
      where_false u x (nat_lt w names_from) (if nat_lt (w - strings_from) (length p.literals) then k else Stuck) (Spell (w - names_from) (λ t'. k)) past
      (spelled p n names u x (w - names_from) t (λ t'. k) is go)

  pub string_high : (w : ℕ) → IsString p n w → strings_from ≤ w
  string_high w (literal low high few) = low
  string_high w (name high t is) = let h : names_from ≤ w = high in omega (arith, h)

  -- the exact type of what a reference leads to
  pub types_fit : (u : ℕ) (x : Store) (Q : TExpr → Type 0) (w : ℕ) (k : Exact → Left) → Refers p n x Q w → w ≢ 0 →
      ((y : Store) (e : TExpr) (o : ObjectOf p n x e w) → Grows x y → Q e → Runs p n names u y (k (Numbered o.shape.kind))) → (IsString p n w → Q (plain 1) → Runs p n names u x (k Text)) → Runs p n names u x (types p w k)
  types_fit u x Q w k (nowhere z) some ob te = absurd (some z)
  types_fit u x Q w k (to_object e o q) some ob te =
      where_true p n names u x (nat_lt w strings_from) (Ask (ask.TypeOf w) (on_kind (λ v. k (Numbered v)))) (as_string p w (k Text)) (lt-ltb w strings_from o.small)
      (kind_is p n u x e w (λ v. k (Numbered v)) o (λ y g. ob y e o g q))
  types_fit u x Q w k (to_string is q) some ob te =
      let low : strings_from ≤ w = string_high w is in
      let past : nat_lt w strings_from ≡ false = grind (arith, nat_tests) in
      where_false u x (nat_lt w strings_from) (Ask (ask.TypeOf w) (on_kind (λ v. k (Numbered v)))) (as_string p w (k Text)) past
      (string_fits u x w (k Text) is (te is q))

  -- a reference that no string is one of leads to an object
  pub object_fits : (u : ℕ) (x : Store) (Q : TExpr → Type 0) (w : ℕ) (k : Left) → Refers p n x Q w → w ≢ 0 → (Q (plain 1) → ⊥) → ((e : TExpr) → ObjectOf p n x e w → Q e → Runs p n names u x k) → Runs p n names u x (as_object w k)
  object_fits u x Q w k (nowhere z) some no_string go = absurd (some z)
  object_fits u x Q w k (to_object e o q) some no_string go = where_true p n names u x (nat_lt w strings_from) k Stuck (lt-ltb w strings_from o.small) (go e o q)
  object_fits u x Q w k (to_string is q) some no_string go = absurd (no_string q)

  -- whether another thread has finished
  pub ended_is : (u : ℕ) (x : Store) (other : ℕ) (finished not_yet unknown : Left) → ((y : Store) → Grows x y → Runs p n names u y finished × Runs p n names u y not_yet × Runs p n names u y unknown) → Runs p n names u x (Ask (ask.Ended other) (on_ended finished not_yet unknown))
  ended_is u x other finished not_yet unknown go = answers p n u x (ask.Ended other) (on_ended finished not_yet unknown) (λ y g t l. (refl, λ g'. by_reply y t l (slice_get y.finished other) (go y g)))
    where
      by_reply : (y : Store) → Typed p n y → is_live y u ≡ true → (o : Option Bool) → Runs p n names u y finished × Runs p n names u y not_yet × Runs p n names u y unknown → Answered p n u (ask.Ended other) (on_ended finished not_yet unknown) (ended_reply o) y
      by_reply y t l None r = record { proper = refl; typed = t; begun = tt; ready = inr l; safe = r.2 }
      by_reply y t l (Some true) r = record { proper = refl; typed = t; begun = tt; ready = inr l; safe = r.0 }
      by_reply y t l (Some false) r = record { proper = refl; typed = t; begun = tt; ready = inr l; safe = r.1 }
