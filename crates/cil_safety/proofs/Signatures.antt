-- The methods of one class differ in name or signature.
use Rattle.std.proofs.Common.{◌≡◌, ⊎_elim, ℕ, zero, suc, ◌+◌, ◌-◌, ◌<◌, ◌≤◌, List, [], ◌∷◌, ◌++◌, length, Some, sym, ap, ◌∙◌, subst, arith, get_or}
use Rattle.std.specs.Prelude.{slice_get}
use Rattle.std.specs.List.{AllByRecursion}
use Rattle.std.proofs.lemmas.Option.{slice_get_within, get_or_from_slice_get}
use Rattle.il_model.specs.declared.program.Program.{Program}
use Rattle.il_model.specs.declared.class.ClassDef.{ClassDef}
use Rattle.il_model.specs.declared.method.MethodDef.{MethodDef}
use Rattle.il_model.specs.declared.written.WrittenMethod.{WrittenMethod}
use Rattle.il_model.specs.declared.written.WrittenClass.{WrittenClass}
use Rattle.il_model.specs.Bounds.{methods_of}
use Rattle.il_model.specs.Found.{method_at}
use Rattle.il_model.specs.Library.{library_classes, library_methods}
use Rattle.il_model.specs.LookUp.{Known, NamesClasses, no_classes, more_classes, numbers_from, known_of, HasSameSignature}
use Rattle.il_model.specs.Accepted.{IsProgramText, IsOfText}
use Rattle.il_model.specs.Signatures.{Signature}
use Rattle.rgctx_fill.proofs.WholeLists.{item_holds}
use Rattle.rgctx_fill.proofs.WholeScopes.{IsOwned, IsScoped}
use Rattle.rgctx_fill.proofs.WholeText.{text-scoped}
use Rattle.rgctx_fill.proofs.TextLeaves.{no_item, IsLater, got_of_two, got_right}

-- the name and signature of a method of a class without variables
abbrev pub signature_of : MethodDef → Signature
signature_of m = record { name = m.name; vars = length m.vars; params = m.params; gives = m.result }

module _ (p : Program) where
  -- the methods with these numbers differ so
  abbrev pub Differ : ℕ → ℕ → Type 0
  Differ n k = (a b : MethodDef) → method_at p n ≡ Some a → method_at p k ≡ Some b → signature_of a ≡ signature_of b → ⊥

  abbrev pub AreApart : List ℕ → Type 0
  AreApart [] = Unit {0}
  AreApart (n ∷ ns) = AllByRecursion (Differ n) ns × AreApart ns

  -- ---- the classes of a text

  record HasNumbers (first : ℕ) (c : ClassDef) : Type 0 where
    from : ℕ
    low : first ≤ from
    written : List WrittenMethod
    is : c.methods ≡ numbers_from from written

  numbers_of : (known : Known) (first : ℕ) (ws : List WrittenClass) (cs : List ClassDef) → NamesClasses known first ws cs → (k : ℕ) (c : ClassDef) → slice_get cs k ≡ Some c → HasNumbers first c
  numbers_of known first ws cs (no_classes f) k c e = no_item k c e
  numbers_of known first ws cs (more_classes f w d us ds is are) zero c e =
      let q : d ≡ c = cc e in
      subst (λ z. HasNumbers f z) q (record { from = f; low = omega arith; written = methods_of w.members; is = is.methods })
  numbers_of known first ws cs (more_classes f w d us ds is are) (suc k) c e =
      let r = numbers_of known (f + length (methods_of w.members)) us ds are k c e in
      let low : f + length (methods_of w.members) ≤ r.from = r.low in
      record { from = r.from; low = omega (arith, low); written = r.written; is = r.is }

  module _ (text : List ℕ) (classes : List WrittenClass) (accepted : IsProgramText text classes p) where
    own_at : (n : ℕ) (a : MethodDef) → length library_methods ≤ n → method_at p n ≡ Some a → slice_get accepted.named.own_methods (n - length library_methods) ≡ Some a
    own_at n a low is =
        let split : n ≡ length library_methods + (n - length library_methods) = omega (arith, low) in
        sym (got_right library_methods accepted.named.own_methods (n - length library_methods))
        ∙ ap (slice_get (library_methods ++ accepted.named.own_methods)) (sym split)
        ∙ ap (λ ms. slice_get ms n) (sym accepted.named.methods_are)
        ∙ is

    owner_of : (k n : ℕ) (a : MethodDef) → IsOwned p k n → method_at p n ≡ Some a → a.owner ≡ k
    owner_of k n a o is = let q : o.method ≡ a = cc (o.is, is) in sym (ap (λ (z : MethodDef). z.owner) q) ∙ o.owner_is

    differ : (k n m : ℕ) → length library_methods ≤ n → n < m → IsOwned p k n → IsOwned p k m → Differ n m
    differ k n m low lt on om a b is_a is_b same =
        let i : slice_get accepted.named.own_methods (n - length library_methods) ≡ Some a = own_at n a low is_a in
        let j : slice_get accepted.named.own_methods (m - length library_methods) ≡ Some b = own_at m b (omega (arith, low, lt)) is_b in
        let apart = accepted.named.signatures (n - length library_methods) (m - length library_methods) a (omega (arith, low, lt)) (slice_get_within accepted.named.own_methods (m - length library_methods) b j) in
        let alike : HasSameSignature a b = record {
          owner = owner_of k n a on is_a ∙ sym (owner_of k m b om is_b);
          name = ap (λ (s : Signature). s.name) same;
          vars = ap (λ (s : Signature). s.vars) same;
          params = ap (λ (s : Signature). s.params) same;
          gives = ap (λ (s : Signature). s.gives) same;
        } in
        apart (subst (λ z. HasSameSignature z (get_or accepted.named.own_methods (m - length library_methods) a)) (sym (get_or_from_slice_get accepted.named.own_methods (n - length library_methods) a a i)) (subst (λ z. HasSameSignature a z) (sym (get_or_from_slice_get accepted.named.own_methods (m - length library_methods) b a j)) alike))

    later_differ : {A : Type 0} (k n from : ℕ) (xs : List A) → length library_methods ≤ n → n < from → IsOwned p k n → AllByRecursion (IsOwned p k) (numbers_from from xs) → AllByRecursion (Differ n) (numbers_from from xs)
    later_differ k n from [] low lt on all = tt
    later_differ k n from (x ∷ xs) low lt on all = (differ k n from low lt on all.0, later_differ k n (from + 1) xs low (omega (arith, lt)) on all.1)

    numbers_apart : {A : Type 0} (k from : ℕ) (xs : List A) → length library_methods ≤ from → AllByRecursion (IsOwned p k) (numbers_from from xs) → AreApart (numbers_from from xs)
    numbers_apart k from [] low all = tt
    numbers_apart k from (x ∷ xs) low all = (later_differ k from (from + 1) xs low (omega arith) all.0 all.1, numbers_apart k (from + 1) xs (omega (arith, low)) all.1)

    own_apart : (scoped : IsScoped p) (number place : ℕ) (c : ClassDef) → slice_get p.classes number ≡ Some c → slice_get accepted.named.own_classes place ≡ Some c → AreApart c.methods
    own_apart scoped number place c is e =
        let r = numbers_of (known_of classes) (length library_methods) classes accepted.named.own_classes accepted.named.named_classes place c e in
        subst AreApart (sym r.is) (numbers_apart number r.from r.written r.low (subst (λ z. AllByRecursion (IsOwned p number) z) r.is (scoped.classes number c is).methods))

  -- a class of the library has one method at most
  library_apart : AllByRecursion (λ (c : ClassDef). AreApart c.methods) library_classes
  library_apart = ((tt, tt), (tt, ((tt, tt), ((tt, tt), ((tt, tt), ((tt, tt), ((tt, tt), ((tt, tt), ((tt, tt), ((tt, tt), ((tt, tt), ((tt, tt), ((tt, tt), tt)))))))))))))

  pub methods_apart : IsOfText p → (number : ℕ) (c : ClassDef) → slice_get p.classes number ≡ Some c → AreApart c.methods
  methods_apart of number c is =
      ⊎_elim
      (λ (h : slice_get library_classes number ≡ Some c). item_holds (λ (z : ClassDef). AreApart z.methods) library_classes number c library_apart h)
      (λ (h : IsLater library_classes of.accepted.named.own_classes number c). own_apart of.text of.classes of.accepted (text-scoped p of) number h.place c is h.item)
      (got_of_two library_classes of.accepted.named.own_classes number c (ap (λ cs. slice_get cs number) (sym of.accepted.named.classes_are) ∙ is))
