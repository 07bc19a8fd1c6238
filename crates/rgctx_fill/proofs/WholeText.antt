-- What the program of an accepted text writes has its variables, and its methods are of the classes that list them.
use Rattle.std.proofs.Common.{◌≡◌, ⊎_elim, ℕ, zero, suc, ◌+◌, ◌≤◌, List, [], ◌∷◌, ◌++◌, length, map, Some, refl, sym, ap, ◌∙◌, subst, arith}
use Rattle.std.specs.Prelude.{slice_get, option_map, option_to_list}
use Rattle.std.specs.List.{AllByRecursion}
use Rattle.std.proofs.lemmas.List.Elements.{All-contains}
use Rattle.std.proofs.lemmas.Option.{slice_get-map}
use Rattle.type_tree.specs.Tree.{HasVariablesBelow, IsClosed}
use Rattle.type_tree.proofs.VariablesLemmas.{closed_below}
use Rattle.il_model.specs.declared.class.ClassDef.{ClassDef}
use Rattle.il_model.specs.declared.method.MethodDef.{MethodDef}
use Rattle.il_model.specs.declared.program.Program.{Program}
use Rattle.il_model.specs.declared.written.WrittenMethod.{WrittenMethod}
use Rattle.il_model.specs.declared.written.WrittenClass.{WrittenClass}
use Rattle.il_model.specs.Lexemes.{lexemes_of}
use Rattle.il_model.specs.Names.{Each, end, both, NamesVar}
use Rattle.il_model.specs.Bounds.{methods_of, all_methods, IsSmallMethod}
use Rattle.il_model.specs.Library.{library_classes, library_methods}
use Rattle.il_model.specs.LookUp.{numbers_from, Known, scope_of, NamesMethod, NamesClass, NamesClasses, no_classes, more_classes, Owned, owned_from, NamesOwned, NamesBody, known_of}
use Rattle.il_model.specs.Accepted.{IsProgramText, IsOfText}
use Rattle.il_model.specs.Found.{method_at}
use Rattle.il_model.specs.Entries.{has_slot}
use Rattle.rgctx_fill.specs.Predefined.{HasLeaves}
use Rattle.rgctx_fill.proofs.TextLeaves.{no_item, got_left, got_right, IsLater, got_of_two, among, EachAt, each_at, each_length, each_none, owned_by, length_map, HasClass, class_of, text-leaves}
use Rattle.rgctx_fill.proofs.WholeLists.{item_holds, all_weaker}
use Rattle.rgctx_fill.proofs.WholeMentions.{both-body}
use Rattle.rgctx_fill.proofs.WholeScopes.{BodyHolds, IsOwned, IsScopedClass, IsScopedMethod, IsScoped}
use Rattle.rgctx_fill.proofs.WholeShapes.{IsShaped, slot-no_vars, methods-shaped}
use Rattle.rgctx_fill.proofs.WholeNames.{types-within, base-within, perhaps_holds, body-within}
use Rattle.rgctx_fill.proofs.WholeLibrary.{from_at, IsPlainMethod, library-methods, IsPlainOwned, IsPlainClass, library-classes}

-- ---- items of lists

record EachBack {A B : Type 0} (R : A → B → Type 0) (xs : List A) (k : ℕ) (y : B) : Type 0 where
  item : A
  is : slice_get xs k ≡ Some item
  related : R item y

each_back : {A B : Type 0} (R : A → B → Type 0) (xs : List A) (ys : List B) → Each R xs ys → (k : ℕ) (y : B) → slice_get ys k ≡ Some y → EachBack R xs k y
each_back R xs ys end k y e = no_item k y e
each_back R xs ys (both a b us vs is are) zero y e = record { item = a; is = refl; related = subst (R a) (let p : b ≡ y = cc in p) is }
each_back R xs ys (both a b us vs is are) (suc k) y e = let h = each_back R us vs are k y e in record { item = h.item; is = h.is; related = h.related }

record MappedAt {A B : Type 0} (f : A → B) (xs : List A) (k : ℕ) (y : B) : Type 0 where
  item : A
  is : slice_get xs k ≡ Some item
  same : f item ≡ y

mapped_at : {A B : Type 0} (f : A → B) (xs : List A) (k : ℕ) (y : B) → slice_get (map f xs) k ≡ Some y → MappedAt f xs k y
mapped_at f [] k y e = no_item k y e
mapped_at f (x ∷ xs) zero y e = record { item = x; is = refl; same = (let p : f x ≡ y = cc in p) }
mapped_at f (x ∷ xs) (suc k) y e = let h = mapped_at f xs k y e in record { item = h.item; is = h.is; same = h.same }

numbers_hold : {A : Type 0} (Q : ℕ → Type 0) (first : ℕ) (xs : List A) → ((j : ℕ) (x : A) → slice_get xs j ≡ Some x → Q (first + j)) → AllByRecursion Q (numbers_from first xs)
numbers_hold Q first [] each = tt
numbers_hold Q first (x ∷ xs) each = (
  subst Q (let e : first + 0 ≡ first = omega arith in e) (each 0 x refl),
  numbers_hold Q (first + 1) xs (λ j y is. subst Q (let e : first + suc j ≡ first + 1 + j = omega arith in e) (each (suc j) y is)),
)

-- ---- the classes of a text

-- the class at this place stands for a written one, and its methods are numbered as they stand among those of the text
record IsClassOf (known : Known) (first owner : ℕ) (ws : List WrittenClass) (k : ℕ) (c : ClassDef) : Type 0 where
  written : WrittenClass
  item : slice_get ws k ≡ Some written
  skip : ℕ
  named : NamesClass known (first + skip) written c
  owned : (j : ℕ) (m : WrittenMethod) → slice_get (methods_of written.members) j ≡ Some m → slice_get (owned_from owner ws) (skip + j) ≡ Some (owned_by (owner + k) written m)

class_here : (known : Known) (first owner : ℕ) (w : WrittenClass) (ws : List WrittenClass) (c : ClassDef) → NamesClass known first w c → IsClassOf known first owner (w ∷ ws) 0 c
class_here known first owner w ws c is = record {
  written = w;
  item = refl;
  skip = 0;
  named = subst (λ n. NamesClass known n w c) (let e : first ≡ first + 0 = omega arith in e) is;
  owned = λ j m at.
      ap (slice_get (owned_from owner (w ∷ ws))) (let e : 0 + j ≡ j = omega arith in e)
      ∙ got_left (map (owned_by owner w) (methods_of w.members)) (owned_from (owner + 1) ws) j (owned_by owner w m)
      (slice_get-map (owned_by owner w) (methods_of w.members) j ∙ ap (option_map (owned_by owner w)) at)
      ∙ ap (λ n. Some (owned_by n w m)) (let e : owner ≡ owner + 0 = omega arith in e);
}

class_later : (known : Known) (first owner : ℕ) (w : WrittenClass) (ws : List WrittenClass) (k : ℕ) (c : ClassDef) → IsClassOf known (first + length (methods_of w.members)) (owner + 1) ws k c → IsClassOf known first owner (w ∷ ws) (suc k) c
class_later known first owner w ws k c r =
    let n : length (map (owned_by owner w) (methods_of w.members)) ≡ length (methods_of w.members) = length_map (owned_by owner w) (methods_of w.members) in
    record {
      written = r.written;
      item = r.item;
      skip = length (methods_of w.members) + r.skip;
      named = subst (λ i. NamesClass known i r.written c) (let e : first + length (methods_of w.members) + r.skip ≡ first + (length (methods_of w.members) + r.skip) = omega arith in e) r.named;
      owned = λ j m at.
          ap (slice_get (owned_from owner (w ∷ ws))) (let e : length (methods_of w.members) + r.skip + j ≡ length (map (owned_by owner w) (methods_of w.members)) + (r.skip + j) = omega arith in e)
          ∙ got_right (map (owned_by owner w) (methods_of w.members)) (owned_from (owner + 1) ws) (r.skip + j)
          ∙ r.owned j m at
          ∙ ap (λ i. Some (owned_by i r.written m)) (let e : owner + 1 + k ≡ owner + suc k = omega arith in e);
    }

class_of_text : (known : Known) (first owner : ℕ) (ws : List WrittenClass) (cs : List ClassDef) → NamesClasses known first ws cs → (k : ℕ) (c : ClassDef) → slice_get cs k ≡ Some c → IsClassOf known first owner ws k c
class_of_text known first owner ws cs (no_classes f) k c e = no_item k c e
class_of_text known first owner ws cs (more_classes f w d us ds is are) zero c e = class_here known first owner w us c (subst (NamesClass known first w) (let p : d ≡ c = cc in p) is)
class_of_text known first owner ws cs (more_classes f w d us ds is are) (suc k) c e =
    class_later known first owner w us k c (class_of_text known (first + length (methods_of w.members)) (owner + 1) us ds are k c e)

-- ---- the methods of a text

record IsOwnedAt (owner : ℕ) (ws : List WrittenClass) (k : ℕ) (o : Owned) : Type 0 where
  place : ℕ
  class : WrittenClass
  item : slice_get ws place ≡ Some class
  method : WrittenMethod
  same : owned_by (owner + place) class method ≡ o
  among_all : slice_get (all_methods ws) k ≡ Some method

owned_at : (owner : ℕ) (ws : List WrittenClass) (k : ℕ) (o : Owned) → slice_get (owned_from owner ws) k ≡ Some o → IsOwnedAt owner ws k o
owned_at owner [] k o e = no_item k o e
owned_at owner (w ∷ ws) k o e =
    let own : List Owned = map (owned_by owner w) (methods_of w.members) in
    let n : length own ≡ length (methods_of w.members) = length_map (owned_by owner w) (methods_of w.members) in
    ⊎_elim
    (λ (h : slice_get own k ≡ Some o).
    let x : MappedAt (owned_by owner w) (methods_of w.members) k o = mapped_at (owned_by owner w) (methods_of w.members) k o h in
    record {
      place = 0;
      class = w;
      item = refl;
      method = x.item;
      same = ap (λ i. owned_by i w x.item) (let d : owner + 0 ≡ owner = omega arith in d) ∙ x.same;
      among_all = got_left (methods_of w.members) (all_methods ws) k x.item x.is;
    })
    (λ (h : IsLater own (owned_from (owner + 1) ws) k o).
    let r = owned_at (owner + 1) ws h.place o h.item in
    let i : k ≡ length own + h.place = h.is in
    record {
      place = suc r.place;
      class = r.class;
      item = r.item;
      method = r.method;
      same = ap (λ j. owned_by j r.class r.method) (let d : owner + suc r.place ≡ owner + 1 + r.place = omega arith in d) ∙ r.same;
      among_all = ap (slice_get (methods_of w.members ++ all_methods ws)) (let d : k ≡ length (methods_of w.members) + h.place = omega arith in d)
          ∙ got_right (methods_of w.members) (all_methods ws) h.place ∙ r.among_all;
    })
    (got_of_two own (owned_from (owner + 1) ws) k o e)

-- ---- the program

module _ (text : List ℕ) (classes : List WrittenClass) (p : Program) (accepted : IsProgramText text classes p) where
  class_item : (k : ℕ) (c : ClassDef) → slice_get accepted.named.own_classes k ≡ Some c → slice_get p.classes (length library_classes + k) ≡ Some c
  class_item k c e = ap (λ cs. slice_get cs (length library_classes + k)) accepted.named.classes_are ∙ got_right library_classes accepted.named.own_classes k ∙ e

  method_item : (k : ℕ) (m : MethodDef) → slice_get accepted.named.own_methods k ≡ Some m → slice_get p.methods (length library_methods + k) ≡ Some m
  method_item k m e = ap (λ ms. slice_get ms (length library_methods + k)) accepted.named.methods_are ∙ got_right library_methods accepted.named.own_methods k ∙ e

  library_class_item : (k : ℕ) (c : ClassDef) → slice_get library_classes k ≡ Some c → slice_get p.classes k ≡ Some c
  library_class_item k c e = ap (λ cs. slice_get cs k) accepted.named.classes_are ∙ got_left library_classes accepted.named.own_classes k c e

  library_method_item : (k : ℕ) (m : MethodDef) → slice_get library_methods k ≡ Some m → slice_get p.methods k ≡ Some m
  library_method_item k m e = ap (λ ms. slice_get ms k) accepted.named.methods_are ∙ got_left library_methods accepted.named.own_methods k m e

  -- the method of a text with this place among its own is of the class with this number
  own_owned : (owner k : ℕ) (w : WrittenClass) (written : WrittenMethod) → slice_get (owned_from (length library_classes) classes) k ≡ Some (owned_by owner w written) → IsOwned p owner (length library_methods + k)
  own_owned owner k w written at =
      let h : EachAt (NamesOwned (known_of classes)) accepted.named.own_methods k (owned_by owner w written) =
      each_at (NamesOwned (known_of classes)) (owned_from (length library_classes) classes) accepted.named.own_methods accepted.named.named_methods k (owned_by owner w written) at in
      record { method = h.item; is = method_item k h.item h.is; owner_is = h.related.owner_is }

  own_class : (k : ℕ) (c : ClassDef) → slice_get accepted.named.own_classes k ≡ Some c → IsScopedClass p (length library_classes + k) c
  own_class k c e =
      let r : IsClassOf (known_of classes) (length library_methods) (length library_classes) classes k c =
      class_of_text (known_of classes) (length library_methods) (length library_classes) classes accepted.named.own_classes accepted.named.named_classes k c e in
      let count : length r.written.vars ≡ length c.vars = each_length (NamesVar (scope_of (known_of classes) (length r.written.vars) 0)) r.written.vars c.vars r.named.vars in
      let few : length r.written.vars ≤ 3 = All-contains (λ x. length x.vars ≤ 3) classes r.written accepted.written.small.vars (among classes k r.written r.item) in
      record {
        vars = omega arith;
        base = subst (λ n. AllByRecursion (HasVariablesBelow n 0) (option_to_list c.base)) count (base-within (scope_of (known_of classes) (length r.written.vars) 0) r.written.kind r.written.base c.base r.named.base);
        interfaces = subst (λ n. AllByRecursion (HasVariablesBelow n 0) c.interfaces) count (types-within (scope_of (known_of classes) (length r.written.vars) 0) r.written.interfaces c.interfaces r.named.interfaces);
        methods = subst (AllByRecursion (IsOwned p (length library_classes + k))) (sym r.named.methods)
            (numbers_hold (IsOwned p (length library_classes + k)) (length library_methods + r.skip) (methods_of r.written.members)
            (λ j m at. subst (IsOwned p (length library_classes + k)) (let d : length library_methods + (r.skip + j) ≡ length library_methods + r.skip + j = omega arith in d)
            (own_owned (length library_classes + k) (r.skip + j) r.written m (r.owned j m at))));
      }

  library_class_scoped : (k : ℕ) (c : ClassDef) → IsPlainClass k c → IsScopedClass p k c
  library_class_scoped k c h =
      let none : length c.vars ≡ 0 = ap length h.vars in
      record {
        vars = omega arith;
        base = all_weaker IsClosed (HasVariablesBelow (length c.vars) 0) (λ t closed. closed_below (length c.vars) 0 t closed) (option_to_list c.base) h.base;
        interfaces = subst (AllByRecursion (HasVariablesBelow (length c.vars) 0)) (sym h.interfaces) tt;
        methods = all_weaker (IsPlainOwned k) (IsOwned p k) (λ n o. record { method = o.method; is = library_method_item n o.method o.is; owner_is = o.owner_is }) c.methods h.methods;
      }

  all_classes : (number : ℕ) (c : ClassDef) → slice_get p.classes number ≡ Some c → IsScopedClass p number c
  all_classes number c e =
      ⊎_elim
      (λ (h : slice_get library_classes number ≡ Some c).
      library_class_scoped number c (subst (λ n. IsPlainClass n c) (let d : 0 + number ≡ number = omega arith in d) (from_at IsPlainClass 0 library_classes number c library-classes h)))
      (λ (h : IsLater library_classes accepted.named.own_classes number c). subst (λ n. IsScopedClass p n c) (sym h.is) (own_class h.place c h.item))
      (got_of_two library_classes accepted.named.own_classes number c (ap (λ cs. slice_get cs number) (sym accepted.named.classes_are) ∙ e))

  own_method : (k : ℕ) (m : MethodDef) → slice_get accepted.named.own_methods k ≡ Some m → IsScopedMethod p m
  own_method k m e =
      let h : EachBack (NamesOwned (known_of classes)) (owned_from (length library_classes) classes) k m =
      each_back (NamesOwned (known_of classes)) (owned_from (length library_classes) classes) accepted.named.own_methods accepted.named.named_methods k m e in
      let o : IsOwnedAt (length library_classes) classes k h.item = owned_at (length library_classes) classes k h.item h.is in
      let named : NamesMethod (known_of classes) (length library_classes + o.place) (length o.class.vars) o.method m = subst (λ x. NamesOwned (known_of classes) x m) (sym o.same) h.related in
      let d : HasClass (known_of classes) accepted.named.own_classes o.place o.class = class_of (known_of classes) (length library_methods) classes accepted.named.own_classes accepted.named.named_classes o.place o.class o.item in
      let class_vars : length o.class.vars ≡ length d.class.vars = each_length (NamesVar (scope_of (known_of classes) (length o.class.vars) 0)) o.class.vars d.class.vars d.named.vars in
      let vars : length o.method.vars ≡ length m.vars = each_length (NamesVar (scope_of (known_of classes) (length o.class.vars) (length o.method.vars))) o.method.vars m.vars named.vars in
      let small : IsSmallMethod o.method = All-contains IsSmallMethod (all_methods classes) o.method accepted.written.small.methods (among (all_methods classes) k o.method o.among_all) in
      let few : length o.method.vars ≤ 2 = small.vars in
      let shaped : IsShaped o.method = item_holds IsShaped (all_methods classes) k o.method (methods-shaped (lexemes_of text accepted.written.tokens) classes accepted.written.spelled) o.among_all in
      record {
        vars = omega arith;
        alone = λ has. each_none (NamesVar (scope_of (known_of classes) (length o.class.vars) (length o.method.vars))) o.method.vars m.vars named.vars
            (slot-no_vars o.method.shape o.method.vars (ap has_slot (sym named.shape) ∙ has) shaped);
        class = d.class;
        class_is = ap (slice_get p.classes) named.owner_is ∙ class_item o.place d.class d.item;
        body = subst (λ n. AllByRecursion (BodyHolds (HasVariablesBelow n (length m.vars))) (option_to_list m.body)) class_vars
            (subst (λ n. AllByRecursion (BodyHolds (HasVariablesBelow (length o.class.vars) n)) (option_to_list m.body)) vars
            (perhaps_holds (NamesBody (scope_of (known_of classes) (length o.class.vars) (length o.method.vars)) (known_of classes).literals) (BodyHolds (HasVariablesBelow (length o.class.vars) (length o.method.vars)))
            (body-within (scope_of (known_of classes) (length o.class.vars) (length o.method.vars)) (known_of classes).literals) o.method.body m.body named.body));
      }

  library_method_scoped : (m : MethodDef) → IsPlainMethod m → IsScopedMethod p m
  library_method_scoped m h =
      let none : length m.vars ≡ 0 = ap length h.vars in
      record {
        vars = omega arith;
        alone = λ has. h.vars;
        class = h.class;
        class_is = library_class_item m.owner h.class h.class_is;
        body = all_weaker (BodyHolds IsClosed) (BodyHolds (HasVariablesBelow (length h.class.vars) (length m.vars)))
            (λ b holds. both-body IsClosed IsClosed (HasVariablesBelow (length h.class.vars) (length m.vars)) (λ t closed also. closed_below (length h.class.vars) (length m.vars) t closed) b holds holds)
            (option_to_list m.body) h.body;
      }

  all_of_methods : (number : ℕ) (m : MethodDef) → method_at p number ≡ Some m → IsScopedMethod p m
  all_of_methods number m e =
      ⊎_elim
      (λ (h : slice_get library_methods number ≡ Some m). library_method_scoped m (item_holds IsPlainMethod library_methods number m library-methods h))
      (λ (h : IsLater library_methods accepted.named.own_methods number m). own_method h.place m h.item)
      (got_of_two library_methods accepted.named.own_methods number m (ap (λ ms. slice_get ms number) (sym accepted.named.methods_are) ∙ e))

-- what the program of an accepted text writes is in scope
pub text-scoped : (p : Program) → IsOfText p → IsScoped p
text-scoped p of =
    let leaves : HasLeaves p = text-leaves p of in
    record {
      few_classes = leaves.few_classes;
      few_methods = leaves.few_methods;
      classes = all_classes of.text of.classes p of.accepted;
      methods = all_of_methods of.text of.classes p of.accepted;
    }
