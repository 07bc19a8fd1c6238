-- The program of an accepted text begins with the predefined classes and methods, and its entry point and the class of that have no variables.
use Rattle.std.proofs.Common.{◌≡◌, ◌⊎◌, ⊎_elim, inl, inr, ℕ, zero, suc, ◌+◌, ◌≤◌, List, [], ◌∷◌, ◌++◌, length, map, Some, refl, sym, ap, ◌∙◌, subst, arith}
use Rattle.std.specs.Prelude.{slice_get, Contains, option_map}
use Rattle.std.proofs.lemmas.List.{length-append}
use Rattle.std.proofs.lemmas.List.Elements.{All-contains}
use Rattle.std.proofs.lemmas.Option.{slice_get_within, get_or_from_slice_get, slice_get-map}
use Rattle.il_model.specs.declared.class.ClassDef.{ClassDef}
use Rattle.il_model.specs.declared.program.Program.{Program}
use Rattle.il_model.specs.declared.written.WrittenMethod.{WrittenMethod}
use Rattle.il_model.specs.declared.written.WrittenClass.{WrittenClass}
use Rattle.il_model.specs.Names.{Each, end, both}
use Rattle.il_model.specs.Bounds.{methods_of, all_methods}
use Rattle.il_model.specs.Library.{library_classes, library_methods}
use Rattle.il_model.specs.LookUp.{Known, NamesClass, NamesClasses, no_classes, more_classes, Owned, owned_from, NamesOwned, has_entry, entries_from, MayBegin, EntriesFit, known_of}
use Rattle.il_model.specs.Accepted.{IsProgramText, IsOfText}
use Rattle.rgctx_fill.specs.Predefined.{HasLeaves}

-- ---- items of lists

pub no_item : {A P : Type 0} (k : ℕ) (x : A) → slice_get [] k ≡ Some x → P
no_item k x e = cc

pub got_left : {A : Type 0} (xs ys : List A) (k : ℕ) (x : A) → slice_get xs k ≡ Some x → slice_get (xs ++ ys) k ≡ Some x
got_left [] ys k x e = no_item k x e
got_left (z ∷ xs) ys zero x e = e
got_left (z ∷ xs) ys (suc k) x e = got_left xs ys k x e

pub got_right : {A : Type 0} (xs ys : List A) (k : ℕ) → slice_get (xs ++ ys) (length xs + k) ≡ slice_get ys k
got_right [] ys k = ap (slice_get ys) (let e : 0 + k ≡ k = omega arith in e)
got_right (z ∷ xs) ys k = ap (slice_get (z ∷ (xs ++ ys))) (let e : length (z ∷ xs) + k ≡ suc (length xs + k) = omega arith in e) ∙ got_right xs ys k

-- an item of two lists is one of the first or of the second
pub record IsLater {A : Type 0} (xs ys : List A) (k : ℕ) (x : A) : Type 0 where
  pub place : ℕ
  pub is : k ≡ length xs + place
  pub item : slice_get ys place ≡ Some x

pub got_of_two : {A : Type 0} (xs ys : List A) (k : ℕ) (x : A) → slice_get (xs ++ ys) k ≡ Some x → (slice_get xs k ≡ Some x) ⊎ IsLater xs ys k x
got_of_two [] ys k x e = inr (record { place = k; is = omega arith; item = e })
got_of_two (z ∷ xs) ys zero x e = inl e
got_of_two (z ∷ xs) ys (suc k) x e = ⊎_elim
    (λ (h : slice_get xs k ≡ Some x). inl h)
    (λ (h : IsLater xs ys k x). inr (record { place = h.place; is = (let i : k ≡ length xs + h.place = h.is in omega arith); item = h.item }))
    (got_of_two xs ys k x e)

pub among : {A : Type 0} (xs : List A) (k : ℕ) (x : A) → slice_get xs k ≡ Some x → Contains xs x
among xs k x e = (k, slice_get_within xs k x e, get_or_from_slice_get xs k x x e)

pub record EachAt {A B : Type 0} (R : A → B → Type 0) (ys : List B) (k : ℕ) (x : A) : Type 0 where
  pub item : B
  pub is : slice_get ys k ≡ Some item
  pub related : R x item

pub each_at : {A B : Type 0} (R : A → B → Type 0) (xs : List A) (ys : List B) → Each R xs ys → (k : ℕ) (x : A) → slice_get xs k ≡ Some x → EachAt R ys k x
each_at R xs ys end k x e = no_item k x e
each_at R xs ys (both a b us vs is are) zero x e = record { item = b; is = refl; related = subst (λ z. R z b) (let p : a ≡ x = cc in p) is }
each_at R xs ys (both a b us vs is are) (suc k) x e = let h = each_at R us vs are k x e in record { item = h.item; is = h.is; related = h.related }

pub each_length : {A B : Type 0} (R : A → B → Type 0) (xs : List A) (ys : List B) → Each R xs ys → length xs ≡ length ys
each_length R xs ys end = refl
each_length R xs ys (both x y us vs is are) = ap suc (each_length R us vs are)

pub each_none : {A B : Type 0} (R : A → B → Type 0) (xs : List A) (ys : List B) → Each R xs ys → xs ≡ [] → ys ≡ []
each_none R xs ys end e = refl
each_none R xs ys (both x y us vs is are) e = cc

-- ---- the method with the entry point

record HasEntry (number : ℕ) (ms : List WrittenMethod) (n : ℕ) : Type 0 where
  place : ℕ
  is : n ≡ number + place
  method : WrittenMethod
  item : slice_get ms place ≡ Some method
  at : ℕ
  begins : Contains (has_entry method) at

first_same : (m n : ℕ) (xs ys : List ℕ) → m ∷ xs ≡ n ∷ ys → m ≡ n
first_same m n xs ys e = cc

entry_step : (number : ℕ) (m : WrittenMethod) (ms : List WrittenMethod) (n : ℕ) (rest ats : List ℕ) → has_entry m ≡ ats
    → map (λ at. number) ats ++ entries_from (number + 1) ms ≡ n ∷ rest
    → (entries_from (number + 1) ms ≡ n ∷ rest → HasEntry (number + 1) ms n) → HasEntry number (m ∷ ms) n
entry_step number m ms n rest [] is e later =
    let h = later e in
    record { place = suc h.place; is = (let i : n ≡ number + 1 + h.place = h.is in omega arith); method = h.method; item = h.item; at = h.at; begins = h.begins }
entry_step number m ms n rest (at ∷ ats) is e later = record {
  place = 0;
  is = (let i : number ≡ n = first_same number n (map (λ x. number) ats ++ entries_from (number + 1) ms) rest e in omega arith);
  method = m;
  item = refl;
  at = at;
  begins = subst (λ l. Contains l at) (sym is) (among (at ∷ ats) 0 at refl);
}

no_number : {P : Type 0} (n : ℕ) (rest : List ℕ) → [] ≡ n ∷ rest → P
no_number n rest e = cc

entry_of : (number : ℕ) (ms : List WrittenMethod) (n : ℕ) (rest : List ℕ) → entries_from number ms ≡ n ∷ rest → HasEntry number ms n
entry_of number [] n rest e = no_number n rest e
entry_of number (m ∷ ms) n rest e = entry_step number m ms n rest (has_entry m) refl e (λ d. entry_of (number + 1) ms n rest d)

-- ---- its class

abbrev pub owned_by : ℕ → WrittenClass → WrittenMethod → Owned
owned_by owner c m = record { owner = owner; of_class = length c.vars; written = m }

record HasOwner (owner : ℕ) (cs : List WrittenClass) (k : ℕ) (m : WrittenMethod) : Type 0 where
  place : ℕ
  class : WrittenClass
  item : slice_get cs place ≡ Some class
  method : Contains (methods_of class.members) m
  owned : slice_get (owned_from owner cs) k ≡ Some (owned_by (owner + place) class m)

pub length_map : {A B : Type 0} (f : A → B) (xs : List A) → length (map f xs) ≡ length xs
length_map f [] = refl
length_map f (x ∷ xs) = ap suc (length_map f xs)

owner_of : (owner : ℕ) (cs : List WrittenClass) (k : ℕ) (m : WrittenMethod) → slice_get (all_methods cs) k ≡ Some m → HasOwner owner cs k m
owner_of owner [] k m e = no_item k m e
owner_of owner (c ∷ cs) k m e =
    let own : List Owned = map (owned_by owner c) (methods_of c.members) in
    let more : List Owned = owned_from (owner + 1) cs in
    ⊎_elim
    (λ (h : slice_get (methods_of c.members) k ≡ Some m). record {
      place = 0;
      class = c;
      item = refl;
      method = among (methods_of c.members) k m h;
      owned = got_left own more k _ (slice_get-map (owned_by owner c) (methods_of c.members) k ∙ ap (option_map (owned_by owner c)) h)
          ∙ ap (λ n. Some (owned_by n c m)) (let i : owner ≡ owner + 0 = omega arith in i);
    })
    (λ (h : IsLater (methods_of c.members) (all_methods cs) k m).
    let r = owner_of (owner + 1) cs h.place m h.item in
    let n : length own ≡ length (methods_of c.members) = length_map (owned_by owner c) (methods_of c.members) in
    let i : k ≡ length (methods_of c.members) + h.place = h.is in
    record {
      place = suc r.place;
      class = r.class;
      item = r.item;
      method = r.method;
      owned = ap (slice_get (own ++ more)) (let j : k ≡ length own + h.place = omega arith in j) ∙ got_right own more h.place ∙ r.owned
          ∙ ap (λ x. Some (owned_by x r.class m)) (let j : owner + 1 + r.place ≡ owner + suc r.place = omega arith in j);
    })
    (got_of_two (methods_of c.members) (all_methods cs) k m e)

owned_length : (owner : ℕ) (cs : List WrittenClass) → length (owned_from owner cs) ≡ length (all_methods cs)
owned_length owner [] = refl
owned_length owner (c ∷ cs) =
    length-append (map (owned_by owner c) (methods_of c.members)) (owned_from (owner + 1) cs)
    ∙ ap (λ n. n + length (owned_from (owner + 1) cs)) (length_map (owned_by owner c) (methods_of c.members))
    ∙ ap (λ n. length (methods_of c.members) + n) (owned_length (owner + 1) cs)
    ∙ sym (length-append (methods_of c.members) (all_methods cs))

pub record HasClass (known : Known) (ds : List ClassDef) (k : ℕ) (c : WrittenClass) : Type 0 where
  pub class : ClassDef
  pub item : slice_get ds k ≡ Some class
  pub first : ℕ
  pub named : NamesClass known first c class

pub class_of : (known : Known) (first : ℕ) (cs : List WrittenClass) (ds : List ClassDef) → NamesClasses known first cs ds → (k : ℕ) (c : WrittenClass) → slice_get cs k ≡ Some c → HasClass known ds k c
class_of known first cs ds (no_classes f) k c e = no_item k c e
class_of known first cs ds (more_classes f w d ws us is are) zero c e = record { class = d; item = refl; first = f; named = subst (λ x. NamesClass known f x d) (let p : w ≡ c = cc in p) is }
class_of known first cs ds (more_classes f w d ws us is are) (suc k) c e = let h = class_of known (f + length (methods_of w.members)) ws us are k c e in record { class = h.class; item = h.item; first = h.first; named = h.named }

classes_length : (known : Known) (first : ℕ) (cs : List WrittenClass) (ds : List ClassDef) → NamesClasses known first cs ds → length cs ≡ length ds
classes_length known first cs ds (no_classes f) = refl
classes_length known first cs ds (more_classes f w d ws us is are) = ap suc (classes_length known (f + length (methods_of w.members)) ws us are)

-- ---- the program

module _ (text : List ℕ) (classes : List WrittenClass) (p : Program) (accepted : IsProgramText text classes p) where
  entry : HasEntry (length library_methods) (all_methods classes) p.main
  entry = entry_of (length library_methods) (all_methods classes) p.main [] accepted.named.begins

  owner : HasOwner (length library_classes) classes entry.place entry.method
  owner = owner_of (length library_classes) classes entry.place entry.method entry.item

  fitting : (owner.class.vars ≡ []) × MayBegin entry.method
  fitting = (All-contains EntriesFit classes owner.class accepted.written.entries (among classes owner.place owner.class owner.item)).each entry.method owner.method entry.at entry.begins

  method : EachAt (NamesOwned (known_of classes)) accepted.named.own_methods entry.place (owned_by (length library_classes + owner.place) owner.class entry.method)
  method = each_at (NamesOwned (known_of classes)) (owned_from (length library_classes) classes) accepted.named.own_methods accepted.named.named_methods entry.place _ owner.owned

  class : HasClass (known_of classes) accepted.named.own_classes owner.place owner.class
  class = class_of (known_of classes) (length library_methods) classes accepted.named.own_classes accepted.named.named_classes owner.place owner.class owner.item

  classes_count : length p.classes ≤ 4096
  classes_count =
      let a : length p.classes ≡ length library_classes + length accepted.named.own_classes = ap length accepted.named.classes_are ∙ length-append library_classes accepted.named.own_classes in
      let b : length classes ≡ length accepted.named.own_classes = classes_length (known_of classes) (length library_methods) classes accepted.named.own_classes accepted.named.named_classes in
      let c : length library_classes + length classes ≤ 4096 = accepted.written.small.classes_count in
      omega arith

  methods_count : length p.methods ≤ 16384
  methods_count =
      let a : length p.methods ≡ length library_methods + length accepted.named.own_methods = ap length accepted.named.methods_are ∙ length-append library_methods accepted.named.own_methods in
      let b : length (owned_from (length library_classes) classes) ≡ length accepted.named.own_methods = each_length (NamesOwned (known_of classes)) (owned_from (length library_classes) classes) accepted.named.own_methods accepted.named.named_methods in
      let d : length (owned_from (length library_classes) classes) ≡ length (all_methods classes) = owned_length (length library_classes) classes in
      let c : length library_methods + length (all_methods classes) ≤ 16384 = accepted.written.small.methods_count in
      omega arith

  owner_is : method.item.owner ≡ length library_classes + owner.place
  owner_is = method.related.owner_is

  leaves : HasLeaves p
  leaves = record {
    own_classes = accepted.named.own_classes;
    classes = accepted.named.classes_are;
    own_methods = accepted.named.own_methods;
    methods = accepted.named.methods_are;
    main = method.item;
    main_is = ap (λ ms. slice_get ms p.main) accepted.named.methods_are ∙ ap (slice_get (library_methods ++ accepted.named.own_methods)) entry.is
        ∙ got_right library_methods accepted.named.own_methods entry.place ∙ method.is;
    main_own = (let e : p.main ≡ length library_methods + entry.place = entry.is in omega arith);
    main_vars = each_none _ entry.method.vars method.item.vars method.related.vars fitting.1.vars;
    class = class.class;
    class_is = ap (λ cs. slice_get cs method.item.owner) accepted.named.classes_are ∙ ap (slice_get (library_classes ++ accepted.named.own_classes)) owner_is
        ∙ got_right library_classes accepted.named.own_classes owner.place ∙ class.item;
    class_own = (let e : method.item.owner ≡ length library_classes + owner.place = owner_is in omega arith);
    class_vars = each_none _ owner.class.vars class.class.vars class.named.vars fitting.0;
    few_classes = classes_count;
    few_methods = methods_count;
  }

-- the program of an accepted text has the leaves
pub text-leaves : (p : Program) → IsOfText p → HasLeaves p
text-leaves p of = leaves of.text of.classes p of.accepted
