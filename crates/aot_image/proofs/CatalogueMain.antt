-- The entry point of a program that the verifier accepts is admitted with its class.
use Rattle.std.proofs.Common.{◌≡◌, ℕ, zero, suc, ◌+◌, Bool, true, false, not, ◌||◌, List, [], ◌∷◌, ◌++◌, length, map, flat_map, slice_get, is_none, nat_lt, Option, Some, None, if◌then◌else◌, refl, sym, ap, ◌∙◌, subst, arith}
use Rattle.std.specs.Prelude.{option_to_list, Contains}
use Rattle.std.specs.List.{AllByRecursion, list_all}
use Rattle.std.proofs.lemmas.List.Elements.{recursion_from_All}
use Rattle.std.proofs.lemmas.List.{map-append}
use Rattle.type_tree.specs.declared.tree.Head.TheVariants as head
use Rattle.type_tree.specs.declared.tree.TExpr.{TExpr}
use Rattle.type_tree.specs.Tree.{node, class_var}
use Rattle.type_tree.specs.Substitution.{substituted}
use Rattle.type_tree.proofs.TreeLemmas.{holds_of_trees}
use Rattle.type_tree.proofs.SubstitutionLemmas.{substituted-node, substituted-class_var, substituted-method_var}
use Rattle.il_model.specs.declared.layout.Limit.{Limit}
use Rattle.il_model.specs.declared.layout.Limit.TheVariants as limit
use Rattle.il_model.specs.declared.method.Body.{Body}
use Rattle.il_model.specs.declared.method.PType.{PType}
use Rattle.il_model.specs.declared.method.MethodDef.{MethodDef}
use Rattle.il_model.specs.declared.program.Program.{Program}
use Rattle.il_model.specs.declared.written.WrittenMethod.{WrittenMethod}
use Rattle.il_model.specs.declared.written.WrittenClass.{WrittenClass}
use Rattle.il_model.specs.Names.{Perhaps, neither, each, NamesParam, NamesType}
use Rattle.il_model.specs.Bounds.{methods_of, all_methods}
use Rattle.il_model.specs.Library.{library_classes, library_methods}
use Rattle.il_model.specs.LookUp.{numbers_from, scope_of, Owned, owned_from, NamesOwned, has_entry, entries_from, MayBegin, EntriesFit, known_of}
use Rattle.il_model.specs.Accepted.{IsProgramText, IsOfText}
use Rattle.il_model.specs.Found.{method_at}
use Rattle.il_model.specs.Entries.{arguments_of}
use Rattle.il_model.specs.Bases.{own_of_class, own_of}
use Rattle.il_model.specs.Admission.{most_positions, limit_of}
use Rattle.il_model.specs.Methods.{worse, worst, types_of_places, types_of_body, types_of_method, types_named_by, method_positions, limit_at}
use Rattle.il_model.specs.ClassRules.{has_counts}
use Rattle.rgctx_template.specs.Catalogue.{HasMain}
use Rattle.cil_verify.specs.Places.{locals_of}
use Rattle.cil_verify.specs.WellTyped.{is_not_refused, IsWellTyped}
use Rattle.rgctx_fill.specs.Predefined.{HasLeaves}
use Rattle.rgctx_fill.proofs.QuietLemmas.{alone-positions, alone-arguments}
use Rattle.rgctx_fill.proofs.TextLeaves.{got_right, among, EachAt, each_at, each_none, text-leaves}
use Rattle.rgctx_fill.proofs.WholeLists.{join_all, item_holds, all_weaker, all_both, map_all, flat_all, both_of, all_of_test}
use Rattle.rgctx_fill.proofs.WholeTypes.{IsCounted}
use Rattle.aot_image.proofs.CatalogueMembers.{items_hold, locals_counted}

-- ---- the method with the entry point, in the text

record HasEntry (number : ℕ) (ms : List WrittenMethod) (n : ℕ) : Type 0 where
  place : ℕ
  is : n ≡ number + place
  method : WrittenMethod
  item : slice_get ms place ≡ Some method
  at : ℕ
  begins : Contains (has_entry method) at

first_same : (m n : ℕ) (xs ys : List ℕ) → m ∷ xs ≡ n ∷ ys → m ≡ n
first_same m n xs ys e = cc

entry_step : (number : ℕ) (m : WrittenMethod) (ms : List WrittenMethod) (n : ℕ) (rest ats : List ℕ) → has_entry m ≡ ats
    → map (λ at. number) ats ++ entries_from (number + 1) ms ≡ n ∷ rest
    → (entries_from (number + 1) ms ≡ n ∷ rest → HasEntry (number + 1) ms n) → HasEntry number (m ∷ ms) n
entry_step number m ms n rest [] is e later =
    let h = later e in
    record { place = suc h.place; is = (let i : n ≡ number + 1 + h.place = h.is in omega arith); method = h.method; item = h.item; at = h.at; begins = h.begins }
entry_step number m ms n rest (at ∷ ats) is e later = record {
  place = 0;
  is = (let i : number ≡ n = first_same number n (map (λ x. number) ats ++ entries_from (number + 1) ms) rest e in omega arith);
  method = m;
  item = refl;
  at = at;
  begins = subst (λ l. Contains l at) (sym is) (among (at ∷ ats) 0 at refl);
}

entry_of : (number : ℕ) (ms : List WrittenMethod) (n : ℕ) (rest : List ℕ) → entries_from number ms ≡ n ∷ rest → HasEntry number ms n
entry_of number [] n rest e = cc
entry_of number (m ∷ ms) n rest e = entry_step number m ms n rest (has_entry m) refl e (λ d. entry_of (number + 1) ms n rest d)

abbrev BeginsWell : WrittenMethod → Type 0
BeginsWell m = (at : ℕ) → Contains (has_entry m) at → MayBegin m

begins_well : (classes : List WrittenClass) → AllByRecursion EntriesFit classes → AllByRecursion BeginsWell (all_methods classes)
begins_well classes all =
    flat_all BeginsWell (λ (c : WrittenClass). methods_of c.members) classes
    (all_weaker EntriesFit (λ (c : WrittenClass). AllByRecursion BeginsWell (methods_of c.members))
    (λ c fits. items_hold BeginsWell (methods_of c.members) (λ k m is at begins. (fits.each m (among (methods_of c.members) k m is) at begins).1)) classes all)

record MappedAt {A B : Type 0} (f : A → B) (xs : List A) (k : ℕ) (y : B) : Type 0 where
  item : A
  is : slice_get xs k ≡ Some item
  same : f item ≡ y

mapped_at : {A B : Type 0} (f : A → B) (xs : List A) (k : ℕ) (y : B) → slice_get (map f xs) k ≡ Some y → MappedAt f xs k y
mapped_at f [] k y e = cc
mapped_at f (x ∷ xs) zero y e = record { item = x; is = refl; same = (let p : f x ≡ y = cc in p) }
mapped_at f (x ∷ xs) (suc k) y e = let h = mapped_at f xs k y e in record { item = h.item; is = h.is; same = h.same }

abbrev written_of : Owned → WrittenMethod
written_of o = o.written

own_written : (owner of_class : ℕ) (ms : List WrittenMethod) → map written_of (map (λ m. record { owner = owner; of_class = of_class; written = m }) ms) ≡ ms
own_written owner of_class [] = refl
own_written owner of_class (m ∷ ms) = ap (λ rest. m ∷ rest) (own_written owner of_class ms)

all_written : (owner : ℕ) (classes : List WrittenClass) → map written_of (owned_from owner classes) ≡ all_methods classes
all_written owner [] = refl
all_written owner (c ∷ cs) =
    map-append written_of (map (λ (m : WrittenMethod). record { owner = owner; of_class = length c.vars; written = m }) (methods_of c.members)) (owned_from (owner + 1) cs)
    ∙ ap (λ front. front ++ map written_of (owned_from (owner + 1) cs)) (own_written owner (length c.vars) (methods_of c.members))
    ∙ ap (λ back. methods_of c.members ++ back) (all_written (owner + 1) cs)

perhaps_none : {A B : Type 0} (R : A → B → Type 0) (x : Option A) (y : Option B) → Perhaps R x y → x ≡ None → y ≡ None
perhaps_none R x y neither e = refl
perhaps_none R x y (each a b is) e = cc

same_item : {A : Type 0} (o : Option A) (x y : A) → o ≡ Some x → o ≡ Some y → x ≡ y
same_item o x y e d = cc

-- the entry point takes nothing and gives nothing
record IsBare (m : MethodDef) : Type 0 where
  params : m.params ≡ []
  gives : m.result ≡ None

module _ (text : List ℕ) (classes : List WrittenClass) (p : Program) (accepted : IsProgramText text classes p) where
  entry : HasEntry (length library_methods) (all_methods classes) p.main
  entry = entry_of (length library_methods) (all_methods classes) p.main [] accepted.named.begins

  begins : MayBegin entry.method
  begins =
      item_holds BeginsWell (all_methods classes) entry.place entry.method (begins_well classes (recursion_from_All EntriesFit classes accepted.written.entries)) entry.item entry.at entry.begins

  owned : MappedAt written_of (owned_from (length library_classes) classes) entry.place entry.method
  owned = mapped_at written_of (owned_from (length library_classes) classes) entry.place entry.method (ap (λ ms. slice_get ms entry.place) (all_written (length library_classes) classes) ∙ entry.item)

  named : EachAt (NamesOwned (known_of classes)) accepted.named.own_methods entry.place owned.item
  named = each_at (NamesOwned (known_of classes)) (owned_from (length library_classes) classes) accepted.named.own_methods accepted.named.named_methods entry.place owned.item owned.is

  main_is : method_at p p.main ≡ Some named.item
  main_is =
      ap (λ ms. slice_get ms p.main) accepted.named.methods_are ∙ ap (slice_get (library_methods ++ accepted.named.own_methods)) entry.is
      ∙ got_right library_methods accepted.named.own_methods entry.place ∙ named.is

  bare : IsBare named.item
  bare = record {
    params = each_none (NamesParam (scope_of (known_of classes) owned.item.of_class (length owned.item.written.vars))) owned.item.written.params named.item.params named.related.params
        (ap (λ (w : WrittenMethod). w.params) owned.same ∙ begins.params);
    gives = perhaps_none (NamesType (scope_of (known_of classes) owned.item.of_class (length owned.item.written.vars))) owned.item.written.result named.item.result named.related.gives
        (ap (λ (w : WrittenMethod). w.result) owned.same ∙ begins.void);
  }

  main_bare : (m : MethodDef) → method_at p p.main ≡ Some m → IsBare m
  main_bare m is = subst IsBare (same_item (method_at p p.main) named.item m main_is is) bare

-- ---- limits

-- arguments that are not there change nothing
none_put : (t : TExpr) → substituted [] [] t ≡ t
none_put =
    holds_of_trees (λ t. substituted [] [] t ≡ t)
    (λ h parts all. substituted-node [] [] h parts ∙ ap (node h) (all_put parts all))
    (λ n. substituted-class_var [] [] n)
    (λ n. substituted-method_var [] [] n)
  where
    all_put : (ts : List TExpr) → AllByRecursion (λ t. substituted [] [] t ≡ t) ts → map (substituted [] []) ts ≡ ts
    all_put [] all = refl
    all_put (t ∷ ts) all = ap (λ x. x ∷ map (substituted [] []) ts) all.0 ∙ ap (λ xs. t ∷ xs) (all_put ts all.1)

none_is : (l : Option Limit) → is_none l ≡ true → l ≡ None
none_is None h = refl
none_is (Some l) h = cc

not_refused_none : (counts : Bool) (l : Option Limit) → (not counts || is_none l) ≡ true → counts ≡ true → l ≡ None
not_refused_none true l h e = none_is l h
not_refused_none false l h e = cc

module _ (program : Program) where
  abbrev IsFree : TExpr → Type 0
  IsFree t = limit_of program t ≡ None

  worst_none : (ts : List TExpr) → AllByRecursion IsFree ts → worst (map (limit_of program) ts) ≡ None
  worst_none [] all = refl
  worst_none (t ∷ ts) all = ap (λ l. worse l (worst (map (limit_of program) ts))) all.0 ∙ worst_none ts all.1

  free_if : (b : Bool) (rest : Option Limit) → b ≡ false → rest ≡ None → (if b then Some limit.Positions else rest) ≡ None
  free_if true rest e none = cc
  free_if false rest e none = none

  locals_free : (o : Option Body) → AllByRecursion IsFree (types_of_places (locals_of o)) → AllByRecursion IsFree (flat_map types_of_body (option_to_list o))
  locals_free None all = tt
  locals_free (Some b) all = join_all IsFree (types_of_places b.locals) [] all tt

  method_free : (m : MethodDef) → IsBare m → AllByRecursion IsFree (types_of_places (locals_of m.body)) → AllByRecursion IsFree (types_of_method m)
  method_free m bare all =
      join_all IsFree (types_of_places m.params ++ option_to_list m.result) (flat_map types_of_body (option_to_list m.body))
      (join_all IsFree (types_of_places m.params) (option_to_list m.result)
      (subst (λ (ps : List PType). AllByRecursion IsFree (types_of_places ps)) (sym bare.params) tt)
      (subst (λ r. AllByRecursion IsFree (option_to_list r)) (sym bare.gives) tt))
      (locals_free m.body all)

  module _ (h : ℕ) (m : MethodDef) where
    limit_none : limit_of program (node (head.Class h) []) ≡ None → AllByRecursion IsFree (types_of_method m) → limit_at program (node (head.Class h) []) [] (Some m) ≡ None
    limit_none own all =
        let small : nat_lt most_positions (method_positions (node (head.Class h) []) []) ≡ false = ap (λ n. nat_lt most_positions (1 + (0 + n))) (alone-positions (head.Class h)) in
        let put : AllByRecursion IsFree (map (λ t. substituted (arguments_of (node (head.Class h) [])) [] t) (types_of_method m ++ [])) =
        map_all IsFree (λ t. substituted (arguments_of (node (head.Class h) [])) [] t) (types_of_method m ++ [])
        (all_weaker IsFree (λ t. IsFree (substituted (arguments_of (node (head.Class h) [])) [] t))
        (λ t free. ap (limit_of program) (ap (λ args. substituted args [] t) (alone-arguments (head.Class h)) ∙ none_put t) ∙ free) (types_of_method m ++ []) (join_all IsFree (types_of_method m) [] all tt)) in
        free_if (nat_lt most_positions (method_positions (node (head.Class h) []) [])) (worst (map (limit_of program) (types_named_by (node (head.Class h) []) [] (Some m)))) small
        (worst_none (types_named_by (node (head.Class h) []) [] (Some m)) (own, put))

  module _ (typed : IsWellTyped program) (text : IsOfText program) where
    leaves : HasLeaves program
    leaves = text-leaves program text

    main_bare_is : IsBare leaves.main
    main_bare_is = main_bare text.text text.classes program text.accepted leaves.main leaves.main_is

    own_is : own_of program leaves.main.owner ≡ node (head.Class leaves.main.owner) []
    own_is =
        ap (own_of_class leaves.main.owner) leaves.class_is
        ∙ ap (λ vars. node (head.Class leaves.main.owner) (map class_var (numbers_from 0 vars))) leaves.class_vars

    judged_main : (is_none (limit_of program (own_of program leaves.main.owner)) ≡ true) × (list_all (is_not_refused program) (types_of_places (locals_of leaves.main.body)) ≡ true)
    judged_main =
        both_of (is_none (limit_of program (own_of program leaves.main.owner))) (list_all (is_not_refused program) (types_of_places (locals_of leaves.main.body)))
        ((typed.methods.each program.main leaves.main leaves.main_is).head.0.main refl)

    all_locals_free : AllByRecursion IsFree (types_of_places (locals_of leaves.main.body))
    all_locals_free =
        all_both (λ (t : TExpr). is_not_refused program t ≡ true) (IsCounted program) IsFree (λ t h counts. not_refused_none (has_counts program t) (limit_of program t) h counts) (types_of_places (locals_of leaves.main.body))
        (all_of_test (is_not_refused program) (types_of_places (locals_of leaves.main.body)) judged_main.1) (locals_counted program typed program.main leaves.main leaves.main_is)

    main_limit : limit_at program (own_of program leaves.main.owner) [] (Some leaves.main) ≡ None
    main_limit =
        subst (λ c. limit_at program c [] (Some leaves.main) ≡ None) (sym own_is)
        (limit_none leaves.main.owner leaves.main (ap (limit_of program) (sym own_is) ∙ none_is (limit_of program (own_of program leaves.main.owner)) judged_main.0)
        (method_free leaves.main main_bare_is all_locals_free))

    -- the entry point and its class are admitted
    pub has-main : HasMain program
    has-main = record { main = leaves.main; is = leaves.main_is; class = judged_main.0; method = ap is_none main_limit }
