-- A text's classes stand for just the program that their look-up finds, and for no other.
use Rattle.std.proofs.Common.{◌≡◌, ℕ, ◌≤◌, false, List, [], ◌∷◌, ◌++◌, length, map, flat_map, Ok, refl, sym, ap, subst, ◌∙◌, bytes_eq, arith}
use Rattle.std.specs.List.{AllByRecursion, IsDistinct}
use Rattle.std.proofs.lemmas.List.{map-append}
use Rattle.il_model.specs.declared.class.ClassDef.{ClassDef}
use Rattle.il_model.specs.declared.method.MethodDef.{MethodDef}
use Rattle.il_model.specs.declared.program.Program.{Program}
use Rattle.il_model.specs.declared.written.WrittenClass.{WrittenClass}
use Rattle.il_model.specs.Spellings.{plain_name}
use Rattle.il_model.specs.Library.{library_classes, library_methods}
use Rattle.il_model.specs.Bounds.{all_methods}
use Rattle.il_model.specs.Names.{Each}
use Rattle.il_model.specs.LookUp.{known_of, NamesOwned, owned_from, NamesClasses, HasSameSignature, texts_of_method, entries_from, NamesProgram}
use Rattle.il_parse.specs.NamedClasses.{gathered_first, classes_named, first_entry, program_named}
use Rattle.il_parse.proofs.FreshLists.{Fresh, fresh_joined, fresh_split, fresh_distinct, distinct_fresh}
use Rattle.il_parse.proofs.LookSteps.{refused, given, looked, by_look}
use Rattle.il_parse.proofs.PlacesNamed.{first_distinct, all_used}
use Rattle.il_parse.proofs.SameSignatures.{alike_in_class, alike-Decides}
use Rattle.il_parse.proofs.OwnedMethods.{pairs_from_distinct, distinct_from_pairs}
use Rattle.il_parse.proofs.EntryPoints.{once_few, few_once}
use Rattle.il_parse.proofs.ClassNamed.{HasTextKind}
use Rattle.il_parse.proofs.ClassesNamed.{own_names, classes_sound, classes_complete}

-- the names of the library's classes, in plain spelling
abbrev library_names : List (List ℕ)
library_names = map plain_name (map (λ c. c.name) library_classes)

library_fresh : Fresh bytes_eq [] library_names
library_fresh = (refl, (refl, (refl, (refl, (refl, (refl, (refl, (refl, (refl, (refl, (refl, (refl, (refl, tt)))))))))))))

own_plain : (cs : List WrittenClass) → map plain_name (map (λ c. c.name.name) cs) ≡ own_names cs
own_plain [] = refl
own_plain (c ∷ cs) = ap (λ ns. plain_name c.name.name ∷ ns) (own_plain cs)

-- the names of a text's classes behind those of the library
all_plain : (cs : List WrittenClass) → map plain_name (known_of cs).names ≡ library_names ++ own_names cs
all_plain cs = map-append plain_name (map (λ c. c.name) library_classes) (map (λ c. c.name.name) cs) ∙ ap (λ ns. library_names ++ ns) (own_plain cs)

names_differ : (cs : List WrittenClass) → Fresh bytes_eq gathered_first.names (own_names cs) → IsDistinct bytes_eq (map plain_name (known_of cs).names)
names_differ cs f =
    subst (IsDistinct bytes_eq) (sym (all_plain cs))
    (fresh_distinct bytes_eq [] (library_names ++ own_names cs) (fresh_joined bytes_eq [] library_names (own_names cs) library_fresh f))

names_fresh : (cs : List WrittenClass) → IsDistinct bytes_eq (map plain_name (known_of cs).names) → Fresh bytes_eq gathered_first.names (own_names cs)
names_fresh cs d =
    (fresh_split bytes_eq [] library_names (own_names cs)
    (distinct_fresh bytes_eq (library_names ++ own_names cs) (subst (IsDistinct bytes_eq) (all_plain cs) d))).1

-- the only one of at most one number
only_entry : (numbers : List ℕ) (main : ℕ) → length numbers ≤ 1 → first_entry numbers ≡ Ok main → numbers ≡ main ∷ []
only_entry [] main few e = refused _ main e
only_entry (number ∷ []) main few e = ap (λ n. n ∷ []) (given number main e)
only_entry (number ∷ other ∷ more) main few e = absurd (omega (arith, few))

-- what is found is what the classes stand for
pub program_sound : (classes : List WrittenClass) (p : Program) → AllByRecursion HasTextKind classes → program_named classes ≡ Ok p → NamesProgram classes p
unfolding program_named
program_sound classes p of_text e =
    looked (classes_named (known_of classes) gathered_first classes) _ p e (λ g e0 f0.
    looked (first_entry (entries_from (length library_methods) (all_methods classes))) _ p f0 (λ main e1 f1.
    let r = classes_sound (known_of classes) gathered_first classes g of_text (all_used (flat_map texts_of_method (all_methods classes))) tt e0 in
    subst (NamesProgram classes)
    (given (record { classes = library_classes ++ g.classes; methods = library_methods ++ g.methods; literals = (known_of classes).literals; main = main }) p f1) (record {
      distinct = names_differ classes r.are.fresh;
      own_classes = g.classes;
      classes_are = refl;
      named_classes = subst (NamesClasses (known_of classes) (length library_methods) classes) (sym r.classes) r.are.named;
      own_methods = g.methods;
      methods_are = refl;
      named_methods = subst (Each (NamesOwned (known_of classes)) (owned_from (length library_classes) classes)) (sym r.methods) r.are.owned;
      signatures = pairs_from_distinct alike_in_class HasSameSignature alike-Decides g.methods
          (subst (IsDistinct alike_in_class) (sym r.methods) (fresh_distinct alike_in_class [] r.own_methods r.are.apart));
      literals = refl;
      begins = only_entry (entries_from (length library_methods) (all_methods classes)) main
          (omega (arith, once_few false (length library_methods) (all_methods classes) r.are.once)) e1;
    })))

-- what the classes stand for is found
pub program_complete : (classes : List WrittenClass) (p : Program) → NamesProgram classes p → program_named classes ≡ Ok p
unfolding program_named
program_complete classes p names =
    let entries : List ℕ = entries_from (length library_methods) (all_methods classes) in
    let r = classes_complete (known_of classes) gathered_first classes names.own_classes names.own_methods (first_distinct (flat_map texts_of_method (all_methods classes)))
    (record {
      named = names.named_classes;
      owned = names.named_methods;
      fresh = names_fresh classes names.distinct;
      apart = distinct_fresh alike_in_class names.own_methods (distinct_from_pairs alike_in_class HasSameSignature alike-Decides names.own_methods names.signatures);
      once = few_once false (length library_methods) (all_methods classes) (omega (arith, ap length names.begins));
    }) in
    by_look (classes_named (known_of classes) gathered_first classes) _ (Ok p) r.more r.is
    (by_look (first_entry entries) _ (Ok p) p.main (ap first_entry names.begins)
    (ap (λ (x : List ClassDef). Ok (record { classes = x; methods = library_methods ++ r.more.methods; literals = (known_of classes).literals; main = p.main }))
    (ap (λ x. library_classes ++ x) r.classes ∙ sym names.classes_are)
    ∙ ap (λ (x : List MethodDef). Ok (record { classes = p.classes; methods = x; literals = (known_of classes).literals; main = p.main }))
    (ap (λ x. library_methods ++ x) r.methods ∙ sym names.methods_are)
    ∙ ap (λ (x : List (List ℕ)). Ok (record { classes = p.classes; methods = p.methods; literals = x; main = p.main })) (sym names.literals)))

-- classes stand for one program at most
pub program_unique : (classes : List WrittenClass) (p q : Program) → NamesProgram classes p → NamesProgram classes q → p ≡ q
program_unique classes p q a b = given p q (sym (program_complete classes p a) ∙ program_complete classes q b)
