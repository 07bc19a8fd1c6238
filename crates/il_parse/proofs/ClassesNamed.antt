-- The classes of a text stand for just what their look-up finds, one behind the other.
use Rattle.std.proofs.Common.{◌≡◌, ℕ, ◌+◌, true, List, [], ◌∷◌, ◌++◌, length, map, flat_map, Ok, refl, sym, ap, subst, ◌∙◌, append_assoc, append-nil, bytes_eq, arith, length-append}
use Rattle.std.specs.List.{AllByRecursion, IsDistinct}
use Rattle.std.proofs.Math.Bool.{or_comm}
use Rattle.std.proofs.lemmas.Grind.{flat_map-append}
use Rattle.std.proofs.lemmas.List.Folds.{list_any-append}
use Rattle.il_model.specs.declared.class.ClassDef.{ClassDef}
use Rattle.il_model.specs.declared.method.MethodDef.{MethodDef}
use Rattle.il_model.specs.declared.written.WrittenMethod.{WrittenMethod}
use Rattle.il_model.specs.declared.written.WrittenClass.{WrittenClass}
use Rattle.il_model.specs.Lexemes.{is_among}
use Rattle.il_model.specs.Spellings.{plain_name}
use Rattle.il_model.specs.Library.{library_classes, library_methods}
use Rattle.il_model.specs.Bounds.{methods_of, all_methods}
use Rattle.il_model.specs.Names.{Each, end, both}
use Rattle.il_model.specs.LookUp.{Known, NamesMethod, NamesClass, NamesClasses, no_classes, more_classes, Owned, owned_from, NamesOwned, texts_of_method}
use Rattle.il_parse.specs.NamedClasses.{Gathered, class_named, classes_named}
use Rattle.il_parse.proofs.FreshLists.{Fresh, is_met, fresh-same, fresh_joined, fresh_split, all_split}
use Rattle.il_parse.proofs.PairedLists.{each_joined, each_split, each_none, each_mapped, each_unmapped, each_length}
use Rattle.il_parse.proofs.LookSteps.{given, looked, by_look}
use Rattle.il_parse.proofs.BodiesNamed.{AreLiterals}
use Rattle.il_parse.proofs.SameSignatures.{alike_in_class}
use Rattle.il_parse.proofs.OwnedMethods.{AreOwned, AreBefore, fresh_in_class, fresh_of_class}
use Rattle.il_parse.proofs.MethodsNamed.{EntriesOnce}
use Rattle.il_parse.proofs.EntryPoints.{once_joined, once_split}
use Rattle.il_parse.proofs.ClassNamed.{HasTextKind, next_class, next_method, ClassNamed, gathered_with, class_sound, class_complete}

-- the plain names of classes
abbrev pub own_names : List WrittenClass → List (List ℕ)
own_names cs = map (λ c. plain_name c.name.name) cs

-- what stands behind the front of a front
regrouped : {X : Type 0} (front mid back all : List X) → all ≡ (front ++ mid) ++ back → all ≡ front ++ (mid ++ back)
regrouped front mid back all e = e ∙ append_assoc front mid back

-- classes behind those found before, and their methods
pub record ClassesNamed (known : Known) (g : Gathered) (cs : List WrittenClass) (own : List ClassDef) (ds : List MethodDef) : Type 0 where
  pub named : NamesClasses known (length library_methods + length g.methods) cs own
  pub owned : Each (NamesOwned known) (owned_from (length library_classes + length g.classes) cs) ds
  pub fresh : Fresh bytes_eq g.names (own_names cs)
  pub apart : Fresh alike_in_class g.methods ds
  pub once : EntriesOnce g.begun (all_methods cs)

pub record ClassesFound (known : Known) (g : Gathered) (cs : List WrittenClass) (more : Gathered) : Type 0 where
  pub own : List ClassDef
  pub own_methods : List MethodDef
  pub classes : more.classes ≡ g.classes ++ own
  pub methods : more.methods ≡ g.methods ++ own_methods
  pub are : ClassesNamed known g cs own own_methods

owners : (known : Known) (owner of_class : ℕ) (ms : List WrittenMethod) (ds : List MethodDef) → Each (NamesMethod known owner of_class) ms ds → AreOwned owner ds
owners known owner of_class ms ds end = tt
owners known owner of_class ms ds (both m d us vs is are) = (is.owner_is, owners known owner of_class us vs are)

-- the methods of a class with this number come before the next class
before_next : (number : ℕ) (met ds : List MethodDef) → AreBefore number met → AreOwned number ds → AreBefore (number + 1) (met ++ ds)
before_next number [] [] before owned = tt
before_next number [] (d ∷ ds) before owned = (omega (arith, owned.0), before_next number [] ds before owned.1)
before_next number (a ∷ met) ds before owned = (omega (arith, before.0), before_next number met ds before.1 owned)

met-swap : (xs ys : List MethodDef) (d : MethodDef) → is_met alike_in_class (xs ++ ys) d ≡ is_met alike_in_class (ys ++ xs) d
met-swap xs ys d =
    list_any-append (λ a. alike_in_class a d) xs ys ∙ or_comm (is_met alike_in_class xs d) (is_met alike_in_class ys d) ∙ sym (list_any-append (λ a. alike_in_class a d) ys xs)

-- one class and those behind it
classes_joined : (known : Known) (g : Gathered) (c : WrittenClass) (def : ClassDef) (ds : List MethodDef) (cs : List WrittenClass) (own : List ClassDef) (es : List MethodDef) →
    AreBefore (next_class g) g.methods → ClassNamed known g c def ds → ClassesNamed known (gathered_with g c def ds) cs own es →
    ClassesNamed known g (c ∷ cs) (def ∷ own) (ds ++ es)
classes_joined known g c def ds cs own es before first rest =
    let R = NamesMethod known (next_class g) (length c.vars) in
    let owned = owners known (next_class g) (length c.vars) (methods_of c.members) ds first.named in
    let method_count : length library_methods + length (g.methods ++ ds) ≡ next_method g + length (methods_of c.members) =
    omega (arith, length-append g.methods ds, each_length R (methods_of c.members) ds first.named) in
    let class_count : length library_classes + length (g.classes ++ def ∷ []) ≡ next_class g + 1 = omega (arith, length-append g.classes (def ∷ [])) in
    let f : WrittenMethod → Owned = λ m. record { owner = next_class g; of_class = length c.vars; written = m } in
    record {
      named = more_classes (next_method g) c def cs own first.is (subst (λ n. NamesClasses known n cs own) method_count rest.named);
      owned = each_joined (NamesOwned known) (map f (methods_of c.members)) (owned_from (next_class g + 1) cs) ds es
          (each_mapped (NamesOwned known) f (methods_of c.members) ds first.named) (subst (λ n. Each (NamesOwned known) (owned_from n cs) es) class_count rest.owned);
      fresh = (first.fresh, rest.fresh);
      apart = fresh_joined alike_in_class g.methods ds es (fresh_in_class (next_class g) g.methods [] ds before tt owned first.apart)
          (fresh-same alike_in_class (g.methods ++ ds) (ds ++ g.methods) (met-swap g.methods ds) es rest.apart);
      once = once_joined g.begun (methods_of c.members) (all_methods cs) first.once rest.once;
    }

pub classes_sound : (known : Known) (g : Gathered) (cs : List WrittenClass) (more : Gathered) → AllByRecursion HasTextKind cs →
    AreLiterals known.literals (flat_map texts_of_method (all_methods cs)) → AreBefore (length library_classes + length g.classes) g.methods →
    classes_named known g cs ≡ Ok more → ClassesFound known g cs more
unfolding classes_named
classes_sound known g [] more of_text texts before e = record {
  own = [];
  own_methods = [];
  classes = ap (λ x. x.classes) (sym (given g more e)) ∙ sym (append-nil g.classes);
  methods = ap (λ x. x.methods) (sym (given g more e)) ∙ sym (append-nil g.methods);
  are = record { named = no_classes (next_method g); owned = end; fresh = tt; apart = tt; once = tt };
}
classes_sound known g (c ∷ cs) more of_text texts before e =
    let P : List ℕ → Type 0 = λ t. is_among known.literals t ≡ true in
    let t = all_split P (flat_map texts_of_method (methods_of c.members)) (flat_map texts_of_method (all_methods cs))
    (subst (AreLiterals known.literals) (flat_map-append texts_of_method (methods_of c.members) (all_methods cs)) texts) in
    looked (class_named known g c) _ more e (λ mid e0 e1.
    let r = class_sound known g c mid of_text.0 t.0 e0 in
    let owned = owners known (next_class g) (length c.vars) (methods_of c.members) r.own r.is.named in
    let class_count : next_class g + 1 ≡ length library_classes + length (g.classes ++ r.def ∷ []) = omega (arith, length-append g.classes (r.def ∷ [])) in
    let later = subst (λ n. AreBefore n (g.methods ++ r.own)) class_count (before_next (next_class g) g.methods r.own before owned) in
    let rest = classes_sound known (gathered_with g c r.def r.own) cs more of_text.1 t.1 later (ap (λ (x : Gathered). classes_named known x cs) r.gives ∙ e1) in
    record {
      own = r.def ∷ rest.own;
      own_methods = r.own ++ rest.own_methods;
      classes = regrouped g.classes (r.def ∷ []) rest.own more.classes rest.classes;
      methods = regrouped g.methods r.own rest.own_methods more.methods rest.methods;
      are = classes_joined known g c r.def r.own cs rest.own rest.own_methods before r.is rest.are;
    })

-- the first class and those behind it
record NamesFirst (known : Known) (first : ℕ) (c : WrittenClass) (cs : List WrittenClass) (own : List ClassDef) : Type 0 where
  def : ClassDef
  rest : List ClassDef
  split : own ≡ def ∷ rest
  is : NamesClass known first c def
  are : NamesClasses known (first + length (methods_of c.members)) cs rest

names_first : (known : Known) (first : ℕ) (c : WrittenClass) (cs : List WrittenClass) (own : List ClassDef) → NamesClasses known first (c ∷ cs) own → NamesFirst known first c cs own
names_first known first c cs own (more_classes first' c' def cs' rest is are) = record { def = def; rest = rest; split = refl; is = is; are = are }

names_none : (known : Known) (first : ℕ) (own : List ClassDef) → NamesClasses known first [] own → own ≡ []
names_none known first own (no_classes first') = refl

-- the first class apart from those behind it
record ClassesSplit (known : Known) (g : Gathered) (c : WrittenClass) (cs : List WrittenClass) (own : List ClassDef) (ds : List MethodDef) : Type 0 where
  def : ClassDef
  first_methods : List MethodDef
  later : List ClassDef
  later_methods : List MethodDef
  classes : own ≡ def ∷ later
  methods : ds ≡ first_methods ++ later_methods
  is : ClassNamed known g c def first_methods
  are : ClassesNamed known (gathered_with g c def first_methods) cs later later_methods

classes_split : (known : Known) (g : Gathered) (c : WrittenClass) (cs : List WrittenClass) (own : List ClassDef) (ds : List MethodDef) →
    ClassesNamed known g (c ∷ cs) own ds → ClassesSplit known g c cs own ds
classes_split known g c cs own ds names =
    let R = NamesMethod known (next_class g) (length c.vars) in
    let f : WrittenMethod → Owned = λ m. record { owner = next_class g; of_class = length c.vars; written = m } in
    let n = names_first known (next_method g) c cs own names.named in
    let s = each_split (NamesOwned known) (map f (methods_of c.members)) (owned_from (next_class g + 1) cs) ds names.owned in
    let named = each_unmapped (NamesOwned known) f (methods_of c.members) s.front s.first in
    let a = fresh_split alike_in_class g.methods s.front s.back (subst (Fresh alike_in_class g.methods) s.split names.apart) in
    let o = once_split g.begun (methods_of c.members) (all_methods cs) names.once in
    let method_count : next_method g + length (methods_of c.members) ≡ length library_methods + length (g.methods ++ s.front) =
    omega (arith, length-append g.methods s.front, each_length R (methods_of c.members) s.front named) in
    let class_count : next_class g + 1 ≡ length library_classes + length (g.classes ++ n.def ∷ []) = omega (arith, length-append g.classes (n.def ∷ [])) in
    record {
      def = n.def;
      first_methods = s.front;
      later = n.rest;
      later_methods = s.back;
      classes = n.split;
      methods = s.split;
      is = record {
        is = n.is;
        fresh = names.fresh.0;
        named = named;
        apart = fresh_of_class (next_class g) g.methods [] s.front tt (owners known (next_class g) (length c.vars) (methods_of c.members) s.front named) a.0;
        once = o.0;
      };
      are = record {
        named = subst (λ k. NamesClasses known k cs n.rest) method_count n.are;
        owned = subst (λ k. Each (NamesOwned known) (owned_from k cs) s.back) class_count s.second;
        fresh = names.fresh.1;
        apart = fresh-same alike_in_class (s.front ++ g.methods) (g.methods ++ s.front) (met-swap s.front g.methods) s.back a.1;
        once = o.1;
      };
    }

-- what is gathered of classes that are named
pub record ClassesGathered (known : Known) (g : Gathered) (cs : List WrittenClass) (own : List ClassDef) (ds : List MethodDef) : Type 0 where
  pub more : Gathered
  pub is : classes_named known g cs ≡ Ok more
  pub classes : more.classes ≡ g.classes ++ own
  pub methods : more.methods ≡ g.methods ++ ds

pub classes_complete : (known : Known) (g : Gathered) (cs : List WrittenClass) (own : List ClassDef) (ds : List MethodDef) → IsDistinct bytes_eq known.literals →
    ClassesNamed known g cs own ds → ClassesGathered known g cs own ds
unfolding classes_named
classes_complete known g [] own ds one names = record {
  more = g;
  is = refl;
  classes = sym (append-nil g.classes) ∙ ap (λ x. g.classes ++ x) (sym (names_none known (next_method g) own names.named));
  methods = sym (append-nil g.methods) ∙ ap (λ x. g.methods ++ x) (sym (each_none (NamesOwned known) ds names.owned));
}
classes_complete known g (c ∷ cs) own ds one names =
    let s = classes_split known g c cs own ds names in
    let rest = classes_complete known (gathered_with g c s.def s.first_methods) cs s.later s.later_methods one s.are in
    record {
      more = rest.more;
      is = by_look (class_named known g c) _ (Ok rest.more) (gathered_with g c s.def s.first_methods) (class_complete known g c s.def s.first_methods one s.is) rest.is;
      classes = regrouped g.classes (s.def ∷ []) s.later rest.more.classes rest.classes ∙ ap (λ x. g.classes ++ x) (sym s.classes);
      methods = regrouped g.methods s.first_methods s.later_methods rest.more.methods rest.methods ∙ ap (λ x. g.methods ++ x) (sym s.methods);
    }
