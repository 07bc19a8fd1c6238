-- The entry point of a canonical text stands in the method that has it.
use Rattle.std.proofs.Common.{◌≡◌, ℕ, ◌+◌, ◌<◌, ◌≤◌, ◌==◌, Bool, true, false, if◌then◌else◌, List, [], ◌∷◌, ◌++◌, length, map, flat_map, Option, None, option_to_list, Contains, refl, sym, ap, ◌∙◌, subst, arith}
use Rattle.std.specs.List.{AllByRecursion}
use Rattle.std.proofs.lemmas.Bool.{eqb-true, eq-eqb, ne_eqb}
use Rattle.std.proofs.lemmas.List.{map-append, length-map}
use Rattle.std.proofs.lemmas.List.Elements.{recursion_from_All, All-contains_itself}
use Rattle.il_model.specs.declared.class.ClassDef.{ClassDef}
use Rattle.il_model.specs.declared.method.Shape.TheVariants as shape
use Rattle.il_model.specs.declared.method.Body.{Body}
use Rattle.il_model.specs.declared.method.MethodDef.{MethodDef}
use Rattle.il_model.specs.declared.program.Program.{Program}
use Rattle.il_model.specs.declared.written.WrittenVar.{WrittenVar}
use Rattle.il_model.specs.declared.written.WrittenBody.{WrittenBody}
use Rattle.il_model.specs.declared.written.WrittenMethod.{WrittenMethod}
use Rattle.il_model.specs.declared.written.WrittenClass.{WrittenClass}
use Rattle.il_model.specs.Bounds.{methods_of, all_methods}
use Rattle.il_model.specs.Names.{Each, end, both, Perhaps, neither, each}
use Rattle.il_model.specs.LookUp.{Known, numbers_from, NamesClasses, no_classes, more_classes, Owned, owned_from, NamesOwned, has_entry, entries_from, MayBegin, EntriesFit}
use Rattle.il_print.proofs.PartReads.{follow_each}
use Rattle.il_print.proofs.ProgramReads.{all_joined}
use Rattle.il_print.proofs.AgainMembers.{all_apart}
use Rattle.il_print.proofs.AgainInstrs.{all_contained}
use Rattle.il_print.proofs.AgainBodies.{each_length}
use Rattle.il_print.proofs.AgainMethods.{StandsFor}
use Rattle.il_print.proofs.AgainClasses.{numbered, StandsAt}

abbrev pub StandsOwned : Program → Known → Owned → ℕ × MethodDef → Type 0
StandsOwned p known o x = StandsAt p known o.owner o.of_class o.written x

-- ---- lists

-- the relation holds at each place
abbrev pub Beside : {A X : Type 0} → (A → X → Type 0) → List A → List X → Type 0
Beside R [] [] = Unit {0}
Beside R [] (x ∷ xs) = ⊥
Beside R (a ∷ ls) [] = ⊥
Beside R (a ∷ ls) (x ∷ xs) = R a x × Beside R ls xs

abbrev head_or : ℕ → List ℕ → ℕ
head_or d [] = d
head_or d (x ∷ xs) = x

none_named : {A X : Type 0} (R : A → X → Type 0) (ls : List A) (xs : List X) → Each R ls xs → ls ≡ [] → xs ≡ []
none_named R ls xs end e = refl
none_named R ls xs (both a x bs ys is are) e = absurd cc

none_written : {A X : Type 0} (R : A → X → Type 0) (ls : List A) (xs : List X) → Each R ls xs → xs ≡ [] → ls ≡ []
none_written R ls xs end e = refl
none_written R ls xs (both a x bs ys is are) e = absurd cc

no_result : {A X : Type 0} (R : A → X → Type 0) (a : Option A) (x : Option X) → Perhaps R a x → a ≡ None → x ≡ None
no_result R a x neither e = refl
no_result R a x (each b y is) e = absurd cc

no_written : {A X : Type 0} (R : A → X → Type 0) (a : Option A) (x : Option X) → Perhaps R a x → x ≡ None → a ≡ None
no_written R a x neither e = refl
no_written R a x (each b y is) e = absurd cc

to_mapped : {A B : Type 0} (P : B → Type 0) (f : A → B) (xs : List A) → AllByRecursion (λ x. P (f x)) xs → AllByRecursion P (map f xs)
to_mapped P f [] all = tt
to_mapped P f (x ∷ xs) all = (all.0, to_mapped P f xs all.1)

of_mapped : {A B : Type 0} (P : B → Type 0) (f : A → B) (xs : List A) → AllByRecursion P (map f xs) → AllByRecursion (λ x. P (f x)) xs
of_mapped P f [] all = tt
of_mapped P f (x ∷ xs) all = (all.0, of_mapped P f xs all.1)

-- ---- the methods of a text

abbrev owned_method : ℕ → WrittenClass → WrittenMethod → Owned
owned_method number c m = record { owner = number; of_class = length c.vars; written = m }

same_methods : (number : ℕ) (c : WrittenClass) (ms : List WrittenMethod) → map (λ (o : Owned). o.written) (map (owned_method number c) ms) ≡ ms
same_methods number c [] = refl
same_methods number c (m ∷ ms) = ap (λ z. m ∷ z) (same_methods number c ms)

pub owned_methods : (number : ℕ) (cs : List WrittenClass) → map (λ (o : Owned). o.written) (owned_from number cs) ≡ all_methods cs
owned_methods number [] = refl
owned_methods number (c ∷ cs) =
    map-append (λ (o : Owned). o.written) (map (owned_method number c) (methods_of c.members)) (owned_from (number + 1) cs)
    ∙ ap (λ z. z ++ map (λ (o : Owned). o.written) (owned_from (number + 1) cs)) (same_methods number c (methods_of c.members))
    ∙ ap (λ z. methods_of c.members ++ z) (owned_methods (number + 1) cs)

-- for each method of these classes, how many variables its class has
abbrev pub counts_of : List ClassDef → List ℕ
counts_of cs = flat_map (λ c. map (λ (m : ℕ). length c.vars) c.methods) cs

same_counts : (number first : ℕ) (c : WrittenClass) (ms : List WrittenMethod) →
    map (λ (o : Owned). o.of_class) (map (owned_method number c) ms) ≡ map (λ (m : ℕ). length c.vars) (numbers_from first ms)
same_counts number first c [] = refl
same_counts number first c (m ∷ ms) = ap (λ z. length c.vars ∷ z) (same_counts number (first + 1) c ms)

pub owned_counts : (known : Known) (number first : ℕ) (ws : List WrittenClass) (cs : List ClassDef) → NamesClasses known first ws cs →
    map (λ (o : Owned). o.of_class) (owned_from number ws) ≡ counts_of cs
owned_counts known number first ws cs (no_classes f) = refl
owned_counts known number first ws cs (more_classes f w c us ds is are) =
    map-append (λ (o : Owned). o.of_class) (map (owned_method number w) (methods_of w.members)) (owned_from (number + 1) us)
    ∙ ap (λ z. z ++ map (λ (o : Owned). o.of_class) (owned_from (number + 1) us))
    (same_counts number f w (methods_of w.members) ∙ ap (λ n. map (λ (m : ℕ). n) (numbers_from f (methods_of w.members))) (each_length _ w.vars c.vars is.vars)
    ∙ ap (map (λ (m : ℕ). length c.vars)) (sym is.methods))
    ∙ ap (λ z. map (λ (m : ℕ). length c.vars) c.methods ++ z) (owned_counts known (number + 1) (f + length (methods_of w.members)) us ds are)

-- ---- the definition that has the entry point

-- a method that may have it, in a class with so many variables
pub record MayBeMain (of_class : ℕ) (m : MethodDef) : Type 0 where
  pub plain : of_class ≡ 0
  pub fixed : m.shape ≡ shape.Fixed
  pub vars : m.vars ≡ []
  pub params : m.params ≡ []
  pub void : m.result ≡ None

abbrev pub MayBeMainAt : ℕ → ℕ → ℕ × MethodDef → Type 0
MayBeMainAt main of_class x = x.0 ≡ main → MayBeMain of_class x.1

-- the entry point is written in this method, if it has a body and is the one
abbrev entry_at : ℕ → ℕ × MethodDef → List ℕ
entry_at main x = if x.0 == main then map (λ (b : Body). x.0) (option_to_list x.1.body) else []

abbrev entries_at : ℕ → List (ℕ × MethodDef) → List ℕ
entries_at main xs = flat_map (entry_at main) xs

-- one of the methods has it
pub record HasMain (main first : ℕ) (counts : List ℕ) (ds : List MethodDef) : Type 0 where
  pub each_may : Beside (MayBeMainAt main) counts (numbered first ds)
  pub entries : entries_at main (numbered first ds) ≡ main ∷ []

elsewhere : (main number : ℕ) (d : MethodDef) → ¬ (number ≡ main) → entry_at main (number, d) ≡ []
elsewhere main number d other = ap (λ b. if b then map (λ (x : Body). number) (option_to_list d.body) else []) (ne_eqb number main other)

none_behind : (main first : ℕ) (ds : List MethodDef) → main < first → entries_at main (numbered first ds) ≡ []
none_behind main first [] past = refl
none_behind main first (d ∷ ds) past =
    ap (λ z. z ++ entries_at main (numbered (first + 1) ds)) (elsewhere main first d (λ e. omega (arith, e, past))) ∙ none_behind main (first + 1) ds (omega (arith, past))

any_behind : (main first : ℕ) (os : List Owned) (ds : List MethodDef) → length os ≡ length ds → main < first →
    Beside (MayBeMainAt main) (map (λ (o : Owned). o.of_class) os) (numbered first ds)
any_behind main first [] [] same past = tt
any_behind main first [] (d ∷ ds) same past = absurd (omega (arith, same))
any_behind main first (o ∷ os) [] same past = absurd (omega (arith, same))
any_behind main first (o ∷ os) (d ∷ ds) same past = (λ e. absurd (omega (arith, e, past)), any_behind main (first + 1) os ds (omega (arith, same)) (omega (arith, past)))

later_by : (first main : ℕ) (rest tail l : List ℕ) → map (λ (at : ℕ). first) l ++ tail ≡ main ∷ rest → (tail ≡ main ∷ rest → first + 1 ≤ main) → first ≤ main
later_by first main rest tail [] e go = let r : first + 1 ≤ main = go e in omega (arith, r)
later_by first main rest tail (x ∷ xs) e go = let same : first ≡ main = ap (head_or 0) e in omega (arith, same)

entries_later : (first : ℕ) (ms : List WrittenMethod) (main : ℕ) (rest : List ℕ) → entries_from first ms ≡ main ∷ rest → first ≤ main
entries_later first [] main rest e = absurd cc
entries_later first (m ∷ ms) main rest e = later_by first main rest (entries_from (first + 1) ms) (has_entry m) e (λ f. entries_later (first + 1) ms main rest f)

-- the entry point of a written method stands where it may
abbrev pub Fits : Owned → Type 0
Fits o = (at : ℕ) → Contains (has_entry o.written) at → (o.of_class ≡ 0) × MayBegin o.written

has_body : {R : WrittenBody → Body → Type 0} (number x : ℕ) (xs : List ℕ) (written : Option WrittenBody) (b : Option Body) → Perhaps R written b →
    flat_map (λ (w : WrittenBody). option_to_list w.entry) (option_to_list written) ≡ x ∷ xs → map (λ (b : Body). number) (option_to_list b) ≡ number ∷ []
has_body number x xs written b neither e = absurd cc
has_body number x xs written b (each w c is) e = refl

main_here : (known : Known) (main first : ℕ) (o : Owned) (d : MethodDef) (os : List Owned) (ds : List MethodDef) → NamesOwned known o d → length os ≡ length ds → Fits o →
    (l : List ℕ) → has_entry o.written ≡ l → map (λ (at : ℕ). first) l ++ entries_from (first + 1) (map (λ (u : Owned). u.written) os) ≡ main ∷ [] →
    (entries_from (first + 1) (map (λ (u : Owned). u.written) os) ≡ main ∷ [] → HasMain main (first + 1) (map (λ (u : Owned). u.of_class) os) ds) →
    HasMain main first (map (λ (u : Owned). u.of_class) (o ∷ os)) (d ∷ ds)
main_here known main first o d os ds is same fits [] none e later =
    let r = later e in
    let past : first + 1 ≤ main = entries_later (first + 1) (map (λ (u : Owned). u.written) os) main [] e in
    record {
      each_may = (λ here. absurd (omega (arith, here, past)), r.each_may);
      entries = ap (λ z. z ++ entries_at main (numbered (first + 1) ds)) (elsewhere main first d (λ here. omega (arith, here, past))) ∙ r.entries;
    }
main_here known main first o d os ds is same fits (x ∷ xs) some e later =
    let here : first ≡ main = ap (head_or 0) e in
    let fit = fits x (subst (λ l. Contains l x) (sym some) (0, omega arith, refl)) in
    let own : entry_at main (first, d) ≡ first ∷ [] =
    ap (λ b. if b then map (λ (c : Body). first) (option_to_list d.body) else []) (eq-eqb first main here) ∙ has_body first x xs o.written.body d.body is.body some
    in
    record {
      each_may = (
        λ at. record {
          plain = fit.0;
          fixed = is.shape ∙ fit.1.fixed;
          vars = none_named _ o.written.vars d.vars is.vars fit.1.vars;
          params = none_named _ o.written.params d.params is.params fit.1.params;
          void = no_result _ o.written.result d.result is.gives fit.1.void;
        },
        any_behind main (first + 1) os ds same (omega (arith, here)),
      );
      entries = ap (λ z. z ++ entries_at main (numbered (first + 1) ds)) own ∙ ap (λ z. first ∷ z) (none_behind main (first + 1) ds (omega (arith, here))) ∙ ap (λ n. n ∷ []) here;
    }

-- the method of a text that has the entry point is the one that the program begins with
pub main_of : (known : Known) (main first : ℕ) (os : List Owned) (ds : List MethodDef) → Each (NamesOwned known) os ds → AllByRecursion Fits os →
    entries_from first (map (λ (o : Owned). o.written) os) ≡ main ∷ [] → HasMain main first (map (λ (o : Owned). o.of_class) os) ds
main_of known main first os ds end fits e = absurd cc
main_of known main first os ds (both o d us vs is are) fits e =
    main_here known main first o d us vs is (each_length _ us vs are) fits.0 (has_entry o.written) refl e (λ later. main_of known main (first + 1) us vs are fits.1 later)

-- ---- the entry point again

-- the numbers of these methods rise from this one on
abbrev pub AreFrom : ℕ → List (ℕ × MethodDef) → Type 0
AreFrom first [] = Unit {0}
AreFrom first (x ∷ xs) = (x.0 ≡ first) × AreFrom (first + 1) xs

pub numbered_from : (first : ℕ) (ds : List MethodDef) → AreFrom first (numbered first ds)
numbered_from first [] = tt
numbered_from first (d ∷ ds) = (refl, numbered_from (first + 1) ds)

pub entries_again : (p : Program) (known : Known) (first : ℕ) (os : List Owned) (xs : List (ℕ × MethodDef)) → Each (StandsOwned p known) os xs → AreFrom first xs →
    entries_from first (map (λ (o : Owned). o.written) os) ≡ entries_at p.main xs
entries_again p known first os xs end from = refl
entries_again p known first os xs (both o x us ys is are) from =
    ap (λ n. map (λ (at : ℕ). n) (has_entry o.written) ++ entries_from (first + 1) (map (λ (u : Owned). u.written) us)) (sym from.0)
    ∙ ap (λ z. z ++ entries_from (first + 1) (map (λ (u : Owned). u.written) us)) (is.entries x.0)
    ∙ ap (λ z. entry_at p.main x ++ z) (entries_again p known (first + 1) us ys are from.1)

fits_again : (known : Known) (owner of_class : ℕ) (b : Bool) (written : WrittenMethod) (m : MethodDef) → StandsFor known owner of_class b written m →
    (b ≡ true → MayBeMain of_class m) → (at : ℕ) → Contains (has_entry written) at → (of_class ≡ 0) × MayBegin written
fits_again known owner of_class false written m is may at has =
    absurd (omega (arith, has.1, ap length (is.entries 0), length-map {B = ℕ} (has_entry written) (λ (x : ℕ). 0)))
fits_again known owner of_class true written m is may at has =
    let main = may refl in (
      main.plain,
      record {
        fixed = sym is.names.shape ∙ main.fixed;
        vars = none_written _ written.vars m.vars is.names.vars main.vars;
        params = none_written _ written.params m.params is.names.params main.params;
        void = no_written _ written.result m.result is.names.gives main.void;
      },
    )

pub all_fit : (p : Program) (known : Known) (os : List Owned) (xs : List (ℕ × MethodDef)) → Each (StandsOwned p known) os xs →
    Beside (MayBeMainAt p.main) (map (λ (o : Owned). o.of_class) os) xs → AllByRecursion Fits os
all_fit p known os xs end may = tt
all_fit p known os xs (both o x us ys is are) may = (
  fits_again known o.owner o.of_class (x.0 == p.main) o.written x.1 is (λ e. may.0 (eqb-true x.0 p.main e)),
  all_fit p known us ys are may.1,
)

-- ---- class by class

class_entries : (number : ℕ) (c : WrittenClass) → EntriesFit c → (m : WrittenMethod) → Contains (methods_of c.members) m → Fits (owned_method number c m)
class_entries number c fits m inside at has = let e = fits.each m inside at has in (ap length e.0, e.1)

pub entries_owned : (number : ℕ) (cs : List WrittenClass) → AllByRecursion EntriesFit cs → AllByRecursion Fits (owned_from number cs)
entries_owned number [] fits = tt
entries_owned number (c ∷ cs) fits =
    let ms = methods_of c.members in
    all_joined Fits (map (owned_method number c) ms) (owned_from (number + 1) cs)
    (to_mapped Fits (owned_method number c) ms
    (follow_each (Contains ms) (λ m. Fits (owned_method number c m)) (class_entries number c fits.0) ms (recursion_from_All (Contains ms) ms (All-contains_itself ms))))
    (entries_owned (number + 1) cs fits.1)

no_vars : (vs : List WrittenVar) → length vs ≡ 0 → vs ≡ []
no_vars [] e = refl
no_vars (v ∷ vs) e = absurd (omega (arith, e))

pub owned_entries : (number : ℕ) (cs : List WrittenClass) → AllByRecursion Fits (owned_from number cs) → AllByRecursion EntriesFit cs
owned_entries number [] fits = tt
owned_entries number (c ∷ cs) fits =
    let ms = methods_of c.members in
    let parts = all_apart Fits (map (owned_method number c) ms) (owned_from (number + 1) cs) fits in (
      record {
        each = λ m inside at has.
            let e = all_contained (λ m. Fits (owned_method number c m)) ms m (of_mapped Fits (owned_method number c) ms parts.0) inside at has in
            (no_vars c.vars e.0, e.1);
      },
      owned_entries (number + 1) cs parts.1,
    )
