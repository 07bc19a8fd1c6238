-- Whole programs of a canonical text: the text is accepted as the program that was printed.
use Rattle.std.specs.List.{AllByRecursion, IsDistinct}
use Rattle.std.proofs.Common.{◌≡◌, ℕ, zero, suc, ◌+◌, ◌<◌, ◌≤◌, ◌^◌, false, List, [], ◌∷◌, ◌++◌, length, map, flat_map, drop, Some, refl, sym, ap, ◌∙◌, subst, append_assoc, length-append, arith, bytes_eq, slice_get, unwrap_or}
use Rattle.std.proofs.lemmas.List.{length-map}
use Rattle.std.proofs.lemmas.List.Elements.{recursion_from_All, All-from_recursion}
use Rattle.std.proofs.Math.Seq.{drop-append_seam}
use Rattle.il_text.specs.declared.token.Token.{Token}
use Rattle.il_text.specs.Tokens.{AreTokens}
use Rattle.il_model.specs.declared.class.ClassDef.{ClassDef}
use Rattle.il_model.specs.declared.method.MethodDef.{MethodDef}
use Rattle.il_model.specs.declared.program.Program.{Program}
use Rattle.il_model.specs.declared.written.WrittenType.{WrittenType}
use Rattle.il_model.specs.declared.written.WrittenMethod.{WrittenMethod}
use Rattle.il_model.specs.declared.written.WrittenClass.{WrittenClass}
use Rattle.il_model.specs.Lexemes.{Lexeme, lexemes_of, Many, none, more, is_among}
use Rattle.il_model.specs.Words.{quoted_words}
use Rattle.il_model.specs.Spellings.{plain_name}
use Rattle.il_model.specs.Classes.{IsClass, class, IsProgram}
use Rattle.il_model.specs.Library.{library_classes, library_methods}
use Rattle.il_model.specs.Names.{Each, end, both}
use Rattle.il_print.proofs.Keys.{key_of, class_keys, program_keys}
use Rattle.il_print.proofs.PartReads.{follow_each}
use Rattle.il_print.proofs.ProgramReads.{all_joined, own_names, all_names}
use Rattle.il_print.proofs.CanonicalTokens.{canonical_tokens}
use Rattle.il_print.proofs.AgainKeys.{keys_none, keys_split}
use Rattle.il_print.proofs.AgainScopes.{ArePlain}
use Rattle.il_model.specs.Bounds.{written_positions, methods_of, all_methods, types_of_class, IsSmallMethod}
use Rattle.il_model.specs.LookUp.{Known, NamesMethod, NamesClasses, no_classes, more_classes, Owned, owned_from, NamesOwned, texts_of_method, first_uses, EntriesFit, entries_from, known_of}
use Rattle.il_model.specs.Canonical.{canonical_text}
use Rattle.il_model.specs.Accepted.{IsProgramText, IsOfText}
use Rattle.il_print.proofs.AgainMembers.{AreGenuine, genuine_front, genuine_back, all_apart}
use Rattle.il_print.proofs.AgainBodies.{each_length}
use Rattle.il_print.proofs.AgainMethods.{IsFairKnown}
use Rattle.il_print.proofs.AgainClasses.{numbered, AreAt, StandsAt, class_again}
use Rattle.il_print.proofs.AgainLimits.{AreLow, class_alike, flat_same, texts_in_method, method_texts}
use Rattle.il_print.proofs.AgainEntries.{StandsOwned, owned_methods, owned_counts, MayBeMainAt, Beside, main_of, numbered_from, entries_again, all_fit, entries_owned, owned_entries}
use Rattle.il_print.proofs.AgainGenuine.{genuine_text}

-- ---- lists side by side

record EachApart {A X : Type 0} (R : A → X → Type 0) (ls bs : List A) (xs : List X) : Type 0 where
  front : List X
  back : List X
  split : xs ≡ front ++ back
  first : Each R ls front
  second : Each R bs back

-- the first of each, and those behind them
record EachFirst {A X : Type 0} (R : A → X → Type 0) (a : A) (ls : List A) (xs : List X) : Type 0 where
  first : X
  rest : List X
  split : xs ≡ first ∷ rest
  is : R a first
  are : Each R ls rest

each_first : {A X : Type 0} (R : A → X → Type 0) (a : A) (ls : List A) (xs : List X) → Each R (a ∷ ls) xs → EachFirst R a ls xs
each_first R a ls xs (both b x us ys is are) = record { first = x; rest = ys; split = refl; is = is; are = are }

each_apart : {A X : Type 0} (R : A → X → Type 0) (ls bs : List A) (xs : List X) → Each R (ls ++ bs) xs → EachApart R ls bs xs
each_apart R [] bs xs all = record { front = []; back = xs; split = refl; first = end; second = all }
each_apart R (a ∷ ls) bs xs all =
    let f = each_first R a (ls ++ bs) xs all in
    let r = each_apart R ls bs f.rest f.are in
    record {
      front = f.first ∷ r.front;
      back = r.back;
      split = f.split ∙ ap (λ z. f.first ∷ z) r.split;
      first = both a f.first ls r.front f.is r.first;
      second = r.second;
    }

each_joined : {A X : Type 0} (R : A → X → Type 0) (ls bs : List A) (xs ys : List X) → Each R ls xs → Each R bs ys → Each R (ls ++ bs) (xs ++ ys)
each_joined R ls bs xs ys end more_are = more_are
each_joined R ls bs xs ys (both a x us vs is are) more_are = both a x (us ++ bs) (vs ++ ys) is (each_joined R us bs vs ys are more_are)

none_beside : {A X : Type 0} (R : A → X → Type 0) (xs : List X) → Each R [] xs → xs ≡ []
none_beside R xs end = refl

each_of_mapped : {A B X : Type 0} (R : B → X → Type 0) (f : A → B) (ls : List A) (xs : List X) → Each R (map f ls) xs → Each (λ a x. R (f a) x) ls xs
each_of_mapped R f [] xs all = subst (Each (λ a x. R (f a) x) []) (sym (none_beside R xs all)) end
each_of_mapped R f (a ∷ ls) xs all =
    let r = each_first R (f a) (map f ls) xs all in
    subst (Each (λ a x. R (f a) x) (a ∷ ls)) (sym r.split) (both a r.first ls r.rest r.is (each_of_mapped R f ls r.rest r.are))

each_to_mapped : {A B X : Type 0} (R : B → X → Type 0) (f : A → B) (ls : List A) (xs : List X) → Each (λ a x. R (f a) x) ls xs → Each R (map f ls) xs
each_to_mapped R f ls xs end = end
each_to_mapped R f ls xs (both a x us ys is are) = both (f a) x (map f us) ys is (each_to_mapped R f us ys are)

-- without the numbers
each_second : {A : Type 0} (R : A → ℕ × MethodDef → Type 0) (S : A → MethodDef → Type 0) → ((a : A) (x : ℕ × MethodDef) → R a x → S a x.1) →
    (ls : List A) (xs : List (ℕ × MethodDef)) → Each R ls xs → Each S ls (map (λ (x : ℕ × MethodDef). x.1) xs)
each_second R S f ls xs end = end
each_second R S f ls xs (both a x us ys is are) = both a x.1 us (map (λ (y : ℕ × MethodDef). y.1) ys) (f a x is) (each_second R S f us ys are)

second_numbered : (first : ℕ) (ds : List MethodDef) → map (λ (x : ℕ × MethodDef). x.1) (numbered first ds) ≡ ds
second_numbered first [] = refl
second_numbered first (d ∷ ds) = ap (λ z. d ∷ z) (second_numbered (first + 1) ds)

each_unnumbered : {A : Type 0} (R : A → ℕ × MethodDef → Type 0) (S : A → MethodDef → Type 0) → ((a : A) (x : ℕ × MethodDef) → R a x → S a x.1) →
    (first : ℕ) (ls : List A) (ds : List MethodDef) → Each R ls (numbered first ds) → Each S ls ds
each_unnumbered R S f first ls ds all = subst (Each S ls) (second_numbered first ds) (each_second R S f ls (numbered first ds) all)

written_give : {A X : Type 0} (R : A → X → Type 0) (P : A → Type 0) → ((a : A) (x : X) → R a x → P a) → (ls : List A) (xs : List X) → Each R ls xs → AllByRecursion P ls
written_give R P f ls xs end = tt
written_give R P f ls xs (both a x us ys is are) = (f a x is, written_give R P f us ys are)

numbered_joined : (first : ℕ) (xs ys : List MethodDef) → numbered first (xs ++ ys) ≡ numbered first xs ++ numbered (first + length xs) ys
numbered_joined first [] ys = let same : first ≡ first + 0 = omega arith in ap (λ n. numbered n ys) same
numbered_joined first (x ∷ xs) ys =
    let same : first + 1 + length xs ≡ first + length (x ∷ xs) = omega arith in
    ap (λ z. (first, x) ∷ z) (numbered_joined (first + 1) xs ys ∙ ap (λ n. numbered (first + 1) xs ++ numbered n ys) same)

-- ---- classes one after another

-- written classes that the lexemes spell, within the limits, that stand for these and their methods
record ClassesAgain (p : Program) (known : Known) (number first : ℕ) (defs : List MethodDef) (ls : List Lexeme) (cs : List ClassDef) : Type 0 where
  classes : List WrittenClass
  are : Many IsClass ls classes
  names : NamesClasses known first classes cs
  methods : Each (StandsOwned p known) (owned_from number classes) (numbered first defs)
  low : AreLow (flat_map types_of_class classes)
  few : AllByRecursion (λ (c : WrittenClass). length c.vars ≤ 3) classes

record ManyFirst (ls : List Lexeme) (w : WrittenClass) (ws : List WrittenClass) : Type 0 where
  front : List Lexeme
  back : List Lexeme
  split : ls ≡ front ++ back
  is : IsClass front w
  are : Many IsClass back ws

many_first : (ls : List Lexeme) (w : WrittenClass) (ws : List WrittenClass) → Many IsClass ls (w ∷ ws) → ManyFirst ls w ws
many_first ls w ws (more us front back x xs split is are) = record { front = front; back = back; split = split; is = is; are = are }

module _ (p : Program) (known : Known) (fair : IsFairKnown known) (same : p.literals ≡ known.literals) where
  no_methods : (first : ℕ) (ds : List MethodDef) → Each (NamesOwned known) [] ds → Each (StandsOwned p known) [] (numbered first ds)
  no_methods first ds end = end

  classes_again : (number first : ℕ) (lexemes : List Lexeme) (ws : List WrittenClass) (cs : List ClassDef) (defs : List MethodDef) → Many IsClass lexemes ws →
      AreGenuine lexemes → NamesClasses known first ws cs → AllByRecursion (λ (c : WrittenClass). length c.vars ≤ 3) ws → AllByRecursion IsSmallMethod (all_methods ws) →
      AreLow (flat_map types_of_class ws) → Each (NamesOwned known) (owned_from number ws) defs → AreAt p (numbered first defs) → (ls : List Lexeme) →
      map key_of ls ≡ flat_map (class_keys p known.names) cs → ClassesAgain p known number first defs ls cs
  classes_again number first lexemes ws cs defs spelled genuine (no_classes f) few small low methods at ls e =
      record {
        classes = [];
        are = subst (λ z. Many IsClass z []) (sym (keys_none ls e)) none;
        names = no_classes f;
        methods = no_methods first defs methods;
        low = tt;
        few = tt;
      }
  classes_again number first lexemes ws cs defs spelled genuine (more_classes f w c us ds is are) few small low methods at ls e =
      let own = many_first lexemes w us spelled in
      let both_genuine = subst AreGenuine own.split genuine in
      let mine = methods_of w.members in
      let small_parts = all_apart IsSmallMethod mine (all_methods us) small in
      let low_parts = all_apart (λ t. written_positions t ≤ 256) (types_of_class w) (flat_map types_of_class us) low in
      let m = each_apart (NamesOwned known) (map (λ x. record { owner = number; of_class = length w.vars; written = x }) mine) (owned_from (number + 1) us) defs methods in
      let own_methods = each_of_mapped (NamesOwned known) (λ x. record { owner = number; of_class = length w.vars; written = x }) mine m.front m.first in
      let count : length mine ≡ length m.front = each_length _ mine m.front own_methods in
      let numbers : numbered f defs ≡ numbered f m.front ++ numbered (f + length mine) m.back =
      ap (numbered f) m.split ∙ numbered_joined f m.front m.back ∙ ap (λ n. numbered f m.front ++ numbered (f + n) m.back) (sym count)
      in
      let places = all_apart (λ (x : ℕ × MethodDef). slice_get p.methods x.0 ≡ Some x.1) (numbered f m.front) (numbered (f + length mine) m.back) (subst (AreAt p) numbers at) in
      let s = keys_split ls (class_keys p known.names c) (flat_map (class_keys p known.names) ds) e in
      let a = class_again p known fair same number f own.front w c m.front own.is (genuine_front own.front own.back both_genuine) is few.0 small_parts.0 own_methods places.0 s.front s.first in
      let r = classes_again (number + 1) (f + length mine) own.back us ds m.back own.are (genuine_back own.front own.back both_genuine) are few.1 small_parts.1 low_parts.1 m.second places.1
      s.back s.second
      in
      let vars : length a.class.vars ≡ length w.vars = each_length _ a.class.vars c.vars a.names.vars ∙ sym (each_length _ w.vars c.vars is.vars) in
      let named : Each (NamesMethod known number (length a.class.vars)) (methods_of a.class.members) m.front =
      each_unnumbered (StandsAt p known number (length a.class.vars)) (NamesMethod known number (length a.class.vars)) (λ x y stands. stands.names) f (methods_of a.class.members) m.front a.methods
      in
      let total : length mine ≡ length (methods_of a.class.members) = count ∙ sym (each_length _ (methods_of a.class.members) m.front named) in
      record {
        classes = a.class ∷ r.classes;
        are = more ls s.front s.back a.class r.classes s.split a.is r.are;
        names = more_classes f a.class c r.classes ds a.names (subst (λ n. NamesClasses known (f + n) r.classes ds) total r.names);
        methods = subst (Each (StandsOwned p known) (owned_from number (a.class ∷ r.classes))) (sym numbers)
            (each_joined (StandsOwned p known) (map (λ x. record { owner = number; of_class = length a.class.vars; written = x }) (methods_of a.class.members))
            (owned_from (number + 1) r.classes) (numbered f m.front) (numbered (f + length mine) m.back)
            (each_to_mapped (StandsOwned p known) (λ x. record { owner = number; of_class = length a.class.vars; written = x }) (methods_of a.class.members) (numbered f m.front) a.methods)
            r.methods);
        low = all_joined (λ t. written_positions t ≤ 256) (types_of_class a.class) (flat_map types_of_class r.classes)
            ((class_alike known number f a.class c (length a.class.vars) m.front a.names named).up ((class_alike known number f w c (length w.vars) m.front is own_methods).down low_parts.0)) r.low;
        few = (subst (λ n. n ≤ 3) (sym vars) few.0, r.few);
      }

-- ---- what a text declares

name_free : (ls : List Lexeme) (c : WrittenClass) → IsClass ls c → is_among quoted_words c.name.name ≡ false
name_free ls c (class ws kinds vs base implemented members word name left right k xs b is ms split x1 x2 x3 x4 x5 x6 x7 x8 x9) = x3.free

plain_names : (ls : List Lexeme) (cs : List WrittenClass) → IsProgram ls cs → AllByRecursion (λ name. is_among quoted_words name ≡ false) (map (λ (c : WrittenClass). c.name.name) cs)
plain_names ls cs none = tt
plain_names ls cs (more us front back c ds split is are) = (name_free front c is, plain_names back ds are)

got : {X : Type 0} (P : X → Type 0) (xs : List X) (n : ℕ) (x : X) → AllByRecursion P xs → slice_get xs n ≡ Some x → P x
got P [] n x all e = absurd cc
got P (y ∷ ys) zero x all e = subst P (ap (λ o. unwrap_or o y) e) all.0
got P (y ∷ ys) (suc n) x all e = got P ys n x all.1 e

low_counts : (cs : List WrittenClass) → AllByRecursion (λ (c : WrittenClass). length c.vars ≤ 3) cs → AllByRecursion (λ count. count < 2 ^ 64) (map (λ (c : WrittenClass). length c.vars) cs)
low_counts [] few = tt
low_counts (c ∷ cs) few = let here : length c.vars ≤ 3 = few.0 in (omega (arith, here), low_counts cs few.1)

low_library : AllByRecursion (λ count. count < 2 ^ 64) (map (λ (c : ClassDef). length c.vars) library_classes)
low_library =
    let low : 0 < 2 ^ 64 = omega arith in
    (low, (low, (low, (low, (low, (low, (low, (low, (low, (low, (low, (low, (low, tt)))))))))))))

fair_known : (ls : List Lexeme) (cs : List WrittenClass) → IsProgram ls cs → AllByRecursion (λ (c : WrittenClass). length c.vars ≤ 3) cs → IsFairKnown (known_of cs)
fair_known ls cs is few =
    let own = map (λ (c : WrittenClass). c.name.name) cs in
    let library = map (λ (c : ClassDef). c.name) (drop 2 library_classes) in
    let free : AllByRecursion (λ name. is_among quoted_words name ≡ false) library = (refl, (refl, (refl, (refl, (refl, (refl, (refl, (refl, (refl, (refl, (refl, tt))))))))))) in
    record {
      plain = record {
        rest = library ++ own;
        begins = refl;
        free = λ number name e. got (λ name. is_among quoted_words name ≡ false) (library ++ own) number name
            (all_joined (λ name. is_among quoted_words name ≡ false) library own free (plain_names ls cs is)) e;
      };
      arities = all_joined (λ count. count < 2 ^ 64) (map (λ (c : ClassDef). length c.vars) library_classes) (map (λ (c : WrittenClass). length c.vars) cs) low_library (low_counts cs few);
    }

own_arities : (known : Known) (first : ℕ) (written : List WrittenClass) (cs : List ClassDef) → NamesClasses known first written cs →
    map (λ (c : WrittenClass). length c.vars) written ≡ map (λ (c : ClassDef). length c.vars) cs
own_arities known first written cs (no_classes f) = refl
own_arities known first written cs (more_classes f w c us ds is are) =
    ap (λ n. n ∷ map (λ (c : WrittenClass). length c.vars) us) (each_length _ w.vars c.vars is.vars)
    ∙ ap (λ z. length c.vars ∷ z) (own_arities known (f + length (methods_of w.members)) us ds are)

flat_mapped : {A B Y : Type 0} (f : B → List Y) (g : A → B) (xs : List A) → flat_map f (map g xs) ≡ flat_map (λ x. f (g x)) xs
flat_mapped f g [] = refl
flat_mapped f g (x ∷ xs) = ap (λ z. f (g x) ++ z) (flat_mapped f g xs)

-- the literals that are written are those of the definitions
texts_are : (known : Known) (number : ℕ) (cs : List WrittenClass) (ds : List MethodDef) → Each (NamesOwned known) (owned_from number cs) ds →
    flat_map texts_of_method (all_methods cs) ≡ flat_map (texts_in_method known.literals) ds
texts_are known number cs ds named =
    ap (flat_map texts_of_method) (sym (owned_methods number cs)) ∙ flat_mapped texts_of_method (λ (o : Owned). o.written) (owned_from number cs)
    ∙ flat_same (NamesOwned known) (λ o. texts_of_method o.written) (texts_in_method known.literals) (λ o d is. method_texts known o.owner o.of_class o.written d is) (owned_from number cs) ds named

-- classes that stand for the same declare the same
same_known : (known : Known) (first number : ℕ) (some others : List WrittenClass) (cs : List ClassDef) (ds : List MethodDef) → NamesClasses known first some cs →
    NamesClasses known first others cs → Each (NamesOwned known) (owned_from number some) ds → Each (NamesOwned known) (owned_from number others) ds → known_of some ≡ known_of others
same_known known first number some others cs ds a b c d =
    let names : map (λ (w : WrittenClass). w.name.name) some ≡ map (λ (w : WrittenClass). w.name.name) others = sym (own_names known first some cs a) ∙ own_names known first others cs b in
    let arities : map (λ (w : WrittenClass). length w.vars) some ≡ map (λ (w : WrittenClass). length w.vars) others =
    own_arities known first some cs a ∙ sym (own_arities known first others cs b)
    in
    let texts : flat_map texts_of_method (all_methods some) ≡ flat_map texts_of_method (all_methods others) = texts_are known number some ds c ∙ sym (texts_are known number others ds d) in
    (λ i. record {
      names = map (λ (x : ClassDef). x.name) library_classes ++ names i;
      arities = map (λ (x : ClassDef). length x.vars) library_classes ++ arities i;
      literals = first_uses [] (texts i);
    })

-- ---- whole programs

got_seam : (front : List MethodDef) (d : MethodDef) (ds : List MethodDef) → slice_get (front ++ d ∷ ds) (length front) ≡ Some d
got_seam [] d ds = refl
got_seam (x ∷ front) d ds = got_seam front d ds

methods_at : (methods front own : List MethodDef) → methods ≡ front ++ own → (first : ℕ) → first ≡ length front →
    AllByRecursion (λ (x : ℕ × MethodDef). slice_get methods x.0 ≡ Some x.1) (numbered first own)
methods_at methods front [] e first at = tt
methods_at methods front (d ∷ ds) e first at = (
  ap (λ ms. slice_get ms first) e ∙ ap (λ n. slice_get (front ++ d ∷ ds) n) at ∙ got_seam front d ds,
  methods_at methods (front ++ d ∷ []) ds (e ∙ sym (append_assoc front (d ∷ []) ds)) (first + 1) (omega (arith, at, length-append front (d ∷ []))),
)

own_count : (known : Known) (first : ℕ) (ws : List WrittenClass) (cs : List ClassDef) → NamesClasses known first ws cs → length ws ≡ length cs
own_count known first ws cs (no_classes f) = refl
own_count known first ws cs (more_classes f w c us ds is are) = ap suc (own_count known (f + length (methods_of w.members)) us ds are)

methods_count : (R : Owned → MethodDef → Type 0) (number : ℕ) (cs : List WrittenClass) (ds : List MethodDef) → Each R (owned_from number cs) ds → length (all_methods cs) ≡ length ds
methods_count R number cs ds named =
    ap length (sym (owned_methods number cs)) ∙ length-map (owned_from number cs) (λ (o : Owned). o.written) ∙ each_length R (owned_from number cs) ds named

to_written : (P : WrittenMethod → Type 0) (os : List Owned) → AllByRecursion (λ (o : Owned). P o.written) os → AllByRecursion P (map (λ (o : Owned). o.written) os)
to_written P [] all = tt
to_written P (o ∷ os) all = (all.0, to_written P os all.1)

-- a text that has the keys of the program's canonical text is accepted as the program
pub text_again : (p : Program) → IsOfText p → (text : List ℕ) (tokens : List Token) → AreTokens text tokens → map key_of (lexemes_of text tokens) ≡ program_keys p →
    (classes : List WrittenClass) × IsProgramText text classes p
text_again p of text tokens are keys =
    let given = of.accepted.written in
    let n = of.accepted.named in
    let known = known_of of.classes in
    let few = recursion_from_All (λ (c : WrittenClass). length c.vars ≤ 3) of.classes given.small.vars in
    let fair = fair_known (lexemes_of of.text given.tokens) of.classes given.spelled few in
    let at : AreAt p (numbered (length library_methods) n.own_methods) = methods_at p.methods library_methods n.own_methods n.methods_are (length library_methods) refl in
    let own : drop (length library_classes) p.classes ≡ n.own_classes = ap (drop (length library_classes)) n.classes_are ∙ drop-append_seam library_classes n.own_classes in
    let own_keys : program_keys p ≡ flat_map (class_keys p known.names) n.own_classes =
    ap (λ names. flat_map (class_keys p names) (drop (length library_classes) p.classes)) (all_names of.classes p n) ∙ ap (flat_map (class_keys p known.names)) own
    in
    let r = classes_again p known fair n.literals (length library_classes) (length library_methods) (lexemes_of of.text given.tokens) of.classes n.own_classes n.own_methods given.spelled
    (genuine_text of.text given.tokens given.are_tokens) n.named_classes few (recursion_from_All IsSmallMethod (all_methods of.classes) given.small.methods)
    (recursion_from_All (λ t. written_positions t ≤ 256) (flat_map types_of_class of.classes) given.small.types) n.named_methods at (lexemes_of text tokens) (keys ∙ own_keys)
    in
    let named : Each (NamesOwned known) (owned_from (length library_classes) r.classes) n.own_methods =
    each_unnumbered (StandsOwned p known) (NamesOwned known) (λ o x stands. stands.names) (length library_methods) (owned_from (length library_classes) r.classes) n.own_methods r.methods
    in
    let same : known ≡ known_of r.classes =
    same_known known (length library_methods) (length library_classes) of.classes r.classes n.own_classes n.own_methods n.named_classes r.names n.named_methods named
    in
    let main = main_of known p.main (length library_methods) (owned_from (length library_classes) of.classes) n.own_methods n.named_methods
    (entries_owned (length library_classes) of.classes (recursion_from_All EntriesFit of.classes given.entries))
    (ap (entries_from (length library_methods)) (owned_methods (length library_classes) of.classes) ∙ n.begins)
    in
    let counts : map (λ (o : Owned). o.of_class) (owned_from (length library_classes) of.classes) ≡ map (λ (o : Owned). o.of_class) (owned_from (length library_classes) r.classes) =
    owned_counts known (length library_classes) (length library_methods) of.classes n.own_classes n.named_classes
    ∙ sym (owned_counts known (length library_classes) (length library_methods) r.classes n.own_classes r.names)
    in
    let fit = all_fit p known (owned_from (length library_classes) r.classes) (numbered (length library_methods) n.own_methods) r.methods
    (subst (λ ns. Beside (MayBeMainAt p.main) ns (numbered (length library_methods) n.own_methods)) counts main.each_may)
    in
    let small : AllByRecursion IsSmallMethod (all_methods r.classes) =
    subst (AllByRecursion IsSmallMethod) (owned_methods (length library_classes) r.classes)
    (to_written IsSmallMethod (owned_from (length library_classes) r.classes)
    (written_give (StandsOwned p known) (λ o. IsSmallMethod o.written) (λ o x stands. stands.small) (owned_from (length library_classes) r.classes)
    (numbered (length library_methods) n.own_methods) r.methods))
    in
    let class_total : length of.classes ≡ length r.classes =
    own_count known (length library_methods) of.classes n.own_classes n.named_classes ∙ sym (own_count known (length library_methods) r.classes n.own_classes r.names)
    in
    let method_total : length (all_methods of.classes) ≡ length (all_methods r.classes) =
    methods_count (NamesOwned known) (length library_classes) of.classes n.own_methods n.named_methods ∙ sym (methods_count (NamesOwned known) (length library_classes) r.classes n.own_methods named)
    in (
      r.classes,
      record {
        written = record {
          tokens = tokens;
          are_tokens = are;
          spelled = r.are;
          small = record {
            classes_count = omega (arith, given.small.classes_count, class_total);
            methods_count = omega (arith, given.small.methods_count, method_total);
            vars = All-from_recursion (λ (c : WrittenClass). length c.vars ≤ 3) r.classes r.few;
            methods = All-from_recursion IsSmallMethod (all_methods r.classes) small;
            types = All-from_recursion (λ t. written_positions t ≤ 256) (flat_map types_of_class r.classes) r.low;
          };
          entries = All-from_recursion EntriesFit r.classes (owned_entries (length library_classes) r.classes fit);
        };
        named = record {
          distinct = subst (λ (k : Known). IsDistinct bytes_eq (map plain_name k.names)) same n.distinct;
          own_classes = n.own_classes;
          classes_are = n.classes_are;
          named_classes = subst (λ k. NamesClasses k (length library_methods) r.classes n.own_classes) same r.names;
          own_methods = n.own_methods;
          methods_are = n.methods_are;
          named_methods = subst (λ k. Each (NamesOwned k) (owned_from (length library_classes) r.classes) n.own_methods) same named;
          signatures = n.signatures;
          literals = n.literals ∙ ap (λ (k : Known). k.literals) same;
          begins = ap (entries_from (length library_methods)) (sym (owned_methods (length library_classes) r.classes))
              ∙ entries_again p known (length library_methods) (owned_from (length library_classes) r.classes) (numbered (length library_methods) n.own_methods) r.methods
              (numbered_from (length library_methods) n.own_methods) ∙ main.entries;
        };
        short = of.accepted.short;
      },
    )

-- the canonical text of a program that some text gives is accepted as the program
pub canonical_again : (p : Program) → IsOfText p → (classes : List WrittenClass) × IsProgramText (canonical_text p) classes p
canonical_again p of =
    let found = canonical_tokens p of in
    text_again p of (canonical_text p) found.0 found.1 found.2
