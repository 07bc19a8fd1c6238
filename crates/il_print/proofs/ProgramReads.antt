-- Classes and whole programs with the keys that they bring.
use Rattle.std.proofs.Common.{◌≡◌, ℕ, true, ◌+◌, ◌<◌, ◌≤◌, List, [], ◌∷◌, ◌++◌, length, map, flat_map, drop, codes, refl, sym, ap, ◌∙◌, subst, append_assoc, append-nil, length-append, arith}
use Rattle.std.specs.List.{AllByRecursion, list_all}
use Rattle.std.proofs.lemmas.Bool.{and_parts}
use Rattle.std.proofs.lemmas.List.{map-append}
use Rattle.std.proofs.Math.Seq.{drop-append_seam}
use Rattle.il_text.specs.declared.token.TokenKind.TheVariants as token
use Rattle.il_model.specs.declared.class.ClassDef.{ClassDef}
use Rattle.il_model.specs.declared.method.MethodDef.{MethodDef}
use Rattle.il_model.specs.declared.program.Program.{Program}
use Rattle.il_model.specs.declared.written.WrittenMethod.{WrittenMethod}
use Rattle.il_model.specs.declared.written.WrittenClass.{WrittenClass}
use Rattle.il_model.specs.Bounds.{fields_of, methods_of}
use Rattle.il_model.specs.Library.{library_classes, library_methods}
use Rattle.il_model.specs.LookUp.{Known, scope_of, NamesClass, NamesClasses, no_classes, more_classes, Owned, owned_from, known_of, NamesProgram}
use Rattle.il_model.specs.Canonical.{Word, line, vars_words, field_line, method_lines, kind_text, base_words, interfaces_words, class_lines, program_lines, canonical_text}
use Rattle.il_print.specs.Parts.{class_head}
use Rattle.il_print.proofs.Keys.{quoted, all_quoted, name_key, vars_keys, field_keys, methods_keys, base_keys, interfaces_keys, class_head_keys, class_keys, program_keys}
use Rattle.il_print.proofs.TokenReads.{Has, nothing_has, nothing_reads, is_short_word, short_word}
use Rattle.il_print.proofs.WordReads.{Words, Starts, Lines, words_then, token_word, quoted_word, quoted_words, quoted_starts, one_line, lines_then, flat_lines}
use Rattle.il_print.proofs.TypeReads.{AreNames, IsReadable, types_read}
use Rattle.il_print.proofs.PartReads.{each_gives_with, vars_read}
use Rattle.il_print.proofs.ClassReads.{field_read, IsMethodRead, method_read, methods_read, numbers_later, kind_quotable, base_read, interfaces_read}
use Rattle.il_print.proofs.Spellable.{IsNameWord, IsSpellableField, IsSpellableMethod, IsSpellableClass, AreSpellable}

-- where types are read by these names, whatever variables there are
abbrev pub IsKnown : Known → Type 0
IsKnown known = (of_class of_method : ℕ) → IsReadable (scope_of known of_class of_method)

-- ---- one class

class_head_read : (known : Known) (first : ℕ) (written : WrittenClass) (c : ClassDef) → IsKnown known → NamesClass known first written c →
    IsSpellableClass written → Starts (class_head known.names c) (class_head_keys known.names c ++ quoted (codes "{") ∷ [])
class_head_read known first written c r named spellable =
    let s = scope_of known (length written.vars) 0 in
    let readable = r (length written.vars) 0 in
    let k = all_quoted (kind_text c.kind) in
    let n = name_key c.name ∷ vars_keys s.names c.vars in
    let kind_and_name : Words (kind_text c.kind ++ c.name ∷ vars_words s.names c.vars) (k ++ n) =
    words_then (kind_text c.kind) (c.name ∷ vars_words s.names c.vars) k n (quoted_words (kind_text c.kind) (kind_quotable c.kind))
    (token_word token.Word c.name (vars_words s.names c.vars) (vars_keys s.names c.vars) (subst IsNameWord (sym named.name) spellable.name)
    (vars_read s readable written.vars c.vars named.vars spellable.vars)) in
    let with_base : Words ((kind_text c.kind ++ c.name ∷ vars_words s.names c.vars) ++ base_words s.names c.base) ((k ++ n) ++ base_keys s.names c.base) =
    words_then (kind_text c.kind ++ c.name ∷ vars_words s.names c.vars) (base_words s.names c.base) (k ++ n) (base_keys s.names c.base) kind_and_name
    (base_read s written.kind written.base c.base readable named.base) in
    let whole : Words (((kind_text c.kind ++ c.name ∷ vars_words s.names c.vars) ++ base_words s.names c.base) ++ interfaces_words s.names c.interfaces)
    (((k ++ n) ++ base_keys s.names c.base) ++ interfaces_keys s.names c.interfaces) =
    words_then ((kind_text c.kind ++ c.name ∷ vars_words s.names c.vars) ++ base_words s.names c.base) (interfaces_words s.names c.interfaces)
    ((k ++ n) ++ base_keys s.names c.base) (interfaces_keys s.names c.interfaces) with_base
    (interfaces_read s c.interfaces readable (types_read s written.interfaces c.interfaces readable named.interfaces)) in
    quoted_starts (codes ".class")
    ((((kind_text c.kind ++ c.name ∷ vars_words s.names c.vars) ++ base_words s.names c.base) ++ interfaces_words s.names c.interfaces) ++ codes "{" ∷ [])
    ((((k ++ n) ++ base_keys s.names c.base) ++ interfaces_keys s.names c.interfaces) ++ quoted (codes "{") ∷ []) refl
    (words_then (((kind_text c.kind ++ c.name ∷ vars_words s.names c.vars) ++ base_words s.names c.base) ++ interfaces_words s.names c.interfaces) (codes "{" ∷ [])
    (((k ++ n) ++ base_keys s.names c.base) ++ interfaces_keys s.names c.interfaces) (quoted (codes "{") ∷ []) whole
    (quoted_word (codes "{") [] [] refl nothing_reads))

-- the class brings its keys, where its methods stand behind those of the library
abbrev IsClassRead : Program → List Word → ClassDef → Type 0
IsClassRead p names c = Lines (class_lines p names c) (class_keys p names c)

class_read : (p : Program) (known : Known) (first : ℕ) (written : WrittenClass) (c : ClassDef) (own : List MethodDef) → IsKnown known →
    p.methods ≡ library_methods ++ own → AllByRecursion (IsMethodRead known.names p.literals) own → length library_methods ≤ first →
    NamesClass known first written c → IsSpellableClass written → IsClassRead p known.names c
class_read p known first written c own r are read later named spellable =
    let s = scope_of known (length written.vars) 0 in
    let head = class_head s.names c in
    let head_keys = class_head_keys s.names c ++ quoted (codes "{") ∷ [] in
    let fields = flat_map (field_line s.names) c.fields in
    let fields_keys = flat_map (field_keys s.names) c.fields in
    let methods = flat_map (method_lines p s.names) c.methods in
    let methods_keys_are = methods_keys p s.names c.methods in
    let fields_read : Lines fields fields_keys =
    flat_lines (field_line s.names) (field_keys s.names) c.fields
    (each_gives_with IsSpellableField (λ f. Lines (field_line s.names f) (field_keys s.names f)) (field_read s (r (length written.vars) 0))
    (fields_of written.members) c.fields named.fields spellable.fields) in
    let numbers : AllByRecursion (λ number. length library_methods ≤ number) c.methods =
    subst (AllByRecursion (λ number. length library_methods ≤ number)) (sym named.methods) (numbers_later (length library_methods) first (methods_of written.members) later) in
    let with_fields : Lines (line 0 head ++ fields) (head_keys ++ fields_keys) =
    lines_then (line 0 head) fields head_keys fields_keys (one_line 0 head head_keys (class_head_read known first written c r named spellable)) fields_read in
    let with_methods : Lines ((line 0 head ++ fields) ++ methods) ((head_keys ++ fields_keys) ++ methods_keys_are) =
    lines_then (line 0 head ++ fields) methods (head_keys ++ fields_keys) methods_keys_are with_fields
    (methods_read p s.names library_methods own c.methods are read numbers) in
    subst (λ ks. Lines (class_lines p s.names c) ((ks ++ methods_keys_are) ++ quoted (codes "}") ∷ []))
    (append_assoc (class_head_keys s.names c) (quoted (codes "{") ∷ []) fields_keys)
    (lines_then ((line 0 head ++ fields) ++ methods) (line 0 (codes "}" ∷ [])) ((head_keys ++ fields_keys) ++ methods_keys_are) (quoted (codes "}") ∷ []) with_methods
    (one_line 0 (codes "}" ∷ []) (quoted (codes "}") ∷ []) (quoted_starts (codes "}") [] [] refl nothing_reads)))

classes_read : (p : Program) (known : Known) (first : ℕ) (written : List WrittenClass) (cs : List ClassDef) (own : List MethodDef) → IsKnown known →
    p.methods ≡ library_methods ++ own → AllByRecursion (IsMethodRead known.names p.literals) own → length library_methods ≤ first →
    NamesClasses known first written cs → AreSpellable written → AllByRecursion (IsClassRead p known.names) cs
classes_read p known first written cs own r are read later (no_classes f) spellable = tt
classes_read p known first written cs own r are read later (more_classes f w c ws more named rest) spellable = (
  class_read p known first w c own r are read later named spellable.0,
  classes_read p known (first + length (methods_of w.members)) ws more own r are read (omega (arith, later)) rest spellable.1,
)

-- ---- the methods of all classes

owned_spellable : (number : ℕ) (written : List WrittenClass) → AreSpellable written → AllByRecursion (λ o. IsSpellableMethod o.written) (owned_from number written)
owned_spellable number [] spellable = tt
owned_spellable number (c ∷ cs) spellable = of_class number (length c.vars) (methods_of c.members) (owned_from (number + 1) cs) spellable.0.methods (owned_spellable (number + 1) cs spellable.1)
  where
    of_class : (number vars : ℕ) (ms : List WrittenMethod) (rest : List Owned) → AllByRecursion IsSpellableMethod ms →
        AllByRecursion (λ o. IsSpellableMethod o.written) rest →
        AllByRecursion (λ o. IsSpellableMethod o.written) (map (λ m. record { owner = number; of_class = vars; written = m }) ms ++ rest)
    of_class number vars [] rest all more = more
    of_class number vars (m ∷ ms) rest all more = (all.0, of_class number vars ms rest all.1 more)

-- ---- names

pub all_joined : {X : Type 0} (P : X → Type 0) (xs ys : List X) → AllByRecursion P xs → AllByRecursion P ys → AllByRecursion P (xs ++ ys)
all_joined P [] ys all more = more
all_joined P (x ∷ xs) ys all more = (all.0, all_joined P xs ys all.1 more)

short_names : (names : List Word) → list_all is_short_word names ≡ true → AreNames names
short_names [] e = tt
short_names (name ∷ names) e =
    let parts = and_parts (is_short_word name) (list_all is_short_word names) e in
    (short_word name parts.0, short_names names parts.1)

class_names : (written : List WrittenClass) → AreSpellable written → AreNames (map (λ c. c.name.name) written)
class_names [] spellable = tt
class_names (c ∷ cs) spellable = (spellable.0.name, class_names cs spellable.1)

more_names : (xs ys : List Word) → 1 < length xs → 1 < length (xs ++ ys)
more_names xs ys some = omega (arith, some, length-append xs ys)

library_names : 1 < length (map (λ (c : ClassDef). c.name) library_classes)
library_names =
    let size : length (map (λ (c : ClassDef). c.name) library_classes) ≡ 13 = refl in
    omega (arith, size)

names_known : (written : List WrittenClass) → AreSpellable written → IsKnown (known_of written)
names_known written spellable of_class of_method =
    record {
      names = all_joined IsNameWord (map (λ c. c.name) library_classes) (map (λ c. c.name.name) written)
          (short_names (map (λ c. c.name) library_classes) refl) (class_names written spellable);
      some = more_names (map (λ c. c.name) library_classes) (map (λ c. c.name.name) written) library_names;
    }

-- the classes of a text have the names that are written
pub own_names : (known : Known) (first : ℕ) (written : List WrittenClass) (cs : List ClassDef) → NamesClasses known first written cs →
    map (λ c. c.name) cs ≡ map (λ c. c.name.name) written
own_names known first written cs (no_classes f) = refl
own_names known first written cs (more_classes f w c ws more named rest) =
    (λ i. named.name i ∷ own_names known (first + length (methods_of w.members)) ws more rest i)

pub all_names : (written : List WrittenClass) (p : Program) → (n : NamesProgram written p) → map (λ c. c.name) p.classes ≡ (known_of written).names
all_names written p n =
    ap (map (λ c. c.name)) n.classes_are ∙ map-append (λ c. c.name) library_classes n.own_classes
    ∙ ap (λ names. map (λ c. c.name) library_classes ++ names) (own_names (known_of written) (length library_methods) written n.own_classes n.named_classes)

-- ---- whole programs

program_read : (written : List WrittenClass) (p : Program) → NamesProgram written p → AreSpellable written → Lines (program_lines p) (program_keys p)
program_read written p n spellable =
    let known = known_of written in
    let r = names_known written spellable in
    let methods : AllByRecursion (IsMethodRead known.names known.literals) n.own_methods =
    each_gives_with (λ o. IsSpellableMethod o.written) (IsMethodRead known.names known.literals)
    (λ o m named fine. method_read known o.owner o.of_class o.written m (r o.of_class (length o.written.vars)) named fine)
    (owned_from (length library_classes) written) n.own_methods n.named_methods (owned_spellable (length library_classes) written spellable) in
    let methods_of_program : AllByRecursion (IsMethodRead known.names p.literals) n.own_methods =
    subst (λ literals. AllByRecursion (IsMethodRead known.names literals) n.own_methods) (sym n.literals) methods in
    let classes : AllByRecursion (IsClassRead p known.names) n.own_classes =
    classes_read p known (length library_methods) written n.own_classes n.own_methods r n.methods_are methods_of_program (omega arith) n.named_classes spellable in
    let own : drop (length library_classes) p.classes ≡ n.own_classes = ap (drop (length library_classes)) n.classes_are ∙ drop-append_seam library_classes n.own_classes in
    subst (λ names. Lines (flat_map (class_lines p names) (drop (length library_classes) p.classes)) (flat_map (class_keys p names) (drop (length library_classes) p.classes)))
    (sym (all_names written p n))
    (subst (λ cs. Lines (flat_map (class_lines p known.names) cs) (flat_map (class_keys p known.names) cs)) (sym own)
    (flat_lines (class_lines p known.names) (class_keys p known.names) n.own_classes classes))

-- the canonical text has tokens with just these keys
pub canonical_has : (written : List WrittenClass) (p : Program) → NamesProgram written p → AreSpellable written → Has (canonical_text p) (program_keys p)
canonical_has written p n spellable =
    subst (λ text. Has text (program_keys p)) (append-nil (canonical_text p))
    (subst (Has (canonical_text p ++ [])) (append-nil (program_keys p)) (program_read written p n spellable [] [] nothing_has))
