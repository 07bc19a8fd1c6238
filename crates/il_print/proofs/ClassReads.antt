-- Fields, methods and classes with the keys that they bring.
use Rattle.std.proofs.Common.{◌≡◌, ℕ, zero, suc, ◌+◌, ◌≤◌, ◌==◌, Bool, true, false, List, [], ◌∷◌, ◌++◌, length, map, flat_map, codes, Option, Some, None, refl, sym, ◌∙◌, subst, append_assoc, arith, bytes_eq, if◌then◌else◌}
use Rattle.std.specs.Prelude.{slice_get}
use Rattle.std.specs.List.{AllByRecursion, list_all}
use Rattle.type_tree.specs.declared.tree.TExpr.{TExpr}
use Rattle.il_text.specs.declared.token.TokenKind.TheVariants as token
use Rattle.il_model.specs.declared.class.ClassKind.{ClassKind}
use Rattle.il_model.specs.declared.class.ClassKind.TheVariants as kind
use Rattle.il_model.specs.declared.class.FieldDef.{FieldDef}
use Rattle.il_model.specs.declared.method.Shape.{Shape}
use Rattle.il_model.specs.declared.method.Shape.TheVariants as shape
use Rattle.il_model.specs.declared.method.Body.{Body}
use Rattle.il_model.specs.declared.method.MethodDef.{MethodDef}
use Rattle.il_model.specs.declared.program.Program.{Program}
use Rattle.il_model.specs.declared.written.WrittenType.{WrittenType}
use Rattle.il_model.specs.declared.written.WrittenBody.{WrittenBody}
use Rattle.il_model.specs.declared.written.WrittenField.{WrittenField}
use Rattle.il_model.specs.declared.written.WrittenMethod.{WrittenMethod}
use Rattle.il_model.specs.Library.{plain}
use Rattle.il_model.specs.Names.{Scope, Perhaps, neither, each}
use Rattle.il_model.specs.LookUp.{Known, scope_of, NamesBody, NamesMethod, NamesField, NamesBase, object_of_plain, object_of_abstract, none_of_struct, none_of_interface, written_base, numbers_from}
use Rattle.il_model.specs.Canonical.{Word, line, comma, between, type_text, result_word, vars_words, params_words, body_lines, field_line, shape_text, method_head, bodied_lines, numbered_lines, method_lines, kind_text, base_words, interfaces_words}
use Rattle.il_print.proofs.Keys.{Key, quoted, all_quoted, name_key, keys_between, type_keys, vars_keys, params_keys, result_keys, body_keys, field_keys, bodied_keys, method_keys, numbered_keys, methods_keys, base_keys, interfaces_keys}
use Rattle.il_print.proofs.TokenReads.{nothing_reads, is_quotable}
use Rattle.il_print.proofs.WordReads.{Words, Starts, Lines, one_word, word_first, words_then, token_word, quoted_word, quoted_words, quoted_starts, one_line, no_lines, lines_then, flat_lines}
use Rattle.il_print.proofs.TypeReads.{IsRead, IsReadable, type_read, class_read}
use Rattle.il_print.proofs.PartReads.{optional_word, result_opens, params_read, types_between, vars_read}
use Rattle.il_print.proofs.BodyReads.{body_read}
use Rattle.il_print.proofs.Spellable.{IsNameWord, IsSpellableField, IsSpellableOption, IsSpellableMethod}

-- ---- fields

pub field_read : (s : Scope) → IsReadable s → (written : WrittenField) (f : FieldDef) → NamesField s written f → IsSpellableField written →
    Lines (field_line s.names f) (field_keys s.names f)
field_read s r written f named name =
    let fixed = if f.fixed then codes "static" ∷ [] else [] in
    let fixed_keys = if f.fixed then quoted (codes "static") ∷ [] else [] in
    let behind = type_text s.names f.kind ∷ f.name ∷ [] in
    let behind_read : Words behind (type_keys s.names f.kind ++ name_key f.name ∷ []) =
    word_first (type_text s.names f.kind) (f.name ∷ []) (type_keys s.names f.kind) (name_key f.name ∷ []) (type_read s written.kind f.kind r named.kind)
    (token_word token.Word f.name [] [] (subst IsNameWord (sym named.name) name) nothing_reads) in
    subst (λ ks. Lines (field_line s.names f) (quoted (codes ".field") ∷ ks))
    (sym (append_assoc fixed_keys (type_keys s.names f.kind) (name_key f.name ∷ [])))
    (one_line 1 (codes ".field" ∷ fixed ++ behind) (quoted (codes ".field") ∷ fixed_keys ++ (type_keys s.names f.kind ++ name_key f.name ∷ []))
    (quoted_starts (codes ".field") (fixed ++ behind) (fixed_keys ++ (type_keys s.names f.kind ++ name_key f.name ∷ [])) refl
    (words_then fixed behind fixed_keys (type_keys s.names f.kind ++ name_key f.name ∷ []) (optional_word f.fixed (codes "static") refl) behind_read)))

-- ---- methods

shape_quotable : (s : Shape) → list_all is_quotable (shape_text s) ≡ true
shape_quotable shape.Fixed = refl
shape_quotable shape.Instance = refl
shape_quotable shape.Virtual = refl
shape_quotable shape.NewSlot = refl
shape_quotable shape.Abstract = refl

-- what follows the word `.method`
abbrev head_rest : List Word → MethodDef → List Word
head_rest names m = shape_text m.shape ++ result_word names m.result ∷ m.name ∷ vars_words names m.vars ++ params_words names m.params

abbrev head_rest_keys : List Word → MethodDef → List Key
head_rest_keys names m =
    all_quoted (shape_text m.shape) ++ result_keys names m.result ++ name_key m.name ∷ vars_keys names m.vars ++ params_keys names m.params

head_read : (known : Known) (owner of_class : ℕ) (written : WrittenMethod) (m : MethodDef) → IsReadable (scope_of known of_class (length written.vars)) →
    NamesMethod known owner of_class written m → IsSpellableMethod written → Words (head_rest known.names m) (head_rest_keys known.names m)
head_read known owner of_class written m r named spellable =
    let s = scope_of known of_class (length written.vars) in
    let shaped = all_quoted (shape_text m.shape) in
    let result = result_keys s.names m.result in
    let named_keys = name_key m.name ∷ vars_keys s.names m.vars in
    let named_read : Words (result_word s.names m.result ∷ m.name ∷ vars_words s.names m.vars) (result ++ named_keys) =
    word_first (result_word s.names m.result) (m.name ∷ vars_words s.names m.vars) result named_keys (result_opens s r written.result m.result named.gives)
    (token_word token.Word m.name (vars_words s.names m.vars) (vars_keys s.names m.vars) (subst IsNameWord (sym named.name) spellable.name)
    (vars_read s r written.vars m.vars named.vars spellable.vars)) in
    subst (λ ks. Words (head_rest s.names m) (ks ++ params_keys s.names m.params)) (sym (append_assoc shaped result named_keys))
    (words_then (shape_text m.shape ++ result_word s.names m.result ∷ m.name ∷ vars_words s.names m.vars) (params_words s.names m.params)
    (shaped ++ (result ++ named_keys)) (params_keys s.names m.params)
    (words_then (shape_text m.shape) (result_word s.names m.result ∷ m.name ∷ vars_words s.names m.vars) shaped (result ++ named_keys)
    (quoted_words (shape_text m.shape) (shape_quotable m.shape)) named_read)
    (params_read s r written.params m.params named.params))

-- a head before a mark
head_with : (first : Word) (rest : List Word) (ks : List Key) (mark : Word) → is_quotable first ≡ true → is_quotable mark ≡ true → Words rest ks →
    Starts (first ∷ rest ++ mark ∷ []) (quoted first ∷ ks ++ quoted mark ∷ [])
head_with first rest ks mark e f read =
    quoted_starts first (rest ++ mark ∷ []) (ks ++ quoted mark ∷ []) e
    (words_then rest (mark ∷ []) ks (quoted mark ∷ []) read (quoted_word mark [] [] f nothing_reads))

-- what is between braces
braced_keys : (head inside : List Key) → ((head ++ quoted (codes "{") ∷ []) ++ inside) ++ quoted (codes "}") ∷ [] ≡
    head ++ (quoted (codes "{") ∷ inside ++ quoted (codes "}") ∷ [])
braced_keys head inside =
    append_assoc (head ++ quoted (codes "{") ∷ []) inside (quoted (codes "}") ∷ [])
    ∙ append_assoc head (quoted (codes "{") ∷ []) (inside ++ quoted (codes "}") ∷ [])

close_line : Lines (line 1 (codes "}" ∷ [])) (quoted (codes "}") ∷ [])
close_line = one_line 1 (codes "}" ∷ []) (quoted (codes "}") ∷ []) (quoted_starts (codes "}") [] [] refl nothing_reads)

bodied_read : (s : Scope) (literals : List (List ℕ)) (is_entry : Bool) (rest : List Word) (ks : List Key) (written : Option WrittenBody) (b : Option Body) →
    IsReadable s → Words rest ks → Perhaps (NamesBody s literals) written b → IsSpellableOption written →
    Lines (bodied_lines s.names literals is_entry (codes ".method" ∷ rest) b) ((quoted (codes ".method") ∷ ks) ++ bodied_keys s.names literals is_entry b)
bodied_read s literals is_entry rest ks written b r read neither spellable =
    one_line 1 (codes ".method" ∷ rest ++ codes ";" ∷ []) (quoted (codes ".method") ∷ ks ++ quoted (codes ";") ∷ [])
    (head_with (codes ".method") rest ks (codes ";") refl refl read)
bodied_read s literals is_entry rest ks written b r read (each w body named) spellable =
    let head = codes ".method" ∷ rest ++ codes "{" ∷ [] in
    let head_keys = quoted (codes ".method") ∷ ks ++ quoted (codes "{") ∷ [] in
    let inside = body_keys s.names literals is_entry body in
    subst (Lines (bodied_lines s.names literals is_entry (codes ".method" ∷ rest) (Some body))) (braced_keys (quoted (codes ".method") ∷ ks) inside)
    (lines_then (line 1 head ++ body_lines s.names literals is_entry body) (line 1 (codes "}" ∷ [])) (head_keys ++ inside) (quoted (codes "}") ∷ [])
    (lines_then (line 1 head) (body_lines s.names literals is_entry body) head_keys inside
    (one_line 1 head head_keys (head_with (codes ".method") rest ks (codes "{") refl refl read))
    (body_read s literals is_entry w body r named spellable))
    close_line)

-- the method brings its keys, whether it has the entry point or not
abbrev pub IsMethodRead : List Word → List (List ℕ) → MethodDef → Type 0
IsMethodRead names literals m = (is_entry : Bool) → Lines (bodied_lines names literals is_entry (method_head names m) m.body) (method_keys names literals is_entry m)

pub method_read : (known : Known) (owner of_class : ℕ) (written : WrittenMethod) (m : MethodDef) → IsReadable (scope_of known of_class (length written.vars)) →
    NamesMethod known owner of_class written m → IsSpellableMethod written → IsMethodRead known.names known.literals m
method_read known owner of_class written m r named spellable is_entry =
    bodied_read (scope_of known of_class (length written.vars)) known.literals is_entry (head_rest known.names m) (head_rest_keys known.names m)
    written.body m.body r (head_read known owner of_class written m r named spellable) named.body spellable.body

-- ---- methods by their numbers

abbrev IfThere : (MethodDef → Type 0) → Option MethodDef → Type 0
IfThere P None = Unit {0}
IfThere P (Some m) = P m

found_among : (P : MethodDef → Type 0) (own : List MethodDef) (number : ℕ) → AllByRecursion P own → IfThere P (slice_get own number)
found_among P [] number all = tt
found_among P (m ∷ ms) zero all = all.0
found_among P (m ∷ ms) (suc number) all = found_among P ms number all.1

-- behind so many others
found_behind : (P : MethodDef → Type 0) (front own : List MethodDef) (number : ℕ) → length front ≤ number → AllByRecursion P own →
    IfThere P (slice_get (front ++ own) number)
found_behind P [] own number later all = found_among P own number all
found_behind P (m ∷ ms) own zero later all = absurd (omega (arith, later))
found_behind P (m ∷ ms) own (suc number) later all = found_behind P ms own number (omega (arith, later)) all

pub numbers_later : {A : Type 0} (least first : ℕ) (xs : List A) → least ≤ first → AllByRecursion (λ number. least ≤ number) (numbers_from first xs)
numbers_later least first [] later = tt
numbers_later least first (x ∷ xs) later = (later, numbers_later least (first + 1) xs (omega (arith, later)))

numbered_read : (p : Program) (names : List Word) (number : ℕ) (found : Option MethodDef) → IfThere (IsMethodRead names p.literals) found →
    Lines (numbered_lines p names number found) (numbered_keys p names number found)
numbered_read p names number None read = no_lines
numbered_read p names number (Some m) read = read (number == p.main)

-- the methods of a class all stand behind these
pub methods_read : (p : Program) (names : List Word) (front own : List MethodDef) (numbers : List ℕ) → p.methods ≡ front ++ own →
    AllByRecursion (IsMethodRead names p.literals) own → AllByRecursion (λ number. length front ≤ number) numbers →
    Lines (flat_map (method_lines p names) numbers) (methods_keys p names numbers)
methods_read p names front own numbers are read later =
    flat_lines (method_lines p names) (λ number. numbered_keys p names number (slice_get p.methods number)) numbers (each_number numbers later)
  where
    each_number : (numbers : List ℕ) → AllByRecursion (λ number. length front ≤ number) numbers →
        AllByRecursion (λ number. Lines (method_lines p names number) (numbered_keys p names number (slice_get p.methods number))) numbers
    each_number [] later = tt
    each_number (n ∷ ns) later = (
      numbered_read p names n (slice_get p.methods n)
          (subst (λ ms. IfThere (IsMethodRead names p.literals) (slice_get ms n)) (sym are) (found_behind (IsMethodRead names p.literals) front own n later.0 read)),
      each_number ns later.1,
    )

-- ---- classes

pub kind_quotable : (k : ClassKind) → list_all is_quotable (kind_text k) ≡ true
kind_quotable kind.Plain = refl
kind_quotable kind.Abstract = refl
kind_quotable kind.Interface = refl
kind_quotable kind.Struct = refl
kind_quotable kind.Delegate = refl

extends_case : (names : List Word) (t : TExpr) (is_object : Bool) → IsRead names t →
    Words (if is_object then [] else codes "extends" ∷ type_text names t ∷ []) (if is_object then [] else quoted (codes "extends") ∷ type_keys names t)
extends_case names t true read = nothing_reads
extends_case names t false read =
    quoted_word (codes "extends") (type_text names t ∷ []) (type_keys names t) refl (one_word (type_text names t) (type_keys names t) read)

object_read : (s : Scope) → IsReadable s → IsRead s.names (plain 0)
object_read s r = class_read s.names 0 [] r.names (omega (arith, r.some)) tt

pub base_read : (s : Scope) (k : ClassKind) (written : Option WrittenType) (base : Option TExpr) → IsReadable s → NamesBase s k written base →
    Words (base_words s.names base) (base_keys s.names base)
base_read s k written base r none_of_struct = nothing_reads
base_read s k written base r none_of_interface = nothing_reads
base_read s k written base r object_of_plain = extends_case s.names (plain 0) (bytes_eq (type_text s.names (plain 0)) (codes "object")) (object_read s r)
base_read s k written base r object_of_abstract = extends_case s.names (plain 0) (bytes_eq (type_text s.names (plain 0)) (codes "object")) (object_read s r)
base_read s k written base r (written_base q w t named) =
    extends_case s.names t (bytes_eq (type_text s.names t) (codes "object")) (type_read s w t r named)

pub interfaces_read : (s : Scope) (ts : List TExpr) → IsReadable s → AllByRecursion (IsRead s.names) ts →
    Words (interfaces_words s.names ts) (interfaces_keys s.names ts)
interfaces_read s [] r read = nothing_reads
interfaces_read s (t ∷ ts) r read =
    quoted_word (codes "implements") (between comma (map (λ each. type_text s.names each ∷ []) (t ∷ ts)))
    (keys_between (codes ",") (map (type_keys s.names) (t ∷ ts))) refl (types_between s r comma (t ∷ ts) refl read)
