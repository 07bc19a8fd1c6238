-- Classes of a canonical text.
use Rattle.std.proofs.Common.{◌≡◌, ℕ, suc, ◌+◌, ◌<◌, ◌≤◌, ◌^◌, ◌==◌, false, List, [], ◌∷◌, ◌++◌, length, map, flat_map, Some, refl, sym, ap, ◌∙◌, subst, codes, arith, append_assoc, bytes_eq, slice_get}
use Rattle.std.specs.List.{AllByRecursion, IsDistinct}
use Rattle.il_model.specs.declared.class.ClassDef.{ClassDef}
use Rattle.il_model.specs.declared.class.FieldDef.{FieldDef}
use Rattle.il_model.specs.declared.method.MethodDef.{MethodDef}
use Rattle.il_model.specs.declared.program.Program.{Program}
use Rattle.il_model.specs.declared.written.WrittenField.{WrittenField}
use Rattle.il_model.specs.declared.written.WrittenMethod.{WrittenMethod}
use Rattle.il_model.specs.declared.written.WrittenMember.{WrittenMember}
use Rattle.il_model.specs.declared.written.WrittenMember.TheVariants as member
use Rattle.il_model.specs.declared.written.WrittenClass.{WrittenClass}
use Rattle.il_model.specs.Lexemes.{Lexeme, name_at, Many, none, more, is_among}
use Rattle.il_model.specs.Words.{quoted_words}
use Rattle.il_model.specs.Bounds.{fields_of, methods_of, IsSmallMethod}
use Rattle.il_model.specs.Classes.{IsField, IsMethod, IsMember, field_member, method_member, IsBase, IsClass, class}
use Rattle.il_model.specs.Names.{Scope, Each, end, both, NamesTypes, NamesVars}
use Rattle.il_model.specs.LookUp.{Known, scope_of, NamesMethod, NamesField, NamesBase, numbers_from, NamesClass}
use Rattle.il_model.specs.Canonical.{kind_text}
use Rattle.il_print.proofs.Keys.{Key, key_of, quoted, all_quoted, name_key, vars_keys, field_keys, method_keys, numbered_keys, methods_keys, base_keys, interfaces_keys, class_head_keys, class_keys}
use Rattle.il_print.proofs.AgainKeys.{keys_first, keys_split, keys_one, is_quoted, is_name}
use Rattle.il_print.proofs.AgainLists.{Reads, many_again, all_read}
use Rattle.il_print.proofs.AgainParams.{vars_again}
use Rattle.il_print.proofs.AgainMembers.{AreGenuine, genuine_front, genuine_back, genuine_rest}
use Rattle.il_print.proofs.AgainBodies.{each_length}
use Rattle.il_print.proofs.AgainHeads.{is_delegate, kind_again, no_delegate, base_again, interfaces_again}
use Rattle.il_print.proofs.AgainMethods.{field_def_again, IsFairKnown, fair_scope, var_names, IsSpelledMethod, StandsFor, method_def_again}

-- ---- members: first the fields, then the methods

many_fields : (fs : List WrittenField) (ms : List WrittenMember) (xs ys : List Lexeme) → Many IsField xs fs → Many IsMember ys ms → Many IsMember (xs ++ ys) (map member.Field fs ++ ms)
many_fields fs ms xs ys none q = q
many_fields fs ms xs ys (more ws front back f rest split is are) q =
    more (ws ++ ys) front (back ++ ys) (member.Field f) (map member.Field rest ++ ms) (ap (λ z. z ++ ys) split ∙ append_assoc front back ys) (field_member front f is)
    (many_fields rest ms back ys are q)

many_methods : (ms : List WrittenMethod) (ys : List Lexeme) → Many IsMethod ys ms → Many IsMember ys (map member.Method ms)
many_methods ms ys none = none
many_methods ms ys (more ws front back m rest split is are) = more ws front back (member.Method m) (map member.Method rest) split (method_member front m is) (many_methods rest back are)

fields_joined : (fs : List WrittenField) (ms : List WrittenMethod) → fields_of (map member.Field fs ++ map member.Method ms) ≡ fs
fields_joined [] [] = refl
fields_joined [] (m ∷ ms) = fields_joined [] ms
fields_joined (f ∷ fs) ms = ap (λ z. f ∷ z) (fields_joined fs ms)

methods_alone : (ms : List WrittenMethod) → methods_of (map member.Method ms) ≡ ms
methods_alone [] = refl
methods_alone (m ∷ ms) = ap (λ z. m ∷ z) (methods_alone ms)

methods_joined : (fs : List WrittenField) (ms : List WrittenMethod) → methods_of (map member.Field fs ++ map member.Method ms) ≡ ms
methods_joined [] ms = methods_alone ms
methods_joined (f ∷ fs) ms = methods_joined fs ms

-- ---- methods with their numbers

abbrev pub numbered : ℕ → List MethodDef → List (ℕ × MethodDef)
numbered first [] = []
numbered first (m ∷ ms) = (first, m) ∷ numbered (first + 1) ms

-- the program has each method at its number
abbrev pub AreAt : Program → List (ℕ × MethodDef) → Type 0
AreAt p = AllByRecursion (λ (x : ℕ × MethodDef). slice_get p.methods x.0 ≡ Some x.1)

abbrev keys_at : Program → Known → ℕ × MethodDef → List Key
keys_at p known x = method_keys known.names known.literals (x.0 == p.main) x.1

abbrev pub StandsAt : Program → Known → ℕ → ℕ → WrittenMethod → ℕ × MethodDef → Type 0
StandsAt p known owner of_class written x = StandsFor known owner of_class (x.0 == p.main) written x.1

numbered_is : {A : Type 0} (R : A → MethodDef → Type 0) (p : Program) (known : Known) → p.literals ≡ known.literals → (first : ℕ) (ws : List A) (ms : List MethodDef) → Each R ws ms →
    AreAt p (numbered first ms) → methods_keys p known.names (numbers_from first ws) ≡ flat_map (keys_at p known) (numbered first ms)
numbered_is R p known same first ws ms end at = refl
numbered_is R p known same first ws ms (both w m us vs is are) at =
    ap (λ o. numbered_keys p known.names first o ++ methods_keys p known.names (numbers_from (first + 1) us)) at.0
    ∙ ap (λ lits. method_keys known.names lits (first == p.main) m ++ methods_keys p known.names (numbers_from (first + 1) us)) same
    ∙ ap (λ z. method_keys known.names known.literals (first == p.main) m ++ z) (numbered_is R p known same (first + 1) us vs are at.1)

numbered_read : (p : Program) (known : Known) → IsFairKnown known → (owner of_class : ℕ) → of_class < 2 ^ 64 → (first : ℕ) (ws : List WrittenMethod) (ms : List MethodDef) →
    Each (NamesMethod known owner of_class) ws ms → AllByRecursion IsSpelledMethod ws → AllByRecursion IsSmallMethod ws →
    AllByRecursion (Reads IsMethod (StandsAt p known owner of_class) (keys_at p known)) (numbered first ms)
numbered_read p known fair owner of_class low first ws ms end spelled small = tt
numbered_read p known fair owner of_class low first ws ms (both w m us vs is are) spelled small = (
  λ ls e.
      let a = method_def_again known fair owner of_class low (first == p.main) w m spelled.0 is small.0 ls e in
      record { item = a.item; is = a.is; names = a.names },
  numbered_read p known fair owner of_class low (first + 1) us vs are spelled.1 small.1,
)

numbers_same : {A B : Type 0} (first : ℕ) (xs : List A) (ys : List B) → length xs ≡ length ys → numbers_from first xs ≡ numbers_from first ys
numbers_same first [] [] e = refl
numbers_same first [] (y ∷ ys) e = absurd (omega (arith, e))
numbers_same first (x ∷ xs) [] e = absurd (omega (arith, e))
numbers_same first (x ∷ xs) (y ∷ ys) e = ap (λ ns. first ∷ ns) (numbers_same (first + 1) xs ys (omega (arith, e)))

numbered_length : (first : ℕ) (ms : List MethodDef) → length (numbered first ms) ≡ length ms
numbered_length first [] = refl
numbered_length first (m ∷ ms) = ap suc (numbered_length (first + 1) ms)

field_names : (s : Scope) (written : List WrittenField) (fs : List FieldDef) → Each (NamesField s) written fs → map (λ f. f.name.name) written ≡ map (λ (f : FieldDef). f.name) fs
field_names s written fs end = refl
field_names s written fs (both w f ws rest is are) = ap (λ n. n ∷ map (λ x. x.name.name) ws) (sym is.name) ∙ ap (λ ns. f.name ∷ ns) (field_names s ws rest are)

-- ---- classes

members_spelled : (ls : List Lexeme) (ms : List WrittenMember) → Many IsMember ls ms → AreGenuine ls → AllByRecursion IsSpelledMethod (methods_of ms)
members_spelled ls ms none genuine = tt
members_spelled ls ms (more ws front back x xs split is are) genuine =
    by_member front x xs is (genuine_front front back (subst AreGenuine split genuine)) (members_spelled back xs are (genuine_back front back (subst AreGenuine split genuine))) where
      by_member : (front : List Lexeme) (x : WrittenMember) (xs : List WrittenMember) → IsMember front x → AreGenuine front → AllByRecursion IsSpelledMethod (methods_of xs) →
          AllByRecursion IsSpelledMethod (methods_of (x ∷ xs))
      by_member front x xs (field_member ws f is) genuine rest = rest
      by_member front x xs (method_member ws m is) genuine rest = (record { lexemes = ws; is = is; genuine = genuine }, rest)

-- a class of a text
record ClassParts (c : WrittenClass) : Type 0 where
  name_free : is_among quoted_words c.name.name ≡ false
  can : is_delegate c.kind ≡ false
  base_lexemes : List Lexeme
  base : IsBase c.kind base_lexemes c.base
  methods : AllByRecursion IsSpelledMethod (methods_of c.members)

class_parts : (ls : List Lexeme) (c : WrittenClass) → IsClass ls c → AreGenuine ls → ClassParts c
class_parts ls c (class ws kinds vars base implemented members word name left right k vs b is ms split x1 x2 x3 x4 x5 x6 x7 x8 x9) genuine =
    let own = genuine_rest left members (genuine_back (word ∷ kinds ++ name ∷ vars ++ base ++ implemented) (left ∷ members)
    (genuine_front (word ∷ kinds ++ name ∷ vars ++ base ++ implemented ++ left ∷ members) (right ∷ []) (subst AreGenuine split genuine)))
    in
    record { name_free = x3.free; can = no_delegate kinds k x2; base_lexemes = base; base = x5; methods = members_spelled members ms x8 own }

pub record ClassAgain (p : Program) (known : Known) (number first : ℕ) (defs : List MethodDef) (ls : List Lexeme) (c : ClassDef) : Type 0 where
  pub class : WrittenClass
  pub is : IsClass ls class
  pub names : NamesClass known first class c
  pub methods : Each (StandsAt p known number (length class.vars)) (methods_of class.members) (numbered first defs)

pub class_again : (p : Program) (known : Known) → IsFairKnown known → p.literals ≡ known.literals → (number first : ℕ) (lexemes : List Lexeme) (written : WrittenClass) (c : ClassDef)
    (defs : List MethodDef) → IsClass lexemes written → AreGenuine lexemes → NamesClass known first written c → length written.vars ≤ 3 →
    AllByRecursion IsSmallMethod (methods_of written.members) → Each (NamesMethod known number (length written.vars)) (methods_of written.members) defs → AreAt p (numbered first defs) →
    (ls : List Lexeme) → map key_of ls ≡ class_keys p known.names c → ClassAgain p known number first defs ls c
class_again p known fair same number first lexemes written c defs is genuine named few small methods at ls e =
    let s = scope_of known (length written.vars) 0 in
    let low : length written.vars < 2 ^ 64 = omega (arith, few) in
    let fair_here = fair_scope known fair (length written.vars) 0 low (omega arith) in
    let parts = class_parts lexemes written is genuine in
    let keys_of_methods = methods_keys p known.names c.methods in
    let s1 = keys_split ls (class_head_keys known.names c ++ quoted (codes "{") ∷ flat_map (field_keys known.names) c.fields ++ keys_of_methods) (quoted (codes "}") ∷ []) e in
    let s2 = keys_split s1.front (class_head_keys known.names c ++ quoted (codes "{") ∷ flat_map (field_keys known.names) c.fields) keys_of_methods s1.first in
    let s3 = keys_split s2.front (class_head_keys known.names c) (quoted (codes "{") ∷ flat_map (field_keys known.names) c.fields) s2.first in
    let s4 = keys_split s3.front (quoted (codes ".class") ∷ all_quoted (kind_text c.kind) ++ name_key c.name ∷ vars_keys known.names c.vars ++ base_keys known.names c.base)
    (interfaces_keys known.names c.interfaces) s3.first
    in
    let s5 = keys_split s4.front (quoted (codes ".class") ∷ all_quoted (kind_text c.kind) ++ name_key c.name ∷ vars_keys known.names c.vars) (base_keys known.names c.base) s4.first in
    let s6 = keys_split s5.front (quoted (codes ".class") ∷ all_quoted (kind_text c.kind)) (name_key c.name ∷ vars_keys known.names c.vars) s5.first in
    let word = keys_first s6.front (quoted (codes ".class")) (all_quoted (kind_text c.kind)) s6.first in
    let name = keys_first s6.back (name_key c.name) (vars_keys known.names c.vars) s6.second in
    let left = keys_first s3.back (quoted (codes "{")) (flat_map (field_keys known.names) c.fields) s3.second in
    let right = keys_one s1.back (quoted (codes "}")) s1.second in
    let a_kind = kind_again c.kind word.rest (ap is_delegate named.kind ∙ parts.can) word.are in
    let a_vars = vars_again s fair_here written.vars c.vars named.vars name.rest name.are in
    let a_base = base_again s fair_here c.kind parts.base_lexemes written.base c.base (subst (λ k. IsBase k parts.base_lexemes written.base) (sym named.kind) parts.base)
    (subst (λ k. NamesBase s k written.base c.base) (sym named.kind) named.base) s5.back s5.second
    in
    let a_interfaces = interfaces_again s fair_here written.interfaces c.interfaces named.interfaces s4.back s4.second in
    let a_fields = many_again IsField (NamesField s) (field_keys known.names) c.fields
    (all_read IsField (NamesField s) (field_keys known.names) (NamesField s) (field_def_again s fair_here) (fields_of written.members) c.fields named.fields) left.rest left.are
    in
    let keys_are : keys_of_methods ≡ flat_map (keys_at p known) (numbered first defs) =
    ap (methods_keys p known.names) named.methods ∙ numbered_is (NamesMethod known number (length written.vars)) p known same first (methods_of written.members) defs methods at
    in
    let a_methods = many_again IsMethod (StandsAt p known number (length written.vars)) (keys_at p known) (numbered first defs)
    (numbered_read p known fair number (length written.vars) low first (methods_of written.members) defs methods parts.methods small) s2.back (s2.second ∙ keys_are)
    in
    let ms = map member.Field a_fields.items ++ map member.Method a_methods.items in
    let fs_are = fields_joined a_fields.items a_methods.items in
    let ms_are = methods_joined a_fields.items a_methods.items in
    let head : s3.front ≡ word.lexeme ∷ word.rest ++ name.lexeme ∷ name.rest ++ s5.back ++ s4.back =
    s4.split ∙ ap (λ z. z ++ s4.back) (s5.split ∙ ap (λ z. z ++ s5.back) (s6.split ∙ ap (λ z. z ++ s6.back) word.split ∙ ap (λ z. word.lexeme ∷ word.rest ++ z) name.split))
    in
    let front : s1.front ≡ word.lexeme ∷ word.rest ++ name.lexeme ∷ name.rest ++ s5.back ++ s4.back ++ left.lexeme ∷ left.rest ++ s2.back =
    s2.split ∙ ap (λ z. z ++ s2.back) (s3.split ∙ ap (λ z. z ++ s3.back) head ∙ ap (λ z. word.lexeme ∷ word.rest ++ name.lexeme ∷ name.rest ++ s5.back ++ s4.back ++ z) left.split)
    in
    let whole : ls ≡ word.lexeme ∷ word.rest ++ name.lexeme ∷ name.rest ++ s5.back ++ s4.back ++ left.lexeme ∷ (left.rest ++ s2.back) ++ right.lexeme ∷ [] =
    s1.split ∙ ap (λ z. z ++ s1.back) (front ∙ append_assoc (word.lexeme ∷ word.rest ++ name.lexeme ∷ name.rest ++ s5.back ++ s4.back) (left.lexeme ∷ left.rest) s2.back)
    ∙ ap (λ z. word.lexeme ∷ word.rest ++ name.lexeme ∷ name.rest ++ s5.back ++ s4.back ++ left.lexeme ∷ (left.rest ++ s2.back) ++ z) right.split
    in
    let count : length written.vars ≡ length a_vars.vars = each_length _ written.vars c.vars named.vars ∙ sym (each_length _ a_vars.vars c.vars a_vars.names) in
    let total : length (methods_of written.members) ≡ length a_methods.items =
    each_length _ (methods_of written.members) defs methods ∙ sym (numbered_length first defs) ∙ sym (each_length _ a_methods.items (numbered first defs) a_methods.names)
    in
    record {
      class = record { at = word.lexeme.at; kind = c.kind; name = name_at name.lexeme; vars = a_vars.vars; base = a_base.base; interfaces = a_interfaces.types; members = ms };
      is = class ls word.rest name.rest s5.back s4.back (left.rest ++ s2.back) word.lexeme name.lexeme left.lexeme right.lexeme c.kind a_vars.vars a_base.base a_interfaces.types ms whole
          (is_quoted (codes ".class") word.lexeme word.is) a_kind (is_name quoted_words c.name name.lexeme name.is (ap (is_among quoted_words) named.name ∙ parts.name_free)) a_vars.are a_base.is
          a_interfaces.are (is_quoted (codes "{") left.lexeme left.is)
          (many_fields a_fields.items (map member.Method a_methods.items) left.rest s2.back a_fields.are (many_methods a_methods.items s2.back a_methods.are))
          (is_quoted (codes "}") right.lexeme right.is);
      names = record {
        name = sym (ap (λ k. k.bytes) name.is);
        kind = refl;
        distinct_vars = subst (IsDistinct bytes_eq) (var_names s written.vars c.vars named.vars ∙ sym (var_names s a_vars.vars c.vars a_vars.names)) named.distinct_vars;
        vars = subst (λ n. NamesVars (scope_of known n 0) a_vars.vars c.vars) count a_vars.names;
        base = subst (λ n. NamesBase (scope_of known n 0) c.kind a_base.base c.base) count a_base.names;
        interfaces = subst (λ n. NamesTypes (scope_of known n 0) a_interfaces.types c.interfaces) count a_interfaces.names;
        distinct_fields = subst (λ fs. IsDistinct bytes_eq (map (λ (f : WrittenField). f.name.name) fs)) (sym fs_are)
            (subst (IsDistinct bytes_eq) (field_names s (fields_of written.members) c.fields named.fields ∙ sym (field_names s a_fields.items c.fields a_fields.names)) named.distinct_fields);
        fields = subst (λ fs. Each (NamesField (scope_of known (length a_vars.vars) 0)) fs c.fields) (sym fs_are)
            (subst (λ n. Each (NamesField (scope_of known n 0)) a_fields.items c.fields) count a_fields.names);
        methods = named.methods ∙ numbers_same first (methods_of written.members) (methods_of ms) (total ∙ ap length (sym ms_are));
      };
      methods = subst (λ n. Each (StandsAt p known number n) (methods_of ms) (numbered first defs)) count
          (subst (λ z. Each (StandsAt p known number (length written.vars)) z (numbered first defs)) (sym ms_are) a_methods.names);
    }
