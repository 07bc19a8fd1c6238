-- Fields and methods of a canonical text, as classes define them.
use Rattle.std.proofs.Common.{◌≡◌, ℕ, zero, suc, ◌<◌, ◌≤◌, ◌^◌, Bool, true, false, if◌then◌else◌, List, [], ◌∷◌, ◌++◌, length, map, flat_map, Option, Some, None, option_to_list, refl, sym, ap, ◌∙◌, subst, codes, arith, All, append_assoc, append-nil, bytes_eq}
use Rattle.std.specs.List.{AllByRecursion, IsDistinct}
use Rattle.il_model.specs.declared.class.VarDef.{VarDef}
use Rattle.il_model.specs.declared.class.FieldDef.{FieldDef}
use Rattle.il_model.specs.declared.method.Shape.{Shape}
use Rattle.il_model.specs.declared.method.Shape.TheVariants as shape
use Rattle.il_model.specs.declared.method.Body.{Body}
use Rattle.il_model.specs.declared.method.MethodDef.{MethodDef}
use Rattle.il_model.specs.declared.written.WrittenVar.{WrittenVar}
use Rattle.il_model.specs.declared.written.WrittenBody.{WrittenBody}
use Rattle.il_model.specs.declared.written.WrittenField.{WrittenField}
use Rattle.il_model.specs.declared.written.WrittenMethod.{WrittenMethod}
use Rattle.il_model.specs.Lexemes.{Lexeme, name_at, is_among}
use Rattle.il_model.specs.Bounds.{instrs_of, IsSmallMethod}
use Rattle.il_model.specs.Bodies.{IsBody}
use Rattle.il_model.specs.Words.{shape_words}
use Rattle.il_model.specs.Members.{unless_read}
use Rattle.il_model.specs.Classes.{IsField, field, IsShape, instance, static, virtual, newslot, abstract, MayHaveVars, IsBodyOrNone, bodiless, braced, IsMethod, method}
use Rattle.il_model.specs.Names.{Scope, end, both, Perhaps, neither, each, NamesResult, NamesParams, NamesVars}
use Rattle.il_model.specs.LookUp.{Known, scope_of, names_of_vars, NamesBody, NamesMethod, NamesField, has_entry}
use Rattle.il_model.specs.Canonical.{Word, shape_text}
use Rattle.il_print.proofs.Keys.{Key, key_of, quoted, all_quoted, name_key, type_keys, result_keys, vars_keys, params_keys, field_keys, method_head_keys, bodied_keys, body_keys, method_keys}
use Rattle.il_print.proofs.AgainKeys.{keys_first, keys_split, keys_one, keys_none, is_quoted, is_name}
use Rattle.il_print.proofs.AgainScopes.{ArePlain, IsFair, AreQuoted}
use Rattle.il_print.proofs.AgainTypes.{type_again}
use Rattle.il_print.proofs.AgainLists.{Reads, enclosed}
use Rattle.il_print.proofs.AgainParams.{params_again, result_again, vars_again}
use Rattle.il_print.proofs.AgainMembers.{AreGenuine, genuine_front, genuine_back, genuine_rest, optional_again, unless_quoted}
use Rattle.il_print.proofs.AgainBodies.{each_length, body_again}

-- ---- fields

pub field_def_again : (s : Scope) → IsFair s → (written : WrittenField) (f : FieldDef) → NamesField s written f → Reads IsField (NamesField s) (field_keys s.names) f
field_def_again s fair written f named ls e =
    let flag : List Key = if f.fixed then quoted (codes "static") ∷ [] else [] in
    let word = keys_first ls (quoted (codes ".field")) (flag ++ type_keys s.names f.kind ++ name_key f.name ∷ []) e in
    let s1 = keys_split word.rest (flag ++ type_keys s.names f.kind) (name_key f.name ∷ []) word.are in
    let s2 = keys_split s1.front flag (type_keys s.names f.kind) s1.first in
    let name = keys_one s1.back (name_key f.name) s1.second in
    let a = type_again s fair written.kind f.kind named.kind (unless_read f.fixed (codes "static")) (unless_quoted f.fixed (codes "static") refl) s2.back s2.second in
    let spelled : ls ≡ word.lexeme ∷ s2.front ++ s2.back ++ name.lexeme ∷ [] =
    word.split ∙ ap (λ z. word.lexeme ∷ z) (s1.split ∙ ap (λ z. z ++ s1.back) s2.split ∙ ap (λ z. s2.front ++ s2.back ++ z) name.split)
    in
    record {
      item = record { fixed = f.fixed; kind = a.type; name = name_at name.lexeme };
      is = field ls s2.front s2.back word.lexeme name.lexeme f.fixed a.type spelled (is_quoted (codes ".field") word.lexeme word.is)
          (optional_again (codes "static") f.fixed s2.front s2.first) a.is (is_name [] f.name name.lexeme name.is refl);
      names = record { fixed = refl; kind = a.names; name = sym (ap (λ k. k.bytes) name.is) };
    }

-- ---- shapes

record ShapeAgain (ls : List Lexeme) (s : Shape) : Type 0 where
  words : List Word
  is : IsShape ls s words
  are : AreQuoted words

shape_again : (s : Shape) (ls : List Lexeme) → map key_of ls ≡ all_quoted (shape_text s) → ShapeAgain ls s
shape_again shape.Fixed ls e =
    let one = keys_one ls (quoted (codes "static")) e in
    record { words = []; is = subst (λ z. IsShape z shape.Fixed []) (sym one.split) (static one.lexeme (is_quoted (codes "static") one.lexeme one.is)); are = refl }
shape_again shape.Instance ls e = record { words = shape_words; is = subst (λ z. IsShape z shape.Instance shape_words) (sym (keys_none ls e)) instance; are = refl }
shape_again shape.Virtual ls e =
    let one = keys_one ls (quoted (codes "virtual")) e in
    record { words = []; is = subst (λ z. IsShape z shape.Virtual []) (sym one.split) (virtual one.lexeme (is_quoted (codes "virtual") one.lexeme one.is)); are = refl }
shape_again shape.NewSlot ls e =
    let l = keys_first ls (quoted (codes "newslot")) (quoted (codes "virtual") ∷ []) e in
    let one = keys_one l.rest (quoted (codes "virtual")) l.are in
    record {
      words = [];
      is = subst (λ z. IsShape z shape.NewSlot []) (sym (l.split ∙ ap (λ z. l.lexeme ∷ z) one.split))
          (newslot l.lexeme one.lexeme (is_quoted (codes "newslot") l.lexeme l.is) (is_quoted (codes "virtual") one.lexeme one.is));
      are = refl;
    }
shape_again shape.Abstract ls e =
    let one = keys_one ls (quoted (codes "abstract")) e in
    record { words = []; is = subst (λ z. IsShape z shape.Abstract []) (sym one.split) (abstract one.lexeme (is_quoted (codes "abstract") one.lexeme one.is)); are = refl }

none_too : {A B : Type 0} (vs : List A) (ws : List B) → length vs ≡ length ws → vs ≡ [] → ws ≡ []
none_too vs [] same e = refl
none_too vs (w ∷ ws) same e = absurd (omega (arith, same, ap length e))

may_have : (s : Shape) (vs ws : List WrittenVar) → length vs ≡ length ws → MayHaveVars s vs → MayHaveVars s ws
may_have shape.Fixed vs ws same may = tt
may_have shape.Instance vs ws same may = tt
may_have shape.Virtual vs ws same may = none_too vs ws same may
may_have shape.NewSlot vs ws same may = none_too vs ws same may
may_have shape.Abstract vs ws same may = none_too vs ws same may

-- ---- bodies, where there are any

abbrev entries_of : Option WrittenBody → List ℕ
entries_of o = flat_map (λ b. option_to_list b.entry) (option_to_list o)

abbrev IsSmallBody : Option WrittenBody → Type 0
IsSmallBody o = All (λ b. length (instrs_of b.lines) ≤ 16384) (option_to_list o)

record BodiedAgain (s : Scope) (literals : List (List ℕ)) (is_entry : Bool) (ls : List Lexeme) (o : Option Body) : Type 0 where
  body : Option WrittenBody
  is : IsBodyOrNone ls body
  names : Perhaps (NamesBody s literals) body o
  entries : (number : ℕ) → map (λ (x : ℕ). number) (entries_of body) ≡ (if is_entry then map (λ (b : Body). number) (option_to_list o) else [])
  small : IsSmallBody body

no_entries : (is_entry : Bool) (number : ℕ) → (let none : List ℕ = [] in none ≡ (if is_entry then none else none))
no_entries true number = refl
no_entries false number = refl

one_entry : (is_entry : Bool) (number : ℕ) (b : Body) → (if is_entry then number ∷ [] else []) ≡ (if is_entry then map (λ (x : Body). number) (b ∷ []) else [])
one_entry true number b = refl
one_entry false number b = refl

braced_inner : (lexemes : List Lexeme) (b : WrittenBody) → IsBodyOrNone lexemes (Some b) → AreGenuine lexemes →
    (inner : List Lexeme) × IsBody inner b × AreGenuine inner
braced_inner lexemes b (braced ws inner left right c split opens is closes) genuine =
    (inner, is, genuine_rest left inner (genuine_front (left ∷ inner) (right ∷ []) (subst AreGenuine split genuine)))

bodied_again : (s : Scope) → IsFair s → (literals : List (List ℕ)) (is_entry : Bool) (lexemes : List Lexeme) (written : Option WrittenBody) (o : Option Body) →
    IsBodyOrNone lexemes written → AreGenuine lexemes → Perhaps (NamesBody s literals) written o → IsSmallBody written → (ls : List Lexeme) →
    map key_of ls ≡ bodied_keys s.names literals is_entry o → BodiedAgain s literals is_entry ls o
bodied_again s fair literals is_entry lexemes written o is genuine neither small ls e =
    let one = keys_one ls (quoted (codes ";")) e in
    record {
      body = None;
      is = subst (λ z. IsBodyOrNone z None) (sym one.split) (bodiless one.lexeme (is_quoted (codes ";") one.lexeme one.is));
      names = neither;
      entries = no_entries is_entry;
      small = λ k d inside. absurd (omega (arith, inside));
    }
bodied_again s fair literals is_entry lexemes written o is genuine (each w b named) small ls e =
    let own = braced_inner lexemes w is genuine in
    let short : length (instrs_of w.lines) ≤ 16384 = small 0 w (omega arith) in
    let c = enclosed (codes "{") (codes "}") (body_keys s.names literals is_entry b) ls e in
    let r = body_again s fair literals is_entry own.0 w b own.1 own.2 named short c.inner c.are in
    let size : length (instrs_of r.body.lines) ≡ length (instrs_of w.lines) =
    each_length _ (instrs_of r.body.lines) b.code r.names.code ∙ sym (each_length _ (instrs_of w.lines) b.code named.code)
    in
    record {
      body = Some r.body;
      is = braced ls c.inner c.left c.right r.body c.split c.opens r.is c.closes;
      names = each r.body b r.names;
      entries = λ number. ap (map (λ (x : ℕ). number)) (append-nil (option_to_list r.body.entry)) ∙ r.entries number ∙ one_entry is_entry number b;
      small = one_small r.body (omega (arith, size, short));
    } where
      one_small : (b : WrittenBody) → length (instrs_of b.lines) ≤ 16384 → IsSmallBody (Some b)
      one_small b short zero d inside = short
      one_small b short (suc k) d inside = absurd (omega (arith, inside))

-- ---- methods

-- what a text declares, where decimal digits give the numbers of variables
pub record IsFairKnown (known : Known) : Type 0 where
  pub plain : ArePlain known.names
  pub arities : AllByRecursion (λ count. count < 2 ^ 64) known.arities

pub fair_scope : (known : Known) → IsFairKnown known → (of_class of_method : ℕ) → of_class < 2 ^ 64 → of_method < 2 ^ 64 → IsFair (scope_of known of_class of_method)
fair_scope known fair of_class of_method low_class low_method = record { plain = fair.plain; arities = fair.arities; of_class = low_class; of_method = low_method }

-- the names of type variables are those of their definitions
pub var_names : (s : Scope) (written : List WrittenVar) (vs : List VarDef) → NamesVars s written vs → names_of_vars written ≡ map (λ v. v.name) vs
var_names s written vs end = refl
var_names s written vs (both w v ws rest is are) = ap (λ n. n ∷ names_of_vars ws) (sym is.name) ∙ ap (λ ns. v.name ∷ ns) (var_names s ws rest are)

-- a method of a text
pub record IsSpelledMethod (m : WrittenMethod) : Type 0 where
  pub lexemes : List Lexeme
  pub is : IsMethod lexemes m
  pub genuine : AreGenuine lexemes

-- a written method that stands for this one, with the entry point or without
pub record StandsFor (known : Known) (owner of_class : ℕ) (is_entry : Bool) (written : WrittenMethod) (m : MethodDef) : Type 0 where
  pub names : NamesMethod known owner of_class written m
  pub entries : (number : ℕ) → map (λ (x : ℕ). number) (has_entry written) ≡ (if is_entry then map (λ (b : Body). number) (option_to_list m.body) else [])
  pub small : IsSmallMethod written

record MethodParts (m : WrittenMethod) : Type 0 where
  free : is_among (codes ".cctor" ∷ []) m.name.name ≡ false
  may : MayHaveVars m.shape m.vars
  rest : List Lexeme
  body : IsBodyOrNone rest m.body
  genuine : AreGenuine rest

method_parts : (ls : List Lexeme) (m : WrittenMethod) → IsMethod ls m → AreGenuine ls → MethodParts m
method_parts ls m (method ws shaped result vars params rest word name left right s q r vs ps b split a c d f g h i j k l) genuine =
    record {
      free = f.free;
      may = h;
      rest = rest;
      body = l;
      genuine = genuine_rest right rest (genuine_back (word ∷ shaped ++ result ++ name ∷ vars ++ left ∷ params) (right ∷ rest) (subst AreGenuine split genuine));
    }

pub method_def_again : (known : Known) → IsFairKnown known → (owner of_class : ℕ) → of_class < 2 ^ 64 → (is_entry : Bool) (written : WrittenMethod) (m : MethodDef) →
    IsSpelledMethod written → NamesMethod known owner of_class written m → IsSmallMethod written →
    Reads IsMethod (StandsFor known owner of_class is_entry) (method_keys known.names known.literals is_entry) m
method_def_again known fair owner of_class low is_entry written m spelled named small ls e =
    let s = scope_of known of_class (length written.vars) in
    let few : length written.vars < 2 ^ 64 = omega (arith, small.vars) in
    let fair_here = fair_scope known fair of_class (length written.vars) low few in
    let parts = method_parts spelled.lexemes written spelled.is spelled.genuine in
    let s1 = keys_split ls (method_head_keys known.names m) (bodied_keys known.names known.literals is_entry m.body) e in
    let s2 = keys_split s1.front (quoted (codes ".method") ∷ all_quoted (shape_text m.shape) ++ result_keys known.names m.result ++ name_key m.name ∷ vars_keys known.names m.vars)
    (params_keys known.names m.params) s1.first
    in
    let s3 = keys_split s2.front (quoted (codes ".method") ∷ all_quoted (shape_text m.shape) ++ result_keys known.names m.result) (name_key m.name ∷ vars_keys known.names m.vars) s2.first in
    let s4 = keys_split s3.front (quoted (codes ".method") ∷ all_quoted (shape_text m.shape)) (result_keys known.names m.result) s3.first in
    let word = keys_first s4.front (quoted (codes ".method")) (all_quoted (shape_text m.shape)) s4.first in
    let name = keys_first s3.back (name_key m.name) (vars_keys known.names m.vars) s3.second in
    let shaped = shape_again m.shape word.rest word.are in
    let result = result_again s fair_here written.result m.result named.gives shaped.words shaped.are s4.back s4.second in
    let vars = vars_again s fair_here written.vars m.vars named.vars name.rest name.are in
    let params = params_again s fair_here written.params m.params named.params s2.back s2.second in
    let rest = bodied_again s fair_here known.literals is_entry parts.rest written.body m.body parts.body parts.genuine named.body small.instrs s1.back s1.second in
    let c = params.enclosed in
    let count : length written.vars ≡ length vars.vars = each_length _ written.vars m.vars named.vars ∙ sym (each_length _ vars.vars m.vars vars.names) in
    let front : s2.front ≡ word.lexeme ∷ word.rest ++ s4.back ++ name.lexeme ∷ name.rest =
    s3.split ∙ ap (λ z. z ++ s3.back) (s4.split ∙ ap (λ z. z ++ s4.back) word.split) ∙ ap (λ z. word.lexeme ∷ word.rest ++ s4.back ++ z) name.split
    in
    let head : s1.front ≡ word.lexeme ∷ word.rest ++ s4.back ++ name.lexeme ∷ name.rest ++ c.left ∷ c.inner ++ c.right ∷ [] =
    s2.split ∙ ap (λ z. z ++ s2.back) front ∙ ap (λ z. word.lexeme ∷ word.rest ++ s4.back ++ name.lexeme ∷ name.rest ++ z) c.split
    ∙ sym (append_assoc (word.lexeme ∷ word.rest ++ s4.back ++ name.lexeme ∷ name.rest) (c.left ∷ c.inner) (c.right ∷ []))
    in
    let whole : ls ≡ word.lexeme ∷ word.rest ++ s4.back ++ name.lexeme ∷ name.rest ++ c.left ∷ c.inner ++ c.right ∷ s1.back =
    s1.split ∙ ap (λ z. z ++ s1.back) head
    ∙ append_assoc (word.lexeme ∷ word.rest ++ s4.back ++ name.lexeme ∷ name.rest ++ c.left ∷ c.inner) (c.right ∷ []) s1.back
    in
    record {
      item = record { at = word.lexeme.at; shape = m.shape; result = result.item; name = name_at name.lexeme; vars = vars.vars; params = params.params; body = rest.body };
      is = method ls word.rest s4.back name.rest c.inner s1.back word.lexeme name.lexeme c.left c.right m.shape shaped.words result.item vars.vars params.params rest.body whole
          (is_quoted (codes ".method") word.lexeme word.is) shaped.is result.is
          (is_name (codes ".cctor" ∷ []) m.name name.lexeme name.is (ap (is_among (codes ".cctor" ∷ [])) named.name ∙ parts.free)) vars.are
          (may_have m.shape written.vars vars.vars count (subst (λ x. MayHaveVars x written.vars) (sym named.shape) parts.may)) c.opens params.are c.closes rest.is;
      names = record {
        names = record {
          owner_is = named.owner_is;
          name = sym (ap (λ k. k.bytes) name.is);
          shape = refl;
          distinct = subst (IsDistinct bytes_eq) (var_names s written.vars m.vars named.vars ∙ sym (var_names s vars.vars m.vars vars.names)) named.distinct;
          vars = subst (λ n. NamesVars (scope_of known of_class n) vars.vars m.vars) count vars.names;
          params = subst (λ n. NamesParams (scope_of known of_class n) params.params m.params) count params.names;
          gives = subst (λ n. NamesResult (scope_of known of_class n) result.item m.result) count result.names;
          body = subst (λ n. Perhaps (NamesBody (scope_of known of_class n) known.literals) rest.body m.body) count rest.names;
        };
        entries = rest.entries;
        small = record { vars = omega (arith, small.vars, count); instrs = rest.small };
      };
    }
