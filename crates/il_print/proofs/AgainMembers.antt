-- Members of a canonical text, as instructions name them.
use Rattle.std.proofs.Common.{◌≡◌, ℕ, zero, suc, ◌<◌, ◌≤◌, ◌^◌, Bool, true, false, ◌&&◌, if◌then◌else◌, List, [], ◌∷◌, ◌++◌, length, map, Option, Some, None, refl, sym, ap, ◌∙◌, subst, codes, arith, append_assoc, length-append, slice_index_or}
use Rattle.std.specs.List.{AllByRecursion}
use Rattle.type_tree.specs.declared.tree.TExpr.{TExpr}
use Rattle.il_text.specs.declared.token.TokenKind.TheVariants as token
use Rattle.il_text.specs.Spelling.{spells, magnitude_of}
use Rattle.il_model.specs.declared.member.MRef.{MRef}
use Rattle.il_model.specs.declared.member.FRef.{FRef}
use Rattle.il_model.specs.declared.written.WrittenType.{WrittenType}
use Rattle.il_model.specs.declared.written.WrittenMethodRef.{WrittenMethodRef}
use Rattle.il_model.specs.declared.written.WrittenFieldRef.{WrittenFieldRef}
use Rattle.il_model.specs.Lexemes.{Lexeme, IsOptional, absent, present, is_among}
use Rattle.il_model.specs.Words.{quoted_words}
use Rattle.il_model.specs.Types.{AreTypes, last_type, next_type, AreArguments, no_arguments, arguments}
use Rattle.il_model.specs.Members.{unless_read, IsMethodRef, method_ref, IsFieldRef, field_ref}
use Rattle.il_model.specs.Find.{class_number_of}
use Rattle.il_model.specs.Names.{Scope, NamesTypes, no_types, more_types, NamesResult, NamesParams}
use Rattle.il_model.specs.LookUp.{arity_of, scope_of_member, NamesMethodRef, NamesFieldRef}
use Rattle.il_model.specs.Canonical.{Word}
use Rattle.il_print.proofs.Keys.{Key, key_of, quoted, name_key, type_keys, result_keys, angled_keys, params_keys, method_ref_keys, field_ref_keys}
use Rattle.il_print.proofs.AgainKeys.{keys_first, keys_split, keys_one, keys_none, is_quoted, is_name}
use Rattle.il_print.proofs.AgainScopes.{IsFair, AreQuoted}
use Rattle.il_print.proofs.AgainTypes.{type_again}
use Rattle.il_print.proofs.AgainLists.{Reads}
use Rattle.il_print.proofs.AgainParams.{params_again, result_again, arguments_again}

-- ---- the lexemes of an accepted text

-- there are not too many, no number is too large, and each is spelled as its kind
pub record AreGenuine (ls : List Lexeme) : Type 0 where
  pub few : length ls < 2 ^ 64
  pub numbers : AllByRecursion (λ (l : Lexeme). l.kind ≡ token.Number → magnitude_of l.bytes < 2 ^ 64) ls
  pub spelled : AllByRecursion (λ (l : Lexeme). spells l.kind l.bytes ≡ true) ls

pub all_apart : {X : Type 0} (P : X → Type 0) (xs ys : List X) → AllByRecursion P (xs ++ ys) → AllByRecursion P xs × AllByRecursion P ys
all_apart P [] ys all = (tt, all)
all_apart P (x ∷ xs) ys all = let r = all_apart P xs ys all.1 in ((all.0, r.0), r.1)

pub genuine_front : (xs ys : List Lexeme) → AreGenuine (xs ++ ys) → AreGenuine xs
genuine_front xs ys g = record { few = omega (arith, g.few, length-append xs ys); numbers = (all_apart _ xs ys g.numbers).0; spelled = (all_apart _ xs ys g.spelled).0 }

pub genuine_back : (xs ys : List Lexeme) → AreGenuine (xs ++ ys) → AreGenuine ys
genuine_back xs ys g = record { few = omega (arith, g.few, length-append xs ys); numbers = (all_apart _ xs ys g.numbers).1; spelled = (all_apart _ xs ys g.spelled).1 }

pub genuine_rest : (l : Lexeme) (ls : List Lexeme) → AreGenuine (l ∷ ls) → AreGenuine ls
genuine_rest l ls g = record { few = omega (arith, g.few); numbers = g.numbers.1; spelled = g.spelled.1 }

-- ---- words that may stand before others

pub optional_again : (word : Word) (b : Bool) (ls : List Lexeme) → map key_of ls ≡ (if b then quoted word ∷ [] else []) → IsOptional word ls b
optional_again word true ls e =
    let one = keys_one ls (quoted word) e in
    subst (λ z. IsOptional word z true) (sym one.split) (present one.lexeme (is_quoted word one.lexeme one.is))
optional_again word false ls e = subst (λ z. IsOptional word z false) (sym (keys_none ls e)) absent

pub unless_quoted : (b : Bool) (word : Word) → is_among quoted_words word ≡ true → AreQuoted (unless_read b word)
unless_quoted true word e = refl
unless_quoted false word e = ap (λ t. t && true) e

-- ---- scopes of members

index_low : (counts : List ℕ) (number most : ℕ) → AllByRecursion (λ count. count < most) counts → 0 < most → slice_index_or counts number 0 < most
index_low [] number most all some = some
index_low (c ∷ cs) zero most all some = all.0
index_low (c ∷ cs) (suc number) most all some = index_low cs number most all.1 some

arity_low : (counts : List ℕ) (o : Option ℕ) (most : ℕ) → AllByRecursion (λ count. count < most) counts → 0 < most → arity_of counts o < most
arity_low counts None most all some = some
arity_low counts (Some number) most all some = index_low counts number most all some

pub fair_member : (s : Scope) → IsFair s → (class : TExpr) (count : ℕ) → count < 2 ^ 64 → IsFair (scope_of_member s class count)
fair_member s fair class count low = record {
  plain = fair.plain;
  arities = fair.arities;
  of_class = arity_low s.arities (class_number_of class) (2 ^ 64) fair.arities (omega arith);
  of_method = low;
}

pub names_length : (s : Scope) (written : List WrittenType) (ts : List TExpr) → NamesTypes s written ts → length written ≡ length ts
names_length s written ts (no_types s') = refl
names_length s written ts (more_types s' w t ws us is are) = ap suc (names_length s ws us are)

-- ---- methods

-- a method that a text names: it has a name that may be written, and not too many arguments
pub record NamedRef (s : Scope) (written : WrittenMethodRef) (m : MRef) : Type 0 where
  pub names : NamesMethodRef s written m
  pub free : is_among (codes ".cctor" ∷ []) m.name ≡ false
  pub few : length written.args < 2 ^ 64

types_short : (mark : Word) (ls : List Lexeme) (ts : List WrittenType) → AreTypes mark ls ts → length ts ≤ suc (length ls)
types_short mark ls ts (last_type m ws t is) = omega arith
types_short mark ls ts (next_type m ws front back l t us split is same are) =
    omega (arith, types_short mark back us are, ap length split, length-append front (l ∷ back))

arguments_short : (ls : List Lexeme) (ts : List WrittenType) → AreArguments ls ts → length ts ≤ length ls
arguments_short ls ts no_arguments = omega arith
arguments_short ls ts (arguments ws inner left right us split opens are closes) =
    omega (arith, types_short (codes ",") inner us are, ap length split, length-append inner (right ∷ []))

-- a written method that fits
abbrev pub FitsRef : WrittenMethodRef → Type 0
FitsRef written = (is_among (codes ".cctor" ∷ []) written.name ≡ false) × (length written.args < 2 ^ 64)

pub ref_fits : (ls : List Lexeme) (written : WrittenMethodRef) → IsMethodRef ls written → AreGenuine ls → FitsRef written
ref_fits ls written (method_ref ws before result class args params colons name left right is_instance r c ts ps split a b d e f g h i j) genuine =
    let whole = subst AreGenuine split genuine in
    let front = genuine_front (before ++ result ++ class ++ colons ∷ name ∷ args) (left ∷ params) (genuine_front _ (right ∷ []) whole) in
    let own = genuine_rest name args (genuine_rest colons (name ∷ args) (genuine_back (before ++ result ++ class) (colons ∷ name ∷ args) front)) in
    (f.free, omega (arith, own.few, arguments_short args ts g))

pub named_ref : (s : Scope) (written : WrittenMethodRef) (m : MRef) → FitsRef written → NamesMethodRef s written m → NamedRef s written m
named_ref s written m fits names = record { names = names; free = ap (is_among (codes ".cctor" ∷ [])) names.name ∙ fits.0; few = fits.1 }

pub method_again : (s : Scope) → IsFair s → (written : WrittenMethodRef) (m : MRef) → NamedRef s written m → Reads IsMethodRef (NamesMethodRef s) (method_ref_keys s.names) m
method_again s fair written m named ls e =
    let inside = scope_of_member s m.class (length written.args) in
    let fair_inside = fair_member s fair m.class (length written.args) named.few in
    let flag : List Key = if m.instance then quoted (codes "instance") ∷ [] else [] in
    let behind = quoted (codes "::") ∷ name_key m.name ∷ angled_keys (map (type_keys s.names) m.args) in
    let s1 = keys_split ls (flag ++ result_keys s.names m.result ++ type_keys s.names m.class ++ behind) (params_keys s.names m.params) e in
    let s2 = keys_split s1.front (flag ++ result_keys s.names m.result ++ type_keys s.names m.class) behind s1.first in
    let s3 = keys_split s2.front (flag ++ result_keys s.names m.result) (type_keys s.names m.class) s2.first in
    let s4 = keys_split s3.front flag (result_keys s.names m.result) s3.first in
    let colons = keys_first s2.back (quoted (codes "::")) _ s2.second in
    let name = keys_first colons.rest (name_key m.name) _ colons.are in
    let class = type_again s fair written.class m.class named.names.class [] refl s3.back s3.second in
    let args = arguments_again s fair written.args m.args named.names.args name.rest name.are in
    let same : length written.args ≡ length args.types = names_length s written.args m.args named.names.args ∙ sym (names_length s args.types m.args args.names) in
    let result = result_again inside fair_inside written.result m.result named.names.gives (unless_read m.instance (codes "instance"))
    (unless_quoted m.instance (codes "instance") refl) s4.back s4.second
    in
    let params = params_again inside fair_inside written.params m.params named.names.params s1.back s1.second in
    let c = params.enclosed in
    let front : s1.front ≡ s4.front ++ s4.back ++ s3.back ++ colons.lexeme ∷ name.lexeme ∷ name.rest =
    s2.split ∙ ap (λ z. z ++ s2.back) (s3.split ∙ ap (λ z. z ++ s3.back) s4.split)
    ∙ ap (λ z. s4.front ++ s4.back ++ s3.back ++ z) (colons.split ∙ ap (λ z. colons.lexeme ∷ z) name.split)
    in
    let spelled : ls ≡ s4.front ++ s4.back ++ s3.back ++ colons.lexeme ∷ name.lexeme ∷ name.rest ++ c.left ∷ c.inner ++ c.right ∷ [] =
    s1.split ∙ ap (λ z. z ++ s1.back) front ∙ ap (λ z. s4.front ++ s4.back ++ s3.back ++ colons.lexeme ∷ name.lexeme ∷ name.rest ++ z) c.split
    ∙ sym (append_assoc (s4.front ++ s4.back ++ s3.back ++ colons.lexeme ∷ name.lexeme ∷ name.rest) (c.left ∷ c.inner) (c.right ∷ []))
    in
    record {
      item = record { instance = m.instance; result = result.item; class = class.type; name = name.lexeme.bytes; args = args.types; params = params.params };
      is = method_ref ls s4.front s4.back s3.back name.rest c.inner colons.lexeme name.lexeme c.left c.right m.instance result.item class.type args.types params.params
          spelled (optional_again (codes "instance") m.instance s4.front s4.first) result.is class.is (is_quoted (codes "::") colons.lexeme colons.is)
          (is_name (codes ".cctor" ∷ []) m.name name.lexeme name.is named.free) args.are c.opens params.are c.closes;
      names = record {
        instance = refl;
        class = class.names;
        name = sym (ap (λ k. k.bytes) name.is);
        args = args.names;
        gives = subst (λ count. NamesResult (scope_of_member s m.class count) result.item m.result) same result.names;
        params = subst (λ count. NamesParams (scope_of_member s m.class count) params.params m.params) same params.names;
      };
    }

-- ---- fields

pub field_again : (s : Scope) → IsFair s → (written : WrittenFieldRef) (f : FRef) → NamesFieldRef s written f → Reads IsFieldRef (NamesFieldRef s) (field_ref_keys s.names) f
field_again s fair written f named ls e =
    let s1 = keys_split ls (type_keys s.names f.kind ++ type_keys s.names f.class) (quoted (codes "::") ∷ name_key f.name ∷ []) e in
    let s2 = keys_split s1.front (type_keys s.names f.kind) (type_keys s.names f.class) s1.first in
    let colons = keys_first s1.back (quoted (codes "::")) (name_key f.name ∷ []) s1.second in
    let name = keys_one colons.rest (name_key f.name) colons.are in
    let kind = type_again (scope_of_member s f.class 0) (fair_member s fair f.class 0 (omega arith)) written.kind f.kind named.kind [] refl s2.front s2.first in
    let class = type_again s fair written.class f.class named.class [] refl s2.back s2.second in
    let spelled : ls ≡ s2.front ++ s2.back ++ colons.lexeme ∷ name.lexeme ∷ [] =
    s1.split ∙ ap (λ z. z ++ s1.back) s2.split ∙ ap (λ z. s2.front ++ s2.back ++ z) (colons.split ∙ ap (λ z. colons.lexeme ∷ z) name.split)
    in
    record {
      item = record { kind = kind.type; class = class.type; name = name.lexeme.bytes };
      is = field_ref ls s2.front s2.back colons.lexeme name.lexeme kind.type class.type spelled kind.is class.is (is_quoted (codes "::") colons.lexeme colons.is)
          (is_name [] f.name name.lexeme name.is refl);
      names = record { class = class.names; name = sym (ap (λ k. k.bytes) name.is); kind = kind.names };
    }
