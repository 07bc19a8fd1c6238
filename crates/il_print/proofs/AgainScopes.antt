-- The scopes of a program that a text gives: what the names of its classes are.
use Rattle.std.proofs.Common.{◌≡◌, ℕ, zero, suc, ◌+◌, ◌<◌, ◌^◌, Bool, true, false, not, cond, List, [], ◌∷◌, length, map, Option, Some, None, refl, sym, ap, ◌∙◌, subst, codes, bytes_eq, slice_get, unwrap_or, position, option_map, nat_lt, arith, inl, inr, is_some}
use Rattle.std.specs.List.{AllByRecursion, list_all, position_or_len}
use Rattle.std.proofs.lemmas.Bool.{true≢false, cases_Bool, and_parts, or_from, ltb-true}
use Rattle.std.proofs.lemmas.Option.{slice_get-map}
use Rattle.std.proofs.lemmas.Slice.Eq.{bytes_eq-Decides}
use Rattle.type_tree.specs.Printed.{class_name}
use Rattle.il_model.specs.Lexemes.{is_among}
use Rattle.il_model.specs.Spellings.{plain_name}
use Rattle.il_model.specs.Words.{quoted_words}
use Rattle.il_model.specs.Names.{Scope, class_number, place_of}
use Rattle.il_model.specs.Canonical.{Word, long_names}

-- the names of classes: `object` and `string`, and then no word that the grammar quotes
pub record ArePlain (names : List Word) : Type 0 where
  pub rest : List Word
  pub begins : names ≡ codes "object" ∷ codes "string" ∷ rest
  pub free : (number : ℕ) (name : Word) → slice_get rest number ≡ Some name → is_among quoted_words name ≡ false

-- a scope with such names, and numbers of variables that decimal digits give
pub record IsFair (s : Scope) : Type 0 where
  pub plain : ArePlain s.names
  pub arities : AllByRecursion (λ count. count < 2 ^ 64) s.arities
  pub of_class : s.of_class < 2 ^ 64
  pub of_method : s.of_method < 2 ^ 64

-- words that the grammar quotes
abbrev pub AreQuoted : List Word → Type 0
AreQuoted words = list_all (λ word. is_among quoted_words word) words ≡ true

one_among : (words : List Word) (w name : Word) → is_among words w ≡ true → is_among words name ≡ false → bytes_eq w name ≡ false
one_among words w name some none =
    elim (cases_Bool (bytes_eq w name)) [
      | inl hit ↦ absurd (true≢false (sym some ∙ ap (is_among words) ((bytes_eq-Decides w name).0 hit) ∙ none))
      | inr miss ↦ miss
    ]

-- a name that is no quoted word is none of these
pub none_quoted : (words : List Word) (name : Word) → AreQuoted words → is_among quoted_words name ≡ false → is_among words name ≡ false
none_quoted [] name are free = refl
none_quoted (w ∷ ws) name are free =
    let parts = and_parts (is_among quoted_words w) (list_all (λ word. is_among quoted_words word) ws) are in
    or_from (bytes_eq w name) (is_among ws name) (one_among quoted_words w name parts.0 free) (none_quoted ws name parts.1 free)

-- ---- the class that a name finds

pub record Passes {X : Type 0} (p : X → Bool) (xs : List X) (n : ℕ) : Type 0 where
  pub item : X
  pub is : slice_get xs n ≡ Some item
  pub passes : p item ≡ true

passes_here : {X : Type 0} (p : X → Bool) (x : X) (xs : List X) (b : Bool) → p x ≡ b → cond (not b) (1 + position_or_len p xs) 0 < suc (length xs) →
    (position_or_len p xs < length xs → Passes p xs (position_or_len p xs)) → Passes p (x ∷ xs) (cond (not b) (1 + position_or_len p xs) 0)
passes_here p x xs true e inside later = record { item = x; is = refl; passes = e }
passes_here p x xs false e inside later =
    let r = later (omega (arith, inside)) in
    let next : suc (position_or_len p xs) ≡ 1 + position_or_len p xs = omega arith in
    subst (Passes p (x ∷ xs)) next (record { item = r.item; is = r.is; passes = r.passes })

pub first_passes : {X : Type 0} (p : X → Bool) (xs : List X) → position_or_len p xs < length xs → Passes p xs (position_or_len p xs)
first_passes p [] inside = absurd (omega (arith, inside))
first_passes p (x ∷ xs) inside = passes_here p x xs (p x) refl inside (λ e. first_passes p xs e)

position_passes : {X : Type 0} (p : X → Bool) (xs : List X) (n : ℕ) → position p xs ≡ Some n → Passes p xs n
position_passes p xs n e = by_test (nat_lt (position_or_len p xs) (length xs)) refl e where
  by_test : (b : Bool) → nat_lt (position_or_len p xs) (length xs) ≡ b → cond b (Some (position_or_len p xs)) None ≡ Some n → Passes p xs n
  by_test true inside found =
      let at : position_or_len p xs ≡ n = ap (λ o. unwrap_or o n) found in
      subst (Passes p xs) at (first_passes p xs (ltb-true (position_or_len p xs) (length xs) inside))
  by_test false inside found = absurd (true≢false (sym (ap is_some found)))

-- the name of the class that another name finds
pub record ClassFound (names : List Word) (name : Word) (number : ℕ) : Type 0 where
  pub canonical : Word
  pub is : slice_get names number ≡ Some canonical
  pub same : plain_name canonical ≡ plain_name name

class_of_plain : (names : List Word) (name : Word) (number : ℕ) (o : Option Word) (y : Word) → slice_get names number ≡ o → option_map plain_name o ≡ Some y →
    bytes_eq (plain_name name) y ≡ true → ClassFound names name number
class_of_plain names name number None y is e hit = absurd (true≢false (sym (ap is_some e)))
class_of_plain names name number (Some c) y is e hit = record {
  canonical = c;
  is = is;
  same = ap (λ o. unwrap_or o y) e ∙ sym ((bytes_eq-Decides (plain_name name) y).0 hit);
}

pub class_found : (names : List Word) (name : Word) (number : ℕ) → class_number names name ≡ Some number → ClassFound names name number
class_found names name number e =
    let r = position_passes (λ known. bytes_eq (plain_name name) known) (map plain_name names) number e in
    class_of_plain names name number (slice_get names number) r.item refl (sym (slice_get-map plain_name names number) ∙ r.is) r.passes

-- a name finds what another of the same plain name does
pub same_class : (names : List Word) (name other : Word) (number : ℕ) → class_number names name ≡ Some number → plain_name other ≡ plain_name name →
    class_number names other ≡ Some number
same_class names name other number e same = ap (place_of (map plain_name names)) same ∙ e

-- the name by which a class with arguments goes is no quoted word, and finds it
pub record LongName (names : List Word) (number : ℕ) : Type 0 where
  pub free : is_among quoted_words (class_name (long_names names) number) ≡ false
  pub found : class_number names (class_name (long_names names) number) ≡ Some number

long_name_of : (names rest : List Word) (number : ℕ) (name canonical : Word) → names ≡ codes "object" ∷ codes "string" ∷ rest →
    ((n : ℕ) (each : Word) → slice_get rest n ≡ Some each → is_among quoted_words each ≡ false) →
    class_number names name ≡ Some number → slice_get (codes "object" ∷ codes "string" ∷ rest) number ≡ Some canonical → plain_name canonical ≡ plain_name name →
    LongName names number
long_name_of names rest zero name canonical begins free e is same =
    let at : class_name (long_names names) 0 ≡ codes "System.Object" = ap (λ ns. class_name (long_names ns) 0) begins in
    let first : codes "object" ≡ canonical = ap (λ o. unwrap_or o canonical) is in
    record {
      free = ap (is_among quoted_words) at;
      found = same_class names name (class_name (long_names names) 0) 0 e (ap plain_name at ∙ ap plain_name first ∙ same);
    }
long_name_of names rest (suc zero) name canonical begins free e is same =
    let at : class_name (long_names names) 1 ≡ codes "System.String" = ap (λ ns. class_name (long_names ns) 1) begins in
    let first : codes "string" ≡ canonical = ap (λ o. unwrap_or o canonical) is in
    record {
      free = ap (is_among quoted_words) at;
      found = same_class names name (class_name (long_names names) 1) 1 e (ap plain_name at ∙ ap plain_name first ∙ same);
    }
long_name_of names rest (suc (suc k)) name canonical begins free e is same =
    let at : class_name (long_names names) (suc (suc k)) ≡ canonical = ap (λ ns. class_name (long_names ns) (suc (suc k))) begins ∙ ap (λ o. unwrap_or o []) is in
    record {
      free = ap (is_among quoted_words) at ∙ free k canonical is;
      found = same_class names name (class_name (long_names names) (suc (suc k))) (suc (suc k)) e (ap plain_name at ∙ same);
    }

pub long_name : (names : List Word) → ArePlain names → (name : Word) (number : ℕ) → class_number names name ≡ Some number → LongName names number
long_name names plain name number e =
    let c = class_found names name number e in
    long_name_of names plain.rest number name c.canonical plain.begins plain.free e (ap (λ ns. slice_get ns number) (sym plain.begins) ∙ c.is) c.same
