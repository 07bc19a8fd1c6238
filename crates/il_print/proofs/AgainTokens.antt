-- The tokens of a type in a text are alike those of the canonical text, and lexemes alike those of a type spell one too.
use Rattle.std.proofs.Common.{◌≡◌, ℕ, zero, suc, Bool, true, false, if◌then◌else◌, cond, List, [], ◌∷◌, ◌++◌, map, Option, Some, None, is_some, unwrap_or, refl, sym, ap, ◌∙◌, subst, codes, arith, bytes_eq, slice_get, position, lt-ltb, inl, inr}
use Rattle.std.specs.List.{AllByRecursion, list_all}
use Rattle.std.proofs.lemmas.Bool.{true≢false, cases_Bool, and_parts}
use Rattle.std.proofs.lemmas.Slice.Eq.{bytes_eq-Decides}
use Rattle.type_tree.specs.Printed.{class_name}
use Rattle.il_text.specs.declared.token.TokenKind.{TokenKind}
use Rattle.il_text.specs.declared.token.TokenKind.TheVariants as token
use Rattle.il_text.specs.Spelling.{spells, is_variable, is_method_variable, is_number, is_text, is_mark}
use Rattle.il_model.specs.declared.written.WrittenType.{WrittenType}
use Rattle.il_model.specs.Lexemes.{Lexeme, Is, IsName, name_at, is_among}
use Rattle.il_model.specs.Words.{type_words, type_keywords}
use Rattle.il_model.specs.Spellings.{plain_name}
use Rattle.il_model.specs.Types.{IsType, keyword, variable, named, applied, vector, AreTypes, last_type, next_type}
use Rattle.il_model.specs.Names.{Scope, Each, end, both, class_number}
use Rattle.il_model.specs.Canonical.{Word, long_names}
use Rattle.il_print.proofs.Keys.{Key, quoted, kind_of, name_key, variable_key, keys_between}
use Rattle.il_print.proofs.AgainScopes.{ArePlain, class_found}
use Rattle.il_print.proofs.AgainMembers.{AreGenuine, genuine_front, genuine_back, genuine_rest}
use Rattle.il_print.proofs.AgainInstrs.{all_contained}
use Rattle.il_print.proofs.AgainAlike.{is_no_mark, IsAlike, alike_same, alike_object, alike_string, alike_variable, number_of, variable_text, named_keys, written_keys, is_found, keys-int32, keys-int64, keys-bool, keys-object, keys-string, keys-variable, keys-named, keys-vector, found-named, found-vector}

-- ---- kinds

-- what only a word can spell
pub word_kind : (k : TokenKind) (bytes : List ℕ) → is_variable bytes ≡ false → is_number bytes ≡ false → is_text bytes ≡ false → is_mark bytes ≡ false →
    spells k bytes ≡ true → k ≡ token.Word
word_kind token.Word bytes a b c d e = refl
word_kind token.Variable bytes a b c d e = absurd (true≢false (sym e ∙ a))
word_kind token.Number bytes a b c d e = absurd (true≢false (sym e ∙ b))
word_kind token.Text bytes a b c d e = absurd (true≢false (sym e ∙ c))
word_kind token.Mark bytes a b c d e = absurd (true≢false (sym e ∙ d))

-- a quoted word of a text is a word
pub quoted_alike : (word : Word) (l : Lexeme) → kind_of word ≡ token.Word → is_variable word ≡ false → is_number word ≡ false → is_text word ≡ false → is_mark word ≡ false →
    spells l.kind l.bytes ≡ true → Is word l → IsAlike l (quoted word)
quoted_alike word l kind a b c d spelled is = alike_same is (λ e. word_kind l.kind word a b c d (ap (spells l.kind) (sym is) ∙ spelled) ∙ sym kind)

-- a mark of a text, whatever its kind
pub mark_alike : (mark : Word) (l : Lexeme) → is_no_mark (kind_of mark) ≡ false → Is mark l → IsAlike l (quoted mark)
mark_alike mark l mark_kind is = alike_same is (λ e. absurd (true≢false (sym e ∙ mark_kind)))

-- ---- names of classes

-- a name is a long one, or plain as it stands
data PlainOf (name : List ℕ) : Type 0 where
  long_object : name ≡ codes "System.Object" → plain_name name ≡ codes "object" → PlainOf name
  long_string : name ≡ codes "System.String" → plain_name name ≡ codes "string" → PlainOf name
  as_written : plain_name name ≡ name → PlainOf name

plain_of : (name : List ℕ) → PlainOf name
plain_of name =
    elim (cases_Bool (bytes_eq name (codes "System.Object"))) [
      | inl hit ↦ let e = (bytes_eq-Decides name (codes "System.Object")).0 hit in long_object e (ap plain_name e)
      | inr miss ↦ elim (cases_Bool (bytes_eq name (codes "System.String"))) [
        | inl hit ↦ let e = (bytes_eq-Decides name (codes "System.String")).0 hit in long_string e (ap plain_name e)
        | inr other ↦
            as_written (ap (λ b. if b then codes "object" else (if bytes_eq name (codes "System.String") then codes "string" else name)) miss
            ∙ ap (λ b. if b then codes "string" else name) other)
      ]
    ]

pub not_quoted : (words : List Word) (name word : List ℕ) → is_among words name ≡ false → is_among words word ≡ true → ¬ (name ≡ word)
not_quoted words name word free some same = true≢false (sym some ∙ ap (is_among words) (sym same) ∙ free)

-- the first class has the name `object`, and the second one `string`
first_place : (names rest : List Word) (name : List ℕ) (number : ℕ) → names ≡ codes "object" ∷ codes "string" ∷ rest → plain_name name ≡ codes "object" →
    class_number names name ≡ Some number → number ≡ 0
first_place names rest name number begins plain e =
    let at : class_number names name ≡ Some 0 =
    ap (λ ns. class_number ns name) begins
    ∙ ap (λ x. position (λ known. bytes_eq x known) (map plain_name (codes "object" ∷ codes "string" ∷ rest))) plain
    ∙ ap (λ b. cond b (Some 0) None) (lt-ltb 0 _ (omega arith))
    in
    ap (λ o. unwrap_or o number) (sym e ∙ at)

second_place : (names rest : List Word) (name : List ℕ) (number : ℕ) → names ≡ codes "object" ∷ codes "string" ∷ rest → plain_name name ≡ codes "string" →
    class_number names name ≡ Some number → number ≡ 1
second_place names rest name number begins plain e =
    let at : class_number names name ≡ Some 1 =
    ap (λ ns. class_number ns name) begins
    ∙ ap (λ x. position (λ known. bytes_eq x known) (map plain_name (codes "object" ∷ codes "string" ∷ rest))) plain
    ∙ ap (λ b. cond b (Some 1) None) (lt-ltb 1 _ (omega arith))
    in
    ap (λ o. unwrap_or o number) (sym e ∙ at)

-- a name that isn't `object` or `string` is the long one of these, or that of another class
data WhichName (names : List Word) (name : List ℕ) (number : ℕ) : Type 0 where
  names_object : number ≡ 0 → name ≡ codes "System.Object" → WhichName names name number
  names_string : number ≡ 1 → name ≡ codes "System.String" → WhichName names name number
  names_other : (k : ℕ) → number ≡ suc (suc k) → slice_get names number ≡ Some name → WhichName names name number

no_string : ¬ (codes "object" ≡ codes "string")
no_string e = true≢false (ap (bytes_eq (codes "object")) e)

which_at : (names rest : List Word) (name canonical : List ℕ) (number : ℕ) → names ≡ codes "object" ∷ codes "string" ∷ rest →
    ¬ (name ≡ codes "object") → ¬ (name ≡ codes "string") → class_number names name ≡ Some number → slice_get names number ≡ Some canonical →
    plain_name canonical ≡ plain_name name → PlainOf name → PlainOf canonical → WhichName names name number
which_at names rest name canonical number begins no_o no_s e is same (long_object f p) other = names_object (first_place names rest name number begins p e) f
which_at names rest name canonical number begins no_o no_s e is same (long_string f p) other = names_string (second_place names rest name number begins p e) f
which_at names rest name canonical number begins no_o no_s e is same (as_written p) (long_object f q) = absurd (no_o (sym p ∙ sym same ∙ q))
which_at names rest name canonical number begins no_o no_s e is same (as_written p) (long_string f q) = absurd (no_s (sym p ∙ sym same ∙ q))
which_at names rest name canonical zero begins no_o no_s e is same (as_written p) (as_written q) =
    let first : codes "object" ≡ canonical = ap (λ o. unwrap_or o canonical) (sym (ap (λ ns. slice_get ns 0) begins) ∙ is) in
    absurd (no_o (sym p ∙ sym same ∙ q ∙ sym first))
which_at names rest name canonical (suc zero) begins no_o no_s e is same (as_written p) (as_written q) =
    let second : codes "string" ≡ canonical = ap (λ o. unwrap_or o canonical) (sym (ap (λ ns. slice_get ns 1) begins) ∙ is) in
    absurd (no_s (sym p ∙ sym same ∙ q ∙ sym second))
which_at names rest name canonical (suc (suc k)) begins no_o no_s e is same (as_written p) (as_written q) =
    names_other k refl (is ∙ ap Some (sym q ∙ same ∙ p))

which_name : (names : List Word) → ArePlain names → (words : List Word) (l : Lexeme) (number : ℕ) → IsName (type_keywords ++ words) l →
    class_number names l.bytes ≡ Some number → WhichName names l.bytes number
which_name names plain words l number name e =
    let c = class_found names l.bytes number e in
    which_at names plain.rest l.bytes c.canonical number plain.begins
    (not_quoted (type_keywords ++ words) l.bytes (codes "object") name.free refl) (not_quoted (type_keywords ++ words) l.bytes (codes "string") name.free refl)
    e c.is c.same (plain_of l.bytes) (plain_of c.canonical)

short_alike : (names : List Word) → ArePlain names → (l : Lexeme) (number : ℕ) → l.kind ≡ token.Word → WhichName names l.bytes number →
    IsAlike l (name_key (class_name names number))
short_alike names plain l number word (names_object e f) =
    alike_object word f (ap (class_name names) e ∙ ap (λ ns. class_name ns 0) plain.begins)
short_alike names plain l number word (names_string e f) =
    alike_string word f (ap (class_name names) e ∙ ap (λ ns. class_name ns 1) plain.begins)
short_alike names plain l number word (names_other k e f) = alike_same (sym (ap (λ o. unwrap_or o []) f)) (λ x. word)

long_of : (names rest : List Word) (number k : ℕ) → names ≡ codes "object" ∷ codes "string" ∷ rest → number ≡ suc (suc k) →
    class_name (long_names names) number ≡ class_name names number
long_of names rest number k begins e =
    ap (class_name (long_names names)) e ∙ ap (λ ns. class_name (long_names ns) (suc (suc k))) begins
    ∙ sym (ap (class_name names) e ∙ ap (λ ns. class_name ns (suc (suc k))) begins)

long_alike : (names : List Word) → ArePlain names → (l : Lexeme) (number : ℕ) → l.kind ≡ token.Word → WhichName names l.bytes number →
    IsAlike l (name_key (class_name (long_names names) number))
long_alike names plain l number word (names_object e f) =
    alike_same (f ∙ sym (ap (class_name (long_names names)) e ∙ ap (λ ns. class_name (long_names ns) 0) plain.begins)) (λ x. word)
long_alike names plain l number word (names_string e f) =
    alike_same (f ∙ sym (ap (class_name (long_names names)) e ∙ ap (λ ns. class_name (long_names ns) 1) plain.begins)) (λ x. word)
long_alike names plain l number word (names_other k e f) =
    alike_same (sym (long_of names plain.rest number k plain.begins e ∙ ap (λ o. unwrap_or o []) f)) (λ x. word)

-- ---- types

pub each_joined : {A B : Type 0} (R : A → B → Type 0) (xs ys : List A) (us vs : List B) → Each R xs us → Each R ys vs → Each R (xs ++ ys) (us ++ vs)
each_joined R xs ys us vs end q = q
each_joined R xs ys us vs (both x a xs1 us1 is are) q = both x a (xs1 ++ ys) (us1 ++ vs) is (each_joined R xs1 ys us1 vs are q)

abbrev pub AreAlike : List Lexeme → List Key → Type 0
AreAlike = Each IsAlike

pub one_alike : (l : Lexeme) (k : Key) → IsAlike l k → AreAlike (l ∷ []) (k ∷ [])
one_alike l k is = both l k [] [] is end

abbrev KeywordAlike : Scope → List ℕ × WrittenType → Type 0
KeywordAlike s row = (l : Lexeme) → spells l.kind l.bytes ≡ true → l.bytes ≡ row.0 → AreAlike (l ∷ []) (written_keys s row.1)

name_of_word : (word : Word) (l : Lexeme) (k : Key) → k.kind ≡ token.Word → is_variable word ≡ false → is_number word ≡ false → is_text word ≡ false → is_mark word ≡ false →
    spells l.kind l.bytes ≡ true → l.bytes ≡ word → k.bytes ≡ word → IsAlike l k
name_of_word word l k kind a b c d spelled is same = alike_same (is ∙ sym same) (λ e. word_kind l.kind word a b c d (ap (spells l.kind) (sym is) ∙ spelled) ∙ sym kind)

keywords_alike : (s : Scope) → ArePlain s.names → AllByRecursion (KeywordAlike s) type_words
keywords_alike s plain = (
  λ l spelled is. subst (AreAlike (l ∷ [])) (sym (keys-int32 s)) (one_alike l (quoted (codes "int32")) (quoted_alike (codes "int32") l refl refl refl refl refl spelled is)),
  (
    λ l spelled is. subst (AreAlike (l ∷ [])) (sym (keys-int64 s)) (one_alike l (quoted (codes "int64")) (quoted_alike (codes "int64") l refl refl refl refl refl spelled is)),
    (
      λ l spelled is. subst (AreAlike (l ∷ [])) (sym (keys-bool s)) (one_alike l (quoted (codes "bool")) (quoted_alike (codes "bool") l refl refl refl refl refl spelled is)),
      (
        λ l spelled is. subst (AreAlike (l ∷ [])) (sym (keys-object s)) (one_alike l (name_key (class_name s.names 0))
            (name_of_word (codes "object") l (name_key (class_name s.names 0)) refl refl refl refl refl spelled is (ap (λ ns. class_name ns 0) plain.begins))),
        (
          λ l spelled is. subst (AreAlike (l ∷ [])) (sym (keys-string s)) (one_alike l (name_key (class_name s.names 1))
              (name_of_word (codes "string") l (name_key (class_name s.names 1)) refl refl refl refl refl spelled is (ap (λ ns. class_name ns 1) plain.begins))),
          tt,
        ),
      ),
    ),
  ),
)

found_number : (o : Option ℕ) → is_some o ≡ true → o ≡ Some (unwrap_or o 0)
found_number None e = absurd (true≢false (sym e))
found_number (Some n) e = refl

variable_is_alike : (bytes : List ℕ) (b : Bool) (l : Lexeme) → l.kind ≡ token.Variable → IsAlike l (variable_key (variable_text b bytes))
variable_is_alike bytes true l is = alike_variable _ is refl refl
variable_is_alike bytes false l is = alike_variable _ is refl refl

pub some_types : (mark : Word) (ls : List Lexeme) (ts : List WrittenType) → AreTypes mark ls ts → ¬ (ts ≡ [])
some_types mark ls ts (last_type m ws t is) e = absurd cc
some_types mark ls ts (next_type m ws front back l t us split is same are) e = absurd cc

-- behind the name of a class; there is one argument at least
applied_alike : (s : Scope) (number : ℕ) (l left : Lexeme) (inner : List Lexeme) (right : Lexeme) (args : List WrittenType) → AreTypes (codes ",") inner args →
    IsAlike l (name_key (class_name (long_names s.names) number)) → IsAlike left (quoted (codes "<")) →
    AreAlike inner (keys_between (codes ",") (map (written_keys s) args)) → IsAlike right (quoted (codes ">")) →
    AreAlike (l ∷ left ∷ inner ++ right ∷ []) (named_keys s number (map (written_keys s) args))
applied_alike s number l left inner right [] are a b c d = absurd (some_types (codes ",") inner [] are refl)
applied_alike s number l left inner right (t ∷ ts) are a b c d =
    let inside = keys_between (codes ",") (map (written_keys s) (t ∷ ts)) in
    both l _ (left ∷ inner ++ right ∷ []) (quoted (codes "<") ∷ inside ++ quoted (codes ">") ∷ []) a
    (both left (quoted (codes "<")) (inner ++ right ∷ []) (inside ++ quoted (codes ">") ∷ []) b
    (each_joined IsAlike inner (right ∷ []) inside (quoted (codes ">") ∷ []) c (one_alike right (quoted (codes ">")) d)))

later_alike : (s : Scope) (mark : Word) (front back : List Lexeme) (l : Lexeme) (t : WrittenType) (us : List WrittenType) → AreTypes mark back us →
    AreAlike front (written_keys s t) → IsAlike l (quoted mark) → AreAlike back (keys_between mark (map (written_keys s) us)) →
    AreAlike (front ++ l ∷ back) (keys_between mark (map (written_keys s) (t ∷ us)))
later_alike s mark front back l t [] are a b c = absurd (some_types mark back [] are refl)
later_alike s mark front back l t (u ∷ us) are a b c =
    each_joined IsAlike front (l ∷ back) (written_keys s t) (quoted mark ∷ keys_between mark (map (written_keys s) (u ∷ us))) a
    (both l (quoted mark) back (keys_between mark (map (written_keys s) (u ∷ us))) b c)

mutual
  -- the lexemes of a type whose classes are found are alike its keys
  pub type_alike : (s : Scope) → ArePlain s.names → (words : List Word) (ls : List Lexeme) (t : WrittenType) → IsType words ls t → AreGenuine ls → is_found s t ≡ true →
      AreAlike ls (written_keys s t)
  type_alike s plain words ls t (keyword q l u among) genuine found =
      all_contained (KeywordAlike s) type_words (l.bytes, t) (keywords_alike s plain) among l genuine.spelled.0 refl
  type_alike s plain words ls t (variable q l u is e) genuine found =
      subst (AreAlike (l ∷ [])) (sym (ap (written_keys s) e ∙ keys-variable s (name_at l))) (one_alike l _ (variable_is_alike l.bytes (is_method_variable l.bytes) l is))
  type_alike s plain words ls t (named q l u name e) genuine found =
      let some = (and_parts (is_some (class_number s.names l.bytes)) true (sym (found-named s (name_at l) []) ∙ sym (ap (is_found s) e) ∙ found)).0 in
      let number = found_number (class_number s.names l.bytes) some in
      subst (AreAlike (l ∷ [])) (sym (ap (written_keys s) e ∙ keys-named s (name_at l) []))
      (one_alike l _ (short_alike s.names plain l (number_of s l.bytes) name.word (which_name s.names plain words l (number_of s l.bytes) name number)))
  type_alike s plain words ls t (applied q ws inner l left right u args split name opens are closes e) genuine found =
      let parts = and_parts (is_some (class_number s.names l.bytes)) (list_all (λ b. b) (map (is_found s) args)) (sym (found-named s (name_at l) args) ∙ sym (ap (is_found s) e) ∙ found) in
      let number = found_number (class_number s.names l.bytes) parts.0 in
      let own = genuine_front inner (right ∷ []) (genuine_rest left (inner ++ right ∷ []) (genuine_rest l (left ∷ inner ++ right ∷ []) (subst AreGenuine split genuine))) in
      let inside = types_alike s plain (codes ",") refl inner args are own parts.1 in
      let head = long_alike s.names plain l (number_of s l.bytes) name.word (which_name s.names plain words l (number_of s l.bytes) name number) in
      subst (AreAlike ls) (sym (ap (written_keys s) e ∙ keys-named s (name_at l) args))
      (subst (λ z. AreAlike z (named_keys s (number_of s l.bytes) (map (written_keys s) args))) (sym split)
      (applied_alike s (number_of s l.bytes) l left inner right args are head (mark_alike (codes "<") left refl opens) inside
      (mark_alike (codes ">") right refl closes)))
  type_alike s plain words ls t (vector q ws front l u element split is same e) genuine found =
      let own = genuine_front front (l ∷ []) (subst AreGenuine split genuine) in
      let inside = type_alike s plain words front element is own (sym (found-vector s element) ∙ sym (ap (is_found s) e) ∙ found) in
      subst (AreAlike ls) (sym (ap (written_keys s) e ∙ keys-vector s element))
      (subst (λ z. AreAlike z (written_keys s element ++ quoted (codes "[]") ∷ [])) (sym split)
      (each_joined IsAlike front (l ∷ []) (written_keys s element) (quoted (codes "[]") ∷ []) inside
      (one_alike l (quoted (codes "[]")) (mark_alike (codes "[]") l refl same))))

  pub types_alike : (s : Scope) → ArePlain s.names → (mark : Word) → is_no_mark (kind_of mark) ≡ false → (ls : List Lexeme) (ts : List WrittenType) → AreTypes mark ls ts → AreGenuine ls →
      list_all (λ b. b) (map (is_found s) ts) ≡ true → AreAlike ls (keys_between mark (map (written_keys s) ts))
  types_alike s plain mark mark_kind ls ts (last_type m ws t is) genuine found = type_alike s plain [] ls t is genuine (and_parts (is_found s t) true found).0
  types_alike s plain mark mark_kind ls ts (next_type m ws front back l t us split is same are) genuine found =
      let parts = and_parts (is_found s t) (list_all (λ b. b) (map (is_found s) us)) found in
      let whole = subst AreGenuine split genuine in
      let a = type_alike s plain [] front t is (genuine_front front (l ∷ back) whole) parts.0 in
      let b = types_alike s plain mark mark_kind back us are (genuine_rest l back (genuine_back front (l ∷ back) whole)) parts.1 in
      subst (λ z. AreAlike z (keys_between mark (map (written_keys s) (t ∷ us)))) (sym split)
      (later_alike s mark front back l t us are a (mark_alike mark l mark_kind same) b)
