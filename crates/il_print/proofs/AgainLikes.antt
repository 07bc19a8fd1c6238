-- Lexemes alike those of a type spell a type too.
use Rattle.std.proofs.Common.{◌≡◌, Bool, true, false, List, [], ◌∷◌, ◌++◌, map, refl, sym, ap, ◌∙◌, subst, codes, Contains, bytes_eq}
use Rattle.std.proofs.lemmas.Bool.{true≢false}
use Rattle.il_text.specs.declared.token.TokenKind.{TokenKind}
use Rattle.il_text.specs.declared.token.TokenKind.TheVariants as token
use Rattle.il_model.specs.declared.written.WrittenType.{WrittenType}
use Rattle.il_model.specs.declared.written.WrittenType.TheVariants as w
use Rattle.il_model.specs.Lexemes.{Lexeme, Is, IsName, name_at, is_among}
use Rattle.il_model.specs.Words.{type_words, type_keywords}
use Rattle.il_model.specs.Types.{IsType, keyword, variable, named, applied, vector, AreTypes, last_type, next_type}
use Rattle.il_model.specs.Names.{Each, end, both}
use Rattle.il_model.specs.Canonical.{Word}
use Rattle.il_print.proofs.Keys.{Key, key_of}
use Rattle.il_print.proofs.AgainScopes.{AreQuoted, none_quoted}
use Rattle.il_print.proofs.AgainForms.{is_no_variable}
use Rattle.il_print.proofs.AgainAlike.{is_no_mark, IsAlike, alike_same, alike_object, alike_string, alike_variable}
use Rattle.il_print.proofs.AgainTokens.{not_quoted, AreAlike}

-- ---- lexemes that are alike

abbrev pub IsLike : Lexeme → Lexeme → Type 0
IsLike l k = IsAlike l (key_of k)

pub record LikeFirst (ls : List Lexeme) (k : Lexeme) (ks : List Lexeme) : Type 0 where
  pub first : Lexeme
  pub rest : List Lexeme
  pub split : ls ≡ first ∷ rest
  pub is : IsLike first k
  pub are : Each IsLike rest ks

pub like_first : (ls : List Lexeme) (k : Lexeme) (ks : List Lexeme) → Each IsLike ls (k ∷ ks) → LikeFirst ls k ks
like_first ls k ks (both l x us vs is are) = record { first = l; rest = us; split = refl; is = is; are = are }

pub like_none : (ls : List Lexeme) → Each IsLike ls [] → ls ≡ []
like_none ls end = refl

pub record LikeSplit (ls : List Lexeme) (xs ys : List Lexeme) : Type 0 where
  pub front : List Lexeme
  pub back : List Lexeme
  pub split : ls ≡ front ++ back
  pub first : Each IsLike front xs
  pub second : Each IsLike back ys

pub like_split : (ls xs ys : List Lexeme) → Each IsLike ls (xs ++ ys) → LikeSplit ls xs ys
like_split ls [] ys are = record { front = []; back = ls; split = refl; first = end; second = are }
like_split ls (x ∷ xs) ys are =
    let f = like_first ls x (xs ++ ys) are in
    let r = like_split f.rest xs ys f.are in
    record { front = f.first ∷ r.front; back = r.back; split = f.split ∙ ap (λ z. f.first ∷ z) r.split; first = both f.first x r.front xs f.is r.first; second = r.second }

pub like_keys : (ls ks : List Lexeme) → AreAlike ls (map key_of ks) → Each IsLike ls ks
like_keys ls [] are = subst (λ z. Each IsLike z []) (sym (no_keys ls are)) end where
  no_keys : (ls : List Lexeme) → AreAlike ls [] → ls ≡ []
  no_keys ls end = refl
like_keys ls (k ∷ ks) are = by_first ls (key_of k) (map key_of ks) are refl (λ rest e. like_keys rest ks e) where
  by_first : (ls : List Lexeme) (key : Key) (keys : List Key) → AreAlike ls (key ∷ keys) → key_of k ≡ key → ((rest : List Lexeme) → AreAlike rest keys → Each IsLike rest ks) →
      Each IsLike ls (k ∷ ks)
  by_first ls key keys (both l x us vs is tail) same later = both l k us ks (subst (IsAlike l) (sym same) is) (later us tail)

-- ---- a type is spelled again

mark_back : (m : Word) (l k : Lexeme) → bytes_eq m (codes "object") ≡ false → bytes_eq m (codes "string") ≡ false → is_no_variable m ≡ true → Is m k → IsLike l k → Is m l
mark_back m l k a b c is (alike_same e f) = e ∙ is
mark_back m l k a b c is (alike_object e f g) = absurd (true≢false (ap (λ x. bytes_eq x (codes "object")) (sym g ∙ is) ∙ a))
mark_back m l k a b c is (alike_string e f g) = absurd (true≢false (ap (λ x. bytes_eq x (codes "string")) (sym g ∙ is) ∙ b))
mark_back m l k a b c is (alike_variable rest e f g) = absurd (true≢false (sym c ∙ sym (ap is_no_variable (sym g ∙ is))))

is_word_kind : TokenKind → Bool
is_word_kind token.Word = true
is_word_kind token.Variable = false
is_word_kind token.Number = false
is_word_kind token.Text = false
is_word_kind token.Mark = false

-- a name of a class stays one
name_back : (words : List Word) (l k : Lexeme) → IsName (type_keywords ++ words) k → IsLike l k → IsName (type_keywords ++ words) l
unfolding is_word_kind
name_back words l k name (alike_same e f) = record { word = f (ap is_no_mark name.word) ∙ name.word; free = ap (is_among (type_keywords ++ words)) e ∙ name.free }
name_back words l k name (alike_object e f g) = absurd (not_quoted (type_keywords ++ words) k.bytes (codes "object") name.free refl g)
name_back words l k name (alike_string e f g) = absurd (not_quoted (type_keywords ++ words) k.bytes (codes "string") name.free refl g)
name_back words l k name (alike_variable rest e f g) = absurd (true≢false (ap is_word_kind (sym name.word ∙ f)))

-- there is a type that these lexemes spell
pub record SpellsType (words : List Word) (ls : List Lexeme) : Type 0 where
  pub type : WrittenType
  pub is : IsType words ls type

pub record SpellsTypes (mark : Word) (ls : List Lexeme) : Type 0 where
  pub types : List WrittenType
  pub are : AreTypes mark ls types

long_name_spells : (words : List Word) (l : Lexeme) (name : Word) → AreQuoted words → l.kind ≡ token.Word → l.bytes ≡ name → is_among (type_keywords ++ words) name ≡ false →
    SpellsType words (l ∷ [])
long_name_spells words l name quoted kind is free = record {
  type = w.Named (name_at l) [];
  is = named words l (w.Named (name_at l) []) (record { word = kind; free = ap (is_among (type_keywords ++ words)) is ∙ free }) refl;
}

keyword_back : (words : List Word) (l k : Lexeme) (t : WrittenType) → AreQuoted words → Contains type_words (k.bytes, t) → IsLike l k → SpellsType words (l ∷ [])
keyword_back words l k t quoted among (alike_same e f) = record { type = t; is = keyword words l t (subst (λ b. Contains type_words (b, t)) (sym e) among) }
keyword_back words l k t quoted among (alike_object e f g) =
    long_name_spells words l (codes "System.Object") quoted e f (none_quoted (type_keywords ++ words) (codes "System.Object") quoted refl)
keyword_back words l k t quoted among (alike_string e f g) =
    long_name_spells words l (codes "System.String") quoted e f (none_quoted (type_keywords ++ words) (codes "System.String") quoted refl)
keyword_back words l k t quoted among (alike_variable rest e f g) = record { type = w.Variable (name_at l); is = variable words l (w.Variable (name_at l)) e refl }

variable_back : (words : List Word) (l k : Lexeme) → AreQuoted words → k.kind ≡ token.Variable → IsLike l k → SpellsType words (l ∷ [])
variable_back words l k quoted is (alike_same e f) = record { type = w.Variable (name_at l); is = variable words l (w.Variable (name_at l)) (f (ap is_no_mark is) ∙ is) refl }
variable_back words l k quoted is (alike_object e f g) =
    long_name_spells words l (codes "System.Object") quoted e f (none_quoted (type_keywords ++ words) (codes "System.Object") quoted refl)
variable_back words l k quoted is (alike_string e f g) =
    long_name_spells words l (codes "System.String") quoted e f (none_quoted (type_keywords ++ words) (codes "System.String") quoted refl)
variable_back words l k quoted is (alike_variable rest e f g) = record { type = w.Variable (name_at l); is = variable words l (w.Variable (name_at l)) e refl }

mutual
  pub type_back : (words : List Word) (ks : List Lexeme) (t : WrittenType) → IsType words ks t → AreQuoted words → (ls : List Lexeme) → Each IsLike ls ks → SpellsType words ls
  type_back words ks t (keyword q k u among) quoted ls are =
      let f = like_first ls k [] are in
      subst (SpellsType words) (sym (f.split ∙ ap (λ z. f.first ∷ z) (like_none f.rest f.are))) (keyword_back words f.first k t quoted among f.is)
  type_back words ks t (variable q k u is e) quoted ls are =
      let f = like_first ls k [] are in
      subst (SpellsType words) (sym (f.split ∙ ap (λ z. f.first ∷ z) (like_none f.rest f.are))) (variable_back words f.first k quoted is f.is)
  type_back words ks t (named q k u name e) quoted ls are =
      let f = like_first ls k [] are in
      subst (SpellsType words) (sym (f.split ∙ ap (λ z. f.first ∷ z) (like_none f.rest f.are)))
      (record { type = w.Named (name_at f.first) []; is = named words f.first (w.Named (name_at f.first) []) (name_back words f.first k name f.is) refl })
  type_back words ks t (applied q ws inner k left right u args split name opens types closes e) quoted ls are =
      let f = like_first ls k (left ∷ inner ++ right ∷ []) (subst (Each IsLike ls) split are) in
      let o = like_first f.rest left (inner ++ right ∷ []) f.are in
      let s = like_split o.rest inner (right ∷ []) o.are in
      let c = like_first s.back right [] s.second in
      let a = types_back (codes ",") refl refl refl inner args types s.front s.first in
      let type = w.Named (name_at f.first) a.types in
      let spelled : ls ≡ f.first ∷ o.first ∷ s.front ++ c.first ∷ [] =
      f.split ∙ ap (λ z. f.first ∷ z) (o.split ∙ ap (λ z. o.first ∷ z) (s.split ∙ ap (λ z. s.front ++ z) (c.split ∙ ap (λ z. c.first ∷ z) (like_none c.rest c.are))))
      in
      record {
        type = type;
        is = applied words ls s.front f.first o.first c.first type a.types spelled (name_back words f.first k name f.is)
            (mark_back (codes "<") o.first left refl refl refl opens o.is) a.are (mark_back (codes ">") c.first right refl refl refl closes c.is) refl;
      }
  type_back words ks t (vector q ws front k u element split is same e) quoted ls are =
      let s = like_split ls front (k ∷ []) (subst (Each IsLike ls) split are) in
      let c = like_first s.back k [] s.second in
      let a = type_back words front element is quoted s.front s.first in
      record {
        type = w.Vector a.type;
        is = vector words ls s.front c.first (w.Vector a.type) a.type (s.split ∙ ap (λ z. s.front ++ z) (c.split ∙ ap (λ z. c.first ∷ z) (like_none c.rest c.are))) a.is
            (mark_back (codes "[]") c.first k refl refl refl same c.is) refl;
      }

  types_back : (mark : Word) → bytes_eq mark (codes "object") ≡ false → bytes_eq mark (codes "string") ≡ false → is_no_variable mark ≡ true → (ks : List Lexeme) (ts : List WrittenType) →
      AreTypes mark ks ts → (ls : List Lexeme) → Each IsLike ls ks → SpellsTypes mark ls
  types_back mark a b c ks ts (last_type m ws t is) ls are =
      let r = type_back [] ks t is refl ls are in
      record { types = r.type ∷ []; are = last_type mark ls r.type r.is }
  types_back mark a b c ks ts (next_type m ws front back k t us split is same types) ls are =
      let s = like_split ls front (k ∷ back) (subst (Each IsLike ls) split are) in
      let f = like_first s.back k back s.second in
      let r = type_back [] front t is refl s.front s.first in
      let more = types_back mark a b c back us types f.rest f.are in
      record {
        types = r.type ∷ more.types;
        are = next_type mark ls s.front f.rest f.first r.type more.types (s.split ∙ ap (λ z. s.front ++ z) f.split) r.is (mark_back mark f.first k a b c same f.is) more.are;
      }
