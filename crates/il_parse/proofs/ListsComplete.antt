-- A type, a name and a list of the grammar are read as themselves, where what stands behind can't go on with them.
use Rattle.std.proofs.Common.{◌≡◌, ℕ, zero, suc, ◌-◌, ◌≤◌, Bool, true, false, not, ◌&&◌, if◌then◌else◌, List, [], ◌∷◌, ◌++◌, length, flat_map, Ok, Err, refl, sym, ap, subst, ◌∙◌, codes, append_assoc, bytes_eq, inl, inr, arith}
use Rattle.std.specs.List.{AllByRecursion}
use Rattle.std.proofs.lemmas.Bool.{true≢false, cases_Bool, or_right}
use Rattle.std.proofs.lemmas.List.{length-append}
use Rattle.std.proofs.lemmas.Slice.Eq.{bytes_eq-Decides}
use Rattle.il_text.specs.declared.token.TokenKind.TheVariants as token
use Rattle.il_text.specs.Spelling.{spells, is_word, is_variable}
use Rattle.il_model.specs.declared.written.WrittenType.{WrittenType}
use Rattle.il_model.specs.Lexemes.{Lexeme, Is, IsName, is_among, name_at, Separated, last, next}
use Rattle.il_model.specs.Words.{type_words, type_keywords}
use Rattle.il_model.specs.Bounds.{written_positions}
use Rattle.il_model.specs.Types.{IsType, keyword, variable, named, applied, vector, AreTypes, last_type, next_type}
use Rattle.il_parse.specs.Reading.{Reader, sees, read_name_but, is_word_kind, stuck_fault, separated_from, read_separated}
use Rattle.il_parse.specs.Types.{read_type, read_type_within, most_positions, read_types}
use Rattle.il_parse.proofs.Steps.{AreSpelled, spelled-append, by_step}
use Rattle.il_parse.proofs.ListsSound.{AreSmall}
use Rattle.il_parse.proofs.Finding.{all_contains}
use Rattle.il_parse.proofs.TypesComplete.{sees-is, sees-other, after-is, after-other, no_mark, vectors-end, type_goes}

-- what may stand behind a type
pub record Ends (back : List Lexeme) : Type 0 where
  pub no_left : sees (codes "<") back ≡ false
  pub no_vector : sees (codes "[]") back ≡ false

pub ends_at : (k : List ℕ) (l : Lexeme) (ws : List Lexeme) → Is k l → bytes_eq (codes "<") k ≡ false → bytes_eq (codes "[]") k ≡ false → Ends (l ∷ ws)
ends_at k l ws same a b = record { no_left = sees-other (codes "<") k l ws same a; no_vector = sees-other (codes "[]") k l ws same b }

pub type_complete : (quoted : List (List ℕ)) (front : List Lexeme) (t : WrittenType) (back : List Lexeme) → IsType quoted front t → written_positions t ≤ 256 →
    AreSpelled front → Ends back → read_type (front ++ back) ≡ Ok (t, back)
unfolding read_type
type_complete quoted front t back is small s ends =
    by_step (read_type_within most_positions most_positions (front ++ back)) _ _ (t, 256 - written_positions t) back
    (type_goes most_positions quoted most_positions front t back is s ends.no_left small (omega arith) ∙ vectors-end t (256 - written_positions t) back ends.no_vector) refl

-- a word with these bytes is not this mark or word
pub sees-first : (m : List ℕ) (l : Lexeme) (ws : List Lexeme) → bytes_eq m l.bytes ≡ false → sees m (l ∷ ws) ≡ false
unfolding sees
sees-first m l ws miss = miss

pub name_first : (m : List ℕ) (l : Lexeme) (ws : List Lexeme) → l.kind ≡ token.Word → spells l.kind l.bytes ≡ true → is_word m ≡ false → sees m (l ∷ ws) ≡ false
name_first m l ws word s other = sees-first m l ws (no_mark m l word s other)

pub not_equal : (m bytes : List ℕ) (p : List ℕ → Bool) → p bytes ≡ true → p m ≡ false → bytes_eq m bytes ≡ false
not_equal m bytes p is other =
    elim (cases_Bool (bytes_eq m bytes)) [
      | inl hit ↦ absurd (true≢false (sym is ∙ ap p (sym ((bytes_eq-Decides m bytes).0 hit)) ∙ other))
      | inr miss ↦ miss
    ]

keyword_words : AllByRecursion (λ (row : List ℕ × WrittenType). is_word row.0 ≡ true) type_words
keyword_words = (refl, (refl, (refl, (refl, (refl, tt)))))

-- a type doesn't begin with a mark
pub type_first : (m : List ℕ) → is_word m ≡ false → is_variable m ≡ false → (quoted : List (List ℕ)) (front : List Lexeme) (t : WrittenType) (back : List Lexeme) →
    IsType quoted front t → AreSpelled front → sees m (front ++ back) ≡ false
type_first m no_word no_variable quoted front t back (keyword q l u c) s =
    sees-first m l back (not_equal m l.bytes is_word (all_contains (λ (row : List ℕ × WrittenType). is_word row.0 ≡ true) type_words (l.bytes, u) keyword_words c) no_word)
type_first m no_word no_variable quoted front t back (variable q l u is e) s =
    sees-first m l back (not_equal m l.bytes is_variable (ap (λ k. spells k l.bytes) (sym is) ∙ s.0) no_variable)
type_first m no_word no_variable quoted front t back (named q l u n e) s = name_first m l back n.word s.0 no_word
type_first m no_word no_variable quoted front t back (applied q ws inner l lt gt u args split n a are b e) s =
    ap (λ z. sees m (z ++ back)) split ∙ name_first m l (lt ∷ (inner ++ gt ∷ []) ++ back) n.word (subst AreSpelled split s).0 no_word
type_first m no_word no_variable quoted front t back (vector q ws first l u element split is same e) s =
    ap (λ z. sees m z) (ap (λ z. z ++ back) split ∙ append_assoc first (l ∷ []) back)
    ∙ type_first m no_word no_variable quoted first element (l ∷ back) is (spelled-append first (l ∷ []) (subst AreSpelled split s)).0

among-append : (m : List ℕ) (xs ys : List (List ℕ)) → is_among ys m ≡ true → is_among (xs ++ ys) m ≡ true
among-append m [] ys e = e
among-append m (x ∷ xs) ys e = or_right (bytes_eq x m) (is_among (xs ++ ys) m) (among-append m xs ys e)

pub quoted_among : (m : List ℕ) (quoted : List (List ℕ)) (bytes : List ℕ) → is_among quoted m ≡ true → is_among quoted bytes ≡ false → bytes_eq m bytes ≡ false
quoted_among m quoted bytes inside free =
    elim (cases_Bool (bytes_eq m bytes)) [
      | inl hit ↦ absurd (true≢false (sym inside ∙ ap (is_among quoted) ((bytes_eq-Decides m bytes).0 hit) ∙ free))
      | inr miss ↦ miss
    ]

quoted_apart : (m : List ℕ) (quoted : List (List ℕ)) (l : Lexeme) → is_among quoted m ≡ true → IsName (type_keywords ++ quoted) l → bytes_eq m l.bytes ≡ false
quoted_apart m quoted l inside n = quoted_among m (type_keywords ++ quoted) l.bytes (among-append m type_keywords quoted inside) n.free

-- nor with a word that is quoted at its place, and is no type by itself
pub type_unquoted : (m : List ℕ) → is_variable m ≡ false → AllByRecursion (λ (row : List ℕ × WrittenType). bytes_eq m row.0 ≡ false) type_words →
    (quoted : List (List ℕ)) → is_among quoted m ≡ true → (front : List Lexeme) (t : WrittenType) (back : List Lexeme) →
    IsType quoted front t → AreSpelled front → sees m (front ++ back) ≡ false
type_unquoted m no_variable no_keyword quoted inside front t back (keyword q l u c) s =
    sees-first m l back (all_contains (λ (row : List ℕ × WrittenType). bytes_eq m row.0 ≡ false) type_words (l.bytes, u) no_keyword c)
type_unquoted m no_variable no_keyword quoted inside front t back (variable q l u is e) s =
    sees-first m l back (not_equal m l.bytes is_variable (ap (λ k. spells k l.bytes) (sym is) ∙ s.0) no_variable)
type_unquoted m no_variable no_keyword quoted inside front t back (named q l u n e) s = sees-first m l back (quoted_apart m quoted l inside n)
type_unquoted m no_variable no_keyword quoted inside front t back (applied q ws inner l lt gt u args split n a are b e) s =
    ap (λ z. sees m (z ++ back)) split ∙ sees-first m l (lt ∷ (inner ++ gt ∷ []) ++ back) (quoted_apart m quoted l inside n)
type_unquoted m no_variable no_keyword quoted inside front t back (vector q ws first l u element split is same e) s =
    ap (λ z. sees m z) (ap (λ z. z ++ back) split ∙ append_assoc first (l ∷ []) back)
    ∙ type_unquoted m no_variable no_keyword quoted inside first element (l ∷ back) is (spelled-append first (l ∷ []) (subst AreSpelled split s)).0

-- behind what stands before a type, no type goes on
pub ends_type : (quoted : List (List ℕ)) (front : List Lexeme) (t : WrittenType) (back : List Lexeme) → IsType quoted front t → AreSpelled front → Ends (front ++ back)
ends_type quoted front t back is s =
    record { no_left = type_first (codes "<") refl refl quoted front t back is s; no_vector = type_first (codes "[]") refl refl quoted front t back is s }

pub ends_name : (l : Lexeme) (ws : List Lexeme) → l.kind ≡ token.Word → spells l.kind l.bytes ≡ true → Ends (l ∷ ws)
ends_name l ws word s = record { no_left = name_first (codes "<") l ws word s refl; no_vector = name_first (codes "[]") l ws word s refl }

pub type_some : (quoted : List (List ℕ)) (ws : List Lexeme) (t : WrittenType) → IsType quoted ws t → 1 ≤ length ws
type_some quoted ws t (keyword q l u c) = omega arith
type_some quoted ws t (variable q l u k e) = omega arith
type_some quoted ws t (named q l u n e) = omega arith
type_some quoted ws t (applied q s inner l left right u args split n a are b e) = omega (arith, ap length split)
type_some quoted ws t (vector q s front l u element split is same e) = omega (arith, ap length split, length-append front (l ∷ []))

pub name_complete : (quoted : List (List ℕ)) (l : Lexeme) (back : List Lexeme) → IsName quoted l → read_name_but quoted (l ∷ back) ≡ Ok (name_at l, back)
unfolding read_name_but
name_complete quoted l back n =
    ap (λ b. if b then Ok (name_at l, back) else Err (stuck_fault (l ∷ back))) (ap (λ k. is_word_kind k && not (is_among quoted l.bytes)) n.word ∙ ap not n.free)

pub small-split : (ts us : List WrittenType) → AreSmall (ts ++ us) → AreSmall ts × AreSmall us
small-split [] us s = (tt, s)
small-split (t ∷ ts) us s = let r = small-split ts us s.1 in ((s.0, r.0), r.1)

-- each item of this relation is read as itself where this may stand behind it
abbrev pub Complete : {A : Type 0} → Reader A → (List Lexeme → A → Type 0) → (A → List WrittenType) → (List Lexeme → Type 0) → Type 0
Complete {A} item P types Follows = (front : List Lexeme) (x : A) (back : List Lexeme) → P front x → AreSmall (types x) → AreSpelled front → Follows back →
    item (front ++ back) ≡ Ok (x, back)

module _ {A : Type 0} (item : Reader A) (P : List Lexeme → A → Type 0) (types : A → List WrittenType) (Follows : List Lexeme → Type 0)
    (complete : Complete item P types Follows) (some : (front : List Lexeme) (x : A) → P front x → 1 ≤ length front) where
  separated_from_complete : (mark : List ℕ) → ((l : Lexeme) (ws : List Lexeme) → Is mark l → Follows (l ∷ ws)) →
      (n : ℕ) (found : List A) (front : List Lexeme) (xs : List A) (back : List Lexeme) → Separated mark P front xs → AreSmall (flat_map types xs) → AreSpelled front →
      Follows back → sees mark back ≡ false → length front ≤ n → separated_from item mark n found (front ++ back) ≡ Ok (found ++ xs, back)
  unfolding separated_from
  separated_from_complete mark at_mark zero found front xs back (last ws x p) small s f miss within = absurd (omega (arith, some ws x p, within))
  separated_from_complete mark at_mark zero found front xs back (next ws first rest l x ys split p same t) small s f miss within =
      absurd (omega (arith, some first x p, within, ap length split, length-append first (l ∷ rest)))
  separated_from_complete mark at_mark (suc n) found front xs back (last ws x p) small s f miss within =
      by_step (item (ws ++ back)) _ _ x back (complete ws x back p (small-split (types x) [] small).0 s f) (rw (miss, after-other mark back miss) refl)
  separated_from_complete mark at_mark (suc n) found front xs back (next ws first rest l x ys split p same t) small s f miss within =
      let parts = spelled-append first (l ∷ rest) (subst AreSpelled split s) in
      let smalls = small-split (types x) (flat_map types ys) small in
      let whole : ws ++ back ≡ first ++ l ∷ (rest ++ back) = ap (λ z. z ++ back) split ∙ append_assoc first (l ∷ rest) back in
      let later = separated_from_complete mark at_mark n (found ++ x ∷ []) rest ys back t smalls.1 parts.1.1 f miss
      (omega (arith, within, some first x p, ap length split, length-append first (l ∷ rest))) in
      ap (separated_from item mark (suc n) found) whole
      ∙ by_step (item (first ++ l ∷ (rest ++ back))) _ _ x (l ∷ (rest ++ back)) (complete first x (l ∷ (rest ++ back)) p smalls.0 parts.0 (at_mark l (rest ++ back) same))
      (rw (sees-is mark l (rest ++ back) same, after-is mark l (rest ++ back) same) later)
      ∙ ap (λ zs. Ok (zs, back)) (append_assoc found (x ∷ []) ys)

  pub separated_complete : (mark : List ℕ) → ((l : Lexeme) (ws : List Lexeme) → Is mark l → Follows (l ∷ ws)) →
      (front : List Lexeme) (xs : List A) (back : List Lexeme) → Separated mark P front xs → AreSmall (flat_map types xs) → AreSpelled front →
      Follows back → sees mark back ≡ false → read_separated item mark (front ++ back) ≡ Ok (xs, back)
  unfolding read_separated
  separated_complete mark at_mark front xs back sep small s f miss =
      separated_from_complete mark at_mark (length (front ++ back)) [] front xs back sep small s f miss (omega (arith, length-append front back))

  pub separated_some : (mark : List ℕ) (ws : List Lexeme) (xs : List A) → Separated mark P ws xs → 1 ≤ length ws
  separated_some mark ws xs (last same x p) = some ws x p
  separated_some mark ws xs (next same front back l x rest split p m t) = omega (arith, some front x p, ap length split, length-append front (l ∷ back))

types_separated : (mark : List ℕ) (ws : List Lexeme) (ts : List WrittenType) → AreTypes mark ws ts → Separated mark (IsType []) ws ts
types_separated mark ws ts (last_type m same t is) = last ws t is
types_separated mark ws ts (next_type m same front back l t us split is h rest) = next ws front back l t us split is h (types_separated mark back us rest)

singles : (ts : List WrittenType) → AreSmall ts → AreSmall (flat_map (λ t. t ∷ []) ts)
singles [] s = tt
singles (t ∷ ts) s = (s.0, singles ts s.1)

pub types_complete : (mark : List ℕ) → bytes_eq (codes "<") mark ≡ false → bytes_eq (codes "[]") mark ≡ false →
    (front : List Lexeme) (ts : List WrittenType) (back : List Lexeme) → AreTypes mark front ts → AreSmall ts → AreSpelled front → Ends back → sees mark back ≡ false →
    read_types mark (front ++ back) ≡ Ok (ts, back)
unfolding read_types
types_complete mark no_left no_vector front ts back are small s ends miss =
    separated_complete read_type (IsType []) (λ t. t ∷ []) Ends (λ inside t rest is m p f. type_complete [] inside t rest is m.0 p f) (type_some [])
    mark (λ l ws same. ends_at mark l ws same no_left no_vector) front ts back (types_separated mark front ts are) (singles ts small) s ends miss
