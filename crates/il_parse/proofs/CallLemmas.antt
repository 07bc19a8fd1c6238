-- Calls of the library, word by word.
use Rattle.std.proofs.Common.{◌≡◌, ℕ, zero, suc, Bool, true, false, List, [], ◌∷◌, ◌++◌, ◌+◌, ◌-◌, ◌<◌, ◌≤◌, get_or, drop, take, length, map, Some, None, refl, sym, bytes_eq}
use Rattle.std.proofs.lemmas.List.{length-map, take-map, drop_more, drop_all}
use Rattle.std.specs.Prelude.{is_some, ◌&&◌}
use Rattle.std.specs.List.{find, AllByRecursion}
use Rattle.il_text.specs.declared.token.Token.{Token}
use Rattle.il_model.specs.declared.written.WrittenType.{WrittenType}
use Rattle.il_model.specs.declared.written.WrittenParam.{WrittenParam}
use Rattle.il_model.specs.Lexemes.{Lexeme, lexeme_of}
use Rattle.il_model.specs.Forms.{word_of}
use Rattle.il_model.specs.Spellings.{plain_name}
use Rattle.il_model.specs.Instructions.{plain_words}
use Rattle.il_parse.specs.declared.calls.TheConstants.{WHOLE_CALLS}
use Rattle.il_parse.specs.Reading.{place_of_first}
use Rattle.il_parse.specs.Cursor.{AreReadable, IsReadable, bytes_of_first}
use Rattle.il_parse.specs.Mnemonics.{all_forms, is_whole_call, same_words, begin_with, only_argument}
use Rattle.il_parse.specs.Calls.{sees_plain, call_in}

all_front : {X : Type 0} (P : X → Type 0) (n : ℕ) (xs : List X) → AllByRecursion P xs → AllByRecursion P (take n xs)
all_front P zero xs h = tt
all_front P (suc n) [] h = tt
all_front P (suc n) (x ∷ xs) h = (h.0, all_front P n xs h.1)

-- the first tokens of a text are readable as all are
pub readable_front : (text : List ℕ) (n : ℕ) (tokens : List Token) → AreReadable text tokens → AreReadable text (take n tokens)
readable_front text n tokens h = all_front (IsReadable text) n tokens h

-- the first lexemes are those of the first tokens
pub lexemes_front : (text : List ℕ) (left : ℕ) (tokens : List Token) →
    map (lexeme_of text) (take (length tokens - left) tokens) ≡ take (length (map (lexeme_of text) tokens) - left) (map (lexeme_of text) tokens)
lexemes_front text left tokens = rw (length-map tokens (lexeme_of text)) (sym (take-map (lexeme_of text) (length tokens - left) tokens))

pub plain_none : (word : List ℕ) (ws : List Lexeme) → None ≡ place_of_first ws → sees_plain word ws ≡ false
unfolding sees_plain
plain_none word [] e = refl
plain_none word (l ∷ ws) e = absurd cc

pub plain_some : (word : List ℕ) (ws : List Lexeme) (at : ℕ) → Some at ≡ place_of_first ws → sees_plain word ws ≡ bytes_eq word (plain_name (bytes_of_first ws))
unfolding sees_plain
plain_some word [] at e = absurd cc
plain_some word (l ∷ ws) at e = refl

and_miss : (a b : Bool) → a ≡ false → (a && b) ≡ false
and_miss a b e = rw e refl

and_hit : (a b : Bool) → a ≡ true → (a && b) ≡ b
and_hit a b e = rw e refl

pub same_miss : (word : List ℕ) (others : List (List ℕ)) (ws : List Lexeme) → sees_plain word ws ≡ false → same_words (word ∷ others) (plain_words ws) ≡ false
unfolding sees_plain
same_miss word others [] e = refl
same_miss word others (l ∷ ws) e = and_miss _ _ e

pub same_hit : (word : List ℕ) (others : List (List ℕ)) (ws : List Lexeme) → sees_plain word ws ≡ true →
    same_words (word ∷ others) (plain_words ws) ≡ same_words others (plain_words (drop 1 ws))
unfolding sees_plain
same_hit word others [] e = absurd cc
same_hit word others (l ∷ ws) e = and_hit _ _ e

pub same_end : (ws : List Lexeme) → None ≡ place_of_first ws → same_words [] (plain_words ws) ≡ true
same_end [] e = refl
same_end (l ∷ ws) e = absurd cc

pub same_more : (ws : List Lexeme) (at : ℕ) → Some at ≡ place_of_first ws → same_words [] (plain_words ws) ≡ false
same_more [] at e = absurd cc
same_more (l ∷ ws) at e = refl

pub begin_miss : (word : List ℕ) (others : List (List ℕ)) (ws : List Lexeme) → sees_plain word ws ≡ false → begin_with (word ∷ others) (plain_words ws) ≡ false
unfolding sees_plain
begin_miss word others [] e = refl
begin_miss word others (l ∷ ws) e = and_miss _ _ e

pub begin_hit : (word : List ℕ) (others : List (List ℕ)) (ws : List Lexeme) → sees_plain word ws ≡ true →
    begin_with (word ∷ others) (plain_words ws) ≡ begin_with others (plain_words (drop 1 ws))
unfolding sees_plain
begin_hit word others [] e = absurd cc
begin_hit word others (l ∷ ws) e = and_hit _ _ e

-- the rows are the forms whose calls have nothing of their own in them
pub calls_are : (words : List (List ℕ)) →
    call_in (map (λ row. (map (λ w. w.now) row.0.now, row.1)) WHOLE_CALLS) words ≡ find (λ f. is_whole_call words (word_of f)) all_forms
calls_are words = refl

-- the last of the arguments, where it is the only one
pub only_popped : (old new : List WrittenType) (ps : List WrittenParam) (last : WrittenType) → is_some (only_argument old ps) ≡ true →
    old ≡ new ++ last ∷ [] → only_argument old ps ≡ Some last
only_popped [] new ps last one e = absurd cc
only_popped (t ∷ u ∷ ts) new ps last one e = absurd cc
only_popped (t ∷ []) new (p ∷ ps) last one e = absurd cc
only_popped (t ∷ []) [] [] last one e = cc
only_popped (t ∷ []) (x ∷ []) [] last one e = absurd cc
only_popped (t ∷ []) (x ∷ y ∷ new) [] last one e = absurd cc

pub no_argument : (args : List WrittenType) (ps : List WrittenParam) → args ≡ [] → is_some (only_argument args ps) ≡ false
no_argument args ps e = rw e refl

pub none_only : (args : List WrittenType) (ps : List WrittenParam) → is_some (only_argument args ps) ≡ false → only_argument args ps ≡ None
none_only [] ps e = refl
none_only (t ∷ u ∷ ts) ps e = refl
none_only (t ∷ []) (p ∷ ps) e = refl
none_only (t ∷ []) [] e = absurd cc

-- the words from this one on, where it is not the first lexeme, and where it is
pub same_stop : {X : Type 0} (now : X → List ℕ) (words : List X) (i : ℕ) (d : X) (ws : List Lexeme) → i < length words → sees_plain (now (get_or words i d)) ws ≡ false →
    same_words (map now (drop i words)) (plain_words ws) ≡ false
same_stop now words i d ws below miss = rw (drop_more words i d below) (same_miss (now (get_or words i d)) (map now (drop (i + 1) words)) ws miss)

pub same_next : {X : Type 0} (now : X → List ℕ) (words : List X) (i : ℕ) (d : X) (ws : List Lexeme) → i < length words → sees_plain (now (get_or words i d)) ws ≡ true →
    same_words (map now (drop i words)) (plain_words ws) ≡ same_words (map now (drop (i + 1) words)) (plain_words (drop 1 ws))
same_next now words i d ws below hit = rw (drop_more words i d below) (same_hit (now (get_or words i d)) (map now (drop (i + 1) words)) ws hit)

-- the words from this one on, where it is not the first lexeme, and where it is
pub begin_stop : {X : Type 0} (now : X → List ℕ) (words : List X) (i : ℕ) (d : X) (ws : List Lexeme) → i < length words → sees_plain (now (get_or words i d)) ws ≡ false →
    begin_with (map now (drop i words)) (plain_words ws) ≡ false
begin_stop now words i d ws below miss = rw (drop_more words i d below) (begin_miss (now (get_or words i d)) (map now (drop (i + 1) words)) ws miss)

pub begin_next : {X : Type 0} (now : X → List ℕ) (words : List X) (i : ℕ) (d : X) (ws : List Lexeme) → i < length words → sees_plain (now (get_or words i d)) ws ≡ true →
    begin_with (map now (drop i words)) (plain_words ws) ≡ begin_with (map now (drop (i + 1) words)) (plain_words (drop 1 ws))
begin_next now words i d ws below hit = rw (drop_more words i d below) (begin_hit (now (get_or words i d)) (map now (drop (i + 1) words)) ws hit)

pub same_over : {X : Type 0} (now : X → List ℕ) (words : List X) (i : ℕ) (ws : List Lexeme) → length words ≤ i → None ≡ place_of_first ws →
    same_words (map now (drop i words)) (plain_words ws) ≡ true
same_over now words i ws past e = rw (drop_all i words past) (same_end ws e)

pub same_under : {X : Type 0} (now : X → List ℕ) (words : List X) (i : ℕ) (ws : List Lexeme) (at : ℕ) → length words ≤ i → Some at ≡ place_of_first ws →
    same_words (map now (drop i words)) (plain_words ws) ≡ false
same_under now words i ws at past e = rw (drop_all i words past) (same_more ws at e)

pub begin_over : {X : Type 0} (now : X → List ℕ) (words : List X) (i : ℕ) (ws : List Lexeme) → length words ≤ i →
    begin_with (map now (drop i words)) (plain_words ws) ≡ true
begin_over now words i ws past = rw (drop_all i words past) refl
