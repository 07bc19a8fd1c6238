-- Words of a line with the keys that they bring.
use Rattle.std.proofs.Common.{◌≡◌, ℕ, zero, suc, ◌*◌, Bool, true, false, List, [], ◌∷◌, ◌++◌, map, flat_map, replicate, codes, refl, sym, ap, ◌∙◌, subst, append_assoc, append-nil, if◌then◌else◌, bytes_eq}
use Rattle.std.specs.List.{AllByRecursion, list_all}
use Rattle.std.proofs.lemmas.Bool.{and_parts}
use Rattle.std.proofs.lemmas.List.Concat.{flat_map-append}
use Rattle.std.proofs.lemmas.Slice.Eq.{bytes_eq-Decides}
use Rattle.il_text.specs.declared.token.TokenKind.{TokenKind}
use Rattle.il_model.specs.Canonical.{Word, comma, spaced, spaced_after, between, angled_words, Line, line, line_text}
use Rattle.il_print.specs.Spaces.{behind}
use Rattle.il_print.proofs.Keys.{Key, quoted, all_quoted, keys_between, angled_keys}
use Rattle.il_print.proofs.StopLemmas.{comma_stops, newline_stops}
use Rattle.il_print.proofs.PieceLemmas.{IsStopped}
use Rattle.il_print.proofs.WordLemmas.{spaced_after_append}
use Rattle.il_print.proofs.TokenReads.{IsToken, Has, Fits, Opens, Reads, nothing_reads, opens_then, reads_then, reads_open, spaced_reads, token_opens, quoted_opens, is_quotable, blank_has}

-- the words bring these keys, behind other words
abbrev pub Words : List Word → List Key → Type 0
Words ws ks = Reads (spaced_after ws) ks

-- and as the first words of a line
abbrev pub Starts : List Word → List Key → Type 0
Starts ws ks = Opens (spaced ws) ks

-- a comma stands close behind a word, and anything else behind a space
behind_case : (w : Word) (ks : List Key) (is_comma : Bool) → bytes_eq w comma ≡ is_comma → Opens w ks → Reads (if is_comma then w else 32 ∷ w) ks
behind_case w ks true e opens =
    let same : w ≡ comma = (bytes_eq-Decides w comma).0 e in
    λ last more fits. record { has = opens last more fits; stop = subst (λ v. IsStopped (v ++ last)) (sym same) comma_stops }
behind_case w ks false e opens = spaced_reads w ks opens

pub behind_reads : (w : Word) (ks : List Key) → Opens w ks → Reads (behind w) ks
behind_reads w ks opens = behind_case w ks (bytes_eq w comma) refl opens

-- ---- words in front of others

pub word_first : (w : Word) (ws : List Word) (j k : List Key) → Opens w j → Words ws k → Words (w ∷ ws) (j ++ k)
word_first w ws j k first rest = reads_then (behind w) (spaced_after ws) j k (behind_reads w j first) rest

pub words_then : (ws vs : List Word) (j k : List Key) → Words ws j → Words vs k → Words (ws ++ vs) (j ++ k)
words_then ws vs j k first second =
    subst (λ text. Reads text (j ++ k)) (sym (spaced_after_append ws vs)) (reads_then (spaced_after ws) (spaced_after vs) j k first second)

pub one_word : (w : Word) (ks : List Key) → Opens w ks → Words (w ∷ []) ks
one_word w ks opens = subst (Words (w ∷ [])) (append-nil ks) (word_first w [] ks [] opens nothing_reads)

pub token_word : (kind : TokenKind) (w : Word) (ws : List Word) (k : List Key) → IsToken kind w → Words ws k →
    Words (w ∷ ws) (record { kind = kind; bytes = w } ∷ k)
token_word kind w ws k token = word_first w ws (record { kind = kind; bytes = w } ∷ []) k (token_opens kind w token)

pub quoted_word : (w : Word) (ws : List Word) (k : List Key) → is_quotable w ≡ true → Words ws k → Words (w ∷ ws) (quoted w ∷ k)
quoted_word w ws k e = word_first w ws (quoted w ∷ []) k (quoted_opens w e)

pub quoted_words : (ws : List Word) → list_all is_quotable ws ≡ true → Words ws (all_quoted ws)
quoted_words [] e = nothing_reads
quoted_words (w ∷ ws) e =
    let parts = and_parts (is_quotable w) (list_all is_quotable ws) e in
    quoted_word w ws (all_quoted ws) parts.0 (quoted_words ws parts.1)

pub starts : (w : Word) (ws : List Word) (j k : List Key) → Opens w j → Words ws k → Starts (w ∷ ws) (j ++ k)
starts w ws j k first rest = opens_then w (spaced_after ws) j k first rest

pub quoted_starts : (w : Word) (ws : List Word) (k : List Key) → is_quotable w ≡ true → Words ws k → Starts (w ∷ ws) (quoted w ∷ k)
quoted_starts w ws k e = starts w ws (quoted w ∷ []) k (quoted_opens w e)

pub nothing_starts : Starts [] []
nothing_starts = reads_open [] [] nothing_reads

-- ---- parts with marks

module _ {X : Type 0} (f : X → List Word) (g : X → List Key) where
  pub between_words : (mark : Word) (xs : List X) → is_quotable mark ≡ true → AllByRecursion (λ x. Words (f x) (g x)) xs →
      Words (between mark (map f xs)) (keys_between mark (map g xs))
  between_words mark [] e all = nothing_reads
  between_words mark (x ∷ []) e all = all.0
  between_words mark (x ∷ y ∷ xs) e all =
      words_then (f x) (mark ∷ between mark (map f (y ∷ xs))) (g x) (quoted mark ∷ keys_between mark (map g (y ∷ xs))) all.0
      (quoted_word mark (between mark (map f (y ∷ xs))) (keys_between mark (map g (y ∷ xs))) e (between_words mark (y ∷ xs) e all.1))

  pub angled_words_read : (xs : List X) → AllByRecursion (λ x. Words (f x) (g x)) xs → Words (angled_words (map f xs)) (angled_keys (map g xs))
  angled_words_read [] all = nothing_reads
  angled_words_read (x ∷ xs) all =
      words_then (codes "<" ∷ between comma (map f (x ∷ xs))) (codes ">" ∷ []) (quoted (codes "<") ∷ keys_between (codes ",") (map g (x ∷ xs)))
      (quoted (codes ">") ∷ [])
      (quoted_word (codes "<") (between comma (map f (x ∷ xs))) (keys_between (codes ",") (map g (x ∷ xs))) refl (between_words comma (x ∷ xs) refl all))
      (quoted_word (codes ">") [] [] refl nothing_reads)

-- between parentheses
pub in_parentheses_read : (ws : List Word) (ks : List Key) → Words ws ks →
    Words (codes "(" ∷ ws ++ codes ")" ∷ []) (quoted (codes "(") ∷ ks ++ quoted (codes ")") ∷ [])
in_parentheses_read ws ks inside =
    words_then (codes "(" ∷ ws) (codes ")" ∷ []) (quoted (codes "(") ∷ ks) (quoted (codes ")") ∷ []) (quoted_word (codes "(") ws ks refl inside)
    (quoted_word (codes ")") [] [] refl nothing_reads)

-- ---- lines

-- the lines bring these keys, before whatever stands at the start of a line
abbrev pub Lines : List Line → List Key → Type 0
Lines ls ks = (last : List ℕ) (more : List Key) → Has last more → Has (flat_map line_text ls ++ last) (ks ++ more)

blanks_have : (n : ℕ) (bytes : List ℕ) (ks : List Key) → Has bytes ks → Has (replicate n 32 ++ bytes) ks
blanks_have zero bytes ks h = h
blanks_have (suc n) bytes ks h = blank_has 32 (replicate n 32 ++ bytes) ks refl (blanks_have n bytes ks h)

pub one_line : (level : ℕ) (ws : List Word) (ks : List Key) → Starts ws ks → Lines (line level ws) ks
one_line level ws ks opens last more h =
    let l : Line = record { level = level; words = ws } in
    let ended : Fits (10 ∷ last) more = record { has = blank_has 10 last more refl h; stop = newline_stops } in
    let inside : Has (replicate (2 * level) 32 ++ (spaced ws ++ 10 ∷ last)) (ks ++ more) =
    blanks_have (2 * level) (spaced ws ++ 10 ∷ last) (ks ++ more) (opens (10 ∷ last) more ended) in
    let same : (line_text l ++ []) ++ last ≡ replicate (2 * level) 32 ++ (spaced ws ++ 10 ∷ last) =
    ap (λ text. text ++ last) (append-nil (line_text l)) ∙ append_assoc (replicate (2 * level) 32 ++ spaced ws) (10 ∷ []) last
    ∙ append_assoc (replicate (2 * level) 32) (spaced ws) (10 ∷ last) in
    subst (λ text. Has text (ks ++ more)) (sym same) inside

pub no_lines : Lines [] []
no_lines last more h = h

pub lines_then : (ls ms : List Line) (j k : List Key) → Lines ls j → Lines ms k → Lines (ls ++ ms) (j ++ k)
lines_then ls ms j k first second last more h =
    let same : flat_map line_text (ls ++ ms) ++ last ≡ flat_map line_text ls ++ (flat_map line_text ms ++ last) =
    ap (λ text. text ++ last) (flat_map-append line_text ls ms) ∙ append_assoc (flat_map line_text ls) (flat_map line_text ms) last in
    subst (λ text. Has text ((j ++ k) ++ more)) (sym same)
    (subst (Has (flat_map line_text ls ++ (flat_map line_text ms ++ last))) (sym (append_assoc j k more))
    (first (flat_map line_text ms ++ last) (k ++ more) (second last more h)))

pub flat_lines : {X : Type 0} (f : X → List Line) (g : X → List Key) (xs : List X) → AllByRecursion (λ x. Lines (f x) (g x)) xs →
    Lines (flat_map f xs) (flat_map g xs)
flat_lines f g [] all = no_lines
flat_lines f g (x ∷ xs) all = lines_then (f x) (flat_map f xs) (g x) (flat_map g xs) all.0 (flat_lines f g xs all.1)
