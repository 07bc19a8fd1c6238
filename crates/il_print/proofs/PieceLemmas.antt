-- Texts made of tokens with blanks before them: what their tokens are.
use Rattle.std.proofs.Common.{◌≡◌, ℕ, suc, ◌+◌, ◌-◌, ◌<◌, ◌≤◌, true, false, List, [], ◌∷◌, ◌++◌, length, take, drop, refl, sym, ap, ◌∙◌, subst, arith, length-append}
use Rattle.std.specs.List.{list_all}
use Rattle.std.proofs.lemmas.Bool.{and_parts}
use Rattle.std.proofs.lemmas.List.{drop-drop, length-drop}
use Rattle.std.proofs.Math.Seq.{take-append_seam, take-append-add, drop-append_seam}
use Rattle.il_text.specs.declared.token.Token.{Token}
use Rattle.il_text.specs.declared.token.TokenKind.{TokenKind}
use Rattle.il_text.specs.Bytes.{is_blank}
use Rattle.il_text.specs.Spelling.{spells, IsWithinLimit}
use Rattle.il_text.specs.Tokens.{IsGap, nothing, blank, IsLastGap, ended, AreTokensFrom}
use Rattle.il_text.specs.Fronts.{HasToken}
use Rattle.il_text.specs.Faults.{longest_front}
use Rattle.il_text.proofs.Longest.{longest_front-is}
use Rattle.il_text.proofs.FrontLemmas.{spells-kind, has_token}
use Rattle.il_text.proofs.Gaps.{spells-first, gap_len-none, one_blank}
use Rattle.il_text.proofs.Steps.{gap_reads, token_reads}
use Rattle.il_print.proofs.StopLemmas.{IsStop, stopped}

-- a token, and the blanks before it
pub record Piece : Type 0 where
  pub blanks : List ℕ
  pub kind : TokenKind
  pub first : ℕ
  pub rest : List ℕ

abbrev pub token_bytes : Piece → List ℕ
token_bytes p = p.first ∷ p.rest

-- the text of these pieces, with this behind them
abbrev pub pieces_text : List Piece → List ℕ → List ℕ
pieces_text [] last = last
pieces_text (p ∷ ps) last = p.blanks ++ (token_bytes p ++ pieces_text ps last)

-- their tokens, where the first piece begins at this place
abbrev pub tokens_of : ℕ → List Piece → List Token
tokens_of at [] = []
tokens_of at (p ∷ ps) =
    record { kind = p.kind; from = at + length p.blanks; to = at + length p.blanks + length (token_bytes p) } ∷
    tokens_of (at + length p.blanks + length (token_bytes p)) ps

-- what stands behind a token begins with a byte that ends each, or is nothing
abbrev pub IsStopped : List ℕ → Type 0
IsStopped [] = Unit {0}
IsStopped (c ∷ more) = IsStop c

-- what stands behind these bytes ends the token of this kind that they spell
abbrev pub IsEnd : TokenKind → List ℕ → List ℕ → Type 0
IsEnd k bytes [] = Unit {0}
IsEnd k bytes (c ∷ after) = (more : List ℕ) → spells k (bytes ++ c ∷ more) ≡ false

pub ends_at_stop : (k : TokenKind) (b : ℕ) (bs after : List ℕ) → spells k (b ∷ bs) ≡ true → IsStopped after → IsEnd k (b ∷ bs) after
ends_at_stop k b bs [] e s = tt
ends_at_stop k b bs (c ∷ after) e s = λ more. stopped k b bs c more s e

-- a piece with this behind it
pub record IsPiece (p : Piece) (after : List ℕ) : Type 0 where
  pub blank : list_all is_blank p.blanks ≡ true
  pub spelled : spells p.kind (token_bytes p) ≡ true
  pub within : IsWithinLimit p.kind (token_bytes p)
  pub end : IsEnd p.kind (token_bytes p) after

-- pieces with this behind them, which is blank
abbrev pub ArePieces : List Piece → List ℕ → Type 0
ArePieces [] last = list_all is_blank last ≡ true
ArePieces (p ∷ ps) last = IsPiece p (pieces_text ps last) × ArePieces ps last

blanks_gap : (bytes : List ℕ) → list_all is_blank bytes ≡ true → IsGap bytes
blanks_gap [] e = nothing
blanks_gap (b ∷ bs) e =
    let parts = and_parts (is_blank b) (list_all is_blank bs) e in
    blank b bs parts.0 (blanks_gap bs parts.1)

-- blanks in front leave the tokens as they are
blanks_read : (blanks : List ℕ) (text : List ℕ) (at : ℕ) (rest : List ℕ) (tokens : List Token) → drop at text ≡ blanks ++ rest →
    list_all is_blank blanks ≡ true → AreTokensFrom text (at + length blanks) tokens → AreTokensFrom text at tokens
blanks_read [] text at rest tokens here e read = subst (λ n. AreTokensFrom text n tokens) (let same : at + 0 ≡ at = omega arith in same) read
blanks_read (b ∷ bs) text at rest tokens here e read =
    let parts = and_parts (is_blank b) (list_all is_blank bs) e in
    let next : drop (at + 1) text ≡ bs ++ rest = sym (drop-drop 1 at text) ∙ ap (drop 1) here in
    let place : at + length (b ∷ bs) ≡ at + 1 + length bs = omega arith in
    gap_reads text at 1 tokens (one_blank b (bs ++ rest) here parts.0)
    (blanks_read bs text (at + 1) rest tokens next parts.1 (subst (λ n. AreTokensFrom text n tokens) place read))

-- no front that is longer than the token spells one of its kind
no_longer : (k : TokenKind) (b : ℕ) (bs after : List ℕ) (m : ℕ) → IsEnd k (b ∷ bs) after → length (b ∷ bs) < m →
    m ≤ length ((b ∷ bs) ++ after) → spells k (take m ((b ∷ bs) ++ after)) ≡ false
no_longer k b bs [] m s longer inside = absurd (omega (arith, length-append (b ∷ bs) []))
no_longer k b bs (c ∷ more) m s longer inside =
    let j = m - length (b ∷ bs) - 1 in
    let is : m ≡ length (b ∷ bs) + suc j = omega arith in
    ap (λ n. spells k (take n ((b ∷ bs) ++ c ∷ more))) is
    ∙ ap (spells k) (take-append-add (b ∷ bs) (c ∷ more) (suc j))
    ∙ s (take j more)

longest_piece : (k : TokenKind) (b : ℕ) (bs after : List ℕ) → spells k (b ∷ bs) ≡ true → IsEnd k (b ∷ bs) after →
    length (b ∷ bs) ≡ longest_front (spells k) (length ((b ∷ bs) ++ after)) ((b ∷ bs) ++ after)
longest_piece k b bs after e s =
    sym (longest_front-is (spells k) (length ((b ∷ bs) ++ after)) ((b ∷ bs) ++ after) (length (b ∷ bs))
    (omega (arith, length-append (b ∷ bs) after))
    (λ some. ap (spells k) (take-append_seam (b ∷ bs) after) ∙ e)
    (λ m longer inside. no_longer k b bs after m s longer inside))

-- the token stands in front
piece_front : (p : Piece) (after : List ℕ) → IsPiece p after → HasToken (token_bytes p ++ after) p.kind (length (token_bytes p))
piece_front p after is =
    let bytes = token_bytes p ++ after in
    let begins = spells-first p.kind p.first p.rest is.spelled in
    has_token bytes p.first (p.rest ++ after) p.kind (length (token_bytes p)) refl (sym (spells-kind p.kind p.first p.rest is.spelled))
    (longest_piece p.kind p.first p.rest after is.spelled is.end) (λ none. omega arith)
    (omega (arith, length-append (token_bytes p) after)) (gap_len-none p.first (p.rest ++ after) begins.0 begins.1)
    (subst (λ bs. IsWithinLimit p.kind bs) (sym (take-append_seam (token_bytes p) after)) is.within)

-- where the token of a piece begins, and where it ends
pub token_here : (p : Piece) (text after : List ℕ) (at : ℕ) → drop at text ≡ p.blanks ++ (token_bytes p ++ after) →
    drop (at + length p.blanks) text ≡ token_bytes p ++ after
token_here p text after at here =
    sym (drop-drop (length p.blanks) at text) ∙ ap (drop (length p.blanks)) here ∙ drop-append_seam p.blanks (token_bytes p ++ after)

pub token_past : (p : Piece) (text after : List ℕ) (at : ℕ) → drop at text ≡ p.blanks ++ (token_bytes p ++ after) →
    drop (at + length p.blanks + length (token_bytes p)) text ≡ after
token_past p text after at here =
    sym (drop-drop (length (token_bytes p)) (at + length p.blanks) text) ∙ ap (drop (length (token_bytes p))) (token_here p text after at here)
    ∙ drop-append_seam (token_bytes p) after

-- the tokens of a text that ends with these pieces
pub pieces_read : (ps : List Piece) (text : List ℕ) (at : ℕ) (last : List ℕ) → at ≤ length text → drop at text ≡ pieces_text ps last → ArePieces ps last →
    AreTokensFrom text at (tokens_of at ps)
pieces_read [] text at last inside here blank_last = subst IsLastGap (sym here) (ended last (blanks_gap last blank_last))
pieces_read (p ∷ ps) text at last inside here are =
    let after = pieces_text ps last in
    let from = at + length p.blanks in
    let len = length (token_bytes p) in
    let size : length (drop at text) ≡ length p.blanks + (len + length after) =
    ap length here ∙ length-append p.blanks (token_bytes p ++ after) ∙ ap (λ n. length p.blanks + n) (length-append (token_bytes p) after) in
    let room : from + len ≤ length text = omega (arith, size, length-drop at text) in
    blanks_read p.blanks text at (token_bytes p ++ after) (tokens_of at (p ∷ ps)) here are.0.blank
    (token_reads text from len p.kind (tokens_of (from + len) ps) (omega (arith, room))
    (subst (λ bs. HasToken bs p.kind len) (sym (token_here p text after at here)) (piece_front p after are.0))
    (pieces_read ps text (from + len) last room (token_past p text after at here) are.1))
