-- A text that has given keys, and is short, has tokens with these keys.
use Rattle.std.proofs.Common.{◌≡◌, ℕ, ◌+◌, ◌-◌, ◌≤◌, List, [], ◌∷◌, length, map, take, drop, refl, ap, ◌∙◌, arith}
use Rattle.std.specs.Prelude.{slice_range}
use Rattle.std.proofs.Math.Seq.{take-append_seam}
use Rattle.il_text.specs.declared.token.Token.{Token}
use Rattle.il_text.specs.Tokens.{AreTokens}
use Rattle.il_model.specs.Lexemes.{lexemes_of}
use Rattle.il_print.proofs.Keys.{Key, key_of}
use Rattle.il_print.proofs.PieceLemmas.{Piece, token_bytes, pieces_text, tokens_of, token_here, token_past, pieces_read}
use Rattle.il_print.proofs.TokenReads.{piece_key, Has}

pieces_keys : (ps : List Piece) (text : List ℕ) (at : ℕ) (last : List ℕ) → drop at text ≡ pieces_text ps last →
    map key_of (lexemes_of text (tokens_of at ps)) ≡ map piece_key ps
pieces_keys [] text at last here = refl
pieces_keys (p ∷ ps) text at last here =
    let after = pieces_text ps last in
    let from = at + length p.blanks in
    let len = length (token_bytes p) in
    let size : from + len - from ≡ len = omega arith in
    let spelled : slice_range text from (from + len) ≡ token_bytes p =
    ap (λ n. take n (drop from text)) size ∙ ap (take len) (token_here p text after at here) ∙ take-append_seam (token_bytes p) after in
    (λ i. record { kind = p.kind; bytes = spelled i } ∷ pieces_keys ps text (from + len) last (token_past p text after at here) i)

-- the tokens of the text, with their keys
pub keys_read : (text : List ℕ) (ks : List Key) → Has text ks → length text ≤ 4194304 →
    (tokens : List Token) × AreTokens text tokens × (map key_of (lexemes_of text tokens) ≡ ks)
keys_read text ks h short = (
  tokens_of 0 h.pieces,
  record { short = short; read = pieces_read h.pieces text 0 h.last (omega arith) h.text h.are },
  pieces_keys h.pieces text 0 h.last h.text ∙ h.keys,
)
