-- The lexemes of a text that has tokens.
use Rattle.std.proofs.Common.{◌≡◌, ℕ, ◌+◌, ◌-◌, ◌<◌, ◌≤◌, ◌^◌, true, List, [], ◌∷◌, length, arith, subst}
use Rattle.std.specs.List.{AllByRecursion}
use Rattle.std.proofs.lemmas.List.{length-map}
use Rattle.il_text.specs.declared.token.Token.{Token}
use Rattle.il_text.specs.declared.token.TokenKind.TheVariants as token
use Rattle.il_text.specs.Spelling.{spells, magnitude_of, IsWithinLimit}
use Rattle.il_text.specs.Tokens.{AreTokens, AreTokensFrom}
use Rattle.il_text.proofs.OneReading.{slices}
use Rattle.il_model.specs.Lexemes.{Lexeme, lexeme_of, lexemes_of}
use Rattle.il_print.proofs.TokenReads.{IsToken}
use Rattle.il_print.proofs.PartReads.{follow_each}
use Rattle.il_print.proofs.WrittenTokens.{tokens_are}
use Rattle.il_print.proofs.AgainMembers.{AreGenuine}

-- each token has a byte at least
few_tokens : (text : List ℕ) (at : ℕ) (tokens : List Token) → AreTokensFrom text at tokens → at ≤ length text → at + length tokens ≤ length text
few_tokens text at [] read inside = omega (arith, inside)
few_tokens text at (t ∷ ts) read inside =
    let here = slices text at (t ∷ ts) read 0 t (omega arith) in
    let later : t.to + length ts ≤ length text = few_tokens text t.to ts read.1 read.0.inside in
    omega (arith, later, here.some, read.0.later)

number_low : (l : Lexeme) → IsToken l.kind l.bytes → l.kind ≡ token.Number → magnitude_of l.bytes < 2 ^ 64
number_low l is e =
    let within : magnitude_of l.bytes ≤ 2 ^ 64 - 1 = subst (λ k. IsWithinLimit k l.bytes) e is.within in
    omega (arith, within)

pub genuine_text : (text : List ℕ) (tokens : List Token) → AreTokens text tokens → AreGenuine (lexemes_of text tokens)
genuine_text text tokens are =
    let each = tokens_are text 0 tokens are.read in
    let few : 0 + length tokens ≤ length text = few_tokens text 0 tokens are.read (omega arith) in
    record {
      few = omega (arith, few, are.short, length-map tokens (lexeme_of text));
      numbers = follow_each (λ (l : Lexeme). IsToken l.kind l.bytes) (λ (l : Lexeme). l.kind ≡ token.Number → magnitude_of l.bytes < 2 ^ 64) number_low (lexemes_of text tokens) each;
      spelled = follow_each (λ (l : Lexeme). IsToken l.kind l.bytes) (λ (l : Lexeme). spells l.kind l.bytes ≡ true) (λ l is. is.spelled) (lexemes_of text tokens) each;
    }
