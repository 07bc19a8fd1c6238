-- A text whose tokens are read as classes spells these classes.
use Rattle.std.proofs.Common.{◌≡◌, ℕ, List, [], ◌∷◌, Ok}
use Rattle.il_text.specs.declared.token.Token.{Token}
use Rattle.il_text.specs.Tokens.{AreTokens, AreTokensFrom}
use Rattle.il_model.specs.declared.written.WrittenClass.{WrittenClass}
use Rattle.il_model.specs.Lexemes.{lexemes_of}
use Rattle.il_model.specs.Accepted.{IsWritten}
use Rattle.il_parse.specs.Classes.{read_program}
use Rattle.il_parse.proofs.Steps.{AreSpelled}
use Rattle.il_parse.proofs.ProgramsSound.{program_sound}
use Rattle.il_parse.proofs.CallsSound.{calls_are_sound}

pub tokens_spelled : (text : List ℕ) (at : ℕ) (tokens : List Token) → AreTokensFrom text at tokens → AreSpelled (lexemes_of text tokens)
tokens_spelled text at [] read = tt
tokens_spelled text at (t ∷ ts) read = (read.0.spelled, tokens_spelled text t.to ts read.1)

-- what is read of a text's tokens is what the text spells, within the limits, with the entry point only where it may stand
pub text_sound : (text : List ℕ) (tokens : List Token) (classes : List WrittenClass) → AreTokens text tokens → read_program (lexemes_of text tokens) ≡ Ok classes → IsWritten text classes
text_sound text tokens classes are e =
    let p = program_sound calls_are_sound (lexemes_of text tokens) classes (tokens_spelled text 0 tokens are.read) e in
    record { tokens = tokens; are_tokens = are; spelled = p.is; small = p.small; entries = p.entries }
