-- Accepted text: which bytes spell which program. This project's own.
use Rattle.std.specs.Prelude.{◌≤◌, ℕ, List, All}
use Rattle.il_text.specs.declared.token.Token.{Token}
use Rattle.il_text.specs.Tokens.{AreTokens}
use Rattle.il_model.specs.declared.written.WrittenClass.{WrittenClass}
use Rattle.il_model.specs.declared.program.Program.{Program}
use Rattle.il_model.specs.Lexemes.{lexemes_of}
use Rattle.il_model.specs.Classes.{IsProgram}
use Rattle.il_model.specs.Bounds.{IsSmall}
use Rattle.il_model.specs.LookUp.{EntriesFit, NamesProgram}
use Rattle.il_model.specs.Canonical.{canonical_len}

-- the text spells these classes: all of its tokens, by the grammar, within the limits, and the entry point only where it may stand
pub record IsWritten (text : List ℕ) (classes : List WrittenClass) : Type 0 where
  pub tokens : List Token
  pub are_tokens : AreTokens text tokens
  pub spelled : IsProgram (lexemes_of text tokens) classes
  pub small : IsSmall classes
  pub entries : All EntriesFit classes

-- the text is accepted, spells these classes, and is this program; its canonical text has at most 4,194,304 bytes
pub record IsProgramText (text : List ℕ) (classes : List WrittenClass) (p : Program) : Type 0 where
  pub written : IsWritten text classes
  pub named : NamesProgram classes p
  pub short : canonical_len p ≤ 4194304

-- some text is accepted as this program
pub record IsOfText (p : Program) : Type 0 where
  pub text : List ℕ
  pub classes : List WrittenClass
  pub accepted : IsProgramText text classes p
