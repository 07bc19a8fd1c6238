-- What a text spells is what is read of its tokens, so a text spells one list of classes at most.
use Rattle.std.proofs.Common.{◌≡◌, ℕ, List, Result, Ok, sym, ap, ◌∙◌}
use Rattle.il_text.specs.declared.token.Token.{Token}
use Rattle.il_text.specs.Tokens.{AreTokens}
use Rattle.il_text.proofs.OneReading.{one_reading}
use Rattle.il_model.specs.declared.written.WrittenClass.{WrittenClass}
use Rattle.il_model.specs.Lexemes.{lexemes_of}
use Rattle.il_model.specs.Accepted.{IsWritten}
use Rattle.il_parse.specs.declared.fault.Fault.{Fault}
use Rattle.il_parse.specs.Classes.{read_program}
use Rattle.il_parse.proofs.TextsSound.{tokens_spelled, text_sound}
use Rattle.il_parse.proofs.ProgramsComplete.{program_complete}

-- the classes that a text spells are read of its tokens
pub written_is_read : (text : List ℕ) (classes : List WrittenClass) → IsWritten text classes → (tokens : List Token) → AreTokens text tokens →
    read_program (lexemes_of text tokens) ≡ Ok classes
written_is_read text classes w tokens are =
    ap (λ ts. read_program (lexemes_of text ts)) (sym (one_reading text tokens w.tokens are w.are_tokens))
    ∙ program_complete (lexemes_of text w.tokens) classes (tokens_spelled text 0 w.tokens w.are_tokens.read) w.spelled w.small w.entries

-- a text with these tokens spells classes exactly where they are read of it
pub read_is_written : (text : List ℕ) (tokens : List Token) → AreTokens text tokens → (classes : List WrittenClass) →
    (read_program (lexemes_of text tokens) ≡ Ok classes → IsWritten text classes) × (IsWritten text classes → read_program (lexemes_of text tokens) ≡ Ok classes)
read_is_written text tokens are classes = (text_sound text tokens classes are, λ w. written_is_read text classes w tokens are)

ok_same : (r : Result (List WrittenClass) Fault) (a b : List WrittenClass) → r ≡ Ok a → r ≡ Ok b → a ≡ b
ok_same r a b one other = cc

-- a text spells one list of classes at most
pub written_once : (text : List ℕ) (some others : List WrittenClass) → IsWritten text some → IsWritten text others → some ≡ others
written_once text some others a b =
    ok_same (read_program (lexemes_of text a.tokens)) some others (written_is_read text some a a.tokens a.are_tokens) (written_is_read text others b a.tokens a.are_tokens)
