-- What stands at the front of bytes. This project's own.
use Rattle.std.specs.Prelude.{◌≡◌, ◌<◌, ◌≤◌, ℕ, ◌==◌, ◌||◌, if◌then◌else◌, true, List, take, length, Option, Some, None}
use Rattle.il_text.specs.declared.token.TokenKind.{TokenKind}
use Rattle.il_text.specs.declared.token.TokenKind.TheVariants.{Word, Variable, Number, Text, Mark}
use Rattle.il_text.specs.Bytes.{is_word_start, is_digit}
use Rattle.il_text.specs.Spelling.{spells, IsWithinLimit}
use Rattle.il_text.specs.declared.fault.TextCause.{TextCause}
use Rattle.il_text.specs.declared.fault.TextCause.TheVariants.{BadLiteral, LongName}
use Rattle.il_text.specs.Faults.{gap_len, token_len, cause_of}

-- the one kind of token that this byte may begin; Mark where it begins none
abbrev pub kind_for : ℕ → TokenKind
kind_for b = if is_word_start b then Word
    else (if b == 33 then Variable
    else (if is_digit b || (b == 45) then Number
    else (if b == 34 then Text else Mark)))

-- a token of this kind and length stands in front
pub record HasToken (bytes : List ℕ) (kind : TokenKind) (len : ℕ) : Type 0 where
  pub some : 0 < len
  pub inside : len ≤ length bytes
  pub longest : token_len bytes ≡ len
  pub spelled : spells kind (take len bytes) ≡ true
  pub within : IsWithinLimit kind (take len bytes)
  pub fine : cause_of bytes ≡ None

-- the cause at a token past its kind's limit
abbrev pub limit_cause_of : TokenKind → TextCause
limit_cause_of Word = LongName
limit_cause_of Number = BadLiteral
limit_cause_of Variable = BadLiteral
limit_cause_of Text = BadLiteral
limit_cause_of Mark = BadLiteral

-- a blank or a comment of this length, or a token of this kind and length, stands in front
abbrev pub HasFront : List ℕ → Option TokenKind → ℕ → Type 0
HasFront bytes None len = (0 < len) × (gap_len bytes ≡ len) × (len ≤ length bytes)
HasFront bytes (Some kind) len = (gap_len bytes ≡ 0) × HasToken bytes kind len
