-- The steps of parsing, put together.
use Rattle.std.proofs.Common.{◌≡◌, ℕ, ◌≤◌, ◌<◌, Bool, true, false, List, None, Ok, Err, min, nat_le, if◌then◌else◌, cond, refl, sym, ◌∙◌, ap, subst, arith, ◌^◌, ◌-◌, Result, IfOk}
use Rattle.std.proofs.lemmas.Bool.{le-leb, lt-leb}
use Rattle.mn_outside.specs.declared.outside.Refused.{Refused}
use Rattle.mn_outside.specs.declared.outside.Refused.TheVariants as refused
use Rattle.il_text.specs.declared.token.Token.{Token}
use Rattle.il_text.specs.Tokens.{AreTokens}
use Rattle.il_model.specs.declared.program.Program.{Program}
use Rattle.il_model.specs.declared.written.WrittenClass.{WrittenClass}
use Rattle.il_model.specs.Lexemes.{Lexeme}
use Rattle.il_model.specs.Canonical.{canonical_len}
use Rattle.il_parse.specs.declared.fault.ReadError.{ReadError}
use Rattle.il_parse.specs.declared.fault.ReadError.TheVariants as error
use Rattle.il_parse.specs.declared.fault.ParseFault.{ParseFault}
use Rattle.il_parse.specs.declared.answer.Parsed.{Parsed}
use Rattle.il_parse.specs.Reading.{Read, Reads}
use Rattle.il_parse.specs.Looking.{Look, Looks}
use Rattle.il_parse.specs.Classes.{outcome}
use Rattle.il_parse.specs.Answer.{parsed, Parses, readable, IsAnswer, answer_for, answer_with, located, short_enough, too_long}
use Rattle.il_parse.specs.Accepted.{IsAccepted}
use Rattle.il_parse.specs.Parsing.{Answers, refusal}
use Rattle.il_parse.proofs.TextsNamed.{parses_once, accepted_sound}

-- what is read, the lexemes behind it left aside
pub read_looks : {A : Type 0} (read : Read A) (result : Result A ReadError) (new : List Lexeme) → Reads read result new → Looks (outcome read) result
read_looks read (Ok x) new is = ap outcome is
read_looks read (Err (error.Fault fault)) new is = ap outcome is
read_looks read (Err error.Memory) new is = tt

-- what a text is, it is alone
pub answer_alone : (text : List ℕ) (r : Result Parsed ParseFault) → Parses text r → IsAnswer text r
answer_alone text r p = record { parses = p; only = λ other q. parses_once text other r q p }

-- the answer by the tokens of a text is what the text is
module _ (text : List ℕ) (tokens : List Token) (are : AreTokens text tokens) where
  pub ok_by_tokens : (result : Result Parsed (Refused ParseFault)) → Answers (parsed text tokens) result → IfOk result (λ p. Parses text (Ok p))
  ok_by_tokens (Ok p) is = subst (Parses text) is (readable tokens are)
  ok_by_tokens (Err e) is = tt

  pub fault_by_tokens : (result : Result Parsed (Refused ParseFault)) → Answers (parsed text tokens) result → (f : ParseFault) →
      result ≡ Err (refused.Fault f) → Parses text (Err f)
  fault_by_tokens (Ok p) answers f is = absurd (cc)
  fault_by_tokens (Err (refused.Fault g)) answers f is = let same : g ≡ f = cc in subst (λ h. Parses text (Err h)) same (subst (Parses text) answers (readable tokens are))
  fault_by_tokens (Err refused.NoMemory) answers f is = absurd (cc)

-- a program that a text is, is its one answer, and is accepted
pub ok_answer : (text : List ℕ) (result : Result Parsed (Refused ParseFault)) → IfOk result (λ p. Parses text (Ok p)) → IfOk result (λ p. IsAnswer text (Ok p))
ok_answer text (Ok p) is = answer_alone text (Ok p) is
ok_answer text (Err e) is = tt

pub ok_accepted : (text : List ℕ) (result : Result Parsed (Refused ParseFault)) → IfOk result (λ p. Parses text (Ok p)) → IfOk result (IsAccepted text)
ok_accepted text (Ok p) is = accepted_sound text p is
ok_accepted text (Err e) is = tt

-- a refusal of the syntax
pub syntax_refused : (text : List ℕ) (look : Look (List WrittenClass)) (e : ReadError) → Looks look (Err e) →
    Answers (answer_for text look) (Err (refusal text e))
syntax_refused text look (error.Fault fault) is = ap (answer_for text) is
syntax_refused text look error.Memory is = tt

-- a refusal of the look-up and of the length
pub names_refused : (text : List ℕ) (classes : List WrittenClass) (look : Look Program) (e : ReadError) → Looks look (Err e) →
    Answers (answer_with text classes look) (Err (refusal text e))
names_refused text classes look (error.Fault fault) is = ap (answer_with text classes) is
names_refused text classes look error.Memory is = tt

-- a count that stops at a great number is short exactly where the whole is
pub is_short : (p : Program) (n count most last : ℕ) → count ≡ min n last → most < last → count ≤ most → (if nat_le n most then Ok p else Err too_long) ≡ Ok p
is_short p n count most last is below short =
    let order : n ≤ most = omega arith in ap (λ t. if t then Ok p else Err too_long) (le-leb n most order)

pub is_long : (p : Program) (n count most last : ℕ) → count ≡ min n last → most < last → most < count → (if nat_le n most then Ok p else Err too_long) ≡ Err too_long
is_long p n count most last is below long =
    let order : most < n = omega arith in ap (λ t. if t then Ok p else Err too_long) (lt-leb n most order)
