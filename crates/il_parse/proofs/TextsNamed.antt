-- What a text is as a program is what the model says: accepted texts and their programs.
use Rattle.std.proofs.Common.{◌≡◌, ℕ, ◌≤◌, nat_le, Bool, true, false, if◌then◌else◌, List, None, Some, Result, Ok, Err, refl, sym, ap, subst, ◌∙◌, inl, inr}
use Rattle.std.proofs.lemmas.Bool.{true≢false, cases_Bool, leb-true, le-leb}
use Rattle.il_text.specs.declared.token.Token.{Token}
use Rattle.il_text.specs.declared.fault.TextFault.{TextFault}
use Rattle.il_text.specs.declared.fault.TextCause.TheVariants.{TooLong}
use Rattle.il_text.specs.Tokens.{AreTokens}
use Rattle.il_text.specs.Faults.{fault_of}
use Rattle.il_text.proofs.OneReading.{one_reading}
use Rattle.il_text.proofs.FaultLemmas.{no_tokens}
use Rattle.il_model.specs.declared.program.Program.{Program}
use Rattle.il_model.specs.declared.written.WrittenClass.{WrittenClass}
use Rattle.il_model.specs.Lexemes.{lexemes_of}
use Rattle.il_model.specs.Canonical.{canonical_len}
use Rattle.il_model.specs.LookUp.{NamesProgram}
use Rattle.il_model.specs.Accepted.{IsWritten, IsProgramText}
use Rattle.il_parse.specs.declared.fault.Fault.{Fault}
use Rattle.il_parse.specs.declared.fault.ParseFault.{ParseFault}
use Rattle.il_parse.specs.declared.fault.ParseCause.TheVariants as cause
use Rattle.il_parse.specs.declared.answer.Spots.{Spots}
use Rattle.il_parse.specs.declared.answer.Parsed.{Parsed}
use Rattle.il_parse.specs.Looking.{Look, ◌>>=◌}
use Rattle.il_parse.specs.Classes.{read_program}
use Rattle.il_parse.specs.NamedClasses.{program_named}
use Rattle.il_parse.specs.Accepted.{IsAccepted, Says}
use Rattle.il_parse.specs.Answer.{spot_of, spots_of, short_enough, answer_with, answer_for, parsed, Parses, unreadable, readable}
use Rattle.il_parse.proofs.Finding.{some_is}
use Rattle.il_parse.proofs.LookSteps.{refused, given, looked}
use Rattle.il_parse.proofs.TextsSound.{text_sound}
use Rattle.il_parse.proofs.TextsComplete.{written_is_read, written_once}
use Rattle.il_parse.proofs.TextKinds.{kinds_of_text}
use Rattle.il_parse.proofs.ProgramsNamed.{program_sound, program_complete, program_unique}

abbrev is_ok : Result Parsed ParseFault → Bool
is_ok (Ok a) = true
is_ok (Err f) = false

no_answer : {C : Type 0} (f : ParseFault) (a : Parsed) → (let r : Result Parsed ParseFault = Err f in r ≡ Ok a) → C
no_answer f a e = absurd (true≢false (sym (ap is_ok e)))

abbrev answer_or : Parsed → Result Parsed ParseFault → Parsed
answer_or a (Ok b) = b
answer_or a (Err f) = a

pub one_answer : (a b : Parsed) → (let r : Result Parsed ParseFault = Ok a in r ≡ Ok b) → a ≡ b
one_answer a b e = ap (answer_or a) e

-- what is found for the classes that a text spells is what they stand for
pub written_sound : (text : List ℕ) (classes : List WrittenClass) (p : Program) → IsWritten text classes → program_named classes ≡ Ok p → NamesProgram classes p
written_sound text classes p w e = program_sound classes p (kinds_of_text (lexemes_of text w.tokens) classes w.spelled) e

-- a program that is short enough is itself
within : (most len : ℕ) (p q : Program) (f : Fault) → (let r : Look Program = if nat_le len most then Ok p else Err f in r ≡ Ok q) → (p ≡ q) × (len ≤ most)
within most len p q f e =
    elim (cases_Bool (nat_le len most)) [
      | inl hit ↦ (given p q (ap (λ b. if b then Ok p else Err f) (sym hit) ∙ e), leb-true len most hit)
      | inr miss ↦ refused f q (ap (λ b. if b then Ok p else Err f) (sym miss) ∙ e)
    ]

with_names : (text : List ℕ) (classes : List WrittenClass) (r : Look Program) (a : Parsed) → answer_with text classes r ≡ Ok a →
    (r ≡ Ok a.program) × (a.spots ≡ spots_of text classes)
with_names text classes (Ok p) a e =
    let same = one_answer (record { program = p; spots = spots_of text classes }) a e in
    (ap (λ (x : Parsed). Ok x.program) same, sym (ap (λ (x : Parsed). x.spots) same))
with_names text classes (Err f) a e = no_answer _ a e

with_classes : (text : List ℕ) (tokens : List Token) (r : Look (List WrittenClass)) (a : Parsed) → AreTokens text tokens → read_program (lexemes_of text tokens) ≡ r →
    answer_for text r ≡ Ok a → IsAccepted text a
with_classes text tokens (Err f) a are read e = no_answer _ a e
with_classes text tokens (Ok classes) a are read e =
    let n = with_names text classes (program_named classes >>= short_enough) a e in
    let written = text_sound text tokens classes are read in
    looked (program_named classes) short_enough a.program n.0 (λ p e0 e1.
    let s = within 4194304 (canonical_len p) p a.program (record { at = None; cause = cause.Text TooLong }) e1 in
    record {
      classes = classes;
      is = record {
        written = written;
        named = written_sound text classes a.program written (e0 ∙ ap Ok s.0);
        short = subst (λ q. canonical_len q ≤ 4194304) s.0 s.1;
      };
      spots = n.1;
    })

accepted_if : (text : List ℕ) (r : Result Parsed ParseFault) (a : Parsed) → Parses text r → r ≡ Ok a → IsAccepted text a
unfolding parsed
accepted_if text r a (unreadable fault is) e = no_answer _ a e
accepted_if text r a (readable tokens are) e = with_classes text tokens (read_program (lexemes_of text tokens)) a are refl e

-- what a text gives is a program of the model
pub accepted_sound : (text : List ℕ) (a : Parsed) → Parses text (Ok a) → IsAccepted text a
accepted_sound text a parses = accepted_if text (Ok a) a parses refl

-- what a text gives is one answer

faults_once : (text : List ℕ) (one other : TextFault) → fault_of text ≡ Some one → fault_of text ≡ Some other → one ≡ other
faults_once text one other a b = some_is one other (sym a ∙ b)

pub parses_once : (text : List ℕ) (r q : Result Parsed ParseFault) → Parses text r → Parses text q → r ≡ q
parses_once text r q (unreadable f e) (unreadable g h) =
    ap (λ (x : TextFault). Err (record { spot = spot_of text x.offset; cause = cause.Text x.cause })) (faults_once text f g e h)
parses_once text r q (unreadable f e) (readable tokens are) = absurd (no_tokens text tokens f e are)
parses_once text r q (readable tokens are) (unreadable f e) = absurd (no_tokens text tokens f e are)
parses_once text r q (readable tokens are) (readable others too) = ap (parsed text) (one_reading text others tokens too are)

-- a text that is a program gives it

short_is : (most len : ℕ) (p : Program) (f : Fault) → len ≤ most → (if nat_le len most then Ok p else Err f) ≡ Ok p
short_is most len p f short = ap (λ b. if b then Ok p else Err f) (le-leb len most short)

program_parses : (text : List ℕ) (classes : List WrittenClass) (p : Program) → IsProgramText text classes p →
    Parses text (Ok (record { program = p; spots = spots_of text classes }))
unfolding parsed
program_parses text classes p is =
    let w = is.written in
    subst (Parses text)
    (ap (answer_for text) (written_is_read text classes w w.tokens w.are_tokens)
    ∙ ap (λ (x : Look Program). answer_with text classes (x >>= short_enough)) (program_complete classes p is.named)
    ∙ ap (answer_with text classes) (short_is 4194304 (canonical_len p) p (record { at = None; cause = cause.Text TooLong }) is.short))
    (readable w.tokens w.are_tokens)

pub accepted_parses : (text : List ℕ) (a : Parsed) → IsAccepted text a → Parses text (Ok a)
accepted_parses text a accepted =
    subst (λ (x : List Spots). Parses text (Ok (record { program = a.program; spots = x }))) (sym accepted.spots)
    (program_parses text accepted.classes a.program accepted.is)

-- what a text gives says whether it is that of a program, and of which
pub parses_says : (text : List ℕ) (r : Result Parsed ParseFault) → Parses text r → Says text r
parses_says text (Ok a) parses = accepted_sound text a parses
parses_says text (Err f) parses = λ classes p is.
    no_answer f (record { program = p; spots = spots_of text classes })
    (parses_once text (Err f) (Ok (record { program = p; spots = spots_of text classes })) parses (program_parses text classes p is))

-- a text is one program at most
pub one_program : (text : List ℕ) (some others : List WrittenClass) (p q : Program) → IsProgramText text some p → IsProgramText text others q → p ≡ q
one_program text some others p q a b =
    program_unique some p q a.named (subst (λ cs. NamesProgram cs q) (sym (written_once text some others a.written b.written)) b.named)
