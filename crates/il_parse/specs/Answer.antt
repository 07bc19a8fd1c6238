-- What a text is: a program with its places, or the first place that refuses it. This project's own.
use Rattle.std.specs.Prelude.{◌≡◌, ℕ, nat_le, if◌then◌else◌, List, [], ◌++◌, length, map, take, flat_map, Option, Some, None, option_to_list, Result, Ok, Err}
use Rattle.il_text.specs.declared.place.Spot.{Spot}
use Rattle.il_text.specs.declared.token.Token.{Token}
use Rattle.il_text.specs.declared.fault.TextFault.{TextFault}
use Rattle.il_text.specs.declared.fault.TextCause.TheVariants.{TooLong}
use Rattle.il_text.specs.Places.{spot_after}
use Rattle.il_text.specs.Tokens.{AreTokens}
use Rattle.il_text.specs.Faults.{fault_of}
use Rattle.il_model.specs.declared.program.Program.{Program}
use Rattle.il_model.specs.declared.method.MethodDef.{MethodDef}
use Rattle.il_model.specs.declared.written.WrittenMethod.{WrittenMethod}
use Rattle.il_model.specs.declared.written.WrittenClass.{WrittenClass}
use Rattle.il_model.specs.Lexemes.{lexemes_of}
use Rattle.il_model.specs.Bounds.{instrs_of, all_methods}
use Rattle.il_model.specs.Library.{library_classes, library_methods}
use Rattle.il_model.specs.Canonical.{canonical_len}
use Rattle.il_parse.specs.declared.fault.Fault.{Fault}
use Rattle.il_parse.specs.declared.fault.ParseFault.{ParseFault}
use Rattle.il_parse.specs.declared.fault.ParseCause.TheVariants as cause
use Rattle.il_parse.specs.declared.answer.Spots.{Spots}
use Rattle.il_parse.specs.declared.answer.Parsed.{Parsed}
use Rattle.il_parse.specs.Looking.{Look, ◌>>=◌}
use Rattle.il_parse.specs.Classes.{read_program}
use Rattle.il_parse.specs.NamedClasses.{program_named}

-- line and column of a byte of the text
abbrev pub spot_of : List ℕ → ℕ → Spot
spot_of text at = spot_after (take at text)

-- the byte of a fault, which may be the end of the text
abbrev pub offset_of : List ℕ → Option ℕ → ℕ
offset_of text (Some at) = at
offset_of text None = length text

abbrev pub located : List ℕ → Fault → ParseFault
located text fault = record { spot = spot_of text (offset_of text fault.at); cause = fault.cause }

-- the place of what the library defines
abbrev pub library_spot : Spot
library_spot = record { line = 1; column = 1 }

abbrev pub spots_of_library_method : MethodDef → Spots
spots_of_library_method m =
    record { declared = library_spot; code = map (λ _. library_spot) (flat_map (λ b. b.code) (option_to_list m.body)) }

abbrev pub spots_of_class : List ℕ → WrittenClass → Spots
spots_of_class text c = record { declared = spot_of text c.at; code = [] }

abbrev pub spots_of_method : List ℕ → WrittenMethod → Spots
spots_of_method text m = record {
  declared = spot_of text m.at;
  code = map (λ i. spot_of text i.at) (flat_map (λ b. instrs_of b.lines) (option_to_list m.body));
}

-- the places of each class and then of each method
unfoldable pub spots_of : List ℕ → List WrittenClass → List Spots
spots_of text classes =
    map (λ _. record { declared = library_spot; code = [] }) library_classes ++ map (spots_of_class text) classes ++
    map spots_of_library_method library_methods ++ map (spots_of_method text) (all_methods classes)

-- that the canonical text is too long
abbrev pub too_long : Fault
too_long = record { at = None; cause = cause.Text TooLong }

-- the canonical text of the program may have at most so many bytes; where it has more the end of the text is refused
abbrev pub short_enough : Program → Look Program
short_enough p = if nat_le (canonical_len p) 4194304 then Ok p else Err too_long

-- the program that written classes stand for, if its canonical text is short enough
abbrev pub short_program : List WrittenClass → Look Program
short_program classes = program_named classes >>= short_enough

abbrev pub answer_with : List ℕ → List WrittenClass → Look Program → Result Parsed ParseFault
answer_with text classes (Ok p) = Ok (record { program = p; spots = spots_of text classes })
answer_with text classes (Err fault) = Err (located text fault)

abbrev pub answer_for : List ℕ → Look (List WrittenClass) → Result Parsed ParseFault
answer_for text (Ok classes) = answer_with text classes (short_program classes)
answer_for text (Err fault) = Err (located text fault)

-- what a text with these tokens is: the first of syntax, names and length that refuses it names its first place
unfoldable pub parsed : List ℕ → List Token → Result Parsed ParseFault
parsed text tokens = answer_for text (read_program (lexemes_of text tokens))

-- the place and the cause where a text has no tokens
abbrev pub unreadable_at : List ℕ → TextFault → ParseFault
unreadable_at text fault = record { spot = spot_of text fault.offset; cause = cause.Text fault.cause }

-- what a text is: where it has no tokens, the fault of these comes first
pub data Parses (text : List ℕ) : Result Parsed ParseFault → Type 0 where
  unreadable : (fault : TextFault) → fault_of text ≡ Some fault →
      Parses text (Err (unreadable_at text fault))
  readable : (tokens : List Token) → AreTokens text tokens → Parses text (parsed text tokens)

-- what the text is, and that it is nothing else
pub record IsAnswer (text : List ℕ) (r : Result Parsed ParseFault) : Type 0 where
  pub parses : Parses text r
  pub only : (other : Result Parsed ParseFault) → Parses text other → other ≡ r
