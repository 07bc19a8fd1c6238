-- The first place at which a text has no reading, and why. This project's own.
use Rattle.std.specs.Prelude.{◌^◌, ◌+◌, ◌-◌, ℕ, zero, suc, nat_lt, nat_le, ◌==◌, ◌&&◌, if◌then◌else◌, Bool, true, List, [], ◌∷◌, take, length, Option, Some, None}
use Rattle.std.specs.List.{list_any, prefix_len}
use Rattle.il_text.specs.declared.fault.TextFault.{TextFault}
use Rattle.il_text.specs.declared.fault.TextCause.{TextCause}
use Rattle.il_text.specs.declared.fault.TextCause.TheVariants.{BadByte, BadLiteral, LongName, TooLong}
use Rattle.il_text.specs.declared.token.TokenKind.TheVariants.{Word, Variable, Number, Text, Mark}
use Rattle.il_text.specs.Bytes.{is_blank, is_comment_byte}
use Rattle.il_text.specs.Spelling.{is_led_by, spells, is_word, is_number, magnitude_of}

abbrev pub is_token : List ℕ → Bool
is_token bytes = list_any (λ kind. spells kind bytes) (Word ∷ Variable ∷ Number ∷ Text ∷ Mark ∷ [])

-- how long the longest front of at most n bytes is that passes the test, or 0
abbrev pub longest_front : (List ℕ → Bool) → ℕ → List ℕ → ℕ
longest_front test zero bytes = 0
longest_front test (suc n) bytes = if test (take (suc n) bytes) then suc n else longest_front test n bytes

-- the length of the token in front, or 0
unfoldable pub token_len : List ℕ → ℕ
token_len bytes = longest_front is_token (length bytes) bytes

-- the length of the blank or the comment in front, or 0; a comment goes on up to the end of its line, or to a byte that isn't ASCII
abbrev pub gap_len : List ℕ → ℕ
gap_len [] = 0
gap_len (b ∷ []) = if is_blank b then 1 else 0
gap_len (b ∷ c ∷ bs) = if is_blank b then 1 else (if (b == 47) && (c == 47) then 2 + prefix_len is_comment_byte bs else 0)

-- why a token is refused
abbrev pub limit_cause : List ℕ → Option TextCause
limit_cause token = if is_word token && nat_lt 255 (length token) then Some LongName
    else (if is_number token && nat_lt (2 ^ 64 - 1) (magnitude_of token) then Some BadLiteral else None)

-- why nothing begins here: a literal has no end, or the byte begins no token
abbrev pub no_token_cause : List ℕ → TextCause
no_token_cause bytes = if is_led_by 34 (λ _. true) bytes then BadLiteral else BadByte

-- why what stands in front is refused
unfoldable pub cause_of : List ℕ → Option TextCause
cause_of bytes = if nat_lt 0 (gap_len bytes) then None
    else (if nat_lt 0 (token_len bytes) then limit_cause (take (token_len bytes) bytes) else Some (no_token_cause bytes))

-- the length of what stands in front
abbrev pub front_len : List ℕ → ℕ
front_len bytes = if nat_lt 0 (gap_len bytes) then gap_len bytes else token_len bytes

abbrev pub fault_or : Option TextCause → ℕ → Option TextFault → Option TextFault
fault_or None at later = later
fault_or (Some cause) at later = Some (record { offset = at; cause = cause })

-- the first refusal in bytes that begin at this place, the first of which, so many, belong to what began before
abbrev pub first_refusal : ℕ → ℕ → List ℕ → Option TextFault
first_refusal at inside [] = None
first_refusal at (suc inside) (b ∷ bs) = first_refusal (at + 1) inside bs
first_refusal at zero (b ∷ bs) = fault_or (cause_of (b ∷ bs)) at (first_refusal (at + 1) (front_len (b ∷ bs) - 1) bs)

abbrev pub length_fault : List ℕ → Option TextFault
length_fault text = if nat_lt 4194304 (length text) then Some (record { offset = 4194304; cause = TooLong }) else None

-- of two faults the one at the earlier place, and at one place the first
abbrev pub earlier : Option TextFault → Option TextFault → Option TextFault
earlier None second = second
earlier (Some first) None = Some first
earlier (Some first) (Some second) = if nat_le first.offset second.offset then Some first else Some second

-- the fault of a text. At one place BadByte, BadLiteral and LongName, of which each shuts out the others, come before TooLong
abbrev pub fault_of : List ℕ → Option TextFault
fault_of text = earlier (first_refusal 0 0 text) (length_fault text)
