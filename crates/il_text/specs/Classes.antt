-- The classes of bytes that a run may consist of. This project's own.
use Rattle.std.specs.Prelude.{ℕ, Bool}
use Rattle.il_text.specs.declared.bytes.ByteClass.{ByteClass}
use Rattle.il_text.specs.declared.bytes.ByteClass.TheVariants.{WordByte, Digit, HexDigit, CommentByte}
use Rattle.il_text.specs.Bytes.{is_digit, is_hex_digit, is_word_byte, is_comment_byte}

abbrev pub is_in : ByteClass → ℕ → Bool
is_in WordByte = is_word_byte
is_in Digit = is_digit
is_in HexDigit = is_hex_digit
is_in CommentByte = is_comment_byte
