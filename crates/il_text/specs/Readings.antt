-- What a text that is refused has. This project's own.
use Rattle.std.specs.Prelude.{◌≡◌, ℕ, List, Some, ⊤}
use Rattle.mn_outside.specs.declared.outside.Refused.{Refused}
use Rattle.mn_outside.specs.declared.outside.Refused.TheVariants.{Fault, NoMemory}
use Rattle.il_text.specs.declared.fault.TextFault.{TextFault}
use Rattle.il_text.specs.declared.token.Token.{Token}
use Rattle.il_text.specs.Tokens.{AreTokens}
use Rattle.il_text.specs.Faults.{fault_of}

-- the text has no tokens, and this is its fault
pub record IsUnreadable (text : List ℕ) (fault : TextFault) : Type 0 where
  pub place : fault_of text ≡ Some fault
  pub unread : (tokens : List Token) → ¬ AreTokens text tokens

-- a text is refused for its fault; want of memory says nothing of it
abbrev pub IsRefusedFor : List ℕ → Refused TextFault → Type 0
IsRefusedFor text (Fault fault) = IsUnreadable text fault
IsRefusedFor text NoMemory = ⊤
