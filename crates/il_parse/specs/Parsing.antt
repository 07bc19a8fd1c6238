-- What the steps of parsing answer. This project's own.
use Rattle.std.specs.Prelude.{◌≡◌, ℕ, List, Result, Ok, Err, ⊤}
use Rattle.mn_outside.specs.declared.outside.Refused.{Refused}
use Rattle.mn_outside.specs.declared.outside.Refused.TheVariants as refused
use Rattle.il_parse.specs.declared.fault.ReadError.{ReadError}
use Rattle.il_parse.specs.declared.fault.ReadError.TheVariants as error
use Rattle.il_parse.specs.declared.fault.ParseFault.{ParseFault}
use Rattle.il_parse.specs.Answer.{located}

-- the answer is this, fault included; want of memory says nothing
abbrev pub Answers : {A : Type 0} → Result A ParseFault → Result A (Refused ParseFault) → Type 0
Answers expected (Ok x) = expected ≡ Ok x
Answers expected (Err (refused.Fault fault)) = expected ≡ Err fault
Answers expected (Err refused.NoMemory) = ⊤

-- a refusal with its line and column
abbrev pub refusal : List ℕ → ReadError → Refused ParseFault
refusal text (error.Fault fault) = refused.Fault (located text fault)
refusal text error.Memory = refused.NoMemory
