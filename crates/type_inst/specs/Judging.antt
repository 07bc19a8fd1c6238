-- What is answered of a type's limit.
use Rattle.std.specs.Prelude.{◌≡◌, ⊤, Result, Ok, Err, Option, Some, None}
use Rattle.mn_outside.specs.declared.outside.Refused.{Refused}
use Rattle.mn_outside.specs.declared.outside.Refused.TheVariants.{Fault, NoMemory}
use Rattle.il_model.specs.declared.layout.Limit.{Limit}

-- the answer is the limit that is passed, or that none is; want of memory says nothing
abbrev pub Judges : {T : Type 0} → Result T (Refused Limit) → Option Limit → Type 0
Judges (Ok x) limit = limit ≡ None
Judges (Err (Fault passed)) limit = limit ≡ Some passed
Judges (Err NoMemory) limit = ⊤
