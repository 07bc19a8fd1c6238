-- What a line of a choice does, or the first cause for which it is refused. This project's own.
use Rattle.std.specs.Prelude.{◌≡◌, ℕ, ◌==◌, ◌&&◌, Bool, true, if◌then◌else◌, List, [], ◌∷◌, slice_get, is_none, is_some, codes, bytes_eq, Option, Some, None, Result, Ok, Err, ⊤}
use Rattle.il_text.specs.Spelling.{after_byte}
use Rattle.mn_outside.specs.declared.outside.Refused.{Refused}
use Rattle.mn_outside.specs.declared.outside.Refused.TheVariants as refused
use Rattle.il_model.specs.declared.key.KeyPart.{KeyPart}
use Rattle.il_model.specs.declared.method.MethodDef.{MethodDef}
use Rattle.il_model.specs.declared.program.Program.{Program}
use Rattle.aot_image.specs.declared.choice_fault.ChoiceCause.{ChoiceCause}
use Rattle.aot_image.specs.declared.choice_fault.ChoiceCause.TheVariants as cause
use Rattle.aot_image.specs.declared.choice_judging.Act.{Act}
use Rattle.aot_image.specs.declared.choice_judging.Act.TheVariants as act
use Rattle.aot_image.specs.ChoosingParts.{words_of}
use Rattle.aot_image.specs.ChoosingMethods.{full_of, method_with}
use Rattle.aot_image.specs.ChoosingKeys.{keys_of}
use Rattle.aot_image.specs.ChoosingBounds.{cause_of}
use Rattle.aot_image.specs.ChoosingPicks.{may_have_body}

abbrev pub Judged : Type 0
Judged = Result Act ChoiceCause

abbrev pub on_definition : Option MethodDef → (MethodDef → Judged) → Judged
on_definition None next = Err cause.UnknownMethod
on_definition (Some m) next = next m

-- what is done with the method of this number
abbrev pub on_method : Program → Option ℕ → (ℕ → MethodDef → Judged) → Judged
on_method program None next = Err cause.UnknownMethod
on_method program (Some number) next = on_definition (slice_get program.methods number) (next number)

-- `!METHOD`, where METHOD has this text
abbrev pub taken_away : Program → Option (List ℕ) → Judged
taken_away program None = Err cause.Syntax
taken_away program (Some text) =
    on_method program (method_with program text) (λ number m. if is_none m.body then Err cause.NoBody else Ok (act.TakesAway number))

abbrev pub added_keys : ℕ → List KeyPart → Option ChoiceCause → Judged
added_keys number keys (Some why) = Err why
added_keys number keys None = Ok (act.Adds number keys)

-- METHOD with these keys, where METHOD has this text
abbrev pub added : Program → List ℕ → Option (List KeyPart) → Judged
added program text None = Err cause.Syntax
added program text (Some keys) =
    on_method program (method_with program text) (λ number m.
    if may_have_body number m then added_keys number keys (cause_of program m keys) else Err cause.NoBody)

-- METHOD and words for keys, where METHOD has this text
abbrev pub added_words : Program → Option (List ℕ) → List (List ℕ) → Judged
added_words program None words = Err cause.Syntax
added_words program (Some text) words = added program text (keys_of program words)

abbrev pub addition : Program → List (List ℕ) → Judged
addition program [] = Err cause.Syntax
addition program (method ∷ words) = added_words program (full_of method) words

-- an empty line, or one that begins with `//`
abbrev pub is_remark : List ℕ → Bool
is_remark [] = true
is_remark (b ∷ bs) = (b == 47) && is_some (after_byte 47 bs)

-- what a line does that is `!METHOD`, with METHOD here, or an addition
abbrev pub judged_by : Program → List ℕ → Option (List ℕ) → Judged
judged_by program line (Some method) = taken_away program (full_of method)
judged_by program line None = addition program (words_of line)

-- what a line does
unfoldable pub judged : Program → List ℕ → Judged
judged program line =
    if is_remark line then Ok act.Nothing
    else (if bytes_eq (codes "*") line then Ok act.AddsAll else judged_by program line (after_byte 33 line))

-- the answer on a line is the definition's; want of memory says nothing
abbrev pub IsJudged : Judged → Result Act (Refused ChoiceCause) → Type 0
IsJudged expected (Ok act) = expected ≡ Ok act
IsJudged expected (Err (refused.Fault why)) = expected ≡ Err why
IsJudged expected (Err refused.NoMemory) = ⊤
