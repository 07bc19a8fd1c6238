-- What an instruction holds, as the parser's code has it. This project's own.
use Rattle.std.specs.Prelude.{Result, Ok, Err}
use Rattle.il_model.specs.Ops.{Operand, nothing, int32, int64, literal, place, target, targets, type, method, field, constrained}
use Rattle.il_parse.specs.declared.fault.ReadError.{ReadError}
use Rattle.il_parse.specs.declared.named_ops.Held.{Held}
use Rattle.il_parse.specs.declared.named_ops.Held.TheVariants as held

abbrev pub held_view : Held → Operand
held_view held.Nothing = nothing
held_view (held.Int32 n) = int32 n
held_view (held.Int64 n) = int64 n
held_view (held.Literal n) = literal n
held_view (held.Place n) = place n
held_view (held.Target to) = target to
held_view (held.Targets to) = targets to
held_view (held.Type t) = type t
held_view (held.Method m) = method m
held_view (held.Field f) = field f
held_view (held.Constrained t m) = constrained t m

-- what the code answers, with what the definition has for what an instruction holds
abbrev pub seen_held : Result Held ReadError → Result Operand ReadError
seen_held (Ok held) = Ok (held_view held)
seen_held (Err e) = Err e
