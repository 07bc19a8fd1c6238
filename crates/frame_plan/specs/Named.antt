-- How many arguments the calls of a body pass. This project's own.
use Rattle.std.specs.Prelude.{ℕ, ◌+◌, max, List, [], length, map, fold, Option, Some, None, if◌then◌else◌}
use Rattle.il_model.specs.declared.member.MRef.{MRef}
use Rattle.il_model.specs.declared.method.Body.{Body}
use Rattle.il_model.specs.declared.method.MethodDef.{MethodDef}
use Rattle.il_model.specs.declared.op.Op.{Op}
use Rattle.il_model.specs.Entries.{Mention, nothing, type, kind as number_of, vector, field, call, virtual_call, constrained, new, mention_of}

-- the arguments of a method that is named, the object included
abbrev pub argument_count : MRef → ℕ
argument_count m = (if m.instance then 1 else 0) + length m.params

-- the arguments that are passed where this is mentioned
abbrev pub passed_by : Mention → ℕ
passed_by nothing = 0
passed_by (type t) = 0
passed_by (number_of t) = 0
passed_by (vector t) = 0
passed_by (field f) = 0
passed_by (call m) = argument_count m
passed_by (virtual_call m) = argument_count m
passed_by (constrained t m) = argument_count m
passed_by (new m) = argument_count m

-- the arguments that an instruction passes
abbrev pub passed_at : Op → ℕ
passed_at o = passed_by (mention_of o)

-- the most arguments that a call of these instructions passes
abbrev pub most_passed_in : List Op → ℕ
most_passed_in code = fold max 0 (map passed_at code)

abbrev pub code_in : Option Body → List Op
code_in None = []
code_in (Some b) = b.code

abbrev pub most_passed : MethodDef → ℕ
most_passed m = most_passed_in (code_in m.body)
