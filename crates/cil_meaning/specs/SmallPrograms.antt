-- Small programs with what their histories must be, written by hand: examples of what the process means. This project's own.
use Rattle.std.specs.Prelude.{ℕ, ◌+◌, ◌-◌, ◌^◌, nat_le, nat_lt, ◌&&◌, if◌then◌else◌, pos, negsuc, List, [], ◌∷◌, ◌++◌, Option, Some, None, codes}
use Rattle.type_tree.specs.declared.tree.TExpr.{TExpr}
use Rattle.il_model.specs.declared.class.ClassKind.TheVariants as kind
use Rattle.il_model.specs.declared.method.Shape.TheVariants as shape
use Rattle.il_model.specs.declared.method.Clause.{Clause}
use Rattle.il_model.specs.declared.method.PType.{PType}
use Rattle.il_model.specs.declared.method.MethodDef.{MethodDef}
use Rattle.il_model.specs.declared.op.Op.{Op}
use Rattle.il_model.specs.declared.op.Op.TheVariants as op
use Rattle.il_model.specs.declared.program.Program.{Program}
use Rattle.il_model.specs.Library.{plain, library_class, library_classes, library_methods}
use Rattle.interaction.specs.declared.history.Event.{Event}
use Rattle.interaction.specs.Process.{Naming, Next, Over}
use Rattle.interaction.specs.History.{part}
use Rattle.store_object.specs.declared.request.Request.{Request}
use Rattle.store_object.specs.declared.request.Request.TheVariants as ask
use Rattle.store_object.specs.declared.request.Form.TheVariants as form
use Rattle.store_object.specs.declared.reply.Reply.{Reply}
use Rattle.store_object.specs.declared.reply.Reply.TheVariants as says
use Rattle.interaction.specs.Object.{Replays}
use Rattle.store_object.specs.Store.{opening}
use Rattle.store_object.specs.Replay.{store}
use Rattle.cil_meaning.specs.Naming.{Mention, OfEntry, OfClause, OfSlot, OfFault}
use Rattle.cil_meaning.specs.Threads.{main_frames}
use Rattle.cil_meaning.specs.Language.{Talk}

-- The program with one class of its own, number 13, and its Main, number 12: with these locals, instructions and clauses.
abbrev pub main_method : List PType → List Op → List Clause → MethodDef
main_method locals code clauses = record {
  owner = 13;
  name = codes "Main";
  shape = shape.Fixed;
  vars = [];
  params = [];
  result = None;
  body = Some (record { locals = locals; code = code; clauses = clauses });
}

abbrev pub program_of : List PType → List Op → List Clause → Program
program_of locals code clauses = record {
  classes = library_classes ++ library_class (codes "P") kind.Plain (Some (plain 0)) (12 ∷ []) ∷ [];
  methods = library_methods ++ main_method locals code clauses ∷ [];
  literals = [];
  main = 12;
}

-- the numbers 7 to 15 are those of the exception classes 2 to 10
abbrev pub fault_number : ℕ → ℕ
fault_number class = class + 5

abbrev pub number_of_mention : Mention → Option ℕ
number_of_mention (OfEntry m e) = None
number_of_mention (OfClause m e) = None
number_of_mention (OfSlot t slot) = None
number_of_mention (OfFault class) = Some (fault_number class)

abbrev pub faults_named : Naming Mention TExpr
faults_named = record {
  value_of = number_of_mention;
  tree_at = λ i. if nat_le 7 i && nat_lt i 16 then Some (plain (i - 5)) else None;
}

abbrev pub History : Type 0
History = List (Event Request Reply)

abbrev pub by_main : Request → Reply → Event Request Reply
by_main r y = record { thread = 0; request = r; reply = y }

abbrev pub prints : ℕ → Event Request Reply
prints word = by_main (ask.Print form.Number word) says.Done

-- the store gives these replies, and from its beginning to its end thread 0 makes just these requests
pub record Means (p : Program) (n : Naming Mention TExpr) (h : History) : Type 0 where
  pub replays : Replays store opening h
  pub talk : Talk p n (Next (main_frames p)) (part 0 h) Over

-- Arithmetic: 2147483647 + 1 wraps, and 2 + 3 is 5.
abbrev pub sums : Program
sums = program_of [] (op.LdcI4 (pos 2147483647) ∷ op.LdcI4 (pos 1) ∷ op.Add ∷ op.WriteLineInt32 ∷ op.LdcI4 (pos 2) ∷ op.LdcI4 (pos 3) ∷ op.Add ∷ op.WriteLineInt32 ∷ op.Ret ∷ []) []

abbrev pub sums_history : History
sums_history = prints (2 ^ 64 - 2147483648) ∷ prints 5 ∷ by_main ask.Finish says.Done ∷ []

-- Shifts: 1 << 33 is 2, and -8 >> 33 is -4.
abbrev pub shifts : Program
shifts = program_of [] (op.LdcI4 (pos 1) ∷ op.LdcI4 (pos 33) ∷ op.Shl ∷ op.WriteLineInt32 ∷ op.LdcI4 (negsuc 7) ∷ op.LdcI4 (pos 33) ∷ op.Shr ∷ op.WriteLineInt32 ∷ op.Ret ∷ []) []

abbrev pub shifts_history : History
shifts_history = prints 2 ∷ prints (2 ^ 64 - 4) ∷ by_main ask.Finish says.Done ∷ []

-- Division: -7 rem 2 is -1, and by zero an exception is thrown that nobody catches.
abbrev pub division : Program
division = program_of [] (op.LdcI4 (negsuc 6) ∷ op.LdcI4 (pos 2) ∷ op.Rem ∷ op.WriteLineInt32 ∷ op.LdcI4 (pos 1) ∷ op.LdcI4 (pos 0) ∷ op.Rem ∷ op.WriteLineInt32 ∷ op.Ret ∷ []) []

abbrev pub division_history : History
division_history = prints (2 ^ 64 - 1) ∷ by_main (ask.Alloc 10 0 0) (says.Object 1) ∷ by_main (ask.Fall 10) says.Done ∷ []

-- Overflow: the least number by -1, and a checked sum that does not fit.
abbrev pub least : Program
least = program_of [] (op.LdcI4 (negsuc 2147483647) ∷ op.LdcI4 (negsuc 0) ∷ op.Div ∷ op.WriteLineInt32 ∷ op.Ret ∷ []) []

abbrev pub checked_sum : Program
checked_sum = program_of [] (op.LdcI4 (pos 2147483647) ∷ op.LdcI4 (pos 1) ∷ op.AddOvf ∷ op.WriteLineInt32 ∷ op.Ret ∷ []) []

abbrev pub overflow_history : History
overflow_history = by_main (ask.Alloc 11 0 0) (says.Object 1) ∷ by_main (ask.Fall 11) says.Done ∷ []

-- Join of a thread that was never started.
abbrev pub joins_nobody : Program
joins_nobody = program_of [] (op.LdcI4 (pos 7) ∷ op.Join ∷ op.Ret ∷ []) []

abbrev pub joins_nobody_history : History
joins_nobody_history = by_main (ask.Ended 7) says.Unknown ∷ by_main (ask.Alloc 13 0 0) (says.Object 1) ∷ by_main (ask.Fall 13) says.Done ∷ []
