-- What is written for each status, and what a call that answers leaves of the sink. This project's own.
use Rattle.std.specs.Prelude.{◌≡◌, ◌≤◌, ◌⊎◌, ◌-◌, ◌++◌, length, ◌∷◌, [], ℕ, List, Option, Some, None, codes}
use Rattle.std.specs.List.{flat_map}
use Rattle.std.specs.Fmt.{decimal}
use Rattle.std.specs.Io.KnownBytes.{Appends}
use Rattle.mn_outside.specs.Causes.{Rose, AppendsPrefix, AppendsTwo}
use Rattle.il_text.specs.declared.place.Spot.{Spot}
use Rattle.il_text.specs.declared.fault.TextCause.{TextCause}
use Rattle.il_text.specs.declared.fault.TextCause.TheVariants as text
use Rattle.il_parse.specs.declared.fault.ParseCause.{ParseCause}
use Rattle.il_parse.specs.declared.fault.ParseCause.TheVariants as parse
use Rattle.il_model.specs.declared.program.Program.{Program}
use Rattle.il_model.specs.Library.{library_classes, library_methods}
use Rattle.cil_verify.specs.declared.fault.VerifyCause.{VerifyCause}
use Rattle.cil_verify.specs.declared.fault.VerifyCause.TheVariants as verify
use Rattle.run_top.specs.declared.refusal.TextRefusal.{TextRefusal}
use Rattle.run_top.specs.declared.refusal.TextRefusal.TheVariants.{Parser, Verifier, Form}
use Rattle.store_object.specs.declared.ending.Ending.{Ending}
use Rattle.store_object.specs.declared.ending.Ending.TheVariants as kept
use Rattle.type_tree.specs.declared.tree.TExpr.{TExpr}
use Rattle.interaction.specs.declared.history.Event.{Event}
use Rattle.interaction.specs.Process.{Naming}
use Rattle.store_object.specs.declared.request.Cause.{Cause}
use Rattle.store_object.specs.declared.request.Cause.TheVariants as limit
use Rattle.store_object.specs.declared.request.Request.{Request}
use Rattle.store_object.specs.declared.reply.Reply.{Reply}
use Rattle.cil_meaning.specs.Naming.{Mention}
use Rattle.cil_meaning.specs.Shown.{printed_line, output_bytes, name_of_kind}
use Rattle.unshared.specs.Listed.{naming_of}
use Rattle.run_top.specs.declared.record.MeantRun.{MeantRun}
use Rattle.run_top.specs.declared.record.RunRecord.{RunRecord}
use Rattle.run_top.specs.History.{output}

-- a line with its end
abbrev pub line : List ℕ → List ℕ
line text = text ++ 10 ∷ []

abbrev pub usage_line : List ℕ
usage_line = line (codes "Usage")

abbrev pub name_of_text_cause : TextCause → List ℕ
name_of_text_cause text.BadByte = codes "BadByte"
name_of_text_cause text.BadLiteral = codes "BadLiteral"
name_of_text_cause text.LongName = codes "LongName"
name_of_text_cause text.TooLong = codes "TooLong"

abbrev pub name_of_cause : ParseCause → List ℕ
name_of_cause (parse.Text c) = name_of_text_cause c
name_of_cause parse.Syntax = codes "Syntax"
name_of_cause parse.Unsupported = codes "Unsupported"
name_of_cause parse.Repeated = codes "Repeated"
name_of_cause parse.UnknownName = codes "UnknownName"
name_of_cause parse.TooMany = codes "TooMany"
name_of_cause parse.NoEntry = codes "NoEntry"

-- the place of a refusal, as line and column
abbrev pub place_of : Spot → List ℕ
place_of spot = decimal spot.line ++ codes ":" ++ decimal spot.column

abbrev pub name_of_verify_cause : VerifyCause → List ℕ
name_of_verify_cause verify.NotBuilt = codes "NotBuilt"
name_of_verify_cause verify.BadHierarchy = codes "BadHierarchy"
name_of_verify_cause verify.BadLayout = codes "BadLayout"
name_of_verify_cause verify.BadConstraint = codes "BadConstraint"
name_of_verify_cause verify.MissingImplementation = codes "MissingImplementation"
name_of_verify_cause verify.TooManySlots = codes "TooManySlots"
name_of_verify_cause verify.BadMember = codes "BadMember"
name_of_verify_cause verify.TooManyClauses = codes "TooManyClauses"
name_of_verify_cause verify.BadFlow = codes "BadFlow"
name_of_verify_cause verify.Underflow = codes "Underflow"
name_of_verify_cause verify.BadMerge = codes "BadMerge"
name_of_verify_cause verify.BadType = codes "BadType"
name_of_verify_cause verify.TooManyPlaces = codes "TooManyPlaces"
name_of_verify_cause verify.TooManyEntries = codes "TooManyEntries"

-- the line of a text that is refused
abbrev pub refusal_line : TextRefusal → List ℕ
refusal_line (Verifier spot c) = line (codes "Text " ++ place_of spot ++ codes " " ++ name_of_verify_cause c)
refusal_line (Parser f) = line (codes "Text " ++ place_of f.spot ++ codes " " ++ name_of_cause f.cause)
refusal_line Form = line (codes "Text 1:1 FirstForm")

-- the line of a program that is accepted: how many classes and methods it has besides those of the library
abbrev pub accepted_line : Program → List ℕ
accepted_line p =
    line (codes "Accepted " ++ decimal (length p.classes - length library_classes) ++ codes " classes " ++
    decimal (length p.methods - length library_methods) ++ codes " methods")

abbrev pub file_line : List ℕ → List ℕ
file_line name = line (codes "File " ++ name)

abbrev pub no_memory_line : List ℕ
no_memory_line = line (codes "No memory")

-- the status of an ending
abbrev pub status_of : Ending → ℕ
status_of kept.Done = 0
status_of (kept.Uncaught kind) = 3
status_of kept.Turns = 5
status_of (kept.Stopped why) = 6
status_of (kept.Full region key) = 6
status_of (kept.Fault fault) = 7

-- the line of an ending; a run of the first form has only the two that have an equation of their own
abbrev pub ending_line : Ending → List ℕ
ending_line kept.Done = []
ending_line kept.Turns = line (codes "Stopped: Turns")
ending_line ending = []

-- what is written for a run: its output, and then the line of its ending
abbrev pub shown : RunRecord → List ℕ
shown r = output r.history.items ++ ending_line r.ending

-- ---- the run of a written meaning

-- the line of a run that passed a limit
abbrev pub limit_line : Cause → List ℕ
limit_line limit.Depth = line (codes "Stopped: Depth")
limit_line limit.Positions = line (codes "Stopped: Positions")
limit_line limit.ValueWords = line (codes "Stopped: ValueWords")
limit_line limit.Heap = line (codes "Stopped: Heap")
limit_line limit.Threads = line (codes "Stopped: Threads")

-- the line of an exception that nobody caught, whose type has this name
abbrev pub uncaught_line : List ℕ → List ℕ
uncaught_line name = line (codes "Unhandled exception: " ++ name)

-- the line of its ending
abbrev pub meant_ending_line : Program → Naming Mention TExpr → Ending → List ℕ
meant_ending_line p n kept.Done = []
meant_ending_line p n (kept.Uncaught kind) = uncaught_line (name_of_kind p n kind)
meant_ending_line p n kept.Turns = line (codes "Stopped: Turns")
meant_ending_line p n (kept.Stopped why) = limit_line why
meant_ending_line p n (kept.Full region key) = []
meant_ending_line p n (kept.Fault fault) = []

-- its output, and then the line of its ending
abbrev pub shown_by : Program → Naming Mention TExpr → List (Event Request Reply) → Ending → List ℕ
shown_by p n history ending = output_bytes p n history ++ meant_ending_line p n ending

-- what an event prints, with the line's end
abbrev pub bytes_of_line : Option (List ℕ) → List ℕ
bytes_of_line None = []
bytes_of_line (Some text) = line text

abbrev pub event_bytes : Program → Naming Mention TExpr → Request → List ℕ
event_bytes p n r = bytes_of_line (printed_line p n r)

-- the same bytes as those of the output, an event at a time
abbrev pub meant_output : Program → Naming Mention TExpr → List (Event Request Reply) → List ℕ
meant_output p n h = flat_map (λ (e : Event Request Reply). event_bytes p n e.request) h

abbrev pub shown_meant : MeantRun → List ℕ
shown_meant r = shown_by r.program.program (naming_of r.meant.trees) r.meant.history.items r.meant.ending

-- an answer that has these bytes and this status: they were all put; or a put failed, after a prefix of them;
-- or there was no memory, after a prefix of them, and a prefix of the line for that was put
pub record Answers (before now : Option (List ℕ)) (faults_before faults_now : ℕ) (bytes : List ℕ) (status answered : ℕ) : Type 0 where
  pub either : (answered ≡ status) ⊎ ((answered ≡ 9) ⊎ (answered ≡ 10))
  pub all : answered ≡ status → Appends before now bytes
  pub failed : answered ≡ 9 → Rose faults_before faults_now
  pub front : answered ≡ 9 → AppendsPrefix before now bytes
  pub short : answered ≡ 10 → AppendsTwo before now bytes no_memory_line
  pub later : faults_before ≤ faults_now
