-- What the top call promises.
use Rattle.std.specs.Prelude.{◌≡◌, ◌≢◌, ◌≤◌, ◌+◌, ◌*◌, ◌⊎◌, ℕ, List, Option, Some, None, Result, Ok, Err, ⊤, length}
use Rattle.mn_outside.specs.Causes.{Held, Holds, Rose}
use Rattle.interaction.specs.History.{Legal}
use Rattle.run_top.specs.declared.first.FirstOp.{FirstOp}
use Rattle.il_parse.specs.declared.fault.ParseFault.{ParseFault}
use Rattle.il_parse.specs.declared.answer.Parsed.{Parsed}
use Rattle.il_parse.specs.Answer.{Parses, IsAnswer}
use Rattle.cil_verify.specs.declared.fault.VerifyFault.{VerifyFault}
use Rattle.cil_verify.specs.declared.verified.Verified.{Verified}
use Rattle.cil_verify.specs.Verifies.{IsVerified, IsRefused}
use Rattle.store_object.specs.Replay.{store}
use Rattle.store_object.specs.declared.ending.Chooser.TheVariants as by
use Rattle.unshared.specs.Runs.{IsMeant, IsSureEnding}
use Rattle.run_top.specs.declared.command.Task.{Task}
use Rattle.run_top.specs.declared.command.Task.TheVariants.{Check, Exec, Mean}
use Rattle.run_top.specs.declared.record.MeantRun.{MeantRun}
use Rattle.run_top.specs.declared.record.RunRecord.{RunRecord}
use Rattle.run_top.specs.declared.refusal.TextRefusal.{TextRefusal}
use Rattle.run_top.specs.declared.refusal.TextRefusal.TheVariants.{Parser, Verifier, Form}
use Rattle.run_top.specs.FirstForm.{IsFirstForm}
use Rattle.run_top.specs.Process.{begin, meaning, naming}
use Rattle.run_top.specs.Code.{frame_words, image_of}
use Rattle.run_top.specs.Run.{IsRun, image_run}
use Rattle.run_top.specs.Executed.{AllExecuted, AllFirst, EndsSo}
use Rattle.run_top.specs.declared.top.Found.{Found}
use Rattle.run_top.specs.declared.top.Found.TheVariants.{Accepted, Ran, Meant}
use Rattle.run_top.specs.Places.{spot_at}
use Rattle.run_top.specs.Command.{IsCommand, IsUsage}
use Rattle.run_top.specs.Written.{usage_line, refusal_line, file_line, accepted_line, shown_meant, status_of}

-- the text is a program and nothing else, and the verifier accepts it
pub record IsJudged (text : List ℕ) (v : Verified) : Type 0 where
  pub parsed : Parsed
  pub parses : IsAnswer text (Ok parsed)
  pub program : v.program ≡ parsed.program
  pub verified : IsVerified v

-- Why a text is refused, from what the text is: by the parser; by the verifier, at the place in the text of the definition or instruction;
-- or, where its image should be run, since it isn't of the first form.
pub data RefusedBy (Is : Result Parsed ParseFault → Type 0) : Task → TextRefusal → Type 0 where
  by_parser : (task : Task) (fault : ParseFault) → Is (Err fault) → RefusedBy Is task (Parser fault)
  by_verifier : (task : Task) (parsed : Parsed) (fault : VerifyFault) → Is (Ok parsed) → IsRefused parsed.program fault →
      RefusedBy Is task (Verifier (spot_at parsed fault.at) fault.cause)
  by_form : (limit : ℕ) (parsed : Parsed) (v : Verified) → Is (Ok parsed) → v.program ≡ parsed.program → IsVerified v →
      ((ops : List FirstOp) → ¬ IsFirstForm v.program ops) → RefusedBy Is (Exec limit) Form

-- a run of a program of the first form that was accepted, at most so many turns long
pub record IsProgramRun (limit : ℕ) (v : Verified) (r : RunRecord) : Type 0 where
  pub program_is : r.program ≡ v
  -- the program has these instructions
  pub ops : List FirstOp
  pub form : IsFirstForm v.program ops
  pub image : r.image.items ≡ image_of ops
  -- turns, history and ending are those of the image's run
  pub run : IsRun (image_run r.image.items (frame_words ops) limit) r.turns.items r.history.items r.ending
  -- the program's thread makes exactly these requests when it is given these replies, which the store gives
  pub legal : Legal store naming (meaning ops) begin r.history.items
  -- they are those of this form
  pub requests : AllFirst r.history.items
  pub executed : AllExecuted r.image.items r.turns.items
  pub ends : EndsSo limit r.turns.items r.history.items r.ending
  pub few : length r.turns.items ≤ 1024 * (length ops + 1)

-- a run of the written meaning of a program that was accepted, at most so many turns long, under seed 0
pub record IsMeantRun (limit : ℕ) (v : Verified) (r : MeantRun) : Type 0 where
  pub program_is : r.program ≡ v
  pub meant : IsMeant v.program (by.Seed 0) limit r.meant.trees r.meant.schedule.items r.meant.order.items r.meant.history.items r.meant.ending
  -- it didn't end for want of a rule
  pub sure : IsSureEnding r.meant.ending

-- a run of the program that a text is
pub record IsTextRun (limit : ℕ) (text : List ℕ) (r : RunRecord) : Type 0 where
  pub program : Verified
  pub judged : IsJudged text program
  pub run : IsProgramRun limit program r

-- a run of the written meaning of the program that a text is
pub record IsTextMeaning (limit : ℕ) (text : List ℕ) (r : MeantRun) : Type 0 where
  pub program : Verified
  pub judged : IsJudged text program
  pub run : IsMeantRun limit program r

-- a run of the program in the text of a file, which is the file's where it is told what is held
pub record IsRunOf (held : Option Held) (name : List ℕ) (limit : ℕ) (r : RunRecord) : Type 0 where
  pub text : List ℕ
  pub is_held : Holds held name text
  pub run : IsTextRun limit text r

-- the run of a command's image
abbrev pub IsKept : List (List ℕ) → Option Held → RunRecord → Type 0
IsKept words held r = (name : List ℕ) × (limit : ℕ) × IsCommand words name (Exec limit) × IsRunOf held name limit r

-- what a command finds in a text that isn't refused
abbrev pub IsFound : Task → List ℕ → Found → Type 0
IsFound Check text (Accepted v) = IsJudged text v
IsFound Check text (Ran r) = ⊥
IsFound Check text (Meant r) = ⊥
IsFound (Exec limit) text (Accepted v) = ⊥
IsFound (Exec limit) text (Ran r) = IsTextRun limit text r
IsFound (Exec limit) text (Meant r) = ⊥
IsFound (Mean limit) text (Accepted v) = ⊥
IsFound (Mean limit) text (Ran r) = ⊥
IsFound (Mean limit) text (Meant r) = IsTextMeaning limit text r

-- the file of a command was read, and its text is refused
abbrev pub HasRefusedText : List (List ℕ) → Option Held → TextRefusal → Type 0
HasRefusedText words held why =
    (name : List ℕ) × (task : Task) × (text : List ℕ) × IsCommand words name task × Holds held name text × RefusedBy (IsAnswer text) task why

-- What a command without an image's run gives, with the status and the lines of each cause: the words are no command; the text of its
-- file is refused; reading this file failed; the program of its text is accepted, and was only to be checked; or its written meaning
-- was run.
pub data Gives (words : List (List ℕ)) (held : Option Held) (faults_before faults_now : List ℕ → ℕ) : ℕ → List ℕ → Type 0 where
  usage : IsUsage words → Gives words held faults_before faults_now 1 usage_line
  text : (why : TextRefusal) → HasRefusedText words held why → Gives words held faults_before faults_now 2 (refusal_line why)
  file : (name : List ℕ) (task : Task) → IsCommand words name task → Rose (faults_before name) (faults_now name)
      → Gives words held faults_before faults_now 8 (file_line name)
  accepted : (name text : List ℕ) (v : Verified) → IsCommand words name Check → Holds held name text → IsJudged text v
      → Gives words held faults_before faults_now 0 (accepted_line v.program)
  meant : (name text : List ℕ) (limit : ℕ) (r : MeantRun) → IsCommand words name (Mean limit) → Holds held name text → IsTextMeaning limit text r
      → Gives words held faults_before faults_now (status_of r.meant.ending) (shown_meant r)

-- the statuses of these commands
abbrev pub IsStatus : ℕ → Type 0
IsStatus n = (n ≡ 0) ⊎ ((n ≡ 1) ⊎ ((n ≡ 2) ⊎ ((n ≡ 3) ⊎ ((n ≡ 5) ⊎ ((n ≡ 6) ⊎ ((n ≡ 8) ⊎ ((n ≡ 9) ⊎ (n ≡ 10))))))))

-- those of a run of a written meaning
abbrev pub IsMeantStatus : ℕ → Type 0
IsMeantStatus n = (n ≡ 0) ⊎ ((n ≡ 3) ⊎ ((n ≡ 5) ⊎ (n ≡ 6)))

-- those of an image's run that came to its ending
abbrev pub IsRunStatus : ℕ → Type 0
IsRunStatus n = (n ≡ 0) ⊎ (n ≡ 5)

-- those of a command that is refused
abbrev pub IsRefusalStatus : ℕ → Type 0
IsRefusalStatus n = (n ≡ 1) ⊎ ((n ≡ 2) ⊎ (n ≡ 8))

-- those of a command without a run
abbrev pub IsPlainStatus : ℕ → Type 0
IsPlainStatus n = (n ≡ 0) ⊎ IsRefusalStatus n

-- neither the sink nor the memory cut the answer short
pub record IsUncut (status : ℕ) : Type 0 where
  pub put : status ≢ 9
  pub room : status ≢ 10

-- where it is told what is held: a command whose file holds a text that is refused is answered so
abbrev pub RefusesText : List (List ℕ) → Option Held → ℕ → Type 0
RefusesText words None status = ⊤
RefusesText words (Some held) status =
    (name : List ℕ) (task : Task) (text : List ℕ) (why : TextRefusal) → IsCommand words name task → held name ≡ Some text →
    RefusedBy (Parses text) task why → status ≢ 8 → IsUncut status → status ≡ 2

-- the status of a command whose text is accepted, and whose program is of the first form where its image should be run
abbrev pub IsAcceptedStatus : Task → ℕ → Type 0
IsAcceptedStatus Check status = status ≡ 0
IsAcceptedStatus (Exec limit) status = IsRunStatus status
IsAcceptedStatus (Mean limit) status = IsMeantStatus status

-- what is asked of an accepted program: nothing where no image is made of it
abbrev pub SuitsCommand : Task → Verified → Type 0
SuitsCommand Check v = ⊤
SuitsCommand (Exec limit) v = (ops : List FirstOp) × IsFirstForm v.program ops
SuitsCommand (Mean limit) v = ⊤

-- and one whose file holds the text of an accepted program is carried out
abbrev pub AcceptsText : List (List ℕ) → Option Held → ℕ → Type 0
AcceptsText words None status = ⊤
AcceptsText words (Some held) status =
    (name : List ℕ) (task : Task) (text : List ℕ) (parsed : Parsed) (v : Verified) → IsCommand words name task → held name ≡ Some text →
    Parses text (Ok parsed) → v.program ≡ parsed.program → IsVerified v → SuitsCommand task v → status ≢ 8 → IsUncut status →
    IsAcceptedStatus task status
