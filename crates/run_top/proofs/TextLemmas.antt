-- Lemmas on the text of a command's file, which is one text where it is told what is held.
use Rattle.std.proofs.Common.{◌≡◌, ◌∙◌, ℕ, length, arith, List, [], Bool, true, false, Option, Some, None, Result, Ok, Err, get_or, inl, inr, refl, sym, ap, subst}
use Rattle.std.proofs.lemmas.Bool.{true≢false}
use Rattle.std.specs.Prelude.{◌⊎◌}
use Rattle.mn_outside.specs.Causes.{Held, Holds}
use Rattle.interaction.specs.declared.history.Event.{Event}
use Rattle.il_model.specs.declared.program.Program.{Program}
use Rattle.il_parse.specs.declared.fault.ParseFault.{ParseFault}
use Rattle.il_parse.specs.declared.answer.Parsed.{Parsed}
use Rattle.il_parse.specs.Answer.{Parses, IsAnswer}
use Rattle.cil_verify.specs.declared.verified.Verified.{Verified}
use Rattle.cil_verify.specs.Verifies.{IsVerified, IsRefused}
use Rattle.cil_verify.proofs.VerdictLemmas.{verified_is_not_refused}
use Rattle.store_object.specs.declared.ending.Ending.{Ending}
use Rattle.store_object.specs.declared.ending.Ending.TheVariants as kept
use Rattle.store_object.specs.declared.reply.Reply.{Reply}
use Rattle.store_object.specs.declared.request.Request.{Request}
use Rattle.unshared.specs.Runs.{IsSureEnding}
use Rattle.run_top.specs.declared.record.Turn.{Turn}
use Rattle.run_top.specs.declared.record.RunRecord.{RunRecord}
use Rattle.run_top.specs.declared.refusal.TextRefusal.{TextRefusal}
use Rattle.run_top.specs.declared.top.Found.{Found}
use Rattle.run_top.specs.declared.top.Found.TheVariants.{Accepted, Ran, Meant}
use Rattle.run_top.specs.declared.record.MeantRun.{MeantRun}
use Rattle.run_top.specs.declared.command.Task.{Task}
use Rattle.run_top.specs.declared.command.Task.TheVariants as task
use Rattle.run_top.specs.FirstForm.{IsFirstForm}
use Rattle.run_top.specs.Command.{IsCommand, IsExec, IsMean, IsCheck}
use Rattle.run_top.specs.Executed.{EndsSo}
use Rattle.run_top.specs.Headline.{AcceptsText, Gives, IsAcceptedStatus, IsFound, IsMeantStatus, IsTextMeaning, IsJudged, IsRunStatus, IsTextRun, IsUncut, RefusedBy, RefusesText, SuitsCommand}
use Rattle.run_top.specs.Headline.RefusedBy.{by_parser, by_verifier, by_form}
use Rattle.run_top.specs.Headline.Gives.{accepted, meant}
use Rattle.run_top.specs.Written.{Answers, accepted_line, shown_meant, status_of}

-- ---- commands

-- words are one command at most
abbrev file_of : List (List ℕ) → List ℕ
file_of words = get_or words 1 []

named_by : (words : List (List ℕ)) (name : List ℕ) (work : Task) → IsCommand words name work → file_of words ≡ name
named_by words name task.Check command = ap file_of command.words_are
named_by words name (task.Exec turns) command = ap file_of command.words_are
named_by words name (task.Mean turns) command = ap file_of command.words_are

same_name : (words : List (List ℕ)) (one other : List ℕ) (m n : Task) → IsCommand words one m → IsCommand words other n → one ≡ other
same_name words one other m n first second = sym (named_by words one m first) ∙ named_by words other n second

some_same : (one other : List ℕ) → Some one ≡ Some other → one ≡ other
some_same one other is = cc

-- each command has another number of words
check_words : (words : List (List ℕ)) (name : List ℕ) → IsCheck words name → length words ≡ 2
check_words words name check = ap length check.words_are

exec_words : (words : List (List ℕ)) (name : List ℕ) (turns : ℕ) → IsExec words name turns → length words ≡ 5
exec_words words name turns exec = ap length exec.words_are

mean_words : (words : List (List ℕ)) (name : List ℕ) (turns : ℕ) → IsMean words name turns → length words ≡ 4
mean_words words name turns mean = ap length mean.words_are

two_five : {A : Type 0} (n : ℕ) → n ≡ 2 → n ≡ 5 → A
two_five n a b = absurd (omega (arith, a, b))

two_four : {A : Type 0} (n : ℕ) → n ≡ 2 → n ≡ 4 → A
two_four n a b = absurd (omega (arith, a, b))

four_five : {A : Type 0} (n : ℕ) → n ≡ 4 → n ≡ 5 → A
four_five n a b = absurd (omega (arith, a, b))

pub not_both : {A : Type 0} (words : List (List ℕ)) (one other : List ℕ) (turns : ℕ) → IsExec words one turns → IsCheck words other → A
not_both words one other turns exec check = two_five (length words) (check_words words other check) (exec_words words one turns exec)

pub not_mean_check : {A : Type 0} (words : List (List ℕ)) (one other : List ℕ) (turns : ℕ) → IsMean words one turns → IsCheck words other → A
not_mean_check words one other turns mean check = two_four (length words) (check_words words other check) (mean_words words one turns mean)

pub not_mean_exec : {A : Type 0} (words : List (List ℕ)) (one other : List ℕ) (m n : ℕ) → IsMean words one m → IsExec words other n → A
not_mean_exec words one other m n mean exec = four_five (length words) (mean_words words one m mean) (exec_words words other n exec)

same_text : (words : List (List ℕ)) (held : Held) (one other text rest : List ℕ) (m n : Task) → IsCommand words one m → IsCommand words other n
    → held one ≡ Some text → held other ≡ Some rest → text ≡ rest
same_text words held one other text rest m n first second is also =
    some_same text rest (sym is ∙ ap held (same_name words one other m n first second) ∙ also)

-- ---- what a text is

-- an answer that is a program
abbrev program_or : Program → Result Parsed ParseFault → Program
program_or p (Ok parsed) = parsed.program
program_or p (Err fault) = p

abbrev is_program : Result Parsed ParseFault → Bool
is_program (Ok parsed) = true
is_program (Err fault) = false

-- one program is not another
same_program : (a b : Parsed) (one other : Result Parsed ParseFault) → one ≡ Ok a → other ≡ Ok b → one ≡ other → a.program ≡ b.program
same_program a b one other is also same = ap (program_or a.program) (sym is ∙ same ∙ also)

not_fault : (a : Parsed) (f : ParseFault) (one other : Result Parsed ParseFault) → one ≡ Ok a → other ≡ Err f → one ≡ other → ⊥
not_fault a f one other is also same = true≢false (ap is_program (sym is ∙ same ∙ also))

-- a text that is an accepted program, and suits the command, is not refused
pub not_refused : (text : List ℕ) (v : Verified) (turns : Task) (why : TextRefusal) → IsJudged text v → SuitsCommand turns v → RefusedBy (Parses text) turns why → ⊥
not_refused text v _ _ judged suits (by_parser turns fault is) =
    not_fault judged.parsed fault (Ok judged.parsed) (Err fault) refl refl (sym (judged.parses.only (Err fault) is))
not_refused text v _ _ judged suits (by_verifier turns other fault is refused) =
    verified_is_not_refused v fault judged.verified
    (subst (λ p. IsRefused p fault) (same_program other judged.parsed (Ok other) (Ok judged.parsed) refl refl (judged.parses.only (Ok other) is) ∙ sym judged.program) refused)
not_refused text v _ _ judged suits (by_form limit other w is same verified none) =
    none suits.0 (subst (λ p. IsFirstForm p suits.0)
    (judged.program ∙ sym (same_program other judged.parsed (Ok other) (Ok judged.parsed) refl refl (judged.parses.only (Ok other) is)) ∙ sym same) suits.1)

-- a text that is refused and nothing else is no accepted program that suits the command
pub not_accepted : (text : List ℕ) (turns : Task) (why : TextRefusal) (parsed : Parsed) (v : Verified) → RefusedBy (IsAnswer text) turns why →
    Parses text (Ok parsed) → v.program ≡ parsed.program → IsVerified v → SuitsCommand turns v → ⊥
not_accepted text _ _ parsed v (by_parser turns fault answer) is same verified suits =
    not_fault parsed fault (Ok parsed) (Err fault) refl refl (answer.only (Ok parsed) is)
not_accepted text _ _ parsed v (by_verifier turns other fault answer refused) is same verified suits =
    verified_is_not_refused v fault verified
    (subst (λ p. IsRefused p fault) (sym (same_program parsed other (Ok parsed) (Ok other) refl refl (answer.only (Ok parsed) is)) ∙ sym same) refused)
not_accepted text _ _ parsed v (by_form limit other w answer also others none) is same verified suits =
    none suits.0 (subst (λ p. IsFirstForm p suits.0)
    (same ∙ same_program parsed other (Ok parsed) (Ok other) refl refl (answer.only (Ok parsed) is) ∙ sym also) suits.1)

-- what suits a command suits each command that the words are
pub suits_too : (words : List (List ℕ)) (one other : List ℕ) (m n : Task) (v : Verified) → IsCommand words one m → IsCommand words other n → SuitsCommand m v → SuitsCommand n v
suits_too words one other m task.Check v first second suits = tt
suits_too words one other task.Check (task.Exec n) v first second suits = not_both words other one n second first
suits_too words one other (task.Exec m) (task.Exec n) v first second suits = suits
suits_too words one other (task.Mean m) (task.Exec n) v first second suits = not_mean_exec words one other m n first second
suits_too words one other m (task.Mean n) v first second suits = tt

-- ---- what was found

-- a program that is accepted was only to be checked
found_accepted : (work : Task) (text : List ℕ) (found : Found) (v : Verified) → found ≡ Accepted v → IsFound work text found → (work ≡ task.Check) × IsJudged text v
found_accepted task.Check text found v is judged = (refl, subst (IsFound task.Check text) is judged)
found_accepted (task.Exec limit) text found v is judged = absurd (subst (IsFound (task.Exec limit) text) is judged)
found_accepted (task.Mean limit) text found v is judged = absurd (subst (IsFound (task.Mean limit) text) is judged)

-- a program that was run should be run
found_ran : (work : Task) (text : List ℕ) (found : Found) (r : RunRecord) → found ≡ Ran r → IsFound work text found → (limit : ℕ) × (work ≡ task.Exec limit) × IsTextRun limit text r
found_ran task.Check text found r is run = absurd (subst (IsFound task.Check text) is run)
found_ran (task.Exec limit) text found r is run = (limit, refl, subst (IsFound (task.Exec limit) text) is run)
found_ran (task.Mean limit) text found r is run = absurd (subst (IsFound (task.Mean limit) text) is run)

-- the same of one that was run by its written meaning
found_meant : (work : Task) (text : List ℕ) (found : Found) (r : MeantRun) → found ≡ Meant r → IsFound work text found → (limit : ℕ) × (work ≡ task.Mean limit) × IsTextMeaning limit text r
found_meant task.Check text found r is run = absurd (subst (IsFound task.Check text) is run)
found_meant (task.Exec limit) text found r is run = absurd (subst (IsFound (task.Exec limit) text) is run)
found_meant (task.Mean limit) text found r is run = (limit, refl, subst (IsFound (task.Mean limit) text) is run)

-- it is answered with its line
pub accepted_gives : (words : List (List ℕ)) (held : Option Held) (faults_before faults_now : List ℕ → ℕ) (name : List ℕ) (turns : Task) (found : Found) (v : Verified)
    (line : List ℕ) → IsCommand words name turns → ((text : List ℕ) × Holds held name text × IsFound turns text found) → found ≡ Accepted v →
    line ≡ accepted_line v.program → Gives words held faults_before faults_now 0 line
accepted_gives words held faults_before faults_now name turns found v line command given is same =
    let judged = found_accepted turns given.0 found v is given.2 in
    subst (Gives words held faults_before faults_now 0) (sym same)
    (accepted name given.0 v (subst (IsCommand words name) judged.0 command) given.1 judged.1)

-- ---- clauses

-- where the text is an accepted program that suits the command, it is not refused
pub accepted_refuses : (words : List (List ℕ)) (held : Option Held) (status : ℕ) (name : List ℕ) (turns : Task) (text : List ℕ) (v : Verified)
    → IsCommand words name turns → Holds held name text → IsJudged text v → SuitsCommand turns v → RefusesText words held status
accepted_refuses words None status name turns text v command is judged suits = tt
accepted_refuses words (Some held) status name turns text v command is judged suits =
    λ other n rest why also held_too refused readable uncut.
    let same : rest ≡ text = same_text words held other name rest text n turns also command held_too is in
    absurd (not_refused text v n why judged (suits_too words name other turns n v command also suits) (subst (λ t. RefusedBy (Parses t) n why) same refused))

-- where the text is refused, it is no accepted program that suits the command
pub refused_accepts : (words : List (List ℕ)) (held : Option Held) (status : ℕ) (name : List ℕ) (turns : Task) (text : List ℕ) (why : TextRefusal)
    → IsCommand words name turns → Holds held name text → RefusedBy (IsAnswer text) turns why → AcceptsText words held status
refused_accepts words None status name turns text why command is refused = tt
refused_accepts words (Some held) status name turns text why command is refused =
    λ other n rest parsed v also held_too parses same verified suits readable uncut.
    let one : rest ≡ text = same_text words held other name rest text n turns also command held_too is in
    absurd (not_accepted text turns why parsed v refused (subst (λ t. Parses t (Ok parsed)) one parses) same verified
    (suits_too words other name n turns v also command suits))

-- the status of an ending that comes
pub run_status : (limit : ℕ) (turns : List Turn) (history : List (Event Request Reply)) (ending : Ending) (status : ℕ) → EndsSo limit turns history ending → status ≡ status_of ending → IsRunStatus status
run_status limit turns history kept.Done status ends is = inl is
run_status limit turns history (kept.Uncaught kind) status ends is = absurd ends
run_status limit turns history kept.Turns status ends is = inr is
run_status limit turns history (kept.Stopped why) status ends is = absurd ends
run_status limit turns history (kept.Full region key) status ends is = absurd ends
run_status limit turns history (kept.Fault fault) status ends is = absurd ends

-- the status of a run's ending is a run's
pub its_status : (limit : ℕ) (text : List ℕ) (r : RunRecord) → IsTextRun limit text r → IsRunStatus (status_of r.ending)
its_status limit text r run = run_status limit r.turns.items r.history.items r.ending (status_of r.ending) run.run.ends refl

uncut_is : (status its : ℕ) → (status ≡ its) ⊎ ((status ≡ 9) ⊎ (status ≡ 10)) → IsUncut status → status ≡ its
uncut_is status its (inl is) uncut = is
uncut_is status its (inr (inl is)) uncut = absurd (uncut.put is)
uncut_is status its (inr (inr is)) uncut = absurd (uncut.room is)

-- a run that is shown has a run's status
pub run_accepts : (words : List (List ℕ)) (held : Option Held) (name : List ℕ) (limit : ℕ) (before now : Option (List ℕ)) (f g : ℕ) (bytes : List ℕ) (status its : ℕ)
    → IsCommand words name (task.Exec limit) → IsRunStatus its → Answers before now f g bytes its status → AcceptsText words held status
run_accepts words None name limit before now f g bytes status its command run answers = tt
run_accepts words (Some held) name limit before now f g bytes status its command run answers =
    λ other n text parsed v also is parses same verified suits readable uncut. by_command other n also (uncut_is status its answers.either uncut)
  where
    by_command : (other : List ℕ) (n : Task) → IsCommand words other n → status ≡ its → IsAcceptedStatus n status
    by_command other task.Check check is = not_both words name other limit command check
    by_command other (task.Exec n) exec is = subst IsRunStatus (sym is) run
    by_command other (task.Mean n) mean is = not_mean_exec words other name n limit mean command

-- a program that is checked is answered with 0
pub check_accepts : (words : List (List ℕ)) (held : Option Held) (name : List ℕ) (before now : Option (List ℕ)) (f g : ℕ) (bytes : List ℕ) (status : ℕ)
    → IsCommand words name task.Check → Answers before now f g bytes 0 status → AcceptsText words held status
check_accepts words None name before now f g bytes status command answers = tt
check_accepts words (Some held) name before now f g bytes status command answers =
    λ other n text parsed v also is parses same verified suits readable uncut. by_command other n also (uncut_is status 0 answers.either uncut)
  where
    by_command : (other : List ℕ) (n : Task) → IsCommand words other n → status ≡ 0 → IsAcceptedStatus n status
    by_command other task.Check check is = is
    by_command other (task.Exec n) exec is = not_both words other name n exec command
    by_command other (task.Mean n) mean is = not_mean_check words other name n mean command

-- the same of what was found
pub found_refuses : (words : List (List ℕ)) (held : Option Held) (status : ℕ) (name : List ℕ) (turns : Task) (found : Found) (v : Verified)
    → IsCommand words name turns → ((text : List ℕ) × Holds held name text × IsFound turns text found) → found ≡ Accepted v → RefusesText words held status
found_refuses words held status name turns found v command given is =
    let judged = found_accepted turns given.0 found v is given.2 in
    accepted_refuses words held status name turns given.0 v command given.1 judged.1 (subst (λ t. SuitsCommand t v) (sym judged.0) tt)

-- a program that was run is not refused
pub ran_refuses : (words : List (List ℕ)) (held : Option Held) (status : ℕ) (name : List ℕ) (turns : Task) (found : Found) (r : RunRecord)
    → IsCommand words name turns → ((text : List ℕ) × Holds held name text × IsFound turns text found) → found ≡ Ran r → RefusesText words held status
ran_refuses words held status name turns found r command given is =
    let ran = found_ran turns given.0 found r is given.2 in
    let run : IsTextRun ran.0 given.0 r = ran.2 in
    accepted_refuses words held status name (task.Exec ran.0) given.0 run.program (subst (IsCommand words name) ran.1 command) given.1 run.judged
    (run.run.ops, run.run.form)

-- and is answered with a run's status
pub ran_accepts : (words : List (List ℕ)) (held : Option Held) (before now : Option (List ℕ)) (f g : ℕ) (bytes : List ℕ) (status : ℕ) (name : List ℕ) (turns : Task)
    (found : Found) (r : RunRecord) → IsCommand words name turns → ((text : List ℕ) × Holds held name text × IsFound turns text found) → found ≡ Ran r
    → Answers before now f g bytes (status_of r.ending) status → AcceptsText words held status
ran_accepts words held before now f g bytes status name turns found r command given is answers =
    let ran = found_ran turns given.0 found r is given.2 in
    run_accepts words held name ran.0 before now f g bytes status (status_of r.ending) (subst (IsCommand words name) ran.1 command)
    (its_status ran.0 given.0 r ran.2) answers

-- ---- a run by the written meaning

-- each ending that comes has such a status
mean_status : (ending : Ending) → IsSureEnding ending → IsMeantStatus (status_of ending)
mean_status kept.Done sure = inl refl
mean_status (kept.Uncaught kind) sure = inr (inl refl)
mean_status kept.Turns sure = inr (inr (inl refl))
mean_status (kept.Stopped why) sure = inr (inr (inr refl))
mean_status (kept.Full region key) sure = absurd sure
mean_status (kept.Fault fault) sure = absurd sure

-- it is answered so
pub meant_gives : (words : List (List ℕ)) (held : Option Held) (faults_before faults_now : List ℕ → ℕ) (name : List ℕ) (turns : Task) (found : Found) (r : MeantRun)
    → IsCommand words name turns → ((text : List ℕ) × Holds held name text × IsFound turns text found) → found ≡ Meant r →
    Gives words held faults_before faults_now (status_of r.meant.ending) (shown_meant r)
meant_gives words held faults_before faults_now name turns found r command given is =
    let ran = found_meant turns given.0 found r is given.2 in
    meant name given.0 ran.0 r (subst (IsCommand words name) ran.1 command) given.1 ran.2

-- its text is not refused
pub meant_refuses : (words : List (List ℕ)) (held : Option Held) (status : ℕ) (name : List ℕ) (turns : Task) (found : Found) (r : MeantRun)
    → IsCommand words name turns → ((text : List ℕ) × Holds held name text × IsFound turns text found) → found ≡ Meant r → RefusesText words held status
meant_refuses words held status name turns found r command given is =
    let ran = found_meant turns given.0 found r is given.2 in
    accepted_refuses words held status name (task.Mean ran.0) given.0 ran.2.program (subst (IsCommand words name) ran.1 command) given.1 ran.2.judged tt

-- and it is answered with such a status
meaning_accepts : (words : List (List ℕ)) (held : Option Held) (name : List ℕ) (limit : ℕ) (before now : Option (List ℕ)) (f g : ℕ) (bytes : List ℕ) (status : ℕ) (ending : Ending)
    → IsCommand words name (task.Mean limit) → IsSureEnding ending → Answers before now f g bytes (status_of ending) status → AcceptsText words held status
meaning_accepts words None name limit before now f g bytes status ending command sure answers = tt
meaning_accepts words (Some held) name limit before now f g bytes status ending command sure answers =
    λ other n text parsed v also is parses same verified suits readable uncut. by_command other n also (uncut_is status (status_of ending) answers.either uncut)
  where
    by_command : (other : List ℕ) (n : Task) → IsCommand words other n → status ≡ status_of ending → IsAcceptedStatus n status
    by_command other task.Check check is = not_mean_check words name other limit command check
    by_command other (task.Exec n) exec is = not_mean_exec words name other limit n command exec
    by_command other (task.Mean n) mean is = subst IsMeantStatus (sym is) (mean_status ending sure)

pub meant_accepts : (words : List (List ℕ)) (held : Option Held) (before now : Option (List ℕ)) (f g : ℕ) (bytes : List ℕ) (status : ℕ) (name : List ℕ) (turns : Task)
    (found : Found) (r : MeantRun) → IsCommand words name turns → ((text : List ℕ) × Holds held name text × IsFound turns text found) → found ≡ Meant r
    → Answers before now f g bytes (status_of r.meant.ending) status → AcceptsText words held status
meant_accepts words held before now f g bytes status name turns found r command given is answers =
    let ran = found_meant turns given.0 found r is given.2 in
    meaning_accepts words held name ran.0 before now f g bytes status r.meant.ending (subst (IsCommand words name) ran.1 command) ran.2.run.sure answers
