use Rattle.std.proofs.Common.{◌∙◌, ap, sym, Err}
use Rattle.mn_outside.specs.declared.outside.Refused.TheVariants.{Fault}
use Rattle.run_top.specs.declared.top.Found.TheVariants.{Ran, Meant}
use Rattle.run_top.specs.Written.{accepted_line}
use Rattle.run_top.specs.Headline.{Gives}
use Rattle.run_top.specs.Headline.Gives.{usage, text, file}
use Rattle.run_top.proofs.RefuseLemmas.{refused_cause, refused_front, refused_short}
use Rattle.run_top.proofs.TextLemmas.{accepted_gives, found_refuses, meant_accepts, meant_gives, meant_refuses, ran_accepts, ran_refuses, refused_accepts}
use Rattle.run_top.proofs.top.aot_main.Given
use Rattle.run_top.proofs.top.aot_main.Goals as goal

-- the program was run
pub returns-in-Ok-Ran-clause-refused : goal.returns-in-Ok-Ran-clause-refused
returns-in-Ok-Ran-clause-refused g c =
    ran_refuses _ _ _ c.in-Some.name.now c.in-Some.task _ c.in-Ok-Ran.run' (c.in-Some.ensures {u = tt}).some (c.in-Ok-Ran.ensures {u = tt}).found
    c.in-Ok-Ran.field-0-is

pub returns-in-Ok-Ran-clause-accepts : goal.returns-in-Ok-Ran-clause-accepts
returns-in-Ok-Ran-clause-accepts g c =
    let is = c.in-Ok-Ran.field-0-is ∙ ap Ran (sym c.in-Ok-Ran.run-is) in
    ran_accepts _ _ _ _ _ _ _ _ c.in-Some.name.now c.in-Some.task _ _ (c.in-Some.ensures {u = tt}).some (c.in-Ok-Ran.ensures {u = tt}).found
    is c.finish.ensures.answers

-- the written meaning was run
pub returns-in-Ok-Meant-clause-refused : goal.returns-in-Ok-Meant-clause-refused
returns-in-Ok-Meant-clause-refused g c =
    let is = c.in-Ok-Meant.field-0-is ∙ ap Meant (sym c.in-Ok-Meant.run-is) in
    meant_refuses _ _ _ c.in-Some.name.now c.in-Some.task _ _ (c.in-Some.ensures {u = tt}).some (c.in-Ok-Meant.ensures {u = tt}).found is

pub returns-in-Ok-Meant-clause-accepts : goal.returns-in-Ok-Meant-clause-accepts
returns-in-Ok-Meant-clause-accepts g c =
    let is = c.in-Ok-Meant.field-0-is ∙ ap Meant (sym c.in-Ok-Meant.run-is) in
    meant_accepts _ _ _ _ _ _ _ _ c.in-Some.name.now c.in-Some.task _ _ (c.in-Some.ensures {u = tt}).some (c.in-Ok-Meant.ensures {u = tt}).found
    is c.tell.ensures.answers

pub returns-in-Ok-Meant-clause-cause : goal.returns-in-Ok-Meant-clause-cause
returns-in-Ok-Meant-clause-cause g c =
    let is = c.in-Ok-Meant.field-0-is ∙ ap Meant (sym c.in-Ok-Meant.run-is) in
    refused_cause _ _ _ _ _ _
    (meant_gives _ _ _ _ c.in-Some.name.now c.in-Some.task _ _ (c.in-Some.ensures {u = tt}).some (c.in-Ok-Meant.ensures {u = tt}).found is)
    _ _ _ _ _ c.tell.ensures.answers c.tell.result.kept

pub returns-in-Ok-Meant-clause-front_none : goal.returns-in-Ok-Meant-clause-front_none
returns-in-Ok-Meant-clause-front_none g c =
    let is = c.in-Ok-Meant.field-0-is ∙ ap Meant (sym c.in-Ok-Meant.run-is) in
    refused_front _ _ _ _ _ _
    (meant_gives _ _ _ _ c.in-Some.name.now c.in-Some.task _ _ (c.in-Some.ensures {u = tt}).some (c.in-Ok-Meant.ensures {u = tt}).found is)
    _ _ _ _ _ c.tell.ensures.answers c.tell.result.kept

pub returns-in-Ok-Meant-clause-short_none : goal.returns-in-Ok-Meant-clause-short_none
returns-in-Ok-Meant-clause-short_none g c =
    let is = c.in-Ok-Meant.field-0-is ∙ ap Meant (sym c.in-Ok-Meant.run-is) in
    refused_short _ _ _ _ _ _
    (meant_gives _ _ _ _ c.in-Some.name.now c.in-Some.task _ _ (c.in-Some.ensures {u = tt}).some (c.in-Ok-Meant.ensures {u = tt}).found is)
    _ _ _ _ _ c.tell.ensures.answers c.tell.result.kept

-- the words are no command
pub returns-in_default-clause-cause : goal.returns-in_default-clause-cause
returns-in_default-clause-cause g c = refused_cause _ _ _ _ _ _ (usage (c.in_default.ensures {u = tt}).none) _ _ _ _ _ c.reply.ensures.answers c.reply.result.kept

pub returns-in_default-clause-front_none : goal.returns-in_default-clause-front_none
returns-in_default-clause-front_none g c = refused_front _ _ _ _ _ _ (usage (c.in_default.ensures {u = tt}).none) _ _ _ _ _ c.reply.ensures.answers c.reply.result.kept

pub returns-in_default-clause-short_none : goal.returns-in_default-clause-short_none
returns-in_default-clause-short_none g c = refused_short _ _ _ _ _ _ (usage (c.in_default.ensures {u = tt}).none) _ _ _ _ _ c.reply.ensures.answers c.reply.result.kept

-- the program is accepted
pub returns-in-Ok-clause-cause : goal.returns-in-Ok-clause-cause
returns-in-Ok-clause-cause g c =
    refused_cause _ _ _ _ _ _
    (accepted_gives _ _ _ _ c.in-Some.name.now c.in-Some.task _ c.in-Ok-Accepted.verified _ (c.in-Some.ensures {u = tt}).some
    (c.in-Ok-Accepted.ensures {u = tt}).found c.in-Ok-Accepted.field-0-is (c.as_str.ensures.value ∙ c.in-Ok.ensures {u = tt} ∙ ap (λ v. accepted_line v.program) c.in-Ok-Accepted.verified-is))
    _ _ _ _ _ c.reply-in-Ok.ensures.answers c.reply-in-Ok.result.kept

pub returns-in-Ok-clause-front_none : goal.returns-in-Ok-clause-front_none
returns-in-Ok-clause-front_none g c =
    refused_front _ _ _ _ _ _
    (accepted_gives _ _ _ _ c.in-Some.name.now c.in-Some.task _ c.in-Ok-Accepted.verified _ (c.in-Some.ensures {u = tt}).some
    (c.in-Ok-Accepted.ensures {u = tt}).found c.in-Ok-Accepted.field-0-is (c.as_str.ensures.value ∙ c.in-Ok.ensures {u = tt} ∙ ap (λ v. accepted_line v.program) c.in-Ok-Accepted.verified-is))
    _ _ _ _ _ c.reply-in-Ok.ensures.answers c.reply-in-Ok.result.kept

pub returns-in-Ok-clause-short_none : goal.returns-in-Ok-clause-short_none
returns-in-Ok-clause-short_none g c =
    refused_short _ _ _ _ _ _
    (accepted_gives _ _ _ _ c.in-Some.name.now c.in-Some.task _ c.in-Ok-Accepted.verified _ (c.in-Some.ensures {u = tt}).some
    (c.in-Ok-Accepted.ensures {u = tt}).found c.in-Ok-Accepted.field-0-is (c.as_str.ensures.value ∙ c.in-Ok.ensures {u = tt} ∙ ap (λ v. accepted_line v.program) c.in-Ok-Accepted.verified-is))
    _ _ _ _ _ c.reply-in-Ok.ensures.answers c.reply-in-Ok.result.kept

pub returns-in-Ok-clause-refused : goal.returns-in-Ok-clause-refused
returns-in-Ok-clause-refused g c =
    found_refuses _ _ _ c.in-Some.name.now c.in-Some.task _ c.in-Ok-Accepted.verified (c.in-Some.ensures {u = tt}).some
    (c.in-Ok-Accepted.ensures {u = tt}).found c.in-Ok-Accepted.field-0-is

-- the text is refused
refused_text : (g : Given.Over) (c : goal.After-drop-line-in-Ok-refusal_line g)
    → Gives c.args.words.now (g.F.Files.held c.args.files.now) (g.F.Files.read_faults c.args.files.now) (g.F.Files.read_faults c.carry_out_file.new.files) 2 c.as_str-in-Ok-refusal_line.result.now
refused_text g c =
    let is = c.in-Err-Fault-Text.field-0-is ∙ ap Fault c.in-Err-Fault-Text.field-0-0-is in
    let found = (c.in-Err-Fault-Text.ensures {u = tt}).text c.in-Err-Fault-Text.why (ap Err is) in
    rw (c.as_str-in-Ok-refusal_line.ensures.value, c.in-Ok-refusal_line.ensures {u = tt}) (text c.in-Err-Fault-Text.why (c.in-Some.name.now, c.in-Some.task, found.0, (c.in-Some.ensures {u = tt}).some, found.1, found.2))

pub returns-in-Ok-refusal_line-clause-cause : goal.returns-in-Ok-refusal_line-clause-cause
returns-in-Ok-refusal_line-clause-cause g c = refused_cause _ _ _ _ _ _ (refused_text g c) _ _ _ _ _ c.reply-in-Ok-refusal_line.ensures.answers c.reply-in-Ok-refusal_line.result.kept

pub returns-in-Ok-refusal_line-clause-front_none : goal.returns-in-Ok-refusal_line-clause-front_none
returns-in-Ok-refusal_line-clause-front_none g c = refused_front _ _ _ _ _ _ (refused_text g c) _ _ _ _ _ c.reply-in-Ok-refusal_line.ensures.answers c.reply-in-Ok-refusal_line.result.kept

pub returns-in-Ok-refusal_line-clause-short_none : goal.returns-in-Ok-refusal_line-clause-short_none
returns-in-Ok-refusal_line-clause-short_none g c = refused_short _ _ _ _ _ _ (refused_text g c) _ _ _ _ _ c.reply-in-Ok-refusal_line.ensures.answers c.reply-in-Ok-refusal_line.result.kept

pub returns-in-Ok-refusal_line-clause-accepts : goal.returns-in-Ok-refusal_line-clause-accepts
returns-in-Ok-refusal_line-clause-accepts g c =
    let is = c.in-Err-Fault-Text.field-0-is ∙ ap Fault c.in-Err-Fault-Text.field-0-0-is in
    let found = (c.in-Err-Fault-Text.ensures {u = tt}).text c.in-Err-Fault-Text.why (ap Err is) in
    refused_accepts _ _ _ c.in-Some.name.now c.in-Some.task found.0 c.in-Err-Fault-Text.why (c.in-Some.ensures {u = tt}).some found.1 found.2

-- the file could not be read
unreadable : (g : Given.Over) (c : goal.After-drop-line-in-Ok-file_line g)
    → Gives c.args.words.now (g.F.Files.held c.args.files.now) (g.F.Files.read_faults c.args.files.now) (g.F.Files.read_faults c.carry_out_file.new.files) 8 c.as_str-in-Ok-file_line.result.now
unreadable g c =
    let is = c.in-Err-Fault-File.field-0-is ∙ ap Fault c.in-Err-Fault-File.field-0-0-is in
    let rose = (c.in-Err-Fault-File.ensures {u = tt}).file (ap Err is) in
    rw (c.as_str-in-Ok-file_line.ensures.value, c.in-Ok-file_line.ensures {u = tt}) (file c.in-Some.name.now c.in-Some.task (c.in-Some.ensures {u = tt}).some rose)

pub returns-in-Ok-file_line-clause-cause : goal.returns-in-Ok-file_line-clause-cause
returns-in-Ok-file_line-clause-cause g c = refused_cause _ _ _ _ _ _ (unreadable g c) _ _ _ _ _ c.reply-in-Ok-file_line.ensures.answers c.reply-in-Ok-file_line.result.kept

pub returns-in-Ok-file_line-clause-front_none : goal.returns-in-Ok-file_line-clause-front_none
returns-in-Ok-file_line-clause-front_none g c = refused_front _ _ _ _ _ _ (unreadable g c) _ _ _ _ _ c.reply-in-Ok-file_line.ensures.answers c.reply-in-Ok-file_line.result.kept

pub returns-in-Ok-file_line-clause-short_none : goal.returns-in-Ok-file_line-clause-short_none
returns-in-Ok-file_line-clause-short_none g c = refused_short _ _ _ _ _ _ (unreadable g c) _ _ _ _ _ c.reply-in-Ok-file_line.ensures.answers c.reply-in-Ok-file_line.result.kept
