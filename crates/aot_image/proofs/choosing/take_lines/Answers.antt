use Rattle.std.proofs.Common.{◌≡◌, ◌∙◌, ap, sym, subst, take, drop, Ok, Err}
use Rattle.std.specs.Prelude.{◌==◌}
use Rattle.std.specs.List.{position_or_len}
use Rattle.mn_outside.specs.declared.outside.Refused.{Refused}
use Rattle.aot_image.specs.declared.choice_fault.ChoiceCause.{ChoiceCause}
use Rattle.aot_image.specs.Choosing.{after_line, fault_at}
use Rattle.aot_image.specs.ChoosingLines.{judged}
use Rattle.aot_image.specs.ChoosingRounds.{live_of, LeavesLine}
use Rattle.aot_image.proofs.ChoosingPartLemmas.{nothing_left}
use Rattle.aot_image.proofs.ChoosingLineLemmas.{lines_fault, lines_more, lines_end}
use Rattle.aot_image.proofs.choosing.take_lines.Goals as goal

pub returns-in-Err-Fault : goal.returns-in-Err-Fault
returns-in-Err-Fault c =
    let first : c.split_at.result.0.now ≡ take (position_or_len (λ b. b == 10) c.lines.rest.now) c.lines.rest.now = c.split_at.ensures.front ∙ ap (λ n. take n c.lines.rest.now) c.part_len.ensures.value in
    let second : c.split_at.result.1.now ≡ drop (position_or_len (λ b. b == 10) c.lines.rest.now) c.lines.rest.now = c.split_at.ensures.back ∙ ap (λ n. drop n c.lines.rest.now) c.part_len.ensures.value in
    let is : after_line c.args.program.now (live_of c.lines.picks.rounds.items c.lines.picks.entries.keys) (judged c.args.program.now c.split_at.result.0.now) ≡ Err c.in-Err-Fault.cause =
    subst (λ (e : Refused ChoiceCause). LeavesLine (after_line c.args.program.now (live_of c.lines.picks.rounds.items c.lines.picks.entries.keys) (judged c.args.program.now c.split_at.result.0.now)) (Err e) (live_of c.take_line.new.picks.rounds.items c.take_line.new.picks.entries.keys))
    c.in-Err-Fault.field-0-is (c.in-Err-Fault.ensures {u = tt}).live in
    lines_fault c.args.program.now c.args.text.now (live_of c.args.picks.now.rounds.items c.args.picks.now.entries.keys) c.lines.line c.lines.rest.now c.lines.picks.rounds.items c.lines.picks.entries.keys c.lines.invariant c.split_at.result.0.now c.split_at.result.1.now first second c.in-Err-Fault.cause is
    ∙ ap (λ why. Err (fault_at c.lines.line why)) (sym c.in-Err-Fault.cause-is)

pub lines-preserved : goal.lines-preserved
lines-preserved c =
    let first : c.split_at.result.0.now ≡ take (position_or_len (λ b. b == 10) c.lines.rest.now) c.lines.rest.now = c.split_at.ensures.front ∙ ap (λ n. take n c.lines.rest.now) c.part_len.ensures.value in
    let second : c.split_at.result.1.now ≡ drop (position_or_len (λ b. b == 10) c.lines.rest.now) c.lines.rest.now = c.split_at.ensures.back ∙ ap (λ n. drop n c.lines.rest.now) c.part_len.ensures.value in
    let is : after_line c.args.program.now (live_of c.lines.picks.rounds.items c.lines.picks.entries.keys) (judged c.args.program.now c.split_at.result.0.now) ≡ Ok (live_of c.take_line.new.picks.rounds.items c.take_line.new.picks.entries.keys) = (c.in-Ok.ensures {u = tt}).live in
    lines_more c.args.program.now c.args.text.now (live_of c.args.picks.now.rounds.items c.args.picks.now.entries.keys) c.lines.line c.lines.rest.now c.lines.picks.rounds.items c.lines.picks.entries.keys c.lines.invariant c.split_at.result.0.now c.split_at.result.1.now first second c.in-Some.field-0-0.now c.in-Some.next.now c.take_line.new.picks.rounds.items c.take_line.new.picks.entries.keys is
    (c.in-Some.ensures {u = tt}).cases.0 (c.in-Ok.ensures {u = tt}).kept ((c.in-Ok.ensures {u = tt}).count ∙ c.lines.invariant.count)

pub returns-in-None : goal.returns-in-None
returns-in-None c =
    let first : c.split_at.result.0.now ≡ take (position_or_len (λ b. b == 10) c.lines.rest.now) c.lines.rest.now = c.split_at.ensures.front ∙ ap (λ n. take n c.lines.rest.now) c.part_len.ensures.value in
    let second : c.split_at.result.1.now ≡ drop (position_or_len (λ b. b == 10) c.lines.rest.now) c.lines.rest.now = c.split_at.ensures.back ∙ ap (λ n. drop n c.lines.rest.now) c.part_len.ensures.value in
    let is : after_line c.args.program.now (live_of c.lines.picks.rounds.items c.lines.picks.entries.keys) (judged c.args.program.now c.split_at.result.0.now) ≡ Ok (live_of c.take_line.new.picks.rounds.items c.take_line.new.picks.entries.keys) = (c.in-Ok.ensures {u = tt}).live in
    lines_end c.args.program.now c.args.text.now (live_of c.args.picks.now.rounds.items c.args.picks.now.entries.keys) c.lines.line c.lines.rest.now c.lines.picks.rounds.items c.lines.picks.entries.keys c.lines.invariant c.split_at.result.0.now c.split_at.result.1.now first second (live_of c.take_line.new.picks.rounds.items c.take_line.new.picks.entries.keys) is (nothing_left c.split_at.result.1.now (c.in-None.ensures {u = tt}).cases)
