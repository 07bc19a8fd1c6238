use Rattle.std.proofs.Common.{◌∙◌, ◌<◌, ◌++◌, List, length, take, sym, ap, arith}
use Rattle.std.specs.Prelude.{filter_map, option_to_list}
use Rattle.thread_core.specs.declared.record.FillNote.{FillNote}
use Rattle.thread_core.specs.Runs.{note_at}
use Rattle.thread_core.proofs.FillNotes.{notes-more}
use Rattle.thread_core.proofs.fills.fills_in.Goals as goal

pub loop-place-preserved : goal.loop-place-preserved
loop-place-preserved c =
    let words = c.args.words.now in
    let claimed = c.args.claimed.now in
    let at = c.loop-place.place in
    let less : at < length claimed = omega (arith, c.loop-place-test.true) in
    c.in_ok-put_if.ensures {u = tt}
    ∙ ap (λ (l : List FillNote). l ++ option_to_list c.note_of-note.result) c.loop-place.invariant
    ∙ ap (λ o. filter_map (note_at words) (take at claimed) ++ option_to_list o) c.note_of-note.ensures
    ∙ sym (notes-more words claimed at c.number_at-claim.result less (sym c.number_at-claim.ensures))
