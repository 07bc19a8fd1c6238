use Rattle.std.proofs.Common.{◌∙◌, ◌<◌, length, Some, refl, sym, ap, arith}
use Rattle.std.proofs.lemmas.Option.{slice_get-get_or}
use Rattle.thread_core.proofs.progress.answer_at.Goals as goal

pub returns : goal.returns
returns c = λ im.
    let t = c.index_mut-state.result.now in
    let threads = c.args.threads.now in
    let within : c.args.thread < length threads.items = omega (arith, c.requires, threads.ok.0) in
    record {
      was = t;
      now = c.answer.new.state;
      there = slice_get-get_or threads.items c.args.thread t within ∙ ap Some (sym c.index_mut-state.ensures.value);
      set = refl;
      replied = c.answer.ensures.turn im;
      fill = c.answer.ensures.fill;
    }
