use Rattle.std.proofs.Common.{◌∙◌, ◌<◌, length, Some, refl, sym, ap, arith}
use Rattle.std.proofs.lemmas.Option.{slice_get-get_or}
use Rattle.unshared.proofs.whole.turn_at.Goals as goal

pub returns : goal.returns
returns c =
    let t = c.index_mut-state.result.now in
    let threads = c.args.threads.now in
    let within : c.args.thread < length threads.items = omega (arith, c.requires.inside, threads.ok.0) in
    let done = c.in_ok-turn.ensures {u = tt} in
    record {
      old = t;
      new = c.turn.new.self;
      there = slice_get-get_or threads.items c.args.thread t within ∙ ap Some (sym c.index_mut-state.ensures.value);
      set = refl;
      grown = done.grows;
      fine = done.fine;
      took = done.took;
    }
