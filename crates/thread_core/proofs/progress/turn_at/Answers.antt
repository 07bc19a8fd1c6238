use Rattle.std.proofs.Common.{◌≡◌, ◌∙◌, ◌<◌, length, Some, refl, sym, ap, arith}
use Rattle.std.specs.Prelude.{slice_get, slice_index}
use Rattle.std.proofs.lemmas.Option.{slice_get-get_or}
use Rattle.rgctx_template.specs.Catalogue.{data_of}
use Rattle.thread_core.proofs.AtLemmas.{going-of}
use Rattle.thread_core.proofs.progress.turn_at.Goals as goal

pub next-requires-clause-going : goal.next-requires-clause-going
next-requires-clause-going c =
    let t = c.index_mut-state.result.now in
    let threads = c.args.threads.now in
    let within : c.args.thread < length threads.items = omega (arith, c.requires.inside, threads.ok.0) in
    let there : slice_get threads.items c.args.thread ≡ Some t = slice_get-get_or threads.items c.args.thread t within ∙ ap Some (sym c.index_mut-state.ensures.value) in
    going-of (data_of c.args.image.now.cat) (slice_index c.args.words.now.words) t.doing (c.requires.going t there) (c.requires.fine c.args.thread t there)

pub returns : goal.returns
returns c =
    let t = c.index_mut-state.result.now in
    let threads = c.args.threads.now in
    let within : c.args.thread < length threads.items = omega (arith, c.requires.inside, threads.ok.0) in
    let there : slice_get threads.items c.args.thread ≡ Some t = slice_get-get_or threads.items c.args.thread t within ∙ ap Some (sym c.index_mut-state.ensures.value) in
    let done = c.in_ok-said.ensures {u = tt} in
    record {
      was = t;
      now = c.next.new.state;
      there = there;
      set = refl;
      going = going-of (data_of c.args.image.now.cat) (slice_index c.args.words.now.words) t.doing (c.requires.going t there) (c.requires.fine c.args.thread t there);
      made = done.turn;
      place = done.place;
      grows = done.grows;
      met = done.met;
      listed = c.listed-2.ensures;
      ready = done.ready;
    }
