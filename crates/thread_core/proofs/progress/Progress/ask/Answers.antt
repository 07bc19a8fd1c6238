use Rattle.std.proofs.Common.{◌≡◌, ◌∙◌, ◌<◌, length, None, Some, refl, sym, ap, subst, arith}
use Rattle.std.proofs.lemmas.Option.{slice_get-get_or}
use Rattle.rgctx_fill.specs.ThreadStates.{image_of}
use Rattle.thread_core.specs.Runs.{refusal}
use Rattle.thread_core.proofs.AskLemmas.{IsRefused, refused_so, accepted_so, noted_none, noted_one}
use Rattle.thread_core.proofs.progress.Progress.ask.Goals as goal

pub returns-in-Some : goal.returns-in-Some
returns-in-Some c =
    let r = c.args.self.now in
    let t = c.index.result.now in
    let within : c.args.thread < length r.threads.items = omega (arith, c.requires.inside, r.threads.ok.0) in
    let asked = c.in_ok-reply.ensures {u = tt} in
    let is : refusal t c.in_ok-reply.reply ≡ Some c.in-Some.ending = sym c.refusal.ensures ∙ c.in-Some.is in
    record {
      was = t;
      there = slice_get-get_or r.threads.items c.args.thread t within ∙ ap Some (sym c.index.ensures);
      so = subst (λ y. IsRefused t y c.in-Some.ending) asked.reply (refused_so t c.in_ok-reply.reply c.in-Some.ending is);
      history = asked.noted ∙ noted_none r.world.history c.args.thread c.args.request c.in_ok-reply.reply t c.in-Some.ending is;
      words = refl;
      started = refl;
      turns = refl;
      schedule = refl;
    }

pub returns : goal.returns
returns c =
    let r = c.args.self.now in
    let t = c.index.result.now in
    let asked = c.in_ok-reply.ensures {u = tt} in
    let follows = c.in_ok-follow.ensures {u = tt} in
    let n = c.in_ok-note.ensures {u = tt} in
    let is : refusal t c.in_ok-reply.reply ≡ None = sym c.refusal.ensures ∙ c.in_default.is in
    let goes = accepted_so t c.in_ok-reply.reply is in
    record {
      reply = c.in_ok-reply.reply;
      answers = record { given = sym asked.reply; goes_on = goes.0; proper = goes.1 };
      threads = c.answer_at.new.threads.items;
      replied = c.answer_at.ensures (image_of c.args.image.now);
      more = n.threads ∙ c.in_ok-start_by.ensures {u = tt};
      history = ap (λ w. w.history) n.world ∙ asked.noted ∙ noted_one r.world.history c.args.thread c.args.request c.in_ok-reply.reply goes.0 goes.1;
      finished = ap (λ s. s.finished.items) n.started ∙ follows.finished;
      over = ap (λ s. s.is_over) n.started ∙ follows.over;
      words = n.words;
      turns = n.turns;
      schedule = n.schedule;
    }
