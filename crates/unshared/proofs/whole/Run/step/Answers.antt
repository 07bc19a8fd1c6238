use Rattle.std.proofs.Common.{◌∙◌, arith, None, sym, ap, subst}
use Rattle.std.specs.List.{last_or}
use Rattle.store_object.specs.Replay.{replayed}
use Rattle.unshared.specs.Listed.{naming_of}
use Rattle.unshared.specs.Reached.{HasEnded}
use Rattle.schedules.specs.Ends.{ended_by}
use Rattle.unshared.proofs.EndingLemmas.{done_at}
use Rattle.unshared.proofs.WholeLemmas.{inside_by}
use Rattle.unshared.proofs.whole.Run.step.Goals as goal

pub returns-in_default : goal.returns-in_default
returns-in_default c = λ ks turns at split later ext.
    let p = c.args.program.now in
    let r = c.args.self.now in
    let found = c.in_ok-thread.ensures {u = tt} in
    let nobody = sym (found (replayed r.world.history) c.requires.ready.lives) ∙ c.in_default.is in
    subst (λ e. HasEnded p ks turns r (naming_of later) e) (sym (c.ended_by.ensures ∙ ap (λ h. ended_by (last_or None h)) c.history.ensures.events))
    (done_at p ks turns r at c.args.number split nobody later ext)

pub turn-requires-clause-inside : goal.turn-requires-clause-inside
turn-requires-clause-inside c =
    let r = c.args.self.now in
    let found = c.in_ok-thread.ensures {u = tt} in
    let within = inside_by c.args.program.now r c.args.number c.in-Some.thread c.requires.ready (sym (found (replayed r.world.history) c.requires.ready.lives) ∙ c.in-Some.is) in
    omega (arith, within, r.threads.ok.0)
