use Rattle.std.proofs.Common.{refl, subst}
use Rattle.unshared.specs.declared.thread.Turn.TheVariants as turn
use Rattle.unshared.specs.declared.whole.Run.{Run as RunHere}
use Rattle.unshared.specs.Took.{Moved}
use Rattle.unshared.proofs.EndingLemmas.{ended_at}
use Rattle.unshared.proofs.WholeLemmas.{quiet_at, asked_at, started_at}
use Rattle.unshared.proofs.whole.Run.turn.Goals as goal

pub returns-in-NoRule : goal.returns-in-NoRule
returns-in-NoRule c = λ ks turns at split choice.
    let p = c.args.program.now in
    let r = c.args.self.now in
    let mid : RunHere = record { trees = c.turn_at.new.trees; threads = c.turn_at.new.threads; started = r.started; world = c.turn_at.new.world; schedule = r.schedule; order = r.order } in
    let moved : Moved p c.args.thread r.threads.items mid.threads.items r.trees.kinds mid.trees.kinds r.world.history mid.world.history turn.NoRule =
    subst (λ t. Moved p c.args.thread r.threads.items mid.threads.items r.trees.kinds mid.trees.kinds r.world.history mid.world.history t) c.in-NoRule.is (c.in_ok-turn.ensures {u = tt}) in
    ended_at p ks turns r at c.args.number c.args.thread mid split choice moved refl refl

pub returns-in_ok-note-in-Quiet : goal.returns-in_ok-note-in-Quiet
returns-in_ok-note-in-Quiet c = λ ks turns at split choice.
    let p = c.args.program.now in
    let r = c.args.self.now in
    let mid : RunHere = record { trees = c.turn_at.new.trees; threads = c.turn_at.new.threads; started = r.started; world = c.turn_at.new.world; schedule = r.schedule; order = r.order } in
    let moved : Moved p c.args.thread r.threads.items mid.threads.items r.trees.kinds mid.trees.kinds r.world.history mid.world.history turn.Quiet =
    subst (λ t. Moved p c.args.thread r.threads.items mid.threads.items r.trees.kinds mid.trees.kinds r.world.history mid.world.history t) c.in-Quiet.is (c.in_ok-turn.ensures {u = tt}) in
    quiet_at p ks turns c.args.number c.args.thread r mid c.note.new.self at split choice (c.in_ok-note-in-Quiet.ensures {u = tt}) refl refl moved refl

pub returns-in_ok-note-in-Asked : goal.returns-in_ok-note-in-Asked
returns-in_ok-note-in-Asked c = λ ks turns at split choice.
    let p = c.args.program.now in
    let r = c.args.self.now in
    let event = c.in-Asked.event in
    let follows = c.in_ok-follow-in-Asked.ensures {u = tt} in
    let mid : RunHere = record { trees = c.turn_at.new.trees; threads = c.turn_at.new.threads; started = c.follow.new.self; world = c.turn_at.new.world; schedule = r.schedule; order = r.order } in
    let moved : Moved p c.args.thread r.threads.items mid.threads.items r.trees.kinds mid.trees.kinds r.world.history mid.world.history (turn.Asked event) =
    subst (λ t. Moved p c.args.thread r.threads.items mid.threads.items r.trees.kinds mid.trees.kinds r.world.history mid.world.history t) c.in-Asked.is (c.in_ok-turn.ensures {u = tt}) in
    asked_at p ks turns c.args.number c.args.thread r mid c.note-in-Asked.new.self at split choice (c.in_ok-note-in-Asked.ensures {u = tt}) refl refl event follows.finished follows.over moved

pub returns-in_ok-note-in-Started : goal.returns-in_ok-note-in-Started
returns-in_ok-note-in-Started c = λ ks turns at split choice.
    let p = c.args.program.now in
    let r = c.args.self.now in
    let event = c.in-Started.event in
    let object = c.in-Started.object in
    let follows = c.in_ok-follow-in-Started.ensures {u = tt} in
    let mid : RunHere = record { trees = c.turn_at.new.trees; threads = c.put.new.threads; started = c.follow-in-Started.new.self; world = c.turn_at.new.world; schedule = r.schedule; order = r.order } in
    let moved : Moved p c.args.thread r.threads.items c.turn_at.new.threads.items r.trees.kinds mid.trees.kinds r.world.history mid.world.history (turn.Started event object) =
    subst (λ t. Moved p c.args.thread r.threads.items c.turn_at.new.threads.items r.trees.kinds mid.trees.kinds r.world.history mid.world.history t) c.in-Started.is (c.in_ok-turn.ensures {u = tt}) in
    started_at p ks turns c.args.number c.args.thread r mid c.note-in-Started.new.self at split choice (c.in_ok-note-in-Started.ensures {u = tt}) refl refl event follows.finished follows.over object c.in_ok-begun-in-Started.begun c.turn_at.new.threads.items moved
    (c.in_ok-put-in-Started.ensures {u = tt}) (c.in_ok-begun-in-Started.ensures {u = tt})
