use Rattle.std.proofs.Common.{◌≡◌, ◌+◌, suc, ap, ◌∙◌, arith}
use Rattle.run_top.specs.Gives.{thread_of}
use Rattle.run_top.proofs.Running.{begun, as_is, starting, running_did, running_asked, none_left, finished, used_up}
use Rattle.run_top.proofs.run.run.Goals as goal
use Rattle.run_top.proofs.run.run.Goals.{in-Did+in_ok-note-in-Did, in-Asked+in_ok-ask-in-Asked, then-live, else-live}

pub loop-made-init : goal.loop-made-init
loop-made-init c =
    let core = c.main_core-core.result in
    let frame = c.as_mut_slice-frame.ensures.value ∙ c.in-Ok.ensures {u = tt} in
    rw ((c.in_ok-world.ensures {u = tt}).history, c.new-turns.ensures.items) (starting c.args.image.now c.args.words c.args.limit _ (begun core c.as_mut_slice-frame.result.now c.args.words c.main_core-core.ensures.pc c.main_core-core.ensures.x c.main_core-core.ensures.mode frame))

pub returns-then-not-live : goal.returns-then-not-live
returns-then-not-live c = rw c.into_history.ensures.events (finished c.args.image.now c.args.words c.args.limit c.loop-made.made (thread_of c.loop-made.core c.loop-made.frame) c.loop-made.world.history c.loop-made.turns.items (rw c.if-not-live.true at c.loop-made.invariant))

pub unreachable-requires : goal.unreachable-requires
unreachable-requires c = none_left c.args.image.now c.args.words c.args.limit c.loop-made.made (thread_of c.loop-made.core c.loop-made.frame) c.loop-made.world.history c.loop-made.turns.items c.loop-made-test.true (rw c.if-not-live.false at c.loop-made.invariant) c.requires.regular (c.in-Nothing.ensures {u = tt})

pub loop-made-preserved : goal.loop-made-preserved
loop-made-preserved c =
    let next : c.loop-made.made + 1 ≡ suc c.loop-made.made = omega arith in
    let r = rw c.if-not-live.false at c.loop-made.invariant in
    elim c.match-turn.branch [
      | in-Did+in_ok-note-in-Did w ↦
          as_is c.args.image.now c.args.words c.args.limit next (w.live-is ∙ c.if-not-live.false) (ap (λ v. v.history) w.world-is) (ap (λ v. v.items) w.turns-is ∙ w.in_ok-note-in-Did.ensures {u = tt})
          (running_did c.args.image.now c.args.words c.args.limit c.loop-made.made (thread_of c.loop-made.core c.loop-made.frame) c.loop-made.world.history c.loop-made.turns.items c.loop-made-test.true r w.in-Did.what (thread_of c.turn.new.core c.turn.new.frame) w.in-Did.ensures)
      | in-Asked+in_ok-ask-in-Asked w ↦
          as_is c.args.image.now c.args.words c.args.limit next (w.live-is ∙ w.stays_live-live.ensures) (ap (λ v. v.history) w.world-is ∙ (w.in_ok-ask-in-Asked.ensures {u = tt}).history) (ap (λ v. v.items) w.turns-is ∙ (w.in_ok-ask-in-Asked.ensures {u = tt}).turns)
          (running_asked c.args.image.now c.args.words c.args.limit c.loop-made.made (thread_of c.loop-made.core c.loop-made.frame) c.loop-made.world.history c.loop-made.turns.items c.loop-made-test.true r w.in-Asked.request w.in-Asked.ensures.0 (thread_of c.turn.new.core c.turn.new.frame) w.in-Asked.ensures.1 w.in-Asked.ensures.2)
    ]

pub returns : goal.returns
returns c =
    let all : c.loop-made.made ≡ c.args.limit = omega (arith, c.loop-made.auto.made-end) in
    let t = thread_of c.loop-made.core c.loop-made.frame in
    let r = rw all at c.loop-made.invariant in
    elim c.if-live.branch [
      | then-live w ↦ rw (c.into_history-2.ensures.events, w.ending-is) (used_up c.args.image.now c.args.words c.args.limit t c.loop-made.world.history c.loop-made.turns.items (rw w.if-live.true at r))
      | else-live w ↦ rw (c.into_history-2.ensures.events, w.ending-is) (finished c.args.image.now c.args.words c.args.limit c.args.limit t c.loop-made.world.history c.loop-made.turns.items (rw w.if-live.false at r))
    ]
