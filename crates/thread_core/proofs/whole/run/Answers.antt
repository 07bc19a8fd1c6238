use Rattle.std.proofs.Common.{◌≡◌, ◌∙◌, ◌-◌, sym, ap, subst, arith}
use Rattle.interaction.specs.Object.{live_threads}
use Rattle.rgctx_template.specs.Catalogue.{data_of}
use Rattle.rgctx_fill.specs.ThreadStates.{image_of}
use Rattle.schedules.specs.Drawn.{left, HasLeft}
use Rattle.schedules.specs.Numbers.{numbers}
use Rattle.schedules.proofs.DrawLemmas.{drawn_next, drawn_all, length_numbers}
use Rattle.store_object.specs.Replay.{store, replayed}
use Rattle.thread_core.specs.Reached.{AreMet, GoesOnOrEnds, HasEnded}
use Rattle.thread_core.specs.Runs.{image_run, last_ending}
use Rattle.thread_core.specs.Sound.{IsFaithful}
use Rattle.thread_core.proofs.FaithLemmas.{faithful_by}
use Rattle.thread_core.proofs.WholeLemmas.{run_by, last_at}
use Rattle.thread_core.proofs.whole.run.Goals as goal

pub loop-turn-init : goal.loop-turn-init
loop-turn-init c =
    let ch = c.args.chooser.now in
    let d = c.of-drawing.result in
    let all : c.args.turns - 0 ≡ c.args.turns = omega arith in
    record {
      at = (c.in_ok-progress.ensures {u = tt}).at (numbers ch c.args.turns);
      left = sym (ap (left ch d) all ∙ c.of-drawing.ensures.all c.args.turns);
      enough = subst (HasLeft ch d) (sym all) (c.of-drawing.ensures.enough c.args.turns c.requires.enough);
    }

pub loop-turn-preserved : goal.loop-turn-preserved
loop-turn-preserved c =
    let im = image_of c.args.image.now in
    let ch = c.args.chooser.now in
    let inv = c.loop-turn.invariant in
    let at = c.loop-turn._turn in
    let d = drawn_next (numbers ch c.args.turns) ch c.loop-turn.drawing c.draw-number.new.self c.draw-number.result at c.args.turns c.loop-turn-test.true inv.left inv.enough c.draw-number.ensures.next c.draw-number.ensures.enough in
    let goes = (c.in_ok-ending.ensures {u = tt}).step (numbers ch c.args.turns) at inv.at d.split in
    record {
      at = subst (λ o. GoesOnOrEnds im (numbers ch c.args.turns) at c.step.new.self o) c.in_default.is goes;
      left = d.rest;
      enough = d.enough;
    }

pub returns-in-Some-clause-run : goal.returns-in-Some-clause-run
returns-in-Some-clause-run c =
    let im = image_of c.args.image.now in
    let ch = c.args.chooser.now in
    let inv = c.loop-turn.invariant in
    let at = c.loop-turn._turn in
    let d = drawn_next (numbers ch c.args.turns) ch c.loop-turn.drawing c.draw-number.new.self c.draw-number.result at c.args.turns c.loop-turn-test.true inv.left inv.enough c.draw-number.ensures.next c.draw-number.ensures.enough in
    let ended = (c.in_ok-ending.ensures {u = tt}).step (numbers ch c.args.turns) at inv.at d.split in
    let said = c.in_ok-finished.ensures {u = tt} in
    run_by im ch c.args.turns at c.step.new.self c.in-Some.ending c.in_ok-finished.field-0 (subst (λ o. GoesOnOrEnds im (numbers ch c.args.turns) at c.step.new.self o) c.in-Some.is ended)
    said.schedule said.turns said.history said.fills said.words said.ending

pub returns-clause-run : goal.returns-clause-run
returns-clause-run c =
    let im = image_of c.args.image.now in
    let ch = c.args.chooser.now in
    let inv = c.loop-turn.invariant in
    let at = c.loop-turn._turn in
    let r = c.loop-turn.progress in
    let live = live_threads store (replayed r.world.history) in
    let none = drawn_all (numbers ch c.args.turns) ch c.loop-turn.drawing at c.args.turns c.loop-turn-test.false inv.left in
    let said = c.in_ok-finished-2.ensures {u = tt} in
    let end = (c.in_ok-ending-2.ensures {u = tt}) (replayed r.world.history) inv.at.ready.lives in
    run_by im ch c.args.turns at r (last_ending r.world.history live) c.in_ok-finished-2.field-0 (last_at im (numbers ch c.args.turns) at r inv.at none)
    said.schedule said.turns said.history said.fills said.words (said.ending ∙ end)

pub returns-in-Some-clause-faithful : goal.returns-in-Some-clause-faithful
returns-in-Some-clause-faithful c =
    let im = image_of c.args.image.now in
    let ch = c.args.chooser.now in
    let inv = c.loop-turn.invariant in
    let at = c.loop-turn._turn in
    let d = drawn_next (numbers ch c.args.turns) ch c.loop-turn.drawing c.draw-number.new.self c.draw-number.result at c.args.turns c.loop-turn-test.true inv.left inv.enough c.draw-number.ensures.next c.draw-number.ensures.enough in
    let goes = (c.in_ok-ending.ensures {u = tt}).step (numbers ch c.args.turns) at inv.at d.split in
    let ended : HasEnded im (numbers ch c.args.turns) at c.step.new.self c.in-Some.ending = subst (λ o. GoesOnOrEnds im (numbers ch c.args.turns) at c.step.new.self o) c.in-Some.is goes in
    subst (λ n. IsFaithful im n (image_run im ch c.args.turns)) (length_numbers ch c.args.turns c.requires.enough) (faithful_by im (numbers ch c.args.turns) at c.step.new.self c.in-Some.ending ended)

pub returns-clause-faithful : goal.returns-clause-faithful
returns-clause-faithful c =
    let im = image_of c.args.image.now in
    let ch = c.args.chooser.now in
    let inv = c.loop-turn.invariant in
    let at = c.loop-turn._turn in
    let r = c.loop-turn.progress in
    let live = live_threads store (replayed r.world.history) in
    let none = drawn_all (numbers ch c.args.turns) ch c.loop-turn.drawing at c.args.turns c.loop-turn-test.false inv.left in
    subst (λ n. IsFaithful im n (image_run im ch c.args.turns)) (length_numbers ch c.args.turns c.requires.enough) (faithful_by im (numbers ch c.args.turns) at r (last_ending r.world.history live) (last_at im (numbers ch c.args.turns) at r inv.at none))

pub step-requires-clause-ready : goal.step-requires-clause-ready
step-requires-clause-ready c = c.loop-turn.invariant.at.ready

pub finished-requires : goal.finished-requires
finished-requires c =
    let im = image_of c.args.image.now in
    let ch = c.args.chooser.now in
    let inv = c.loop-turn.invariant in
    let at = c.loop-turn._turn in
    let d = drawn_next (numbers ch c.args.turns) ch c.loop-turn.drawing c.draw-number.new.self c.draw-number.result at c.args.turns c.loop-turn-test.true inv.left inv.enough c.draw-number.ensures.next c.draw-number.ensures.enough in
    let goes = (c.in_ok-ending.ensures {u = tt}).step (numbers ch c.args.turns) at inv.at d.split in
    let ended : HasEnded im (numbers ch c.args.turns) at c.step.new.self c.in-Some.ending = subst (λ o. GoesOnOrEnds im (numbers ch c.args.turns) at c.step.new.self o) c.in-Some.is goes in
    ended.met

pub finished-requires-2 : goal.finished-requires-2
finished-requires-2 c = c.loop-turn.invariant.at.ready.met

pub returns-in-Some-clause-met : goal.returns-in-Some-clause-met
returns-in-Some-clause-met c =
    let im = image_of c.args.image.now in
    let ch = c.args.chooser.now in
    let inv = c.loop-turn.invariant in
    let at = c.loop-turn._turn in
    let d = drawn_next (numbers ch c.args.turns) ch c.loop-turn.drawing c.draw-number.new.self c.draw-number.result at c.args.turns c.loop-turn-test.true inv.left inv.enough c.draw-number.ensures.next c.draw-number.ensures.enough in
    let goes = (c.in_ok-ending.ensures {u = tt}).step (numbers ch c.args.turns) at inv.at d.split in
    let ended : HasEnded im (numbers ch c.args.turns) at c.step.new.self c.in-Some.ending = subst (λ o. GoesOnOrEnds im (numbers ch c.args.turns) at c.step.new.self o) c.in-Some.is goes in
    subst (AreMet (data_of c.args.image.now.cat)) (sym (c.in_ok-finished.ensures {u = tt}).words) ended.met

pub returns-clause-met : goal.returns-clause-met
returns-clause-met c = subst (AreMet (data_of c.args.image.now.cat)) (sym (c.in_ok-finished-2.ensures {u = tt}).words) c.loop-turn.invariant.at.ready.met
