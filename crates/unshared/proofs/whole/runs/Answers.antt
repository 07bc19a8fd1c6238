use Rattle.std.proofs.Common.{◌≡◌, ◌∙◌, ◌-◌, refl, sym, ap, subst, arith}
use Rattle.schedules.specs.Drawn.{left, HasLeft}
use Rattle.schedules.specs.Numbers.{numbers}
use Rattle.interaction.specs.Object.{live_threads}
use Rattle.store_object.specs.Replay.{store, replayed}
use Rattle.unshared.specs.Reached.{GoesOnOrEnds}
use Rattle.unshared.specs.Runs.{last_ending}
use Rattle.schedules.proofs.DrawLemmas.{drawn_next, drawn_all, length_numbers}
use Rattle.unshared.proofs.EndingLemmas.{last_at}
use Rattle.unshared.proofs.MeantLemmas.{meant_by}
use Rattle.unshared.proofs.whole.runs.Goals as goal

pub loop-turn-init : goal.loop-turn-init
loop-turn-init c =
    let ch = c.args.chooser.now in
    let d = c.of-drawing.result in
    let all : c.args.turns - 0 ≡ c.args.turns = omega arith in
    record {
      at = (c.in_ok-run.ensures {u = tt}) (numbers ch c.args.turns);
      left = sym (ap (left ch d) all ∙ c.of-drawing.ensures.all c.args.turns);
      enough = subst (HasLeft ch d) (sym all) (c.of-drawing.ensures.enough c.args.turns c.requires.enough);
    }

pub returns-in-Some : goal.returns-in-Some
returns-in-Some c =
    let p = c.args.program.now in
    let ch = c.args.chooser.now in
    let inv = c.loop-turn.invariant in
    let at = c.loop-turn._turn in
    let d = drawn_next (numbers ch c.args.turns) ch c.loop-turn.drawing c.draw-number.new.self c.draw-number.result at c.args.turns c.loop-turn-test.true inv.left inv.enough c.draw-number.ensures.next c.draw-number.ensures.enough in
    let ended = (c.in_ok-ending.ensures {u = tt}) (numbers ch c.args.turns) at inv.at d.split in
    let said = c.in_ok-meant.ensures {u = tt} in
    meant_by p ch c.args.turns at c.step.new.self c.in-Some.ending c.in_ok-meant.field-0 c.requires.enough (subst (λ o. GoesOnOrEnds p (numbers ch c.args.turns) at c.step.new.self o) c.in-Some.is ended)
    said.trees said.few said.schedule said.order said.history said.ending

pub loop-turn-preserved : goal.loop-turn-preserved
loop-turn-preserved c =
    let p = c.args.program.now in
    let ch = c.args.chooser.now in
    let inv = c.loop-turn.invariant in
    let at = c.loop-turn._turn in
    let d = drawn_next (numbers ch c.args.turns) ch c.loop-turn.drawing c.draw-number.new.self c.draw-number.result at c.args.turns c.loop-turn-test.true inv.left inv.enough c.draw-number.ensures.next c.draw-number.ensures.enough in
    let goes = (c.in_ok-ending.ensures {u = tt}) (numbers ch c.args.turns) at inv.at d.split in
    record {
      at = subst (λ o. GoesOnOrEnds p (numbers ch c.args.turns) at c.step.new.self o) c.in_default.is goes;
      left = d.rest;
      enough = d.enough;
    }

pub returns : goal.returns
returns c =
    let p = c.args.program.now in
    let ch = c.args.chooser.now in
    let inv = c.loop-turn.invariant in
    let at = c.loop-turn._turn in
    let r = c.loop-turn.run in
    let live = live_threads store (replayed r.world.history) in
    let none = drawn_all (numbers ch c.args.turns) ch c.loop-turn.drawing at c.args.turns c.loop-turn-test.false inv.left in
    let full : at ≡ c.args.turns = omega (arith, c.loop-turn-test.false, c.loop-turn.auto._turn-end) in
    let said = c.in_ok-meant-2.ensures {u = tt} in
    let end = (c.in_ok-ending-2.ensures {u = tt}) (replayed r.world.history) inv.at.ready.lives in
    meant_by p ch c.args.turns at r (last_ending r.world.history live) c.in_ok-meant-2.field-0 c.requires.enough (last_at p (numbers ch c.args.turns) at r inv.at live (full ∙ sym (length_numbers ch c.args.turns c.requires.enough)) none refl)
    said.trees said.few said.schedule said.order said.history (said.ending ∙ end)
