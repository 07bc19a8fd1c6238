use Rattle.std.proofs.Common.{◌∙◌, sym, subst}
use Rattle.type_inst.proofs.OpeningLemmas.{extends_both}
use Rattle.unshared.specs.Listed.{naming_of}
use Rattle.unshared.specs.Standing.{stands}
use Rattle.unshared.specs.Took.{Took}
use Rattle.unshared.proofs.TookLemmas.{took_asked, took_refused}
use Rattle.unshared.proofs.thread.Thread.speak.Goals as goal

pub returns-then-is_refused-clause-took : goal.returns-then-is_refused-clause-took
returns-then-is_refused-clause-took c = λ later ext.
    let told = c.in_ok-reply.ensures {u = tt} in
    took_refused (naming_of later) c.args.program.now c.args.thread c.args.world.now.history c.reserve.new.self.history c.ask.new.self.history c.args.self.now c.args.self.now c.args.request c.in_ok-reply.reply
    c.requires.goes (c.requires.fine later ext) (c.requires.asks later ext) c.reserve.ensures.kept.history told.reply (sym c.is_refused.ensures ∙ c.if-is_refused.true) told.noted

pub returns-clause-took : goal.returns-clause-took
returns-clause-took c = λ later ext.
    let told = c.in_ok-reply.ensures {u = tt} in
    let taken = c.in_ok-take.ensures {u = tt} in
    let before = extends_both _ _ _ taken.grows.extends ext in
    let n = naming_of later in
    let p = c.args.program.now in
    subst (λ t. Took n p c.args.thread c.args.world.now.history (stands n p c.args.self.now) (stands n p c.take.new.self) c.ask.new.self.history t) (sym c.turn_of.ensures)
    (took_asked n p c.args.thread c.args.world.now.history c.reserve.new.self.history c.ask.new.self.history c.args.self.now c.take.new.self c.args.request c.in_ok-reply.reply
    c.requires.goes (c.requires.fine later before) (c.requires.asks later before) c.reserve.ensures.kept.history told.reply (sym c.is_refused.ensures ∙ c.if-is_refused.false) told.noted (taken.came later ext))
