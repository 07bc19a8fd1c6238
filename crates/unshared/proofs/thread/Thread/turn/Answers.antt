use Rattle.std.proofs.Common.{◌≡◌, Err, refl, sym, subst}
use Rattle.type_inst.proofs.OpeningLemmas.{extends_both}
use Rattle.unshared.specs.Acts.{Halts}
use Rattle.unshared.specs.declared.pause.Halt.TheVariants as halt
use Rattle.unshared.specs.declared.pause.Pause.TheVariants as pause
use Rattle.unshared.specs.declared.thread.Thread.{Thread as ThreadHere}
use Rattle.unshared.specs.Listed.{naming_of}
use Rattle.unshared.specs.Standing.{doing, frames_or_none}
use Rattle.unshared.proofs.TookLemmas.{took_went, fine_went, over_by, stuck_by, same_thread, asks_by, grown_by}
use Rattle.unshared.proofs.thread.Thread.turn.Goals as goal

pub returns-in-Ok-clause-fine : goal.returns-in-Ok-clause-fine
returns-in-Ok-clause-fine c = λ later ext.
    let done = c.in-Ok.ensures {u = tt} in
    fine_went (naming_of later) c.args.program.now c.args.self.now c.go_on.new.self c.go_on.result c.in-Ok.field-0 c.in-Ok.is c.in-On.is c.go_on.ensures.going c.go_on.ensures.replies
    (c.requires.fine later (extends_both _ _ _ done.grows.extends ext)) (c.go_on.ensures.acts later ext)

pub returns-in-Ok-clause-took : goal.returns-in-Ok-clause-took
returns-in-Ok-clause-took c = λ later ext.
    let done = c.in-Ok.ensures {u = tt} in
    took_went (naming_of later) c.args.program.now c.args.thread c.args.world.now.history c.args.self.now c.go_on.new.self c.go_on.result c.in-Ok.field-0 c.in-Ok.is c.in-On.is c.go_on.ensures.going c.go_on.ensures.replies
    (c.requires.fine later (extends_both _ _ _ done.grows.extends ext)) (c.go_on.ensures.acts later ext)

pub speak-requires-clause-asks : goal.speak-requires-clause-asks
speak-requires-clause-asks c = λ later ext.
    let arm = c.in-Err-Halts-Asks in
    let n = naming_of later in
    let p = c.args.program.now in
    let is : c.go_on.result ≡ Err (pause.Halts (halt.Asks arm.request)) = cc (arm.is, arm.field-0-is, arm.field-0-0-is) in
    let same = same_thread n p c.args.self.now c.go_on.new.self c.go_on.result arm.request is c.go_on.ensures.kept c.go_on.ensures.replies c.go_on.ensures.going in
    subst (λ (t : ThreadHere). Halts (doing n p t.frames t.replies.items) (halt.Asks arm.request)) (sym same)
    (asks_by n p (doing n p c.args.self.now.frames c.args.self.now.replies.items) (frames_or_none c.go_on.new.self.frames) c.go_on.result arm.request is (c.go_on.ensures.acts later ext))

pub returns-in-Err-Halts-Over-clause-took : goal.returns-in-Err-Halts-Over-clause-took
returns-in-Err-Halts-Over-clause-took c = λ later ext.
    let arm = c.in-Err-Halts-Over in
    let is : c.go_on.result ≡ Err (pause.Halts halt.Over) = cc (arm.is, arm.field-0-is, arm.field-0-0-is) in
    let grown = grown_by (naming_of later) c.args.program.now c.args.trees.now.kinds c.go_on.new.trees.kinds c.go_on.result halt.Over is c.go_on.ensures.grows in (
      over_by (naming_of later) c.args.program.now c.args.self.now c.args.thread c.args.world.now.history (frames_or_none c.go_on.new.self.frames) c.go_on.result is c.in-On.is
          (c.requires.fine later (extends_both _ _ _ grown.extends ext)) (c.go_on.ensures.acts later ext),
      refl,
    )

pub returns-in-Err-Halts-Stuck-clause-took : goal.returns-in-Err-Halts-Stuck-clause-took
returns-in-Err-Halts-Stuck-clause-took c = λ later ext.
    let arm = c.in-Err-Halts-Stuck in
    let is : c.go_on.result ≡ Err (pause.Halts halt.Stuck) = cc (arm.is, arm.field-0-is, arm.field-0-0-is) in
    let grown = grown_by (naming_of later) c.args.program.now c.args.trees.now.kinds c.go_on.new.trees.kinds c.go_on.result halt.Stuck is c.go_on.ensures.grows in (
      stuck_by (naming_of later) c.args.program.now c.args.self.now c.args.thread c.args.world.now.history (frames_or_none c.go_on.new.self.frames) c.go_on.result is c.in-On.is
          (c.requires.fine later (extends_both _ _ _ grown.extends ext)) (c.go_on.ensures.acts later ext),
      refl,
    )
