use Rattle.std.proofs.Common.{◌≡◌, ◌∙◌, ◌++◌, ◌∷◌, [], Err, Vec, Global, refl, ap, rules, arith}
use Rattle.std.proofs.lemmas.Grind.{common_steps}
use Rattle.store_object.specs.declared.reply.Reply.{Reply}
use Rattle.unshared.specs.declared.pause.Halt.TheVariants as halt
use Rattle.unshared.specs.declared.pause.Pause.TheVariants as pause
use Rattle.unshared.specs.Listed.{naming_of}
use Rattle.unshared.specs.Standing.{frames_or_none}
use Rattle.unshared.proofs.TookLemmas.{came_asking, came_ending, came_halting}
use Rattle.unshared.proofs.thread.Thread.take.Goals as goal

pub returns-in-Err-Halts-Asks-clause-came : goal.returns-in-Err-Halts-Asks-clause-came
returns-in-Err-Halts-Asks-clause-came c = λ later ext.
    let arm = c.in-Err-Halts-Asks in
    let is : c.go_on.result ≡ Err (pause.Halts (halt.Asks arm.field-0-0-0)) = cc (arm.is, arm.field-0-is, arm.field-0-0-is) in
    let more : c.push.new.self.items ≡ c.args.self.now.replies.items ++ c.args.reply ∷ [] = first_of (search rules, grind (arith, common_steps)) in
    came_asking (naming_of later) c.args.program.now c.args.self.now.frames c.args.self.now.replies.items c.push.new.self.items c.args.reply (frames_or_none c.go_on.new.self.frames) c.go_on.new.self c.go_on.result arm.field-0-0-0
    is more (c.go_on.ensures.acts later ext) c.go_on.ensures.kept (c.go_on.ensures.going ∙ c.requires.goes) (ap (λ (l : Vec Reply Global). l.items) c.go_on.ensures.replies)

pub returns-in-Err-Halts-Over-clause-came : goal.returns-in-Err-Halts-Over-clause-came
returns-in-Err-Halts-Over-clause-came c = λ later ext.
    let arm = c.in-Err-Halts-Over in
    let is : c.go_on.result ≡ Err (pause.Halts halt.Over) = cc (arm.is, arm.field-0-is, arm.field-0-0-is) in
    let more : c.push.new.self.items ≡ c.args.self.now.replies.items ++ c.args.reply ∷ [] = first_of (search rules, grind (arith, common_steps)) in
    came_ending (naming_of later) c.args.program.now c.args.self.now.frames (c.args.self.now.replies.items ++ c.args.reply ∷ []) c.push.new.self.items (frames_or_none c.go_on.new.self.frames) _ c.go_on.result
    is more (c.go_on.ensures.acts later ext) refl

pub returns-in-Err-Halts-Stuck-clause-came : goal.returns-in-Err-Halts-Stuck-clause-came
returns-in-Err-Halts-Stuck-clause-came c = λ later ext.
    let arm = c.in-Err-Halts-Stuck in
    let is : c.go_on.result ≡ Err (pause.Halts halt.Stuck) = cc (arm.is, arm.field-0-is, arm.field-0-0-is) in
    let more : c.push.new.self.items ≡ c.args.self.now.replies.items ++ c.args.reply ∷ [] = first_of (search rules, grind (arith, common_steps)) in
    came_halting (naming_of later) c.args.program.now c.args.self.now.frames (c.args.self.now.replies.items ++ c.args.reply ∷ []) c.push.new.self.items (frames_or_none c.go_on.new.self.frames) _ c.go_on.result
    is more (c.go_on.ensures.acts later ext) refl
