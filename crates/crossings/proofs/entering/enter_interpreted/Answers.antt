use Rattle.std.proofs.Common.{ℕ, length, take, ap, ◌∙◌}
use Rattle.rgctx_words.specs.Stacks.{mem_of}
use Rattle.crossings.specs.Calls.{callee_frame}
use Rattle.crossings.specs.Copies.{with_arguments}
use Rattle.crossings.proofs.EnterLemmas.{memory-called, stack-called}
use Rattle.crossings.proofs.entering.enter_interpreted.Goals as goal

pub returns-clause-memory : goal.returns-clause-memory
returns-clause-memory c =
    memory-called c.args.stack.now c.enter_frame.new.stack c.copy_arguments.new.stack c.args.call.now.list c.args.widths.now (callee_frame c.args.call.now c.args.words) c.in_ok-enter_frame.ensures.ok c.in_ok-enter_frame.ensures.memory
    (c.copy_arguments.ensures.memory
    ∙ ap (λ (b : ℕ). with_arguments b (take b c.enter_frame.new.stack.words) c.args.call.now.list c.args.widths.now (length c.args.widths.now) (mem_of c.enter_frame.new.stack)) c.end-base.ensures.count)

pub returns-clause-ok : goal.returns-clause-ok
returns-clause-ok c =
    stack-called c.args.stack.now c.enter_frame.new.stack c.copy_arguments.new.stack c.args.call.now c.args.words c.args.widths.now c.requires.words.low c.in_ok-enter_frame.ensures.ok c.copy_arguments.ensures.size c.copy_arguments.ensures.bases
    (returns-clause-memory c)
