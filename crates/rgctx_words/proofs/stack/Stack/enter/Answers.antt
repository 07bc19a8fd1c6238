use Rattle.std.proofs.Common.{sym, ap, ◌∙◌}
use Rattle.rgctx_words.specs.Stacks.{StackWords, current_address}
use Rattle.rgctx_words.proofs.StackLemmas.{memory-with_frame}
use Rattle.rgctx_words.proofs.stack.Stack.enter.Goals as goal

pub returns-clause-memory : goal.returns-clause-memory
returns-clause-memory c =
    let s : StackWords = record { words = c.self.inside.words.items; bases = c.self.inside.bases.items } in
    rw (← c.self.view_is) (memory-with_frame s c.args.new.now c.current_address-caller.result c.append_frame.new.words.items (c.current_address-caller.ensures ∙ ap current_address (sym c.self.view_is)) c.in_ok-append_frame.ensures.ok)
