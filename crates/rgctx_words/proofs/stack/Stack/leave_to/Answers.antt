use Rattle.std.proofs.Common.{◌≡◌, ◌+◌, take, sym, ap, ◌∙◌, arith, subst}
use Rattle.std.proofs.lemmas.Grind.{common_steps}
use Rattle.rgctx_words.specs.Stacks.{StackWords, IsStack, base_of, mem_of}
use Rattle.rgctx_words.specs.Memory.{beyond}
use Rattle.rgctx_words.proofs.MemoryLemmas.{memory, memory-take}
use Rattle.rgctx_words.proofs.StackLemmas.{is_stack-cut, end-below}
use Rattle.rgctx_words.proofs.stack.Stack.leave_to.Goals as goal

pub invariant_of-self : goal.invariant_of-self
invariant_of-self c =
    let s : StackWords = record { words = c.self.inside.words.items; bases = c.self.inside.bases.items } in
    let e : c.index.result.now ≡ base_of s (c.args.level + 1) = grind (arith, common_steps) in
    rw (c.truncate.ensures.items, c.truncate-then-kept-len.ensures.items) (subst (λ n. IsStack (record { words = take n s.words; bases = take (c.args.level + 1) s.bases })) (sym e) (is_stack-cut s c.args.level c.self.invariant (omega arith)))

pub returns-then-kept-len-clause-memory : goal.returns-then-kept-len-clause-memory
returns-then-kept-len-clause-memory c =
    let s : StackWords = record { words = c.self.inside.words.items; bases = c.self.inside.bases.items } in
    let e : c.index.result.now ≡ base_of s (c.args.level + 1) = grind (arith, common_steps) in
    rw (← c.self.view_is) (ap memory c.truncate.ensures.items ∙ memory-take s.words c.index.result.now ∙ ap (λ n. beyond n (λ j. 0) (mem_of s)) (e ∙ sym (end-below s c.args.level (omega arith))))
