use Rattle.std.proofs.Common.{◌≡◌, ℕ, sym, ap, ◌∙◌}
use Rattle.rgctx_words.specs.Memory.{beyond}
use Rattle.rgctx_words.specs.Stacks.{mem_of, end_of, left_to}
use Rattle.crossings.proofs.ReturnLemmas.{same_level}
use Rattle.crossings.proofs.leaving.leave_to_frame.Goals as goal

pub returns-in-Some-clause-frames : goal.returns-in-Some-clause-frames
returns-in-Some-clause-frames c = λ level inside is.
    let e : level ≡ c.in-Some.level = same_level c.args.stack.now c.requires level c.in-Some.level inside c.in-Some.ensures.0 (is ∙ sym c.in-Some.ensures.1) in
    c.leave_to.ensures.frames ∙ ap (λ (n : ℕ). left_to c.args.stack.now n) (sym e)

pub returns-in-Some-clause-memory : goal.returns-in-Some-clause-memory
returns-in-Some-clause-memory c = λ level inside is.
    let e : level ≡ c.in-Some.level = same_level c.args.stack.now c.requires level c.in-Some.level inside c.in-Some.ensures.0 (is ∙ sym c.in-Some.ensures.1) in
    c.leave_to.ensures.memory ∙ ap (λ (n : ℕ). beyond (end_of c.args.stack.now n) (λ i. 0) (mem_of c.args.stack.now)) (sym e)
