use Rattle.std.proofs.Common.{◌≡◌, ℕ, ◌+◌, ◌≤◌, ap, ◌∙◌, arith}
use Rattle.rgctx_words.specs.Stacks.{StackWords, mem_of}
use Rattle.crossings.specs.Copies.{copied}
use Rattle.crossings.proofs.CopyLemmas.{copied-step, length-with_word}
use Rattle.crossings.proofs.copying.copy_words.Goals as goal

pub loop-k-preserved : goal.loop-k-preserved
loop-k-preserved c =
    let apart : c.args.from + c.args.count ≤ c.args.to = c.requires.apart (omega (arith, c.loop-k-test.true)) in
    record {
      same_size = length-with_word c.loop-k.stack c.put.new.self (c.args.to + c.loop-k.k) c.word-word.result c.put.ensures.words ∙ c.loop-k.invariant.same_size;
      same_bases = ap (λ (s : StackWords). s.bases) c.put.ensures.words ∙ c.loop-k.invariant.same_bases;
      memory = copied-step c.args.stack.now c.loop-k.stack c.put.new.self c.args.from c.args.to c.loop-k.k c.word-word.result (omega (arith, apart, c.loop-k-test.true)) c.loop-k.invariant.memory c.word-word.ensures c.put.ensures.memory;
    }

pub returns-clause-memory : goal.returns-clause-memory
returns-clause-memory c =
    let e : c.loop-k.k ≡ c.args.count = omega (arith, c.loop-k-test.false, c.loop-k.auto.k-end) in
    c.loop-k.invariant.memory ∙ ap (λ (n : ℕ). copied c.args.to n (λ j. mem_of c.args.stack.now (c.args.from + j)) (mem_of c.args.stack.now)) e
