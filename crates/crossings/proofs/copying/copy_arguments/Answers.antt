use Rattle.std.proofs.Common.{◌≡◌, ℕ, ◌+◌, ◌≤◌, ap, ◌∙◌, arith, length}
use Rattle.std.specs.Prelude.{slice_index}
use Rattle.rgctx_words.specs.Stacks.{mem_of}
use Rattle.crossings.specs.Copies.{index_at, copied}
use Rattle.crossings.proofs.ArrivalLemmas.{Copying, apart, copied_argument}
use Rattle.crossings.proofs.copying.copy_arguments.Goals as goal

pub copy_words-requires-clause-apart : goal.copy_words-requires-clause-apart
copy_words-requires-clause-apart c = λ some.
    let room : c.args.base ≤ length c.args.stack.now.words = omega (arith, c.requires.room) in
    let copying : Copying c.args.stack.now c.loop-number.stack c.args.base c.args.list c.args.widths.now c.loop-number.number =
    record { room = room; size = c.loop-number.invariant.same_size; listed = c.requires.listed; left = omega (arith, c.loop-number-test.true); memory = c.loop-number.invariant.memory } in
    let read : c.word-address.result ≡ mem_of c.loop-number.stack (index_at c.args.stack.now.words c.args.list + c.loop-number.number) =
    c.word-address.ensures ∙ ap (λ (k : ℕ). mem_of c.loop-number.stack (k + c.loop-number.number)) c.index_at-first.ensures in
    let low : c.index_at-from.result + slice_index c.args.widths.now c.loop-number.number ≤ c.args.base =
    apart c.args.stack.now c.loop-number.stack c.args.base c.args.list c.args.widths.now c.loop-number.number copying c.word-address.result c.index_at-from.result read c.index_at-from.ensures some in
    omega (arith, low)

pub loop-number-preserved : goal.loop-number-preserved
loop-number-preserved c =
    let room : c.args.base ≤ length c.args.stack.now.words = omega (arith, c.requires.room) in
    let copying : Copying c.args.stack.now c.loop-number.stack c.args.base c.args.list c.args.widths.now c.loop-number.number =
    record { room = room; size = c.loop-number.invariant.same_size; listed = c.requires.listed; left = omega (arith, c.loop-number-test.true); memory = c.loop-number.invariant.memory } in
    let read : c.word-address.result ≡ mem_of c.loop-number.stack (index_at c.args.stack.now.words c.args.list + c.loop-number.number) =
    c.word-address.ensures ∙ ap (λ (k : ℕ). mem_of c.loop-number.stack (k + c.loop-number.number)) c.index_at-first.ensures in
    let wide : slice_index c.args.widths.now c.loop-number.number ≤ 16 = c.requires.widths.each c.loop-number.number copying.left in
    record {
      same_size = c.copy_words.ensures.size ∙ c.loop-number.invariant.same_size;
      same_bases = c.copy_words.ensures.bases ∙ c.loop-number.invariant.same_bases;
      memory = copied_argument c.args.stack.now c.loop-number.stack c.copy_words.new.stack c.args.base c.args.list c.args.widths.now c.loop-number.number copying c.word-address.result c.index_at-from.result read c.index_at-from.ensures wide
          (c.copy_words.ensures.memory
          ∙ ap (λ (o : ℕ). copied (c.args.base + o) (slice_index c.args.widths.now c.loop-number.number) (λ j. mem_of c.loop-number.stack (c.index_at-from.result + j)) (mem_of c.loop-number.stack)) c.place_offset.ensures);
    }
