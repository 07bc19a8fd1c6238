use Rattle.std.proofs.Common.{◌-◌, length, ap, ◌∙◌}
use Rattle.std.specs.Prelude.{slice_index}
use Rattle.rgctx_words.specs.Regions.{word_count}
use Rattle.rgctx_words.proofs.MemoryLemmas.{memory-append_zeros}
use Rattle.rgctx_fill.proofs.beginning.padded.Goals as goal

pub returns-clause-words : goal.returns-clause-words
returns-clause-words c i = ap (λ words. slice_index words i) c.in_ok-words.ensures.words ∙ ap (λ mem. mem i) (memory-append_zeros c.args.first.now (word_count - length c.args.first.now))
