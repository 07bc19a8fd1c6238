use Rattle.std.proofs.Common.{◌≡◌, vec_len}
use Rattle.rgctx_words.specs.Regions.{word_count}
use Rattle.rgctx_fill.proofs.tests.readers.words_of.Given as goal

abbrev pub invariant-loop-node : goal.invariant-loop-node
invariant-loop-node l = vec_len l.words ≡ word_count
