use Rattle.std.proofs.Common.{rules, ◌≡◌, ◌≢◌, length, sym, subst}
use Rattle.std.specs.Prelude.{slice_index}
use Rattle.rgctx_words.specs.Regions.{word_count}
use Rattle.rgctx_words.specs.Held.{AreFit}
use Rattle.rgctx_words.proofs.tests.words.plain_answers.Goals as goal

pub answers-requires : goal.answers-requires
answers-requires c =
    let count : length c.args.words.items ≡ word_count = search rules in
    record { met = (0, subst (AreFit (λ words. slice_index words 0 ≢ 0)) (sym c.of-plain.ensures) (record { count = count; fits = c.requires.first })) }
