use Rattle.std.proofs.Common.{refl}
use Rattle.image_cases.proofs.fills.check_fills.Goals as goal

pub opening_words-requires-clause-main : goal.opening_words-requires-clause-main
opening_words-requires-clause-main g c = c.requires.catalogue.main

pub loop-entry-init : goal.loop-entry-init
loop-entry-init g c = c.in_ok-words.ensures.fit c.args.cat.now refl
