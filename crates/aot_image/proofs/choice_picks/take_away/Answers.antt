use Rattle.std.proofs.Common.{◌+◌, List, ℕ, ap, arith}
use Rattle.aot_image.specs.ChoosingRounds.{round_of}
use Rattle.aot_image.proofs.ChoosingPickLemmas.{taken_is, taken_keeps}
use Rattle.aot_image.proofs.choice_picks.take_away.Goals as goal

pub returns-clause-live : goal.returns-clause-live
returns-clause-live c =
    taken_is c.args.picks.now.rounds.items c.args.method (c.round_of-round.result + 1) c.requires.within (omega (arith, c.round_of-round.ensures, ap (λ (rs : List ℕ). round_of rs c.args.method) c.as_slice.ensures.value))
    c.args.picks.now.entries.keys c.requires.kept

pub returns-clause-kept : goal.returns-clause-kept
returns-clause-kept c =
    taken_keeps c.args.picks.now.rounds.items c.args.method (c.round_of-round.result + 1) c.requires.within (omega (arith, c.round_of-round.ensures, ap (λ (rs : List ℕ). round_of rs c.args.method) c.as_slice.ensures.value))
    c.args.picks.now.entries.keys c.requires.kept
