use Rattle.std.proofs.Common.{◌≡◌, false, true, refl, arith}
use Rattle.run_top.proofs.SpelledLemmas.{spelled-begins, spelled-reads, reads-spelled, ok_same}
use Rattle.run_top.proofs.command.turns_of.Goals as goal

pub returns-then-not-begins_number-clause-none : goal.returns-then-not-begins_number-clause-none
returns-then-not-begins_number-clause-none c = λ turns spells.
    let yes : false ≡ true = (c.if-not-begins_number.ensures {u = tt}).1 (spelled-begins _ turns spells) in
    cc

pub returns-in_default-clause-none : goal.returns-in_default-clause-none
returns-in_default-clause-none c = λ turns spells. c.in_default.not-Ok turns (spelled-reads _ turns _ spells c.parse.ensures.value.0)

pub returns-then-turns-gt-MOST_TURNS-clause-none : goal.returns-then-turns-gt-MOST_TURNS-clause-none
returns-then-turns-gt-MOST_TURNS-clause-none c = λ turns spells.
    let same : c.in-Ok.turns ≡ turns = ok_same _ _ _ c.in-Ok.is (spelled-reads _ turns _ spells c.parse.ensures.value.0) in
    omega (arith, same, spells.high, c.if-turns-gt-MOST_TURNS.true)

pub returns-clause-some : goal.returns-clause-some
returns-clause-some c =
    let begins = (c.if-not-begins_number.ensures {u = tt}).0 refl in
    reads-spelled _ c.in-Ok.turns _ begins.0 (omega (arith, c.if-turns-gt-MOST_TURNS.false)) c.parse.ensures.value.0 c.in-Ok.is
