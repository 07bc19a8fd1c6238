use Rattle.std.proofs.Common.{◌≡◌, ◌+◌, true, false, map, drop, ap, sym, ◌∙◌, rules, arith}
use Rattle.std.proofs.lemmas.Grind.{common_steps}
use Rattle.il_model.specs.Instructions.{plain_words}
use Rattle.il_parse.specs.Mnemonics.{same_words}
use Rattle.il_parse.proofs.CallLemmas.{same_stop, same_next}
use Rattle.il_parse.proofs.calls.spells.Goals as goal

pub returns-then-not-sees_plain : goal.returns-then-not-sees_plain
returns-then-not-sees_plain c =
    let miss : c.sees_plain.result ≡ false = first_of (search rules, grind (arith, common_steps)) in
    sym (c.loop-word.invariant ∙ same_stop (λ w. w.now) c.args.words.now c.loop-word.word-index _ c.loop-word.rest c.loop-word-test.true (sym c.sees_plain.ensures ∙ miss))

pub loop-word-preserved : goal.loop-word-preserved
loop-word-preserved c =
    let hit : c.sees_plain.result ≡ true = first_of (search rules, grind (arith, common_steps)) in
    c.loop-word.invariant ∙ same_next (λ w. w.now) c.args.words.now c.loop-word.word-index _ c.loop-word.rest c.loop-word-test.true (sym c.sees_plain.ensures ∙ hit)
    ∙ ap (λ r. same_words (map (λ w. w.now) (drop (c.loop-word.word-index + 1) c.args.words.now)) (plain_words r)) (sym c.advance.ensures)
