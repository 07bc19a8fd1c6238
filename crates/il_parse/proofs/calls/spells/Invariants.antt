use Rattle.std.proofs.Common.{◌≡◌, map, drop}
use Rattle.il_model.specs.Instructions.{plain_words}
use Rattle.il_parse.specs.Mnemonics.{same_words}
use Rattle.il_parse.proofs.calls.spells.Given as goal

abbrev pub invariant-loop-word : goal.invariant-loop-word
invariant-loop-word l = same_words (map (λ w. w.now) l.words) (plain_words l.cursor) ≡ same_words (map (λ w. w.now) (drop l.word-index l.words)) (plain_words l.rest)
