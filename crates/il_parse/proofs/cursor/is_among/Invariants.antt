use Rattle.std.proofs.Common.{◌≡◌, map, length}
use Rattle.il_model.specs.Lexemes.{is_among}
use Rattle.il_parse.proofs.cursor.is_among.Given as goal

abbrev pub invariant-loop-words : goal.invariant-loop-words
invariant-loop-words l = is_among (map (λ w. w.now) l.fn.words) l.word ≡ is_among (map (λ w. w.now) l.words) l.word

abbrev pub decreases-loop-words : goal.decreases-loop-words
decreases-loop-words l = length l.words
