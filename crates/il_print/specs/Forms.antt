-- An instruction's bytes before and behind its operand. This project's own.
use Rattle.std.specs.Prelude.{Bool, true, false, [], ◌∷◌, codes}
use Rattle.il_model.specs.Forms.{FormWord, word, library_call, no_text}
use Rattle.il_model.specs.Canonical.{Word, spaced, spaced_after}

abbrev pub is_spelled : FormWord → Bool
is_spelled (word w) = true
is_spelled (library_call first last) = true
is_spelled no_text = false

abbrev pub text_before : FormWord → Word
text_before (word w) = w
text_before (library_call first last) = spaced (codes "call" ∷ first)
text_before no_text = []

abbrev pub text_behind : FormWord → Word
text_behind (word w) = []
text_behind (library_call first last) = spaced_after last
text_behind no_text = []
