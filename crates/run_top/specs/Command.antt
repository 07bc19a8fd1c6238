-- The words of the commands. This project's own.
use Rattle.std.specs.Prelude.{◌≡◌, ◌≢◌, ◌≤◌, ℕ, List, [], ◌∷◌, codes}
use Rattle.std.specs.Fmt.{decimal}
use Rattle.run_top.specs.declared.command.Task.{Task}
use Rattle.run_top.specs.declared.command.Task.TheVariants.{Check, Exec, Mean}

-- a word that is a file's: it isn't empty and doesn't begin with a minus
abbrev pub IsPlainWord : List ℕ → Type 0
IsPlainWord [] = ⊥
IsPlainWord (b ∷ bs) = b ≢ 45

-- a number of turns in decimal digits, without a leading zero
pub record SpellsTurns (word : List ℕ) (turns : ℕ) : Type 0 where
  pub digits : word ≡ decimal turns
  pub low : 1 ≤ turns
  pub high : turns ≤ 4000000

-- `exec F @all 0 TURNS`: five words, those of the command, the file, the choice of all bodies, the seed and the turns
pub record IsExec (words : List (List ℕ)) (name : List ℕ) (turns : ℕ) : Type 0 where
  pub words_are : words ≡ codes "exec" ∷ name ∷ codes "@all" ∷ codes "0" ∷ decimal turns ∷ []
  pub plain : IsPlainWord name
  pub low : 1 ≤ turns
  pub high : turns ≤ 4000000

-- `check F`: two words
pub record IsCheck (words : List (List ℕ)) (name : List ℕ) : Type 0 where
  pub words_are : words ≡ codes "check" ∷ name ∷ []
  pub plain : IsPlainWord name

-- `mean F 0 TURNS`: four words, those of the command, the file, the seed and the turns
pub record IsMean (words : List (List ℕ)) (name : List ℕ) (turns : ℕ) : Type 0 where
  pub words_are : words ≡ codes "mean" ∷ name ∷ codes "0" ∷ decimal turns ∷ []
  pub plain : IsPlainWord name
  pub low : 1 ≤ turns
  pub high : turns ≤ 4000000

-- a command on this file, which does so with its program
abbrev pub IsCommand : List (List ℕ) → List ℕ → Task → Type 0
IsCommand words name Check = IsCheck words name
IsCommand words name (Exec turns) = IsExec words name turns
IsCommand words name (Mean turns) = IsMean words name turns

-- the words are no command
abbrev pub IsUsage : List (List ℕ) → Type 0
IsUsage words = (name : List ℕ) (task : Task) → ¬ IsCommand words name task
