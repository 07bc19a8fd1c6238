-- What a loop that counts its turns up has still to do, as a number that counts down.
use Rattle.std.proofs.Common.{◌≡◌, ℕ, suc, ◌+◌, ◌-◌, ◌<◌, ◌≤◌, ap, ◌∙◌, arith}

-- in a turn: one turn, and those behind it
pub turn_left : {X : Type 0} {whole : X} (rest : ℕ → X) (turns at : ℕ) → at < turns → whole ≡ rest (turns - at) → whole ≡ rest (suc (turns - (at + 1)))
turn_left rest turns at below kept = let count : turns - at ≡ suc (turns - (at + 1)) = omega arith in kept ∙ ap rest count

-- behind the last turn
pub none_left : {X : Type 0} {whole : X} (rest : ℕ → X) (turns at : ℕ) → turns ≤ at → whole ≡ rest (turns - at) → whole ≡ rest 0
none_left rest turns at past kept = let count : turns - at ≡ 0 = omega arith in kept ∙ ap rest count
