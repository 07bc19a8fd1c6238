-- Tests that decide one fact give one answer.
use Rattle.std.proofs.Common.{◌≡◌, Bool, true, false, IsTrue, ◌↔◌, refl}
use Rattle.std.specs.Bool.{Decides}

pub same_answer : {P : Type 0} (a b : Bool) → (IsTrue a ↔ P) → Decides b P → a ≡ b
same_answer true true f d = refl
same_answer true false f d = let no : false ≡ true = d.1 (f.0 refl) in cc
same_answer false true f d = f.1 (d.0 refl)
same_answer false false f d = refl
