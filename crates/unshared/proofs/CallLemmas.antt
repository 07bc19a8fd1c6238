-- What a slot of an interface's method needs.
use Rattle.std.proofs.Common.{◌≡◌, ◌==◌, ℕ, ◌<◌, List, length, Option, Some, None}
use Rattle.std.specs.Prelude.{position, IfSome}
use Rattle.std.proofs.lemmas.List.Quantifiers.{position-Some}
use Rattle.type_tree.specs.declared.tree.TExpr.{TExpr}
use Rattle.il_model.specs.declared.program.Program.{Program}
use Rattle.il_model.specs.ClassRules.{EachClass, OfClass, HasFewSlots}

pub few_slots : (p : Program) (t : TExpr) → EachClass HasFewSlots p → OfClass HasFewSlots p t
few_slots p t all = record { rule = λ number c named there. all.each number c there }

pub among_own : (numbers : List ℕ) (number i : ℕ) → position (λ own. own == number) numbers ≡ Some i → i < length numbers
among_own numbers number i e = (position-Some (λ own. own == number) numbers i 0 e).0

pub if_among : (o : Option ℕ) (i n : ℕ) → i < n → IfSome o (λ number. i < n)
if_among None i n less = tt
if_among (Some number) i n less = less
