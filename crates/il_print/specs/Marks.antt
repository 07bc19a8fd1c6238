-- One mark for each place of a body. This project's own.
use Rattle.std.specs.Prelude.{ℕ, zero, suc, ◌+◌, Bool, true, List, [], ◌∷◌, fold, flat_map, slice_set, if◌then◌else◌}
use Rattle.il_model.specs.declared.method.Clause.{Clause}
use Rattle.il_model.specs.declared.op.Op.{Op}
use Rattle.il_model.specs.Ops.{operand_of}
use Rattle.il_model.specs.Canonical.{targets_of, ends_of}

-- the places that are marked, the first mark being that of this place
abbrev pub marked_from : ℕ → List Bool → List ℕ
marked_from from [] = []
marked_from from (m ∷ ms) = if m then from ∷ marked_from (from + 1) ms else marked_from (from + 1) ms

-- for each place, how many before it are marked, counted from this number on
abbrev pub ranks_from : ℕ → List Bool → List ℕ
ranks_from count [] = []
ranks_from count (m ∷ ms) = count ∷ ranks_from (if m then count + 1 else count) ms

-- so many places from this one on, marked where they pass the test
abbrev pub marks_by : (ℕ → Bool) → ℕ → ℕ → List Bool
marks_by test zero from = []
marks_by test (suc count) from = test from ∷ marks_by test count (from + 1)

-- with each of these places marked, where there is a mark for it
abbrev pub marked_at : List Bool → List ℕ → List Bool
marked_at marks places = fold (λ ms at. slice_set ms at true) marks places

-- the places that instructions name, and those that clauses name
abbrev pub targets_in : List Op → List ℕ
targets_in code = flat_map (λ op. targets_of (operand_of op)) code

abbrev pub ends_in : List Clause → List ℕ
ends_in clauses = flat_map ends_of clauses
