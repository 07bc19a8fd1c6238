-- What the pass over a body keeps: with which depth an earlier instruction went on to each one, and the depths so far. This project's own.
use Rattle.std.specs.Prelude.{◌≡◌, ℕ, ◌<◌, ◌≤◌, ◌==◌, nat_le, nat_lt, Bool, not, ◌&&◌, ◌||◌, if◌then◌else◌, List, length, slice_index, slice_index_or, Option, Some, None, unwrap_or, is_none}
use Rattle.std.specs.Option.{option_or}
use Rattle.std.specs.List.{list_any}
use Rattle.il_model.specs.declared.method.Clause.{Clause}
use Rattle.il_model.specs.declared.method.Body.{Body}
use Rattle.il_model.specs.declared.op.Op.{Op}
use Rattle.cil_flow.specs.Regions.{begins_try, begins_handler}
use Rattle.cil_flow.specs.Depths.{first_arrival, depths_of, goes_on_to}

-- with which depth an instruction went on to this one, so far as is known
abbrev pub known : List (Option ℕ) → ℕ → Option ℕ
known arrived to = slice_index_or arrived to None

-- before the instruction with this number, the list has for each one the first arrival from those judged so far
pub record Knows (has_result : Bool) (body : Body) (at : ℕ) (arrived : List (Option ℕ)) : Type 0 where
  pub size : length arrived ≡ length body.code
  pub ahead : (j : ℕ) → at ≤ j → j < length body.code →
      known arrived j ≡ first_arrival has_result body.code (depths_of has_result body) j at
  pub behind : (j : ℕ) → j < at → known arrived j ≡ first_arrival has_result body.code (depths_of has_result body) j j

-- the depth at an instruction to which the one at this number goes on with so many values
abbrev pub expected : List Clause → List (Option ℕ) → List ℕ → ℕ → ℕ → ℕ → ℕ
expected cs arrived depths at left to =
    if nat_le to at then slice_index depths to else (if begins_handler cs to then 1 else unwrap_or (known arrived to) left)

-- whether a rule on the depth is broken there
abbrev pub clashes : List Clause → List (Option ℕ) → List ℕ → ℕ → ℕ → ℕ → Bool
clashes cs arrived depths at left to =
    not (expected cs arrived depths at left to == left) ||
    not (left == 0) && (begins_try cs to || nat_le to at && is_none (known arrived to))

-- what is known of an instruction after the one at this number went on to that one with so many values
abbrev pub noted : List (Option ℕ) → ℕ → ℕ → ℕ → ℕ → Option ℕ
noted arrived at left to j = if nat_lt at j && (to == j) then option_or (known arrived j) (Some left) else known arrived j

-- what is known of an instruction after the one at this number went on to each of these with so many values
abbrev pub noted_among : List (Option ℕ) → ℕ → ℕ → List ℕ → ℕ → Option ℕ
noted_among arrived at left to j = if nat_lt at j && list_any (λ k. k == j) to then option_or (known arrived j) (Some left) else known arrived j

-- what is known of an instruction after this one went on
abbrev pub noted_by : List (Option ℕ) → Op → ℕ → ℕ → ℕ → Option ℕ
noted_by arrived i at left j = if nat_lt at j && goes_on_to i at j then option_or (known arrived j) (Some left) else known arrived j
