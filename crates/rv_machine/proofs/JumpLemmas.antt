-- Where the assembler's distances lead.
use Rattle.std.proofs.Common.{◌≡◌, ℕ, ◌+◌, ◌*◌, ◌/◌, ◌%◌, ◌<◌, ◌≤◌, arith}
use Rattle.rv_isa.specs.Assembly.{distance}
use Rattle.rv_machine.specs.Arithmetic.{extended, sum_of}
use Rattle.rv_machine.specs.Effect.{even}

pub branch_target : (from to : ℕ) → from ≤ 268435456 → to ≤ 268435456 → from ≤ to + 1024 → to < from + 1024
    → sum_of (65536 + 4 * from) (extended 13 (distance from to % 8192)) ≡ 65536 + 4 * to
branch_target from to a b c d = grind arith

pub jump_target : (from to : ℕ) → from ≤ 268435456 → to ≤ 268435456 → from ≤ to + 262144 → to < from + 262144
    → sum_of (65536 + 4 * from) (extended 21 (distance from to % 2097152)) ≡ 65536 + 4 * to
jump_target from to a b c d = grind arith

pub far_target : (from to : ℕ) → from ≤ 268435456 → to ≤ 268435456
    → even (sum_of (sum_of (65536 + 4 * from) (extended 32 (4096 * ((distance from to + 2048) / 4096 % 1048576)))) (extended 12 (distance from to % 4096)))
    ≡ 65536 + 4 * to
far_target from to a b = grind arith
