-- The word with another piece is a word.
use Rattle.std.proofs.Common.{◌≡◌, ℕ, zero, suc, ◌+◌, ◌-◌, ◌*◌, ◌/◌, ◌%◌, ◌^◌, ◌<◌, inl, inr, refl, sym, subst, arith}
use Rattle.thread_core.specs.Memory.{IsPart}

-- what is shifted stays below 2^64, and so does the word with a new piece
pub record Put (s m word new : ℕ) : Type 0 where
  pub old : (word / s % m * s) % 2 ^ 64 ≡ word / s % m * s
  pub put : (new * s) % 2 ^ 64 ≡ new * s
  pub fits : word - word / s % m * s + new * s < 2 ^ 64

abbrev Puts : ℕ → ℕ → ℕ → ℕ → Type 0
Puts b k word new = k < 8 / b → new < 2 ^ (8 * b) → word < 2 ^ 64 → (8 * b * k % 64 ≡ 8 * b * k) × Put (2 ^ (8 * b * k)) (2 ^ (8 * b)) word new

puts_one : (k word new : ℕ) → Puts 1 k word new
puts_one zero word new low n w = (refl, record { old = omega arith; put = omega arith; fits = omega arith })
puts_one (suc zero) word new low n w = (refl, record { old = omega arith; put = omega arith; fits = omega arith })
puts_one (suc (suc zero)) word new low n w = (refl, record { old = omega arith; put = omega arith; fits = omega arith })
puts_one (suc (suc (suc zero))) word new low n w = (refl, record { old = omega arith; put = omega arith; fits = omega arith })
puts_one (suc (suc (suc (suc zero)))) word new low n w = (refl, record { old = omega arith; put = omega arith; fits = omega arith })
puts_one (suc (suc (suc (suc (suc zero))))) word new low n w = (refl, record { old = omega arith; put = omega arith; fits = omega arith })
puts_one (suc (suc (suc (suc (suc (suc zero)))))) word new low n w = (refl, record { old = omega arith; put = omega arith; fits = omega arith })
puts_one (suc (suc (suc (suc (suc (suc (suc zero))))))) word new low n w = (refl, record { old = omega arith; put = omega arith; fits = omega arith })
puts_one (suc (suc (suc (suc (suc (suc (suc (suc k)))))))) word new low n w = absurd (omega arith)

puts_two : (k word new : ℕ) → Puts 2 k word new
puts_two zero word new low n w = (refl, record { old = omega arith; put = omega arith; fits = omega arith })
puts_two (suc zero) word new low n w = (refl, record { old = omega arith; put = omega arith; fits = omega arith })
puts_two (suc (suc zero)) word new low n w = (refl, record { old = omega arith; put = omega arith; fits = omega arith })
puts_two (suc (suc (suc zero))) word new low n w = (refl, record { old = omega arith; put = omega arith; fits = omega arith })
puts_two (suc (suc (suc (suc k)))) word new low n w = absurd (omega arith)

puts_four : (k word new : ℕ) → Puts 4 k word new
puts_four zero word new low n w = (refl, record { old = omega arith; put = omega arith; fits = omega arith })
puts_four (suc zero) word new low n w = (refl, record { old = omega arith; put = omega arith; fits = omega arith })
puts_four (suc (suc k)) word new low n w = absurd (omega arith)

pub puts : (b k word new : ℕ) → IsPart b → Puts b k word new
puts b k word new (inl e) = subst (λ n. Puts n k word new) (sym e) (puts_one k word new)
puts b k word new (inr (inl e)) = subst (λ n. Puts n k word new) (sym e) (puts_two k word new)
puts b k word new (inr (inr e)) = subst (λ n. Puts n k word new) (sym e) (puts_four k word new)
