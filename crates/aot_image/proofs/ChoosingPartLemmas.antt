-- The parts of a text, and the first byte that passes a test.
use Rattle.std.proofs.Common.{◌≡◌, ◌∙◌, ℕ, suc, ◌+◌, Bool, true, false, not, cond, List, [], ◌∷◌, length, take, drop, refl, sym, ap, arith}
use Rattle.std.specs.Prelude.{if◌then◌else◌, ◌==◌}
use Rattle.std.specs.List.{position_or_len}
use Rattle.aot_image.specs.ChoosingParts.{with_first, parts_at, parts_behind}

module _ (mark : ℕ) where
  -- the parts are what stands before the first mark, and those behind it
  pub parts_at_is : (bytes : List ℕ) →
      parts_at mark bytes ≡ take (position_or_len (λ b. b == mark) bytes) bytes ∷ parts_behind mark (drop (position_or_len (λ b. b == mark) bytes) bytes)
  parts_at_is [] = refl
  parts_at_is (b ∷ bs) = by (b == mark) (parts_at_is bs)
    where
      by : (is : Bool) → parts_at mark bs ≡ take (position_or_len (λ b. b == mark) bs) bs ∷ parts_behind mark (drop (position_or_len (λ b. b == mark) bs) bs) →
          (if is then [] ∷ parts_at mark bs else with_first b (parts_at mark bs)) ≡
          take (cond (not is) (1 + position_or_len (λ b. b == mark) bs) 0) (b ∷ bs) ∷ parts_behind mark (drop (cond (not is) (1 + position_or_len (λ b. b == mark) bs) 0) (b ∷ bs))
      by true rest = refl
      by false rest =
          let count : 1 + position_or_len (λ b. b == mark) bs ≡ suc (position_or_len (λ b. b == mark) bs) = omega arith in
          ap (with_first b) rest ∙ ap (λ n. take n (b ∷ bs) ∷ parts_behind mark (drop n (b ∷ bs))) (sym count)

pub nothing_left : (bytes : List ℕ) → length bytes ≡ 0 → bytes ≡ []
nothing_left [] none = refl
nothing_left (b ∷ bs) none = absurd omega (arith, none)
