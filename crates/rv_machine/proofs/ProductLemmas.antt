-- The product of two words read as signed numbers, in 128 bits.
use Rattle.std.proofs.Common.{◌≡◌, ℕ, ◌≤◌, ℤ, pos, negsuc, ◌*ℤ◌, w64, FitsSigned, to_z, of_z, arith, ◌∙◌, ap, lit<}
use Rattle.std.specs.Int.{w128}
use Rattle.std.specs.Int.RustNames.{unsigned_abs}
use Rattle.std.proofs.lemmas.Int.{to_z-of_z, fits_signed_mul}

fits_widely : (x : ℤ) → FitsSigned w64 x → FitsSigned w128 x
fits_widely x f = record { sfits = omega arith }

abs_bound : (x : ℤ) → FitsSigned w64 x → unsigned_abs x ≤ 9223372036854775808
abs_bound (pos n) f = let h = f.sfits in omega arith
abs_bound (negsuc n) f = let h = f.sfits in omega arith

product_fits : (x y : ℤ) → FitsSigned w64 x → FitsSigned w64 y → FitsSigned w128 (x *ℤ y)
product_fits x y f g =
    fits_signed_mul w128 x y 9223372036854775808 9223372036854775808 (abs_bound x f) (abs_bound y g) (lit< tt)

same_64 : (x x' : ℤ) → FitsSigned w64 x → x' ≡ to_z w64 (of_z w64 x) → x' ≡ x
same_64 x x' f e = e ∙ to_z-of_z w64 x f

same_128 : (x : ℤ) → FitsSigned w128 x → to_z w128 (of_z w128 x) ≡ x
same_128 x f = to_z-of_z w128 x f

plain_product : (x y : ℤ) → FitsSigned w64 x → FitsSigned w64 y
    → of_z w128 (to_z w128 (of_z w128 (to_z w128 (of_z w128 x) *ℤ to_z w128 (of_z w128 y)))) ≡ of_z w128 (x *ℤ y)
plain_product x y f g =
    ap (λ (p : ℤ). of_z w128 (to_z w128 (of_z w128 (p *ℤ to_z w128 (of_z w128 y))))) (same_128 x (fits_widely x f))
    ∙ ap (λ (p : ℤ). of_z w128 (to_z w128 (of_z w128 (x *ℤ p)))) (same_128 y (fits_widely y g))
    ∙ ap (of_z w128) (same_128 (x *ℤ y) (product_fits x y f g))

-- what the code's product of two widened numbers is
pub widened_product : (x y x' y' : ℤ) (r : ℕ) → FitsSigned w64 x → FitsSigned w64 y → x' ≡ to_z w64 (of_z w64 x) → y' ≡ to_z w64 (of_z w64 y)
    → r ≡ of_z w128 (to_z w128 (of_z w128 (to_z w128 (of_z w128 x') *ℤ to_z w128 (of_z w128 y')))) → r ≡ of_z w128 (x *ℤ y)
widened_product x y x' y' r f g ex ey e =
    e ∙ ap (λ (p : ℤ). of_z w128 (to_z w128 (of_z w128 (to_z w128 (of_z w128 p) *ℤ to_z w128 (of_z w128 y'))))) (same_64 x x' f ex)
    ∙ ap (λ (p : ℤ). of_z w128 (to_z w128 (of_z w128 (to_z w128 (of_z w128 x) *ℤ to_z w128 (of_z w128 p))))) (same_64 y y' g ey)
    ∙ plain_product x y f g
