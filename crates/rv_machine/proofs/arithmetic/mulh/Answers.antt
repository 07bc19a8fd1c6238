use Rattle.std.proofs.Common.{rules, ◌≡◌, ◌/◌, ◌*ℤ◌, ℤ, w64, FitsSigned, to_z, of_z, ap, ◌∙◌}
use Rattle.std.specs.Int.{w128}
use Rattle.rv_machine.proofs.ProductLemmas.{widened_product}
use Rattle.rv_machine.proofs.arithmetic.mulh.Goals as goal

pub returns : goal.returns
returns c =
    let f : FitsSigned w64 c.cast_signed.result = search rules in
    let g : FitsSigned w64 c.cast_signed-2.result = search rules in
    let e : c.cast_unsigned.result ≡ of_z w128 (c.cast_signed.result *ℤ c.cast_signed-2.result) =
    widened_product _ _ _ _ _ f g c.from.ensures c.from-2.ensures c.cast_unsigned.ensures in
    ap (λ n. n / 18446744073709551616)
    (e ∙ ap (λ (p : ℤ). of_z w128 (p *ℤ c.cast_signed-2.result)) c.cast_signed.ensures
    ∙ ap (λ (p : ℤ). of_z w128 (to_z w64 c.args.a *ℤ p)) c.cast_signed-2.ensures)
