use Rattle.std.proofs.Common.{◌≡◌, sym, subst, rules}
use Rattle.il_model.specs.Canonical.{canonical_text}
use Rattle.il_print.specs.Accepted.{IsTextOf}
use Rattle.il_print.proofs.AgainProgram.{canonical_again}
use Rattle.il_print.proofs.printing.print.Goals as goal

pub returns-clause-accepted : goal.returns-clause-accepted
returns-clause-accepted c =
    let is : c.into_bytes.result.items ≡ canonical_text c.args.program.now = search rules in
    λ given. subst (λ bytes. IsTextOf bytes c.args.program.now) (sym is) (canonical_again c.args.program.now given)
