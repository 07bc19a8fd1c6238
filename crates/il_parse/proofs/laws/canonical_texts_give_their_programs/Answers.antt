use Rattle.std.proofs.Common.{◌≡◌, Ok, refl, ap, ◌∙◌}
use Rattle.il_model.specs.declared.program.Program.{Program}
use Rattle.il_model.specs.Accepted.{IsOfText}
use Rattle.il_model.specs.Canonical.{canonical_text}
use Rattle.il_print.proofs.AgainProgram.{canonical_again}
use Rattle.il_parse.specs.declared.answer.Parsed.{Parsed}
use Rattle.il_parse.specs.Answer.{spots_of, Parses, IsAnswer}
use Rattle.il_parse.proofs.TextsNamed.{one_answer, parses_once, accepted_parses}
use Rattle.il_parse.proofs.laws.canonical_texts_give_their_programs.Goals as goal

gives : (p : Program) → IsOfText p → (a : Parsed) × IsAnswer (canonical_text p) (Ok a) × (a.program ≡ p)
gives p of =
    let again = canonical_again p of in
    let a : Parsed = record { program = p; spots = spots_of (canonical_text p) again.0 } in
    let parses : Parses (canonical_text p) (Ok a) = accepted_parses (canonical_text p) a (record { classes = again.0; is = again.1; spots = refl }) in
    (a, record { parses = parses; only = λ other too. parses_once (canonical_text p) other (Ok a) too parses }, refl)

prints : (p : Program) (a : Parsed) → IsOfText p → IsAnswer (canonical_text p) (Ok a) → canonical_text a.program ≡ canonical_text p
prints p a of answer =
    let given = gives p of in
    let same : a ≡ given.0 = one_answer a given.0 (given.1.only (Ok a) answer.parses) in
    ap (λ (x : Parsed). canonical_text x.program) same ∙ ap canonical_text given.2

pub returns : goal.returns
returns c = record { program = gives; bytes = prints }
