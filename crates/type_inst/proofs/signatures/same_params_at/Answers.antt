use Rattle.std.proofs.Common.{◌≡◌, List, map, ap, ◌∙◌}
use Rattle.std.specs.Cmp.Lexicographic.{pointwise}
use Rattle.il_model.specs.declared.method.PType.{PType}
use Rattle.il_model.specs.Found.{same_param}
use Rattle.il_model.specs.Signatures.{param_at}
use Rattle.type_inst.proofs.EqualityLemmas.{same_answer}
use Rattle.type_inst.proofs.SignatureLemmas.{same_params-Decides}
use Rattle.type_inst.proofs.signatures.same_params_at.Goals as goal

pub returns : goal.returns
returns c =
    let a = c.as_slice.result.now in
    let b = c.as_slice-2.result.now in
    let first : a ≡ map (param_at c.args.kind.now) c.args.params.now = c.as_slice.ensures ∙ c.in_ok-first.ensures {u = tt} in
    let second : b ≡ map (param_at c.args.other_kind.now) c.args.others.now = c.as_slice-2.ensures ∙ c.in_ok-second.ensures {u = tt} in
    same_answer c.same_params.result (pointwise same_param a b) c.same_params.ensures (same_params-Decides a b)
    ∙ ap (λ (xs : List PType). pointwise same_param xs b) first
    ∙ ap (λ (ys : List PType). pointwise same_param (map (param_at c.args.kind.now) c.args.params.now) ys) second
