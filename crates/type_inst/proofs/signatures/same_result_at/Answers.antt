use Rattle.std.proofs.Common.{Option, option_map, ap, ◌∙◌}
use Rattle.type_tree.specs.declared.tree.TExpr.{TExpr}
use Rattle.il_model.specs.Bases.{with_args_of}
use Rattle.il_model.specs.Found.{same_result}
use Rattle.type_inst.proofs.EqualityLemmas.{same_answer}
use Rattle.type_inst.proofs.SignatureLemmas.{same_result-Decides}
use Rattle.type_inst.proofs.signatures.same_result_at.Goals as goal

pub returns : goal.returns
returns c =
    let a = c.in_ok-first.first in
    let b = c.in_ok-second.second in
    same_answer c.same_result.result (same_result a b) c.same_result.ensures (same_result-Decides a b)
    ∙ ap (λ (x : Option TExpr). same_result x b) (c.in_ok-first.ensures {u = tt})
    ∙ ap (λ (y : Option TExpr). same_result (option_map (with_args_of c.args.kind.now) c.args.gives.now) y) (c.in_ok-second.ensures {u = tt})
