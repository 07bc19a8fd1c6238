use Rattle.std.proofs.Common.{refl, arith}
use Rattle.std.proofs.lemmas.List.{same_lists}
use Rattle.il_model.proofs.find.same_params.Goals as goal

pub returns : goal.returns
returns c =
    (λ _. same_lists c.args.first.now c.args.second.now (omega arith) (λ k d inside. c.loop-i.invariant k d (omega arith)), λ _. refl)
