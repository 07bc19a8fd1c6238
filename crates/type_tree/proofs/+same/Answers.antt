use Rattle.std.proofs.Common.{refl, arith}
use Rattle.std.proofs.lemmas.List.{same_lists}
use Rattle.type_tree.proofs.+same.Goals as goal

pub equality::same_all-returns : goal.equality::same_all-returns
equality::same_all-returns t c =
    (λ _. same_lists c.args.trees.now c.args.others.now (omega arith) (λ k d inside. c.loop-i.invariant k d (omega arith)), λ _. refl)
