use Rattle.type_tree.specs.Same.{is_same}
use Rattle.type_tree.proofs.SameLemmas.{is_same-Decides}
use Rattle.type_inst.proofs.EqualityLemmas.{same_answer}
use Rattle.cil_verify.proofs.equality.is_same.Goals as goal

pub returns : goal.returns
returns c =
    same_answer c.same.result (is_same c.args.first.now c.args.second.now) c.same.ensures (is_same-Decides c.args.first.now c.args.second.now)
