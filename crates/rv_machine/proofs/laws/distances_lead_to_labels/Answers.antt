use Rattle.rv_machine.proofs.JumpLemmas.{branch_target, jump_target, far_target}
use Rattle.rv_machine.proofs.laws.distances_lead_to_labels.Goals as goal

pub returns : goal.returns
returns c = record { branch = branch_target; jump = jump_target; far = far_target }
