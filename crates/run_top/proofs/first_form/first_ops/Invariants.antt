use Rattle.std.proofs.Common.{◌≡◌, drop}
use Rattle.run_top.specs.FirstForm.{ops_of}
use Rattle.run_top.proofs.FormLemmas.{behind}
use Rattle.run_top.proofs.first_form.first_ops.Given as goal

abbrev pub invariant-loop-op : goal.invariant-loop-op
invariant-loop-op l = behind l.ops.items (ops_of (drop l.op-index l.code)) ≡ ops_of l.code
