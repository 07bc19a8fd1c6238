use Rattle.std.proofs.Common.{◌≡◌, false, nat_lt, take}
use Rattle.std.specs.List.{list_any}
use Rattle.type_inst.proofs.admission.has_more.Given as goal

abbrev pub invariant-loop-word : goal.invariant-loop-word
invariant-loop-word l = list_any (nat_lt l.most) (take l.word-index l.words) ≡ false
