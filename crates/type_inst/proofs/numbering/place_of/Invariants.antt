use Rattle.std.proofs.Common.{◌≡◌, ◌+◌, drop}
use Rattle.std.specs.List.{position_or_len}
use Rattle.type_tree.specs.Same.{is_same}
use Rattle.il_model.specs.Bases.{with_args_of}
use Rattle.type_inst.proofs.numbering.place_of.Given as goal

abbrev pub invariant-loop-i : goal.invariant-loop-i
invariant-loop-i l =
    position_or_len (λ each. is_same (with_args_of l.exact each) l.interface) l.listed ≡ l.i + position_or_len (λ each. is_same (with_args_of l.exact each) l.interface) (drop l.i l.listed)
