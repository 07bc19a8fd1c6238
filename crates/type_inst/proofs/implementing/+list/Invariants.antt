use Rattle.std.proofs.Common.{◌≡◌, ◌+◌, ◌*◌, fold, take}
use Rattle.il_model.specs.Interfaces.{own_interfaces_of}
use Rattle.type_inst.specs.Listing.{listed_one}
use Rattle.type_inst.proofs.implementing.+list.Given as goal

abbrev pub decreases-list : goal.decreases-list
decreases-list l = 3 * l.levels

abbrev pub decreases-list_base : goal.decreases-list_base
decreases-list_base l = 3 * l.levels + 1

abbrev pub decreases-list_own : goal.decreases-list_own
decreases-list_own l = 3 * l.levels + 2

abbrev pub decreases-list_one : goal.decreases-list_one
decreases-list_one l = 3 * l.levels + 1

abbrev pub invariant-list_own-loop-named : goal.invariant-list_own-loop-named
invariant-list_own-loop-named l = l.all ≡ fold (listed_one l.program l.levels) l.initial.all (take l.named-index (own_interfaces_of l.program l.kind))
