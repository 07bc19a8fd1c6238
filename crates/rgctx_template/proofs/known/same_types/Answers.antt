use Rattle.std.proofs.Common.{refl}
use Rattle.std.specs.Cmp.Lexicographic.{pointwise}
use Rattle.std.proofs.lemmas.Bool.Decides.{same_from_decides}
use Rattle.std.proofs.lemmas.Slice.Eq.{slice_eq-Decides}
use Rattle.type_tree.specs.Same.{is_same}
use Rattle.type_tree.proofs.SameLemmas.{is_same-Decides}
use Rattle.rgctx_template.proofs.known.same_types.Goals as goal

pub returns : goal.returns
returns c =
    same_from_decides c.same_all.result (pointwise is_same c.args.kinds.now c.args.others.now) c.same_all.ensures
    (slice_eq-Decides is_same-Decides c.args.kinds.now c.args.others.now (pointwise is_same c.args.kinds.now c.args.others.now) refl)
