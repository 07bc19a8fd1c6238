use Rattle.std.proofs.lemmas.Bool.Decides.{same_from_decides}
use Rattle.type_tree.specs.Same.{is_same}
use Rattle.type_tree.proofs.SameLemmas.{is_same-Decides}
use Rattle.aot_image.proofs.decoding_picks.same_type.Goals as goal

pub returns : goal.returns
returns c = same_from_decides c.same.result (is_same c.args.kind.now c.args.other.now) c.same.ensures (is_same-Decides c.args.kind.now c.args.other.now)
