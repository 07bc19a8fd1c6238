use Rattle.std.proofs.Common.{◌+◌, length, ap, ◌∙◌}
use Rattle.il_model.specs.Canonical.{is_named}
use Rattle.il_print.specs.Marks.{marked_from}
use Rattle.il_print.proofs.MarkLemmas.{marked_by}
use Rattle.il_print.proofs.labels.Labels.of.Goals as goal

pub returns : goal.returns
returns c = ap (marked_from 0) c.in_ok-marks.ensures ∙ marked_by (is_named c.args.body.now) (length c.args.body.now.code + 1) 0
