use Rattle.std.proofs.Common.{◌≡◌, drop}
use Rattle.il_parse.specs.Looking.{each_of, each_from}
use Rattle.il_parse.specs.NamedBodies.{label_named}
use Rattle.il_parse.proofs.named_lines.labels_named.Given as goal

abbrev pub invariant-loop-label : goal.invariant-loop-label
invariant-loop-label l = each_of (label_named l.labels) l.written ≡ each_from (label_named l.labels) l.found (drop l.label-index l.written)
