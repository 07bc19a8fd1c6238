use Rattle.std.proofs.Common.{◌≡◌, ℕ, List, drop, bytes_eq}
use Rattle.std.specs.Option.{option_or}
use Rattle.std.specs.HashMap.{get_by}
use Rattle.il_model.specs.LookUp.{labels_from}
use Rattle.il_parse.specs.NamedBodies.{number_of_label}
use Rattle.il_parse.proofs.labels.table_of.Given as goal

abbrev pub invariant-loop-line : goal.invariant-loop-line
invariant-loop-line l =
    (name : List ℕ) → option_or (get_by (λ k. bytes_eq name k.now) l.table) (number_of_label (labels_from l.number (drop l.line-index l.lines)) name)
    ≡ number_of_label (labels_from 0 l.lines) name
