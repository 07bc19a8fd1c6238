use Rattle.std.proofs.Common.{◌≡◌, ◌++◌, map, drop}
use Rattle.il_model.specs.Bounds.{instrs_of}
use Rattle.il_parse.specs.Answer.{spot_of}
use Rattle.il_parse.proofs.placing.code_of_lines.Given as goal

abbrev pub invariant-loop-line : goal.invariant-loop-line
invariant-loop-line l = (l.code ++ map (λ i. spot_of l.initial.places i.at) (instrs_of (drop l.line-index l.lines)) ≡ map (λ i. spot_of l.initial.places i.at) (instrs_of l.lines)) × (l.places ≡ l.initial.places)
