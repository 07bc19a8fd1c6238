use Rattle.std.proofs.Common.{◌≡◌, [], drop, flat_map}
use Rattle.il_parse.specs.Literals.{with_texts, texts_of_class}
use Rattle.il_parse.proofs.literal_table.literals_of.Given as goal

abbrev pub invariant-loop-class : goal.invariant-loop-class
invariant-loop-class l = with_texts l.literals (flat_map texts_of_class (drop l.class-index l.classes)) ≡ with_texts [] (flat_map texts_of_class l.classes)
