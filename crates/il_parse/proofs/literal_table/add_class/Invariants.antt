use Rattle.std.proofs.Common.{◌≡◌, drop, flat_map}
use Rattle.il_parse.specs.Literals.{with_texts, texts_of_member, texts_of_class}
use Rattle.il_parse.proofs.literal_table.add_class.Given as goal

abbrev pub invariant-loop-member : goal.invariant-loop-member
invariant-loop-member l = with_texts l.literals (flat_map texts_of_member (drop l.member-index l.class.members)) ≡ with_texts l.initial.literals (texts_of_class l.class)
