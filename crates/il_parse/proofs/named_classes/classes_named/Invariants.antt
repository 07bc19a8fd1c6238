use Rattle.std.proofs.Common.{◌≡◌, drop}
use Rattle.il_parse.specs.NamedClasses.{classes_named, gathered_first}
use Rattle.il_parse.proofs.named_classes.classes_named.Given as goal

abbrev pub invariant-loop-class : goal.invariant-loop-class
invariant-loop-class l = classes_named l.known gathered_first l.fn.classes ≡ classes_named l.known l.gathered (drop l.class-index l.classes)
