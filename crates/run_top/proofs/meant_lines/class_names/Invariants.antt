use Rattle.std.proofs.Common.{◌≡◌, map, take}
use Rattle.il_model.specs.declared.class.ClassDef.{ClassDef}
use Rattle.run_top.proofs.meant_lines.class_names.Given as goal

abbrev pub invariant-loop-class : goal.invariant-loop-class
invariant-loop-class l = l.names ≡ map (λ (c : ClassDef). c.name) (take l.class-index l.classes)
