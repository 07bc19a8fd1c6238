use Rattle.std.proofs.Common.{◌∙◌, rules, arith}
use Rattle.std.proofs.lemmas.Grind.{common_steps}
use Rattle.il_parse.proofs.GatheringLemmas.{classes_end, classes_next}
use Rattle.il_parse.proofs.named_classes.classes_named.Goals as goal

pub returns-in_err-add_class : goal.returns-in_err-add_class
returns-in_err-add_class c =
    let e = c.loop-class.invariant ∙ classes_next c.args.known.now c.loop-class.gathered c.args.classes.now c.loop-class.class-index c.class-item.result c.loop-class-test.true c.class-item.is in
    first_of (search rules, grind (arith, common_steps))

pub loop-class-preserved : goal.loop-class-preserved
loop-class-preserved c =
    let e = c.loop-class.invariant ∙ classes_next c.args.known.now c.loop-class.gathered c.args.classes.now c.loop-class.class-index c.class-item.result c.loop-class-test.true c.class-item.is in
    first_of (search rules, grind (arith, common_steps))

pub returns : goal.returns
returns c = c.loop-class.invariant ∙ classes_end c.args.known.now c.loop-class.gathered c.args.classes.now c.loop-class.class-index c.loop-class-test.false
