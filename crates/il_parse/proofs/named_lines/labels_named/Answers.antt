use Rattle.std.proofs.Common.{◌∙◌, rules, arith}
use Rattle.std.proofs.lemmas.Grind.{common_steps}
use Rattle.il_parse.specs.Looking.{each_of}
use Rattle.il_parse.specs.NamedBodies.{label_named}
use Rattle.il_parse.proofs.EachLemmas.{each_end, each_next}
use Rattle.il_parse.proofs.named_lines.labels_named.Goals as goal

pub loop-label-init : goal.loop-label-init
unfolding each_of
loop-label-init c = first_of (search rules, grind (arith, common_steps))

pub returns-in_err-label_named : goal.returns-in_err-label_named
returns-in_err-label_named c =
    let e = c.loop-label.invariant ∙ each_next (label_named c.args.labels.now) c.loop-label.found c.args.written.now c.loop-label.label-index c.label-item.result c.loop-label-test.true c.label-item.is in
    first_of (search rules, grind (arith, common_steps))

pub loop-label-preserved : goal.loop-label-preserved
loop-label-preserved c =
    let e = c.loop-label.invariant ∙ each_next (label_named c.args.labels.now) c.loop-label.found c.args.written.now c.loop-label.label-index c.label-item.result c.loop-label-test.true c.label-item.is in
    first_of (search rules, grind (arith, common_steps))

pub returns : goal.returns
returns c = c.loop-label.invariant ∙ each_end (label_named c.args.labels.now) c.loop-label.found c.args.written.now c.loop-label.label-index c.loop-label-test.false
