use Rattle.std.proofs.Common.{◌∙◌, rules, arith}
use Rattle.std.proofs.lemmas.Grind.{common_steps}
use Rattle.il_parse.proofs.LabelLemmas.{item_as}
use Rattle.il_parse.proofs.LineNameLemmas.{lines_end, label_next, instr_next}
use Rattle.il_parse.proofs.named_lines.lines_named.Goals as goal
use Rattle.il_parse.proofs.named_lines.lines_named.Goals.{in-Label+in_ok-meet-in-Label, in-Instr+in_ok-instr_named-in-Instr+in_ok-push-in-Instr}

pub returns-in_err-meet-in-Label : goal.returns-in_err-meet-in-Label
returns-in_err-meet-in-Label c =
    let l = c.loop-line in
    let here = item_as c.args.written.now l.line-index c.line-item.result _ c.loop-line-test.true c.line-item.is c.in-Label.is in
    let e = l.invariant ∙ label_next c.args.scope.now c.args.literals.now c.args.labels.now l.met l.found c.args.written.now l.line-index c.in-Label.name here in
    first_of (search rules, grind (arith, common_steps))

pub returns-in_err-instr_named-in-Instr : goal.returns-in_err-instr_named-in-Instr
returns-in_err-instr_named-in-Instr c =
    let l = c.loop-line in
    let here = item_as c.args.written.now l.line-index c.line-item.result _ c.loop-line-test.true c.line-item.is c.in-Instr.is in
    let e = l.invariant ∙ instr_next c.args.scope.now c.args.literals.now c.args.labels.now l.met l.found c.args.written.now l.line-index c.in-Instr.instr here in
    first_of (search rules, grind (arith, common_steps))

pub loop-line-preserved : goal.loop-line-preserved
loop-line-preserved c =
    let l = c.loop-line in
    elim c.match-line.branch [
      | in-Label+in_ok-meet-in-Label w ↦
          let here = item_as c.args.written.now l.line-index c.line-item.result _ c.loop-line-test.true c.line-item.is w.in-Label.is in
          let e = l.invariant ∙ label_next c.args.scope.now c.args.literals.now c.args.labels.now l.met l.found c.args.written.now l.line-index w.in-Label.name here in
          rw (w.met-is, w.found-is) (first_of (search rules, grind (arith, common_steps)))
      | in-Instr+in_ok-instr_named-in-Instr+in_ok-push-in-Instr w ↦
          let here = item_as c.args.written.now l.line-index c.line-item.result _ c.loop-line-test.true c.line-item.is w.in-Instr.is in
          let e = l.invariant ∙ instr_next c.args.scope.now c.args.literals.now c.args.labels.now l.met l.found c.args.written.now l.line-index w.in-Instr.instr here in
          rw (w.met-is, w.found-is) (first_of (search rules, grind (arith, common_steps)))
    ]

pub returns : goal.returns
returns c = c.loop-line.invariant ∙ lines_end c.args.scope.now c.args.literals.now c.args.labels.now c.loop-line.met c.loop-line.found c.args.written.now c.loop-line.line-index c.loop-line-test.false
