use Rattle.std.proofs.Common.{◌≡◌, ◌<◌, ℕ, List, length, sym, ap, subst}
use Rattle.il_model.specs.Slots.{own_methods_of}
use Rattle.cil_verify.proofs.RulesLemmas.{over_limit}
use Rattle.cil_verify.proofs.class_rules.has_few_places.Goals as goal

pub returns-then-count-left : goal.returns-then-count-left
returns-then-count-left c =
    let item = c.each-item.result in
    let over : c.loop-each.left < length (own_methods_of c.args.program.now item) =
    subst (λ (ns : List ℕ). c.loop-each.left < length ns) c.own_methods_of-count.ensures c.if-count-left.true in
    sym (over_limit c.args.program.now c.args.listed.now c.loop-each.each-index item c.loop-each.left c.args.most c.loop-each-test.true c.each-item.is c.loop-each.invariant over)
