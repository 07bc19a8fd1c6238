use Rattle.std.proofs.Common.{◌≡◌, Some, None, sym, ◌∙◌}
use Rattle.il_model.specs.Signatures.{signature_at}
use Rattle.type_inst.specs.Matching.{own_match}
use Rattle.type_inst.proofs.SearchLemmas.{matched_passed, matched_reached}
use Rattle.type_inst.proofs.matching.nearest_match.Goals as goal

pub returns-in-Some : goal.returns-in-Some
returns-in-Some c =
    let here : own_match c.args.program.now (signature_at c.args.kind.now c.args.method.now) c.each-item.result ≡ Some c.in-Some.number =
    sym (c.in_ok-found.ensures {u = tt}) ∙ c.in-Some.is in
    sym (matched_reached c.args.program.now (signature_at c.args.kind.now c.args.method.now) c.args.kinds.now c.loop-each.each-index c.each-item.result c.in-Some.number
    c.loop-each-test.true c.each-item.is c.loop-each.invariant here)

pub loop-each-preserved : goal.loop-each-preserved
loop-each-preserved c =
    let here : own_match c.args.program.now (signature_at c.args.kind.now c.args.method.now) c.each-item.result ≡ None =
    sym (c.in_ok-found.ensures {u = tt}) ∙ c.in_default.is in
    matched_passed c.args.program.now (signature_at c.args.kind.now c.args.method.now) c.args.kinds.now c.loop-each.each-index c.each-item.result
    c.loop-each-test.true c.each-item.is c.loop-each.invariant here
