use Rattle.std.proofs.Common.{◌≡◌, true, false, sym, ap, ◌∙◌}
use Rattle.type_tree.specs.declared.tree.TExpr.{TExpr}
use Rattle.type_tree.specs.Same.{is_same}
use Rattle.il_model.specs.Bases.{with_args_of}
use Rattle.type_inst.proofs.NumberingLemmas.{place_passed, place_reached, none_placed}
use Rattle.type_inst.proofs.numbering.place_of.Goals as goal

pub returns-then-is_same : goal.returns-then-is_same
returns-then-is_same c =
    let here : is_same (with_args_of c.args.exact.now c.index-listed-i.result) c.args.interface.now ≡ true =
    ap (λ (x : TExpr). is_same x c.args.interface.now) (sym (c.in_ok-each.ensures {u = tt})) ∙ sym c.is_same.ensures ∙ c.if-is_same.true in
    sym (place_reached (λ (each : TExpr). is_same (with_args_of c.args.exact.now each) c.args.interface.now) c.args.listed.now c.loop-i.i c.index-listed-i.result
    c.loop-i-test.true c.index-listed-i.is c.loop-i.invariant here)

pub loop-i-preserved : goal.loop-i-preserved
loop-i-preserved c =
    let here : is_same (with_args_of c.args.exact.now c.index-listed-i.result) c.args.interface.now ≡ false =
    ap (λ (x : TExpr). is_same x c.args.interface.now) (sym (c.in_ok-each.ensures {u = tt})) ∙ sym c.is_same.ensures ∙ c.if-is_same.false in
    place_passed (λ (each : TExpr). is_same (with_args_of c.args.exact.now each) c.args.interface.now) c.args.listed.now c.loop-i.i c.index-listed-i.result
    c.loop-i-test.true c.index-listed-i.is c.loop-i.invariant here

pub returns : goal.returns
returns c = sym (none_placed (λ (each : TExpr). is_same (with_args_of c.args.exact.now each) c.args.interface.now) c.args.listed.now c.loop-i.i c.loop-i-test.false c.loop-i.invariant)
