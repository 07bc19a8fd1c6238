use Rattle.std.proofs.Common.{rules, ◌≡◌, ◌<◌, ◌-◌, ◌+◌, [], ◌∷◌, ◌++◌, Option, List, length, sym, ap, ◌∙◌, arith}
use Rattle.type_tree.specs.declared.tree.TExpr.{TExpr}
use Rattle.il_model.specs.Bases.{upwards, base_of}
use Rattle.type_inst.proofs.BasesLemmas.{upwards-none, upwards-step, upwards-end}
use Rattle.type_inst.proofs.ascent.bases.Goals as goal

pub loop-init : goal.loop-init
loop-init c =
    let first : c.push.new.self ≡ c.args.tree.now ∷ [] = search rules in
    ap (λ (all : List TExpr). all ++ upwards c.args.program.now (length c.args.program.now.classes - 0) c.in_ok-next.next) first
    ∙ ap (λ (next : Option TExpr). (c.args.tree.now ∷ []) ++ upwards c.args.program.now (length c.args.program.now.classes - 0) next) (c.in_ok-next.ensures {u = tt})
    ∙ (let whole : length c.args.program.now.classes - 0 ≡ length c.args.program.now.classes = omega arith in
    ap (λ levels. (c.args.tree.now ∷ []) ++ upwards c.args.program.now levels (base_of c.args.program.now c.args.tree.now)) whole)

pub returns-in_default : goal.returns-in_default
returns-in_default c =
    sym (upwards-none c.args.program.now (length c.args.program.now.classes - c.loop.counter) c.loop.all)
    ∙ ap (λ (next : Option TExpr). c.loop.all ++ upwards c.args.program.now (length c.args.program.now.classes - c.loop.counter) next) (sym c.in_default.is)
    ∙ c.loop.invariant

pub loop-preserved : goal.loop-preserved
loop-preserved c =
    let p = c.args.program.now in
    let n = length p.classes in
    let inside : c.loop.counter < n = omega (arith, c.loop-test.true, c.len-end.ensures) in
    let all : c.push-in-loop.new.self ≡ c.loop.all ++ c.in-Some.base ∷ [] = search rules in
    ap (λ (items : List TExpr). items ++ upwards p (n - (c.loop.counter + 1)) c.in_ok-next-2.next) all
    ∙ ap (λ (next : Option TExpr). (c.loop.all ++ c.in-Some.base ∷ []) ++ upwards p (n - (c.loop.counter + 1)) next) (c.in_ok-next-2.ensures {u = tt})
    ∙ sym (upwards-step p n c.loop.counter c.in-Some.base c.loop.all inside)
    ∙ ap (λ (next : Option TExpr). c.loop.all ++ upwards p (n - c.loop.counter) next) (sym c.in-Some.is)
    ∙ c.loop.invariant

pub returns : goal.returns
returns c =
    let p = c.args.program.now in
    let over : length p.classes ≡ c.loop.counter = omega (arith, c.len-end.ensures, c.loop.auto.counter-end, c.loop-test.false) in
    sym (upwards-end p (length p.classes) c.loop.counter c.loop.next c.loop.all over) ∙ c.loop.invariant
