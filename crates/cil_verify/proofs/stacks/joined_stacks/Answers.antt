use Rattle.std.proofs.Common.{◌≡◌, ◌++◌, ◌∷◌, [], ◌+◌, ◌<◌, List, Some, length, drop, option_map, sym, ap, ◌∙◌, arith}
use Rattle.cil_flow.specs.declared.state.StackType.{StackType}
use Rattle.cil_verify.specs.Places.{view_of}
use Rattle.cil_verify.specs.Joins.{joined, joined_stacks}
use Rattle.cil_verify.proofs.StackLemmas.{depths_differ, joined_next}
use Rattle.cil_verify.proofs.stacks.joined_stacks.Goals as goal

pub returns-then-first-second : goal.returns-then-first-second
returns-then-first-second c = depths_differ (view_of c.args.program.now c.args.method.now) c.args.first.now c.args.second.now c.if-first-second.true

pub loop-i-preserved : goal.loop-i-preserved
loop-i-preserved c =
    let v = view_of c.args.program.now c.args.method.now in
    let xs = c.args.first.now in
    let ys = c.args.second.now in
    let put : c.put.new.all ≡ c.loop-i.both ++ c.in-Some.kind ∷ [] = c.in_ok-put-in-Some.ensures {u = tt} in
    let found : Some c.in-Some.kind ≡ joined v c.index-first-i.result c.index-second-i.result = sym c.in-Some.is ∙ c.in_ok-kind.ensures {u = tt} in
    let too : c.loop-i.i < length ys = omega (arith, c.loop-i-test.true, c.if-first-second.false) in
    c.loop-i.invariant
    ∙ joined_next v xs ys c.loop-i.both c.loop-i.i c.index-first-i.result c.index-second-i.result c.in-Some.kind c.loop-i-test.true too c.index-first-i.is c.index-second-i.is found
    ∙ ap (λ (all : List StackType). option_map (λ s. all ++ s) (joined_stacks v (drop (c.loop-i.i + 1) xs) (drop (c.loop-i.i + 1) ys))) (sym put)
