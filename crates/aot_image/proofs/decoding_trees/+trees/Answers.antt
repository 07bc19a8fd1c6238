use Rattle.std.proofs.Common.{Ok, ap, ◌∙◌, sym, rules, arith}
use Rattle.type_tree.specs.declared.tree.TExpr.{TExpr}
use Rattle.aot_image.specs.declared.image.ImageCause.TheVariants as cause
use Rattle.std.proofs.lemmas.Grind.{common_steps}
use Rattle.aot_image.specs.ImageReading.{fault_at, read_trees_from, read_defined, read_tree_within, inner_trees}
use Rattle.aot_image.proofs.ReadingLemmas.{reads_as, refused, handed_on, turn_left, none_left, tree_flat, tree_deep, tree_handed, defined_is}
use Rattle.aot_image.proofs.decoding_trees.+trees.Goals as goal

pub read_trees-returns-in_err-tree : goal.read_trees-returns-in_err-tree
unfolding read_trees_from
read_trees-returns-in_err-tree t c =
    let e = turn_left (λ n. read_trees_from (inner_trees c.args.program.now c.args.row c.args.levels) n c.loop-turn.found c.loop-turn.left c.loop-turn.cursor) _ c.loop-turn._turn c.loop-turn-test.true c.loop-turn.invariant in
    first_of (search rules, grind (arith, common_steps))

pub read_trees-loop-turn-preserved : goal.read_trees-loop-turn-preserved
unfolding read_trees_from
read_trees-loop-turn-preserved t c =
    let e = turn_left (λ n. read_trees_from (inner_trees c.args.program.now c.args.row c.args.levels) n c.loop-turn.found c.loop-turn.left c.loop-turn.cursor) _ c.loop-turn._turn c.loop-turn-test.true c.loop-turn.invariant in
    first_of (search rules, grind (arith, common_steps))

pub read_trees-returns : goal.read_trees-returns
unfolding read_trees_from
read_trees-returns t c =
    let e = none_left (λ n. read_trees_from (inner_trees c.args.program.now c.args.row c.args.levels) n c.loop-turn.found c.loop-turn.left c.loop-turn.cursor) _ c.loop-turn._turn c.loop-turn-test.false c.loop-turn.invariant in
    first_of (search rules, grind (arith, common_steps))

pub read_defined-returns : goal.read_defined-returns
read_defined-returns t c =
    defined_is (inner_trees c.args.program.now c.args.row c.args.levels) c.args.program.now c.args.row c.args.most c.args.number c.args.cursor.now c.in-Some.head c.in-Some.count c.in_ok-parts.parts
    c.in_ok-parts.left c.read_trees.new.cursor c.if-most-eq0.false (sym c.head_of_number.ensures ∙ c.in-Some.is) (c.in_ok-parts.ensures {u = tt})
    ∙ ap (λ (u : TExpr). Ok ((u, c.in_ok-parts.left), c.read_trees.new.cursor)) (sym c.node.ensures)

pub read_tree_within-returns-in_err-number : goal.read_tree_within-returns-in_err-number
read_tree_within-returns-in_err-number t c =
    tree_handed c.args.program.now c.args.row c.args.most c.args.cursor.now c.args.levels c.half.new.self c.in_err-number.field-0.0 c.from_residual.result
    (handed_on c.from_residual.result c.in_err-number.field-0.0 c.from_residual.ensures) (c.in_err-number.ensures {u = tt})

pub read_tree_within-returns-then-levels-eq0 : goal.read_tree_within-returns-then-levels-eq0
read_tree_within-returns-then-levels-eq0 t c =
    refused (read_tree_within c.args.program.now c.args.row c.args.levels c.args.most c.args.cursor.now) c.bad_table.result (fault_at c.args.row cause.BadTable) c.half.new.self c.bad_table.ensures
    (tree_flat c.args.program.now c.args.row c.args.most c.args.cursor.now c.args.levels c.in_ok-number.number c.half.new.self c.if-levels-eq0.true (c.in_ok-number.ensures {u = tt}))

pub read_tree_within-returns : goal.read_tree_within-returns
read_tree_within-returns t c =
    reads_as (read_tree_within c.args.program.now c.args.row c.args.levels c.args.most c.args.cursor.now)
    (read_defined (inner_trees c.args.program.now c.args.row c.args.levels) c.args.program.now c.args.row c.args.most c.in_ok-number.number c.half.new.self) c.read_defined.result c.read_defined.new.cursor
    (tree_deep c.args.program.now c.args.row c.args.most c.args.cursor.now c.args.levels c.in_ok-number.number c.half.new.self c.if-levels-eq0.false (c.in_ok-number.ensures {u = tt})) c.read_defined.ensures
