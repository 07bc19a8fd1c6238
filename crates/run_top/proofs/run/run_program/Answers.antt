use Rattle.std.proofs.Common.{◌≡◌, ◌∙◌}
use Rattle.run_top.proofs.Deepest.{finds}
use Rattle.run_top.specs.Code.{image_of}
use Rattle.run_top.proofs.Clauses.{regular, legal, requests, all_executed, few, ends_so}
use Rattle.run_top.proofs.run.run_program.Goals as goal

pub compile-requires : goal.compile-requires
compile-requires c = finds 0 _ c.requires.program.fine

pub run-requires-clause-regular : goal.run-requires-clause-regular
run-requires-clause-regular c =
    let image : c.as_slice.result.now ≡ image_of c.args.ops.now = c.as_slice.ensures.value ∙ c.in-Ok.ensures {u = tt} in
    rw (image, c.deepest_stack.ensures.value) (regular c.args.ops.now c.requires.program c.args.limit)

pub returns-clause-legal : goal.returns-clause-legal
returns-clause-legal c =
    let image : c.as_slice.result.now ≡ image_of c.args.ops.now = c.as_slice.ensures.value ∙ c.in-Ok.ensures {u = tt} in
    legal c.args.ops.now c.requires.program c.args.limit c.in_ok-kept.kept.turns.items c.in_ok-kept.kept.history.items c.in_ok-kept.kept.ending (rw (image, c.deepest_stack.ensures.value) at (c.in_ok-kept.ensures {u = tt}))

pub returns-clause-requests : goal.returns-clause-requests
returns-clause-requests c =
    let image : c.as_slice.result.now ≡ image_of c.args.ops.now = c.as_slice.ensures.value ∙ c.in-Ok.ensures {u = tt} in
    requests c.args.ops.now c.requires.program c.args.limit c.in_ok-kept.kept.turns.items c.in_ok-kept.kept.history.items c.in_ok-kept.kept.ending (rw (image, c.deepest_stack.ensures.value) at (c.in_ok-kept.ensures {u = tt}))

pub returns-clause-executed : goal.returns-clause-executed
returns-clause-executed c =
    let items : c.in-Ok.image.items ≡ image_of c.args.ops.now = c.in-Ok.ensures {u = tt} in
    let image : c.as_slice.result.now ≡ image_of c.args.ops.now = c.as_slice.ensures.value ∙ items in
    rw items (all_executed c.args.ops.now c.requires.program c.args.limit c.in_ok-kept.kept.turns.items c.in_ok-kept.kept.history.items c.in_ok-kept.kept.ending (rw (image, c.deepest_stack.ensures.value) at (c.in_ok-kept.ensures {u = tt})))

pub returns-clause-ends : goal.returns-clause-ends
returns-clause-ends c =
    let image : c.as_slice.result.now ≡ image_of c.args.ops.now = c.as_slice.ensures.value ∙ c.in-Ok.ensures {u = tt} in
    ends_so c.args.ops.now c.requires.program c.args.limit c.in_ok-kept.kept.turns.items c.in_ok-kept.kept.history.items c.in_ok-kept.kept.ending (rw (image, c.deepest_stack.ensures.value) at (c.in_ok-kept.ensures {u = tt}))

pub returns-clause-few : goal.returns-clause-few
returns-clause-few c =
    let image : c.as_slice.result.now ≡ image_of c.args.ops.now = c.as_slice.ensures.value ∙ c.in-Ok.ensures {u = tt} in
    few c.args.ops.now c.requires.program c.args.limit c.in_ok-kept.kept.turns.items c.in_ok-kept.kept.history.items c.in_ok-kept.kept.ending (rw (image, c.deepest_stack.ensures.value) at (c.in_ok-kept.ensures {u = tt}))
