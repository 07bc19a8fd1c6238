use Rattle.std.proofs.Common.{sym, ◌∙◌}
use Rattle.aot_image.proofs.WritingLemmas.{node_put}
use Rattle.aot_image.proofs.encoding.+trees.Goals as goal

pub put_tree-returns-in_ok-put_trees-in-Node : goal.put_tree-returns-in_ok-put_trees-in-Node
put_tree-returns-in_ok-put_trees-in-Node t c =
    node_put c.args.tree.now c.in-Node.head c.in-Node.parts (sym c.top.ensures ∙ c.in-Node.is) c.args.out.now.items c.put_half.new.out.items c.put_trees.new.out.items c.definition_number.result
    c.as_slice.result.now c.definition_number.ensures (c.in_ok-put_half-in-Node.ensures {u = tt}) c.as_slice.ensures (c.in_ok-put_trees-in-Node.ensures {u = tt})
