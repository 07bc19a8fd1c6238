use Rattle.std.proofs.Common.{sym, ap, ◌∙◌}
use Rattle.std.specs.List.{list_all}
use Rattle.type_tree.specs.Tree.{has_variables_below}
use Rattle.type_tree.proofs.TreeLemmas.{tree_of-is}
use Rattle.type_tree.proofs.VariablesLemmas.{has_variables_below-node}
use Rattle.type_tree.proofs.closing.+closed.Goals as goal

pub is_closed-returns-in-Node : goal.is_closed-returns-in-Node
is_closed-returns-in-Node t c =
    c.are_closed.ensures
    ∙ ap (list_all (has_variables_below 0 0)) c.as_slice.ensures
    ∙ sym (ap (has_variables_below 0 0) (tree_of-is c.args.kind.now _ (sym c.top.ensures ∙ c.in-Node.is)) ∙ has_variables_below-node 0 0 c.in-Node.field-0 c.in-Node.parts)
