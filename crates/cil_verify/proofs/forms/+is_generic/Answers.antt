use Rattle.std.proofs.Common.{List, ap, sym, ◌&&◌, ◌||◌, ◌∙◌}
use Rattle.std.specs.List.{list_any}
use Rattle.type_tree.specs.declared.tree.TExpr.{TExpr}
use Rattle.cil_verify.specs.Forms.{has_some, is_class_head, is_generic}
use Rattle.cil_verify.proofs.FormsLemmas.{generic_node}
use Rattle.cil_verify.proofs.forms.+is_generic.Goals as goal

pub is_generic-returns-in-Node : goal.is_generic-returns-in-Node
is_generic-returns-in-Node t c =
    c.is_generic_node.ensures
    ∙ ap (λ (ts : List TExpr). (is_class_head c.in-Node.head && has_some ts) || list_any is_generic ts) c.as_slice.ensures
    ∙ generic_node c.args.kind.now c.in-Node.head c.in-Node.parts (sym c.top.ensures ∙ c.in-Node.is)
