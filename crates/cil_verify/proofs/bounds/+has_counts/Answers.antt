use Rattle.std.proofs.Common.{◌≡◌, true, List, sym, ap, ◌∙◌}
use Rattle.std.specs.List.{list_all}
use Rattle.type_tree.specs.declared.tree.TExpr.{TExpr}
use Rattle.il_model.specs.Admission.{has_count}
use Rattle.il_model.specs.ClassRules.{has_counts}
use Rattle.cil_verify.proofs.TreesLemmas.{node_passes}
use Rattle.cil_verify.proofs.bounds.+has_counts.Goals as goal

pub has_counts-returns-in-Node : goal.has_counts-returns-in-Node
has_counts-returns-in-Node t c =
    let p = c.args.program.now in
    let passes : has_count p c.args.kind.now ≡ true = sym c.has_count.ensures ∙ c.if-not-has_count.false in
    c.have_counts.ensures
    ∙ ap (λ (ts : List TExpr). list_all (has_counts p) ts) c.as_slice.ensures
    ∙ node_passes (has_count p) c.args.kind.now c.in-Node.field-0 c.in-Node.parts (sym c.top.ensures ∙ c.in-Node.is) passes
