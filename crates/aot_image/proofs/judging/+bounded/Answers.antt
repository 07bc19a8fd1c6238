use Rattle.std.proofs.Common.{◌≡◌, Bool, true, List, IfOk, sym, ap, subst, ◌∙◌}
use Rattle.std.specs.List.{list_all}
use Rattle.type_tree.specs.declared.tree.TExpr.{TExpr}
use Rattle.rgctx_template.specs.Admitted.{is_bounded_throughout}
use Rattle.cil_verify.proofs.TreesLemmas.{node_passes}
use Rattle.aot_image.specs.ImageJudging.{is_bounded_here}
use Rattle.aot_image.proofs.judging.+bounded.Goals as goal

pub is_bounded_throughout-returns-in-Node : goal.is_bounded_throughout-returns-in-Node
is_bounded_throughout-returns-in-Node t c =
    let p = c.args.program.now in
    let passes : is_bounded_here p c.args.tree.now ≡ true = sym (c.in_ok-is_bounded_here.ensures {u = tt}) ∙ c.if-not-branch.false in
    subst (λ (b : Bool). IfOk c.are_bounded_throughout.result (λ answer. answer ≡ b))
    (ap (λ (ts : List TExpr). list_all (is_bounded_throughout p) ts) c.as_slice.ensures
    ∙ node_passes (is_bounded_here p) c.args.tree.now c.in-Node.field-0 c.in-Node.parts (sym c.top.ensures ∙ c.in-Node.is) passes)
    c.are_bounded_throughout.ensures
