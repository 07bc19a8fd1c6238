use Rattle.std.proofs.Common.{◌≡◌, ◌<◌, ℕ, List, map, filter, nat_lt, ap, ◌∙◌, arith}
use Rattle.std.specs.List.{list_any}
use Rattle.type_tree.specs.declared.tree.TExpr.{TExpr}
use Rattle.il_model.specs.Kinds.{is_value}
use Rattle.type_inst.specs.Sizing.{capped_words}
use Rattle.type_inst.proofs.AdmissionLemmas.{any_wide}
use Rattle.type_inst.proofs.admission.has_wide.Goals as goal

pub returns : goal.returns
returns c =
    let p = c.args.program.now in
    let less : 16 < 17 = omega arith in
    let values : c.as_slice.result.now ≡ filter (is_value p) c.args.kinds.now = c.as_slice.ensures ∙ c.in_ok-values.ensures {u = tt} in
    let words : c.as_slice-2.result.now ≡ map (capped_words 17 p) (filter (is_value p) c.args.kinds.now) =
    c.as_slice-2.ensures ∙ c.in_ok-words.ensures {u = tt} ∙ ap (λ (ts : List TExpr). map (capped_words 17 p) ts) values in
    c.has_more.ensures ∙ ap (λ (ws : List ℕ). list_any (nat_lt 16) ws) words ∙ any_wide p 16 17 less c.args.kinds.now
