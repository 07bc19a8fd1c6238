use Rattle.std.proofs.Common.{◌∙◌, ℕ, List, refl, sym, ap, subst, Some}
use Rattle.std.proofs.lemmas.Bool.{true≢false}
use Rattle.il_text.specs.Spelling.{IsWithinLimit}
use Rattle.il_text.proofs.FrontLemmas.{cause_of-nothing, has_token, past_limit, no_token}
use Rattle.il_text.proofs.front.token_at.Goals as goal

pub returns-then-len-eq0-clause-err : goal.returns-then-len-eq0-clause-err
returns-then-len-eq0-clause-err c =
    no_token c.args.bytes.now c.in-Some.first.now c.in-Some.field-0-1.now c.kind_for-kind.result c.len_of-len.result (c.in-Some.ensures {u = tt}).cases.0 c.kind_for-kind.ensures c.len_of-len.ensures.value c.if-len-eq0.true c.requires
    ∙ ap Some (sym c.no_token_cause.ensures)

pub returns-in_default-clause-err : goal.returns-in_default-clause-err
returns-in_default-clause-err c = cause_of-nothing c.args.bytes.now (c.in_default.ensures {u = tt}).cases

pub returns-then-is_within_limit-clause-ok : goal.returns-then-is_within_limit-clause-ok
returns-then-is_within_limit-clause-ok c =
    has_token c.args.bytes.now c.in-Some.first.now c.in-Some.field-0-1.now c.kind_for-kind.result c.len_of-len.result (c.in-Some.ensures {u = tt}).cases.0 c.kind_for-kind.ensures c.len_of-len.ensures.value c.if-len-eq0.false
    c.len_of-len.ensures.inside c.requires (let P : List ℕ → Type 0 = λ token. IsWithinLimit c.kind_for-kind.result token in subst P c.split_at.ensures.front ((c.if-is_within_limit.ensures {u = tt}).0 refl))

pub returns-else-is_within_limit-clause-err : goal.returns-else-is_within_limit-clause-err
returns-else-is_within_limit-clause-err c =
    past_limit c.args.bytes.now c.in-Some.first.now c.in-Some.field-0-1.now c.kind_for-kind.result c.len_of-len.result (c.in-Some.ensures {u = tt}).cases.0 c.kind_for-kind.ensures c.len_of-len.ensures.value c.if-len-eq0.false c.requires
    (λ within. true≢false (sym ((c.if-is_within_limit.ensures {u = tt}).1 (let P : List ℕ → Type 0 = λ token. IsWithinLimit c.kind_for-kind.result token in subst P (sym c.split_at.ensures.front) within))))
    ∙ ap Some (sym c.limit_cause.ensures)
