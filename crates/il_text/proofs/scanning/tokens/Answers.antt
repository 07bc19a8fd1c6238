use Rattle.std.proofs.Common.{◌≡◌, ◌≤◌, ◌+◌, ◌++◌, ◌∷◌, [], length, drop, sym, ap, subst, ◌∙◌, arith, append_assoc}
use Rattle.std.proofs.lemmas.List.{drop-drop, length-drop}
use Rattle.il_text.specs.declared.token.Token.{Token}
use Rattle.il_text.specs.Tokens.{AreTokensFrom}
use Rattle.il_text.specs.Fronts.{HasToken}
use Rattle.il_text.proofs.Gaps.{Passes}
use Rattle.il_text.specs.Faults.{first_refusal}
use Rattle.il_text.proofs.Steps.{Passed, passed, gap_front, token_front, gap_reads, token_reads, first_refusal-step}
use Rattle.il_text.proofs.OneReading.{one_reading, slices, all_read, positive}
use Rattle.il_text.proofs.FaultLemmas.{fault_here, too_long, no_tokens}
use Rattle.il_text.proofs.scanning.tokens.Goals as goal
use Rattle.il_text.proofs.scanning.tokens.Goals.{in-Some+else-is_err, in_default}

pub returns-in-Err-clause-refused : goal.returns-in-Err-clause-refused
returns-in-Err-clause-refused c =
    let place = fault_here c.args.text.now c.loop-rest.rest.now c.loop-rest.at c.in-Err.cause c.loop-rest.invariant.faults c.loop-rest.invariant.short (positive c.loop-rest.rest.now (c.loop-rest-test.ensures {u = tt})) (c.in-Err.ensures {u = tt}).err in
    record { place = place; unread = λ tokens read. no_tokens c.args.text.now tokens (record { offset = c.loop-rest.at; cause = c.in-Err.cause }) place read }

pub returns-then-to-gt-TEXT_LIMIT-clause-refused : goal.returns-then-to-gt-TEXT_LIMIT-clause-refused
returns-then-to-gt-TEXT_LIMIT-clause-refused c =
    let front : Passed c.loop-rest.rest.now c.in-Ok.front.len = passed c.loop-rest.rest.now c.in-Ok.front.kind c.in-Ok.front.len (c.in-Ok.ensures {u = tt}).ok in
    let room : c.loop-rest.at + c.in-Ok.front.len ≤ length c.args.text.now = omega (arith, front.inside, ap length c.loop-rest.invariant.place, length-drop c.loop-rest.at c.args.text.now, c.loop-rest.invariant.inside) in
    let place = too_long c.args.text.now c.loop-rest.rest.now c.loop-rest.at c.in-Ok.front.len c.loop-rest.invariant.faults front.fine front.front front.some c.if-to-gt-TEXT_LIMIT.true room in
    record { place = place; unread = λ tokens read. no_tokens c.args.text.now tokens _ place read }

pub loop-rest-preserved : goal.loop-rest-preserved
loop-rest-preserved c =
    let text = c.args.text.now in
    let at = c.loop-rest.at in
    let len = c.in-Ok.front.len in
    let has = (c.in-Ok.ensures {u = tt}).ok in
    let front : Passed c.loop-rest.rest.now len = passed c.loop-rest.rest.now c.in-Ok.front.kind len has in
    let left : c.split_at.result.1.now ≡ drop len c.loop-rest.rest.now = c.split_at.ensures.back in
    let here : drop at text ≡ c.loop-rest.rest.now = sym c.loop-rest.invariant.place in
    record {
      place = left ∙ ap (drop len) c.loop-rest.invariant.place ∙ drop-drop len at text;
      inside = omega (arith, front.inside, ap length c.loop-rest.invariant.place, length-drop at text, c.loop-rest.invariant.inside);
      short = c.if-to-gt-TEXT_LIMIT.false;
      faults = ap (first_refusal (at + len) 0) left ∙ sym (first_refusal-step at c.loop-rest.rest.now len front.fine front.front front.some) ∙ c.loop-rest.invariant.faults;
      reads = elim c.match-front.branch [
        | in-Some+else-is_err w ↦ λ tokens read.
            let old = c.loop-rest.found.items in
            let token : Token = record { kind = w.in-Some.kind; from = at; to = at + len } in
            let pushed : c.match-front.found.items ≡ old ++ token ∷ [] = ap (λ v. v.items) w.found-is ∙ rw (w.if-is_err.ensures {u = tt}).negation at w.push.ensures.items in
            let there : HasToken (drop at text) w.in-Some.kind len = subst (λ bs. HasToken bs w.in-Some.kind len) (sym here) (token_front c.loop-rest.rest.now c.in-Ok.front.kind w.in-Some.kind len w.in-Some.is has) in
            subst (λ x. AreTokensFrom text 0 x) (sym (ap (λ x. x ++ tokens) pushed ∙ append_assoc old (token ∷ []) tokens))
            (c.loop-rest.invariant.reads (token ∷ tokens) (token_reads text at len w.in-Some.kind tokens c.loop-rest.invariant.inside there read))
        | in_default w ↦ λ tokens read.
            subst (λ x. AreTokensFrom text 0 (x ++ tokens)) (sym (ap (λ v. v.items) w.found-is))
            (c.loop-rest.invariant.reads tokens (gap_reads text at len tokens (subst (λ bs. Passes bs len) (sym here) (gap_front c.loop-rest.rest.now c.in-Ok.front.kind len w.in_default.is has)) read))
      ];
    }

pub returns-clause-tokens : goal.returns-clause-tokens
returns-clause-tokens c =
    all_read c.args.text.now c.loop-rest.rest.now c.loop-rest.at c.loop-rest.found.items c.loop-rest.invariant.place (c.loop-rest-test.ensures {u = tt}) c.loop-rest.invariant.short c.loop-rest.invariant.inside c.loop-rest.invariant.reads

pub returns-clause-only : goal.returns-clause-only
returns-clause-only c = λ others read.
    one_reading c.args.text.now c.loop-rest.found.items others
    (all_read c.args.text.now c.loop-rest.rest.now c.loop-rest.at c.loop-rest.found.items c.loop-rest.invariant.place (c.loop-rest-test.ensures {u = tt}) c.loop-rest.invariant.short c.loop-rest.invariant.inside c.loop-rest.invariant.reads) read

pub returns-clause-slices : goal.returns-clause-slices
returns-clause-slices c =
    slices c.args.text.now 0 c.loop-rest.found.items
    (all_read c.args.text.now c.loop-rest.rest.now c.loop-rest.at c.loop-rest.found.items c.loop-rest.invariant.place (c.loop-rest-test.ensures {u = tt}) c.loop-rest.invariant.short c.loop-rest.invariant.inside c.loop-rest.invariant.reads).read
