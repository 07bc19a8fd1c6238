use Rattle.std.proofs.Common.{◌≡◌, ◌∙◌, ◌<◌, ◌≤◌, ℕ, true, false, cond, not, length, Some, None, sym, ap, subst, arith}
use Rattle.std.proofs.lemmas.Option.{slice_get_within}
use Rattle.cil_flow.specs.Control.{any_follower}
use Rattle.cil_flow.specs.Flow.{leads_out}
use Rattle.cil_verify.specs.Places.{view_of, code_of}
use Rattle.cil_verify.specs.Admits.{left_by}
use Rattle.cil_verify.specs.Members.{names_well, meets_all_bounds}
use Rattle.cil_verify.specs.States.{Stack, stack_at, states_of, meets_well}
use Rattle.cil_verify.specs.Arrivals.{stacks_of, gone_among, followers_of}
use Rattle.cil_verify.proofs.StatesLemmas.{stack_in_front}
use Rattle.cil_verify.proofs.ArrivalLemmas.{merges_well, merges_badly, knows_next}
use Rattle.cil_verify.proofs.CauseLemmas.{cause_of_member, cause_of_bounds, cause_of_type, cause_of_merging}
use Rattle.cil_verify.proofs.pass.judge.Goals as goal

pub returns-then-not-names_well-clause-cause : goal.returns-then-not-names_well-clause-cause
returns-then-not-names_well-clause-cause c =
    let v = view_of c.args.program.now c.args.method.now in
    cause_of_member v (states_of v) c.args.at c.args.op.now (sym (c.names_well.ensures c.args.method.now) ∙ c.if-not-names_well.true)

pub returns-then-not-branch-clause-cause : goal.returns-then-not-branch-clause-cause
returns-then-not-branch-clause-cause c =
    let v = view_of c.args.program.now c.args.method.now in
    cause_of_bounds v (states_of v) c.args.at c.args.op.now (sym (c.names_well.ensures c.args.method.now) ∙ c.if-not-names_well.false)
    (sym (c.in_ok-meets_all_bounds.ensures {u = tt}) ∙ c.if-not-branch.true)

pub returns-in_default-clause-cause : goal.returns-in_default-clause-cause
returns-in_default-clause-cause c =
    let v = view_of c.args.program.now c.args.method.now in
    let front = stacks_of c.args.states.now in
    let good : names_well v c.args.op.now ≡ true = sym (c.names_well.ensures c.args.method.now) ∙ c.if-not-names_well.false in
    let met : meets_all_bounds v c.args.op.now ≡ true = sym (c.in_ok-meets_all_bounds.ensures {u = tt}) ∙ c.if-not-branch.false in
    let low : c.args.at ≤ c.args.at = omega arith in
    let here : c.stack_at.result.now ≡ stack_at (states_of v) c.args.at = c.stack_at.ensures ∙ stack_in_front v c.args.at c.args.at front c.requires.so_far low in
    let none : left_by v c.args.op.now (stack_at (states_of v) c.args.at) ≡ None =
    ap (left_by v c.args.op.now) (sym here) ∙ sym (c.in_ok-left.ensures {u = tt}) ∙ c.in_default.is in
    cause_of_type v (states_of v) c.args.at c.args.op.now good met none

pub go_on-requires-clause-small : goal.go_on-requires-clause-small
go_on-requires-clause-small c =
    let within : c.args.at < length (code_of c.args.method.now.body) = slice_get_within (code_of c.args.method.now.body) c.args.at c.args.op.now c.requires.is in
    omega (arith, within, c.requires.few)

pub returns-then-not-branch-2-clause-cause : goal.returns-then-not-branch-2-clause-cause
returns-then-not-branch-2-clause-cause c =
    let v = view_of c.args.program.now c.args.method.now in
    let front = stacks_of c.args.states.now in
    let good : names_well v c.args.op.now ≡ true = sym (c.names_well.ensures c.args.method.now) ∙ c.if-not-names_well.false in
    let met : meets_all_bounds v c.args.op.now ≡ true = sym (c.in_ok-meets_all_bounds.ensures {u = tt}) ∙ c.if-not-branch.false in
    let low : c.args.at ≤ c.args.at = omega arith in
    let here : c.stack_at.result.now ≡ stack_at (states_of v) c.args.at = c.stack_at.ensures ∙ stack_in_front v c.args.at c.args.at front c.requires.so_far low in
    let leaves : left_by v c.args.op.now (stack_at (states_of v) c.args.at) ≡ Some c.in-Some.left =
    ap (left_by v c.args.op.now) (sym here) ∙ sym (c.in_ok-left.ensures {u = tt}) ∙ c.in-Some.is in
    let inside : leads_out (length c.args.all.now) c.args.op.now c.args.at ≡ false =
    subst (λ (n : ℕ). leads_out n c.args.op.now c.args.at ≡ false) (sym c.requires.knows.size) (c.requires.inside.inside c.args.at c.args.op.now c.requires.is) in
    let same : (to : ℕ) → to ≤ c.args.at → stack_at front to ≡ stack_at (states_of v) to = λ to below. stack_in_front v c.args.at to front c.requires.so_far below in
    let gone : gone_among v front c.args.at c.in-Some.left (followers_of c.args.op.now c.args.at) c.args.all.now ≡ None =
    ap (λ (l : Stack). gone_among v front c.args.at l (followers_of c.args.op.now c.args.at) c.args.all.now) (sym c.as_slice.ensures)
    ∙ sym (c.in_ok-go_on.ensures {u = tt}) ∙ ap (λ b. cond b (Some c.go_on.new.all) None) c.if-not-branch-2.true in
    let merges : any_follower (λ to. not (meets_well v (states_of v) c.args.at c.in-Some.left to)) c.args.op.now c.args.at ≡ true =
    merges_badly v c.args.at c.args.op.now c.in-Some.left front c.args.all.now c.requires.is c.requires.knows same inside gone in
    cause_of_merging v (states_of v) c.args.at c.args.op.now c.in-Some.left true good met leaves merges

pub returns-clause-cause : goal.returns-clause-cause
returns-clause-cause c =
    let v = view_of c.args.program.now c.args.method.now in
    let front = stacks_of c.args.states.now in
    let good : names_well v c.args.op.now ≡ true = sym (c.names_well.ensures c.args.method.now) ∙ c.if-not-names_well.false in
    let met : meets_all_bounds v c.args.op.now ≡ true = sym (c.in_ok-meets_all_bounds.ensures {u = tt}) ∙ c.if-not-branch.false in
    let low : c.args.at ≤ c.args.at = omega arith in
    let here : c.stack_at.result.now ≡ stack_at (states_of v) c.args.at = c.stack_at.ensures ∙ stack_in_front v c.args.at c.args.at front c.requires.so_far low in
    let leaves : left_by v c.args.op.now (stack_at (states_of v) c.args.at) ≡ Some c.in-Some.left =
    ap (left_by v c.args.op.now) (sym here) ∙ sym (c.in_ok-left.ensures {u = tt}) ∙ c.in-Some.is in
    let inside : leads_out (length c.args.all.now) c.args.op.now c.args.at ≡ false =
    subst (λ (n : ℕ). leads_out n c.args.op.now c.args.at ≡ false) (sym c.requires.knows.size) (c.requires.inside.inside c.args.at c.args.op.now c.requires.is) in
    let same : (to : ℕ) → to ≤ c.args.at → stack_at front to ≡ stack_at (states_of v) to = λ to below. stack_in_front v c.args.at to front c.requires.so_far below in
    let gone : gone_among v front c.args.at c.in-Some.left (followers_of c.args.op.now c.args.at) c.args.all.now ≡ Some c.go_on.new.all =
    ap (λ (l : Stack). gone_among v front c.args.at l (followers_of c.args.op.now c.args.at) c.args.all.now) (sym c.as_slice.ensures)
    ∙ sym (c.in_ok-go_on.ensures {u = tt}) ∙ ap (λ b. cond b (Some c.go_on.new.all) None) c.if-not-branch-2.false in
    let merges : any_follower (λ to. not (meets_well v (states_of v) c.args.at c.in-Some.left to)) c.args.op.now c.args.at ≡ false =
    merges_well v c.args.at c.args.op.now c.in-Some.left front c.args.all.now c.requires.is c.requires.knows same inside c.go_on.new.all gone in
    cause_of_merging v (states_of v) c.args.at c.args.op.now c.in-Some.left false good met leaves merges

pub returns-clause-knows : goal.returns-clause-knows
returns-clause-knows c =
    let v = view_of c.args.program.now c.args.method.now in
    let front = stacks_of c.args.states.now in
    let good : names_well v c.args.op.now ≡ true = sym (c.names_well.ensures c.args.method.now) ∙ c.if-not-names_well.false in
    let met : meets_all_bounds v c.args.op.now ≡ true = sym (c.in_ok-meets_all_bounds.ensures {u = tt}) ∙ c.if-not-branch.false in
    let low : c.args.at ≤ c.args.at = omega arith in
    let here : c.stack_at.result.now ≡ stack_at (states_of v) c.args.at = c.stack_at.ensures ∙ stack_in_front v c.args.at c.args.at front c.requires.so_far low in
    let leaves : left_by v c.args.op.now (stack_at (states_of v) c.args.at) ≡ Some c.in-Some.left =
    ap (left_by v c.args.op.now) (sym here) ∙ sym (c.in_ok-left.ensures {u = tt}) ∙ c.in-Some.is in
    let inside : leads_out (length c.args.all.now) c.args.op.now c.args.at ≡ false =
    subst (λ (n : ℕ). leads_out n c.args.op.now c.args.at ≡ false) (sym c.requires.knows.size) (c.requires.inside.inside c.args.at c.args.op.now c.requires.is) in
    let same : (to : ℕ) → to ≤ c.args.at → stack_at front to ≡ stack_at (states_of v) to = λ to below. stack_in_front v c.args.at to front c.requires.so_far below in
    let gone : gone_among v front c.args.at c.in-Some.left (followers_of c.args.op.now c.args.at) c.args.all.now ≡ Some c.go_on.new.all =
    ap (λ (l : Stack). gone_among v front c.args.at l (followers_of c.args.op.now c.args.at) c.args.all.now) (sym c.as_slice.ensures)
    ∙ sym (c.in_ok-go_on.ensures {u = tt}) ∙ ap (λ b. cond b (Some c.go_on.new.all) None) c.if-not-branch-2.false in
    (λ _. knows_next v c.args.at c.args.op.now c.in-Some.left front c.args.all.now c.requires.is c.requires.knows same inside c.go_on.new.all gone leaves)
