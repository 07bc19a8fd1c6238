use Rattle.std.proofs.Common.{◌≡◌, ◌∙◌, ◌<◌, ◌+◌, ℕ, true, cond, List, length, Some, None, sym, ap, subst}
use Rattle.std.proofs.lemmas.Result.{IfOk-weaker}
use Rattle.cil_flow.specs.Control.{falls, control_at}
use Rattle.cil_verify.specs.Places.{view_of}
use Rattle.cil_verify.specs.Arrivals.{stacks_of, gone_among}
use Rattle.cil_verify.proofs.ArrivalLemmas.{targets_stop, next_is_last, next_inside}
use Rattle.cil_verify.proofs.arrival.go_on.Goals as goal

pub returns-then-not-branch : goal.returns-then-not-branch
returns-then-not-branch c =
    targets_stop (view_of c.args.program.now c.args.method.now) (stacks_of c.args.states.now) c.args.at c.args.left.now c.args.op.now c.args.all.now (ap (λ (ts : List ℕ). gone_among (view_of c.args.program.now c.args.method.now) (stacks_of c.args.states.now) c.args.at c.args.left.now ts c.args.all.now) (sym c.targets_of.ensures) ∙ sym ((c.in_ok-go_among.ensures {u = tt}).stack) ∙ ap (λ b. cond b (Some c.go_among.new.all) None) c.if-not-branch.true)

pub go_on_to-requires-clause-within : goal.go_on_to-requires-clause-within
go_on_to-requires-clause-within c =
    let goes : falls (control_at c.args.op.now) ≡ true = ap falls (sym c.control_of.ensures) ∙ sym c.falls.ensures ∙ c.if-falls.true in
    let inside : c.args.at + 1 < length c.args.all.now = next_inside (length c.args.all.now) c.args.at c.args.op.now c.requires.within goes in
    subst (λ (n : ℕ). c.args.at + 1 < n) (sym ((c.in_ok-go_among.ensures {u = tt}).size)) inside

pub returns-then-falls : goal.returns-then-falls
returns-then-falls c =
    let goes : falls (control_at c.args.op.now) ≡ true = ap falls (sym c.control_of.ensures) ∙ sym c.falls.ensures ∙ c.if-falls.true in
    IfOk-weaker c.go_on_to.result _ _
    (λ agreed is. is ∙ next_is_last (view_of c.args.program.now c.args.method.now) (stacks_of c.args.states.now) c.args.at c.args.left.now c.args.op.now c.args.all.now c.go_among.new.all (ap (λ (ts : List ℕ). gone_among (view_of c.args.program.now c.args.method.now) (stacks_of c.args.states.now) c.args.at c.args.left.now ts c.args.all.now) (sym c.targets_of.ensures) ∙ sym ((c.in_ok-go_among.ensures {u = tt}).stack) ∙ ap (λ b. cond b (Some c.go_among.new.all) None) c.if-not-branch.false) goes)
    c.go_on_to.ensures.stack
