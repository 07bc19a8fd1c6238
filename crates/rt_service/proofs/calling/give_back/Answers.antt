use Rattle.std.proofs.Common.{◌≡◌, ◌≢◌, refl, sym, ap, ◌∙◌, subst, length}
use Rattle.interaction.specs.declared.turn.What.TheVariants as noted
use Rattle.rgctx_words.specs.Stacks.{StackWords}
use Rattle.crossings.specs.Returns.{HasCaller}
use Rattle.rgctx_fill.specs.declared.doing.Doing.TheVariants.{Runs, Interprets, Finishes}
use Rattle.rgctx_fill.specs.declared.thread.Want.TheVariants as answers
use Rattle.rgctx_fill.specs.ThreadStates.{ThreadData}
use Rattle.rgctx_fill.specs.CallServices.{returns}
use Rattle.rgctx_fill.specs.Moves.{IsMade}
use Rattle.rt_service.specs.Refusals.{refused}
use Rattle.rt_service.specs.Resuming.{resumed}
use Rattle.rt_service.proofs.ReturnLemmas.{refuses_to_return, finishes_first, returns_to_caller, machine_goes, interpreter_goes}
use Rattle.rt_service.proofs.calling.give_back.Goals as goal

pub returns-then-not-has_caller : goal.returns-then-not-has_caller
returns-then-not-has_caller c = λ cat h kept.
    let s : ThreadData = record { core = c.state.inside.core; stack = c.state.inside.stack; doing = c.state.inside.doing } in
    let none : ¬ (HasCaller s.stack) = λ has. let yes = c.has_caller.ensures.1 has in let no = c.if-not-has_caller.true in cc in
    subst (λ w. IsMade cat h c.args.state.now (returns c.args.state.now (length c.args.state.now.stack.bases)) w c.args.state.now) (sym c.refuse.ensures)
    (subst (λ (v : ThreadData). IsMade cat h v (returns v (length v.stack.bases)) (refused v) v) c.state.view_is (refuses_to_return cat h s kept (length s.stack.bases) refl none))

pub returns-in-Machine : goal.returns-in-Machine
returns-in-Machine c = λ cat h kept.
    let s : ThreadData = record { core = c.state.inside.core; stack = c.state.inside.stack; doing = c.state.inside.doing } in
    let has : HasCaller s.stack = c.has_caller.ensures.0 c.if-not-has_caller.false in
    let more : length s.stack.bases ≢ 1 = λ one. let last = c.leave.ensures.last.1 one in let other = c.in-Machine.is in cc in
    subst (λ (v : ThreadData). IsMade cat h v (returns v (length v.stack.bases)) (answers.Did noted.Action) c.resume.new.state) c.state.view_is
    (returns_to_caller cat h s kept (length s.stack.bases) refl more has (answers.Did noted.Action) c.resume.new.state
    (λ level is. record {
      says = refl;
      state = c.resume.ensures
          ∙ ap (λ a. resumed (record { core = c.state.inside.core; stack = c.leave.new.stack; doing = c.state.inside.doing }) a c.in-Machine.pc Runs) c.current_address-address.ensures
          ∙ machine_goes s c.leave.new.stack level is (c.leave.ensures.frames level more is) c.in-Machine.pc (sym c.leave.ensures.answer ∙ c.in-Machine.is);
      claims = kept;
    }))

pub returns-in-Interp : goal.returns-in-Interp
returns-in-Interp c = λ cat h kept.
    let s : ThreadData = record { core = c.state.inside.core; stack = c.state.inside.stack; doing = c.state.inside.doing } in
    let has : HasCaller s.stack = c.has_caller.ensures.0 c.if-not-has_caller.false in
    let more : length s.stack.bases ≢ 1 = λ one. let last = c.leave.ensures.last.1 one in let other = c.in-Interp.is in cc in
    subst (λ (v : ThreadData). IsMade cat h v (returns v (length v.stack.bases)) (answers.Did noted.Action) c.resume-in-Interp.new.state) c.state.view_is
    (returns_to_caller cat h s kept (length s.stack.bases) refl more has (answers.Did noted.Action) c.resume-in-Interp.new.state
    (λ level is. record {
      says = refl;
      state = c.resume-in-Interp.ensures
          ∙ ap (λ a. resumed (record { core = c.state.inside.core; stack = c.leave.new.stack; doing = c.state.inside.doing }) a c.state.inside.core.pc Interprets) c.current_address-address-in-Interp.ensures
          ∙ interpreter_goes s c.leave.new.stack level is (c.leave.ensures.frames level more is) (sym c.leave.ensures.answer ∙ c.in-Interp.is);
      claims = kept;
    }))

pub returns-in-Last : goal.returns-in-Last
returns-in-Last c = λ cat h kept.
    let s : ThreadData = record { core = c.state.inside.core; stack = c.state.inside.stack; doing = c.state.inside.doing } in
    let one : length s.stack.bases ≡ 1 = c.leave.ensures.last.0 c.in-Last.is in
    subst (λ (v : ThreadData). IsMade cat h v (returns v (length v.stack.bases)) (answers.Did noted.Action) (record { core = c.state.inside.core; stack = c.leave.new.stack; doing = Finishes })) c.state.view_is
    (subst (λ (x : StackWords). IsMade cat h s (returns s (length s.stack.bases)) (answers.Did noted.Action) (record { core = c.state.inside.core; stack = x; doing = Finishes })) (sym (c.leave.ensures.first one))
    (finishes_first cat h s kept (length s.stack.bases) refl one))
