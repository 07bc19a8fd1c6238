use Rattle.std.proofs.Common.{◌≡◌, ◌==◌, if◌then◌else◌, Some, refl, sym, ap, ◌∙◌, length}
use Rattle.store_object.specs.declared.request.Cause.TheVariants as cause
use Rattle.rgctx_words.specs.Frames.{most_frames}
use Rattle.crossings.specs.declared.call.Entered.TheVariants.{Machine}
use Rattle.crossings.specs.Calls.{entered_as}
use Rattle.rgctx_fill.specs.declared.doing.Doing.TheVariants.{Stops}
use Rattle.rgctx_fill.specs.ThreadStates.{ImageData, ThreadData, image_of, now_doing}
use Rattle.rgctx_fill.specs.CallServices.{call_words, calls_body}
use Rattle.rt_service.proofs.CallLemmas.{body_state}
use Rattle.rt_service.proofs.calling.call_body.Goals as goal

pub returns-in-Machine : goal.returns-in-Machine
returns-in-Machine c = λ cat h kept.
    let im : ImageData = image_of c.args.image.now in
    let s : ThreadData = record { core = c.state.inside.core; stack = c.state.inside.stack; doing = c.state.inside.doing } in
    let e : entered_as s.stack (Some c.args.row.now) ≡ Machine c.in-Machine.pc = sym (c.in_ok-pc.ensures {u = tt}).answer ∙ c.in-Machine.is in
    record {
      says = refl;
      state = c.resume.ensures
          ∙ body_state im s c.args.node c.args.target c.args.list c.args.row.now c.call_words-call.result c.enter.new.stack c.end-base.result c.frame_address.result c.in-Machine.pc
          (c.call_words-call.ensures im ∙ ap (λ (v : ThreadData). call_words im v c.args.node c.args.target c.args.list) (sym c.state.view_is))
          e (c.in_ok-pc.ensures {u = tt}).frames c.end-base.ensures.count c.frame_address.ensures.address
          ∙ ap (λ (v : ThreadData). if length v.stack.bases == most_frames then now_doing v (Stops cause.Depth) else calls_body im v c.args.node c.args.target c.args.list c.args.row.now) c.state.view_is;
      claims = kept;
    }
