use Rattle.std.proofs.Common.{◌≡◌, ◌≢◌, ◌+◌, None, sym, ap, ◌∙◌, arith, length}
use Rattle.rgctx_words.specs.Frames.{interpreted_length, most_frames}
use Rattle.rgctx_words.specs.Stacks.{StackWords}
use Rattle.crossings.specs.declared.call.Entered.TheVariants.{Interp}
use Rattle.crossings.specs.Calls.{entered_as}
use Rattle.rgctx_fill.specs.ThreadStates.{ThreadData}
use Rattle.rt_service.proofs.CallLemmas.{after_count, few_frames, kept_count}
use Rattle.rt_service.proofs.calling.enter_interpreter.Goals as goal

pub keep_arguments-requires-clause-room : goal.keep_arguments-requires-clause-room
keep_arguments-requires-clause-room c =
    let s : ThreadData = record { core = c.state.inside.core; stack = c.state.inside.stack; doing = c.state.inside.doing } in
    let e : entered_as s.stack None ≡ Interp = sym (c.in_ok-enter.ensures {u = tt}).answer ∙ c.in-Interp.is in
    let count : length c.enter.new.stack.words ≡ length c.state.inside.stack.words + interpreted_length c.args.count.places c.args.count.list =
    after_count s c.args.call.now c.args.count c.args.widths.now c.enter.new.stack e (c.in_ok-enter.ensures {u = tt}).frames in
    let base = c.end-base.ensures.count in
    let few = c.requires.few in
    omega arith

pub keep_arguments-requires-clause-within : goal.keep_arguments-requires-clause-within
keep_arguments-requires-clause-within c =
    let s : ThreadData = record { core = c.state.inside.core; stack = c.state.inside.stack; doing = c.state.inside.doing } in
    let e : entered_as s.stack None ≡ Interp = sym (c.in_ok-enter.ensures {u = tt}).answer ∙ c.in-Interp.is in
    let count : length c.enter.new.stack.words ≡ length c.state.inside.stack.words + interpreted_length c.args.count.places c.args.count.list =
    after_count s c.args.call.now c.args.count c.args.widths.now c.enter.new.stack e (c.in_ok-enter.ensures {u = tt}).frames in
    let small = c.end-base.ensures.shape.small in
    let most = c.end-base.ensures.shape.few in
    let other : length c.state.inside.stack.bases ≢ most_frames = few_frames s c.args.call.now c.args.count c.args.widths.now c.enter.new.stack e in
    let places = c.requires.places in
    let list = c.requires.list in
    omega arith

pub point_to_object-requires-clause-room : goal.point_to_object-requires-clause-room
point_to_object-requires-clause-room c =
    let s : ThreadData = record { core = c.state.inside.core; stack = c.state.inside.stack; doing = c.state.inside.doing } in
    let e : entered_as s.stack None ≡ Interp = sym (c.in_ok-enter.ensures {u = tt}).answer ∙ c.in-Interp.is in
    let count : length c.enter.new.stack.words ≡ length c.state.inside.stack.words + interpreted_length c.args.count.places c.args.count.list =
    after_count s c.args.call.now c.args.count c.args.widths.now c.enter.new.stack e (c.in_ok-enter.ensures {u = tt}).frames in
    let kept : length c.keep_arguments.new.stack.words ≡ length c.enter.new.stack.words = ap (λ (t : StackWords). length t.words) c.keep_arguments.ensures ∙ kept_count c.end-base.result 0 c.args.places.now c.enter.new.stack in
    let base = c.end-base.ensures.count in
    omega arith

pub point_to_object-requires-clause-within : goal.point_to_object-requires-clause-within
point_to_object-requires-clause-within c =
    let s : ThreadData = record { core = c.state.inside.core; stack = c.state.inside.stack; doing = c.state.inside.doing } in
    let e : entered_as s.stack None ≡ Interp = sym (c.in_ok-enter.ensures {u = tt}).answer ∙ c.in-Interp.is in
    let count : length c.enter.new.stack.words ≡ length c.state.inside.stack.words + interpreted_length c.args.count.places c.args.count.list =
    after_count s c.args.call.now c.args.count c.args.widths.now c.enter.new.stack e (c.in_ok-enter.ensures {u = tt}).frames in
    let kept : length c.keep_arguments.new.stack.words ≡ length c.enter.new.stack.words = ap (λ (t : StackWords). length t.words) c.keep_arguments.ensures ∙ kept_count c.end-base.result 0 c.args.places.now c.enter.new.stack in
    let small = c.end-base.ensures.shape.small in
    let most = c.end-base.ensures.shape.few in
    let other : length c.state.inside.stack.bases ≢ most_frames = few_frames s c.args.call.now c.args.count c.args.widths.now c.enter.new.stack e in
    let places = c.requires.places in
    let list = c.requires.list in
    omega arith
