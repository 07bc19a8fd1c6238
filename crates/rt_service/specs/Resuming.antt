-- Another frame goes on. This project's own.
use Rattle.std.specs.Prelude.{ℕ, ◌==◌, Bool, if◌then◌else◌, List, length, None}
use Rattle.il_model.specs.declared.method.PType.{PType}
use Rattle.store_object.specs.declared.request.Cause.TheVariants as cause
use Rattle.rgctx_words.specs.Frames.{frame_address, most_frames}
use Rattle.rgctx_words.specs.Stacks.{StackWords}
use Rattle.crossings.specs.declared.call.CallWords.{CallWords}
use Rattle.crossings.specs.Calls.{called}
use Rattle.rv_machine.specs.Registers.{with_register, at_pc}
use Rattle.rgctx_fill.specs.declared.doing.Doing.{Doing}
use Rattle.rgctx_fill.specs.declared.doing.Doing.TheVariants.{Interprets, Stops}
use Rattle.rgctx_fill.specs.declared.image.FrameCount.{FrameCount}
use Rattle.rgctx_fill.specs.ThreadStates.{ThreadData, with_stack, now_doing}
use Rattle.rgctx_fill.specs.CallServices.{with_kept, with_object_pointer}

-- the frame at an address goes on, at a pc: x8 has the address
abbrev pub resumed : ThreadData → ℕ → ℕ → Doing → ThreadData
resumed s address pc doing = record { core = at_pc (with_register s.core 8 address) pc; stack = s.stack; doing = doing }

-- the stack with the frame of an interpreted callee on top, whose places keep the arguments
abbrev pub with_interpreted : StackWords → CallWords → FrameCount → List PType → List ℕ → Bool → StackWords
with_interpreted s call count places widths is_struct =
    with_object_pointer is_struct (length s.words) (with_kept (length s.words) 0 places (called s call None count.places count.list widths))

-- the interpreter goes on, or the run is to stop
abbrev pub entered_interpreted : ThreadData → CallWords → FrameCount → List PType → List ℕ → Bool → ThreadData
entered_interpreted s call count places widths is_struct =
    if length s.stack.bases == most_frames then now_doing s (Stops cause.Depth)
    else resumed (with_stack s (with_interpreted s.stack call count places widths is_struct)) (frame_address (length s.stack.words)) s.core.pc Interprets
