-- Where pointers lead. This project's own.
use Rattle.std.specs.Prelude.{ℕ, ◌<◌, ◌/◌, ◌%◌, ◌^◌, ◌&&◌, nat_lt, if◌then◌else◌, length, Option, Some, None}
use Rattle.store_object.specs.declared.place.Place.TheVariants as at
use Rattle.rgctx_words.specs.Stacks.{StackWords}
use Rattle.rgctx_fill.specs.StoreServices.{past_32}
use Rattle.rt_service.specs.declared.pointing.Target.{Target}
use Rattle.rt_service.specs.declared.pointing.Target.TheVariants as target

abbrev pub frame_target : Option ℕ → Target
frame_target None = target.Refused
frame_target (Some i) = target.Frame i

-- a place of an object, by what is left of the pointer
abbrev pub object_target : ℕ → Target
object_target low =
    if nat_lt 0 (low / 2 ^ 24) && nat_lt (low / 2 ^ 24) past_32 then target.Store (at.Object (low / 2 ^ 24) (low % 2 ^ 24)) else target.Refused

-- the index is one of the frames' words
abbrev pub IsInside : StackWords → Target → Type 0
IsInside stack (target.Frame i) = i < length stack.words
IsInside stack (target.Store place) = Unit {0}
IsInside stack (target.Unread i) = Unit {0}
IsInside stack target.Refused = Unit {0}
