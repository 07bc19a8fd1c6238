-- The turn of each service. This project's own.
use Rattle.std.specs.Prelude.{ℕ, length, Option, Some, None}
use Rattle.rv_machine.specs.Registers.{register_of}
use Rattle.rgctx_fill.specs.declared.service.ServiceKind.{ServiceKind}
use Rattle.rgctx_fill.specs.declared.service.ServiceKind.TheVariants as service
use Rattle.rgctx_fill.specs.ThreadStates.{ImageData, ThreadData, Move}
use Rattle.rgctx_fill.specs.ServiceTable.{service_of}
use Rattle.rgctx_fill.specs.ServiceReplies.{refuses}
use Rattle.rgctx_fill.specs.CallServices.{calls, returns}
use Rattle.rgctx_fill.specs.ThrowServices.{raises, throws_word}
use Rattle.rgctx_fill.specs.FillServices.{fills}
use Rattle.rgctx_fill.specs.TypeServices.{finds_slot, judges_assignable, finds_element}
use Rattle.rgctx_fill.specs.StoreServices.{allocates, types_of, measures, loads, saves, exchanges, compares, adds, prints, starts, ends}

module _ (im : ImageData) (s : ThreadData) where
  -- what code hands over
  abbrev pub first : ℕ
  first = register_of s.core 10

  abbrev pub second : ℕ
  second = register_of s.core 11

  abbrev pub third : ℕ
  third = register_of s.core 12

  abbrev pub serves_as : ServiceKind → Move
  serves_as service.Call = calls im s first second third
  serves_as service.Return = returns s (length s.stack.bases)
  serves_as service.Raise = raises s first
  serves_as service.Throw = throws_word s im first
  serves_as service.Fill = fills im s first second
  serves_as service.FindSlot = finds_slot im s first second third
  serves_as service.Assignable = judges_assignable im s first second
  serves_as service.Element = finds_element im s first
  serves_as service.Alloc = allocates im s first second third
  serves_as service.TypeOf = types_of im s first
  serves_as service.Length = measures im s first
  serves_as service.Load = loads im s first
  serves_as service.Save = saves im s first second
  serves_as service.Exchange = exchanges im s first second
  serves_as service.CompareExchange = compares im s first second third
  serves_as service.Add = adds im s first second third
  serves_as service.Print = prints im s first second
  serves_as service.Start = starts im s first
  serves_as service.Ended = ends im s first

  abbrev pub serves_if : Option ServiceKind → Move
  serves_if None = refuses s
  serves_if (Some kind) = serves_as kind

-- the turn of the service with a number
abbrev pub serves : ImageData → ThreadData → ℕ → Move
serves im s number = serves_if im s (service_of number)
