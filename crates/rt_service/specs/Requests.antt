-- Which services are requests. This project's own.
use Rattle.std.specs.Prelude.{Bool, true, false}
use Rattle.rgctx_fill.specs.declared.service.ServiceKind.{ServiceKind}
use Rattle.rgctx_fill.specs.declared.service.ServiceKind.TheVariants as service

-- whether a service is one request, or one action in its place
abbrev pub is_request : ServiceKind → Bool
is_request service.Call = false
is_request service.Return = false
is_request service.Raise = false
is_request service.Throw = false
is_request service.Fill = false
is_request service.FindSlot = false
is_request service.Assignable = false
is_request service.Element = false
is_request service.Alloc = true
is_request service.TypeOf = true
is_request service.Length = true
is_request service.Load = true
is_request service.Save = true
is_request service.Exchange = true
is_request service.CompareExchange = true
is_request service.Add = true
is_request service.Print = true
is_request service.Start = true
is_request service.Ended = true
