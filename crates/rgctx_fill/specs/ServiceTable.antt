-- The services by the number in x17. This project's own.
use Rattle.std.specs.Prelude.{ℕ, ◌==◌, nat_lt, if◌then◌else◌, Option, Some, None}
use Rattle.rgctx_fill.specs.declared.service.ServiceKind.{ServiceKind}
use Rattle.rgctx_fill.specs.declared.service.ServiceKind.TheVariants as service

-- calls, throws, fills and types
abbrev pub low_service : ℕ → Option ServiceKind
low_service n =
    if n == 1 then Some service.Call
    else (if n == 2 then Some service.Return
    else (if n == 3 then Some service.Raise
    else (if n == 4 then Some service.Throw
    else (if n == 5 then Some service.Fill
    else (if n == 6 then Some service.FindSlot
    else (if n == 7 then Some service.Assignable
    else (if n == 8 then Some service.Element
    else None)))))))

-- requests
abbrev pub high_service : ℕ → Option ServiceKind
high_service n =
    if n == 16 then Some service.Alloc
    else (if n == 17 then Some service.TypeOf
    else (if n == 18 then Some service.Length
    else (if n == 19 then Some service.Load
    else (if n == 20 then Some service.Save
    else (if n == 21 then Some service.Exchange
    else (if n == 22 then Some service.CompareExchange
    else (if n == 23 then Some service.Add
    else (if n == 24 then Some service.Print
    else (if n == 25 then Some service.Start
    else (if n == 26 then Some service.Ended
    else None))))))))))

-- the service with a number, where the table has it
abbrev pub service_of : ℕ → Option ServiceKind
service_of n = if nat_lt n 16 then low_service n else high_service n
