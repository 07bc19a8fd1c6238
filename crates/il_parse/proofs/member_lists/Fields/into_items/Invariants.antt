use Rattle.std.proofs.Common.{◌≡◌, ◌++◌, map}
use Rattle.il_parse.proofs.member_lists.Fields.into_items.Given as goal

abbrev pub invariant-loop-known : goal.invariant-loop-known
invariant-loop-known l = l.fields ++ map (λ k. k.field) l.known-iterator ≡ l.fn.self
