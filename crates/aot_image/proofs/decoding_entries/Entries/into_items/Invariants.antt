use Rattle.std.proofs.Common.{◌≡◌, ◌++◌, map}
use Rattle.aot_image.proofs.decoding_entries.Entries.into_items.Given as goal

abbrev pub invariant-loop-known : goal.invariant-loop-known
invariant-loop-known l = l.entries ++ map (λ k. k.entry) l.known-iterator ≡ l.fn.self
