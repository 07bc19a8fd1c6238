use Rattle.std.proofs.Common.{◌≡◌, ◌++◌, map}
use Rattle.il_parse.proofs.literal_table.Literals.into_items.Given as goal

abbrev pub invariant-loop-text : goal.invariant-loop-text
invariant-loop-text l = l.texts ++ map (λ k. k.items) l.text-iterator ≡ l.fn.self
