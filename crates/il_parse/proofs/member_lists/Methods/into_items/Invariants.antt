use Rattle.std.proofs.Common.{◌≡◌, ◌++◌, map}
use Rattle.il_parse.specs.Signatures.{method_of}
use Rattle.il_parse.proofs.member_lists.Methods.into_items.Given as goal

abbrev pub invariant-loop-signature : goal.invariant-loop-signature
invariant-loop-signature l = l.methods ++ map method_of l.signature-iterator ≡ l.fn.self
