use Rattle.std.proofs.Common.{◌≡◌, length}
use Rattle.aot_image.specs.ChoosingTypes.{read_vectors}
use Rattle.aot_image.proofs.choice_types.read_vectors.Given as goal

abbrev pub invariant-vectors : goal.invariant-vectors
invariant-vectors l = read_vectors l.fn.element l.fn.cursor ≡ read_vectors l.kind l.cursor

abbrev pub decreases-vectors : goal.decreases-vectors
decreases-vectors l = length l.cursor
