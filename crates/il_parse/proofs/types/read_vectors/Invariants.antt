use Rattle.std.proofs.Common.{◌≡◌, length}
use Rattle.il_parse.specs.Types.{read_vectors}
use Rattle.il_parse.proofs.types.read_vectors.Given as goal

abbrev pub invariant-loop-alloc : goal.invariant-loop-alloc
invariant-loop-alloc l = read_vectors l.fn.element l.fn.most l.fn.cursor ≡ read_vectors l.kind l.left l.cursor

abbrev pub decreases-loop-alloc : goal.decreases-loop-alloc
decreases-loop-alloc l = length l.cursor
