-- Arguments of calls, and results. Only private contracts cite it.
use Rattle.std.specs.Prelude.{ℕ, ◌==◌, nat_le, List, [], ◌∷◌, ◌++◌, length, take, reverse, Option, Some, None, Ok}
use Rattle.type_tree.specs.declared.tree.TExpr.{TExpr}
use Rattle.il_model.specs.declared.program.Program.{Program}
use Rattle.il_model.specs.declared.method.PType.{PType}
use Rattle.il_model.specs.declared.layout.MethodTree.{MethodTree}
use Rattle.cil_meaning.specs.Naming.{put_type}
use Rattle.cil_meaning.specs.Values.{Value}
use Rattle.unshared.specs.declared.frames.Frames.{Frames as FramesHere}
use Rattle.unshared.specs.Held.{stack_of}
use Rattle.unshared.specs.Kept.{place_kept, value_kept}
use Rattle.unshared.specs.Operands.{value_at}
use Rattle.unshared.specs.Silent.{Silent, ◌>>=◌, stuck, where_so}

-- so many values from the top of the stack, the deepest first
unfoldable pub values_taken : FramesHere → ℕ → Silent (List Value)
values_taken f n = where_so (nat_le n (length (stack_of f))) (Ok (reverse (take n (stack_of f))))

-- there are so many values
unfoldable pub has_values : FramesHere → ℕ → Silent (Unit {0})
has_values f n = where_so (nat_le n (length (stack_of f))) (Ok tt)

-- the same behind others
unfoldable pub taken_behind : List Value → FramesHere → ℕ → Silent (List Value)
taken_behind front f n = do
  values ← values_taken f n
  Ok (front ++ values)

-- what places keep of as many values
unfoldable pub kept_from : Program → List PType → List Value → List Value → Silent (List Value)
kept_from p [] vs found = Ok found
kept_from p (t ∷ ts) [] found = stuck
kept_from p (t ∷ ts) (v ∷ vs) found = place_kept p t v >>= (λ u. kept_from p ts vs (found ++ u ∷ []))

unfoldable pub all_kept : Program → List PType → List Value → Silent (List Value)
all_kept p ts vs = where_so (length ts == length vs) (kept_from p ts vs [])

-- the result, as its type keeps it
unfoldable pub kept_result : Program → MethodTree → TExpr → FramesHere → Silent (List Value)
kept_result p m t f = do
  v ← value_at f 0
  u ← value_kept p (put_type m t) v
  Ok (u ∷ [])

abbrev pub result_kept : Program → MethodTree → FramesHere → Option TExpr → Silent (List Value)
result_kept p m f None = Ok []
result_kept p m f (Some t) = kept_result p m t f
