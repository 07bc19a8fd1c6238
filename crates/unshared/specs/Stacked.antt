-- What instructions on the stack alone come to. Only private contracts cite it.
use Rattle.std.specs.Prelude.{[], ◌∷◌, Ok}
use Rattle.cil_meaning.specs.Groups.{StackForm, Rests, Copies, Drops, Pushes}
use Rattle.unshared.specs.declared.frames.Frames.{Frames as FramesHere}
use Rattle.unshared.specs.Going.{Did, goes_on}
use Rattle.unshared.specs.Operands.{value_at}
use Rattle.unshared.specs.Silent.{Silent, ◌>>=◌}

abbrev pub stacks : StackForm → FramesHere → Silent Did
stacks Rests f = Ok (goes_on f 0 [])
stacks Copies f = value_at f 0 >>= (λ v. Ok (goes_on f 0 (v ∷ [])))
stacks Drops f = value_at f 0 >>= (λ v. Ok (goes_on f 1 []))
stacks (Pushes v) f = Ok (goes_on f 0 (v ∷ []))
