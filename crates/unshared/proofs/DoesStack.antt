-- Instructions on the stack alone, against what they come to.
use Rattle.std.proofs.Common.{◌≡◌, ◌∙◌, ◌+◌, List, [], ◌∷◌, drop, Some, Ok, slice_get, sym, ap, add-one}
use Rattle.type_tree.specs.declared.tree.TExpr.{TExpr}
use Rattle.il_model.specs.declared.program.Program.{Program}
use Rattle.il_model.specs.declared.method.MethodDef.{MethodDef}
use Rattle.interaction.specs.Process.{Naming, Next}
use Rattle.cil_meaning.specs.Naming.{Mention}
use Rattle.cil_meaning.specs.Values.{Value}
use Rattle.cil_meaning.specs.Site.{goes}
use Rattle.cil_meaning.specs.Groups.{StackForm, Rests, Copies, Drops, Pushes}
use Rattle.cil_meaning.specs.Places as meant
use Rattle.unshared.specs.declared.frames.Frames.{Frames as FramesHere}
use Rattle.unshared.specs.Going.{went, goes_on}
use Rattle.unshared.specs.Held.{stack_of, site_of}
use Rattle.unshared.specs.Operands.{value_at}
use Rattle.unshared.specs.Stacked.{stacks}
use Rattle.unshared.specs.Talk.{say}
use Rattle.unshared.proofs.Doing.{Does, does_as, does_pop, does_so}
use Rattle.unshared.proofs.Sayings.{said_both}

pub top_is : (stack : List Value) (v : Value) → slice_get stack 0 ≡ Some v → stack ≡ v ∷ drop 1 stack
top_is [] v e = absurd (cc e)
top_is (x ∷ rest) v e = let same : x ≡ v = cc e in ap (λ z. z ∷ rest) same

module _ (n : Naming Mention TExpr) (p : Program) (d : MethodDef) (f : FramesHere) where
  -- on to the next instruction
  pub next_is : (stack : List Value) → goes (site_of d f) stack ≡ Next (went f (f.top.at + 1) stack)
  next_is stack = ap (λ k. Next (went f k stack)) (sym (add-one f.top.at))

  pub does_stacks : (form : StackForm) → Does n p (site_of d f) (meant.stacks (site_of d f) form (stack_of f)) (say (stacks form f))
  does_stacks Rests = does_so n p (site_of d f) (goes (site_of d f) (stack_of f)) (goes_on f 0 []) (next_is (stack_of f))
  does_stacks Copies =
      does_as n p (site_of d f) (meant.stacks (site_of d f) Copies (stack_of f)) (say (stacks Copies f)) _ (said_both (value_at f 0) (λ v. Ok (goes_on f 0 (v ∷ []))))
      (does_pop n p (site_of d f) f 0 (λ v vs. goes (site_of d f) (v ∷ v ∷ vs)) (λ v. say (Ok (goes_on f 0 (v ∷ []))))
      (λ v e. does_so n p (site_of d f) (goes (site_of d f) (v ∷ v ∷ drop 1 (stack_of f))) (goes_on f 0 (v ∷ []))
      (next_is (v ∷ v ∷ drop 1 (stack_of f)) ∙ ap (λ l. Next (went f (f.top.at + 1) (v ∷ l))) (sym (top_is (stack_of f) v e)))))
  does_stacks Drops =
      does_as n p (site_of d f) (meant.stacks (site_of d f) Drops (stack_of f)) (say (stacks Drops f)) _ (said_both (value_at f 0) (λ v. Ok (goes_on f 1 [])))
      (does_pop n p (site_of d f) f 0 (λ v vs. goes (site_of d f) vs) (λ v. say (Ok (goes_on f 1 [])))
      (λ v e. does_so n p (site_of d f) (goes (site_of d f) (drop 1 (stack_of f))) (goes_on f 1 []) (next_is (drop 1 (stack_of f)))))
  does_stacks (Pushes v) = does_so n p (site_of d f) (goes (site_of d f) (v ∷ stack_of f)) (goes_on f 0 (v ∷ [])) (next_is (v ∷ stack_of f))
