-- Shifts, instructions on one number, and branches by words, against what they come to.
use Rattle.std.proofs.Common.{◌≡◌, ℕ, Bool, true, false, List, [], ◌∷◌, drop, Option, Some, None, Ok, if◌then◌else◌, slice_get, refl}
use Rattle.type_tree.specs.declared.tree.TExpr.{TExpr}
use Rattle.il_model.specs.declared.program.Program.{Program}
use Rattle.il_model.specs.declared.method.MethodDef.{MethodDef}
use Rattle.interaction.specs.Process.{Naming, Stuck}
use Rattle.cil_meaning.specs.Naming.{Mention}
use Rattle.cil_meaning.specs.Replies.{Left}
use Rattle.cil_meaning.specs.Values.{Kind, Value, Plain, is_int32, is_struct}
use Rattle.cil_meaning.specs.Site.{Site, goes}
use Rattle.cil_meaning.specs.Pieces.{pops, as_word}
use Rattle.cil_meaning.specs.Groups.{Shift, Shifts, Unary, Turns, JumpsWhere, Chooses}
use Rattle.cil_meaning.specs.Arithmetic.{Width, Narrow, Wide, kind_at, at_width, same_width, shifted_by, turned, calculates}
use Rattle.cil_meaning.specs.Branches as told
use Rattle.cil_meaning.specs.Branches.{is_taken, branches}
use Rattle.unshared.specs.declared.frames.Frames.{Frames as FramesHere}
use Rattle.unshared.specs.Branched.{jumps_if, jumps_where, chosen, chooses}
use Rattle.unshared.specs.Calculated.{width_of, is_width, one_word, two_words, number_at, shifts, turns}
use Rattle.unshared.specs.Going.{Did, goes_on}
use Rattle.unshared.specs.Held.{stack_of, site_of}
use Rattle.unshared.specs.Operands.{value_at, word_of}
use Rattle.unshared.specs.Silent.{where_so, stuck}
use Rattle.unshared.specs.Talk.{Talk, ◌>>=◌, say}
use Rattle.unshared.proofs.DoesNumbers.{does_two_words}
use Rattle.unshared.proofs.DoesStack.{next_is}
use Rattle.unshared.proofs.Doing.{Does, finish, does_mute, does_pop, does_so, does_stuck, does_silently, does_at_last}
use Rattle.unshared.proofs.MuteOperands.{mute_word, mute_width}
use Rattle.unshared.proofs.Sayings.{after}

module _ (n : Naming Mention TExpr) (p : Program) (d : MethodDef) (f : FramesHere) where
  abbrev s : Site
  s = site_of d f

  does_narrow : (w : Width) (q : Left) (did : Did) → q ≡ finish p s did → Does n p s (same_width w Narrow q) (say (where_so (is_width w Narrow) (Ok did)))
  does_narrow Narrow q did e = does_so n p s q did e
  does_narrow Wide q did e = does_stuck n p s

  shifted_here : Shift → Width → ℕ → ℕ → Did
  shifted_here form width a b = goes_on f 2 (number_at width (shifted_by form width a b))

  pub does_shifts : (form : Shift) → Does n p s (calculates p s (Shifts form) (stack_of f)) (say (shifts form f))
  unfolding shifts shifted_here
  does_shifts form =
      does_at_last n p s (calculates p s (Shifts form) (stack_of f)) (two_words f) (λ t. after (width_of t.0 t.1) (λ width. after (width_of t.2 t.3) (λ other. where_so (is_width other Narrow) (Ok (shifted_here form width t.1 t.3)))))
      (does_two_words n p d f (λ ka a kb b vs. at_width ka a (λ width. at_width kb b (λ other. same_width other Narrow (goes s (Plain (kind_at width) (shifted_by form width a b ∷ []) ∷ vs)))))
      (λ t. say (after (width_of t.0 t.1) (λ width. after (width_of t.2 t.3) (λ other. where_so (is_width other Narrow) (Ok (shifted_here form width t.1 t.3))))))
      (λ t. does_at_last n p s _ (width_of t.0 t.1) (λ width. after (width_of t.2 t.3) (λ other. where_so (is_width other Narrow) (Ok (shifted_here form width t.1 t.3))))
      (does_mute n p s (at_width t.0 t.1) (λ width. at_width t.2 t.3 (λ other. same_width other Narrow (goes s (Plain (kind_at width) (shifted_by form width t.1 t.3 ∷ []) ∷ drop 2 (stack_of f))))) (width_of t.0 t.1)
      (λ width. say (after (width_of t.2 t.3) (λ other. where_so (is_width other Narrow) (Ok (shifted_here form width t.1 t.3))))) (mute_width t.0 t.1)
      (λ width. does_at_last n p s _ (width_of t.2 t.3) (λ other. where_so (is_width other Narrow) (Ok (shifted_here form width t.1 t.3)))
      (does_mute n p s (at_width t.2 t.3) (λ other. same_width other Narrow (goes s (Plain (kind_at width) (shifted_by form width t.1 t.3 ∷ []) ∷ drop 2 (stack_of f)))) (width_of t.2 t.3)
      (λ other. say (where_so (is_width other Narrow) (Ok (shifted_here form width t.1 t.3)))) (mute_width t.2 t.3)
      (λ other. does_narrow other (goes s (Plain (kind_at width) (shifted_by form width t.1 t.3 ∷ []) ∷ drop 2 (stack_of f))) (shifted_here form width t.1 t.3)
      (next_is n p d f (Plain (kind_at width) (shifted_by form width t.1 t.3 ∷ []) ∷ drop 2 (stack_of f)))))))))

  -- One word. ------------------------------------------------------------------

  pub does_one_word : (next : Kind → ℕ → List Value → Left) (then_ : Kind × ℕ → Talk Did) → ((t : Kind × ℕ) → Does n p s (next t.0 t.1 (drop 1 (stack_of f))) (then_ t)) →
      Does n p s (pops (stack_of f) (λ v vs. as_word v (λ kind w. next kind w vs))) (say (one_word f) >>= then_)
  unfolding one_word
  does_one_word next then_ more =
      does_silently n p s (pops (stack_of f) (λ v vs. as_word v (λ kind w. next kind w vs))) (value_at f 0) word_of then_
      (does_pop n p s f 0 (λ v vs. as_word v (λ kind w. next kind w vs)) (λ v. say (word_of v) >>= then_)
      (λ v e. does_mute n p s (λ k. as_word v (λ kind w. k (kind, w))) (λ t. next t.0 t.1 (drop 1 (stack_of f))) (word_of v) then_ (mute_word v) more))

  turned_here : Unary → Width → ℕ → Did
  turned_here form width w = goes_on f 1 (number_at width (turned form width w))

  pub does_turns : (form : Unary) → Does n p s (calculates p s (Turns form) (stack_of f)) (say (turns form f))
  unfolding turns turned_here
  does_turns form =
      does_at_last n p s (calculates p s (Turns form) (stack_of f)) (one_word f) (λ t. after (width_of t.0 t.1) (λ width. Ok (turned_here form width t.1)))
      (does_one_word (λ kind w vs. at_width kind w (λ width. goes s (Plain (kind_at width) (turned form width w ∷ []) ∷ vs))) (λ t. say (after (width_of t.0 t.1) (λ width. Ok (turned_here form width t.1))))
      (λ t. does_at_last n p s _ (width_of t.0 t.1) (λ width. Ok (turned_here form width t.1))
      (does_mute n p s (at_width t.0 t.1) (λ width. goes s (Plain (kind_at width) (turned form width t.1 ∷ []) ∷ drop 1 (stack_of f))) (width_of t.0 t.1) (λ width. say (Ok (turned_here form width t.1))) (mute_width t.0 t.1)
      (λ width. does_so n p s (goes s (Plain (kind_at width) (turned form width t.1 ∷ []) ∷ drop 1 (stack_of f))) (turned_here form width t.1) (next_is n p d f (Plain (kind_at width) (turned form width t.1 ∷ []) ∷ drop 1 (stack_of f)))))))

  -- Branches. ------------------------------------------------------------------

  jumps_is : (taken : Bool) (to count : ℕ) → told.jumps_if s taken to (drop count (stack_of f)) ≡ finish p s (jumps_if f taken to count)
  jumps_is true to count = refl
  jumps_is false to count = next_is n p d f (drop count (stack_of f))

  does_jump : (is_it : Bool) (is_true : Bool) (w to : ℕ) → Does n p s (if is_it then Stuck else told.jumps_if s (is_taken is_true w) to (drop 1 (stack_of f))) (say (if is_it then stuck else Ok (jumps_if f (is_taken is_true w) to 1)))
  does_jump true is_true w to = does_stuck n p s
  does_jump false is_true w to = does_so n p s (told.jumps_if s (is_taken is_true w) to (drop 1 (stack_of f))) (jumps_if f (is_taken is_true w) to 1) (jumps_is (is_taken is_true w) to 1)

  pub does_jumps_where : (is_true : Bool) (to : ℕ) → Does n p s (branches s (JumpsWhere is_true to) (stack_of f)) (say (jumps_where is_true to f))
  unfolding jumps_where
  does_jumps_where is_true to =
      does_at_last n p s (branches s (JumpsWhere is_true to) (stack_of f)) (one_word f) (λ t. if is_struct t.0 then stuck else Ok (jumps_if f (is_taken is_true t.1) to 1))
      (does_one_word (λ kind w vs. if is_struct kind then Stuck else told.jumps_if s (is_taken is_true w) to vs) (λ t. say (if is_struct t.0 then stuck else Ok (jumps_if f (is_taken is_true t.1) to 1)))
      (λ t. does_jump (is_struct t.0) is_true t.1 to))

  chosen_is : (o : Option ℕ) → told.chooses s o (drop 1 (stack_of f)) ≡ finish p s (chosen f o)
  chosen_is (Some to) = refl
  chosen_is None = next_is n p d f (drop 1 (stack_of f))

  does_choice : (is_it : Bool) (targets : List ℕ) (w : ℕ) → Does n p s (if is_it then told.chooses s (slice_get targets w) (drop 1 (stack_of f)) else Stuck) (say (where_so is_it (Ok (chosen f (slice_get targets w)))))
  does_choice true targets w = does_so n p s (told.chooses s (slice_get targets w) (drop 1 (stack_of f))) (chosen f (slice_get targets w)) (chosen_is (slice_get targets w))
  does_choice false targets w = does_stuck n p s

  pub does_chooses : (targets : List ℕ) → Does n p s (branches s (Chooses targets) (stack_of f)) (say (chooses targets f))
  unfolding chooses
  does_chooses targets =
      does_at_last n p s (branches s (Chooses targets) (stack_of f)) (one_word f) (λ t. where_so (is_int32 t.0) (Ok (chosen f (slice_get targets t.1))))
      (does_one_word (λ kind w vs. if is_int32 kind then told.chooses s (slice_get targets w) vs else Stuck) (λ t. say (where_so (is_int32 t.0) (Ok (chosen f (slice_get targets t.1)))))
      (λ t. does_choice (is_int32 t.0) targets t.1))
