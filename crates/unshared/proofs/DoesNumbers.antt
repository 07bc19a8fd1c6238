-- Instructions on numbers, against what they come to.
use Rattle.std.proofs.Common.{◌≡◌, ℕ, Bool, true, false, List, [], ◌∷◌, drop, Ok, if◌then◌else◌, refl}
use Rattle.type_tree.specs.declared.tree.TExpr.{TExpr}
use Rattle.il_model.specs.declared.program.Program.{Program}
use Rattle.il_model.specs.declared.method.MethodDef.{MethodDef}
use Rattle.interaction.specs.Process.{Naming}
use Rattle.cil_meaning.specs.Naming.{Mention}
use Rattle.cil_meaning.specs.Replies.{Left}
use Rattle.cil_meaning.specs.Values.{Kind, Value, Plain}
use Rattle.cil_meaning.specs.Site.{Site, goes, throws}
use Rattle.cil_meaning.specs.Search.{overflow}
use Rattle.cil_meaning.specs.Pieces.{pops, as_word}
use Rattle.cil_meaning.specs.Groups.{Wrapping, Wraps, Checked, Checks}
use Rattle.cil_meaning.specs.Arithmetic as meant
use Rattle.cil_meaning.specs.Arithmetic.{Width, Narrow, Wide, kind_at, at_width, same_width, wrapping_of, fits, is_signed_of, exact_of, wrapped_int, divides_past, divided, shifted_by, turned, calculates}
use Rattle.unshared.specs.declared.frames.Frames.{Frames as FramesHere}
use Rattle.unshared.specs.Calculated.{width_of, is_width, two_words, two_numbers, number_at, fits_exactly, wraps, checks}
use Rattle.unshared.specs.Going.{Did, Throws, goes_on}
use Rattle.unshared.specs.Held.{stack_of, site_of}
use Rattle.unshared.specs.Operands.{value_at, word_of}
use Rattle.unshared.specs.Silent.{where_so}
use Rattle.unshared.specs.Talk.{Talk, ◌>>=◌, say}
use Rattle.unshared.proofs.DoesStack.{next_is}
use Rattle.unshared.proofs.Doing.{Does, finish, does_mute, does_pop, does_so, does_silently, does_at_last}
use Rattle.unshared.proofs.MuteOperands.{mute_word, mute_width}
use Rattle.unshared.proofs.Muting.{Mute}
use Rattle.unshared.proofs.Sayings.{after}

mute_same : {X : Type 0} (w o : Width) (x : X) → Mute (λ k. same_width w o (k x)) (where_so (is_width w o) (Ok x))
mute_same Narrow Narrow x = record { met = λ k. refl }
mute_same Narrow Wide x = record { met = λ k. refl }
mute_same Wide Narrow x = record { met = λ k. refl }
mute_same Wide Wide x = record { met = λ k. refl }

module _ (n : Naming Mention TExpr) (p : Program) (d : MethodDef) (f : FramesHere) where
  abbrev s : Site
  s = site_of d f

  -- Operands. ----------------------------------------------------------------

  below_second : (Kind → ℕ → Kind → ℕ → List Value → Left) → Kind × ℕ → Value → List Value → Left
  below_second next b u vs = as_word u (λ ka a. next ka a b.0 b.1 vs)

  pub does_two_words : (next : Kind → ℕ → Kind → ℕ → List Value → Left) (then_ : Kind × ℕ × Kind × ℕ → Talk Did) →
      ((t : Kind × ℕ × Kind × ℕ) → Does n p s (next t.0 t.1 t.2 t.3 (drop 2 (stack_of f))) (then_ t)) → Does n p s (meant.two_words (stack_of f) next) (say (two_words f) >>= then_)
  unfolding two_words below_second
  does_two_words next then_ more =
      does_silently n p s (meant.two_words (stack_of f) next) (value_at f 0) (λ v. after (word_of v) (λ b. after (value_at f 1) (λ u. after (word_of u) (λ a. Ok (a.0, a.1, b.0, b.1))))) then_
      (does_pop n p s f 0 (λ v us. as_word v (λ kb b. pops us (below_second next (kb, b)))) (λ v. say (after (word_of v) (λ b. after (value_at f 1) (λ u. after (word_of u) (λ a. Ok (a.0, a.1, b.0, b.1))))) >>= then_)
      (λ v e. does_silently n p s (as_word v (λ kb b. pops (drop 1 (stack_of f)) (below_second next (kb, b)))) (word_of v) (λ b. after (value_at f 1) (λ u. after (word_of u) (λ a. Ok (a.0, a.1, b.0, b.1)))) then_
      (does_mute n p s (λ k. as_word v (λ kind w. k (kind, w))) (λ b. pops (drop 1 (stack_of f)) (below_second next b)) (word_of v) (λ b. say (after (value_at f 1) (λ u. after (word_of u) (λ a. Ok (a.0, a.1, b.0, b.1)))) >>= then_) (mute_word v)
      (λ b. does_silently n p s (pops (drop 1 (stack_of f)) (below_second next b)) (value_at f 1) (λ u. after (word_of u) (λ a. Ok (a.0, a.1, b.0, b.1))) then_
      (does_pop n p s f 1 (below_second next b) (λ u. say (after (word_of u) (λ a. Ok (a.0, a.1, b.0, b.1))) >>= then_)
      (λ u e2. does_silently n p s (below_second next b u (drop 2 (stack_of f))) (word_of u) (λ a. Ok (a.0, a.1, b.0, b.1)) then_
      (does_mute n p s (λ k. as_word u (λ kind w. k (kind, w))) (λ a. next a.0 a.1 b.0 b.1 (drop 2 (stack_of f))) (word_of u) (λ a. say (Ok (a.0, a.1, b.0, b.1)) >>= then_) (mute_word u)
      (λ a. more (a.0, a.1, b.0, b.1)))))))))

  pub does_two_numbers : (next : Width → ℕ → ℕ → List Value → Left) (then_ : Width × ℕ × ℕ → Talk Did) →
      ((t : Width × ℕ × ℕ) → Does n p s (next t.0 t.1 t.2 (drop 2 (stack_of f))) (then_ t)) → Does n p s (meant.two_numbers (stack_of f) next) (say (two_numbers f) >>= then_)
  unfolding two_numbers
  does_two_numbers next then_ more =
      does_silently n p s (meant.two_numbers (stack_of f) next) (two_words f) (λ t. after (width_of t.0 t.1) (λ width. after (width_of t.2 t.3) (λ other. where_so (is_width width other) (Ok (width, t.1, t.3))))) then_
      (does_two_words (λ ka a kb b vs. at_width ka a (λ width. at_width kb b (λ other. same_width width other (next width a b vs)))) (λ t. say (after (width_of t.0 t.1) (λ width. after (width_of t.2 t.3) (λ other. where_so (is_width width other) (Ok (width, t.1, t.3))))) >>= then_)
      (λ t. does_silently n p s (at_width t.0 t.1 (λ width. at_width t.2 t.3 (λ other. same_width width other (next width t.1 t.3 (drop 2 (stack_of f)))))) (width_of t.0 t.1) (λ width. after (width_of t.2 t.3) (λ other. where_so (is_width width other) (Ok (width, t.1, t.3)))) then_
      (does_mute n p s (at_width t.0 t.1) (λ width. at_width t.2 t.3 (λ other. same_width width other (next width t.1 t.3 (drop 2 (stack_of f))))) (width_of t.0 t.1) (λ width. say (after (width_of t.2 t.3) (λ other. where_so (is_width width other) (Ok (width, t.1, t.3)))) >>= then_) (mute_width t.0 t.1)
      (λ width. does_silently n p s (at_width t.2 t.3 (λ other. same_width width other (next width t.1 t.3 (drop 2 (stack_of f))))) (width_of t.2 t.3) (λ other. where_so (is_width width other) (Ok (width, t.1, t.3))) then_
      (does_mute n p s (at_width t.2 t.3) (λ other. same_width width other (next width t.1 t.3 (drop 2 (stack_of f)))) (width_of t.2 t.3) (λ other. say (where_so (is_width width other) (Ok (width, t.1, t.3))) >>= then_) (mute_width t.2 t.3)
      (λ other. does_mute n p s (λ k. same_width width other (k (width, t.1, t.3))) (λ r. next r.0 r.1 r.2 (drop 2 (stack_of f))) (where_so (is_width width other) (Ok (width, t.1, t.3))) then_ (mute_same width other (width, t.1, t.3)) more))))))

  -- Forms. -------------------------------------------------------------------

  number_here : ℕ → Width → ℕ → Did
  number_here taken width w = goes_on f taken (number_at width w)

  pub does_wraps : (form : Wrapping) → Does n p s (calculates p s (Wraps form) (stack_of f)) (say (wraps form f))
  unfolding wraps
  does_wraps form =
      does_at_last n p s (calculates p s (Wraps form) (stack_of f)) (two_numbers f) (λ t. Ok (goes_on f 2 (number_at t.0 (wrapping_of form t.0 t.1 t.2))))
      (does_two_numbers (λ width a b vs. goes s (Plain (kind_at width) (wrapping_of form width a b ∷ []) ∷ vs)) (λ t. say (Ok (goes_on f 2 (number_at t.0 (wrapping_of form t.0 t.1 t.2)))))
      (λ t. does_so n p s (goes s (Plain (kind_at t.0) (wrapping_of form t.0 t.1 t.2 ∷ []) ∷ drop 2 (stack_of f))) (goes_on f 2 (number_at t.0 (wrapping_of form t.0 t.1 t.2)))
      (next_is n p d f (Plain (kind_at t.0) (wrapping_of form t.0 t.1 t.2 ∷ []) ∷ drop 2 (stack_of f)))))

  checked_is : (b : Bool) (width : Width) (w : ℕ) → (if b then goes s (Plain (kind_at width) (w ∷ []) ∷ drop 2 (stack_of f)) else throws p s overflow) ≡ finish p s (if b then goes_on f 2 (number_at width w) else Throws overflow)
  checked_is true width w = next_is n p d f (Plain (kind_at width) (w ∷ []) ∷ drop 2 (stack_of f))
  checked_is false width w = refl

  pub does_checks : (form : Checked) → Does n p s (calculates p s (Checks form) (stack_of f)) (say (checks form f))
  unfolding checks
  does_checks form =
      does_at_last n p s (calculates p s (Checks form) (stack_of f)) (two_numbers f) (λ t. Ok (if fits_exactly form t.0 t.1 t.2 then goes_on f 2 (number_at t.0 (wrapped_int t.0 (exact_of form t.0 t.1 t.2))) else Throws overflow))
      (does_two_numbers (λ width a b vs. if fits (is_signed_of form) width (exact_of form width a b) then goes s (Plain (kind_at width) (wrapped_int width (exact_of form width a b) ∷ []) ∷ vs) else throws p s overflow)
      (λ t. say (Ok (if fits_exactly form t.0 t.1 t.2 then goes_on f 2 (number_at t.0 (wrapped_int t.0 (exact_of form t.0 t.1 t.2))) else Throws overflow)))
      (λ t. does_so n p s _ (if fits_exactly form t.0 t.1 t.2 then goes_on f 2 (number_at t.0 (wrapped_int t.0 (exact_of form t.0 t.1 t.2))) else Throws overflow) (checked_is (fits_exactly form t.0 t.1 t.2) t.0 (wrapped_int t.0 (exact_of form t.0 t.1 t.2)))))
