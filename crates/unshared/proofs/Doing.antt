-- What is left of an instruction, against what it comes to.
use Rattle.std.proofs.Common.{◌≡◌, ℕ, zero, suc, Bool, true, false, List, [], ◌∷◌, drop, Option, Some, None, Ok, Err, if◌then◌else◌, slice_get, refl, sym, ap, subst}
use Rattle.type_tree.specs.declared.tree.TExpr.{TExpr}
use Rattle.il_model.specs.declared.program.Program.{Program}
use Rattle.interaction.specs.Process.{Naming, Next, Stuck}
use Rattle.store_object.specs.declared.reply.Reply.{Reply}
use Rattle.cil_meaning.specs.Naming.{Mention}
use Rattle.cil_meaning.specs.Replies.{Left}
use Rattle.cil_meaning.specs.Values.{Value}
use Rattle.cil_meaning.specs.Search.{searches}
use Rattle.cil_meaning.specs.Site.{Site, frames_of, throws}
use Rattle.cil_meaning.specs.Pieces.{pops}
use Rattle.unshared.specs.declared.frames.Frames.{Frames as FramesHere}
use Rattle.unshared.specs.Going.{Did, Goes, Throws, Raises}
use Rattle.unshared.specs.Held.{stack_of}
use Rattle.unshared.specs.Operands.{value_at}
use Rattle.unshared.specs.Silent.{Silent, there, stuck}
use Rattle.unshared.specs.Talk.{Came, Talk, ◌>>=◌, and_then, pure, say}
use Rattle.unshared.specs.Turns.{answered}
use Rattle.unshared.proofs.Muting.{Mute}
use Rattle.unshared.proofs.Sayings.{after, said_then, said_both}
use Rattle.unshared.proofs.Tying.{Met, Tied, stuck_stays, tied_say}

-- what is left once an instruction comes to this
abbrev pub finish : Program → Site → Did → Left
finish p s (Goes f) = Next f
finish p s (Throws class) = throws p s class
finish p s (Raises x) = searches p x (frames_of s).frames s.places

module _ (n : Naming Mention TExpr) (p : Program) (s : Site) where
  pub record Does (q : Left) (piece : Talk Did) : Type 0 where
    pub meets : (ys : List Reply) → Met n (answered n ys q) (finish p s) (piece ys)

  by_came : {A : Type 0} (next : A → Left) (then_ : A → Talk Did) (q : Left) (came : Came A) → ((a : A) → Does (next a) (then_ a)) → Met n q next came → Met n q (finish p s) (and_then came then_)
  by_came next then_ q (Ok r) more e = subst (λ z. Met n z (finish p s) (then_ r.0 r.1)) (sym e) ((more r.0).meets r.1)
  by_came next then_ q (Err h) more e = e

  -- a piece, and what follows it
  pub does_bind : {A : Type 0} (tree : (A → Left) → Left) (next : A → Left) (piece : Talk A) (then_ : A → Talk Did) → Tied n tree piece → ((a : A) → Does (next a) (then_ a)) → Does (tree next) (piece >>= then_)
  does_bind tree next piece then_ first more = record { meets = λ ys. by_came next then_ (answered n ys (tree next)) (piece ys) more (first.meets ys next) }

  pub does_so : (q : Left) (d : Did) → q ≡ finish p s d → Does q (pure d)
  does_so q d e = record { meets = λ ys. ap (answered n ys) e }

  pub does_stuck : Does Stuck (say stuck)
  does_stuck = record { meets = stuck_stays n }

  pub does_same : (q r : Left) (piece : Talk Did) → q ≡ r → Does r piece → Does q piece
  does_same q r piece e d = record { meets = λ ys. subst (λ z. Met n (answered n ys z) (finish p s) (piece ys)) (sym e) (d.meets ys) }

  -- a test
  pub does_if : (b : Bool) (q r : Left) (one other : Talk Did) → Does q one → Does r other → Does (if b then q else r) (if b then one else other)
  does_if true q r one other d e = d
  does_if false q r one other d e = e

  -- the values of a stack, one after another
  popped : (stack : List Value) (i : ℕ) (next : Value → List Value → Left) (o : Option Value) → slice_get stack i ≡ o → (then_ : Value → Talk Did) →
      ((v : Value) → slice_get stack i ≡ Some v → Does (next v (drop (suc i) stack)) (then_ v)) → Does (pops (drop i stack) next) (say (there o) >>= then_)
  popped [] zero next (Some v) e then_ more = absurd (cc e)
  popped [] (suc i) next (Some v) e then_ more = absurd (cc e)
  popped [] zero next None e then_ more = record { meets = stuck_stays n }
  popped [] (suc i) next None e then_ more = record { meets = stuck_stays n }
  popped (x ∷ xs) zero next (Some v) e then_ more = let same : x ≡ v = cc e in does_same (next x xs) (next v xs) (say (there (Some v)) >>= then_) (ap (λ z. next z xs) same) (record { meets = (more v e).meets })
  popped (x ∷ xs) zero next None e then_ more = absurd (cc e)
  popped (x ∷ xs) (suc i) next o e then_ more = popped xs i next o e then_ more

  pub does_pop : (f : FramesHere) (i : ℕ) (next : Value → List Value → Left) (then_ : Value → Talk Did) → ((v : Value) → slice_get (stack_of f) i ≡ Some v → Does (next v (drop (suc i) (stack_of f))) (then_ v)) → Does (pops (drop i (stack_of f)) next) (say (value_at f i) >>= then_)
  does_pop f i next then_ more = popped (stack_of f) i next (slice_get (stack_of f) i) refl then_ more

  -- the same function of replies
  pub does_as : (q : Left) (one other : Talk Did) → ((ys : List Reply) → one ys ≡ other ys) → Does q other → Does q one
  does_as q one other e d = record { meets = λ ys. subst (λ came. Met n (answered n ys q) (finish p s) came) (sym (e ys)) (d.meets ys) }

  -- a piece of the meaning that makes no request, and what follows it
  pub does_mute : {A : Type 0} (tree : (A → Left) → Left) (next : A → Left) (r : Silent A) (then_ : A → Talk Did) → Mute tree r → ((a : A) → Does (next a) (then_ a)) → Does (tree next) (say r >>= then_)
  does_mute tree next r then_ m more = does_bind tree next (say r) then_ (tied_say n tree r m) more

  -- pieces that make no request, one behind another
  pub does_silently : {A B : Type 0} (q : Left) (r : Silent A) (g : A → Silent B) (then_ : B → Talk Did) → Does q (say r >>= (λ a. say (g a) >>= then_)) → Does q (say (after r g) >>= then_)
  does_silently q r g then_ d = does_as q (say (after r g) >>= then_) (say r >>= (λ a. say (g a) >>= then_)) (said_then r g then_) d

  pub does_at_last : {A : Type 0} (q : Left) (r : Silent A) (g : A → Silent Did) → Does q (say r >>= (λ a. say (g a))) → Does q (say (after r g))
  does_at_last q r g d = does_as q (say (after r g)) (say r >>= (λ a. say (g a))) (said_both r g) d
