-- The example's threads keep to their processes.
use Rattle.std.proofs.Common.{◌≡◌, ◌≢◌, ℕ, zero, suc, ◌+◌, List, Some, None, refl, sym, ◌∙◌, subst, arith, inl, inr, eqb-true, eq-eqb}
use Rattle.std.specs.Prelude.{Bool, true, false, if◌then◌else◌, ◌==◌, slice_index}
use Rattle.interaction.specs.declared.history.Event.{Event}
use Rattle.interaction.specs.Process.{Next}
use Rattle.interaction.specs.Thread.{MayLoad, MayClaim}
use Rattle.interaction.specs.Simulation.{Sides, Keeps, Onward, GoesOn}
use Rattle.interaction.specs.Simulation as keeps
use Rattle.interaction.specs.Starts.{begin_of}
use Rattle.interaction.specs.CounterObject.{Request, Reply, Add, Start, Finish, Stop, Sum, Begun, Done, Halted, Improper, counter, starts_at}
use Rattle.interaction.specs.CounterProcess.{Mention, Amount, when_begun, when_added, when_done, Frames, Beginning, Forking, Settling, Adding, Leaving, Left, naming_of, meaning, begin}
use Rattle.interaction.specs.CounterThread.{State, on_begun, on_added, on_done, AtBeginning, AtForking, AtSettling, Filling, Entering, AtAdding, AtLeaving, machine, Fits, empty, named, filled, Known, gain}
use Rattle.interaction.proofs.Compose.{then_keeps}
use Rattle.interaction.proofs.Starting.{BothStart, begin_both}
use Rattle.interaction.proofs.Joining.{Together, together_of}
use Rattle.interaction.proofs.SoundRuns.{sides}

-- both are before the same instruction
pub data At : Left → State → Type 0 where
  beginning : At (Next Beginning) AtBeginning
  forking : At (Next Forking) AtForking
  settling : At (Next Settling) AtSettling
  adding : At (Next (Adding 1)) (AtAdding 1)
  leaving : {n : ℕ} → At (Next (Leaving n)) (AtLeaving n)

abbrev pub on : List ℕ → Sides Mention ℕ Request Reply Frames State
on w = sides machine Fits Known naming_of meaning begin gain w

-- while the entry is being settled: the thread has put or found the node's word, or the entry's
data InFill : Left → State → Type 0 where
  entering : InFill (meaning Settling) Entering

-- where the entry's word stands, the node's does, and the entry has its number
has_number : (w : List ℕ) → Fits w → slice_index w 1 ≢ 0 → ((naming_of w).value_of Amount ≡ Some 1) × (slice_index w 1 ≡ 1)
has_number _ empty set = absurd (set refl)
has_number _ named set = absurd (set refl)
has_number _ filled set = (refl, refl)

module _ (w : List ℕ) where
  entered : Fits w → (v : ℕ) → MayClaim (slice_index w) 1 1 v → slice_index w 1 ≢ 0
  entered fits v (set, inl z) e = set (z.1 ∙ e)
  entered fits v (set, inr z) e = z.0 (z.1 ∙ e)

  settled : (n : ℕ) → Fits w → slice_index w 1 ≢ 0 → Keeps (on w) At false n (meaning Settling) (AtAdding 1)
  settled n fits set = keeps.settles n (omega arith) (has_number w fits set).0 (keeps.arrives adding)

  -- the second half of a fill: the claim of the entry
  enters : Fits w → (p : Left) (s : State) → InFill p s → Keeps (on w) At false 1 p s
  enters fits _ _ entering = keeps.turns 0 (omega arith) (keeps.claims (λ v h. settled 0 fits (entered fits v h)))

  -- the first half: the claim of the node
  names : Keeps (on w) InFill false 1 (meaning Settling) Filling
  names = keeps.turns 0 (omega arith) (keeps.claims (λ v h. keeps.arrives entering))

  fills : Fits w → Keeps (on w) At false (1 + 1) (meaning Settling) Filling
  fills fits = then_keeps 1 (enters fits) names

  -- a load of the entry finds its number, or leads to the fill
  after_load : Fits w → (v : ℕ) → MayLoad (slice_index w) 1 v → (b : Bool) → (v == 0) ≡ b → Keeps (on w) At false (1 + 1) (meaning Settling) (if b then Filling else AtAdding v)
  after_load fits v h true e = fills fits
  after_load fits v (inl z) false e = absurd (cc (eq-eqb v 0 z, e))
  after_load fits v (inr z) false e =
      let set : slice_index w 1 ≢ 0 = λ q. cc (eq-eqb v 0 (z ∙ q), e) in
      let one : 1 ≡ v = sym (has_number w fits set).1 ∙ sym z in
      subst (λ i. Keeps (on w) At false (1 + 1) (meaning Settling) (AtAdding i)) one (settled (1 + 1) fits set)

  begun : (y : Reply) → Keeps (on w) At false 0 (when_begun y) (on_begun y)
  begun (Begun u) = keeps.arrives settling
  begun (Sum n) = keeps.nowhere tt
  begun Done = keeps.nowhere tt
  begun Halted = keeps.nowhere tt
  begun Improper = keeps.nowhere tt

  added : (y : Reply) → Keeps (on w) At false 0 (when_added y) (on_added y)
  added (Sum n) = keeps.arrives leaving
  added (Begun u) = keeps.nowhere tt
  added Done = keeps.nowhere tt
  added Halted = keeps.nowhere tt
  added Improper = keeps.nowhere tt

  done : (y : Reply) → Keeps (on w) At false 1 (when_done y) (on_done y)
  done Done = keeps.turns 0 (omega arith) keeps.ends
  done (Sum n) = keeps.nowhere tt
  done (Begun u) = keeps.nowhere tt
  done Halted = keeps.nowhere tt
  done Improper = keeps.nowhere tt

  -- the amount, once its node's word is known
  adds : (c : ℕ) → slice_index w 0 ≡ c → Keeps (on w) At true 1 (meaning (Adding 1)) (AtAdding 1)
  adds zero e = keeps.nowhere (rw e refl)
  adds (suc c) e = keeps.spells {t = slice_index w 0} (tree (slice_index w 0 == 0) refl) (keeps.turns 0 (omega arith) (keeps.reads (λ nz. keeps.asks added)))
    where
      tree : (b : Bool) → (slice_index w 0 == 0) ≡ b → (if b then None else Some (slice_index w 0)) ≡ Some (slice_index w 0)
      tree true z = absurd (cc (eqb-true (slice_index w 0) 0 z ∙ refl, e))
      tree false z = refl

  pub counter_goes_on : Fits w → GoesOn (on w) At
  counter_goes_on fits _ _ beginning = keeps.begins 1 (omega arith) (keeps.turns 0 (omega arith) (keeps.goes (keeps.arrives forking)))
  counter_goes_on fits _ _ forking = keeps.begins 1 (omega arith) (keeps.turns 0 (omega arith) (keeps.asks begun))
  counter_goes_on fits _ _ settling = keeps.begins 1 (omega arith) (keeps.turns (1 + 1) (omega arith) (keeps.loads (λ v h. after_load fits v h (v == 0) refl)))
  counter_goes_on fits _ _ adding = keeps.begins 1 (omega arith) (adds (slice_index w 0) refl)
  counter_goes_on fits _ _ leaving = keeps.begins (1 + 1) (omega arith) (keeps.turns 1 (omega arith) (keeps.asks done))

  starts_keep : (r : Request) (y : Reply) → BothStart (λ f s. Keeps (on w) At false 0 (Next f) s) (starts_at Settling r y) (starts_at AtSettling r y)
  starts_keep (Add n) y = tt
  starts_keep Start (Sum n) = tt
  starts_keep Start (Begun u) = (refl, keeps.arrives settling)
  starts_keep Start Done = tt
  starts_keep Start Halted = tt
  starts_keep Start Improper = tt
  starts_keep (Finish n) y = tt
  starts_keep Stop y = tt

  pub counter_together : (h : List (Event Request Reply)) (u : ℕ) → Together (on w) At counter begin (begin h u) (machine.begin h u)
  counter_together h u = together_of (on w) At counter begin (begin_of Beginning (starts_at Settling) h u) (begin_of AtBeginning (starts_at AtSettling) h u) (begin_both (λ f s. Keeps (on w) At false 0 (Next f) s) Beginning AtBeginning (starts_at Settling) (starts_at AtSettling) (keeps.arrives beginning) starts_keep h u)
