-- The example's words fit at every turn, and known ones stand.
use Rattle.std.proofs.Common.{◌≡◌, ◌≢◌, ℕ, List, Some, refl, sym, ◌∙◌, subst, arith, inl, inr}
use Rattle.std.specs.Prelude.{Bool, true, false, if◌then◌else◌, ◌==◌, slice_index, slice_set}
use Rattle.interaction.specs.Thread.{Turn, Makes, Turns, MayClaim}
use Rattle.interaction.specs.Thread as thread
use Rattle.interaction.specs.RunLaws.{Grows, Wrote, nothing, one, ClaimsRight, RunLaws}
use Rattle.interaction.specs.CounterObject.{Request, Reply, Stop, Halted, Add, Start, Finish, Sum, Begun, Done, Improper, starts_at}
use Rattle.interaction.specs.CounterThread.{State, on_begun, on_added, on_done, AtBeginning, AtForking, AtSettling, Filling, Entering, AtAdding, AtLeaving, Ended, Broken, machine, want, Fits, empty, named, filled, Known}
use Rattle.interaction.proofs.Later.{told_stands}
use Rattle.interaction.proofs.Starting.{begin-grows, begin_all}

-- what a thread has found in the words
abbrev pub Holds : List ℕ → State → Type 0
Holds w Entering = slice_index w 0 ≡ 7
Holds w s = Unit {0}

-- a turn that claims nothing
abbrev IsQuiet : Turn Request Reply → Type 0
IsQuiet (thread.Did a) = Unit {0}
IsQuiet (thread.Loaded a i v) = Unit {0}
IsQuiet (thread.Claimed i put v) = ⊥
IsQuiet (thread.Asked e) = Unit {0}

quiet_fits : (w v : List ℕ) (turn : Turn Request Reply) → Wrote w v turn → IsQuiet turn → Fits w → Fits v
quiet_fits w v turn (nothing e) quiet fits = subst Fits (sym e) fits
quiet_fits w v _ (one z lt is e) quiet fits = absurd quiet

-- the words after a claim that put a word, or found one
node_put : (w : List ℕ) → Fits w → slice_index w 0 ≡ 0 → Fits (slice_set w 0 7)
node_put _ empty e = named
node_put _ named e = absurd (cc e)
node_put _ filled e = absurd (cc e)

entry_put : (w : List ℕ) → Fits w → slice_index w 0 ≡ 7 → slice_index w 1 ≡ 0 → Fits (slice_set w 1 1)
entry_put _ empty h e = absurd (cc h)
entry_put _ named h e = filled
entry_put _ filled h e = absurd (cc e)

node_claimed : (w v : List ℕ) (a : ℕ) → Wrote {R = Request} {Y = Reply} w v (thread.Claimed 0 7 a) → Fits w → Fits v
node_claimed w v a (nothing e) fits = subst Fits (sym e) fits
node_claimed w v a (one z lt is e) fits = subst Fits (sym e) (node_put w fits is)

entry_claimed : (w v : List ℕ) (a : ℕ) → Wrote {R = Request} {Y = Reply} w v (thread.Claimed 1 1 a) → slice_index w 0 ≡ 7 → Fits w → Fits v
entry_claimed w v a (nothing e) h fits = subst Fits (sym e) fits
entry_claimed w v a (one z lt is e) h fits = subst Fits (sym e) (entry_put w fits h is)

node_is : (w : List ℕ) → Fits w → slice_index w 0 ≢ 0 → slice_index w 0 ≡ 7
node_is _ empty set = absurd (set refl)
node_is _ named set = refl
node_is _ filled set = refl

node_under : (w : List ℕ) → Fits w → slice_index w 1 ≢ 0 → slice_index w 0 ≢ 0
node_under _ empty set = absurd (set refl)
node_under _ named set = absurd (set refl)
node_under _ filled set = λ e. cc e

node_found : (w : List ℕ) (a : ℕ) → MayClaim (slice_index w) 0 7 a → Fits w → slice_index w 0 ≡ 7
node_found w a (set, inl z) fits = sym z.1
node_found w a (set, inr z) fits = node_is w fits (λ e. z.0 (z.1 ∙ e))

holds_begun : (w : List ℕ) (y : Reply) → Holds w (on_begun y)
holds_begun w (Sum n) = tt
holds_begun w (Begun u) = tt
holds_begun w Done = tt
holds_begun w Halted = tt
holds_begun w Improper = tt

holds_added : (w : List ℕ) (y : Reply) → Holds w (on_added y)
holds_added w (Sum n) = tt
holds_added w (Begun u) = tt
holds_added w Done = tt
holds_added w Halted = tt
holds_added w Improper = tt

holds_done : (w : List ℕ) (y : Reply) → Holds w (on_done y)
holds_done w (Sum n) = tt
holds_done w (Begun u) = tt
holds_done w Done = tt
holds_done w Halted = tt
holds_done w Improper = tt

holds_loaded : (w : List ℕ) (b : Bool) (v : ℕ) → Holds w (if b then Filling else AtAdding v)
holds_loaded w true v = tt
holds_loaded w false v = tt

turn_fits : (w v : List ℕ) (s t : State) (turn : Turn Request Reply) → Fits w → Holds w s → Grows (slice_index w) (slice_index v) → Makes (slice_index v) s (want s) turn t → Wrote w v turn → Fits v × Holds v t
turn_fits w v AtBeginning t turn fits h g thread.goes wr = (quiet_fits w v turn wr tt fits, tt)
turn_fits w v AtForking t turn fits h g (thread.asks {y = y}) wr = (quiet_fits w v turn wr tt fits, holds_begun v y)
turn_fits w v AtSettling t turn fits h g (thread.loads {v = a} m) wr = (quiet_fits w v turn wr tt fits, holds_loaded v (a == 0) a)
turn_fits w v Filling t turn fits h g (thread.claims {v = a} m) wr = let f = node_claimed w v a wr fits in (f, node_found v a m f)
turn_fits w v Entering t turn fits h g (thread.claims {v = a} m) wr = (entry_claimed w v a wr h fits, tt)
turn_fits w v (AtAdding i) t turn fits h g (thread.tries m) wr = (quiet_fits w v turn wr tt fits, tt)
turn_fits w v (AtAdding i) t turn fits h g (thread.reads nz (thread.asks {y = y})) wr = (quiet_fits w v turn wr tt fits, holds_added v y)
turn_fits w v (AtLeaving n) t turn fits h g (thread.asks {y = y}) wr = (quiet_fits w v turn wr tt fits, holds_done v y)
turn_fits w v Ended t turn fits h g m wr = elim m [ ]
turn_fits w v Broken t turn fits h g m wr = elim m [ ]

claims_right : (w : List ℕ) (s : State) → Fits w → ClaimsRight w (want s)
claims_right w AtBeginning fits = tt
claims_right w AtForking fits = tt
claims_right w AtSettling fits = tt
claims_right _ Filling empty = (omega arith, λ e. cc e)
claims_right _ Filling named = (omega arith, λ e. cc e)
claims_right _ Filling filled = (omega arith, λ e. cc e)
claims_right _ Entering empty = (omega arith, λ e. cc e)
claims_right _ Entering named = (omega arith, λ e. cc e)
claims_right _ Entering filled = (omega arith, λ e. cc e)
claims_right w (AtAdding i) fits = λ nz. tt
claims_right w (AtLeaving n) fits = tt
claims_right w Ended fits = tt
claims_right w Broken fits = tt

later_holds : (w v : List ℕ) (s : State) → Grows (slice_index w) (slice_index v) → Holds w s → Holds v s
later_holds w v Entering g h = g 0 (λ e. cc (h, e)) ∙ h
later_holds w v AtBeginning g h = tt
later_holds w v AtForking g h = tt
later_holds w v AtSettling g h = tt
later_holds w v Filling g h = tt
later_holds w v (AtAdding i) g h = tt
later_holds w v (AtLeaving n) g h = tt
later_holds w v Ended g h = tt
later_holds w v Broken g h = tt

started_holds : (w : List ℕ) (r : Request) (y : Reply) (b : ℕ × State) → starts_at AtSettling r y ≡ Some b → Holds w b.1
started_holds w (Add n) y b e = absurd (cc e)
started_holds w Start (Sum n) b e = absurd (cc e)
started_holds w Start (Begun u) b e = subst (λ q. Holds w q.1) (let s : (u, AtSettling) ≡ b = cc e in s) tt
started_holds w Start Done b e = absurd (cc e)
started_holds w Start Halted b e = absurd (cc e)
started_holds w Start Improper b e = absurd (cc e)
started_holds w (Finish n) y b e = absurd (cc e)
started_holds w Stop y b e = absurd (cc e)

known_stands : (w v : List ℕ) (s t : State) (turns : List (Turn Request Reply)) (i : ℕ) → Fits w → Grows (slice_index w) (slice_index v) → Turns want (slice_index w) s turns t → Known v turns i → slice_index w i ≢ 0
known_stands w v s t turns i fits g ts (inl told) = told_stands ts i told
known_stands w v s t turns i fits g ts (inr k) = subst (λ j. slice_index w j ≢ 0) (sym k.0) (node_under w fits (told_stands ts 1 k.1))

pub run_laws : RunLaws machine Fits Holds Known
run_laws = record {
  begin_grows = begin-grows AtBeginning (starts_at AtSettling);
  begin_holds = λ w h u s fits e. begin_all (Holds w) AtBeginning (starts_at AtSettling) tt (started_holds w) h u s e;
  later_holds = later_holds;
  turn_fits = λ w v s t turn fits h g m wr silent. turn_fits w v s t turn fits h g m wr;
  claims_right = λ w s fits h. claims_right w s fits;
  known_stands = known_stands;
}
