-- What an instance owes of its words and threads, so that a run under a schedule is a loose run with its last words. This project's own.
use Rattle.std.specs.Prelude.{◌≡◌, ◌≢◌, ℕ, ◌<◌, List, ◌++◌, Some, length, slice_index, slice_set}
use Rattle.interaction.specs.declared.history.Event.{Event}
use Rattle.interaction.specs.Thread.{Want, Turn, Claimed, Makes, Turns}
use Rattle.interaction.specs.Thread as thread
use Rattle.interaction.specs.LooseRun.{AnswersNothing}
use Rattle.interaction.specs.Run.{Machine}

-- a word that stands goes on standing
abbrev pub Grows : (ℕ → ℕ) → (ℕ → ℕ) → Type 0
Grows w v = (i : ℕ) → w i ≢ 0 → v i ≡ w i

-- what a turn writes into the words: nothing, or the one word that it claims
pub data Wrote {R Y : Type 0} (w w' : List ℕ) : Turn R Y → Type 0 where
  nothing : {turn : Turn R Y} → w' ≡ w → Wrote w w' turn
  one : {i put answer : ℕ} → answer ≡ 0 → i < length w → slice_index w i ≡ 0 → w' ≡ slice_set w i put → Wrote w w' (Claimed i put answer)

-- a claim that may be made over these words is of a place among them, and puts a word other than 0
abbrev pub ClaimsRight : {R Y S : Type 0} → List ℕ → Want R Y S → Type 0
ClaimsRight w (thread.Claim i put k) = (i < length w) × (put ≢ 0)
ClaimsRight w (thread.Read i k) = slice_index w i ≢ 0 → ClaimsRight w (k (slice_index w i))
ClaimsRight w (thread.Go a s) = Unit {0}
ClaimsRight w (thread.Load a i k) = Unit {0}
ClaimsRight w (thread.Ask r k) = Unit {0}
ClaimsRight w thread.Full = Unit {0}
ClaimsRight w thread.Fault = Unit {0}
ClaimsRight w thread.Over = Unit {0}

-- `Fits` is what the words keep, `Holds w s` what a thread in the state `s` has found in the words, and `Known w turns i`
-- that the turns of a thread make the word at i known, where the last words are `w`. A turn of a run is answered with
-- nothing only where nothing stood.
pub record RunLaws {R Y S X : Type 0} (m : Machine R Y S X) (Fits : List ℕ → Type 0) (Holds : List ℕ → S → Type 0) (Known : List ℕ → List (Turn R Y) → ℕ → Type 0) : Type 0 where
  pub begin_grows : (d r : List (Event R Y)) (u : ℕ) (s : S) → m.begin d u ≡ Some s → m.begin (d ++ r) u ≡ Some s
  pub begin_holds : (w : List ℕ) (h : List (Event R Y)) (u : ℕ) (s : S) → Fits w → m.begin h u ≡ Some s → Holds w s
  pub later_holds : (w v : List ℕ) (s : S) → Grows (slice_index w) (slice_index v) → Holds w s → Holds v s
  pub turn_fits : (w v : List ℕ) (s t : S) (turn : Turn R Y) → Fits w → Holds w s → Grows (slice_index w) (slice_index v) → Makes (slice_index v) s (m.want s) turn t → Wrote w v turn → ((i : ℕ) → AnswersNothing turn i → slice_index w i ≡ 0) → Fits v × Holds v t
  pub claims_right : (w : List ℕ) (s : S) → Fits w → Holds w s → ClaimsRight w (m.want s)
  pub known_stands : (w v : List ℕ) (s t : S) (turns : List (Turn R Y)) (i : ℕ) → Fits w → Grows (slice_index w) (slice_index v) → Turns m.want (slice_index w) s turns t → Known v turns i → slice_index w i ≢ 0
