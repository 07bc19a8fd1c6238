-- One thread: what its next turn takes from outside, and the turns that it has made. This project's own.
use Rattle.std.specs.Prelude.{◌≡◌, ◌≢◌, ◌⊎◌, ℕ, List, [], ◌∷◌, ◌++◌}
use Rattle.interaction.specs.declared.turn.What.{What}
use Rattle.interaction.specs.declared.turn.What.TheVariants as noted
use Rattle.interaction.specs.Process.{Exchange}

-- What the next turn of a state is, with what it is noted as where that may differ. `Read` is a private turn, or
-- a request, that needs a node's word first: where the word is 0 the turn is that load, and the state stays.
pub data Want (R Y S : Type 0) : Type 0 where
  Go : What → S → Want R Y S
  Read : (i : ℕ) → (ℕ → Want R Y S) → Want R Y S
  Load : What → (i : ℕ) → (ℕ → S) → Want R Y S
  Claim : (i put : ℕ) → (ℕ → S) → Want R Y S
  Ask : R → (Y → S) → Want R Y S
  Full : Want R Y S
  Fault : Want R Y S
  Over : Want R Y S

-- a turn that was made, with what answered it
pub data Turn (R Y : Type 0) : Type 0 where
  Did : What → Turn R Y
  Loaded : What → (i answer : ℕ) → Turn R Y
  Claimed : (i put answer : ℕ) → Turn R Y
  Asked : Exchange R Y → Turn R Y

-- what a turn is noted as
abbrev pub what_of : {R Y : Type 0} → Turn R Y → What
what_of (Did a) = a
what_of (Loaded a i answer) = a
what_of (Claimed i put answer) = noted.Claim i
what_of (Asked e) = noted.Action

-- Words are known or not: `w i` is the word at index i, or 0 where none is known.
-- A load answers nothing yet, or the word.
abbrev pub MayLoad : (ℕ → ℕ) → ℕ → ℕ → Type 0
MayLoad w i answer = (answer ≡ 0) ⊎ (answer ≡ w i)

-- a claim that finds nothing puts the word; any other finds the word
abbrev pub MayFind : (ℕ → ℕ) → ℕ → ℕ → ℕ → Type 0
MayFind w i put answer = ((answer ≡ 0) × (put ≡ w i)) ⊎ ((answer ≢ 0) × (answer ≡ w i))

-- a claim puts a word other than 0
abbrev pub MayClaim : (ℕ → ℕ) → ℕ → ℕ → ℕ → Type 0
MayClaim w i put answer = (put ≢ 0) × MayFind w i put answer

-- the state `s`, whose next turn is this one, may make the turn under the words `w` and be in the state `t`
pub data Makes {R Y S : Type 0} (w : ℕ → ℕ) (s : S) : Want R Y S → Turn R Y → S → Type 0 where
  goes : {a : What} {t : S} → Makes w s (Go a t) (Did a) t
  loads : {a : What} {i v : ℕ} {k : ℕ → S} → MayLoad w i v → Makes w s (Load a i k) (Loaded a i v) (k v)
  claims : {i put v : ℕ} {k : ℕ → S} → MayClaim w i put v → Makes w s (Claim i put k) (Claimed i put v) (k v)
  asks : {r : R} {y : Y} {k : Y → S} → Makes w s (Ask r k) (Asked (record { request = r; reply = y })) (k y)
  tries : {i v : ℕ} {k : ℕ → Want R Y S} → MayLoad w i v → Makes w s (Read i k) (Loaded (noted.Load i) i v) s
  reads : {i : ℕ} {k : ℕ → Want R Y S} {turn : Turn R Y} {t : S} → w i ≢ 0 → Makes w s (k (w i)) turn t → Makes w s (Read i k) turn t

-- the turns lead from `s` to `t`
pub data Turns {R Y S : Type 0} (want : S → Want R Y S) (w : ℕ → ℕ) : S → List (Turn R Y) → S → Type 0 where
  none : {s : S} → Turns want w s [] s
  more : {s t u : S} {turn : Turn R Y} {turns : List (Turn R Y)} → Makes w s (want s) turn t → Turns want w t turns u → Turns want w s (turn ∷ turns) u

-- the request that a turn makes
abbrev pub request_of : {R Y : Type 0} → Turn R Y → List (Exchange R Y)
request_of (Did a) = []
request_of (Loaded a i answer) = []
request_of (Claimed i put answer) = []
request_of (Asked e) = e ∷ []

-- the requests among the turns
abbrev pub requests_in : {R Y : Type 0} → List (Turn R Y) → List (Exchange R Y)
requests_in [] = []
requests_in (t ∷ ts) = request_of t ++ requests_in ts

-- a turn counts one, but for a load after which the same turn is tried again
abbrev pub cost_of : {R Y S : Type 0} {w : ℕ → ℕ} {s t : S} {x : Want R Y S} {turn : Turn R Y} → Makes w s x turn t → ℕ
cost_of goes = 1
cost_of (loads m) = 1
cost_of (claims m) = 1
cost_of asks = 1
cost_of (tries m) = 0
cost_of (reads z m) = cost_of m
