-- How many turns a thread makes: what its process's steps and what it began pay for.
use Rattle.std.proofs.Common.{◌≡◌, ℕ, ◌+◌, ◌*◌, ◌≤◌, List, [], ◌++◌, refl, sym, ap, ◌∙◌, arith, append_assoc}
use Rattle.std.specs.Prelude.{false}
use Rattle.interaction.specs.Process.{Act, Exchange, Talk, rests, steps_of, Halts}
use Rattle.interaction.specs.Thread.{Want, Turn, Makes, Turns, request_of, requests_in, cost_of}
use Rattle.interaction.specs.Thread as thread
use Rattle.interaction.specs.Simulation.{Sides, Keeps, GoesOn, per_step}
use Rattle.interaction.specs.Progress.{spent, gained, gains}
use Rattle.interaction.proofs.Compose.{guard}
use Rattle.interaction.proofs.Talks.{talk_on, steps_of-talk_on}
use Rattle.interaction.proofs.Follow.{Kept, OneTurn, kept, stops, one_turn}

module _ {M T R Y F S : Type 0} (on : Sides M T R Y F S) (At : Act M T R Y F → S → Type 0) where
  -- the process has made the requests of the turns, and its steps have paid for those that count
  pub record Paid (n : ℕ) (p : Act M T R Y F) {s t : S} {ts : List (Turn R Y)} (turns : Turns on.want on.words s ts t) : Type 0 where
    pub q : Act M T R Y F
    pub left : ℕ
    pub talk : Talk on.naming on.meaning p (requests_in ts) q
    pub keeps : Keeps on At false left q t
    pub paid : spent turns + left ≤ n + per_step * steps_of talk + gains on.gain turns

  first_paid : {n : ℕ} {p : Act M T R Y F} {s t end : S} {turn : Turn R Y} {ts : List (Turn R Y)} (made : Makes on.words s (on.want s) turn t) (turns : Turns on.want on.words t ts end) → (k : Kept on At (n + gained (cost_of made) (on.gain s)) p (request_of turn) (cost_of made) t) → Paid k.left k.q turns → Paid n p (thread.more made turns)
  first_paid made turns k r = record {
    q = r.q;
    left = r.left;
    talk = talk_on k.talk r.talk;
    keeps = r.keeps;
    paid = omega (arith, k.paid, r.paid, steps_of-talk_on k.talk r.talk);
  }

  -- the process does not halt on its way through these requests
  abbrev pub IsAliveOn : Act M T R Y F → List (Exchange R Y) → Type 0
  IsAliveOn p es = (front back : List (Exchange R Y)) (q : Act M T R Y F) → es ≡ front ++ back → Talk on.naming on.meaning p front q → Halts on.naming q → ⊥

  alive_after : {p q : Act M T R Y F} {es fs : List (Exchange R Y)} → Talk on.naming on.meaning p es q → IsAliveOn p (es ++ fs) → IsAliveOn q fs
  alive_after {es = es} t alive front back o e u x = alive (es ++ front) back o (ap (λ gs. es ++ gs) e ∙ sym (append_assoc es front back)) (talk_on t u) x

  next_paid : {n : ℕ} {p : Act M T R Y F} {s t end : S} {turn : Turn R Y} {ts : List (Turn R Y)} (made : Makes on.words s (on.want s) turn t) (turns : Turns on.want on.words t ts end) → IsAliveOn p (request_of turn ++ requests_in ts) → ((m : ℕ) (q : Act M T R Y F) → IsAliveOn q (requests_in ts) → Keeps on At false m q t → Paid m q turns) → OneTurn on At n p s made → Paid n p (thread.more made turns)
  next_paid {turn = turn} {ts = ts} made turns alive go (stops t x) = absurd (alive [] (request_of turn ++ requests_in ts) _ refl t x)
  next_paid made turns alive go (kept k) = first_paid made turns k (go k.left k.q (alive_after k.talk alive) k.keeps)

  -- Each counted turn is paid for: the turns so far are at most n and what the steps and the gains pay.
  pub progress : GoesOn on At → {s : S} {ts : List (Turn R Y)} {t : S} (turns : Turns on.want on.words s ts t) → (n : ℕ) (p : Act M T R Y F) → IsAliveOn p (requests_in ts) → Keeps on At false n p s → Paid n p turns
  progress on_from thread.none n p alive k = record { q = p; left = n; talk = rests; keeps = k; paid = omega arith }
  progress on_from (thread.more made turns) n p alive k = next_paid made turns alive (λ m q alive' k'. progress on_from turns m q alive' k') (one_turn on At made (guard on_from k))
