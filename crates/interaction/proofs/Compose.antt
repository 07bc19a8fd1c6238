-- How pieces of a simulation are put together: one after another, and in rounds.
use Rattle.std.proofs.Common.{◌≡◌, ℕ, zero, suc, ◌+◌, ◌*◌, ◌≤◌, subst, arith}
use Rattle.std.specs.Prelude.{Bool, true, false}
use Rattle.interaction.specs.Process.{Act}
use Rattle.interaction.specs.Thread.{Want}
use Rattle.interaction.specs.Simulation.{Sides, Keeps, Onward, GoesOn, arrives, nowhere, begins, settles, spells, turns, goes, loads, claims, reads, asks, fills, ends}

-- more turns to spend
pub more : {M T R Y F S : Type 0} {on : Sides M T R Y F S} {At : Act M T R Y F → S → Type 0} {b : Bool} {n : ℕ} {p : Act M T R Y F} {s : S} (n' : ℕ) → n ≤ n' → Keeps on At b n p s → Keeps on At b n' p s
more n' le (arrives a) = arrives a
more n' le (nowhere h) = nowhere h
more n' le (begins m h k) = begins m (omega arith) k
more n' le (settles m h e k) = settles m (omega arith) e k
more n' le (spells e k) = spells e (more n' le k)
more n' le (turns m h o) = turns m (omega arith) o

-- a piece that makes a turn is a piece
pub loosen : {M T R Y F S : Type 0} {on : Sides M T R Y F S} {At : Act M T R Y F → S → Type 0} {b : Bool} {n : ℕ} {p : Act M T R Y F} {s : S} → Keeps on At b n p s → Keeps on At false n p s
loosen (arrives a) = arrives a
loosen (nowhere h) = nowhere h
loosen (begins m h k) = begins m h (loosen k)
loosen (settles m h e k) = settles m h e (loosen k)
loosen (spells e k) = spells e (loosen k)
loosen (turns m h o) = turns m h o

-- one piece after another: the turns to spend add up
mutual
  pub then_keeps : {M T R Y F S : Type 0} {on : Sides M T R Y F S} {At Bt : Act M T R Y F → S → Type 0} (m : ℕ) → ((p : Act M T R Y F) (s : S) → At p s → Keeps on Bt false m p s) → {b : Bool} {n : ℕ} {p : Act M T R Y F} {s : S} → Keeps on At b n p s → Keeps on Bt b (n + m) p s
  then_keeps m next {n = n} {p = p} {s = s} (arrives a) = more (n + m) (omega arith) (next p s a)
  then_keeps m next (nowhere h) = nowhere h
  then_keeps m next (begins j h k) = begins (j + m) (omega arith) (then_keeps m next k)
  then_keeps m next (settles j h e k) = settles (j + m) (omega arith) e (then_keeps m next k)
  then_keeps m next (spells e k) = spells e (then_keeps m next k)
  then_keeps m next (turns j h o) = turns (j + m) (omega arith) (then_onward m next o)

  pub then_onward : {M T R Y F S : Type 0} {on : Sides M T R Y F S} {At Bt : Act M T R Y F → S → Type 0} (m : ℕ) → ((p : Act M T R Y F) (s : S) → At p s → Keeps on Bt false m p s) → {n : ℕ} {p : Act M T R Y F} {x : Want R Y S} → Onward on At n p x → Onward on Bt (n + m) p x
  then_onward m next (goes k) = goes (then_keeps m next k)
  then_onward m next (loads k) = loads (λ a h. then_keeps m next (k a h))
  then_onward m next (claims k) = claims (λ a h. then_keeps m next (k a h))
  then_onward m next (reads k) = reads (λ h. then_onward m next (k h))
  then_onward m next (asks k) = asks (λ y. then_keeps m next (k y))
  then_onward m next fills = fills
  then_onward m next ends = ends

-- a place where the thread has arrived is the beginning of the next piece
pub guard : {M T R Y F S : Type 0} {on : Sides M T R Y F S} {At : Act M T R Y F → S → Type 0} → GoesOn on At → {b : Bool} {n : ℕ} {p : Act M T R Y F} {s : S} → Keeps on At b n p s → Keeps on At true n p s
guard on_from {n = n} {p = p} {s = s} (arrives a) = more n (omega arith) (on_from p s a)
guard on_from (nowhere x) = nowhere x
guard on_from (begins m h k) = begins m h (guard on_from k)
guard on_from (settles m h is k) = settles m h is (guard on_from k)
guard on_from (spells is k) = spells is (guard on_from k)
guard on_from (turns m h o) = turns m h o

-- so many rounds, each of which is a piece with `c` turns to spend
module _ {M T R Y F S : Type 0} (on : Sides M T R Y F S) (At : ℕ → Act M T R Y F → S → Type 0) (c : ℕ) (round : (k : ℕ) (p : Act M T R Y F) (s : S) → At k p s → Keeps on (At (suc k)) false c p s) where
  pub rounds : (n k : ℕ) (p : Act M T R Y F) (s : S) → At k p s → Keeps on (At (n + k)) false (n * c) p s
  rounds zero k p s a = let e : k ≡ 0 + k = omega arith in arrives (subst (λ j. At j p s) e a)
  rounds (suc n) k p s a =
      let e : n + suc k ≡ suc n + k = omega arith in
      let rest = then_keeps (n * c) (λ q t b. subst (λ j. Keeps on (At j) false (n * c) q t) e (rounds n (suc k) q t b)) (round k p s a) in
      more (suc n * c) (omega arith) rest
