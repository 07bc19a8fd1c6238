-- The example's processes are never stuck.
use Rattle.std.proofs.Common.{◌≡◌, ℕ, suc, ◌<◌, ◌≤◌, List, Some, None, refl, sym, subst, arith, inl, inr, eqb-true, eq-eqb, ltb-true, lt-ltb}
use Rattle.std.proofs.lemmas.Bool.Decides.{nat_tests}
use Rattle.std.specs.Prelude.{Bool, true, false, not, ◌&&◌, nat_lt, if◌then◌else◌, ◌==◌, slice_index}
use Rattle.interaction.specs.History.{Begins, NeverStuck}
use Rattle.interaction.specs.Safety.{Language, IsKept, Safe, SafetyLaws, SafeStart}
use Rattle.interaction.specs.CounterObject.{Request, Reply, Counter, Add, Start, Finish, Stop, lives, reply_to, after_to, reply_by, after_by, is_halted, is_improper, counter, starts_at}
use Rattle.interaction.specs.CounterProcess.{Mention, Frames, Beginning, Forking, Settling, Adding, Leaving, Left, when_begun, when_added, when_done, leave_by, naming_of, meaning, begin}
use Rattle.interaction.proofs.NeverStuck.{never_stuck, language_begins}

module _ (w : List ℕ) where
  -- an instruction that adds has the number of a tree
  abbrev pub FramesFit : Counter → Frames → Type 0
  FramesFit x (Adding i) = (t : ℕ) × ((naming_of w).tree_at i ≡ Some t)
  FramesFit x Beginning = Unit {0}
  FramesFit x Forking = Unit {0}
  FramesFit x Settling = Unit {0}
  FramesFit x (Leaving n) = Unit {0}

  abbrev pub language : Language Mention ℕ Request Reply Frames Counter
  language = record {
    object = counter;
    naming = naming_of w;
    meaning = meaning;
    starts = starts_at Settling;
    -- who has not started has not finished
    Typed = λ x. (u : ℕ) → x.threads ≤ u → x.finished u ≡ false;
    Grows = λ x y. Unit {0};
    Fits = FramesFit;
  }

  named : (b : Bool) → (slice_index w 0 == 0) ≡ b → (v : ℕ) → (if b then None else Some 1) ≡ Some v → (t : ℕ) × ((naming_of w).tree_at v ≡ Some t)
  named true e v h = absurd (cc h)
  named false e v h = (slice_index w 0, tree)
    where
      tree : (if v == 1 then (if slice_index w 0 == 0 then None else Some (slice_index w 0)) else None) ≡ Some (slice_index w 0)
      tree = let t : (v == 1) ≡ true = eq-eqb v 1 (let s : 1 ≡ v = cc h in sym s) in rw t (rw e refl)

  live_low : (x : Counter) (u : ℕ) → lives x u ≡ true → u < x.threads
  live_low x u h = by_test (nat_lt u x.threads) refl h
    where
      by_test : (b : Bool) → nat_lt u x.threads ≡ b → (b && not (x.finished u)) ≡ true → u < x.threads
      by_test true e h' = ltb-true u x.threads e
      by_test false e h' = absurd (cc h')

  live_here : (x : Counter) (u : ℕ) → u < x.threads → x.finished u ≡ false → lives x u ≡ true
  live_here x u lt f = let t : nat_lt u x.threads ≡ true = lt-ltb u x.threads lt in rw (t, f) refl

  live_open : (x : Counter) (u : ℕ) → lives x u ≡ true → x.finished u ≡ false
  live_open x u h = by_test (nat_lt u x.threads) (x.finished u) h
    where
      by_test : (b c : Bool) → (b && not c) ≡ true → c ≡ false
      by_test true true h' = absurd (cc h')
      by_test true false h' = refl
      by_test false c h' = absurd (cc h')

  -- what a live thread's request does to the counter
  typed_after : (x : Counter) (u : ℕ) (r : Request) → lives x u ≡ true → ((v : ℕ) → x.threads ≤ v → x.finished v ≡ false) → (v : ℕ) → (after_to x u r).threads ≤ v → (after_to x u r).finished v ≡ false
  typed_after x u (Add n) l typed v up = typed v up
  typed_after x u Start l typed v up = typed v (omega (arith, up))
  typed_after x u Stop l typed v up = typed v up
  typed_after x u (Finish n) l typed v up = by_test (v == u) refl
    where
      by_test : (b : Bool) → (v == u) ≡ b → (if b then true else x.finished v) ≡ false
      by_test true e = let same = eqb-true v u e in absurd (omega (arith, up, live_low x u l))
      by_test false e = typed v up

  -- a live thread's request, whether or not the counter was stopped
  ask : (u : ℕ) (y : Counter) (r : Request) (k : Reply → Left) → lives y u ≡ true → is_improper (reply_to y r) ≡ false → IsKept language u (after_to y u r) r (reply_to y r) (k (reply_to y r)) (Safe language u (after_to y u r) (k (reply_to y r))) → (is_improper (reply_by y.ended (lives y u) y r) ≡ false) × (is_halted (reply_by y.ended (lives y u) y r) ≡ false → IsKept language u (after_by y.ended (lives y u) y u r) r (reply_by y.ended (lives y u) y r) (k (reply_by y.ended (lives y u) y r)) (Safe language u (after_by y.ended (lives y u) y u r) (k (reply_by y.ended (lives y u) y r))))
  ask u y r k l proper kept = rw l (by_end y.ended)
    where
      by_end : (c : Bool) → (is_improper (reply_by c true y r) ≡ false) × (is_halted (reply_by c true y r) ≡ false → IsKept language u (after_by c true y u r) r (reply_by c true y r) (k (reply_by c true y r)) (Safe language u (after_by c true y u r) (k (reply_by c true y r))))
      by_end true = (refl, λ go. absurd (cc go))
      by_end false = (proper, λ go. kept)

  leaves : (u : ℕ) (y : Counter) (b : Bool) (n : ℕ) → ((v : ℕ) → y.threads ≤ v → y.finished v ≡ false) → lives y u ≡ true → (is_improper (reply_by y.ended (lives y u) y (leave_by b n)) ≡ false) × (is_halted (reply_by y.ended (lives y u) y (leave_by b n)) ≡ false → IsKept language u (after_by y.ended (lives y u) y u (leave_by b n)) (leave_by b n) (reply_by y.ended (lives y u) y (leave_by b n)) (when_done (reply_by y.ended (lives y u) y (leave_by b n))) (Safe language u (after_by y.ended (lives y u) y u (leave_by b n)) (when_done (reply_by y.ended (lives y u) y (leave_by b n)))))
  leaves u y true n typed l = ask u y Stop when_done l refl (typed, tt, inl refl, tt)
  leaves u y false n typed l = ask u y (Finish n) when_done l refl (typed_after y u (Finish n) l typed, tt, inl refl, tt)

  steps : (u : ℕ) (x : Counter) (f : Frames) → FramesFit x f → Safe language u x (meaning f)
  steps u x Beginning fits = tt
  steps u x Settling fits = λ v is. named (slice_index w 0 == 0) refl v is
  steps u x Forking fits = λ y g typed l. ask u y Start when_begun l refl (typed_after y u Start l typed, tt, inr (live_here (after_to y u Start) u (omega (arith, live_low y u l)) (live_open y u l)), tt)
  steps u x (Adding i) fits = (fits, λ t is y g typed l. ask u y (Add t) when_added l refl (typed, tt, inr l, tt))
  steps u x (Leaving n) fits = λ y g typed l. leaves u y (nat_lt 10 n) n typed l

  lives_other : (x : Counter) (t u : ℕ) (r : Request) → (t == u) ≡ false → lives x u ≡ true → lives (after_by x.ended (lives x t) x t r) u ≡ true
  lives_other x t u r ne l = by_live x.ended (lives x t) r
    where
      by_live : (c b : Bool) (r : Request) → lives (after_by c b x t r) u ≡ true
      by_live true b r = l
      by_live false false r = l
      by_live false true (Add n) = l
      by_live false true Start = live_here (after_to x t Start) u (omega (arith, live_low x u l)) (live_open x u l)
      by_live false true Stop = l
      by_live false true (Finish n) =
          let other : (u == t) ≡ false = grind (arith, nat_tests) in
          live_here (after_to x t (Finish n)) u (live_low x u l) (other_open other)
        where
          other_open : (u == t) ≡ false → (if u == t then true else x.finished u) ≡ false
          other_open e = rw e (live_open x u l)

  asks_alive : (x : Counter) (t : ℕ) (r : Request) → is_halted (reply_by x.ended (lives x t) x r) ≡ false → is_improper (reply_by x.ended (lives x t) x r) ≡ false → lives x t ≡ true
  asks_alive x t r go h = by_live x.ended (lives x t) go h
    where
      by_live : (c b : Bool) → is_halted (reply_by c b x r) ≡ false → is_improper (reply_by c b x r) ≡ false → b ≡ true
      by_live true b go' h' = absurd (cc go')
      by_live false true go' h' = refl
      by_live false false go' h' = absurd (cc h')

  -- what starts nobody leaves the count
  begins_none : (x : Counter) (t : ℕ) (r : Request) → starts_at Settling r (reply_by x.ended (lives x t) x r) ≡ None → (after_by x.ended (lives x t) x t r).threads ≡ x.threads
  begins_none x t r h = by_live x.ended (lives x t) r h
    where
      by_live : (c b : Bool) (r : Request) → starts_at Settling r (reply_by c b x r) ≡ None → (after_by c b x t r).threads ≡ x.threads
      by_live true b r h' = refl
      by_live false false r h' = refl
      by_live false true (Add n) h' = refl
      by_live false true Start h' = absurd (cc h')
      by_live false true (Finish n) h' = refl
      by_live false true Stop h' = refl

  -- only Start of a live thread starts one
  start_only : (P : Counter → ℕ × Frames → Type 0) (x : Counter) (t : ℕ) (r : Request) (b : ℕ × Frames) → P (after_to x t Start) (x.threads, Settling) → starts_at Settling r (reply_by x.ended (lives x t) x r) ≡ Some b → P (after_by x.ended (lives x t) x t r) b
  start_only P x t r b here h = by_live x.ended (lives x t) r h
    where
      by_live : (c d : Bool) (r : Request) → starts_at Settling r (reply_by c d x r) ≡ Some b → P (after_by c d x t r) b
      by_live false true Start h' = subst (P (after_to x t Start)) (cc h') here
      by_live false true (Add n) h' = absurd (cc h')
      by_live false true (Finish n) h' = absurd (cc h')
      by_live false true Stop h' = absurd (cc h')
      by_live true d (Add n) h' = absurd (cc h')
      by_live true d Start h' = absurd (cc h')
      by_live true d (Finish n) h' = absurd (cc h')
      by_live true d Stop h' = absurd (cc h')
      by_live false false (Add n) h' = absurd (cc h')
      by_live false false Start h' = absurd (cc h')
      by_live false false (Finish n) h' = absurd (cc h')
      by_live false false Stop h' = absurd (cc h')

  pub laws : SafetyLaws language
  laws = record {
    grows_self = λ x. tt;
    grows_then = λ x y z g h. tt;
    grows_after = λ x t r. tt;
    fits_later = later;
    steps = steps;
    lives_below = live_low;
    lives_other = lives_other;
    asks_alive = asks_alive;
    begins_none = begins_none;
    begins_one = λ x t r b l go s. start_only (λ y c. (c.0 ≡ x.threads) × (y.threads ≡ suc x.threads)) x t r b (refl, omega arith) s;
    begun_lives = λ x t r b typed l go s. start_only (λ y c. lives y c.0 ≡ true) x t r b (live_here (after_to x t Start) x.threads (omega arith) (typed x.threads (omega arith))) s;
  }
    where
      later : (x y : Counter) (f : Frames) → Unit {0} → FramesFit x f → FramesFit y f
      later x y Beginning g h = h
      later x y Forking g h = h
      later x y Settling g h = h
      later x y (Adding i) g h = h
      later x y (Leaving n) g h = h

  pub start : SafeStart language Beginning
  start = record { typed = λ u up. refl; one = refl; lives = refl; fits = tt }

  pub counter_begins : Begins counter begin
  counter_begins = language_begins language laws Beginning start

  pub counter_never_stuck : NeverStuck counter (naming_of w) meaning begin
  counter_never_stuck = never_stuck language laws Beginning start
