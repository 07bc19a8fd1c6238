-- The example's object: a sum, to which threads add until one of them stops it.
use Rattle.std.specs.Prelude.{ℕ, ◌+◌, Bool, true, false, not, ◌&&◌, Option, Some, None, if◌then◌else◌, ◌==◌, nat_lt}
use Rattle.interaction.specs.Object.{Sequential}

pub data Request : Type 0 where
  Add : ℕ → Request
  Start : Request
  Finish : ℕ → Request
  Stop : Request

pub data Reply : Type 0 where
  Sum : ℕ → Reply
  Begun : ℕ → Reply
  Done : Reply
  Halted : Reply
  Improper : Reply

-- the sum, how many threads have started, which have finished, and whether it was stopped
pub record Counter : Type 0 where
  pub sum : ℕ
  pub threads : ℕ
  pub finished : ℕ → Bool
  pub ended : Bool

abbrev pub lives : Counter → ℕ → Bool
lives x u = nat_lt u x.threads && not (x.finished u)

-- the reply to a live thread: the new sum, or the number of the thread that is started
abbrev pub reply_to : Counter → Request → Reply
reply_to x (Add n) = Sum (x.sum + n)
reply_to x Start = Begun x.threads
reply_to x (Finish n) = Done
reply_to x Stop = Done

-- the counter after a live thread's request
abbrev pub after_to : Counter → ℕ → Request → Counter
after_to x u (Add n) = record x { sum = x.sum + n }
after_to x u Start = record x { threads = x.threads + 1 }
after_to x u (Finish n) = record x { finished = λ v. if v == u then true else x.finished v }
after_to x u Stop = record x { ended = true }

-- the same, where the counter was stopped or the thread does not live
abbrev pub reply_by : (ended live : Bool) → Counter → Request → Reply
reply_by true live x r = Halted
reply_by false true x r = reply_to x r
reply_by false false x r = Improper

abbrev pub after_by : (ended live : Bool) → Counter → ℕ → Request → Counter
after_by true live x u r = x
after_by false true x u r = after_to x u r
after_by false false x u r = x

abbrev pub is_halted : Reply → Bool
is_halted (Sum n) = false
is_halted (Begun u) = false
is_halted Done = false
is_halted Halted = true
is_halted Improper = false

abbrev pub is_improper : Reply → Bool
is_improper (Sum n) = false
is_improper (Begun u) = false
is_improper Done = false
is_improper Halted = false
is_improper Improper = true

abbrev pub counter : Sequential Request Reply Counter
counter = record {
  first = record { sum = 0; threads = 1; finished = λ u. false; ended = false };
  reply = λ x u r. reply_by x.ended (lives x u) x r;
  after = λ x u r. after_by x.ended (lives x u) x u r;
  is_halted = is_halted;
  is_improper = is_improper;
  threads = λ x. x.threads;
  is_live = lives;
  has_ended = λ x. x.ended;
}

-- which thread a request with its reply starts, at the given place
abbrev pub starts_at : {A : Type 0} → A → Request → Reply → Option (ℕ × A)
starts_at a (Add n) y = None
starts_at a Start (Sum n) = None
starts_at a Start (Begun u) = Some (u, a)
starts_at a Start Done = None
starts_at a Start Halted = None
starts_at a Start Improper = None
starts_at a (Finish n) y = None
starts_at a Stop y = None
