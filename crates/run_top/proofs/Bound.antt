-- How many turns a compiled program makes: its process's steps pay for them, and there are no more than instructions.
use Rattle.std.proofs.Common.{◌≡◌, ◌≤◌, ℕ, zero, suc, ◌+◌, ◌-◌, List, [], ◌∷◌, length, Option, Some, None, refl, ap, arith}
use Rattle.std.specs.Prelude.{slice_get}
use Rattle.std.proofs.lemmas.Option.{slice_get_within}
use Rattle.run_top.specs.declared.first.FirstOp.{FirstOp}
use Rattle.run_top.specs.declared.first.FirstOp.TheVariants.{Push, Add, Print, Ret}
use Rattle.interaction.specs.Process.{Exchange, Talk, rests, begins, settles, spells, asks, steps_of}
use Rattle.interaction.specs.Process as process
use Rattle.interaction.specs.Thread.{Turn, Makes, Turns, cost_of}
use Rattle.interaction.specs.Thread as thread
use Rattle.interaction.specs.Run.{Taken, turns_of}
use Rattle.interaction.specs.Progress.{spent, gained, gains}
use Rattle.store_object.specs.declared.request.Request.{Request}
use Rattle.store_object.specs.declared.reply.Reply.{Reply}
use Rattle.run_top.specs.Process.{Doing, act_of, meaning, naming}
use Rattle.run_top.specs.Machine.{Thread, Wish, want}
use Rattle.run_top.proofs.TurnKinds.{Kind, kind_of}
use Rattle.run_top.proofs.AllRuns.{AllSound}

module _ (ops : List FirstOp) where
  -- at most `n` more steps are left
  abbrev pub Within : ℕ → Doing → Type 0
  Within n (process.Next f) = (f.place ≤ length ops) × (suc (length ops) - f.place ≤ n)
  Within n (process.Settle e k) = Unit {0}
  Within n (process.Spell i k) = Unit {0}
  Within n (process.Ask r k) = (y : Reply) → Within n (k y)
  Within n process.Over = Unit {0}
  Within n process.Stuck = Unit {0}

  next_within : (n place : ℕ) (op : FirstOp) → slice_get ops place ≡ Some op → suc (length ops) - place ≤ suc n → (place + 1 ≤ length ops) × (suc (length ops) - (place + 1) ≤ n)
  next_within n place op is h = let l = slice_get_within ops place op is in (omega (arith, l), omega (arith, l))

  act_within : (n place : ℕ) (stack : List ℕ) (o : Option FirstOp) → slice_get ops place ≡ o → suc (length ops) - place ≤ suc n → Within n (act_of o place stack)
  act_within n place stack None is h = tt
  act_within n place stack (Some (Push v)) is h = next_within n place (Push v) is h
  act_within n place [] (Some Add) is h = tt
  act_within n place (y ∷ []) (Some Add) is h = tt
  act_within n place (y ∷ x ∷ stack) (Some Add) is h = next_within n place Add is h
  act_within n place [] (Some Print) is h = tt
  act_within n place (x ∷ stack) (Some Print) is h = λ reply. next_within n place Print is h
  act_within n place [] (Some Ret) is h = λ reply. tt
  act_within n place (x ∷ stack) (Some Ret) is h = tt

  pub few_steps : {p q : Doing} {es : List (Exchange Request Reply)} (t : Talk naming (meaning ops) p es q) (n : ℕ) → Within n p → steps_of t ≤ n
  few_steps rests n h = omega arith
  few_steps (begins {f = f} t) zero h = absurd (omega (arith, h.0, h.1))
  few_steps (begins {f = f} t) (suc n) h = let r = few_steps t n (act_within n f.place f.stack (slice_get ops f.place) refl h.1) in omega arith
  few_steps (settles {m = m} e t) n h = absurd m
  few_steps (spells e t) n h = absurd (cc e)
  few_steps (asks {y = y} t) n h = few_steps t n (h y)

-- each turn counts
one_cost : {image : List ℕ} {w : ℕ → ℕ} {s t : Thread} {x : Wish} {turn : Turn Request Reply} (made : Makes w s x turn t) → Kind image s x → cost_of made ≡ 1
one_cost thread.goes k = refl
one_cost (thread.loads h) k = refl
one_cost (thread.claims h) k = refl
one_cost thread.asks k = refl
one_cost (thread.tries h) k = elim k [ ]
one_cost (thread.reads nz made) k = elim k [ ]

pub spent_all : {image : List ℕ} {w : ℕ → ℕ} {s t : Thread} {ts : List (Turn Request Reply)} (turns : Turns (want image) w s ts t) → spent turns ≡ length ts
spent_all thread.none = refl
spent_all {image = image} (thread.more {s = s} made turns) = let a = one_cost made (kind_of image s) in let b = spent_all turns in omega arith

gained_none : (cost : ℕ) → gained cost 0 ≡ 0
gained_none zero = refl
gained_none (suc cost) = refl

pub gains_none : {image : List ℕ} {w : ℕ → ℕ} {s t : Thread} {ts : List (Turn Request Reply)} (turns : Turns (want image) w s ts t) → gains (λ t. 0) turns ≡ 0
gains_none thread.none = refl
gains_none (thread.more made turns) = let a = gained_none (cost_of made) in let b = gains_none turns in omega arith

-- all turns are thread 0's
pub its_turns : (image : List ℕ) (ts : List (Taken Request Reply)) → AllSound image ts → length (turns_of 0 ts) ≡ length ts
its_turns image [] all = refl
its_turns image (t ∷ ts) all = rw all.0 (ap suc (its_turns image ts all.2))
