-- Pieces of the meaning, which go on with a value, against functions of replies.
use Rattle.std.proofs.Common.{◌≡◌, ◌∙◌, List, [], ◌∷◌, Ok, Err, refl, sym, ap, subst}
use Rattle.type_tree.specs.declared.tree.TExpr.{TExpr}
use Rattle.interaction.specs.Process.{Naming, Ask, Over, Stuck}
use Rattle.store_object.specs.declared.request.Request.{Request}
use Rattle.store_object.specs.declared.reply.Reply.{Reply}
use Rattle.cil_meaning.specs.Naming.{Mention}
use Rattle.cil_meaning.specs.Replies.{Left}
use Rattle.unshared.specs.declared.pause.Halt.TheVariants as halt
use Rattle.unshared.specs.Acts.{Halts}
use Rattle.unshared.specs.Silent.{Silent}
use Rattle.unshared.specs.Talk.{Came, Talk, ◌>>=◌, and_then, pure, said, say, asks, over}
use Rattle.unshared.specs.Turns.{answered}
use Rattle.unshared.proofs.Muting.{SilentMet, Mute}

-- Pieces that use replies. --------------------------------------------------

module _ (n : Naming Mention TExpr) where
  abbrev pub Met : {B : Type 0} → Left → (B → Left) → Came B → Type 0
  Met q k (Ok r) = q ≡ answered n r.1 (k r.0)
  Met q k (Err h) = Halts q h

  pub record Tied {B : Type 0} (tree : (B → Left) → Left) (piece : Talk B) : Type 0 where
    pub meets : (ys : List Reply) (k : B → Left) → Met (answered n ys (tree k)) k (piece ys)

  by_came : {A B : Type 0} (next : A → (B → Left) → Left) (then_ : A → Talk B) (k : B → Left) (q : Left) (came : Came A) → ((a : A) → Tied (next a) (then_ a)) →
      Met q (λ a. next a k) came → Met q k (and_then came then_)
  by_came next then_ k q (Ok r) more e = subst (λ z. Met z k (then_ r.0 r.1)) (sym e) ((more r.0).meets r.1 k)
  by_came next then_ k q (Err h) more e = e

  pub tied_bind : {A B : Type 0} (tree : (A → Left) → Left) (next : A → (B → Left) → Left) (piece : Talk A) (then_ : A → Talk B) → Tied tree piece → ((a : A) → Tied (next a) (then_ a)) →
      Tied (λ k. tree (λ a. next a k)) (piece >>= then_)
  tied_bind tree next piece then_ first more = record { meets = λ ys k. by_came next then_ k (answered n ys (tree (λ a. next a k))) (piece ys) more (first.meets ys (λ a. next a k)) }

  pub tied_pure : {B : Type 0} (b : B) → Tied (λ k. k b) (pure b)
  tied_pure b = record { meets = λ ys k. refl }

  -- no rule, whatever replies come
  pub stuck_stays : (ys : List Reply) → answered n ys Stuck ≡ Stuck
  stuck_stays [] = refl
  stuck_stays (y ∷ ys) = refl

  pub over_meets : {B : Type 0} (ys : List Reply) (k : B → Left) → Met (answered n ys Over) k (over {A = B} ys)
  over_meets [] k = refl
  over_meets (y ∷ ys) k = refl

  pub tied_over : {B : Type 0} → Tied {B = B} (λ k. Over) over
  tied_over = record { meets = over_meets }

  said_meets : {B : Type 0} (tree : (B → Left) → Left) (r : Silent B) → SilentMet tree r → (ys : List Reply) (k : B → Left) → Met (answered n ys (tree k)) k (said r ys)
  said_meets tree (Ok b) e ys k = ap (answered n ys) (e k)
  said_meets tree (Err (halt.Asks r)) e ys k = absurd e
  said_meets tree (Err halt.Over) e ys k = absurd e
  said_meets tree (Err halt.Stuck) e ys k = ap (answered n ys) (e k) ∙ stuck_stays ys
  said_meets tree (Err halt.Unnamed) e ys k = absurd e

  pub tied_say : {B : Type 0} (tree : (B → Left) → Left) (r : Silent B) → Mute tree r → Tied tree (say r)
  tied_say tree r m = record { meets = said_meets tree r m.met }

  ask_meets : (r : Request) (ys : List Reply) (k : Reply → Left) → Met (answered n ys (Ask r k)) k (asks r ys)
  ask_meets r [] k = (k, refl)
  ask_meets r (y ∷ ys) k = refl

  pub tied_ask : (r : Request) → Tied (Ask r) (asks r)
  tied_ask r = record { meets = ask_meets r }
