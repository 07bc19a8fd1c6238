-- Pieces of the meaning that make no request, against what they give.
use Rattle.std.proofs.Common.{◌≡◌, ◌∙◌, Bool, true, false, Option, Some, None, Ok, Err, refl}
use Rattle.interaction.specs.Process.{Stuck}
use Rattle.cil_meaning.specs.Replies.{Left}
use Rattle.cil_meaning.specs.Pieces.{given}
use Rattle.unshared.specs.declared.pause.Halt.TheVariants as halt
use Rattle.unshared.specs.Silent.{Silent, ◌>>=◌, there, stuck, where_so}

abbrev pub SilentMet : {B : Type 0} → ((B → Left) → Left) → Silent B → Type 0
SilentMet {B = B} tree (Ok b) = (k : B → Left) → tree k ≡ k b
SilentMet {B = B} tree (Err (halt.Asks r)) = ⊥
SilentMet {B = B} tree (Err halt.Over) = ⊥
SilentMet {B = B} tree (Err halt.Stuck) = (k : B → Left) → tree k ≡ Stuck
SilentMet {B = B} tree (Err halt.Unnamed) = ⊥

pub record Mute {B : Type 0} (tree : (B → Left) → Left) (r : Silent B) : Type 0 where
  pub met : SilentMet tree r

-- what gives nothing to a piece, and what gives a value
pub mute_ok : {B : Type 0} (tree : (B → Left) → Left) (b : B) → ((k : B → Left) → tree k ≡ k b) → Mute tree (Ok b)
mute_ok tree b e = record { met = e }

pub mute_stuck : {B : Type 0} (tree : (B → Left) → Left) → ((k : B → Left) → tree k ≡ Stuck) → Mute tree (stuck {A = B})
mute_stuck tree e = record { met = e }

bind_by : {A B : Type 0} (tree : (A → Left) → Left) (next : A → (B → Left) → Left) (r : Silent A) (then_ : A → Silent B) → SilentMet tree r → ((a : A) → Mute (next a) (then_ a)) →
    SilentMet (λ k. tree (λ a. next a k)) (r >>= then_)
bind_by tree next (Ok a) then_ e more = onward (then_ a) (more a).met
  where
    onward : (s : Silent _) → SilentMet (next a) s → SilentMet (λ k. tree (λ x. next x k)) s
    onward (Ok b) h = λ k. e (λ x. next x k) ∙ h k
    onward (Err (halt.Asks r)) h = h
    onward (Err halt.Over) h = h
    onward (Err halt.Stuck) h = λ k. e (λ x. next x k) ∙ h k
    onward (Err halt.Unnamed) h = h
bind_by tree next (Err (halt.Asks r)) then_ e more = e
bind_by tree next (Err halt.Over) then_ e more = e
bind_by tree next (Err halt.Stuck) then_ e more = λ k. e (λ a. next a k)
bind_by tree next (Err halt.Unnamed) then_ e more = e

pub mute_bind : {A B : Type 0} (tree : (A → Left) → Left) (next : A → (B → Left) → Left) (r : Silent A) (then_ : A → Silent B) → Mute tree r → ((a : A) → Mute (next a) (then_ a)) →
    Mute (λ k. tree (λ a. next a k)) (r >>= then_)
mute_bind tree next r then_ first more = record { met = bind_by tree next r then_ first.met more }

-- what is there
pub mute_there : {A : Type 0} (o : Option A) → Mute (given o) (there o)
mute_there None = record { met = λ k. refl }
mute_there (Some a) = record { met = λ k. refl }

-- a test
pub mute_so : {B : Type 0} (tree : (B → Left) → Left) (b : Bool) (r : Silent B) → (b ≡ true → Mute tree r) → (b ≡ false → (k : B → Left) → tree k ≡ Stuck) → Mute tree (where_so b r)
mute_so tree true r holds fails = holds refl
mute_so tree false r holds fails = record { met = fails refl }
