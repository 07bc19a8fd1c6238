-- What is left after one reply more.
use Rattle.std.proofs.Common.{◌≡◌, ℕ, List, [], ◌∷◌, ◌++◌, Option, Some, None, refl, ap}
use Rattle.type_tree.specs.declared.tree.TExpr.{TExpr}
use Rattle.interaction.specs.Process.{Next, Settle, Spell, Ask, Over, Stuck, Naming}
use Rattle.store_object.specs.declared.reply.Reply.{Reply}
use Rattle.cil_meaning.specs.Naming.{Mention}
use Rattle.cil_meaning.specs.Replies.{Left}
use Rattle.unshared.specs.Turns.{settled_by, spelled_by, silent, replied, answered}

module _ (n : Naming Mention TExpr) where
  again_settled : (o : Option ℕ) (m : Mention) (k : ℕ → Left) → n.value_of m ≡ o → ((v : ℕ) → silent n (silent n (k v)) ≡ silent n (k v)) → silent n (settled_by o (Settle m k) (λ v. silent n (k v))) ≡ settled_by o (Settle m k) (λ v. silent n (k v))
  again_settled None m k e go = ap (λ o. settled_by o (Settle m k) (λ v. silent n (k v))) e
  again_settled (Some v) m k e go = go v

  again_spelled : (o : Option TExpr) (i : ℕ) (k : TExpr → Left) → n.tree_at i ≡ o → ((t : TExpr) → silent n (silent n (k t)) ≡ silent n (k t)) → silent n (spelled_by o (Spell i k) (λ t. silent n (k t))) ≡ spelled_by o (Spell i k) (λ t. silent n (k t))
  again_spelled None i k e go = ap (λ o. spelled_by o (Spell i k) (λ t. silent n (k t))) e
  again_spelled (Some t) i k e go = go t

  -- what is silent is so at once
  pub silent_again : (q : Left) → silent n (silent n q) ≡ silent n q
  silent_again (Next f) = refl
  silent_again (Settle m k) = again_settled (n.value_of m) m k refl (λ v. silent_again (k v))
  silent_again (Spell i k) = again_spelled (n.tree_at i) i k refl (λ t. silent_again (k t))
  silent_again (Ask r k) = refl
  silent_again Over = refl
  silent_again Stuck = refl

  replied_more : (a : Left) (y z : Reply) (ys : List Reply) → ((left : Left) → answered n (ys ++ z ∷ []) left ≡ replied n (answered n ys left) z (silent n)) → replied n a y (λ left. answered n (ys ++ z ∷ []) left) ≡ replied n (replied n a y (λ left. answered n ys left)) z (silent n)
  replied_more (Next f) y z ys more = refl
  replied_more (Settle m k) y z ys more = refl
  replied_more (Spell i k) y z ys more = refl
  replied_more (Ask r k) y z ys more = more (k y)
  replied_more Over y z ys more = refl
  replied_more Stuck y z ys more = refl

  -- one reply more
  pub answered_more : (ys : List Reply) (z : Reply) (q : Left) → answered n (ys ++ z ∷ []) q ≡ replied n (answered n ys q) z (silent n)
  answered_more [] z q = refl
  answered_more (y ∷ ys) z q = replied_more (silent n q) y z ys (λ left. answered_more ys z left)
