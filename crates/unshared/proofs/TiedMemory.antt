-- Words of the store as the meaning reads and writes them, against what they give.
use Rattle.std.proofs.Common.{◌≡◌, ℕ, zero, suc, List, [], ◌∷◌, ◌++◌, sym, ap, subst, append_assoc, append-nil}
use Rattle.type_tree.specs.declared.tree.TExpr.{TExpr}
use Rattle.interaction.specs.Process.{Naming, Ask}
use Rattle.store_object.specs.declared.place.Place.{Place}
use Rattle.store_object.specs.declared.request.Request.TheVariants as ask
use Rattle.cil_meaning.specs.Naming.{Mention}
use Rattle.cil_meaning.specs.Replies.{Left, on_word, on_done}
use Rattle.cil_meaning.specs.Pieces.{loads, saves, next_place}
use Rattle.unshared.specs.Memory.{loads_from, saves_all}
use Rattle.unshared.specs.Talk.{Talk, pure, asks_word, asks_done}
use Rattle.unshared.specs.Turns.{answered}
use Rattle.unshared.proofs.TiedAsks.{tied_word, tied_done}
use Rattle.unshared.proofs.Tying.{Met, Tied, tied_bind, tied_pure}

module _ (n : Naming Mention TExpr) where
  -- the same tree
  pub tied_as : {B : Type 0} (tree other : (B → Left) → Left) (piece : Talk B) → ((k : B → Left) → tree k ≡ other k) → Tied n other piece → Tied n tree piece
  tied_as tree other piece e t = record { meets = λ ys k. subst (λ q. Met n (answered n ys q) k (piece ys)) (sym (e k)) (t.meets ys k) }

  pub tied_loads : (count : ℕ) (place : Place) (found : List ℕ) → Tied n (λ k. loads count place (λ ws. k (found ++ ws))) (loads_from count place found)
  unfolding loads_from
  tied_loads zero place found = tied_as (λ k. k (found ++ [])) (λ k. k found) (pure found) (λ k. ap k (append-nil found)) (tied_pure n found)
  tied_loads (suc count) place found =
      tied_as (λ k. loads (suc count) place (λ ws. k (found ++ ws))) (λ k. Ask (ask.Load place) (on_word (λ w. loads count (next_place place) (λ ws. k ((found ++ w ∷ []) ++ ws))))) (loads_from (suc count) place found)
      (λ k. simp append_assoc)
      (tied_bind n (λ k. Ask (ask.Load place) (on_word k)) (λ w k. loads count (next_place place) (λ ws. k ((found ++ w ∷ []) ++ ws))) (asks_word (ask.Load place)) (λ w. loads_from count (next_place place) (found ++ w ∷ [])) (tied_word n (ask.Load place))
      (λ w. tied_loads count (next_place place) (found ++ w ∷ [])))

  pub tied_saves : (words : List ℕ) (place : Place) → Tied n (λ k. saves words place (k tt)) (saves_all words place)
  unfolding saves_all
  tied_saves [] place = tied_pure n tt
  tied_saves (w ∷ ws) place =
      tied_bind n (λ k. Ask (ask.Save place w) (on_done (k tt))) (λ u k. saves ws (next_place place) (k tt)) (asks_done (ask.Save place w)) (λ u. saves_all ws (next_place place)) (tied_done n (ask.Save place w))
      (λ u. tied_saves ws (next_place place))
