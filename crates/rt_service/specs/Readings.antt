-- What the readers of this crate answer: how a turn that needs a node's words first goes on. This project's own.
use Rattle.std.specs.Prelude.{◌≡◌, ℕ, ◌<◌, false}
use Rattle.type_tree.specs.declared.tree.TExpr.{TExpr}
use Rattle.interaction.specs.declared.turn.What.TheVariants as noted
use Rattle.store_object.specs.declared.place.Place.{Place}
use Rattle.rgctx_template.specs.Catalogue.{CatData}
use Rattle.rgctx_words.specs.Regions.{node_count}
use Rattle.rgctx_fill.specs.Spelled.{spelled as spelled_at}
use Rattle.rgctx_fill.specs.SpelledLaws.{is_zero}
use Rattle.rgctx_fill.specs.declared.spelled.NodeTree.{NodeTree}
use Rattle.rgctx_fill.specs.declared.thread.Want.{Want}
use Rattle.rgctx_fill.specs.declared.thread.Want.TheVariants as answers
use Rattle.rgctx_fill.specs.ThreadStates.{ThreadData, Move}
use Rattle.rgctx_fill.specs.ServiceReplies.{refuses}
use Rattle.rgctx_fill.specs.Moves.{Span, IsMade, IsSame}
use Rattle.rt_service.specs.declared.reading.Read.{Read}
use Rattle.rt_service.specs.declared.reading.Read.TheVariants as read
use Rattle.rt_service.specs.declared.reading.TreeRead.{TreeRead}
use Rattle.rt_service.specs.declared.reading.TreeRead.TheVariants as spelled
use Rattle.rt_service.specs.declared.reading.TypeRead.{TypeRead}
use Rattle.rt_service.specs.declared.reading.TypeRead.TheVariants as typed
use Rattle.rt_service.specs.declared.typing.Pair.{Pair}
use Rattle.rt_service.specs.declared.typing.Pair.TheVariants as pair
use Rattle.rt_service.specs.declared.pointing.Target.{Target}
use Rattle.rt_service.specs.declared.pointing.Target.TheVariants as target

-- the number is that of a node that spells this by the words that are held
pub record IsSpelled (held : ℕ → ℕ) (number : ℕ) (t : NodeTree) : Type 0 where
  pub low : 0 < number
  pub high : number < node_count
  pub is : spelled_at held number ≡ t
  pub used : is_zero t ≡ false

abbrev pub IsRead : (ℕ → ℕ) → ℕ → TreeRead → Type 0
IsRead held number (spelled.Spells t) = IsSpelled held number t
IsRead held number (spelled.Unread i) = Unit {0}
IsRead held number spelled.Refused = Unit {0}

module _ (cat : CatData) (h : Span) (s : ThreadData) where
  -- behind a node's word: the turn goes on, is the load of the word, or refuses
  abbrev pub GoesOn : Read → Move → Want → ThreadData → Type 0
  GoesOn read.Passes next said new = IsMade cat h s next said new
  GoesOn (read.Unread i) next said new = IsSame h s (answers.Did (noted.Load i)) said new
  GoesOn read.Refused next said new = IsMade cat h s (refuses s) said new

  -- the same with what the node spells
  abbrev pub GoesOnWith : TreeRead → (NodeTree → Move) → Want → ThreadData → Type 0
  GoesOnWith (spelled.Spells t) next said new = IsMade cat h s (next t) said new
  GoesOnWith (spelled.Unread i) next said new = IsSame h s (answers.Did (noted.Load i)) said new
  GoesOnWith spelled.Refused next said new = IsMade cat h s (refuses s) said new

  -- the same with the type that it spells
  abbrev pub GoesOnType : TypeRead → (TExpr → Move) → Want → ThreadData → Type 0
  GoesOnType (typed.Spells t) next said new = IsMade cat h s (next t) said new
  GoesOnType (typed.Unread i) next said new = IsSame h s (answers.Did (noted.Load i)) said new
  GoesOnType typed.Refused next said new = IsMade cat h s (refuses s) said new

  -- the same with the types that two nodes spell
  abbrev pub GoesOnPair : Pair → (TExpr → TExpr → Move) → Want → ThreadData → Type 0
  GoesOnPair (pair.Types t u) next said new = IsMade cat h s (next t u) said new
  GoesOnPair (pair.Unread i) next said new = IsSame h s (answers.Did (noted.Load i)) said new
  GoesOnPair pair.Refused next said new = IsMade cat h s (refuses s) said new

  -- behind a pointer: it leads to a word of the frames or to a place of the store
  abbrev pub GoesTo : Target → (ℕ → Move) → (Place → Move) → Want → ThreadData → Type 0
  GoesTo (target.Frame i) frame store said new = IsMade cat h s (frame i) said new
  GoesTo (target.Store place) frame store said new = IsMade cat h s (store place) said new
  GoesTo (target.Unread i) frame store said new = IsSame h s (answers.Did (noted.Load i)) said new
  GoesTo target.Refused frame store said new = IsMade cat h s (refuses s) said new
