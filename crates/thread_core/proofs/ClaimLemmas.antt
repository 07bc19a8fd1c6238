-- A claim that a thread makes is of one of the words, and puts a word other than 0.
use Rattle.std.proofs.Common.{◌≡◌, ◌<◌, ℕ, List, length, refl, sym, subst}
use Rattle.std.specs.Prelude.{slice_index}
use Rattle.interaction.specs.RunLaws.{ClaimsRight}
use Rattle.rgctx_words.specs.Regions.{word_count}
use Rattle.rgctx_template.specs.Catalogue.{CatData}
use Rattle.rgctx_fill.specs.declared.doing.Doing.{Doing}
use Rattle.rgctx_fill.specs.declared.doing.Doing.TheVariants.{Runs, Serves, Fills, Interprets, Throws, Searches, Refuses, Stops, Finishes, Ended}
use Rattle.rgctx_fill.specs.declared.stage.FillNext.{FillNext}
use Rattle.rgctx_fill.specs.declared.stage.FillNext.TheVariants as fill
use Rattle.rgctx_fill.specs.FillServices.{fills_next}
use Rattle.rgctx_fill.specs.Ready.{IsReady}
use Rattle.rgctx_fill.specs.ThreadStates.{ImageData, ThreadData, Move, plain}
use Rattle.rgctx_fill.specs.ThreadStates as move
use Rattle.rgctx_fill.specs.ThreadTurns.{move_of, next_move}
use Rattle.rgctx_fill.specs.Turns.{FillData, next_of}
use Rattle.rgctx_fill.proofs.TurnLemmas.{MayPut, may-put}
use Rattle.thread_core.specs.Going.{IsGoing}
use Rattle.thread_core.proofs.TameLemmas.{IsTame, move_tame}

tame_right : (w : List ℕ) (m : Move) → IsTame m → ClaimsRight w (plain m)
tame_right w (move.Goes what t) tame = tt
tame_right w (move.Reads i next) tame = λ nz. tame_right w (next (slice_index w i)) (tame (slice_index w i))
tame_right w (move.Loads what i next) tame = tt
tame_right w (move.Claims i word next) tame = absurd tame
tame_right w (move.Asks request next) tame = tt
tame_right w (move.IsFull region key) tame = tt
tame_right w (move.Faults fault) tame = tt
tame_right w move.IsOver tame = tt

module _ (cat : CatData) (w : List ℕ) (count : length w ≡ word_count) (s : ThreadData) where
  fill_right : (f : FillData) → IsReady cat (slice_index w) f → (n : FillNext) → next_of f ≡ n → ClaimsRight w (plain (fills_next s f n))
  fill_right f ready (fill.Load i) is = tt
  fill_right f ready (fill.Claim i word) is =
      let may : MayPut cat (slice_index w) i word = may-put cat (slice_index w) f ready i word is in
      (subst (λ n. i < n) (sym count) may.low, may.used)
  fill_right f ready (fill.Full r key) is = tt
  fill_right f ready fill.Nothing is = tt

module _ (im : ImageData) (w : List ℕ) (count : length w ≡ word_count) (s : ThreadData) where
  doing_right : (d : Doing) → IsGoing im.cat (slice_index w) d → ClaimsRight w (plain (move_of im s d))
  doing_right Runs going = tame_right w (move_of im s Runs) (move_tame im s Runs tt)
  doing_right Serves going = tame_right w (move_of im s Serves) (move_tame im s Serves tt)
  doing_right (Fills f) going = fill_right im.cat w count s f going.1 (next_of f) refl
  doing_right Interprets going = tt
  doing_right (Throws x) going = tt
  doing_right (Searches x) going = tt
  doing_right Refuses going = tt
  doing_right (Stops why) going = tt
  doing_right Finishes going = tt
  doing_right Ended going = tt

  pub claims_right : IsGoing im.cat (slice_index w) s.doing → ClaimsRight w (plain (next_move im s))
  claims_right going = doing_right s.doing going
