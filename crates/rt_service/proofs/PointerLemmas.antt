-- Turns behind a pointer.
use Rattle.std.proofs.Common.{◌≡◌, ℕ, ◌-◌, ◌^◌, Bool, true, false, nat_lt, if◌then◌else◌, length}
use Rattle.store_object.specs.declared.place.Place.{Place}
use Rattle.rgctx_words.specs.Frames.{frame_index}
use Rattle.rgctx_template.specs.Catalogue.{CatData}
use Rattle.rgctx_fill.specs.declared.thread.Want.{Want}
use Rattle.rgctx_fill.specs.ThreadStates.{ImageData, ThreadData, Move}
use Rattle.rgctx_fill.specs.StoreServices.{in_frame, in_object, in_statics, with_pointer}
use Rattle.rgctx_fill.specs.Moves.{Span, IsMade}

true_false : true ≡ false → ⊥
true_false e = cc

module _ (cat : CatData) (h : Span) (s : ThreadData) (said : Want) (new : ThreadData) where
  pub chosen : (b : Bool) (m n : Move) → b ≡ false → IsMade cat h s n said new → IsMade cat h s (if b then m else n) said new
  chosen true m n e made = absurd (true_false e)
  chosen false m n e made = made

  -- a pointer that is neither into the frames nor into an object is to a static word
  pub to_statics : (im : ImageData) (p : ℕ) (frame : ℕ → Move) (store : Place → Move) → nat_lt p (2 ^ 62) ≡ false → nat_lt p (2 ^ 63) ≡ false
      → IsMade cat h s (in_statics im s (p - 2 ^ 63) store) said new → IsMade cat h s (with_pointer im s p frame store) said new
  to_statics im p frame store low high made =
      chosen (nat_lt p (2 ^ 62)) (in_frame im s (frame_index (length s.stack.words) p) frame) (if nat_lt p (2 ^ 63) then in_object im s (p - 2 ^ 62) store else in_statics im s (p - 2 ^ 63) store) low
      (chosen (nat_lt p (2 ^ 63)) (in_object im s (p - 2 ^ 62) store) (in_statics im s (p - 2 ^ 63) store) high made)
