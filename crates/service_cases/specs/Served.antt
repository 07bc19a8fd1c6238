-- Words, counts and states that services go on over. This project's own.
use Rattle.std.specs.Prelude.{◌≡◌, ℕ, ◌==◌, ◌&&◌, nat_le, Bool, true, false, List, length, slice_index}
use Rattle.il_model.specs.declared.key.BodyRow.{BodyRow}
use Rattle.il_model.specs.declared.method.MethodDef.{MethodDef}
use Rattle.rgctx_words.specs.Held.{AreFit}
use Rattle.rgctx_template.specs.declared.catalogue.Catalogue.{Catalogue}
use Rattle.rgctx_template.specs.Catalogue.{data_of}
use Rattle.rgctx_fill.specs.Fitting.{AreFitting}
use Rattle.rgctx_fill.specs.Turns.{FillData}
use Rattle.rgctx_fill.specs.declared.doing.Doing.{Doing}
use Rattle.rgctx_fill.specs.declared.doing.Doing.TheVariants.{Runs, Serves, Fills, Interprets, Throws, Searches, Refuses, Stops, Finishes, Ended}
use Rattle.rgctx_fill.specs.declared.image.FrameCount.{FrameCount}
use Rattle.rt_service.specs.Notes.{IsUnderWay}

-- these are as many words as there are, and they fit under the catalogue
abbrev pub Meets : Catalogue → List ℕ → Type 0
Meets cat words = AreFit (λ ws. AreFitting (data_of cat) (λ i. slice_index ws i)) words

-- whether a body has a frame of 8 to 2,064 words
abbrev pub has_frame : BodyRow → Bool
has_frame row = nat_le 8 row.frame && nat_le row.frame 2064

-- whether a method has three parameters at most, and with an object no more than four arguments
abbrev pub has_few : MethodDef → Bool
has_few m = nat_le (length m.params) 3

-- whether an interpreted frame has four places and a list of four addresses
abbrev pub are_four : FrameCount → Bool
are_four count = (count.places == 4) && (count.list == 4)

-- a fill that goes on is ready for its next turn
abbrev pub IsReadyOn : Catalogue → List ℕ → Doing → Type 0
IsReadyOn cat words doing = (f : FillData) → doing ≡ Fills f → IsUnderWay (data_of cat) (λ i. slice_index words i) f

-- whether a service goes on
abbrev pub is_serving : Doing → Bool
is_serving Runs = false
is_serving Serves = true
is_serving (Fills f) = true
is_serving Interprets = false
is_serving (Throws x) = true
is_serving (Searches x) = false
is_serving Refuses = true
is_serving (Stops why) = true
is_serving Finishes = true
is_serving Ended = false
