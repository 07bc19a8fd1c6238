-- What the services are lent: the conditions on an image and on a state. This project's own.
use Rattle.std.specs.Prelude.{◌≡◌, ℕ, ◌+◌, ◌≤◌, length, slice_get, Some, IsSome, if◌then◌else◌}
use Rattle.il_model.specs.declared.key.BodyRow.{BodyRow}
use Rattle.il_model.specs.declared.method.MethodDef.{MethodDef}
use Rattle.il_model.specs.Find.{takes_object}
use Rattle.il_model.specs.Found.{method_at}
use Rattle.rgctx_template.specs.Catalogue.{CatData}
use Rattle.crossings.specs.Calls.{IsBodyFrame, most_places}
use Rattle.rgctx_fill.specs.declared.image.FrameCount.{FrameCount}
use Rattle.rgctx_fill.specs.declared.doing.Doing.{Doing}
use Rattle.rgctx_fill.specs.declared.doing.Doing.TheVariants.{Runs, Serves, Fills, Interprets, Throws, Searches, Refuses, Stops, Finishes, Ended}
use Rattle.rgctx_fill.specs.ImageCatalogues.{IsImageCatalogue}
use Rattle.rgctx_fill.specs.Ready.{IsOn, IsReady}
use Rattle.rgctx_fill.specs.CallServices.{count_in}
use Rattle.rgctx_fill.specs.ThreadStates.{ImageData}

-- the counts of a method's interpreted frame are within their limits, and have a place for each argument
pub record IsCounted (m : MethodDef) (count : FrameCount) : Type 0 where
  pub arguments : (if takes_object m.shape then 1 else 0) + length m.params ≤ count.places
  pub places : count.places ≤ most_places
  pub list : count.list ≤ most_places

-- the catalogue is that of an image, its bodies have frames, and the counts of each method's interpreted frame are there
pub record IsServable (im : ImageData) : Type 0 where
  pub catalogue : IsImageCatalogue im.cat
  pub bodies : (number : ℕ) (row : BodyRow) → slice_get im.cat.bodies number ≡ Some row → IsBodyFrame row.frame
  pub counts : (number : ℕ) (m : MethodDef) → method_at im.cat.program number ≡ Some m → IsSome m.body → IsCounted m (count_in (slice_get im.frames number))

-- A service goes on: one that code has asked for, or what is left of one. A fill is ready, and has not answered.
abbrev pub IsServing : CatData → (ℕ → ℕ) → Doing → Type 0
IsServing cat held Runs = ⊥
IsServing cat held Serves = Unit {0}
IsServing cat held (Fills f) = IsOn f.stage × IsReady cat held f
IsServing cat held Interprets = ⊥
IsServing cat held (Throws x) = Unit {0}
IsServing cat held (Searches x) = ⊥
IsServing cat held Refuses = Unit {0}
IsServing cat held (Stops why) = Unit {0}
IsServing cat held Finishes = Unit {0}
IsServing cat held Ended = ⊥
