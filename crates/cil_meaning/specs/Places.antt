-- Values on the stack, arguments and locals. ECMA-335, Partition III.
use Rattle.std.specs.Prelude.{ℕ, ◌+◌, List, ◌∷◌, length, Option, option_map, slice_get}
use Rattle.il_model.specs.declared.program.Program.{Program}
use Rattle.il_model.specs.declared.method.PType.{PType}
use Rattle.il_model.specs.declared.method.PType.TheVariants as ptype
use Rattle.interaction.specs.Process.{Stuck}
use Rattle.cil_meaning.specs.Values.{InFrame, Value, Managed}
use Rattle.cil_meaning.specs.Frames.{innermost, with_innermost, with_held}
use Rattle.cil_meaning.specs.Types.{argument_places, local_places}
use Rattle.cil_meaning.specs.Replies.{Left}
use Rattle.cil_meaning.specs.Site.{Site, level_of, goes, goes_with}
use Rattle.cil_meaning.specs.Pieces.{given, pops, fits_place}
use Rattle.cil_meaning.specs.Groups.{StackForm, Rests, Copies, Drops, Pushes, Slot, Argument, Local, PlaceForm, Reads, Points, Writes}

-- a place of the innermost frame: its number among the arguments and then the locals, and its type
pub record PlaceHere : Type 0 where
  pub number : ℕ
  pub kind : PType

module _ (s : Site) where
  -- each form on the stack alone
  abbrev pub stacks : StackForm → List Value → Left
  stacks Rests stack = goes s stack
  stacks Copies stack = pops stack (λ v vs. goes s (v ∷ v ∷ vs))
  stacks Drops stack = pops stack (λ v vs. goes s vs)
  stacks (Pushes v) stack = goes s (v ∷ stack)

module _ (p : Program) (s : Site) where
  abbrev pub arguments_here : List PType
  arguments_here = argument_places p s.frame.method s.definition

  abbrev pub place_of : Slot → Option PlaceHere
  place_of (Argument n) = option_map (λ t. record { number = n; kind = t }) (slice_get arguments_here n)
  place_of (Local n) = option_map (λ t. record { number = length arguments_here + n; kind = t }) (slice_get (local_places s.frame.method s.definition) n)

  -- the address of a place that holds words
  abbrev pub points_to : ℕ → PType → List Value → Left
  points_to number (ptype.Value t) stack = goes s (Managed (InFrame (level_of s) number 0) ∷ stack)
  points_to number (ptype.Pointer t) stack = Stuck
  points_to number ptype.Native stack = Stuck

  -- each form on a place, from the stack
  abbrev pub on_place : PlaceForm → List Value → Left
  on_place (Reads slot) stack = given (place_of slot) (λ x. given (slice_get (innermost s.places).held x.number) (λ v. goes s (v ∷ stack)))
  on_place (Points slot) stack = given (place_of slot) (λ x. points_to x.number x.kind stack)
  on_place (Writes slot) stack = given (place_of slot) (λ x. pops stack (λ v vs. fits_place p x.kind v (λ u.
      goes_with s (with_innermost s.places (with_held (innermost s.places) x.number u)) vs)))
