-- The service FILL: an action that begins a fill, and then the fill's loads and claims. This project's own.
use Rattle.std.specs.Prelude.{ℕ, slice_get, Option, Some, None}
use Rattle.mn_outside.specs.declared.places.Region.{Region}
use Rattle.mn_outside.specs.declared.places.Region.TheVariants as full
use Rattle.il_model.specs.declared.entry.Entry.{Entry}
use Rattle.il_model.specs.declared.layout.Limit.{Limit}
use Rattle.interaction.specs.declared.turn.What.TheVariants as noted
use Rattle.store_object.specs.declared.request.Cause.{Cause}
use Rattle.store_object.specs.declared.request.Request.TheVariants as ask
use Rattle.cil_meaning.specs.Mentions.{cause_of}
use Rattle.rgctx_fill.specs.declared.spelled.NodeTree.{NodeTree}
use Rattle.rgctx_fill.specs.declared.stage.Region.{Region as Scanned}
use Rattle.rgctx_fill.specs.declared.stage.Region.TheVariants as region
use Rattle.rgctx_fill.specs.declared.stage.FillNext.{FillNext}
use Rattle.rgctx_fill.specs.declared.stage.FillNext.TheVariants as next
use Rattle.rgctx_fill.specs.declared.stage.FillStep.{FillStep}
use Rattle.rgctx_fill.specs.declared.stage.FillStep.TheVariants as step
use Rattle.rgctx_fill.specs.declared.doing.Doing.TheVariants.{Fills, Stops, Ended}
use Rattle.rgctx_fill.specs.Templates.{tree_template}
use Rattle.rgctx_fill.specs.NamedValues.{entry_at}
use Rattle.rgctx_fill.specs.Turns.{FillData, begun, next_of, taken, given_at}
use Rattle.rgctx_fill.specs.Starting.{limit_named, steps_named}
use Rattle.rgctx_fill.specs.Bases.{base_named}
use Rattle.rgctx_fill.specs.ThreadStates.{ImageData, ThreadData, Move, now_doing}
use Rattle.rgctx_fill.specs.ThreadStates as move
use Rattle.rgctx_fill.specs.ServiceReplies.{refuses, given}
use Rattle.rgctx_fill.specs.NodeReadings.{with_tree}

-- Turns ----------------------------------------------------------------------

-- which words a full list has
abbrev pub region_of : Scanned → Region
region_of region.Nodes = full.Nodes
region_of region.Rows = full.Rows

module _ (s : ThreadData) where
  -- the run stops at a limit: the request behind an action
  abbrev pub stops : Cause → Move
  stops why = move.Asks (ask.Stop why) (λ reply. now_doing s Ended)

  -- the thread behind a turn of the fill, by what the turn gave
  abbrev pub filled_with : FillData → FillStep → ThreadData
  filled_with f step.More = now_doing s (Fills f)
  filled_with f (step.Value value) = given s value
  filled_with f (step.Full r key) = now_doing s (Fills f)

  abbrev pub filled : FillData → ThreadData
  filled f = filled_with f (given_at f.stage)

  abbrev pub fills_next : FillData → FillNext → Move
  fills_next f (next.Load i) = move.Loads (noted.Load i) i (λ answer. filled (taken f answer))
  fills_next f (next.Claim i word) = move.Claims i word (λ answer. filled (taken f answer))
  fills_next f (next.Full r key) = move.IsFull (region_of r) key
  fills_next f next.Nothing = refuses s

  -- the next turn of a fill under way
  abbrev pub fills_on : FillData → Move
  fills_on f = fills_next f (next_of f)

module _ (im : ImageData) (s : ThreadData) (node number : ℕ) where
  -- the fill begins, or the run is to stop
  abbrev pub begins_within : NodeTree → Entry → Option Limit → Move
  begins_within spells e None = move.Goes noted.Action (now_doing s (Fills (begun node number (steps_named im.cat.program spells e) (base_named im.cat spells e))))
  begins_within spells e (Some limit) = move.Goes noted.Action (now_doing s (Stops (cause_of limit)))

  abbrev pub begins_closed : NodeTree → Entry → Move
  begins_closed spells e = begins_within spells e (limit_named im.cat.program spells e)

  abbrev pub begins_entry : NodeTree → Option Entry → Move
  begins_entry spells None = refuses s
  begins_entry spells (Some e) = begins_closed spells (entry_at spells e)

  abbrev pub begins_at : NodeTree → Move
  begins_at spells = begins_entry spells (slice_get (tree_template im.cat spells) number)

-- FILL: x10 the node, x11 the number of the entry in its template
abbrev pub fills : ImageData → ThreadData → ℕ → ℕ → Move
fills im s node number = with_tree s node (begins_at im s node number)
