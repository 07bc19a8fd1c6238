-- The first frame of a thread.
use Rattle.std.proofs.Common.{◌≡◌, ℕ, ◌<◌, List, [], length, Option, Some, None, sym, ap, ◌∙◌, arith}
use Rattle.std.specs.Prelude.{slice_get}
use Rattle.std.proofs.lemmas.List.FromFn.{length-map-range_with_len}
use Rattle.il_model.specs.declared.key.BodyRow.{BodyRow}
use Rattle.rgctx_words.specs.Frames.{interpreted_length, place_offset}
use Rattle.rgctx_words.specs.Stacks.{StackWords, no_frames, with_word}
use Rattle.crossings.specs.declared.call.CallWords.{CallWords}
use Rattle.crossings.specs.Calls.{AreListed, AreWidths, callee_frame, interpreted_word, called, after_call}
use Rattle.rgctx_fill.specs.declared.image.FrameCount.{FrameCount}
use Rattle.rgctx_fill.specs.BestRows.{best_row}
use Rattle.rgctx_fill.specs.CallServices.{count_in}
use Rattle.rgctx_fill.specs.ThreadStates.{ImageData, ThreadData}
use Rattle.thread_core.specs.Starts.{first_call, first_frame, in_body, interpreted, main_node, entry_node, entry_method, main_in, main_thread, started_thread}

-- a first frame has no arguments
pub no_widths : (places : ℕ) → AreWidths [] places
no_widths places = record { few = omega arith; each = λ i less. absurd (omega (arith, less)) }

pub no_listed : (words : List ℕ) (list : ℕ) → AreListed words list []
no_listed words list = record { addresses = record { each = λ j less. absurd (omega (arith, less)) }; each = λ i less. absurd (omega (arith, less)) }

-- there is room for it
pub first_called : (stack after : StackWords) (call : CallWords) (row : Option BodyRow) (places list : ℕ) → after ≡ after_call stack call row places list [] → stack ≡ no_frames → after ≡ called no_frames call row places list []
first_called stack after call row places list is none = is ∙ ap (λ s. after_call s call row places list []) none

-- how many words an interpreted one has
pub first_count : (node : ℕ) (count : FrameCount) → length (first_frame node count).words ≡ interpreted_length count.places count.list
first_count node count = length-map-range_with_len (interpreted_word no_frames 0 [] (callee_frame (first_call node) (interpreted_length count.places count.list))) 0 (interpreted_length count.places count.list)

pub first_place : (node : ℕ) (count : FrameCount) → place_offset 0 < length (first_frame node count).words
first_place node count = let e : length (first_frame node count).words ≡ interpreted_length count.places count.list = first_count node count in omega (arith, e)

-- where the entry point begins
pub main_compiled : (im : ImageData) (row : BodyRow) (s : ThreadData) → best_row im.cat.program im.cat.bodies im.cat.program.main [] ≡ Some row → s ≡ in_body main_node row → s ≡ main_thread im
main_compiled im row s best is = is ∙ ap (main_in im) (sym best)

pub main_interpreted : (im : ImageData) (s : ThreadData) → best_row im.cat.program im.cat.bodies im.cat.program.main [] ≡ None
    → s ≡ interpreted (first_frame main_node (count_in (slice_get im.frames im.cat.program.main))) → s ≡ main_thread im
main_interpreted im s best is = is ∙ ap (main_in im) (sym best)

-- where a started thread begins
pub started : (im : ImageData) (object : ℕ) (count : FrameCount) (stack after : StackWords) (s : ThreadData) → s ≡ interpreted after → after ≡ with_word stack (place_offset 0) object
    → stack ≡ first_frame entry_node count → count ≡ count_in (slice_get im.frames entry_method) → s ≡ started_thread im object
started im object count stack after s is put begin counted =
    is ∙ ap interpreted (put ∙ ap (λ t. with_word t (place_offset 0) object) (begin ∙ ap (first_frame entry_node) counted))
