-- The services CALL and RETURN. This project's own.
use Rattle.std.specs.Prelude.{ℕ, zero, suc, ◌+◌, ◌*◌, ◌/◌, ◌%◌, ◌^◌, ◌==◌, ◌&&◌, nat_lt, Bool, true, false, is_some, if◌then◌else◌, List, [], ◌∷◌, length, map, find, slice_index, slice_get, Option, Some, None, option_map}
use Rattle.std.specs.List.{list_all, range_with_len}
use Rattle.type_tree.specs.declared.tree.TExpr.{TExpr}
use Rattle.il_model.specs.declared.key.BodyRow.{BodyRow}
use Rattle.il_model.specs.declared.layout.MethodTree.{MethodTree}
use Rattle.il_model.specs.declared.method.MethodDef.{MethodDef}
use Rattle.il_model.specs.declared.method.PType.{PType}
use Rattle.il_model.specs.declared.method.PType.TheVariants as ptype
use Rattle.il_model.specs.declared.program.Program.{Program}
use Rattle.il_model.specs.Find.{takes_object}
use Rattle.il_model.specs.Found.{method_at}
use Rattle.il_model.specs.Kinds.{is_value}
use Rattle.il_model.specs.Layouts.{words_of}
use Rattle.interaction.specs.declared.turn.What.TheVariants as noted
use Rattle.store_object.specs.declared.request.Cause.TheVariants as cause
use Rattle.store_object.specs.declared.request.Request.TheVariants as ask
use Rattle.cil_meaning.specs.Naming.{put_type}
use Rattle.cil_meaning.specs.Types.{is_bool, argument_places}
use Rattle.rgctx_words.specs.Frames.{frame_address, frame_index, most_frames, place_offset, caller_word, back_word}
use Rattle.rgctx_words.specs.Stacks.{StackWords, mem_of, with_word, left_to}
use Rattle.crossings.specs.declared.call.CallWords.{CallWords}
use Rattle.crossings.specs.Calls.{argument_at, called, code_address}
use Rattle.crossings.specs.Returns.{current_word}
use Rattle.rv_machine.specs.declared.registers.Core.{Core}
use Rattle.rv_machine.specs.Registers.{register_of, with_register, at_pc}
use Rattle.rgctx_fill.specs.declared.spelled.NodeTree.{NodeTree}
use Rattle.rgctx_fill.specs.declared.spelled.NodeTree.TheVariants as tree
use Rattle.rgctx_fill.specs.declared.doing.Doing.{Doing}
use Rattle.rgctx_fill.specs.declared.doing.Doing.TheVariants.{Runs, Interprets, Stops, Finishes, Ended}
use Rattle.rgctx_fill.specs.declared.image.FrameCount.{FrameCount}
use Rattle.rgctx_fill.specs.ThreadStates.{ImageData, ThreadData, Move, now_doing}
use Rattle.rgctx_fill.specs.ThreadStates as move
use Rattle.rgctx_fill.specs.ServiceReplies.{refuses}
use Rattle.rgctx_fill.specs.NodeReadings.{with_tree}

-- Arguments ------------------------------------------------------------------

-- the words of an argument
abbrev pub argument_width : Program → PType → ℕ
argument_width program (ptype.Value t) = words_of program t
argument_width program (ptype.Pointer t) = 1
argument_width program ptype.Native = 1

abbrev pub argument_widths : Program → MethodTree → MethodDef → List ℕ
argument_widths program m d = map (argument_width program) (argument_places program m d)

-- whether so many words lie in the frames from an address on
abbrev pub do_lie : List ℕ → ℕ → ℕ → Bool
do_lie words address count = list_all (λ j. is_some (frame_index (length words) (address + 8 * j))) (range_with_len 0 count)

-- whether a list has the address of each argument, and each has as many words there as its width says
abbrev pub are_there : List ℕ → ℕ → List ℕ → Bool
are_there words list widths =
    do_lie words list (length widths) &&
    list_all (λ i. do_lie words (argument_at words list i) (slice_index widths i)) (range_with_len 0 (length widths))

abbrev pub takes_result : List ℕ → ℕ → Program → MethodTree → Option TExpr → Bool
takes_result words address program m None = true
takes_result words address program m (Some t) = do_lie words address (words_of program (put_type m t))

-- what an interpreted frame's place keeps of an argument's first word: of a bool the low eight bits
abbrev pub argument_kept : PType → ℕ → ℕ
argument_kept (ptype.Value t) w = if is_bool t then w % 256 else w
argument_kept (ptype.Pointer t) w = w
argument_kept ptype.Native w = w

-- the arguments as the places of the frame that begins at an index keep them, from the place with this number on
abbrev pub with_kept : ℕ → ℕ → List PType → StackWords → StackWords
with_kept base place [] s = s
with_kept base place (p ∷ ps) s = with_kept base (place + 1) ps (with_word s (base + place_offset place) (argument_kept p (mem_of s (base + place_offset place))))

-- An object's number, which only a box gives, becomes the pointer to the object's word 0.
abbrev pub unboxed : ℕ → ℕ
unboxed w = if nat_lt 0 w && nat_lt w (2 ^ 30) then 2 ^ 62 + w * 2 ^ 24 else w

abbrev pub is_struct_method : Program → MethodTree → MethodDef → Bool
is_struct_method program m d = takes_object d.shape && is_value program m.class

-- a struct's method has a pointer as its object
abbrev pub with_object_pointer : Bool → ℕ → StackWords → StackWords
with_object_pointer false base s = s
with_object_pointer true base s = with_word s (base + place_offset 0) (unboxed (mem_of s (base + place_offset 0)))

-- Calls ----------------------------------------------------------------------

-- of the rows of a method that begin at this word the first
abbrev pub row_entered : List BodyRow → ℕ → ℕ → Option BodyRow
row_entered rows method word = find (λ (r : BodyRow). (r.method == method) && (r.entry == word)) rows

-- how many places and listed addresses the interpreter's frame of a method has
abbrev pub count_in : Option FrameCount → FrameCount
count_in None = record { places = 0; list = 0 }
count_in (Some count) = count

module _ (im : ImageData) (s : ThreadData) (node result list : ℕ) where
  abbrev pub call_words : CallWords
  call_words = record { node = node; result = result; list = list; back = s.core.pc }

  -- the core behind a call: x8 has the address of the new frame
  abbrev pub called_core : ℕ → Core
  called_core pc = at_pc (with_register s.core 8 (frame_address (length s.stack.words))) pc

  -- a body goes on, which copies its arguments itself
  abbrev pub calls_body : BodyRow → ThreadData
  calls_body row = record {
    core = called_core (code_address row.entry);
    stack = called s.stack call_words (Some row) 0 0 [];
    doing = Runs;
  }

  -- the interpreter goes on, which finds its arguments in its places
  abbrev pub interpreted_stack : MethodTree → MethodDef → FrameCount → StackWords
  interpreted_stack m d count =
      with_object_pointer (is_struct_method im.cat.program m d) (length s.stack.words)
      (with_kept (length s.stack.words) 0 (argument_places im.cat.program m d) (called s.stack call_words None count.places count.list (argument_widths im.cat.program m d)))

  abbrev pub calls_interpreter : MethodTree → MethodDef → ThreadData
  calls_interpreter m d = record {
    core = called_core s.core.pc;
    stack = interpreted_stack m d (count_in (slice_get im.frames m.method));
    doing = Interprets;
  }

  -- at the greatest number of frames the run is to stop
  abbrev pub enters : ThreadData → Move
  enters t = move.Goes noted.Action (if length s.stack.bases == most_frames then now_doing s (Stops cause.Depth) else t)

  abbrev pub calls_row : Option BodyRow → Move
  calls_row None = refuses s
  calls_row (Some row) = enters (calls_body row)

  abbrev pub calls_entry : ℕ → MethodTree → MethodDef → Move
  calls_entry word m d =
      if word == 0
      then (if are_there s.stack.words list (argument_widths im.cat.program m d) && takes_result s.stack.words result im.cat.program m d.result then enters (calls_interpreter m d) else refuses s)
      else calls_row (row_entered im.cat.bodies m.method word)

  abbrev pub calls_method : ℕ → MethodTree → Option MethodDef → Move
  calls_method word m None = refuses s
  calls_method word m (Some d) = if is_some d.body then calls_entry word m d else refuses s

  abbrev pub calls_tree : ℕ → NodeTree → Move
  calls_tree word (tree.Kind t) = refuses s
  calls_tree word (tree.Method m) = calls_method word m (method_at im.cat.program m.method)
  calls_tree word tree.Other = refuses s
  calls_tree word (tree.Zero n) = refuses s

-- CALL: x10 the Method value, x11 the result's address, x12 the address of the list
abbrev pub calls : ImageData → ThreadData → ℕ → ℕ → ℕ → Move
calls im s value result list = with_tree s (value % 65536) (calls_tree im s (value % 65536) result list (value / 65536))

-- Returns --------------------------------------------------------------------

-- the level of the frame that begins at an address
abbrev pub level_at : List ℕ → ℕ → Option ℕ
level_at [] address = None
level_at (base ∷ bases) address = if frame_address base == address then Some 0 else option_map suc (level_at bases address)

-- who goes on after a return: machine code where there is a pc to return to
abbrev pub goes_on : ℕ → Doing
goes_on back = if back == 0 then Interprets else Runs

abbrev pub returned_core : Core → ℕ → ℕ → Core
returned_core core back caller = at_pc (with_register core 8 caller) (if back == 0 then core.pc else back)

module _ (s : ThreadData) where
  -- the current frame and all above the caller's go
  abbrev pub returned_to : ℕ → ThreadData
  returned_to level = record {
    core = returned_core s.core (current_word s.stack back_word) (current_word s.stack caller_word);
    stack = left_to s.stack level;
    doing = goes_on (current_word s.stack back_word);
  }

  abbrev pub returns_to : Option ℕ → Move
  returns_to None = refuses s
  returns_to (Some level) = if nat_lt (level + 1) (length s.stack.bases) then move.Goes noted.Action (returned_to level) else refuses s

  -- RETURN, with so many frames: from the first one the thread finishes
  abbrev pub returns : ℕ → Move
  returns zero = refuses s
  returns (suc zero) = move.Goes noted.Action (now_doing s Finishes)
  returns (suc (suc n)) = returns_to (level_at s.stack.bases (current_word s.stack caller_word))

  abbrev pub finishes : Move
  finishes = move.Asks ask.Finish (λ reply. now_doing s Ended)
