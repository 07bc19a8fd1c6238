-- The services that are one request each, or one action on a word of the frames or a string. This project's own.
use Rattle.std.specs.Prelude.{ℕ, ◌+◌, ◌-◌, ◌*◌, ◌/◌, ◌%◌, ◌^◌, ◌==◌, ◌&&◌, nat_lt, nat_le, Bool, true, false, if◌then◌else◌, length, Option, Some, None}
use Rattle.interaction.specs.declared.turn.What.TheVariants as noted
use Rattle.store_object.specs.declared.place.Place.{Place}
use Rattle.store_object.specs.declared.place.Place.TheVariants as at
use Rattle.store_object.specs.declared.request.Form.TheVariants as printed
use Rattle.store_object.specs.declared.request.Request.{Request}
use Rattle.store_object.specs.declared.request.Request.TheVariants as ask
use Rattle.store_object.specs.Store.{summed}
use Rattle.cil_meaning.specs.Naming.{strings_from, names_from}
use Rattle.rgctx_words.specs.Frames.{frame_index}
use Rattle.rgctx_words.specs.Stacks.{mem_of, with_word}
use Rattle.rv_machine.specs.Registers.{register_of}
use Rattle.rgctx_fill.specs.declared.doing.Doing.TheVariants.{Runs}
use Rattle.rgctx_fill.specs.ThreadStates.{ImageData, ThreadData, Move, with_stack, now_doing}
use Rattle.rgctx_fill.specs.ThreadStates as move
use Rattle.rgctx_fill.specs.ServiceReplies.{refuses, given, answered}
use Rattle.rgctx_fill.specs.NodeReadings.{with_type_node}

-- the number of the string's class among the leaves
abbrev pub string_leaf : ℕ
string_leaf = 6

-- the first number that has no 32 bits
abbrev pub past_32 : ℕ
past_32 = 2 ^ 32

module _ (im : ImageData) (s : ThreadData) where
  abbrev pub asks : Request → Move
  asks request = move.Asks request (answered s)

  -- Strings and objects ------------------------------------------------------

  -- goes on where a word past the objects names a literal or a type
  abbrev pub with_string : ℕ → Move → Move
  with_string w next =
      if nat_lt w names_from
      then (if nat_le strings_from w && nat_lt (w - strings_from) (length im.cat.program.literals) then next else refuses s)
      else with_type_node s (w - names_from) next

  -- goes on where a word may name an object, with its number
  abbrev pub with_object : ℕ → Move → Move
  with_object w next = if nat_lt 0 w && nat_lt w strings_from then next else refuses s

  -- goes on in one way for an object and in another for a string
  abbrev pub by_reference : ℕ → (object string : Move) → Move
  by_reference w object string = if nat_lt w strings_from then with_object w object else with_string w string

  -- Printing -----------------------------------------------------------------

  abbrev pub prints_string : ℕ → Move
  prints_string w = if w == 0 then asks (ask.Print printed.String w) else with_string w (asks (ask.Print printed.String w))

  -- PRINT: x10 the word, x11 0 for a number and 1 for a string
  abbrev pub prints : ℕ → ℕ → Move
  prints w form = if form == 0 then asks (ask.Print printed.Number w) else (if form == 1 then prints_string w else refuses s)

  -- Objects and threads ------------------------------------------------------

  -- ALLOC: x10 the node of the type, x11 the length, x12 the words
  abbrev pub allocates : ℕ → ℕ → ℕ → Move
  allocates node count words = if nat_lt count past_32 then with_type_node s node (asks (ask.Alloc node count words)) else refuses s

  -- TYPEOF: of a string it is the string's class
  abbrev pub types_of : ℕ → Move
  types_of w = by_reference w (asks (ask.TypeOf w)) (move.Goes noted.Action (given s string_leaf))

  -- LENGTH and START take an object
  abbrev pub measures : ℕ → Move
  measures w = with_object w (asks (ask.Length w))

  abbrev pub starts : ℕ → Move
  starts w = with_object w (asks (ask.Start w))

  -- ENDED takes the low 32 bits as a thread's number
  abbrev pub ends : ℕ → Move
  ends w = asks (ask.Ended (w % past_32))

  -- Words at pointers --------------------------------------------------------

  -- the object's number in a pointer, and the number of a type's node, each with the index of the word
  abbrev pub index_in : ℕ → ℕ
  index_in low = low % 2 ^ 24

  abbrev pub number_in : ℕ → ℕ
  number_in low = low / 2 ^ 24

  abbrev pub in_frame : Option ℕ → (ℕ → Move) → Move
  in_frame None next = refuses s
  in_frame (Some i) next = next i

  abbrev pub in_object : ℕ → (Place → Move) → Move
  in_object low next = if nat_lt 0 (number_in low) && nat_lt (number_in low) past_32 then next (at.Object (number_in low) (index_in low)) else refuses s

  abbrev pub in_statics : ℕ → (Place → Move) → Move
  in_statics low next = with_type_node s (number_in low) (next (at.Fixed (number_in low) (index_in low)))

  -- goes on with the word of the frames, or with the place, that a pointer leads to
  abbrev pub with_pointer : ℕ → (ℕ → Move) → (Place → Move) → Move
  with_pointer p frame store =
      if nat_lt p (2 ^ 62) then in_frame (frame_index (length s.stack.words) p) frame
      else (if nat_lt p (2 ^ 63) then in_object (p - 2 ^ 62) store else in_statics (p - 2 ^ 63) store)

  -- an action gives a word, and leaves one at an index of the frames
  abbrev pub swaps_frame : ℕ → (gives leaves : ℕ) → Move
  swaps_frame i gives leaves = move.Goes noted.Action (with_stack (given s gives) (with_word s.stack i leaves))

  -- LOAD: x10 the pointer
  abbrev pub loads : ℕ → Move
  loads p = with_pointer p (λ i. move.Goes noted.Action (given s (mem_of s.stack i))) (λ place. asks (ask.Load place))

  -- SAVE: x10 the pointer, x11 the word
  abbrev pub saves : ℕ → ℕ → Move
  saves p w = with_pointer p (λ i. move.Goes noted.Action (with_stack (now_doing s Runs) (with_word s.stack i w))) (λ place. asks (ask.Save place w))

  -- EXCHANGE: the same, and gives the old word
  abbrev pub exchanges : ℕ → ℕ → Move
  exchanges p w = with_pointer p (λ i. swaps_frame i (mem_of s.stack i) w) (λ place. asks (ask.Exchange place w))

  -- COMPAREEXCHANGE: x12 the comparand
  abbrev pub compares : ℕ → ℕ → ℕ → Move
  compares p w comparand =
      with_pointer p (λ i. swaps_frame i (mem_of s.stack i) (if mem_of s.stack i == comparand then w else mem_of s.stack i)) (λ place. asks (ask.CompareExchange place w comparand))

  abbrev pub adds_at : Bool → ℕ → ℕ → Move
  adds_at narrow p w =
      with_pointer p (λ i. swaps_frame i (summed narrow (mem_of s.stack i) w) (summed narrow (mem_of s.stack i) w)) (λ place. asks (ask.Add place w narrow))

  -- ADD: x12 32 or 64
  abbrev pub adds : ℕ → ℕ → ℕ → Move
  adds p w bits = if bits == 32 then adds_at true p w else (if bits == 64 then adds_at false p w else refuses s)
