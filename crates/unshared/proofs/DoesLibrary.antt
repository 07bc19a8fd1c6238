-- Calls of the library that have no body, against what they come to.
use Rattle.std.proofs.Common.{ℕ, Bool, true, false, List, drop, Option, Some, None, Ok, ◌==◌, nat_lt, if◌then◌else◌, slice_get}
use Rattle.type_tree.specs.declared.tree.TExpr.{TExpr}
use Rattle.il_model.specs.declared.program.Program.{Program}
use Rattle.il_model.specs.declared.method.MethodDef.{MethodDef}
use Rattle.interaction.specs.Process.{Naming, Next, Ask, Stuck}
use Rattle.store_object.specs.declared.place.Place.{Place}
use Rattle.store_object.specs.declared.place.Place.TheVariants as at
use Rattle.store_object.specs.declared.request.Form.{Form}
use Rattle.store_object.specs.declared.request.Form.TheVariants as printed
use Rattle.store_object.specs.declared.request.Request.TheVariants as ask
use Rattle.cil_meaning.specs.Naming.{Mention, strings_from}
use Rattle.cil_meaning.specs.Groups.{Swapping, Exchanging, Comparing, Adding, LibraryForm, Prints, Swaps, Names, Starts, Joins}
use Rattle.cil_meaning.specs.LibraryCalls as meant
use Rattle.cil_meaning.specs.LibraryCalls.{request_of, leaves, gives, judges}
use Rattle.cil_meaning.specs.Pieces.{pops, as_string, as_pointer}
use Rattle.cil_meaning.specs.Replies.{Left, on_word}
use Rattle.cil_meaning.specs.Search.{index_out_of_range}
use Rattle.cil_meaning.specs.Site.{Site, frames_of, throws, goes}
use Rattle.cil_meaning.specs.Values.{Kind, Int32, Pointer, Null, InFrame, InFresh, InObject, InStatic}
use Rattle.cil_meaning.specs.Words.{low_32}
use Rattle.type_inst.specs.Opening.{Extends}
use Rattle.unshared.specs.declared.frames.Frames.{Frames as FramesHere}
use Rattle.unshared.specs.Acted as acted
use Rattle.unshared.specs.Going.{Did}
use Rattle.unshared.specs.Held.{places_of, stack_of, site_of}
use Rattle.unshared.specs.Listed.{naming_of}
use Rattle.unshared.specs.Memory.{string_of}
use Rattle.unshared.specs.Operands.{pointer_at}
use Rattle.unshared.specs.Served.{kind_word_at, judged_string, judged, prints, Given, gives_one, gives_two, swaps_stored, swaps_held, swaps_at, swaps, starts, joined, joins}
use Rattle.unshared.specs.Silent.{stuck}
use Rattle.unshared.specs.Talk.{Talk, ◌>>=◌, pure, say, asks_ended}
use Rattle.unshared.proofs.Doing.{Does, does_bind, does_stuck}
use Rattle.unshared.proofs.Steps.{both, either, reference, pointer, kind_word, look, object, one_of, ask_word, ask_thread, ask_done, comes, on, on_with}
use Rattle.unshared.proofs.StepsOfPlaces.{Leads, read, write}
use Rattle.unshared.proofs.TiedAsks.{tied_ended}
use Rattle.unshared.proofs.TiedExacts.{judge}

module _ (kinds later : List TExpr) (ext : Extends kinds later) (p : Program) (d : MethodDef) (f : FramesHere) where
  abbrev n : Naming Mention TExpr
  n = naming_of later

  abbrev s : Site
  s = site_of d f

  -- Printing. ------------------------------------------------------------------

  string_by : (b c : Bool) (w : ℕ) (left : Left) (v : Unit {0} → Talk Did) → Does n p s left (v tt) →
      Does n p s (if b then left else (if c then Stuck else as_string p w left)) (say (if b then Ok tt else (if c then stuck else string_of p kinds w)) >>= v)
  string_by true c w left v more = record { meets = more.meets }
  string_by false true w left v more = record { meets = (does_stuck n p s).meets }
  string_by false false w left v more = judge kinds later ext v p w more

  judging : (form : Form) (w : ℕ) (left : Left) (v : Unit {0} → Talk Did) → Does n p s left (v tt) → Does n p s (judges p form w left) (say (judged p kinds form w) >>= v)
  unfolding judged_string
  judging printed.Number w left v more = record { meets = more.meets }
  judging printed.String w left v more = string_by (w == 0) (nat_lt w strings_from) w left v more

  does_prints : (numbers : List ℕ) (form : Form) (kind : Kind) → Does n p s (meant.on_library p s numbers (Prints form kind) (stack_of f)) (acted.on_library p kinds numbers (Prints form kind) f)
  unfolding prints
  does_prints numbers form kind = kind_word _ _ kind f 0 (λ w. judging form w _ _ (ask_done _ (ask.Print form w) (on d f _)))

  -- One word read and written at once. ---------------------------------------------

  swap_stored : (form : Swapping) (kind : Kind) (g : Given) (place : Place) → Does n p s (Ask (request_of form kind place g.word g.comparand) (on_word (meant.pushes_word p s kind (drop g.taken (stack_of f))))) (swaps_stored form kind f g place)
  unfolding swaps_stored
  swap_stored form kind g place = ask_word (request_of form kind place g.word g.comparand) (λ w. on d f _)

  swap_held : (form : Swapping) (kind : Kind) (g : Given) (q : Pointer) → Leads q → Does n p s (meant.swaps_silently p s form kind g.word g.comparand q (drop g.taken (stack_of f))) (swaps_held form kind f g q)
  unfolding swaps_held
  swap_held form kind g q leads = read _ _ _ (places_of f) q 1 leads (λ words. one_of words (λ old. write _ _ _ (places_of f) q _ leads (λ places. on_with d f _ _)))

  swap : (form : Swapping) (kind : Kind) (g : Given) (q : Pointer) → Does n p s (meant.swaps p s form kind g.word g.comparand q (drop g.taken (stack_of f))) (swaps_at form kind f g q)
  swap form kind g Null = comes
  swap form kind g (InFrame level place i) = swap_held form kind g (InFrame level place i) tt
  swap form kind g (InFresh level i) = swap_held form kind g (InFresh level i) tt
  swap form kind g (InObject object index) = swap_stored form kind g (at.Object object index)
  swap form kind g (InStatic number index) = swap_stored form kind g (at.Fixed number index)

  one_word : (form : Swapping) (kind : Kind) → Does n p s (pops (stack_of f) (λ u us. meant.word_of_kind kind u (λ w. pops us (λ x vs. as_pointer x (λ q. meant.swaps p s form kind w 0 q vs))))) (gives_one kind f >>= (λ g. say (pointer_at f g.above) >>= swaps_at form kind f g))
  unfolding gives_one
  one_word form kind = both (kind_word_at kind f 0) (λ w. pure (record { word = w; comparand = 0; above = 1; taken = 2 })) _ (kind_word _ _ kind f 0 (λ w. pointer _ _ f 1 (λ q. swap form kind (record { word = w; comparand = 0; above = 1; taken = 2 }) q)))

  two_words : (kind : Kind) → Does n p s (pops (stack_of f) (λ u us. meant.word_of_kind kind u (λ c. pops us (λ x xs. meant.word_of_kind kind x (λ w. pops xs (λ y vs. as_pointer y (λ q. meant.swaps p s Comparing kind w c q vs))))))) (gives_two kind f >>= (λ g. say (pointer_at f g.above) >>= swaps_at Comparing kind f g))
  unfolding gives_two
  two_words kind = both (kind_word_at kind f 0) (λ c. kind_word_at kind f 1 >>= (λ w. pure (record { word = w; comparand = c; above = 2; taken = 3 }))) _ (kind_word _ _ kind f 0 (λ c.
      both (kind_word_at kind f 1) (λ w. pure (record { word = w; comparand = c; above = 2; taken = 3 })) _ (kind_word _ _ kind f 1 (λ w. pointer _ _ f 2 (λ q. swap Comparing kind (record { word = w; comparand = c; above = 2; taken = 3 }) q)))))

  does_swaps : (numbers : List ℕ) (form : Swapping) (kind : Kind) → Does n p s (meant.on_library p s numbers (Swaps form kind) (stack_of f)) (acted.on_library p kinds numbers (Swaps form kind) f)
  unfolding swaps
  does_swaps numbers Exchanging kind = one_word Exchanging kind
  does_swaps numbers Comparing kind = two_words kind
  does_swaps numbers Adding kind = one_word Adding kind

  -- Threads. ------------------------------------------------------------------------

  does_starts : (numbers : List ℕ) → Does n p s (meant.on_library p s numbers Starts (stack_of f)) (acted.on_library p kinds numbers Starts f)
  unfolding starts
  does_starts numbers = reference _ _ f 0 (λ w. either (w == 0) (λ e. comes) (λ e. object _ w (ask_thread (ask.Start w) (λ thread. on d f _))))

  abbrev told : Option Bool → Left
  told (Some true) = goes s (drop 1 (stack_of f))
  told (Some false) = Next (frames_of s)
  told None = throws p s index_out_of_range

  tell : (o : Option Bool) → Does n p s (told o) (pure (joined f o))
  tell (Some true) = on d f _
  tell (Some false) = comes
  tell None = comes

  does_joins : (numbers : List ℕ) → Does n p s (meant.on_library p s numbers Joins (stack_of f)) (acted.on_library p kinds numbers Joins f)
  unfolding joins
  does_joins numbers = kind_word _ _ Int32 f 0 (λ w. does_bind n p s _ told (asks_ended (ask.Ended (low_32 w))) (λ o. pure (joined f o)) (tied_ended n (ask.Ended (low_32 w))) tell)

  pub does_library : (numbers : List ℕ) (form : LibraryForm) → Does n p s (meant.on_library p s numbers form (stack_of f)) (acted.on_library p kinds numbers form f)
  does_library numbers (Prints form kind) = does_prints numbers form kind
  does_library numbers (Swaps form kind) = does_swaps numbers form kind
  does_library numbers Names = look (slice_get numbers 0) (λ v e. on d f _)
  does_library numbers Starts = does_starts numbers
  does_library numbers Joins = does_joins numbers
