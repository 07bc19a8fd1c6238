-- The calls of the library that have no body: printing, one word read and written at once, names of types, threads. This project's own.
use Rattle.std.specs.Prelude.{ℕ, ◌==◌, nat_lt, if◌then◌else◌, List, [], ◌∷◌, slice_get}
use Rattle.il_model.specs.declared.program.Program.{Program}
use Rattle.interaction.specs.Process.{Next, Ask, Stuck}
use Rattle.store_object.specs.declared.place.Place.{Place}
use Rattle.store_object.specs.declared.place.Place.TheVariants as at
use Rattle.store_object.specs.declared.request.Form.{Form}
use Rattle.store_object.specs.declared.request.Form.TheVariants as printed
use Rattle.store_object.specs.declared.request.Request.{Request}
use Rattle.store_object.specs.declared.request.Request.TheVariants as ask
use Rattle.store_object.specs.Store.{summed}
use Rattle.cil_meaning.specs.Words.{low_32}
use Rattle.cil_meaning.specs.Values.{Kind, Int32, Reference, Pointer, Null, InFrame, InFresh, InObject, InStatic, Value, Plain, same_kind, is_int32}
use Rattle.cil_meaning.specs.Naming.{name_word, strings_from}
use Rattle.cil_meaning.specs.Replies.{Left, on_word, on_thread, on_ended, on_done}
use Rattle.cil_meaning.specs.Search.{null_reference, index_out_of_range}
use Rattle.cil_meaning.specs.Site.{Site, frames_of, goes, goes_with, throws}
use Rattle.cil_meaning.specs.Pieces.{given, pops, one_word, as_word, as_reference, as_pointer, not_null, as_object, as_string, reads, writes}
use Rattle.cil_meaning.specs.Groups.{Swapping, Exchanging, Comparing, Adding, LibraryForm, Prints, Swaps, Names, Starts, Joins}

-- One word read and written at once, by a word and, where it is compared, a comparand. ------------

-- the request, where the word stands in the store
abbrev pub request_of : Swapping → Kind → Place → (word comparand : ℕ) → Request
request_of Exchanging kind place word comparand = ask.Exchange place word
request_of Comparing kind place word comparand = ask.CompareExchange place word comparand
request_of Adding kind place word comparand = ask.Add place word (is_int32 kind)

-- what the same gives and leaves of an old word, where it stands in a frame
abbrev pub gives : Swapping → Kind → (old word comparand : ℕ) → ℕ
gives Exchanging kind old word comparand = old
gives Comparing kind old word comparand = old
gives Adding kind old word comparand = summed (is_int32 kind) old word

abbrev pub leaves : Swapping → Kind → (old word comparand : ℕ) → ℕ
leaves Exchanging kind old word comparand = word
leaves Comparing kind old word comparand = if old == comparand then word else old
leaves Adding kind old word comparand = summed (is_int32 kind) old word

-- a word of the kind
abbrev pub word_of_kind : Kind → Value → (ℕ → Left) → Left
word_of_kind kind v k = as_word v (λ other w. if same_kind kind other then k w else Stuck)

-- the operands below: a word and a comparand, or a word alone
abbrev pub operands : Swapping → Kind → List Value → ((word comparand : ℕ) → List Value → Left) → Left
operands Exchanging kind stack k = pops stack (λ v vs. word_of_kind kind v (λ w. k w 0 vs))
operands Comparing kind stack k = pops stack (λ u us. word_of_kind kind u (λ c. pops us (λ v vs. word_of_kind kind v (λ w. k w c vs))))
operands Adding kind stack k = pops stack (λ v vs. word_of_kind kind v (λ w. k w 0 vs))

-- a string word that is not null is judged before it is printed
abbrev pub judges : Program → Form → ℕ → Left → Left
judges p printed.Number w left = left
judges p printed.String w left = not_null w left (if nat_lt w strings_from then Stuck else as_string p w left)

module _ (p : Program) (s : Site) where
  abbrev pub pushes_word : Kind → List Value → ℕ → Left
  pushes_word kind vs w = goes s (Plain kind (w ∷ []) ∷ vs)

  -- by one request; in a frame it makes none
  abbrev pub swaps_silently : Swapping → Kind → (word comparand : ℕ) → Pointer → List Value → Left
  swaps_silently f kind word comparand q vs = reads s.places q 1 Stuck (λ words. one_word words (λ old.
      writes s.places q (leaves f kind old word comparand ∷ []) Stuck (λ pl. goes_with s pl (Plain kind (gives f kind old word comparand ∷ []) ∷ vs))))

  abbrev pub swaps : Swapping → Kind → (word comparand : ℕ) → Pointer → List Value → Left
  swaps f kind word comparand Null vs = throws p s null_reference
  swaps f kind word comparand (InFrame level place i) vs = swaps_silently f kind word comparand (InFrame level place i) vs
  swaps f kind word comparand (InFresh level i) vs = swaps_silently f kind word comparand (InFresh level i) vs
  swaps f kind word comparand (InObject object index) vs = Ask (request_of f kind (at.Object object index) word comparand) (on_word (pushes_word kind vs))
  swaps f kind word comparand (InStatic number index) vs = Ask (request_of f kind (at.Fixed number index) word comparand) (on_word (pushes_word kind vs))

  -- each call, from the numbers that its entries have and the stack. While the other thread has not finished, Join is the same instruction again.
  abbrev pub on_library : List ℕ → LibraryForm → List Value → Left
  on_library numbers (Prints form kind) stack = pops stack (λ v vs. word_of_kind kind v (λ w. judges p form w (Ask (ask.Print form w) (on_done (goes s vs)))))
  on_library numbers (Swaps f kind) stack = operands f kind stack (λ word comparand us. pops us (λ u vs. as_pointer u (λ q. swaps f kind word comparand q vs)))
  on_library numbers Names stack = given (slice_get numbers 0) (λ v. pushes_word Reference stack (name_word v))
  on_library numbers Starts stack = pops stack (λ v vs. as_reference v (λ w. not_null w (throws p s null_reference) (as_object w (Ask (ask.Start w) (on_thread (pushes_word Int32 vs))))))
  on_library numbers Joins stack = pops stack (λ v vs. word_of_kind Int32 v (λ w.
      Ask (ask.Ended (low_32 w)) (on_ended (goes s vs) (Next (frames_of s)) (throws p s index_out_of_range))))
