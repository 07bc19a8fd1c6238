-- Instructions on numbers, branches and places, against what they come to.
use Rattle.std.proofs.Common.{◌≡◌, ◌∙◌, ℕ, ◌+◌, ◌≤◌, Bool, true, false, List, [], ◌∷◌, drop, length, map, Option, Some, None, Ok, if◌then◌else◌, ◌==◌, slice_get, refl, sym, ap, arith}
use Rattle.std.specs.Prelude.{option_map}
use Rattle.std.proofs.lemmas.List.{length-reverse, length-map, drop_all}
use Rattle.type_tree.specs.declared.tree.TExpr.{TExpr}
use Rattle.il_model.specs.declared.program.Program.{Program}
use Rattle.il_model.specs.declared.method.MethodDef.{MethodDef}
use Rattle.il_model.specs.declared.method.PType.{PType}
use Rattle.il_model.specs.declared.method.PType.TheVariants as ptype
use Rattle.interaction.specs.Process.{Naming, Next, Stuck}
use Rattle.cil_meaning.specs.Naming.{Mention}
use Rattle.cil_meaning.specs.Frames.{innermost}
use Rattle.cil_meaning.specs.Replies.{Left}
use Rattle.cil_meaning.specs.Values.{Kind, Int32, Int64, Native, Reference, Struct, InFrame, Value, Plain, Managed, same_kind, is_native}
use Rattle.cil_meaning.specs.Types.{kind_of, argument_places, local_places}
use Rattle.cil_meaning.specs.Site.{Site, goes, level_of}
use Rattle.cil_meaning.specs.Pieces.{given, as_word, keeps, as_pointer, fits_place}
use Rattle.cil_meaning.specs.Groups.{Slot, Argument, Local, PlaceForm, Reads, Points, Writes, NumberForm, Wraps, Checks, Divides, Shifts, Turns, Converts, Compares, Division, Conversion, ToInt32, ToInt64, ToUnsigned64, ToInt32Checked, Comparison, BranchForm, Jumps, JumpsWhere, JumpsBy, Chooses, Leaves}
use Rattle.cil_meaning.specs.Arithmetic as arithmetic
use Rattle.cil_meaning.specs.Arithmetic.{are_compared, holds, bit_of, divides_past, fits_signed, Narrow, to_unsigned64}
use Rattle.cil_meaning.specs.Words.{signed}
use Rattle.cil_meaning.specs.Branches as told
use Rattle.cil_meaning.specs.Places as meant
use Rattle.cil_meaning.specs.Places.{PlaceHere}
use Rattle.unshared.specs.declared.frames.Frames.{Frames as FramesHere}
use Rattle.unshared.specs.Acted as acted
use Rattle.unshared.specs.Branched.{jumps_if, jumps_by, leaves}
use Rattle.unshared.specs.Calculated.{one_word, two_words, two_numbers, is_number, divides, converted, converts, compares, compared}
use Rattle.unshared.specs.Forms.{the_value}
use Rattle.unshared.specs.Going.{Did, went}
use Rattle.unshared.specs.Held.{the_frame, places_of, stack_of, site_of}
use Rattle.unshared.specs.Kept.{value_kept, native_kept, pointer_kept, place_kept}
use Rattle.unshared.specs.Operands.{value_at, word_of}
use Rattle.unshared.specs.Placed.{place_found, argument_type, local_type, argument_found, local_found, reads, points, points_to, writes}
use Rattle.unshared.specs.Silent.{there, where_so}
use Rattle.unshared.specs.Talk.{Talk, ◌>>=◌, say, pure}
use Rattle.unshared.proofs.Doing.{Does, does_so, does_stuck}
use Rattle.unshared.proofs.DoesNumbers.{does_two_words, does_two_numbers, does_wraps, does_checks}
use Rattle.unshared.proofs.DoesNumbersMore.{does_one_word, does_shifts, does_turns, does_jumps_where, does_chooses}
use Rattle.unshared.proofs.Muting.{Mute, mute_bind}
use Rattle.unshared.proofs.MuteOperands.{mute_word, mute_pointer}
use Rattle.unshared.proofs.Sayings.{after}
use Rattle.unshared.proofs.Steps.{chosen, silently, silent_both, at_last, same, look, pop, tested, mute_kept, comes, on, on_with}

-- the level of the innermost frame
pub level_is : (d : MethodDef) (f : FramesHere) → level_of (site_of d f) ≡ length f.around.items
level_is d f = length-reverse (map the_frame f.around.items) ∙ length-map f.around.items the_frame

pub emptied : (f : FramesHere) → drop (length f.top.stack.items) (stack_of f) ≡ []
emptied f = let few : length (stack_of f) ≤ length f.top.stack.items = omega (arith, length-reverse (map the_value f.top.stack.items), length-map f.top.stack.items the_value) in drop_all (length f.top.stack.items) (stack_of f) few

-- What parameters and locals keep. ------------------------------------------

native_is : (kind : Kind) → same_kind kind Native ≡ is_native kind
native_is Int32 = refl
native_is Int64 = refl
native_is Native = refl
native_is Reference = refl
native_is Struct = refl

mute_native : (b c : Bool) (v : Value) → b ≡ c → Mute (λ k. if b then k v else Stuck) (where_so c (Ok v))
mute_native true true v e = record { met = λ k. refl }
mute_native true false v e = absurd (cc e)
mute_native false true v e = absurd (cc e)
mute_native false false v e = record { met = λ k. refl }

pub mute_place : (p : Program) (t : PType) (v : Value) → Mute (fits_place p t v) (place_kept p t v)
unfolding value_kept native_kept pointer_kept
mute_place p (ptype.Value t) v = mute_bind (keeps p t v) (λ words k. k (Plain (kind_of p t) words)) _ _ (mute_kept p t v) (λ words. record { met = λ k. refl })
mute_place p (ptype.Pointer t) v = mute_bind (as_pointer v) (λ q k. k (Managed q)) _ _ (mute_pointer v) (λ q. record { met = λ k. refl })
mute_place p ptype.Native v = mute_bind (λ k. as_word v (λ kind w. k (kind, w))) (λ r k. if same_kind r.0 Native then k (Plain Native (r.1 ∷ [])) else Stuck) (word_of v) _ (mute_word v) (λ r. mute_native (same_kind r.0 Native) (is_native r.0) (Plain Native (r.1 ∷ [])) (native_is r.0))

mute_some : {A B : Type 0} (g : A → B) (o : Option A) → Mute (given (option_map g o)) (after (there o) (λ a. Ok (g a)))
mute_some g None = record { met = λ k. refl }
mute_some g (Some a) = record { met = λ k. refl }

mute_slot : (p : Program) (d : MethodDef) (f : FramesHere) (slot : Slot) → Mute (given (meant.place_of p (site_of d f) slot)) (place_found p f.top.method d slot)
unfolding argument_found local_found argument_type local_type
mute_slot p d f (Argument n) = mute_some (λ (t : PType). record { number = n; kind = t }) (slice_get (argument_places p f.top.method d) n)
mute_slot p d f (Local n) = mute_some (λ (t : PType). record { number = length (argument_places p f.top.method d) + n; kind = t }) (slice_get (local_places f.top.method d) n)

module _ (n : Naming Mention TExpr) (p : Program) (d : MethodDef) (f : FramesHere) where
  abbrev s : Site
  s = site_of d f

  -- Numbers. -----------------------------------------------------------------

  does_divides : (form : Division) → Does n p s (arithmetic.calculates p s (Divides form) (stack_of f)) (say (divides form f))
  unfolding divides
  does_divides form =
      at_last (two_numbers f) _ (does_two_numbers n p d f _ _ (λ t.
      chosen (t.2 == 0) (λ e. comes) (λ e.
      chosen (divides_past form t.0 t.1 t.2) (λ e. comes) (λ e. on d f _))))

  converts_here : (form : Conversion) (kind : Kind) (w : ℕ) → Does n p s (arithmetic.converts p s form kind w (drop 1 (stack_of f))) (say (where_so (is_number kind) (Ok (converted form f kind w))))
  converts_here ToInt32 Int32 w = on d f _
  converts_here ToInt32 Int64 w = on d f _
  converts_here ToInt32 Native w = on d f _
  converts_here ToInt32 Reference w = does_stuck n p s
  converts_here ToInt32 Struct w = does_stuck n p s
  converts_here ToInt64 Int32 w = on d f _
  converts_here ToInt64 Int64 w = on d f _
  converts_here ToInt64 Native w = on d f _
  converts_here ToInt64 Reference w = does_stuck n p s
  converts_here ToInt64 Struct w = does_stuck n p s
  converts_here ToUnsigned64 Int32 w = on d f _
  converts_here ToUnsigned64 Int64 w = on d f _
  converts_here ToUnsigned64 Native w = on d f _
  converts_here ToUnsigned64 Reference w = does_stuck n p s
  converts_here ToUnsigned64 Struct w = does_stuck n p s
  converts_here ToInt32Checked Int32 w = chosen (fits_signed Narrow (signed w)) (λ e. on d f _) (λ e. comes)
  converts_here ToInt32Checked Int64 w = chosen (fits_signed Narrow (signed w)) (λ e. on d f _) (λ e. comes)
  converts_here ToInt32Checked Native w = chosen (fits_signed Narrow (signed w)) (λ e. on d f _) (λ e. comes)
  converts_here ToInt32Checked Reference w = does_stuck n p s
  converts_here ToInt32Checked Struct w = does_stuck n p s

  does_converts : (form : Conversion) → Does n p s (arithmetic.calculates p s (Converts form) (stack_of f)) (say (converts form f))
  unfolding converts
  does_converts form = at_last (one_word f) _ (does_one_word n p d f _ _ (λ t. converts_here form t.0 t.1))

  comparing : (form : Comparison) (next : Bool → List Value → Left) (v : Bool → Talk Did) → ((b : Bool) → Does n p s (next b (drop 2 (stack_of f))) (v b)) → Does n p s (arithmetic.compares form (stack_of f) next) (say (compares form f) >>= v)
  unfolding compares
  comparing form next v more = silent_both (two_words f) (λ t. where_so (are_compared form t.0 t.2) (Ok (holds form t.1 t.3))) v (does_two_words n p d f _ _ (λ t.
      tested v (are_compared form t.0 t.2) (holds form t.1 t.3) (more (holds form t.1 t.3))))

  does_compared : (form : Comparison) → Does n p s (arithmetic.calculates p s (Compares form) (stack_of f)) (say (compared form f))
  unfolding compared
  does_compared form = at_last (compares form f) _ (comparing form (λ is_so vs. goes s (Plain Int32 (bit_of is_so ∷ []) ∷ vs)) _ (λ is_so. on d f _))

  pub does_numbers : (form : NumberForm) → Does n p s (arithmetic.calculates p s form (stack_of f)) (say (acted.calculates form f))
  does_numbers (Wraps form) = does_wraps n p d f form
  does_numbers (Checks form) = does_checks n p d f form
  does_numbers (Divides form) = does_divides form
  does_numbers (Shifts form) = does_shifts n p d f form
  does_numbers (Turns form) = does_turns n p d f form
  does_numbers (Converts form) = does_converts form
  does_numbers (Compares form) = does_compared form

  -- Branches. ----------------------------------------------------------------

  jump : (b : Bool) (to count : ℕ) → Does n p s (told.jumps_if s b to (drop count (stack_of f))) (pure (jumps_if f b to count))
  jump true to count = comes
  jump false to count = on d f (drop count (stack_of f))

  does_jumps_by : (form : Comparison) (to : ℕ) → Does n p s (told.branches s (JumpsBy form to) (stack_of f)) (say (jumps_by form to f))
  unfolding jumps_by
  does_jumps_by form to = at_last (compares form f) _ (comparing form (λ is_so vs. told.jumps_if s is_so to vs) _ (λ is_so. jump is_so to 2))

  pub does_branches : (form : BranchForm) → Does n p s (told.branches s form (stack_of f)) (say (acted.branches form f))
  does_branches (Jumps to) = comes
  does_branches (JumpsWhere is_true to) = does_jumps_where n p d f is_true to
  does_branches (JumpsBy form to) = does_jumps_by form to
  does_branches (Chooses targets) = does_chooses n p d f targets
  does_branches (Leaves to) = does_so n p s _ (leaves to f) (ap (λ l. Next (went f to l)) (sym (emptied f)))

  -- Places. ------------------------------------------------------------------

  does_reads : (slot : Slot) → Does n p s (meant.on_place p s (Reads slot) (stack_of f)) (say (reads p d slot f))
  unfolding reads
  does_reads slot = at_last (place_found p f.top.method d slot) _ (silently (given (meant.place_of p s slot)) (mute_slot p d f slot) (λ x.
      at_last (there (slice_get (innermost (places_of f)).held x.number)) _ (look (slice_get (innermost (places_of f)).held x.number) (λ v e. on d f _))))

  points_here : (number : ℕ) (t : PType) → Does n p s (meant.points_to p s number t (stack_of f)) (say (points_to f number t))
  points_here number (ptype.Value t) = same (goes s (Managed (InFrame (length f.around.items) number 0) ∷ stack_of f)) (ap (λ l. goes s (Managed (InFrame l number 0) ∷ stack_of f)) (level_is d f)) (on d f _)
  points_here number (ptype.Pointer t) = does_stuck n p s
  points_here number ptype.Native = does_stuck n p s

  does_points : (slot : Slot) → Does n p s (meant.on_place p s (Points slot) (stack_of f)) (say (points p d slot f))
  unfolding points
  does_points slot = at_last (place_found p f.top.method d slot) _ (silently (given (meant.place_of p s slot)) (mute_slot p d f slot) (λ x. points_here x.number x.kind))

  does_writes : (slot : Slot) → Does n p s (meant.on_place p s (Writes slot) (stack_of f)) (say (writes p d slot f))
  unfolding writes
  does_writes slot = at_last (place_found p f.top.method d slot) _ (silently (given (meant.place_of p s slot)) (mute_slot p d f slot) (λ x.
      at_last (value_at f 0) _ (pop _ _ f 0 (λ v e.
      at_last (place_kept p x.kind v) _ (silently (fits_place p x.kind v) (mute_place p x.kind v) (λ u. on_with d f _ _))))))

  pub does_places : (form : PlaceForm) → Does n p s (meant.on_place p s form (stack_of f)) (say (acted.on_place p d form f))
  does_places (Reads slot) = does_reads slot
  does_places (Points slot) = does_points slot
  does_places (Writes slot) = does_writes slot
