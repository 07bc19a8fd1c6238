-- Each instruction lasts until a request ends its thread.
use Rattle.std.proofs.Common.{ℕ, Bool, true, false, List, [], ◌∷◌, Option, Some, None}
use Rattle.std.specs.Prelude.{if◌then◌else◌, ◌==◌, ◌||◌, ◌+◌, ◌*◌, replicate, nat_lt, length, slice_get}
use Rattle.interaction.specs.Process.{Next, Settle, Ask, Stuck}
use Rattle.store_object.specs.declared.request.Request.TheVariants as ask
use Rattle.store_object.specs.declared.request.Cause.TheVariants as cause
use Rattle.store_object.specs.declared.request.Form.{Form}
use Rattle.store_object.specs.declared.request.Form.TheVariants as printed
use Rattle.store_object.specs.declared.place.Place.TheVariants as at
use Rattle.type_tree.specs.declared.tree.TExpr.{TExpr}
use Rattle.il_model.specs.declared.program.Program.{Program}
use Rattle.il_model.specs.declared.method.PType.{PType}
use Rattle.il_model.specs.declared.method.PType.TheVariants as ptype
use Rattle.il_model.specs.declared.method.MethodDef.{MethodDef}
use Rattle.il_model.specs.declared.layout.MethodTree.{MethodTree}
use Rattle.il_model.specs.declared.member.MRef.{MRef}
use Rattle.il_model.specs.declared.member.FRef.{FRef}
use Rattle.il_model.specs.declared.op.Op.{Op}
use Rattle.il_model.specs.Kinds.{is_reference, is_value}
use Rattle.il_model.specs.Layouts.{words_of, instance_words_of}
use Rattle.il_model.specs.Found.{method_at, method_found, field_found}
use Rattle.il_model.specs.Entries.{has_slot, entries_of}
use Rattle.il_model.specs.Assignable.{element_of}
use Rattle.il_model.specs.Methods.{limit_of_method}
use Rattle.il_model.specs.Slots.{slots_of}
use Rattle.cil_meaning.specs.Values.{Kind, Int32, Int64, Native, Reference, Struct, Pointer, Null, InFrame, InFresh, InObject, InStatic, Value, Plain, Managed, is_reference_word, is_int32, is_native, is_struct, same_kind, shifted}
use Rattle.cil_meaning.specs.Frames.{Frame, Places, Frames, Awaited, Nothing, Result, Object, Built, innermost, with_innermost, with_held, with_fresh, outer}
use Rattle.cil_meaning.specs.Naming.{OfSlot, put_type, strings_from, name_word}
use Rattle.cil_meaning.specs.Words.{low_32, narrow, signed}
use Rattle.cil_meaning.specs.Types.{kind_of, passes_as, argument_places}
use Rattle.cil_meaning.specs.Replies.{Left, on_object, on_word, on_thread, on_ended, on_done, on_stopped}
use Rattle.cil_meaning.specs.Pieces.{given, pops, takes, one_word, as_word, as_reference, as_pointer, not_null, as_object, keeps, fits_place, fits_places, loads, saves, cuts, reads, writes, as_string, Exact, Text, Numbered, types, spells}
use Rattle.cil_meaning.specs.Mentions.{settles_slot}
use Rattle.cil_meaning.specs.Search.{divide_by_zero, overflow, null_reference, index_out_of_range, invalid_cast, array_type_mismatch}
use Rattle.cil_meaning.specs.Site.{Site, level_of, frames_of, goes, goes_with, throws, op_at}
use Rattle.cil_meaning.specs.Places.{PlaceHere, stacks, place_of, points_to, on_place}
use Rattle.cil_meaning.specs.Arithmetic.{Width, Narrow, Wide, kind_at, wrapping_of, fits, is_signed_of, exact_of, wrapped_int, divides_past, divided, shifted_by, turned, are_compared, holds, bit_of, at_width, same_width, two_words, two_numbers, compares, to_int64, to_unsigned64, fits_signed, converts, calculates}
use Rattle.cil_meaning.specs.Branches.{is_taken, jumps_if, chooses, branches}
use Rattle.cil_meaning.specs.Calls.{most_frames, first_frame, first_places, waiting, object_for, slot_found, callee_here, enters, calls, calls_slot, calls_object, calls_reference, calls_value, calls_constrained, creates, returns_to, returns, returns_with, on_call}
use Rattle.cil_meaning.specs.Members.{not_nowhere, as_owner, reads_part, class_here, type_here, throws_null, offset_here, fixed_offset_here, static_here, pushes, on_member}
use Rattle.cil_meaning.specs.Arrays.{most_length, negative_from, element_here, allocates, in_range, puts, puts_reference, puts_element, on_array}
use Rattle.cil_meaning.specs.Boxes.{boxes, asked_here, pushes_reference, casts, unboxes, unboxes_as, boxes_as, on_box}
use Rattle.cil_meaning.specs.LibraryCalls.{request_of, gives, leaves, word_of_kind, operands, judges, pushes_word, swaps_silently, swaps, on_library}
use Rattle.cil_meaning.specs.Offsets.{instance_offset, static_offset}
use Rattle.cil_meaning.specs.Groups.{StackForm, Rests, Copies, Drops, Pushes, PlaceForm, Reads, Points, Writes, NumberForm, Wraps, Checks, Divides, Shifts, Turns, Converts, Compares, Conversion, ToInt32, ToInt64, ToUnsigned64, ToInt32Checked, Comparison, BranchForm, Jumps, JumpsWhere, JumpsBy, Chooses, Leaves, CallForm, Calls, CallsSlot, CallsConstrained, Creates, Returns, MemberForm, ReadsField, WritesField, PointsField, ReadsStatic, WritesStatic, PointsStatic, ReadsAt, WritesAt, ClearsAt, ArrayForm, Allocates, Measures, ReadsElement, WritesElement, BoxForm, Boxes, Unboxes, Casts, Tests, Swapping, Exchanging, Comparing, Adding, LibraryForm, Prints, Swaps, Names, Starts, Joins, Group, OnStack, OnPlaces, OnNumbers, OnBranches, OnCalls, OnMembers, OnArrays, OnBoxes, OnThrow, OnLibrary, Excluded, group_of}
use Rattle.cil_meaning.specs.Meaning.{searches_from, on_throw, does, begins, meaning_in, meaning}
use Rattle.cil_safety.proofs.Lasting.{Lasts, object_lasts, word_lasts, thread_lasts, ended_lasts, done_lasts, stop_lasts, finish_lasts, if_lasts, given_lasts, pops_lasts, takes_lasts, one_word_lasts, as_word_lasts, as_reference_lasts, as_pointer_lasts, not_null_lasts, as_object_lasts, keeps_lasts, place_lasts, places_last, loads_last, saves_last, cuts_last, reads_last, writes_last, string_lasts, types_last, spells_last, within_lasts, all_settled, search_lasts, throw_lasts}

-- ---- operands of numbers

width_lasts : (k : Kind) (w : ℕ) (go : Width → Left) → ((x : Width) → Lasts (go x)) → Lasts (at_width k w go)
width_lasts Int32 w go each = if_lasts (narrow w == w) (go Narrow) Stuck (each Narrow) tt
width_lasts Int64 w go each = each Wide
width_lasts Native w go each = tt
width_lasts Reference w go each = tt
width_lasts Struct w go each = tt

same_lasts : (a b : Width) (left : Left) → Lasts left → Lasts (same_width a b left)
same_lasts Narrow Narrow left go = go
same_lasts Narrow Wide left go = tt
same_lasts Wide Narrow left go = tt
same_lasts Wide Wide left go = go

two_words_last : (vs : List Value) (k : Kind → ℕ → Kind → ℕ → List Value → Left) → ((ka : Kind) (a : ℕ) (kb : Kind) (b : ℕ) (us : List Value) → Lasts (k ka a kb b us)) → Lasts (two_words vs k)
two_words_last vs k go =
    pops_lasts vs (λ v us. as_word v (λ kb b. pops us (λ u ws. as_word u (λ ka a. k ka a kb b ws))))
    (λ v us. as_word_lasts v (λ kb b. pops us (λ u ws. as_word u (λ ka a. k ka a kb b ws)))
    (λ kb b. pops_lasts us (λ u ws. as_word u (λ ka a. k ka a kb b ws)) (λ u ws. as_word_lasts u (λ ka a. k ka a kb b ws) (λ ka a. go ka a kb b ws))))

two_numbers_last : (vs : List Value) (k : Width → ℕ → ℕ → List Value → Left) → ((x : Width) (a b : ℕ) (us : List Value) → Lasts (k x a b us)) → Lasts (two_numbers vs k)
two_numbers_last vs k go =
    two_words_last vs (λ ka a kb b us. at_width ka a (λ width. at_width kb b (λ other. same_width width other (k width a b us))))
    (λ ka a kb b us. width_lasts ka a (λ width. at_width kb b (λ other. same_width width other (k width a b us)))
    (λ width. width_lasts kb b (λ other. same_width width other (k width a b us)) (λ other. same_lasts width other (k width a b us) (go width a b us))))

compares_last : (c : Comparison) (vs : List Value) (k : Bool → List Value → Left) → ((b : Bool) (us : List Value) → Lasts (k b us)) → Lasts (compares c vs k)
compares_last c vs k go =
    two_words_last vs (λ ka a kb b us. if are_compared c ka kb then k (holds c a b) us else Stuck)
    (λ ka a kb b us. if_lasts (are_compared c ka kb) (k (holds c a b) us) Stuck (go (holds c a b) us) tt)

to_int64_lasts : (kind : Kind) (w : ℕ) (bad : Left) (k : ℕ → Left) → Lasts bad → ((a : ℕ) → Lasts (k a)) → Lasts (to_int64 kind w bad k)
to_int64_lasts Int32 w bad k f go = go w
to_int64_lasts Int64 w bad k f go = go w
to_int64_lasts Native w bad k f go = go w
to_int64_lasts Reference w bad k f go = f
to_int64_lasts Struct w bad k f go = f

word_of_kind_lasts : (kind : Kind) (v : Value) (k : ℕ → Left) → ((w : ℕ) → Lasts (k w)) → Lasts (word_of_kind kind v k)
word_of_kind_lasts kind v k go = as_word_lasts v (λ other w. if same_kind kind other then k w else Stuck) (λ other w. if_lasts (same_kind kind other) (k w) Stuck (go w) tt)

operands_last : (f : Swapping) (kind : Kind) (vs : List Value) (k : (word comparand : ℕ) → List Value → Left) → ((w c : ℕ) (us : List Value) → Lasts (k w c us)) → Lasts (operands f kind vs k)
operands_last Exchanging kind vs k go = pops_lasts vs (λ v us. word_of_kind kind v (λ w. k w 0 us)) (λ v us. word_of_kind_lasts kind v (λ w. k w 0 us) (λ w. go w 0 us))
operands_last Comparing kind vs k go =
    pops_lasts vs (λ u us. word_of_kind kind u (λ c. pops us (λ v ws. word_of_kind kind v (λ w. k w c ws))))
    (λ u us. word_of_kind_lasts kind u (λ c. pops us (λ v ws. word_of_kind kind v (λ w. k w c ws))) (λ c. pops_lasts us (λ v ws. word_of_kind kind v (λ w. k w c ws)) (λ v ws. word_of_kind_lasts kind v (λ w. k w c ws) (λ w. go w c ws))))
operands_last Adding kind vs k go = pops_lasts vs (λ v us. word_of_kind kind v (λ w. k w 0 us)) (λ v us. word_of_kind_lasts kind v (λ w. k w 0 us) (λ w. go w 0 us))

nowhere_lasts : (q : Pointer) (bad good : Left) → Lasts bad → Lasts good → Lasts (not_nowhere q bad good)
nowhere_lasts Null bad good f g = f
nowhere_lasts (InFrame level place word) bad good f g = g
nowhere_lasts (InFresh level word) bad good f g = g
nowhere_lasts (InObject object index) bad good f g = g
nowhere_lasts (InStatic kind index) bad good f g = g

owner_lasts : (v : Value) (bad : Left) (k : Pointer → Left) → Lasts bad → ((q : Pointer) → Lasts (k q)) → Lasts (as_owner v bad k)
owner_lasts (Plain kind words) bad k f go =
    if_lasts (is_reference_word kind) (one_word words (λ w. not_null w bad (as_object w (k (InObject w 0))))) Stuck
    (one_word_lasts words (λ w. not_null w bad (as_object w (k (InObject w 0)))) (λ w. not_null_lasts w bad (as_object w (k (InObject w 0))) f (as_object_lasts w (k (InObject w 0)) (go (InObject w 0))))) tt
owner_lasts (Managed q) bad k f go = nowhere_lasts q bad (k q) f (go q)

part_lasts : (k : List ℕ → Left) (v : Value) (by_pointer : Pointer → Left) (bad : Left) (offset n : ℕ) → ((ws : List ℕ) → Lasts (k ws)) → ((q : Pointer) → Lasts (by_pointer q)) → Lasts bad → Lasts (reads_part k v by_pointer bad offset n)
part_lasts k (Plain kind words) by_pointer bad offset n go each f =
    if_lasts (is_struct kind) (cuts words offset n k) (as_owner (Plain kind words) bad by_pointer) (cuts_last words offset n k go) (owner_lasts (Plain kind words) bad by_pointer f each)
part_lasts k (Managed q) by_pointer bad offset n go each f = owner_lasts (Managed q) bad by_pointer f each

boxes_last : (v : ℕ) (words : List ℕ) (k : ℕ → Left) → ((o : ℕ) → Lasts (k o)) → Lasts (boxes v words k)
boxes_last v words k go = object_lasts (ask.Alloc v 0 (length words)) (λ o. saves words (at.Object o 0) (k o)) (λ o. saves_last words (at.Object o 0) (k o) (go o))

module _ (p : Program) (s : Site) where
  -- ---- the stack and places

  stack_lasts : (f : StackForm) (vs : List Value) → Lasts (stacks s f vs)
  stack_lasts Rests vs = tt
  stack_lasts Copies vs = pops_lasts vs (λ v us. goes s (v ∷ v ∷ us)) (λ v us. tt)
  stack_lasts Drops vs = pops_lasts vs (λ v us. goes s us) (λ v us. tt)
  stack_lasts (Pushes v) vs = tt

  points_last : (number : ℕ) (t : PType) (vs : List Value) → Lasts (points_to p s number t vs)
  points_last number (ptype.Value t) vs = tt
  points_last number (ptype.Pointer t) vs = tt
  points_last number ptype.Native vs = tt

  slot_lasts : (f : PlaceForm) (vs : List Value) → Lasts (on_place p s f vs)
  slot_lasts (Reads slot) vs =
      given_lasts (place_of p s slot) (λ (x : PlaceHere). given (slice_get (innermost s.places).held x.number) (λ v. goes s (v ∷ vs)))
      (λ (x : PlaceHere). given_lasts (slice_get (innermost s.places).held x.number) (λ v. goes s (v ∷ vs)) (λ v. tt))
  slot_lasts (Points slot) vs = given_lasts (place_of p s slot) (λ (x : PlaceHere). points_to p s x.number x.kind vs) (λ (x : PlaceHere). points_last x.number x.kind vs)
  slot_lasts (Writes slot) vs =
      given_lasts (place_of p s slot) (λ (x : PlaceHere). pops vs (λ v us. fits_place p x.kind v (λ u. goes_with s (with_innermost s.places (with_held (innermost s.places) x.number u)) us)))
      (λ (x : PlaceHere). pops_lasts vs (λ v us. fits_place p x.kind v (λ u. goes_with s (with_innermost s.places (with_held (innermost s.places) x.number u)) us))
      (λ v us. place_lasts p x.kind v (λ u. goes_with s (with_innermost s.places (with_held (innermost s.places) x.number u)) us) (λ u. tt)))

  null_throws : Lasts (throws_null p s)
  null_throws = throw_lasts p s null_reference

  -- ---- numbers and branches

  converts_lasts : (c : Conversion) (kind : Kind) (w : ℕ) (vs : List Value) → Lasts (converts p s c kind w vs)
  converts_lasts ToInt32 kind w vs = to_int64_lasts kind w Stuck (λ a. goes s (Plain Int32 (narrow a ∷ []) ∷ vs)) tt (λ a. tt)
  converts_lasts ToInt64 kind w vs = to_int64_lasts kind w Stuck (λ a. goes s (Plain Int64 (a ∷ []) ∷ vs)) tt (λ a. tt)
  converts_lasts ToUnsigned64 kind w vs = to_int64_lasts kind w Stuck (λ a. goes s (Plain Int64 (to_unsigned64 kind a ∷ []) ∷ vs)) tt (λ a. tt)
  converts_lasts ToInt32Checked kind w vs =
      to_int64_lasts kind w Stuck (λ a. if fits_signed Narrow (signed a) then goes s (Plain Int32 (a ∷ []) ∷ vs) else throws p s overflow) tt
      (λ a. if_lasts (fits_signed Narrow (signed a)) (goes s (Plain Int32 (a ∷ []) ∷ vs)) (throws p s overflow) tt (throw_lasts p s overflow))

  number_lasts : (f : NumberForm) (vs : List Value) → Lasts (calculates p s f vs)
  number_lasts (Wraps f) vs = two_numbers_last vs (λ width a b us. goes s (Plain (kind_at width) (wrapping_of f width a b ∷ []) ∷ us)) (λ width a b us. tt)
  number_lasts (Checks f) vs =
      two_numbers_last vs (λ width a b us. if fits (is_signed_of f) width (exact_of f width a b) then goes s (Plain (kind_at width) (wrapped_int width (exact_of f width a b) ∷ []) ∷ us) else throws p s overflow)
      (λ width a b us. if_lasts (fits (is_signed_of f) width (exact_of f width a b)) (goes s (Plain (kind_at width) (wrapped_int width (exact_of f width a b) ∷ []) ∷ us)) (throws p s overflow) tt (throw_lasts p s overflow))
  number_lasts (Divides f) vs =
      two_numbers_last vs (λ width a b us. if b == 0 then throws p s divide_by_zero else (if divides_past f width a b then throws p s overflow else goes s (Plain (kind_at width) (divided f width a b ∷ []) ∷ us)))
      (λ width a b us. if_lasts (b == 0) (throws p s divide_by_zero) (if divides_past f width a b then throws p s overflow else goes s (Plain (kind_at width) (divided f width a b ∷ []) ∷ us)) (throw_lasts p s divide_by_zero)
      (if_lasts (divides_past f width a b) (throws p s overflow) (goes s (Plain (kind_at width) (divided f width a b ∷ []) ∷ us)) (throw_lasts p s overflow) tt))
  number_lasts (Shifts f) vs =
      two_words_last vs (λ ka a kb b us. at_width ka a (λ width. at_width kb b (λ other. same_width other Narrow (goes s (Plain (kind_at width) (shifted_by f width a b ∷ []) ∷ us)))))
      (λ ka a kb b us. width_lasts ka a (λ width. at_width kb b (λ other. same_width other Narrow (goes s (Plain (kind_at width) (shifted_by f width a b ∷ []) ∷ us))))
      (λ width. width_lasts kb b (λ other. same_width other Narrow (goes s (Plain (kind_at width) (shifted_by f width a b ∷ []) ∷ us))) (λ other. same_lasts other Narrow (goes s (Plain (kind_at width) (shifted_by f width a b ∷ []) ∷ us)) tt)))
  number_lasts (Turns f) vs =
      pops_lasts vs (λ v us. as_word v (λ kind w. at_width kind w (λ width. goes s (Plain (kind_at width) (turned f width w ∷ []) ∷ us))))
      (λ v us. as_word_lasts v (λ kind w. at_width kind w (λ width. goes s (Plain (kind_at width) (turned f width w ∷ []) ∷ us))) (λ kind w. width_lasts kind w (λ width. goes s (Plain (kind_at width) (turned f width w ∷ []) ∷ us)) (λ width. tt)))
  number_lasts (Converts f) vs = pops_lasts vs (λ v us. as_word v (λ kind w. converts p s f kind w us)) (λ v us. as_word_lasts v (λ kind w. converts p s f kind w us) (λ kind w. converts_lasts f kind w us))
  number_lasts (Compares f) vs = compares_last f vs (λ is_so us. goes s (Plain Int32 (bit_of is_so ∷ []) ∷ us)) (λ is_so us. tt)

  jump_lasts : (b : Bool) (to : ℕ) (vs : List Value) → Lasts (jumps_if s b to vs)
  jump_lasts true to vs = tt
  jump_lasts false to vs = tt

  choice_lasts : (o : Option ℕ) (vs : List Value) → Lasts (chooses s o vs)
  choice_lasts None vs = tt
  choice_lasts (Some to) vs = tt

  branch_lasts : (f : BranchForm) (vs : List Value) → Lasts (branches s f vs)
  branch_lasts (Jumps to) vs = tt
  branch_lasts (JumpsWhere is_so to) vs =
      pops_lasts vs (λ v us. as_word v (λ kind w. if is_struct kind then Stuck else jumps_if s (is_taken is_so w) to us))
      (λ v us. as_word_lasts v (λ kind w. if is_struct kind then Stuck else jumps_if s (is_taken is_so w) to us) (λ kind w. if_lasts (is_struct kind) Stuck (jumps_if s (is_taken is_so w) to us) tt (jump_lasts (is_taken is_so w) to us)))
  branch_lasts (JumpsBy c to) vs = compares_last c vs (λ is_so us. jumps_if s is_so to us) (λ is_so us. jump_lasts is_so to us)
  branch_lasts (Chooses targets) vs =
      pops_lasts vs (λ v us. as_word v (λ kind w. if is_int32 kind then chooses s (slice_get targets w) us else Stuck))
      (λ v us. as_word_lasts v (λ kind w. if is_int32 kind then chooses s (slice_get targets w) us else Stuck) (λ kind w. if_lasts (is_int32 kind) (chooses s (slice_get targets w) us) Stuck (choice_lasts (slice_get targets w) us) tt))
  branch_lasts (Leaves to) vs = tt

  -- ---- calls

  enters_lasts : (m : MethodTree) (d : MethodDef) (held vs : List Value) (awaits : Awaited) (fresh : List ℕ) → Lasts (enters p s m d held vs awaits fresh)
  enters_lasts m d held vs awaits fresh =
      if_lasts (nat_lt (level_of s + 1) most_frames) (Next (record { frames = first_frame m ∷ waiting s.frame vs awaits ∷ s.around; places = first_places p m d held ∷ with_innermost s.places (with_fresh (innermost s.places) fresh) })) (Ask (ask.Stop cause.Depth) on_stopped) tt (stop_lasts (ask.Stop cause.Depth))

  calls_last : (m : MethodTree) (arguments vs : List Value) (awaits : Awaited) (fresh : List ℕ) → Lasts (calls p s m arguments vs awaits fresh)
  calls_last m arguments vs awaits fresh =
      given_lasts (method_at p m.method) (λ (d : MethodDef). given d.body (λ b. fits_places p (argument_places p m d) arguments (λ held. enters p s m d held vs awaits fresh)))
      (λ (d : MethodDef). given_lasts d.body (λ b. fits_places p (argument_places p m d) arguments (λ held. enters p s m d held vs awaits fresh))
      (λ b. places_last p (argument_places p m d) arguments (λ held. enters p s m d held vs awaits fresh) (λ held. enters_lasts m d held vs awaits fresh)))

  slot_call_lasts : (exact : TExpr) (slot : ℕ) (object : MethodTree → Value) (others vs : List Value) → Lasts (calls_slot p s exact slot object others vs)
  slot_call_lasts exact slot object others vs =
      given_lasts (slice_get (slots_of p exact) slot) (λ m. settles_slot p exact slot m (calls p s m (object m ∷ others) vs Result []))
      (λ m. within_lasts (limit_of_method p m) (Settle (OfSlot exact slot) (λ v. calls p s m (object m ∷ others) vs Result [])) (λ v. calls_last m (object m ∷ others) vs Result []))

  object_call_lasts : (class : TExpr) (number w : ℕ) (others vs : List Value) → Lasts (calls_object p s class number w others vs)
  object_call_lasts class number w others vs =
      not_null_lasts w (throws p s null_reference) (types p w (λ e. spells e (λ exact. given (slot_found p exact class number) (λ slot. calls_slot p s exact slot (λ (m : MethodTree). object_for (is_value p m.class) w) others vs)))) null_throws
      (types_last p w (λ e. spells e (λ exact. given (slot_found p exact class number) (λ slot. calls_slot p s exact slot (λ (m : MethodTree). object_for (is_value p m.class) w) others vs)))
      (λ e. spells_last e (λ exact. given (slot_found p exact class number) (λ slot. calls_slot p s exact slot (λ (m : MethodTree). object_for (is_value p m.class) w) others vs))
      (λ exact. given_lasts (slot_found p exact class number) (λ slot. calls_slot p s exact slot (λ (m : MethodTree). object_for (is_value p m.class) w) others vs)
      (λ slot. slot_call_lasts exact slot (λ (m : MethodTree). object_for (is_value p m.class) w) others vs))))

  reference_call_lasts : (b : Bool) (m : MRef) (number w : ℕ) (others vs : List Value) → Lasts (calls_reference p s b m number w others vs)
  reference_call_lasts true m number w others vs = object_call_lasts (put_type s.frame.method m.class) number w others vs
  reference_call_lasts false m number w others vs =
      not_null_lasts w (throws p s null_reference) (calls p s (callee_here p s m number) (Plain Reference (w ∷ []) ∷ others) vs Result []) null_throws (calls_last (callee_here p s m number) (Plain Reference (w ∷ []) ∷ others) vs Result [])

  value_call_lasts : (t class : TExpr) (number : ℕ) (numbers : List ℕ) (q : Pointer) (others vs : List Value) (o : Option ℕ) → Lasts (calls_value p s t class number numbers q others vs o)
  value_call_lasts t class number numbers q others vs (Some slot) = slot_call_lasts t slot (λ m. Managed q) others vs
  value_call_lasts t class number numbers q others vs None =
      given_lasts (slice_get numbers 0) (λ v. reads s.places q (words_of p t) (throws p s null_reference) (λ words. boxes v words (λ o. calls_object p s class number o others vs)))
      (λ v. reads_last s.places q (words_of p t) (throws p s null_reference) (λ words. boxes v words (λ o. calls_object p s class number o others vs)) null_throws
      (λ words. boxes_last v words (λ o. calls_object p s class number o others vs) (λ o. object_call_lasts class number o others vs)))

  constrained_lasts : (b : Bool) (t class : TExpr) (number : ℕ) (numbers : List ℕ) (q : Pointer) (others vs : List Value) → Lasts (calls_constrained p s b t class number numbers q others vs)
  constrained_lasts true t class number numbers q others vs =
      reads_last s.places q 1 (throws p s null_reference) (λ words. one_word words (λ w. calls_object p s class number w others vs)) null_throws
      (λ words. one_word_lasts words (λ w. calls_object p s class number w others vs) (λ w. object_call_lasts class number w others vs))
  constrained_lasts false t class number numbers q others vs = value_call_lasts t class number numbers q others vs (slot_found p t class number)

  creates_last : (b : Bool) (m : MethodTree) (numbers : List ℕ) (arguments vs : List Value) → Lasts (creates p s b m numbers arguments vs)
  creates_last true m numbers arguments vs = calls_last m (Managed (InFresh (level_of s) 0) ∷ arguments) vs Built (replicate (words_of p m.class) 0)
  creates_last false m numbers arguments vs =
      given_lasts (slice_get numbers 1) (λ v. Ask (ask.Alloc v 0 (instance_words_of p m.class)) (on_object (λ o. calls p s m (Plain Reference (o ∷ []) ∷ arguments) vs (Object o) [])))
      (λ v. object_lasts (ask.Alloc v 0 (instance_words_of p m.class)) (λ o. calls p s m (Plain Reference (o ∷ []) ∷ arguments) vs (Object o) []) (λ o. calls_last m (Plain Reference (o ∷ []) ∷ arguments) vs (Object o) []))

  return_to_lasts : (a : Awaited) (f : Frame) (fs : List Frame) (pl : List Places) (result : List Value) → Lasts (returns_to p s a f fs pl result)
  return_to_lasts Nothing f fs pl result = tt
  return_to_lasts Result f fs pl result = tt
  return_to_lasts (Object o) f fs pl result = tt
  return_to_lasts Built f fs pl result = tt

  return_lasts : (fs : List Frame) (result : List Value) → Lasts (returns p s fs result)
  return_lasts [] result = finish_lasts
  return_lasts (f ∷ fs) result = return_to_lasts f.awaits f fs (outer s.places) result

  returns_last : (o : Option TExpr) (vs : List Value) → Lasts (returns_with p s o vs)
  returns_last None vs = return_lasts s.around []
  returns_last (Some t) vs =
      pops_lasts vs (λ v us. keeps p (put_type s.frame.method t) v (λ words. returns p s s.around (Plain (kind_of p (put_type s.frame.method t)) words ∷ [])))
      (λ v us. keeps_lasts p (put_type s.frame.method t) v (λ words. returns p s s.around (Plain (kind_of p (put_type s.frame.method t)) words ∷ [])) (λ words. return_lasts s.around (Plain (kind_of p (put_type s.frame.method t)) words ∷ [])))

  -- a method that is found, with so many values
  found_lasts : (m : MRef) (count : ℕ → MethodDef → ℕ) (vs : List Value) (k : ℕ → MethodDef → List Value → List Value → Left) → ((number : ℕ) (d : MethodDef) (us ws : List Value) → Lasts (k number d us ws)) →
      Lasts (given (method_found p m) (λ number. given (method_at p number) (λ d. takes (count number d) vs [] (λ us ws. k number d us ws))))
  found_lasts m count vs k go =
      given_lasts (method_found p m) (λ number. given (method_at p number) (λ d. takes (count number d) vs [] (λ us ws. k number d us ws)))
      (λ number. given_lasts (method_at p number) (λ d. takes (count number d) vs [] (λ us ws. k number d us ws)) (λ d. takes_lasts (count number d) vs [] (λ us ws. k number d us ws) (λ us ws. go number d us ws)))

  call_lasts : (numbers : List ℕ) (f : CallForm) (vs : List Value) → Lasts (on_call p s numbers f vs)
  call_lasts numbers (Calls m) vs = found_lasts m (λ number d. length (argument_places p (callee_here p s m number) d)) vs (λ number d us ws. calls p s (callee_here p s m number) us ws Result []) (λ number d us ws. calls_last (callee_here p s m number) us ws Result [])
  call_lasts numbers (CallsSlot m) vs =
      found_lasts m (λ number (d : MethodDef). length d.params + 1) vs (λ number (d : MethodDef) us ws. pops us (λ object others. as_reference object (λ w. calls_reference p s (has_slot d.shape) m number w others ws)))
      (λ number (d : MethodDef) us ws. pops_lasts us (λ object others. as_reference object (λ w. calls_reference p s (has_slot d.shape) m number w others ws))
      (λ object others. as_reference_lasts object (λ w. calls_reference p s (has_slot d.shape) m number w others ws) (λ w. reference_call_lasts (has_slot d.shape) m number w others ws)))
  call_lasts numbers (CallsConstrained t m) vs =
      found_lasts m (λ number (d : MethodDef). length d.params + 1) vs (λ number d us ws. pops us (λ object others. as_pointer object (λ q. calls_constrained p s (is_reference p (put_type s.frame.method t)) (put_type s.frame.method t) (put_type s.frame.method m.class) number numbers q others ws)))
      (λ number d us ws. pops_lasts us (λ object others. as_pointer object (λ q. calls_constrained p s (is_reference p (put_type s.frame.method t)) (put_type s.frame.method t) (put_type s.frame.method m.class) number numbers q others ws))
      (λ object others. as_pointer_lasts object (λ q. calls_constrained p s (is_reference p (put_type s.frame.method t)) (put_type s.frame.method t) (put_type s.frame.method m.class) number numbers q others ws)
      (λ q. constrained_lasts (is_reference p (put_type s.frame.method t)) (put_type s.frame.method t) (put_type s.frame.method m.class) number numbers q others ws)))
  call_lasts numbers (Creates m) vs =
      found_lasts m (λ number (d : MethodDef). length d.params) vs (λ number d us ws. creates p s (is_value p (put_type s.frame.method m.class)) (callee_here p s m number) numbers us ws)
      (λ number d us ws. creates_last (is_value p (put_type s.frame.method m.class)) (callee_here p s m number) numbers us ws)
  call_lasts numbers Returns vs = returns_last s.definition.result vs

  -- ---- members

  offset_lasts : (f : FRef) (k : ℕ → Left) → ((o : ℕ) → Lasts (k o)) → Lasts (offset_here p s f k)
  offset_lasts f k go = given_lasts (field_found p f) (λ place. given (instance_offset p (class_here p s f) place) k) (λ place. given_lasts (instance_offset p (class_here p s f) place) k go)

  static_lasts : (numbers : List ℕ) (f : FRef) (k : Pointer → Left) → ((q : Pointer) → Lasts (k q)) → Lasts (static_here p s numbers f k)
  static_lasts numbers f k go =
      given_lasts (slice_get numbers 0) (λ v. fixed_offset_here p s f (λ offset. k (InStatic v offset)))
      (λ v. given_lasts (field_found p f) (λ place. given (static_offset p (class_here p s f) place) (λ offset. k (InStatic v offset)))
      (λ place. given_lasts (static_offset p (class_here p s f) place) (λ offset. k (InStatic v offset)) (λ offset. go (InStatic v offset))))

  put_lasts : (q : Pointer) (words : List ℕ) (vs : List Value) → Lasts (writes s.places q words (throws_null p s) (λ pl. goes_with s pl vs))
  put_lasts q words vs = writes_last s.places q words (throws_null p s) (λ pl. goes_with s pl vs) null_throws (λ pl. tt)

  got_lasts : (q : Pointer) (n : ℕ) (t : TExpr) (vs : List Value) → Lasts (reads s.places q n (throws_null p s) (pushes p s t vs))
  got_lasts q n t vs = reads_last s.places q n (throws_null p s) (pushes p s t vs) null_throws (λ words. tt)

  member_lasts : (numbers : List ℕ) (f : MemberForm) (vs : List Value) → Lasts (on_member p s numbers f vs)
  member_lasts numbers (ReadsField f) vs =
      offset_lasts f (λ offset. pops vs (λ v us. reads_part (pushes p s (type_here p s f) us) v (λ q. reads s.places (shifted q offset) (words_of p (type_here p s f)) (throws_null p s) (pushes p s (type_here p s f) us)) (throws_null p s) offset (words_of p (type_here p s f))))
      (λ offset. pops_lasts vs (λ v us. reads_part (pushes p s (type_here p s f) us) v (λ q. reads s.places (shifted q offset) (words_of p (type_here p s f)) (throws_null p s) (pushes p s (type_here p s f) us)) (throws_null p s) offset (words_of p (type_here p s f)))
      (λ v us. part_lasts (pushes p s (type_here p s f) us) v (λ q. reads s.places (shifted q offset) (words_of p (type_here p s f)) (throws_null p s) (pushes p s (type_here p s f) us)) (throws_null p s) offset (words_of p (type_here p s f)) (λ words. tt) (λ q. got_lasts (shifted q offset) (words_of p (type_here p s f)) (type_here p s f) us) null_throws))
  member_lasts numbers (WritesField f) vs =
      offset_lasts f (λ offset. pops vs (λ v us. pops us (λ u ws. keeps p (type_here p s f) v (λ words. as_owner u (throws_null p s) (λ q. writes s.places (shifted q offset) words (throws_null p s) (λ pl. goes_with s pl ws))))))
      (λ offset. pops_lasts vs (λ v us. pops us (λ u ws. keeps p (type_here p s f) v (λ words. as_owner u (throws_null p s) (λ q. writes s.places (shifted q offset) words (throws_null p s) (λ pl. goes_with s pl ws)))))
      (λ v us. pops_lasts us (λ u ws. keeps p (type_here p s f) v (λ words. as_owner u (throws_null p s) (λ q. writes s.places (shifted q offset) words (throws_null p s) (λ pl. goes_with s pl ws))))
      (λ u ws. keeps_lasts p (type_here p s f) v (λ words. as_owner u (throws_null p s) (λ q. writes s.places (shifted q offset) words (throws_null p s) (λ pl. goes_with s pl ws)))
      (λ words. owner_lasts u (throws_null p s) (λ q. writes s.places (shifted q offset) words (throws_null p s) (λ pl. goes_with s pl ws)) null_throws (λ q. put_lasts (shifted q offset) words ws)))))
  member_lasts numbers (PointsField f) vs =
      offset_lasts f (λ offset. pops vs (λ v us. as_owner v (throws_null p s) (λ q. goes s (Managed (shifted q offset) ∷ us))))
      (λ offset. pops_lasts vs (λ v us. as_owner v (throws_null p s) (λ q. goes s (Managed (shifted q offset) ∷ us))) (λ v us. owner_lasts v (throws_null p s) (λ q. goes s (Managed (shifted q offset) ∷ us)) null_throws (λ q. tt)))
  member_lasts numbers (ReadsStatic f) vs =
      static_lasts numbers f (λ q. reads s.places q (words_of p (type_here p s f)) (throws_null p s) (pushes p s (type_here p s f) vs)) (λ q. got_lasts q (words_of p (type_here p s f)) (type_here p s f) vs)
  member_lasts numbers (WritesStatic f) vs =
      static_lasts numbers f (λ q. pops vs (λ v us. keeps p (type_here p s f) v (λ words. writes s.places q words (throws_null p s) (λ pl. goes_with s pl us))))
      (λ q. pops_lasts vs (λ v us. keeps p (type_here p s f) v (λ words. writes s.places q words (throws_null p s) (λ pl. goes_with s pl us)))
      (λ v us. keeps_lasts p (type_here p s f) v (λ words. writes s.places q words (throws_null p s) (λ pl. goes_with s pl us)) (λ words. put_lasts q words us)))
  member_lasts numbers (PointsStatic f) vs = static_lasts numbers f (λ q. goes s (Managed q ∷ vs)) (λ q. tt)
  member_lasts numbers (ReadsAt t) vs =
      pops_lasts vs (λ v us. as_pointer v (λ q. reads s.places q (words_of p (put_type s.frame.method t)) (throws_null p s) (pushes p s (put_type s.frame.method t) us)))
      (λ v us. as_pointer_lasts v (λ q. reads s.places q (words_of p (put_type s.frame.method t)) (throws_null p s) (pushes p s (put_type s.frame.method t) us)) (λ q. got_lasts q (words_of p (put_type s.frame.method t)) (put_type s.frame.method t) us))
  member_lasts numbers (WritesAt t) vs =
      pops_lasts vs (λ v us. pops us (λ u ws. as_pointer u (λ q. keeps p (put_type s.frame.method t) v (λ words. writes s.places q words (throws_null p s) (λ pl. goes_with s pl ws)))))
      (λ v us. pops_lasts us (λ u ws. as_pointer u (λ q. keeps p (put_type s.frame.method t) v (λ words. writes s.places q words (throws_null p s) (λ pl. goes_with s pl ws))))
      (λ u ws. as_pointer_lasts u (λ q. keeps p (put_type s.frame.method t) v (λ words. writes s.places q words (throws_null p s) (λ pl. goes_with s pl ws)))
      (λ q. keeps_lasts p (put_type s.frame.method t) v (λ words. writes s.places q words (throws_null p s) (λ pl. goes_with s pl ws)) (λ words. put_lasts q words ws))))
  member_lasts numbers (ClearsAt t) vs =
      pops_lasts vs (λ u us. as_pointer u (λ q. writes s.places q (replicate (words_of p (put_type s.frame.method t)) 0) (throws_null p s) (λ pl. goes_with s pl us)))
      (λ u us. as_pointer_lasts u (λ q. writes s.places q (replicate (words_of p (put_type s.frame.method t)) 0) (throws_null p s) (λ pl. goes_with s pl us)) (λ q. put_lasts q (replicate (words_of p (put_type s.frame.method t)) 0) us))

  -- ---- vectors

  allocates_last : (v length' size : ℕ) (vs : List Value) → Lasts (allocates p s v length' size vs)
  allocates_last v length' size vs =
      if_lasts (nat_lt length' most_length) (Ask (ask.Alloc v length' (length' * size)) (on_object (λ o. goes s (Plain Reference (o ∷ []) ∷ vs)))) (if nat_lt length' negative_from then Stuck else throws p s overflow)
      (object_lasts (ask.Alloc v length' (length' * size)) (λ o. goes s (Plain Reference (o ∷ []) ∷ vs)) (λ o. tt))
      (if_lasts (nat_lt length' negative_from) Stuck (throws p s overflow) tt (throw_lasts p s overflow))

  range_lasts : (vector index : Value) (k : ℕ → ℕ → Left) → ((w i : ℕ) → Lasts (k w i)) → Lasts (in_range p s vector index k)
  range_lasts vector index k go =
      as_word_lasts index (λ kind i. if is_int32 kind then as_reference vector (λ w. not_null w (throws p s null_reference) (as_object w (Ask (ask.Length w) (on_word (λ l. if nat_lt i l then k w i else throws p s index_out_of_range))))) else Stuck)
      (λ kind i. if_lasts (is_int32 kind) (as_reference vector (λ w. not_null w (throws p s null_reference) (as_object w (Ask (ask.Length w) (on_word (λ l. if nat_lt i l then k w i else throws p s index_out_of_range)))))) Stuck
      (as_reference_lasts vector (λ w. not_null w (throws p s null_reference) (as_object w (Ask (ask.Length w) (on_word (λ l. if nat_lt i l then k w i else throws p s index_out_of_range)))))
      (λ w. not_null_lasts w (throws p s null_reference) (as_object w (Ask (ask.Length w) (on_word (λ l. if nat_lt i l then k w i else throws p s index_out_of_range)))) null_throws
      (as_object_lasts w (Ask (ask.Length w) (on_word (λ l. if nat_lt i l then k w i else throws p s index_out_of_range)))
      (word_lasts (ask.Length w) (λ l. if nat_lt i l then k w i else throws p s index_out_of_range) (λ l. if_lasts (nat_lt i l) (k w i) (throws p s index_out_of_range) (go w i) (throw_lasts p s index_out_of_range)))))) tt)

  puts_last : (w i size : ℕ) (words : List ℕ) (vs : List Value) → Lasts (puts p s w i size words vs)
  puts_last w i size words vs = saves_last words (at.Object w (i * size)) (goes s vs) tt

  element_reference_lasts : (w i r : ℕ) (vs : List Value) → Lasts (puts_reference p s w i r vs)
  element_reference_lasts w i r vs =
      if_lasts (r == 0) (puts p s w i 1 (r ∷ []) vs) (types p w (λ vector. types p r (λ item. spells vector (λ vector_type. spells item (λ exact. given (element_of vector_type) (λ element. if passes_as p exact element then puts p s w i 1 (r ∷ []) vs else throws p s array_type_mismatch))))))
      (puts_last w i 1 (r ∷ []) vs)
      (types_last p w (λ vector. types p r (λ item. spells vector (λ vector_type. spells item (λ exact. given (element_of vector_type) (λ element. if passes_as p exact element then puts p s w i 1 (r ∷ []) vs else throws p s array_type_mismatch)))))
      (λ vector. types_last p r (λ item. spells vector (λ vector_type. spells item (λ exact. given (element_of vector_type) (λ element. if passes_as p exact element then puts p s w i 1 (r ∷ []) vs else throws p s array_type_mismatch))))
      (λ item. spells_last vector (λ vector_type. spells item (λ exact. given (element_of vector_type) (λ element. if passes_as p exact element then puts p s w i 1 (r ∷ []) vs else throws p s array_type_mismatch)))
      (λ vector_type. spells_last item (λ exact. given (element_of vector_type) (λ element. if passes_as p exact element then puts p s w i 1 (r ∷ []) vs else throws p s array_type_mismatch))
      (λ exact. given_lasts (element_of vector_type) (λ element. if passes_as p exact element then puts p s w i 1 (r ∷ []) vs else throws p s array_type_mismatch)
      (λ element. if_lasts (passes_as p exact element) (puts p s w i 1 (r ∷ []) vs) (throws p s array_type_mismatch) (puts_last w i 1 (r ∷ []) vs) (throw_lasts p s array_type_mismatch)))))))

  element_lasts : (b : Bool) (w i size : ℕ) (words : List ℕ) (vs : List Value) → Lasts (puts_element p s b w i size words vs)
  element_lasts true w i size words vs = one_word_lasts words (λ r. puts_reference p s w i r vs) (λ r. element_reference_lasts w i r vs)
  element_lasts false w i size words vs = puts_last w i size words vs

  array_lasts : (numbers : List ℕ) (f : ArrayForm) (vs : List Value) → Lasts (on_array p s numbers f vs)
  array_lasts numbers (Allocates t) vs =
      given_lasts (slice_get numbers 0) (λ v. pops vs (λ u us. as_word u (λ kind l. if is_int32 kind || is_native kind then allocates p s v l (words_of p (element_here p s t)) us else Stuck)))
      (λ v. pops_lasts vs (λ u us. as_word u (λ kind l. if is_int32 kind || is_native kind then allocates p s v l (words_of p (element_here p s t)) us else Stuck))
      (λ u us. as_word_lasts u (λ kind l. if is_int32 kind || is_native kind then allocates p s v l (words_of p (element_here p s t)) us else Stuck)
      (λ kind l. if_lasts (is_int32 kind || is_native kind) (allocates p s v l (words_of p (element_here p s t)) us) Stuck (allocates_last v l (words_of p (element_here p s t)) us) tt)))
  array_lasts numbers Measures vs =
      pops_lasts vs (λ v us. as_reference v (λ w. not_null w (throws p s null_reference) (as_object w (Ask (ask.Length w) (on_word (λ l. goes s (Plain Native (l ∷ []) ∷ us)))))))
      (λ v us. as_reference_lasts v (λ w. not_null w (throws p s null_reference) (as_object w (Ask (ask.Length w) (on_word (λ l. goes s (Plain Native (l ∷ []) ∷ us))))))
      (λ w. not_null_lasts w (throws p s null_reference) (as_object w (Ask (ask.Length w) (on_word (λ l. goes s (Plain Native (l ∷ []) ∷ us))))) null_throws
      (as_object_lasts w (Ask (ask.Length w) (on_word (λ l. goes s (Plain Native (l ∷ []) ∷ us)))) (word_lasts (ask.Length w) (λ l. goes s (Plain Native (l ∷ []) ∷ us)) (λ l. tt)))))
  array_lasts numbers (ReadsElement t) vs =
      pops_lasts vs (λ v us. pops us (λ u ws. in_range p s u v (λ w i. loads (words_of p (element_here p s t)) (at.Object w (i * words_of p (element_here p s t))) (λ words. goes s (Plain (kind_of p (element_here p s t)) words ∷ ws)))))
      (λ v us. pops_lasts us (λ u ws. in_range p s u v (λ w i. loads (words_of p (element_here p s t)) (at.Object w (i * words_of p (element_here p s t))) (λ words. goes s (Plain (kind_of p (element_here p s t)) words ∷ ws))))
      (λ u ws. range_lasts u v (λ w i. loads (words_of p (element_here p s t)) (at.Object w (i * words_of p (element_here p s t))) (λ words. goes s (Plain (kind_of p (element_here p s t)) words ∷ ws)))
      (λ w i. loads_last (words_of p (element_here p s t)) (at.Object w (i * words_of p (element_here p s t))) (λ words. goes s (Plain (kind_of p (element_here p s t)) words ∷ ws)) (λ words. tt))))
  array_lasts numbers (WritesElement t) vs =
      pops_lasts vs (λ x ws. pops ws (λ v us. pops us (λ u rest. keeps p (element_here p s t) x (λ words. in_range p s u v (λ w i. puts_element p s (is_reference p (element_here p s t)) w i (words_of p (element_here p s t)) words rest)))))
      (λ x ws. pops_lasts ws (λ v us. pops us (λ u rest. keeps p (element_here p s t) x (λ words. in_range p s u v (λ w i. puts_element p s (is_reference p (element_here p s t)) w i (words_of p (element_here p s t)) words rest))))
      (λ v us. pops_lasts us (λ u rest. keeps p (element_here p s t) x (λ words. in_range p s u v (λ w i. puts_element p s (is_reference p (element_here p s t)) w i (words_of p (element_here p s t)) words rest)))
      (λ u rest. keeps_lasts p (element_here p s t) x (λ words. in_range p s u v (λ w i. puts_element p s (is_reference p (element_here p s t)) w i (words_of p (element_here p s t)) words rest))
      (λ words. range_lasts u v (λ w i. puts_element p s (is_reference p (element_here p s t)) w i (words_of p (element_here p s t)) words rest) (λ w i. element_lasts (is_reference p (element_here p s t)) w i (words_of p (element_here p s t)) words rest)))))

  -- ---- boxes and casts

  casts_last : (t : TExpr) (w : ℕ) (refused : Left) (vs : List Value) → Lasts refused → Lasts (casts p s t w refused vs)
  casts_last t w refused vs f =
      not_null_lasts w (pushes_reference p s w vs) (types p w (λ e. spells e (λ exact. if passes_as p exact (asked_here p s t) then pushes_reference p s w vs else refused))) tt
      (types_last p w (λ e. spells e (λ exact. if passes_as p exact (asked_here p s t) then pushes_reference p s w vs else refused))
      (λ e. spells_last e (λ exact. if passes_as p exact (asked_here p s t) then pushes_reference p s w vs else refused) (λ exact. if_lasts (passes_as p exact (asked_here p s t)) (pushes_reference p s w vs) refused tt f)))

  unboxes_last : (v : ℕ) (t : TExpr) (w : ℕ) (vs : List Value) (e : Exact) → Lasts (unboxes p s v t w vs e)
  unboxes_last v t w vs Text = throw_lasts p s invalid_cast
  unboxes_last v t w vs (Numbered e) =
      if_lasts (e == v) (loads (words_of p (asked_here p s t)) (at.Object w 0) (λ words. goes s (Plain (kind_of p (asked_here p s t)) words ∷ vs))) (throws p s invalid_cast)
      (loads_last (words_of p (asked_here p s t)) (at.Object w 0) (λ words. goes s (Plain (kind_of p (asked_here p s t)) words ∷ vs)) (λ words. tt)) (throw_lasts p s invalid_cast)

  unboxed_lasts : (b : Bool) (v : ℕ) (t : TExpr) (w : ℕ) (vs : List Value) → Lasts (unboxes_as p s b v t w vs)
  unboxed_lasts true v t w vs = casts_last t w (throws p s invalid_cast) vs (throw_lasts p s invalid_cast)
  unboxed_lasts false v t w vs = not_null_lasts w (throws p s null_reference) (types p w (unboxes p s v t w vs)) null_throws (types_last p w (unboxes p s v t w vs) (λ e. unboxes_last v t w vs e))

  boxed_lasts : (b : Bool) (v : ℕ) (t : TExpr) (u : Value) (vs : List Value) → Lasts (boxes_as p s b v t u vs)
  boxed_lasts true v t u vs = tt
  boxed_lasts false v t u vs = keeps_lasts p (asked_here p s t) u (λ words. boxes v words (λ o. pushes_reference p s o vs)) (λ words. boxes_last v words (λ o. pushes_reference p s o vs) (λ o. tt))

  box_lasts : (numbers : List ℕ) (f : BoxForm) (vs : List Value) → Lasts (on_box p s numbers f vs)
  box_lasts numbers (Boxes t) vs =
      given_lasts (slice_get numbers 0) (λ v. pops vs (λ u us. boxes_as p s (is_reference p (asked_here p s t)) v t u us))
      (λ v. pops_lasts vs (λ u us. boxes_as p s (is_reference p (asked_here p s t)) v t u us) (λ u us. boxed_lasts (is_reference p (asked_here p s t)) v t u us))
  box_lasts numbers (Unboxes t) vs =
      given_lasts (slice_get numbers 0) (λ v. pops vs (λ u us. as_reference u (λ w. unboxes_as p s (is_reference p (asked_here p s t)) v t w us)))
      (λ v. pops_lasts vs (λ u us. as_reference u (λ w. unboxes_as p s (is_reference p (asked_here p s t)) v t w us))
      (λ u us. as_reference_lasts u (λ w. unboxes_as p s (is_reference p (asked_here p s t)) v t w us) (λ w. unboxed_lasts (is_reference p (asked_here p s t)) v t w us)))
  box_lasts numbers (Casts t) vs =
      pops_lasts vs (λ u us. as_reference u (λ w. casts p s t w (throws p s invalid_cast) us)) (λ u us. as_reference_lasts u (λ w. casts p s t w (throws p s invalid_cast) us) (λ w. casts_last t w (throws p s invalid_cast) us (throw_lasts p s invalid_cast)))
  box_lasts numbers (Tests t) vs =
      pops_lasts vs (λ u us. as_reference u (λ w. casts p s t w (pushes_reference p s 0 us) us)) (λ u us. as_reference_lasts u (λ w. casts p s t w (pushes_reference p s 0 us) us) (λ w. casts_last t w (pushes_reference p s 0 us) us tt))

  -- ---- throws and the library

  exact_throw_lasts : (w : ℕ) (e : Exact) → Lasts (searches_from p s w e)
  exact_throw_lasts w Text = tt
  exact_throw_lasts w (Numbered v) = search_lasts p (record { object = w; kind = v }) (frames_of s).frames s.places

  throws_last : (vs : List Value) → Lasts (on_throw p s vs)
  throws_last vs =
      pops_lasts vs (λ v us. as_reference v (λ w. not_null w (throws p s null_reference) (types p w (searches_from p s w))))
      (λ v us. as_reference_lasts v (λ w. not_null w (throws p s null_reference) (types p w (searches_from p s w)))
      (λ w. not_null_lasts w (throws p s null_reference) (types p w (searches_from p s w)) null_throws (types_last p w (searches_from p s w) (λ e. exact_throw_lasts w e))))

  judge_lasts : (f : Form) (w : ℕ) (left : Left) → Lasts left → Lasts (judges p f w left)
  judge_lasts printed.Number w left go = go
  judge_lasts printed.String w left go =
      not_null_lasts w left (if nat_lt w strings_from then Stuck else as_string p w left) go (if_lasts (nat_lt w strings_from) Stuck (as_string p w left) tt (string_lasts p w left go))

  silent_swap_lasts : (f : Swapping) (kind : Kind) (word comparand : ℕ) (q : Pointer) (vs : List Value) → Lasts (swaps_silently p s f kind word comparand q vs)
  silent_swap_lasts f kind word comparand q vs =
      reads_last s.places q 1 Stuck (λ words. one_word words (λ old. writes s.places q (leaves f kind old word comparand ∷ []) Stuck (λ pl. goes_with s pl (Plain kind (gives f kind old word comparand ∷ []) ∷ vs)))) tt
      (λ words. one_word_lasts words (λ old. writes s.places q (leaves f kind old word comparand ∷ []) Stuck (λ pl. goes_with s pl (Plain kind (gives f kind old word comparand ∷ []) ∷ vs)))
      (λ old. writes_last s.places q (leaves f kind old word comparand ∷ []) Stuck (λ pl. goes_with s pl (Plain kind (gives f kind old word comparand ∷ []) ∷ vs)) tt (λ pl. tt)))

  swap_lasts : (f : Swapping) (kind : Kind) (word comparand : ℕ) (q : Pointer) (vs : List Value) → Lasts (swaps p s f kind word comparand q vs)
  swap_lasts f kind word comparand Null vs = null_throws
  swap_lasts f kind word comparand (InFrame level place i) vs = silent_swap_lasts f kind word comparand (InFrame level place i) vs
  swap_lasts f kind word comparand (InFresh level i) vs = silent_swap_lasts f kind word comparand (InFresh level i) vs
  swap_lasts f kind word comparand (InObject object index) vs = word_lasts (request_of f kind (at.Object object index) word comparand) (pushes_word p s kind vs) (λ w. tt)
  swap_lasts f kind word comparand (InStatic number index) vs = word_lasts (request_of f kind (at.Fixed number index) word comparand) (pushes_word p s kind vs) (λ w. tt)

  library_lasts : (numbers : List ℕ) (f : LibraryForm) (vs : List Value) → Lasts (on_library p s numbers f vs)
  library_lasts numbers (Prints form kind) vs =
      pops_lasts vs (λ v us. word_of_kind kind v (λ w. judges p form w (Ask (ask.Print form w) (on_done (goes s us)))))
      (λ v us. word_of_kind_lasts kind v (λ w. judges p form w (Ask (ask.Print form w) (on_done (goes s us)))) (λ w. judge_lasts form w (Ask (ask.Print form w) (on_done (goes s us))) (done_lasts (ask.Print form w) (goes s us) tt)))
  library_lasts numbers (Swaps f kind) vs =
      operands_last f kind vs (λ word comparand us. pops us (λ u ws. as_pointer u (λ q. swaps p s f kind word comparand q ws)))
      (λ word comparand us. pops_lasts us (λ u ws. as_pointer u (λ q. swaps p s f kind word comparand q ws)) (λ u ws. as_pointer_lasts u (λ q. swaps p s f kind word comparand q ws) (λ q. swap_lasts f kind word comparand q ws)))
  library_lasts numbers Names vs = given_lasts (slice_get numbers 0) (λ v. pushes_word p s Reference vs (name_word v)) (λ v. tt)
  library_lasts numbers Starts vs =
      pops_lasts vs (λ v us. as_reference v (λ w. not_null w (throws p s null_reference) (as_object w (Ask (ask.Start w) (on_thread (pushes_word p s Int32 us))))))
      (λ v us. as_reference_lasts v (λ w. not_null w (throws p s null_reference) (as_object w (Ask (ask.Start w) (on_thread (pushes_word p s Int32 us)))))
      (λ w. not_null_lasts w (throws p s null_reference) (as_object w (Ask (ask.Start w) (on_thread (pushes_word p s Int32 us)))) null_throws
      (as_object_lasts w (Ask (ask.Start w) (on_thread (pushes_word p s Int32 us))) (thread_lasts (ask.Start w) (pushes_word p s Int32 us) (λ t. tt)))))
  library_lasts numbers Joins vs =
      pops_lasts vs (λ v us. word_of_kind Int32 v (λ w. Ask (ask.Ended (low_32 w)) (on_ended (goes s us) (Next (frames_of s)) (throws p s index_out_of_range))))
      (λ v us. word_of_kind_lasts Int32 v (λ w. Ask (ask.Ended (low_32 w)) (on_ended (goes s us) (Next (frames_of s)) (throws p s index_out_of_range)))
      (λ w. ended_lasts (ask.Ended (low_32 w)) (goes s us) (Next (frames_of s)) (throws p s index_out_of_range) tt tt (throw_lasts p s index_out_of_range)))

  -- ---- whole instructions

  does_lasts : (numbers : List ℕ) (vs : List Value) (g : Group) → Lasts (does p s numbers vs g)
  does_lasts numbers vs (OnStack f) = stack_lasts f vs
  does_lasts numbers vs (OnPlaces f) = slot_lasts f vs
  does_lasts numbers vs (OnNumbers f) = number_lasts f vs
  does_lasts numbers vs (OnBranches f) = branch_lasts f vs
  does_lasts numbers vs (OnCalls f) = call_lasts numbers f vs
  does_lasts numbers vs (OnMembers f) = member_lasts numbers f vs
  does_lasts numbers vs (OnArrays f) = array_lasts numbers f vs
  does_lasts numbers vs (OnBoxes f) = box_lasts numbers f vs
  does_lasts numbers vs OnThrow = throws_last vs
  does_lasts numbers vs (OnLibrary f) = library_lasts numbers f vs
  does_lasts numbers vs Excluded = tt

  begins_last : (i : Op) → Lasts (begins p s i)
  begins_last i = all_settled p s.frame.method (entries_of p i) (λ numbers. does p s numbers s.frame.stack (group_of i)) (λ numbers. does_lasts numbers s.frame.stack (group_of i))

module _ (p : Program) where
  instruction_lasts : (fs : List Frame) (pl : List Places) → Lasts (meaning_in p fs pl)
  instruction_lasts [] pl = tt
  instruction_lasts (f ∷ fs) pl =
      given_lasts (method_at p f.method.method) (λ (d : MethodDef). given (op_at d f.at) (λ o. begins p (record { frame = f; definition = d; around = fs; places = pl }) o))
      (λ (d : MethodDef). given_lasts (op_at d f.at) (λ o. begins p (record { frame = f; definition = d; around = fs; places = pl }) o) (λ o. begins_last p (record { frame = f; definition = d; around = fs; places = pl }) o))

  -- each instruction, in whatever frames
  pub meaning_lasts : (x : Frames) → Lasts (meaning p x)
  meaning_lasts x = instruction_lasts x.frames x.places
