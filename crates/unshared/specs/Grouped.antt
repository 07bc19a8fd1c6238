-- The groups of forms of the code, as those of the meaning.
use Rattle.std.specs.Prelude.{[], ◌∷◌}
use Rattle.unshared.specs.declared.groups.StackForm.{StackForm as StackHere}
use Rattle.unshared.specs.declared.groups.StackForm.TheVariants as stack
use Rattle.unshared.specs.declared.groups.PlaceForm.{PlaceForm as PlaceHere}
use Rattle.unshared.specs.declared.groups.PlaceForm.TheVariants as place
use Rattle.unshared.specs.declared.groups.NumberForm.{NumberForm as NumberHere}
use Rattle.unshared.specs.declared.groups.NumberForm.TheVariants as number
use Rattle.unshared.specs.declared.groups.BranchForm.{BranchForm as BranchHere}
use Rattle.unshared.specs.declared.groups.BranchForm.TheVariants as branch
use Rattle.unshared.specs.declared.groups.CallForm.{CallForm as CallHere}
use Rattle.unshared.specs.declared.groups.CallForm.TheVariants as call
use Rattle.unshared.specs.declared.groups.MemberForm.{MemberForm as MemberHere}
use Rattle.unshared.specs.declared.groups.MemberForm.TheVariants as member
use Rattle.unshared.specs.declared.groups.ArrayForm.{ArrayForm as ArrayHere}
use Rattle.unshared.specs.declared.groups.ArrayForm.TheVariants as array
use Rattle.unshared.specs.declared.groups.BoxForm.{BoxForm as BoxHere}
use Rattle.unshared.specs.declared.groups.BoxForm.TheVariants as boxed
use Rattle.unshared.specs.declared.groups.LibraryForm.{LibraryForm as LibraryHere}
use Rattle.unshared.specs.declared.groups.LibraryForm.TheVariants as library
use Rattle.unshared.specs.declared.groups.Group.{Group as GroupHere}
use Rattle.unshared.specs.declared.groups.Group.TheVariants as group
use Rattle.cil_meaning.specs.Words.{int32_word, int64_word}
use Rattle.cil_meaning.specs.Naming.{literal_word}
use Rattle.cil_meaning.specs.Values.{Int32, Int64, Reference, Plain}
use Rattle.cil_meaning.specs.Groups as meant
use Rattle.unshared.specs.Forms.{the_kind, the_wrapping, the_checked, the_division, the_shift, the_unary, the_conversion, the_comparison}
use Rattle.unshared.specs.Placed.{the_slot}
use Rattle.unshared.specs.Swaps.{the_swapping}

abbrev pub the_stack_form : StackHere → meant.StackForm
the_stack_form stack.Rests = meant.Rests
the_stack_form stack.Copies = meant.Copies
the_stack_form stack.Drops = meant.Drops
the_stack_form (stack.PushesInt32 n) = meant.Pushes (Plain Int32 (int32_word n ∷ []))
the_stack_form (stack.PushesInt64 n) = meant.Pushes (Plain Int64 (int64_word n ∷ []))
the_stack_form stack.PushesNull = meant.Pushes (Plain Reference (0 ∷ []))
the_stack_form (stack.PushesLiteral n) = meant.Pushes (Plain Reference (literal_word n ∷ []))

abbrev pub the_place_form : PlaceHere → meant.PlaceForm
the_place_form (place.Reads s) = meant.Reads (the_slot s)
the_place_form (place.Points s) = meant.Points (the_slot s)
the_place_form (place.Writes s) = meant.Writes (the_slot s)

abbrev pub the_number_form : NumberHere → meant.NumberForm
the_number_form (number.Wraps f) = meant.Wraps (the_wrapping f)
the_number_form (number.Checks f is_signed) = meant.Checks (the_checked f is_signed)
the_number_form (number.Divides f is_signed) = meant.Divides (the_division f is_signed)
the_number_form (number.Shifts f) = meant.Shifts (the_shift f)
the_number_form (number.Turns f) = meant.Turns (the_unary f)
the_number_form (number.Converts f) = meant.Converts (the_conversion f)
the_number_form (number.Compares f) = meant.Compares (the_comparison f)

abbrev pub the_branch_form : BranchHere → meant.BranchForm
the_branch_form (branch.Jumps to) = meant.Jumps to
the_branch_form (branch.JumpsWhere is_true to) = meant.JumpsWhere is_true to
the_branch_form (branch.JumpsBy f to) = meant.JumpsBy (the_comparison f) to
the_branch_form (branch.Chooses targets) = meant.Chooses targets.now
the_branch_form (branch.Leaves to) = meant.Leaves to

abbrev pub the_call_form : CallHere → meant.CallForm
the_call_form (call.Calls m) = meant.Calls m.now
the_call_form (call.CallsSlot m) = meant.CallsSlot m.now
the_call_form (call.CallsConstrained t m) = meant.CallsConstrained t.now m.now
the_call_form (call.Creates m) = meant.Creates m.now
the_call_form call.Returns = meant.Returns

abbrev pub the_member_form : MemberHere → meant.MemberForm
the_member_form (member.ReadsField f) = meant.ReadsField f.now
the_member_form (member.WritesField f) = meant.WritesField f.now
the_member_form (member.PointsField f) = meant.PointsField f.now
the_member_form (member.ReadsStatic f) = meant.ReadsStatic f.now
the_member_form (member.WritesStatic f) = meant.WritesStatic f.now
the_member_form (member.PointsStatic f) = meant.PointsStatic f.now
the_member_form (member.ReadsAt t) = meant.ReadsAt t.now
the_member_form (member.WritesAt t) = meant.WritesAt t.now
the_member_form (member.ClearsAt t) = meant.ClearsAt t.now

abbrev pub the_array_form : ArrayHere → meant.ArrayForm
the_array_form (array.Allocates t) = meant.Allocates t.now
the_array_form array.Measures = meant.Measures
the_array_form (array.ReadsElement t) = meant.ReadsElement t.now
the_array_form (array.WritesElement t) = meant.WritesElement t.now

abbrev pub the_box_form : BoxHere → meant.BoxForm
the_box_form (boxed.Boxes t) = meant.Boxes t.now
the_box_form (boxed.Unboxes t) = meant.Unboxes t.now
the_box_form (boxed.Casts t) = meant.Casts t.now
the_box_form (boxed.Tests t) = meant.Tests t.now

abbrev pub the_library_form : LibraryHere → meant.LibraryForm
the_library_form (library.Prints form kind) = meant.Prints form (the_kind kind)
the_library_form (library.Swaps f kind) = meant.Swaps (the_swapping f) (the_kind kind)
the_library_form library.Names = meant.Names
the_library_form library.Starts = meant.Starts
the_library_form library.Joins = meant.Joins

abbrev pub the_group : GroupHere → meant.Group
the_group (group.OnStack f) = meant.OnStack (the_stack_form f)
the_group (group.OnPlaces f) = meant.OnPlaces (the_place_form f)
the_group (group.OnNumbers f) = meant.OnNumbers (the_number_form f)
the_group (group.OnBranches f) = meant.OnBranches (the_branch_form f)
the_group (group.OnCalls f) = meant.OnCalls (the_call_form f)
the_group (group.OnMembers f) = meant.OnMembers (the_member_form f)
the_group (group.OnArrays f) = meant.OnArrays (the_array_form f)
the_group (group.OnBoxes f) = meant.OnBoxes (the_box_form f)
the_group group.OnThrow = meant.OnThrow
the_group (group.OnLibrary f) = meant.OnLibrary (the_library_form f)
the_group group.Excluded = meant.Excluded
