-- What an instruction comes to once its entries are settled, as a function of its replies. Only private contracts cite it.
use Rattle.std.specs.Prelude.{ℕ, ◌==◌, if◌then◌else◌, List, length, Ok, slice_get}
use Rattle.type_tree.specs.declared.tree.TExpr.{TExpr}
use Rattle.il_model.specs.declared.program.Program.{Program}
use Rattle.il_model.specs.declared.method.MethodDef.{MethodDef}
use Rattle.il_model.specs.declared.member.MRef.{MRef}
use Rattle.il_model.specs.declared.member.FRef.{FRef}
use Rattle.il_model.specs.declared.layout.MethodTree.{MethodTree}
use Rattle.il_model.specs.Found.{method_at, method_found}
use Rattle.il_model.specs.Entries.{has_slot}
use Rattle.il_model.specs.Kinds.{is_value}
use Rattle.cil_meaning.specs.Naming.{put_type}
use Rattle.cil_meaning.specs.Pieces.{Exact, Text, Numbered}
use Rattle.cil_meaning.specs.Search.{null_reference}
use Rattle.cil_meaning.specs.Groups.{PlaceForm, Reads, Points, Writes, NumberForm, Wraps, Checks, Divides, Shifts, Turns, Converts, Compares, BranchForm, Jumps, JumpsWhere, JumpsBy, Chooses, Leaves, CallForm, Calls, CallsSlot, CallsConstrained, Creates, Returns, MemberForm, ReadsField, WritesField, PointsField, ReadsStatic, WritesStatic, PointsStatic, ReadsAt, WritesAt, ClearsAt, ArrayForm, Allocates, Measures, ReadsElement, WritesElement, BoxForm, Boxes, Unboxes, Casts, Tests, LibraryForm, Prints, Swaps, Names, Starts, Joins, Group, OnStack, OnPlaces, OnNumbers, OnBranches, OnCalls, OnMembers, OnArrays, OnBoxes, OnThrow, OnLibrary, Excluded}
use Rattle.unshared.specs.declared.frames.Frames.{Frames as FramesHere}
use Rattle.unshared.specs.Boxed as boxed
use Rattle.unshared.specs.Branched as branched
use Rattle.unshared.specs.Calculated as calculated
use Rattle.unshared.specs.Called as called
use Rattle.unshared.specs.Constrained.{constrained}
use Rattle.unshared.specs.Elements as elements
use Rattle.unshared.specs.Fields as fields
use Rattle.unshared.specs.Named.{FieldSeen, field_here}
use Rattle.unshared.specs.Going.{Did, Throws, Raises, goes_at}
use Rattle.unshared.specs.Memory.{exact_of}
use Rattle.unshared.specs.Operands.{reference_at, pointer_at, object_of}
use Rattle.unshared.specs.Placed as placed
use Rattle.unshared.specs.Served as served
use Rattle.unshared.specs.Silent.{Silent, stuck, there}
use Rattle.unshared.specs.Stacked as stacked
use Rattle.unshared.specs.Talk.{Talk, ◌>>=◌, pure, say}

abbrev pub on_place : Program → MethodDef → PlaceForm → FramesHere → Silent Did
on_place p d (Reads slot) f = placed.reads p d slot f
on_place p d (Points slot) f = placed.points p d slot f
on_place p d (Writes slot) f = placed.writes p d slot f

abbrev pub calculates : NumberForm → FramesHere → Silent Did
calculates (Wraps form) f = calculated.wraps form f
calculates (Checks form) f = calculated.checks form f
calculates (Divides form) f = calculated.divides form f
calculates (Shifts form) f = calculated.shifts form f
calculates (Turns form) f = calculated.turns form f
calculates (Converts form) f = calculated.converts form f
calculates (Compares form) f = calculated.compared form f

abbrev pub branches : BranchForm → FramesHere → Silent Did
branches (Jumps to) f = Ok (goes_at f to 0)
branches (JumpsWhere is_true to) f = branched.jumps_where is_true to f
branches (JumpsBy form to) f = branched.jumps_by form to f
branches (Chooses targets) f = branched.chooses targets f
branches (Leaves to) f = Ok (branched.leaves to f)

-- Members. ----------------------------------------------------------------

abbrev pub with_field : Program → FramesHere → FRef → (FieldSeen → Talk Did) → Talk Did
with_field p f named go = say (field_here p f named) >>= go

abbrev pub with_number : List ℕ → ℕ → (ℕ → Talk Did) → Talk Did
with_number numbers at go = say (there (slice_get numbers at)) >>= go

abbrev pub on_member : Program → List ℕ → MemberForm → FramesHere → Talk Did
on_member p numbers (ReadsField named) f = with_field p f named (λ x. fields.reads_field p x.class x.place x.kind f)
on_member p numbers (WritesField named) f = with_field p f named (λ x. fields.writes_field p x.class x.place x.kind f)
on_member p numbers (PointsField named) f = with_field p f named (λ x. fields.points_field p x.class x.place f)
on_member p numbers (ReadsStatic named) f = with_number numbers 0 (λ v. with_field p f named (λ x. fields.reads_static p x.class x.place x.kind v f))
on_member p numbers (WritesStatic named) f = with_number numbers 0 (λ v. with_field p f named (λ x. fields.writes_static p x.class x.place x.kind v f))
on_member p numbers (PointsStatic named) f = with_number numbers 0 (λ v. with_field p f named (λ x. fields.points_static p x.class x.place v f))
on_member p numbers (ReadsAt t) f = fields.reads_object p (put_type f.top.method t) f
on_member p numbers (WritesAt t) f = fields.writes_object p (put_type f.top.method t) f
on_member p numbers (ClearsAt t) f = fields.clears_object p (put_type f.top.method t) f

-- Vectors, boxes and the library. -----------------------------------------

abbrev pub on_array : Program → List TExpr → List ℕ → ArrayForm → FramesHere → Talk Did
on_array p kinds numbers (Allocates t) f = with_number numbers 0 (λ v. elements.allocates p v (put_type f.top.method t) f)
on_array p kinds numbers Measures f = elements.measures f
on_array p kinds numbers (ReadsElement t) f = elements.reads_element p (put_type f.top.method t) f
on_array p kinds numbers (WritesElement t) f = elements.writes_element p kinds (put_type f.top.method t) f

abbrev pub on_box : Program → List TExpr → List ℕ → BoxForm → FramesHere → Talk Did
on_box p kinds numbers (Boxes t) f = with_number numbers 0 (λ v. boxed.boxes p v (put_type f.top.method t) f)
on_box p kinds numbers (Unboxes t) f = with_number numbers 0 (λ v. boxed.unboxes p kinds v (put_type f.top.method t) f)
on_box p kinds numbers (Casts t) f = boxed.casts p kinds (put_type f.top.method t) f
on_box p kinds numbers (Tests t) f = boxed.tests p kinds (put_type f.top.method t) f

abbrev pub on_library : Program → List TExpr → List ℕ → LibraryForm → FramesHere → Talk Did
on_library p kinds numbers (Prints form kind) f = served.prints p kinds form kind f
on_library p kinds numbers (Swaps form kind) f = served.swaps form kind f
on_library p kinds numbers Names f = with_number numbers 0 (λ v. pure (served.names v f))
on_library p kinds numbers Starts f = served.starts f
on_library p kinds numbers Joins f = served.joins f

-- Throws. -----------------------------------------------------------------

abbrev pub raises_exact : ℕ → Exact → Talk Did
raises_exact w Text = say stuck
raises_exact w (Numbered kind) = say (object_of w) >>= (λ o. pure (Raises (record { object = o; kind = kind })))

-- an object that isn't null; no string is an exception
unfoldable pub raises : Program → List TExpr → ℕ → Talk Did
raises p kinds w = exact_of p kinds w >>= raises_exact w

unfoldable pub throws_object : Program → List TExpr → FramesHere → Talk Did
throws_object p kinds f = do
  w ← say (reference_at f 0)
  if w == 0 then pure (Throws null_reference) else raises p kinds w

-- Calls. ------------------------------------------------------------------

unfoldable pub calls_it : Program → MRef → FramesHere → Talk Did
calls_it p named f = do
  number ← say (there (method_found p named))
  d ← say (there (method_at p number))
  called.calls_named p (called.callee_of f.top.method named number) d f

unfoldable pub calls_virtually : Program → List TExpr → MRef → FramesHere → Talk Did
calls_virtually p kinds named f = do
  number ← say (there (method_found p named))
  d ← say (there (method_at p number))
  w ← say (reference_at f (length d.params))
  if has_slot d.shape then called.calls_object p kinds (put_type f.top.method named.class) number w f (length d.params) else called.calls_plainly p (called.callee_of f.top.method named number) w f (length d.params)

unfoldable pub calls_constrained : Program → List TExpr → List ℕ → TExpr → MRef → FramesHere → Talk Did
calls_constrained p kinds numbers t named f = do
  number ← say (there (method_found p named))
  d ← say (there (method_at p number))
  q ← say (pointer_at f (length d.params))
  constrained p kinds numbers (put_type f.top.method t) (put_type f.top.method named.class) number q f (length d.params)

abbrev pub creates_as : Program → MethodTree → List ℕ → FramesHere → ℕ → Talk Did
creates_as p m numbers f given = if is_value p m.class then called.builds p m f given else with_number numbers 1 (λ v. called.allocates p m v f given)

unfoldable pub creates : Program → List ℕ → MRef → FramesHere → Talk Did
creates p numbers named f = do
  number ← say (there (method_found p named))
  d ← say (there (method_at p number))
  creates_as p (called.callee_of f.top.method named number) numbers f (length d.params)

abbrev pub on_call : Program → List TExpr → MethodDef → List ℕ → CallForm → FramesHere → Talk Did
on_call p kinds d numbers (Calls named) f = calls_it p named f
on_call p kinds d numbers (CallsSlot named) f = calls_virtually p kinds named f
on_call p kinds d numbers (CallsConstrained t named) f = calls_constrained p kinds numbers t named f
on_call p kinds d numbers (Creates named) f = creates p numbers named f
on_call p kinds d numbers Returns f = called.returns p d f

-- what an instruction does once its entries are settled, from their numbers
abbrev pub does : Program → List TExpr → MethodDef → List ℕ → Group → FramesHere → Talk Did
does p kinds d numbers (OnStack form) f = say (stacked.stacks form f)
does p kinds d numbers (OnPlaces form) f = say (on_place p d form f)
does p kinds d numbers (OnNumbers form) f = say (calculates form f)
does p kinds d numbers (OnBranches form) f = say (branches form f)
does p kinds d numbers (OnCalls form) f = on_call p kinds d numbers form f
does p kinds d numbers (OnMembers form) f = on_member p numbers form f
does p kinds d numbers (OnArrays form) f = on_array p kinds numbers form f
does p kinds d numbers (OnBoxes form) f = on_box p kinds numbers form f
does p kinds d numbers OnThrow f = throws_object p kinds f
does p kinds d numbers (OnLibrary form) f = on_library p kinds numbers form f
does p kinds d numbers Excluded f = say stuck
