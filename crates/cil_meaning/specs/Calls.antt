-- Calls, new objects and returns. ECMA-335, Partition III; the frames' limit and the requests are this project's own.
use Rattle.std.specs.Prelude.{ℕ, suc, ◌+◌, ◌==◌, nat_lt, Bool, true, false, if◌then◌else◌, List, [], ◌∷◌, ◌++◌, length, map, replicate, position, Option, Some, None, option_and_then, slice_get}
use Rattle.type_tree.specs.declared.tree.TExpr.{TExpr}
use Rattle.il_model.specs.declared.program.Program.{Program}
use Rattle.il_model.specs.declared.method.MethodDef.{MethodDef}
use Rattle.il_model.specs.declared.member.MRef.{MRef}
use Rattle.il_model.specs.declared.layout.MethodTree.{MethodTree}
use Rattle.il_model.specs.Found.{method_at, method_found}
use Rattle.il_model.specs.Entries.{has_slot}
use Rattle.il_model.specs.Kinds.{is_reference, is_value}
use Rattle.il_model.specs.Layouts.{words_of, instance_words_of}
use Rattle.il_model.specs.Slots.{slots_of, implementation_of, own_methods_of, is_interface}
use Rattle.interaction.specs.Process.{Next, Ask, Over, Stuck}
use Rattle.store_object.specs.declared.request.Cause.TheVariants as cause
use Rattle.store_object.specs.declared.request.Request.TheVariants as ask
use Rattle.cil_meaning.specs.Values.{Reference, Struct, Pointer, InFresh, InObject, Value, Plain, Managed}
use Rattle.cil_meaning.specs.Naming.{put_type}
use Rattle.cil_meaning.specs.Frames.{Awaited, Nothing, Result, Object, Built, Frame, Places, innermost, outer, with_innermost, with_fresh}
use Rattle.cil_meaning.specs.Types.{zero_of, argument_places, local_places, kind_of}
use Rattle.cil_meaning.specs.Replies.{Left, on_object, on_done, on_stopped}
use Rattle.cil_meaning.specs.Mentions.{settles_slot}
use Rattle.cil_meaning.specs.Search.{null_reference}
use Rattle.cil_meaning.specs.Site.{Site, level_of, moved, throws}
use Rattle.cil_meaning.specs.Pieces.{given, pops, takes, one_word, as_reference, as_pointer, not_null, keeps, fits_places, reads, types, spells}
use Rattle.cil_meaning.specs.Boxes.{boxes}
use Rattle.cil_meaning.specs.Groups.{CallForm, Calls, CallsSlot, CallsConstrained, Creates, Returns}

-- the most frames of a thread
abbrev pub most_frames : ℕ
most_frames = 1024

-- The slot of a method ---------------------------------------------------

-- Which slot of an exact type a call goes to, by the class and the method that the call names: of an interface the slot
-- that implements the method, and of a class the one in which the method stands, which derived classes keep.
abbrev pub slot_by : Program → (names_interface : Bool) → (exact class : TExpr) → ℕ → Option ℕ
slot_by p true exact class number = option_and_then (λ ordinal. implementation_of p exact class ordinal) (position (λ own. own == number) (own_methods_of p class))
slot_by p false exact class number = position (λ (m : MethodTree). m.method == number) (slots_of p class)

abbrev pub slot_found : Program → (exact class : TExpr) → ℕ → Option ℕ
slot_found p exact class number = slot_by p (is_interface p class) exact class number

-- the object that a method in a slot takes: a struct's takes the pointer to word 0 of the box
abbrev pub object_for : (is_struct : Bool) → ℕ → Value
object_for true w = Managed (InObject w 0)
object_for false w = Plain Reference (w ∷ [])

-- Frames -----------------------------------------------------------------

-- the frame that a call begins, and what its places hold
abbrev pub first_frame : MethodTree → Frame
first_frame m = record { method = m; at = 0; stack = []; awaits = Nothing }

abbrev pub first_places : Program → MethodTree → MethodDef → List Value → Places
first_places p m d arguments = record { held = arguments ++ map (zero_of p) (local_places m d); fresh = [] }

abbrev pub waiting : Frame → List Value → Awaited → Frame
waiting f stack awaits = record { method = f.method; at = f.at; stack = stack; awaits = awaits }

module _ (p : Program) (s : Site) where
  abbrev pub callee_here : MRef → ℕ → MethodTree
  callee_here m number = record { method = number; class = put_type s.frame.method m.class; args = map (put_type s.frame.method) m.args }

  -- a frame more, where there are fewer than may be
  abbrev pub enters : MethodTree → MethodDef → List Value → List Value → Awaited → List ℕ → Left
  enters m d held stack awaits fresh =
      if nat_lt (level_of s + 1) most_frames then Next (record { frames = first_frame m ∷ waiting s.frame stack awaits ∷ s.around; places = first_places p m d held ∷ with_innermost s.places (with_fresh (innermost s.places) fresh) })
      else Ask (ask.Stop cause.Depth) on_stopped

  -- Calls a method that has a body: its arguments, as their places keep them; the stack below them; what is awaited; and the
  -- words of the struct that the callee is to build.
  abbrev pub calls : MethodTree → List Value → List Value → Awaited → List ℕ → Left
  calls m arguments stack awaits fresh = given (method_at p m.method) (λ d. given d.body (λ b. fits_places p (argument_places p m d) arguments (λ held. enters m d held stack awaits fresh)))

  -- the method in this slot of an exact type, which is settled
  abbrev pub calls_slot : TExpr → ℕ → (MethodTree → Value) → List Value → List Value → Left
  calls_slot exact slot object others stack = given (slice_get (slots_of p exact) slot) (λ m. settles_slot p exact slot m (calls m (object m ∷ others) stack Result []))

  -- the method that a reference's exact type has for the one that is named
  abbrev pub calls_object : TExpr → ℕ → ℕ → List Value → List Value → Left
  calls_object class number w others stack = not_null w (throws p s null_reference) (types p w (λ e. spells e (λ exact.
      given (slot_found p exact class number) (λ slot. calls_slot exact slot (λ m. object_for (is_value p m.class) w) others stack))))

  abbrev pub calls_reference : (has_slot : Bool) → MRef → ℕ → ℕ → List Value → List Value → Left
  calls_reference true m number w others stack = calls_object (put_type s.frame.method m.class) number w others stack
  calls_reference false m number w others stack = not_null w (throws p s null_reference) (calls (callee_here m number) (Plain Reference (w ∷ []) ∷ others) stack Result [])

  -- `constrained.` on a value type: its own method takes the pointer; where it has none, the object is a new box
  abbrev pub calls_value : TExpr → TExpr → ℕ → List ℕ → Pointer → List Value → List Value → Option ℕ → Left
  calls_value t class number numbers q others stack (Some slot) = calls_slot t slot (λ m. Managed q) others stack
  calls_value t class number numbers q others stack None = given (slice_get numbers 0) (λ v.
      reads s.places q (words_of p t) (throws p s null_reference) (λ words. boxes v words (λ o. calls_object class number o others stack)))

  abbrev pub calls_constrained : (is_reference : Bool) → TExpr → TExpr → ℕ → List ℕ → Pointer → List Value → List Value → Left
  calls_constrained true t class number numbers q others stack = reads s.places q 1 (throws p s null_reference) (λ words. one_word words (λ w. calls_object class number w others stack))
  calls_constrained false t class number numbers q others stack = calls_value t class number numbers q others stack (slot_found p t class number)

  -- a struct is built in a fresh place of this frame, a class's object in the heap
  abbrev pub creates : (is_struct : Bool) → MethodTree → List ℕ → List Value → List Value → Left
  creates true m numbers arguments stack = calls m (Managed (InFresh (level_of s) 0) ∷ arguments) stack Built (replicate (words_of p m.class) 0)
  creates false m numbers arguments stack = given (slice_get numbers 1) (λ v. Ask (ask.Alloc v 0 (instance_words_of p m.class)) (on_object (λ o.
      calls m (Plain Reference (o ∷ []) ∷ arguments) stack (Object o) [])))

  -- Returns --------------------------------------------------------------

  -- the caller goes on after its call
  abbrev pub resumes : Frame → List Frame → List Places → List Value → Left
  resumes f fs pl stack = Next (record { frames = moved f (suc f.at) stack ∷ fs; places = pl })

  abbrev pub returns_to : Awaited → Frame → List Frame → List Places → List Value → Left
  returns_to Nothing f fs pl result = Stuck
  returns_to Result f fs pl result = resumes f fs pl (result ++ f.stack)
  returns_to (Object o) f fs pl result = resumes f fs pl (Plain Reference (o ∷ []) ∷ f.stack)
  returns_to Built f fs pl result = resumes f fs (with_innermost pl (with_fresh (innermost pl) [])) (Plain Struct (innermost pl).fresh ∷ f.stack)

  -- with at most one result, to the frame around this one; the first frame's return ends the thread
  abbrev pub returns : List Frame → List Value → Left
  returns [] result = Ask ask.Finish (on_done Over)
  returns (f ∷ fs) result = returns_to f.awaits f fs (outer s.places) result

  -- the result, as its type keeps it
  abbrev pub returns_with : Option TExpr → List Value → Left
  returns_with None stack = returns s.around []
  returns_with (Some t) stack = pops stack (λ v vs. keeps p (put_type s.frame.method t) v (λ words. returns s.around (Plain (kind_of p (put_type s.frame.method t)) words ∷ [])))

  -- each form of calls, from the numbers that its entries have and the stack
  abbrev pub on_call : List ℕ → CallForm → List Value → Left
  on_call numbers (Calls m) stack = given (method_found p m) (λ number. given (method_at p number) (λ d.
      takes (length (argument_places p (callee_here m number) d)) stack [] (λ arguments rest. calls (callee_here m number) arguments rest Result [])))
  on_call numbers (CallsSlot m) stack = given (method_found p m) (λ number. given (method_at p number) (λ d.
      takes (length d.params + 1) stack [] (λ arguments rest. pops arguments (λ object others. as_reference object (λ w.
      calls_reference (has_slot d.shape) m number w others rest)))))
  on_call numbers (CallsConstrained t m) stack = given (method_found p m) (λ number. given (method_at p number) (λ d.
      takes (length d.params + 1) stack [] (λ arguments rest. pops arguments (λ object others. as_pointer object (λ q.
      calls_constrained (is_reference p (put_type s.frame.method t)) (put_type s.frame.method t) (put_type s.frame.method m.class) number numbers q others rest)))))
  on_call numbers (Creates m) stack = given (method_found p m) (λ number. given (method_at p number) (λ d.
      takes (length d.params) stack [] (λ arguments rest. creates (is_value p (put_type s.frame.method m.class)) (callee_here m number) numbers arguments rest)))
  on_call numbers Returns stack = returns_with s.definition.result stack
