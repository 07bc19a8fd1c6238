-- Throws, and the search for a clause from the throwing frame outwards. After ECMA-335, Partition I; the requests are this project's own.
use Rattle.std.specs.Prelude.{ℕ, nat_lt, nat_le, Bool, ◌&&◌, List, [], ◌∷◌, if◌then◌else◌, Option, Some, None, option_and_then}
use Rattle.il_model.specs.declared.program.Program.{Program}
use Rattle.il_model.specs.declared.method.Sort.{Sort}
use Rattle.il_model.specs.declared.method.Sort.TheVariants as sort
use Rattle.il_model.specs.declared.method.Clause.{Clause}
use Rattle.il_model.specs.declared.method.Body.{Body}
use Rattle.il_model.specs.declared.method.MethodDef.{MethodDef}
use Rattle.il_model.specs.declared.layout.MethodTree.{MethodTree}
use Rattle.il_model.specs.Found.{method_at}
use Rattle.interaction.specs.Process.{Next, Settle, Spell, Ask, Over, Stuck}
use Rattle.store_object.specs.declared.request.Request.TheVariants as ask
use Rattle.cil_meaning.specs.Values.{Plain, Reference}
use Rattle.cil_meaning.specs.Naming.{OfFault, put_type}
use Rattle.cil_meaning.specs.Frames.{Frame, Places, Frames, Nothing, outer, with_fresh}
use Rattle.cil_meaning.specs.Types.{passes_as}
use Rattle.cil_meaning.specs.Replies.{Left, on_object, on_done}
use Rattle.cil_meaning.specs.Mentions.{settles_clause}

-- the classes of the exceptions that instructions throw, by their numbers in the library
abbrev pub divide_by_zero : ℕ
divide_by_zero = 5

abbrev pub overflow : ℕ
overflow = 6

abbrev pub null_reference : ℕ
null_reference = 7

abbrev pub index_out_of_range : ℕ
index_out_of_range = 8

abbrev pub invalid_cast : ℕ
invalid_cast = 9

abbrev pub array_type_mismatch : ℕ
array_type_mismatch = 10

-- an exception under way: its object, and the number of its exact type
pub record Thrown : Type 0 where
  pub object : ℕ
  pub kind : ℕ

-- whether the instruction stands in the clause's try
abbrev pub covers : Clause → ℕ → Bool
covers c at = nat_le c.from at && nat_lt at c.to

abbrev pub clauses_in : Option Body → List Clause
clauses_in None = []
clauses_in (Some b) = b.clauses

-- the clauses of an instantiated method, in order
abbrev pub clauses_of : Program → MethodTree → List Clause
clauses_of p m = clauses_in (option_and_then (λ (d : MethodDef). d.body) (method_at p m.method))

-- a frame goes on at a handler with the exception alone on its stack
abbrev pub at_handler : Frame → ℕ → Thrown → Frame
at_handler f handler x = record { method = f.method; at = handler; stack = Plain Reference (x.object ∷ []) ∷ []; awaits = Nothing }

-- no struct is being built in the innermost frame
abbrev pub unbuilt : List Places → List Places
unbuilt [] = []
unbuilt (p ∷ ps) = with_fresh p [] ∷ ps

abbrev pub handled : Thrown → Frame → List Frame → List Places → ℕ → Left
handled x f fs pl handler = Next (record { frames = at_handler f handler x ∷ fs; places = unbuilt pl })

module _ (p : Program) where
  -- a clause whose try holds the instruction: its type is settled and tested
  abbrev pub tests : Thrown → Frame → List Frame → List Places → Clause → Sort → Left → Left
  tests x f fs pl c (sort.Catch t) rest =
      settles_clause p f.method t (Spell x.kind (λ exact. if passes_as p exact (put_type f.method t) then handled x f fs pl c.handler else rest))
  tests x f fs pl c sort.Finally rest = Stuck

  abbrev pub tries : Thrown → Frame → List Frame → List Places → Clause → Left → Left
  tries x f fs pl c rest = if covers c f.at then tests x f fs pl c c.sort rest else rest

  -- the clauses of one frame in order, and then the frames around it
  abbrev pub tries_all : Thrown → Frame → List Frame → List Places → List Clause → Left → Left
  tries_all x f fs pl [] rest = rest
  tries_all x f fs pl (c ∷ cs) rest = tries x f fs pl c (tries_all x f fs pl cs rest)

  -- the search, from the innermost frame outwards; where no clause matches, the run ends with the exact type
  abbrev pub searches : Thrown → List Frame → List Places → Left
  searches x [] pl = Ask (ask.Fall x.kind) (on_done Over)
  searches x (f ∷ fs) pl = tries_all x f fs pl (clauses_of p f.method) (searches x fs (outer pl))

  -- an instruction throws a new exception of a class of the library
  abbrev pub raises : ℕ → Frames → Left
  raises class s = Settle (OfFault class) (λ v. Ask (ask.Alloc v 0 0) (on_object (λ o. searches (record { object = o; kind = v }) s.frames s.places)))
