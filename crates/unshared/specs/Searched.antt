-- What the search for a clause comes to, where types have these numbers at last. Only private contracts cite it.
use Rattle.std.specs.Prelude.{◌≡◌, ℕ, zero, suc, Bool, false, if◌then◌else◌, List, [], ◌∷◌, Option, Some, None, Result, Ok, Err, slice_get, ⊤}
use Rattle.type_tree.specs.declared.tree.TExpr.{TExpr}
use Rattle.il_model.specs.declared.program.Program.{Program}
use Rattle.il_model.specs.declared.entry.Entry.TheVariants as entry
use Rattle.il_model.specs.declared.layout.MethodTree.{MethodTree}
use Rattle.il_model.specs.declared.method.Clause.{Clause}
use Rattle.il_model.specs.declared.method.Sort.{Sort}
use Rattle.il_model.specs.declared.method.Sort.TheVariants as sort
use Rattle.il_model.specs.Library.{plain}
use Rattle.store_object.specs.declared.reply.Reply.{Reply}
use Rattle.store_object.specs.declared.request.Request.TheVariants as ask
use Rattle.cil_meaning.specs.Frames.{Frame, Places, Frames, outer}
use Rattle.cil_meaning.specs.Naming.{put_type}
use Rattle.cil_meaning.specs.Search.{Thrown, covers, clauses_of, at_handler, unbuilt}
use Rattle.cil_meaning.specs.Types.{passes_as}
use Rattle.unshared.specs.declared.pause.Halt.TheVariants as halt
use Rattle.unshared.specs.declared.pause.Pause.{Pause}
use Rattle.unshared.specs.declared.pause.Pause.TheVariants as pause
use Rattle.unshared.specs.Listed.{number_in}
use Rattle.unshared.specs.Settled.{settles_entry}
use Rattle.unshared.specs.Silent.{named, stuck}
use Rattle.unshared.specs.Talk.{Came, Talk, ◌>>=◌, ◌>>◌, pure, say, over, asks_object, asks_done}

-- what a call gives, as the meaning sees it; of a number that names no type yet nothing is said, nor of want of memory
abbrev pub Tells : {A B : Type 0} → (A → B) → Came B → Result A Pause → List Reply → Type 0
Tells see came (Ok x) rest = came ≡ Ok (see x, rest)
Tells see came (Err (pause.Halts (halt.Asks r))) rest = came ≡ Err (halt.Asks r)
Tells see came (Err (pause.Halts halt.Over)) rest = came ≡ Err halt.Over
Tells see came (Err (pause.Halts halt.Stuck)) rest = came ≡ Err halt.Stuck
Tells see came (Err (pause.Halts halt.Unnamed)) rest = ⊤
Tells see came (Err pause.NoMemory) rest = ⊤

-- whether a clause of this sort takes an exception of the type with this number: its type is settled and tested
abbrev pub sort_takes : Program → List TExpr → MethodTree → (kind : ℕ) → Sort → Talk Bool
sort_takes p later m kind (sort.Catch t) = settles_entry p later m (entry.Kind t) >>= (λ v. say (named (slice_get later kind)) >>= (λ exact. pure (passes_as p exact (put_type m t))))
sort_takes p later m kind sort.Finally = say stuck

unfoldable pub takes : Program → List TExpr → MethodTree → (kind at : ℕ) → Clause → Talk Bool
takes p later m kind at c = if covers c at then sort_takes p later m kind c.sort else pure false

-- the handler of the first of these clauses that takes it
unfoldable pub finds : Program → List TExpr → MethodTree → (kind at : ℕ) → List Clause → Talk (Option ℕ)
finds p later m kind at [] = pure None
finds p later m kind at (c ∷ cs) = takes p later m kind at c >>= (λ b. if b then pure (Some c.handler) else finds p later m kind at cs)

-- a frame at a handler, and those around it
abbrev pub handled : Thrown → Frame → List Frame → List Places → ℕ → Frames
handled x f fs pl handler = record { frames = at_handler f handler x ∷ fs; places = unbuilt pl }

abbrev pub or_else : Option ℕ → (ℕ → Frames) → Talk Frames → Talk Frames
or_else None go rest = rest
or_else (Some handler) go rest = pure (go handler)

-- the search from the innermost of these frames outwards
unfoldable pub searched : Program → List TExpr → Thrown → List Frame → List Places → Talk Frames
searched p later x [] pl = asks_done (ask.Fall x.kind) >> over
searched p later x (f ∷ fs) pl = finds p later f.method x.kind f.at (clauses_of p f.method) >>= (λ o. or_else o (handled x f fs pl) (searched p later x fs (outer pl)))

-- a new exception of a class of the library
unfoldable pub raised : Program → List TExpr → (class : ℕ) → Frames → Talk Frames
raised p later class s = do
  v ← say (named (number_in later (plain class)))
  o ← asks_object (ask.Alloc v 0 0)
  searched p later (record { object = o; kind = v }) s.frames s.places

-- the places when so many frames were left
abbrev pub left_places : ℕ → List Places → List Places
left_places zero pl = pl
left_places (suc n) pl = outer (left_places n pl)
