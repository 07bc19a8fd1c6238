-- The pieces that instructions are made of: values taken from the stack, words read and written where a pointer leads, and exact types. This project's own.
use Rattle.std.specs.Prelude.{ℕ, zero, suc, ◌+◌, ◌-◌, ◌==◌, ◌&&◌, nat_lt, nat_le, if◌then◌else◌, List, [], ◌∷◌, length, Option, Some, None, slice_get}
use Rattle.type_tree.specs.declared.tree.TExpr.{TExpr}
use Rattle.il_model.specs.declared.program.Program.{Program}
use Rattle.il_model.specs.declared.method.PType.{PType}
use Rattle.il_model.specs.declared.method.PType.TheVariants as ptype
use Rattle.il_model.specs.Layouts.{words_of}
use Rattle.il_model.specs.Library.{plain}
use Rattle.interaction.specs.Process.{Spell, Ask, Stuck}
use Rattle.store_object.specs.declared.place.Place.{Place}
use Rattle.store_object.specs.declared.place.Place.TheVariants as at
use Rattle.store_object.specs.declared.request.Request.TheVariants as ask
use Rattle.cil_meaning.specs.Words.{cut, spliced}
use Rattle.cil_meaning.specs.Values.{Kind, Native, Pointer, Null, InFrame, InFresh, InObject, InStatic, Value, Plain, Managed, same_kind, is_reference_word}
use Rattle.cil_meaning.specs.Naming.{strings_from, names_from}
use Rattle.cil_meaning.specs.Frames.{Places, places_at, with_places, with_held, with_fresh}
use Rattle.cil_meaning.specs.Types.{kind_of, kept}
use Rattle.cil_meaning.specs.Replies.{Left, on_kind, on_word, on_done}

-- what is there, or no rule
abbrev pub given : {A : Type 0} → Option A → (A → Left) → Left
given None k = Stuck
given (Some a) k = k a

-- The stack --------------------------------------------------------------

-- the value on top, and the stack below it
abbrev pub pops : List Value → (Value → List Value → Left) → Left
pops [] k = Stuck
pops (v ∷ vs) k = k v vs

-- so many values, the deepest first, and the stack below them
abbrev pub takes : ℕ → List Value → List Value → (List Value → List Value → Left) → Left
takes zero stack taken k = k taken stack
takes (suc n) [] taken k = Stuck
takes (suc n) (v ∷ vs) taken k = takes n vs (v ∷ taken) k

abbrev pub one_word : List ℕ → (ℕ → Left) → Left
one_word [] k = Stuck
one_word (w ∷ []) k = k w
one_word (w ∷ v ∷ ws) k = Stuck

-- a value of one word, with its kind
abbrev pub as_word : Value → (Kind → ℕ → Left) → Left
as_word (Plain kind words) k = one_word words (k kind)
as_word (Managed q) k = Stuck

-- a reference
abbrev pub as_reference : Value → (ℕ → Left) → Left
as_reference v k = as_word v (λ kind w. if is_reference_word kind then k w else Stuck)

abbrev pub as_pointer : Value → (Pointer → Left) → Left
as_pointer (Plain kind words) k = Stuck
as_pointer (Managed q) k = k q

abbrev pub not_null : ℕ → (bad good : Left) → Left
not_null w bad good = if w == 0 then bad else good

-- a reference that is an object's number
abbrev pub as_object : ℕ → Left → Left
as_object w left = if nat_lt w strings_from then left else Stuck

-- What places keep --------------------------------------------------------

-- the words that a place of the type keeps of a value that fits it
abbrev pub keeps : Program → TExpr → Value → (List ℕ → Left) → Left
keeps p t (Plain kind words) k = if same_kind kind (kind_of p t) && (length words == words_of p t) then k (kept t words) else Stuck
keeps p t (Managed q) k = Stuck

-- what a parameter or a local keeps of a value that fits it
abbrev pub fits_place : Program → PType → Value → (Value → Left) → Left
fits_place p (ptype.Value t) v k = keeps p t v (λ words. k (Plain (kind_of p t) words))
fits_place p (ptype.Pointer t) v k = as_pointer v (λ q. k (Managed q))
fits_place p ptype.Native v k = as_word v (λ kind w. if same_kind kind Native then k (Plain Native (w ∷ [])) else Stuck)

abbrev pub fits_places : Program → List PType → List Value → (List Value → Left) → Left
fits_places p [] [] k = k []
fits_places p [] (v ∷ vs) k = Stuck
fits_places p (t ∷ ts) [] k = Stuck
fits_places p (t ∷ ts) (v ∷ vs) k = fits_place p t v (λ u. fits_places p ts vs (λ us. k (u ∷ us)))

-- Words of the store ------------------------------------------------------

-- the word of an object or of a type that lies so many words on
abbrev pub next_place : Place → Place
next_place (at.Object object index) = at.Object object (suc index)
next_place (at.Fixed kind index) = at.Fixed kind (suc index)

-- so many words in ascending order; other threads may come between
abbrev pub loads : ℕ → Place → (List ℕ → Left) → Left
loads zero place k = k []
loads (suc n) place k = Ask (ask.Load place) (on_word (λ w. loads n (next_place place) (λ ws. k (w ∷ ws))))

abbrev pub saves : List ℕ → Place → Left → Left
saves [] place left = left
saves (w ∷ ws) place left = Ask (ask.Save place w) (on_done (saves ws (next_place place) left))

-- Pointers ----------------------------------------------------------------

-- the words of a value that stands in a frame
abbrev pub words_in : Value → (List ℕ → Left) → Left
words_in (Plain kind words) k = k words
words_in (Managed q) k = Stuck

-- so many of the words from this one on, if there are as many
abbrev pub cuts : List ℕ → ℕ → ℕ → (List ℕ → Left) → Left
cuts words i n k = if nat_le (i + n) (length words) then k (cut words i n) else Stuck

abbrev pub splices : List ℕ → ℕ → List ℕ → (List ℕ → Left) → Left
splices words i new k = if nat_le (i + length new) (length words) then k (spliced words i new) else Stuck

-- so many words from where a pointer leads; a pointer into a frame makes no request
abbrev pub reads : List Places → Pointer → ℕ → (null : Left) → (List ℕ → Left) → Left
reads pl Null n null k = null
reads pl (InFrame level place word) n null k = given (places_at pl level) (λ p. given (slice_get p.held place) (λ v. words_in v (λ words. cuts words word n k)))
reads pl (InFresh level word) n null k = given (places_at pl level) (λ p. cuts p.fresh word n k)
reads pl (InObject object index) n null k = loads n (at.Object object index) k
reads pl (InStatic kind index) n null k = loads n (at.Fixed kind index) k

-- the value of a frame's place with other words, of the kind that it had
abbrev pub written_in : Value → ℕ → List ℕ → (Value → Left) → Left
written_in (Plain kind words) word new k = splices words word new (λ ws. k (Plain kind ws))
written_in (Managed q) word new k = Stuck

-- puts words where a pointer leads
abbrev pub writes : List Places → Pointer → List ℕ → (null : Left) → (List Places → Left) → Left
writes pl Null new null k = null
writes pl (InFrame level place word) new null k = given (places_at pl level) (λ p. given (slice_get p.held place) (λ v. written_in v word new (λ u. k (with_places pl level (with_held p place u)))))
writes pl (InFresh level word) new null k = given (places_at pl level) (λ p. splices p.fresh word new (λ ws. k (with_places pl level (with_fresh p ws))))
writes pl (InObject object index) new null k = saves new (at.Object object index) (k pl)
writes pl (InStatic kind index) new null k = saves new (at.Fixed kind index) (k pl)

-- Strings and exact types -------------------------------------------------

-- a string word: a literal of the program, or the name of a type
abbrev pub as_string : Program → ℕ → Left → Left
as_string p w left =
    if nat_lt w names_from then (if nat_lt (w - strings_from) (length p.literals) then left else Stuck)
    else Spell (w - names_from) (λ t. left)

-- the exact type of what a reference refers to: string, or the type with a number
pub data Exact : Type 0 where
  Text : Exact
  Numbered : ℕ → Exact

-- The exact type of a reference that is not null. A string word makes no request.
abbrev pub types : Program → ℕ → (Exact → Left) → Left
types p w k = if nat_lt w strings_from then Ask (ask.TypeOf w) (on_kind (λ v. k (Numbered v))) else as_string p w (k Text)

-- the type itself
abbrev pub spells : Exact → (TExpr → Left) → Left
spells Text k = k (plain 1)
spells (Numbered v) k = Spell v k
