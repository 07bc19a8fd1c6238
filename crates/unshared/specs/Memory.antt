-- Words of the store, read and written, and exact types. Only private contracts cite it.
use Rattle.std.specs.Prelude.{ℕ, zero, suc, ◌-◌, nat_lt, if◌then◌else◌, List, [], ◌∷◌, ◌++◌, length, Option, Some, None, Ok, slice_get}
use Rattle.type_tree.specs.declared.tree.TExpr.{TExpr}
use Rattle.il_model.specs.declared.program.Program.{Program}
use Rattle.il_model.specs.Library.{plain}
use Rattle.store_object.specs.declared.place.Place.{Place}
use Rattle.store_object.specs.declared.place.Place.TheVariants as at
use Rattle.store_object.specs.declared.request.Request.TheVariants as ask
use Rattle.cil_meaning.specs.Values.{Pointer, Null, InFrame, InFresh, InObject, InStatic}
use Rattle.cil_meaning.specs.Naming.{strings_from, names_from}
use Rattle.cil_meaning.specs.Frames.{Places}
use Rattle.cil_meaning.specs.Pieces.{Exact, Text, Numbered, next_place}
use Rattle.unshared.specs.Silent.{Silent, stuck, named, where_so}
use Rattle.unshared.specs.Kept.{held_part, fresh_part, with_words, with_built}
use Rattle.unshared.specs.Talk.{Talk, ◌>>=◌, ◌>>◌, pure, say, asks_word, asks_kind, asks_done}

-- so many words from a place of the store on, in ascending order, behind those found
unfoldable pub loads_from : ℕ → Place → List ℕ → Talk (List ℕ)
loads_from zero place found = pure found
loads_from (suc n) place found = asks_word (ask.Load place) >>= (λ w. loads_from n (next_place place) (found ++ w ∷ []))

unfoldable pub saves_all : List ℕ → Place → Talk (Unit {0})
saves_all [] place = pure tt
saves_all (w ∷ ws) place = asks_done (ask.Save place w) >> saves_all ws (next_place place)

-- so many words from where a pointer leads that isn't null
abbrev pub reads_at : List Places → Pointer → ℕ → Talk (List ℕ)
reads_at pl Null n = say stuck
reads_at pl (InFrame level place word) n = say (held_part pl level place word n)
reads_at pl (InFresh level word) n = say (fresh_part pl level word n)
reads_at pl (InObject object index) n = loads_from n (at.Object object index) []
reads_at pl (InStatic kind index) n = loads_from n (at.Fixed kind index) []

-- what the places hold after words were put where a pointer leads that isn't null
unfoldable pub saved : List ℕ → Place → List Places → Talk (List Places)
saved new place pl = saves_all new place >> pure pl

abbrev pub writes_at : List Places → Pointer → List ℕ → Talk (List Places)
writes_at pl Null new = say stuck
writes_at pl (InFrame level place word) new = say (with_words pl level place word new)
writes_at pl (InFresh level word) new = say (with_built pl level word new)
writes_at pl (InObject object index) new = saved new (at.Object object index) pl
writes_at pl (InStatic kind index) new = saved new (at.Fixed kind index) pl

-- Strings and exact types. ------------------------------------------------

abbrev pub named_there : Option TExpr → Silent (Unit {0})
named_there None = named None
named_there (Some t) = Ok tt

-- a string word, where these types have numbers
unfoldable pub string_of : Program → List TExpr → ℕ → Silent (Unit {0})
string_of p kinds w =
    if nat_lt w names_from then where_so (nat_lt (w - strings_from) (length p.literals)) (Ok tt)
    else named_there (slice_get kinds (w - names_from))

-- the exact type of what a reference refers to
unfoldable pub exact_of : Program → List TExpr → ℕ → Talk Exact
exact_of p kinds w =
    if nat_lt w strings_from then asks_kind (ask.TypeOf w) >>= (λ v. pure (Numbered v))
    else say (string_of p kinds w) >> pure Text

-- the type itself
abbrev pub type_of : List TExpr → Exact → Silent TExpr
type_of kinds Text = Ok (plain 1)
type_of kinds (Numbered v) = named (slice_get kinds v)
