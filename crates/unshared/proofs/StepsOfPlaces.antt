-- Words where pointers lead, owners of fields and fields, as steps of an instruction.
use Rattle.std.proofs.Common.{ℕ, ◌+◌, ◌==◌, Bool, true, false, nat_le, List, length, Option, Some, None, Ok, Err, if◌then◌else◌, slice_get, refl}
use Rattle.std.specs.Prelude.{⊤}
use Rattle.type_tree.specs.declared.tree.TExpr.{TExpr}
use Rattle.il_model.specs.declared.program.Program.{Program}
use Rattle.il_model.specs.declared.member.FRef.{FRef}
use Rattle.il_model.specs.Entries.{field_type}
use Rattle.il_model.specs.Found.{field_found}
use Rattle.interaction.specs.Process.{Naming, Stuck}
use Rattle.store_object.specs.declared.place.Place.TheVariants as at
use Rattle.cil_meaning.specs.Naming.{Mention, put_type}
use Rattle.cil_meaning.specs.Frames.{Places, places_at, with_places, with_held, with_fresh}
use Rattle.cil_meaning.specs.Members.{as_owner}
use Rattle.cil_meaning.specs.Pieces.{given, one_word, not_null, as_object, words_in, cuts, splices, written_in, reads, writes}
use Rattle.cil_meaning.specs.Replies.{Left}
use Rattle.cil_meaning.specs.Site.{Site}
use Rattle.cil_meaning.specs.Values.{Pointer, Null, InFrame, InFresh, InObject, InStatic, Value, Plain, Managed, is_reference_word, shifted}
use Rattle.cil_meaning.specs.Words.{cut, spliced}
use Rattle.unshared.specs.declared.frames.Frames.{Frames as FramesHere}
use Rattle.unshared.specs.declared.pause.Halt.TheVariants as halt
use Rattle.unshared.specs.Going.{Did}
use Rattle.unshared.specs.Kept.{all_words, part_of, changed, held_part, fresh_part, value_with, with_words, with_built}
use Rattle.unshared.specs.Memory.{saves_all, reads_at, saved, writes_at}
use Rattle.unshared.specs.Named.{FieldSeen, field_here}
use Rattle.unshared.specs.Operands.{only, object_of}
use Rattle.unshared.specs.Owners.{owner_word, owner_of}
use Rattle.unshared.specs.Silent.{there}
use Rattle.unshared.specs.Talk.{Talk, ◌>>=◌, say, pure}
use Rattle.unshared.proofs.Doing.{Does, does_stuck}
use Rattle.unshared.proofs.Muting.{Mute, mute_bind, mute_there}
use Rattle.unshared.proofs.MuteOperands.{mute_test}
use Rattle.unshared.proofs.Sayings.{after}
use Rattle.unshared.proofs.Steps.{both, silently, silent_both, look, one_of, object, load, save}

-- Words. ---------------------------------------------------------------------

pub mute_all : (v : Value) → Mute (words_in v) (all_words v)
mute_all (Plain kind words) = record { met = λ k. refl }
mute_all (Managed q) = record { met = λ k. refl }

pub mute_part : (words : List ℕ) (i n : ℕ) → Mute (cuts words i n) (part_of words i n)
unfolding part_of
mute_part words i n = mute_test (nat_le (i + n) (length words)) (cut words i n)

mute_changed : (words : List ℕ) (i : ℕ) (new : List ℕ) → Mute (splices words i new) (changed words i new)
unfolding changed
mute_changed words i new = mute_test (nat_le (i + length new) (length words)) (spliced words i new)

mute_with : (v : Value) (i : ℕ) (new : List ℕ) → Mute (written_in v i new) (value_with v i new)
unfolding value_with
mute_with (Plain kind words) i new = mute_bind (splices words i new) (λ ws k. k (Plain kind ws)) (changed words i new) (λ ws. Ok (Plain kind ws)) (mute_changed words i new) (λ ws. record { met = λ k. refl })
mute_with (Managed q) i new = record { met = λ k. refl }

mute_held : (pl : List Places) (level place i n : ℕ) → Mute (λ k. given (places_at pl level) (λ p. given (slice_get p.held place) (λ v. words_in v (λ words. cuts words i n k)))) (held_part pl level place i n)
unfolding held_part
mute_held pl level place i n =
    mute_bind (given (places_at pl level)) (λ p k. given (slice_get p.held place) (λ v. words_in v (λ words. cuts words i n k))) (there (places_at pl level)) _ (mute_there (places_at pl level))
    (λ p. mute_bind (given (slice_get p.held place)) (λ v k. words_in v (λ words. cuts words i n k)) (there (slice_get p.held place)) _ (mute_there (slice_get p.held place))
    (λ v. mute_bind (words_in v) (λ words k. cuts words i n k) (all_words v) _ (mute_all v) (λ words. mute_part words i n)))

mute_fresh : (pl : List Places) (level i n : ℕ) → Mute (λ k. given (places_at pl level) (λ p. cuts p.fresh i n k)) (fresh_part pl level i n)
unfolding fresh_part
mute_fresh pl level i n = mute_bind (given (places_at pl level)) (λ p k. cuts p.fresh i n k) (there (places_at pl level)) _ (mute_there (places_at pl level)) (λ p. mute_part p.fresh i n)

mute_words : (pl : List Places) (level place i : ℕ) (new : List ℕ) → Mute (λ k. given (places_at pl level) (λ p. given (slice_get p.held place) (λ v. written_in v i new (λ u. k (with_places pl level (with_held p place u)))))) (with_words pl level place i new)
unfolding with_words
mute_words pl level place i new =
    mute_bind (given (places_at pl level)) (λ p k. given (slice_get p.held place) (λ v. written_in v i new (λ u. k (with_places pl level (with_held p place u))))) (there (places_at pl level)) _ (mute_there (places_at pl level))
    (λ p. mute_bind (given (slice_get p.held place)) (λ v k. written_in v i new (λ u. k (with_places pl level (with_held p place u)))) (there (slice_get p.held place)) _ (mute_there (slice_get p.held place))
    (λ v. mute_bind (written_in v i new) (λ u k. k (with_places pl level (with_held p place u))) (value_with v i new) _ (mute_with v i new) (λ u. record { met = λ k. refl })))

mute_built : (pl : List Places) (level i : ℕ) (new : List ℕ) → Mute (λ k. given (places_at pl level) (λ p. splices p.fresh i new (λ ws. k (with_places pl level (with_fresh p ws))))) (with_built pl level i new)
unfolding with_built
mute_built pl level i new =
    mute_bind (given (places_at pl level)) (λ p k. splices p.fresh i new (λ ws. k (with_places pl level (with_fresh p ws)))) (there (places_at pl level)) _ (mute_there (places_at pl level))
    (λ p. mute_bind (splices p.fresh i new) (λ ws k. k (with_places pl level (with_fresh p ws))) (changed p.fresh i new) _ (mute_changed p.fresh i new) (λ ws. record { met = λ k. refl }))

-- Where a pointer leads that isn't null. -------------------------------------

abbrev pub Leads : Pointer → Type 0
Leads Null = ⊥
Leads (InFrame level place word) = ⊤
Leads (InFresh level word) = ⊤
Leads (InObject object index) = ⊤
Leads (InStatic kind index) = ⊤

pub shifted_leads : (q : Pointer) (n : ℕ) → Leads q → Leads (shifted q n)
shifted_leads Null n e = e
shifted_leads (InFrame level place word) n e = tt
shifted_leads (InFresh level word) n e = tt
shifted_leads (InObject object index) n e = tt
shifted_leads (InStatic kind index) n e = tt

pub read : {n : Naming Mention TExpr} {p : Program} {s : Site} (bad : Left) (next : List ℕ → Left) (v : List ℕ → Talk Did) (pl : List Places) (q : Pointer) (count : ℕ) → Leads q → ((ws : List ℕ) → Does n p s (next ws) (v ws)) →
    Does n p s (reads pl q count bad next) (reads_at pl q count >>= v)
read bad next v pl Null count e more = absurd e
read bad next v pl (InFrame level place i) count e more = silently (λ k. reads pl (InFrame level place i) count bad k) (mute_held pl level place i count) more
read bad next v pl (InFresh level i) count e more = silently (λ k. reads pl (InFresh level i) count bad k) (mute_fresh pl level i count) more
read bad next v pl (InObject object index) count e more = load count (at.Object object index) more
read bad next v pl (InStatic kind index) count e more = load count (at.Fixed kind index) more

pub write : {n : Naming Mention TExpr} {p : Program} {s : Site} (bad : Left) (next : List Places → Left) (v : List Places → Talk Did) (pl : List Places) (q : Pointer) (words : List ℕ) → Leads q → ((new : List Places) → Does n p s (next new) (v new)) →
    Does n p s (writes pl q words bad next) (writes_at pl q words >>= v)
unfolding saved
write bad next v pl Null words e more = absurd e
write bad next v pl (InFrame level place i) words e more = silently (λ k. writes pl (InFrame level place i) words bad k) (mute_words pl level place i words) more
write bad next v pl (InFresh level i) words e more = silently (λ k. writes pl (InFresh level i) words bad k) (mute_built pl level i words) more
write bad next v pl (InObject object index) words e more = both (saves_all words (at.Object object index)) (λ u. pure pl) v (save _ words (at.Object object index) (more pl))
write bad next v pl (InStatic kind index) words e more = both (saves_all words (at.Fixed kind index)) (λ u. pure pl) v (save _ words (at.Fixed kind index) (more pl))

-- Owners of fields. ------------------------------------------------------------

owner_zero : {n : Naming Mention TExpr} {p : Program} {s : Site} (bad : Left) (by : Pointer → Left) (g : Option Pointer → Talk Did) (b : Bool) (w : ℕ) → Does n p s bad (g None) → Does n p s (by (InObject w 0)) (g (Some (InObject w 0))) →
    Does n p s (if b then bad else as_object w (by (InObject w 0))) (say (if b then Ok None else after (object_of w) (λ o. Ok (Some (InObject o 0)))) >>= g)
owner_zero bad by g true w none some = record { meets = none.meets }
owner_zero bad by g false w none some = silent_both (object_of w) (λ o. Ok (Some (InObject o 0))) g (object _ w (record { meets = some.meets }))

owner_by : {n : Naming Mention TExpr} {p : Program} {s : Site} (bad : Left) (by : Pointer → Left) (g : Option Pointer → Talk Did) (w : ℕ) → Does n p s bad (g None) → Does n p s (by (InObject w 0)) (g (Some (InObject w 0))) →
    Does n p s (not_null w bad (as_object w (by (InObject w 0)))) (say (owner_word w) >>= g)
unfolding owner_word
owner_by bad by g w none some = owner_zero bad by g (w == 0) w none some

owner_plain_by : {n : Naming Mention TExpr} {p : Program} {s : Site} (bad : Left) (by : Pointer → Left) (g : Option Pointer → Talk Did) (b : Bool) (words : List ℕ) → Does n p s bad (g None) → ((q : Pointer) → Leads q → Does n p s (by q) (g (Some q))) →
    Does n p s (if b then one_word words (λ w. not_null w bad (as_object w (by (InObject w 0)))) else Stuck) (say (if b then after (only words) owner_word else Err halt.Stuck) >>= g)
owner_plain_by bad by g true words none some = silent_both (only words) owner_word g (one_of words (λ w. owner_by bad by g w none (some (InObject w 0) tt)))
owner_plain_by {n = n} {p = p} {s = s} bad by g false words none some = record { meets = (does_stuck n p s).meets }

pub owner : {n : Naming Mention TExpr} {p : Program} {s : Site} (bad : Left) (by : Pointer → Left) (g : Option Pointer → Talk Did) (u : Value) → Does n p s bad (g None) → ((q : Pointer) → Leads q → Does n p s (by q) (g (Some q))) →
    Does n p s (as_owner u bad by) (say (owner_of u) >>= g)
unfolding owner_of
owner bad by g (Plain kind words) none some = owner_plain_by bad by g (is_reference_word kind) words none some
owner bad by g (Managed Null) none some = record { meets = none.meets }
owner bad by g (Managed (InFrame level place word)) none some = record { meets = (some (InFrame level place word) tt).meets }
owner bad by g (Managed (InFresh level word)) none some = record { meets = (some (InFresh level word) tt).meets }
owner bad by g (Managed (InObject object index)) none some = record { meets = (some (InObject object index) tt).meets }
owner bad by g (Managed (InStatic kind index)) none some = record { meets = (some (InStatic kind index) tt).meets }

-- A field that an instruction names. --------------------------------------------

pub field : {n : Naming Mention TExpr} {p : Program} {s : Site} (next : ℕ → Left) (v : FieldSeen → Talk Did) (here : Program) (f : FramesHere) (named : FRef) →
    ((place : ℕ) → Does n p s (next place) (v (record { class = put_type f.top.method named.class; kind = put_type f.top.method (field_type named); place = place }))) →
    Does n p s (given (field_found here named) next) (say (field_here here f named) >>= v)
unfolding field_here
field next v here f named more = silent_both (there (field_found here named)) (λ place. Ok (record { class = put_type f.top.method named.class; kind = put_type f.top.method (field_type named); place = place })) v
    (look (field_found here named) (λ place e. record { meets = (more place).meets }))
