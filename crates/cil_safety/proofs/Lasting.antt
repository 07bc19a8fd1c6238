-- A thread is over only by a request that ends it, or the run: no instruction leaves nothing otherwise.
use Rattle.std.proofs.Common.{◌≡◌, ◌⊎◌, inl, inr, ℕ, zero, suc, Bool, true, false, List, [], ◌∷◌, Option, Some, None, refl}
use Rattle.std.specs.Prelude.{if◌then◌else◌, ◌==◌, ◌&&◌, ◌+◌, ◌-◌, nat_lt, nat_le, length, slice_get}
use Rattle.interaction.specs.Process.{Next, Settle, Spell, Ask, Over, Stuck}
use Rattle.store_object.specs.declared.request.Request.{Request}
use Rattle.store_object.specs.declared.request.Request.TheVariants as ask
use Rattle.store_object.specs.declared.reply.Reply.{Reply}
use Rattle.store_object.specs.declared.reply.Reply.TheVariants as says
use Rattle.type_tree.specs.declared.tree.TExpr.{TExpr}
use Rattle.il_model.specs.declared.program.Program.{Program}
use Rattle.il_model.specs.declared.method.PType.{PType}
use Rattle.il_model.specs.declared.method.Sort.{Sort}
use Rattle.il_model.specs.declared.method.Clause.{Clause}
use Rattle.il_model.specs.declared.layout.MethodTree.{MethodTree}
use Rattle.il_model.specs.declared.layout.Limit.{Limit}
use Rattle.il_model.specs.declared.entry.Entry.{Entry}
use Rattle.il_model.specs.Layouts.{words_of}
use Rattle.il_model.specs.Library.{plain}
use Rattle.il_model.specs.Methods.{limit_of_entry}
use Rattle.store_object.specs.declared.request.Cause.{Cause}
use Rattle.store_object.specs.declared.place.Place.{Place}
use Rattle.cil_meaning.specs.Values.{Kind, Native, Pointer, Null, InFrame, InFresh, InObject, InStatic, Value, Plain, Managed, is_reference_word, same_kind}
use Rattle.cil_meaning.specs.Frames.{Frame, Places, places_at, with_places, with_held, with_fresh, outer}
use Rattle.cil_meaning.specs.Naming.{OfEntry, OfClause, put_type, put_entry, strings_from, names_from}
use Rattle.cil_meaning.specs.Types.{kind_of, kept, passes_as}
use Rattle.cil_meaning.specs.Pieces.{given, pops, takes, one_word, as_word, as_reference, as_pointer, not_null, as_object, keeps, fits_place, fits_places, next_place, loads, saves, words_in, cuts, splices, reads, written_in, writes, as_string, Exact, Text, Numbered, types, spells}
use Rattle.cil_meaning.specs.Words.{cut, spliced}
use Rattle.cil_meaning.specs.Mentions.{cause_of, within, settles_all}
use Rattle.cil_meaning.specs.Search.{Thrown, covers, clauses_of, handled, tests, tries_all, searches}
use Rattle.cil_meaning.specs.Site.{Site, frames_of, throws}
use Rattle.il_model.specs.declared.method.PType.TheVariants as ptype
use Rattle.il_model.specs.declared.method.Sort.TheVariants as sort
use Rattle.il_model.specs.declared.entry.Entry.TheVariants as entry
use Rattle.store_object.specs.declared.place.Place.TheVariants as at
use Rattle.cil_meaning.specs.Replies.{Left, on_object, on_kind, on_word, on_thread, on_ended, on_done, on_stopped}

-- the request with its reply ends the thread, or the run
pub data Ends : Request → Reply → Type 0 where
  finishes : Ends ask.Finish says.Done
  falls : {kind : ℕ} → Ends (ask.Fall kind) says.Done
  stops : {r : Request} {why : Cause} → Ends r (says.Stopped why)

-- what is left is over only by such a request
abbrev pub Lasts : Left → Type 0
Lasts (Next f) = Unit {0}
Lasts (Settle m k) = (v : ℕ) → Lasts (k v)
Lasts (Spell i k) = (t : TExpr) → Lasts (k t)
Lasts (Ask r k) = (y : Reply) → (Ends r y × (k y ≡ Over)) ⊎ Lasts (k y)
Lasts Over = ⊥
Lasts Stuck = Unit {0}

-- ---- replies

pub object_lasts : (r : Request) (k : ℕ → Left) → ((o : ℕ) → Lasts (k o)) → Lasts (Ask r (on_object k))
object_lasts r k go = by_reply
  where
    by_reply : (y : Reply) → (Ends r y × (on_object k y ≡ Over)) ⊎ Lasts (on_object k y)
    by_reply (says.Object o) = inr (go o)
    by_reply (says.Kind o) = inr tt
    by_reply (says.Word o) = inr tt
    by_reply (says.Thread o) = inr tt
    by_reply (says.Ended b) = inr tt
    by_reply says.Unknown = inr tt
    by_reply says.Done = inr tt
    by_reply (says.Stopped why) = inl (stops, refl)
    by_reply says.Halted = inr tt
    by_reply says.Improper = inr tt

pub kind_lasts : (r : Request) (k : ℕ → Left) → ((o : ℕ) → Lasts (k o)) → Lasts (Ask r (on_kind k))
kind_lasts r k go = by_reply
  where
    by_reply : (y : Reply) → (Ends r y × (on_kind k y ≡ Over)) ⊎ Lasts (on_kind k y)
    by_reply (says.Object o) = inr tt
    by_reply (says.Kind o) = inr (go o)
    by_reply (says.Word o) = inr tt
    by_reply (says.Thread o) = inr tt
    by_reply (says.Ended b) = inr tt
    by_reply says.Unknown = inr tt
    by_reply says.Done = inr tt
    by_reply (says.Stopped why) = inr tt
    by_reply says.Halted = inr tt
    by_reply says.Improper = inr tt

pub word_lasts : (r : Request) (k : ℕ → Left) → ((o : ℕ) → Lasts (k o)) → Lasts (Ask r (on_word k))
word_lasts r k go = by_reply
  where
    by_reply : (y : Reply) → (Ends r y × (on_word k y ≡ Over)) ⊎ Lasts (on_word k y)
    by_reply (says.Object o) = inr tt
    by_reply (says.Kind o) = inr tt
    by_reply (says.Word o) = inr (go o)
    by_reply (says.Thread o) = inr tt
    by_reply (says.Ended b) = inr tt
    by_reply says.Unknown = inr tt
    by_reply says.Done = inr tt
    by_reply (says.Stopped why) = inr tt
    by_reply says.Halted = inr tt
    by_reply says.Improper = inr tt

pub thread_lasts : (r : Request) (k : ℕ → Left) → ((o : ℕ) → Lasts (k o)) → Lasts (Ask r (on_thread k))
thread_lasts r k go = by_reply
  where
    by_reply : (y : Reply) → (Ends r y × (on_thread k y ≡ Over)) ⊎ Lasts (on_thread k y)
    by_reply (says.Object o) = inr tt
    by_reply (says.Kind o) = inr tt
    by_reply (says.Word o) = inr tt
    by_reply (says.Thread o) = inr (go o)
    by_reply (says.Ended b) = inr tt
    by_reply says.Unknown = inr tt
    by_reply says.Done = inr tt
    by_reply (says.Stopped why) = inl (stops, refl)
    by_reply says.Halted = inr tt
    by_reply says.Improper = inr tt

pub ended_lasts : (r : Request) (a b' c : Left) → Lasts a → Lasts b' → Lasts c → Lasts (Ask r (on_ended a b' c))
ended_lasts r a b' c fa fb fc = by_reply
  where
    by_reply : (y : Reply) → (Ends r y × (on_ended a b' c y ≡ Over)) ⊎ Lasts (on_ended a b' c y)
    by_reply (says.Object o) = inr tt
    by_reply (says.Kind o) = inr tt
    by_reply (says.Word o) = inr tt
    by_reply (says.Thread o) = inr tt
    by_reply (says.Ended true) = inr fa
    by_reply (says.Ended false) = inr fb
    by_reply says.Unknown = inr fc
    by_reply says.Done = inr tt
    by_reply (says.Stopped why) = inr tt
    by_reply says.Halted = inr tt
    by_reply says.Improper = inr tt

pub done_lasts : (r : Request) (left : Left) → Lasts left → Lasts (Ask r (on_done left))
done_lasts r left go = by_reply
  where
    by_reply : (y : Reply) → (Ends r y × (on_done left y ≡ Over)) ⊎ Lasts (on_done left y)
    by_reply (says.Object o) = inr tt
    by_reply (says.Kind o) = inr tt
    by_reply (says.Word o) = inr tt
    by_reply (says.Thread o) = inr tt
    by_reply (says.Ended b) = inr tt
    by_reply says.Unknown = inr tt
    by_reply says.Done = inr go
    by_reply (says.Stopped why) = inr tt
    by_reply says.Halted = inr tt
    by_reply says.Improper = inr tt

pub stop_lasts : (r : Request) → Lasts (Ask r on_stopped)
stop_lasts r = by_reply
  where
    by_reply : (y : Reply) → (Ends r y × (on_stopped y ≡ Over)) ⊎ Lasts (on_stopped y)
    by_reply (says.Object o) = inr tt
    by_reply (says.Kind o) = inr tt
    by_reply (says.Word o) = inr tt
    by_reply (says.Thread o) = inr tt
    by_reply (says.Ended b) = inr tt
    by_reply says.Unknown = inr tt
    by_reply says.Done = inr tt
    by_reply (says.Stopped why) = inl (stops, refl)
    by_reply says.Halted = inr tt
    by_reply says.Improper = inr tt

pub finish_lasts : Lasts (Ask ask.Finish (on_done Over))
finish_lasts = by_reply
  where
    by_reply : (y : Reply) → (Ends ask.Finish y × (on_done Over y ≡ Over)) ⊎ Lasts (on_done Over y)
    by_reply (says.Object o) = inr tt
    by_reply (says.Kind o) = inr tt
    by_reply (says.Word o) = inr tt
    by_reply (says.Thread o) = inr tt
    by_reply (says.Ended b) = inr tt
    by_reply says.Unknown = inr tt
    by_reply says.Done = inl (finishes, refl)
    by_reply (says.Stopped why) = inr tt
    by_reply says.Halted = inr tt
    by_reply says.Improper = inr tt

pub fall_lasts : (kind : ℕ) → Lasts (Ask (ask.Fall kind) (on_done Over))
fall_lasts kind = by_reply
  where
    by_reply : (y : Reply) → (Ends (ask.Fall kind) y × (on_done Over y ≡ Over)) ⊎ Lasts (on_done Over y)
    by_reply (says.Object o) = inr tt
    by_reply (says.Kind o) = inr tt
    by_reply (says.Word o) = inr tt
    by_reply (says.Thread o) = inr tt
    by_reply (says.Ended b) = inr tt
    by_reply says.Unknown = inr tt
    by_reply says.Done = inl (falls, refl)
    by_reply (says.Stopped why) = inr tt
    by_reply says.Halted = inr tt
    by_reply says.Improper = inr tt

-- ---- pieces

pub if_lasts : (b : Bool) (x y : Left) → Lasts x → Lasts y → Lasts (if b then x else y)
if_lasts true x y f g = f
if_lasts false x y f g = g

pub given_lasts : {A : Type 0} (o : Option A) (k : A → Left) → ((a : A) → Lasts (k a)) → Lasts (given o k)
given_lasts None k go = tt
given_lasts (Some a) k go = go a

pub pops_lasts : (vs : List Value) (k : Value → List Value → Left) → ((v : Value) (us : List Value) → Lasts (k v us)) → Lasts (pops vs k)
pops_lasts [] k go = tt
pops_lasts (v ∷ vs) k go = go v vs

pub takes_lasts : (n : ℕ) (vs taken : List Value) (k : List Value → List Value → Left) → ((us ws : List Value) → Lasts (k us ws)) → Lasts (takes n vs taken k)
takes_lasts zero vs taken k go = go taken vs
takes_lasts (suc n) [] taken k go = tt
takes_lasts (suc n) (v ∷ vs) taken k go = takes_lasts n vs (v ∷ taken) k go

pub one_word_lasts : (ws : List ℕ) (k : ℕ → Left) → ((w : ℕ) → Lasts (k w)) → Lasts (one_word ws k)
one_word_lasts [] k go = tt
one_word_lasts (w ∷ []) k go = go w
one_word_lasts (w ∷ v ∷ ws) k go = tt

pub as_word_lasts : (v : Value) (k : Kind → ℕ → Left) → ((kind : Kind) (w : ℕ) → Lasts (k kind w)) → Lasts (as_word v k)
as_word_lasts (Plain kind words) k go = one_word_lasts words (k kind) (go kind)
as_word_lasts (Managed q) k go = tt

pub as_reference_lasts : (v : Value) (k : ℕ → Left) → ((w : ℕ) → Lasts (k w)) → Lasts (as_reference v k)
as_reference_lasts v k go = as_word_lasts v (λ kind w. if is_reference_word kind then k w else Stuck) (λ kind w. if_lasts (is_reference_word kind) (k w) Stuck (go w) tt)

pub as_pointer_lasts : (v : Value) (k : Pointer → Left) → ((q : Pointer) → Lasts (k q)) → Lasts (as_pointer v k)
as_pointer_lasts (Plain kind words) k go = tt
as_pointer_lasts (Managed q) k go = go q

pub not_null_lasts : (w : ℕ) (bad good : Left) → Lasts bad → Lasts good → Lasts (not_null w bad good)
not_null_lasts w bad good f g = if_lasts (w == 0) bad good f g

pub as_object_lasts : (w : ℕ) (left : Left) → Lasts left → Lasts (as_object w left)
as_object_lasts w left go = if_lasts (nat_lt w strings_from) left Stuck go tt

pub keeps_lasts : (p : Program) (t : TExpr) (v : Value) (k : List ℕ → Left) → ((ws : List ℕ) → Lasts (k ws)) → Lasts (keeps p t v k)
keeps_lasts p t (Plain kind words) k go = if_lasts (same_kind kind (kind_of p t) && (length words == words_of p t)) (k (kept t words)) Stuck (go (kept t words)) tt
keeps_lasts p t (Managed q) k go = tt

pub place_lasts : (p : Program) (t : PType) (v : Value) (k : Value → Left) → ((u : Value) → Lasts (k u)) → Lasts (fits_place p t v k)
place_lasts p (ptype.Value t) v k go = keeps_lasts p t v (λ words. k (Plain (kind_of p t) words)) (λ words. go (Plain (kind_of p t) words))
place_lasts p (ptype.Pointer t) v k go = as_pointer_lasts v (λ q. k (Managed q)) (λ q. go (Managed q))
place_lasts p ptype.Native v k go = as_word_lasts v (λ kind w. if same_kind kind Native then k (Plain Native (w ∷ [])) else Stuck) (λ kind w. if_lasts (same_kind kind Native) (k (Plain Native (w ∷ []))) Stuck (go (Plain Native (w ∷ []))) tt)

pub places_last : (p : Program) (ts : List PType) (vs : List Value) (k : List Value → Left) → ((us : List Value) → Lasts (k us)) → Lasts (fits_places p ts vs k)
places_last p [] [] k go = go []
places_last p [] (v ∷ vs) k go = tt
places_last p (t ∷ ts) [] k go = tt
places_last p (t ∷ ts) (v ∷ vs) k go = place_lasts p t v (λ u. fits_places p ts vs (λ us. k (u ∷ us))) (λ u. places_last p ts vs (λ us. k (u ∷ us)) (λ us. go (u ∷ us)))

pub loads_last : (n : ℕ) (place : Place) (k : List ℕ → Left) → ((ws : List ℕ) → Lasts (k ws)) → Lasts (loads n place k)
loads_last zero place k go = go []
loads_last (suc n) place k go = word_lasts (ask.Load place) (λ w. loads n (next_place place) (λ ws. k (w ∷ ws))) (λ w. loads_last n (next_place place) (λ ws. k (w ∷ ws)) (λ ws. go (w ∷ ws)))

pub saves_last : (ws : List ℕ) (place : Place) (left : Left) → Lasts left → Lasts (saves ws place left)
saves_last [] place left go = go
saves_last (w ∷ ws) place left go = done_lasts (ask.Save place w) (saves ws (next_place place) left) (saves_last ws (next_place place) left go)

pub words_in_last : (v : Value) (k : List ℕ → Left) → ((ws : List ℕ) → Lasts (k ws)) → Lasts (words_in v k)
words_in_last (Plain kind words) k go = go words
words_in_last (Managed q) k go = tt

pub cuts_last : (words : List ℕ) (i n : ℕ) (k : List ℕ → Left) → ((ws : List ℕ) → Lasts (k ws)) → Lasts (cuts words i n k)
cuts_last words i n k go = if_lasts (nat_le (i + n) (length words)) (k (cut words i n)) Stuck (go (cut words i n)) tt

pub splices_last : (words : List ℕ) (i : ℕ) (new : List ℕ) (k : List ℕ → Left) → ((ws : List ℕ) → Lasts (k ws)) → Lasts (splices words i new k)
splices_last words i new k go = if_lasts (nat_le (i + length new) (length words)) (k (spliced words i new)) Stuck (go (spliced words i new)) tt

pub reads_last : (pl : List Places) (q : Pointer) (n : ℕ) (null : Left) (k : List ℕ → Left) → Lasts null → ((ws : List ℕ) → Lasts (k ws)) → Lasts (reads pl q n null k)
reads_last pl Null n null k no' go = no'
reads_last pl (InFrame level place word) n null k no' go =
    given_lasts (places_at pl level) (λ (x : Places). given (slice_get x.held place) (λ v. words_in v (λ words. cuts words word n k)))
    (λ (x : Places). given_lasts (slice_get x.held place) (λ v. words_in v (λ words. cuts words word n k)) (λ v. words_in_last v (λ words. cuts words word n k) (λ words. cuts_last words word n k go)))
reads_last pl (InFresh level word) n null k no' go = given_lasts (places_at pl level) (λ (x : Places). cuts x.fresh word n k) (λ (x : Places). cuts_last x.fresh word n k go)
reads_last pl (InObject object index) n null k no' go = loads_last n (at.Object object index) k go
reads_last pl (InStatic kind index) n null k no' go = loads_last n (at.Fixed kind index) k go

pub written_last : (v : Value) (word : ℕ) (new : List ℕ) (k : Value → Left) → ((u : Value) → Lasts (k u)) → Lasts (written_in v word new k)
written_last (Plain kind words) word new k go = splices_last words word new (λ ws. k (Plain kind ws)) (λ ws. go (Plain kind ws))
written_last (Managed q) word new k go = tt

pub writes_last : (pl : List Places) (q : Pointer) (new : List ℕ) (null : Left) (k : List Places → Left) → Lasts null → ((pl' : List Places) → Lasts (k pl')) → Lasts (writes pl q new null k)
writes_last pl Null new null k no' go = no'
writes_last pl (InFrame level place word) new null k no' go =
    given_lasts (places_at pl level) (λ (x : Places). given (slice_get x.held place) (λ v. written_in v word new (λ u. k (with_places pl level (with_held x place u)))))
    (λ (x : Places). given_lasts (slice_get x.held place) (λ v. written_in v word new (λ u. k (with_places pl level (with_held x place u)))) (λ v. written_last v word new (λ u. k (with_places pl level (with_held x place u))) (λ u. go (with_places pl level (with_held x place u)))))
writes_last pl (InFresh level word) new null k no' go =
    given_lasts (places_at pl level) (λ (x : Places). splices x.fresh word new (λ ws. k (with_places pl level (with_fresh x ws)))) (λ (x : Places). splices_last x.fresh word new (λ ws. k (with_places pl level (with_fresh x ws))) (λ ws. go (with_places pl level (with_fresh x ws))))
writes_last pl (InObject object index) new null k no' go = saves_last new (at.Object object index) (k pl) (go pl)
writes_last pl (InStatic kind index) new null k no' go = saves_last new (at.Fixed kind index) (k pl) (go pl)

pub string_lasts : (p : Program) (w : ℕ) (left : Left) → Lasts left → Lasts (as_string p w left)
string_lasts p w left go =
    if_lasts (nat_lt w names_from) (if nat_lt (w - strings_from) (length p.literals) then left else Stuck) (Spell (w - names_from) (λ t. left))
    (if_lasts (nat_lt (w - strings_from) (length p.literals)) left Stuck go tt) (λ t. go)

pub types_last : (p : Program) (w : ℕ) (k : Exact → Left) → ((e : Exact) → Lasts (k e)) → Lasts (types p w k)
types_last p w k go =
    if_lasts (nat_lt w strings_from) (Ask (ask.TypeOf w) (on_kind (λ v. k (Numbered v)))) (as_string p w (k Text))
    (kind_lasts (ask.TypeOf w) (λ v. k (Numbered v)) (λ v. go (Numbered v))) (string_lasts p w (k Text) (go Text))

pub spells_last : (e : Exact) (k : TExpr → Left) → ((t : TExpr) → Lasts (k t)) → Lasts (spells e k)
spells_last Text k go = go (plain 1)
spells_last (Numbered v) k go = go

-- ---- mentions, and the search

pub within_lasts : (o : Option Limit) (left : Left) → Lasts left → Lasts (within o left)
within_lasts None left go = go
within_lasts (Some l) left go = stop_lasts (ask.Stop (cause_of l))

module _ (p : Program) where
  pub all_settled : (m : MethodTree) (es : List Entry) (k : List ℕ → Left) → ((vs : List ℕ) → Lasts (k vs)) → Lasts (settles_all p m es k)
  all_settled m [] k go = go []
  all_settled m (e ∷ es) k go = within_lasts (limit_of_entry p (put_entry m e)) (Settle (OfEntry m e) (λ v. settles_all p m es (λ vs. k (v ∷ vs)))) (λ v. all_settled m es (λ vs. k (v ∷ vs)) (λ vs. go (v ∷ vs)))

  pub clause_lasts : (x : Thrown) (f : Frame) (fs : List Frame) (pl : List Places) (c : Clause) (s : Sort) (rest : Left) → Lasts rest → Lasts (tests p x f fs pl c s rest)
  clause_lasts x f fs pl c (sort.Catch t) rest go =
      within_lasts (limit_of_entry p (put_entry f.method (entry.Kind t))) (Settle (OfClause f.method (entry.Kind t)) (λ v. Spell x.kind (λ exact. if passes_as p exact (put_type f.method t) then handled x f fs pl c.handler else rest)))
      (λ v exact. if_lasts (passes_as p exact (put_type f.method t)) (handled x f fs pl c.handler) rest tt go)
  clause_lasts x f fs pl c sort.Finally rest go = tt

  pub clauses_last : (x : Thrown) (f : Frame) (fs : List Frame) (pl : List Places) (cs : List Clause) (rest : Left) → Lasts rest → Lasts (tries_all p x f fs pl cs rest)
  clauses_last x f fs pl [] rest go = go
  clauses_last x f fs pl (c ∷ cs) rest go =
      let more = clauses_last x f fs pl cs rest go in
      if_lasts (covers c f.at) (tests p x f fs pl c c.sort (tries_all p x f fs pl cs rest)) (tries_all p x f fs pl cs rest) (clause_lasts x f fs pl c c.sort (tries_all p x f fs pl cs rest) more) more

  pub search_lasts : (x : Thrown) (fs : List Frame) (pl : List Places) → Lasts (searches p x fs pl)
  search_lasts x [] pl = fall_lasts x.kind
  search_lasts x (f ∷ fs) pl = clauses_last x f fs pl (clauses_of p f.method) (searches p x fs (outer pl)) (search_lasts x fs (outer pl))

  module _ (s : Site) where
    pub throw_lasts : (class : ℕ) → Lasts (throws p s class)
    throw_lasts class v = object_lasts (ask.Alloc v 0 0) (λ o. searches p (record { object = o; kind = v }) (frames_of s).frames s.places) (λ o. search_lasts (record { object = o; kind = v }) (frames_of s).frames s.places)
