-- Steps of an instruction, one behind another, against what it comes to.
use Rattle.std.proofs.Common.{◌≡◌, ◌∙◌, ℕ, suc, ◌+◌, Bool, true, false, ◌&&◌, List, [], ◌∷◌, drop, length, Option, Some, None, Ok, Err, if◌then◌else◌, ◌==◌, nat_lt, slice_get, refl, sym, ap, add-one}
use Rattle.type_tree.specs.declared.tree.TExpr.{TExpr}
use Rattle.il_model.specs.declared.program.Program.{Program}
use Rattle.il_model.specs.declared.method.MethodDef.{MethodDef}
use Rattle.il_model.specs.Layouts.{words_of}
use Rattle.interaction.specs.Process.{Naming, Next, Stuck, Ask}
use Rattle.il_model.specs.declared.layout.Limit.{Limit}
use Rattle.store_object.specs.declared.place.Place.{Place}
use Rattle.store_object.specs.declared.request.Cause.{Cause}
use Rattle.store_object.specs.declared.request.Request.{Request}
use Rattle.store_object.specs.declared.request.Request.TheVariants as ask
use Rattle.store_object.specs.declared.reply.Reply.{Reply}
use Rattle.store_object.specs.declared.reply.Reply.TheVariants as says
use Rattle.cil_meaning.specs.Naming.{Mention, strings_from}
use Rattle.cil_meaning.specs.Frames.{Places}
use Rattle.cil_meaning.specs.Replies.{Left, on_object, on_kind, on_word, on_thread, on_done, on_stopped}
use Rattle.cil_meaning.specs.Values.{Kind, Pointer, Value, Plain, Managed, same_kind}
use Rattle.cil_meaning.specs.Types.{kind_of, kept}
use Rattle.cil_meaning.specs.Site.{Site, goes, goes_with}
use Rattle.cil_meaning.specs.LibraryCalls.{word_of_kind}
use Rattle.cil_meaning.specs.Mentions.{within, cause_of}
use Rattle.cil_meaning.specs.Pieces.{given, pops, as_reference, as_pointer, as_object, keeps, one_word, loads, saves}
use Rattle.unshared.specs.declared.frames.Frames.{Frames as FramesHere}
use Rattle.unshared.specs.Going.{Did, Goes, went, went_with}
use Rattle.unshared.specs.Held.{stack_of, site_of}
use Rattle.unshared.specs.Kept.{words_kept}
use Rattle.unshared.specs.Operands.{value_at, only, reference_of, pointer_of, word_in_kind, reference_at, pointer_at, object_of}
use Rattle.unshared.specs.Served.{kind_word_at}
use Rattle.unshared.specs.declared.pause.Halt.TheVariants as halt
use Rattle.unshared.specs.Memory.{loads_from, saves_all}
use Rattle.unshared.specs.Settled.{stays_within}
use Rattle.unshared.specs.Silent.{Silent, there, stuck, where_so}
use Rattle.unshared.specs.Talk.{Came, Talk, ◌>>=◌, and_then, say, pure, over, is_stopped, stops, asks_object, asks_kind, asks_word, asks_thread, asks_done}
use Rattle.unshared.specs.Turns.{answered}
use Rattle.unshared.proofs.DoesStack.{next_is}
use Rattle.unshared.proofs.Doing.{Does, finish, does_as, does_same, does_mute, does_bind, does_pop, does_so, does_stuck, does_silently, does_at_last}
use Rattle.unshared.proofs.Muting.{Mute, SilentMet}
use Rattle.unshared.proofs.MuteOperands.{mute_only, mute_reference, mute_pointer, mute_kind}
use Rattle.unshared.proofs.TiedAsks.{tied_object, tied_kind, tied_word, tied_thread, tied_done}
use Rattle.unshared.proofs.Sayings.{after}
use Rattle.unshared.proofs.TiedMemory.{tied_loads, tied_saves}
use Rattle.unshared.proofs.Tying.{Met, stuck_stays}

bind_both : {A B : Type 0} (came : Came A) (u : A → Talk B) (v : B → Talk Did) → and_then (and_then came u) v ≡ and_then came (λ a. u a >>= v)
bind_both (Ok r) u v = refl
bind_both (Err h) u v = refl

-- a piece of two
pub both : {n : Naming Mention TExpr} {p : Program} {s : Site} {A B : Type 0} {q : Left} (t : Talk A) (u : A → Talk B) (v : B → Talk Did) → Does n p s q (t >>= (λ a. u a >>= v)) → Does n p s q ((t >>= u) >>= v)
both {n = n} {p = p} {s = s} {q = q} t u v d = does_as n p s q ((t >>= u) >>= v) (t >>= (λ a. u a >>= v)) (λ ys. bind_both (t ys) u v) d

-- the same meaning
pub same : {n : Naming Mention TExpr} {p : Program} {s : Site} {q : Left} {t : Talk Did} (r : Left) → q ≡ r → Does n p s r t → Does n p s q t
same {n = n} {p = p} {s = s} {q = q} {t = t} r e more = does_same n p s q r t e more

-- tests
pub either : {n : Naming Mention TExpr} {p : Program} {s : Site} {q r : Left} {t u : Talk Did} (b : Bool) → (b ≡ true → Does n p s q t) → (b ≡ false → Does n p s r u) → Does n p s (if b then q else r) (if b then t else u)
either true d e = d refl
either false d e = e refl

pub either_then : {n : Naming Mention TExpr} {p : Program} {s : Site} {A : Type 0} {q r : Left} (t u : Talk A) (v : A → Talk Did) (b : Bool) → (b ≡ true → Does n p s q (t >>= v)) → (b ≡ false → Does n p s r (u >>= v)) →
    Does n p s (if b then q else r) ((if b then t else u) >>= v)
either_then t u v true d e = d refl
either_then t u v false d e = e refl

pub chosen : {n : Naming Mention TExpr} {p : Program} {s : Site} {q r : Left} {t u : Did} (b : Bool) → (b ≡ true → Does n p s q (pure t)) → (b ≡ false → Does n p s r (pure u)) → Does n p s (if b then q else r) (pure (if b then t else u))
chosen true d e = d refl
chosen false d e = e refl

-- Pieces that make no request. ---------------------------------------------

pub silently : {n : Naming Mention TExpr} {p : Program} {s : Site} {A : Type 0} {next : A → Left} {r : Silent A} {v : A → Talk Did} (tree : (A → Left) → Left) → Mute tree r → ((a : A) → Does n p s (next a) (v a)) → Does n p s (tree next) (say r >>= v)
silently {n = n} {p = p} {s = s} {next = next} {r = r} {v = v} tree m more = does_mute n p s tree next r v m more

pub look : {n : Naming Mention TExpr} {p : Program} {s : Site} {A : Type 0} {next : A → Left} {v : A → Talk Did} (o : Option A) → ((a : A) → o ≡ Some a → Does n p s (next a) (v a)) → Does n p s (given o next) (say (there o) >>= v)
look {n = n} {p = p} {s = s} None more = record { meets = (does_stuck n p s).meets }
look (Some a) more = record { meets = (more a refl).meets }

-- the value so far below the top
pub pop : {n : Naming Mention TExpr} {p : Program} {s : Site} (next : Value → List Value → Left) (v : Value → Talk Did) (f : FramesHere) (below : ℕ) → ((u : Value) → slice_get (stack_of f) below ≡ Some u → Does n p s (next u (drop (suc below) (stack_of f))) (v u)) →
    Does n p s (pops (drop below (stack_of f)) next) (say (value_at f below) >>= v)
pop {n = n} {p = p} {s = s} next v f below more = does_pop n p s f below next v more

pub reference : {n : Naming Mention TExpr} {p : Program} {s : Site} (next : ℕ → List Value → Left) (v : ℕ → Talk Did) (f : FramesHere) (below : ℕ) → ((w : ℕ) → Does n p s (next w (drop (suc below) (stack_of f))) (v w)) →
    Does n p s (pops (drop below (stack_of f)) (λ u us. as_reference u (λ w. next w us))) (say (reference_at f below) >>= v)
unfolding reference_at
reference {n = n} {p = p} {s = s} next v f below more =
    does_silently n p s _ (value_at f below) reference_of v (pop _ _ f below (λ u e. silently (as_reference u) (mute_reference u) more))

pub pointer : {n : Naming Mention TExpr} {p : Program} {s : Site} (next : Pointer → List Value → Left) (v : Pointer → Talk Did) (f : FramesHere) (below : ℕ) → ((q : Pointer) → Does n p s (next q (drop (suc below) (stack_of f))) (v q)) →
    Does n p s (pops (drop below (stack_of f)) (λ u us. as_pointer u (λ q. next q us))) (say (pointer_at f below) >>= v)
unfolding pointer_at
pointer {n = n} {p = p} {s = s} next v f below more =
    does_silently n p s _ (value_at f below) pointer_of v (pop _ _ f below (λ u e. silently (as_pointer u) (mute_pointer u) more))

pub kind_word : {n : Naming Mention TExpr} {p : Program} {s : Site} (next : ℕ → List Value → Left) (v : ℕ → Talk Did) (kind : Kind) (f : FramesHere) (below : ℕ) → ((w : ℕ) → Does n p s (next w (drop (suc below) (stack_of f))) (v w)) →
    Does n p s (pops (drop below (stack_of f)) (λ u us. word_of_kind kind u (λ w. next w us))) (kind_word_at kind f below >>= v)
unfolding kind_word_at
kind_word next v kind f below more = both (say (value_at f below)) (λ u. say (word_in_kind kind u)) v (pop _ _ f below (λ u e. silently (word_of_kind kind u) (mute_kind kind u) more))

pub tested : {n : Naming Mention TExpr} {p : Program} {s : Site} {A : Type 0} {next : Left} (v : A → Talk Did) (b : Bool) (x : A) → Does n p s next (v x) → Does n p s (if b then next else Stuck) (say (where_so b (Ok x)) >>= v)
tested v true x more = record { meets = more.meets }
tested {n = n} {p = p} {s = s} v false x more = record { meets = (does_stuck n p s).meets }

pub object : {n : Naming Mention TExpr} {p : Program} {s : Site} {next : Left} (v : ℕ → Talk Did) (w : ℕ) → Does n p s next (v w) → Does n p s (as_object w next) (say (object_of w) >>= v)
unfolding object_of
object v w more = tested v (nat_lt w strings_from) w more

-- the same where it is known to be an object's number
pub object_known : {n : Naming Mention TExpr} {p : Program} {s : Site} {next : Left} (v : ℕ → Talk Did) (w : ℕ) → nat_lt w strings_from ≡ true → Does n p s next (v w) → Does n p s next (say (object_of w) >>= v)
object_known {next = next} v w e more = same (as_object w next) (sym (ap (λ b. if b then next else Stuck) e)) (object v w more)

pub one_of : {n : Naming Mention TExpr} {p : Program} {s : Site} {next : ℕ → Left} {v : ℕ → Talk Did} (words : List ℕ) → ((w : ℕ) → Does n p s (next w) (v w)) → Does n p s (one_word words next) (say (only words) >>= v)
one_of words more = silently (one_word words) (mute_only words) more

-- pieces that make no request, one behind another
pub silent_both : {n : Naming Mention TExpr} {p : Program} {s : Site} {A B : Type 0} {q : Left} (r : Silent A) (g : A → Silent B) (v : B → Talk Did) → Does n p s q (say r >>= (λ a. say (g a) >>= v)) → Does n p s q (say (after r g) >>= v)
silent_both {n = n} {p = p} {s = s} {q = q} r g v more = does_silently n p s q r g v more

pub at_last : {n : Naming Mention TExpr} {p : Program} {s : Site} {A : Type 0} {q : Left} (r : Silent A) (g : A → Silent Did) → Does n p s q (say r >>= (λ a. say (g a))) → Does n p s q (say (after r g))
at_last {n = n} {p = p} {s = s} {q = q} r g more = does_at_last n p s q r g more

-- A piece that is stuck where it gives nothing may come before the next value is taken.
pub stuck_by : {A : Type 0} (tree : (A → Left) → Left) (r : Silent A) (k : A → Left) → SilentMet tree r → ((a : A) → k a ≡ Stuck) → tree k ≡ Stuck
stuck_by tree (Ok a) k e none = e k ∙ none a
stuck_by tree (Err (halt.Asks r)) k e none = absurd e
stuck_by tree (Err halt.Over) k e none = absurd e
stuck_by tree (Err halt.Stuck) k e none = e k
stuck_by tree (Err halt.Unnamed) k e none = absurd e

pops_late : {A : Type 0} (tree : (A → Left) → Left) (r : Silent A) (k : A → Value → List Value → Left) (stack : List Value) → Mute tree r → pops stack (λ u us. tree (λ a. k a u us)) ≡ tree (λ a. pops stack (k a))
pops_late tree r k [] m = sym (stuck_by tree r (λ a. Stuck) m.met (λ a. refl))
pops_late tree r k (u ∷ us) m = refl

pub late : {n : Naming Mention TExpr} {p : Program} {s : Site} {A : Type 0} {t : Talk Did} {r : Silent A} (k : A → Value → List Value → Left) (stack : List Value) (tree : (A → Left) → Left) → Mute tree r → Does n p s (tree (λ a. pops stack (k a))) t → Does n p s (pops stack (λ u us. tree (λ a. k a u us))) t
late {r = r} k stack tree m more = same (tree (λ a. pops stack (k a))) (pops_late tree r k stack m) more

-- the same before the next two values
pops_later : {A : Type 0} (tree : (A → Left) → Left) (r : Silent A) (k : A → Value → Value → List Value → Left) (stack : List Value) → Mute tree r → pops stack (λ w us. pops us (λ u vs. tree (λ a. k a w u vs))) ≡ tree (λ a. pops stack (λ w us. pops us (λ u vs. k a w u vs)))
pops_later tree r k [] m = sym (stuck_by tree r (λ a. Stuck) m.met (λ a. refl))
pops_later tree r k (w ∷ us) m = pops_late tree r (λ a u vs. k a w u vs) us m

pub late_twice : {n : Naming Mention TExpr} {p : Program} {s : Site} {A : Type 0} {t : Talk Did} {r : Silent A} (k : A → Value → Value → List Value → Left) (stack : List Value) (tree : (A → Left) → Left) → Mute tree r → Does n p s (tree (λ a. pops stack (λ w us. pops us (λ u vs. k a w u vs)))) t →
    Does n p s (pops stack (λ w us. pops us (λ u vs. tree (λ a. k a w u vs)))) t
late_twice {r = r} k stack tree m more = same (tree (λ a. pops stack (λ w us. pops us (λ u vs. k a w u vs)))) (pops_later tree r k stack m) more

-- What places keep. --------------------------------------------------------

two_tests : {X : Type 0} (a b : Bool) (x : X) → Mute (λ k. if a && b then k x else Stuck) (where_so a (where_so b (Ok x)))
two_tests true true x = record { met = λ k. refl }
two_tests true false x = record { met = λ k. refl }
two_tests false b x = record { met = λ k. refl }

pub mute_kept : (p : Program) (t : TExpr) (v : Value) → Mute (keeps p t v) (words_kept p t v)
unfolding words_kept
mute_kept p t (Plain kind words) = two_tests (same_kind kind (kind_of p t)) (length words == words_of p t) (kept t words)
mute_kept p t (Managed q) = record { met = λ k. refl }

pub keep : {n : Naming Mention TExpr} {p : Program} {s : Site} {next : List ℕ → Left} {v : List ℕ → Talk Did} (here : Program) (t : TExpr) (u : Value) → ((words : List ℕ) → Does n p s (next words) (v words)) → Does n p s (keeps here t u next) (say (words_kept here t u) >>= v)
keep here t u more = silently (keeps here t u) (mute_kept here t u) more

-- Requests. ----------------------------------------------------------------

pub ask_object : {n : Naming Mention TExpr} {p : Program} {s : Site} {next : ℕ → Left} {v : ℕ → Talk Did} (r : Request) → ((o : ℕ) → Does n p s (next o) (v o)) → Does n p s (Ask r (on_object next)) (asks_object r >>= v)
ask_object {n = n} {p = p} {s = s} {next = next} {v = v} r more = does_bind n p s (λ (k : ℕ → Left). Ask r (on_object k)) next (asks_object r) v (tied_object n r) more

pub ask_kind : {n : Naming Mention TExpr} {p : Program} {s : Site} {next : ℕ → Left} {v : ℕ → Talk Did} (r : Request) → ((w : ℕ) → Does n p s (next w) (v w)) → Does n p s (Ask r (on_kind next)) (asks_kind r >>= v)
ask_kind {n = n} {p = p} {s = s} {next = next} {v = v} r more = does_bind n p s (λ (k : ℕ → Left). Ask r (on_kind k)) next (asks_kind r) v (tied_kind n r) more

pub ask_word : {n : Naming Mention TExpr} {p : Program} {s : Site} {next : ℕ → Left} {v : ℕ → Talk Did} (r : Request) → ((w : ℕ) → Does n p s (next w) (v w)) → Does n p s (Ask r (on_word next)) (asks_word r >>= v)
ask_word {n = n} {p = p} {s = s} {next = next} {v = v} r more = does_bind n p s (λ (k : ℕ → Left). Ask r (on_word k)) next (asks_word r) v (tied_word n r) more

pub ask_thread : {n : Naming Mention TExpr} {p : Program} {s : Site} {next : ℕ → Left} {v : ℕ → Talk Did} (r : Request) → ((w : ℕ) → Does n p s (next w) (v w)) → Does n p s (Ask r (on_thread next)) (asks_thread r >>= v)
ask_thread {n = n} {p = p} {s = s} {next = next} {v = v} r more = does_bind n p s (λ (k : ℕ → Left). Ask r (on_thread k)) next (asks_thread r) v (tied_thread n r) more

pub ask_done : {n : Naming Mention TExpr} {p : Program} {s : Site} {next : Left} (v : Unit {0} → Talk Did) (r : Request) → Does n p s next (v tt) → Does n p s (Ask r (on_done next)) (asks_done r >>= v)
ask_done {n = n} {p = p} {s = s} {next = next} v r more = does_bind n p s (λ (k : Unit {0} → Left). Ask r (on_done (k tt))) (λ u. next) (asks_done r) v (tied_done n r) (λ u. more)

pub load : {n : Naming Mention TExpr} {p : Program} {s : Site} {next : List ℕ → Left} {v : List ℕ → Talk Did} (count : ℕ) (place : Place) → ((ws : List ℕ) → Does n p s (next ws) (v ws)) → Does n p s (loads count place next) (loads_from count place [] >>= v)
load {n = n} {p = p} {s = s} {next = next} {v = v} count place more = does_bind n p s (λ k. loads count place k) next (loads_from count place []) v (tied_loads n count place []) more

pub save : {n : Naming Mention TExpr} {p : Program} {s : Site} {next : Left} (v : Unit {0} → Talk Did) (words : List ℕ) (place : Place) → Does n p s next (v tt) → Does n p s (saves words place next) (saves_all words place >>= v)
save {n = n} {p = p} {s = s} {next = next} v words place more = does_bind n p s (λ (k : Unit {0} → Left). saves words place (k tt)) (λ u. next) (saves_all words place) v (tied_saves n words place) (λ u. more)

stopped_by : (n : Naming Mention TExpr) (p : Program) (s : Site) (v : Unit {0} → Talk Did) (y : Reply) (ys : List Reply) → Met n (answered n ys (on_stopped y)) (finish p s) (and_then ((if is_stopped y then over else say stuck) ys) v)
stopped_by n p s v (says.Object number) ys = stuck_stays n ys
stopped_by n p s v (says.Kind number) ys = stuck_stays n ys
stopped_by n p s v (says.Word word) ys = stuck_stays n ys
stopped_by n p s v (says.Thread number) ys = stuck_stays n ys
stopped_by n p s v (says.Ended b) ys = stuck_stays n ys
stopped_by n p s v says.Unknown ys = stuck_stays n ys
stopped_by n p s v says.Done ys = stuck_stays n ys
stopped_by n p s v (says.Stopped why) [] = refl
stopped_by n p s v (says.Stopped why) (z ∷ zs) = refl
stopped_by n p s v says.Halted ys = stuck_stays n ys
stopped_by n p s v says.Improper ys = stuck_stays n ys

stops_by : (n : Naming Mention TExpr) (p : Program) (s : Site) (v : Unit {0} → Talk Did) (why : Cause) (ys : List Reply) → Met n (answered n ys (Ask (ask.Stop why) on_stopped)) (finish p s) (and_then (stops why ys) v)
unfolding stops
stops_by n p s v why [] = (on_stopped, refl)
stops_by n p s v why (y ∷ ys) = stopped_by n p s v y ys

-- the run stops at a limit, whatever would follow
pub stop : {n : Naming Mention TExpr} {p : Program} {s : Site} (v : Unit {0} → Talk Did) (why : Cause) → Does n p s (Ask (ask.Stop why) on_stopped) (stops why >>= v)
stop {n = n} {p = p} {s = s} v why = record { meets = λ ys. stops_by n p s v why ys }

pub limit : {n : Naming Mention TExpr} {p : Program} {s : Site} {next : Left} (v : Unit {0} → Talk Did) (o : Option Limit) → Does n p s next (v tt) → Does n p s (within o next) (stays_within o >>= v)
limit v None more = record { meets = more.meets }
limit {n = n} {p = p} {s = s} v (Some l) more = stop v (cause_of l)

-- The end. ------------------------------------------------------------------

pub comes : {n : Naming Mention TExpr} {p : Program} {s : Site} {d : Did} → Does n p s (finish p s d) (pure d)
comes {n = n} {p = p} {s = s} {d = d} = does_so n p s (finish p s d) d refl

pub on : {n : Naming Mention TExpr} {p : Program} (d : MethodDef) (f : FramesHere) (stack : List Value) → Does n p (site_of d f) (goes (site_of d f) stack) (pure (Goes (went f (f.top.at + 1) stack)))
on {n = n} {p = p} d f stack = does_so n p (site_of d f) (goes (site_of d f) stack) (Goes (went f (f.top.at + 1) stack)) (next_is n p d f stack)

pub on_with : {n : Naming Mention TExpr} {p : Program} (d : MethodDef) (f : FramesHere) (places : List Places) (stack : List Value) → Does n p (site_of d f) (goes_with (site_of d f) places stack) (pure (Goes (went_with f (f.top.at + 1) places stack)))
on_with {n = n} {p = p} d f places stack = does_so n p (site_of d f) (goes_with (site_of d f) places stack) (Goes (went_with f (f.top.at + 1) places stack)) (ap (λ k. Next (went_with f k places stack)) (sym (add-one f.top.at)))
