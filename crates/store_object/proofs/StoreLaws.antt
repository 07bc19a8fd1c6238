-- Laws of the store: what its answers keep, and who may ask.
use Rattle.std.proofs.Common.{◌≡◌, ◌≢◌, ⊎_elim, ℕ, zero, suc, ◌+◌, ◌-◌, ◌<◌, ◌≤◌, List, [], ◌∷◌, ◌++◌, length, Bool, true, false, not, ◌&&◌, ◌||◌, Option, Some, None, slice_get, slice_set, slice_index_or, get_or, nat_lt, nat_le, ◌==◌, is_some, unwrap_or, eq-eqb, eqb-true, if◌then◌else◌, refl, sym, ap, ◌∙◌, subst, arith, length-append, length-set}
use Rattle.std.proofs.lemmas.List.{get_or-set_other, get_or-set_same, get_or_append_left, get_or_push, get_or_past}
use Rattle.std.proofs.lemmas.Grind.{get_or-set_at}
use Rattle.std.proofs.lemmas.Bool.Decides.{leb_tells, eqb_tells}
use Rattle.store_object.specs.declared.limits.TheConstants.{HEAP_LIMIT, OBJECT_COST, THREAD_LIMIT, INDEX_LIMIT}
use Rattle.store_object.specs.declared.place.Place.{Place}
use Rattle.store_object.specs.declared.place.Place.TheVariants as at
use Rattle.store_object.specs.declared.request.Request.{Request}
use Rattle.store_object.specs.declared.request.Request.TheVariants as ask
use Rattle.store_object.specs.declared.request.Cause.TheVariants as cause
use Rattle.store_object.specs.declared.reply.Reply.{Reply}
use Rattle.store_object.specs.declared.reply.Reply.TheVariants as says
use Rattle.store_object.specs.Store.{Store, Shape, is_live, is_object, is_place, shape_at, heap_of, word_at, with_word, summed, with_object, with_thread, ended}
use Rattle.store_object.specs.Answer.{is_named, ended_reply, allocated, started, served, answer}
use Rattle.store_object.specs.Replay.{is_halted, is_improper}
use Rattle.store_object.specs.Growth.{Grows}

abbrev pub refuses : Reply → Bool
refuses reply = is_halted reply || is_improper reply

-- A fact on each way to answer is one on the answer.
pub on_answer : (P : Reply × Store → Type 0) (s : Store) (t : ℕ) (r : Request) → P (says.Halted, s) → ((is_live s t && is_named s r) ≡ true → P (served s t r)) → P (says.Improper, s) → P (answer s t r)
on_answer P s t r halted fits improper = by_two s.is_over (is_live s t && is_named s r) fits
  where
    by_two : (over test : Bool) → (test ≡ true → P (served s t r)) → P (if over then (says.Halted, s) else (if test then served s t r else (says.Improper, s)))
    by_two true test go = halted
    by_two false true go = go refl
    by_two false false go = improper

-- a fact on both ways is one on the choice
by_if : {A : Type 0} (P : A → Type 0) (test : Bool) (a b : A) → P a → P b → P (if test then a else b)
by_if P true a b ha hb = ha
by_if P false a b ha hb = hb

pub on_allocated : (P : Reply × Store → Type 0) (s : Store) (shape : Shape) → P (says.Stopped cause.Heap, ended s) → P (says.Object (length s.shapes + 1), with_object s shape) → P (allocated s shape)
on_allocated P s shape stopped new = by_if P (nat_lt HEAP_LIMIT (heap_of s.shapes + (OBJECT_COST + shape.words))) (says.Stopped cause.Heap, ended s) (says.Object (length s.shapes + 1), with_object s shape) stopped new

pub on_started : (P : Reply × Store → Type 0) (s : Store) → P (says.Thread (length s.finished), with_thread s) → P (says.Stopped cause.Threads, ended s) → P (started s)
on_started P s new stopped = by_if P (nat_lt (length s.finished) THREAD_LIMIT) (says.Thread (length s.finished), with_thread s) (says.Stopped cause.Threads, ended s) new stopped

and_left : (a b : Bool) → (a && b) ≡ true → a ≡ true
and_left true b e = refl
and_left false b e = e

or_left : (a b : Bool) → (a || b) ≡ false → a ≡ false
or_left true b e = e
or_left false b e = refl

-- What a word changes ----------------------------------------------------

pub finished-with_word : (s : Store) (place : Place) (word : ℕ) → (with_word s place word).finished ≡ s.finished
finished-with_word s (at.Object object index) word = refl
finished-with_word s (at.Fixed kind index) word = refl

pub shapes-with_word : (s : Store) (place : Place) (word : ℕ) → (with_word s place word).shapes ≡ s.shapes
shapes-with_word s (at.Object object index) word = refl
shapes-with_word s (at.Fixed kind index) word = refl

finished-if : (test : Bool) (s : Store) (place : Place) (word : ℕ) → (if test then with_word s place word else s).finished ≡ s.finished
finished-if true s place word = finished-with_word s place word
finished-if false s place word = refl

shapes-if : (test : Bool) (s : Store) (place : Place) (word : ℕ) → (if test then with_word s place word else s).shapes ≡ s.shapes
shapes-if true s place word = shapes-with_word s place word
shapes-if false s place word = refl

-- Who is served is not refused --------------------------------------------

ended_goes_on : (o : Option Bool) → refuses (ended_reply o) ≡ false
ended_goes_on None = refl
ended_goes_on (Some has_finished) = refl

pub served_goes_on : (s : Store) (t : ℕ) (r : Request) → refuses (served s t r).0 ≡ false
served_goes_on s t (ask.Alloc kind count words) = on_allocated (λ (p : Reply × Store). refuses p.0 ≡ false) s (record { kind = kind; length = count; words = words }) refl refl
served_goes_on s t (ask.TypeOf object) = refl
served_goes_on s t (ask.Length object) = refl
served_goes_on s t (ask.Load place) = refl
served_goes_on s t (ask.Save place word) = refl
served_goes_on s t (ask.Exchange place word) = refl
served_goes_on s t (ask.CompareExchange place word comparand) = refl
served_goes_on s t (ask.Add place word narrow) = refl
served_goes_on s t (ask.Print form word) = refl
served_goes_on s t (ask.Start object) = on_started (λ (p : Reply × Store). refuses p.0 ≡ false) s refl refl
served_goes_on s t (ask.Ended other) = ended_goes_on (slice_get s.finished other)
served_goes_on s t ask.Finish = refl
served_goes_on s t (ask.Fall kind) = refl
served_goes_on s t (ask.Stop why) = refl

-- what is refused changes nothing
pub refused_same : (s : Store) (t : ℕ) (r : Request) → refuses (answer s t r).0 ≡ true → (answer s t r).1 ≡ s
refused_same s t r = on_answer (λ (p : Reply × Store). refuses p.0 ≡ true → p.1 ≡ s) s t r (λ e. refl) (λ fits e. let f : refuses (served s t r).0 ≡ false = served_goes_on s t r in absurd (cc (e, f))) (λ e. refl)

-- only a live thread makes a request that is not refused
pub asks_alive : (s : Store) (t : ℕ) (r : Request) → is_halted (answer s t r).0 ≡ false → is_improper (answer s t r).0 ≡ false → is_live s t ≡ true
asks_alive s t r = on_answer (λ (p : Reply × Store). is_halted p.0 ≡ false → is_improper p.0 ≡ false → is_live s t ≡ true) s t r (λ e f. absurd (cc e)) (λ fits e f. and_left (is_live s t) (is_named s r) fits) (λ e f. absurd (cc f))

-- The end ------------------------------------------------------------------

-- the reply is Halted exactly where the history has ended
pub halted-answer : (s : Store) (t : ℕ) (r : Request) → is_halted (answer s t r).0 ≡ s.is_over
halted-answer s t r = by_end s.is_over refl
  where
    inner : (test : Bool) → is_halted (if test then served s t r else (says.Improper, s)).0 ≡ false
    inner true = or_left (is_halted (served s t r).0) (is_improper (served s t r).0) (served_goes_on s t r)
    inner false = refl

    by_end : (over : Bool) → s.is_over ≡ over → is_halted (if over then (says.Halted, s) else (if is_live s t && is_named s r then served s t r else (says.Improper, s))).0 ≡ over
    by_end true e = refl
    by_end false e = inner (is_live s t && is_named s r)

-- what has ended stays so
pub end_stays : (s : Store) (t : ℕ) (r : Request) → s.is_over ≡ true → (answer s t r).1.is_over ≡ true
end_stays s t r over = by_end s.is_over over
  where
    by_end : (test : Bool) → test ≡ true → (if test then (says.Halted, s) else (if is_live s t && is_named s r then served s t r else (says.Improper, s))).1.is_over ≡ true
    by_end true e = over
    by_end false e = absurd (cc e)

-- Threads -----------------------------------------------------------------

-- a fact on what a request may make of the threads
served_finished : (P : List Bool → Type 0) (s : Store) (t : ℕ) (r : Request) → P s.finished → P (s.finished ++ false ∷ []) → P (slice_set s.finished t true) → P (served s t r).1.finished
served_finished P s t (ask.Alloc kind count words) same more less = on_allocated (λ (p : Reply × Store). P p.1.finished) s (record { kind = kind; length = count; words = words }) same same
served_finished P s t (ask.TypeOf object) same more less = same
served_finished P s t (ask.Length object) same more less = same
served_finished P s t (ask.Load place) same more less = same
served_finished P s t (ask.Save place word) same more less = subst P (sym (finished-with_word s place word)) same
served_finished P s t (ask.Exchange place word) same more less = subst P (sym (finished-with_word s place word)) same
served_finished P s t (ask.CompareExchange place word comparand) same more less = subst P (sym (finished-if (word_at s place == comparand) s place word)) same
served_finished P s t (ask.Add place word narrow) same more less = subst P (sym (finished-with_word s place (summed narrow (word_at s place) word))) same
served_finished P s t (ask.Print form word) same more less = same
served_finished P s t (ask.Start object) same more less = on_started (λ (p : Reply × Store). P p.1.finished) s more same
served_finished P s t (ask.Ended other) same more less = same
served_finished P s t ask.Finish same more less = less
served_finished P s t (ask.Fall kind) same more less = same
served_finished P s t (ask.Stop why) same more less = same

-- who was started stays started
pub threads_kept : (s : Store) (t : ℕ) (r : Request) → length s.finished ≤ length (answer s t r).1.finished
threads_kept s t r = on_answer (λ (p : Reply × Store). length s.finished ≤ length p.1.finished) s t r (omega arith)
    (λ fits. served_finished (λ (xs : List Bool). length s.finished ≤ length xs) s t r (omega arith) (omega (arith, length-append s.finished (false ∷ []))) (omega (arith, length-set s.finished t true)))
    (omega arith)

-- a live thread was started
pub lives_below : (s : Store) (u : ℕ) → is_live s u ≡ true → u < length s.finished
lives_below s u live = ⊎_elim (λ (h : (nat_le (length s.finished) u ≡ true) × (length s.finished ≤ u)). let past : get_or s.finished u true ≡ true = get_or_past s.finished u true h.1 in absurd (cc (live, ap not past)))
    (λ (h : (nat_le (length s.finished) u ≡ false) × (u < length s.finished)). h.1) (leb_tells (length s.finished) u)

-- only a thread that was started makes a request that is not refused
pub asks_begun : (s : Store) (t : ℕ) (r : Request) → is_halted (answer s t r).0 ≡ false → is_improper (answer s t r).0 ≡ false → t < length s.finished
asks_begun s t r goes_on proper = lives_below s t (asks_alive s t r goes_on proper)

-- a live thread goes on living while others ask
pub lives_other : (s : Store) (t u : ℕ) (r : Request) → (t == u) ≡ false → is_live s u ≡ true → is_live (answer s t r).1 u ≡ true
lives_other s t u r other live = on_answer (λ (p : Reply × Store). is_live p.1 u ≡ true) s t r live
    (λ fits. served_finished (λ (xs : List Bool). not (slice_index_or xs u true) ≡ true) s t r live
    (let below : u < length s.finished = lives_below s u live in ap not (get_or_append_left s.finished (false ∷ []) true u below) ∙ live)
    (let ne : u ≢ t = λ e. absurd (cc (other, eq-eqb t u (sym e))) in ap not (get_or-set_other s.finished t u true true ne) ∙ live))
    live

-- whether a thread of this list has finished, after the thread t has
finished_after : (xs : List Bool) (t u : ℕ) → u < length xs → not (slice_index_or xs u true) ≡ false → not (slice_index_or (slice_set xs t true) u true) ≡ false
finished_after xs t u below dead =
    ⊎_elim (λ (h : ((u == t) ≡ true) × (u ≡ t)). ap not (get_or-set_at xs t u true true h.1 (omega arith)))
    (λ (h : ((u == t) ≡ false) × (u ≢ t)). ap not (get_or-set_other xs t u true true h.1) ∙ dead)
    (eqb_tells u t)

-- a thread that has finished stays so
pub finished_stays : (s : Store) (t u : ℕ) (r : Request) → u < length s.finished → is_live s u ≡ false → is_live (answer s t r).1 u ≡ false
finished_stays s t u r below dead = on_answer (λ (p : Reply × Store). is_live p.1 u ≡ false) s t r dead
    (λ fits. served_finished (λ (xs : List Bool). not (slice_index_or xs u true) ≡ false) s t r dead
    (ap not (get_or_append_left s.finished (false ∷ []) true u below) ∙ dead)
    (finished_after s.finished t u below dead))
    dead

-- a thread that has asked to finish doesn't live
pub finish_ends : (s : Store) (t : ℕ) → is_live s t ≡ true → is_live (served s t ask.Finish).1 t ≡ false
finish_ends s t live = let below : t < length s.finished = lives_below s t live in ap not (get_or-set_same s.finished t true true below)

ended_no_thread : (o : Option Bool) (n : ℕ) → ended_reply o ≡ says.Thread n → ⊥
ended_no_thread None n e = cc e
ended_no_thread (Some has_finished) n e = cc e

-- the next thread was started, by a request that asks for it, and it lives
pub record IsStart (s after : Store) (r : Request) (n : ℕ) : Type 0 where
  pub object : ℕ
  pub request : r ≡ ask.Start object
  pub number : n ≡ length s.finished
  pub count : length after.finished ≡ suc (length s.finished)
  pub lives : is_live after n ≡ true

new_lives : (xs : List Bool) (n : ℕ) → n ≡ length xs → not (slice_index_or (xs ++ false ∷ []) n true) ≡ true
new_lives xs n e = ap not (get_or_push xs false true n (sym e))

served_starts : (s : Store) (t : ℕ) (r : Request) (n : ℕ) → (served s t r).0 ≡ says.Thread n → IsStart s (served s t r).1 r n
served_starts s t (ask.Alloc kind count words) n e = absurd (on_allocated (λ (p : Reply × Store). p.0 ≡ says.Thread n → ⊥) s (record { kind = kind; length = count; words = words }) (λ f. cc f) (λ f. cc f) e)
served_starts s t (ask.TypeOf object) n e = absurd (cc e)
served_starts s t (ask.Length object) n e = absurd (cc e)
served_starts s t (ask.Load place) n e = absurd (cc e)
served_starts s t (ask.Save place word) n e = absurd (cc e)
served_starts s t (ask.Exchange place word) n e = absurd (cc e)
served_starts s t (ask.CompareExchange place word comparand) n e = absurd (cc e)
served_starts s t (ask.Add place word narrow) n e = absurd (cc e)
served_starts s t (ask.Print form word) n e = absurd (cc e)
served_starts s t (ask.Start object) n e = on_started (λ (p : Reply × Store). p.0 ≡ says.Thread n → IsStart s p.1 (ask.Start object) n) s (λ f. let number : n ≡ length s.finished = cc f in record { object = object; request = refl; number = number; count = omega (arith, length-append s.finished (false ∷ [])); lives = new_lives s.finished n number }) (λ f. absurd (cc f)) e
served_starts s t (ask.Ended other) n e = absurd (ended_no_thread (slice_get s.finished other) n e)
served_starts s t ask.Finish n e = absurd (cc e)
served_starts s t (ask.Fall kind) n e = absurd (cc e)
served_starts s t (ask.Stop why) n e = absurd (cc e)

-- a reply Thread starts the next thread
pub starts_next : (s : Store) (t : ℕ) (r : Request) (n : ℕ) → (answer s t r).0 ≡ says.Thread n → IsStart s (answer s t r).1 r n
starts_next s t r n = on_answer (λ (p : Reply × Store). p.0 ≡ says.Thread n → IsStart s p.1 r n) s t r (λ e. absurd (cc e)) (λ fits e. served_starts s t r n e) (λ e. absurd (cc e))

served_no_start : (s : Store) (t : ℕ) (r : Request) → ((n : ℕ) → (served s t r).0 ≡ says.Thread n → ⊥) → length (served s t r).1.finished ≡ length s.finished
served_no_start s t (ask.Alloc kind count words) none = on_allocated (λ (p : Reply × Store). length p.1.finished ≡ length s.finished) s (record { kind = kind; length = count; words = words }) refl refl
served_no_start s t (ask.TypeOf object) none = refl
served_no_start s t (ask.Length object) none = refl
served_no_start s t (ask.Load place) none = refl
served_no_start s t (ask.Save place word) none = ap length (finished-with_word s place word)
served_no_start s t (ask.Exchange place word) none = ap length (finished-with_word s place word)
served_no_start s t (ask.CompareExchange place word comparand) none = ap length (finished-if (word_at s place == comparand) s place word)
served_no_start s t (ask.Add place word narrow) none = ap length (finished-with_word s place (summed narrow (word_at s place) word))
served_no_start s t (ask.Print form word) none = refl
served_no_start s t (ask.Start object) none = on_started (λ (p : Reply × Store). ((n : ℕ) → p.0 ≡ says.Thread n → ⊥) → length p.1.finished ≡ length s.finished) s (λ f. absurd (f (length s.finished) refl)) (λ f. refl) none
served_no_start s t (ask.Ended other) none = refl
served_no_start s t ask.Finish none = length-set s.finished t true
served_no_start s t (ask.Fall kind) none = refl
served_no_start s t (ask.Stop why) none = refl

-- any other reply starts none
pub starts_none : (s : Store) (t : ℕ) (r : Request) → ((n : ℕ) → (answer s t r).0 ≡ says.Thread n → ⊥) → length (answer s t r).1.finished ≡ length s.finished
starts_none s t r = on_answer (λ (p : Reply × Store). ((n : ℕ) → p.0 ≡ says.Thread n → ⊥) → length p.1.finished ≡ length s.finished) s t r (λ none. refl) (λ fits none. served_no_start s t r none) (λ none. refl)

-- Growth --------------------------------------------------------------------

served_shapes : (P : List Shape → Type 0) (s : Store) (t : ℕ) (r : Request) → P s.shapes → ((shape : Shape) → P (s.shapes ++ shape ∷ [])) → P (served s t r).1.shapes
served_shapes P s t (ask.Alloc kind count words) same more = on_allocated (λ (p : Reply × Store). P p.1.shapes) s (record { kind = kind; length = count; words = words }) same (more (record { kind = kind; length = count; words = words }))
served_shapes P s t (ask.TypeOf object) same more = same
served_shapes P s t (ask.Length object) same more = same
served_shapes P s t (ask.Load place) same more = same
served_shapes P s t (ask.Save place word) same more = subst P (sym (shapes-with_word s place word)) same
served_shapes P s t (ask.Exchange place word) same more = subst P (sym (shapes-with_word s place word)) same
served_shapes P s t (ask.CompareExchange place word comparand) same more = subst P (sym (shapes-if (word_at s place == comparand) s place word)) same
served_shapes P s t (ask.Add place word narrow) same more = subst P (sym (shapes-with_word s place (summed narrow (word_at s place) word))) same
served_shapes P s t (ask.Print form word) same more = same
served_shapes P s t (ask.Start object) same more = on_started (λ (p : Reply × Store). P p.1.shapes) s same same
served_shapes P s t (ask.Ended other) same more = same
served_shapes P s t ask.Finish same more = same
served_shapes P s t (ask.Fall kind) same more = same
served_shapes P s t (ask.Stop why) same more = same

slice_get_more : {X : Type 0} (xs : List X) (new x : X) (k : ℕ) → slice_get xs k ≡ Some x → slice_get (xs ++ new ∷ []) k ≡ Some x
slice_get_more [] new x k e = absurd (cc e)
slice_get_more (y ∷ xs) new x zero e = e
slice_get_more (y ∷ xs) new x (suc k) e = slice_get_more xs new x k e

-- an object keeps its shape where one more is added
shape-push : (test : Bool) (shapes : List Shape) (new shape : Shape) (k : ℕ) → (if test then None else slice_get shapes k) ≡ Some shape → (if test then None else slice_get (shapes ++ new ∷ []) k) ≡ Some shape
shape-push true shapes new shape k e = e
shape-push false shapes new shape k e = slice_get_more shapes new shape k e

pub grows_self : (s : Store) → Grows s s
grows_self s = record { shapes = λ object shape e. e }

pub grows_then : (x y z : Store) → Grows x y → Grows y z → Grows x z
grows_then x y z xy yz = record { shapes = λ object shape e. yz.shapes object shape (xy.shapes object shape e) }

pub grows_after : (s : Store) (t : ℕ) (r : Request) → Grows s (answer s t r).1
grows_after s t r = on_answer (λ (p : Reply × Store). Grows s p.1) s t r (grows_self s)
    (λ fits. record { shapes = λ object shape e. served_shapes (λ (xs : List Shape). (if object == 0 then None else slice_get xs (object - 1)) ≡ Some shape) s t r e (λ new. shape-push (object == 0) s.shapes new shape (object - 1) e) })
    (grows_self s)

-- an object that was allocated has the same shape later
pub shape_stays : (x y : Store) (object : ℕ) → Grows x y → is_object x object ≡ true → shape_at y object ≡ shape_at x object
shape_stays x y object grows there = by_shape (shape_at x object) refl there
  where
    by_shape : (m : Option Shape) → shape_at x object ≡ m → is_some m ≡ true → shape_at y object ≡ m
    by_shape None e h = absurd (cc h)
    by_shape (Some shape) e h = grows.shapes object shape e

pub object_stays : (x y : Store) (object : ℕ) → Grows x y → is_object x object ≡ true → is_object y object ≡ true
object_stays x y object grows there = ap is_some (shape_stays x y object grows there) ∙ there

-- a place that is there stays there
pub place_stays : (x y : Store) (place : Place) → Grows x y → is_place x place ≡ true → is_place y place ≡ true
place_stays x y (at.Object object index) grows there =
    ap (λ (m : Option Shape). is_some m && (nat_lt index (unwrap_or m (record { kind = 0; length = 0; words = 0 })).words && nat_lt index INDEX_LIMIT)) (shape_stays x y object grows (and_left (is_object x object) _ there)) ∙ there
place_stays x y (at.Fixed kind index) grows there = there

-- Words ---------------------------------------------------------------------

eqb_self : (n : ℕ) → (n == n) ≡ true
eqb_self n = eq-eqb n n refl

-- the word that was put stands at its place
pub word_at-with_word_same : (s : Store) (place : Place) (word : ℕ) → word_at (with_word s place word) place ≡ word
word_at-with_word_same s (at.Object object index) word = rw (eqb_self object, eqb_self index) refl
word_at-with_word_same s (at.Fixed kind index) word = rw (eqb_self kind, eqb_self index) refl

by_both : (a b x y word old : ℕ) → ((a ≡ x) → (b ≡ y) → ⊥) → (if (a == x) && (b == y) then word else old) ≡ old
by_both a b x y word old differ = by_tests (a == x) (b == y) refl refl
  where
    by_tests : (p q : Bool) → (a == x) ≡ p → (b == y) ≡ q → (if p && q then word else old) ≡ old
    by_tests true true ep eq' = absurd (differ (eqb-true a x ep) (eqb-true b y eq'))
    by_tests true false ep eq' = refl
    by_tests false q ep eq' = refl

-- ..and every other one stays
pub word_at-with_word_other : (s : Store) (place other : Place) (word : ℕ) → place ≢ other → word_at (with_word s place word) other ≡ word_at s other
word_at-with_word_other s (at.Object a b) (at.Object x y) word differ = by_both a b x y word (s.word x y) (λ e f. differ (rw (e, f) refl))
word_at-with_word_other s (at.Object a b) (at.Fixed x y) word differ = refl
word_at-with_word_other s (at.Fixed a b) (at.Object x y) word differ = refl
word_at-with_word_other s (at.Fixed a b) (at.Fixed x y) word differ = by_both a b x y word (s.fixed x y) (λ e f. differ (rw (e, f) refl))
