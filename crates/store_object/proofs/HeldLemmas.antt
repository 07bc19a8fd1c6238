-- How the held objects follow the store.
use Rattle.std.proofs.Common.{◌≡◌, ◌≢◌, ◌⊎◌, inl, inr, ⊎_elim, ℕ, zero, suc, ◌+◌, ◌-◌, ◌<◌, ◌≤◌, List, [], ◌∷◌, ◌++◌, length, map, Bool, true, false, ◌&&◌, Some, slice_get, slice_index, set, nat_lt, ◌==◌, if◌then◌else◌, refl, sym, ap, ◌∙◌, arith, vec_len, ltb-true, length-append, IsTrue}
use Rattle.std.specs.Vec.{with_item}
use Rattle.std.proofs.lemmas.Option.{same_Some, none-some, slice_get_within}
use Rattle.std.proofs.lemmas.List.{get_or-set_same, get_or-set_other, map-append, length-map}
use Rattle.std.proofs.lemmas.List.Sums.{sum_by-append}
use Rattle.std.proofs.lemmas.Bool.Decides.{eqb_tells, leb_tells}
use Rattle.store_object.specs.declared.limits.TheConstants.{HEAP_LIMIT, OBJECT_COST, INDEX_LIMIT}
use Rattle.store_object.specs.declared.objects.Object.{Object}
use Rattle.store_object.specs.declared.objects.Objects.{Objects}
use Rattle.store_object.specs.declared.place.Place.TheVariants as at
use Rattle.store_object.specs.Store.{Store, Shape, is_object, is_place, shape_of, heap_of, with_word, with_value, with_object}
use Rattle.store_object.specs.Held.{shape_in, IsLaid, HoldsObjects}

pub and_left : (a b : Bool) → (a && b) ≡ true → a ≡ true
and_left true b e = refl
and_left false b e = e

pub and_right : (a b : Bool) → (a && b) ≡ true → b ≡ true
and_right true b e = e
and_right false b e = absurd (cc e)

-- the element of a list with one more
pub slice_get-push : {X : Type 0} (xs : List X) (x p : X) (k : ℕ) → slice_get (xs ++ x ∷ []) k ≡ Some p → ((k < length xs) × (slice_get xs k ≡ Some p)) ⊎ ((k ≡ length xs) × (p ≡ x))
slice_get-push [] x p zero e = inr (refl, sym (same_Some x p e))
slice_get-push [] x p (suc k) e = absurd (none-some p e)
slice_get-push (y ∷ xs) x p zero e = inl (omega arith, e)
slice_get-push (y ∷ xs) x p (suc k) e = ⊎_elim (λ h. inl (omega (arith, h.0), h.1)) (λ h. inr (ap suc h.0, h.1)) (slice_get-push xs x p k e)

-- two numbers that are equal, or that differ
pub same_or_not : (a b : ℕ) → (((a == b) ≡ true) × (a ≡ b)) ⊎ (((a == b) ≡ false) × (a ≢ b))
same_or_not a b = eqb_tells a b

pub index_below : (s : Store) (object index : ℕ) (o : Object) → shape_in o ≡ shape_of s object → IsTrue (is_place s (at.Object object index)) → index < o.words
index_below s object index o same there =
    let inner : (nat_lt index (shape_of s object).words && nat_lt index INDEX_LIMIT) ≡ true = and_right (is_object s object) _ there in
    let below : index < (shape_of s object).words = ltb-true _ _ (and_left _ _ inner) in
    let words : o.words ≡ (shape_of s object).words = ap (λ (shape : Shape). shape.words) same in
    omega arith

pub object_there : (s : Store) (object index : ℕ) → IsTrue (is_place s (at.Object object index)) → IsTrue (is_object s object)
object_there s object index there = and_left _ _ there

below_or_above : (k m : ℕ) → k ≢ m → (k < m) ⊎ (m < k)
below_or_above k m differ = ⊎_elim (λ h. inl (omega (arith, h.1))) (λ h. inr (omega (arith, h.1))) (leb_tells k m)

-- Words lie apart -------------------------------------------------------

-- two words of objects that differ lie apart
pub words_apart : (table : List Object) (size : ℕ) → IsLaid table size → (k m i j : ℕ) (o p : Object) → slice_get table k ≡ Some o → slice_get table m ≡ Some p → i < o.words → j < p.words → k ≢ m → o.from + i ≢ p.from + j
words_apart table size laid k m i j o p ok pm io jp differ e =
    ⊎_elim (λ (h : k < m). let gap : o.from + o.words ≤ p.from = laid.apart k m o p ok pm h in absurd (omega arith))
    (λ (h : m < k). let gap : p.from + p.words ≤ o.from = laid.apart m k p o pm ok h in absurd (omega arith))
    (below_or_above k m differ)

-- the words after one was put
pub word_put : (words : List ℕ) (table : List Object) (size : ℕ) (w : ℕ → ℕ → ℕ) → size ≡ length words → IsLaid table size → ((k i : ℕ) (o : Object) → slice_get table k ≡ Some o → i < o.words → slice_index words (o.from + i) ≡ w (k + 1) i) → (m index word : ℕ) (o : Object) → slice_get table m ≡ Some o → index < o.words → (k i : ℕ) (p : Object) → slice_get table k ≡ Some p → i < p.words → slice_index (set words (o.from + index) word) (p.from + i) ≡ with_value w (m + 1) index word (k + 1) i
word_put words table size w len laid before m index word o stored io k i p kp ip =
    ⊎_elim
    (λ (ks : ((m + 1 == k + 1) ≡ true) × (m + 1 ≡ k + 1)).
    let km : k ≡ m = omega arith in
    let same : p ≡ o = same_Some p o (sym kp ∙ ap (slice_get table) km ∙ stored) in
    let from : p.from ≡ o.from = ap (λ (q : Object). q.from) same in
    let inside : o.from + o.words ≤ size = laid.within m o stored in
    ⊎_elim
    (λ (is : ((index == i) ≡ true) × (index ≡ i)).
    let place : p.from + i ≡ o.from + index = omega arith in
    rw (ks.0, is.0, place) (get_or-set_same words (o.from + index) word 0 (omega arith)))
    (λ (is : ((index == i) ≡ false) × (index ≢ i)).
    let ne : p.from + i ≢ o.from + index = omega arith in
    rw (ks.0, is.0) (get_or-set_other words (o.from + index) (p.from + i) word 0 ne ∙ before k i p kp ip))
    (same_or_not index i))
    (λ (ks : ((m + 1 == k + 1) ≡ false) × (m + 1 ≢ k + 1)).
    let differ : k ≢ m = omega arith in
    let ne : p.from + i ≢ o.from + index = words_apart table size laid k m i index p o kp stored ip io differ in
    rw ks.0 (get_or-set_other words (o.from + index) (p.from + i) word 0 ne ∙ before k i p kp ip))
    (same_or_not (m + 1) (k + 1))

-- One more object -------------------------------------------------------

pub laid_more : (table : List Object) (size : ℕ) (o : Object) → IsLaid table size → o.from ≡ size → IsLaid (table ++ o ∷ []) (size + o.words)
laid_more table size o laid at_end = record {
  within = λ k p e. ⊎_elim (λ h. let inside : p.from + p.words ≤ size = laid.within k p h.1 in omega arith)
      (λ h. let from : p.from ≡ o.from = ap (λ (q : Object). q.from) h.1 in let words : p.words ≡ o.words = ap (λ (q : Object). q.words) h.1 in omega arith)
      (slice_get-push table o p k e);
  apart = λ k m p q ep eq' less. ⊎_elim
      (λ hp. ⊎_elim (λ hq. laid.apart k m p q hp.1 hq.1 less)
      (λ hq. let from : q.from ≡ o.from = ap (λ (r : Object). r.from) hq.1 in let inside : p.from + p.words ≤ size = laid.within k p hp.1 in omega arith)
      (slice_get-push table o q m eq'))
      (λ hp. let past : m < length (table ++ o ∷ []) = slice_get_within _ m q eq' in absurd (omega (arith, length-append table (o ∷ []), hp.0)))
      (slice_get-push table o p k ep);
}

pub heap_more : (shapes : List Shape) (shape : Shape) → heap_of (shapes ++ shape ∷ []) ≡ heap_of shapes + (OBJECT_COST + shape.words)
heap_more shapes shape = sum_by-append (λ (shape : Shape). OBJECT_COST + shape.words) shapes (shape ∷ []) ∙ grind arith

-- the words of all objects after one more was added
pub word_more : (words words' : List ℕ) (table : List Object) (size count : ℕ) (w : ℕ → ℕ → ℕ) (o : Object) → count ≡ length table → o.from ≡ size → IsLaid table size → ((k i : ℕ) (p : Object) → slice_get table k ≡ Some p → i < p.words → slice_index words (p.from + i) ≡ w (k + 1) i) → ((k : ℕ) → k < size → slice_index words' k ≡ slice_index words k) → ((k : ℕ) → size ≤ k → k < size + o.words → slice_index words' k ≡ 0) → (k i : ℕ) (p : Object) → slice_get (table ++ o ∷ []) k ≡ Some p → i < p.words → slice_index words' (p.from + i) ≡ (if k + 1 == count + 1 then 0 else w (k + 1) i)
word_more words words' table size count w o len at_end laid before old new k i p e ip =
    ⊎_elim
    (λ (h : (k < length table) × (slice_get table k ≡ Some p)).
    let inside : p.from + p.words ≤ size = laid.within k p h.1 in
    let less : k < length table = h.0 in
    ⊎_elim (λ (ks : ((k + 1 == count + 1) ≡ true) × (k + 1 ≡ count + 1)). absurd (omega arith))
    (λ (ks : ((k + 1 == count + 1) ≡ false) × (k + 1 ≢ count + 1)). rw ks.0 (old (p.from + i) (omega arith) ∙ before k i p h.1 ip))
    (same_or_not (k + 1) (count + 1)))
    (λ (h : (k ≡ length table) × (p ≡ o)).
    let from : p.from ≡ o.from = ap (λ (q : Object). q.from) h.1 in
    let size_is : p.words ≡ o.words = ap (λ (q : Object). q.words) h.1 in
    let last : k ≡ length table = h.0 in
    ⊎_elim (λ (ks : ((k + 1 == count + 1) ≡ true) × (k + 1 ≡ count + 1)). rw ks.0 (new (p.from + i) (omega arith) (omega arith)))
    (λ (ks : ((k + 1 == count + 1) ≡ false) × (k + 1 ≢ count + 1)). absurd (omega arith))
    (same_or_not (k + 1) (count + 1)))
    (slice_get-push table o p k e)

-- The objects as a whole ------------------------------------------------

pub objects_saved : (objects : Objects) (s : Store) (object index word : ℕ) (o : Object) → HoldsObjects objects s → slice_get objects.table.items (object - 1) ≡ Some o → 0 < object → index < o.words → HoldsObjects (record { table = objects.table; words = with_item objects.words (o.from + index) word }) (with_word s (at.Object object index) word)
objects_saved objects s object index word o held stored above below =
    let number : (object - 1) + 1 ≡ object = omega arith in
    record {
      shapes = held.shapes;
      words = rw (← number) (word_put objects.words.items objects.table.items (vec_len objects.words) s.word objects.words.ok.0 held.laid held.words (object - 1) index word o stored below);
      laid = held.laid;
      heap = held.heap;
      limit = held.limit;
    }

pub objects_added : (objects objects' : Objects) (s : Store) (o : Object) → HoldsObjects objects s → objects'.table.items ≡ objects.table.items ++ o ∷ [] → vec_len objects'.table ≡ vec_len objects.table + 1 → vec_len objects'.words ≡ vec_len objects.words + o.words → o.from ≡ vec_len objects.words → ((k : ℕ) → k < vec_len objects.words → slice_index objects'.words.items k ≡ slice_index objects.words.items k) → ((k : ℕ) → vec_len objects.words ≤ k → k < vec_len objects.words + o.words → slice_index objects'.words.items k ≡ 0) → heap_of s.shapes + (OBJECT_COST + o.words) ≤ HEAP_LIMIT → HoldsObjects objects' (with_object s (shape_in o))
objects_added objects objects' s o held table count size at_end old new room =
    let shapes_length : length s.shapes ≡ length objects.table.items = ap length held.shapes ∙ length-map objects.table.items shape_in in
    record {
      shapes = ap (λ (shapes : List Shape). shapes ++ shape_in o ∷ []) held.shapes ∙ sym (map-append shape_in objects.table.items (o ∷ [])) ∙ ap (map shape_in) (sym table);
      words = rw table (word_more objects.words.items objects'.words.items objects.table.items (vec_len objects.words) (length s.shapes) s.word o shapes_length at_end held.laid held.words old new);
      laid = rw (table, size) (laid_more objects.table.items (vec_len objects.words) o held.laid at_end);
      heap = heap_more s.shapes (shape_in o) ∙ omega (arith, held.heap);
      limit = omega (arith, held.heap);
    }
