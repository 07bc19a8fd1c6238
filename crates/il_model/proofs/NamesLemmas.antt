-- A list of different names, and a set to which they are added in turn.
use Rattle.std.proofs.Common.{◌≡◌, ℕ, Bool, false, ◌||◌, ◌+◌, not, cond, List, [], ◌∷◌, ◌++◌, map, length, refl, sym, ◌∙◌, ap, bytes_eq, position, nat_lt, Some, None, take, drop, slice_index_or, subst, append_assoc, ◌<◌, ◌≤◌}
use Rattle.std.specs.List.{IsDistinct, AllByRecursion, list_any, position_or_len}
use Rattle.std.proofs.lemmas.List.{map-append, length-map, take-append-drop}
use Rattle.std.proofs.Math.Seq.{drop-cons}
use Rattle.std.proofs.Math.Numerals.{suc-eq-add-one}
use Rattle.std.specs.Cmp.Lexicographic.{nat_list_eq_equiv}
use Rattle.indexmap.specs.IndexSet.{insert_key}
use Rattle.il_model.specs.declared.class.ClassDef.{ClassDef}
use Rattle.il_model.specs.Spellings.{plain_name}
use Rattle.il_model.specs.Names.{plain_names}

-- what holds of each of a list holds of one in it
at_seam : {A : Type 0} (P : A → Type 0) (front back : List A) (x : A) → AllByRecursion P (front ++ x ∷ back) → P x
at_seam P [] back x all = all.0
at_seam P (y ∷ front) back x all = at_seam P front back x all.1

-- a name is none of those before it
pub apart : (front back : List (List ℕ)) (x : List ℕ) → IsDistinct bytes_eq (front ++ x ∷ back) → list_any (bytes_eq x) front ≡ false
unfolding IsDistinct
apart [] back x distinct = refl
apart (y ∷ front) back x distinct =
    ap (λ b. b || list_any (bytes_eq x) front) (nat_list_eq_equiv.symm x y ∙ at_seam (λ z. bytes_eq y z ≡ false) front back x distinct.0)
    ∙ apart front back x distinct.1

-- keys that are compared as their items are
module _ {K : Type 0} (items : K → List ℕ) (E : K → K → Bool) (alike : (a b : K) → E a b ≡ bytes_eq (items a) (items b)) where
  any_key : (keys : List K) (k : K) → list_any (E k) keys ≡ list_any (bytes_eq (items k)) (map items keys)
  any_key [] k = refl
  any_key (y ∷ keys) k = λ i. alike k y i || any_key keys k i

  -- a new name goes to the end
  pub items_after : (keys : List K) (k : K) → list_any (bytes_eq (items k)) (map items keys) ≡ false →
      map items (insert_key E keys k) ≡ map items keys ++ items k ∷ []
  items_after keys k new =
      ap (λ b. map items (cond b keys (keys ++ k ∷ []))) (any_key keys k ∙ new) ∙ map-append items keys (k ∷ [])

module _ {K : Type 0} (items : K → List ℕ) (test : List ℕ → Bool) where
  position_or_len_of_map : (keys : List K) → position_or_len test (map items keys) ≡ position_or_len (λ k. test (items k)) keys
  position_or_len_of_map [] = refl
  position_or_len_of_map (k ∷ keys) = ap (λ n. cond (not (test (items k))) (1 + n) 0) (position_or_len_of_map keys)

  -- a key stands where its items stand
  pub position_of_map : (keys : List K) → position (λ k. test (items k)) keys ≡ position test (map items keys)
  position_of_map keys = λ i. cond (nat_lt (sym (position_or_len_of_map keys) i) (sym (length-map keys items) i)) (Some (sym (position_or_len_of_map keys) i)) None

all_front : {A : Type 0} (P : A → Type 0) (front back : List A) → AllByRecursion P (front ++ back) → AllByRecursion P front
all_front P [] back all = tt
all_front P (x ∷ front) back all = (all.0, all_front P front back all.1)

distinct_front : (front back : List (List ℕ)) → IsDistinct bytes_eq (front ++ back) → IsDistinct bytes_eq front
unfolding IsDistinct
distinct_front [] back distinct = tt
distinct_front (x ∷ front) back distinct = (all_front (λ y. bytes_eq x y ≡ false) front back distinct.0, distinct_front front back distinct.1)

-- the front of classes with different names
pub distinct_take : (n : ℕ) (classes front : List ClassDef) → front ≡ take n classes → IsDistinct bytes_eq (plain_names classes) →
    IsDistinct bytes_eq (plain_names front)
distinct_take n classes front is distinct =
    let whole : plain_names front ++ plain_names (drop n classes) ≡ plain_names classes =
    (λ i. plain_names (is i) ++ plain_names (drop n classes)) ∙ sym (map-append (λ c. plain_name c.name) (take n classes) (drop n classes))
    ∙ ap plain_names (take-append-drop n classes) in
    distinct_front (plain_names front) (plain_names (drop n classes)) (subst (IsDistinct bytes_eq) (sym whole) distinct)

-- the names of the classes before a place, and the class there
module _ (names : List (List ℕ)) (classes : List ClassDef) (i : ℕ) (c : ClassDef) (bytes : List ℕ) (inside : i < length classes)
    (read : c ≡ slice_index_or classes i c) (are : bytes ≡ plain_name c.name) (before : names ++ plain_names (drop i classes) ≡ plain_names classes) where
  seam : drop i classes ≡ c ∷ drop (i + 1) classes
  seam = drop-cons classes i c inside ∙ (λ j. sym read j ∷ drop (suc-eq-add-one i j) classes)

  joined : names ++ bytes ∷ plain_names (drop (i + 1) classes) ≡ plain_names classes
  joined = (λ j. names ++ are j ∷ plain_names (drop (i + 1) classes)) ∙ (λ j. names ++ plain_names (sym seam j)) ∙ before

  pub is_new : IsDistinct bytes_eq (plain_names classes) → list_any (bytes_eq bytes) names ≡ false
  is_new distinct = apart names (plain_names (drop (i + 1) classes)) bytes (subst (IsDistinct bytes_eq) (sym joined) distinct)

  pub next_name : (after : List (List ℕ)) → after ≡ names ++ bytes ∷ [] → after ++ plain_names (drop (i + 1) classes) ≡ plain_names classes
  next_name after is =
      (λ j. is j ++ plain_names (drop (i + 1) classes)) ∙ append_assoc names (bytes ∷ []) (plain_names (drop (i + 1) classes)) ∙ joined

-- as many keys as classes
pub keys_few : {K : Type 0} (items : K → List ℕ) (keys : List K) (front : List ClassDef) (n : ℕ) → map items keys ≡ plain_names front →
    length front ≤ n → length keys ≤ n
keys_few items keys front n are few =
    subst (λ m. m ≤ n) (sym (sym (length-map keys items) ∙ ap length are ∙ length-map front (λ c. plain_name c.name))) few
