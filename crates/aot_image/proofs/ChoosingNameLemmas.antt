-- Tables of the first places of names, and of how often they came, as names are added.
use Rattle.std.proofs.Common.{◌≡◌, ◌∙◌, ℕ, ◌+◌, Bool, true, false, cond, List, [], ◌∷◌, ◌++◌, length, map, take, slice_index_or, ◌<◌, ◌≤◌, Option, Some, None, is_some, refl, sym, ap, true≢false, bytes_eq, arith}
use Rattle.std.proofs.Common.{append_assoc, append-nil, subst, unwrap_or, nat_lt, count_by}
use Rattle.std.proofs.lemmas.Bool.{ltb-true}
use Rattle.std.proofs.lemmas.List.{take_more}
use Rattle.std.proofs.lemmas.List.Sums.{sum_by-append}
use Rattle.std.specs.Cmp.Lexicographic.{nat_list_eq_equiv}
use Rattle.il_model.specs.declared.class.ClassDef.{ClassDef}
use Rattle.il_model.specs.declared.method.MethodDef.{MethodDef}
use Rattle.il_model.specs.declared.program.Program.{Program}
use Rattle.std.proofs.lemmas.List.{map-append, length-map, length-take-le}
use Rattle.std.specs.Option.{option_or}
use Rattle.std.specs.List.{position_from, position_or_len}
use Rattle.std.specs.HashMap.{HashMap, get_by}
use Rattle.std.specs.Map.{lookup}
use Rattle.std.proofs.lemmas.Iterator.Adapters.{position_from-zero}
use Rattle.std.proofs.lemmas.Slice.Eq.{bytes_eq-Decides}
use Rattle.il_model.specs.Spellings.{plain_name}
use Rattle.il_model.specs.Names.{place_of, plain_names}
use Rattle.aot_image.specs.ChoosingMethods.{short_text_of, full_text_behind, full_texts_behind}
use Rattle.aot_image.specs.ChoosingNames.{FindsPlaces, Counts}

place_from : {A : Type 0} (test : A → Bool) (from : ℕ) (xs : List A) (y : A) →
    position_from test from (xs ++ y ∷ []) ≡ option_or (position_from test from xs) (cond (test y) (Some (from + length xs)) None)
place_from test from [] y = let e : from ≡ from + 0 = omega arith in ap (λ n. cond (test y) (Some n) None) e
place_from test from (x ∷ xs) y = by (test x) (place_from test (from + 1) xs y)
  where
    by : (b : Bool) → position_from test (from + 1) (xs ++ y ∷ []) ≡ option_or (position_from test (from + 1) xs) (cond (test y) (Some (from + 1 + length xs)) None) →
        cond b (Some from) (position_from test (from + 1) (xs ++ y ∷ [])) ≡
        option_or (cond b (Some from) (position_from test (from + 1) xs)) (cond (test y) (Some (from + length (x ∷ xs))) None)
    by true rest = refl
    by false rest =
        let e : from + 1 + length xs ≡ from + length (x ∷ xs) = omega arith in
        rest ∙ ap (λ n. option_or (position_from test (from + 1) xs) (cond (test y) (Some n) None)) e

-- the place of a name where one more stands behind
place_push : (names : List (List ℕ)) (n q : List ℕ) → place_of (names ++ n ∷ []) q ≡ option_or (place_of names q) (cond (bytes_eq q n) (Some (length names)) None)
place_push names n q =
    let count : 0 + length names ≡ length names = omega arith in
    position_from-zero (λ known. bytes_eq q known) (names ++ n ∷ []) ∙ place_from (λ known. bytes_eq q known) 0 names n
    ∙ ap (λ k. option_or (position_from (λ known. bytes_eq q known) 0 names) (cond (bytes_eq q n) (Some k) None)) count
    ∙ ap (λ o. option_or o (cond (bytes_eq q n) (Some (length names)) None)) (sym (position_from-zero (λ known. bytes_eq q known) names))

-- a name that is there changes no place
same_place : (names : List (List ℕ)) (n q : List ℕ) (k : ℕ) → is_some (place_of names n) ≡ true →
    option_or (place_of names q) (cond (bytes_eq q n) (Some k) None) ≡ place_of names q
same_place names n q k some = by (place_of names q) refl (bytes_eq q n) refl
  where
    by : (r : Option ℕ) → place_of names q ≡ r → (b : Bool) → bytes_eq q n ≡ b → option_or r (cond b (Some k) None) ≡ r
    by (Some j) e b f = refl
    by None e false f = refl
    by None e true f = absurd (true≢false (sym some ∙ ap (λ m. is_some (place_of names m)) (sym ((bytes_eq-Decides q n).0 f)) ∙ ap is_some e))

lookup_push : {K X : Type 0} (test : K → Bool) (es : List (K × X)) (k : K) (x : X) →
    lookup test (es ++ (k, x) ∷ []) ≡ option_or (lookup test es) (cond (test k) (Some x) None)
lookup_push test [] k x = refl
lookup_push test (e ∷ es) k x = by (test e.0) (lookup_push test es k x)
  where
    by : (b : Bool) → lookup test (es ++ (k, x) ∷ []) ≡ option_or (lookup test es) (cond (test k) (Some x) None) →
        cond b (Some e.1) (lookup test (es ++ (k, x) ∷ [])) ≡ option_or (cond b (Some e.1) (lookup test es)) (cond (test k) (Some x) None)
    by true rest = refl
    by false rest = rest

module _ {K S : Type 0} (items : K → List ℕ) where
  -- a name that the table has changes nothing
  pub places_kept : (table : HashMap K ℕ S) (names : List (List ℕ)) (n : List ℕ) → is_some (get_by (λ k. bytes_eq n (items k)) table) ≡ true →
      FindsPlaces items table names → FindsPlaces items table (names ++ n ∷ [])
  places_kept table names n some finds = record {
    place = λ q. finds.place q ∙ sym (place_push names n q ∙ same_place names n q (length names) (sym (ap is_some (finds.place n)) ∙ some));
  }

  -- a new name goes to the end
  pub places_added : (old new : HashMap K ℕ S) (names : List (List ℕ)) (n : List ℕ) (k : K) (number : ℕ) → new.entries ≡ old.entries ++ (k, number) ∷ [] →
      items k ≡ n → length names ≡ number → FindsPlaces items old names → FindsPlaces items new (names ++ n ∷ [])
  places_added old new names n k number grown is long finds = record {
    place = λ q. ap (lookup (λ y. bytes_eq q (items y))) grown ∙ lookup_push (λ y. bytes_eq q (items y)) old.entries k number
        ∙ (λ i. option_or (finds.place q i) (cond (bytes_eq q (is i)) (Some (sym long i)) None)) ∙ sym (place_push names n q);
  }

-- nothing is there where it isn't some
pub none_of : {A : Type 0} (o : Option A) → is_some o ≡ false → o ≡ None
none_of None e = refl
none_of (Some x) e = absurd (true≢false e)

some_same : {A : Type 0} (x y : A) → Some x ≡ Some y → x ≡ y
some_same x y e = ap (λ o. unwrap_or o x) e

-- a place is one of the list
pub place_within : (names : List (List ℕ)) (name : List ℕ) (n : ℕ) → place_of names name ≡ Some n → n < length names
place_within names name n is = by (nat_lt (position_or_len (λ known. bytes_eq name known) names) (length names)) refl is
  where
    by : (b : Bool) → nat_lt (position_or_len (λ known. bytes_eq name known) names) (length names) ≡ b →
        cond b (Some (position_or_len (λ known. bytes_eq name known) names)) None ≡ Some n → n < length names
    by true e f = subst (λ k. k < length names) (some_same _ _ f) (ltb-true _ _ e)
    by false e f = absurd cc

-- ---- counts

module _ {K : Type 0} (items : K → List ℕ) where
  abbrev same : K → K → Bool
  same a b = bytes_eq (items a) (items b)

  by_same : (b : Bool) (k q : K) (n : ℕ) (names : List (List ℕ)) (before : Option ℕ) → same k q ≡ b →
      n ≡ count_by (bytes_eq (items k)) names → unwrap_or before 0 ≡ count_by (bytes_eq (items q)) names →
      unwrap_or (cond b (Some (n + 1)) before) 0 ≡ count_by (bytes_eq (items q)) names + (0 + cond b 1 0)
  by_same true k q n names before e is has =
      let equal : items k ≡ items q = (bytes_eq-Decides (items k) (items q)).0 e in
      let count : n ≡ count_by (bytes_eq (items q)) names = is ∙ ap (λ t. count_by (bytes_eq t) names) equal in
      omega arith
  by_same false k q n names before e is has =
      let none : count_by (bytes_eq (items q)) names ≡ count_by (bytes_eq (items q)) names + (0 + 0) = omega arith in has ∙ none

module _ {K S : Type 0} (items : K → List ℕ) where
  pub counts_more : (old new : HashMap K ℕ S) (k : K) (n : ℕ) (names : List (List ℕ)) →
      unwrap_or (get_by (same items k) old) 0 ≡ n → ((q : K) → get_by (same items q) new ≡ cond (same items k q) (Some (n + 1)) (get_by (same items q) old)) →
      Counts items old names → Counts items new (names ++ items k ∷ [])
  counts_more old new k n names is updates counts = record {
    count = λ q. ap (λ o. unwrap_or o 0) (updates q)
        ∙ by_same items (same items k q) k q n names (get_by (same items q) old) refl (sym is ∙ counts.count k) (counts.count q)
        ∙ ap (λ b. count_by (bytes_eq (items q)) names + (0 + cond b 1 0)) (nat_list_eq_equiv.symm (items k) (items q))
        ∙ sym (sum_by-append (λ t. cond (bytes_eq (items q) t) 1 0) names (items k ∷ []));
  }

-- ---- the texts of methods, as one more is taken

texts_push : (program : Program) (before ms : List MethodDef) (m : MethodDef) →
    full_texts_behind program before (ms ++ m ∷ []) ≡ full_texts_behind program before ms ++ full_text_behind program (before ++ ms) m ∷ []
texts_push program before [] m = ap (λ b. full_text_behind program b m ∷ []) (sym (append-nil before))
texts_push program before (x ∷ xs) m =
    ap (λ ts. full_text_behind program before x ∷ ts) (texts_push program (before ++ x ∷ []) xs m)
    ∙ ap (λ b. full_text_behind program before x ∷ (full_texts_behind program (before ++ x ∷ []) xs ++ full_text_behind program b m ∷ [])) (append_assoc before (x ∷ []) xs)

pub texts_next : (program : Program) (ms : List MethodDef) (i : ℕ) (m : MethodDef) → i < length ms → m ≡ slice_index_or ms i m →
    full_texts_behind program [] (take i ms) ++ full_text_behind program (take i ms) m ∷ [] ≡ full_texts_behind program [] (take (i + 1) ms)
texts_next program ms i m inside is =
    sym (texts_push program [] (take i ms) m) ∙ ap (λ x. full_texts_behind program [] (take i ms ++ x ∷ [])) is
    ∙ ap (full_texts_behind program []) (sym (take_more ms i m inside))

pub texts_count : (program : Program) (before ms : List MethodDef) → length (full_texts_behind program before ms) ≡ length ms
texts_count program before [] = refl
texts_count program before (m ∷ ms) = let rest = texts_count program (before ++ m ∷ []) ms in omega arith

-- what the tables of places and of counts have of these methods
pub record HasTexts {K S : Type 0} (items : K → List ℕ) (program : Program) (before : List MethodDef) (places counts : HashMap K ℕ S) : Type 0 where
  pub found : FindsPlaces items places (full_texts_behind program [] before)
  pub counted : Counts items counts (map (short_text_of program) before)

pub length_plain : (classes : List ClassDef) → length (plain_names classes) ≡ length classes
length_plain classes = length-map classes (λ c. plain_name c.name)

take_next : {A : Type 0} (xs : List A) (i : ℕ) (x : A) → i < length xs → x ≡ slice_index_or xs i x → take i xs ++ x ∷ [] ≡ take (i + 1) xs
take_next xs i x inside is = ap (λ y. take i xs ++ y ∷ []) is ∙ sym (take_more xs i x inside)

count_taken : {A : Type 0} (xs : List A) (i : ℕ) → i < length xs → length (take i xs) ≡ i
count_taken xs i inside = let few : i ≤ length xs = omega (arith, inside) in length-take-le i xs few

module _ {K S : Type 0} (items : K → List ℕ) where
  -- the table with one class more
  pub class_step : (old new : HashMap K ℕ S) (classes : List ClassDef) (i : ℕ) (c : ClassDef) (name : List ℕ) → i < length classes → c ≡ slice_index_or classes i c →
      name ≡ plain_name c.name → FindsPlaces items old (plain_names (take i classes)) →
      ((names : List (List ℕ)) → length names ≡ i → FindsPlaces items old names → FindsPlaces items new (names ++ name ∷ [])) →
      FindsPlaces items new (plain_names (take (i + 1) classes))
  class_step old new classes i c name inside is named finds adds =
      subst (FindsPlaces items new)
      (ap (λ n. plain_names (take i classes) ++ n ∷ []) named ∙ sym (map-append (λ d. plain_name d.name) (take i classes) (c ∷ [])) ∙ ap plain_names (take_next classes i c inside is))
      (adds (plain_names (take i classes)) (length_plain (take i classes) ∙ count_taken classes i inside) finds)

  -- the tables with one method more
  pub method_step : (program : Program) (old_places new_places old_counts new_counts : HashMap K ℕ S) (ms : List MethodDef) (i : ℕ) (m : MethodDef) (text : List ℕ) →
      i < length ms → m ≡ slice_index_or ms i m → HasTexts items program (take i ms) old_places old_counts →
      ((before : List MethodDef) → Counts items old_counts (map (short_text_of program) before) → Counts items new_counts (map (short_text_of program) (before ++ m ∷ []))) →
      ((before : List MethodDef) → Counts items old_counts (map (short_text_of program) before) → text ≡ full_text_behind program before m) →
      ((names : List (List ℕ)) → length names ≡ i → FindsPlaces items old_places names → FindsPlaces items new_places (names ++ text ∷ [])) →
      HasTexts items program (take (i + 1) ms) new_places new_counts
  method_step program old_places new_places old_counts new_counts ms i m text inside is has counts texts adds = record {
    found = subst (FindsPlaces items new_places)
        (ap (λ t. full_texts_behind program [] (take i ms) ++ t ∷ []) (texts (take i ms) has.counted) ∙ texts_next program ms i m inside is)
        (adds (full_texts_behind program [] (take i ms)) (texts_count program [] (take i ms) ∙ count_taken ms i inside) has.found);
    counted = subst (λ taken. Counts items new_counts (map (short_text_of program) taken)) (take_next ms i m inside is) (counts (take i ms) has.counted);
  }
