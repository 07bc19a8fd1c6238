-- A table of the first places of names, as names are added.
use Rattle.std.proofs.Common.{◌≡◌, ◌∙◌, ℕ, ◌+◌, Bool, true, false, cond, List, [], ◌∷◌, ◌++◌, length, map, take, slice_index_or, ◌<◌, ◌≤◌, Option, Some, None, is_some, refl, sym, ap, true≢false, bytes_eq, arith}
use Rattle.std.proofs.Common.{append_assoc, append-nil}
use Rattle.std.proofs.Math.ListN.{drop_of_length-le}
use Rattle.std.proofs.lemmas.List.{map-append, map_more, length-map, length-append, length-take-le, take-append-drop}
use Rattle.std.specs.Option.{option_or}
use Rattle.std.specs.List.{position_from}
use Rattle.std.specs.HashMap.{HashMap, get_by}
use Rattle.std.specs.Map.{lookup}
use Rattle.std.proofs.lemmas.Iterator.Adapters.{position_from-zero}
use Rattle.std.proofs.lemmas.Slice.Eq.{bytes_eq-Decides}
use Rattle.il_model.specs.Names.{place_of}
use Rattle.il_parse.specs.Scopes.{FindsPlaces}

place_from : {A : Type 0} (test : A → Bool) (from : ℕ) (xs : List A) (y : A) →
    position_from test from (xs ++ y ∷ []) ≡ option_or (position_from test from xs) (cond (test y) (Some (from + length xs)) None)
place_from test from [] y = let e : from ≡ from + 0 = omega arith in ap (λ n. cond (test y) (Some n) None) e
place_from test from (x ∷ xs) y = by (test x) (place_from test (from + 1) xs y)
  where
    by : (b : Bool) → position_from test (from + 1) (xs ++ y ∷ []) ≡ option_or (position_from test (from + 1) xs) (cond (test y) (Some (from + 1 + length xs)) None) →
        cond b (Some from) (position_from test (from + 1) (xs ++ y ∷ [])) ≡
        option_or (cond b (Some from) (position_from test (from + 1) xs)) (cond (test y) (Some (from + length (x ∷ xs))) None)
    by true rest = refl
    by false rest =
        let e : from + 1 + length xs ≡ from + length (x ∷ xs) = omega arith in
        rest ∙ ap (λ n. option_or (position_from test (from + 1) xs) (cond (test y) (Some n) None)) e

-- the place of a name where one more stands behind
place_push : (names : List (List ℕ)) (n q : List ℕ) → place_of (names ++ n ∷ []) q ≡ option_or (place_of names q) (cond (bytes_eq q n) (Some (length names)) None)
place_push names n q =
    let count : 0 + length names ≡ length names = omega arith in
    position_from-zero (λ known. bytes_eq q known) (names ++ n ∷ []) ∙ place_from (λ known. bytes_eq q known) 0 names n
    ∙ ap (λ k. option_or (position_from (λ known. bytes_eq q known) 0 names) (cond (bytes_eq q n) (Some k) None)) count
    ∙ ap (λ o. option_or o (cond (bytes_eq q n) (Some (length names)) None)) (sym (position_from-zero (λ known. bytes_eq q known) names))

-- a name that is there changes no place
same_place : (names : List (List ℕ)) (n q : List ℕ) (k : ℕ) → is_some (place_of names n) ≡ true →
    option_or (place_of names q) (cond (bytes_eq q n) (Some k) None) ≡ place_of names q
same_place names n q k some = by (place_of names q) refl (bytes_eq q n) refl
  where
    by : (r : Option ℕ) → place_of names q ≡ r → (b : Bool) → bytes_eq q n ≡ b → option_or r (cond b (Some k) None) ≡ r
    by (Some j) e b f = refl
    by None e false f = refl
    by None e true f = absurd (true≢false (sym some ∙ ap (λ m. is_some (place_of names m)) (sym ((bytes_eq-Decides q n).0 f)) ∙ ap is_some e))

lookup_push : {K X : Type 0} (test : K → Bool) (es : List (K × X)) (k : K) (x : X) →
    lookup test (es ++ (k, x) ∷ []) ≡ option_or (lookup test es) (cond (test k) (Some x) None)
lookup_push test [] k x = refl
lookup_push test (e ∷ es) k x = by (test e.0) (lookup_push test es k x)
  where
    by : (b : Bool) → lookup test (es ++ (k, x) ∷ []) ≡ option_or (lookup test es) (cond (test k) (Some x) None) →
        cond b (Some e.1) (lookup test (es ++ (k, x) ∷ [])) ≡ option_or (cond b (Some e.1) (lookup test es)) (cond (test k) (Some x) None)
    by true rest = refl
    by false rest = rest

module _ {K S : Type 0} (items : K → List ℕ) where
  -- a name that the table has changes nothing
  pub places_kept : (table : HashMap K ℕ S) (names : List (List ℕ)) (n : List ℕ) → is_some (get_by (λ k. bytes_eq n (items k)) table) ≡ true →
      FindsPlaces items table names → FindsPlaces items table (names ++ n ∷ [])
  places_kept table names n some finds = record {
    place = λ q. finds.place q ∙ sym (place_push names n q ∙ same_place names n q (length names) (sym (ap is_some (finds.place n)) ∙ some));
  }

  -- a new name goes to the end
  pub places_added : (old new : HashMap K ℕ S) (names : List (List ℕ)) (n : List ℕ) (k : K) (number : ℕ) → new.entries ≡ old.entries ++ (k, number) ∷ [] →
      items k ≡ n → length names ≡ number → FindsPlaces items old names → FindsPlaces items new (names ++ n ∷ [])
  places_added old new names n k number grown is long finds = record {
    place = λ q. ap (lookup (λ y. bytes_eq q (items y))) grown ∙ lookup_push (λ y. bytes_eq q (items y)) old.entries k number
        ∙ (λ i. option_or (finds.place q i) (cond (bytes_eq q (is i)) (Some (sym long i)) None)) ∙ sym (place_push names n q);
  }

-- nothing is there where it isn't some
pub none_of : {A : Type 0} (o : Option A) → is_some o ≡ false → o ≡ None
none_of None e = refl
none_of (Some x) e = absurd (true≢false e)

-- names behind others, as one more is taken
module _ {A : Type 0} (p : List ℕ → List ℕ) (front : List (List ℕ)) (f : A → List ℕ) (xs : List A) (i : ℕ) where
  pub names_next : (x : A) → i < length xs → x ≡ slice_index_or xs i x →
      map p (front ++ map f (take i xs)) ++ p (f x) ∷ [] ≡ map p (front ++ map f (take (i + 1) xs))
  names_next x inside is =
      sym (map-append p (front ++ map f (take i xs)) (f x ∷ []))
      ∙ ap (map p) (append_assoc front (map f (take i xs)) (f x ∷ []))
      ∙ ap (λ y. map p (front ++ (map f (take i xs) ++ f y ∷ []))) is
      ∙ ap (λ ys. map p (front ++ ys)) (sym (map_more f xs i x inside))

  pub names_count : i < length xs → length (map p (front ++ map f (take i xs))) ≡ length front + i
  names_count inside =
      let few : i ≤ length xs = omega (arith, inside) in
      length-map (front ++ map f (take i xs)) p ∙ length-append front (map f (take i xs))
      ∙ ap (λ n. length front + n) (length-map (take i xs) f ∙ length-take-le i xs few)

pub take_all : {A : Type 0} (xs : List A) (n : ℕ) → length xs ≤ n → take n xs ≡ xs
take_all xs n past = sym (append-nil (take n xs)) ∙ ap (λ ys. take n xs ++ ys) (sym (drop_of_length-le xs past)) ∙ take-append-drop n xs
