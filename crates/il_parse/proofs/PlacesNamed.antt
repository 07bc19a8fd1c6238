-- Labels and literals stand for just the numbers that their look-up finds, where they differ from each other.
use Rattle.std.proofs.Common.{◌≡◌, ℕ, zero, suc, ◌<◌, Bool, true, false, cond, ◌||◌, List, [], ◌∷◌, length, map, Some, None, Ok, refl, sym, ap, subst, ◌∙◌, bytes_eq, inl, inr, arith, one-add, slice_get, find, option_map, Contains, position}
use Rattle.std.specs.List.{AllByRecursion, IsDistinct, list_any, position_or_len}
use Rattle.std.proofs.lemmas.Bool.{true≢false, cases_Bool, or_left, or_right, lt-ltb}
use Rattle.std.proofs.lemmas.Bool.Decides.{same_from_decides, Decides-like}
use Rattle.std.proofs.lemmas.Slice.Eq.{bytes_eq-Decides}
use Rattle.il_model.specs.declared.written.WrittenName.{WrittenName}
use Rattle.il_model.specs.Lexemes.{is_among}
use Rattle.il_model.specs.Names.{place_of}
use Rattle.il_model.specs.LookUp.{NamesLabel, first_uses}
use Rattle.il_parse.specs.Looking.{found_or_unknown}
use Rattle.il_parse.specs.NamedBodies.{number_of_label, label_named}
use Rattle.il_parse.proofs.Finding.{some_is, none_is, found_in, made, all_contains, all_map}
use Rattle.il_parse.proofs.FreshLists.{Fresh, fresh_distinct}
use Rattle.il_parse.proofs.LookSteps.{known_is}

pub same_bytes : (a : List ℕ) → bytes_eq a a ≡ true
same_bytes a = (bytes_eq-Decides a a).1 refl

bytes_flip : (a b : List ℕ) → bytes_eq a b ≡ bytes_eq b a
bytes_flip a b = same_from_decides (bytes_eq a b) (bytes_eq b a) (bytes_eq-Decides a b) (Decides-like (bytes_eq b a) (λ e. sym e) (λ e. sym e) (bytes_eq-Decides b a))

-- labels

pub label_sound : (labels : List (List ℕ × ℕ)) (l : WrittenName) (number : ℕ) → label_named labels l ≡ Ok number → NamesLabel labels l number
unfolding label_named
label_sound labels l number e =
    let m = made (λ r. r.1) (find (λ r. bytes_eq r.0 l.name) labels) number (known_is (number_of_label labels l.name) l number e) in
    let f = found_in (λ r. bytes_eq r.0 l.name) labels m.item m.found in
    subst (λ n. Contains labels (n, number)) ((bytes_eq-Decides m.item.0 l.name).0 f.1) (subst (λ k. Contains labels (m.item.0, k)) m.gives f.0)

all_unmapped : {X Y : Type 0} (P : Y → Type 0) (f : X → Y) (xs : List X) → AllByRecursion P (map f xs) → AllByRecursion (λ x. P (f x)) xs
all_unmapped P f [] all = tt
all_unmapped P f (x ∷ xs) all = (all.0, all_unmapped P f xs all.1)

-- the label of a name is the only one
one_label : (labels : List (List ℕ × ℕ)) (row : List ℕ × ℕ) → IsDistinct bytes_eq (map (λ l. l.0) labels) → Contains labels row →
    find (λ l. bytes_eq l.0 row.0) labels ≡ Some row
unfolding IsDistinct
one_label [] row distinct (k, inside, is) = absurd (omega (arith, inside))
one_label (l ∷ labels) row distinct (zero, inside, is) = rw ((bytes_eq-Decides l.0 row.0).1 (ap (λ r. r.0) is)) (ap Some is)
one_label (l ∷ labels) row distinct (suc k, inside, is) =
    let later : Contains labels row = (k, omega (arith, inside), is) in
    let other = all_contains (λ r. bytes_eq l.0 r.0 ≡ false) labels row (all_unmapped (λ n. bytes_eq l.0 n ≡ false) (λ r. r.0) labels distinct.0) later in
    rw other (one_label labels row distinct.1 later)

pub label_complete : (labels : List (List ℕ × ℕ)) → IsDistinct bytes_eq (map (λ l. l.0) labels) → (l : WrittenName) (number : ℕ) → NamesLabel labels l number →
    label_named labels l ≡ Ok number
unfolding label_named
label_complete labels distinct l number names = ap (λ o. found_or_unknown (option_map (λ r. r.1) o) l) (one_label labels (l.name, number) distinct names)

-- literals

-- the first place at which a test passes
record Placed {X : Type 0} (p : X → Bool) (xs : List X) : Type 0 where
  item : X
  passes : p item ≡ true
  at : slice_get xs (position_or_len p xs) ≡ Some item
  inside : position_or_len p xs < length xs

placed : {X : Type 0} (p : X → Bool) (xs : List X) → list_any p xs ≡ true → Placed p xs
placed p [] e = absurd (true≢false (sym e))
placed p (x ∷ xs) e =
    elim (cases_Bool (p x)) [
      | inl hit ↦ record { item = x; passes = hit; at = rw hit refl; inside = rw hit (omega arith) }
      | inr miss ↦
          let r = placed p xs (rw miss at e) in
          record { item = r.item; passes = r.passes; at = rw (miss, one-add) r.at; inside = rw miss (omega (arith, r.inside)) }
    ]

position-inside : {X : Type 0} (p : X → Bool) (xs : List X) → position_or_len p xs < length xs → position p xs ≡ Some (position_or_len p xs)
position-inside p xs inside = ap (λ b. cond b (Some (position_or_len p xs)) None) (lt-ltb (position_or_len p xs) (length xs) inside)

among_flip : (literals : List (List ℕ)) (bytes : List ℕ) → is_among literals bytes ≡ list_any (λ known. bytes_eq bytes known) literals
among_flip [] bytes = refl
among_flip (l ∷ literals) bytes = ap (λ b. b || is_among literals bytes) (bytes_flip l bytes) ∙ ap (λ b. bytes_eq bytes l || b) (among_flip literals bytes)

-- a literal with its number
pub record Literal (literals : List (List ℕ)) (bytes : List ℕ) : Type 0 where
  pub number : ℕ
  pub place : place_of literals bytes ≡ Some number
  pub at : slice_get literals number ≡ Some bytes

pub literal_sound : (literals : List (List ℕ)) (bytes : List ℕ) → is_among literals bytes ≡ true → Literal literals bytes
literal_sound literals bytes e =
    let p = placed (λ known. bytes_eq bytes known) literals (sym (among_flip literals bytes) ∙ e) in
    record {
      number = position_or_len (λ known. bytes_eq bytes known) literals;
      place = position-inside (λ known. bytes_eq bytes known) literals p.inside;
      at = p.at ∙ ap Some (sym ((bytes_eq-Decides bytes p.item).0 p.passes));
    }

all_got : {X : Type 0} (P : X → Type 0) (xs : List X) (k : ℕ) (x : X) → AllByRecursion P xs → slice_get xs k ≡ Some x → P x
all_got P [] k x all e = none_is x e
all_got P (y ∷ xs) zero x all e = subst P (some_is y x e) all.0
all_got P (y ∷ xs) (suc k) x all e = all_got P xs k x all.1 e

-- literals that differ are found at their own places
literal_place : (literals : List (List ℕ)) (number : ℕ) (bytes : List ℕ) → IsDistinct bytes_eq literals → slice_get literals number ≡ Some bytes →
    (position_or_len (λ known. bytes_eq bytes known) literals ≡ number) × (number < length literals)
unfolding IsDistinct
literal_place [] number bytes distinct e = none_is bytes e
literal_place (l ∷ literals) zero bytes distinct e =
    let hit : bytes_eq bytes l ≡ true = (bytes_eq-Decides bytes l).1 (sym (some_is l bytes e)) in
    (rw hit refl, omega arith)
literal_place (l ∷ literals) (suc number) bytes distinct e =
    let r = literal_place literals number bytes distinct.1 e in
    let miss : bytes_eq bytes l ≡ false = bytes_flip bytes l ∙ all_got (λ y. bytes_eq l y ≡ false) literals number bytes distinct.0 e in
    (rw (miss, one-add) (ap suc r.0), omega (arith, r.1))

pub literal_complete : (literals : List (List ℕ)) (number : ℕ) (bytes : List ℕ) → IsDistinct bytes_eq literals → slice_get literals number ≡ Some bytes →
    place_of literals bytes ≡ Some number
literal_complete literals number bytes distinct e =
    let r = literal_place literals number bytes distinct e in
    position-inside (λ known. bytes_eq bytes known) literals (omega (arith, r.0, r.1)) ∙ ap Some r.0

-- the texts in order of first use

first_fresh : (met texts : List (List ℕ)) → Fresh bytes_eq met (first_uses met texts)
first_fresh met [] = tt
first_fresh met (text ∷ texts) =
    elim (cases_Bool (is_among met text)) [
      | inl hit ↦ rw hit (first_fresh met texts)
      | inr miss ↦ rw miss (miss, first_fresh (text ∷ met) texts)
    ]

pub first_distinct : (texts : List (List ℕ)) → IsDistinct bytes_eq (first_uses [] texts)
first_distinct texts = fresh_distinct bytes_eq [] (first_uses [] texts) (first_fresh [] texts)

or_moved : (a b c : Bool) → ((a || b) || c) ≡ true → (b || (a || c)) ≡ true
or_moved true true c e = refl
or_moved true false c e = refl
or_moved false true c e = refl
or_moved false false c e = e

-- each text is among those met before or the first uses
uses : (met texts : List (List ℕ)) → AllByRecursion (λ t. (is_among met t || is_among (first_uses met texts) t) ≡ true) texts
uses met [] = tt
uses met (text ∷ texts) =
    elim (cases_Bool (is_among met text)) [
      | inl hit ↦
          let same : first_uses met (text ∷ texts) ≡ first_uses met texts = rw hit refl in
          subst (λ us. AllByRecursion (λ t. (is_among met t || is_among us t) ≡ true) (text ∷ texts)) (sym same)
          (or_left (is_among met text) (is_among (first_uses met texts) text) hit, uses met texts)
      | inr miss ↦
          let later : List (List ℕ) = first_uses (text ∷ met) texts in
          let same : first_uses met (text ∷ texts) ≡ text ∷ later = rw miss refl in
          subst (λ us. AllByRecursion (λ t. (is_among met t || is_among us t) ≡ true) (text ∷ texts)) (sym same) (
            or_right (is_among met text) (is_among (text ∷ later) text) (or_left (bytes_eq text text) (is_among later text) (same_bytes text)),
            all_map (λ t. (is_among (text ∷ met) t || is_among later t) ≡ true) (λ t. (is_among met t || is_among (text ∷ later) t) ≡ true)
                (λ t e. or_moved (bytes_eq text t) (is_among met t) (is_among later t) e) texts (uses (text ∷ met) texts),
          )
    ]

pub all_used : (texts : List (List ℕ)) → AllByRecursion (λ t. is_among (first_uses [] texts) t ≡ true) texts
all_used texts = uses [] texts
