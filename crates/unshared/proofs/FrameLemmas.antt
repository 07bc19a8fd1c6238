-- What places stand at a level, where the outermost stand first, and the same with others there.
use Rattle.std.proofs.Common.{◌≡◌, ◌∙◌, ◌≢◌, ℕ, zero, suc, ◌+◌, ◌-◌, ◌<◌, ◌≤◌, get_or, List, [], ◌∷◌, ◌++◌, length, map, Bool, true, false, Some, None, slice_get, slice_set, if◌then◌else◌, ◌==◌, refl, sym, ap, arith, eqb-true, eq-eqb, length-append}
use Rattle.std.specs.Prelude.{reverse, option_map}
use Rattle.std.proofs.lemmas.List.{reverse-append, length-reverse, length-map}
use Rattle.std.proofs.lemmas.Bool.Decides.{nat_tests}
use Rattle.std.proofs.lemmas.Option.{slice_get-get_or}
use Rattle.cil_meaning.specs.Values.{Value}
use Rattle.cil_meaning.specs.Frames.{Places, places_at, with_places, with_held, with_fresh}
use Rattle.unshared.specs.Kept.{held_at, held_with, fresh_by, fresh_with}
use Rattle.unshared.proofs.PlaceLemmas.{got_map, got_later}
use Rattle.unshared.proofs.StackLemmas.{get-reverse}

-- the last of a list stands at level 0
last_at : (ys : List Places) (x : Places) → places_at (ys ++ x ∷ []) 0 ≡ Some x
last_at [] x = refl
last_at (y ∷ ys) x =
    let other : (0 == length (ys ++ x ∷ [])) ≡ false = let count = length-append ys (x ∷ []) in grind (arith, nat_tests) in
    ap (λ b. if b then Some y else places_at (ys ++ x ∷ []) 0) other ∙ last_at ys x

same_test : (a b c : ℕ) → c ≡ b + 1 → (suc a == c) ≡ (a == b)
same_test a b c e = by_test (a == b) refl
  where
    by_test : (d : Bool) → (a == b) ≡ d → (suc a == c) ≡ d
    by_test true h = let same : suc a ≡ c = let g = eqb-true a b h in omega arith in eq-eqb (suc a) c same
    by_test false h = grind (arith, nat_tests)

past_none : (a : ℕ) → (suc a == 0) ≡ false
past_none a = grind (arith, nat_tests)

before_at : (ys : List Places) (x : Places) (level : ℕ) → places_at (ys ++ x ∷ []) (suc level) ≡ places_at ys level
before_at [] x level = ap (λ b. if b then Some x else None) (past_none level)
before_at (y ∷ ys) x level =
    ap (λ b. if b then Some y else places_at (ys ++ x ∷ []) (suc level)) (same_test level (length ys) (length (ys ++ x ∷ [])) (length-append ys (x ∷ [])))
    ∙ ap (λ o. if level == length ys then Some y else o) (before_at ys x level)

pub at_level : (xs : List Places) (level : ℕ) → places_at (reverse xs) level ≡ slice_get xs level
at_level [] level = refl
at_level (x ∷ xs) zero = ap (λ l. places_at l 0) (reverse-append (x ∷ []) xs) ∙ last_at (reverse xs) x
at_level (x ∷ xs) (suc level) = ap (λ l. places_at l (suc level)) (reverse-append (x ∷ []) xs) ∙ before_at (reverse xs) x level ∙ at_level xs level

-- The innermost places, and those around them.
pub at_top : {X : Type 0} (f : X → Places) (p : Places) (xs : List X) (level : ℕ) → level ≡ length xs → places_at (p ∷ reverse (map f xs)) level ≡ Some p
at_top f p xs level e =
    let same : level ≡ length (reverse (map f xs)) = e ∙ sym (length-map xs f) ∙ sym (length-reverse (map f xs)) in
    ap (λ b. if b then Some p else places_at (reverse (map f xs)) level) (eq-eqb level (length (reverse (map f xs))) same)

pub at_outer : {X : Type 0} (f : X → Places) (p : Places) (xs : List X) (level : ℕ) → level ≢ length xs → places_at (p ∷ reverse (map f xs)) level ≡ option_map f (slice_get xs level)
at_outer f p xs level other =
    let count : length (reverse (map f xs)) ≡ length xs = length-reverse (map f xs) ∙ length-map xs f in
    let differs : (level == length (reverse (map f xs))) ≡ false = grind (arith, nat_tests) in
    ap (λ b. if b then Some p else places_at (reverse (map f xs)) level) differs ∙ at_level (map f xs) level ∙ got_map f xs level

-- The same with others there. ---------------------------------------------

last_with : (ys : List Places) (x new : Places) → with_places (ys ++ x ∷ []) 0 new ≡ ys ++ new ∷ []
last_with [] x new = refl
last_with (y ∷ ys) x new =
    let other : (0 == length (ys ++ x ∷ [])) ≡ false = let count = length-append ys (x ∷ []) in grind (arith, nat_tests) in
    ap (λ b. if b then new ∷ ys ++ x ∷ [] else y ∷ with_places (ys ++ x ∷ []) 0 new) other ∙ ap (λ l. y ∷ l) (last_with ys x new)

pushed_if : (b : Bool) (x y new : Places) (ys zs : List Places) → (if b then new ∷ ys ++ x ∷ [] else y ∷ zs ++ x ∷ []) ≡ (if b then new ∷ ys else y ∷ zs) ++ x ∷ []
pushed_if true x y new ys zs = refl
pushed_if false x y new ys zs = refl

before_with : (ys : List Places) (x new : Places) (level : ℕ) → with_places (ys ++ x ∷ []) (suc level) new ≡ with_places ys level new ++ x ∷ []
before_with [] x new level = ap (λ b. if b then new ∷ [] else x ∷ []) (past_none level)
before_with (y ∷ ys) x new level =
    ap (λ b. if b then new ∷ ys ++ x ∷ [] else y ∷ with_places (ys ++ x ∷ []) (suc level) new) (same_test level (length ys) (length (ys ++ x ∷ [])) (length-append ys (x ∷ [])))
    ∙ ap (λ l. if level == length ys then new ∷ ys ++ x ∷ [] else y ∷ l) (before_with ys x new level)
    ∙ pushed_if (level == length ys) x y new ys (with_places ys level new)

pub with_level : (xs : List Places) (level : ℕ) (new : Places) → with_places (reverse xs) level new ≡ reverse (slice_set xs level new)
with_level [] level new = refl
with_level (x ∷ xs) zero new = ap (λ l. with_places l 0 new) (reverse-append (x ∷ []) xs) ∙ last_with (reverse xs) x new ∙ sym (reverse-append (new ∷ []) xs)
with_level (x ∷ xs) (suc level) new =
    ap (λ l. with_places l (suc level) new) (reverse-append (x ∷ []) xs)
    ∙ before_with (reverse xs) x new level
    ∙ ap (λ l. l ++ x ∷ []) (with_level xs level new)
    ∙ sym (reverse-append (x ∷ []) (slice_set xs level new))

map_set : {X Y : Type 0} (f : X → Y) (xs : List X) (i : ℕ) (x : X) → map f (slice_set xs i x) ≡ slice_set (map f xs) i (f x)
map_set f [] i x = refl
map_set f (y ∷ xs) zero x = refl
map_set f (y ∷ xs) (suc i) x = ap (λ l. f y ∷ l) (map_set f xs i x)

pub set_held : {X Y : Type 0} (f : X → Y) (xs : List X) (i : ℕ) (x : X) → map f (slice_set xs i x) ≡ slice_set (map f xs) i (f x)
set_held f xs i x = map_set f xs i x

pub with_top : {X : Type 0} (f : X → Places) (p new : Places) (xs : List X) (level : ℕ) → level ≡ length xs → with_places (p ∷ reverse (map f xs)) level new ≡ new ∷ reverse (map f xs)
with_top f p new xs level e =
    let same : level ≡ length (reverse (map f xs)) = e ∙ sym (length-map xs f) ∙ sym (length-reverse (map f xs)) in
    ap (λ b. if b then new ∷ reverse (map f xs) else p ∷ with_places (reverse (map f xs)) level new) (eq-eqb level (length (reverse (map f xs))) same)

pub with_outer : {X : Type 0} (f : X → Places) (p : Places) (new : X) (xs : List X) (level : ℕ) → level ≢ length xs → with_places (p ∷ reverse (map f xs)) level (f new) ≡ p ∷ reverse (map f (slice_set xs level new))
with_outer f p new xs level other =
    let count : length (reverse (map f xs)) ≡ length xs = length-reverse (map f xs) ∙ length-map xs f in
    let differs : (level == length (reverse (map f xs))) ≡ false = grind (arith, nat_tests) in
    ap (λ b. if b then f new ∷ reverse (map f xs) else p ∷ with_places (reverse (map f xs)) level (f new)) differs
    ∙ ap (λ l. p ∷ l) (with_level (map f xs) level (f new) ∙ ap reverse (sym (map_set f xs level new)))

-- Where there are so many frames around. --------------------------------------

none_past : {X : Type 0} (xs : List X) (i : ℕ) → length xs ≤ i → slice_get xs i ≡ None
none_past [] i past = refl
none_past (x ∷ xs) zero past = absurd (omega (arith, past))
none_past (x ∷ xs) (suc i) past = none_past xs i (omega (arith, past))

pub there_outer : {X : Type 0} (f : X → Places) (p : Places) (xs : List X) (level : ℕ) (x d : X) → level ≢ length xs → level < length xs → x ≡ get_or xs level d → places_at (p ∷ reverse (map f xs)) level ≡ Some (f x)
there_outer f p xs level x d other below at = at_outer f p xs level other ∙ ap (option_map f) (slice_get-get_or xs level d below ∙ ap Some (sym at))

pub none_outer : {X : Type 0} (f : X → Places) (p : Places) (xs : List X) (level : ℕ) → level ≢ length xs → length xs ≤ level → places_at (p ∷ reverse (map f xs)) level ≡ None
none_outer f p xs level other past = at_outer f p xs level other ∙ ap (option_map f) (none_past xs level past)

pub held_outer : {X : Type 0} (f : X → Places) (p : Places) (xs : List X) (level place : ℕ) (v : Value) (x y d : X) → level ≢ length xs → level < length xs → x ≡ get_or xs level d → f y ≡ with_held (f x) place v →
    p ∷ reverse (map f (slice_set xs level y)) ≡ held_with (p ∷ reverse (map f xs)) level place v
held_outer f p xs level place v x y d other below at new =
    sym (ap (held_at (p ∷ reverse (map f xs)) level place v) (there_outer f p xs level x d other below at) ∙ ap (with_places (p ∷ reverse (map f xs)) level) (sym new) ∙ with_outer f p y xs level other)

pub fresh_outer : {X : Type 0} (f : X → Places) (p : Places) (xs : List X) (level : ℕ) (words : List ℕ) (x y d : X) → level ≢ length xs → level < length xs → x ≡ get_or xs level d → f y ≡ with_fresh (f x) words →
    p ∷ reverse (map f (slice_set xs level y)) ≡ fresh_with (p ∷ reverse (map f xs)) level words
fresh_outer f p xs level words x y d other below at new =
    sym (ap (fresh_by (p ∷ reverse (map f xs)) level words) (there_outer f p xs level x d other below at) ∙ ap (with_places (p ∷ reverse (map f xs)) level) (sym new) ∙ with_outer f p y xs level other)

pub held_none : {X : Type 0} (f : X → Places) (p : Places) (xs : List X) (level place : ℕ) (v : Value) → level ≢ length xs → length xs ≤ level → p ∷ reverse (map f xs) ≡ held_with (p ∷ reverse (map f xs)) level place v
held_none f p xs level place v other past = sym (ap (held_at (p ∷ reverse (map f xs)) level place v) (none_outer f p xs level other past))

pub fresh_none : {X : Type 0} (f : X → Places) (p : Places) (xs : List X) (level : ℕ) (words : List ℕ) → level ≢ length xs → length xs ≤ level → p ∷ reverse (map f xs) ≡ fresh_with (p ∷ reverse (map f xs)) level words
fresh_none f p xs level words other past = sym (ap (fresh_by (p ∷ reverse (map f xs)) level words) (none_outer f p xs level other past))

-- the frame around so many others
pub frame_around : {X Y : Type 0} (f : X → Y) (y : Y) (xs : List X) (passed : ℕ) (d : X) → passed ≢ 0 → passed ≤ length xs → slice_get (y ∷ reverse (map f xs)) passed ≡ Some (f (get_or xs (length xs - passed) d))
frame_around f y xs passed d some few =
    let inside : passed - 1 < length (map f xs) = omega (arith, some, few, length-map xs f) in
    let place : length (map f xs) - 1 - (passed - 1) ≡ length xs - passed = omega (arith, some, few, length-map xs f) in
    let within : length xs - passed < length xs = omega (arith, some, few) in
    got_later y (reverse (map f xs)) passed some ∙ get-reverse (map f xs) (passed - 1) inside ∙ ap (slice_get (map f xs)) place ∙ got_map f xs (length xs - passed)
    ∙ ap (option_map f) (slice_get-get_or xs (length xs - passed) d within)
