-- Stacks and frames whose top stands last, seen with the top first.
use Rattle.std.proofs.Common.{◌≡◌, ◌∙◌, ℕ, ◌-◌, ◌<◌, ◌≤◌, List, [], ◌∷◌, ◌++◌, length, take, drop, map, Some, Bool, true, false, nat_le, ⊎_elim, refl, sym, ap, arith}
use Rattle.std.specs.Prelude.{reverse, slice_get, slice_range, Ok}
use Rattle.std.proofs.lemmas.List.{get_or-reverse, length-reverse, reverse-append, take-append-drop, length-drop, drop_all, length-map, map-append, take-map, take_all, take_at, reverse-reverse}
use Rattle.std.proofs.lemmas.Option.{slice_get-get_or}
use Rattle.std.proofs.lemmas.Bool.Decides.{leb_tells, nat_tests}
use Rattle.cil_meaning.specs.Values.{Value}
use Rattle.unshared.specs.Silent.{where_so}
use Rattle.std.proofs.Math.Seq.{drop-append_seam}

-- an item by its place from the other end
pub get-reverse : {X : Type 0} (xs : List X) (i : ℕ) → i < length xs → slice_get (reverse xs) i ≡ slice_get xs (length xs - 1 - i)
get-reverse [] i inside = absurd (omega (arith, inside))
get-reverse (x ∷ xs) i inside =
    let within : i < length (reverse (x ∷ xs)) = omega (arith, inside, length-reverse (x ∷ xs)) in
    let place : length (x ∷ xs) - 1 - i < length (x ∷ xs) = omega (arith, inside) in
    slice_get-get_or (reverse (x ∷ xs)) i x within ∙ ap Some (get_or-reverse (x ∷ xs) i x inside) ∙ sym (slice_get-get_or (x ∷ xs) (length (x ∷ xs) - 1 - i) x place)

-- without so many of the last items
pub drop-reverse : {X : Type 0} (xs : List X) (n : ℕ) → n ≤ length xs → drop n (reverse xs) ≡ reverse (take (length xs - n) xs)
drop-reverse xs n few =
    let less : length xs - (length xs - n) ≡ n = omega (arith, few) in
    let count : length (reverse (drop (length xs - n) xs)) ≡ n = length-reverse (drop (length xs - n) xs) ∙ length-drop (length xs - n) xs ∙ less in
    let whole : reverse xs ≡ reverse (drop (length xs - n) xs) ++ reverse (take (length xs - n) xs) = ap reverse (sym (take-append-drop (length xs - n) xs)) ∙ reverse-append (take (length xs - n) xs) (drop (length xs - n) xs) in
    ap (drop n) whole
    ∙ ap (λ k. drop k (reverse (drop (length xs - n) xs) ++ reverse (take (length xs - n) xs))) (sym count)
    ∙ drop-append_seam (reverse (drop (length xs - n) xs)) (reverse (take (length xs - n) xs))

-- a stack without so many of its values
pub shortened : {X Y : Type 0} (f : X → Y) (xs : List X) (n : ℕ) → drop n (reverse (map f xs)) ≡ reverse (map f (take (length xs - n) xs))
shortened f xs n = by_count (nat_le n (length xs)) refl
  where
    few : n ≤ length xs → drop n (reverse (map f xs)) ≡ reverse (map f (take (length xs - n) xs))
    few h =
        let within : n ≤ length (map f xs) = omega (arith, h, length-map xs f) in
        drop-reverse (map f xs) n within ∙ ap (λ k. reverse (take (k - n) (map f xs))) (length-map xs f) ∙ ap reverse (take-map f (length xs - n) xs)

    many : length xs < n → drop n (reverse (map f xs)) ≡ reverse (map f (take (length xs - n) xs))
    many h =
        let past : length (reverse (map f xs)) ≤ n = omega (arith, h, length-reverse (map f xs), length-map xs f) in
        let none : length xs - n ≡ 0 = omega (arith, h) in
        drop_all n (reverse (map f xs)) past ∙ ap (λ k. reverse (map f (take k xs))) (sym none)

    by_count : (b : Bool) → nat_le n (length xs) ≡ b → drop n (reverse (map f xs)) ≡ reverse (map f (take (length xs - n) xs))
    by_count b e = ⊎_elim (λ (h : (nat_le n (length xs) ≡ true) × (n ≤ length xs)). few h.1) (λ (h : (nat_le n (length xs) ≡ false) × (length xs < n)). many h.1) (leb_tells n (length xs))

-- a stack with one value more
pub pushed_on : {X Y : Type 0} (f : X → Y) (xs : List X) (x : X) → reverse (map f (xs ++ x ∷ [])) ≡ f x ∷ reverse (map f xs)
pushed_on f xs x = ap reverse (map-append f xs (x ∷ [])) ∙ reverse-append (map f xs) (f x ∷ [])

-- so many values from the top, the deepest first
pub took : {X Y : Type 0} (f : X → Y) (xs : List X) (n : ℕ) → n ≤ length xs → map f (slice_range xs (length xs - n) (length xs)) ≡ reverse (take n (reverse (map f xs)))
took f xs n few =
    let count : length xs - (length xs - n) ≡ n = omega (arith, few) in
    let rest : length (drop (length xs - n) xs) ≤ n = omega (arith, few, length-drop (length xs - n) xs) in
    let whole : slice_range xs (length xs - n) (length xs) ≡ drop (length xs - n) xs = ap (λ k. take k (drop (length xs - n) xs)) count ∙ take_all n (drop (length xs - n) xs) rest in
    let back : length (map f (drop (length xs - n) xs)) ≡ n = length-map (drop (length xs - n) xs) f ∙ length-drop (length xs - n) xs ∙ count in
    let split : map f xs ≡ map f (take (length xs - n) xs) ++ map f (drop (length xs - n) xs) = ap (map f) (sym (take-append-drop (length xs - n) xs)) ∙ map-append f (take (length xs - n) xs) (drop (length xs - n) xs) in
    let turned : reverse (map f xs) ≡ reverse (map f (drop (length xs - n) xs)) ++ reverse (map f (take (length xs - n) xs)) = ap reverse split ∙ reverse-append (map f (take (length xs - n) xs)) (map f (drop (length xs - n) xs)) in
    let size : length (reverse (map f (drop (length xs - n) xs))) ≡ n = length-reverse (map f (drop (length xs - n) xs)) ∙ back in
    let front : take n (reverse (map f xs)) ≡ reverse (map f (drop (length xs - n) xs)) = ap (take n) turned ∙ take_at (reverse (map f (drop (length xs - n) xs))) (reverse (map f (take (length xs - n) xs))) n size in
    ap (map f) whole ∙ sym (reverse-reverse (map f (drop (length xs - n) xs))) ∙ ap reverse (sym front)

pub taken_is : {X : Type 0} (f : X → Value) (xs : List X) (n : ℕ) → n ≤ length xs →
    where_so (nat_le n (length (reverse (map f xs)))) (Ok (reverse (take n (reverse (map f xs))))) ≡ Ok (map f (slice_range xs (length xs - n) (length xs)))
taken_is f xs n few =
    let count : length (reverse (map f xs)) ≡ length xs = length-reverse (map f xs) ∙ length-map xs f in
    let fits : nat_le n (length (reverse (map f xs))) ≡ true = grind (arith, nat_tests) in
    ap (λ b. where_so b (Ok (reverse (take n (reverse (map f xs)))))) fits ∙ ap Ok (sym (took f xs n few))
