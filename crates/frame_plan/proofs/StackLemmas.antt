-- Places of the stack made wider, one after the other.
use Rattle.std.proofs.Common.{◌≡◌, ℕ, zero, suc, ◌+◌, ◌<◌, ◌≤◌, max, List, [], ◌∷◌, ◌++◌, length, map, take, get_or, slice_get, slice_set, Some, None, refl, ap, sym, ◌∙◌, arith}
use Rattle.std.proofs.lemmas.List.{length-map, take_all}
use Rattle.std.proofs.lemmas.Option.{same_Some, none-some}
use Rattle.frame_plan.specs.Places.{widest}
use Rattle.frame_plan.specs.Raising.{raised}

pub widest_none : (xs : List ℕ) → widest xs [] ≡ xs
widest_none [] = refl
widest_none (x ∷ xs) = refl

-- a place more of the second list
pub raise_more : (xs ys : List ℕ) (i y : ℕ) → i < length ys → get_or ys i y ≡ y → raised (widest xs (take i ys)) i y ≡ widest xs (take (suc i) ys)
raise_more xs [] i y inside is = absurd (omega (arith, inside))
raise_more [] (z ∷ ys) zero y inside is = ap (λ w. w ∷ []) (sym is)
raise_more [] (z ∷ ys) (suc i) y inside is = ap (λ ws. z ∷ ws) (raise_more [] ys i y (omega (arith, inside)) is)
raise_more (x ∷ xs) (z ∷ ys) zero y inside is = ap (λ w. max x w ∷ xs) (sym is) ∙ ap (λ ws. max x z ∷ ws) (sym (widest_none xs))
raise_more (x ∷ xs) (z ∷ ys) (suc i) y inside is = ap (λ ws. max x z ∷ ws) (raise_more xs ys i y (omega (arith, inside)) is)

larger : (x width : ℕ) → x < width → width ≡ max x width
larger x width less = omega arith

stays : (x width : ℕ) → width ≤ x → max x width ≡ x
stays x width less = omega arith

pub set_wider : (xs : List ℕ) (place now width : ℕ) → slice_get xs place ≡ Some now → now < width → slice_set xs place width ≡ raised xs place width
set_wider [] place now width is wider = absurd (none-some now is)
set_wider (x ∷ xs) zero now width is wider = ap (λ w. w ∷ xs) (larger x width (let e : x ≡ now = same_Some x now is in omega arith))
set_wider (x ∷ xs) (suc place) now width is wider = ap (λ ws. x ∷ ws) (set_wider xs place now width is wider)

pub set_same : (xs : List ℕ) (place now width : ℕ) → slice_get xs place ≡ Some now → width ≤ now → xs ≡ raised xs place width
set_same [] place now width is wide = absurd (none-some now is)
set_same (x ∷ xs) zero now width is wide = ap (λ w. w ∷ xs) (sym (stays x width (let e : x ≡ now = same_Some x now is in omega arith)))
set_same (x ∷ xs) (suc place) now width is wide = ap (λ ws. x ∷ ws) (set_same xs place now width is wide)

pub raised_outside : (xs : List ℕ) (place width : ℕ) → slice_get xs place ≡ None → raised xs place width ≡ xs ++ width ∷ []
raised_outside [] place width is = refl
raised_outside (x ∷ xs) zero width is = absurd (none-some x (sym is))
raised_outside (x ∷ xs) (suc place) width is = ap (λ ws. x ∷ ws) (raised_outside xs place width is)

at_map : {X : Type 0} (f : X → ℕ) (ys : List X) (i : ℕ) (v : X) → i < length ys → v ≡ get_or ys i v → get_or (map f ys) i (f v) ≡ f v
at_map f [] i v inside is = absurd (omega (arith, inside))
at_map f (y ∷ ys) zero v inside is = ap f (sym is)
at_map f (y ∷ ys) (suc i) v inside is = at_map f ys i v (omega (arith, inside)) is

-- a value more of a stack
pub raise_next : {X : Type 0} (f : X → ℕ) (xs : List ℕ) (ys : List X) (i : ℕ) (v : X) → i < length ys → v ≡ get_or ys i v →
    raised (widest xs (take i (map f ys))) i (f v) ≡ widest xs (take (i + 1) (map f ys))
raise_next f xs ys i v inside is =
    let count = length-map ys f in
    let e : suc i ≡ i + 1 = omega arith in
    raise_more xs (map f ys) i (f v) (omega (arith, inside, count)) (at_map f ys i v inside is) ∙ ap (λ n. widest xs (take n (map f ys))) e

pub taken_whole : {X : Type 0} (f : X → ℕ) (ys : List X) → take (length ys) (map f ys) ≡ map f ys
taken_whole f ys = take_all (length ys) (map f ys) (let count = length-map ys f in omega arith)
