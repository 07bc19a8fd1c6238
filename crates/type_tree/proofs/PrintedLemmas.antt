-- Texts with a comma between each two.
use Rattle.std.proofs.Common.{◌≡◌, ℕ, zero, suc, ◌+◌, ◌<◌, List, [], ◌∷◌, ◌++◌, map, take, length, get_or, refl, sym, ap, ◌∙◌, append_assoc, append-nil, arith}
use Rattle.std.proofs.lemmas.List.{take_more, map-append}
use Rattle.type_tree.specs.Printed.{Text, listed}

-- one text more, after the first
listed-push : (x : Text) (xs : List Text) (y : Text) → listed ((x ∷ xs) ++ y ∷ []) ≡ listed (x ∷ xs) ++ (44 ∷ y)
listed-push x [] y = refl
listed-push x (z ∷ zs) y = ap (λ rest. x ++ (44 ∷ rest)) (listed-push z zs y) ∙ sym (append_assoc x (44 ∷ listed (z ∷ zs)) (44 ∷ y))

-- the texts of the first i and of one more
listed-more : {X : Type 0} (f : X → Text) (xs : List X) (i : ℕ) (x : X) → i < length xs → x ≡ get_or xs i x →
    listed (map f (take (i + 1) xs)) ≡ listed (map f (take i xs) ++ f x ∷ [])
listed-more f xs i x inside is =
    ap (λ ys. listed (map f ys)) (take_more xs i x inside)
    ∙ ap listed (map-append f (take i xs) (get_or xs i x ∷ []))
    ∙ ap (λ y. listed (map f (take i xs) ++ f y ∷ [])) (sym is)

listed-later : {X : Type 0} (f : X → Text) (xs : List X) (i : ℕ) (y : Text) → 0 < i → i < length xs →
    listed (map f (take i xs) ++ y ∷ []) ≡ listed (map f (take i xs)) ++ (44 ∷ y)
listed-later f xs zero y some inside = absurd (omega arith)
listed-later f [] (suc i) y some inside = absurd (omega arith)
listed-later f (x ∷ xs) (suc i) y some inside = listed-push (f x) (map f (take i xs)) y

-- what is written once the first text is
pub written_first : {X : Type 0} (f : X → Text) (xs : List X) (i : ℕ) (x : X) (start before now : Text) → i < length xs → i ≡ 0 →
    x ≡ get_or xs i x → before ≡ start ++ listed (map f (take i xs)) → now ≡ before ++ f x →
    now ≡ start ++ listed (map f (take (i + 1) xs))
written_first f xs zero x start before now inside none is so_far wrote =
    wrote ∙ ap (λ text. text ++ f x) (so_far ∙ append-nil start) ∙ ap (λ text. start ++ text) (sym (listed-more f xs zero x inside is))
written_first f xs (suc i) x start before now inside none is so_far wrote = absurd (omega arith)

-- what is written once a comma and a later text are
pub written_later : {X : Type 0} (f : X → Text) (xs : List X) (i : ℕ) (x : X) (start before now : Text) → i < length xs → 0 < i →
    x ≡ get_or xs i x → before ≡ start ++ listed (map f (take i xs)) → now ≡ (before ++ 44 ∷ []) ++ f x →
    now ≡ start ++ listed (map f (take (i + 1) xs))
written_later f xs i x start before now inside some is so_far wrote =
    wrote
    ∙ append_assoc before (44 ∷ []) (f x)
    ∙ ap (λ text. text ++ (44 ∷ f x)) so_far
    ∙ append_assoc start (listed (map f (take i xs))) (44 ∷ f x)
    ∙ ap (λ text. start ++ text) (sym (listed-later f xs i (f x) some inside) ∙ sym (listed-more f xs i x inside is))
