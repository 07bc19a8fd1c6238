-- Fields of a type, from its last base down, and words that no cap cut.
use Rattle.std.proofs.Common.{◌≡◌, ℕ, zero, suc, ◌+◌, ◌*◌, ◌-◌, ◌<◌, min, Bool, true, false, ◌||◌, nat_eq, List, [], ◌∷◌, ◌++◌, length, map, flat_map, take, get_or, refl, sym, ap, ◌∙◌, arith}
use Rattle.std.specs.Prelude.{reverse}
use Rattle.std.proofs.lemmas.List.{take_more, flat_map_more, get_or-reverse, length-reverse}
use Rattle.std.specs.List.{list_any}
use Rattle.std.proofs.lemmas.Bool.Decides.{nat_tests}
use Rattle.type_tree.specs.declared.tree.TExpr.{TExpr}
use Rattle.type_tree.specs.Positions.{positions_of}
use Rattle.il_model.specs.declared.program.Program.{Program}
use Rattle.il_model.specs.Find.{class_of}
use Rattle.il_model.specs.Kinds.{is_struct_class}
use Rattle.il_model.specs.Layouts.{instance_kinds_of, most_trees, parts_if, words_in, words_of, words_within}

-- the fields of one base more
pub upwards_more : (f : TExpr → List TExpr) (chain start all new : List TExpr) (i at : ℕ) (t : TExpr) → i < length chain → at ≡ length chain - 1 - i →
    t ≡ get_or chain at t → all ≡ start ++ flat_map f (take i (reverse chain)) → new ≡ all ++ f t → new ≡ start ++ flat_map f (take (i + 1) (reverse chain))
upwards_more f chain start all new i at t inside place is before put =
    let within : i < length (reverse chain) = omega (arith, inside, length-reverse chain) in
    let last : get_or (reverse chain) i t ≡ t = get_or-reverse chain i t inside ∙ ap (λ k. get_or chain k t) (sym place) ∙ sym is in
    put
    ∙ ap (λ ts. ts ++ f t) before
    ∙ flat_map_more f start (take i (reverse chain)) t
    ∙ ap (λ ts. start ++ flat_map f ts) (sym (take_more (reverse chain) i t within ∙ ap (λ u. take i (reverse chain) ++ u ∷ []) last))

-- numbers below the cap are as they were
none_of_two : (a b : Bool) → (a || b) ≡ false → (a ≡ false) × (b ≡ false)
none_of_two false false e = (refl, refl)
none_of_two false true e = cc
none_of_two true b e = cc

uncut : (most n : ℕ) → nat_eq most (min n most) ≡ false → min n most ≡ n
uncut most n e = grind (arith, nat_tests)

pub all_uncut : {X : Type 0} (f : X → ℕ) (most : ℕ) (xs : List X) → list_any (nat_eq most) (map (λ x. min (f x) most) xs) ≡ false → map (λ x. min (f x) most) xs ≡ map f xs
all_uncut f most [] e = refl
all_uncut f most (x ∷ xs) e =
    let both = none_of_two (nat_eq most (min (f x) most)) (list_any (nat_eq most) (map (λ y. min (f y) most) xs)) e in
    ap (λ n. n ∷ map (λ y. min (f y) most) xs) (uncut most (f x) both.0) ∙ ap (λ ns. f x ∷ ns) (all_uncut f most xs both.1)

-- a type that is no struct has one word
one_within : (p : Program) (levels : ℕ) (t : TExpr) → is_struct_class (class_of p t) ≡ false → 1 ≡ words_within p levels t
one_within p zero t e = refl
one_within p (suc levels) t e = sym (ap (λ b. words_in (λ part. words_within p levels part) (parts_if b (instance_kinds_of p t))) e)

pub one_word : (p : Program) (t : TExpr) → is_struct_class (class_of p t) ≡ false → 1 ≡ words_of p t
one_word p t e = one_within p (most_trees * positions_of t) t e
