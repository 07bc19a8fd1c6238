-- Stacks of two depths are not assignable and do not join; and a join that is found place by place.
use Rattle.std.proofs.Common.{◌≡◌, ℕ, suc, ◌+◌, ◌<◌, drop, get_or, Bool, true, false, ◌&&◌, List, [], ◌∷◌, ◌++◌, Option, Some, None, option_map, length, refl, sym, ap, ◌∙◌, append_assoc}
use Rattle.std.proofs.lemmas.List.{drop_more}
use Rattle.cil_flow.specs.declared.state.StackType.{StackType}
use Rattle.cil_verify.specs.Places.{View}
use Rattle.cil_verify.specs.Joins.{is_assignable_type, are_assignable, joined, with_top, joined_stacks}

later_false : (a b : Bool) → false ≡ b → false ≡ (a && b)
later_false true b e = e
later_false false b e = refl

pub lengths_differ : (v : View) (xs ys : List StackType) → ¬ (length xs ≡ length ys) → false ≡ are_assignable v xs ys
lengths_differ v [] [] differ = absurd (differ refl)
lengths_differ v [] (y ∷ ys) differ = refl
lengths_differ v (x ∷ xs) [] differ = refl
lengths_differ v (x ∷ xs) (y ∷ ys) differ =
    later_false (is_assignable_type v x y) (are_assignable v xs ys) (lengths_differ v xs ys (λ e. differ (ap (λ n. suc n) e)))

none_below : (a : Option StackType) → None ≡ with_top a None
none_below None = refl
none_below (Some a) = refl

pub depths_differ : (v : View) (xs ys : List StackType) → ¬ (length xs ≡ length ys) → None ≡ joined_stacks v xs ys
depths_differ v [] [] differ = absurd (differ refl)
depths_differ v [] (y ∷ ys) differ = refl
depths_differ v (x ∷ xs) [] differ = refl
depths_differ v (x ∷ xs) (y ∷ ys) differ =
    none_below (joined v x y) ∙ ap (with_top (joined v x y)) (depths_differ v xs ys (λ e. differ (ap (λ n. suc n) e)))

-- what is joined goes behind what is joined already
pub joined_behind : (both : List StackType) (a : StackType) (rest : Option (List StackType)) → option_map (λ s. both ++ s) (with_top (Some a) rest) ≡ option_map (λ s. (both ++ a ∷ []) ++ s) rest
joined_behind both a None = refl
joined_behind both a (Some s) = ap Some (sym (append_assoc both (a ∷ []) s))

-- what the next places join to goes behind what is joined already
pub joined_next : (v : View) (xs ys both : List StackType) (i : ℕ) (x y a : StackType) → i < length xs → i < length ys → x ≡ get_or xs i x → y ≡ get_or ys i y → Some a ≡ joined v x y → option_map (λ s. both ++ s) (joined_stacks v (drop i xs) (drop i ys)) ≡ option_map (λ s. (both ++ a ∷ []) ++ s) (joined_stacks v (drop (i + 1) xs) (drop (i + 1) ys))
joined_next v xs ys both i x y a inside too is same found =
    ap (λ (zs : List StackType). option_map (λ s. both ++ s) (joined_stacks v zs (drop i ys))) (drop_more xs i x inside)
    ∙ ap (λ (zs : List StackType). option_map (λ s. both ++ s) (joined_stacks v (get_or xs i x ∷ drop (i + 1) xs) zs)) (drop_more ys i y too)
    ∙ ap (λ (z : StackType). option_map (λ s. both ++ s) (joined_stacks v (z ∷ drop (i + 1) xs) (get_or ys i y ∷ drop (i + 1) ys))) (sym is)
    ∙ ap (λ (z : StackType). option_map (λ s. both ++ s) (joined_stacks v (x ∷ drop (i + 1) xs) (z ∷ drop (i + 1) ys))) (sym same)
    ∙ ap (λ (o : Option StackType). option_map (λ s. both ++ s) (with_top o (joined_stacks v (drop (i + 1) xs) (drop (i + 1) ys)))) (sym found)
    ∙ joined_behind both a (joined_stacks v (drop (i + 1) xs) (drop (i + 1) ys))
