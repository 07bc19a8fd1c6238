-- Entry points: one method at most has one.
use Rattle.std.proofs.Common.{◌≡◌, ℕ, ◌+◌, ◌≤◌, Bool, true, false, ◌&&◌, ◌||◌, is_some, List, [], ◌∷◌, ◌++◌, length, map, flat_map, Option, Some, None, option_to_list, option_and_then, refl, ap, ◌∙◌, arith, length-append}
use Rattle.std.proofs.lemmas.List.{length-map}
use Rattle.il_model.specs.declared.written.WrittenBody.{WrittenBody}
use Rattle.il_model.specs.declared.written.WrittenMethod.{WrittenMethod}
use Rattle.il_model.specs.LookUp.{has_entry, entries_from}
use Rattle.il_parse.specs.NamedClasses.{has_entry_point}
use Rattle.il_parse.proofs.MethodsNamed.{EntriesOnce, began}

pub once_joined : (begun : Bool) (xs ys : List WrittenMethod) → EntriesOnce begun xs → EntriesOnce (began begun xs) ys → EntriesOnce begun (xs ++ ys)
once_joined begun [] ys a b = b
once_joined begun (x ∷ xs) ys a b = (a.0, once_joined (begun || has_entry_point x) xs ys a.1 b)

pub once_split : (begun : Bool) (xs ys : List WrittenMethod) → EntriesOnce begun (xs ++ ys) → EntriesOnce begun xs × EntriesOnce (began begun xs) ys
once_split begun [] ys o = (tt, o)
once_split begun (x ∷ xs) ys o = let r = once_split (begun || has_entry_point x) xs ys o.1 in ((o.0, r.0), r.1)

-- 1 for what is there
abbrev count : Bool → ℕ
count true = 1
count false = 0

entry_count : (entry : Option ℕ) → length (option_to_list entry ++ []) ≡ count (is_some entry)
entry_count None = refl
entry_count (Some at) = refl

body_count : (o : Option WrittenBody) → length (flat_map (λ b. option_to_list b.entry) (option_to_list o)) ≡ count (is_some (option_and_then (λ b. b.entry) o))
body_count None = refl
body_count (Some b) = entry_count b.entry

entries_count : (number : ℕ) (m : WrittenMethod) (ms : List WrittenMethod) →
    length (entries_from number (m ∷ ms)) ≡ count (has_entry_point m) + length (entries_from (number + 1) ms)
entries_count number m ms =
    length-append (map (λ at. number) (has_entry m)) (entries_from (number + 1) ms)
    ∙ ap (λ n. n + length (entries_from (number + 1) ms)) (length-map (has_entry m) (λ at. number) ∙ body_count m.body)

count_either : (a b : Bool) → (a && b) ≡ false → count (a || b) ≡ count a + count b
count_either true true e = cc
count_either true false e = refl
count_either false true e = refl
count_either false false e = refl

not_both : (a b : Bool) → count a + count b ≤ 1 → (a && b) ≡ false
not_both true true few = absurd (omega (arith, few))
not_both true false few = refl
not_both false b few = refl

pub once_few : (begun : Bool) (number : ℕ) (ms : List WrittenMethod) → EntriesOnce begun ms → count begun + length (entries_from number ms) ≤ 1
once_few true number [] o = omega arith
once_few false number [] o = omega arith
once_few begun number (m ∷ ms) o =
    omega (arith, entries_count number m ms, count_either begun (has_entry_point m) o.0, once_few (begun || has_entry_point m) (number + 1) ms o.1)

pub few_once : (begun : Bool) (number : ℕ) (ms : List WrittenMethod) → count begun + length (entries_from number ms) ≤ 1 → EntriesOnce begun ms
few_once begun number [] few = tt
few_once begun number (m ∷ ms) few =
    let both : (begun && has_entry_point m) ≡ false = not_both begun (has_entry_point m) (omega (arith, few, entries_count number m ms)) in
    (both, few_once (begun || has_entry_point m) (number + 1) ms (omega (arith, few, entries_count number m ms, count_either begun (has_entry_point m) both)))
