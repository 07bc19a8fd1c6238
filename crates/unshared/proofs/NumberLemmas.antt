-- The number of a type is the place at which it stands, where each type stands once.
use Rattle.std.proofs.Common.{◌≡◌, ◌∙◌, ℕ, zero, suc, ◌+◌, ◌<◌, ◌≤◌, List, [], ◌∷◌, ◌++◌, length, Bool, true, false, cond, not, ◌||◌, ◌==◌, Some, None, if◌then◌else◌, nat_lt, slice_get, get_or, refl, sym, ap, arith, eqb-true}
use Rattle.std.specs.List.{list_any, position_or_len}
use Rattle.std.proofs.lemmas.List.Quantifiers.{position-Some}
use Rattle.std.proofs.lemmas.Option.{slice_get-get_or, slice_get_within}
use Rattle.std.proofs.lemmas.Bool.Decides.{nat_tests}
use Rattle.type_tree.specs.declared.tree.TExpr.{TExpr}
use Rattle.type_tree.specs.Same.{is_same}
use Rattle.type_tree.proofs.SameLemmas.{is_same-Decides}
use Rattle.il_model.specs.Trees.{is_among, with_new}
use Rattle.type_inst.specs.Opening.{Extends}
use Rattle.type_inst.proofs.OpeningLemmas.{kept_at, extends_itself, extends_both}
use Rattle.unshared.specs.Growing.{Grown}
use Rattle.unshared.specs.Listed.{number_in, IsOnce}
use Rattle.unshared.proofs.Places.{get-push}

-- A type that stands in a list. --------------------------------------------

prefix_by : (b : Bool) (n i : ℕ) → n ≤ i → cond b (1 + n) 0 ≤ suc i
prefix_by true n i few = omega (arith, few)
prefix_by false n i few = omega arith

first_before : (p : TExpr → Bool) (xs : List TExpr) (i : ℕ) (t : TExpr) → slice_get xs i ≡ Some t → p t ≡ true → position_or_len p xs ≤ i
first_before p [] i t e holds = absurd (cc e)
first_before p (x ∷ xs) zero t e holds =
    let same : x ≡ t = cc e in
    let passes : not (p x) ≡ false = ap (λ y. not (p y)) same ∙ ap not holds in
    let none : position_or_len p (x ∷ xs) ≡ 0 = ap (λ b. cond b (1 + position_or_len p xs) 0) passes in
    omega (arith, none)
first_before p (x ∷ xs) (suc i) t e holds = prefix_by (not (p x)) (position_or_len p xs) i (first_before p xs i t e holds)

same_itself : (t : TExpr) → is_same t t ≡ true
same_itself t = (is_same-Decides t t).1 refl

pub number_there : (all later : List TExpr) (t : TExpr) (i : ℕ) → IsOnce all → slice_get all i ≡ Some t → Extends all later → number_in later t ≡ Some i
number_there all later t i once there ext =
    let here : slice_get later i ≡ Some t = kept_at all later i t ext there in
    let low : position_or_len (is_same t) later ≤ i = first_before (is_same t) later i t here (same_itself t) in
    let inside : i < length all = slice_get_within all i t there in
    let within : i < length later = slice_get_within later i t here in
    let less : position_or_len (is_same t) later < length later = omega (arith, low, within) in
    let passes : nat_lt (position_or_len (is_same t) later) (length later) ≡ true = grind (arith, nat_tests) in
    let found : number_in later t ≡ Some (position_or_len (is_same t) later) = ap (λ b. cond b (Some (position_or_len (is_same t) later)) None) passes in
    let at = position-Some (is_same t) later (position_or_len (is_same t) later) t found in
    let same : t ≡ get_or later (position_or_len (is_same t) later) t = (is_same-Decides t (get_or later (position_or_len (is_same t) later) t)).0 at.1 in
    let first : position_or_len (is_same t) later < length all = omega (arith, low, inside) in
    let own : slice_get all (position_or_len (is_same t) later) ≡ Some (get_or all (position_or_len (is_same t) later) t) = slice_get-get_or all (position_or_len (is_same t) later) t first in
    let kept : slice_get later (position_or_len (is_same t) later) ≡ Some (get_or all (position_or_len (is_same t) later) t) = kept_at all later (position_or_len (is_same t) later) (get_or all (position_or_len (is_same t) later) t) ext own in
    let there_too : slice_get later (position_or_len (is_same t) later) ≡ Some (get_or later (position_or_len (is_same t) later) t) = slice_get-get_or later (position_or_len (is_same t) later) t less in
    let equal : get_or all (position_or_len (is_same t) later) t ≡ t = cc (kept, there_too, same) in
    let stands : slice_get all (position_or_len (is_same t) later) ≡ Some t = own ∙ ap Some equal in
    found ∙ ap Some (once (position_or_len (is_same t) later) i t stands there)

-- One type more. -------------------------------------------------------------

or_true : (b : Bool) → (b || true) ≡ true
or_true true = refl
or_true false = refl

among : (p : TExpr → Bool) (xs : List TExpr) (i : ℕ) (t : TExpr) → slice_get xs i ≡ Some t → p t ≡ true → list_any p xs ≡ true
among p [] i t e holds = absurd (cc e)
among p (x ∷ xs) zero t e holds = let same : x ≡ t = cc e in ap (λ y. p y || list_any p xs) same ∙ ap (λ b. b || list_any p xs) holds
among p (x ∷ xs) (suc i) t e holds = ap (λ b. p x || b) (among p xs i t e holds) ∙ or_true (p x)

not_there : (xs : List TExpr) (t : TExpr) (i : ℕ) → is_among xs t ≡ false → slice_get xs i ≡ Some t → ⊥
not_there xs t i none there = let one : is_among xs t ≡ true = among (λ each. is_same each t) xs i t there (same_itself t) in cc (none, one)

once_by : (xs : List TExpr) (t : TExpr) → IsOnce xs → is_among xs t ≡ false → (i j : ℕ) (u : TExpr) (b c : Bool) → (i == length xs) ≡ b → (j == length xs) ≡ c →
    (if b then Some t else slice_get xs i) ≡ Some u → (if c then Some t else slice_get xs j) ≡ Some u → i ≡ j
once_by xs t once none i j u true true at also e f = eqb-true i (length xs) at ∙ sym (eqb-true j (length xs) also)
once_by xs t once none i j u true false at also e f = let same : u ≡ t = cc e in absurd (not_there xs t j none (f ∙ ap Some same))
once_by xs t once none i j u false true at also e f = let same : u ≡ t = cc f in absurd (not_there xs t i none (e ∙ ap Some same))
once_by xs t once none i j u false false at also e f = once i j u e f

once_more : (xs : List TExpr) (t : TExpr) (b : Bool) → is_among xs t ≡ b → IsOnce xs → IsOnce (if b then xs else xs ++ t ∷ [])
once_more xs t true e once = once
once_more xs t false e once = λ i j u here also. once_by xs t once e i j u (i == length xs) (j == length xs) refl refl (sym (get-push xs i t) ∙ here) (sym (get-push xs j t) ∙ also)

pub once_new : (xs : List TExpr) (t : TExpr) → IsOnce xs → IsOnce (with_new xs t)
once_new xs t once = once_more xs t (is_among xs t) refl once

pub grown_new : (xs ys : List TExpr) (t : TExpr) → ys ≡ with_new xs t → Extends xs ys → IsOnce xs → Grown xs ys
grown_new xs ys t e ext once = record { extends = ext; once = rw e (once_new xs t once) }

-- as it was, and as it is after two steps
pub grown_same : (xs : List TExpr) → IsOnce xs → Grown xs xs
grown_same xs once = record { extends = extends_itself xs; once = once }

pub grown_both : (xs ys zs : List TExpr) → Grown xs ys → Grown ys zs → Grown xs zs
grown_both xs ys zs a b = record { extends = extends_both xs ys zs a.extends b.extends; once = b.once }
