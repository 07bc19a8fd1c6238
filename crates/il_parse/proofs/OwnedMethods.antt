-- Methods of one signature: in one class, and in a whole program.
use Rattle.std.proofs.Common.{◌≡◌, ℕ, suc, ◌<◌, ◌==◌, ◌||◌, Bool, true, false, List, [], ◌∷◌, ◌++◌, refl, sym, ap, ◌∙◌, arith, AllPairs}
use Rattle.std.specs.Bool.{Decides}
use Rattle.std.specs.List.{AllByRecursion, IsDistinct}
use Rattle.std.proofs.lemmas.Bool.{true≢false, or_parts, or_from, eq-eqb, ne_eqb}
use Rattle.std.proofs.lemmas.List.Folds.{list_any-append}
use Rattle.std.proofs.lemmas.List.Elements.{recursion_from_All}
use Rattle.std.proofs.lemmas.List.Kept.{AllPairs-cons}
use Rattle.il_model.specs.declared.method.MethodDef.{MethodDef}
use Rattle.il_parse.proofs.Finding.{all_of, all_map}
use Rattle.il_parse.proofs.FreshLists.{Fresh, is_met}
use Rattle.il_parse.proofs.SameSignatures.{alike, alike_in_class}

-- where a test decides a fact, it fails for each two exactly if the fact holds of no two

pub pairs_from_distinct : {K : Type 0} (e : K → K → Bool) (S : K → K → Type 0) → ((a b : K) → Decides (e a b) (S a b)) → (xs : List K) → IsDistinct e xs →
    AllPairs (λ a b. ¬ (S a b)) xs
unfolding IsDistinct
pairs_from_distinct e S decides [] distinct = λ i j d before inside. absurd (omega (arith, inside))
pairs_from_distinct e S decides (x ∷ xs) distinct =
    AllPairs-cons (λ a b. ¬ (S a b)) x xs
    (all_of (λ y. ¬ (S x y)) xs (all_map (λ y. e x y ≡ false) (λ y. ¬ (S x y)) (λ y fails holds. true≢false (sym ((decides x y).1 holds) ∙ fails)) xs distinct.0))
    (pairs_from_distinct e S decides xs distinct.1)

fails_unless : (b : Bool) {S : Type 0} → Decides b S → ¬ S → b ≡ false
fails_unless true d fails = absurd (fails (d.0 refl))
fails_unless false d fails = refl

pub distinct_from_pairs : {K : Type 0} (e : K → K → Bool) (S : K → K → Type 0) → ((a b : K) → Decides (e a b) (S a b)) → (xs : List K) →
    AllPairs (λ a b. ¬ (S a b)) xs → IsDistinct e xs
unfolding IsDistinct
distinct_from_pairs e S decides [] pairs = tt
distinct_from_pairs e S decides (x ∷ xs) pairs = (
  all_map (λ y. ¬ (S x y)) (λ y. e x y ≡ false) (λ y fails. fails_unless (e x y) (decides x y) fails) xs
      (recursion_from_All (λ y. ¬ (S x y)) xs (λ k d inside. pairs 0 (suc k) d (omega arith) (omega (arith, inside)))),
  distinct_from_pairs e S decides xs (λ i j d before inside. pairs (suc i) (suc j) d (omega (arith, before)) (omega (arith, inside))),
)

-- methods of the class with this number
abbrev pub AreOwned : ℕ → List MethodDef → Type 0
AreOwned number ds = AllByRecursion (λ (d : MethodDef). d.owner ≡ number) ds

-- methods of classes before this number
abbrev pub AreBefore : ℕ → List MethodDef → Type 0
AreBefore number ds = AllByRecursion (λ (d : MethodDef). d.owner < number) ds

own_class : (number : ℕ) (own : List MethodDef) (d : MethodDef) → AreOwned number own → d.owner ≡ number → is_met alike_in_class own d ≡ is_met alike own d
own_class number [] d owned is = refl
own_class number (a ∷ own) d owned is =
    let same : (a.owner == d.owner) ≡ true = eq-eqb a.owner d.owner (owned.0 ∙ sym is) in
    rw same (ap (λ b. alike a d || b) (own_class number own d owned.1 is))

other_class : (number : ℕ) (met : List MethodDef) (d : MethodDef) → AreBefore number met → d.owner ≡ number → is_met alike_in_class met d ≡ false
other_class number [] d before is = refl
other_class number (a ∷ met) d before is =
    let other : (a.owner == d.owner) ≡ false = ne_eqb a.owner d.owner (λ e. omega (arith, e, is, before.0)) in
    rw other (other_class number met d before.1 is)

-- what differs within a class differs from the methods of classes before it
pub fresh_in_class : (number : ℕ) (met own ds : List MethodDef) → AreBefore number met → AreOwned number own → AreOwned number ds → Fresh alike own ds →
    Fresh alike_in_class (own ++ met) ds
fresh_in_class number met own [] before owned all f = tt
fresh_in_class number met own (d ∷ ds) before owned all f = (
  list_any-append (λ a. alike_in_class a d) own met
      ∙ or_from (is_met alike_in_class own d) (is_met alike_in_class met d) (own_class number own d owned all.0 ∙ f.0) (other_class number met d before all.0),
  fresh_in_class number met (d ∷ own) ds before (all.0, owned) all.1 f.1,
)

pub fresh_of_class : (number : ℕ) (met own ds : List MethodDef) → AreOwned number own → AreOwned number ds → Fresh alike_in_class (own ++ met) ds → Fresh alike own ds
fresh_of_class number met own [] owned all f = tt
fresh_of_class number met own (d ∷ ds) owned all f = (
  sym (own_class number own d owned all.0)
      ∙ (or_parts (is_met alike_in_class own d) (is_met alike_in_class met d) (sym (list_any-append (λ a. alike_in_class a d) own met) ∙ f.0)).0,
  fresh_of_class number met (d ∷ own) ds (all.0, owned) all.1 f.1,
)
