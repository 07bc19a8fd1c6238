-- Heights of classes: how they follow from those of the classes above.
use Rattle.std.proofs.Common.{◌≡◌, ℕ, zero, suc, ◌+◌, ◌<◌, ◌≤◌, Bool, true, false, cond, ◌&&◌, max, nat_le, List, [], ◌∷◌, ◌++◌, length, get_or, take, drop, append_assoc, filter_map, slice_get, slice_set, Option, Some, None, option_to_list, refl, sym, ap, ◌∙◌, subst, arith}
use Rattle.std.specs.List.{list_all, cons_option}
use Rattle.std.proofs.lemmas.List.{take_more, take-append-drop}
use Rattle.std.proofs.lemmas.List.Elements.{filter_map-append}
use Rattle.std.proofs.lemmas.List.Folds.{list_all-append}
use Rattle.std.proofs.lemmas.Bool.{leb-true, le-leb, lt-leb}
use Rattle.std.proofs.lemmas.Bool.Decides.{nat_tests}
use Rattle.type_tree.specs.declared.tree.TExpr.{TExpr}
use Rattle.il_model.specs.declared.class.ClassDef.{ClassDef}
use Rattle.il_model.specs.declared.program.Program.{Program}
use Rattle.il_model.specs.Find.{class_number_of}
use Rattle.il_model.specs.ClassRules.{uppers_in, uppers_of, ends_within}
use Rattle.cil_verify.specs.Heights.{AreAsHigh, AreHeights, EndsAt}

le_true : (m n : ℕ) → m ≤ n → nat_le m n ≡ true
le_true m n le = le-leb m n le

le_of : (m n : ℕ) → nat_le m n ≡ true → m ≤ n
le_of m n is = leb-true m n is

le_max : (a b n : ℕ) → (nat_le a n && nat_le b n) ≡ nat_le (max a b) n
le_max a b n = by_cases (nat_le a n) (nat_le b n) refl refl
  where
    by_cases : (x y : Bool) → nat_le a n ≡ x → nat_le b n ≡ y → (nat_le a n && nat_le b n) ≡ nat_le (max a b) n
    by_cases true true first second =
        let both : max a b ≤ n = omega (arith, le_of a n first, le_of b n second) in
        ap (λ c. c && nat_le b n) first ∙ second ∙ sym (le_true (max a b) n both)
    by_cases true false first second = ap (λ c. c && nat_le b n) first ∙ second ∙ sym (too_high b (omega arith) second)
      where
        too_high : (m : ℕ) → m ≤ max a b → nat_le m n ≡ false → nat_le (max a b) n ≡ false
        too_high m le over = grind (arith, nat_tests)
    by_cases false y first second = ap (λ c. c && nat_le b n) first ∙ sym (too_high a (omega arith) first)
      where
        too_high : (m : ℕ) → m ≤ max a b → nat_le m n ≡ false → nat_le (max a b) n ≡ false
        too_high m le over = grind (arith, nat_tests)

and_false : (a b : Bool) → b ≡ false → (a && b) ≡ false
and_false true b e = e
and_false false b e = refl

and_true : (a : Bool) → (a && true) ≡ a
and_true true = refl
and_true false = refl

pub number_alone : (t : TExpr) → filter_map class_number_of (t ∷ []) ≡ option_to_list (class_number_of t)
number_alone t = each (class_number_of t)
  where
    each : (o : Option ℕ) → cons_option o [] ≡ option_to_list o
    each None = refl
    each (Some n) = refl

module _ (ts : List TExpr) (i : ℕ) (t : TExpr) (inside : i < length ts) (is : t ≡ get_or ts i t) where
  -- the numbers of one type more
  pub numbers_more : filter_map class_number_of (take (i + 1) ts) ≡ filter_map class_number_of (take i ts) ++ option_to_list (class_number_of t)
  numbers_more =
      ap (λ (us : List TExpr). filter_map class_number_of us) (take_more ts i t inside ∙ ap (λ (u : TExpr). take i ts ++ u ∷ []) (sym is))
      ∙ filter_map-append class_number_of (take i ts) (t ∷ [])
      ∙ ap (λ (ns : List ℕ). filter_map class_number_of (take i ts) ++ ns) (number_alone t)

  pub numbers_apart : filter_map class_number_of ts ≡
      filter_map class_number_of (take i ts) ++ (option_to_list (class_number_of t) ++ filter_map class_number_of (drop (i + 1) ts))
  numbers_apart =
      ap (λ (us : List TExpr). filter_map class_number_of us) (sym (take-append-drop (i + 1) ts))
      ∙ filter_map-append class_number_of (take (i + 1) ts) (drop (i + 1) ts)
      ∙ ap (λ (ns : List ℕ). ns ++ filter_map class_number_of (drop (i + 1) ts)) numbers_more
      ∙ append_assoc (filter_map class_number_of (take i ts)) (option_to_list (class_number_of t)) (filter_map class_number_of (drop (i + 1) ts))

module _ (program : Program) where
  abbrev ends : ℕ → ℕ → Bool
  ends n number = ends_within program n number

  pub none_above : (levels : ℕ) → EndsAt program levels [] (Some 0)
  none_above levels = (omega arith, λ n. sym (le_true 0 n (omega arith)))

  pub known_ends : (levels number height : ℕ) → AreAsHigh program (number ∷ []) height →
      EndsAt program levels (number ∷ []) (cond (nat_le height levels) (Some height) None)
  known_ends levels number height high =
      elim (nat_le height levels) as (λ (b : Bool). nat_le height levels ≡ b → EndsAt program levels (number ∷ []) (cond b (Some height) None)) [
        | true ↦ (λ is. (le_of height levels is, high))
        | false ↦ (λ is. high levels ∙ is)
      ] refl

  pub missing_ends : (levels number : ℕ) → 0 < levels → slice_get program.classes number ≡ None → EndsAt program levels (number ∷ []) (Some 1)
  missing_ends levels number some none = (omega (arith, some), high)
    where
      high : (n : ℕ) → list_all (λ k. ends n k) (number ∷ []) ≡ nat_le 1 n
      high zero = refl
      high (suc n) =
          ap (λ (o : Option ClassDef). list_all (λ k. ends n k) (uppers_in o) && true) none ∙ sym (le_true 1 (suc n) (omega arith))

  of_class : (n number : ℕ) (c : ClassDef) → slice_get program.classes number ≡ Some c →
      list_all (λ k. ends (suc n) k) (number ∷ []) ≡ list_all (λ k. ends n k) (uppers_in (Some c))
  of_class n number c is =
      ap (λ (o : Option ClassDef). list_all (λ k. ends n k) (uppers_in o) && true) is ∙ and_true (list_all (λ k. ends n k) (uppers_in (Some c)))

  class_high : (number height : ℕ) (c : ClassDef) → slice_get program.classes number ≡ Some c → AreAsHigh program (uppers_in (Some c)) height →
      (n : ℕ) → list_all (λ k. ends n k) (number ∷ []) ≡ nat_le (suc height) n
  class_high number height c is high zero = sym (lt-leb (suc height) 0 (omega arith))
  class_high number height c is high (suc n) = of_class n number c is ∙ high n ∙ same
    where
      same : nat_le height n ≡ nat_le (suc height) (suc n)
      same = grind (arith, nat_tests)

  pub class_ends : (levels below number height next : ℕ) (c : ClassDef) → levels ≡ suc below → next ≡ suc height → slice_get program.classes number ≡ Some c →
      EndsAt program below (uppers_in (Some c)) (Some height) → EndsAt program levels (number ∷ []) (Some next)
  class_ends levels below number height next c one up is found = (
    omega (arith, found.0, one, up),
    λ n. class_high number height c is found.1 n ∙ ap (λ (h : ℕ). nat_le h n) (sym up),
  )

  pub class_fails : (levels below number : ℕ) (c : ClassDef) → levels ≡ suc below → slice_get program.classes number ≡ Some c →
      EndsAt program below (uppers_in (Some c)) None → EndsAt program levels (number ∷ []) None
  class_fails levels below number c one is found =
      subst (λ (l : ℕ). EndsAt program l (number ∷ []) None) (sym one) (of_class below number c is ∙ found)

  pub heights_one_more : (number height next : ℕ) (c : ClassDef) → next ≡ suc height → slice_get program.classes number ≡ Some c →
      AreAsHigh program (uppers_in (Some c)) height → AreAsHigh program (number ∷ []) next
  heights_one_more number height next c up is high n = class_high number height c is high n ∙ ap (λ (h : ℕ). nat_le h n) (sym up)

  module _ (levels : ℕ) (ms ns : List ℕ) where
    pub both_end : (a b : ℕ) → EndsAt program levels ms (Some a) → EndsAt program levels ns (Some b) → EndsAt program levels (ms ++ ns) (Some (max a b))
    both_end a b first second = (
      omega (arith, first.0, second.0),
      λ n. list_all-append (λ k. ends n k) ms ns
          ∙ ap (λ c. c && list_all (λ k. ends n k) ns) (first.1 n)
          ∙ ap (λ c. nat_le a n && c) (second.1 n)
          ∙ le_max a b n,
    )

    pub first_fails : EndsAt program levels ms None → EndsAt program levels (ms ++ ns) None
    first_fails first = list_all-append (λ k. ends levels k) ms ns ∙ ap (λ c. c && list_all (λ k. ends levels k) ns) first

    pub second_fails : EndsAt program levels ns None → EndsAt program levels (ms ++ ns) None
    second_fails second =
        list_all-append (λ k. ends levels k) ms ns ∙ and_false (list_all (λ k. ends levels k) ms) (list_all (λ k. ends levels k) ns) second

  at_set : (heights : List ℕ) (number height k h : ℕ) → slice_get (slice_set heights number height) k ≡ Some h →
      (P : Type 0) → (k ≡ number → h ≡ height → P) → (slice_get heights k ≡ Some h → P) → P
  at_set [] number height k h is P here there = there is
  at_set (x ∷ xs) zero height zero h is P here there = here refl cc
  at_set (x ∷ xs) zero height (suc k) h is P here there = there is
  at_set (x ∷ xs) (suc number) height zero h is P here there = there is
  at_set (x ∷ xs) (suc number) height (suc k) h is P here there = at_set xs number height k h is P (λ e f. here (ap suc e) f) there

  pub heights_kept : (heights : List ℕ) (number height : ℕ) → AreHeights program heights → AreAsHigh program (number ∷ []) height →
      AreHeights program (slice_set heights number height)
  heights_kept heights number height known high k h is some =
      at_set heights number height k h is (AreAsHigh program (k ∷ []) h)
      (λ e f. subst (λ (m : ℕ). AreAsHigh program (m ∷ []) h) (sym e) (subst (λ (m : ℕ). AreAsHigh program (number ∷ []) m) (sym f) high))
      (λ old. known k h old some)
