-- Words by rounds are those of the definition.
use Rattle.std.proofs.Common.{◌≡◌, ℕ, zero, suc, ◌+◌, ◌-◌, ◌*◌, ◌<◌, ◌≤◌, min, List, [], ◌∷◌, ◌++◌, length, map, take, get_or, slice_get, sum_by, unwrap_or, Option, Some, None, option_map, refl, sym, ap, ◌∙◌, subst, arith}
use Rattle.std.proofs.lemmas.List.Sums.{sum_by-cons}
use Rattle.std.proofs.lemmas.List.{map-append, take_more}
use Rattle.std.proofs.lemmas.Option.{slice_get-map, slice_get-get_or}
use Rattle.type_tree.specs.declared.tree.TExpr.{TExpr}
use Rattle.type_tree.specs.Positions.{positions_of}
use Rattle.type_tree.proofs.PositionsLemmas.{positions_of-positive}
use Rattle.il_model.specs.declared.program.Program.{Program}
use Rattle.il_model.specs.Layouts.{parts_of, words_in, words_within, most_trees}
use Rattle.type_inst.specs.Sizing.{capped_words, seen_row, found_parts, parts_seen, IsOpened, word_in, row_words, next_round, rounds, AreSettled}

-- lists that are equal once mapped are equally long
same_count : {A B C D : Type 0} (f : A → C) (g : B → C) (d : D) (xs : List A) (ys : List B) → map f xs ≡ map g ys → map (λ x. d) xs ≡ map (λ y. d) ys
same_count f g d [] [] e = refl
same_count f g d [] (y ∷ ys) e = cc
same_count f g d (x ∷ xs) [] e = cc
same_count f g d (x ∷ xs) (y ∷ ys) e =
    let rest : map f xs ≡ map g ys = cc in
    ap (λ ds. d ∷ ds) (same_count f g d xs ys rest)

-- a round that changes nothing is followed by such rounds alone
module _ (most : ℕ) (rows : List (Option (List ℕ))) where
  stays : (n d : ℕ) → rounds most rows (suc n) ≡ rounds most rows n → rounds most rows (n + d) ≡ rounds most rows n
  stays n zero e = let same : n + 0 ≡ n = omega arith in ap (λ m. rounds most rows m) same
  stays n (suc d) e =
      let same : n + suc d ≡ suc (n + d) = omega arith in
      ap (λ m. rounds most rows m) same ∙ ap (next_round most rows) (stays n d e) ∙ e

  pub stays_from : (n m : ℕ) → rounds most rows (suc n) ≡ rounds most rows n → n ≤ m → rounds most rows m ≡ rounds most rows n
  stays_from n m e le =
      let same : m ≡ n + (m - n) = omega (arith, le) in ap (λ k. rounds most rows k) same ∙ stays n (m - n) e

  -- after a round that changed nothing, at any later count
  pub settled_from : (n m : ℕ) (now next : List ℕ) → now ≡ rounds most rows n → next ≡ next_round most rows now → next ≡ now → n ≤ m →
      (now ≡ rounds most rows m) × AreSettled most rows m
  settled_from n m now next is step still le =
      let e : rounds most rows (suc n) ≡ rounds most rows n = ap (next_round most rows) (sym is) ∙ sym step ∙ still ∙ is in
      let here : rounds most rows m ≡ rounds most rows n = stays_from n m e le in (
        is ∙ sym here,
        record { more = λ k more. let far : n ≤ k = omega (arith, le, more) in stays_from n k e far ∙ sym here },
      )

module _ (program : Program) (most : ℕ) where
  abbrev cut : ℕ → TExpr → ℕ
  cut n t = min (words_within program n t) most

  module _ (kinds : List TExpr) (n : ℕ) where
    cut_at : (place : ℕ) (t : TExpr) → slice_get kinds place ≡ Some t → word_in (map (cut n) kinds) place ≡ cut n t
    cut_at place t e = ap (λ o. unwrap_or o 0) (slice_get-map (cut n) kinds place ∙ ap (option_map (cut n)) e)

    sum_is : (places : List ℕ) (ts : List TExpr) → map (slice_get kinds) places ≡ map Some ts →
        min (sum_by (word_in (map (cut n) kinds)) places) most ≡ min (sum_by (λ t. words_within program n t) ts) most
    sum_is [] [] e = refl
    sum_is [] (t ∷ ts) e = cc
    sum_is (p ∷ ps) [] e = cc
    sum_is (p ∷ ps) (t ∷ ts) e =
        let first : slice_get kinds p ≡ Some t = cc in
        let rest : map (slice_get kinds) ps ≡ map Some ts = cc in
        let here = cut_at p t first in
        let behind = sum_is ps ts rest in
        omega (arith, here, behind, sum_by-cons (word_in (map (cut n) kinds)) p ps, sum_by-cons (λ u. words_within program n u) t ts)

    row_is : (row : Option (List ℕ)) (parts : Option (List TExpr)) → seen_row kinds row ≡ found_parts parts →
        row_words most (map (cut n) kinds) row ≡ min (words_in (λ t. words_within program n t) parts) most
    row_is None None e = refl
    row_is None (Some ts) e = cc
    row_is (Some ps) None e = cc
    row_is (Some ps) (Some ts) e = let same : map (slice_get kinds) ps ≡ map Some ts = cc in sum_is ps ts same

    round_is : (rows : List (Option (List ℕ))) (ts : List TExpr) → map (seen_row kinds) rows ≡ map (parts_seen program) ts →
        next_round most rows (map (cut n) kinds) ≡ map (cut (suc n)) ts
    round_is [] [] e = refl
    round_is [] (t ∷ ts) e = cc
    round_is (r ∷ rs) [] e = cc
    round_is (r ∷ rs) (t ∷ ts) e =
        let first : seen_row kinds r ≡ parts_seen program t = cc in
        let rest : map (seen_row kinds) rs ≡ map (parts_seen program) ts = cc in
        ap (λ w. w ∷ next_round most rs (map (cut n) kinds)) (row_is r (parts_of program t) first) ∙ ap (λ ws. cut (suc n) t ∷ ws) (round_is rs ts rest)

  rounds_are : (rows : List (Option (List ℕ))) (kinds : List TExpr) → map (seen_row kinds) rows ≡ map (parts_seen program) kinds →
      (n : ℕ) → rounds most rows n ≡ map (cut n) kinds
  rounds_are rows kinds e zero = same_count (seen_row kinds) (parts_seen program) (min 1 most) rows kinds e
  rounds_are rows kinds e (suc n) = ap (next_round most rows) (rounds_are rows kinds e n) ∙ round_is kinds n rows kinds e

  word_is : (rows : List (Option (List ℕ))) (kinds : List TExpr) → map (seen_row kinds) rows ≡ map (parts_seen program) kinds →
      (n place : ℕ) (t : TExpr) → slice_get kinds place ≡ Some t → word_in (rounds most rows n) place ≡ cut n t
  word_is rows kinds e n place t at = ap (λ ws. word_in ws place) (rounds_are rows kinds e n) ∙ cut_at kinds n place t at

  settled_are : (rows : List (Option (List ℕ))) (kinds : List TExpr) (few : ℕ) → map (seen_row kinds) rows ≡ map (parts_seen program) kinds →
      few ≤ most_trees → AreSettled most rows few → (places : List ℕ) (ts : List TExpr) → map (slice_get kinds) places ≡ map Some ts →
      map (word_in (rounds most rows few)) places ≡ map (capped_words most program) ts
  settled_are rows kinds few e le still [] [] at = refl
  settled_are rows kinds few e le still [] (t ∷ ts) at = cc
  settled_are rows kinds few e le still (p ∷ ps) [] at = cc
  settled_are rows kinds few e le still (p ∷ ps) (t ∷ ts) at =
      let first : slice_get kinds p ≡ Some t = cc in
      let rest : map (slice_get kinds) ps ≡ map Some ts = cc in
      let enough : few ≤ most_trees * positions_of t = omega (arith, le, positions_of-positive t) in
      ap (λ w. w ∷ map (word_in (rounds most rows few)) ps)
      (ap (λ ws. word_in ws p) (sym (still.more (most_trees * positions_of t) enough)) ∙ word_is rows kinds e (most_trees * positions_of t) p t first)
      ∙ ap (λ ws. capped_words most program t ∷ ws) (settled_are rows kinds few e le still ps ts rest)

  -- where the rounds have settled, each type's words are those at its place
  pub all_settled : (rows : List (Option (List ℕ))) (asked : List TExpr) (places : List ℕ) (few : ℕ) → few ≤ most_trees → AreSettled most rows few →
      IsOpened program asked places rows → map (word_in (rounds most rows few)) places ≡ map (capped_words most program) asked
  all_settled rows asked places few le still o = settled_are rows o.kinds few o.parts le still places asked o.at

  found_at : (kinds : List TExpr) (places : List ℕ) (ts : List TExpr) (i place : ℕ) (t : TExpr) → map (slice_get kinds) places ≡ map Some ts →
      slice_get places i ≡ Some place → slice_get ts i ≡ Some t → slice_get kinds place ≡ Some t
  found_at kinds [] ts i place t e at is = cc
  found_at kinds (p ∷ ps) [] i place t e at is = cc
  found_at kinds (p ∷ ps) (u ∷ us) zero place t e at is =
      let first : slice_get kinds p ≡ Some u = cc in
      let same : p ≡ place = cc in
      subst (λ k. slice_get kinds k ≡ Some t) same (first ∙ is)
  found_at kinds (p ∷ ps) (u ∷ us) (suc i) place t e at is =
      let rest : map (slice_get kinds) ps ≡ map Some us = cc in found_at kinds ps us i place t rest at is

  -- one type's words, after as many rounds as it has levels
  pub one_alone : (rows : List (Option (List ℕ))) (asked : List TExpr) (places : List ℕ) (i place : ℕ) (t : TExpr) →
      IsOpened program asked places rows → slice_get places i ≡ Some place → slice_get asked i ≡ Some t →
      word_in (rounds most rows (most_trees * positions_of t)) place ≡ capped_words most program t
  one_alone rows asked places i place t o at is =
      word_is rows o.kinds o.parts (most_trees * positions_of t) place t (found_at o.kinds places asked i place t o.at at is)

  -- one type more
  pub alone_more : (rows : List (Option (List ℕ))) (asked : List TExpr) (places : List ℕ) (i place word : ℕ) (t : TExpr) (all new : List ℕ) →
      IsOpened program asked places rows → all ≡ map (capped_words most program) (take i asked) → i < length asked → t ≡ get_or asked i t →
      slice_get places i ≡ Some place → word ≡ word_in (rounds most rows (most_trees * positions_of t)) place → new ≡ all ++ word ∷ [] →
      new ≡ map (capped_words most program) (take (i + 1) asked)
  alone_more rows asked places i place word t all new o before inside is at here put =
      let read : slice_get asked i ≡ Some t = slice_get-get_or asked i t inside ∙ ap Some (sym is) in
      put
      ∙ ap (λ ws. ws ++ word ∷ []) before
      ∙ ap (λ w. map (capped_words most program) (take i asked) ++ w ∷ []) (here ∙ one_alone rows asked places i place t o at read)
      ∙ sym (map-append (capped_words most program) (take i asked) (t ∷ []))
      ∙ ap (map (capped_words most program)) (sym (take_more asked i t inside ∙ ap (λ u. take i asked ++ u ∷ []) (sym is)))
