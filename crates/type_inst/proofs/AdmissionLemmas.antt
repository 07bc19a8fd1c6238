-- Which types are too wide, by their words cut to a cap.
use Rattle.std.proofs.Common.{◌≡◌, ℕ, ◌<◌, min, Bool, true, false, cond, ◌&&◌, ◌||◌, nat_lt, List, [], ◌∷◌, map, filter, Some, None, refl, sym, ap, ◌∙◌, arith}
use Rattle.std.specs.List.{list_any}
use Rattle.std.proofs.lemmas.Bool.Decides.{nat_tests}
use Rattle.type_tree.specs.declared.tree.TExpr.{TExpr}
use Rattle.il_model.specs.declared.program.Program.{Program}
use Rattle.il_model.specs.Kinds.{is_value}
use Rattle.il_model.specs.Layouts.{words_of}
use Rattle.il_model.specs.declared.layout.Limit.TheVariants as limit
use Rattle.il_model.specs.Admission.{is_large, is_wide, limited_trees_of, limit_of}
use Rattle.type_inst.specs.Reaching.{Limited}
use Rattle.type_inst.specs.Sizing.{capped_words}

-- a cut number passes a smaller bound just where the number does
cut_passes : (bound most n : ℕ) → bound < most → nat_lt bound (min n most) ≡ nat_lt bound n
cut_passes bound most n less = grind (arith, nat_tests)

module _ (program : Program) (bound most : ℕ) (less : bound < most) where
  abbrev wide : TExpr → Bool
  wide t = is_value program t && nat_lt bound (words_of program t)

  wide_if : (b : Bool) (t : TExpr) (fs ts : List TExpr) → list_any (nat_lt bound) (map (capped_words most program) fs) ≡ list_any wide ts →
      list_any (nat_lt bound) (map (capped_words most program) (cond b (t ∷ fs) fs)) ≡ ((b && nat_lt bound (words_of program t)) || list_any wide ts)
  wide_if true t fs ts rest =
      ap (λ b. b || list_any (nat_lt bound) (map (capped_words most program) fs)) (cut_passes bound most (words_of program t) less)
      ∙ ap (λ b. nat_lt bound (words_of program t) || b) rest
  wide_if false t fs ts rest = rest

  pub any_wide : (ts : List TExpr) → list_any (nat_lt bound) (map (capped_words most program) (filter (is_value program) ts)) ≡ list_any wide ts
  any_wide [] = refl
  any_wide (t ∷ ts) = wide_if (is_value program t) t (filter (is_value program) ts) ts (any_wide ts)

module _ (program : Program) (t : TExpr) where
  pub limit_large : Limited program t None → limit_of program t ≡ Some limit.Positions
  limit_large large = ap (λ b. cond b (Some limit.Positions) (cond (list_any (is_wide program) (limited_trees_of program t)) (Some limit.ValueWords) None)) large

  limit_small : (all : List TExpr) (wide : Bool) → Limited program t (Some all) → list_any (is_wide program) all ≡ wide →
      limit_of program t ≡ cond wide (Some limit.ValueWords) None
  limit_small all wide found e =
      let whole = limited_trees_of program t in
      let small : list_any is_large whole ≡ false = sym (found.1 is_large) ∙ found.0 in
      let same : list_any (is_wide program) whole ≡ wide = sym (found.1 (is_wide program)) ∙ e in
      ap (λ b. cond b (Some limit.Positions) (cond (list_any (is_wide program) whole) (Some limit.ValueWords) None)) small
      ∙ ap (λ b. cond b (Some limit.ValueWords) None) same

  pub limit_wide : (all : List TExpr) → Limited program t (Some all) → list_any (is_wide program) all ≡ true → limit_of program t ≡ Some limit.ValueWords
  limit_wide all found e = limit_small all true found e

  pub limit_none : (all : List TExpr) → Limited program t (Some all) → list_any (is_wide program) all ≡ false → limit_of program t ≡ None
  limit_none all found e = limit_small all false found e
