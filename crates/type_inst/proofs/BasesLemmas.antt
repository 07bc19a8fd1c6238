-- The bases of a type, one step up at a time.
use Rattle.std.proofs.Common.{◌≡◌, ℕ, zero, suc, ◌+◌, ◌-◌, ◌<◌, List, [], ◌∷◌, ◌++◌, Option, Some, None, sym, ap, ◌∙◌, append_assoc, append-nil, arith}
use Rattle.type_tree.specs.declared.tree.TExpr.{TExpr}
use Rattle.il_model.specs.declared.program.Program.{Program}
use Rattle.il_model.specs.Bases.{base_of, upwards}

module _ (program : Program) where
  -- nothing is above no type
  pub upwards-none : (levels : ℕ) (all : List TExpr) → all ++ upwards program levels None ≡ all
  upwards-none zero all = append-nil all
  upwards-none (suc levels) all = append-nil all

  -- with no levels left nothing is above
  pub upwards-end : (n k : ℕ) (next : Option TExpr) (all : List TExpr) → n ≡ k → all ++ upwards program (n - k) next ≡ all
  upwards-end n k next all same =
      let none : n - k ≡ 0 = omega arith in ap (λ levels. all ++ upwards program levels next) none ∙ append-nil all

  -- a base is put at the end, and what is above it follows
  pub upwards-step : (n k : ℕ) (base : TExpr) (all : List TExpr) → k < n →
      all ++ upwards program (n - k) (Some base) ≡ (all ++ base ∷ []) ++ upwards program (n - (k + 1)) (base_of program base)
  upwards-step n k base all inside =
      let more : n - k ≡ suc (n - (k + 1)) = omega arith in
      ap (λ levels. all ++ upwards program levels (Some base)) more
      ∙ sym (append_assoc all (base ∷ []) (upwards program (n - (k + 1)) (base_of program base)))
