-- The marks of targets, one by one, are the list of them.
use Rattle.std.proofs.Common.{◌≡◌, ℕ, zero, suc, ◌<◌, ◌≤◌, Bool, false, List, [], ◌∷◌, length, take, get_or, subst, sym, ap, ◌∙◌, refl, arith, inl, inr}
use Rattle.std.proofs.Math.ListN.{length-append, get_or-append}
use Rattle.std.proofs.Math.Seq.{get_or-append_seam}
use Rattle.std.proofs.Math.Nat.{eq-or-lt_of_le}
use Rattle.std.proofs.lemmas.List.{take_all, ext_get_or}
use Rattle.il_model.specs.declared.op.Op.{Op}
use Rattle.cil_flow.specs.Depths.{targets_before, is_target}

module _ (code : List Op) where
  targets-length : (m : ℕ) → length (targets_before code m) ≡ m
  targets-length zero = refl
  targets-length (suc m) = omega (arith, length-append {A = Bool}, targets-length m)

  target_at : (m j : ℕ) → j < m → get_or (targets_before code m) j false ≡ is_target code j
  target_at zero j below = absurd (omega arith)
  target_at (suc m) j below =
      let low : j ≤ m = omega arith in
      elim (eq-or-lt_of_le {n = j} {m = m} low) [
        | inl same ↦ subst (λ (n : ℕ). get_or (targets_before code (suc m)) n false ≡ is_target code n) (sym same)
            (subst (λ (n : ℕ). get_or (targets_before code (suc m)) n false ≡ is_target code m) (targets-length m) (get_or-append_seam (targets_before code m) (is_target code m) [] false))
        | inr earlier ↦ (let inside : j < length (targets_before code m) = omega (arith, targets-length m) in
            get_or-append (targets_before code m) (is_target code m ∷ []) false j inside ∙ target_at m j earlier)
      ]

  pub marks_are : (marks : List Bool) (end : ℕ) → length code ≤ end → length marks ≡ length code →
      ((j : ℕ) → j < length code → get_or marks j false ≡ is_target (take end code) j) → marks ≡ targets_before code (length code)
  marks_are marks end whole size each =
      ext_get_or false marks (targets_before code (length code)) (size ∙ sym (targets-length (length code)))
      (λ j below. each j (omega arith) ∙ ap (λ (ops : List Op). is_target ops j) (take_all end code whole) ∙ sym (target_at (length code) j (omega arith)))
