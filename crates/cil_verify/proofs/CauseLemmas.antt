-- The first cause for which an instruction is refused, from the answers to its tests.
use Rattle.std.proofs.Common.{◌≡◌, ℕ, Bool, true, false, cond, not, List, Some, None, sym, ap, ◌∙◌}
use Rattle.il_model.specs.declared.op.Op.{Op}
use Rattle.cil_flow.specs.Control.{any_follower}
use Rattle.cil_verify.specs.declared.fault.VerifyCause.TheVariants as cause
use Rattle.cil_verify.specs.Places.{View}
use Rattle.cil_verify.specs.Admits.{left_by}
use Rattle.cil_verify.specs.Members.{names_well, meets_all_bounds}
use Rattle.cil_verify.specs.States.{Stack, stack_at, meets_well, cause_of_merge, cause_of_instr}

module _ (v : View) (states : List Stack) (at : ℕ) (i : Op) where
  pub cause_of_member : names_well v i ≡ false → Some cause.BadMember ≡ cause_of_instr v states at i
  cause_of_member bad = sym (ap (λ b. cond (not b) (Some cause.BadMember) (cond (not (meets_all_bounds v i)) (Some cause.BadConstraint) (cause_of_merge v states at i (left_by v i (stack_at states at))))) bad)

  named : names_well v i ≡ true → cond (not (meets_all_bounds v i)) (Some cause.BadConstraint) (cause_of_merge v states at i (left_by v i (stack_at states at))) ≡ cause_of_instr v states at i
  named good = sym (ap (λ b. cond (not b) (Some cause.BadMember) (cond (not (meets_all_bounds v i)) (Some cause.BadConstraint) (cause_of_merge v states at i (left_by v i (stack_at states at))))) good)

  pub cause_of_bounds : names_well v i ≡ true → meets_all_bounds v i ≡ false → Some cause.BadConstraint ≡ cause_of_instr v states at i
  cause_of_bounds good bad = sym (ap (λ b. cond (not b) (Some cause.BadConstraint) (cause_of_merge v states at i (left_by v i (stack_at states at)))) bad) ∙ named good

  bounded : names_well v i ≡ true → meets_all_bounds v i ≡ true → cause_of_merge v states at i (left_by v i (stack_at states at)) ≡ cause_of_instr v states at i
  bounded good met = sym (ap (λ b. cond (not b) (Some cause.BadConstraint) (cause_of_merge v states at i (left_by v i (stack_at states at)))) met) ∙ named good

  pub cause_of_type : names_well v i ≡ true → meets_all_bounds v i ≡ true → left_by v i (stack_at states at) ≡ None → Some cause.BadType ≡ cause_of_instr v states at i
  cause_of_type good met none = sym (ap (cause_of_merge v states at i) none) ∙ bounded good met

  pub cause_of_merging : (left : Stack) (b : Bool) → names_well v i ≡ true → meets_all_bounds v i ≡ true → left_by v i (stack_at states at) ≡ Some left →
      any_follower (λ to. not (meets_well v states at left to)) i at ≡ b → cond b (Some cause.BadMerge) None ≡ cause_of_instr v states at i
  cause_of_merging left b good met leaves merges =
      sym (ap (λ c. cond c (Some cause.BadMerge) None) merges)
      ∙ sym (ap (cause_of_merge v states at i) leaves) ∙ bounded good met
