-- The first fault of a body, from the fault at each instruction.
use Rattle.std.proofs.Common.{◌≡◌, ℕ, zero, suc, ◌+◌, ◌<◌, ◌≤◌, max, Bool, true, false, cond, List, length, slice_get, Some, None, Option, option_map, subst, ap, ◌∙◌, refl, arith, inl, inr}
use Rattle.std.specs.Option.{option_or}
use Rattle.std.proofs.Math.Nat.{eq-or-lt_of_le}
use Rattle.std.proofs.lemmas.Option.{slice_get_past}
use Rattle.il_model.specs.declared.op.Op.{Op}
use Rattle.il_model.specs.declared.method.Body.{Body}
use Rattle.cil_flow.specs.declared.fault.FlowFault.{FlowFault}
use Rattle.cil_flow.specs.declared.fault.FlowCause.{FlowCause}
use Rattle.cil_flow.specs.declared.fault.FlowCause.TheVariants as cause
use Rattle.cil_flow.specs.Regions.{first_bad_place}
use Rattle.cil_flow.specs.Depths.{depths_of}
use Rattle.cil_flow.specs.Flow.{is_at, cause_of, cause_of_step, cause_at, fault_with, fault_before, first_fault}

module _ (has_result : Bool) (body : Body) (ds : List ℕ) where
  fault_stays : (k m : ℕ) (f : FlowFault) → k ≤ m → fault_before has_result body ds k ≡ Some f → fault_before has_result body ds m ≡ Some f
  fault_stays k zero f below found = let same : k ≡ zero = omega arith in subst (λ (n : ℕ). fault_before has_result body ds n ≡ Some f) same found
  fault_stays k (suc m) f below found =
      elim (eq-or-lt_of_le {n = k} {m = suc m} below) [
        | inl same ↦ subst (λ (n : ℕ). fault_before has_result body ds n ≡ Some f) same found
        | inr earlier ↦ (let low : k ≤ m = omega arith in ap (λ (o : Option FlowFault). option_or o (option_map (fault_with m) (cause_at has_result body ds m))) (fault_stays k m f low found))
      ]

  -- where nothing is wrong before an instruction, the fault up to it is its own
  pub fault_next : (at : ℕ) (o : Option FlowCause) → fault_before has_result body ds at ≡ None → cause_at has_result body ds at ≡ o →
      fault_before has_result body ds (at + 1) ≡ option_map (fault_with at) o
  fault_next at o none here =
      let same : suc at ≡ at + 1 = omega arith in
      subst (λ (n : ℕ). fault_before has_result body ds n ≡ option_map (fault_with at) o) same
      (ap (λ (p : Option FlowFault). option_or p (option_map (fault_with at) (cause_at has_result body ds at))) none ∙ ap (λ (p : Option FlowCause). option_map (fault_with at) p) here)

  -- the fault at an instruction at which no rule on clauses is broken
  pub cause_kept : (at : ℕ) (i : Op) (o : Option FlowCause) → is_at at (first_bad_place (length body.code) body.clauses) ≡ false → slice_get body.code at ≡ Some i →
      cause_of_step has_result body ds at i ≡ o → cause_at has_result body ds at ≡ o
  cause_kept at i o kept is step =
      ap (λ (b : Bool). cond b (Some cause.BadFlow) (cause_of has_result body ds at (slice_get body.code at))) kept
      ∙ ap (λ (p : Option Op). cause_of has_result body ds at p) is ∙ step

  pub cause_of_clause : (at : ℕ) → is_at at (first_bad_place (length body.code) body.clauses) ≡ true → cause_at has_result body ds at ≡ Some cause.BadFlow
  cause_of_clause at broken = ap (λ (b : Bool). cond b (Some cause.BadFlow) (cause_of has_result body ds at (slice_get body.code at))) broken

  cause_of_none : (at : ℕ) → length body.code ≤ at → is_at at (first_bad_place (length body.code) body.clauses) ≡ false → cause_at has_result body ds at ≡ None
  cause_of_none at past kept =
      ap (λ (b : Bool). cond b (Some cause.BadFlow) (cause_of has_result body ds at (slice_get body.code at))) kept
      ∙ ap (λ (p : Option Op). cause_of has_result body ds at p) (slice_get_past body.code at past)

-- the first fault is where nothing was wrong before
pub fault_is : (has_result : Bool) (body : Body) (at : ℕ) (c : FlowCause) → at < length body.code →
    fault_before has_result body (depths_of has_result body) at ≡ None → cause_at has_result body (depths_of has_result body) at ≡ Some c →
    first_fault has_result body ≡ Some (fault_with at c)
fault_is has_result body at c within none here =
    let low : at + 1 ≤ max 1 (length body.code) = omega arith in
    fault_stays has_result body (depths_of has_result body) (at + 1) (max 1 (length body.code)) (fault_with at c) low (fault_next has_result body (depths_of has_result body) at (Some c) none here)

pub no_fault : (has_result : Bool) (body : Body) (at : ℕ) → 0 < length body.code → at ≡ length body.code →
    fault_before has_result body (depths_of has_result body) at ≡ None → first_fault has_result body ≡ None
no_fault has_result body at some end none =
    let same : at ≡ max 1 (length body.code) = omega arith in
    subst (λ (n : ℕ). fault_before has_result body (depths_of has_result body) n ≡ None) same none

-- of a body without instructions the clauses alone are judged
pub fault_of_empty : (has_result : Bool) (body : Body) → length body.code ≡ 0 → is_at 0 (first_bad_place (length body.code) body.clauses) ≡ true →
    first_fault has_result body ≡ Some (fault_with 0 cause.BadFlow)
fault_of_empty has_result body none broken =
    let one : 0 + 1 ≡ max 1 (length body.code) = omega arith in
    subst (λ (n : ℕ). fault_before has_result body (depths_of has_result body) n ≡ Some (fault_with 0 cause.BadFlow)) one
    (fault_next has_result body (depths_of has_result body) 0 (Some cause.BadFlow) refl (cause_of_clause has_result body (depths_of has_result body) 0 broken))

pub no_fault_of_empty : (has_result : Bool) (body : Body) → length body.code ≡ 0 → is_at 0 (first_bad_place (length body.code) body.clauses) ≡ false →
    first_fault has_result body ≡ None
no_fault_of_empty has_result body none kept =
    let one : 0 + 1 ≡ max 1 (length body.code) = omega arith in
    let past : length body.code ≤ 0 = omega arith in
    subst (λ (n : ℕ). fault_before has_result body (depths_of has_result body) n ≡ None) one
    (fault_next has_result body (depths_of has_result body) 0 None refl (cause_of_none has_result body (depths_of has_result body) 0 past kept))
