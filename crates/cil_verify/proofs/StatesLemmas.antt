-- The states of a body: each follows from the earlier ones.
use Rattle.std.proofs.Common.{◌≡◌, ℕ, zero, suc, ◌+◌, ◌<◌, ◌≤◌, cond, List, [], ◌∷◌, ◌++◌, length, take, get_or, slice_get, Some, None, Option, option_and_then, unwrap_or, subst, sym, ap, ◌∙◌, refl, arith, inl, inr}
use Rattle.std.specs.Option.{option_or}
use Rattle.std.proofs.Math.Nat.{eq-or-lt_of_le}
use Rattle.std.proofs.Math.ListN.{length-append, get_or-append}
use Rattle.std.proofs.Math.Seq.{get_or-append_seam, take-suc}
use Rattle.std.proofs.lemmas.List.{get_or-take, take_all}
use Rattle.std.proofs.lemmas.Option.{unwrap_or-slice_get}
use Rattle.il_model.specs.declared.op.Op.{Op}
use Rattle.cil_flow.specs.Depths.{goes_on_to}
use Rattle.cil_flow.specs.Regions.{begins_handler}
use Rattle.cil_verify.specs.declared.fault.VerifyCause.{VerifyCause}
use Rattle.cil_verify.specs.Places.{View, code_of, clauses_of}
use Rattle.cil_verify.specs.Admits.{left_by}
use Rattle.cil_verify.specs.States.{Stack, handler_stack, stack_at, arriving, meet, arrived, state_given, states_before, states_of, cause_of_instr, Refusal, refusal_if, refused_before, first_refused}

-- the stack at a number is the element there, or an empty one
pub stack_at_is : (states : List Stack) (at : ℕ) → stack_at states at ≡ get_or states at []
stack_at_is states at = unwrap_or-slice_get states at []

module _ (v : View) where
  -- what arrives depends on the states before the instructions that go on alone
  pub arrivals_agree : (ds es : List Stack) (to k : ℕ) → ((j : ℕ) → j < k → get_or ds j [] ≡ get_or es j []) → arrived v ds to k ≡ arrived v es to k
  arrivals_agree ds es to zero same = refl
  arrivals_agree ds es to (suc k) same =
      let before : arrived v ds to k ≡ arrived v es to k = arrivals_agree ds es to k (λ j below. same j (omega arith)) in
      let here : stack_at ds k ≡ stack_at es k = stack_at_is ds k ∙ same k (omega arith) ∙ sym (stack_at_is es k) in
      let step : option_and_then (arriving v ds k to) (slice_get (code_of v.method.body) k) ≡ option_and_then (arriving v es k to) (slice_get (code_of v.method.body) k) =
      ap (λ (s : Stack). option_and_then (λ i. cond (goes_on_to i k to) (left_by v i s) None) (slice_get (code_of v.method.body) k)) here in
      ap (λ (o : Option Stack). meet v o (option_and_then (arriving v ds k to) (slice_get (code_of v.method.body) k))) before
      ∙ ap (λ (o : Option Stack). meet v (arrived v es to k) o) step

  pub before-length : (m : ℕ) → length (states_before v m) ≡ m
  before-length zero = refl
  before-length (suc m) = omega (arith, length-append {A = Stack}, before-length m)

  get_earlier : (m k : ℕ) → k < m → get_or (states_before v (suc m)) k [] ≡ get_or (states_before v m) k []
  get_earlier m k below = let inside : k < length (states_before v m) = omega (arith, before-length m) in rw get_or-append

  get_last : (m : ℕ) → get_or (states_before v (suc m)) m [] ≡ state_given v (states_before v m) m
  get_last m =
      subst (λ (n : ℕ). get_or (states_before v (suc m)) n [] ≡ state_given v (states_before v m) m) (before-length m)
      (get_or-append_seam (states_before v m) _ [] [])

  -- the states so far stand in any longer list
  get_kept : (m k : ℕ) → k ≤ m → (j : ℕ) → j < k → get_or (states_before v m) j [] ≡ get_or (states_before v k) j []
  get_kept zero k below j inside = absurd (omega arith)
  get_kept (suc m) k below j inside =
      elim (eq-or-lt_of_le {n = k} {m = suc m} below) [
        | inl same ↦ subst (λ (n : ℕ). get_or (states_before v n) j [] ≡ get_or (states_before v k) j []) same refl
        | inr earlier ↦ get_earlier m j (omega arith) ∙ get_kept m k (omega arith) j inside
      ]

  given_kept : (m k : ℕ) → k < m → state_given v (states_before v k) k ≡ state_given v (states_before v m) k
  given_kept m k below =
      ap (λ (o : Option Stack). cond (begins_handler (clauses_of v.method.body) k) (handler_stack (clauses_of v.method.body) k) (unwrap_or o []))
      (arrivals_agree (states_before v k) (states_before v m) k k (λ j inside. sym (get_kept m k (omega arith) j inside)))

  -- each state is what the earlier ones give
  pub state_is_given : (k : ℕ) → k < length (code_of v.method.body) → get_or (states_of v) k [] ≡ state_given v (states_of v) k
  state_is_given k below =
      get_kept (length (code_of v.method.body)) (suc k) (omega arith) k (omega arith) ∙ get_last k ∙ given_kept (length (code_of v.method.body)) k below

  -- one more state
  pub states_next : (at : ℕ) (s : Stack) (so_far : List Stack) → at < length (code_of v.method.body) → so_far ≡ take at (states_of v) →
      s ≡ state_given v (states_of v) at → so_far ++ s ∷ [] ≡ take (at + 1) (states_of v)
  states_next at s so_far within front here =
      let inside : at < length (states_of v) = omega (arith, before-length (length (code_of v.method.body))) in
      let next : suc at ≡ at + 1 = omega arith in
      ap (λ (p : List Stack × Stack). p.0 ++ p.1 ∷ []) (λ k. (front k, (here ∙ sym (state_is_given at within)) k))
      ∙ sym (take-suc (states_of v) at [] inside)
      ∙ ap (λ (n : ℕ). take n (states_of v)) next

  pub all_states : (at : ℕ) (so_far : List Stack) → at ≡ length (code_of v.method.body) → so_far ≡ take at (states_of v) → so_far ≡ states_of v
  all_states at so_far end front =
      let whole : length (states_of v) ≤ at = omega (arith, before-length (length (code_of v.method.body))) in
      front ∙ take_all at (states_of v) whole

  -- the front of the states has the same up to its end
  pub stack_in_front : (at to : ℕ) (so_far : List Stack) → so_far ≡ take (at + 1) (states_of v) → to ≤ at → stack_at so_far to ≡ stack_at (states_of v) to
  stack_in_front at to so_far front low =
      let below : to < at + 1 = omega arith in
      stack_at_is so_far to ∙ ap (λ (xs : List Stack). get_or xs to []) front ∙ get_or-take (at + 1) (states_of v) to [] below ∙ sym (stack_at_is (states_of v) to)

  -- what arrived before the next instruction, where this one is the last before it
  pub arrived_next : (states : List Stack) (to at : ℕ) (i : Op) → slice_get (code_of v.method.body) at ≡ Some i →
      arrived v states to (suc at) ≡ meet v (arrived v states to at) (arriving v states at to i)
  arrived_next states to at i is = ap (λ (o : Option Op). meet v (arrived v states to at) (option_and_then (arriving v states at to) o)) is

  -- ---- refusals

  refused_stays : (states : List Stack) (k m : ℕ) (r : Refusal) → k ≤ m → refused_before v states k ≡ Some r → refused_before v states m ≡ Some r
  refused_stays states k zero r below found = let same : k ≡ zero = omega arith in subst (λ (n : ℕ). refused_before v states n ≡ Some r) same found
  refused_stays states k (suc m) r below found =
      elim (eq-or-lt_of_le {n = k} {m = suc m} below) [
        | inl same ↦ subst (λ (n : ℕ). refused_before v states n ≡ Some r) same found
        | inr earlier ↦ (let low : k ≤ m = omega arith in
            ap (λ (o : Option Refusal). option_or o (refusal_if m (option_and_then (cause_of_instr v states m) (slice_get (code_of v.method.body) m)))) (refused_stays states k m r low found))
      ]

  -- where nothing is refused before an instruction, the refusal up to it is its own
  pub refused_next : (states : List Stack) (at : ℕ) (i : Op) (o : Option VerifyCause) → slice_get (code_of v.method.body) at ≡ Some i → refused_before v states at ≡ None →
      o ≡ cause_of_instr v states at i → refused_before v states (at + 1) ≡ refusal_if at o
  refused_next states at i o is none here =
      let same : suc at ≡ at + 1 = omega arith in
      subst (λ (n : ℕ). refused_before v states n ≡ refusal_if at o) same
      (ap (λ (r : Option Refusal). option_or r (refusal_if at (option_and_then (cause_of_instr v states at) (slice_get (code_of v.method.body) at)))) none
      ∙ ap (λ (p : Option Op). refusal_if at (option_and_then (cause_of_instr v states at) p)) is
      ∙ ap (λ (c : Option VerifyCause). refusal_if at c) (sym here))

  pub refused_is : (at : ℕ) (i : Op) (c : VerifyCause) → at < length (code_of v.method.body) → slice_get (code_of v.method.body) at ≡ Some i → refused_before v (states_of v) at ≡ None →
      Some c ≡ cause_of_instr v (states_of v) at i → first_refused v ≡ Some (record { instr = at; cause = c })
  refused_is at i c within is none here =
      let low : at + 1 ≤ length (code_of v.method.body) = omega arith in
      refused_stays (states_of v) (at + 1) (length (code_of v.method.body)) (record { instr = at; cause = c }) low (refused_next (states_of v) at i (Some c) is none here)

  pub none_refused : (at : ℕ) → at ≡ length (code_of v.method.body) → refused_before v (states_of v) at ≡ None → first_refused v ≡ None
  none_refused at end none = subst (λ (n : ℕ). refused_before v (states_of v) n ≡ None) end none
