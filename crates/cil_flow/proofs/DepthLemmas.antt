-- The depths of a body: each follows from the earlier ones, and none is more than its number and one.
use Rattle.std.proofs.Common.{◌≡◌, ℕ, zero, suc, ◌+◌, ◌*◌, ◌<◌, ◌≤◌, Bool, true, false, cond, List, [], length, get_or, slice_get, Some, None, Option, option_and_then, unwrap_or, subst, sym, ap, ◌∙◌, refl, arith, inl, inr}
use Rattle.std.specs.Option.{option_or}
use Rattle.std.proofs.Math.Nat.{eq-or-lt_of_le}
use Rattle.std.proofs.Math.ListN.{length-append, get_or-append}
use Rattle.std.proofs.Math.Seq.{get_or-append_seam}
use Rattle.il_model.specs.declared.op.Op.{Op}
use Rattle.il_model.specs.declared.method.Body.{Body}
use Rattle.cil_flow.specs.declared.control.Control.{Control}
use Rattle.cil_flow.specs.declared.control.Control.TheVariants as control
use Rattle.cil_flow.specs.declared.effect.Effect.{Effect}
use Rattle.cil_flow.specs.Effects.{effect_of}
use Rattle.cil_flow.proofs.EffectLemmas.{effect_small}
use Rattle.cil_flow.specs.Control.{control_at}
use Rattle.cil_flow.specs.Regions.{begins_handler}
use Rattle.cil_flow.specs.Depths.{depth_left, depth_after, goes_on_to, arrival, first_arrival, depth_given, depths_before, depths_of}

-- what arrives depends on the depths before the instructions that go on alone
pub arrivals_agree : (has_result : Bool) (code : List Op) (ds es : List ℕ) (to k : ℕ) → ((j : ℕ) → j < k → get_or ds j 0 ≡ get_or es j 0) →
    first_arrival has_result code ds to k ≡ first_arrival has_result code es to k
arrivals_agree has_result code ds es to zero same = refl
arrivals_agree has_result code ds es to (suc k) same =
    let before : first_arrival has_result code ds to k ≡ first_arrival has_result code es to k = arrivals_agree has_result code ds es to k (λ j below. same j (omega arith)) in
    let here : get_or ds k 0 ≡ get_or es k 0 = same k (omega arith) in
    let step : option_and_then (arrival has_result ds k to) (slice_get code k) ≡ option_and_then (arrival has_result es k to) (slice_get code k) =
    ap (λ (d : ℕ). option_and_then (λ i. cond (goes_on_to i k to) (Some (depth_after has_result i d)) None) (slice_get code k)) here in
    cc

module _ (has_result : Bool) (body : Body) where
  pub depths_before-length : (m : ℕ) → length (depths_before has_result body m) ≡ m
  depths_before-length zero = refl
  depths_before-length (suc m) = omega (arith, length-append {A = ℕ}, depths_before-length m)

  get_earlier : (m k : ℕ) → k < m → get_or (depths_before has_result body (suc m)) k 0 ≡ get_or (depths_before has_result body m) k 0
  get_earlier m k below = let inside : k < length (depths_before has_result body m) = omega (arith, depths_before-length m) in rw get_or-append

  get_last : (m : ℕ) → get_or (depths_before has_result body (suc m)) m 0 ≡ depth_given has_result body (depths_before has_result body m) m
  get_last m =
      subst (λ (n : ℕ). get_or (depths_before has_result body (suc m)) n 0 ≡ depth_given has_result body (depths_before has_result body m) m) (depths_before-length m)
      (get_or-append_seam (depths_before has_result body m) _ [] 0)

  -- the depths so far stand in any longer list
  pub get_kept : (m k : ℕ) → k ≤ m → (j : ℕ) → j < k → get_or (depths_before has_result body m) j 0 ≡ get_or (depths_before has_result body k) j 0
  get_kept zero k below j inside = absurd (omega arith)
  get_kept (suc m) k below j inside =
      elim (eq-or-lt_of_le {n = k} {m = suc m} below) [
        | inl same ↦ subst (λ (n : ℕ). get_or (depths_before has_result body n) j 0 ≡ get_or (depths_before has_result body k) j 0) same refl
        | inr earlier ↦ get_earlier m j (omega arith) ∙ get_kept m k (omega arith) j inside
      ]

  given_kept : (m k : ℕ) → k < m → depth_given has_result body (depths_before has_result body k) k ≡ depth_given has_result body (depths_before has_result body m) k
  given_kept m k below =
      ap (λ (o : Option ℕ). cond (begins_handler body.clauses k) 1 (unwrap_or o 0))
      (arrivals_agree has_result body.code (depths_before has_result body k) (depths_before has_result body m) k k (λ j inside. sym (get_kept m k (omega arith) j inside)))

  -- each depth is what the earlier ones give
  pub depth_is_given : (k : ℕ) → k < length body.code →
      get_or (depths_of has_result body) k 0 ≡ depth_given has_result body (depths_of has_result body) k
  depth_is_given k below =
      get_kept (length body.code) (suc k) (omega arith) k (omega arith) ∙ get_last k ∙ given_kept (length body.code) k below

-- what an instruction leaves is two values more than it finds at most
left_shallow : (c : Control) (e : Effect) (depth : ℕ) → e.leaves ≤ 2 → depth_left c e depth ≤ depth + 2
left_shallow control.Falls e depth small = omega arith
left_shallow control.Jumps e depth small = omega arith
left_shallow control.Branches e depth small = omega arith
left_shallow control.Leaves e depth small = omega arith
left_shallow control.Returns e depth small = omega arith
left_shallow control.Stops e depth small = omega arith
left_shallow control.Refused e depth small = omega arith

-- an arrival is at most so much more than the depths before the instructions that go on
one_shallow : (has_result : Bool) (ds : List ℕ) (at to most x : ℕ) (o : Option Op) → get_or ds at 0 ≤ most →
    option_and_then (arrival has_result ds at to) o ≡ Some x → x ≤ most + 2
one_shallow has_result ds at to most x None low found = cc
one_shallow has_result ds at to most x (Some i) low found =
    elim (goes_on_to i at to) as (λ (b : Bool). cond b (Some (depth_after has_result i (get_or ds at 0))) None ≡ Some x → x ≤ most + 2) [
      | true ↦ (λ is. let same : depth_after has_result i (get_or ds at 0) ≡ x = cc in
          omega (arith, left_shallow (control_at i) (effect_of has_result i) (get_or ds at 0) (effect_small has_result i)))
      | false ↦ (λ is. cc)
    ] found

pub arrival_shallow : (has_result : Bool) (code : List Op) (ds : List ℕ) (to k x : ℕ) → ((j : ℕ) → j < k → get_or ds j 0 ≤ 2 * j + 1) →
    first_arrival has_result code ds to k ≡ Some x → x ≤ 2 * k + 1
arrival_shallow has_result code ds to zero x low found = cc
arrival_shallow has_result code ds to (suc k) x low found =
    elim (first_arrival has_result code ds to k) as (λ (o : Option ℕ). first_arrival has_result code ds to k ≡ o → option_or o (option_and_then (arrival has_result ds k to) (slice_get code k)) ≡ Some x → x ≤ 2 * (suc k) + 1) [
      | Some y ↦ (λ is here. let same : y ≡ x = cc in omega (arith, arrival_shallow has_result code ds to k y (λ j below. low j (omega arith)) is))
      | None ↦ (λ is here. omega (arith, one_shallow has_result ds k to (2 * k + 1) x (slice_get code k) (low k (omega arith)) here))
    ] refl found

or_none_shallow : (o : Option ℕ) (most : ℕ) → ((x : ℕ) → o ≡ Some x → x ≤ most) → unwrap_or o 0 ≤ most
or_none_shallow None most low = omega arith
or_none_shallow (Some x) most low = low x refl

given_shallow : (b : Bool) (n most : ℕ) → n ≤ most → 1 ≤ most → cond b 1 n ≤ most
given_shallow true n most low one = one
given_shallow false n most low one = low

-- no depth is more than two for each earlier instruction, and one
pub depths_shallow : (has_result : Bool) (body : Body) (m k : ℕ) → k < m → m ≤ length body.code → get_or (depths_of has_result body) k 0 ≤ 2 * k + 1
depths_shallow has_result body zero k below within = absurd (omega arith)
depths_shallow has_result body (suc m) k below within =
    subst (λ (d : ℕ). d ≤ 2 * k + 1) (sym (depth_is_given has_result body k (omega arith)))
    (given_shallow (begins_handler body.clauses k) _ (2 * k + 1)
    (or_none_shallow _ (2 * k + 1) (λ x found. arrival_shallow has_result body.code (depths_of has_result body) k k x (λ j earlier. depths_shallow has_result body m j (omega arith) (omega arith)) found))
    (omega arith))

-- an arrival once found stays the first
pub arrival_stays : (has_result : Bool) (code : List Op) (ds : List ℕ) (to k m x : ℕ) → k ≤ m → first_arrival has_result code ds to k ≡ Some x →
    first_arrival has_result code ds to m ≡ Some x
arrival_stays has_result code ds to k zero x below found = let same : k ≡ zero = omega arith in subst (λ (n : ℕ). first_arrival has_result code ds to n ≡ Some x) same found
arrival_stays has_result code ds to k (suc m) x below found =
    elim (eq-or-lt_of_le {n = k} {m = suc m} below) [
      | inl same ↦ subst (λ (n : ℕ). first_arrival has_result code ds to n ≡ Some x) same found
      | inr earlier ↦ ap (λ (o : Option ℕ). option_or o (option_and_then (arrival has_result ds m to) (slice_get code m))) (arrival_stays has_result code ds to k m x (omega arith) found)
    ]
