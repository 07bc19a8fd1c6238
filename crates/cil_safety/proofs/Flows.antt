-- What the rules on flow give at each edge: an instruction stands where one goes on to, and forward no handler begins there.
use Rattle.std.proofs.Common.{◌≡◌, ◌≢◌, ℕ, zero, suc, ◌<◌, List, [], ◌∷◌, length, Bool, true, false, not, Option, Some, None, refl, sym, subst, arith, eqb-true, eq-eqb}
use Rattle.std.proofs.lemmas.Bool.Decides.{nat_tests}
use Rattle.std.specs.Prelude.{◌==◌, ◌&&◌, ◌||◌, nat_lt, nat_le, if◌then◌else◌, max, option_map, slice_get}
use Rattle.il_model.specs.declared.method.Clause.{Clause}
use Rattle.il_model.specs.declared.method.Body.{Body}
use Rattle.il_model.specs.declared.op.Op.{Op}
use Rattle.cil_flow.specs.declared.control.Control.{Control}
use Rattle.cil_flow.specs.declared.control.Control.TheVariants as control
use Rattle.cil_flow.specs.declared.fault.FlowCause.TheVariants as cause
use Rattle.cil_flow.specs.Control.{control_at}
use Rattle.cil_flow.specs.Regions.{handler_of, try_of, begins, begins_handler, goes_out, goes_in, crosses_clause, crosses, first_bad_place}
use Rattle.cil_flow.specs.Depths.{depths_of}
use Rattle.cil_flow.specs.Flow.{leads_out, crosses_border, breaks_regions, is_bad_step, is_deep_enough, is_bad_meeting, cause_of_step, cause_of, is_at, cause_at, fault_with, fault_before, first_fault}
use Rattle.cil_safety.proofs.Edges.{Follows, no_follower, or_none, none_mapped, either_false}

-- a refusal that comes where a test holds
if_none : {A : Type 0} (b : Bool) (c : A) (o : Option A) → (if b then Some c else o) ≡ None → (b ≡ false) × (o ≡ None)
if_none true c o e = absurd (cc e)
if_none false c o e = (refl, e)

both_true : (a b : Bool) → (a && b) ≡ true → (a ≡ true) × (b ≡ true)
both_true true b e = (refl, e)
both_true false b e = absurd (cc e)

-- ---- no instruction has a fault

module _ (has_result : Bool) (body : Body) (depths : List ℕ) where
  no_cause : (count : ℕ) → fault_before has_result body depths count ≡ None → (at : ℕ) → at < count → cause_at has_result body depths at ≡ None
  no_cause zero e at lt = absurd (omega (arith, lt))
  no_cause (suc count) e at lt = by_place (λ e' lt'. no_cause count e' at lt') (at == count) refl
    where
      parts : (fault_before has_result body depths count ≡ None) × (option_map (fault_with count) (cause_at has_result body depths count) ≡ None)
      parts = or_none (fault_before has_result body depths count) (option_map (fault_with count) (cause_at has_result body depths count)) e

      by_place : (fault_before has_result body depths count ≡ None → at < count → cause_at has_result body depths at ≡ None) → (b : Bool) → (at == count) ≡ b → cause_at has_result body depths at ≡ None
      by_place earlier true q =
          let same' : at ≡ count = eqb-true at count q in
          subst (λ k. cause_at has_result body depths k ≡ None) (sym same') (none_mapped (fault_with count) (cause_at has_result body depths count) parts.1)
      by_place earlier false q =
          let differ : at ≢ count = λ z. cc (eq-eqb at count z, q) in
          earlier parts.0 (omega (arith, lt, differ))

  good_step : (at : ℕ) (i : Op) → cause_at has_result body depths at ≡ None → slice_get body.code at ≡ Some i → is_bad_step body at i ≡ false
  good_step at i e is =
      let here : cause_of has_result body depths at (slice_get body.code at) ≡ None = (if_none (is_at at (first_bad_place (length body.code) body.clauses)) cause.BadFlow (cause_of has_result body depths at (slice_get body.code at)) e).1 in
      let step : cause_of_step has_result body depths at i ≡ None = subst (λ o. cause_of has_result body depths at o ≡ None) is here in
      (if_none (is_bad_step body at i) cause.BadFlow (if not (is_deep_enough has_result depths at i) then Some cause.Underflow else (if is_bad_meeting has_result body depths at i then Some cause.BadFlow else None)) step).0

-- ---- edges

-- the instructions whose edges cross no border of a region
abbrev pub keeps_borders : Control → Bool
keeps_borders control.Falls = true
keeps_borders control.Jumps = true
keeps_borders control.Branches = true
keeps_borders control.Leaves = false
keeps_borders control.Returns = false
keeps_borders control.Stops = false
keeps_borders control.Refused = false

crosses_none : (k : Control) (cs : List Clause) (i : Op) (at : ℕ) → keeps_borders k ≡ true → breaks_regions k cs i at ≡ false → crosses_border cs i at ≡ false
crosses_none control.Falls cs i at e b = b
crosses_none control.Jumps cs i at e b = b
crosses_none control.Branches cs i at e b = b
crosses_none control.Leaves cs i at e b = absurd (cc e)
crosses_none control.Returns cs i at e b = absurd (cc e)
crosses_none control.Stops cs i at e b = absurd (cc e)
crosses_none control.Refused cs i at e b = absurd (cc e)

-- a handler that begins ahead is entered
enters_ahead : (c : Clause) (at to : ℕ) → at < to → begins (handler_of c) to ≡ true → goes_in (handler_of c) at to ≡ true
enters_ahead c at to lt b =
    let parts = both_true (c.handler == to) (nat_lt to c.end) b in
    let from : c.handler ≡ to = eqb-true c.handler to parts.0 in
    let before : nat_le c.handler at ≡ false = grind (arith, nat_tests) in
    let here : nat_le c.handler to ≡ true = grind (arith, nat_tests) in
    let inside : nat_lt to c.end ≡ true = parts.1 in
    rw (before, here, inside) refl

crossing_in : (c : Clause) (at to : ℕ) → crosses_clause c at to ≡ false → goes_in (handler_of c) at to ≡ false
crossing_in c at to e =
    (either_false (goes_out (try_of c) at to || goes_out (handler_of c) at to) (goes_in (handler_of c) at to)
    (either_false (goes_out (try_of c) at to || goes_out (handler_of c) at to || goes_in (handler_of c) at to) (goes_in (try_of c) at to && not (c.from == to)) e).0).1

forward_plain : (cs : List Clause) (at to : ℕ) → at < to → crosses cs at to ≡ false → begins_handler cs to ≡ false
forward_plain [] at to lt e = refl
forward_plain (c ∷ cs) at to lt e = by_test (begins (handler_of c) to) refl (forward_plain cs at to lt parts.1)
  where
    parts : (crosses_clause c at to ≡ false) × (crosses cs at to ≡ false)
    parts = either_false (crosses_clause c at to) (crosses cs at to) e

    by_test : (b : Bool) → begins (handler_of c) to ≡ b → begins_handler cs to ≡ false → (b || begins_handler cs to) ≡ false
    by_test true q rest = absurd (cc (enters_ahead c at to lt q, crossing_in c at to parts.0))
    by_test false q rest = rest

-- what an edge is
pub record IsEdge (body : Body) (at to : ℕ) : Type 0 where
  pub inside : to < length body.code
  pub plain : at < to → begins_handler body.clauses to ≡ false

get_within : {A : Type 0} (xs : List A) (k : ℕ) (x : A) → slice_get xs k ≡ Some x → k < length xs
get_within [] k x e = absurd (cc e)
get_within (y ∷ ys) zero x e = omega arith
get_within (y ∷ ys) (suc k) x e = omega (arith, get_within ys k x e)

max_above : (a b k : ℕ) → k < b → k < max a b
max_above a b k lt = grind (arith, nat_tests)

pub edge_is : (has_result : Bool) (body : Body) → first_fault has_result body ≡ None → (at : ℕ) (i : Op) → slice_get body.code at ≡ Some i → keeps_borders (control_at i) ≡ true → (to : ℕ) → Follows i at to → IsEdge body at to
edge_is has_result body none at i is keeps to f =
    let lt : at < length body.code = get_within body.code at i is in
    let bad : is_bad_step body at i ≡ false = good_step has_result body (depths_of has_result body) at i (no_cause has_result body (depths_of has_result body) (max 1 (length body.code)) none at (below_max lt)) is in
    let parts = either_false (leads_out (length body.code) i at) (breaks_regions (control_at i) body.clauses i at) bad in
    let past : nat_le (length body.code) to ≡ false = no_follower (λ j. nat_le (length body.code) j) i at to parts.0 f in
    let border : crosses body.clauses at to ≡ false = no_follower (λ j. crosses body.clauses at j) i at to (crosses_none (control_at i) body.clauses i at keeps parts.1) f in
    record { inside = grind (arith, nat_tests); plain = λ ahead. forward_plain body.clauses at to ahead border }
  where
    below_max : at < length body.code → at < max 1 (length body.code)
    below_max lt = max_above 1 (length body.code) at lt
