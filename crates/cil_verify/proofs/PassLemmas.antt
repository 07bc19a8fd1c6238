-- How the pass begins, and what a flow without fault says of it.
use Rattle.std.proofs.Common.{◌≡◌, ℕ, zero, suc, ◌<◌, ◌≤◌, max, Bool, true, false, cond, ◌||◌, List, [], ◌∷◌, ◌++◌, length, get_or, slice_get, find, is_some, Some, None, Option, option_map, unwrap_or, subst, sym, ap, ◌∙◌, refl, arith, inl, inr}
use Rattle.std.specs.Option.{option_or}
use Rattle.std.specs.List.{list_any}
use Rattle.std.proofs.Math.Nat.{eq-or-lt_of_le}
use Rattle.std.proofs.Math.ListN.{length-append}
use Rattle.std.proofs.lemmas.Option.{slice_get_within}
use Rattle.il_model.specs.declared.op.Op.{Op}
use Rattle.il_model.specs.declared.method.Clause.{Clause}
use Rattle.il_model.specs.declared.method.Body.{Body}
use Rattle.il_model.specs.declared.method.MethodDef.{MethodDef}
use Rattle.il_model.specs.declared.program.Program.{Program}
use Rattle.cil_flow.specs.declared.fault.FlowCause.{FlowCause}
use Rattle.cil_flow.specs.declared.fault.FlowCause.TheVariants as flow_cause
use Rattle.cil_flow.specs.Regions.{handler_of, begins, first_bad_place}
use Rattle.cil_flow.specs.Depths.{depths_of}
use Rattle.cil_flow.specs.Flow.{leads_out, is_at, is_bad_step, cause_of, cause_of_step, cause_at, fault_with, fault_before, first_fault}
use Rattle.cil_verify.specs.declared.arrival.Arrival.{Arrival}
use Rattle.cil_verify.specs.Places.{View, view_of, code_of}
use Rattle.cil_verify.specs.States.{Stack, caught_of, handler_stack}
use Rattle.cil_verify.specs.Arrivals.{nothing, state_from, StaysInside, Knows, none_arrived}
use Rattle.cil_verify.specs.Passes.{FlowsWellIn, FlowsWell}

-- ---- the stack at a handler's start

any_finds : {X : Type 0} (p : X → Bool) (xs : List X) → list_any p xs ≡ is_some (find p xs)
any_finds p [] = refl
any_finds p (x ∷ xs) = by_first (p x) (any_finds p xs)
  where
    by_first : (b : Bool) → list_any p xs ≡ is_some (find p xs) → (b || list_any p xs) ≡ is_some (cond b (Some x) (find p xs))
    by_first true later = refl
    by_first false later = later

pub state_of_handler : (cs : List Clause) (o : Option Stack) (at : ℕ) (c : Clause) → find (λ c. begins (handler_of c) at) cs ≡ Some c → state_from cs o at ≡ caught_of c.sort
state_of_handler cs o at c found =
    ap (λ b. cond b (handler_stack cs at) (unwrap_or o [])) (any_finds (λ c. begins (handler_of c) at) cs ∙ ap is_some found)
    ∙ ap (λ (f : Option Clause). unwrap_or (option_map (λ c. caught_of c.sort) f) []) found

pub state_of_other : (cs : List Clause) (o : Option Stack) (at : ℕ) → find (λ c. begins (handler_of c) at) cs ≡ None → state_from cs o at ≡ unwrap_or o []
state_of_other cs o at none = ap (λ b. cond b (handler_stack cs at) (unwrap_or o [])) (any_finds (λ c. begins (handler_of c) at) cs ∙ ap is_some none)

-- ---- nothing has arrived at the start

none_length : (n : ℕ) → length (none_arrived n) ≡ n
none_length zero = refl
none_length (suc n) = omega (arith, length-append {A = Arrival}, none_length n)

one_more : (xs : List Arrival) (j : ℕ) → get_or (xs ++ nothing ∷ []) j nothing ≡ get_or xs j nothing
one_more [] zero = refl
one_more [] (suc j) = refl
one_more (x ∷ xs) zero = refl
one_more (x ∷ xs) (suc j) = one_more xs j

none_there : (n j : ℕ) → get_or (none_arrived n) j nothing ≡ nothing
none_there zero j = refl
none_there (suc n) j = one_more (none_arrived n) j ∙ none_there n j

pub knows_at_start : (v : View) (n : ℕ) (all : List Arrival) → n ≡ length (code_of v.method.body) → all ≡ none_arrived n → Knows v 0 all
knows_at_start v n all size is =
    record {
      size = ap length is ∙ none_length n ∙ size;
      ahead = λ j from below. ap (λ (a : Arrival). a.stack) (at_all j);
      early = λ j. subst (λ (a : Arrival). a.before ≤ 0) (sym (at_all j)) (omega arith);
    }
  where
    at_all : (j : ℕ) → get_or all j nothing ≡ nothing
    at_all j = ap (λ (xs : List Arrival). get_or xs j nothing) is ∙ none_there n j

-- ---- a flow without fault

first_none : {X : Type 0} (a b : Option X) → option_or a b ≡ None → a ≡ None
first_none None b e = refl
first_none (Some x) b e = cc

second_none : {X : Type 0} (a b : Option X) → option_or a b ≡ None → b ≡ None
second_none None b e = e
second_none (Some x) b e = cc

map_none : {X Y : Type 0} (f : X → Y) (o : Option X) → option_map f o ≡ None → o ≡ None
map_none f None e = refl
map_none f (Some x) e = cc

no_cause_before : (r : Bool) (body : Body) (ds : List ℕ) (m k : ℕ) → k < m → fault_before r body ds m ≡ None → cause_at r body ds k ≡ None
no_cause_before r body ds zero k below none = absurd (omega arith)
no_cause_before r body ds (suc m) k below none =
    let low : k ≤ m = omega arith in
    elim (eq-or-lt_of_le {n = k} {m = m} low) [
      | inl same ↦ subst (λ (n : ℕ). cause_at r body ds n ≡ None) (sym same) (map_none (fault_with m) (cause_at r body ds m) (second_none (fault_before r body ds m) _ none))
      | inr earlier ↦ no_cause_before r body ds m k earlier (first_none (fault_before r body ds m) _ none)
    ]

not_first : (b : Bool) (c : FlowCause) (rest : Option FlowCause) → cond b (Some c) rest ≡ None → b ≡ false
not_first true c rest e = cc
not_first false c rest e = refl

not_first_rest : (b : Bool) (c : FlowCause) (rest : Option FlowCause) → cond b (Some c) rest ≡ None → rest ≡ None
not_first_rest true c rest e = cc
not_first_rest false c rest e = e

left_false : (b c : Bool) → (b || c) ≡ false → b ≡ false
left_false false c e = refl
left_false true c e = cc

stays_at : (r : Bool) (body : Body) (at : ℕ) (i : Op) → first_fault r body ≡ None → slice_get body.code at ≡ Some i → leads_out (length body.code) i at ≡ false
stays_at r body at i none is =
    let within : at < length body.code = slice_get_within body.code at i is in
    let low : at < max 1 (length body.code) = omega arith in
    let at_none : cause_at r body (depths_of r body) at ≡ None = no_cause_before r body (depths_of r body) (max 1 (length body.code)) at low none in
    let of_none : cause_of r body (depths_of r body) at (slice_get body.code at) ≡ None =
    not_first_rest (is_at at (first_bad_place (length body.code) body.clauses)) flow_cause.BadFlow _ at_none in
    let step_none : cause_of_step r body (depths_of r body) at i ≡ None = sym (ap (λ (o : Option Op). cause_of r body (depths_of r body) at o) is) ∙ of_none in
    left_false _ _ (not_first (is_bad_step body at i) flow_cause.BadFlow _ step_none)

pub stays_inside : (program : Program) (m : MethodDef) (b : Body) → m.body ≡ Some b → FlowsWell m → StaysInside (view_of program m)
stays_inside program m b is flows =
    let code : code_of m.body ≡ b.code = ap code_of is in
    let none : first_fault (is_some m.result) b ≡ None = subst (λ (o : Option Body). FlowsWellIn m o) is flows in
    record {
      inside = λ at i here. subst (λ (ops : List Op). leads_out (length ops) i at ≡ false) (sym code)
          (stays_at (is_some m.result) b at i none (ap (λ (ops : List Op). slice_get ops at) (sym code) ∙ here));
    }
