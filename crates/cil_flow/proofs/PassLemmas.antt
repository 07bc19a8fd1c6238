-- What the pass knows is what the definitions say.
use Rattle.std.proofs.Common.{◌≡◌, ℕ, suc, ◌+◌, ◌*◌, ◌<◌, ◌≤◌, ◌==◌, nat_le, nat_lt, Bool, true, false, cond, not, ◌&&◌, ◌||◌, List, [], ◌∷◌, ◌++◌, length, take, get_or, slice_get, Some, None, Option, option_and_then, unwrap_or, subst, sym, ap, ◌∙◌, refl, arith, eq-eqb, eqb-true, inl, inr}
use Rattle.std.specs.Option.{option_or, is_none}
use Rattle.std.specs.List.{list_any}
use Rattle.std.proofs.lemmas.Bool.Decides.{nat_tests}
use Rattle.std.proofs.Math.Nat.{eq-or-lt_of_le}
use Rattle.std.proofs.lemmas.List.{get_or-take, length-take-le, take_all}
use Rattle.std.proofs.Math.Seq.{take-suc}
use Rattle.std.proofs.lemmas.Option.{slice_get_within}
use Rattle.il_model.specs.declared.op.Op.{Op}
use Rattle.il_model.specs.declared.method.Body.{Body}
use Rattle.cil_flow.specs.Effects.{effect_of}
use Rattle.cil_flow.specs.Control.{falls, control_at, targets_of, any_follower}
use Rattle.cil_flow.specs.Regions.{begins_try, begins_handler}
use Rattle.cil_flow.specs.Depths.{depth_after, goes_on_to, arrival, first_arrival, depths_of}
use Rattle.cil_flow.specs.Flow.{leads_out, has_enough, is_unreached, meets_badly, is_bad_step, is_deep_enough, is_bad_meeting, cause_of_step}
use Rattle.cil_flow.specs.declared.fault.FlowCause.TheVariants as cause
use Rattle.cil_flow.specs.Pass.{known, Knows, expected, clashes, noted_by}
use Rattle.cil_flow.proofs.DepthLemmas.{depths_before-length, depth_is_given, depths_shallow, arrival_stays}

or_false_left : (b c : Bool) → (b || c) ≡ false → b ≡ false
or_false_left false c e = refl
or_false_left true c e = cc

or_false_right : (b c : Bool) → (b || c) ≡ false → c ≡ false
or_false_right false c e = e
or_false_right true c e = cc

or_true_right : (b c : Bool) → c ≡ true → (b || c) ≡ true
or_true_right false c e = e
or_true_right true c e = refl

and_true : (b c : Bool) → b ≡ true → c ≡ true → (b && c) ≡ true
and_true true c e f = f
and_true false c e f = cc

list_fails : (test : ℕ → Bool) (xs : List ℕ) (j : ℕ) → list_any test xs ≡ false → list_any (λ x. x == j) xs ≡ true → test j ≡ false
list_fails test [] j none there = cc
list_fails test (x ∷ xs) j none there =
    elim (x == j) as (λ (b : Bool). (x == j) ≡ b → (b || list_any (λ y. y == j) xs) ≡ true → test j ≡ false) [
      | true ↦ (λ is t. let same : x ≡ j = eqb-true x j is in subst (λ (y : ℕ). test y ≡ false) same (or_false_left (test x) _ none))
      | false ↦ (λ is t. list_fails test xs j (or_false_right (test x) _ none) t)
    ] refl there

list_agree : (f g : ℕ → Bool) (xs : List ℕ) → ((j : ℕ) → list_any (λ x. x == j) xs ≡ true → f j ≡ g j) → list_any f xs ≡ list_any g xs
list_agree f g [] same = refl
list_agree f g (x ∷ xs) same =
    let here : f x ≡ g x = same x (ap (λ b. b || list_any (λ y. y == x) xs) (eq-eqb x x refl)) in
    let rest : list_any f xs ≡ list_any g xs = list_agree f g xs (λ j there. same j (or_true_right (x == j) _ there)) in
    cc

-- a test that no follower passes fails at each
pub follower_fails : (test : ℕ → Bool) (i : Op) (at j : ℕ) → any_follower test i at ≡ false → goes_on_to i at j ≡ true → test j ≡ false
follower_fails test i at j none there =
    elim (list_any (λ x. x == j) (targets_of i)) as (λ (b : Bool). list_any (λ x. x == j) (targets_of i) ≡ b → (b || falls (control_at i) && (at + 1 == j)) ≡ true → test j ≡ false) [
      | true ↦ (λ is t. list_fails test (targets_of i) j (or_false_left _ (falls (control_at i) && test (at + 1)) none) is)
      | false ↦ (λ is t. next_fails (falls (control_at i)) t (or_false_right (list_any test (targets_of i)) _ none))
    ] refl there
  where
    next_fails : (b : Bool) → (b && (at + 1 == j)) ≡ true → (b && test (at + 1)) ≡ false → test j ≡ false
    next_fails true t fails = subst (λ (y : ℕ). test y ≡ false) (eqb-true (at + 1) j t) fails
    next_fails false t fails = cc

-- tests that agree on each follower agree
pub followers_agree : (f g : ℕ → Bool) (i : Op) (at : ℕ) → ((j : ℕ) → goes_on_to i at j ≡ true → f j ≡ g j) → any_follower f i at ≡ any_follower g i at
followers_agree f g i at same =
    let targets : list_any f (targets_of i) ≡ list_any g (targets_of i) = list_agree f g (targets_of i) (λ j there. same j (ap (λ b. b || falls (control_at i) && (at + 1 == j)) there)) in
    let next : (falls (control_at i) && f (at + 1)) ≡ (falls (control_at i) && g (at + 1)) =
    next_agrees (falls (control_at i)) (λ is. same (at + 1) (or_true_right (list_any (λ x. x == (at + 1)) (targets_of i)) _ (and_true (falls (control_at i)) (at + 1 == at + 1) is (eq-eqb (at + 1) (at + 1) refl)))) in
    cc
  where
    next_agrees : (b : Bool) → (b ≡ true → f (at + 1) ≡ g (at + 1)) → (b && f (at + 1)) ≡ (b && g (at + 1))
    next_agrees true agree = agree refl
    next_agrees false agree = refl

-- a follower is an instruction, where none leads out
pub follower_within : (count : ℕ) (i : Op) (at j : ℕ) → leads_out count i at ≡ false → goes_on_to i at j ≡ true → j < count
follower_within count i at j none there =
    let outside : nat_le count j ≡ false = follower_fails (λ x. nat_le count x) i at j none there in grind (arith, nat_tests)

or_none : (o : Option ℕ) → option_or o None ≡ o
or_none None = refl
or_none (Some x) = refl

-- the first arrival at the next step, where the instruction there is this one
arrival_next : (has_result : Bool) (code : List Op) (ds : List ℕ) (to at : ℕ) (i : Op) → slice_get code at ≡ Some i →
    first_arrival has_result code ds to (suc at) ≡ option_or (first_arrival has_result code ds to at) (arrival has_result ds at to i)
arrival_next has_result code ds to at i is = ap (λ (o : Option Op). option_or (first_arrival has_result code ds to at) (option_and_then (arrival has_result ds at to) o)) is

-- with which depth control arrives from the instruction at this number, where an earlier one may have gone on too
arrival_found : (has_result : Bool) (body : Body) (at to left : ℕ) (i : Op) → slice_get body.code at ≡ Some i → goes_on_to i at to ≡ true →
    left ≡ depth_after has_result i (get_or (depths_of has_result body) at 0) → at < to →
    unwrap_or (first_arrival has_result body.code (depths_of has_result body) to to) 0 ≡ unwrap_or (first_arrival has_result body.code (depths_of has_result body) to at) left
arrival_found has_result body at to left i is goes leaves below =
    elim (first_arrival has_result body.code (depths_of has_result body) to at) as (λ (o : Option ℕ). first_arrival has_result body.code (depths_of has_result body) to at ≡ o →
    unwrap_or (first_arrival has_result body.code (depths_of has_result body) to to) 0 ≡ unwrap_or o left) [
      | Some y ↦ (λ found. ap (λ (o : Option ℕ). unwrap_or o 0) (arrival_stays has_result body.code (depths_of has_result body) to at to y (omega arith) found))
      | None ↦ (λ none.
          let one : arrival has_result (depths_of has_result body) at to i ≡ Some left = ap (λ (b : Bool). cond b (Some (depth_after has_result i (get_or (depths_of has_result body) at 0))) None) goes ∙ ap Some (sym leaves) in
          let next : first_arrival has_result body.code (depths_of has_result body) to (suc at) ≡ Some left =
          arrival_next has_result body.code (depths_of has_result body) to at i is ∙ ap (λ (o : Option ℕ). option_or o (arrival has_result (depths_of has_result body) at to i)) none ∙ one in
          ap (λ (o : Option ℕ). unwrap_or o 0) (arrival_stays has_result body.code (depths_of has_result body) to (suc at) to left (omega arith) next))
    ] refl

depth_ahead : (cs : Bool) (a b : ℕ) → a ≡ b → cond cs 1 a ≡ cond cs 1 b
depth_ahead cs a b same = ap (λ (n : ℕ). cond cs 1 n) same

-- the depth that the pass expects is that of the instruction
expected_is : (has_result : Bool) (body : Body) (arrived : List (Option ℕ)) (depths : List ℕ) (at to left : ℕ) (i : Op) → slice_get body.code at ≡ Some i →
    goes_on_to i at to ≡ true → left ≡ depth_after has_result i (get_or (depths_of has_result body) at 0) → Knows has_result body at arrived →
    depths ≡ take (at + 1) (depths_of has_result body) → to < length body.code →
    expected body.clauses arrived depths at left to ≡ get_or (depths_of has_result body) to 0
expected_is has_result body arrived depths at to left i is goes leaves knows so_far within =
    elim (nat_le to at) as (λ (b : Bool). nat_le to at ≡ b → cond b (get_or depths to 0) (cond (begins_handler body.clauses to) 1 (unwrap_or (known arrived to) left)) ≡ get_or (depths_of has_result body) to 0) [
      | true ↦ (λ le. let below : to < at + 1 = grind (arith, nat_tests) in ap (λ (ds : List ℕ). get_or ds to 0) so_far ∙ get_or-take (at + 1) (depths_of has_result body) to 0 below)
      | false ↦ (λ gt. let below : at < to = grind (arith, nat_tests) in
          depth_ahead (begins_handler body.clauses to) _ _
          (ap (λ (o : Option ℕ). unwrap_or o left) (knows.ahead to (omega arith) within) ∙ sym (arrival_found has_result body at to left i is goes leaves below))
          ∙ sym (depth_is_given has_result body to within))
    ] refl

unreached_is : (has_result : Bool) (body : Body) (arrived : List (Option ℕ)) (at to : ℕ) → Knows has_result body at arrived → to < length body.code →
    (nat_le to at && is_none (known arrived to)) ≡ (nat_le to at && is_unreached has_result body (depths_of has_result body) to)
unreached_is has_result body arrived at to knows within =
    elim (nat_le to at) as (λ (b : Bool). nat_le to at ≡ b → (b && is_none (known arrived to)) ≡ (b && is_unreached has_result body (depths_of has_result body) to)) [
      | true ↦ (λ le. let low : to ≤ at = grind (arith, nat_tests) in
          elim (eq-or-lt_of_le {n = to} {m = at} low) [
            | inl same ↦ ap (λ (o : Option ℕ). is_none o) (knows.ahead to (omega arith) within ∙ ap (λ (n : ℕ). first_arrival has_result body.code (depths_of has_result body) to n) (sym same))
            | inr below ↦ ap (λ (o : Option ℕ). is_none o) (knows.behind to below)
          ])
      | false ↦ (λ gt. refl)
    ] refl

clash_is : (has_result : Bool) (body : Body) (arrived : List (Option ℕ)) (depths : List ℕ) (at to left : ℕ) (i : Op) → slice_get body.code at ≡ Some i →
    goes_on_to i at to ≡ true → left ≡ depth_after has_result i (get_or (depths_of has_result body) at 0) → Knows has_result body at arrived →
    depths ≡ take (at + 1) (depths_of has_result body) → to < length body.code →
    clashes body.clauses arrived depths at left to ≡ meets_badly has_result body (depths_of has_result body) at left to
clash_is has_result body arrived depths at to left i is goes leaves knows so_far within =
    let depth = expected_is has_result body arrived depths at to left i is goes leaves knows so_far within in
    let unreached = unreached_is has_result body arrived at to knows within in
    ap (λ (p : ℕ × Bool). not (p.0 == left) || not (left == 0) && (begins_try body.clauses to || p.1)) (λ k. (depth k, unreached k))

-- the pass finds a broken rule on a depth where there is one
pub clashes_are : (has_result : Bool) (body : Body) (arrived : List (Option ℕ)) (depths : List ℕ) (at left : ℕ) (i : Op) → slice_get body.code at ≡ Some i →
    left ≡ depth_after has_result i (get_or (depths_of has_result body) at 0) → Knows has_result body at arrived →
    depths ≡ take (at + 1) (depths_of has_result body) → leads_out (length body.code) i at ≡ false →
    any_follower (clashes body.clauses arrived depths at left) i at ≡ is_bad_meeting has_result body (depths_of has_result body) at i
clashes_are has_result body arrived depths at left i is leaves knows so_far inside =
    followers_agree _ _ i at (λ j goes. clash_is has_result body arrived depths at j left i is goes leaves knows so_far (follower_within (length body.code) i at j inside goes)
    ∙ ap (λ (d : ℕ). meets_badly has_result body (depths_of has_result body) at d j) leaves)

-- at the start nothing is known
pub knows_at_start : (has_result : Bool) (body : Body) (arrived : List (Option ℕ)) → length arrived ≡ length body.code →
    ((j : ℕ) → j < length body.code → known arrived j ≡ None) → Knows has_result body 0 arrived
knows_at_start has_result body arrived size none = record { size = size; ahead = λ j from within. none j within; behind = λ j below. absurd (omega arith) }

-- what is noted at an instruction is what is known after it
pub knows_next : (has_result : Bool) (body : Body) (at left : ℕ) (i : Op) (arrived after : List (Option ℕ)) → slice_get body.code at ≡ Some i → at < length body.code →
    left ≡ depth_after has_result i (get_or (depths_of has_result body) at 0) → Knows has_result body at arrived → length after ≡ length arrived →
    ((j : ℕ) → j < length arrived → known after j ≡ noted_by arrived i at left j) → Knows has_result body (at + 1) after
knows_next has_result body at left i arrived after is within leaves knows size notes =
    record { size = size ∙ knows.size; ahead = λ j from inside. ahead_next j (omega arith) inside; behind = λ j below. behind_next j (omega arith) }
  where
    noted_ahead : (j : ℕ) → at < j → noted_by arrived i at left j ≡ cond (goes_on_to i at j) (option_or (known arrived j) (Some left)) (known arrived j)
    noted_ahead j below = let is_less : nat_lt at j ≡ true = grind (arith, nat_tests) in ap (λ (b : Bool). cond (b && goes_on_to i at j) (option_or (known arrived j) (Some left)) (known arrived j)) is_less

    noted_behind : (j : ℕ) → j ≤ at → noted_by arrived i at left j ≡ known arrived j
    noted_behind j low = let is_more : nat_lt at j ≡ false = grind (arith, nat_tests) in ap (λ (b : Bool). cond (b && goes_on_to i at j) (option_or (known arrived j) (Some left)) (known arrived j)) is_more

    joined : (b : Bool) (o : Option ℕ) (n : ℕ) → left ≡ n → cond b (option_or o (Some left)) o ≡ option_or o (cond b (Some n) None)
    joined true o n same = ap (λ (d : ℕ). option_or o (Some d)) same
    joined false o n same = sym (or_none o)

    ahead_next : (j : ℕ) → at < j → j < length body.code → known after j ≡ first_arrival has_result body.code (depths_of has_result body) j (at + 1)
    ahead_next j below inside =
        notes j (omega (arith, knows.size)) ∙ noted_ahead j below
        ∙ joined (goes_on_to i at j) (known arrived j) _ leaves
        ∙ ap (λ (o : Option ℕ). option_or o (arrival has_result (depths_of has_result body) at j i)) (knows.ahead j (omega arith) inside)
        ∙ sym (arrival_next has_result body.code (depths_of has_result body) j at i is)
        ∙ (let same : suc at ≡ at + 1 = omega arith in ap (λ (n : ℕ). first_arrival has_result body.code (depths_of has_result body) j n) same)

    behind_next : (j : ℕ) → j ≤ at → known after j ≡ first_arrival has_result body.code (depths_of has_result body) j j
    behind_next j low =
        notes j (omega (arith, knows.size)) ∙ noted_behind j low ∙
        elim (eq-or-lt_of_le {n = j} {m = at} low) [
          | inl same ↦ knows.ahead j (omega arith) (omega arith) ∙ ap (λ (n : ℕ). first_arrival has_result body.code (depths_of has_result body) j n) (sym same)
          | inr below ↦ knows.behind j below
        ]

pub depth_of_handler : (has_result : Bool) (body : Body) (at : ℕ) → at < length body.code → begins_handler body.clauses at ≡ true → 1 ≡ get_or (depths_of has_result body) at 0
depth_of_handler has_result body at within begins =
    sym (depth_is_given has_result body at within ∙ ap (λ (b : Bool). cond b 1 (unwrap_or (first_arrival has_result body.code (depths_of has_result body) at at) 0)) begins)

pub depth_of_other : (has_result : Bool) (body : Body) (at : ℕ) (arrived : List (Option ℕ)) → at < length body.code → begins_handler body.clauses at ≡ false →
    Knows has_result body at arrived → unwrap_or (known arrived at) 0 ≡ get_or (depths_of has_result body) at 0
depth_of_other has_result body at arrived within other knows =
    ap (λ (o : Option ℕ). unwrap_or o 0) (knows.ahead at (omega arith) within)
    ∙ sym (depth_is_given has_result body at within ∙ ap (λ (b : Bool). cond b 1 (unwrap_or (first_arrival has_result body.code (depths_of has_result body) at at) 0)) other)

pub is_within : (code : List Op) (at : ℕ) (i : Op) → slice_get code at ≡ Some i → at < length code
is_within code at i is = slice_get_within code at i is

pub taken_length : (has_result : Bool) (body : Body) (at : ℕ) (ds : List ℕ) → at < length body.code → ds ≡ take (at + 1) (depths_of has_result body) → length ds ≡ at + 1
taken_length has_result body at ds within so_far =
    let whole : length (depths_of has_result body) ≡ length body.code = depths_before-length has_result body (length body.code) in
    let enough : at + 1 ≤ length (depths_of has_result body) = omega arith in
    ap length so_far ∙ length-take-le (at + 1) (depths_of has_result body) enough

pub here_is : (has_result : Bool) (body : Body) (at : ℕ) (ds : List ℕ) → ds ≡ take (at + 1) (depths_of has_result body) → get_or ds at 0 ≡ get_or (depths_of has_result body) at 0
here_is has_result body at ds so_far =
    let below : at < at + 1 = omega arith in ap (λ (xs : List ℕ). get_or xs at 0) so_far ∙ get_or-take (at + 1) (depths_of has_result body) at 0 below

pub here_shallow : (has_result : Bool) (body : Body) (at : ℕ) (ds : List ℕ) → at < length body.code → ds ≡ take (at + 1) (depths_of has_result body) → get_or ds at 0 ≤ 2 * at + 1
here_shallow has_result body at ds within so_far =
    omega (arith, here_is has_result body at ds so_far, depths_shallow has_result body (length body.code) at within (omega arith))

-- where the earlier rules are kept, the fault is that of the depths that meet
pub cause_of_meeting : (has_result : Bool) (body : Body) (arrived : List (Option ℕ)) (ds : List ℕ) (at left : ℕ) (i : Op) (b : Bool) → slice_get body.code at ≡ Some i →
    left ≡ depth_after has_result i (get_or ds at 0) → Knows has_result body at arrived →
    ds ≡ take (at + 1) (depths_of has_result body) → is_bad_step body at i ≡ false → is_deep_enough has_result ds at i ≡ true →
    any_follower (clashes body.clauses arrived ds at left) i at ≡ b →
    cause_of_step has_result body (depths_of has_result body) at i ≡ cond b (Some cause.BadFlow) None
cause_of_meeting has_result body arrived ds at left i b is leaves knows so_far kept deep clash =
    let here = here_is has_result body at ds so_far in
    let meets = sym (clashes_are has_result body arrived ds at left i is (leaves ∙ ap (λ (d : ℕ). depth_after has_result i d) here) knows so_far (or_false_left _ _ kept)) ∙ clash in
    let enough : is_deep_enough has_result (depths_of has_result body) at i ≡ true = sym (ap (λ (d : ℕ). has_enough (control_at i) (effect_of has_result i) d) here) ∙ deep in
    ap (λ (t : Bool × Bool × Bool). cond t.0 (Some cause.BadFlow) (cond (not t.1) (Some cause.Underflow) (cond t.2 (Some cause.BadFlow) None))) (λ k. (kept k, enough k, meets k))

-- one more depth
pub taken_next : (has_result : Bool) (body : Body) (at d : ℕ) (ds : List ℕ) → at < length body.code → ds ≡ take at (depths_of has_result body) →
    d ≡ get_or (depths_of has_result body) at 0 → ds ++ d ∷ [] ≡ take (at + 1) (depths_of has_result body)
taken_next has_result body at d ds within so_far here =
    let inside : at < length (depths_of has_result body) = omega (arith, depths_before-length has_result body (length body.code)) in
    let next : suc at ≡ at + 1 = omega arith in
    ap (λ (p : List ℕ × ℕ). p.0 ++ p.1 ∷ []) (λ k. (so_far k, here k))
    ∙ sym (take-suc (depths_of has_result body) at 0 inside)
    ∙ ap (λ (n : ℕ). take n (depths_of has_result body)) next

pub all_taken : (has_result : Bool) (body : Body) (at : ℕ) (ds : List ℕ) → at ≡ length body.code → ds ≡ take at (depths_of has_result body) → ds ≡ depths_of has_result body
all_taken has_result body at ds end so_far =
    let whole : length (depths_of has_result body) ≤ at = omega (arith, depths_before-length has_result body (length body.code)) in
    so_far ∙ take_all at (depths_of has_result body) whole
