-- What the pass keeps of later instructions is what arrives there by the definition; and where it stops, the definition refuses.
use Rattle.std.proofs.Common.{◌≡◌, ℕ, suc, ◌+◌, ◌<◌, ◌≤◌, ◌==◌, nat_le, nat_lt, Bool, true, false, cond, not, ◌&&◌, ◌||◌, List, [], ◌∷◌, ◌++◌, length, set, get_or, slice_get, is_some, Some, None, Option, option_map, option_and_then, unwrap_or, subst, sym, ap, ◌∙◌, refl, arith, eq-eqb, eqb-true, if◌then◌else◌}
use Rattle.std.specs.List.{list_any}
use Rattle.std.proofs.lemmas.Bool.Decides.{nat_tests}
use Rattle.std.proofs.lemmas.List.{get_or-set_same, get_or-set_other, length-set}
use Rattle.il_model.specs.declared.op.Op.{Op}
use Rattle.cil_flow.specs.Control.{falls, control_at, targets_of, any_follower}
use Rattle.cil_flow.specs.Depths.{goes_on_to}
use Rattle.cil_flow.specs.Flow.{leads_out}
use Rattle.cil_verify.specs.declared.arrival.Arrival.{Arrival}
use Rattle.cil_verify.specs.Places.{View, code_of}
use Rattle.cil_verify.specs.Admits.{left_by}
use Rattle.cil_verify.specs.Joins.{are_assignable}
use Rattle.cil_verify.specs.States.{Stack, stack_at, arriving, meet, arrived, states_of, agrees, meets_well}
use Rattle.cil_verify.specs.Arrivals.{nothing, known, bound_of, came, met, arrival_of, gone_forward, gone_on_to, gone_among, followers_of, Knows}
use Rattle.cil_verify.proofs.StatesLemmas.{arrived_next}

-- ---- tests

or_false_left : (b c : Bool) → (b || c) ≡ false → b ≡ false
or_false_left false c e = refl
or_false_left true c e = cc

or_false_right : (b c : Bool) → (b || c) ≡ false → c ≡ false
or_false_right false c e = e
or_false_right true c e = cc

or_assoc : (a b c : Bool) → (a || (b || c)) ≡ ((a || b) || c)
or_assoc true b c = refl
or_assoc false b c = refl

or_swap : (a b c : Bool) → (a || (b || c)) ≡ ((b || a) || c)
or_swap true true c = refl
or_swap true false c = refl
or_swap false b c = ap (λ x. x || c) (or_right b)
  where
    or_right : (b : Bool) → b ≡ (b || false)
    or_right true = refl
    or_right false = refl

any_append : (test : ℕ → Bool) (xs ys : List ℕ) → list_any test (xs ++ ys) ≡ (list_any test xs || list_any test ys)
any_append test [] ys = refl
any_append test (x ∷ xs) ys = ap (λ b. test x || b) (any_append test xs ys) ∙ or_assoc (test x) (list_any test xs) (list_any test ys)

next_alone : (test : ℕ → Bool) (b : Bool) (n : ℕ) → list_any test (if b then (n ∷ []) else []) ≡ (b && test n)
next_alone test true n = or_none (test n)
  where
    or_none : (b : Bool) → (b || false) ≡ b
    or_none true = refl
    or_none false = refl
next_alone test false n = refl

-- a test of the followers is one of their list
pub followers_are : (test : ℕ → Bool) (i : Op) (at : ℕ) → list_any test (followers_of i at) ≡ any_follower test i at
followers_are test i at =
    any_append test (targets_of i) (if falls (control_at i) then ((at + 1) ∷ []) else [])
    ∙ ap (λ b. list_any test (targets_of i) || b) (next_alone test (falls (control_at i)) (at + 1))

-- ---- one instruction that is gone on to

-- the numbers that were gone on to, after some more were
abbrev gone_after : List ℕ → (ℕ → Bool) → ℕ → Bool
gone_after [] gone = gone
gone_after (t ∷ ts) gone = gone_after ts (λ k. (t == k) || gone k)

gone_after_is : (tos : List ℕ) (gone : ℕ → Bool) (j : ℕ) → gone_after tos gone j ≡ (list_any (λ k. k == j) tos || gone j)
gone_after_is [] gone j = refl
gone_after_is (t ∷ ts) gone j = gone_after_is ts (λ k. (t == k) || gone k) j ∙ or_swap (list_any (λ k. k == j) ts) (t == j) (gone j)

met_agrees : (v : View) (left : Stack) (o : Option Stack) → is_some (met v o left) ≡ agrees v o left
met_agrees v left None = refl
met_agrees v left (Some s) = refl

met_meets : (v : View) (left both : Stack) (o : Option Stack) → met v o left ≡ Some both → meet v o (Some left) ≡ Some both
met_meets v left both None is = is
met_meets v left both (Some s) is = ap (λ (o : Option Stack). Some (unwrap_or o s)) is

meet_none : (v : View) (o : Option Stack) → meet v o None ≡ o
meet_none v None = refl
meet_none v (Some s) = refl

only_some : (b : Bool) (cur next : List Arrival) → cond b (Some cur) None ≡ Some next → b ≡ true
only_some true cur next e = refl
only_some false cur next e = cc

only_this : (b : Bool) (cur next : List Arrival) → cond b (Some cur) None ≡ Some next → cur ≡ next
only_this true cur next e = cc
only_this false cur next e = cc

only_none : (b : Bool) (cur : List Arrival) → cond b (Some cur) None ≡ None → b ≡ false
only_none true cur e = cc
only_none false cur e = refl

-- whether going on there breaks the rule on merges
abbrev clash : View → List Stack → ℕ → Stack → ℕ → Bool
clash v states at left to = not (meets_well v states at left to)

-- what is known after some were gone on to, without a clash
record Gone (v : View) (states : List Stack) (at : ℕ) (left : Stack) (old : List Arrival) (gone : ℕ → Bool) (cur : List Arrival) : Type 0 where
  pub size : length cur ≡ length old
  pub arrived : (j : ℕ) → at < j → j < length old → known cur j ≡ cond (gone j) (meet v (known old j) (Some left)) (known old j)
  pub here : (j : ℕ) → at < j → j < length old → came cur at j ≡ gone j
  pub early : (j : ℕ) → bound_of cur j ≤ at + 1
  pub fine : (j : ℕ) → gone j ≡ true → clash v states at left j ≡ false

-- what a step gives
record Stepped (v : View) (states : List Stack) (at : ℕ) (left : Stack) (old : List Arrival) (gone : ℕ → Bool) (t : ℕ) (next : List Arrival) : Type 0 where
  pub none : clash v states at left t ≡ false
  pub known : Gone v states at left old (λ k. (t == k) || gone k) next

module _ (v : View) (front states : List Stack) (at : ℕ) (left : Stack) (old : List Arrival)
    (same : (to : ℕ) → to ≤ at → stack_at front to ≡ stack_at states to)
    (ahead : (j : ℕ) → at < j → j < length old → known old j ≡ arrived v states j at) where
  clash_back : (t : ℕ) → nat_le t at ≡ true → clash v states at left t ≡ not (are_assignable v left (stack_at front t))
  clash_back t le =
      let low : t ≤ at = grind (arith, nat_tests) in
      ap (λ b. not (cond b (are_assignable v left (stack_at states t)) (agrees v (arrived v states t at) left))) le
      ∙ ap (λ (s : Stack). not (are_assignable v left s)) (sym (same t low))

  clash_ahead : (t : ℕ) → nat_le t at ≡ false → t < length old → clash v states at left t ≡ not (is_some (met v (known old t) left))
  clash_ahead t gt within =
      let below : at < t = grind (arith, nat_tests) in
      ap (λ b. not (cond b (are_assignable v left (stack_at states t)) (agrees v (arrived v states t at) left))) gt
      ∙ ap (λ (o : Option Stack). not (agrees v o left)) (sym (ahead t below within))
      ∙ ap not (sym (met_agrees v left (known old t)))

  -- a number that is gone on to again, or that is not a later one
  marked_again : (gone : ℕ → Bool) (t : ℕ) (cur : List Arrival) → Gone v states at left old gone cur → clash v states at left t ≡ false → ((j : ℕ) → at < j → j < length old → (t == j) ≡ true → gone j ≡ true) →
      Gone v states at left old (λ k. (t == k) || gone k) cur
  marked_again gone t cur so_far none again = record {
    size = so_far.size;
    arrived = λ j below within. so_far.arrived j below within ∙ ap (λ b. cond b (meet v (known old j) (Some left)) (known old j)) (unchanged j below within);
    here = λ j below within. so_far.here j below within ∙ unchanged j below within;
    early = so_far.early;
    fine = λ j is. either_fine (t == j) j refl is;
  }
    where
      unchanged_at : (b c : Bool) → (b ≡ true → c ≡ true) → c ≡ (b || c)
      unchanged_at true c to = to refl
      unchanged_at false c to = refl

      unchanged : (j : ℕ) → at < j → j < length old → gone j ≡ ((t == j) || gone j)
      unchanged j below within = unchanged_at (t == j) (gone j) (again j below within)

      either_fine : (b : Bool) (j : ℕ) → (t == j) ≡ b → (b || gone j) ≡ true → clash v states at left j ≡ false
      either_fine true j it is = subst (λ (k : ℕ). clash v states at left k ≡ false) (eqb-true t j it) none
      either_fine false j it is = so_far.fine j is

  marked_fresh : (gone : ℕ → Bool) (t : ℕ) (cur : List Arrival) (both : Stack) → Gone v states at left old gone cur → at < t → t < length old → gone t ≡ false → met v (known old t) left ≡ Some both → clash v states at left t ≡ false →
      Gone v states at left old (λ k. (t == k) || gone k) (set cur t (arrival_of at both))
  marked_fresh gone t cur both so_far later inside fresh is none = record {
    size = length-set cur t (arrival_of at both) ∙ so_far.size;
    arrived = λ j below within. arrived_at (t == j) j refl below within;
    here = λ j below within. here_at (t == j) j refl below within;
    early = λ j. early_at (t == j) j refl;
    fine = λ j marked. fine_at (t == j) j refl marked;
  }
    where
      at_t : get_or (set cur t (arrival_of at both)) t nothing ≡ arrival_of at both
      at_t = get_or-set_same cur t (arrival_of at both) nothing (omega (arith, so_far.size))

      differs : (j : ℕ) → (t == j) ≡ false → ¬ (j ≡ t)
      differs j it e = let met_there : (t == j) ≡ true = eq-eqb t j (sym e) in cc

      elsewhere : (j : ℕ) → (t == j) ≡ false → get_or (set cur t (arrival_of at both)) j nothing ≡ get_or cur j nothing
      elsewhere j it = get_or-set_other cur t j (arrival_of at both) nothing (differs j it)

      arrived_at : (b : Bool) (j : ℕ) → (t == j) ≡ b → at < j → j < length old → known (set cur t (arrival_of at both)) j ≡ cond (b || gone j) (meet v (known old j) (Some left)) (known old j)
      arrived_at true j it below within =
          subst (λ (k : ℕ). known (set cur t (arrival_of at both)) k ≡ meet v (known old k) (Some left)) (eqb-true t j it)
          (ap (λ (a : Arrival). a.stack) at_t ∙ sym (met_meets v left both (known old t) is))
      arrived_at false j it below within = ap (λ (a : Arrival). a.stack) (elsewhere j it) ∙ so_far.arrived j below within

      here_at : (b : Bool) (j : ℕ) → (t == j) ≡ b → at < j → j < length old → came (set cur t (arrival_of at both)) at j ≡ (b || gone j)
      here_at true j it below within =
          let more : nat_lt at (at + 1) ≡ true = grind (arith, nat_tests) in
          subst (λ (k : ℕ). came (set cur t (arrival_of at both)) at k ≡ true) (eqb-true t j it)
          (ap (λ (a : Arrival). nat_lt at a.before) at_t ∙ more)
      here_at false j it below within = ap (λ (a : Arrival). nat_lt at a.before) (elsewhere j it) ∙ so_far.here j below within

      early_at : (b : Bool) (j : ℕ) → (t == j) ≡ b → bound_of (set cur t (arrival_of at both)) j ≤ at + 1
      early_at true j it =
          let low : at + 1 ≤ at + 1 = omega arith in
          subst (λ (k : ℕ). bound_of (set cur t (arrival_of at both)) k ≤ at + 1) (eqb-true t j it)
          (subst (λ (a : Arrival). a.before ≤ at + 1) (sym at_t) low)
      early_at false j it = subst (λ (a : Arrival). a.before ≤ at + 1) (sym (elsewhere j it)) (so_far.early j)

      fine_at : (b : Bool) (j : ℕ) → (t == j) ≡ b → (b || gone j) ≡ true → clash v states at left j ≡ false
      fine_at true j it marked = subst (λ (k : ℕ). clash v states at left k ≡ false) (eqb-true t j it) none
      fine_at false j it marked = so_far.fine j marked

  back_on : (gone : ℕ → Bool) (t : ℕ) (cur next : List Arrival) → Gone v states at left old gone cur → nat_le t at ≡ true →
      cond (are_assignable v left (stack_at front t)) (Some cur) None ≡ Some next → Stepped v states at left old gone t next
  back_on gone t cur next so_far le is =
      let fits : are_assignable v left (stack_at front t) ≡ true = only_some (are_assignable v left (stack_at front t)) cur next is in
      let none : clash v states at left t ≡ false = clash_back t le ∙ ap not fits in
      subst (λ (n : List Arrival). Stepped v states at left old gone t n) (only_this (are_assignable v left (stack_at front t)) cur next is)
      (record { none = none; known = marked_again gone t cur so_far none (λ j below within it. absurd (back_below j below it)) })
    where
      back_below : (j : ℕ) → at < j → (t == j) ≡ true → ⊥
      back_below j below it = let e : t ≡ j = eqb-true t j it in let low : t ≤ at = grind (arith, nat_tests) in omega arith

  ahead_on : (gone : ℕ → Bool) (t : ℕ) (cur next : List Arrival) → Gone v states at left old gone cur → nat_le t at ≡ false → t < length old →
      gone_forward v at left t cur ≡ Some next → Stepped v states at left old gone t next
  ahead_on gone t cur next so_far gt inside is = by_mark (gone t) refl (sym (ap (λ b. cond b (Some cur) (option_map (λ both. set cur t (arrival_of at both)) (met v (known cur t) left))) (so_far.here t later inside)) ∙ is)
    where
      later : at < t
      later = grind (arith, nat_tests)

      by_join : (o : Option Stack) → met v (known old t) left ≡ o → gone t ≡ false → option_map (λ both. set cur t (arrival_of at both)) o ≡ Some next → Stepped v states at left old gone t next
      by_join None met fresh found = cc
      by_join (Some both) met fresh found =
          let none : clash v states at left t ≡ false = clash_ahead t gt inside ∙ ap (λ (o : Option Stack). not (is_some o)) met in
          let there : set cur t (arrival_of at both) ≡ next = cc in
          subst (λ (n : List Arrival). Stepped v states at left old gone t n) there
          (record { none = none; known = marked_fresh gone t cur both so_far later inside fresh met none })

      by_mark : (b : Bool) → gone t ≡ b → cond b (Some cur) (option_map (λ both. set cur t (arrival_of at both)) (met v (known cur t) left)) ≡ Some next → Stepped v states at left old gone t next
      by_mark true marked found =
          let there : cur ≡ next = cc in
          let none : clash v states at left t ≡ false = so_far.fine t marked in
          subst (λ (n : List Arrival). Stepped v states at left old gone t n) there
          (record { none = none; known = marked_again gone t cur so_far none (λ j below within it. subst (λ (k : ℕ). gone k ≡ true) (eqb-true t j it) marked) })
      by_mark false fresh found =
          let old_is : known cur t ≡ known old t = so_far.arrived t later inside ∙ ap (λ b. cond b (meet v (known old t) (Some left)) (known old t)) fresh in
          by_join (met v (known old t) left) refl fresh (sym (ap (λ (o : Option Stack). option_map (λ both. set cur t (arrival_of at both)) (met v o left)) old_is) ∙ found)

  -- one step that is admitted
  step_on : (gone : ℕ → Bool) (t : ℕ) (cur next : List Arrival) → Gone v states at left old gone cur → t < length old →
      gone_on_to v front at left t cur ≡ Some next → Stepped v states at left old gone t next
  step_on gone t cur next so_far inside is = by_side (nat_le t at) refl is
    where
      by_side : (b : Bool) → nat_le t at ≡ b → cond b (cond (are_assignable v left (stack_at front t)) (Some cur) None) (gone_forward v at left t cur) ≡ Some next → Stepped v states at left old gone t next
      by_side true le found = back_on gone t cur next so_far le found
      by_side false gt found = ahead_on gone t cur next so_far gt inside found

  ahead_off : (gone : ℕ → Bool) (t : ℕ) (cur : List Arrival) → Gone v states at left old gone cur → nat_le t at ≡ false → t < length old →
      gone_forward v at left t cur ≡ None → clash v states at left t ≡ true
  ahead_off gone t cur so_far gt inside is = by_mark (gone t) refl (sym (ap (λ b. cond b (Some cur) (option_map (λ both. set cur t (arrival_of at both)) (met v (known cur t) left))) (so_far.here t later inside)) ∙ is)
    where
      later : at < t
      later = grind (arith, nat_tests)

      by_join : (o : Option Stack) → met v (known old t) left ≡ o → option_map (λ both. set cur t (arrival_of at both)) o ≡ None → clash v states at left t ≡ true
      by_join None met found = clash_ahead t gt inside ∙ ap (λ (o : Option Stack). not (is_some o)) met
      by_join (Some both) met found = cc

      by_mark : (b : Bool) → gone t ≡ b → cond b (Some cur) (option_map (λ both. set cur t (arrival_of at both)) (met v (known cur t) left)) ≡ None → clash v states at left t ≡ true
      by_mark true marked found = cc
      by_mark false fresh found =
          let old_is : known cur t ≡ known old t = so_far.arrived t later inside ∙ ap (λ b. cond b (meet v (known old t) (Some left)) (known old t)) fresh in
          by_join (met v (known old t) left) refl (sym (ap (λ (o : Option Stack). option_map (λ both. set cur t (arrival_of at both)) (met v o left)) old_is) ∙ found)

  -- one step that is refused
  step_off : (gone : ℕ → Bool) (t : ℕ) (cur : List Arrival) → Gone v states at left old gone cur → t < length old →
      gone_on_to v front at left t cur ≡ None → clash v states at left t ≡ true
  step_off gone t cur so_far inside is = by_side (nat_le t at) refl is
    where
      by_side : (b : Bool) → nat_le t at ≡ b → cond b (cond (are_assignable v left (stack_at front t)) (Some cur) None) (gone_forward v at left t cur) ≡ None → clash v states at left t ≡ true
      by_side true le found = clash_back t le ∙ ap not (only_none (are_assignable v left (stack_at front t)) cur found)
      by_side false gt found = ahead_off gone t cur so_far gt inside found

  inside_first : (t : ℕ) (ts : List ℕ) → list_any (λ j. nat_le (length old) j) (t ∷ ts) ≡ false → t < length old
  inside_first t ts within = let not_past : nat_le (length old) t ≡ false = or_false_left _ _ within in grind (arith, nat_tests)

  -- all steps
  run_on : (tos : List ℕ) (gone : ℕ → Bool) (cur last : List Arrival) → Gone v states at left old gone cur → list_any (λ j. nat_le (length old) j) tos ≡ false →
      gone_among v front at left tos cur ≡ Some last → (list_any (clash v states at left) tos ≡ false) × Gone v states at left old (gone_after tos gone) last
  run_on [] gone cur last so_far within is = let there : cur ≡ last = cc in (refl, subst (λ (n : List Arrival). Gone v states at left old gone n) there so_far)
  run_on (t ∷ ts) gone cur last so_far within is =
      by_step (gone_on_to v front at left t cur) refl (λ next known found. run_on ts (λ k. (t == k) || gone k) next last known (or_false_right _ _ within) found) is
    where
      by_step : (o : Option (List Arrival)) → gone_on_to v front at left t cur ≡ o →
          ((next : List Arrival) → Gone v states at left old (λ k. (t == k) || gone k) next → gone_among v front at left ts next ≡ Some last →
          (list_any (clash v states at left) ts ≡ false) × Gone v states at left old (gone_after ts (λ k. (t == k) || gone k)) last) →
          option_and_then (gone_among v front at left ts) o ≡ Some last →
          (list_any (clash v states at left) (t ∷ ts) ≡ false) × Gone v states at left old (gone_after ts (λ k. (t == k) || gone k)) last
      by_step None one later found = cc
      by_step (Some next) one later found =
          let stepped = step_on gone t cur next so_far (inside_first t ts within) one in
          let rest = later next stepped.known found in
          (ap (λ b. b || list_any (clash v states at left) ts) stepped.none ∙ rest.0, rest.1)

  run_off : (tos : List ℕ) (gone : ℕ → Bool) (cur : List Arrival) → Gone v states at left old gone cur → list_any (λ j. nat_le (length old) j) tos ≡ false →
      gone_among v front at left tos cur ≡ None → list_any (clash v states at left) tos ≡ true
  run_off [] gone cur so_far within is = cc
  run_off (t ∷ ts) gone cur so_far within is =
      by_step (gone_on_to v front at left t cur) refl (λ next known found. run_off ts (λ k. (t == k) || gone k) next known (or_false_right _ _ within) found) is
    where
      or_later : (b c : Bool) → c ≡ true → (b || c) ≡ true
      or_later true c e = refl
      or_later false c e = e

      by_step : (o : Option (List Arrival)) → gone_on_to v front at left t cur ≡ o →
          ((next : List Arrival) → Gone v states at left old (λ k. (t == k) || gone k) next → gone_among v front at left ts next ≡ None → list_any (clash v states at left) ts ≡ true) →
          option_and_then (gone_among v front at left ts) o ≡ None → list_any (clash v states at left) (t ∷ ts) ≡ true
      by_step None one later found = ap (λ b. b || list_any (clash v states at left) ts) (step_off gone t cur so_far (inside_first t ts within) one)
      by_step (Some next) one later found =
          let stepped = step_on gone t cur next so_far (inside_first t ts within) one in
          or_later (clash v states at left t) _ (later next stepped.known found)

-- ---- one instruction

module _ (v : View) (at : ℕ) (i : Op) (left : Stack) (front : List Stack) (all : List Arrival)
    (is : slice_get (code_of v.method.body) at ≡ Some i) (knows : Knows v at all)
    (same : (to : ℕ) → to ≤ at → stack_at front to ≡ stack_at (states_of v) to)
    (inside : leads_out (length all) i at ≡ false) where
  ahead : (j : ℕ) → at < j → j < length all → known all j ≡ arrived v (states_of v) j at
  ahead j below within = knows.ahead j (omega arith) (omega (arith, knows.size))

  begun : Gone v (states_of v) at left all (λ k. false) all
  begun = record {
    size = refl;
    arrived = λ j below within. refl;
    here = λ j below within. not_yet j;
    early = λ j. omega (arith, knows.early j);
    fine = λ j marked. cc;
  }
    where
      not_yet : (j : ℕ) → came all at j ≡ false
      not_yet j = let low : bound_of all j ≤ at = knows.early j in grind (arith, nat_tests)

  within : list_any (λ j. nat_le (length all) j) (followers_of i at) ≡ false
  within = followers_are (λ j. nat_le (length all) j) i at ∙ inside

  -- where all followers agree, no rule on merges is broken
  pub merges_well : (new : List Arrival) → gone_among v front at left (followers_of i at) all ≡ Some new → any_follower (λ to. not (meets_well v (states_of v) at left to)) i at ≡ false
  merges_well new on = sym (followers_are _ i at) ∙ (run_on v front (states_of v) at left all same ahead (followers_of i at) (λ k. false) all new begun within on).0

  pub merges_badly : gone_among v front at left (followers_of i at) all ≡ None → any_follower (λ to. not (meets_well v (states_of v) at left to)) i at ≡ true
  merges_badly off = sym (followers_are _ i at) ∙ run_off v front (states_of v) at left all same ahead (followers_of i at) (λ k. false) all begun within off

  -- and what is known then is what arrived before the next instruction
  pub knows_next : (new : List Arrival) → gone_among v front at left (followers_of i at) all ≡ Some new → left_by v i (stack_at (states_of v) at) ≡ Some left → Knows v (at + 1) new
  knows_next new on leaves = record { size = known_now.size ∙ knows.size; ahead = λ j from below. arrived_now j (omega arith) below; early = known_now.early }
    where
      known_now : Gone v (states_of v) at left all (gone_after (followers_of i at) (λ k. false)) new
      known_now = (run_on v front (states_of v) at left all same ahead (followers_of i at) (λ k. false) all new begun within on).1

      joins : (b : Bool) (o : Option Stack) → cond b (meet v o (Some left)) o ≡ meet v o (cond b (left_by v i (stack_at (states_of v) at)) None)
      joins true o = ap (λ (l : Option Stack). meet v o l) (sym leaves)
      joins false o = sym (meet_none v o)

      or_none : (b : Bool) → (b || false) ≡ b
      or_none true = refl
      or_none false = refl

      goes : (j : ℕ) → gone_after (followers_of i at) (λ k. false) j ≡ goes_on_to i at j
      goes j = gone_after_is (followers_of i at) (λ k. false) j ∙ or_none (list_any (λ k. k == j) (followers_of i at)) ∙ followers_are (λ k. k == j) i at

      arrived_now : (j : ℕ) → at < j → j < length (code_of v.method.body) → known new j ≡ arrived v (states_of v) j (at + 1)
      arrived_now j below bounded =
          let size : j < length all = omega (arith, knows.size) in
          let next : suc at ≡ at + 1 = omega arith in
          known_now.arrived j below size
          ∙ ap (λ b. cond b (meet v (known all j) (Some left)) (known all j)) (goes j)
          ∙ joins (goes_on_to i at j) (known all j)
          ∙ ap (λ (o : Option Stack). meet v o (arriving v (states_of v) at j i)) (ahead j below size)
          ∙ sym (arrived_next v (states_of v) j at i is)
          ∙ ap (λ (n : ℕ). arrived v (states_of v) j n) next

-- ---- followers, first the targets and then the next instruction

among_append : (v : View) (front : List Stack) (at : ℕ) (left : Stack) (xs ys : List ℕ) (all : List Arrival) →
    gone_among v front at left (xs ++ ys) all ≡ option_and_then (gone_among v front at left ys) (gone_among v front at left xs all)
among_append v front at left [] ys all = refl
among_append v front at left (x ∷ xs) ys all = by_first (gone_on_to v front at left x all) (λ next. among_append v front at left xs ys next)
  where
    by_first : (o : Option (List Arrival)) →
        ((next : List Arrival) → gone_among v front at left (xs ++ ys) next ≡ option_and_then (gone_among v front at left ys) (gone_among v front at left xs next)) → option_and_then (gone_among v front at left (xs ++ ys)) o ≡ option_and_then (gone_among v front at left ys) (option_and_then (gone_among v front at left xs) o)
    by_first None later = refl
    by_first (Some next) later = later next

pub targets_stop : (v : View) (front : List Stack) (at : ℕ) (left : Stack) (i : Op) (all : List Arrival) → gone_among v front at left (targets_of i) all ≡ None →
    None ≡ gone_among v front at left (followers_of i at) all
targets_stop v front at left i all off =
    sym (among_append v front at left (targets_of i) (if falls (control_at i) then ((at + 1) ∷ []) else []) all
    ∙ ap (λ (o : Option (List Arrival)). option_and_then (gone_among v front at left (if falls (control_at i) then ((at + 1) ∷ []) else [])) o) off)

and_some : (o : Option (List Arrival)) → option_and_then (λ all. Some all) o ≡ o
and_some None = refl
and_some (Some all) = refl

pub next_is_last : (v : View) (front : List Stack) (at : ℕ) (left : Stack) (i : Op) (all mid : List Arrival) → gone_among v front at left (targets_of i) all ≡ Some mid → falls (control_at i) ≡ true →
    gone_on_to v front at left (at + 1) mid ≡ gone_among v front at left (followers_of i at) all
next_is_last v front at left i all mid on goes =
    sym (among_append v front at left (targets_of i) (if falls (control_at i) then ((at + 1) ∷ []) else []) all
    ∙ ap (λ (o : Option (List Arrival)). option_and_then (gone_among v front at left (if falls (control_at i) then ((at + 1) ∷ []) else [])) o) on
    ∙ ap (λ b. gone_among v front at left (if b then ((at + 1) ∷ []) else []) mid) goes
    ∙ and_some (gone_on_to v front at left (at + 1) mid))

pub next_inside : (n at : ℕ) (i : Op) → leads_out n i at ≡ false → falls (control_at i) ≡ true → at + 1 < n
next_inside n at i inside goes =
    let next : (falls (control_at i) && nat_le n (at + 1)) ≡ false = or_false_right (list_any (λ j. nat_le n j) (targets_of i)) _ inside in
    let not_past : nat_le n (at + 1) ≡ false = sym (ap (λ b. b && nat_le n (at + 1)) goes) ∙ next in
    grind (arith, nat_tests)
