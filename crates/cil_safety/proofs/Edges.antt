-- What the verifier's pass gives at each edge: an instruction's stack is admitted, and what it leaves fits where it goes on.
use Rattle.std.proofs.Common.{◌≡◌, ◌≢◌, ℕ, zero, suc, ◌+◌, ◌-◌, ◌<◌, List, [], ◌∷◌, ◌++◌, length, Bool, true, false, not, Option, Some, None, unwrap_or, refl, sym, ap, ◌∙◌, subst, arith, eqb-true, eq-eqb}
use Rattle.std.proofs.lemmas.Bool.Decides.{nat_tests}
use Rattle.std.proofs.lemmas.List.{reverse-append}
use Rattle.std.proofs.lemmas.Option.{unwrap_or-slice_get, slice_get_within}
use Rattle.std.specs.Prelude.{◌==◌, ◌&&◌, ◌||◌, nat_le, if◌then◌else◌, reverse, is_some, option_map, option_and_then, slice_get}
use Rattle.std.specs.Option.{option_or}
use Rattle.std.specs.List.{list_any}
use Rattle.il_model.specs.declared.program.Program.{Program}
use Rattle.il_model.specs.declared.method.MethodDef.{MethodDef}
use Rattle.il_model.specs.declared.layout.MethodTree.{MethodTree}
use Rattle.il_model.specs.declared.op.Op.{Op}
use Rattle.cil_flow.specs.declared.state.StackType.{StackType}
use Rattle.cil_flow.specs.Control.{any_follower, targets_of, falls, control_at}
use Rattle.cil_flow.specs.Depths.{goes_on_to}
use Rattle.cil_flow.specs.Regions.{begins_handler}
use Rattle.cil_verify.specs.declared.fault.VerifyCause.{VerifyCause}
use Rattle.cil_verify.specs.declared.fault.VerifyCause.TheVariants as cause
use Rattle.cil_verify.specs.Places.{View, view_of, code_of, clauses_of}
use Rattle.cil_verify.specs.Admits.{left_by}
use Rattle.cil_verify.specs.Joins.{is_assignable_type, are_assignable, joined, with_top, joined_stacks}
use Rattle.cil_verify.specs.Members.{names_well, meets_all_bounds}
use Rattle.cil_verify.specs.States.{Stack, handler_stack, stack_at, arriving, meet, arrived, states_of, agrees, meets_well, cause_of_merge, cause_of_instr, Refusal, refusal_if, refused_before, first_refused}
use Rattle.cil_verify.proofs.StatesLemmas.{state_is_given}
use Rattle.cil_safety.proofs.Sorts.{Scalar, Sort, Words, To, sort_of, sorts_of}
use Rattle.cil_safety.proofs.Fit.{Wide, same, refs, boxes, nil_ref, nil_box, truth, WideWords, WideSort, WideSorts}
use Rattle.cil_safety.proofs.Types.{wide_sorts_self}

-- ---- options and tests

pub or_none : {A : Type 0} (a b : Option A) → option_or a b ≡ None → (a ≡ None) × (b ≡ None)
or_none None b e = (refl, e)
or_none (Some x) b e = absurd (cc e)

pub none_mapped : {A B : Type 0} (f : A → B) (o : Option A) → option_map f o ≡ None → o ≡ None
none_mapped f None e = refl
none_mapped f (Some x) e = absurd (cc e)

pub either_false : (a b : Bool) → (a || b) ≡ false → (a ≡ false) × (b ≡ false)
either_false true b e = absurd (cc e)
either_false false b e = (refl, e)

not_false : (b : Bool) → not b ≡ false → b ≡ true
not_false true e = refl
not_false false e = absurd (cc e)

pub none_any : {A : Type 0} (test : A → Bool) (xs : List A) (k : ℕ) (x : A) → list_any test xs ≡ false → slice_get xs k ≡ Some x → test x ≡ false
none_any test [] k x e is = absurd (cc is)
none_any test (y ∷ ys) zero x e is = let q : y ≡ x = cc is in subst (λ z. test z ≡ false) q (either_false (test y) (list_any test ys) e).0
none_any test (y ∷ ys) (suc k) x e is = none_any test ys k x (either_false (test y) (list_any test ys) e).1 is

-- the instruction at a number goes on to one: by a target, or as the next one where it falls on
pub data Follows (i : Op) (at : ℕ) : ℕ → Type 0 where
  target : (k : ℕ) {to : ℕ} → slice_get (targets_of i) k ≡ Some to → Follows i at to
  next : {to : ℕ} → falls (control_at i) ≡ true → to ≡ suc at → Follows i at to

pub no_follower : (test : ℕ → Bool) (i : Op) (at to : ℕ) → any_follower test i at ≡ false → Follows i at to → test to ≡ false
no_follower test i at to e (target k is) = none_any test (targets_of i) k to (either_false (list_any test (targets_of i)) (falls (control_at i) && test (at + 1)) e).0 is
no_follower test i at to e (next f step) =
    let q : (falls (control_at i) && test (at + 1)) ≡ false = (either_false (list_any test (targets_of i)) (falls (control_at i) && test (at + 1)) e).1 in
    let r : (true && test (at + 1)) ≡ false = subst (λ b. (b && test (at + 1)) ≡ false) f q in
    let s : at + 1 ≡ to = omega (arith, step) in
    subst (λ k. test k ≡ false) s r

some_any : {A : Type 0} (test : A → Bool) (xs : List A) (k : ℕ) (x : A) → slice_get xs k ≡ Some x → test x ≡ true → list_any test xs ≡ true
some_any test [] k x is e = absurd (cc is)
some_any test (y ∷ ys) zero x is e = let q : x ≡ y = cc is in let r : test y ≡ true = subst (λ z. test z ≡ true) q e in rw r refl
some_any test (y ∷ ys) (suc k) x is e = or_true (test y) (list_any test ys) (some_any test ys k x is e)
  where
    or_true : (a b : Bool) → b ≡ true → (a || b) ≡ true
    or_true true b e' = refl
    or_true false b e' = e'

pub some_follower : (test : ℕ → Bool) (i : Op) (at to : ℕ) → Follows i at to → test to ≡ true → any_follower test i at ≡ true
some_follower test i at to (target k is) e = let q : list_any test (targets_of i) ≡ true = some_any test (targets_of i) k to is e in rw q refl
some_follower test i at to (next f step) e = by_or (list_any test (targets_of i)) (falls (control_at i)) (test (at + 1)) f (let s : to ≡ at + 1 = omega (arith, step) in subst (λ k. test k ≡ true) s e)
  where
    by_or : (a b c : Bool) → b ≡ true → c ≡ true → (a || b && c) ≡ true
    by_or true b c e1 e2 = refl
    by_or false true true e1 e2 = refl
    by_or false true false e1 e2 = absurd (cc e2)
    by_or false false c e1 e2 = absurd (cc e1)

-- ---- wider and wider

module _ (p : Program) where
  wide_then : {a b c : Scalar} → Wide p a b → Wide p b c → Wide p a c
  wide_then same w = w
  wide_then (refs f f') same = refs f f'
  wide_then (refs f f') (refs g g') = refs (λ e x h. g e x (f e x h)) (λ h. g' (f' h))
  wide_then (boxes {s = s} e) same = boxes e
  wide_then (boxes {s = s} e) (refs g g') = boxes (λ x. g s x (e x))
  wide_then nil_ref same = nil_ref
  wide_then nil_ref (refs g g') = nil_ref
  wide_then nil_box same = nil_box
  wide_then nil_box (boxes e) = nil_ref
  wide_then truth same = truth

  wide_words_then : (as' bs cs : List Scalar) → WideWords p as' bs → WideWords p bs cs → WideWords p as' cs
  wide_words_then [] [] [] v w = tt
  wide_words_then [] [] (c ∷ cs) v w = absurd w
  wide_words_then [] (b ∷ bs) cs v w = absurd v
  wide_words_then (a ∷ as') [] cs v w = absurd v
  wide_words_then (a ∷ as') (b ∷ bs) [] v w = absurd w
  wide_words_then (a ∷ as') (b ∷ bs) (c ∷ cs) v w = (wide_then v.0 w.0, wide_words_then as' bs cs v.1 w.1)

  wide_sort_then : (s t r : Sort) → WideSort p s t → WideSort p t r → WideSort p s r
  wide_sort_then (Words k a) (Words l b) (Words m c) v w = (v.0 ∙ w.0, wide_words_then a b c v.1 w.1)
  wide_sort_then (Words k a) (Words l b) (To c) v w = absurd w
  wide_sort_then (Words k a) (To b) r v w = absurd v
  wide_sort_then (To a) (Words l b) r v w = absurd v
  wide_sort_then (To a) (To b) (Words m c) v w = absurd w
  wide_sort_then (To a) (To b) (To c) v w = v ∙ w

  pub wide_sorts_then : (ss ts rs : List Sort) → WideSorts p ss ts → WideSorts p ts rs → WideSorts p ss rs
  wide_sorts_then [] [] [] v w = tt
  wide_sorts_then [] [] (r ∷ rs) v w = absurd w
  wide_sorts_then [] (t ∷ ts) rs v w = absurd v
  wide_sorts_then (s ∷ ss) [] rs v w = absurd v
  wide_sorts_then (s ∷ ss) (t ∷ ts) [] v w = absurd w
  wide_sorts_then (s ∷ ss) (t ∷ ts) (r ∷ rs) v w = (wide_sort_then s t r v.0 w.0, wide_sorts_then ss ts rs v.1 w.1)

  wide_append : (ss ts us vs : List Sort) → WideSorts p ss ts → WideSorts p us vs → WideSorts p (ss ++ us) (ts ++ vs)
  wide_append [] [] us vs v w = w
  wide_append [] (t ∷ ts) us vs v w = absurd v
  wide_append (s ∷ ss) [] us vs v w = absurd v
  wide_append (s ∷ ss) (t ∷ ts) us vs v w = (v.0, wide_append ss ts us vs v.1 w)

  -- the same of stacks that stand from their tops down
  pub wide_reverse : (ss ts : List Sort) → WideSorts p ss ts → WideSorts p (reverse ss) (reverse ts)
  wide_reverse [] [] v = tt
  wide_reverse [] (t ∷ ts) v = absurd v
  wide_reverse (s ∷ ss) [] v = absurd v
  wide_reverse (s ∷ ss) (t ∷ ts) v = subst (λ z. WideSorts p z (reverse (t ∷ ts))) (sym (reverse-append (s ∷ []) ss)) (subst (λ z. WideSorts p (reverse ss ++ s ∷ []) z) (sym (reverse-append (t ∷ []) ts)) (wide_append (reverse ss) (reverse ts) (s ∷ []) (t ∷ []) (wide_reverse ss ts v.1) (v.0, tt)))

  map_append : (m : MethodTree) (xs ys : List StackType) → sorts_of p m (xs ++ ys) ≡ sorts_of p m xs ++ sorts_of p m ys
  map_append m [] ys = refl
  map_append m (x ∷ xs) ys = ap (λ z. sort_of p m x ∷ z) (map_append m xs ys)

  pub sorts-reverse : (m : MethodTree) (xs : List StackType) → sorts_of p m (reverse xs) ≡ reverse (sorts_of p m xs)
  sorts-reverse m [] = refl
  sorts-reverse m (x ∷ xs) = ap (sorts_of p m) (reverse-append (x ∷ []) xs) ∙ map_append m (reverse xs) (x ∷ []) ∙ ap (λ z. z ++ sort_of p m x ∷ []) (sorts-reverse m xs) ∙ sym (reverse-append (sort_of p m x ∷ []) (sorts_of p m xs))

abbrev pub refused_at : ℕ → VerifyCause → Refusal
refused_at count c = record { instr = count; cause = c }

-- What types owe the edges of one body at one instantiation: assignable stack types are wider, and so is what two join to.
pub record WidensWell (p : Program) (d : MethodDef) (m : MethodTree) : Type 0 where
  pub assigned : (a b : StackType) → is_assignable_type (view_of p d) a b ≡ true → WideSort p (sort_of p m a) (sort_of p m b)
  pub joins : (a b c : StackType) → joined (view_of p d) a b ≡ Some c → WideSort p (sort_of p m a) (sort_of p m c) × WideSort p (sort_of p m b) (sort_of p m c)

module _ (p : Program) (d : MethodDef) (m : MethodTree) (wide : WidensWell p d m) where
  abbrev pub view : View
  view = view_of p d

  abbrev pub states : List Stack
  states = states_of (view_of p d)

  abbrev pub Wider : Stack → Stack → Type 0
  Wider s t = WideSorts p (sorts_of p m s) (sorts_of p m t)

  stacks_assigned : (s t : Stack) → are_assignable view s t ≡ true → Wider s t
  stacks_assigned [] [] e = tt
  stacks_assigned [] (b ∷ bs) e = absurd (cc e)
  stacks_assigned (a ∷ s) [] e = absurd (cc e)
  stacks_assigned (a ∷ s) (b ∷ bs) e = by_tests (λ e'. stacks_assigned s bs e') (is_assignable_type view a b) refl e
    where
      by_tests : (are_assignable view s bs ≡ true → Wider s bs) → (c : Bool) → is_assignable_type view a b ≡ c → (c && are_assignable view s bs) ≡ true → Wider (a ∷ s) (b ∷ bs)
      by_tests others true is e' = (wide.assigned a b is, others e')
      by_tests others false is e' = absurd (cc e')

  stacks_joined : (s t r : Stack) → joined_stacks view s t ≡ Some r → Wider s r × Wider t r
  stacks_joined [] [] r e = let q : [] ≡ r = cc e in (subst (λ z. Wider [] z) q tt, subst (λ z. Wider [] z) q tt)
  stacks_joined [] (b ∷ bs) r e = absurd (cc e)
  stacks_joined (a ∷ s) [] r e = absurd (cc e)
  stacks_joined (a ∷ s) (b ∷ bs) r e = by_parts (λ cs e'. stacks_joined s bs cs e') (joined view a b) (joined_stacks view s bs) refl refl e
    where
      by_parts : ((cs : Stack) → joined_stacks view s bs ≡ Some cs → Wider s cs × Wider bs cs) → (o : Option StackType) (q : Option Stack) → joined view a b ≡ o → joined_stacks view s bs ≡ q → with_top o q ≡ Some r → Wider (a ∷ s) r × Wider (b ∷ bs) r
      by_parts rest None q is is' e' = absurd (cc e')
      by_parts rest (Some c) None is is' e' = absurd (cc e')
      by_parts rest (Some c) (Some cs) is is' e' =
          let q : c ∷ cs ≡ r = cc e' in
          let first = wide.joins a b c is in
          let others = rest cs is' in
          (subst (λ z. Wider (a ∷ s) z) q (first.0, others.0), subst (λ z. Wider (b ∷ bs) z) q (first.1, others.1))

  wider_then : (s t r : Stack) → Wider s t → Wider t r → Wider s r
  wider_then s t r v w = wide_sorts_then p (sorts_of p m s) (sorts_of p m t) (sorts_of p m r) v w

  -- something arrived that this stack fits
  record Arrived (left : Stack) (o : Option Stack) : Type 0 where
    stack : Stack
    is : o ≡ Some stack
    wider : Wider left stack

  -- more arrives
  arrives_more : (left : Stack) (o t : Option Stack) → Arrived left o → Arrived left (meet view o t)
  arrives_more left None t a = absurd (cc a.is)
  arrives_more left (Some s) None a = record { stack = a.stack; is = a.is; wider = a.wider }
  arrives_more left (Some s) (Some t) a = by_join (joined_stacks view s t) refl
    where
      s_is : s ≡ a.stack
      s_is = cc a.is

      by_join : (j : Option Stack) → joined_stacks view s t ≡ j → Arrived left (Some (unwrap_or j s))
      by_join None e = record { stack = s; is = refl; wider = subst (λ z. Wider left z) (sym s_is) a.wider }
      by_join (Some r) e = record { stack = r; is = refl; wider = wider_then left s r (subst (λ z. Wider left z) (sym s_is) a.wider) (stacks_joined s t r e).0 }

  -- the stack itself arrives, where it agrees with what arrived before
  arrives_now : (left : Stack) (o : Option Stack) → agrees view o left ≡ true → Arrived left (meet view o (Some left))
  arrives_now left None e = record { stack = left; is = refl; wider = wide_sorts_self p (sorts_of p m left) }
  arrives_now left (Some s) e = by_join (joined_stacks view s left) refl e
    where
      by_join : (j : Option Stack) → joined_stacks view s left ≡ j → is_some j ≡ true → Arrived left (Some (unwrap_or j s))
      by_join None is e' = absurd (cc e')
      by_join (Some r) is e' = record { stack = r; is = refl; wider = (stacks_joined s left r is).1 }

  -- what an earlier instruction leaves for one has arrived there
  stays_arrived : (left : Stack) (to at k j : ℕ) → j ≡ k + suc at → Arrived left (arrived view states to (suc at)) → Arrived left (arrived view states to j)
  stays_arrived left to at zero j e a = let q : suc at ≡ j = omega (arith, e) in subst (λ z. Arrived left (arrived view states to z)) q a
  stays_arrived left to at (suc k) j e a =
      let q : suc (k + suc at) ≡ j = omega (arith, e) in
      subst (λ z. Arrived left (arrived view states to z)) q
      (arrives_more left (arrived view states to (k + suc at)) (option_and_then (arriving view states (k + suc at) to) (slice_get (code_of d.body) (k + suc at))) (stays_arrived left to at k (k + suc at) refl a))

  -- ---- one instruction

  -- what is known of an instruction that is not refused
  pub record IsAdmitted (at : ℕ) (i : Op) : Type 0 where
    pub names : names_well view i ≡ true
    pub bounds : meets_all_bounds view i ≡ true
    pub left : Stack
    pub leaves : left_by view i (stack_at states at) ≡ Some left
    pub meets : (to : ℕ) → Follows i at to → meets_well view states at left to ≡ true

  not_refused : (at : ℕ) (i : Op) → cause_of_instr view states at i ≡ None → IsAdmitted at i
  not_refused at i e = by_names (names_well view i) refl e
    where
      by_left : (o : Option Stack) → left_by view i (stack_at states at) ≡ o → cause_of_merge view states at i o ≡ None → names_well view i ≡ true → meets_all_bounds view i ≡ true → IsAdmitted at i
      by_left None is e' nm bd = absurd (cc e')
      by_left (Some left) is e' nm bd = by_merge (any_follower (λ to. not (meets_well view states at left to)) i at) refl e'
        where
          by_merge : (b : Bool) → any_follower (λ to. not (meets_well view states at left to)) i at ≡ b → (if b then Some cause.BadMerge else None) ≡ None → IsAdmitted at i
          by_merge true q e'' = absurd (cc e'')
          by_merge false q e'' = record { names = nm; bounds = bd; left = left; leaves = is; meets = λ to f. not_false (meets_well view states at left to) (no_follower (λ k. not (meets_well view states at left k)) i at to q f) }

      by_bounds : (b : Bool) → meets_all_bounds view i ≡ b → names_well view i ≡ true → (if not b then Some cause.BadConstraint else cause_of_merge view states at i (left_by view i (stack_at states at))) ≡ None → IsAdmitted at i
      by_bounds true bd nm e' = by_left (left_by view i (stack_at states at)) refl e' nm bd
      by_bounds false bd nm e' = absurd (cc e')

      by_names : (b : Bool) → names_well view i ≡ b → (if not b then Some cause.BadMember else (if not (meets_all_bounds view i) then Some cause.BadConstraint else cause_of_merge view states at i (left_by view i (stack_at states at)))) ≡ None → IsAdmitted at i
      by_names true nm e' = by_bounds (meets_all_bounds view i) refl nm e'
      by_names false nm e' = absurd (cc e')

  -- no instruction before a number is refused
  each_admitted : (count : ℕ) → refused_before view states count ≡ None → (at : ℕ) (i : Op) → at < count → slice_get (code_of d.body) at ≡ Some i → IsAdmitted at i
  each_admitted zero e at i lt is = absurd (omega (arith, lt))
  each_admitted (suc count) e at i lt is = by_place (λ e' lt'. each_admitted count e' at i lt' is) (at == count) refl
    where
      parts : (refused_before view states count ≡ None) × (refusal_if count (option_and_then (cause_of_instr view states count) (slice_get (code_of d.body) count)) ≡ None)
      parts = or_none (refused_before view states count) (refusal_if count (option_and_then (cause_of_instr view states count) (slice_get (code_of d.body) count))) e

      by_place : (refused_before view states count ≡ None → at < count → IsAdmitted at i) → (b : Bool) → (at == count) ≡ b → IsAdmitted at i
      by_place earlier true q =
          let same' : at ≡ count = eqb-true at count q in
          let none : option_and_then (cause_of_instr view states count) (slice_get (code_of d.body) count) ≡ None = none_mapped (refused_at count) (option_and_then (cause_of_instr view states count) (slice_get (code_of d.body) count)) parts.1 in
          let here : option_and_then (cause_of_instr view states at) (slice_get (code_of d.body) at) ≡ None = subst (λ k. option_and_then (cause_of_instr view states k) (slice_get (code_of d.body) k) ≡ None) (sym same') none in
          not_refused at i (subst (λ o. option_and_then (cause_of_instr view states at) o ≡ None) is here)
      by_place earlier false q =
          let differ : at ≢ count = λ z. cc (eq-eqb at count z, q) in
          earlier parts.0 (omega (arith, lt, differ))

  pub admitted : first_refused view ≡ None → (at : ℕ) (i : Op) → slice_get (code_of d.body) at ≡ Some i → IsAdmitted at i
  admitted e at i is = each_admitted (length (code_of d.body)) e at i (slice_get_within (code_of d.body) at i is) is

  -- ---- one edge

  -- what an instruction leaves fits where it goes on, if forward no handler begins there
  pub edge_fits : (at : ℕ) (i : Op) (a : IsAdmitted at i) → slice_get (code_of d.body) at ≡ Some i → (to : ℕ) → Follows i at to → to < length (code_of d.body) → (at < to → begins_handler (clauses_of d.body) to ≡ false) → Wider a.left (stack_at states to)
  edge_fits at i a is to f inside plain' = by_side (nat_le to at) refl (a.meets to f)
    where
      later : (k : ℕ) → to ≡ k + suc at → at < to → agrees view (arrived view states to at) a.left ≡ true → Wider a.left (stack_at states to)
      later k e lt g =
          let goes : goes_on_to i at to ≡ true = some_follower (λ j. j == to) i at to f (eq-eqb to to refl) in
          let here : option_and_then (arriving view states at to) (slice_get (code_of d.body) at) ≡ Some a.left =
          ap (option_and_then (arriving view states at to)) is ∙ ap (λ b. if b then left_by view i (stack_at states at) else None) goes ∙ a.leaves in
          let now : Arrived a.left (arrived view states to (suc at)) = subst (λ o. Arrived a.left (meet view (arrived view states to at) o)) (sym here) (arrives_now a.left (arrived view states to at) g) in
          let all' : Arrived a.left (arrived view states to to) = stays_arrived a.left to at k to e now in
          let state : stack_at states to ≡ unwrap_or (arrived view states to to) [] =
          unwrap_or-slice_get states to [] ∙ state_is_given view to inside ∙ ap (λ b. if b then handler_stack (clauses_of d.body) to else unwrap_or (arrived view states to to) []) (plain' lt) in
          let there : stack_at states to ≡ all'.stack = state ∙ ap (λ o. unwrap_or o []) all'.is in
          subst (λ z. Wider a.left z) (sym there) all'.wider

      by_side : (b : Bool) → nat_le to at ≡ b → (if b then are_assignable view a.left (stack_at states to) else agrees view (arrived view states to at) a.left) ≡ true → Wider a.left (stack_at states to)
      by_side true q e = stacks_assigned a.left (stack_at states to) e
      by_side false q e = let lt : at < to = grind (arith, nat_tests) in later (to - suc at) (omega (arith, lt)) lt e
