-- Rules judged one class or method after another.
use Rattle.std.proofs.Common.{◌≡◌, ℕ, zero, suc, ◌+◌, ◌<◌, ◌≤◌, ◌⊎◌, inl, inr, Bool, true, false, List, [], ◌∷◌, ◌++◌, length, map, take, replicate, get_or, slice_get, Option, Some, None, option_map, Result, Ok, Err, IfOk, IsErr, IsErrAnd, refl, sym, ap, ◌∙◌, subst, arith}
use Rattle.std.proofs.lemmas.List.{take_more, map-append}
use Rattle.std.proofs.lemmas.Option.{slice_get_within, slice_get-get_or, get_or_from_slice_get}
use Rattle.mn_outside.specs.declared.outside.NoMemory.{NoMemory}
use Rattle.mn_outside.specs.declared.outside.Refused.{Refused}
use Rattle.mn_outside.specs.declared.outside.Refused.TheVariants as refused
use Rattle.il_model.specs.declared.class.ClassDef.{ClassDef}
use Rattle.il_model.specs.declared.method.MethodDef.{MethodDef}
use Rattle.il_model.specs.declared.program.Program.{Program}
use Rattle.il_model.specs.ClassRules.{HasTypes}
use Rattle.cil_verify.specs.declared.fault.Where.{Where}
use Rattle.cil_verify.specs.declared.fault.Where.TheVariants as at
use Rattle.cil_verify.specs.declared.fault.VerifyCause.{VerifyCause}
use Rattle.cil_verify.specs.declared.fault.VerifyFault.{VerifyFault}
use Rattle.cil_flow.specs.declared.state.States.{States}
use Rattle.cil_verify.specs.Heights.{AreHeights}
use Rattle.cil_verify.specs.Places.{view_of}
use Rattle.cil_verify.specs.States.{Stack, states_of}
use Rattle.cil_verify.specs.Arrivals.{stacks_of}
use Rattle.cil_verify.specs.WellTyped.{Rule, HoldAll, FirstBroken, first_class_rules, later_class_rules, head_rules, size_rules, IsGoodMethod, IsRefusedMethod, by_head, by_size, Each, EachBefore, IsFirstRefusal, of_class, of_class_later, of_method, refused_in}
use Rattle.cil_verify.specs.Judging.{Judges, refusal_at, JudgesClasses, JudgesMethod, JudgesMethods, AreStatesOf}

module _ {D : Type 0} (P : ℕ → D → Type 0) (ds : List D) where
  pub each_none : EachBefore P ds 0
  each_none = record { each = λ k d below is. absurd (omega (arith, below)) }

  one_more : (a b : ℕ) → a < suc b → (a < b) ⊎ (a ≡ b)
  one_more zero zero less = inr refl
  one_more zero (suc b) less = inl (omega arith)
  one_more (suc a) zero less = absurd (omega (arith, less))
  one_more (suc a) (suc b) less = elim (one_more a b (omega (arith, less))) [ inl h ↦ inl (omega (arith, h)) | inr e ↦ inr (ap suc e) ]

  pub each_more : (n next : ℕ) (d : D) → next ≡ suc n → slice_get ds n ≡ Some d → EachBefore P ds n → P n d → EachBefore P ds next
  each_more n next d one here before holds = record {
    each = λ k e below is. elim (one_more k n (omega (arith, below, one))) [
      | inl less ↦ before.each k e less is
      | inr same ↦
          let at_one : slice_get ds n ≡ Some e = ap (λ (m : ℕ). slice_get ds m) (sym same) ∙ is in
          let item : d ≡ e = cc in
          subst (λ (m : ℕ). P m e) (sym same) (subst (P n) item holds)
    ];
  }

  pub each_all : (n : ℕ) → length ds ≤ n → EachBefore P ds n → Each P ds
  each_all n over before = record { each = λ k d is. before.each k d (omega (arith, over, slice_get_within ds k d is)) is }

zero_at : (n k h : ℕ) → slice_get (replicate n 0) k ≡ Some h → h ≡ 0
zero_at zero k h is = cc
zero_at (suc n) zero h is = cc
zero_at (suc n) (suc k) h is = zero_at n k h is

pub zero_heights : (program : Program) (n : ℕ) → AreHeights program (replicate n 0)
zero_heights program n number height is some = absurd (omega (arith, some, zero_at n number height is))

module _ (program : Program) (number : ℕ) (found : Result (Option VerifyCause) NoMemory) (r : Result (Unit {0}) (Refused VerifyFault)) where
  module _ {D : Type 0} (rules : List (Rule D)) (d : D) where
    by_passing : (found : Result (Option VerifyCause) NoMemory) (r : Result (Unit {0}) (Refused VerifyFault)) (u : Unit {0}) (place : Where) →
        r ≡ refusal_at place found → r ≡ Ok u → IfOk found (Judges rules program number d) → HoldAll rules program number d
    by_passing (Ok None) r u place is ok holds = holds
    by_passing (Ok (Some c)) r u place is ok holds = cc
    by_passing (Err e) r u place is ok holds = cc

    -- no cause was found: all rules hold
    pub passes : (u : Unit {0}) (place : Where) → r ≡ refusal_at place found → r ≡ Ok u → IfOk found (Judges rules program number d) → HoldAll rules program number d
    passes u place is ok holds = by_passing found r u place is ok holds

  by_cause : {D : Type 0} (rules : List (Rule D)) (d : D) (Q : Refused VerifyFault → Type 0) (place : Where) (found : Result (Option VerifyCause) NoMemory) (r : Result (Unit {0}) (Refused VerifyFault)) (e : Refused VerifyFault) →
      r ≡ refusal_at place found → r ≡ Err e → IfOk found (Judges rules program number d) → Q refused.NoMemory →
      ((c : VerifyCause) → FirstBroken rules program number d c → Q (refused.Fault (record { at = place; cause = c }))) → Q e
  by_cause rules d Q place (Ok None) r e is err holds none some = cc
  by_cause rules d Q place (Ok (Some c)) r e is err holds none some =
      let same : e ≡ refused.Fault (record { at = place; cause = c }) = cc in subst Q (sym same) (some c holds)
  by_cause rules d Q place (Err x) r e is err holds none some =
      let same : e ≡ refused.NoMemory = cc in subst Q (sym same) none

  pub first_refuses : (c : ClassDef) (e : Refused VerifyFault) → slice_get program.classes number ≡ Some c →
      EachBefore (HoldAll first_class_rules program) program.classes number → r ≡ refusal_at (at.Class number) found → r ≡ Err e →
      IfOk found (Judges first_class_rules program number c) → JudgesClasses first_class_rules program (Err e)
  first_refuses c e here before is err holds =
      by_cause first_class_rules c (λ x. JudgesClasses first_class_rules program (Err x)) (at.Class number) found r e is err holds tt
      (λ why broken. of_class number c why here before broken)

  pub later_refuses : (c : ClassDef) (e : Refused VerifyFault) → slice_get program.classes number ≡ Some c →
      Each (HoldAll first_class_rules program) program.classes → EachBefore (HoldAll later_class_rules program) program.classes number →
      r ≡ refusal_at (at.Class number) found → r ≡ Err e →
      IfOk found (Judges later_class_rules program number c) → JudgesClasses later_class_rules program (Err e)
  later_refuses c e here first before is err holds =
      by_cause later_class_rules c (λ x. JudgesClasses later_class_rules program (Err x)) (at.Class number) found r e is err holds tt
      (λ why broken. of_class_later number c why here first before broken)

  pub head_refuses : (m : MethodDef) (e : Refused VerifyFault) → r ≡ refusal_at (at.Method number) found → r ≡ Err e →
      IfOk found (Judges head_rules program number m) → JudgesMethod program number m (Err e)
  head_refuses m e is err holds =
      by_cause head_rules m (λ x. JudgesMethod program number m (Err x)) (at.Method number) found r e is err holds tt (λ why broken. by_head why broken)

  pub size_refuses : (m : MethodDef) (e : Refused VerifyFault) → HoldAll head_rules program number m → refused_in program m ≡ None →
      r ≡ refusal_at (at.Method number) found → r ≡ Err e →
      IfOk found (Judges size_rules program number m) → JudgesMethod program number m (Err e)
  size_refuses m e heads good is err holds =
      by_cause size_rules m (λ x. JudgesMethod program number m (Err x)) (at.Method number) found r e is err holds tt
      (λ why broken. by_size why heads (record { none = good }) broken)

-- a method that is refused is the first refusal of the program, where all before it is good
pub method_refuses : (program : Program) (number : ℕ) (m : MethodDef) (e : Refused VerifyFault) → slice_get program.methods number ≡ Some m →
    Each (HoldAll first_class_rules program) program.classes → Each (HoldAll later_class_rules program) program.classes →
    EachBefore (IsGoodMethod program) program.methods number → JudgesMethod program number m (Err e) → JudgesMethods program (Err e)
method_refuses program number m (refused.Fault f) here first later before refused = of_method number m f here first later before refused
method_refuses program number m refused.NoMemory here first later before refused = tt

-- classes that the first rules hold of are those that types can be asked about
pub types_of_first : (program : Program) → Each (HoldAll first_class_rules program) program.classes → HasTypes program
types_of_first program first = record {
  hierarchy = record { each = λ number c here. (first.each number c here).0 };
  layout = record { each = λ number c here. (first.each number c here).1.0 };
}

-- one method more, with its states
pub states_more : (program : Program) (all now : List States) (found : States) (ms : List MethodDef) (i next : ℕ) (m : MethodDef) → next ≡ i + 1 → i < length ms → slice_get ms i ≡ Some m →
    now ≡ all ++ found ∷ [] → stacks_of found.states ≡ states_of (view_of program m) → AreStatesOf program all (take i ms) → AreStatesOf program now (take next ms)
states_more program all now found ms i next m up inside here put is before =
    let item : get_or ms i m ≡ m = get_or_from_slice_get ms i m m here in
    ap (λ (ss : List States). map (λ s. stacks_of s.states) ss) put
    ∙ map-append (λ (s : States). stacks_of s.states) all (found ∷ [])
    ∙ ap (λ (xs : List (List Stack)). xs ++ stacks_of found.states ∷ []) before
    ∙ ap (λ (x : List Stack). map (λ m. states_of (view_of program m)) (take i ms) ++ x ∷ []) is
    ∙ sym (ap (λ (ns : List MethodDef). map (λ m. states_of (view_of program m)) ns) (ap (λ (k : ℕ). take k ms) up ∙ take_more ms i m inside ∙ ap (λ (n : MethodDef). take i ms ++ n ∷ []) item)
    ∙ map-append (λ (n : MethodDef). states_of (view_of program n)) (take i ms) (m ∷ []))

-- ---- what stands at a place, and what a refusal hands on

pub item_here : {A : Type 0} (xs ys : List A) (i : ℕ) (x : A) → ys ≡ xs → i < length ys → x ≡ get_or ys i x → slice_get xs i ≡ Some x
item_here xs ys i x same inside is =
    ap (λ zs. slice_get zs i) (sym same) ∙ slice_get-get_or ys i x inside ∙ ap Some (sym is)

pub handed_on : {T E : Type 0} (r : Result T E) (x : E) → IsErr r × IsErrAnd r (λ e. e ≡ x) → r ≡ Err x
handed_on (Ok v) x h = absurd h.1
handed_on (Err e) x h = ap Err h.1

pub all_taken : {A : Type 0} (xs : List A) (n : ℕ) → length xs ≤ n → take n xs ≡ xs
all_taken [] zero le = refl
all_taken [] (suc n) le = refl
all_taken (x ∷ xs) zero le = absurd (omega (arith, le))
all_taken (x ∷ xs) (suc n) le = ap (λ ys. x ∷ ys) (all_taken xs n (omega (arith, le)))
