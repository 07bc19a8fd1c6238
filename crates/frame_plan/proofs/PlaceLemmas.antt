-- How many places a method has, and that each is narrow.
use Rattle.std.proofs.Common.{◌≡◌, ℕ, ◌≤◌, max, Bool, true, false, cond, List, [], ◌∷◌, ◌++◌, length, length-append, map, fold, Option, Some, None, refl, ap, ◌∙◌, arith}
use Rattle.std.proofs.lemmas.List.{length-map}
use Rattle.type_tree.specs.declared.tree.TExpr.{TExpr}
use Rattle.type_tree.specs.Substitution.{substituted}
use Rattle.il_model.specs.declared.key.KeyPart.{KeyPart}
use Rattle.il_model.specs.declared.layout.Limit.{Limit}
use Rattle.il_model.specs.declared.method.PType.{PType}
use Rattle.il_model.specs.declared.method.PType.TheVariants as ptype
use Rattle.il_model.specs.declared.method.MethodDef.{MethodDef}
use Rattle.il_model.specs.declared.program.Program.{Program}
use Rattle.il_model.specs.Find.{takes_object}
use Rattle.il_model.specs.Kinds.{is_reference}
use Rattle.il_model.specs.Admission.{most_words, limit_of}
use Rattle.cil_flow.specs.FramePlans.{IsPlan}
use Rattle.cil_flow.specs.declared.state.State.{State}
use Rattle.cil_flow.specs.declared.state.StackType.{StackType}
use Rattle.cil_flow.specs.declared.state.StackType.TheVariants as stack
use Rattle.frame_plan.specs.declared.kinds.StandIns.{StandIns}
use Rattle.frame_plan.specs.Widths.{is_closed, width_unless, width_of_open, width_of, stand_ins_of}
use Rattle.frame_plan.specs.Places.{width_of_place, width_of_stack, state_widths, widest, stack_widths, object_widths, locals_in, place_widths, deepest, place_count}
use Rattle.frame_plan.specs.Named.{most_passed}
use Rattle.frame_plan.specs.Planned.{plan_of, IsSmallBody}
use Rattle.frame_plan.proofs.AdmittedLemmas.{few_words}
use Rattle.frame_plan.proofs.LayingLemmas.{AreNarrow, laid_legal}

either : (b : Bool) (x y most : ℕ) → x ≤ most → y ≤ most → cond b x y ≤ most
either true x y most first second = first
either false x y most first second = second

unless_few : (program : Program) (t : TExpr) (limit : Option Limit) → limit_of program t ≡ limit → width_unless program t limit ≤ most_words
unless_few program t None is = few_words program t is
unless_few program t (Some limit) is = omega arith

pub width_few : (program : Program) (t : TExpr) → width_of program t ≤ most_words
width_few program t =
    either (is_closed t) (width_unless program t (limit_of program t)) (width_of_open program t) most_words (unless_few program t (limit_of program t) refl)
    (either (is_reference program t) 1 most_words most_words (omega arith) (omega arith))

module _ (program : Program) (ins : StandIns) where
  place_few : (place : PType) → width_of_place program ins place ≤ most_words
  place_few (ptype.Value t) = width_few program (substituted ins.for_class ins.for_method t)
  place_few (ptype.Pointer t) = omega arith
  place_few ptype.Native = omega arith

  value_few : (value : StackType) → width_of_stack program ins value ≤ most_words
  value_few stack.Int32 = omega arith
  value_few stack.Int64 = omega arith
  value_few stack.Native = omega arith
  value_few stack.Null = omega arith
  value_few (stack.Kind t) = width_few program (substituted ins.for_class ins.for_method t)
  value_few (stack.Boxed t) = omega arith
  value_few (stack.Pointer t) = omega arith

narrow_map : {X : Type 0} (f : X → ℕ) → ((x : X) → f x ≤ most_words) → (xs : List X) → AreNarrow (map f xs)
narrow_map f few [] = tt
narrow_map f few (x ∷ xs) = (few x, narrow_map f few xs)

narrow_append : (xs ys : List ℕ) → AreNarrow xs → AreNarrow ys → AreNarrow (xs ++ ys)
narrow_append [] ys first second = second
narrow_append (x ∷ xs) ys first second = (first.0, narrow_append xs ys first.1 second)

max_few : (x y most : ℕ) → x ≤ most → y ≤ most → max x y ≤ most
max_few x y most first second = omega arith

narrow_widest : (xs ys : List ℕ) → AreNarrow xs → AreNarrow ys → AreNarrow (widest xs ys)
narrow_widest [] ys first second = second
narrow_widest (x ∷ xs) [] first second = first
narrow_widest (x ∷ xs) (y ∷ ys) first second = (max_few x y most_words first.0 second.0, narrow_widest xs ys first.1 second.1)

length-widest : (xs ys : List ℕ) → length (widest xs ys) ≡ max (length xs) (length ys)
length-widest [] ys = omega arith
length-widest (x ∷ xs) [] = omega arith
length-widest (x ∷ xs) (y ∷ ys) = let rest : length (widest xs ys) ≡ max (length xs) (length ys) = length-widest xs ys in omega arith

module _ (program : Program) (ins : StandIns) where
  narrow_stacks : (acc : List ℕ) (states : List State) → AreNarrow acc → AreNarrow (fold widest acc (map (state_widths program ins) states))
  narrow_stacks acc [] narrow = narrow
  narrow_stacks acc (s ∷ states) narrow =
      narrow_stacks (widest acc (state_widths program ins s)) states
      (narrow_widest acc (state_widths program ins s) narrow (narrow_map (width_of_stack program ins) (value_few program ins) s.stack))

  length-stacks : (acc : List ℕ) (states : List State) →
      length (fold widest acc (map (state_widths program ins) states)) ≡ fold max (length acc) (map (λ (s : State). length s.stack) states)
  length-stacks acc [] = refl
  length-stacks acc (s ∷ states) =
      length-stacks (widest acc (state_widths program ins s)) states
      ∙ ap (λ n. fold max n (map (λ (s : State). length s.stack) states)) (length-widest acc (state_widths program ins s) ∙ ap (max (length acc)) (length-map s.stack (width_of_stack program ins)))

  narrow_object : (b : Bool) → AreNarrow (cond b (1 ∷ []) [])
  narrow_object true = (omega arith, tt)
  narrow_object false = tt

  pub narrow_places : (m : MethodDef) (states : List State) → AreNarrow (place_widths program ins m states)
  narrow_places m states =
      narrow_append (object_widths m ++ map (width_of_place program ins) m.params ++ map (width_of_place program ins) (locals_in m.body)) _
      (narrow_append (object_widths m ++ map (width_of_place program ins) m.params) _
      (narrow_append (object_widths m) _ (narrow_object (takes_object m.shape)) (narrow_map (width_of_place program ins) (place_few program ins) m.params))
      (narrow_map (width_of_place program ins) (place_few program ins) (locals_in m.body)))
      (narrow_stacks [] states tt)

  -- there are as many widths as places
  pub length-place_widths : (m : MethodDef) (states : List State) → length (place_widths program ins m states) ≡ place_count m states
  length-place_widths m states =
      let whole = length-append (object_widths m ++ map (width_of_place program ins) m.params ++ map (width_of_place program ins) (locals_in m.body)) (stack_widths program ins states) in
      let front = length-append (object_widths m ++ map (width_of_place program ins) m.params) (map (width_of_place program ins) (locals_in m.body)) in
      let first = length-append (object_widths m) (map (width_of_place program ins) m.params) in
      let params = length-map m.params (width_of_place program ins) in
      let locals = length-map (locals_in m.body) (width_of_place program ins) in
      let stack : length (stack_widths program ins states) ≡ deepest states = length-stacks [] states in
      omega arith

-- the plan of a body with few places, whose calls pass few arguments, is legal
pub planned_legal : (program : Program) (m : MethodDef) (states : List State) (key : List KeyPart) → IsSmallBody m states → IsPlan (plan_of program m states key)
planned_legal program m states key small =
    let ins = stand_ins_of program m key in
    let count = length-place_widths program ins m states in
    let places = small.places in
    laid_legal (place_widths program ins m states) (most_passed m) (omega (arith, count, places)) (narrow_places program ins m states) small.passed
