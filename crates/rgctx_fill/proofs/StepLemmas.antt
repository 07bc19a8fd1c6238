-- The steps of an admitted type or method are those of trees that may have nodes, the last of which is its own.
use Rattle.std.proofs.Common.{◌≡◌, ⊎_elim, ℕ, zero, suc, ◌+◌, ◌-◌, ◌<◌, ◌≤◌, ◌==◌, Bool, true, false, List, [], ◌∷◌, ◌++◌, length, Option, Some, None, if◌then◌else◌, refl, sym, ap, ◌∙◌, subst, arith, eqb-true}
use Rattle.std.specs.Prelude.{slice_get, slice_index, nat_lt}
use Rattle.std.specs.List.{AllByRecursion}
use Rattle.std.proofs.lemmas.Bool.{cases_lt}
use Rattle.std.proofs.lemmas.Bool.Decides.{nat_tests}
use Rattle.std.proofs.lemmas.List.{append-nil, append_assoc, length-append}
use Rattle.std.proofs.lemmas.List.Elements.{recursion_from_All}
use Rattle.std.proofs.lemmas.Option.{slice_get_within}
use Rattle.type_tree.specs.declared.tree.Head.{Head}
use Rattle.type_tree.specs.declared.tree.Head.TheVariants as head
use Rattle.type_tree.specs.declared.tree.TExpr.{TExpr}
use Rattle.type_tree.specs.declared.tree.TNode.TheVariants.{Node}
use Rattle.type_tree.specs.Tree.{node, class_var, method_var}
use Rattle.type_tree.proofs.TreeLemmas.{top_of-tree_of, folded-node, holds_of_trees}
use Rattle.type_tree.proofs.VariablesLemmas.{below_class_var, below_method_var}
use Rattle.il_model.specs.declared.class.ClassDef.{ClassDef}
use Rattle.il_model.specs.declared.layout.MethodTree.{MethodTree}
use Rattle.il_model.specs.declared.program.Program.{Program}
use Rattle.il_model.specs.Admission.{has_count_in, has_count_top}
use Rattle.rgctx_words.specs.declared.node_word.Definition.{Definition}
use Rattle.rgctx_words.specs.declared.node_word.Definition.TheVariants as def
use Rattle.rgctx_words.specs.Regions.{node_count}
use Rattle.rgctx_words.specs.NodeWords.{node_word, node_read, definition_of}
use Rattle.rgctx_fill.specs.declared.spelled.NodeTree.{NodeTree}
use Rattle.rgctx_fill.specs.declared.spelled.NodeTree.TheVariants as tree
use Rattle.rgctx_fill.specs.declared.stage.NodeStep.{NodeStep}
use Rattle.rgctx_fill.specs.Spelled.{applied, spelled_by}
use Rattle.rgctx_fill.specs.Nodes.{IsAdmittedType, IsAdmittedMethod, MayStand}
use Rattle.rgctx_fill.specs.Turns.{node_for, word_for}
use Rattle.rgctx_fill.specs.Plans.{Spells, AreSpelled, IsStep, IsPlan}
use Rattle.rgctx_fill.specs.Steps.{head_number, method_number, step_with, level_steps, type_steps, types_steps, types_places, method_steps, most_named_classes}
use Rattle.rgctx_fill.specs.Starting.{IsNameable}
use Rattle.rgctx_fill.proofs.PlanLemmas.{read-word}
use Rattle.rgctx_fill.proofs.PartLemmas.{counts-node, parts-admitted}

-- ---- lists

get_front : {A : Type 0} (xs ys : List A) (k : ℕ) → k < length xs → slice_get (xs ++ ys) k ≡ slice_get xs k
get_front [] ys k less = absurd (omega arith)
get_front (x ∷ xs) ys zero less = refl
get_front (x ∷ xs) ys (suc k) less = get_front xs ys k (omega arith)

get_last : {A : Type 0} (xs : List A) (y : A) → slice_get (xs ++ y ∷ []) (length xs) ≡ Some y
get_last [] y = refl
get_last (x ∷ xs) y = get_last xs y

got_more : {A : Type 0} (xs ys : List A) (k : ℕ) (x : A) → slice_get xs k ≡ Some x → slice_get (xs ++ ys) k ≡ Some x
got_more xs ys k x is = get_front xs ys k (slice_get_within xs k x is) ∙ is

-- fewer trees ask less of the numbers
fewer : (told : ℕ → NodeTree) (trees more : List NodeTree) (found : List ℕ) → AreSpelled told (trees ++ more) found → AreSpelled told trees found
fewer told trees more found are k t low is = are k t low (got_more trees more k t is)

-- ---- one step more

same_item : {A : Type 0} (x y : A) → Some x ≡ Some y → x ≡ y
same_item x y e = cc

module _ (program : Program) where
  pub plan-more : (steps : List NodeStep) (trees : List NodeTree) (s : NodeStep) (t : NodeTree) → IsPlan program steps trees → IsStep program (trees ++ t ∷ []) (length steps) s t → IsPlan program (steps ++ s ∷ []) (trees ++ t ∷ [])
  plan-more steps trees s t plan last = record {
    count = length-append trees (t ∷ []) ∙ ap (λ n. n + 1) plan.count ∙ sym (length-append steps (s ∷ []));
    each = λ k u v u_is v_is. ⊎_elim
        (λ (front : k < length steps).
        let below : k < length trees = let e : length trees ≡ length steps = plan.count in omega arith in
        let old : IsStep program trees k u v = plan.each k u v (sym (get_front steps (s ∷ []) k front) ∙ u_is) (sym (get_front trees (t ∷ []) k below) ∙ v_is) in
        record { stands = old.stands; spells = λ told found count are. old.spells told found count (fewer told trees (t ∷ []) found are) })
        (λ (past : length steps ≤ k).
        let within : k < length (steps ++ s ∷ []) = slice_get_within (steps ++ s ∷ []) k u u_is in
        let count : length (steps ++ s ∷ []) ≡ length steps + 1 = length-append steps (s ∷ []) in
        let at : k ≡ length steps = omega arith in
        let a : s ≡ u = same_item s u (sym (get_last steps s) ∙ ap (slice_get (steps ++ s ∷ [])) (sym at) ∙ u_is) in
        let b : t ≡ v = same_item t v (sym (get_last trees t) ∙ ap (slice_get (trees ++ t ∷ [])) (plan.count ∙ sym at) ∙ v_is) in
        subst (λ n. IsStep program (trees ++ t ∷ []) n u v) (sym at) (subst (λ x. IsStep program (trees ++ t ∷ []) (length steps) u x) b (subst (λ x. IsStep program (trees ++ t ∷ []) (length steps) x t) a last)))
        (cases_lt k (length steps));
  }

-- ---- the places of the arguments

-- the place, counted from 1, is that of a step for the type
pub record IsPlaceOf (trees : List NodeTree) (place : ℕ) (t : TExpr) : Type 0 where
  pub k : ℕ
  pub is : place ≡ suc k
  pub at : slice_get trees k ≡ Some (tree.Kind t)

abbrev pub ArePlacesOf : List NodeTree → List ℕ → List TExpr → Type 0
ArePlacesOf trees [] [] = Unit {0}
ArePlacesOf trees [] (t ∷ ts) = ⊥
ArePlacesOf trees (p ∷ ps) [] = ⊥
ArePlacesOf trees (p ∷ ps) (t ∷ ts) = IsPlaceOf trees p t × ArePlacesOf trees ps ts

place_more : (trees more : List NodeTree) (p : ℕ) (t : TExpr) → IsPlaceOf trees p t → IsPlaceOf (trees ++ more) p t
place_more trees more p t h = record { k = h.k; is = h.is; at = got_more trees more h.k (tree.Kind t) h.at }

places_more : (trees more : List NodeTree) (ps : List ℕ) (ts : List TExpr) → ArePlacesOf trees ps ts → ArePlacesOf (trees ++ more) ps ts
places_more trees more [] [] h = tt
places_more trees more [] (t ∷ ts) h = absurd h
places_more trees more (p ∷ ps) [] h = absurd h
places_more trees more (p ∷ ps) (t ∷ ts) h = (place_more trees more p t h.0, places_more trees more ps ts h.1)

-- ---- what a word of a definition and arguments is read as

-- the number is that of a node, and is told as the type
record Tells (told : ℕ → NodeTree) (n : ℕ) (t : TExpr) : Type 0 where
  low : (n == 0) ≡ false
  high : n < node_count
  is : told n ≡ tree.Kind t

module _ (told : ℕ → NodeTree) (d : ℕ) (D : Definition) (named : definition_of d ≡ Some D) where
  zero_small : 0 < node_count
  zero_small = omega arith

  read_none : spelled_by told (node_read (node_word (record { definition = d; first = 0; second = 0; third = 0 }))) ≡ applied (Some D) []
  read_none = ap (spelled_by told) (read-word d 0 0 0 zero_small zero_small zero_small) ∙ ap (λ x. applied x []) named

  read_one : (a : ℕ) (s : TExpr) → Tells told a s → spelled_by told (node_read (node_word (record { definition = d; first = a; second = 0; third = 0 }))) ≡ applied (Some D) (s ∷ [])
  read_one a s x = ap (spelled_by told) (read-word d a 0 0 x.high zero_small zero_small) ∙ (let l = x.low in let e = x.is in rw (l, e, named) refl)

  read_two : (a b : ℕ) (s t : TExpr) → Tells told a s → Tells told b t → spelled_by told (node_read (node_word (record { definition = d; first = a; second = b; third = 0 }))) ≡ applied (Some D) (s ∷ t ∷ [])
  read_two a b s t x y = ap (spelled_by told) (read-word d a b 0 x.high y.high zero_small) ∙ (let l = x.low in let e = x.is in let m = y.low in let f = y.is in rw (l, e, m, f, named) refl)

  read_three : (a b c : ℕ) (s t u : TExpr) → Tells told a s → Tells told b t → Tells told c u → spelled_by told (node_read (node_word (record { definition = d; first = a; second = b; third = c }))) ≡ applied (Some D) (s ∷ t ∷ u ∷ [])
  read_three a b c s t u x y z = ap (spelled_by told) (read-word d a b c x.high y.high z.high) ∙ (let l = x.low in let e = x.is in let m = y.low in let f = y.is in let n = z.low in let g = z.is in rw (l, e, m, f, n, g, named) refl)

  module _ (trees : List NodeTree) (found : List ℕ) (are : AreSpelled told trees found) (count : length found ≡ length trees) where
    told_place : (p : ℕ) (t : TExpr) → IsPlaceOf trees p t → Tells told (node_for found p) t
    told_place p t h =
        let less : h.k < length found = let l : h.k < length trees = slice_get_within trees h.k (tree.Kind t) h.at in omega arith in
        let s : Spells told (slice_index found h.k) (tree.Kind t) = are h.k (tree.Kind t) less h.at in
        let e : node_for found p ≡ slice_index found h.k = ap (node_for found) h.is in
        record {
          low = (let low : 0 < slice_index found h.k = s.low in grind (arith, nat_tests));
          high = subst (λ n. n < node_count) (sym e) s.high;
          is = ap told e ∙ s.is;
        }

    -- with the numbers found for the places the word is read as the definition with the types
    pub read-places : (ps : List ℕ) (ts : List TExpr) → ArePlacesOf trees ps ts → length ts ≤ 3 → spelled_by told (node_read (word_for found (Some (step_with d ps)))) ≡ applied (Some D) ts
    read-places [] [] h few = read_none
    read-places [] (t ∷ ts) h few = absurd h
    read-places (p ∷ ps) [] h few = absurd h
    read-places (p ∷ []) (s ∷ []) h few = read_one (node_for found p) s (told_place p s h.0)
    read-places (p ∷ []) (s ∷ t ∷ ts) h few = absurd h.1
    read-places (p ∷ q ∷ ps) (s ∷ []) h few = absurd h.1
    read-places (p ∷ q ∷ []) (s ∷ t ∷ []) h few = read_two (node_for found p) (node_for found q) s t (told_place p s h.0) (told_place q t h.1.0)
    read-places (p ∷ q ∷ []) (s ∷ t ∷ u ∷ ts) h few = absurd h.1.1
    read-places (p ∷ q ∷ r ∷ ps) (s ∷ t ∷ []) h few = absurd h.1.1
    read-places (p ∷ q ∷ r ∷ []) (s ∷ t ∷ u ∷ []) h few = read_three (node_for found p) (node_for found q) (node_for found r) s t u (told_place p s h.0) (told_place q t h.1.0) (told_place r u h.1.1.0)
    read-places (p ∷ q ∷ r ∷ []) (s ∷ t ∷ u ∷ v ∷ ts) h few = absurd h.1.1.1
    read-places (p ∷ q ∷ r ∷ x ∷ ps) (s ∷ t ∷ u ∷ []) h few = absurd h.1.1.1
    read-places (p ∷ q ∷ r ∷ x ∷ ps) (s ∷ t ∷ u ∷ v ∷ ts) h few = absurd (omega arith)

-- ---- definitions

abbrev head_definition : Head → Definition
head_definition head.Int32 = def.Int32
head_definition head.Int64 = def.Int64
head_definition head.Bool = def.Bool
head_definition head.Vector = def.Vector
head_definition (head.Class number) = def.Class number

applied_head : (h : Head) (ts : List TExpr) → applied (Some (head_definition h)) ts ≡ tree.Kind (node h ts)
applied_head head.Int32 ts = refl
applied_head head.Int64 ts = refl
applied_head head.Bool ts = refl
applied_head head.Vector ts = refl
applied_head (head.Class number) ts = refl

class_named : (n : ℕ) → n < most_named_classes → definition_of (head_number (head.Class n)) ≡ Some (def.Class n)
class_named n low =
    let l : nat_lt n most_named_classes ≡ true = grind (arith, nat_tests) in
    let a : nat_lt (16 + n) 16 ≡ false = grind (arith, nat_tests) in
    let b : nat_lt (16 + n) 0x8000 ≡ true = grind (arith, nat_tests) in
    let e : 16 + n - 16 ≡ n = omega arith in
    ap definition_of (ap (λ (c : Bool). if c then 16 + n else 0) l) ∙ rw (a, b, e) refl

method_named : (n : ℕ) → n < 0x8000 → definition_of (method_number n) ≡ Some (def.Method n)
method_named n low =
    let l : nat_lt n 0x8000 ≡ true = grind (arith, nat_tests) in
    let a : nat_lt (0x8000 + n) 16 ≡ false = grind (arith, nat_tests) in
    let b : nat_lt (0x8000 + n) 0x8000 ≡ false = grind (arith, nat_tests) in
    let e : 0x8000 + n - 0x8000 ≡ n = omega arith in
    ap definition_of (ap (λ (c : Bool). if c then 0x8000 + n else 0) l) ∙ rw (a, b, e) refl

-- ---- types

record Fits3 (h : Head) (parts : List TExpr) : Type 0 where
  few : length parts ≤ 3
  named : definition_of (head_number h) ≡ Some (head_definition h)

module _ (program : Program) (nameable : IsNameable program) where
  class_fits : (number : ℕ) (parts : List TExpr) (c : Option ClassDef) → slice_get program.classes number ≡ c → has_count_in c parts ≡ true → Fits3 (head.Class number) parts
  class_fits number parts None is h = cc
  class_fits number parts (Some c) is h =
      let few : length c.vars ≤ 3 = nameable.class_vars number c is in
      let e : length parts ≡ length c.vars = eqb-true (length parts) (length c.vars) h in
      let low : number < length program.classes = slice_get_within program.classes number c is in
      let all : length program.classes ≤ 4096 = nameable.classes in
      record { few = omega arith; named = class_named number (omega arith) }

  head_fits : (h : Head) (parts : List TExpr) → has_count_top program (Node h parts) ≡ true → Fits3 h parts
  head_fits head.Int32 parts h = let e : length parts ≡ 0 = eqb-true (length parts) 0 h in record { few = omega arith; named = refl }
  head_fits head.Int64 parts h = let e : length parts ≡ 0 = eqb-true (length parts) 0 h in record { few = omega arith; named = refl }
  head_fits head.Bool parts h = let e : length parts ≡ 0 = eqb-true (length parts) 0 h in record { few = omega arith; named = refl }
  head_fits head.Vector parts h = let e : length parts ≡ 1 = eqb-true (length parts) 1 h in record { few = omega arith; named = refl }
  head_fits (head.Class number) parts h = class_fits number parts (slice_get program.classes number) refl h

  fits_of : (h : Head) (parts : List TExpr) → IsAdmittedType program (node h parts) → Fits3 h parts
  fits_of h parts admitted =
      head_fits h parts (ap (has_count_top program) (sym (top_of-tree_of (Node h parts))) ∙ (counts-node program h parts admitted.counts).0)

  -- the steps that are added are those of further trees, the last of which is the type
  pub record Adds (steps new : List NodeStep) (trees : List NodeTree) (t : TExpr) : Type 0 where
    pub more : List NodeTree
    pub plan : IsPlan program (steps ++ new) (trees ++ more)
    pub last : IsPlaceOf (trees ++ more) (length steps + length new) t

  pub record AddsAll (steps new : List NodeStep) (places : List ℕ) (trees : List NodeTree) (ts : List TExpr) : Type 0 where
    pub more : List NodeTree
    pub plan : IsPlan program (steps ++ new) (trees ++ more)
    pub all : ArePlacesOf (trees ++ more) places ts

  abbrev CanAdd : TExpr → Type 0
  CanAdd t = IsAdmittedType program t → (steps : List NodeStep) (trees : List NodeTree) → IsPlan program steps trees → Adds steps (type_steps t (length steps)) trees t

  add_none : (steps : List NodeStep) (trees : List NodeTree) → IsPlan program steps trees → AddsAll steps [] [] trees []
  add_none steps trees plan = record {
    more = [];
    plan = subst (λ s. IsPlan program s (trees ++ [])) (sym (append-nil steps)) (subst (IsPlan program steps) (sym (append-nil trees)) plan);
    all = tt;
  }

  add_each : (ts : List TExpr) → AllByRecursion CanAdd ts → AllByRecursion (IsAdmittedType program) ts → (steps : List NodeStep) (trees : List NodeTree) → IsPlan program steps trees
      → AddsAll steps (types_steps ts (length steps)) (types_places ts (length steps)) trees ts
  add_each [] can admitted steps trees plan = add_none steps trees plan
  add_each (t ∷ ts) can admitted steps trees plan =
      let new : List NodeStep = type_steps t (length steps) in
      let first : Adds steps new trees t = can.0 admitted.0 steps trees plan in
      let count : length (steps ++ new) ≡ length steps + length new = length-append steps new in
      let rest : AddsAll (steps ++ new) (types_steps ts (length (steps ++ new))) (types_places ts (length (steps ++ new))) (trees ++ first.more) ts = add_each ts can.1 admitted.1 (steps ++ new) (trees ++ first.more) first.plan in
      let at : AddsAll (steps ++ new) (types_steps ts (length steps + length new)) (types_places ts (length steps + length new)) (trees ++ first.more) ts =
      subst (λ n. AddsAll (steps ++ new) (types_steps ts n) (types_places ts n) (trees ++ first.more) ts) count rest in
      let e : (trees ++ first.more) ++ at.more ≡ trees ++ (first.more ++ at.more) = append_assoc trees first.more at.more in
      let s : (steps ++ new) ++ types_steps ts (length steps + length new) ≡ steps ++ (new ++ types_steps ts (length steps + length new)) = append_assoc steps new (types_steps ts (length steps + length new)) in
      record {
        more = first.more ++ at.more;
        plan = subst (λ x. IsPlan program x (trees ++ (first.more ++ at.more))) s (subst (IsPlan program ((steps ++ new) ++ types_steps ts (length steps + length new))) e at.plan);
        all = (
          subst (λ x. IsPlaceOf x (length steps + length new) t) e (place_more (trees ++ first.more) at.more (length steps + length new) t first.last),
          subst (λ x. ArePlacesOf x (types_places ts (length steps + length new)) ts) e at.all,
        );
      }

  -- behind the steps of the arguments stands that of the whole
  pub add-own : (d : ℕ) (D : Definition) (u : NodeTree) (ts : List TExpr) → definition_of d ≡ Some D → applied (Some D) ts ≡ u → MayStand program 0 u → length ts ≤ 3
      → (steps new : List NodeStep) (places : List ℕ) (trees : List NodeTree) (h : AddsAll steps new places trees ts) → IsPlan program (steps ++ (new ++ step_with d places ∷ [])) (trees ++ (h.more ++ u ∷ []))
  add-own d D u ts named is stands few steps new places trees h =
      let all : List NodeTree = trees ++ h.more in
      let a : (steps ++ new) ++ step_with d places ∷ [] ≡ steps ++ (new ++ step_with d places ∷ []) = append_assoc steps new (step_with d places ∷ []) in
      let b : all ++ u ∷ [] ≡ trees ++ (h.more ++ u ∷ []) = append_assoc trees h.more (u ∷ []) in
      let step : IsStep program (all ++ u ∷ []) (length (steps ++ new)) (step_with d places) u = record {
        stands = stands;
        spells = λ told found count are.
            read-places told d D named all found (fewer told all (u ∷ []) found are) (count ∙ sym h.plan.count) places ts h.all few ∙ is;
      } in
      subst (λ x. IsPlan program x (trees ++ (h.more ++ u ∷ []))) a (subst (IsPlan program ((steps ++ new) ++ step_with d places ∷ [])) b (plan-more program (steps ++ new) all (step_with d places) u h.plan step))

  last_place : (steps new : List NodeStep) (s : NodeStep) (trees more : List NodeTree) (t : TExpr) → length (trees ++ more) ≡ length (steps ++ new)
      → IsPlaceOf (trees ++ (more ++ tree.Kind t ∷ [])) (length steps + length (new ++ s ∷ [])) t
  last_place steps new s trees more t count =
      let a : (trees ++ more) ++ tree.Kind t ∷ [] ≡ trees ++ (more ++ tree.Kind t ∷ []) = append_assoc trees more (tree.Kind t ∷ []) in
      let b : length (steps ++ new) ≡ length steps + length new = length-append steps new in
      let c : length (new ++ s ∷ []) ≡ length new + 1 = length-append new (s ∷ []) in
      record {
        k = length (trees ++ more);
        is = omega arith;
        at = ap (λ x. slice_get x (length (trees ++ more))) (sym a) ∙ get_last (trees ++ more) (tree.Kind t);
      }

  add_node : (h : Head) (parts : List TExpr) → AllByRecursion CanAdd parts → CanAdd (node h parts)
  add_node h parts can admitted steps trees plan =
      let n : ℕ = length steps in
      let fits : Fits3 h parts = fits_of h parts admitted in
      let all : AddsAll steps (types_steps parts n) (types_places parts n) trees parts = add_each parts can (parts-admitted program h parts admitted) steps trees plan in
      let made : type_steps (node h parts) n ≡ types_steps parts n ++ step_with (head_number h) (types_places parts n) ∷ [] = ap (λ (f : ℕ → List NodeStep). f n) (folded-node level_steps h parts) in
      subst (λ s. Adds steps s trees (node h parts)) (sym made)
      (record {
        more = all.more ++ tree.Kind (node h parts) ∷ [];
        plan = add-own (head_number h) (head_definition h) (tree.Kind (node h parts)) parts fits.named (applied_head h parts) admitted fits.few steps (types_steps parts n) (types_places parts n) trees all;
        last = last_place steps (types_steps parts n) (step_with (head_number h) (types_places parts n)) trees all.more (node h parts) all.plan.count;
      })

  no_class_var : (n : ℕ) → CanAdd (class_var n)
  no_class_var n admitted steps trees plan = let l : n < 0 = below_class_var 0 0 n admitted.closed in absurd (omega arith)

  no_method_var : (n : ℕ) → CanAdd (method_var n)
  no_method_var n admitted steps trees plan = let l : n < 0 = below_method_var 0 0 n admitted.closed in absurd (omega arith)

  -- the steps of an admitted type
  pub add-type : (t : TExpr) → CanAdd t
  add-type = holds_of_trees CanAdd add_node no_class_var no_method_var

  all_can : (ts : List TExpr) → AllByRecursion CanAdd ts
  all_can [] = tt
  all_can (t ∷ ts) = (add-type t, all_can ts)

  -- the steps of admitted types in order
  pub add-types : (ts : List TExpr) → AllByRecursion (IsAdmittedType program) ts → (steps : List NodeStep) (trees : List NodeTree) → IsPlan program steps trees
      → AddsAll steps (types_steps ts (length steps)) (types_places ts (length steps)) trees ts
  add-types ts admitted steps trees plan = add_each ts (all_can ts) admitted steps trees plan

  pub no-plan : IsPlan program [] []
  no-plan = record { count = refl; each = λ k s t s_is t_is. no_step k s s_is }
    where
      no_step : {P : Type 0} (k : ℕ) (s : NodeStep) → slice_get [] k ≡ Some s → P
      no_step k s is = cc

  -- a plan whose last tree this is
  pub record Ends (steps : List NodeStep) (u : NodeTree) : Type 0 where
    pub trees : List NodeTree
    pub plan : IsPlan program steps trees
    pub k : ℕ
    pub count : length steps ≡ suc k
    pub last : slice_get trees k ≡ Some u

  pub type-plan : (t : TExpr) → IsAdmittedType program t → Ends (type_steps t 0) (tree.Kind t)
  type-plan t admitted =
      let a : Adds [] (type_steps t 0) [] t = add-type t admitted [] [] no-plan in
      record { trees = a.more; plan = a.plan; k = a.last.k; count = (let e : 0 + length (type_steps t 0) ≡ suc a.last.k = a.last.is in omega arith); last = a.last.at }

  pub method-plan : (m : MethodTree) → IsAdmittedMethod program m → Ends (method_steps m) (tree.Method m)
  method-plan m admitted =
      let ts : List TExpr = m.class ∷ m.args in
      let all : AddsAll [] (types_steps ts 0) (types_places ts 0) [] ts = add-types ts (admitted.class, recursion_from_All (IsAdmittedType program) m.args admitted.args) [] [] no-plan in
      let vars : length admitted.method.vars ≤ 2 = nameable.method_vars m.method admitted.method admitted.is in
      let low : m.method < length program.methods = slice_get_within program.methods m.method admitted.method admitted.is in
      let most : length program.methods ≤ 16384 = nameable.methods in
      let args : length m.args ≡ length admitted.method.vars = admitted.count in
      let count : length (types_steps ts 0 ++ step_with (method_number m.method) (types_places ts 0) ∷ []) ≡ length (types_steps ts 0) + 1 = length-append (types_steps ts 0) (step_with (method_number m.method) (types_places ts 0) ∷ []) in
      record {
        trees = all.more ++ tree.Method m ∷ [];
        plan = add-own (method_number m.method) (def.Method m.method) (tree.Method m) ts (method_named m.method (omega arith)) refl admitted (omega arith) [] (types_steps ts 0) (types_places ts 0) [] all;
        k = length all.more;
        count = (let e : length all.more ≡ length (types_steps ts 0) = all.plan.count in omega arith);
        last = get_last all.more (tree.Method m);
      }
