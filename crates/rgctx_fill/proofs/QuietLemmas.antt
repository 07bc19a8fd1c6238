-- Types whose closure has no type that passes a limit: scalars, and classes without fields and interfaces whose bases are such classes.
use Rattle.std.proofs.Common.{◌≡◌, ℕ, zero, suc, ◌*◌, Bool, true, false, ◌&&◌, ◌||◌, List, [], ◌∷◌, ◌++◌, map, flat_map, filter, Option, Some, None, if◌then◌else◌, refl, sym, ap, ◌∙◌, subst}
use Rattle.std.specs.Prelude.{nat_lt, slice_get, option_map, option_and_then, option_to_list, is_none}
use Rattle.std.specs.List.{list_any, list_all, AllByRecursion}
use Rattle.std.proofs.lemmas.List.Folds.{list_any-append}
use Rattle.std.proofs.lemmas.List.Elements.{All-nil}
use Rattle.type_tree.specs.declared.tree.TExpr.{TExpr}
use Rattle.type_tree.specs.declared.tree.Head.{Head}
use Rattle.type_tree.specs.declared.tree.Head.TheVariants as head
use Rattle.type_tree.specs.declared.tree.TNode.TheVariants.{Node}
use Rattle.type_tree.specs.Tree.{node, HasVariablesBelow, IsClosed}
use Rattle.type_tree.specs.Positions.{level_positions, positions_of}
use Rattle.type_tree.specs.Substitution.{level_substituted, substituted}
use Rattle.type_tree.proofs.TreeLemmas.{top_of-tree_of, folded-node}
use Rattle.type_tree.proofs.VariablesLemmas.{below_node}
use Rattle.il_model.specs.declared.class.ClassDef.{ClassDef}
use Rattle.il_model.specs.declared.class.FieldDef.{FieldDef}
use Rattle.il_model.specs.declared.layout.Limit.TheVariants as limit
use Rattle.il_model.specs.declared.program.Program.{Program}
use Rattle.il_model.specs.Find.{class_in_top, class_of}
use Rattle.il_model.specs.Kinds.{is_struct_kind, is_struct_class, is_value_top, is_value}
use Rattle.il_model.specs.Library.{plain}
use Rattle.il_model.specs.Entries.{arguments_at, arguments_of}
use Rattle.il_model.specs.Trees.{trees_within, trees_in}
use Rattle.il_model.specs.Bases.{with_args_of}
use Rattle.il_model.specs.Interfaces.{interfaces_in}
use Rattle.il_model.specs.Layouts.{fields_in, kinds_at, parts_if, instance_kinds_of, parts_of, words_in, words_within, most_trees, words_of}
use Rattle.il_model.specs.Admission.{most_positions, most_words, has_count, has_count_top, steps_of, closure_within, closure_of, limited_trees_of, is_large, is_wide, limit_of}
use Rattle.il_model.specs.ClassRules.{has_counts}
use Rattle.rgctx_template.specs.Admitted.{is_admitted}
use Rattle.rgctx_fill.specs.Nodes.{IsAdmittedType}

-- ---- types without arguments

pub head_alone : Head → TExpr
head_alone h = node h []

pub alone-positions : (h : Head) → positions_of (node h []) ≡ 1
alone-positions h = folded-node level_positions h []

pub alone-arguments : (h : Head) → arguments_of (node h []) ≡ []
alone-arguments h = ap arguments_at (top_of-tree_of (Node h []))

alone_within : (n : ℕ) (h : Head) → n ≡ 1 → trees_within n (node h []) ≡ node h [] ∷ []
alone_within n h e =
    ap (λ k. trees_within k (node h [])) e
    ∙ ap (λ parts. node h [] ∷ flat_map (λ part. trees_within 0 part) parts) (alone-arguments h)

pub alone-trees : (h : Head) → trees_in (node h []) ≡ node h [] ∷ []
alone-trees h = alone_within (positions_of (node h [])) h (alone-positions h)

pub alone-closed : (h : Head) → IsClosed (node h [])
alone-closed h = below_node 0 0 h [] (All-nil (HasVariablesBelow 0 0))

pub alone-substituted : (h : Head) (class_args method_args : List TExpr) → substituted class_args method_args (node h []) ≡ node h []
alone-substituted h class_args method_args = folded-node (level_substituted class_args method_args) h []

-- ---- quiet types

module _ (program : Program) where
  pub class-of_plain : (number : ℕ) (c : ClassDef) → slice_get program.classes number ≡ Some c → class_of program (plain number) ≡ Some c
  class-of_plain number c is = ap (λ top. option_and_then (λ n. slice_get program.classes n) (class_in_top top)) (top_of-tree_of (Node (head.Class number) [])) ∙ is

  -- a scalar, or a class without fields and interfaces that is no struct, and whose base, if it has one, is such a class
  pub data IsQuiet : Head → Type 0 where
    int32 : IsQuiet head.Int32
    int64 : IsQuiet head.Int64
    bool : IsQuiet head.Bool
    root : (number : ℕ) (c : ClassDef) → slice_get program.classes number ≡ Some c → is_struct_kind c.kind ≡ false → c.interfaces ≡ [] → c.fields ≡ [] → c.base ≡ None → IsQuiet (head.Class number)
    derived : (number base : ℕ) (c : ClassDef) → slice_get program.classes number ≡ Some c → is_struct_kind c.kind ≡ false → c.interfaces ≡ [] → c.fields ≡ [] → c.base ≡ Some (plain base) → IsQuiet (head.Class base) → IsQuiet (head.Class number)

  abbrev IsQuietType : TExpr → Type 0
  IsQuietType t = (h : Head) × IsQuiet h × (t ≡ node h [])

  steps_in : TExpr → Option ClassDef → List TExpr
  steps_in t c =
      filter (has_count program)
      (option_to_list (option_and_then (λ d. option_map (with_args_of t) d.base) c) ++ (map (with_args_of t) (interfaces_in c) ++ filter (is_value program) (kinds_at t (fields_in c))))

  steps_are : (t : TExpr) → steps_of program t ≡ steps_in t (class_of program t)
  unfolding steps_in
  steps_are t = refl

  no_class : (h : Head) → class_in_top (Node h []) ≡ None → class_of program (node h []) ≡ None
  no_class h e = ap (λ top. option_and_then (λ n. slice_get program.classes n) (class_in_top top)) (top_of-tree_of (Node h [])) ∙ ap (option_and_then (λ n. slice_get program.classes n)) e

  no_steps : (t : TExpr) → class_of program t ≡ None → steps_of program t ≡ []
  unfolding steps_in
  no_steps t e = steps_are t ∙ ap (steps_in t) e

  steps_of_class : (t : TExpr) (c : ClassDef) (base : Option TExpr) → class_of program t ≡ Some c → c.interfaces ≡ [] → c.fields ≡ [] → c.base ≡ base → steps_of program t ≡ filter (has_count program) (option_to_list (option_map (with_args_of t) base) ++ [])
  unfolding steps_in
  steps_of_class t c base is interfaces fields b =
      steps_are t ∙ ap (steps_in t) is
      ∙ ap (λ (fs : List FieldDef). filter (has_count program) (option_to_list (option_map (with_args_of t) c.base) ++ (map (with_args_of t) c.interfaces ++ filter (is_value program) (kinds_at t fs)))) fields
      ∙ ap (λ is. filter (has_count program) (option_to_list (option_map (with_args_of t) c.base) ++ (map (with_args_of t) is ++ []))) interfaces
      ∙ ap (λ o. filter (has_count program) (option_to_list (option_map (with_args_of t) o) ++ [])) b

  filtered : (test : TExpr → Bool) (t : TExpr) → IsQuietType t → AllByRecursion IsQuietType (filter test (t ∷ []))
  filtered test t q = filtered_by (test t) q
    where
      filtered_by : (b : Bool) → IsQuietType t → AllByRecursion IsQuietType (if b then t ∷ [] else [])
      filtered_by true k = (k, tt)
      filtered_by false k = tt

  steps_quiet : (h : Head) → IsQuiet h → AllByRecursion IsQuietType (steps_of program (node h []))
  steps_quiet _ int32 = subst (AllByRecursion IsQuietType) (sym (no_steps (node head.Int32 []) (no_class head.Int32 refl))) tt
  steps_quiet _ int64 = subst (AllByRecursion IsQuietType) (sym (no_steps (node head.Int64 []) (no_class head.Int64 refl))) tt
  steps_quiet _ bool = subst (AllByRecursion IsQuietType) (sym (no_steps (node head.Bool []) (no_class head.Bool refl))) tt
  steps_quiet _ (root number c is kind interfaces fields base) =
      subst (AllByRecursion IsQuietType) (sym (steps_of_class (plain number) c None (class-of_plain number c is) interfaces fields base)) tt
  steps_quiet _ (derived number b c is kind interfaces fields base q) =
      subst (AllByRecursion IsQuietType) (sym (steps_of_class (plain number) c (Some (plain b)) (class-of_plain number c is) interfaces fields base))
      (filtered (has_count program) (with_args_of (plain number) (plain b)) (head.Class b, q, alone-substituted (head.Class b) (arguments_of (plain number)) []))

  -- ---- no type in their closures passes a test that none of them passes

  module _ (test : TExpr → Bool) (none : (h : Head) → IsQuiet h → test (node h []) ≡ false) where
    both_false : (a b : Bool) → a ≡ false → b ≡ false → (a || b) ≡ false
    both_false a b x y = ap (λ p. p || b) x ∙ y

    none_of : (n : ℕ) → ((t : TExpr) → IsQuietType t → list_any test (closure_within program n t) ≡ false) → (ts : List TExpr) → AllByRecursion IsQuietType ts → list_any test (flat_map (closure_within program n) ts) ≡ false
    none_of n each [] all = refl
    none_of n each (t ∷ ts) all =
        list_any-append test (closure_within program n t) (flat_map (closure_within program n) ts)
        ∙ both_false (list_any test (closure_within program n t)) (list_any test (flat_map (closure_within program n) ts)) (each t all.0) (none_of n each ts all.1)

    quiet_type : (t : TExpr) → IsQuietType t → test t ≡ false
    quiet_type t q = ap test q.2 ∙ none q.0 q.1

    none_within : (n : ℕ) (t : TExpr) → IsQuietType t → list_any test (closure_within program n t) ≡ false
    none_within zero t q = both_false (test t) false (quiet_type t q) refl
    none_within (suc n) t q =
        both_false (test t) (list_any test (flat_map (closure_within program n) (steps_of program t))) (quiet_type t q)
        (none_of n (none_within n) (steps_of program t) (subst (λ x. AllByRecursion IsQuietType (steps_of program x)) (sym q.2) (steps_quiet q.0 q.1)))

    limited_none : (h : Head) → IsQuiet h → list_any test (limited_trees_of program (node h [])) ≡ false
    limited_none h q =
        ap (λ ts. list_any test (flat_map (closure_of program) ts)) (alone-trees h)
        ∙ list_any-append test (closure_of program (node h [])) []
        ∙ both_false (list_any test (closure_of program (node h []))) false (none_within (most_trees * positions_of (node h [])) (node h []) (h, q, refl)) refl

  -- ---- they pass no limit

  small : (h : Head) → IsQuiet h → is_large (node h []) ≡ false
  small h q = ap (λ n. nat_lt most_positions n) (alone-positions h)

  one_word : (levels : ℕ) (t : TExpr) → parts_of program t ≡ None → words_within program levels t ≡ 1
  one_word zero t e = refl
  one_word (suc levels) t e = ap (words_in (λ part. words_within program levels part)) e

  no_parts : (t : TExpr) → class_of program t ≡ None → parts_of program t ≡ None
  no_parts t e = ap (λ c. parts_if (is_struct_class c) (instance_kinds_of program t)) e

  narrow_scalar : (h : Head) → class_in_top (Node h []) ≡ None → is_wide program (node h []) ≡ false
  narrow_scalar h e = narrow (is_value program (node h [])) (words_of program (node h [])) (one_word (most_trees * positions_of (node h [])) (node h []) (no_parts (node h []) (no_class h e)))
    where
      narrow : (b : Bool) (n : ℕ) → n ≡ 1 → (b && nat_lt most_words n) ≡ false
      narrow true n d = ap (nat_lt most_words) d
      narrow false n d = refl

  narrow_class : (number : ℕ) (c : ClassDef) → slice_get program.classes number ≡ Some c → is_struct_kind c.kind ≡ false → is_wide program (plain number) ≡ false
  narrow_class number c is kind =
      ap (λ b. b && nat_lt most_words (words_of program (plain number)))
      (ap (is_value_top program (plain number)) (top_of-tree_of (Node (head.Class number) [])) ∙ ap is_struct_class (class-of_plain number c is) ∙ kind)

  narrow : (h : Head) → IsQuiet h → is_wide program (node h []) ≡ false
  narrow _ int32 = narrow_scalar head.Int32 refl
  narrow _ int64 = narrow_scalar head.Int64 refl
  narrow _ bool = narrow_scalar head.Bool refl
  narrow _ (root number c is kind interfaces fields base) = narrow_class number c is kind
  narrow _ (derived number b c is kind interfaces fields base q) = narrow_class number c is kind

  pub quiet-limit : (h : Head) → IsQuiet h → limit_of program (node h []) ≡ None
  quiet-limit h q =
      ap (λ b. if b then Some limit.Positions else (if list_any (is_wide program) (limited_trees_of program (node h [])) then Some limit.ValueWords else None)) (limited_none is_large small h q)
      ∙ ap (λ b. if b then Some limit.ValueWords else None) (limited_none (is_wide program) narrow h q)

  pub quiet-admitted : (h : Head) → IsQuiet h → is_admitted program (node h []) ≡ true
  quiet-admitted h q = ap is_none (quiet-limit h q)

  count_of : (h : Head) → has_count_top program (Node h []) ≡ true → has_counts program (node h []) ≡ true
  count_of h e =
      ap (list_all (has_count program)) (alone-trees h)
      ∙ ap (λ b. b && true) (ap (has_count_top program) (top_of-tree_of (Node h [])) ∙ e)

  -- a type without arguments that passes no limit, whose head wants none
  pub alone-admitted : (h : Head) → has_count_top program (Node h []) ≡ true → is_admitted program (node h []) ≡ true → IsAdmittedType program (node h [])
  alone-admitted h count admitted = record { closed = alone-closed h; counts = count_of h count; admitted = admitted }
