-- What lies in the closure of a class lies in few trees, none too large; and a struct's value fields lie in it.
use Rattle.std.proofs.Common.{◌≡◌, ℕ, zero, suc, ◌+◌, ◌*◌, ◌<◌, ◌≤◌, Bool, true, false, cond, ◌&&◌, ◌||◌, inl, inr, List, [], ◌∷◌, ◌++◌, length, map, flat_map, filter, nat_lt, sum_by, get_or, slice_get, unwrap_or, Option, Some, None, option_and_then, option_to_list, refl, sym, ap, ◌∙◌, subst, arith}
use Rattle.std.specs.List.{list_any, list_all, AllByRecursion}
use Rattle.std.proofs.lemmas.Bool.{ltb-true, ltb-false, lt-ltb}
use Rattle.std.proofs.lemmas.Option.{slice_get_within, get_or_from_slice_get}
use Rattle.std.proofs.lemmas.List.Sums.{sum_by-cons}
use Rattle.type_tree.specs.declared.tree.Head.{Head}
use Rattle.type_tree.specs.declared.tree.Head.TheVariants as head
use Rattle.type_tree.specs.declared.tree.TExpr.{TExpr}
use Rattle.type_tree.specs.declared.tree.TNode.{TNode}
use Rattle.type_tree.specs.declared.tree.TNode.TheVariants.{Node, ClassVar, MethodVar}
use Rattle.type_tree.specs.Tree.{top_of, node, class_var, method_var}
use Rattle.type_tree.specs.Positions.{positions_of}
use Rattle.type_tree.specs.Same.{is_same}
use Rattle.type_tree.specs.Substitution.{substituted}
use Rattle.type_tree.proofs.TreeLemmas.{top_of-tree_of, holds_of_trees}
use Rattle.type_tree.proofs.PositionsLemmas.{positions_of-node, positions_of-class_var}
use Rattle.type_tree.proofs.SubstitutionLemmas.{substituted-node, substituted-class_var, substituted-method_var}
use Rattle.il_model.specs.declared.class.ClassDef.{ClassDef}
use Rattle.il_model.specs.declared.class.FieldDef.{FieldDef}
use Rattle.il_model.specs.declared.program.Program.{Program}
use Rattle.il_model.specs.LookUp.{numbers_from}
use Rattle.il_model.specs.Find.{class_in_top, class_number_of, class_of}
use Rattle.il_model.specs.Kinds.{is_struct_class, is_value_top, is_value}
use Rattle.il_model.specs.Entries.{arguments_at, arguments_of}
use Rattle.il_model.specs.Trees.{is_among, without_repeats, trees_in}
use Rattle.il_model.specs.Bases.{with_args_of, own_of_class, own_of, base_of}
use Rattle.il_model.specs.Interfaces.{own_interfaces_of}
use Rattle.il_model.specs.Layouts.{fields_in, kinds_at, most_trees}
use Rattle.il_model.specs.Admission.{has_count, value_fields_of, steps_of, closure_within, closure_of, is_large}
use Rattle.il_model.specs.ClassRules.{HasHierarchy, bounds_written, kinds_written, types_written, has_counts}
use Rattle.type_inst.proofs.ListLemmas.{Has, has_left, has_right, has_flat, from_flat, has_of_among, among_of_has, each_passes, first_of_two, joined_has, joined_split}
use Rattle.type_inst.proofs.ClosureLemmas.{any_of_has, has_of_any, reached_itself, reached_inside}
use Rattle.type_inst.proofs.LimitedLemmas.{closure_large}
use Rattle.cil_verify.specs.Closures.{closures_of, HasClosures, AreTooMuch}
use Rattle.cil_verify.specs.Hierarchies.{FitsClosure, IsShortStruct}
use Rattle.cil_verify.proofs.OnceLemmas.{once_without, fits_in}
use Rattle.cil_verify.proofs.TreesLemmas.{all_opened}

module _ (program : Program) (roots all : List TExpr) (c : HasClosures program roots all) where
  in_closures : (x : TExpr) → Has all x → Has (closures_of program roots) x
  in_closures x h = has_of_among (closures_of program roots) x (sym (c.alike (λ each. is_same each x)) ∙ among_of_has all x h)

  in_all : (x : TExpr) → Has (closures_of program roots) x → Has all x
  in_all x h = has_of_among all x (c.alike (λ each. is_same each x) ∙ among_of_has (closures_of program roots) x h)

  pub steps_inside : (y : TExpr) → Has all y → (x : TExpr) → Has (steps_of program y) x → Has all x
  steps_inside y h x g =
      has_of_among all x (each_passes (is_among all) (steps_of program y) (each_passes (λ y. list_all (is_among all) (steps_of program y)) all c.whole y h) x g)

  pub root_inside : (x : TExpr) → Has roots x → Has all x
  root_inside x h = in_all x (has_flat (closure_of program) roots x x h (reached_itself program (most_trees * positions_of x) x))

  -- the closures of the steps from a type in the list stay in it
  inner : (t : TExpr) → Has all t → (x : TExpr) → Has (closures_of program (steps_of program t)) x → Has all x
  inner t h x g =
      from_flat (closure_of program) (Has all x) (steps_of program t) x g
      (λ r is in_r. reached_inside program all steps_inside (most_trees * positions_of r) r x (steps_inside t h r is) in_r)

  -- so they are few, and none is too large
  pub inner_fits : (t : TExpr) → Has all t → ¬ (AreTooMuch program (steps_of program t))
  inner_fits t h much =
      elim much [
        | inl large ↦ has_of_any is_large ⊥ (closures_of program (steps_of program t)) large
            (λ x g is. let yes : list_any is_large (closures_of program roots) ≡ true = any_of_has is_large (closures_of program roots) x (in_closures x (inner t h x g)) is in
            let no : list_any is_large (closures_of program roots) ≡ false = c.small in cc)
        | inr many ↦
            let fits : length (without_repeats (closures_of program (steps_of program t))) ≤ length (without_repeats (closures_of program roots)) =
            fits_in (without_repeats (closures_of program (steps_of program t))) (without_repeats (closures_of program roots)) (once_without (closures_of program (steps_of program t)))
            (λ x g. joined_has [] (closures_of program roots) x (in_closures x (inner t h x (new_of (closures_of program (steps_of program t)) x g)))) in
            absurd (omega (arith, fits, many, c.few))
      ]
    where
      new_of : (xs : List TExpr) (x : TExpr) → Has (without_repeats xs) x → Has xs x
      new_of xs x g = elim (joined_split [] xs x g) [ inl none ↦ absurd none | inr r ↦ r ]

-- ---- the fields of a class applied to its own variables

map_same : (f : TExpr → TExpr) (ts : List TExpr) → AllByRecursion (λ t. f t ≡ t) ts → map f ts ≡ ts
map_same f [] each = refl
map_same f (t ∷ ts) each = ap (λ u. u ∷ map f ts) each.0 ∙ ap (λ us. t ∷ us) (map_same f ts each.1)

module _ {A : Type 0} where
  var_at : (m : ℕ) (xs : List A) (n : ℕ) → unwrap_or (slice_get (map class_var (numbers_from m xs)) n) (class_var (m + n)) ≡ class_var (m + n)
  var_at m [] n = refl
  var_at m (x ∷ xs) zero = let same : m ≡ m + 0 = omega arith in ap class_var same
  var_at m (x ∷ xs) (suc n) =
      let same : (m + 1) + n ≡ m + suc n = omega arith in
      subst (λ (k : ℕ). unwrap_or (slice_get (map class_var (numbers_from (m + 1) xs)) n) (class_var k) ≡ class_var k) same (var_at (m + 1) xs n)

  -- a type over the variables of a class is itself once these are put for them
  pub put_same : (vars : List A) (t : TExpr) → substituted (map class_var (numbers_from 0 vars)) [] t ≡ t
  put_same vars =
      holds_of_trees (λ t. substituted (map class_var (numbers_from 0 vars)) [] t ≡ t)
      (λ head parts each. substituted-node (map class_var (numbers_from 0 vars)) [] head parts
      ∙ ap (node head) (map_same (substituted (map class_var (numbers_from 0 vars)) []) parts each))
      (λ n. let same : 0 + n ≡ n = omega arith in
      substituted-class_var (map class_var (numbers_from 0 vars)) [] n
      ∙ subst (λ (k : ℕ). unwrap_or (slice_get (map class_var (numbers_from 0 vars)) n) (class_var k) ≡ class_var k) same (var_at 0 vars n))
      (λ n. substituted-method_var (map class_var (numbers_from 0 vars)) [] n)

clash : (b : Bool) → b ≡ true → b ≡ false → ⊥
clash b holds fails = let both : true ≡ false = sym holds ∙ fails in cc

filter_step : (test : TExpr → Bool) (y : TExpr) (xs : List TExpr) (x : TExpr) (b : Bool) → test y ≡ b → Has (y ∷ xs) x → test x ≡ true →
    (Has xs x → Has (filter test xs) x) → Has (cond b (y ∷ filter test xs) (filter test xs)) x
filter_step test y xs x true is h e go = elim h [ inl same ↦ inl same | inr r ↦ inr (go r) ]
filter_step test y xs x false is h e go = elim h [ inl same ↦ absurd (clash (test x) e (ap test (sym same) ∙ is)) | inr r ↦ go r ]

has_filter : (test : TExpr → Bool) (xs : List TExpr) (x : TExpr) → Has xs x → test x ≡ true → Has (filter test xs) x
has_filter test [] x h e = absurd h
has_filter test (y ∷ xs) x h e = filter_step test y xs x (test y) refl h e (λ r. has_filter test xs x r e)

value_of_struct : (program : Program) (t : TExpr) (top : TNode TExpr) → top_of t ≡ top → is_struct_class (class_of program t) ≡ true → is_value_top program t top ≡ true
value_of_struct program t (Node head.Int32 parts) is e = refl
value_of_struct program t (Node head.Int64 parts) is e = refl
value_of_struct program t (Node head.Bool parts) is e = refl
value_of_struct program t (Node head.Vector parts) is e =
    let none : class_of program t ≡ None = ap (λ (o : TNode TExpr). option_and_then (λ number. slice_get program.classes number) (class_in_top o)) is in
    let no : is_struct_class (class_of program t) ≡ false = ap is_struct_class none in cc
value_of_struct program t (Node (head.Class number) parts) is e = e
value_of_struct program t (ClassVar n) is e =
    let none : class_of program t ≡ None = ap (λ (o : TNode TExpr). option_and_then (λ number. slice_get program.classes number) (class_in_top o)) is in
    let no : is_struct_class (class_of program t) ≡ false = ap is_struct_class none in cc
value_of_struct program t (MethodVar n) is e =
    let none : class_of program t ≡ None = ap (λ (o : TNode TExpr). option_and_then (λ number. slice_get program.classes number) (class_in_top o)) is in
    let no : is_struct_class (class_of program t) ≡ false = ap is_struct_class none in cc

module _ {A : Type 0} (g : A → TExpr) where
  pub has_map_at : (xs : List A) (i : ℕ) (x : A) → i < length xs → x ≡ get_or xs i x → Has (map g xs) (g x)
  has_map_at [] i x inside is = absurd (omega (arith, inside))
  has_map_at (y ∷ xs) zero x inside is = inl (ap g (sym is))
  has_map_at (y ∷ xs) (suc i) x inside is = inr (has_map_at xs i x (omega (arith, inside)) is)

module _ (program : Program) (number : ℕ) (c : ClassDef) (at : slice_get program.classes number ≡ Some c) where
  own_is : own_of program number ≡ node (head.Class number) (map class_var (numbers_from 0 c.vars))
  own_is = ap (own_of_class number) at

  own_top : top_of (own_of program number) ≡ Node (head.Class number) (map class_var (numbers_from 0 c.vars))
  own_top = ap top_of own_is ∙ top_of-tree_of (Node (head.Class number) (map class_var (numbers_from 0 c.vars)))

  pub own_class : class_of program (own_of program number) ≡ Some c
  own_class = ap (λ (o : TNode TExpr). option_and_then (λ k. slice_get program.classes k) (class_in_top o)) own_top ∙ at

  own_same : (t : TExpr) → with_args_of (own_of program number) t ≡ t
  own_same t = ap (λ (o : TNode TExpr). substituted (arguments_at o) [] t) own_top ∙ put_same c.vars t

  module _ (h : HasHierarchy program number c) (f : FieldDef) (i : ℕ) (inside : i < length c.fields) (is : f ≡ get_or c.fields i f) where
    written : Has (types_written c) f.kind
    written =
        has_right (option_to_list c.base) (c.interfaces ++ (bounds_written c.vars ++ kinds_written c)) f.kind
        (has_right c.interfaces (bounds_written c.vars ++ kinds_written c) f.kind
        (has_right (bounds_written c.vars) (kinds_written c) f.kind (has_map_at (λ (d : FieldDef). d.kind) c.fields i f inside is)))

    counted : has_count program f.kind ≡ true
    counted =
        let all : has_counts program f.kind ≡ true = each_passes (has_counts program) (types_written c) h.counts f.kind written in
        first_of_two (has_count program f.kind) (list_all (λ part. list_all (has_count program) (trees_in part)) (arguments_of f.kind))
        (sym (all_opened (has_count program) f.kind (top_of f.kind) refl) ∙ all)

    kind_at : Has (kinds_at (own_of program number) (fields_in (class_of program (own_of program number)))) f.kind
    kind_at =
        subst (λ (o : Option ClassDef). Has (kinds_at (own_of program number) (fields_in o)) f.kind) (sym own_class)
        (subst (Has (kinds_at (own_of program number) c.fields)) (own_same f.kind)
        (has_map_at (λ (d : FieldDef). with_args_of (own_of program number) d.kind) c.fields i f inside is))

    -- the type of a field that is a struct is one step away
    pub field_is_step : is_struct_class (class_of program f.kind) ≡ true → Has (steps_of program (own_of program number)) f.kind
    field_is_step struct =
        has_filter (has_count program) (option_to_list (base_of program (own_of program number)) ++ (own_interfaces_of program (own_of program number) ++ value_fields_of program (own_of program number))) f.kind
        (has_right (option_to_list (base_of program (own_of program number))) (own_interfaces_of program (own_of program number) ++ value_fields_of program (own_of program number)) f.kind
        (has_right (own_interfaces_of program (own_of program number)) (value_fields_of program (own_of program number)) f.kind
        (has_filter (is_value program) (kinds_at (own_of program number) (fields_in (class_of program (own_of program number)))) f.kind kind_at
        (value_of_struct program f.kind (top_of f.kind) refl struct))))
        counted

-- ---- few variables

ones : {A : Type 0} (n : ℕ) (xs : List A) → sum_by positions_of (map class_var (numbers_from n xs)) ≡ length xs
ones n [] = refl
ones n (x ∷ xs) = omega (arith, sum_by-cons positions_of (class_var n) (map class_var (numbers_from (n + 1) xs)), positions_of-class_var n, ones (n + 1) xs)

module _ (program : Program) (number : ℕ) (c : ClassDef) (at : slice_get program.classes number ≡ Some c) where
  own_count : positions_of (own_of program number) ≡ suc (length c.vars)
  own_count =
      let own : own_of program number ≡ node (head.Class number) (map class_var (numbers_from 0 c.vars)) = ap (own_of_class number) at in
      let count : positions_of (own_of program number) ≡ 1 + sum_by positions_of (map class_var (numbers_from 0 c.vars)) =
      ap positions_of own ∙ positions_of-node (head.Class number) (map class_var (numbers_from 0 c.vars)) in
      omega (arith, count, ones 0 c.vars)

  -- with many variables the class is too large itself
  pub many_variables : 255 < length c.vars → ¬ (FitsClosure program (own_of program number))
  many_variables many fits =
      let large : is_large (own_of program number) ≡ true = lt-ltb 256 (positions_of (own_of program number)) (omega (arith, own_count, many)) in
      let yes : list_any is_large (closure_of program (own_of program number)) ≡ true = closure_large program (own_of program number) large in
      let no : list_any is_large (closure_of program (own_of program number)) ≡ false = fits.no_large in
      cc

  pub few_variables : HasHierarchy program number c → length c.vars < 256
  few_variables h = by_cases (nat_lt 255 (length c.vars)) refl
    where
      by_cases : (b : Bool) → nat_lt 255 (length c.vars) ≡ b → length c.vars < 256
      by_cases true is = absurd (many_variables (ltb-true 255 (length c.vars) is) (record { no_large = h.no_large; few = h.few }))
      by_cases false is = omega (arith, ltb-false 255 (length c.vars) is)

-- what the rule on layouts asks of closures: the steps from a class and from its fields that are structs reach few trees
module _ (program : Program) (number : ℕ) (c : ClassDef) (whole : List TExpr) (at : slice_get program.classes number ≡ Some c)
    (h : HasHierarchy program number c) (closed : HasClosures program (own_of program number ∷ []) whole) where
  own_inside : Has whole (own_of program number)
  own_inside = root_inside program (own_of program number ∷ []) whole closed (own_of program number) (inl refl)

  pub own_fits : ¬ (AreTooMuch program (steps_of program (own_of program number)))
  own_fits = inner_fits program (own_of program number ∷ []) whole closed (own_of program number) own_inside

  pub field_fits : (place : ℕ) (f : FieldDef) → slice_get c.fields place ≡ Some f → IsShortStruct program f.kind
  field_fits place f is struct =
      inner_fits program (own_of program number ∷ []) whole closed f.kind
      (steps_inside program (own_of program number ∷ []) whole closed (own_of program number) own_inside f.kind
      (field_is_step program number c at h f place (slice_get_within c.fields place f is) (sym (get_or_from_slice_get c.fields place f f is)) struct))
