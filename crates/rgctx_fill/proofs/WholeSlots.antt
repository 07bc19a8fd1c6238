-- The methods in the slots of a type are whole where the program's classes and methods are.
use Rattle.std.proofs.Common.{◌≡◌, ℕ, zero, suc, ◌+◌, ◌<◌, ◌≤◌, Bool, true, false, List, [], ◌∷◌, ◌++◌, length, map, flat_map, fold, slice_get, unwrap_or, Option, Some, None, option_map, option_and_then, if◌then◌else◌, refl, sym, ap, ◌∙◌, subst, arith, eq-eqb}
use Rattle.std.specs.Prelude.{option_to_list}
use Rattle.std.specs.List.{AllByRecursion}
use Rattle.std.proofs.lemmas.Option.{option_and_then_some}
use Rattle.std.proofs.lemmas.List.{length-map}
use Rattle.std.proofs.lemmas.List.Elements.{All-from_recursion, All-nil}
use Rattle.type_tree.specs.declared.tree.Head.TheVariants as head
use Rattle.type_tree.specs.declared.tree.TExpr.{TExpr}
use Rattle.type_tree.specs.declared.tree.TNode.TheVariants.{Node}
use Rattle.type_tree.specs.Tree.{node, class_var, HasVariablesBelow}
use Rattle.type_tree.proofs.TreeLemmas.{top_of-tree_of}
use Rattle.type_tree.proofs.VariablesLemmas.{below_node, class_var_below}
use Rattle.type_tree.proofs.SubstitutionLemmas.{substituted_below}
use Rattle.il_model.specs.declared.class.ClassDef.{ClassDef}
use Rattle.il_model.specs.declared.method.Shape.{Shape}
use Rattle.il_model.specs.declared.method.Shape.TheVariants as shape
use Rattle.il_model.specs.declared.method.MethodDef.{MethodDef}
use Rattle.il_model.specs.declared.layout.MethodTree.{MethodTree}
use Rattle.il_model.specs.declared.program.Program.{Program}
use Rattle.il_model.specs.Find.{class_number_of, class_of}
use Rattle.il_model.specs.LookUp.{numbers_from}
use Rattle.il_model.specs.Trees.{is_among, with_new}
use Rattle.il_model.specs.Entries.{arguments_of, has_slot}
use Rattle.il_model.specs.Bases.{with_args_of, own_of_class, own_of, own_of_number, definition_of, base_of}
use Rattle.il_model.specs.Interfaces.{interfaces_in, own_interfaces_of, interfaces_met, interfaces_of}
use Rattle.il_model.specs.Found.{method_at}
use Rattle.il_model.specs.Slots.{is_interface_kind, is_interface_class, is_interface, takes_new, methods_in, own_methods_of, candidates, VirtualSlots, slot_taken, method_of, with_slot, slot_below, with_method_if, with_method, method_tree_at, slots_or_none, virtual_within, virtual_slots_of, places_of, match_of_place, standing, place_holds, definition_slots, slots_of}
use Rattle.il_model.specs.Admission.{has_count_in, has_count_top}
use Rattle.il_model.specs.ClassRules.{HasTypes, has_counts, is_abstract_shape, types_written}
use Rattle.rgctx_fill.specs.ImageCatalogues.{HasAbstractInterfaces}
use Rattle.rgctx_fill.proofs.WholeLists.{join_all, front_all, back_all, item_holds, set_all, fold_keeps, all_weaker, all_both, map_all, flat_all, all_of_test}
use Rattle.rgctx_fill.proofs.WholeTypes.{IsWritten, number-substituted, number-node, IsCounted, counts-of_parts, counts-class_var, counts-substituted, IsOf, type-of}
use Rattle.rgctx_fill.proofs.WholeScopes.{IsOwned, IsScoped}

abstract_has_slot : (s : Shape) → is_abstract_shape s ≡ true → has_slot s ≡ true
abstract_has_slot shape.Fixed e = cc
abstract_has_slot shape.Instance e = cc
abstract_has_slot shape.Virtual e = cc
abstract_has_slot shape.NewSlot e = cc
abstract_has_slot shape.Abstract e = refl

-- numbers in a row are below the last
numbers_below : {A : Type 0} (first most : ℕ) (xs : List A) → first + length xs ≤ most → AllByRecursion (λ n. n < most) (numbers_from first xs)
numbers_below first most [] le = tt
numbers_below first most (x ∷ xs) le =
    let whole : first + suc (length xs) ≤ most = le in (omega arith, numbers_below (first + 1) most xs (omega arith))

numbers_count : {A : Type 0} (first : ℕ) (xs : List A) → length (numbers_from first xs) ≡ length xs
numbers_count first [] = refl
numbers_count first (x ∷ xs) = ap suc (numbers_count (first + 1) xs)

module _ (program : Program) where
  -- a type whose variables are so many of the class
  abbrev pub IsType : ℕ → TExpr → Type 0
  IsType c t = IsWritten program c 0 t

  -- a method of the program without variables, of such a type
  pub record IsSlot (c : ℕ) (m : MethodTree) : Type 0 where
    pub method : MethodDef
    pub is : method_at program m.method ≡ Some method
    pub owner : class_number_of m.class ≡ Some method.owner
    pub class : IsType c m.class
    pub args : m.args ≡ []
    pub vars : method.vars ≡ []

  -- an interface that is such a type
  pub record IsInterface (c : ℕ) (t : TExpr) : Type 0 where
    pub type : IsType c t
    pub number : ℕ
    pub number_is : class_number_of t ≡ Some number
    pub class : ClassDef
    pub is : slice_get program.classes number ≡ Some class
    pub kind : is_interface_kind class.kind ≡ true

  class_at : (t : TExpr) (number : ℕ) (c : ClassDef) → class_number_of t ≡ Some number → slice_get program.classes number ≡ Some c → class_of program t ≡ Some c
  class_at t number c e is = ap (λ (o : Option ℕ). option_and_then (λ k. slice_get program.classes k) o) e ∙ is

  no_class : (t : TExpr) → class_number_of t ≡ None → class_of program t ≡ None
  no_class t e = ap (λ (o : Option ℕ). option_and_then (λ k. slice_get program.classes k) o) e

  -- ---- arguments are put

  module _ (c n : ℕ) (t : TExpr) (count : length (arguments_of t) ≡ n) (below : AllByRecursion (HasVariablesBelow c 0) (arguments_of t)) (counts : AllByRecursion (IsCounted program) (arguments_of t)) where
    put_type : (u : TExpr) → IsType n u → IsType c (with_args_of t u)
    put_type u h = record {
      below = substituted_below c 0 (arguments_of t) [] (All-from_recursion (HasVariablesBelow c 0) (arguments_of t) below) (All-nil (HasVariablesBelow c 0)) u (subst (λ k. HasVariablesBelow k 0 u) (sym count) h.below);
      counts = counts-substituted program (arguments_of t) [] counts tt u h.counts;
    }

    put_slot : (m : MethodTree) → IsSlot n m → IsSlot c (method_tree_at t m)
    put_slot m h = record {
      method = h.method;
      is = h.is;
      owner = number-substituted (arguments_of t) [] m.class h.method.owner h.owner;
      class = put_type m.class h.class;
      args = ap (map (with_args_of t)) h.args;
      vars = h.vars;
    }

    put_interface : (u : TExpr) → IsInterface n u → IsInterface c (with_args_of t u)
    put_interface u h = record {
      type = put_type u h.type;
      number = h.number;
      number_is = number-substituted (arguments_of t) [] u h.number h.number_is;
      class = h.class;
      is = h.is;
      kind = h.kind;
    }

    put_base : (b : Option TExpr) → AllByRecursion (IsType n) (option_to_list b) → AllByRecursion (IsType c) (option_to_list (option_map (with_args_of t) b))
    put_base None h = tt
    put_base (Some u) h = (put_type u h.0, tt)

  -- ---- interfaces

  interface_in : (c : ℕ) (t : TExpr) → IsType c t → (number : ℕ) → class_number_of t ≡ Some number → (d : Option ClassDef) → slice_get program.classes number ≡ d → is_interface_class d ≡ true → IsInterface c t
  interface_in c t h number e None is positive = cc
  interface_in c t h number e (Some d) is positive = record { type = h; number = number; number_is = e; class = d; is = is; kind = positive }

  interface_at : (c : ℕ) (t : TExpr) → IsType c t → (o : Option ℕ) → class_number_of t ≡ o → is_interface_class (option_and_then (λ k. slice_get program.classes k) o) ≡ true → IsInterface c t
  interface_at c t h None e positive = cc
  interface_at c t h (Some number) e positive = interface_in c t h number e (slice_get program.classes number) refl positive

  interface_is : (c : ℕ) (t : TExpr) → IsType c t → is_interface program t ≡ true → IsInterface c t
  interface_is c t h positive = interface_at c t h (class_number_of t) refl positive

  module _ (scoped : IsScoped program) (types : HasTypes program) (abstract : HasAbstractInterfaces program) where
    -- ---- what a class names

    module _ (number : ℕ) (d : ClassDef) (is : slice_get program.classes number ≡ Some d) where
      counted : AllByRecursion (λ t. has_counts program t ≡ true) (types_written d)
      counted = all_of_test (has_counts program) (types_written d) ((types.hierarchy.each number d is).counts)

      base_types : AllByRecursion (IsType (length d.vars)) (option_to_list d.base)
      base_types =
          all_both (HasVariablesBelow (length d.vars) 0) (IsCounted program) (IsType (length d.vars)) (λ t b k. record { below = b; counts = k }) (option_to_list d.base) ((scoped.classes number d is).base)
          (front_all (IsCounted program) (option_to_list d.base) _ counted)

      interface_types : AllByRecursion (IsType (length d.vars)) d.interfaces
      interface_types =
          all_both (HasVariablesBelow (length d.vars) 0) (IsCounted program) (IsType (length d.vars)) (λ t b k. record { below = b; counts = k }) d.interfaces ((scoped.classes number d is).interfaces)
          (front_all (IsCounted program) d.interfaces _ (back_all (IsCounted program) (option_to_list d.base) _ counted))

      own_interfaces : AllByRecursion (IsInterface (length d.vars)) d.interfaces
      own_interfaces =
          all_both (IsType (length d.vars)) (λ t. is_interface program t ≡ true) (IsInterface (length d.vars)) (λ t h positive. interface_is (length d.vars) t h positive) d.interfaces interface_types
          (all_of_test (is_interface program) d.interfaces ((types.hierarchy.each number d is).interfaces))

    -- ---- the types above a type

    base_at : (c : ℕ) (t : TExpr) → IsType c t → (o : Option ℕ) → class_number_of t ≡ o → AllByRecursion (IsType c) (option_to_list (base_of program t))
    base_at c t h None e = subst (λ (d : Option ClassDef). AllByRecursion (IsType c) (option_to_list (option_and_then (λ x. option_map (with_args_of t) x.base) d))) (sym (no_class t e)) tt
    base_at c t h (Some number) e =
        let f : IsOf program c 0 t number = type-of program c 0 t number e h.below h.counts in
        subst (λ (d : Option ClassDef). AllByRecursion (IsType c) (option_to_list (option_and_then (λ x. option_map (with_args_of t) x.base) d))) (sym (class_at t number f.class e f.is))
        (put_base c (length f.class.vars) t f.count f.below f.counts f.class.base (base_types number f.class f.is))

    base_all : (c : ℕ) (t : TExpr) → IsType c t → AllByRecursion (IsType c) (option_to_list (base_of program t))
    base_all c t h = base_at c t h (class_number_of t) refl

    named_at : (c : ℕ) (t : TExpr) → IsType c t → (o : Option ℕ) → class_number_of t ≡ o → AllByRecursion (IsInterface c) (own_interfaces_of program t)
    named_at c t h None e = subst (λ (d : Option ClassDef). AllByRecursion (IsInterface c) (map (with_args_of t) (interfaces_in d))) (sym (no_class t e)) tt
    named_at c t h (Some number) e =
        let f : IsOf program c 0 t number = type-of program c 0 t number e h.below h.counts in
        subst (λ (d : Option ClassDef). AllByRecursion (IsInterface c) (map (with_args_of t) (interfaces_in d))) (sym (class_at t number f.class e f.is))
        (map_all (IsInterface c) (with_args_of t) f.class.interfaces
        (all_weaker (IsInterface (length f.class.vars)) (λ u. IsInterface c (with_args_of t u)) (put_interface c (length f.class.vars) t f.count f.below f.counts) f.class.interfaces (own_interfaces number f.class f.is)))

    met_all : (levels c : ℕ) (t : TExpr) → IsType c t → AllByRecursion (IsInterface c) (interfaces_met program levels t)
    met_all zero c t h = tt
    met_all (suc levels) c t h =
        join_all (IsInterface c) (flat_map (λ base. interfaces_met program levels base) (option_to_list (base_of program t))) (flat_map (λ each. each ∷ interfaces_met program levels each) (own_interfaces_of program t))
        (flat_all (IsInterface c) (λ base. interfaces_met program levels base) (option_to_list (base_of program t))
        (all_weaker (IsType c) (λ base. AllByRecursion (IsInterface c) (interfaces_met program levels base)) (λ base k. met_all levels c base k) (option_to_list (base_of program t)) (base_all c t h)))
        (flat_all (IsInterface c) (λ each. each ∷ interfaces_met program levels each) (own_interfaces_of program t)
        (all_weaker (IsInterface c) (λ each. AllByRecursion (IsInterface c) (each ∷ interfaces_met program levels each)) (λ each k. (k, met_all levels c each k.type)) (own_interfaces_of program t) (named_at c t h (class_number_of t) refl)))

    new_all : (c : ℕ) (ts : List TExpr) (t : TExpr) (b : Bool) → AllByRecursion (IsInterface c) ts → IsInterface c t → AllByRecursion (IsInterface c) (if b then ts else ts ++ t ∷ [])
    new_all c ts t true all h = all
    new_all c ts t false all h = join_all (IsInterface c) ts (t ∷ []) all (h, tt)

    interfaces_all : (c : ℕ) (t : TExpr) → IsType c t → AllByRecursion (IsInterface c) (interfaces_of program t)
    interfaces_all c t h =
        fold_keeps (IsInterface c) (AllByRecursion (IsInterface c)) with_new (λ ts u all k. new_all c ts u (is_among ts u) all k) (interfaces_met program (length program.classes) t) []
        (met_all (length program.classes) c t h) tt

    -- ---- the methods of interfaces

    module _ (c : ℕ) (t : TExpr) (i : IsInterface c t) where
      interface_method : (n : ℕ) → IsOwned program i.number n → IsSlot c (method_of t n)
      interface_method n o =
          let at : slice_get program.classes o.method.owner ≡ Some i.class = ap (slice_get program.classes) o.owner_is ∙ i.is in
          let kind : is_interface_class (slice_get program.classes o.method.owner) ≡ true = ap is_interface_class at ∙ i.kind in
          record {
            method = o.method;
            is = o.is;
            owner = i.number_is ∙ ap Some (sym o.owner_is);
            class = i.type;
            args = refl;
            vars = (scoped.methods n o.method o.is).alone (abstract_has_slot o.method.shape (abstract.each n o.method o.is kind));
          }

      interface_places : AllByRecursion (λ (place : TExpr × ℕ). IsSlot c (method_of place.0 place.1)) (map (λ n. (t, n)) (own_methods_of program t))
      interface_places =
          subst (λ (d : Option ClassDef). AllByRecursion (λ (place : TExpr × ℕ). IsSlot c (method_of place.0 place.1)) (map (λ n. (t, n)) (methods_in d))) (sym (class_at t i.number i.class i.number_is i.is))
          (map_all (λ (place : TExpr × ℕ). IsSlot c (method_of place.0 place.1)) (λ n. (t, n)) i.class.methods
          (all_weaker (IsOwned program i.number) (λ n. IsSlot c (method_of t n)) interface_method i.class.methods ((scoped.classes i.number i.class i.is).methods)))

    places_all : (c : ℕ) (ts : List TExpr) → AllByRecursion (IsInterface c) ts → AllByRecursion (λ (place : TExpr × ℕ). IsSlot c (method_of place.0 place.1)) (candidates program ts)
    places_all c ts all =
        flat_all (λ (place : TExpr × ℕ). IsSlot c (method_of place.0 place.1)) (λ t. map (λ number. (t, number)) (own_methods_of program t)) ts
        (all_weaker (IsInterface c) (λ t. AllByRecursion (λ (place : TExpr × ℕ). IsSlot c (method_of place.0 place.1)) (map (λ number. (t, number)) (own_methods_of program t))) (interface_places c) ts all)

    -- ---- virtual slots

    abbrev Stands : ℕ → VirtualSlots → Type 0
    Stands c slots = AllByRecursion (IsSlot c) slots.stands

    slot_stands : (c : ℕ) (slots : VirtualSlots) (m : MethodTree) (o : Option ℕ) → Stands c slots → IsSlot c m → Stands c (with_slot slots m o)
    slot_stands c slots m None all h = join_all (IsSlot c) slots.stands (m ∷ []) all (h, tt)
    slot_stands c slots m (Some slot) all h = set_all (IsSlot c) slots.stands slot m all h

    -- the class with this number applied to its own variables
    record IsOwn (number : ℕ) (d : ClassDef) (definition : TExpr) : Type 0 where
      is : slice_get program.classes number ≡ Some d
      number_is : class_number_of definition ≡ Some number
      type : IsType (length d.vars) definition

    module _ (number : ℕ) (d : ClassDef) (definition : TExpr) (own : IsOwn number d definition) where
      method_stands : (slots : VirtualSlots) (n : ℕ) (m : MethodDef) (b : Bool) (o : Option ℕ) → has_slot m.shape ≡ b → method_at program n ≡ Some m → m.owner ≡ number → Stands (length d.vars) slots
          → Stands (length d.vars) (if b then with_slot slots (method_of definition n) o else slots)
      method_stands slots n m false o positive at owner all = all
      method_stands slots n m true o positive at owner all =
          slot_stands (length d.vars) slots (method_of definition n) o all
          (record { method = m; is = at; owner = own.number_is ∙ ap Some (sym owner); class = own.type; args = refl; vars = (scoped.methods n m at).alone positive })

      own_stands : (slots : VirtualSlots) (n : ℕ) → Stands (length d.vars) slots → IsOwned program number n → Stands (length d.vars) (with_method program definition slots n)
      own_stands slots n all o =
          subst (λ (x : Option MethodDef). Stands (length d.vars) (with_method_if program definition slots n x)) (sym o.is)
          (method_stands slots n o.method (has_slot o.method.shape) (if takes_new o.method.shape then None else slot_below program definition slots o.method) refl o.is o.owner_is all)

      below_stands : (levels : ℕ) (b : Option TExpr) → AllByRecursion (IsType (length d.vars)) (option_to_list b)
          → ((u : TExpr) → IsType (length d.vars) u → Stands (length d.vars) (virtual_within program levels u))
          → Stands (length d.vars) (slots_or_none (λ base. virtual_within program levels base) b)
      below_stands levels None all lower = tt
      below_stands levels (Some u) all lower = lower u all.0

      level_stands : (levels : ℕ) → ((u : TExpr) → IsType (length d.vars) u → Stands (length d.vars) (virtual_within program levels u))
          → Stands (length d.vars) (fold (with_method program definition) (slots_or_none (λ base. virtual_within program levels base) (base_of program definition)) (own_methods_of program definition))
      level_stands levels lower =
          fold_keeps (IsOwned program number) (Stands (length d.vars)) (with_method program definition) own_stands (own_methods_of program definition)
          (slots_or_none (λ base. virtual_within program levels base) (base_of program definition))
          (subst (λ (x : Option ClassDef). AllByRecursion (IsOwned program number) (methods_in x)) (sym (class_at definition number d own.number_is own.is)) ((scoped.classes number d own.is).methods))
          (below_stands levels (base_of program definition) (base_all (length d.vars) definition own.type) lower)

    own_parts : (number : ℕ) (d : ClassDef) → slice_get program.classes number ≡ Some d → IsOwn number d (node (head.Class number) (map class_var (numbers_from 0 d.vars)))
    own_parts number d is =
        let parts : List TExpr = map class_var (numbers_from 0 d.vars) in
        let count : length parts ≡ length d.vars = length-map (numbers_from 0 d.vars) class_var ∙ numbers_count 0 d.vars in
        let low : AllByRecursion (λ n. n < length d.vars) (numbers_from 0 d.vars) = numbers_below 0 (length d.vars) d.vars (omega arith) in
        record {
          is = is;
          number_is = number-node number parts;
          type = record {
            below = below_node (length d.vars) 0 (head.Class number) parts (All-from_recursion (HasVariablesBelow (length d.vars) 0) parts
                (map_all (HasVariablesBelow (length d.vars) 0) class_var (numbers_from 0 d.vars) (all_weaker (λ n. n < length d.vars) (λ n. HasVariablesBelow (length d.vars) 0 (class_var n)) (λ n l. class_var_below (length d.vars) 0 n l) (numbers_from 0 d.vars) low)));
            counts = counts-of_parts program (head.Class number) parts
                (ap (has_count_top program) (top_of-tree_of (Node (head.Class number) parts)) ∙ ap (λ x. has_count_in x parts) is ∙ eq-eqb (length parts) (length d.vars) count)
                (map_all (IsCounted program) class_var (numbers_from 0 d.vars) (all_weaker (λ n. n < length d.vars) (λ n. IsCounted program (class_var n)) (λ n l. counts-class_var program n) (numbers_from 0 d.vars) low));
          };
        }

    own_is : (number : ℕ) (d : ClassDef) → slice_get program.classes number ≡ Some d → IsOwn number d (own_of program number)
    own_is number d is = subst (IsOwn number d) (sym (ap (own_of_class number) is)) (own_parts number d is)

    definition_is : (t : TExpr) (number : ℕ) (d : ClassDef) → class_number_of t ≡ Some number → slice_get program.classes number ≡ Some d → IsOwn number d (definition_of program t)
    definition_is t number d e is = subst (IsOwn number d) (sym (ap (own_of_number program t) e)) (own_is number d is)

    virtual_at : (levels c : ℕ) (t : TExpr) → IsType c t → (o : Option ℕ) → class_number_of t ≡ o → ((n : ℕ) (u : TExpr) → IsType n u → Stands n (virtual_within program levels u)) → Stands c (virtual_within program (suc levels) t)
    virtual_at levels c t h None e lower =
        let same : definition_of program t ≡ t = ap (own_of_number program t) e in
        let none : (definition : TExpr) → definition ≡ t → AllByRecursion (IsSlot c) (map (method_tree_at t) (fold (with_method program definition) (slots_or_none (λ base. virtual_within program levels base) (base_of program definition)) (own_methods_of program definition)).stands) =
        λ definition d. subst (λ x. AllByRecursion (IsSlot c) (map (method_tree_at t) (fold (with_method program x) (slots_or_none (λ base. virtual_within program levels base) (base_of program x)) (own_methods_of program x)).stands)) (sym d)
        (subst (λ (x : Option ClassDef). AllByRecursion (IsSlot c) (map (method_tree_at t) (fold (with_method program t) (slots_or_none (λ base. virtual_within program levels base) (option_and_then (λ y. option_map (with_args_of t) y.base) x)) (methods_in x)).stands)) (sym (no_class t e)) tt) in
        none (definition_of program t) same
    virtual_at levels c t h (Some number) e lower =
        let f : IsOf program c 0 t number = type-of program c 0 t number e h.below h.counts in
        let own : IsOwn number f.class (definition_of program t) = definition_is t number f.class e f.is in
        let definition : TExpr = definition_of program t in
        map_all (IsSlot c) (method_tree_at t) (fold (with_method program definition) (slots_or_none (λ base. virtual_within program levels base) (base_of program definition)) (own_methods_of program definition)).stands
        (all_weaker (IsSlot (length f.class.vars)) (λ m. IsSlot c (method_tree_at t m)) (put_slot c (length f.class.vars) t f.count f.below f.counts) (fold (with_method program definition) (slots_or_none (λ base. virtual_within program levels base) (base_of program definition)) (own_methods_of program definition)).stands
        (level_stands number f.class definition own levels (lower (length f.class.vars))))

    virtual_all : (levels c : ℕ) (t : TExpr) → IsType c t → Stands c (virtual_within program levels t)
    virtual_all zero c t h = tt
    virtual_all (suc levels) c t h = virtual_at levels c t h (class_number_of t) refl (virtual_all levels)

    -- ---- all slots

    standing_holds : (c : ℕ) (slots : VirtualSlots) (found : Option (TExpr × ℕ)) (m : MethodTree) → Stands c slots → standing slots found ≡ Some m → IsSlot c m
    standing_holds c slots found m all e =
        option_and_then_some (λ (x : TExpr × ℕ). option_and_then (λ slot. slice_get slots.stands slot) (slot_taken slots x.1)) found m e
        (λ x x_is f. option_and_then_some (λ slot. slice_get slots.stands slot) (slot_taken slots x.1) m f (λ slot slot_is g. item_holds (IsSlot c) slots.stands slot m all g))

    or_holds : (c : ℕ) (slots : VirtualSlots) (found : Option (TExpr × ℕ)) (o : Option MethodTree) (other : MethodTree) → Stands c slots → standing slots found ≡ o → IsSlot c other → IsSlot c (unwrap_or o other)
    or_holds c slots found None other all e h = h
    or_holds c slots found (Some m) other all e h = standing_holds c slots found m all e

    place_if : (c : ℕ) (b : Bool) (some other : MethodTree) → IsSlot c some → IsSlot c other → IsSlot c (if b then some else other)
    place_if c true some other h k = h
    place_if c false some other h k = k

    definition_all : (number : ℕ) (d : ClassDef) (definition : TExpr) → IsOwn number d definition → AllByRecursion (IsSlot (length d.vars)) (definition_slots program definition)
    definition_all number d definition own =
        let c : ℕ = length d.vars in
        let slots : VirtualSlots = virtual_slots_of program definition in
        let stands : Stands c slots = virtual_all (length program.classes) c definition own.type in
        join_all (IsSlot c) slots.stands (map (place_holds program definition slots) (places_of program definition)) stands
        (map_all (IsSlot c) (place_holds program definition slots) (places_of program definition)
        (all_weaker (λ (place : TExpr × ℕ). IsSlot c (method_of place.0 place.1)) (λ place. IsSlot c (place_holds program definition slots place))
        (λ place h. place_if c (is_interface program definition) (method_of place.0 place.1) (unwrap_or (standing slots (match_of_place program definition place)) (method_of place.0 place.1)) h
        (or_holds c slots (match_of_place program definition place) (standing slots (match_of_place program definition place)) (method_of place.0 place.1) stands refl h))
        (places_of program definition) (places_all c (interfaces_of program definition) (interfaces_all c definition own.type))))

    -- the methods in the slots of a type are the program's, of types that have its variables
    pub slots-all : (c : ℕ) (t : TExpr) (number : ℕ) → IsType c t → class_number_of t ≡ Some number → AllByRecursion (IsSlot c) (slots_of program t)
    slots-all c t number h e =
        let f : IsOf program c 0 t number = type-of program c 0 t number e h.below h.counts in
        map_all (IsSlot c) (method_tree_at t) (definition_slots program (definition_of program t))
        (all_weaker (IsSlot (length f.class.vars)) (λ m. IsSlot c (method_tree_at t m)) (put_slot c (length f.class.vars) t f.count f.below f.counts) (definition_slots program (definition_of program t))
        (definition_all number f.class (definition_of program t) (definition_is t number f.class e f.is)))
