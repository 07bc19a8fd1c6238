-- What is known of the classes of the library: exceptions are exact and without words, strings and casts are as the forms ask.
use Rattle.std.proofs.Common.{◌≡◌, ◌≤◌, ◌^◌, ℕ, Bool, true, false, not, ◌&&◌, ◌==◌, [], ◌∷◌, ◌++◌, length, flat_map, Option, Some, None, refl, sym, ap, ◌∙◌, subst, eq-eqb, reverse, inl, sum_by}
use Rattle.std.specs.Prelude.{slice_get, option_map, option_and_then}
use Rattle.std.specs.List.{list_all}
use Rattle.type_tree.specs.declared.tree.TExpr.{TExpr}
use Rattle.type_tree.specs.declared.tree.TNode.TheVariants.{Node}
use Rattle.type_tree.specs.declared.tree.Head.TheVariants as head
use Rattle.type_tree.specs.Tree.{top_of}
use Rattle.type_tree.proofs.TreeLemmas.{top_of-tree_of}
use Rattle.il_model.specs.declared.program.Program.{Program}
use Rattle.il_model.specs.declared.class.ClassKind.TheVariants as class_kind
use Rattle.il_model.specs.declared.class.ClassDef.{ClassDef}
use Rattle.il_model.specs.Find.{class_number_of, class_of}
use Rattle.il_model.specs.Library.{plain, library_classes}
use Rattle.il_model.specs.Accepted.{IsOfText}
use Rattle.il_model.specs.Bases.{with_args_of, base_of, upwards}
use Rattle.il_model.specs.Layouts.{words_of, kinds_at, own_kinds_of, instance_kinds_of, instance_words_top}
use Rattle.il_model.specs.Admission.{has_count_in, has_count_top, has_count}
use Rattle.il_model.specs.ClassRules.{has_objects}
use Rattle.cil_meaning.specs.Offsets.{instance_fields}
use Rattle.cil_meaning.specs.Types.{passes_as}
use Rattle.rgctx_fill.proofs.PartLemmas.{trees_in-node}
use Rattle.cil_safety.proofs.Fit.{has_objects_in, may_be_exact_top, IsExact, size_by, size_of}
use Rattle.cil_safety.proofs.Pieces.{exception, IsFault}
use Rattle.cil_safety.proofs.Straight.{HasFaults}
use Rattle.cil_safety.proofs.Steps.{HasLibrary}
use Rattle.cil_safety.proofs.PlainTypes.{plain_is, plain_closed, bounds_plain}
use Rattle.cil_safety.proofs.Uppers.{PlainClasses, of_class, Based, itself, upward, to_base}
use Rattle.cil_safety.proofs.Passing.{class_in_library, plain_number, in_library, reference_class, element_class, object_no_base, object_reference, string_reference, passes_as_of, passes_self, only_itself, no_string, only_string}
use Rattle.cil_safety.proofs.TextClasses.{few_literals}
use Rattle.cil_safety.proofs.FieldsLie.{no_upwards, kinds_up, own_kinds}

other_number : (j k : ℕ) → (j == k) ≡ false → plain j ≡ plain k → ⊥
other_number j k no' e =
    let a : Some j ≡ Some k = sym (number j) ∙ ap class_number_of e ∙ number k in
    let b : j ≡ k = cc a in
    let c : (j == k) ≡ true = eq-eqb j k b in
    cc (c, no')
  where
    number : (n : ℕ) → class_number_of (plain n) ≡ Some n
    number n = plain_number (record { main = 0; classes = []; methods = []; literals = [] }) n

module _ (p : Program) (classes : PlainClasses p) where
  base_in_library : (k b : ℕ) (c : ClassDef) → slice_get (library_classes ++ classes.others) k ≡ Some c → c.base ≡ Some (plain b) → base_of p (plain k) ≡ Some (plain b)
  base_in_library k b c e is =
      let at = of_class p (plain k) c (in_library p classes k c e) in
      ap (option_and_then (λ (d : ClassDef). option_map (with_args_of (plain k)) d.base)) (in_library p classes k c e)
      ∙ ap (option_map (with_args_of (plain k))) is
      ∙ ap Some (classes.base_put at.number c at.is (plain b) (plain k) is)

  own_none : (k : ℕ) (c : ClassDef) → slice_get (library_classes ++ classes.others) k ≡ Some c → c.fields ≡ [] → own_kinds_of p (plain k) ≡ []
  own_none k c e none = own_kinds p classes (plain k) c (in_library p classes k c e) ∙ ap (λ fs. kinds_at (plain k) (instance_fields fs)) none

  object_empty : instance_kinds_of p (plain 0) ≡ []
  object_empty =
      ap (λ ts. flat_map (own_kinds_of p) (reverse (plain 0 ∷ ts))) (by_base (base_of p (plain 0)) refl)
      ∙ ap (λ ks. ks ++ []) (own_none 0 _ refl refl)
    where
      by_base : (o : Option TExpr) → base_of p (plain 0) ≡ o → upwards p (length p.classes) (base_of p (plain 0)) ≡ []
      by_base None is = ap (upwards p (length p.classes)) is ∙ no_upwards p classes (length p.classes)
      by_base (Some b) is = absurd (object_no_base p classes b is)

  empty_above : (k b : ℕ) (c : ClassDef) → slice_get (library_classes ++ classes.others) k ≡ Some c → c.base ≡ Some (plain b) → c.fields ≡ [] → instance_kinds_of p (plain b) ≡ [] → instance_kinds_of p (plain k) ≡ []
  empty_above k b c e is none above =
      kinds_up p classes (plain k) (plain b) (base_in_library k b c e is)
      ∙ ap (λ ks. ks ++ own_kinds_of p (plain k)) above
      ∙ own_none k c e none

  -- a type of a plain class of the library that is not `string` is exact
  library_exact : (k : ℕ) (c : ClassDef) → slice_get (library_classes ++ classes.others) k ≡ Some c → c.kind ≡ class_kind.Plain → c.vars ≡ [] → (k == 1) ≡ false → IsExact p (plain k)
  library_exact k c e plain_kind vars other = record {
    objects =
        ap (may_be_exact_top p (plain k)) (top_of-tree_of (Node (head.Class k) []))
        ∙ ap (λ o. has_objects_in p o && not (k == 1)) (in_library p classes k c e)
        ∙ ap (λ d. has_objects d && not (k == 1)) plain_kind
        ∙ ap not other;
    closed = plain_closed (plain k) (plain_is k);
    bounds = bounds_plain p (record { of_class = []; of_method = [] }) (plain k) (plain_is k) ∙ ap (list_all (has_count p)) (trees_in-node (head.Class k) []) ∙ ap (λ b. b && true) count;
  }
    where
      count : has_count p (plain k) ≡ true
      count =
          ap (has_count_top p) (top_of-tree_of (Node (head.Class k) []))
          ∙ ap (λ o. has_count_in o []) (sym (class_in_library p k) ∙ in_library p classes k c e)
          ∙ ap (λ vs. 0 == length vs) vars

  library_size : (k : ℕ) (c : ClassDef) → slice_get (library_classes ++ classes.others) k ≡ Some c → instance_kinds_of p (plain k) ≡ [] → size_of p (plain k) 0 ≡ 0
  library_size k c e none =
      ap (size_by p (plain k) 0) (element_class p (plain k) c (in_library p classes k c e))
      ∙ ap (instance_words_top p (plain k)) (top_of-tree_of (Node (head.Class k) []))
      ∙ ap (sum_by (words_of p)) none

  -- each class of exceptions, from its base
  exception_up : Based p (plain 2) exception
  exception_up = itself

  system_up : Based p (plain 3) exception
  system_up = upward (base_in_library 3 2 _ refl refl) exception_up

  arithmetic_up : Based p (plain 4) exception
  arithmetic_up = upward (base_in_library 4 3 _ refl refl) system_up

  exception_empty : instance_kinds_of p (plain 2) ≡ []
  exception_empty = empty_above 2 0 _ refl refl refl object_empty

  system_empty : instance_kinds_of p (plain 3) ≡ []
  system_empty = empty_above 3 2 _ refl refl refl exception_empty

  arithmetic_empty : instance_kinds_of p (plain 4) ≡ []
  arithmetic_empty = empty_above 4 3 _ refl refl refl system_empty

  fault_is : (k b : ℕ) (c : ClassDef) → slice_get (library_classes ++ classes.others) k ≡ Some c → c.base ≡ Some (plain b) → c.fields ≡ [] → c.kind ≡ class_kind.Plain → c.vars ≡ [] → (k == 1) ≡ false → Based p (plain b) exception → instance_kinds_of p (plain b) ≡ [] → IsFault p k
  fault_is k b c e is fields kind' vars other up above = record {
    exact = library_exact k c e kind' vars other;
    thrown = passes_as_of p classes (plain k) exception (inl (to_base (upward (base_in_library k b c e is) up)));
    empty = library_size k c e (empty_above k b c e is fields above);
  }

  has_faults : HasFaults p
  has_faults = record {
    divide_by_zero = fault_is 5 4 _ refl refl refl refl refl refl arithmetic_up arithmetic_empty;
    overflow = fault_is 6 4 _ refl refl refl refl refl refl arithmetic_up arithmetic_empty;
    null_reference = fault_is 7 3 _ refl refl refl refl refl refl system_up system_empty;
    index_out_of_range = fault_is 8 3 _ refl refl refl refl refl refl system_up system_empty;
    invalid_cast = fault_is 9 3 _ refl refl refl refl refl refl system_up system_empty;
    array_type_mismatch = fault_is 10 3 _ refl refl refl refl refl refl system_up system_empty;
  }

  -- no object is a string
  no_object : (e : TExpr) → IsExact p e → passes_as p e (plain 1) ≡ false
  no_object e x = by_test (passes_as p e (plain 1)) refl
    where
      by_test : (b : Bool) → passes_as p e (plain 1) ≡ b → passes_as p e (plain 1) ≡ false
      by_test false is = is
      by_test true is =
          let same : e ≡ plain 1 = only_string p classes e is in
          let yes : may_be_exact_top p (plain 1) (top_of (plain 1)) ≡ true = subst (λ z. may_be_exact_top p z (top_of z) ≡ true) same x.objects in
          let no' : may_be_exact_top p (plain 1) (top_of (plain 1)) ≡ false =
          ap (may_be_exact_top p (plain 1)) (top_of-tree_of (Node (head.Class 1) [])) ∙ and_false (has_objects_in p (class_of p (plain 1))) in
          absurd (cc (yes, no'))
        where
          and_false : (b : Bool) → (b && false) ≡ false
          and_false true = refl
          and_false false = refl

  pub library_known : length p.literals ≤ 2 ^ 32 → HasLibrary p
  library_known few = record {
    faults = has_faults;
    objects = object_reference p classes;
    strings = record { reference = string_reference p classes; self = passes_self p classes (plain 1); few = few };
    exceptions = record {
      reference = reference_class p exception _ (in_library p classes 2 _ refl);
      no_string = no_string p classes exception (λ e. other_number 2 1 refl e) (λ e. other_number 2 0 refl e);
    };
    casts = record { only = only_itself p classes; text = string_reference p classes };
    texts = record { reference = string_reference p classes; no_object = no_object };
  }

-- what is known of the library's classes in the program of an accepted text
pub has_library : (p : Program) → IsOfText p → PlainClasses p → HasLibrary p
has_library p of classes = library_known p classes (few_literals p of)
