-- Types that instructions name: new vectors, elements of vectors, boxes, and what may be measured.
use Rattle.std.proofs.lemmas.Bool.{eqb-true}
use Rattle.std.proofs.Common.{arith, ◌<◌, append-nil, ◌≡◌, ◌⊎◌, inl, inr, ℕ, zero, suc, Bool, true, false, not, ◌&&◌, ◌==◌, List, [], ◌∷◌, length, flat_map, Option, Some, None, refl, sym, ap, ◌∙◌, subst, append-nil}
use Rattle.std.specs.Prelude.{slice_get, is_some, option_and_then}
use Rattle.std.specs.List.{list_all, list_any}
use Rattle.type_tree.specs.declared.tree.TExpr.{TExpr}
use Rattle.type_tree.specs.declared.tree.TNode.{TNode}
use Rattle.type_tree.specs.declared.tree.TNode.TheVariants.{Node, ClassVar, MethodVar}
use Rattle.type_tree.specs.declared.tree.Head.TheVariants as head
use Rattle.type_tree.specs.Tree.{top_of, IsClosed}
use Rattle.type_tree.specs.Positions.{positions_of}
use Rattle.type_tree.proofs.TreeLemmas.{top_of-tree_of, tree_of-is}
use Rattle.type_tree.proofs.VariablesLemmas.{below_class_var, below_method_var}
use Rattle.il_model.specs.declared.program.Program.{Program}
use Rattle.il_model.specs.declared.class.ClassKind.{ClassKind}
use Rattle.il_model.specs.declared.class.ClassKind.TheVariants as class_kind
use Rattle.il_model.specs.declared.class.ClassDef.{ClassDef}
use Rattle.il_model.specs.Kinds.{is_reference_kind, is_reference_class, is_reference_top, is_reference, is_reference_kind}
use Rattle.il_model.specs.Find.{class_in_top, class_of}
use Rattle.il_model.specs.Library.{plain}
use Rattle.il_model.specs.Entries.{vector_of}
use Rattle.il_model.specs.Assignable.{element_in_top, element_of, bounds_of}
use Rattle.il_model.specs.Trees.{trees_within, trees_in}
use Rattle.il_model.specs.Admission.{has_count_in, has_count_top, has_count}
use Rattle.il_model.specs.ClassRules.{has_counts, has_objects, EachClass, HasLayout}
use Rattle.type_inst.proofs.ListLemmas.{first_of_two}
use Rattle.rgctx_fill.proofs.PartLemmas.{trees_in-node}
use Rattle.interaction.specs.Process.{Naming}
use Rattle.cil_flow.specs.declared.state.StackType.{StackType}
use Rattle.cil_flow.specs.declared.state.StackType.TheVariants as stack
use Rattle.cil_verify.specs.Places.{view_of, scope_of}
use Rattle.cil_verify.specs.Fits.{is_vector, is_vector_type}
use Rattle.cil_meaning.specs.Values as kind
use Rattle.cil_meaning.specs.Naming.{Mention, put_type}
use Rattle.cil_meaning.specs.Types.{passes_as}
use Rattle.cil_meaning.specs.Site.{Site}
use Rattle.cil_safety.proofs.Sorts.{Scalar, Ref, Words, To, Sort, scalars_of, value_sort, sort_of}
use Rattle.cil_safety.proofs.Fit.{has_objects_in, may_be_exact_top, IsExact, IsInstance, WideWords, WideSort}
use Rattle.cil_safety.proofs.Types.{wide_words_self, wide_is, reference_sort}
use Rattle.cil_safety.proofs.VectorForms.{HasElements, IsVector}
use Rattle.cil_safety.proofs.StoredElements.{HasOwnElements}
use Rattle.cil_safety.proofs.NewVectors.{MeasuresWell, IsNewVector}
use Rattle.cil_safety.proofs.BoxForms.{IsBoxed}
use Rattle.cil_safety.proofs.PlainTypes.{IsPlainType, plain_closed, vector_is, bounds_plain}
use Rattle.cil_safety.proofs.Instances.{IsAccepted, vars_none, put_any}
use Rattle.cil_safety.proofs.Uppers.{PlainClasses}
use Rattle.cil_safety.proofs.Passing.{vector_reference, passes_self, passes_vector, string_no_vector, string_class, class_in_library}
use Rattle.cil_safety.proofs.TypesFit.{exact_value, assigned_refs, no_bounds}
use Rattle.cil_safety.proofs.WordsSettled.{HasStructs, boxed_same}

vector_element : (t : TExpr) → element_of (vector_of t) ≡ Some t
vector_element t = ap element_in_top (top_of-tree_of (Node head.Vector (t ∷ [])))

abbrev scalars_in_sort : Sort → List Scalar
scalars_in_sort (Words k as') = as'
scalars_in_sort (To as') = as'

module _ (p : Program) (classes : PlainClasses p) where
  reference_scalars : (t : TExpr) → is_reference p t ≡ true → scalars_of p t ≡ Ref t ∷ []
  reference_scalars t e = ap scalars_in_sort (reference_sort p t e)

  -- ---- vectors

  elements_pass : (e v b : TExpr) → element_of v ≡ Some b → passes_as p e v ≡ true → HasElements p e b
  elements_pass e v b eb f =
      elim (passes_vector p classes e v b eb f) [
        | inl same ↦ record { element = b; is = ap element_of same ∙ eb; wide = wide_words_self p (scalars_of p b); long = refl }
        | inr h ↦ record {
          element = h.0;
          is = h.1;
          wide = subst (λ z. WideWords p z (scalars_of p b)) (sym (reference_scalars h.0 h.2)) (subst (λ z. WideWords p (Ref h.0 ∷ []) z) (sym (reference_scalars b h.3)) (assigned_refs p classes h.0 b h.4, tt));
          long = ap length (reference_scalars h.0 h.2) ∙ sym (ap length (reference_scalars b h.3));
        }
      ]

  pub vector_named : (t : TExpr) → IsVector p (vector_of t) t
  vector_named t = record {
    reference = vector_reference p (vector_of t) t (vector_element t);
    no_string = string_no_vector p classes (vector_of t) t (vector_element t);
    elements = λ e x f. elements_pass e (vector_of t) t (vector_element t) f;
  }

  pub own_elements : (t : TExpr) → HasOwnElements p (vector_of t) t
  own_elements t = record {
    values = λ no' e x f. elim (passes_vector p classes e (vector_of t) t (vector_element t) f) [
      | inl same ↦ ap element_of same ∙ vector_element t
      | inr h ↦ absurd (cc (h.3, no'))
    ];
    references = λ r e element x f is. elim (passes_vector p classes e (vector_of t) t (vector_element t) f) [
      | inl same ↦
          let q : t ≡ element = one_element t element (sym (ap element_of same ∙ vector_element t) ∙ is) in
          subst (λ z. scalars_of p z ≡ Ref z ∷ []) q (reference_scalars t r)
      | inr h ↦
          let q : h.0 ≡ element = one_element h.0 element (sym h.1 ∙ is) in
          subst (λ z. scalars_of p z ≡ Ref z ∷ []) q (reference_scalars h.0 h.2)
    ];
  }
    where
      one_element : (a b : TExpr) → Some a ≡ Some b → a ≡ b
      one_element a b e = cc e

  -- ---- types with their numbers of arguments

  first_tree : (f : TExpr → Bool) (n : ℕ) (t : TExpr) → list_all f (trees_within n t) ≡ true → f t ≡ true
  first_tree f zero t e = first_of_two (f t) true e
  first_tree f (suc n) t e = first_of_two (f t) _ e

  counts_first : (t : TExpr) → has_counts p t ≡ true → has_count p t ≡ true
  counts_first t e = first_tree (has_count p) (positions_of t) t e

  vector_counts : (t : TExpr) → has_counts p t ≡ true → has_counts p (vector_of t) ≡ true
  vector_counts t e =
      ap (list_all (has_count p)) (trees_in-node head.Vector (t ∷ []))
      ∙ ap (λ b. b && list_all (has_count p) (flat_map trees_in (t ∷ []))) (ap (has_count_top p) (top_of-tree_of (Node head.Vector (t ∷ []))))
      ∙ ap (list_all (has_count p)) (append-nil (trees_in t))
      ∙ e

  pub new_vector_named : (t : TExpr) → IsPlainType t → has_counts p t ≡ true → IsNewVector p (vector_of t) t
  new_vector_named t plain' counts = record {
    exact = record {
      objects = ap (may_be_exact_top p (vector_of t)) (top_of-tree_of (Node head.Vector (t ∷ [])));
      closed = plain_closed (vector_of t) (vector_is t plain');
      bounds = bounds_plain p (record { of_class = []; of_method = [] }) (vector_of t) (vector_is t plain') ∙ vector_counts t counts;
    };
    reference = vector_reference p (vector_of t) t (vector_element t);
    element = vector_element t;
    self = passes_self p classes (vector_of t);
  }

  -- ---- boxes

  -- a value type is exact, and no vector
  value_objects : (t : TExpr) → has_count p t ≡ true → IsPlainType t → is_reference p t ≡ false → (may_be_exact_top p t (top_of t) ≡ true) × (element_of t ≡ None)
  value_objects t count plain' no' = by_top (top_of t) refl count no'
    where
      by_kind : (k : ClassKind) → is_reference_kind k ≡ false → has_objects k ≡ true
      by_kind class_kind.Plain f = absurd (cc f)
      by_kind class_kind.Abstract f = absurd (cc f)
      by_kind class_kind.Interface f = absurd (cc f)
      by_kind class_kind.Struct f = refl
      by_kind class_kind.Delegate f = absurd (cc f)

      by_top : (top : TNode TExpr) → top_of t ≡ top → has_count_top p top ≡ true → is_reference_top p t top ≡ false → (may_be_exact_top p t top ≡ true) × (element_in_top top ≡ None)
      by_top (Node head.Int32 parts) is c f = (refl, refl)
      by_top (Node head.Int64 parts) is c f = (refl, refl)
      by_top (Node head.Bool parts) is c f = (refl, refl)
      by_top (Node head.Vector parts) is c f = absurd (cc f)
      by_top (Node (head.Class number) parts) is c f = (by_class (class_of p t) refl f, refl)
        where
          there : class_of p t ≡ slice_get p.classes number
          there = ap (λ top. option_and_then (λ k. slice_get p.classes k) (class_in_top top)) is

          -- the class of strings is no struct
          no_string : (d : ClassDef) → class_of p t ≡ Some d → is_reference_kind d.kind ≡ false → (number == 1) ≡ false
          no_string d at g = by_test (number == 1) refl
            where
              by_test : (b : Bool) → (number == 1) ≡ b → (number == 1) ≡ false
              by_test false e = e
              by_test true e =
                  let one : number ≡ 1 = eqb-true number 1 e in
                  let s : class_of p t ≡ Some (string_class p classes).0 = there ∙ ap (slice_get p.classes) one ∙ sym (class_in_library p 1) ∙ (string_class p classes).1 in
                  let same : d ≡ (string_class p classes).0 = cc (at, s) in
                  let yes : is_reference_kind d.kind ≡ true = ap (λ (z : ClassDef). is_reference_kind z.kind) same ∙ ap is_reference_kind (string_class p classes).4 in
                  absurd (cc (yes, g))

          by_class : (o : Option ClassDef) → class_of p t ≡ o → is_reference_class o ≡ false → (has_objects_in p o && not (number == 1)) ≡ true
          by_class None at g = let none : has_count_in (slice_get p.classes number) parts ≡ false = ap (λ o. has_count_in o parts) (sym there ∙ at) in absurd (cc (none, c))
          by_class (Some d) at g = rw (by_kind d.kind g, no_string d at g) refl
      by_top (ClassVar k) is c f = absurd (let never : k < 0 = below_class_var 0 0 k (subst IsClosed (tree_of-is t (ClassVar k) is) (plain_closed t plain')) in omega (arith, never))
      by_top (MethodVar k) is c f = absurd (let never : k < 0 = below_method_var 0 0 k (subst IsClosed (tree_of-is t (MethodVar k) is) (plain_closed t plain')) in omega (arith, never))

  pub exact_type : (t : TExpr) → IsPlainType t → has_counts p t ≡ true → is_reference p t ≡ false → IsExact p t
  exact_type t plain' counts no' = record {
    objects = (value_objects t (counts_first t counts) plain' no').0;
    closed = plain_closed t plain';
    bounds = bounds_plain p (record { of_class = []; of_method = [] }) t plain' ∙ counts;
  }

module _ (p : Program) (ok : IsAccepted p) (classes : PlainClasses p) where
  layouts : EachClass HasLayout p
  layouts = record { each = λ k c is. (ok.typed.first.each k c is).1.0 }

  structs : HasStructs p
  structs = record { built = ok.built; classes = classes; layout = layouts }

  pub boxed_named : (t : TExpr) → IsPlainType t → has_counts p t ≡ true → is_reference p t ≡ false → IsBoxed p t
  boxed_named t plain' counts no' =
      let x : IsExact p t = exact_type p classes t plain' counts no' in
      record { exact = x; no_vector = (value_objects p classes t (counts_first p classes t counts) plain' no').1; same = boxed_same p structs t plain' (exact_value p classes t x no') }

  -- ---- what may be measured

  module _ (n : Naming Mention TExpr) (s : Site) (i : IsInstance p n s.frame.method s.definition) where
    pub measures_well : MeasuresWell p s
    measures_well = record { each = by_type }
      where
        put : (t : TExpr) → put_type s.frame.method t ≡ t
        put t = put_any p ok n s.frame.method s.definition i t

        vector_type : (t : TExpr) → is_some (element_of t) ≡ true → (stack.Kind t ≡ stack.Null) ⊎ ((v : TExpr) × WideSort p (sort_of p s.frame.method (stack.Kind t)) (Words kind.Reference (Ref v ∷ [])) × (passes_as p (plain 1) v ≡ false))
        vector_type t e = by_element (element_of t) refl e
          where
            by_element : (o : Option TExpr) → element_of t ≡ o → is_some o ≡ true → (stack.Kind t ≡ stack.Null) ⊎ ((v : TExpr) × WideSort p (sort_of p s.frame.method (stack.Kind t)) (Words kind.Reference (Ref v ∷ [])) × (passes_as p (plain 1) v ≡ false))
            by_element None is f = absurd (cc f)
            by_element (Some b) is f = inr (t, wide_is p (sort_of p s.frame.method (stack.Kind t)) (Words kind.Reference (Ref t ∷ [])) (ap (value_sort p) (put t) ∙ reference_sort p t (vector_reference p t b is)), string_no_vector p classes t b is)

        by_type : (a : StackType) → is_vector (view_of p s.definition) a ≡ true → (a ≡ stack.Null) ⊎ ((v : TExpr) × WideSort p (sort_of p s.frame.method a) (Words kind.Reference (Ref v ∷ [])) × (passes_as p (plain 1) v ≡ false))
        by_type stack.Int32 e = absurd (cc e)
        by_type stack.Int64 e = absurd (cc e)
        by_type stack.Native e = absurd (cc e)
        by_type stack.Null e = inl refl
        by_type (stack.Kind t) e = vector_type t e
        by_type (stack.Boxed t) e =
            let none : list_any is_vector_type (bounds_of (scope_of p s.definition) t) ≡ false =
            ap (list_any is_vector_type) (no_bounds p classes (scope_of p s.definition) (vars_none p ok s.definition.owner) (ok.built.methods s.frame.method.method s.definition i.is).vars t) in
            absurd (cc (none, e))
        by_type (stack.Pointer t) e = absurd (cc e)
