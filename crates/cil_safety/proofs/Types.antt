-- How sorts go with types: what substitution keeps, and how a type stands on the stack.
use Rattle.std.proofs.Common.{◌≡◌, ℕ, List, [], ◌∷◌, true, false, Option, Some, None, refl, sym, ap, ◌∙◌, subst}
use Rattle.std.specs.Prelude.{map, option_and_then, slice_get}
use Rattle.type_tree.specs.declared.tree.TExpr.{TExpr}
use Rattle.type_tree.specs.declared.tree.TNode.{TNode}
use Rattle.type_tree.specs.declared.tree.TNode.TheVariants.{Node, ClassVar, MethodVar}
use Rattle.type_tree.specs.declared.tree.Head.{Head}
use Rattle.type_tree.specs.declared.tree.Head.TheVariants as head
use Rattle.type_tree.specs.Tree.{top_of}
use Rattle.type_tree.proofs.TreeLemmas.{top_of-tree_of, tree_of-is}
use Rattle.type_tree.proofs.SubstitutionLemmas.{substituted-node}
use Rattle.il_model.specs.declared.program.Program.{Program}
use Rattle.il_model.specs.declared.class.ClassKind.{ClassKind}
use Rattle.il_model.specs.declared.class.ClassKind.TheVariants as class_kind
use Rattle.il_model.specs.declared.class.ClassDef.{ClassDef}
use Rattle.il_model.specs.declared.method.PType.{PType}
use Rattle.il_model.specs.declared.method.PType.TheVariants as ptype
use Rattle.il_model.specs.declared.layout.MethodTree.{MethodTree}
use Rattle.il_model.specs.Find.{class_in_top, class_number_of, class_of}
use Rattle.il_model.specs.Kinds.{is_reference_kind, is_reference_class, is_reference_top, is_reference, is_struct_kind, is_struct_class, is_value_top, is_value}
use Rattle.il_model.specs.Layouts.{parts_of}
use Rattle.il_model.specs.Entries.{arguments_of}
use Rattle.cil_flow.specs.declared.state.StackType.{StackType}
use Rattle.cil_flow.specs.declared.state.StackType.TheVariants as stack
use Rattle.cil_verify.specs.Places.{stack_of, stack_in_top, stack_of_place}
use Rattle.cil_verify.specs.Fits.{is_object}
use Rattle.cil_meaning.specs.Values.{Kind}
use Rattle.cil_meaning.specs.Values as kind
use Rattle.cil_meaning.specs.Naming.{put_type}
use Rattle.cil_meaning.specs.Types.{kind_of_class, kind_of_top, kind_of, put_place}
use Rattle.cil_safety.proofs.Sorts.{Scalar, Number32, Number64, Truth, Ref, Nil, Sort, Words, To, scalar_of, scalar_in_top, scalars_of, value_sort, place_sort, boxed_scalar, sort_of}
use Rattle.cil_safety.proofs.Fit.{same, truth, WideWords, WideSort, WideSorts}
use Rattle.cil_safety.proofs.Pieces.{scalars_of_single, parts_none, no_class}

module _ (p : Program) where
  -- ---- what is as wide as itself

  pub wide_words_self : (as' : List Scalar) → WideWords p as' as'
  wide_words_self [] = tt
  wide_words_self (a ∷ as') = (same, wide_words_self as')

  pub wide_self : (s : Sort) → WideSort p s s
  wide_self (Words k as') = (refl, wide_words_self as')
  wide_self (To as') = refl

  pub wide_sorts_self : (ss : List Sort) → WideSorts p ss ss
  wide_sorts_self [] = tt
  wide_sorts_self (s ∷ ss) = (wide_self s, wide_sorts_self ss)

  pub wide_is : (s t : Sort) → s ≡ t → WideSort p s t
  wide_is s t e = subst (λ z. WideSort p s z) e (wide_self s)

  -- ---- substitution keeps the head of a type

  pub put_top : (m : MethodTree) (t : TExpr) (h : Head) (parts : List TExpr) → top_of t ≡ Node h parts → top_of (put_type m t) ≡ Node h (map (put_type m) parts)
  put_top m t h parts e =
      ap (λ z. top_of (put_type m z)) (tree_of-is t (Node h parts) e)
      ∙ ap top_of (substituted-node (arguments_of m.class) m.args h parts)
      ∙ top_of-tree_of (Node h (map (put_type m) parts))

  -- ---- the parts and the kind of a type, by its top

  -- a type of this kind, one word of which is this scalar
  single_sort : (t : TExpr) (k : Kind) (a : Scalar) → kind_of p t ≡ k → parts_of p t ≡ None → scalar_of t ≡ a → value_sort p t ≡ Words k (a ∷ [])
  single_sort t k a e f g = ap (λ z. Words z (scalars_of p t)) e ∙ ap (Words k) (scalars_of_single p t f) ∙ ap (λ z. Words k (z ∷ [])) g

  pub int32_sort : (t : TExpr) (parts : List TExpr) → top_of t ≡ Node head.Int32 parts → value_sort p t ≡ Words kind.Int32 (Number32 ∷ [])
  int32_sort t parts e = single_sort t kind.Int32 Number32 (ap (kind_of_top p t) e) (parts_none p t (no_class p t (Node head.Int32 parts) e refl)) (ap (scalar_in_top t) e)

  pub int64_sort : (t : TExpr) (parts : List TExpr) → top_of t ≡ Node head.Int64 parts → value_sort p t ≡ Words kind.Int64 (Number64 ∷ [])
  int64_sort t parts e = single_sort t kind.Int64 Number64 (ap (kind_of_top p t) e) (parts_none p t (no_class p t (Node head.Int64 parts) e refl)) (ap (scalar_in_top t) e)

  pub bool_sort : (t : TExpr) (parts : List TExpr) → top_of t ≡ Node head.Bool parts → value_sort p t ≡ Words kind.Int32 (Truth ∷ [])
  bool_sort t parts e = single_sort t kind.Int32 Truth (ap (kind_of_top p t) e) (parts_none p t (no_class p t (Node head.Bool parts) e refl)) (ap (scalar_in_top t) e)

  pub vector_sort : (t : TExpr) (parts : List TExpr) → top_of t ≡ Node head.Vector parts → value_sort p t ≡ Words kind.Reference (Ref t ∷ [])
  vector_sort t parts e = single_sort t kind.Reference (Ref t) (ap (kind_of_top p t) e) (parts_none p t (no_class p t (Node head.Vector parts) e refl)) (ap (scalar_in_top t) e)

  -- a class whose objects go by reference is no struct
  not_struct : (c : Option ClassDef) → is_reference_class c ≡ true → is_struct_class c ≡ false
  not_struct None e = absurd (cc e)
  not_struct (Some c) e = by_kind c.kind e
    where
      by_kind : (k : ClassKind) → is_reference_kind k ≡ true → is_struct_kind k ≡ false
      by_kind class_kind.Plain e' = refl
      by_kind class_kind.Abstract e' = refl
      by_kind class_kind.Interface e' = refl
      by_kind class_kind.Struct e' = absurd (cc e')
      by_kind class_kind.Delegate e' = refl

  class_sort : (t : TExpr) (number : ℕ) (parts : List TExpr) → top_of t ≡ Node (head.Class number) parts → is_struct_class (class_of p t) ≡ false → value_sort p t ≡ Words kind.Reference (Ref t ∷ [])
  class_sort t number parts e no' =
      let v : is_value p t ≡ false = ap (is_value_top p t) e ∙ no' in
      single_sort t kind.Reference (Ref t) (ap (kind_of_top p t) e ∙ ap kind_of_class v) (parts_none p t no') (ap (scalar_in_top t) e)

  -- a reference type is one word, a reference
  pub reference_sort : (t : TExpr) → is_reference p t ≡ true → value_sort p t ≡ Words kind.Reference (Ref t ∷ [])
  reference_sort t e = by_top (top_of t) refl e
    where
      by_top : (top : TNode TExpr) → top_of t ≡ top → is_reference_top p t top ≡ true → value_sort p t ≡ Words kind.Reference (Ref t ∷ [])
      by_top (Node head.Int32 parts) is e' = absurd (cc e')
      by_top (Node head.Int64 parts) is e' = absurd (cc e')
      by_top (Node head.Bool parts) is e' = absurd (cc e')
      by_top (Node head.Vector parts) is e' = vector_sort t parts is
      by_top (Node (head.Class number) parts) is e' = class_sort t number parts is (not_struct (class_of p t) e')
      by_top (ClassVar k) is e' = absurd (cc e')
      by_top (MethodVar k) is e' = absurd (cc e')

  -- a type with arguments put is a reference type where it was one
  pub put_reference : (m : MethodTree) (t : TExpr) → is_reference p t ≡ true → is_reference p (put_type m t) ≡ true
  put_reference m t e = by_top (top_of t) refl e
    where
      by_top : (top : TNode TExpr) → top_of t ≡ top → is_reference_top p t top ≡ true → is_reference p (put_type m t) ≡ true
      by_top (Node head.Int32 parts) is e' = absurd (cc e')
      by_top (Node head.Int64 parts) is e' = absurd (cc e')
      by_top (Node head.Bool parts) is e' = absurd (cc e')
      by_top (Node head.Vector parts) is e' = ap (is_reference_top p (put_type m t)) (put_top m t head.Vector parts is)
      by_top (Node (head.Class number) parts) is e' =
          let top' : top_of (put_type m t) ≡ Node (head.Class number) (map (put_type m) parts) = put_top m t (head.Class number) parts is in
          let old : class_number_of t ≡ Some number = ap class_in_top is in
          let new : class_number_of (put_type m t) ≡ Some number = ap class_in_top top' in
          let c : class_of p (put_type m t) ≡ class_of p t = ap (option_and_then (λ k. slice_get p.classes k)) (new ∙ sym old) in
          ap (is_reference_top p (put_type m t)) top' ∙ ap is_reference_class c ∙ e'
      by_top (ClassVar k) is e' = absurd (cc e')
      by_top (MethodVar k) is e' = absurd (cc e')

  -- what a stack type is that holds an object: one word, a reference of some scalar
  pub object_sort : (m : MethodTree) (a : StackType) → is_object p a ≡ true → (c : Scalar) × (sort_of p m a ≡ Words kind.Reference (c ∷ []))
  object_sort m stack.Int32 e = absurd (cc e)
  object_sort m stack.Int64 e = absurd (cc e)
  object_sort m stack.Native e = absurd (cc e)
  object_sort m stack.Null e = (Nil, refl)
  object_sort m (stack.Kind t) e = (Ref (put_type m t), reference_sort (put_type m t) (put_reference m t e))
  object_sort m (stack.Boxed t) e = (boxed_scalar p (put_type m t), refl)
  object_sort m (stack.Pointer t) e = absurd (cc e)

  -- a value of a type, with the arguments put, is one of its stack type
  pub stands : (m : MethodTree) (t : TExpr) → WideSort p (value_sort p (put_type m t)) (sort_of p m (stack_of t))
  stands m t = by_top (top_of t) refl
    where
      by_top : (top : TNode TExpr) → top_of t ≡ top → WideSort p (value_sort p (put_type m t)) (sort_of p m (stack_in_top t top))
      by_top (Node head.Int32 parts) is = wide_is (value_sort p (put_type m t)) (Words kind.Int32 (Number32 ∷ [])) (int32_sort (put_type m t) (map (put_type m) parts) (put_top m t head.Int32 parts is))
      by_top (Node head.Int64 parts) is = wide_is (value_sort p (put_type m t)) (Words kind.Int64 (Number64 ∷ [])) (int64_sort (put_type m t) (map (put_type m) parts) (put_top m t head.Int64 parts is))
      by_top (Node head.Bool parts) is = subst (λ z. WideSort p z (Words kind.Int32 (Number32 ∷ []))) (sym (bool_sort (put_type m t) (map (put_type m) parts) (put_top m t head.Bool parts is))) (refl, (truth, tt))
      by_top (Node head.Vector parts) is = wide_self (value_sort p (put_type m t))
      by_top (Node (head.Class number) parts) is = wide_self (value_sort p (put_type m t))
      by_top (ClassVar k) is = wide_self (value_sort p (put_type m t))
      by_top (MethodVar k) is = wide_self (value_sort p (put_type m t))

  -- what a place holds, with the arguments put, is of the stack type of the place
  pub place_stands : (m : MethodTree) (t : PType) → WideSort p (place_sort p (put_place m t)) (sort_of p m (stack_of_place t))
  place_stands m (ptype.Value t) = stands m t
  place_stands m (ptype.Pointer t) = refl
  place_stands m ptype.Native = wide_self (place_sort p ptype.Native)
