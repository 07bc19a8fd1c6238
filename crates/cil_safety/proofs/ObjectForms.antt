-- Forms on references: throws, casts and tests, boxes, prints and joins.
use Rattle.std.proofs.Common.{◌≡◌, ℕ, suc, List, [], ◌∷◌, Bool, true, false, Some, None, refl, sym, subst, eqb-true}
use Rattle.std.specs.Prelude.{◌==◌, if◌then◌else◌}
use Rattle.type_tree.specs.declared.tree.TExpr.{TExpr}
use Rattle.type_tree.specs.declared.tree.TNode.{TNode}
use Rattle.type_tree.specs.declared.tree.TNode.TheVariants.{Node, ClassVar, MethodVar}
use Rattle.type_tree.specs.declared.tree.Head.TheVariants as head
use Rattle.type_tree.specs.Tree.{top_of}
use Rattle.type_tree.proofs.SubstitutionLemmas.{substituted-node}
use Rattle.il_model.specs.declared.program.Program.{Program}
use Rattle.il_model.specs.declared.layout.MethodTree.{MethodTree}
use Rattle.il_model.specs.Entries.{arguments_of}
use Rattle.il_model.specs.Kinds.{is_reference, is_reference_top}
use Rattle.il_model.specs.Library.{plain}
use Rattle.interaction.specs.Process.{Naming}
use Rattle.store_object.specs.Store.{Store}
use Rattle.store_object.specs.Growth.{Grows}
use Rattle.store_object.proofs.StoreLaws.{grows_self}
use Rattle.cil_flow.specs.declared.state.StackType.{StackType}
use Rattle.cil_flow.specs.declared.state.StackType.TheVariants as stack
use Rattle.cil_verify.specs.Places.{View, view_of}
use Rattle.cil_verify.specs.Fits.{fits, is_object, reference_to}
use Rattle.cil_verify.specs.Admits.{Operands, take_one, push}
use Rattle.cil_meaning.specs.Values.{Kind, Value, Plain, Managed}
use Rattle.cil_meaning.specs.Values as kind
use Rattle.cil_meaning.specs.Naming.{Mention, IsNaming, put_type}
use Rattle.cil_meaning.specs.Types.{is_bool, is_bool_top, passes_as}
use Rattle.cil_meaning.specs.Replies.{Left}
use Rattle.cil_meaning.specs.Search.{null_reference, invalid_cast}
use Rattle.cil_meaning.specs.Site.{Site, goes, throws}
use Rattle.cil_meaning.specs.Pieces.{pops, as_reference, not_null, types, spells}
use Rattle.cil_meaning.specs.Boxes.{boxes, pushes_reference, casts, unboxes}
use Rattle.cil_meaning.specs.Groups.{Casts, Tests}
use Rattle.cil_meaning.specs.Boxes as box_forms
use Rattle.cil_meaning.specs.Meaning.{searches_from, on_throw}
use Rattle.cil_safety.proofs.Sorts.{Scalar, Ref, BoxOf, Nil, Sort, Words, boxed_scalar, sort_of, sorts_of}
use Rattle.cil_safety.proofs.Fit.{Holds, WideSort, ObjectOf, BoxTo, no_box, box, WordFits, ValueFits, ValuesFit, GoesOn}
use Rattle.cil_safety.proofs.Words.{object_later, value_wide, values_later}
use Rattle.cil_safety.proofs.Types.{put_reference, reference_sort}
use Rattle.cil_safety.proofs.Pieces.{HasHandlers, exception, IntoType, as_is, low, IsFault, Sits, Runs, sits_later, goes_to_fits, by_if, popped, reference_popped, null_or, spelled, search_fits, throws_fit}
use Rattle.cil_safety.proofs.CallPieces.{FitsTypes}
use Rattle.cil_safety.proofs.Straight.{HasFaults}
use Rattle.cil_safety.proofs.References.{Refers, nowhere, to_object, to_string, Passes, ref_refers, refers_ref, Anything, IsRefScalar, ref, nil, word_refers, boxed_is_ref, types_fit}

-- exceptions are objects, and no string is one
pub record HasExceptions (p : Program) : Type 0 where
  pub reference : is_reference p exception ≡ true
  pub no_string : passes_as p (plain 1) exception ≡ false

-- Only a type itself passes as it, where it is no reference type; strings are a reference type.
pub record HasCasts (p : Program) : Type 0 where
  pub only : (e t : TExpr) → is_reference p t ≡ false → passes_as p e t ≡ true → e ≡ t
  pub text : is_reference p (plain 1) ≡ true

module _ (p : Program) where
  -- a library's class has no variables
  pub plain_put : (m : MethodTree) (k : ℕ) → put_type m (plain k) ≡ plain k
  plain_put m k = substituted-node (arguments_of m.class) m.args (head.Class k) []

  pub bool_no_reference : (t : TExpr) → is_bool t ≡ true → is_reference p t ≡ true → ⊥
  bool_no_reference t e f = by_top (top_of t) e f
    where
      by_top : (top : TNode TExpr) → is_bool_top top ≡ true → is_reference_top p t top ≡ true → ⊥
      by_top (Node head.Int32 parts) e' f' = cc e'
      by_top (Node head.Int64 parts) e' f' = cc e'
      by_top (Node head.Bool parts) e' f' = cc f'
      by_top (Node head.Vector parts) e' f' = cc e'
      by_top (Node (head.Class number) parts) e' f' = cc e'
      by_top (ClassVar k) e' f' = cc e'
      by_top (MethodVar k) e' f' = cc e'

  -- what goes into a reference type is a reference to it
  pub into_reference : (s : Sort) (t : TExpr) → is_reference p t ≡ true → IntoType p s t → WideSort p s (Words kind.Reference (Ref t ∷ []))
  into_reference s t r (as_is w) = subst (λ z. WideSort p s z) (reference_sort p t r) w
  into_reference s t r (low is e) = absurd (bool_no_reference t is r)

  -- what a stack type is that holds an object
  pub record IsOneReference (s : Sort) : Type 0 where
    pub scalar : Scalar
    pub is : s ≡ Words kind.Reference (scalar ∷ [])
    pub reference : IsRefScalar scalar

  pub object_scalar : (m : MethodTree) (a : StackType) → is_object p a ≡ true → IsOneReference (sort_of p m a)
  object_scalar m stack.Int32 e = absurd (cc e)
  object_scalar m stack.Int64 e = absurd (cc e)
  object_scalar m stack.Native e = absurd (cc e)
  object_scalar m stack.Null e = record { scalar = Nil; is = refl; reference = nil }
  object_scalar m (stack.Kind t) e = record { scalar = Ref (put_type m t); is = reference_sort p (put_type m t) (put_reference p m t e); reference = ref }
  object_scalar m (stack.Boxed t) e = record { scalar = boxed_scalar p (put_type m t); is = refl; reference = boxed_is_ref p (put_type m t) }
  object_scalar m (stack.Pointer t) e = absurd (cc e)

module _ (p : Program) (n : Naming Mention TExpr) (names : IsNaming n) (handlers : HasHandlers p n) (faults : HasFaults p) where
  module _ (u : ℕ) (x : Store) (s : Site) (h : Holds) (hs : List Holds) (c : Sits p n names x s h hs) where
    abbrev pub m : MethodTree
    m = s.frame.method

    abbrev pub view : View
    view = view_of p s.definition

    abbrev pub Fit : List StackType → List Value → Type 0
    Fit os vs = ValuesFit p n x (h ∷ hs) (sorts_of p s.frame.method os) vs

    abbrev pub Goes : List StackType → Type 0
    Goes os = GoesOn p n s.frame.method s.definition (suc s.frame.at) (sorts_of p s.frame.method os)

    -- a fault, also after other requests
    pub fault_later : (y : Store) (class : ℕ) → IsFault p class → Grows x y → Runs p n names u y (throws p s class)
    fault_later y class fault g = throws_fit p n names handlers u y s h hs class fault (sits_later p n names x y s h hs g c)

    -- goes on with one value more
    pub more_fits : (y : Store) (a : StackType) (v : Value) (os : List StackType) (vs : List Value) → Grows x y → ValueFits p n y (h ∷ hs) (sort_of p s.frame.method a) v → Fit os vs → Goes (a ∷ os) → Runs p n names u y (goes s (v ∷ vs))
    more_fits y a v os vs g fv fs go = goes_to_fits p n names u y s h hs (suc s.frame.at) (sorts_of p s.frame.method (a ∷ os)) (v ∷ vs) (sits_later p n names x y s h hs g c) go (fv, values_later p n x y (h ∷ hs) (sorts_of p s.frame.method os) vs g fs)

    -- ---- `throw`

    pub throws_row : HasExceptions p → FitsTypes p s.definition s.frame.method → (os out : Operands) (vs : List Value) → take_one (fits (view_of p s.definition) exception) Some os ≡ Some out → Fit os vs → Runs p n names u x (on_throw p s vs)
    throws_row exceptions well [] out vs e fit = absurd (cc e)
    throws_row exceptions well (a ∷ os) out vs e fit = by_test (fits (view_of p s.definition) exception a) refl e
      where
        put_is : put_type s.frame.method exception ≡ exception
        put_is = plain_put p s.frame.method 2

        by_test : (b : Bool) → fits (view_of p s.definition) exception a ≡ b → (if b then Some os else None) ≡ Some out → Runs p n names u x (on_throw p s vs)
        by_test false is e' = absurd (cc e')
        by_test true is e' =
            let into : IntoType p (sort_of p s.frame.method a) exception = subst (λ z. IntoType p (sort_of p s.frame.method a) z) put_is (well.into exception a is) in
            let wide : WideSort p (sort_of p s.frame.method a) (Words kind.Reference (Ref exception ∷ [])) = into_reference p (sort_of p s.frame.method a) exception exceptions.reference into in
            popped p n names u x (h ∷ hs) (sort_of p s.frame.method a) (sorts_of p s.frame.method os) vs (λ v ws. as_reference v (λ w. not_null w (throws p s null_reference) (types p w (searches_from p s w)))) fit (λ v ws fv fs.
            reference_popped p n names u x (h ∷ hs) (Ref exception) v (λ w. not_null w (throws p s null_reference) (types p w (searches_from p s w))) (value_wide p n x (h ∷ hs) (sort_of p s.frame.method a) (Words kind.Reference (Ref exception ∷ [])) v wide fv) (λ w fw.
            null_or p n names u x w (throws p s null_reference) (types p w (searches_from p s w)) (fault_later x null_reference faults.null_reference (grows_self x)) (λ some.
            types_fit p n names u x (Passes p n exception) w (searches_from p s w) (ref_refers p n x exception w fw) some
            (λ y k o g pass. search_fits p n names handlers u y k (record { object = w; kind = o.shape.kind }) s h hs (record { tree = o.tree; is = object_later p n g o; thrown = pass }) (sits_later p n names x y s h hs g c))
            (λ text pass. absurd (cc (pass, exceptions.no_string))))))

    -- ---- casts

    -- a reference that passes as a type, or null, is what a cast to it leaves
    pub cast_value : HasCasts p → (y : Store) (t : TExpr) (w : ℕ) → Refers p n y (Passes p n (put_type s.frame.method t)) w → ValueFits p n y (h ∷ hs) (sort_of p s.frame.method (reference_to p t)) (Plain kind.Reference (w ∷ []))
    cast_value cast y t w r = by_test (is_reference p t) refl
      where
        by_box : (b : Bool) → is_reference p (put_type s.frame.method t) ≡ b → WordFits p n y (if b then Ref (put_type s.frame.method t) else BoxOf (put_type s.frame.method t)) w
        by_box true e = refers_ref p n y (put_type s.frame.method t) w r
        by_box false e = boxed r
          where
            boxed : Refers p n y (Passes p n (put_type s.frame.method t)) w → BoxTo p n y (put_type s.frame.method t) w
            boxed (nowhere z) = no_box z
            boxed (to_object k o pass) = box (subst (λ z. ObjectOf p n y z w) (cast.only k (put_type s.frame.method t) e pass) o)
            boxed (to_string is pass) =
                let q : is_reference p (put_type s.frame.method t) ≡ true = subst (λ z. is_reference p z ≡ true) (cast.only (plain 1) (put_type s.frame.method t) e pass) cast.text in
                absurd (cc (q, e))

        by_test : (b : Bool) → is_reference p t ≡ b → ValueFits p n y (h ∷ hs) (sort_of p s.frame.method (if b then stack.Kind t else stack.Boxed t)) (Plain kind.Reference (w ∷ []))
        by_test true e = subst (λ z. ValueFits p n y (h ∷ hs) z (Plain kind.Reference (w ∷ []))) (sym (reference_sort p (put_type s.frame.method t) (put_reference p s.frame.method t e))) ((refl, (refers_ref p n y (put_type s.frame.method t) w r, tt)))
        by_test false e = (refl, (by_box (is_reference p (put_type s.frame.method t)) refl, tt))

    -- null and what passes goes on; any other is refused
    pub casts_fit : (t : TExpr) (w : ℕ) (vs : List Value) (refused : Left) → Refers p n x (Anything p n) w → ((y : Store) → Grows x y → Refers p n y (Passes p n (put_type s.frame.method t)) w → Runs p n names u y (pushes_reference p s w vs)) → ((y : Store) → Grows x y → Runs p n names u y refused) → Runs p n names u x (casts p s t w refused vs)
    casts_fit t w vs refused r push' refuse =
        by_if p n names u x (w == 0) (pushes_reference p s w vs) (types p w (λ e. spells e (λ exact. if passes_as p exact (put_type s.frame.method t) then pushes_reference p s w vs else refused)))
        (λ z. push' x (grows_self x) (nowhere (eqb-true w 0 z)))
        (λ nz. types_fit p n names u x (Anything p n) w (λ e. spells e (λ exact. if passes_as p exact (put_type s.frame.method t) then pushes_reference p s w vs else refused)) r (λ z. let q : (w == 0) ≡ true = subst (λ k. (k == 0) ≡ true) (sym z) refl in cc (q, nz))
        (λ y e o g any. spelled p n names u y o.shape.kind e (λ exact. if passes_as p exact (put_type s.frame.method t) then pushes_reference p s w vs else refused) o.tree
        (by_if p n names u y (passes_as p e (put_type s.frame.method t)) (pushes_reference p s w vs) refused
        (λ pass. push' y g (to_object e (object_later p n g o) pass)) (λ no'. refuse y g)))
        (λ is any. by_if p n names u x (passes_as p (plain 1) (put_type s.frame.method t)) (pushes_reference p s w vs) refused
        (λ pass. push' x (grows_self x) (to_string is pass)) (λ no'. refuse x (grows_self x))))

    -- an operand that holds an object, and what is left to do with the reference
    pub object_popped : (a : StackType) (os : List StackType) (vs : List Value) (k : ℕ → List Value → Left) → is_object p a ≡ true → Fit (a ∷ os) vs → ((w : ℕ) (ws : List Value) → Refers p n x (Anything p n) w → Fit os ws → Runs p n names u x (k w ws)) → Runs p n names u x (pops vs (λ v ws. as_reference v (λ w. k w ws)))
    object_popped a os vs k is fit go =
        let one = object_scalar p s.frame.method a is in
        popped p n names u x (h ∷ hs) (sort_of p s.frame.method a) (sorts_of p s.frame.method os) vs (λ v ws. as_reference v (λ w. k w ws)) fit (λ v ws fv fs.
        reference_popped p n names u x (h ∷ hs) one.scalar v (λ w. k w ws) (subst (λ z. ValueFits p n x (h ∷ hs) z v) one.is fv) (λ w fw. go w ws (word_refers p n x one.scalar w one.reference fw) fs))

    pub castclass_row : HasCasts p → (numbers : List ℕ) (t : TExpr) (os out : Operands) (vs : List Value) → take_one (is_object p) (push (reference_to p t)) os ≡ Some out → Fit os vs → Goes out → Runs p n names u x (box_forms.on_box p s numbers (Casts t) vs)
    castclass_row cast numbers t [] out vs e fit g = absurd (cc e)
    castclass_row cast numbers t (a ∷ os) out vs e fit g = by_test (is_object p a) refl e
      where
        by_test : (b : Bool) → is_object p a ≡ b → (if b then Some (reference_to p t ∷ os) else None) ≡ Some out → Runs p n names u x (box_forms.on_box p s numbers (Casts t) vs)
        by_test false is e' = absurd (cc e')
        by_test true is e' =
            let q : reference_to p t ∷ os ≡ out = cc e' in
            object_popped a os vs (λ w ws. casts p s t w (throws p s invalid_cast) ws) is fit (λ w ws r fs.
            casts_fit t w ws (throws p s invalid_cast) r
            (λ y gr r'. more_fits y (reference_to p t) (Plain kind.Reference (w ∷ [])) os ws gr (cast_value cast y t w r') fs (subst (λ z. Goes z) (sym q) g))
            (λ y gr. fault_later y invalid_cast faults.invalid_cast gr))

    pub isinst_row : HasCasts p → (numbers : List ℕ) (t : TExpr) (os out : Operands) (vs : List Value) → take_one (is_object p) (push (reference_to p t)) os ≡ Some out → Fit os vs → Goes out → Runs p n names u x (box_forms.on_box p s numbers (Tests t) vs)
    isinst_row cast numbers t [] out vs e fit g = absurd (cc e)
    isinst_row cast numbers t (a ∷ os) out vs e fit g = by_test (is_object p a) refl e
      where
        by_test : (b : Bool) → is_object p a ≡ b → (if b then Some (reference_to p t ∷ os) else None) ≡ Some out → Runs p n names u x (box_forms.on_box p s numbers (Tests t) vs)
        by_test false is e' = absurd (cc e')
        by_test true is e' =
            let q : reference_to p t ∷ os ≡ out = cc e' in
            object_popped a os vs (λ w ws. casts p s t w (pushes_reference p s 0 ws) ws) is fit (λ w ws r fs.
            casts_fit t w ws (pushes_reference p s 0 ws) r
            (λ y gr r'. more_fits y (reference_to p t) (Plain kind.Reference (w ∷ [])) os ws gr (cast_value cast y t w r') fs (subst (λ z. Goes z) (sym q) g))
            (λ y gr. more_fits y (reference_to p t) (Plain kind.Reference (0 ∷ [])) os ws gr (cast_value cast y t 0 (nowhere refl)) fs (subst (λ z. Goes z) (sym q) g)))
