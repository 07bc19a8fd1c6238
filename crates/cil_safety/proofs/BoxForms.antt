-- Boxes, prints, names of types and joins.
use Rattle.std.proofs.Common.{◌≡◌, ℕ, suc, ◌≤◌, List, [], ◌∷◌, length, Bool, true, false, Some, None, refl, sym, ap, ◌∙◌, subst, arith, eqb-true}
use Rattle.std.proofs.lemmas.Bool.Decides.{nat_tests}
use Rattle.std.specs.Prelude.{◌==◌, nat_lt, if◌then◌else◌, slice_get}
use Rattle.type_tree.specs.declared.tree.TExpr.{TExpr}
use Rattle.type_tree.specs.declared.tree.Head.{Head}
use Rattle.type_tree.specs.declared.tree.Head.TheVariants as head
use Rattle.type_tree.specs.declared.tree.TNode.TheVariants.{Node}
use Rattle.type_tree.proofs.TreeLemmas.{top_of-tree_of}
use Rattle.type_tree.proofs.SubstitutionLemmas.{substituted-node}
use Rattle.il_model.specs.declared.program.Program.{Program}
use Rattle.il_model.specs.declared.entry.Entry.TheVariants as entry
use Rattle.il_model.specs.declared.layout.MethodTree.{MethodTree}
use Rattle.il_model.specs.Entries.{arguments_of, type_entries}
use Rattle.il_model.specs.Kinds.{is_reference}
use Rattle.il_model.specs.Layouts.{words_of}
use Rattle.il_model.specs.Library.{plain}
use Rattle.cil_verify.specs.Rows.{plain_head}
use Rattle.il_model.specs.Assignable.{element_of}
use Rattle.interaction.specs.Process.{Naming, Next, Ask, Stuck}
use Rattle.store_object.specs.declared.place.Place.TheVariants as at
use Rattle.store_object.specs.declared.request.Form.{Form}
use Rattle.store_object.specs.declared.request.Form.TheVariants as printed
use Rattle.store_object.specs.declared.request.Request.TheVariants as ask
use Rattle.store_object.specs.Store.{Store}
use Rattle.store_object.specs.Growth.{Grows}
use Rattle.store_object.proofs.StoreLaws.{grows_self, grows_then}
use Rattle.cil_flow.specs.declared.state.StackType.{StackType}
use Rattle.cil_flow.specs.declared.state.StackType.TheVariants as stack
use Rattle.cil_verify.specs.Places.{view_of, stack_of}
use Rattle.cil_verify.specs.Fits.{is_int32, fits, is_object, reference_to}
use Rattle.cil_verify.specs.Admits.{Operands, take_one, push}
use Rattle.cil_meaning.specs.Words.{low_32}
use Rattle.cil_meaning.specs.Values.{Kind, Value, Plain, Managed, same_kind}
use Rattle.cil_meaning.specs.Values as kind
use Rattle.cil_meaning.specs.Naming.{Mention, OfEntry, IsNaming, put_type, strings_from}
use Rattle.cil_meaning.specs.Types.{kind_of, is_bool, is_bool_top, passes_as}
use Rattle.cil_meaning.specs.Replies.{Left, on_done, on_ended}
use Rattle.cil_meaning.specs.Search.{null_reference, invalid_cast, index_out_of_range}
use Rattle.cil_meaning.specs.Site.{Site, frames_of, goes, throws}
use Rattle.cil_meaning.specs.Pieces.{Numbered, pops, as_reference, as_string, loads, saves, types}
use Rattle.cil_meaning.specs.Boxes.{boxes, boxes_as, unboxes, unboxes_as, pushes_reference, on_box}
use Rattle.cil_meaning.specs.LibraryCalls.{word_of_kind, judges, on_library}
use Rattle.cil_meaning.specs.Groups.{Boxes, Unboxes, Prints, Joins}
use Rattle.cil_safety.proofs.Sorts.{Scalar, Number32, Number64, Ref, BoxOf, Sort, Words, scalars_of, instance_scalars_of, value_sort, sort_of, sorts_of}
use Rattle.cil_safety.proofs.Fit.{Spans, Holds, WideSort, IsExact, ObjectOf, size_by, RefTo, null, object, string, box, WordFits, WordsFit, ValueFits, ValuesFit, GoesOn, FramesFit, scalar_at}
use Rattle.cil_safety.proofs.Words.{object_later, words_later, value_wide, values_later, as_long}
use Rattle.cil_safety.proofs.Requests.{alloc, load_words, save_words, along_object, print}
use Rattle.cil_safety.proofs.Types.{put_reference, reference_sort, stands, int32_sort, int64_sort}
use Rattle.cil_safety.proofs.Pieces.{HasHandlers, IntoType, as_is, low, Settled, Sits, Runs, sits_later, goes_to_fits, frames_later, length-scalars_of, by_if, where_given, where_true, popped, word_popped, keeps_fits, null_or, same_kind_is}
use Rattle.cil_safety.proofs.CallPieces.{FitsTypes}
use Rattle.cil_safety.proofs.Straight.{HasFaults, int32_is}
use Rattle.cil_safety.proofs.References.{Refers, Anything, refers_ref, where_false, string_fits, string_high, types_fit, ended_is}
use Rattle.cil_safety.proofs.ObjectForms.{HasCasts, plain_put, into_reference, fault_later, more_fits, casts_fit, object_popped}
use Rattle.cil_safety.proofs.ObjectWords.{object_spans, length-instance_scalars}
use Rattle.cil_safety.proofs.Pointers.{pushes_fit}
use Rattle.cil_safety.proofs.CallForms.{HasNumber, numbered}

-- A type whose values are put into boxes: objects may be of it, and a box has the words of a value.
pub record IsBoxed (p : Program) (t : TExpr) : Type 0 where
  pub exact : IsExact p t
  pub no_vector : element_of t ≡ None
  pub same : instance_scalars_of p t ≡ scalars_of p t

-- no object is a string
pub record HasTexts (p : Program) : Type 0 where
  pub reference : is_reference p (plain 1) ≡ true
  pub no_object : (e : TExpr) → IsExact p e → passes_as p e (plain 1) ≡ false

module _ (p : Program) where
  pub into_scalar : (s : Sort) (t : TExpr) (k : Kind) (a : Scalar) → value_sort p t ≡ Words k (a ∷ []) → is_bool t ≡ false → IntoType p s t → WideSort p s (Words k (a ∷ []))
  into_scalar s t k a is no' (as_is w) = subst (λ z. WideSort p s z) is w
  into_scalar s t k a is no' (low b e) = absurd (cc (b, no'))

  pub scalar_put : (m : MethodTree) (h : Head) → put_type m (plain_head h) ≡ plain_head h
  scalar_put m h = substituted-node (arguments_of m.class) m.args h []

module _ (p : Program) (n : Naming Mention TExpr) (names : IsNaming n) (handlers : HasHandlers p n) (faults : HasFaults p) where
  -- a number has one tree
  one_tree : (v : ℕ) (s t : TExpr) → n.tree_at v ≡ Some s → n.tree_at v ≡ Some t → s ≡ t
  one_tree v s t e f = cc (e, f)

  module _ (u : ℕ) (x : Store) (s : Site) (h : Holds) (hs : List Holds) (c : Sits p n names x s h hs) (nums : List ℕ) where
    abbrev pub Fit : List StackType → List Value → Type 0
    Fit os vs = ValuesFit p n x (h ∷ hs) (sorts_of p s.frame.method os) vs

    abbrev pub Goes : List StackType → Type 0
    Goes os = GoesOn p n s.frame.method s.definition (suc s.frame.at) (sorts_of p s.frame.method os)

    abbrev pub Here : TExpr → TExpr
    Here t = put_type s.frame.method t

    -- goes on after requests, with no value more
    plainly_later : (y : Store) (os : List StackType) (ws : List Value) → Grows x y → Fit os ws → Goes os → Runs p n names u y (goes s ws)
    plainly_later y os ws gr fs g = goes_to_fits p n names u y s h hs (suc s.frame.at) (sorts_of p s.frame.method os) ws (sits_later p n names x y s h hs gr c) g (values_later p n x y (h ∷ hs) (sorts_of p s.frame.method os) ws gr fs)

    tree_of_type : (t : TExpr) → Settled p n names s.frame.method (type_entries p t) nums → HasNumber p n names s.frame.method (entry.Kind t) nums 0
    tree_of_type t sets = numbered p n names s.frame.method (type_entries p t) nums 0 (entry.Kind t) sets refl

    -- ---- boxes

    -- what `box` leaves: the reference itself, or a box of the type
    boxed_reference : (t : TExpr) → is_reference p (Here t) ≡ true → sort_of p s.frame.method (reference_to p t) ≡ Words kind.Reference (Ref (Here t) ∷ [])
    boxed_reference t e = by_test (is_reference p t)
      where
        by_test : (b : Bool) → sort_of p s.frame.method (if b then stack.Kind t else stack.Boxed t) ≡ Words kind.Reference (Ref (Here t) ∷ [])
        by_test true = reference_sort p (Here t) e
        by_test false = ap (λ b. Words kind.Reference ((if b then Ref (Here t) else BoxOf (Here t)) ∷ [])) e

    boxed_value : (t : TExpr) → is_reference p (Here t) ≡ false → sort_of p s.frame.method (reference_to p t) ≡ Words kind.Reference (BoxOf (Here t) ∷ [])
    boxed_value t e = by_test (is_reference p t) refl
      where
        by_test : (b : Bool) → is_reference p t ≡ b → sort_of p s.frame.method (if b then stack.Kind t else stack.Boxed t) ≡ Words kind.Reference (BoxOf (Here t) ∷ [])
        by_test true is = let q : is_reference p (Here t) ≡ true = put_reference p s.frame.method t is in absurd (cc (q, e))
        by_test false is = ap (λ b. Words kind.Reference ((if b then Ref (Here t) else BoxOf (Here t)) ∷ [])) e

    -- the words of a box, from its first on
    box_spans : (y : Store) (t : TExpr) (o : ℕ) → IsBoxed p t → ObjectOf p n y t o → Spans (λ j. scalar_at p n y (at.Object o j)) 0 (scalars_of p t)
    box_spans y t o b is = subst (λ z. Spans (λ j. scalar_at p n y (at.Object o j)) 0 z) b.same (object_spans p n y t o is b.no_vector)

    new_box : (t : TExpr) (v : ℕ) (words : List ℕ) (a : StackType) (os : List StackType) (vs : List Value) → IsBoxed p (Here t) → n.tree_at v ≡ Some (Here t) → WordsFit p n x (scalars_of p (Here t)) words → sort_of p s.frame.method a ≡ Words kind.Reference (BoxOf (Here t) ∷ []) → Fit os vs → Goes (a ∷ os) → Runs p n names u x (boxes v words (λ o. pushes_reference p s o vs))
    new_box t v words a os vs b tree fw is fs g =
        let long : length words ≡ length (scalars_of p (Here t)) = as_long p n x (scalars_of p (Here t)) words fw in
        let size : length words ≡ size_by p (Here t) 0 None = long ∙ ap length (sym b.same) ∙ length-instance_scalars p (Here t) in
        alloc p n u x v 0 (length words) (Here t) (λ o. saves words (at.Object o 0) (pushes_reference p s o vs)) tree b.exact (size ∙ sym (ap (size_by p (Here t) 0) b.no_vector)) (omega arith)
        (λ y o gr made e. save_words p n u y (at.Object o 0) (scalars_of p (Here t)) words (pushes_reference p s o vs) (along_object p n y o 0 (scalars_of p (Here t)) (box_spans y (Here t) o b made)) (words_later p n x y (scalars_of p (Here t)) words gr fw)
        (λ z gr'. more_fits p n names handlers faults u x s h hs c z a (Plain kind.Reference (o ∷ [])) os vs (grows_then x y z gr gr') (subst (λ r. ValueFits p n z (h ∷ hs) r (Plain kind.Reference (o ∷ []))) (sym is) ((refl, (box (object_later p n gr' made), tt)))) fs g))

    pub box_row : FitsTypes p s.definition s.frame.method → (t : TExpr) → (is_reference p (Here t) ≡ false → IsBoxed p (Here t)) → Settled p n names s.frame.method (type_entries p t) nums → (os out : Operands) (vs : List Value) → take_one (fits (view_of p s.definition) t) (push (reference_to p t)) os ≡ Some out → Fit os vs → Goes out → Runs p n names u x (on_box p s nums (Boxes t) vs)
    box_row well t b sets [] out vs e fit g = absurd (cc e)
    box_row well t b sets (a ∷ os) out vs e fit g = by_test (fits (view_of p s.definition) t a) refl e
      where
        num : HasNumber p n names s.frame.method (entry.Kind t) nums 0
        num = tree_of_type t sets

        by_kind : Goes (reference_to p t ∷ os) → IntoType p (sort_of p s.frame.method a) (Here t) → (v : Value) (ws : List Value) → ValueFits p n x (h ∷ hs) (sort_of p s.frame.method a) v → Fit os ws → (k : Bool) → is_reference p (Here t) ≡ k → Runs p n names u x (boxes_as p s k num.number t v ws)
        by_kind g' into v ws fv fs true r = more_fits p n names handlers faults u x s h hs c x (reference_to p t) v os ws (grows_self x) (subst (λ z. ValueFits p n x (h ∷ hs) z v) (sym (boxed_reference t r)) (value_wide p n x (h ∷ hs) (sort_of p s.frame.method a) (Words kind.Reference (Ref (Here t) ∷ [])) v (into_reference p (sort_of p s.frame.method a) (Here t) r into) fv)) fs g'
        by_kind g' into v ws fv fs false r =
            keeps_fits p n names u x (h ∷ hs) (sort_of p s.frame.method a) (Here t) v (λ words. boxes num.number words (λ o. pushes_reference p s o ws)) into fv (λ words fw.
            new_box t num.number words (reference_to p t) os ws (b r) (names.rightly (OfEntry s.frame.method (entry.Kind t)) num.number (Here t) num.value refl) fw (boxed_value t r) fs g')

        by_test : (k : Bool) → fits (view_of p s.definition) t a ≡ k → (if k then Some (reference_to p t ∷ os) else None) ≡ Some out → Runs p n names u x (on_box p s nums (Boxes t) vs)
        by_test false is e' = absurd (cc e')
        by_test true is e' =
            let o : reference_to p t ∷ os ≡ out = cc e' in
            where_given p n names u x (slice_get nums 0) num.number (λ v. pops vs (λ w ws. boxes_as p s (is_reference p (Here t)) v t w ws)) num.is
            (popped p n names u x (h ∷ hs) (sort_of p s.frame.method a) (sorts_of p s.frame.method os) vs (λ w ws. boxes_as p s (is_reference p (Here t)) num.number t w ws) fit (λ v ws fv fs.
            by_kind (subst (λ z. Goes z) (sym o) g) (well.into t a is) v ws fv fs (is_reference p (Here t)) refl))

    pub unbox_row : HasCasts p → (t : TExpr) → (is_reference p (Here t) ≡ false → IsBoxed p (Here t)) → Settled p n names s.frame.method (type_entries p t) nums → (os out : Operands) (vs : List Value) → take_one (is_object p) (push (stack_of t)) os ≡ Some out → Fit os vs → Goes out → Runs p n names u x (on_box p s nums (Unboxes t) vs)
    unbox_row cast t b sets [] out vs e fit g = absurd (cc e)
    unbox_row cast t b sets (a ∷ os) out vs e fit g = by_test (is_object p a) refl e
      where
        num : HasNumber p n names s.frame.method (entry.Kind t) nums 0
        num = tree_of_type t sets

        tree : n.tree_at num.number ≡ Some (Here t)
        tree = names.rightly (OfEntry s.frame.method (entry.Kind t)) num.number (Here t) num.value refl

        opened : Goes (stack_of t ∷ os) → is_reference p (Here t) ≡ false → (w : ℕ) (ws : List Value) → Fit os ws → (y : Store) (k : TExpr) (o : ObjectOf p n x k w) → Grows x y → Runs p n names u y (unboxes p s num.number t w ws (Numbered o.shape.kind))
        opened g' r w ws fs y k o gr =
            by_if p n names u y (o.shape.kind == num.number) (loads (words_of p (Here t)) (at.Object w 0) (λ words. goes s (Plain (kind_of p (Here t)) words ∷ ws))) (throws p s invalid_cast)
            (λ q.
            let same' : o.shape.kind ≡ num.number = eqb-true o.shape.kind num.number q in
            let is : k ≡ Here t = one_tree num.number k (Here t) (subst (λ z. n.tree_at z ≡ Some k) same' o.tree) tree in
            let o' : ObjectOf p n y (Here t) w = subst (λ z. ObjectOf p n y z w) is (object_later p n gr o) in
            subst (λ size. Runs p n names u y (loads size (at.Object w 0) (λ words. goes s (Plain (kind_of p (Here t)) words ∷ ws)))) (length-scalars_of p (Here t))
            (load_words p n u y (at.Object w 0) (scalars_of p (Here t)) (λ words. goes s (Plain (kind_of p (Here t)) words ∷ ws)) (along_object p n y w 0 (scalars_of p (Here t)) (box_spans y (Here t) w (b r) o')) (λ z words gr' fw.
            pushes_fit p n names handlers faults u x s h hs c nums z t os ws words (grows_then x y z gr gr') fs fw g')))
            (λ no'. fault_later p n names handlers faults u x s h hs c y invalid_cast faults.invalid_cast gr)

        by_kind : Goes (stack_of t ∷ os) → (w : ℕ) (ws : List Value) → Refers p n x (Anything p n) w → Fit os ws → (k : Bool) → is_reference p (Here t) ≡ k → Runs p n names u x (unboxes_as p s k num.number t w ws)
        by_kind g' w ws r fs true k =
            casts_fit p n names handlers faults u x s h hs c t w ws (throws p s invalid_cast) r
            (λ y gr r'. more_fits p n names handlers faults u x s h hs c y (stack_of t) (Plain kind.Reference (w ∷ [])) os ws gr
            (value_wide p n y (h ∷ hs) (value_sort p (Here t)) (sort_of p s.frame.method (stack_of t)) (Plain kind.Reference (w ∷ [])) (stands p s.frame.method t) (subst (λ z. ValueFits p n y (h ∷ hs) z (Plain kind.Reference (w ∷ []))) (sym (reference_sort p (Here t) k)) ((refl, (refers_ref p n y (Here t) w r', tt))))) fs g')
            (λ y gr. fault_later p n names handlers faults u x s h hs c y invalid_cast faults.invalid_cast gr)
        by_kind g' w ws r fs false k =
            null_or p n names u x w (throws p s null_reference) (types p w (unboxes p s num.number t w ws)) (fault_later p n names handlers faults u x s h hs c x null_reference faults.null_reference (grows_self x)) (λ some.
            types_fit p n names u x (Anything p n) w (unboxes p s num.number t w ws) r some
            (λ y e' o gr any. opened g' k w ws fs y e' o gr)
            (λ is any. fault_later p n names handlers faults u x s h hs c x invalid_cast faults.invalid_cast (grows_self x)))

        by_test : (k : Bool) → is_object p a ≡ k → (if k then Some (stack_of t ∷ os) else None) ≡ Some out → Runs p n names u x (on_box p s nums (Unboxes t) vs)
        by_test false is e' = absurd (cc e')
        by_test true is e' =
            let o : stack_of t ∷ os ≡ out = cc e' in
            where_given p n names u x (slice_get nums 0) num.number (λ v. pops vs (λ w ws. as_reference w (λ r. unboxes_as p s (is_reference p (Here t)) v t r ws))) num.is
            (object_popped p n names handlers faults u x s h hs c a os vs (λ r ws. unboxes_as p s (is_reference p (Here t)) num.number t r ws) is fit (λ w ws r fs.
            by_kind (subst (λ z. Goes z) (sym o) g) w ws r fs (is_reference p (Here t)) refl))

    -- ---- prints

    printed_word : (form : Form) (k : Kind) (a : Scalar) (b : StackType) (os : List StackType) (vs : List Value) → WideSort p (sort_of p s.frame.method b) (Words k (a ∷ [])) → ((w : ℕ) (q : Left) → WordFits p n x a w → Runs p n names u x q → Runs p n names u x (judges p form w q)) → Fit (b ∷ os) vs → Goes os → Runs p n names u x (on_library p s nums (Prints form k) vs)
    printed_word form k a b os vs wide judge fit g =
        popped p n names u x (h ∷ hs) (sort_of p s.frame.method b) (sorts_of p s.frame.method os) vs (λ v ws. word_of_kind k v (λ w. judges p form w (Ask (ask.Print form w) (on_done (goes s ws))))) fit (λ v ws fv fs.
        word_popped p n names u x (h ∷ hs) k a v (λ other w. if same_kind k other then judges p form w (Ask (ask.Print form w) (on_done (goes s ws))) else Stuck) (value_wide p n x (h ∷ hs) (sort_of p s.frame.method b) (Words k (a ∷ [])) v wide fv) (λ w fw.
        where_true p n names u x (same_kind k k) (judges p form w (Ask (ask.Print form w) (on_done (goes s ws)))) Stuck (same_kind_is p k k refl)
        (judge w (Ask (ask.Print form w) (on_done (goes s ws))) fw
        (print p n u x form w (goes s ws) (λ y gr. plainly_later y os ws gr fs g)))))

    -- a string, or null
    text_judged : HasTexts p → (w : ℕ) (q : Left) → RefTo p n x (plain 1) w → Runs p n names u x q → Runs p n names u x (judges p printed.String w q)
    text_judged texts w q (null z) go = by_if p n names u x (w == 0) q (if nat_lt w strings_from then Stuck else as_string p w q) (λ e. go) (λ e. let t : (w == 0) ≡ true = subst (λ k. (k == 0) ≡ true) (sym z) refl in absurd (cc (t, e)))
    text_judged texts w q (object e o pass) go = absurd (let no' : passes_as p e (plain 1) ≡ false = texts.no_object e o.exact in cc (no', pass))
    text_judged texts w q (string is pass) go =
        let high : strings_from ≤ w = string_high p n names w is in
        let past : nat_lt w strings_from ≡ false = grind (arith, nat_tests) in
        by_if p n names u x (w == 0) q (if nat_lt w strings_from then Stuck else as_string p w q) (λ e. go) (λ e.
        where_false p n names u x (nat_lt w strings_from) Stuck (as_string p w q) past (string_fits p n names u x w q is go))

    taken_one : (t : TExpr) (os out : Operands) → take_one (fits (view_of p s.definition) t) Some os ≡ Some out → (a : StackType) × (os ≡ a ∷ out) × (fits (view_of p s.definition) t a ≡ true)
    taken_one t [] out e = absurd (cc e)
    taken_one t (a ∷ os) out e = by_test (fits (view_of p s.definition) t a) refl e
      where
        by_test : (b : Bool) → fits (view_of p s.definition) t a ≡ b → (if b then Some os else None) ≡ Some out → (a' : StackType) × (a ∷ os ≡ a' ∷ out) × (fits (view_of p s.definition) t a' ≡ true)
        by_test true is e' = let q : os ≡ out = cc e' in (a, ap (λ z. a ∷ z) q, is)
        by_test false is e' = absurd (cc e')

    pub prints_int32 : FitsTypes p s.definition s.frame.method → (os out : Operands) (vs : List Value) → take_one (fits (view_of p s.definition) (plain_head head.Int32)) Some os ≡ Some out → Fit os vs → Goes out → Runs p n names u x (on_library p s nums (Prints printed.Number kind.Int32) vs)
    prints_int32 well os out vs e fit g =
        let k = taken_one (plain_head head.Int32) os out e in
        printed_word printed.Number kind.Int32 Number32 k.0 out vs (into_scalar p (sort_of p s.frame.method k.0) (plain_head head.Int32) kind.Int32 Number32 (int32_sort p (plain_head head.Int32) [] (top_of-tree_of (Node head.Int32 []))) (ap is_bool_top (top_of-tree_of (Node head.Int32 []))) (subst (λ z. IntoType p (sort_of p s.frame.method k.0) z) (scalar_put p s.frame.method head.Int32) (well.into (plain_head head.Int32) k.0 k.2))) (λ w q fw go. go) (subst (λ z. Fit z vs) k.1 fit) g

    pub prints_int64 : FitsTypes p s.definition s.frame.method → (os out : Operands) (vs : List Value) → take_one (fits (view_of p s.definition) (plain_head head.Int64)) Some os ≡ Some out → Fit os vs → Goes out → Runs p n names u x (on_library p s nums (Prints printed.Number kind.Int64) vs)
    prints_int64 well os out vs e fit g =
        let k = taken_one (plain_head head.Int64) os out e in
        printed_word printed.Number kind.Int64 Number64 k.0 out vs (into_scalar p (sort_of p s.frame.method k.0) (plain_head head.Int64) kind.Int64 Number64 (int64_sort p (plain_head head.Int64) [] (top_of-tree_of (Node head.Int64 []))) (ap is_bool_top (top_of-tree_of (Node head.Int64 []))) (subst (λ z. IntoType p (sort_of p s.frame.method k.0) z) (scalar_put p s.frame.method head.Int64) (well.into (plain_head head.Int64) k.0 k.2))) (λ w q fw go. go) (subst (λ z. Fit z vs) k.1 fit) g

    pub prints_text : HasTexts p → FitsTypes p s.definition s.frame.method → (os out : Operands) (vs : List Value) → take_one (fits (view_of p s.definition) (plain 1)) Some os ≡ Some out → Fit os vs → Goes out → Runs p n names u x (on_library p s nums (Prints printed.String kind.Reference) vs)
    prints_text texts well os out vs e fit g =
        let k = taken_one (plain 1) os out e in
        printed_word printed.String kind.Reference (Ref (plain 1)) k.0 out vs (into_reference p (sort_of p s.frame.method k.0) (plain 1) texts.reference (subst (λ z. IntoType p (sort_of p s.frame.method k.0) z) (plain_put p s.frame.method 1) (well.into (plain 1) k.0 k.2))) (λ w q fw go. text_judged texts w q fw go) (subst (λ z. Fit z vs) k.1 fit) g

    -- ---- joins

    pub joins_row : FramesFit p n x (frames_of s) → (os out : Operands) (vs : List Value) → take_one is_int32 Some os ≡ Some out → Fit os vs → Goes out → Runs p n names u x (on_library p s nums Joins vs)
    joins_row now [] out vs e fit g = absurd (cc e)
    joins_row now (a ∷ os) out vs e fit g = by_test (is_int32 a) refl e
      where
        by_test : (b : Bool) → is_int32 a ≡ b → (if b then Some os else None) ≡ Some out → Runs p n names u x (on_library p s nums Joins vs)
        by_test false is e' = absurd (cc e')
        by_test true is e' =
            let o : os ≡ out = cc e' in
            popped p n names u x (h ∷ hs) (Words kind.Int32 (Number32 ∷ [])) (sorts_of p s.frame.method os) vs (λ v ws. word_of_kind kind.Int32 v (λ w. Ask (ask.Ended (low_32 w)) (on_ended (goes s ws) (Next (frames_of s)) (throws p s index_out_of_range)))) (subst (λ z. Fit (z ∷ os) vs) (int32_is a is) fit) (λ v ws fv fs.
            word_popped p n names u x (h ∷ hs) kind.Int32 Number32 v (λ other w. if same_kind kind.Int32 other then Ask (ask.Ended (low_32 w)) (on_ended (goes s ws) (Next (frames_of s)) (throws p s index_out_of_range)) else Stuck) fv (λ w fw.
            ended_is p n names u x (low_32 w) (goes s ws) (Next (frames_of s)) (throws p s index_out_of_range) (λ y gr.
            (plainly_later y os ws gr fs (subst (λ z. Goes z) (sym o) g), frames_later p n names x y (frames_of s) gr now, fault_later p n names handlers faults u x s h hs c y index_out_of_range faults.index_out_of_range gr))))
