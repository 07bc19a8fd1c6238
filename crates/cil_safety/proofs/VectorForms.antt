-- Vectors: new ones, lengths, and elements read.
use Rattle.std.proofs.Common.{◌≡◌, ℕ, zero, suc, ◌+◌, ◌*◌, ◌%◌, ◌<◌, ◌≤◌, List, [], ◌∷◌, length, Bool, true, false, Some, None, refl, sym, ap, ◌∙◌, subst, arith, lt-ltb, ltb-true}
use Rattle.std.proofs.lemmas.Nat.{mod-mul-add}
use Rattle.std.specs.Prelude.{nat_lt, if◌then◌else◌, option_and_then, slice_get}
use Rattle.type_tree.specs.declared.tree.TExpr.{TExpr}
use Rattle.il_model.specs.declared.program.Program.{Program}
use Rattle.il_model.specs.Entries.{vector_of}
use Rattle.il_model.specs.Kinds.{is_reference}
use Rattle.il_model.specs.Layouts.{words_of}
use Rattle.il_model.specs.Library.{plain}
use Rattle.il_model.specs.Assignable.{element_of}
use Rattle.interaction.specs.Process.{Naming, Ask, Stuck}
use Rattle.store_object.specs.declared.limits.TheConstants.{INDEX_LIMIT}
use Rattle.store_object.specs.declared.place.Place.TheVariants as at
use Rattle.store_object.specs.declared.request.Request.TheVariants as ask
use Rattle.store_object.specs.Store.{Store}
use Rattle.store_object.specs.Growth.{Grows}
use Rattle.store_object.proofs.StoreLaws.{grows_self, grows_then}
use Rattle.cil_flow.specs.declared.state.StackType.{StackType}
use Rattle.cil_verify.specs.Places.{view_of, stack_of}
use Rattle.cil_verify.specs.Fits.{is_int32, fits}
use Rattle.cil_verify.specs.Admits.{Operands, take_one, push}
use Rattle.cil_meaning.specs.Values.{Kind, Value, Plain, Managed}
use Rattle.cil_meaning.specs.Values as kind
use Rattle.cil_meaning.specs.Naming.{Mention, IsNaming, put_type}
use Rattle.cil_meaning.specs.Types.{kind_of, passes_as}
use Rattle.cil_meaning.specs.Replies.{Left, on_word}
use Rattle.cil_meaning.specs.Search.{null_reference, index_out_of_range}
use Rattle.cil_meaning.specs.Site.{Site, goes, throws}
use Rattle.cil_meaning.specs.Pieces.{pops, as_reference, not_null, as_object, loads}
use Rattle.cil_meaning.specs.Arrays.{in_range, on_array}
use Rattle.cil_meaning.specs.Groups.{ReadsElement}
use Rattle.cil_safety.proofs.Sorts.{Scalar, Number32, Ref, Words, scalars_of, sort_of, sorts_of}
use Rattle.cil_safety.proofs.Fit.{Spans, Holds, WideWords, IsExact, ObjectOf, size_by, scalar_by, scalar_in, in_shape, scalar_at, ValueFits, ValuesFit, GoesOn}
use Rattle.cil_safety.proofs.Words.{words_wide, value_wide}
use Rattle.cil_safety.proofs.Requests.{load_words, along_object, length_is}
use Rattle.cil_safety.proofs.Pieces.{HasHandlers, Sits, Runs, length-scalars_of, by_if, popped, word_popped, reference_popped, null_or}
use Rattle.cil_safety.proofs.CallPieces.{FitsTypes}
use Rattle.cil_safety.proofs.Straight.{HasFaults, int32_is}
use Rattle.cil_safety.proofs.References.{Passes, ref_refers, object_fits}
use Rattle.cil_safety.proofs.ObjectForms.{into_reference, fault_later}
use Rattle.cil_safety.proofs.ObjectWords.{get_within, both, spans_of}
use Rattle.cil_safety.proofs.Pointers.{pushes_fit}

-- the elements of a vector that passes as one of these
pub record HasElements (p : Program) (e t : TExpr) : Type 0 where
  pub element : TExpr
  pub is : element_of e ≡ Some element
  pub wide : WideWords p (scalars_of p element) (scalars_of p t)
  pub long : length (scalars_of p element) ≡ length (scalars_of p t)

-- Vectors of this type: they are references, no string passes as one, and what passes is a vector whose elements fit.
pub record IsVector (p : Program) (v t : TExpr) : Type 0 where
  pub reference : is_reference p v ≡ true
  pub no_string : passes_as p (plain 1) v ≡ false
  pub elements : (e : TExpr) → IsExact p e → passes_as p e v ≡ true → HasElements p e t

-- an element that there is lies among the words
element_within : (i len size j : ℕ) → i < len → j < size → i * size + j < len * size
element_within zero zero size j lt lt' = absurd (omega (arith, lt))
element_within zero (suc len) size j lt lt' = let q : suc len * size ≡ size + len * size = grind arith in let z : 0 * size ≡ 0 = grind arith in omega (arith, lt', q, z)
element_within (suc i) zero size j lt lt' = absurd (omega (arith, lt))
element_within (suc i) (suc len) size j lt lt' =
    let r : i * size + j < len * size = element_within i len size j (omega (arith, lt)) lt' in
    let q : suc len * size ≡ size + len * size = grind arith in
    let q' : suc i * size ≡ size + i * size = grind arith in
    omega (arith, r, q, q')

module _ (p : Program) (n : Naming Mention TExpr) where
  -- a word of an element
  element_word : (x : Store) (e t : TExpr) (w i j : ℕ) (a : Scalar) (o : ObjectOf p n x e w) → element_of e ≡ Some t → i < o.shape.length → slice_get (scalars_of p t) j ≡ Some a → scalar_at p n x (at.Object w (i * words_of p t + j)) ≡ Some a
  element_word x e t w i j a o el lt is =
      let inside : j < length (scalars_of p t) = get_within (scalars_of p t) j a is in
      let long : length (scalars_of p t) ≡ words_of p t = length-scalars_of p t in
      let inside' : j < words_of p t = omega (arith, inside, long) in
      let words : o.shape.words ≡ o.shape.length * words_of p t = o.size ∙ ap (size_by p e o.shape.length) el in
      let lies : i * words_of p t + j < o.shape.length * words_of p t = element_within i o.shape.length (words_of p t) j lt inside' in
      let lies' : i * words_of p t + j < o.shape.words = subst (λ z. i * words_of p t + j < z) (sym words) lies in
      let few : o.shape.words ≤ 4194304 = o.few in
      let first : nat_lt (i * words_of p t + j) o.shape.words ≡ true = lt-ltb (i * words_of p t + j) o.shape.words lies' in
      let second : nat_lt (i * words_of p t + j) INDEX_LIMIT ≡ true = lt-ltb (i * words_of p t + j) INDEX_LIMIT (omega (arith, lies', few)) in
      let rest : (i * words_of p t + j) % length (scalars_of p t) ≡ j = ap (λ z. (i * words_of p t + j) % z) long ∙ mod-mul-add i (words_of p t) j inside' in
      ap (option_and_then (in_shape p n (i * words_of p t + j))) o.there
      ∙ ap (λ b. if b then option_and_then (λ k. scalar_in p k (i * words_of p t + j)) (n.tree_at o.shape.kind) else None) (both (nat_lt (i * words_of p t + j) o.shape.words) (nat_lt (i * words_of p t + j) INDEX_LIMIT) first second)
      ∙ ap (option_and_then (λ k. scalar_in p k (i * words_of p t + j))) o.tree ∙ ap (scalar_by p e (i * words_of p t + j)) el ∙ ap (slice_get (scalars_of p t)) rest ∙ is

  pub element_spans : (x : Store) (e t : TExpr) (w i : ℕ) (o : ObjectOf p n x e w) → element_of e ≡ Some t → i < o.shape.length → Spans (λ j. scalar_at p n x (at.Object w j)) (i * words_of p t) (scalars_of p t)
  element_spans x e t w i o el lt = spans_of (λ j. scalar_at p n x (at.Object w j)) (i * words_of p t) (scalars_of p t) (λ j a is. element_word x e t w i j a o el lt is)

module _ (p : Program) (n : Naming Mention TExpr) (names : IsNaming n) (handlers : HasHandlers p n) (faults : HasFaults p) where
  module _ (u : ℕ) (x : Store) (s : Site) (h : Holds) (hs : List Holds) (c : Sits p n names x s h hs) (nums : List ℕ) where
    abbrev pub Fit : List StackType → List Value → Type 0
    Fit os vs = ValuesFit p n x (h ∷ hs) (sorts_of p s.frame.method os) vs

    abbrev pub Goes : List StackType → Type 0
    Goes os = GoesOn p n s.frame.method s.definition (suc s.frame.at) (sorts_of p s.frame.method os)

    fault : (y : Store) → Grows x y → Runs p n names u y (throws p s null_reference)
    fault y g = fault_later p n names handlers faults u x s h hs c y null_reference faults.null_reference g

    -- a vector and an index below its length
    pub range_fits : (t v : TExpr) (index vector : Value) (k : ℕ → ℕ → Left) → IsVector p v t → ValueFits p n x (h ∷ hs) (Words kind.Int32 (Number32 ∷ [])) index → ValueFits p n x (h ∷ hs) (Words kind.Reference (Ref v ∷ [])) vector →
        ((y : Store) (w i : ℕ) (e : TExpr) (o : ObjectOf p n x e w) → Grows x y → i < o.shape.length → HasElements p e t → passes_as p e v ≡ true → Runs p n names u y (k w i)) → Runs p n names u x (in_range p s vector index k)
    range_fits t v index vector k vec fi fv go =
        word_popped p n names u x (h ∷ hs) kind.Int32 Number32 index (λ l i. if kind.is_int32 l then as_reference vector (λ w. not_null w (throws p s null_reference) (as_object w (Ask (ask.Length w) (on_word (λ len. if nat_lt i len then k w i else throws p s index_out_of_range))))) else Stuck) fi (λ i fi'.
        reference_popped p n names u x (h ∷ hs) (Ref v) vector (λ w. not_null w (throws p s null_reference) (as_object w (Ask (ask.Length w) (on_word (λ len. if nat_lt i len then k w i else throws p s index_out_of_range))))) fv (λ w fw.
        null_or p n names u x w (throws p s null_reference) (as_object w (Ask (ask.Length w) (on_word (λ len. if nat_lt i len then k w i else throws p s index_out_of_range)))) (fault x (grows_self x)) (λ some.
        object_fits p n names u x (Passes p n v) w (Ask (ask.Length w) (on_word (λ len. if nat_lt i len then k w i else throws p s index_out_of_range))) (ref_refers p n x v w fw) some (λ pass. cc (pass, vec.no_string)) (λ e o pass.
        length_is p n u x e w (λ len. if nat_lt i len then k w i else throws p s index_out_of_range) o (λ y g.
        by_if p n names u y (nat_lt i o.shape.length) (k w i) (throws p s index_out_of_range)
        (λ lt. go y w i e o g (ltb-true i o.shape.length lt) (vec.elements e o.exact pass) pass)
        (λ no'. fault_later p n names handlers faults u x s h hs c y index_out_of_range faults.index_out_of_range g))))))

    pub ldelem_row : FitsTypes p s.definition s.frame.method → (t : TExpr) → IsVector p (put_type s.frame.method (vector_of t)) (put_type s.frame.method t) → (os out : Operands) (vs : List Value) → take_one is_int32 (take_one (fits (view_of p s.definition) (vector_of t)) (push (stack_of t))) os ≡ Some out → Fit os vs → Goes out → Runs p n names u x (on_array p s nums (ReadsElement t) vs)
    ldelem_row well t vec [] out vs e fit g = absurd (cc e)
    ldelem_row well t vec (a ∷ []) out vs e fit g = by_test (is_int32 a) e
      where
        by_test : (b : Bool) → (if b then None else None) ≡ Some out → Runs p n names u x (on_array p s nums (ReadsElement t) vs)
        by_test true e' = absurd (cc e')
        by_test false e' = absurd (cc e')
    ldelem_row well t vec (a ∷ b ∷ os) out vs e fit g = by_tests (is_int32 a) (fits (view_of p s.definition) (vector_of t) b) refl refl e
      where
        Here : TExpr
        Here = put_type s.frame.method t

        Vector : TExpr
        Vector = put_type s.frame.method (vector_of t)

        by_tests : (k k' : Bool) → is_int32 a ≡ k → fits (view_of p s.definition) (vector_of t) b ≡ k' → (if k then (if k' then Some (stack_of t ∷ os) else None) else None) ≡ Some out → Runs p n names u x (on_array p s nums (ReadsElement t) vs)
        by_tests false k' is is' e' = absurd (cc e')
        by_tests true false is is' e' = absurd (cc e')
        by_tests true true is is' e' =
            let o : stack_of t ∷ os ≡ out = cc e' in
            popped p n names u x (h ∷ hs) (Words kind.Int32 (Number32 ∷ [])) (sort_of p s.frame.method b ∷ sorts_of p s.frame.method os) vs (λ v us. pops us (λ r ws. in_range p s r v (λ w i. loads (words_of p Here) (at.Object w (i * words_of p Here)) (λ words. goes s (Plain (kind_of p Here) words ∷ ws))))) (subst (λ z. Fit (z ∷ b ∷ os) vs) (int32_is a is) fit) (λ v us fv fus.
            popped p n names u x (h ∷ hs) (sort_of p s.frame.method b) (sorts_of p s.frame.method os) us (λ r ws. in_range p s r v (λ w i. loads (words_of p Here) (at.Object w (i * words_of p Here)) (λ words. goes s (Plain (kind_of p Here) words ∷ ws)))) fus (λ r ws fr fs.
            range_fits Here Vector v r (λ w i. loads (words_of p Here) (at.Object w (i * words_of p Here)) (λ words. goes s (Plain (kind_of p Here) words ∷ ws))) vec fv
            (value_wide p n x (h ∷ hs) (sort_of p s.frame.method b) (Words kind.Reference (Ref Vector ∷ [])) r (into_reference p (sort_of p s.frame.method b) Vector vec.reference (well.into (vector_of t) b is')) fr)
            (λ y w i k ob gr lt els pass.
            let size : length (scalars_of p els.element) ≡ words_of p Here = els.long ∙ length-scalars_of p Here in
            let same' : words_of p els.element ≡ words_of p Here = sym (length-scalars_of p els.element) ∙ size in
            let spans : Spans (λ j. scalar_at p n y (at.Object w j)) (i * words_of p Here) (scalars_of p els.element) = subst (λ z. Spans (λ j. scalar_at p n y (at.Object w j)) (i * z) (scalars_of p els.element)) same' (element_spans p n y k els.element w i (later y k w ob gr) els.is (still y k w i ob gr lt)) in
            subst (λ z. Runs p n names u y (loads z (at.Object w (i * words_of p Here)) (λ words. goes s (Plain (kind_of p Here) words ∷ ws)))) size
            (load_words p n u y (at.Object w (i * words_of p Here)) (scalars_of p els.element) (λ words. goes s (Plain (kind_of p Here) words ∷ ws)) (along_object p n y w (i * words_of p Here) (scalars_of p els.element) spans) (λ z words gr' fw.
            pushes_fit p n names handlers faults u x s h hs c nums z t os ws words (grows_then x y z gr gr') fs (words_wide p n z (scalars_of p els.element) (scalars_of p Here) words els.wide fw) (subst (λ q. Goes q) (sym o) g))))))
          where
            -- the object later, with the shape that it has
            later : (y : Store) (k : TExpr) (w : ℕ) → ObjectOf p n x k w → Grows x y → ObjectOf p n y k w
            later y k w ob gr = record { shape = ob.shape; there = gr.shapes _ _ ob.there; tree = ob.tree; exact = ob.exact; size = ob.size; small = ob.small; few = ob.few; short = ob.short }

            still : (y : Store) (k : TExpr) (w i : ℕ) (ob : ObjectOf p n x k w) (gr : Grows x y) → i < ob.shape.length → i < (later y k w ob gr).shape.length
            still y k w i ob gr lt = lt
