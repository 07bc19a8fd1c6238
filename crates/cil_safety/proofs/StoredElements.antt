-- Elements of vectors, written: a reference only where it passes as the vector's own element type.
use Rattle.std.proofs.Common.{◌≡◌, ℕ, suc, ◌*◌, ◌<◌, List, [], ◌∷◌, length, Bool, true, false, Option, Some, None, refl, sym, ap, ◌∙◌, subst, eqb-true, lt-ltb}
use Rattle.std.specs.Prelude.{◌==◌, nat_lt, if◌then◌else◌}
use Rattle.type_tree.specs.declared.tree.TExpr.{TExpr}
use Rattle.il_model.specs.declared.program.Program.{Program}
use Rattle.il_model.specs.Entries.{vector_of}
use Rattle.il_model.specs.Kinds.{is_reference}
use Rattle.il_model.specs.Layouts.{words_of}
use Rattle.il_model.specs.Library.{plain}
use Rattle.il_model.specs.Assignable.{element_of}
use Rattle.interaction.specs.Process.{Naming, Ask}
use Rattle.store_object.specs.declared.place.Place.TheVariants as at
use Rattle.store_object.specs.declared.request.Request.TheVariants as ask
use Rattle.store_object.specs.Store.{Store}
use Rattle.store_object.specs.Growth.{Grows}
use Rattle.store_object.proofs.StoreLaws.{grows_then}
use Rattle.cil_flow.specs.declared.state.StackType.{StackType}
use Rattle.cil_verify.specs.Places.{view_of}
use Rattle.cil_verify.specs.Fits.{is_int32, fits}
use Rattle.cil_verify.specs.Admits.{Operands, take_one}
use Rattle.cil_meaning.specs.Values.{Kind, Value, Plain}
use Rattle.cil_meaning.specs.Values as kind
use Rattle.cil_meaning.specs.Naming.{Mention, IsNaming, put_type, strings_from}
use Rattle.cil_meaning.specs.Types.{passes_as}
use Rattle.cil_meaning.specs.Replies.{Left, on_kind}
use Rattle.cil_meaning.specs.Search.{array_type_mismatch}
use Rattle.cil_meaning.specs.Site.{Site, goes, throws}
use Rattle.cil_meaning.specs.Pieces.{Exact, Text, Numbered, given, pops, keeps, as_string, types, spells}
use Rattle.cil_meaning.specs.Arrays.{in_range, puts, puts_reference, puts_element, on_array}
use Rattle.cil_meaning.specs.Groups.{WritesElement}
use Rattle.cil_safety.proofs.Sorts.{Scalar, Number32, Ref, Sort, Words, To, scalars_of, sort_of, sorts_of}
use Rattle.cil_safety.proofs.Fit.{Spans, Holds, IsExact, ObjectOf, RefTo, null, object, string, scalar_at, WordsFit, ValuesFit, GoesOn}
use Rattle.cil_safety.proofs.Words.{object_later, words_later, ref_later, value_wide, values_later}
use Rattle.cil_safety.proofs.Requests.{save_words, along_object, kind_is}
use Rattle.cil_safety.proofs.Types.{reference_sort}
use Rattle.cil_safety.proofs.Pieces.{HasHandlers, Sits, Runs, sits_later, goes_to_fits, length-scalars_of, by_if, where_true, where_given, popped, one_popped, keeps_fits, spelled}
use Rattle.cil_safety.proofs.CallPieces.{FitsTypes}
use Rattle.cil_safety.proofs.Straight.{HasFaults, int32_is}
use Rattle.cil_safety.proofs.References.{Passes, ref_refers, types_fit}
use Rattle.cil_safety.proofs.ObjectForms.{into_reference, fault_later}
use Rattle.cil_safety.proofs.VectorForms.{HasElements, IsVector, element_spans, range_fits}

-- The elements of each vector that passes: those of a value type are of just this type, and those of a reference type are references.
pub record HasOwnElements (p : Program) (v t : TExpr) : Type 0 where
  pub values : is_reference p t ≡ false → (e : TExpr) → IsExact p e → passes_as p e v ≡ true → element_of e ≡ Some t
  pub references : is_reference p t ≡ true → (e element : TExpr) → IsExact p e → passes_as p e v ≡ true → element_of e ≡ Some element → scalars_of p element ≡ Ref element ∷ []

-- the scalars of a sort
abbrev scalars_in_sort : Sort → List Scalar
scalars_in_sort (Words k as') = as'
scalars_in_sort (To as') = as'

module _ (p : Program) (n : Naming Mention TExpr) (names : IsNaming n) (handlers : HasHandlers p n) (faults : HasFaults p) where
  module _ (u : ℕ) (x : Store) (s : Site) (h : Holds) (hs : List Holds) (c : Sits p n names x s h hs) (nums : List ℕ) where
    abbrev pub Fit : List StackType → List Value → Type 0
    Fit os vs = ValuesFit p n x (h ∷ hs) (sorts_of p s.frame.method os) vs

    abbrev pub Goes : List StackType → Type 0
    Goes os = GoesOn p n s.frame.method s.definition (suc s.frame.at) (sorts_of p s.frame.method os)

    -- words that fit are put, and the instruction goes on
    put_fits : (y : Store) (e t : TExpr) (w i : ℕ) (o : ObjectOf p n y e w) (size : ℕ) (words : List ℕ) (os : List StackType) (vs : List Value) → Grows x y → element_of e ≡ Some t → i < o.shape.length → size ≡ words_of p t → WordsFit p n y (scalars_of p t) words → Fit os vs → Goes os → Runs p n names u y (puts p s w i size words vs)
    put_fits y e t w i o size words os vs gr el lt long fw fs g =
        let spans : Spans (λ j. scalar_at p n y (at.Object w j)) (i * size) (scalars_of p t) = subst (λ z. Spans (λ j. scalar_at p n y (at.Object w j)) (i * z) (scalars_of p t)) (sym long) (element_spans p n y e t w i o el lt) in
        save_words p n u y (at.Object w (i * size)) (scalars_of p t) words (goes s vs) (along_object p n y w (i * size) (scalars_of p t) spans) fw (λ z gr'.
        goes_to_fits p n names u z s h hs (suc s.frame.at) (sorts_of p s.frame.method os) vs (sits_later p n names x z s h hs (grows_then x y z gr gr') c) g (values_later p n x z (h ∷ hs) (sorts_of p s.frame.method os) vs (grows_then x y z gr gr') fs))

    -- the exact type of an object
    object_types : (y : Store) (e : TExpr) (w : ℕ) (k : Exact → Left) (o : ObjectOf p n y e w) → ((z : Store) → Grows y z → Runs p n names u z (k (Numbered o.shape.kind))) → Runs p n names u y (types p w k)
    object_types y e w k o go = where_true p n names u y (nat_lt w strings_from) (Ask (ask.TypeOf w) (on_kind (λ v. k (Numbered v)))) (as_string p w (k Text)) (lt-ltb w strings_from o.small) (kind_is p n u y e w (λ v. k (Numbered v)) o go)

    -- a reference is put where it passes as the element type of the vector
    reference_put : (y : Store) (e t r' : TExpr) (w i r : ℕ) (o : ObjectOf p n x e w) (os : List StackType) (vs : List Value) → Grows x y → element_of e ≡ Some t → scalars_of p t ≡ Ref t ∷ [] → i < o.shape.length → RefTo p n y r' r → Fit os vs → Goes os → Runs p n names u y (puts_reference p s w i r vs)
    reference_put y e t r' w i r o os vs gr el one lt to fs g =
        by_if p n names u y (r == 0) (puts p s w i 1 (r ∷ []) vs) (types p w (λ vector. checks vector))
        (λ z. put y gr (null (eqb-true r 0 z)))
        (λ nz. object_types y e w (λ vector. checks vector) (object_at y gr) (λ z gr'.
        types_fit p n names u z (Passes p n r') r (λ item. checked (Numbered o.shape.kind) item) (ref_refers p n z r' r (ref_later p n gr' to)) (λ q. let q' : (r == 0) ≡ true = subst (λ k. (k == 0) ≡ true) (sym q) refl in cc (q', nz))
        (λ z' k o' gr'' pass. ends z' (grows_then x z z' (grows_then x y z gr gr') gr'') o'.shape.kind k o'.tree (λ pass'. object k (object_later p n gr'' o') pass'))
        (λ text pass. vector_spelled z (grows_then x y z gr gr') Text (plain 1) (passing (grows_then x y z gr gr') z (plain 1) (λ pass'. string text pass')))))
      where
        long : 1 ≡ words_of p t
        long = ap length (sym one) ∙ length-scalars_of p t

        object_at : (z : Store) → Grows x z → ObjectOf p n z e w
        object_at z gr' = record { shape = o.shape; there = gr'.shapes _ _ o.there; tree = o.tree; exact = o.exact; size = o.size; small = o.small; few = o.few; short = o.short }

        put : (z : Store) → Grows x z → RefTo p n z t r → Runs p n names u z (puts p s w i 1 (r ∷ []) vs)
        put z gr' fr = put_fits z e t w i (object_at z gr') 1 (r ∷ []) os vs gr' el lt long (subst (λ q. WordsFit p n z q (r ∷ [])) (sym one) (fr, tt)) fs g

        tested : TExpr → Option TExpr → Left
        tested exact element = given element (λ el'. if passes_as p exact el' then puts p s w i 1 (r ∷ []) vs else throws p s array_type_mismatch)

        checked : Exact → Exact → Left
        checked vector item = spells vector (λ vector_type. spells item (λ exact. given (element_of vector_type) (λ el'. if passes_as p exact el' then puts p s w i 1 (r ∷ []) vs else throws p s array_type_mismatch)))

        checks : Exact → Left
        checks vector = types p r (λ item. checked vector item)

        passing : {z' : Store} → Grows x z' → (z : Store) (k : TExpr) → (passes_as p k t ≡ true → RefTo p n z t r) → passes_as p k t ≡ true → RefTo p n z t r
        passing gr' z k f pass = f pass

        judged : (z : Store) → Grows x z → (k : TExpr) → (passes_as p k t ≡ true → RefTo p n z t r) → Runs p n names u z (tested k (element_of e))
        judged z gr' k f =
            where_given p n names u z (element_of e) t (λ el'. if passes_as p k el' then puts p s w i 1 (r ∷ []) vs else throws p s array_type_mismatch) el
            (by_if p n names u z (passes_as p k t) (puts p s w i 1 (r ∷ []) vs) (throws p s array_type_mismatch) (λ pass. put z gr' (f pass)) (λ no'. fault_later p n names handlers faults u x s h hs c z array_type_mismatch faults.array_type_mismatch gr'))

        vector_spelled : (z : Store) → Grows x z → (item : Exact) (k : TExpr) → (passes_as p k t ≡ true → RefTo p n z t r) → Runs p n names u z (spells (Numbered o.shape.kind) (λ vector_type. tested k (element_of vector_type)))
        vector_spelled z gr' item k f = spelled p n names u z o.shape.kind e (λ vector_type. tested k (element_of vector_type)) o.tree (judged z gr' k f)

        ends : (z : Store) → Grows x z → (number : ℕ) (k : TExpr) → n.tree_at number ≡ Some k → (passes_as p k t ≡ true → RefTo p n z t r) → Runs p n names u z (checked (Numbered o.shape.kind) (Numbered number))
        ends z gr' number k tree f = spelled p n names u z o.shape.kind e (λ vector_type. spells (Numbered number) (λ exact. tested exact (element_of vector_type))) o.tree (spelled p n names u z number k (λ exact. tested exact (element_of e)) tree (judged z gr' k f))

    pub stelem_row : FitsTypes p s.definition s.frame.method → (t : TExpr) → IsVector p (put_type s.frame.method (vector_of t)) (put_type s.frame.method t) → HasOwnElements p (put_type s.frame.method (vector_of t)) (put_type s.frame.method t) → (os out : Operands) (vs : List Value) →
        take_one (fits (view_of p s.definition) t) (take_one is_int32 (take_one (fits (view_of p s.definition) (vector_of t)) Some)) os ≡ Some out → Fit os vs → Goes out → Runs p n names u x (on_array p s nums (WritesElement t) vs)
    stelem_row well t vec own os out vs e fit g =
        let k = taken {test = fits (view_of p s.definition) t} {go = take_one is_int32 (take_one (fits (view_of p s.definition) (vector_of t)) Some)} {out = out} os e in
        let j = taken {test = is_int32} {go = take_one (fits (view_of p s.definition) (vector_of t)) Some} {out = out} k.1 k.4 in
        let l = taken {test = fits (view_of p s.definition) (vector_of t)} {go = Some} {out = out} j.1 j.4 in
        let o : l.1 ≡ out = cc l.4 in
        let g' : Goes l.1 = subst (λ z. Goes z) (sym o) g in
        popped p n names u x (h ∷ hs) (sort_of p s.frame.method k.0) (Words kind.Int32 (Number32 ∷ []) ∷ sort_of p s.frame.method l.0 ∷ sorts_of p s.frame.method l.1) vs (λ v ws. pops ws (λ i us. pops us (λ r qs. keeps p Here v (λ words. in_range p s r i (λ w j'. puts_element p s (is_reference p Here) w j' (words_of p Here) words qs)))))
        (subst (λ z. Fit (k.0 ∷ z ∷ l.0 ∷ l.1) vs) (int32_is j.0 j.3) (subst (λ z. Fit (k.0 ∷ j.0 ∷ z) vs) l.2 (subst (λ z. Fit (k.0 ∷ z) vs) j.2 (subst (λ z. Fit z vs) k.2 fit)))) (λ v ws fv fws.
        popped p n names u x (h ∷ hs) (Words kind.Int32 (Number32 ∷ [])) (sort_of p s.frame.method l.0 ∷ sorts_of p s.frame.method l.1) ws (λ i us. pops us (λ r qs. keeps p Here v (λ words. in_range p s r i (λ w j'. puts_element p s (is_reference p Here) w j' (words_of p Here) words qs)))) fws (λ i us fi fus.
        popped p n names u x (h ∷ hs) (sort_of p s.frame.method l.0) (sorts_of p s.frame.method l.1) us (λ r qs. keeps p Here v (λ words. in_range p s r i (λ w j'. puts_element p s (is_reference p Here) w j' (words_of p Here) words qs))) fus (λ r qs fr fs.
        keeps_fits p n names u x (h ∷ hs) (sort_of p s.frame.method k.0) Here v (λ words. in_range p s r i (λ w j'. puts_element p s (is_reference p Here) w j' (words_of p Here) words qs)) (well.into t k.0 k.3) fv (λ words fw.
        range_fits p n names handlers faults u x s h hs c nums Here (put_type s.frame.method (vector_of t)) i r (λ w j'. puts_element p s (is_reference p Here) w j' (words_of p Here) words qs) vec fi
        (value_wide p n x (h ∷ hs) (sort_of p s.frame.method l.0) (Words kind.Reference (Ref (put_type s.frame.method (vector_of t)) ∷ [])) r (into_reference p (sort_of p s.frame.method l.0) (put_type s.frame.method (vector_of t)) vec.reference (well.into (vector_of t) l.0 l.3)) fr)
        (λ y w j' e' ob gr lt els pass'. by_kind l.1 qs words fw fs g' y w j' e' ob gr lt els pass' (is_reference p Here) refl)))))
      where
        Here : TExpr
        Here = put_type s.frame.method t

        taken : {test : StackType → Bool} {go : Operands → Option Operands} {out : Operands} (os : Operands) → take_one test go os ≡ Some out → (a : StackType) × (rest : Operands) × (os ≡ a ∷ rest) × (test a ≡ true) × (go rest ≡ Some out)
        taken [] e = absurd (cc e)
        taken {test = test} {go = go} {out = out} (a ∷ rest) e = by_test (test a) refl e
          where
            by_test : (b : Bool) → test a ≡ b → (if b then go rest else None) ≡ Some out → (a' : StackType) × (rest' : Operands) × (a ∷ rest ≡ a' ∷ rest') × (test a' ≡ true) × (go rest' ≡ Some out)
            by_test true t' e' = (a, rest, refl, t', e')
            by_test false t' e' = absurd (cc e')

        by_kind : (os' : List StackType) (qs : List Value) (words : List ℕ) → WordsFit p n x (scalars_of p Here) words → Fit os' qs → Goes os' → (y : Store) (w i : ℕ) (e' : TExpr) (ob : ObjectOf p n x e' w) → Grows x y → i < ob.shape.length → HasElements p e' Here → passes_as p e' (put_type s.frame.method (vector_of t)) ≡ true → (b : Bool) → is_reference p Here ≡ b → Runs p n names u y (puts_element p s b w i (words_of p Here) words qs)
        by_kind os' qs words fw fs g' y w i e' ob gr lt els pass' true is =
            one_popped p n names u y (Ref Here) words (λ r. puts_reference p s w i r qs) (words_later p n x y (Ref Here ∷ []) words gr (subst (λ z. WordsFit p n x z words) (one_scalar is) fw)) (λ r fr.
            reference_put y e' els.element Here w i r ob os' qs gr els.is (own.references is e' els.element ob.exact pass' els.is) lt fr fs g')
          where
            one_scalar : is_reference p Here ≡ true → scalars_of p Here ≡ Ref Here ∷ []
            one_scalar is' = ap scalars_in_sort (reference_sort p Here is')
        by_kind os' qs words fw fs g' y w i e' ob gr lt els pass' false is =
            put_fits y e' Here w i (record { shape = ob.shape; there = gr.shapes _ _ ob.there; tree = ob.tree; exact = ob.exact; size = ob.size; small = ob.small; few = ob.few; short = ob.short }) (words_of p Here) words os' qs gr (own.values is e' ob.exact pass') lt refl (words_later p n x y (scalars_of p Here) words gr fw) fs g'
