-- Vectors: lengths and new ones; and names of types.
use Rattle.std.proofs.Common.{◌≡◌, ◌⊎◌, inl, inr, ⊎_elim, ℕ, suc, ◌+◌, ◌-◌, ◌*◌, ◌^◌, ◌<◌, ◌≤◌, List, [], ◌∷◌, Bool, true, false, Some, None, refl, sym, ap, ◌∙◌, subst, arith, lt-ltb}
use Rattle.std.proofs.lemmas.Bool.Decides.{nat_tests}
use Rattle.std.specs.Prelude.{◌||◌, nat_lt, if◌then◌else◌, slice_get}
use Rattle.type_tree.specs.declared.tree.TExpr.{TExpr}
use Rattle.il_model.specs.declared.program.Program.{Program}
use Rattle.il_model.specs.declared.entry.Entry.TheVariants as entry
use Rattle.il_model.specs.Entries.{vector_of, vector_entries}
use Rattle.il_model.specs.Kinds.{is_reference}
use Rattle.il_model.specs.Layouts.{words_of}
use Rattle.il_model.specs.Library.{plain}
use Rattle.il_model.specs.Assignable.{element_of}
use Rattle.interaction.specs.Process.{Naming, Ask, Stuck}
use Rattle.store_object.specs.declared.request.Request.TheVariants as ask
use Rattle.store_object.specs.Store.{Store}
use Rattle.store_object.proofs.StoreLaws.{grows_self}
use Rattle.cil_flow.specs.declared.state.StackType.{StackType}
use Rattle.cil_flow.specs.declared.state.StackType.TheVariants as stack
use Rattle.cil_verify.specs.Places.{view_of}
use Rattle.cil_verify.specs.Fits.{is_length, is_vector}
use Rattle.cil_verify.specs.Admits.{Operands, take_one, push}
use Rattle.cil_meaning.specs.Values.{Kind, Value, Plain, is_int32, is_native}
use Rattle.cil_meaning.specs.Values as kind
use Rattle.cil_meaning.specs.Naming.{Mention, OfEntry, IsNaming, put_type, names_from, name_word}
use Rattle.cil_meaning.specs.Types.{passes_as}
use Rattle.cil_meaning.specs.Replies.{on_object, on_word}
use Rattle.cil_meaning.specs.Search.{null_reference, overflow}
use Rattle.cil_meaning.specs.Site.{Site, goes, throws}
use Rattle.cil_meaning.specs.Pieces.{pops, as_word, as_reference, not_null, as_object}
use Rattle.cil_meaning.specs.Arrays.{most_length, negative_from, allocates, on_array}
use Rattle.cil_meaning.specs.LibraryCalls.{pushes_word, on_library}
use Rattle.cil_meaning.specs.Groups.{Allocates, Measures, Names}
use Rattle.cil_safety.proofs.Sorts.{Scalar, Number32, Length, Ref, Nil, Words, value_sort, sort_of, sorts_of}
use Rattle.cil_safety.proofs.Fit.{IsInt32, plus, minus, Holds, WideSort, IsExact, size_by, IsString, name, object, string, WordFits, ValueFits, ValuesFit, GoesOn}
use Rattle.cil_safety.proofs.Words.{value_wide}
use Rattle.cil_safety.proofs.Requests.{alloc, length_is}
use Rattle.cil_safety.proofs.Types.{reference_sort}
use Rattle.cil_safety.proofs.Pieces.{HasHandlers, Settled, Sits, Runs, where_given, where_true, popped, word_popped, reference_popped, null_or}
use Rattle.cil_safety.proofs.Straight.{HasFaults}
use Rattle.cil_safety.proofs.StraightForms.{HasStrings}
use Rattle.cil_safety.proofs.References.{where_false, Passes, ref_refers, object_fits}
use Rattle.cil_safety.proofs.ObjectForms.{plain_put, fault_later, more_fits}
use Rattle.cil_safety.proofs.CallForms.{HasNumber, numbered}

-- What may be measured is null or a reference to a type that no string passes as.
pub record MeasuresWell (p : Program) (s : Site) : Type 0 where
  pub each : (a : StackType) → is_vector (view_of p s.definition) a ≡ true → (a ≡ stack.Null) ⊎ ((v : TExpr) × WideSort p (sort_of p s.frame.method a) (Words kind.Reference (Ref v ∷ [])) × (passes_as p (plain 1) v ≡ false))

-- Objects may be of this vector type, whose elements are of that type.
pub record IsNewVector (p : Program) (v t : TExpr) : Type 0 where
  pub exact : IsExact p v
  pub reference : is_reference p v ≡ true
  pub element : element_of v ≡ Some t
  pub self : passes_as p v v ≡ true

-- an operand that is a length: an int32 or a native int
length_is_one : (a : StackType) → is_length a ≡ true → (a ≡ stack.Int32) ⊎ (a ≡ stack.Native)
length_is_one stack.Int32 e = inl refl
length_is_one stack.Int64 e = absurd (cc e)
length_is_one stack.Native e = inr refl
length_is_one stack.Null e = absurd (cc e)
length_is_one (stack.Kind t) e = absurd (cc e)
length_is_one (stack.Boxed t) e = absurd (cc e)
length_is_one (stack.Pointer t) e = absurd (cc e)

module _ (p : Program) (n : Naming Mention TExpr) (names : IsNaming n) (handlers : HasHandlers p n) (faults : HasFaults p) where
  module _ (u : ℕ) (x : Store) (s : Site) (h : Holds) (hs : List Holds) (c : Sits p n names x s h hs) (nums : List ℕ) where
    abbrev pub Fit : List StackType → List Value → Type 0
    Fit os vs = ValuesFit p n x (h ∷ hs) (sorts_of p s.frame.method os) vs

    abbrev pub Goes : List StackType → Type 0
    Goes os = GoesOn p n s.frame.method s.definition (suc s.frame.at) (sorts_of p s.frame.method os)

    fault : Runs p n names u x (throws p s null_reference)
    fault = fault_later p n names handlers faults u x s h hs c x null_reference faults.null_reference (grows_self x)

    -- ---- lengths

    pub ldlen_row : MeasuresWell p s → (os out : Operands) (vs : List Value) → take_one (is_vector (view_of p s.definition)) (push stack.Native) os ≡ Some out → Fit os vs → Goes out → Runs p n names u x (on_array p s nums Measures vs)
    ldlen_row well [] out vs e fit g = absurd (cc e)
    ldlen_row well (a ∷ os) out vs e fit g = by_test (is_vector (view_of p s.definition) a) refl e
      where
        by_null : a ≡ stack.Null → Runs p n names u x (on_array p s nums Measures vs)
        by_null is =
            popped p n names u x (h ∷ hs) (Words kind.Reference (Nil ∷ [])) (sorts_of p s.frame.method os) vs (λ v ws. as_reference v (λ w. not_null w (throws p s null_reference) (as_object w (Ask (ask.Length w) (on_word (λ len. goes s (Plain kind.Native (len ∷ []) ∷ ws))))))) (subst (λ z. Fit (z ∷ os) vs) is fit) (λ v ws fv fs.
            reference_popped p n names u x (h ∷ hs) Nil v (λ w. not_null w (throws p s null_reference) (as_object w (Ask (ask.Length w) (on_word (λ len. goes s (Plain kind.Native (len ∷ []) ∷ ws)))))) fv (λ w fw.
            null_or p n names u x w (throws p s null_reference) (as_object w (Ask (ask.Length w) (on_word (λ len. goes s (Plain kind.Native (len ∷ []) ∷ ws))))) fault (λ some. absurd (some fw))))

        by_vector : Goes (stack.Native ∷ os) → (v : TExpr) → WideSort p (sort_of p s.frame.method a) (Words kind.Reference (Ref v ∷ [])) → passes_as p (plain 1) v ≡ false → Runs p n names u x (on_array p s nums Measures vs)
        by_vector g' v wide no_string =
            popped p n names u x (h ∷ hs) (sort_of p s.frame.method a) (sorts_of p s.frame.method os) vs (λ r ws. as_reference r (λ w. not_null w (throws p s null_reference) (as_object w (Ask (ask.Length w) (on_word (λ len. goes s (Plain kind.Native (len ∷ []) ∷ ws))))))) fit (λ r ws fr fs.
            reference_popped p n names u x (h ∷ hs) (Ref v) r (λ w. not_null w (throws p s null_reference) (as_object w (Ask (ask.Length w) (on_word (λ len. goes s (Plain kind.Native (len ∷ []) ∷ ws)))))) (value_wide p n x (h ∷ hs) (sort_of p s.frame.method a) (Words kind.Reference (Ref v ∷ [])) r wide fr) (λ w fw.
            null_or p n names u x w (throws p s null_reference) (as_object w (Ask (ask.Length w) (on_word (λ len. goes s (Plain kind.Native (len ∷ []) ∷ ws))))) fault (λ some.
            object_fits p n names u x (Passes p n v) w (Ask (ask.Length w) (on_word (λ len. goes s (Plain kind.Native (len ∷ []) ∷ ws)))) (ref_refers p n x v w fw) some (λ pass. cc (pass, no_string)) (λ e o pass.
            length_is p n u x e w (λ len. goes s (Plain kind.Native (len ∷ []) ∷ ws)) o (λ y gr.
            more_fits p n names handlers faults u x s h hs c y stack.Native (Plain kind.Native (o.shape.length ∷ [])) os ws gr (refl, (o.short, tt)) fs g')))))

        by_test : (b : Bool) → is_vector (view_of p s.definition) a ≡ b → (if b then Some (stack.Native ∷ os) else None) ≡ Some out → Runs p n names u x (on_array p s nums Measures vs)
        by_test false is e' = absurd (cc e')
        by_test true is e' =
            let o : stack.Native ∷ os ≡ out = cc e' in
            ⊎_elim (λ q. by_null q) (λ q. by_vector (subst (λ z. Goes z) (sym o) g) q.0 q.1 q.2) (well.each a is)

    -- ---- new vectors

    allocated : (t : TExpr) (v len : ℕ) (os : List StackType) (vs : List Value) → IsNewVector p (put_type s.frame.method (vector_of t)) (put_type s.frame.method t) → n.tree_at v ≡ Some (put_type s.frame.method (vector_of t)) → (len < 2 ^ 32) ⊎ (2 ^ 63 ≤ len) → Fit os vs → Goes (stack.Kind (vector_of t) ∷ os) → Runs p n names u x (allocates p s v len (words_of p (put_type s.frame.method t)) vs)
    allocated t v len os vs new tree (inl few) fs g =
        where_true p n names u x (nat_lt len most_length) (Ask (ask.Alloc v len (len * words_of p (put_type s.frame.method t))) (on_object (λ o. goes s (Plain kind.Reference (o ∷ []) ∷ vs)))) (if nat_lt len negative_from then Stuck else throws p s overflow) (lt-ltb len most_length few)
        (alloc p n u x v len (len * words_of p (put_type s.frame.method t)) (put_type s.frame.method (vector_of t)) (λ o. goes s (Plain kind.Reference (o ∷ []) ∷ vs)) tree new.exact (sym (ap (size_by p (put_type s.frame.method (vector_of t)) len) new.element)) few (λ y o gr made e.
        more_fits p n names handlers faults u x s h hs c y (stack.Kind (vector_of t)) (Plain kind.Reference (o ∷ [])) os vs gr (subst (λ z. ValueFits p n y (h ∷ hs) z (Plain kind.Reference (o ∷ []))) (sym (reference_sort p (put_type s.frame.method (vector_of t)) new.reference)) ((refl, (object (put_type s.frame.method (vector_of t)) made new.self, tt)))) fs g))
    allocated t v len os vs new tree (inr high) fs g =
        let high' : 9223372036854775808 ≤ len = high in
        let past : nat_lt len 4294967296 ≡ false = grind (arith, nat_tests) in
        let past' : nat_lt len 9223372036854775808 ≡ false = grind (arith, nat_tests) in
        where_false p n names u x (nat_lt len most_length) (Ask (ask.Alloc v len (len * words_of p (put_type s.frame.method t))) (on_object (λ o. goes s (Plain kind.Reference (o ∷ []) ∷ vs)))) (if nat_lt len negative_from then Stuck else throws p s overflow) past
        (where_false p n names u x (nat_lt len negative_from) Stuck (throws p s overflow) past' (fault_later p n names handlers faults u x s h hs c x overflow faults.overflow (grows_self x)))

    number_range : (w : ℕ) → IsInt32 w → (w < 2 ^ 32) ⊎ (2 ^ 63 ≤ w)
    number_range w (plus lt) = let l : w < 2147483648 = lt in inl (let r : w < 4294967296 = omega (arith, l) in r)
    number_range w (minus le lt) = let l : 18446744073709551616 ≤ w + 2147483648 = le in inr (let r : 9223372036854775808 ≤ w = omega (arith, l) in r)

    pub newarr_row : (t : TExpr) → IsNewVector p (put_type s.frame.method (vector_of t)) (put_type s.frame.method t) → Settled p n names s.frame.method (vector_entries p t) nums → (os out : Operands) (vs : List Value) → take_one is_length (push (stack.Kind (vector_of t))) os ≡ Some out → Fit os vs → Goes out → Runs p n names u x (on_array p s nums (Allocates t) vs)
    newarr_row t new sets [] out vs e fit g = absurd (cc e)
    newarr_row t new sets (a ∷ os) out vs e fit g = by_test (is_length a) refl e
      where
        num : HasNumber p n names s.frame.method (entry.Kind (vector_of t)) nums 0
        num = numbered p n names s.frame.method (vector_entries p t) nums 0 (entry.Kind (vector_of t)) sets refl

        tree : n.tree_at num.number ≡ Some (put_type s.frame.method (vector_of t))
        tree = names.rightly (OfEntry s.frame.method (entry.Kind (vector_of t))) num.number (put_type s.frame.method (vector_of t)) num.value refl

        by_word : Goes (stack.Kind (vector_of t) ∷ os) → (k : Kind) (b : Scalar) → (is_int32 k || is_native k) ≡ true → ((w : ℕ) → WordFits p n x b w → (w < 2 ^ 32) ⊎ (2 ^ 63 ≤ w)) → ValuesFit p n x (h ∷ hs) (Words k (b ∷ []) ∷ sorts_of p s.frame.method os) vs → Runs p n names u x (pops vs (λ r ws. as_word r (λ l len. if is_int32 l || is_native l then allocates p s num.number len (words_of p (put_type s.frame.method t)) ws else Stuck)))
        by_word g' k b passes range fit' =
            popped p n names u x (h ∷ hs) (Words k (b ∷ [])) (sorts_of p s.frame.method os) vs (λ r ws. as_word r (λ l len. if is_int32 l || is_native l then allocates p s num.number len (words_of p (put_type s.frame.method t)) ws else Stuck)) fit' (λ r ws fr fs.
            word_popped p n names u x (h ∷ hs) k b r (λ l len. if is_int32 l || is_native l then allocates p s num.number len (words_of p (put_type s.frame.method t)) ws else Stuck) fr (λ w fw.
            where_true p n names u x (is_int32 k || is_native k) (allocates p s num.number w (words_of p (put_type s.frame.method t)) ws) Stuck passes (allocated t num.number w os ws new tree (range w fw) fs g')))

        by_test : (b : Bool) → is_length a ≡ b → (if b then Some (stack.Kind (vector_of t) ∷ os) else None) ≡ Some out → Runs p n names u x (on_array p s nums (Allocates t) vs)
        by_test false is e' = absurd (cc e')
        by_test true is e' =
            let o : stack.Kind (vector_of t) ∷ os ≡ out = cc e' in
            let g' : Goes (stack.Kind (vector_of t) ∷ os) = subst (λ z. Goes z) (sym o) g in
            where_given p n names u x (slice_get nums 0) num.number (λ v. pops vs (λ r ws. as_word r (λ l len. if is_int32 l || is_native l then allocates p s v len (words_of p (put_type s.frame.method t)) ws else Stuck))) num.is
            (⊎_elim (λ q. by_word g' kind.Int32 Number32 refl (λ w fw. number_range w fw) (subst (λ z. Fit (z ∷ os) vs) q fit))
            (λ q. by_word g' kind.Native Length refl (λ w fw. inl fw) (subst (λ z. Fit (z ∷ os) vs) q fit))
            (length_is_one a is))

    -- ---- names of types

    pub nameof_row : HasStrings p → (t : TExpr) → Settled p n names s.frame.method (entry.Kind t ∷ []) nums → (os out : Operands) (vs : List Value) → push (stack.Kind (plain 1)) os ≡ Some out → Fit os vs → Goes out → Runs p n names u x (on_library p s nums Names vs)
    nameof_row strings t sets os out vs e fit g =
        let num : HasNumber p n names s.frame.method (entry.Kind t) nums 0 = numbered p n names s.frame.method (entry.Kind t ∷ []) nums 0 (entry.Kind t) sets refl in
        let tree : n.tree_at num.number ≡ Some (put_type s.frame.method t) = names.rightly (OfEntry s.frame.method (entry.Kind t)) num.number (put_type s.frame.method t) num.value refl in
        let o : stack.Kind (plain 1) ∷ os ≡ out = cc e in
        let back : name_word num.number - names_from ≡ num.number = omega arith in
        let text : IsString p n (name_word num.number) = name (omega arith) (put_type s.frame.method t) (subst (λ z. n.tree_at z ≡ Some (put_type s.frame.method t)) (sym back) tree) in
        let is : sort_of p s.frame.method (stack.Kind (plain 1)) ≡ Words kind.Reference (Ref (plain 1) ∷ []) = ap (value_sort p) (plain_put p s.frame.method 1) ∙ reference_sort p (plain 1) strings.reference in
        where_given p n names u x (slice_get nums 0) num.number (λ v. pushes_word p s kind.Reference vs (name_word v)) num.is
        (more_fits p n names handlers faults u x s h hs c x (stack.Kind (plain 1)) (Plain kind.Reference (name_word num.number ∷ [])) os vs (grows_self x) (subst (λ z. ValueFits p n x (h ∷ hs) z (Plain kind.Reference (name_word num.number ∷ []))) (sym is) ((refl, (string text strings.self, tt)))) fit (subst (λ z. Goes z) (sym o) g))
