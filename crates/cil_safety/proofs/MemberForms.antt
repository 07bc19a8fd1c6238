-- Fields and static fields: read, written, and their addresses taken.
use Rattle.std.proofs.Common.{◌≡◌, ◌⊎◌, inl, inr, ⊎_elim, ℕ, suc, ◌+◌, ◌≤◌, List, [], ◌∷◌, length, Bool, true, false, Some, None, refl, sym, ap, ◌∙◌, subst}
use Rattle.std.specs.Prelude.{◌&&◌, ◌||◌, if◌then◌else◌, slice_get}
use Rattle.type_tree.specs.declared.tree.TExpr.{TExpr}
use Rattle.type_tree.proofs.SameLemmas.{is_same-Decides}
use Rattle.il_model.specs.declared.program.Program.{Program}
use Rattle.il_model.specs.declared.member.FRef.{FRef}
use Rattle.il_model.specs.declared.entry.Entry.TheVariants as entry
use Rattle.il_model.specs.Found.{field_found}
use Rattle.il_model.specs.Entries.{field_type, field_entries_at, field_entries}
use Rattle.il_model.specs.Admission.{limit_of}
use Rattle.il_model.specs.Kinds.{is_reference}
use Rattle.il_model.specs.Layouts.{words_of}
use Rattle.il_model.specs.Library.{plain}
use Rattle.il_model.specs.Assignable.{element_of}
use Rattle.interaction.specs.Process.{Naming, Stuck}
use Rattle.store_object.specs.declared.limits.TheConstants.{INDEX_LIMIT}
use Rattle.store_object.specs.Store.{Store}
use Rattle.store_object.proofs.StoreLaws.{grows_self}
use Rattle.cil_flow.specs.declared.state.StackType.{StackType}
use Rattle.cil_flow.specs.declared.state.StackType.TheVariants as stack
use Rattle.cil_verify.specs.Places.{view_of, stack_of}
use Rattle.cil_verify.specs.Fits.{is_int32, is_int64, fits, points_to, stands_as, is_struct as is_struct_in, is_object_of}
use Rattle.cil_verify.specs.Admits.{Operands, take_one, push, may_be_read}
use Rattle.cil_meaning.specs.Values.{Kind, Pointer, Null, InFrame, InFresh, InObject, InStatic, Value, Plain, Managed, shifted, is_reference_word, is_struct}
use Rattle.cil_meaning.specs.Values as kind
use Rattle.cil_meaning.specs.Naming.{Mention, OfEntry, IsNaming, put_type}
use Rattle.cil_meaning.specs.Types.{kind_of, passes_as}
use Rattle.cil_meaning.specs.Replies.{Left}
use Rattle.cil_meaning.specs.Offsets.{instance_offset, static_offset}
use Rattle.cil_meaning.specs.Site.{Site, goes, goes_with}
use Rattle.cil_meaning.specs.Pieces.{given, pops, one_word, not_null, as_object, keeps, cuts, reads, writes}
use Rattle.cil_meaning.specs.Groups.{ReadsField, WritesField, PointsField, ReadsStatic, WritesStatic, PointsStatic}
use Rattle.cil_meaning.specs.Members.{as_owner, not_nowhere, reads_part, pushes, throws_null, offset_here, fixed_offset_here, static_here, on_member}
use Rattle.cil_safety.proofs.Sorts.{Ref, Words, To, scalars_of, instance_scalars_of, static_scalars_of, value_sort, sort_of, sorts_of}
use Rattle.cil_safety.proofs.Fit.{Spans, Lies, Holds, IsExact, PointerFits, ValueFits, ValuesFit, GoesOn}
use Rattle.cil_safety.proofs.Words.{value_wide}
use Rattle.cil_safety.proofs.Pieces.{HasHandlers, Settled, Sits, Runs, length-scalars_of, goes_to_fits, where_true, where_given, popped, one_popped, null_or, keeps_fits}
use Rattle.cil_safety.proofs.Straight.{HasFaults}
use Rattle.cil_safety.proofs.CallPieces.{FitsTypes}
use Rattle.cil_safety.proofs.CallForms.{HasNumber, numbered}
use Rattle.cil_safety.proofs.References.{where_false, Passes, ref_refers, object_fits}
use Rattle.cil_safety.proofs.ObjectForms.{into_reference}
use Rattle.cil_safety.proofs.ObjectWords.{object_spans, static_spans, pointer_part}
use Rattle.cil_safety.proofs.Pointers.{cuts_fit, reads_fit, writes_fit, null_throws, pushes_fit, stored_fits}

-- Where a field that is named lies, at one instantiation: in each object that passes as its class, or in its struct.
pub record IsField (p : Program) (s : Site) (f : FRef) : Type 0 where
  pub place : ℕ
  pub offset : ℕ
  pub found : field_found p f ≡ Some place
  pub at : instance_offset p (put_type s.frame.method f.class) place ≡ Some offset
  pub in_object : (e : TExpr) → IsExact p e → passes_as p e (put_type s.frame.method f.class) ≡ true → (element_of e ≡ None) × Lies (instance_scalars_of p e) offset (scalars_of p (put_type s.frame.method (field_type f)))
  pub in_struct : is_struct_in (view_of p s.definition) f.class ≡ true → Lies (scalars_of p (put_type s.frame.method f.class)) offset (scalars_of p (put_type s.frame.method (field_type f)))
  pub no_string : passes_as p (plain 1) (put_type s.frame.method f.class) ≡ false
  pub reference : is_struct_in (view_of p s.definition) f.class ≡ false → is_reference p (put_type s.frame.method f.class) ≡ true
  pub kind : is_struct_in (view_of p s.definition) f.class ≡ true → kind_of p (put_type s.frame.method f.class) ≡ kind.Struct
  pub stack_is : stack_of f.class ≡ stack.Kind f.class

-- ..and a static field among the static words of its class
pub record IsStatic (p : Program) (s : Site) (f : FRef) : Type 0 where
  pub place : ℕ
  pub offset : ℕ
  pub found : field_found p f ≡ Some place
  pub at : static_offset p (put_type s.frame.method f.class) place ≡ Some offset
  pub lies : Spans (slice_get (static_scalars_of p (put_type s.frame.method f.class))) offset (scalars_of p (put_type s.frame.method (field_type f)))
  pub few : limit_of p (put_type s.frame.method f.class) ≡ None → offset + length (scalars_of p (put_type s.frame.method (field_type f))) ≤ INDEX_LIMIT

-- an operand that points to a type
pub pointer_is : (t : TExpr) (a : StackType) → points_to t a ≡ true → a ≡ stack.Pointer t
pointer_is t stack.Int32 e = absurd (cc e)
pointer_is t stack.Int64 e = absurd (cc e)
pointer_is t stack.Native e = absurd (cc e)
pointer_is t stack.Null e = absurd (cc e)
pointer_is t (stack.Kind v) e = absurd (cc e)
pointer_is t (stack.Boxed v) e = absurd (cc e)
pointer_is t (stack.Pointer v) e = ap stack.Pointer ((is_same-Decides v t).0 e)

module _ (p : Program) (n : Naming Mention TExpr) (names : IsNaming n) (handlers : HasHandlers p n) (faults : HasFaults p) where
  module _ (u : ℕ) (x : Store) (s : Site) (h : Holds) (hs : List Holds) (c : Sits p n names x s h hs) (well : FitsTypes p s.definition s.frame.method) (nums : List ℕ) where
    abbrev pub Fit : List StackType → List Value → Type 0
    Fit os vs = ValuesFit p n x (h ∷ hs) (sorts_of p s.frame.method os) vs

    abbrev pub Goes : List StackType → Type 0
    Goes os = GoesOn p n s.frame.method s.definition (suc s.frame.at) (sorts_of p s.frame.method os)

    abbrev pub Class : FRef → TExpr
    Class f = put_type s.frame.method f.class

    abbrev pub Kept : FRef → TExpr
    Kept f = put_type s.frame.method (field_type f)

    fault : Runs p n names u x (throws_null p s)
    fault = null_throws p n names handlers faults u x s h hs c nums

    -- a pointer that is not null
    somewhere : (q : Pointer) (k : Left) → Runs p n names u x k → Runs p n names u x (not_nowhere q (throws_null p s) k)
    somewhere Null k go = fault
    somewhere (InFrame l i j) k go = go
    somewhere (InFresh l j) k go = go
    somewhere (InObject o j) k go = go
    somewhere (InStatic v j) k go = go

    -- the object or the struct that an operand leads to, and the field in it
    owner_by_pointer : (f : FRef) (w : IsField p s f) (v : Value) (k : Pointer → Left) → is_struct_in (view_of p s.definition) f.class ≡ true → ValueFits p n x (h ∷ hs) (To (scalars_of p (Class f))) v → ((q : Pointer) → PointerFits p n x (h ∷ hs) (scalars_of p (Kept f)) (shifted q w.offset) → Runs p n names u x (k q)) → Runs p n names u x (as_owner v (throws_null p s) k)
    owner_by_pointer f w (Plain l ws) k is fv go = absurd fv
    owner_by_pointer f w (Managed q) k is fv go = somewhere q (k q) (go q (pointer_part p n x (h ∷ hs) (scalars_of p (Class f)) w.offset (scalars_of p (Kept f)) q (w.in_struct is) fv))

    owner_by_reference : (f : FRef) (w : IsField p s f) (v : Value) (k : Pointer → Left) → ValueFits p n x (h ∷ hs) (Words kind.Reference (Ref (Class f) ∷ [])) v → ((q : Pointer) → PointerFits p n x (h ∷ hs) (scalars_of p (Kept f)) (shifted q w.offset) → Runs p n names u x (k q)) → Runs p n names u x (as_owner v (throws_null p s) k)
    owner_by_reference f w (Managed q) k fv go = absurd fv
    owner_by_reference f w (Plain l ws) k fv go =
        where_true p n names u x (is_reference_word l) (one_word ws (λ r. not_null r (throws_null p s) (as_object r (k (InObject r 0))))) Stuck (ap is_reference_word fv.0)
        (one_popped p n names u x (Ref (Class f)) ws (λ r. not_null r (throws_null p s) (as_object r (k (InObject r 0)))) fv.1 (λ r fr.
        null_or p n names u x r (throws_null p s) (as_object r (k (InObject r 0))) fault (λ some.
        object_fits p n names u x (Passes p n (Class f)) r (k (InObject r 0)) (ref_refers p n x (Class f) r fr) some (λ pass. cc (pass, w.no_string)) (λ e o pass.
        let there = w.in_object e o.exact pass in
        go (InObject r 0) (pointer_part p n x (h ∷ hs) (instance_scalars_of p e) w.offset (scalars_of p (Kept f)) (InObject r 0) there.1 (object_spans p n x e r o there.0))))))

    owner_fits : (f : FRef) (w : IsField p s f) (a : StackType) (v : Value) (k : Pointer → Left) → is_object_of (view_of p s.definition) f.class a ≡ true → ValueFits p n x (h ∷ hs) (sort_of p s.frame.method a) v → ((q : Pointer) → PointerFits p n x (h ∷ hs) (scalars_of p (Kept f)) (shifted q w.offset) → Runs p n names u x (k q)) → Runs p n names u x (as_owner v (throws_null p s) k)
    owner_fits f w a v k e fv go = by_test (is_struct_in (view_of p s.definition) f.class) refl e
      where
        by_test : (b : Bool) → is_struct_in (view_of p s.definition) f.class ≡ b → (if b then points_to f.class a else fits (view_of p s.definition) f.class a) ≡ true → Runs p n names u x (as_owner v (throws_null p s) k)
        by_test true is e' = owner_by_pointer f w v k is (subst (λ z. ValueFits p n x (h ∷ hs) (sort_of p s.frame.method z) v) (pointer_is f.class a e') fv) go
        by_test false is e' = owner_by_reference f w v k (value_wide p n x (h ∷ hs) (sort_of p s.frame.method a) (Words kind.Reference (Ref (Class f) ∷ [])) v (into_reference p (sort_of p s.frame.method a) (Class f) (w.reference is) (well.into f.class a e')) fv) go

    -- ---- static fields

    static_fits : (f : FRef) (w : IsStatic p s f) (k : Pointer → Left) → Settled p n names s.frame.method (field_entries p f) nums → ((q : Pointer) → PointerFits p n x (h ∷ hs) (scalars_of p (Kept f)) q → Runs p n names u x (k q)) → Runs p n names u x (static_here p s nums f k)
    static_fits f w k sets go =
        let e : HasNumber p n names s.frame.method (entry.Kind f.class) nums 0 = numbered p n names s.frame.method (field_entries p f) nums 0 (entry.Kind f.class) sets (ap (λ o. slice_get (field_entries_at p f o) 0) w.found) in
        where_given p n names u x (slice_get nums 0) e.number (λ v. fixed_offset_here p s f (λ offset. k (InStatic v offset))) e.is
        (where_given p n names u x (field_found p f) w.place (λ place. given (static_offset p (Class f) place) (λ offset. k (InStatic e.number offset))) w.found
        (where_given p n names u x (static_offset p (Class f) w.place) w.offset (λ offset. k (InStatic e.number offset)) w.at
        (go (InStatic e.number w.offset) (static_spans p n x (Class f) e.number w.offset (scalars_of p (Kept f)) (names.rightly (OfEntry s.frame.method (entry.Kind f.class)) e.number (Class f) e.value refl) (w.few e.limit) w.lies))))

    pub ldsfld_row : (f : FRef) → IsStatic p s f → Settled p n names s.frame.method (field_entries p f) nums → (os out : Operands) (vs : List Value) → push (stack_of (field_type f)) os ≡ Some out → Fit os vs → Goes out → Runs p n names u x (on_member p s nums (ReadsStatic f) vs)
    ldsfld_row f w sets os out vs e fit g =
        let o : stack_of (field_type f) ∷ os ≡ out = cc e in
        static_fits f w (λ q. reads s.places q (words_of p (Kept f)) (throws_null p s) (pushes p s (Kept f) vs)) sets (λ q fq.
        subst (λ size. Runs p n names u x (reads s.places q size (throws_null p s) (pushes p s (Kept f) vs))) (length-scalars_of p (Kept f))
        (reads_fit p n names u x (h ∷ hs) s.places q (scalars_of p (Kept f)) (throws_null p s) (pushes p s (Kept f) vs) c.places fq fault (λ y ws gr fw.
        pushes_fit p n names handlers faults u x s h hs c nums y (field_type f) os vs ws gr fit fw (subst (λ z. Goes z) (sym o) g))))

    pub stsfld_row : (f : FRef) → IsStatic p s f → Settled p n names s.frame.method (field_entries p f) nums → (os out : Operands) (vs : List Value) → take_one (fits (view_of p s.definition) (field_type f)) Some os ≡ Some out → Fit os vs → Goes out → Runs p n names u x (on_member p s nums (WritesStatic f) vs)
    stsfld_row f w sets [] out vs e fit g = absurd (cc e)
    stsfld_row f w sets (a ∷ os) out vs e fit g = by_test (fits (view_of p s.definition) (field_type f) a) refl e
      where
        by_test : (b : Bool) → fits (view_of p s.definition) (field_type f) a ≡ b → (if b then Some os else None) ≡ Some out → Runs p n names u x (on_member p s nums (WritesStatic f) vs)
        by_test false is e' = absurd (cc e')
        by_test true is e' =
            let o : os ≡ out = cc e' in
            static_fits f w (λ q. pops vs (λ v ws. keeps p (Kept f) v (λ words. writes s.places q words (throws_null p s) (λ pl. goes_with s pl ws)))) sets (λ q fq.
            popped p n names u x (h ∷ hs) (sort_of p s.frame.method a) (sorts_of p s.frame.method os) vs (λ v ws. keeps p (Kept f) v (λ words. writes s.places q words (throws_null p s) (λ pl. goes_with s pl ws))) fit (λ v ws fv fs.
            keeps_fits p n names u x (h ∷ hs) (sort_of p s.frame.method a) (Kept f) v (λ words. writes s.places q words (throws_null p s) (λ pl. goes_with s pl ws)) (well.into (field_type f) a is) fv (λ words fw.
            writes_fit p n names u x (h ∷ hs) s.places q (scalars_of p (Kept f)) words (throws_null p s) (λ pl. goes_with s pl ws) c.places fq fw fault (λ y pl gr places.
            stored_fits p n names handlers faults u x s h hs c nums y pl os ws gr places fs (subst (λ z. Goes z) (sym o) g)))))

    pub ldsflda_row : (f : FRef) → IsStatic p s f → Settled p n names s.frame.method (field_entries p f) nums → (os out : Operands) (vs : List Value) → push (stack.Pointer (field_type f)) os ≡ Some out → Fit os vs → Goes out → Runs p n names u x (on_member p s nums (PointsStatic f) vs)
    ldsflda_row f w sets os out vs e fit g =
        let o : stack.Pointer (field_type f) ∷ os ≡ out = cc e in
        static_fits f w (λ q. goes s (Managed q ∷ vs)) sets (λ q fq.
        goes_to_fits p n names u x s h hs (suc s.frame.at) (sorts_of p s.frame.method (stack.Pointer (field_type f) ∷ os)) (Managed q ∷ vs) c (subst (λ z. Goes z) (sym o) g) (fq, fit))

    -- ---- fields

    offset_fits : (f : FRef) (w : IsField p s f) (k : ℕ → Left) → Runs p n names u x (k w.offset) → Runs p n names u x (offset_here p s f k)
    offset_fits f w k go =
        where_given p n names u x (field_found p f) w.place (λ place. given (instance_offset p (Class f) place) k) w.found
        (where_given p n names u x (instance_offset p (Class f) w.place) w.offset k w.at go)

    pub ldflda_row : (f : FRef) → IsField p s f → (os out : Operands) (vs : List Value) → take_one (is_object_of (view_of p s.definition) f.class) (push (stack.Pointer (field_type f))) os ≡ Some out → Fit os vs → Goes out → Runs p n names u x (on_member p s nums (PointsField f) vs)
    ldflda_row f w [] out vs e fit g = absurd (cc e)
    ldflda_row f w (a ∷ os) out vs e fit g = by_test (is_object_of (view_of p s.definition) f.class a) refl e
      where
        by_test : (b : Bool) → is_object_of (view_of p s.definition) f.class a ≡ b → (if b then Some (stack.Pointer (field_type f) ∷ os) else None) ≡ Some out → Runs p n names u x (on_member p s nums (PointsField f) vs)
        by_test false is e' = absurd (cc e')
        by_test true is e' =
            let o : stack.Pointer (field_type f) ∷ os ≡ out = cc e' in
            offset_fits f w (λ offset. pops vs (λ v ws. as_owner v (throws_null p s) (λ q. goes s (Managed (shifted q offset) ∷ ws))))
            (popped p n names u x (h ∷ hs) (sort_of p s.frame.method a) (sorts_of p s.frame.method os) vs (λ v ws. as_owner v (throws_null p s) (λ q. goes s (Managed (shifted q w.offset) ∷ ws))) fit (λ v ws fv fs.
            owner_fits f w a v (λ q. goes s (Managed (shifted q w.offset) ∷ ws)) is fv (λ q fq.
            goes_to_fits p n names u x s h hs (suc s.frame.at) (sorts_of p s.frame.method (stack.Pointer (field_type f) ∷ os)) (Managed (shifted q w.offset) ∷ ws) c (subst (λ z. Goes z) (sym o) g) (fq, fs))))

    pub stfld_row : (f : FRef) → IsField p s f → (os out : Operands) (vs : List Value) → take_one (fits (view_of p s.definition) (field_type f)) (take_one (is_object_of (view_of p s.definition) f.class) Some) os ≡ Some out → Fit os vs → Goes out → Runs p n names u x (on_member p s nums (WritesField f) vs)
    stfld_row f w [] out vs e fit g = absurd (cc e)
    stfld_row f w (a ∷ []) out vs e fit g = by_test (fits (view_of p s.definition) (field_type f) a) e
      where
        by_test : (b : Bool) → (if b then None else None) ≡ Some out → Runs p n names u x (on_member p s nums (WritesField f) vs)
        by_test true e' = absurd (cc e')
        by_test false e' = absurd (cc e')
    stfld_row f w (a ∷ b ∷ os) out vs e fit g = by_tests (fits (view_of p s.definition) (field_type f) a) (is_object_of (view_of p s.definition) f.class b) refl refl e
      where
        by_tests : (t t' : Bool) → fits (view_of p s.definition) (field_type f) a ≡ t → is_object_of (view_of p s.definition) f.class b ≡ t' → (if t then (if t' then Some os else None) else None) ≡ Some out → Runs p n names u x (on_member p s nums (WritesField f) vs)
        by_tests false t' is is' e' = absurd (cc e')
        by_tests true false is is' e' = absurd (cc e')
        by_tests true true is is' e' =
            let o : os ≡ out = cc e' in
            offset_fits f w (λ offset. pops vs (λ v us. pops us (λ r ws. keeps p (Kept f) v (λ words. as_owner r (throws_null p s) (λ q. writes s.places (shifted q offset) words (throws_null p s) (λ pl. goes_with s pl ws))))))
            (popped p n names u x (h ∷ hs) (sort_of p s.frame.method a) (sort_of p s.frame.method b ∷ sorts_of p s.frame.method os) vs (λ v us. pops us (λ r ws. keeps p (Kept f) v (λ words. as_owner r (throws_null p s) (λ q. writes s.places (shifted q w.offset) words (throws_null p s) (λ pl. goes_with s pl ws))))) fit (λ v us fv fus.
            popped p n names u x (h ∷ hs) (sort_of p s.frame.method b) (sorts_of p s.frame.method os) us (λ r ws. keeps p (Kept f) v (λ words. as_owner r (throws_null p s) (λ q. writes s.places (shifted q w.offset) words (throws_null p s) (λ pl. goes_with s pl ws)))) fus (λ r ws fr fs.
            keeps_fits p n names u x (h ∷ hs) (sort_of p s.frame.method a) (Kept f) v (λ words. as_owner r (throws_null p s) (λ q. writes s.places (shifted q w.offset) words (throws_null p s) (λ pl. goes_with s pl ws))) (well.into (field_type f) a is) fv (λ words fw.
            owner_fits f w b r (λ q. writes s.places (shifted q w.offset) words (throws_null p s) (λ pl. goes_with s pl ws)) is' fr (λ q fq.
            writes_fit p n names u x (h ∷ hs) s.places (shifted q w.offset) (scalars_of p (Kept f)) words (throws_null p s) (λ pl. goes_with s pl ws) c.places fq fw fault (λ y pl gr places.
            stored_fits p n names handlers faults u x s h hs c nums y pl os ws gr places fs (subst (λ z. Goes z) (sym o) g)))))))

    -- what is left to do with the words of a field
    abbrev pub Pushed : FRef → List Value → List ℕ → Left
    Pushed f ws = pushes p s (Kept f) ws

    abbrev pub Read : FRef → ℕ → List Value → Pointer → Left
    Read f offset ws q = reads s.places (shifted q offset) (words_of p (Kept f)) (throws_null p s) (pushes p s (Kept f) ws)

    words_pushed : (f : FRef) (w : IsField p s f) (os : List StackType) (ws : List Value) (q : Pointer) → Fit os ws → Goes (stack_of (field_type f) ∷ os) → PointerFits p n x (h ∷ hs) (scalars_of p (Kept f)) (shifted q w.offset) → Runs p n names u x (Read f w.offset ws q)
    words_pushed f w os ws q fs g fq =
        subst (λ size. Runs p n names u x (reads s.places (shifted q w.offset) size (throws_null p s) (pushes p s (Kept f) ws))) (length-scalars_of p (Kept f))
        (reads_fit p n names u x (h ∷ hs) s.places (shifted q w.offset) (scalars_of p (Kept f)) (throws_null p s) (pushes p s (Kept f) ws) c.places fq fault (λ y us gr fu.
        pushes_fit p n names handlers faults u x s h hs c nums y (field_type f) os ws us gr fs fu g))

    -- a struct by value
    part_by_value : (f : FRef) (w : IsField p s f) (v : Value) (os : List StackType) (ws : List Value) → is_struct_in (view_of p s.definition) f.class ≡ true → ValueFits p n x (h ∷ hs) (value_sort p (Class f)) v → Fit os ws → Goes (stack_of (field_type f) ∷ os) → Runs p n names u x (reads_part (Pushed f ws) v (Read f w.offset ws) (throws_null p s) w.offset (words_of p (Kept f)))
    part_by_value f w (Managed q) os ws is fv fs g = absurd fv
    part_by_value f w (Plain l us) os ws is fv fs g =
        where_true p n names u x (is_struct l) (cuts us w.offset (words_of p (Kept f)) (Pushed f ws)) (as_owner (Plain l us) (throws_null p s) (Read f w.offset ws)) (ap is_struct (fv.0 ∙ w.kind is))
        (subst (λ size. Runs p n names u x (cuts us w.offset size (Pushed f ws))) (length-scalars_of p (Kept f))
        (cuts_fit p n names u x (scalars_of p (Class f)) us w.offset (scalars_of p (Kept f)) (Pushed f ws) fv.1 (w.in_struct is) (λ vs fw.
        pushes_fit p n names handlers faults u x s h hs c nums x (field_type f) os ws vs (grows_self x) fs fw g)))

    -- an object by reference, or a struct by pointer
    part_by_owner : (f : FRef) (w : IsField p s f) (a : StackType) (v : Value) (os : List StackType) (ws : List Value) → is_object_of (view_of p s.definition) f.class a ≡ true → ValueFits p n x (h ∷ hs) (sort_of p s.frame.method a) v → Fit os ws → Goes (stack_of (field_type f) ∷ os) → Runs p n names u x (reads_part (Pushed f ws) v (Read f w.offset ws) (throws_null p s) w.offset (words_of p (Kept f)))
    part_by_owner f w a (Managed q) os ws is fv fs g = owner_fits f w a (Managed q) (Read f w.offset ws) is fv (λ q' fq. words_pushed f w os ws q' fs g fq)
    part_by_owner f w a (Plain l us) os ws is fv fs g = by_test (is_struct_in (view_of p s.definition) f.class) refl is
      where
        by_test : (b : Bool) → is_struct_in (view_of p s.definition) f.class ≡ b → (if b then points_to f.class a else fits (view_of p s.definition) f.class a) ≡ true → Runs p n names u x (reads_part (Pushed f ws) (Plain l us) (Read f w.offset ws) (throws_null p s) w.offset (words_of p (Kept f)))
        by_test true st e' = absurd (subst (λ z. ValueFits p n x (h ∷ hs) (sort_of p s.frame.method z) (Plain l us)) (pointer_is f.class a e') fv)
        by_test false st e' =
            let wide : ValueFits p n x (h ∷ hs) (Words kind.Reference (Ref (Class f) ∷ [])) (Plain l us) = value_wide p n x (h ∷ hs) (sort_of p s.frame.method a) (Words kind.Reference (Ref (Class f) ∷ [])) (Plain l us) (into_reference p (sort_of p s.frame.method a) (Class f) (w.reference st) (well.into f.class a e')) fv in
            where_false p n names u x (is_struct l) (cuts us w.offset (words_of p (Kept f)) (Pushed f ws)) (as_owner (Plain l us) (throws_null p s) (Read f w.offset ws)) (ap is_struct wide.0)
            (owner_by_reference f w (Plain l us) (Read f w.offset ws) wide (λ q fq. words_pushed f w os ws q fs g fq))

    -- an operand that stands as a class does is a value of it
    stands_is : (f : FRef) (w : IsField p s f) (a : StackType) → stands_as f.class a ≡ true → a ≡ stack.Kind f.class
    stands_is f w stack.Int32 e = absurd (let q : false ≡ true = ap is_int32 (sym w.stack_is) ∙ e in cc q)
    stands_is f w stack.Int64 e = absurd (let q : false ≡ true = ap is_int64 (sym w.stack_is) ∙ e in cc q)
    stands_is f w stack.Native e = absurd (cc e)
    stands_is f w stack.Null e = absurd (cc e)
    stands_is f w (stack.Kind v) e = ap stack.Kind ((is_same-Decides v f.class).0 e)
    stands_is f w (stack.Boxed v) e = absurd (cc e)
    stands_is f w (stack.Pointer v) e = absurd (cc e)

    either : (a b : Bool) → (a || b) ≡ true → (a ≡ true) ⊎ (b ≡ true)
    either true b e = inl refl
    either false b e = inr e

    both_are : (a b : Bool) → (a && b) ≡ true → (a ≡ true) × (b ≡ true)
    both_are true b e = (refl, e)
    both_are false b e = absurd (cc e)

    pub ldfld_row : (f : FRef) → IsField p s f → (os out : Operands) (vs : List Value) → take_one (may_be_read (view_of p s.definition) f.class) (push (stack_of (field_type f))) os ≡ Some out → Fit os vs → Goes out → Runs p n names u x (on_member p s nums (ReadsField f) vs)
    ldfld_row f w [] out vs e fit g = absurd (cc e)
    ldfld_row f w (a ∷ os) out vs e fit g = by_test (may_be_read (view_of p s.definition) f.class a) refl e
      where
        by_test : (b : Bool) → may_be_read (view_of p s.definition) f.class a ≡ b → (if b then Some (stack_of (field_type f) ∷ os) else None) ≡ Some out → Runs p n names u x (on_member p s nums (ReadsField f) vs)
        by_test false is e' = absurd (cc e')
        by_test true is e' =
            let o : stack_of (field_type f) ∷ os ≡ out = cc e' in
            let g' : Goes (stack_of (field_type f) ∷ os) = subst (λ z. Goes z) (sym o) g in
            offset_fits f w (λ offset. pops vs (λ v ws. reads_part (Pushed f ws) v (Read f offset ws) (throws_null p s) offset (words_of p (Kept f))))
            (popped p n names u x (h ∷ hs) (sort_of p s.frame.method a) (sorts_of p s.frame.method os) vs (λ v ws. reads_part (Pushed f ws) v (Read f w.offset ws) (throws_null p s) w.offset (words_of p (Kept f))) fit (λ v ws fv fs.
            ⊎_elim (λ q. part_by_owner f w a v os ws q fv fs g')
            (λ q. let r = both_are (is_struct_in (view_of p s.definition) f.class) (stands_as f.class a) q in
            part_by_value f w v os ws r.0 (subst (λ z. ValueFits p n x (h ∷ hs) (sort_of p s.frame.method z) v) (stands_is f w a r.1) fv) fs g')
            (either (is_object_of (view_of p s.definition) f.class a) (is_struct_in (view_of p s.definition) f.class && stands_as f.class a) is)))
