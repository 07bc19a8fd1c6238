-- Words through pointers: read, written, and the forms that do no more than this.
use Rattle.std.proofs.Common.{◌≡◌, ℕ, suc, ◌+◌, ◌≤◌, List, [], ◌∷◌, length, Bool, true, false, Option, Some, None, refl, sym, ap, subst, arith}
use Rattle.std.proofs.lemmas.Bool.Decides.{nat_tests}
use Rattle.std.specs.Prelude.{if◌then◌else◌, nat_le, replicate, slice_get}
use Rattle.type_tree.specs.declared.tree.TExpr.{TExpr}
use Rattle.type_tree.proofs.SameLemmas.{is_same-Decides}
use Rattle.il_model.specs.declared.program.Program.{Program}
use Rattle.il_model.specs.Layouts.{words_of}
use Rattle.interaction.specs.Process.{Naming, Stuck}
use Rattle.store_object.specs.declared.place.Place.TheVariants as at
use Rattle.store_object.specs.Store.{Store}
use Rattle.store_object.specs.Growth.{Grows}
use Rattle.store_object.proofs.StoreLaws.{grows_self}
use Rattle.cil_flow.specs.declared.state.StackType.{StackType}
use Rattle.cil_flow.specs.declared.state.StackType.TheVariants as stack
use Rattle.cil_verify.specs.Places.{View, view_of, stack_of}
use Rattle.cil_verify.specs.Fits.{points_to, fits}
use Rattle.cil_verify.specs.Admits.{Operands, take_one, push}
use Rattle.cil_meaning.specs.Words.{cut, spliced}
use Rattle.cil_meaning.specs.Values.{Pointer, Null, InFrame, InFresh, InObject, InStatic, Value, Plain, Managed}
use Rattle.cil_meaning.specs.Naming.{Mention, IsNaming, put_type}
use Rattle.cil_meaning.specs.Frames.{Places, places_at, with_places, with_held, with_fresh}
use Rattle.cil_meaning.specs.Types.{kind_of}
use Rattle.cil_meaning.specs.Replies.{Left}
use Rattle.cil_meaning.specs.Search.{null_reference}
use Rattle.cil_meaning.specs.Site.{Site, goes_with, throws}
use Rattle.cil_meaning.specs.Pieces.{given, pops, as_pointer, keeps, words_in, cuts, splices, reads, written_in, writes}
use Rattle.cil_meaning.specs.Groups.{ReadsAt, WritesAt, ClearsAt}
use Rattle.cil_meaning.specs.Members.{pushes, throws_null, on_member}
use Rattle.cil_safety.proofs.Sorts.{Scalar, Words, To, scalars_of, value_sort, sort_of, sorts_of}
use Rattle.cil_safety.proofs.Fit.{Lies, Holds, WordsFit, PointerFits, ValueFits, ValuesFit, PlacesFit, GoesOn}
use Rattle.cil_safety.proofs.Words.{as_long, zeros_fit, value_wide, values_later, value_there, put_fits, cut_fits, splice_fits, places_there, put_places, places_later}
use Rattle.cil_safety.proofs.Requests.{along_object, along_fixed, load_words, save_words}
use Rattle.cil_safety.proofs.Types.{stands}
use Rattle.cil_safety.proofs.Pieces.{HasHandlers, Sits, Runs, length-scalars_of, goes_on, goes_to_fits, sits_later, where_true, where_given, popped, pointer_popped, keeps_fits, throws_fit}
use Rattle.cil_safety.proofs.Straight.{HasFaults}
use Rattle.cil_safety.proofs.CallPieces.{FitsTypes}

module _ (p : Program) (n : Naming Mention TExpr) (names : IsNaming n) where
  -- ---- words

  pub cuts_fit : (u : ℕ) (x : Store) (us : List Scalar) (ws : List ℕ) (i : ℕ) (as' : List Scalar) (k : List ℕ → Left) → WordsFit p n x us ws → Lies us i as' → ((vs : List ℕ) → WordsFit p n x as' vs → Runs p n names u x (k vs)) → Runs p n names u x (cuts ws i (length as') k)
  cuts_fit u x us ws i as' k f l go =
      let long : length ws ≡ length us = as_long p n x us ws f in
      let le : i + length as' ≤ length ws = subst (λ z. i + length as' ≤ z) (sym long) l.0 in
      let t : nat_le (i + length as') (length ws) ≡ true = grind (arith, nat_tests) in
      where_true p n names u x (nat_le (i + length as') (length ws)) (k (cut ws i (length as'))) Stuck t (go (cut ws i (length as')) (cut_fits p n x us ws i as' f l.1))

  splices_fit : (u : ℕ) (x : Store) (us : List Scalar) (ws : List ℕ) (i : ℕ) (as' : List Scalar) (new : List ℕ) (k : List ℕ → Left) → WordsFit p n x us ws → Lies us i as' → WordsFit p n x as' new → Runs p n names u x (k (spliced ws i new)) → Runs p n names u x (splices ws i new k)
  splices_fit u x us ws i as' new k f l fn go =
      let long : length ws ≡ length us = as_long p n x us ws f in
      let same' : length new ≡ length as' = as_long p n x as' new fn in
      let le : i + length new ≤ length ws = subst (λ z. i + length new ≤ z) (sym long) (subst (λ z. i + z ≤ length us) (sym same') l.0) in
      let t : nat_le (i + length new) (length ws) ≡ true = grind (arith, nat_tests) in
      where_true p n names u x (nat_le (i + length new) (length ws)) (k (spliced ws i new)) Stuck t go

  -- ---- through a pointer

  pub reads_fit : (u : ℕ) (x : Store) (env : List Holds) (pl : List Places) (q : Pointer) (as' : List Scalar) (null : Left) (k : List ℕ → Left) → PlacesFit p n x env pl → PointerFits p n x env as' q → Runs p n names u x null → ((y : Store) (ws : List ℕ) → Grows x y → WordsFit p n y as' ws → Runs p n names u y (k ws)) → Runs p n names u x (reads pl q (length as') null k)
  reads_fit u x env pl Null as' null k f h bad go = bad
  reads_fit u x env pl (InFrame level place i) as' null k f h bad go =
      let there = places_there p n x env pl level h.0 f h.3 in
      let v = value_there p n x there.env h.0.held there.places.held place (Words h.1 h.2) there.held h.4 in
      where_given p n names u x (places_at pl level) there.places (λ q. given (slice_get q.held place) (λ v'. words_in v' (λ ws. cuts ws i (length as') k))) there.there
      (where_given p n names u x (slice_get there.places.held place) v.0 (λ v'. words_in v' (λ ws. cuts ws i (length as') k)) v.1 (by_value v.0 v.2))
    where
      by_value : (v : Value) → ValueFits p n x (places_there p n x env pl level h.0 f h.3).env (Words h.1 h.2) v → Runs p n names u x (words_in v (λ ws. cuts ws i (length as') k))
      by_value (Plain l ws) fv = cuts_fit u x h.2 ws i as' k fv.1 h.5 (λ vs fs. go x vs (grows_self x) fs)
      by_value (Managed q) fv = absurd fv
  reads_fit u x env pl (InFresh level i) as' null k f h bad go =
      let there = places_there p n x env pl level h.0 f h.1 in
      where_given p n names u x (places_at pl level) there.places (λ q. cuts q.fresh i (length as') k) there.there (cuts_fit u x h.0.fresh there.places.fresh i as' k there.fresh h.2 (λ vs fs. go x vs (grows_self x) fs))
  reads_fit u x env pl (InObject o i) as' null k f h bad go = load_words p n u x (at.Object o i) as' k (along_object p n x o i as' h) go
  reads_fit u x env pl (InStatic v i) as' null k f h bad go = load_words p n u x (at.Fixed v i) as' k (along_fixed p n x v i as' h) go

  pub writes_fit : (u : ℕ) (x : Store) (env : List Holds) (pl : List Places) (q : Pointer) (as' : List Scalar) (new : List ℕ) (null : Left) (k : List Places → Left) → PlacesFit p n x env pl → PointerFits p n x env as' q → WordsFit p n x as' new → Runs p n names u x null → ((y : Store) (pl' : List Places) → Grows x y → PlacesFit p n y env pl' → Runs p n names u y (k pl')) → Runs p n names u x (writes pl q new null k)
  writes_fit u x env pl Null as' new null k f h fn bad go = bad
  writes_fit u x env pl (InFrame level place i) as' new null k f h fn bad go =
      let there = places_there p n x env pl level h.0 f h.3 in
      let v = value_there p n x there.env h.0.held there.places.held place (Words h.1 h.2) there.held h.4 in
      where_given p n names u x (places_at pl level) there.places (λ q. given (slice_get q.held place) (λ v'. written_in v' i new (λ w. k (with_places pl level (with_held q place w))))) there.there
      (where_given p n names u x (slice_get there.places.held place) v.0 (λ v'. written_in v' i new (λ w. k (with_places pl level (with_held there.places place w)))) v.1 (by_value v.0 v.2 v.1))
    where
      by_value : (v : Value) → ValueFits p n x (places_there p n x env pl level h.0 f h.3).env (Words h.1 h.2) v → slice_get (places_there p n x env pl level h.0 f h.3).places.held place ≡ Some v → Runs p n names u x (written_in v i new (λ w. k (with_places pl level (with_held (places_there p n x env pl level h.0 f h.3).places place w))))
      by_value (Plain l ws) fv is = splices_fit u x h.2 ws i as' new (λ us. k (with_places pl level (with_held (places_there p n x env pl level h.0 f h.3).places place (Plain l us)))) fv.1 h.5 fn
          (go x (with_places pl level (with_held (places_there p n x env pl level h.0 f h.3).places place (Plain l (spliced ws i new)))) (grows_self x)
          (put_places p n x env pl level h.0 (places_there p n x env pl level h.0 f h.3).places (with_held (places_there p n x env pl level h.0 f h.3).places place (Plain l (spliced ws i new))) f h.3 (places_there p n x env pl level h.0 f h.3).there
          (λ inner held. put_fits p n x inner h.0.held (places_there p n x env pl level h.0 f h.3).places.held place (Words h.1 h.2) (Plain l (spliced ws i new)) held h.4 (fv.0, splice_fits p n x h.2 ws i as' new fv.1 h.5.1 fn))
          (λ fresh. fresh)))
      by_value (Managed q) fv is = absurd fv
  writes_fit u x env pl (InFresh level i) as' new null k f h fn bad go =
      let there = places_there p n x env pl level h.0 f h.1 in
      where_given p n names u x (places_at pl level) there.places (λ q. splices q.fresh i new (λ ws. k (with_places pl level (with_fresh q ws)))) there.there
      (splices_fit u x h.0.fresh there.places.fresh i as' new (λ ws. k (with_places pl level (with_fresh there.places ws))) there.fresh h.2 fn
      (go x (with_places pl level (with_fresh there.places (spliced there.places.fresh i new))) (grows_self x)
      (put_places p n x env pl level h.0 there.places (with_fresh there.places (spliced there.places.fresh i new)) f h.1 there.there (λ inner held. held) (λ fresh. splice_fits p n x h.0.fresh there.places.fresh i as' new fresh h.2.1 fn))))
  writes_fit u x env pl (InObject o i) as' new null k f h fn bad go = save_words p n u x (at.Object o i) as' new (k pl) (along_object p n x o i as' h) fn (λ y g. go y pl g (places_later p n x y env pl g f))
  writes_fit u x env pl (InStatic v i) as' new null k f h fn bad go = save_words p n u x (at.Fixed v i) as' new (k pl) (along_fixed p n x v i as' h) fn (λ y g. go y pl g (places_later p n x y env pl g f))

  -- ---- `ldobj`, `stobj`, `initobj`

  module _ (handlers : HasHandlers p n) (faults : HasFaults p) (u : ℕ) (x : Store) (s : Site) (h : Holds) (hs : List Holds) (c : Sits p n names x s h hs) (nums : List ℕ) where
    abbrev pub Fit : List StackType → List Value → Type 0
    Fit os vs = ValuesFit p n x (h ∷ hs) (sorts_of p s.frame.method os) vs

    abbrev pub Goes : List StackType → Type 0
    Goes os = GoesOn p n s.frame.method s.definition (suc s.frame.at) (sorts_of p s.frame.method os)

    pub null_throws : Runs p n names u x (throws p s null_reference)
    null_throws = throws_fit p n names handlers u x s h hs null_reference faults.null_reference c

    -- an operand that points to a type
    pub pointer_is : (t : TExpr) (a : StackType) → points_to t a ≡ true → a ≡ stack.Pointer t
    pointer_is t stack.Int32 e = absurd (cc e)
    pointer_is t stack.Int64 e = absurd (cc e)
    pointer_is t stack.Native e = absurd (cc e)
    pointer_is t stack.Null e = absurd (cc e)
    pointer_is t (stack.Kind v) e = absurd (cc e)
    pointer_is t (stack.Boxed v) e = absurd (cc e)
    pointer_is t (stack.Pointer v) e = ap stack.Pointer ((is_same-Decides v t).0 e)

    -- a value of a type goes on the stack as its stack type
    pub pushes_fit : (y : Store) (t : TExpr) (os : List StackType) (vs : List Value) (ws : List ℕ) → Grows x y → ValuesFit p n x (h ∷ hs) (sorts_of p s.frame.method os) vs → WordsFit p n y (scalars_of p (put_type s.frame.method t)) ws → Goes (stack_of t ∷ os) → Runs p n names u y (pushes p s (put_type s.frame.method t) vs ws)
    pushes_fit y t os vs ws g fs fw go =
        goes_to_fits p n names u y s h hs (suc s.frame.at) (sorts_of p s.frame.method (stack_of t ∷ os)) (Plain (kind_of p (put_type s.frame.method t)) ws ∷ vs) (sits_later p n names x y s h hs g c) go
        (value_wide p n y (h ∷ hs) (value_sort p (put_type s.frame.method t)) (sort_of p s.frame.method (stack_of t)) (Plain (kind_of p (put_type s.frame.method t)) ws) (stands p s.frame.method t) (refl, fw), values_later p n x y (h ∷ hs) (sorts_of p s.frame.method os) vs g fs)

    -- goes on with other places
    pub stored_fits : (y : Store) (pl : List Places) (os : List StackType) (vs : List Value) → Grows x y → PlacesFit p n y (h ∷ hs) pl → Fit os vs → Goes os → Runs p n names u y (goes_with s pl vs)
    stored_fits y pl os vs g places fs go = goes_on p n names u y s h hs pl (suc s.frame.at) (sorts_of p s.frame.method os) vs (sits_later p n names x y s h hs g c) places go (values_later p n x y (h ∷ hs) (sorts_of p s.frame.method os) vs g fs)

    abbrev pub view : View
    view = view_of p s.definition

    pub taken : {test : StackType → Bool} {go : Operands → Option Operands} {out : Operands} (os : Operands) → take_one test go os ≡ Some out → (a : StackType) × (rest : Operands) × (os ≡ a ∷ rest) × (test a ≡ true) × (go rest ≡ Some out)
    taken [] e = absurd (cc e)
    taken {test = test} {go = go} {out = out} (a ∷ rest) e = by_test (test a) refl e
      where
        by_test : (b : Bool) → test a ≡ b → (if b then go rest else None) ≡ Some out → (a' : StackType) × (rest' : Operands) × (a ∷ rest ≡ a' ∷ rest') × (test a' ≡ true) × (go rest' ≡ Some out)
        by_test true t e' = (a, rest, refl, t, e')
        by_test false t e' = absurd (cc e')

    pub loads_through : (t : TExpr) (os out : Operands) (vs : List Value) → take_one (points_to t) (push (stack_of t)) os ≡ Some out → Fit os vs → Goes out → Runs p n names u x (on_member p s nums (ReadsAt t) vs)
    loads_through t os out vs e fit g =
        let k = taken {test = points_to t} {go = push (stack_of t)} {out = out} os e in
        let o : stack_of t ∷ k.1 ≡ out = cc k.4 in
        popped p n names u x (h ∷ hs) (To (scalars_of p (put_type s.frame.method t))) (sorts_of p s.frame.method k.1) vs (λ v ws. as_pointer v (λ q. reads s.places q (words_of p (put_type s.frame.method t)) (throws_null p s) (pushes p s (put_type s.frame.method t) ws)))
        (subst (λ z. Fit (z ∷ k.1) vs) (pointer_is t k.0 k.3) (subst (λ z. Fit z vs) k.2 fit)) (λ v ws fv fs.
        pointer_popped p n names u x (h ∷ hs) (scalars_of p (put_type s.frame.method t)) v (λ q. reads s.places q (words_of p (put_type s.frame.method t)) (throws_null p s) (pushes p s (put_type s.frame.method t) ws)) fv (λ q fq.
        subst (λ size. Runs p n names u x (reads s.places q size (throws_null p s) (pushes p s (put_type s.frame.method t) ws))) (length-scalars_of p (put_type s.frame.method t))
        (reads_fit u x (h ∷ hs) s.places q (scalars_of p (put_type s.frame.method t)) (throws_null p s) (pushes p s (put_type s.frame.method t) ws) c.places fq null_throws (λ y us gr fu.
        pushes_fit y t k.1 ws us gr fs fu (subst (λ z. Goes z) (sym o) g)))))

    pub stores_through : FitsTypes p s.definition s.frame.method → (t : TExpr) (os out : Operands) (vs : List Value) → take_one (fits view t) (take_one (points_to t) Some) os ≡ Some out → Fit os vs → Goes out → Runs p n names u x (on_member p s nums (WritesAt t) vs)
    stores_through well t os out vs e fit g =
        let k = taken {test = fits view t} {go = take_one (points_to t) Some} {out = out} os e in
        let j = taken {test = points_to t} {go = Some} {out = out} k.1 k.4 in
        let o : j.1 ≡ out = cc j.4 in
        popped p n names u x (h ∷ hs) (sort_of p s.frame.method k.0) (To (scalars_of p (put_type s.frame.method t)) ∷ sorts_of p s.frame.method j.1) vs (λ v us. pops us (λ w ws. as_pointer w (λ q. keeps p (put_type s.frame.method t) v (λ words. writes s.places q words (throws_null p s) (λ pl. goes_with s pl ws)))))
        (subst (λ z. Fit (k.0 ∷ z ∷ j.1) vs) (pointer_is t j.0 j.3) (subst (λ z. Fit (k.0 ∷ z) vs) j.2 (subst (λ z. Fit z vs) k.2 fit))) (λ v us fv fus.
        popped p n names u x (h ∷ hs) (To (scalars_of p (put_type s.frame.method t))) (sorts_of p s.frame.method j.1) us (λ w ws. as_pointer w (λ q. keeps p (put_type s.frame.method t) v (λ words. writes s.places q words (throws_null p s) (λ pl. goes_with s pl ws)))) fus (λ w ws fw fs.
        pointer_popped p n names u x (h ∷ hs) (scalars_of p (put_type s.frame.method t)) w (λ q. keeps p (put_type s.frame.method t) v (λ words. writes s.places q words (throws_null p s) (λ pl. goes_with s pl ws))) fw (λ q fq.
        keeps_fits p n names u x (h ∷ hs) (sort_of p s.frame.method k.0) (put_type s.frame.method t) v (λ words. writes s.places q words (throws_null p s) (λ pl. goes_with s pl ws)) (well.into t k.0 k.3) fv (λ words fwords.
        writes_fit u x (h ∷ hs) s.places q (scalars_of p (put_type s.frame.method t)) words (throws_null p s) (λ pl. goes_with s pl ws) c.places fq fwords null_throws (λ y pl gr places.
        stored_fits y pl j.1 ws gr places fs (subst (λ z. Goes z) (sym o) g))))))

    pub clears_through : (t : TExpr) (os out : Operands) (vs : List Value) → take_one (points_to t) Some os ≡ Some out → Fit os vs → Goes out → Runs p n names u x (on_member p s nums (ClearsAt t) vs)
    clears_through t os out vs e fit g =
        let k = taken {test = points_to t} {go = Some} {out = out} os e in
        let o : k.1 ≡ out = cc k.4 in
        popped p n names u x (h ∷ hs) (To (scalars_of p (put_type s.frame.method t))) (sorts_of p s.frame.method k.1) vs (λ v ws. as_pointer v (λ q. writes s.places q (replicate (words_of p (put_type s.frame.method t)) 0) (throws_null p s) (λ pl. goes_with s pl ws)))
        (subst (λ z. Fit (z ∷ k.1) vs) (pointer_is t k.0 k.3) (subst (λ z. Fit z vs) k.2 fit)) (λ v ws fv fs.
        pointer_popped p n names u x (h ∷ hs) (scalars_of p (put_type s.frame.method t)) v (λ q. writes s.places q (replicate (words_of p (put_type s.frame.method t)) 0) (throws_null p s) (λ pl. goes_with s pl ws)) fv (λ q fq.
        writes_fit u x (h ∷ hs) s.places q (scalars_of p (put_type s.frame.method t)) (replicate (words_of p (put_type s.frame.method t)) 0) (throws_null p s) (λ pl. goes_with s pl ws) c.places fq (zeros_fit p n x (scalars_of p (put_type s.frame.method t)) (words_of p (put_type s.frame.method t)) (sym (length-scalars_of p (put_type s.frame.method t)))) null_throws (λ y pl gr places.
        stored_fits y pl k.1 ws gr places fs (subst (λ z. Goes z) (sym o) g))))
