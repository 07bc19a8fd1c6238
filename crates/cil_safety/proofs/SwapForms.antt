-- One word read and written at once: through a pointer, and with its operands.
use Rattle.std.proofs.Common.{◌≡◌, ℕ, suc, List, [], ◌∷◌, Bool, true, false, Option, Some, refl, sym, ap, ◌∙◌, subst}
use Rattle.std.specs.Prelude.{◌==◌, if◌then◌else◌}
use Rattle.type_tree.specs.declared.tree.TExpr.{TExpr}
use Rattle.type_tree.specs.declared.tree.TNode.TheVariants.{Node}
use Rattle.type_tree.specs.declared.tree.Head.TheVariants as head
use Rattle.type_tree.proofs.TreeLemmas.{top_of-tree_of}
use Rattle.il_model.specs.declared.program.Program.{Program}
use Rattle.il_model.specs.Kinds.{is_reference}
use Rattle.il_model.specs.Library.{plain}
use Rattle.interaction.specs.Process.{Naming, Ask, Stuck}
use Rattle.store_object.specs.declared.place.Place.{Place}
use Rattle.store_object.specs.declared.place.Place.TheVariants as at
use Rattle.store_object.specs.Store.{Store, summed}
use Rattle.store_object.specs.Growth.{Grows}
use Rattle.store_object.proofs.StoreLaws.{grows_self, grows_then}
use Rattle.cil_flow.specs.declared.state.StackType.{StackType}
use Rattle.cil_verify.specs.Places.{view_of, stack_of, stack_in_top}
use Rattle.cil_verify.specs.Rows.{exchanges, plain_head}
use Rattle.cil_verify.specs.Fits.{points_to, fits}
use Rattle.cil_verify.specs.Admits.{Operands, take_one, take_words, push, left_by_row}
use Rattle.cil_meaning.specs.Values.{Kind, Pointer, Null, InFrame, InFresh, InObject, InStatic, Value, Plain, same_kind, is_int32}
use Rattle.cil_meaning.specs.Values as kind
use Rattle.cil_meaning.specs.Naming.{Mention, IsNaming, put_type}
use Rattle.cil_meaning.specs.Types.{is_bool_top}
use Rattle.cil_meaning.specs.Replies.{Left, on_word}
use Rattle.cil_meaning.specs.Search.{null_reference}
use Rattle.cil_meaning.specs.Site.{Site, goes_with, throws}
use Rattle.cil_meaning.specs.Pieces.{pops, one_word, as_pointer, writes}
use Rattle.cil_meaning.specs.LibraryCalls.{request_of, gives, leaves, word_of_kind, pushes_word, swaps, on_library}
use Rattle.cil_meaning.specs.Groups.{Swapping, Exchanging, Comparing, Adding, Swaps}
use Rattle.cil_safety.proofs.Sorts.{Scalar, Number32, Number64, Ref, Words, To, scalars_of, value_sort, sort_of, sorts_of}
use Rattle.cil_safety.proofs.Fit.{Holds, WideSort, WordFits, PointerFits, ValueFits, ValuesFit, GoesOn, scalar_at}
use Rattle.cil_safety.proofs.Words.{word_later, values_later, value_wide}
use Rattle.cil_safety.proofs.Requests.{exchange_word, compare_word, add_word}
use Rattle.cil_safety.proofs.Types.{int32_sort, int64_sort, reference_sort}
use Rattle.cil_safety.proofs.Pieces.{HasHandlers, IntoType, Sits, Runs, sits_later, goes_on, one_popped, where_true, popped, word_popped, pointer_popped, same_kind_is}
use Rattle.cil_safety.proofs.CallPieces.{FitsTypes}
use Rattle.cil_safety.proofs.Straight.{HasFaults}
use Rattle.cil_safety.proofs.ObjectForms.{plain_put, into_reference, fault_later, more_fits}
use Rattle.cil_safety.proofs.BoxForms.{into_scalar, scalar_put}
use Rattle.cil_safety.proofs.Pointers.{taken, pointer_is, reads_fit, writes_fit}

module _ (p : Program) (n : Naming Mention TExpr) (names : IsNaming n) (handlers : HasHandlers p n) (faults : HasFaults p) where
  module _ (u : ℕ) (x : Store) (s : Site) (h : Holds) (hs : List Holds) (c : Sits p n names x s h hs) (nums : List ℕ) where
    abbrev pub Fit : List StackType → List Value → Type 0
    Fit os vs = ValuesFit p n x (h ∷ hs) (sorts_of p s.frame.method os) vs

    abbrev pub Goes : List StackType → Type 0
    Goes os = GoesOn p n s.frame.method s.definition (suc s.frame.at) (sorts_of p s.frame.method os)

    -- Words of this scalar may be swapped so: where they are summed, a sum is one.
    pub record MaySwap (f : Swapping) (k : Kind) (a : Scalar) (word : ℕ) : Type 0 where
      pub fits : WordFits p n x a word
      pub sums : f ≡ Adding → (y : Store) (old : ℕ) → WordFits p n y a (summed (is_int32 k) old word)

    gives_fit : (f : Swapping) (k : Kind) (a : Scalar) (old word comparand : ℕ) (y : Store) → Grows x y → MaySwap f k a word → WordFits p n y a old → WordFits p n y a (gives f k old word comparand)
    gives_fit Exchanging k a old word comparand y g may fo = fo
    gives_fit Comparing k a old word comparand y g may fo = fo
    gives_fit Adding k a old word comparand y g may fo = may.sums refl y old

    leaves_fit : (f : Swapping) (k : Kind) (a : Scalar) (old word comparand : ℕ) (y : Store) → Grows x y → MaySwap f k a word → WordFits p n y a old → WordFits p n y a (leaves f k old word comparand)
    leaves_fit Exchanging k a old word comparand y g may fo = word_later p n x y a word g may.fits
    leaves_fit Comparing k a old word comparand y g may fo = by_test (old == comparand)
      where
        by_test : (b : Bool) → WordFits p n y a (if b then word else old)
        by_test true = word_later p n x y a word g may.fits
        by_test false = fo
    leaves_fit Adding k a old word comparand y g may fo = may.sums refl y old

    -- what is left on the stack
    swapped : (y : Store) (k : Kind) (a : Scalar) (w : ℕ) (b : StackType) (os : List StackType) (vs : List Value) → Grows x y → sort_of p s.frame.method b ≡ Words k (a ∷ []) → WordFits p n y a w → Fit os vs → Goes (b ∷ os) → Runs p n names u y (pushes_word p s k vs w)
    swapped y k a w b os vs gr is fw fs g = more_fits p n names handlers faults u x s h hs c y b (Plain k (w ∷ [])) os vs gr (subst (λ z. ValueFits p n y (h ∷ hs) z (Plain k (w ∷ []))) (sym is) (refl, (fw, tt))) fs g

    by_request : (f : Swapping) (k : Kind) (a : Scalar) (pl : Place) (word comparand : ℕ) (b : StackType) (os : List StackType) (vs : List Value) → MaySwap f k a word → scalar_at p n x pl ≡ Some a → sort_of p s.frame.method b ≡ Words k (a ∷ []) → Fit os vs → Goes (b ∷ os) → Runs p n names u x (Ask (request_of f k pl word comparand) (on_word (pushes_word p s k vs)))
    by_request Exchanging k a pl word comparand b os vs may there is fs g = exchange_word p n u x pl a word (pushes_word p s k vs) there may.fits (λ y v gr fv. swapped y k a v b os vs gr is fv fs g)
    by_request Comparing k a pl word comparand b os vs may there is fs g = compare_word p n u x pl a word comparand (pushes_word p s k vs) there may.fits (λ y v gr fv. swapped y k a v b os vs gr is fv fs g)
    by_request Adding k a pl word comparand b os vs may there is fs g = add_word p n u x pl a word (is_int32 k) (pushes_word p s k vs) there (may.sums refl) (λ y v gr fv. swapped y k a v b os vs gr is fv fs g)

    -- through a pointer to one word
    pub swaps_fit : (f : Swapping) (k : Kind) (a : Scalar) (word comparand : ℕ) (q : Pointer) (b : StackType) (os : List StackType) (vs : List Value) → MaySwap f k a word → PointerFits p n x (h ∷ hs) (a ∷ []) q → sort_of p s.frame.method b ≡ Words k (a ∷ []) → Fit os vs → Goes (b ∷ os) → Runs p n names u x (swaps p s f k word comparand q vs)
    swaps_fit f k a word comparand Null b os vs may fq is fs g = fault_later p n names handlers faults u x s h hs c x null_reference faults.null_reference (grows_self x)
    swaps_fit f k a word comparand (InObject o i) b os vs may fq is fs g = by_request f k a (at.Object o i) word comparand b os vs may fq.0 is fs g
    swaps_fit f k a word comparand (InStatic v i) b os vs may fq is fs g = by_request f k a (at.Fixed v i) word comparand b os vs may fq.0 is fs g
    swaps_fit f k a word comparand (InFrame level place i) b os vs may fq is fs g =
        reads_fit p n names u x (h ∷ hs) s.places (InFrame level place i) (a ∷ []) (throws p s null_reference) (λ words. one_word words (λ old. writes s.places (InFrame level place i) (leaves f k old word comparand ∷ []) Stuck (λ pl. goes_with s pl (Plain k (gives f k old word comparand ∷ []) ∷ vs)))) c.places fq (fault_later p n names handlers faults u x s h hs c x null_reference faults.null_reference (grows_self x)) (λ y ws gr fw.
        one_popped p n names u y a ws (λ old. writes s.places (InFrame level place i) (leaves f k old word comparand ∷ []) Stuck (λ pl. goes_with s pl (Plain k (gives f k old word comparand ∷ []) ∷ vs))) fw (λ old fo.
        writes_fit p n names u y (h ∷ hs) s.places (InFrame level place i) (a ∷ []) (leaves f k old word comparand ∷ []) (throws p s null_reference) (λ pl. goes_with s pl (Plain k (gives f k old word comparand ∷ []) ∷ vs)) (sits_later p n names x y s h hs gr c).places fq (leaves_fit f k a old word comparand y gr may fo, tt) (fault_later p n names handlers faults u x s h hs c y null_reference faults.null_reference gr) (λ z pl gr' places.
        goes_on p n names u z s h hs pl (suc s.frame.at) (sorts_of p s.frame.method (b ∷ os)) (Plain k (gives f k old word comparand ∷ []) ∷ vs) (sits_later p n names x z s h hs (grows_then x y z gr gr') c) places g
        (subst (λ r. ValueFits p n z (h ∷ hs) r (Plain k (gives f k old word comparand ∷ []))) (sym is) (refl, (word_later p n y z a (gives f k old word comparand) gr' (gives_fit f k a old word comparand y gr may fo), tt)), values_later p n x z (h ∷ hs) (sorts_of p s.frame.method os) vs (grows_then x y z gr gr') fs))))
    swaps_fit f k a word comparand (InFresh level i) b os vs may fq is fs g =
        reads_fit p n names u x (h ∷ hs) s.places (InFresh level i) (a ∷ []) (throws p s null_reference) (λ words. one_word words (λ old. writes s.places (InFresh level i) (leaves f k old word comparand ∷ []) Stuck (λ pl. goes_with s pl (Plain k (gives f k old word comparand ∷ []) ∷ vs)))) c.places fq (fault_later p n names handlers faults u x s h hs c x null_reference faults.null_reference (grows_self x)) (λ y ws gr fw.
        one_popped p n names u y a ws (λ old. writes s.places (InFresh level i) (leaves f k old word comparand ∷ []) Stuck (λ pl. goes_with s pl (Plain k (gives f k old word comparand ∷ []) ∷ vs))) fw (λ old fo.
        writes_fit p n names u y (h ∷ hs) s.places (InFresh level i) (a ∷ []) (leaves f k old word comparand ∷ []) (throws p s null_reference) (λ pl. goes_with s pl (Plain k (gives f k old word comparand ∷ []) ∷ vs)) (sits_later p n names x y s h hs gr c).places fq (leaves_fit f k a old word comparand y gr may fo, tt) (fault_later p n names handlers faults u x s h hs c y null_reference faults.null_reference gr) (λ z pl gr' places.
        goes_on p n names u z s h hs pl (suc s.frame.at) (sorts_of p s.frame.method (b ∷ os)) (Plain k (gives f k old word comparand ∷ []) ∷ vs) (sits_later p n names x z s h hs (grows_then x y z gr gr') c) places g
        (subst (λ r. ValueFits p n z (h ∷ hs) r (Plain k (gives f k old word comparand ∷ []))) (sym is) (refl, (word_later p n y z a (gives f k old word comparand) gr' (gives_fit f k a old word comparand y gr may fo), tt)), values_later p n x z (h ∷ hs) (sorts_of p s.frame.method os) vs (grows_then x y z gr gr') fs))))

    -- ---- operands

    -- what a type is whose words may be swapped: one word, the same with the arguments put, and what fits it is such a word
    pub record IsSwapped (t : TExpr) (k : Kind) (a : Scalar) : Type 0 where
      pub sort : value_sort p t ≡ Words k (a ∷ [])
      pub put : put_type s.frame.method t ≡ t
      pub stands : sort_of p s.frame.method (stack_of t) ≡ Words k (a ∷ [])
      pub wide : (b : StackType) → fits (view_of p s.definition) t b ≡ true → WideSort p (sort_of p s.frame.method b) (Words k (a ∷ []))

    -- an operand that fits the type, as a word
    word_taken : (t : TExpr) (k : Kind) (a : Scalar) → IsSwapped t k a → (go : Operands → Option Operands) (os out : Operands) (vs : List Value) (next : ℕ → List Value → Left) → take_one (fits (view_of p s.definition) t) go os ≡ Some out → Fit os vs →
        ((w : ℕ) (rest : Operands) (ws : List Value) → WordFits p n x a w → Fit rest ws → go rest ≡ Some out → Runs p n names u x (next w ws)) → Runs p n names u x (pops vs (λ v ws. word_of_kind k v (λ w. next w ws)))
    word_taken t k a is go os out vs next e fit on =
        let q = taken p n names handlers faults u x s h hs c nums {test = fits (view_of p s.definition) t} {go = go} {out = out} os e in
        popped p n names u x (h ∷ hs) (sort_of p s.frame.method q.0) (sorts_of p s.frame.method q.1) vs (λ v ws. word_of_kind k v (λ w. next w ws)) (subst (λ z. Fit z vs) q.2 fit) (λ v ws fv fs.
        word_popped p n names u x (h ∷ hs) k a v (λ other w. if same_kind k other then next w ws else Stuck) (value_wide p n x (h ∷ hs) (sort_of p s.frame.method q.0) (Words k (a ∷ [])) v (is.wide q.0 q.3) fv) (λ w fw.
        where_true p n names u x (same_kind k k) (next w ws) Stuck (same_kind_is p k k refl) (on w q.1 ws fw fs q.4)))

    -- the pointer below the words
    swaps_at : (f : Swapping) (t : TExpr) (k : Kind) (a : Scalar) → IsSwapped t k a → (word comparand : ℕ) → MaySwap f k a word → (os out : Operands) (us : List Value) → take_one (points_to t) (push (stack_of t)) os ≡ Some out → Fit os us → Goes out → Runs p n names u x (pops us (λ v vs. as_pointer v (λ q. swaps p s f k word comparand q vs)))
    swaps_at f t k a is word comparand may os out us e fit g =
        let q = taken p n names handlers faults u x s h hs c nums {test = points_to t} {go = push (stack_of t)} {out = out} os e in
        let o : stack_of t ∷ q.1 ≡ out = cc q.4 in
        let one : scalars_of p t ≡ a ∷ [] = cc is.sort in
        popped p n names u x (h ∷ hs) (To (scalars_of p (put_type s.frame.method t))) (sorts_of p s.frame.method q.1) us (λ v vs. as_pointer v (λ r. swaps p s f k word comparand r vs))
        (subst (λ z. Fit (z ∷ q.1) us) (pointer_is p n names handlers faults u x s h hs c nums t q.0 q.3) (subst (λ z. Fit z us) q.2 fit)) (λ v vs fv fs.
        pointer_popped p n names u x (h ∷ hs) (scalars_of p (put_type s.frame.method t)) v (λ r. swaps p s f k word comparand r vs) fv (λ r fr.
        swaps_fit f k a word comparand r (stack_of t) q.1 vs may (subst (λ z. PointerFits p n x (h ∷ hs) z r) (ap (scalars_of p) is.put ∙ one) fr) is.stands fs (subst (λ z. Goes z) (sym o) g)))

    pub exchange_row : (t : TExpr) (k : Kind) (a : Scalar) → IsSwapped t k a → (os out : Operands) (vs : List Value) → left_by_row (view_of p s.definition) (exchanges t 1) os ≡ Some out → Fit os vs → Goes out → Runs p n names u x (on_library p s nums (Swaps Exchanging k) vs)
    exchange_row t k a is os out vs e fit g =
        word_taken t k a is (take_words (view_of p s.definition) 0 t (take_one (points_to t) (push (stack_of t)))) os out vs (λ w us. pops us (λ v ws. as_pointer v (λ q. swaps p s Exchanging k w 0 q ws))) e fit (λ w rest us fw fs e'.
        swaps_at Exchanging t k a is w 0 (record { fits = fw; sums = λ no'. absurd (cc no') }) rest out us e' fs g)

    pub compare_row : (t : TExpr) (k : Kind) (a : Scalar) → IsSwapped t k a → (os out : Operands) (vs : List Value) → left_by_row (view_of p s.definition) (exchanges t 2) os ≡ Some out → Fit os vs → Goes out → Runs p n names u x (on_library p s nums (Swaps Comparing k) vs)
    compare_row t k a is os out vs e fit g =
        word_taken t k a is (take_words (view_of p s.definition) 1 t (take_one (points_to t) (push (stack_of t)))) os out vs (λ z us. pops us (λ v ws. word_of_kind k v (λ w. pops ws (λ r rs. as_pointer r (λ q. swaps p s Comparing k w z q rs))))) e fit (λ z rest us fz fs e'.
        word_taken t k a is (take_words (view_of p s.definition) 0 t (take_one (points_to t) (push (stack_of t)))) rest out us (λ w ws. pops ws (λ r rs. as_pointer r (λ q. swaps p s Comparing k w z q rs))) e' fs (λ w rest' ws fw fs' e''.
        swaps_at Comparing t k a is w z (record { fits = fw; sums = λ no'. absurd (cc no') }) rest' out ws e'' fs' g))

    pub add_row : (t : TExpr) (k : Kind) (a : Scalar) → IsSwapped t k a → ((y : Store) (old w : ℕ) → WordFits p n y a (summed (is_int32 k) old w)) → (os out : Operands) (vs : List Value) → left_by_row (view_of p s.definition) (exchanges t 1) os ≡ Some out → Fit os vs → Goes out → Runs p n names u x (on_library p s nums (Swaps Adding k) vs)
    add_row t k a is sums os out vs e fit g =
        word_taken t k a is (take_words (view_of p s.definition) 0 t (take_one (points_to t) (push (stack_of t)))) os out vs (λ w us. pops us (λ v ws. as_pointer v (λ q. swaps p s Adding k w 0 q ws))) e fit (λ w rest us fw fs e'.
        swaps_at Adding t k a is w 0 (record { fits = fw; sums = λ is' y old. sums y old w }) rest out us e' fs g)

    -- ---- the three types

    pub int32_swapped : FitsTypes p s.definition s.frame.method → IsSwapped (plain_head head.Int32) kind.Int32 Number32
    int32_swapped well = record {
      sort = sort;
      put = scalar_put p s.frame.method head.Int32;
      stands = ap (λ z. sort_of p s.frame.method (stack_in_top (plain_head head.Int32) z)) (top_of-tree_of (Node head.Int32 []));
      wide = λ b is. into_scalar p (sort_of p s.frame.method b) (plain_head head.Int32) kind.Int32 Number32 sort (ap is_bool_top (top_of-tree_of (Node head.Int32 []))) (subst (λ z. IntoType p (sort_of p s.frame.method b) z) (scalar_put p s.frame.method head.Int32) (well.into (plain_head head.Int32) b is));
    }
      where
        sort : value_sort p (plain_head head.Int32) ≡ Words kind.Int32 (Number32 ∷ [])
        sort = int32_sort p (plain_head head.Int32) [] (top_of-tree_of (Node head.Int32 []))

    pub int64_swapped : FitsTypes p s.definition s.frame.method → IsSwapped (plain_head head.Int64) kind.Int64 Number64
    int64_swapped well = record {
      sort = sort;
      put = scalar_put p s.frame.method head.Int64;
      stands = ap (λ z. sort_of p s.frame.method (stack_in_top (plain_head head.Int64) z)) (top_of-tree_of (Node head.Int64 []));
      wide = λ b is. into_scalar p (sort_of p s.frame.method b) (plain_head head.Int64) kind.Int64 Number64 sort (ap is_bool_top (top_of-tree_of (Node head.Int64 []))) (subst (λ z. IntoType p (sort_of p s.frame.method b) z) (scalar_put p s.frame.method head.Int64) (well.into (plain_head head.Int64) b is));
    }
      where
        sort : value_sort p (plain_head head.Int64) ≡ Words kind.Int64 (Number64 ∷ [])
        sort = int64_sort p (plain_head head.Int64) [] (top_of-tree_of (Node head.Int64 []))

    pub object_swapped : is_reference p (plain 0) ≡ true → FitsTypes p s.definition s.frame.method → IsSwapped (plain 0) kind.Reference (Ref (plain 0))
    object_swapped r well = record {
      sort = reference_sort p (plain 0) r;
      put = plain_put p s.frame.method 0;
      stands = ap (λ z. sort_of p s.frame.method (stack_in_top (plain 0) z)) (top_of-tree_of (Node (head.Class 0) [])) ∙ ap (value_sort p) (plain_put p s.frame.method 0) ∙ reference_sort p (plain 0) r;
      wide = λ b is. into_reference p (sort_of p s.frame.method b) (plain 0) r (subst (λ z. IntoType p (sort_of p s.frame.method b) z) (plain_put p s.frame.method 0) (well.into (plain 0) b is));
    }
