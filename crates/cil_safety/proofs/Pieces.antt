-- The pieces of forms: tests, popped values, what places keep, limits, going on, and the search.
use Rattle.std.proofs.Common.{◌≡◌, ◌≢◌, ℕ, zero, suc, ◌+◌, ◌*◌, ◌%◌, List, [], ◌∷◌, ◌++◌, length, Bool, true, false, Option, Some, None, refl, sym, ap, ◌∙◌, subst, arith, eq-eqb, length-append}
use Rattle.std.proofs.lemmas.List.Sums.{sum_by-cons}
use Rattle.std.specs.Prelude.{◌==◌, ◌&&◌, if◌then◌else◌, map, flat_map, sum_by, option_and_then, slice_get}
use Rattle.type_tree.specs.declared.tree.TExpr.{TExpr}
use Rattle.type_tree.specs.declared.tree.TNode.{TNode}
use Rattle.type_tree.specs.declared.tree.TNode.TheVariants.{Node, ClassVar, MethodVar}
use Rattle.type_tree.specs.declared.tree.Head.TheVariants as head
use Rattle.type_tree.specs.Tree.{top_of}
use Rattle.type_tree.specs.Positions.{positions_of}
use Rattle.il_model.specs.declared.program.Program.{Program}
use Rattle.il_model.specs.declared.method.PType.{PType}
use Rattle.il_model.specs.declared.method.PType.TheVariants as ptype
use Rattle.il_model.specs.declared.method.Sort.TheVariants as sort
use Rattle.il_model.specs.declared.method.Clause.{Clause}
use Rattle.il_model.specs.declared.method.MethodDef.{MethodDef}
use Rattle.il_model.specs.declared.entry.Entry.{Entry}
use Rattle.il_model.specs.declared.entry.Entry.TheVariants as entry
use Rattle.il_model.specs.declared.layout.Limit.{Limit}
use Rattle.il_model.specs.declared.layout.MethodTree.{MethodTree}
use Rattle.il_model.specs.Library.{plain}
use Rattle.il_model.specs.Find.{class_in_top, class_number_of, class_of}
use Rattle.il_model.specs.Kinds.{is_struct_class}
use Rattle.il_model.specs.Layouts.{most_trees, parts_if, parts_of, instance_kinds_of, words_in, words_within, words_of}
use Rattle.il_model.specs.Methods.{limit_of_entry}
use Rattle.interaction.specs.Process.{Naming, Next, Settle, Spell, Stuck}
use Rattle.store_object.specs.Store.{Store}
use Rattle.store_object.specs.Growth.{Grows}
use Rattle.cil_meaning.specs.Values.{Kind, Pointer, Null, InFrame, InFresh, InObject, InStatic, Value, Plain, Managed, same_kind, is_reference_word}
use Rattle.cil_meaning.specs.Values as kind
use Rattle.cil_meaning.specs.Naming.{Mention, OfEntry, OfClause, OfFault, IsNaming, put_type, put_entry}
use Rattle.cil_meaning.specs.Frames.{Awaited, Nothing, Result, Object, Built, Frame, Places, Frames, outer}
use Rattle.cil_meaning.specs.Types.{kind_of_top, kind_of, is_bool, is_bool_top, kept, passes_as}
use Rattle.cil_meaning.specs.Replies.{Left}
use Rattle.cil_meaning.specs.Mentions.{within, cause_of, settles_all}
use Rattle.cil_meaning.specs.Search.{Thrown, covers, clauses_in, clauses_of, handled, tests, tries_all, searches}
use Rattle.cil_meaning.specs.Site.{Site, moved, goes_to, throws}
use Rattle.cil_meaning.specs.Pieces.{given, pops, one_word, as_word, as_reference, as_pointer, not_null, keeps, fits_place}
use Rattle.cil_safety.proofs.Sorts.{Scalar, Number32, Length, Truth, Ref, Sort, Words, To, scalar_of, scalar_in_top, scalars_in, scalars_within, scalars_of, value_sort, place_sort}
use Rattle.cil_safety.proofs.Fit.{Holds, inside, WideSort, IsExact, ObjectOf, object, size_of, WordFits, WordsFit, PointerFits, ValueFits, ValuesFit, PlacesFit, IsInstance, sorts_at, GoesOn, result_of, IsFrame, Pushed, Waits, Tops, FramesFit}
use Rattle.cil_safety.proofs.Words.{values_later, places_later, ref_later, values_wide, value_wide, as_long}
use Rattle.cil_safety.proofs.Requests.{Sound, alloc, fall, stop}

-- ---- the words of a type, and how many there are

-- the class of all exceptions
abbrev pub exception : TExpr
exception = plain 2

pub all_lengths : (f : TExpr → List Scalar) (g : TExpr → ℕ) → ((t : TExpr) → length (f t) ≡ g t) → (ts : List TExpr) → length (flat_map f ts) ≡ sum_by g ts
all_lengths f g each [] = refl
all_lengths f g each (x ∷ xs) =
    let first : length (f x) ≡ g x = each x in
    let others : length (flat_map f xs) ≡ sum_by g xs = all_lengths f g each xs in
    let joined : length (f x ++ flat_map f xs) ≡ length (f x) + length (flat_map f xs) = length-append (f x) (flat_map f xs) in
    let sums : sum_by g (x ∷ xs) ≡ g x + sum_by g xs = sum_by-cons g x xs in
    omega (arith, first, others, joined, sums)

module _ (p : Program) where
  length-scalars_within : (levels : ℕ) (t : TExpr) → length (scalars_within p levels t) ≡ words_within p levels t
  length-scalars_within zero t = refl
  length-scalars_within (suc levels) t = by_parts (all_lengths (λ part. scalars_within p levels part) (λ part. words_within p levels part) (length-scalars_within levels)) (parts_of p t)
    where
      by_parts : ((ts : List TExpr) → length (flat_map (λ part. scalars_within p levels part) ts) ≡ sum_by (λ part. words_within p levels part) ts) → (o : Option (List TExpr)) → length (scalars_in (λ part. scalars_within p levels part) t o) ≡ words_in (λ part. words_within p levels part) o
      by_parts parts None = refl
      by_parts parts (Some ts) = parts ts

  pub length-scalars_of : (t : TExpr) → length (scalars_of p t) ≡ words_of p t
  length-scalars_of t = length-scalars_within (most_trees * positions_of t) t

  -- a type without parts has one scalar
  single_within : (levels : ℕ) (t : TExpr) → parts_of p t ≡ None → scalars_within p levels t ≡ scalar_of t ∷ []
  single_within zero t e = refl
  single_within (suc levels) t e = ap (scalars_in (λ part. scalars_within p levels part) t) e

  pub scalars_of_single : (t : TExpr) → parts_of p t ≡ None → scalars_of p t ≡ scalar_of t ∷ []
  scalars_of_single t e = single_within (most_trees * positions_of t) t e

  pub parts_none : (t : TExpr) → is_struct_class (class_of p t) ≡ false → parts_of p t ≡ None
  parts_none t e = ap (λ b. parts_if b (instance_kinds_of p t)) e

  pub no_class : (t : TExpr) (top : TNode TExpr) → top_of t ≡ top → class_in_top top ≡ None → is_struct_class (class_of p t) ≡ false
  no_class t top e f =
      let q : class_number_of t ≡ None = ap class_in_top e ∙ f in
      ap (λ o. is_struct_class (option_and_then (λ number. slice_get p.classes number) o)) q

  -- a value of type bool is one word
  pub record IsTruth (t : TExpr) : Type 0 where
    pub int32 : kind_of p t ≡ kind.Int32
    pub scalars : scalars_of p t ≡ Truth ∷ []

  pub bool_is : (t : TExpr) → is_bool t ≡ true → IsTruth t
  bool_is t e = by_top (top_of t) refl e
    where
      by_top : (top : TNode TExpr) → top_of t ≡ top → is_bool_top top ≡ true → IsTruth t
      by_top (Node head.Int32 parts) is e' = absurd (cc e')
      by_top (Node head.Int64 parts) is e' = absurd (cc e')
      by_top (Node head.Bool parts) is e' = record {
        int32 = ap (kind_of_top p t) is;
        scalars = scalars_of_single t (parts_none t (no_class t (Node head.Bool parts) is refl)) ∙ ap (λ z. scalar_in_top t z ∷ []) is;
      }
      by_top (Node head.Vector parts) is e' = absurd (cc e')
      by_top (Node (head.Class number) parts) is e' = absurd (cc e')
      by_top (ClassVar k) is e' = absurd (cc e')
      by_top (MethodVar k) is e' = absurd (cc e')

  same_kind_self : (k : Kind) → same_kind k k ≡ true
  same_kind_self kind.Int32 = refl
  same_kind_self kind.Int64 = refl
  same_kind_self kind.Native = refl
  same_kind_self kind.Reference = refl
  same_kind_self kind.Struct = refl

  pub same_kind_is : (k l : Kind) → k ≡ l → same_kind k l ≡ true
  same_kind_is k l e = subst (λ z. same_kind k z ≡ true) e (same_kind_self k)

  -- How a value goes into a place of a type: as it is, or an int32 whose low eight bits a bool keeps.
  pub data IntoType (s : Sort) (t : TExpr) : Type 0 where
    as_is : WideSort p s (value_sort p t) → IntoType s t
    low : is_bool t ≡ true → s ≡ Words kind.Int32 (Number32 ∷ []) → IntoType s t

  -- ..and into an argument or a local
  abbrev pub IntoPlace : Sort → PType → Type 0
  IntoPlace s (ptype.Value t) = IntoType s t
  IntoPlace s (ptype.Pointer t) = s ≡ To (scalars_of p t)
  IntoPlace s ptype.Native = s ≡ Words kind.Native (Length ∷ [])

  -- a class of exceptions of the library, whose objects have no words
  pub record IsFault (class : ℕ) : Type 0 where
    pub exact : IsExact p (plain class)
    pub thrown : passes_as p (plain class) exception ≡ true
    pub empty : size_of p (plain class) 0 ≡ 0

  -- What a handler is to be: the clause catches a type, and where some exception passes as it, the handler goes on with a reference to
  -- it. A clause may name any type, also one that no exception passes as; nothing is asked of its handler then.
  pub record CatchesWell (n : Naming Mention TExpr) (m : MethodTree) (d : MethodDef) (c : Clause) : Type 0 where
    pub caught : TExpr
    pub sort_is : c.sort ≡ sort.Catch caught
    pub goes : (e : TExpr) → IsExact p e → passes_as p e exception ≡ true → passes_as p e (put_type m caught) ≡ true → GoesOn p n m d c.handler (Words kind.Reference (Ref (put_type m caught) ∷ []) ∷ [])

  pub record HasHandlers (n : Naming Mention TExpr) : Type 0 where
    pub each : (m : MethodTree) (d : MethodDef) → IsInstance p n m d → (k : ℕ) (c : Clause) → slice_get (clauses_in d.body) k ≡ Some c → CatchesWell n m d c

module _ (p : Program) (n : Naming Mention TExpr) (names : IsNaming n) where
  abbrev pub Runs : ℕ → Store → Left → Type 0
  Runs u x a = Sound p n u x a

  -- what a frame's form has at hand besides its stack
  pub record Sits (x : Store) (s : Site) (h : Holds) (hs : List Holds) : Type 0 where
    pub frame : IsFrame p n s.frame h s.definition
    pub fresh : h.fresh ≡ []
    pub waits : Waits p n x (result_of p n s.frame.method s.definition) s.around hs
    pub places : PlacesFit p n x (h ∷ hs) s.places

  -- ---- growth of frames

  pushed_later : (x y : Store) (a : Awaited) (r : Option TExpr) (fresh : List Scalar) (ss : List Sort) → Grows x y → Pushed p n x a r fresh ss → Pushed p n y a r fresh ss
  pushed_later x y Nothing r fresh ss g h = h
  pushed_later x y Result r fresh ss g h = h
  pushed_later x y (Object o) r fresh ss g h = (h.0, h.1, ref_later p n g h.2, h.3)
  pushed_later x y Built r fresh ss g h = h

  waits_later : (x y : Store) (r : Option TExpr) (fs : List Frame) (hs : List Holds) → Grows x y → Waits p n x r fs hs → Waits p n y r fs hs
  waits_later x y r [] [] g w = tt
  waits_later x y r [] (h ∷ hs) g w = w
  waits_later x y r (f ∷ fs) [] g w = w
  waits_later x y r (f ∷ fs) (h ∷ hs) g w =
      let s = w.1 in
      (w.0, record { frame = s.frame; pushed = s.pushed; rest = s.rest; pushes = pushed_later x y f.awaits r h.fresh s.pushed g s.pushes; goes = s.goes; stack = values_later p n x y (inside h ∷ hs) s.rest f.stack g s.stack }, waits_later x y (result_of p n f.method w.0) fs hs g w.2)

  pub sits_later : (x y : Store) (s : Site) (h : Holds) (hs : List Holds) → Grows x y → Sits x s h hs → Sits y s h hs
  sits_later x y s h hs g c = record { frame = c.frame; fresh = c.fresh; waits = waits_later x y (result_of p n s.frame.method s.definition) s.around hs g c.waits; places = places_later p n x y (h ∷ hs) s.places g c.places }

  tops_later : (x y : Store) (fs : List Frame) (hs : List Holds) → Grows x y → Tops p n x fs hs → Tops p n y fs hs
  tops_later x y [] hs g t = t
  tops_later x y (f ∷ fs) [] g t = t
  tops_later x y (f ∷ fs) (h ∷ hs) g t = record { definition = t.definition; frame = t.frame; fresh = t.fresh; op = t.op; code = t.code; stack = values_later p n x y (h ∷ hs) (sorts_at p n f.method t.definition f.at) f.stack g t.stack; waits = waits_later x y (result_of p n f.method t.definition) fs hs g t.waits }

  pub frames_later : (x y : Store) (s : Frames) → Grows x y → FramesFit p n x s → FramesFit p n y s
  frames_later x y s g h = record { env = h.env; tops = tops_later x y s.frames h.env g h.tops; places = places_later p n x y h.env s.places g h.places }

  -- ---- going on

  -- the frame goes on at another instruction, with other places
  pub goes_on : (u : ℕ) (x : Store) (s : Site) (h : Holds) (hs : List Holds) (pl : List Places) (at : ℕ) (ss : List Sort) (vs : List Value) → Sits x s h hs → PlacesFit p n x (h ∷ hs) pl → GoesOn p n s.frame.method s.definition at ss → ValuesFit p n x (h ∷ hs) ss vs →
      Runs u x (Next (record { frames = moved s.frame at vs ∷ s.around; places = pl }))
  goes_on u x s h hs pl at ss vs c places g v = record {
    env = h ∷ hs;
    tops = record { definition = s.definition; frame = record { instance = c.frame.instance; held = c.frame.held }; fresh = c.fresh; op = g.op; code = g.code; stack = values_wide p n x (h ∷ hs) ss (sorts_at p n s.frame.method s.definition at) vs g.wide v; waits = c.waits };
    places = places;
  }

  pub goes_to_fits : (u : ℕ) (x : Store) (s : Site) (h : Holds) (hs : List Holds) (at : ℕ) (ss : List Sort) (vs : List Value) → Sits x s h hs → GoesOn p n s.frame.method s.definition at ss → ValuesFit p n x (h ∷ hs) ss vs → Runs u x (goes_to s at vs)
  goes_to_fits u x s h hs at ss vs c g v = goes_on u x s h hs s.places at ss vs c c.places g v

  -- ---- tests and popped values

  pub by_if : (u : ℕ) (x : Store) (b : Bool) (q r : Left) → (b ≡ true → Runs u x q) → (b ≡ false → Runs u x r) → Runs u x (if b then q else r)
  by_if u x true q r f g = f refl
  by_if u x false q r f g = g refl

  pub where_true : (u : ℕ) (x : Store) (b : Bool) (q r : Left) → b ≡ true → Runs u x q → Runs u x (if b then q else r)
  where_true u x true q r e f = f
  where_true u x false q r e f = absurd (cc e)

  pub where_given : (u : ℕ) (x : Store) {A : Type 0} (o : Option A) (a : A) (k : A → Left) → o ≡ Some a → Runs u x (k a) → Runs u x (given o k)
  where_given u x o a k e f = subst (λ z. Runs u x (given z k)) (sym e) f

  pub popped : (u : ℕ) (x : Store) (env : List Holds) (s : Sort) (ss : List Sort) (vs : List Value) (k : Value → List Value → Left) → ValuesFit p n x env (s ∷ ss) vs → ((v : Value) (rest : List Value) → ValueFits p n x env s v → ValuesFit p n x env ss rest → Runs u x (k v rest)) → Runs u x (pops vs k)
  popped u x env s ss [] k h go = absurd h
  popped u x env s ss (v ∷ vs) k h go = go v vs h.0 h.1

  pub one_popped : (u : ℕ) (x : Store) (a : Scalar) (ws : List ℕ) (k : ℕ → Left) → WordsFit p n x (a ∷ []) ws → ((w : ℕ) → WordFits p n x a w → Runs u x (k w)) → Runs u x (one_word ws k)
  one_popped u x a [] k h go = absurd h
  one_popped u x a (w ∷ []) k h go = go w h.0
  one_popped u x a (w ∷ v ∷ ws) k h go = absurd h.1

  -- a value of one word, with the kind that it is of
  pub word_popped : (u : ℕ) (x : Store) (env : List Holds) (l : Kind) (a : Scalar) (v : Value) (k : Kind → ℕ → Left) → ValueFits p n x env (Words l (a ∷ [])) v → ((w : ℕ) → WordFits p n x a w → Runs u x (k l w)) → Runs u x (as_word v k)
  word_popped u x env l a (Plain m ws) k h go = one_popped u x a ws (k m) h.1 (λ w f. subst (λ z. Runs u x (k z w)) (sym h.0) (go w f))
  word_popped u x env l a (Managed q) k h go = absurd h

  pub reference_popped : (u : ℕ) (x : Store) (env : List Holds) (a : Scalar) (v : Value) (k : ℕ → Left) → ValueFits p n x env (Words kind.Reference (a ∷ [])) v → ((w : ℕ) → WordFits p n x a w → Runs u x (k w)) → Runs u x (as_reference v k)
  reference_popped u x env a v k h go = word_popped u x env kind.Reference a v (λ l w. if is_reference_word l then k w else Stuck) h go

  pub pointer_popped : (u : ℕ) (x : Store) (env : List Holds) (as' : List Scalar) (v : Value) (k : Pointer → Left) → ValueFits p n x env (To as') v → ((q : Pointer) → PointerFits p n x env as' q → Runs u x (k q)) → Runs u x (as_pointer v k)
  pointer_popped u x env as' (Plain l ws) k h go = absurd h
  pointer_popped u x env as' (Managed q) k h go = go q h

  pub null_or : (u : ℕ) (x : Store) (w : ℕ) (bad good : Left) → Runs u x bad → (w ≢ 0 → Runs u x good) → Runs u x (not_null w bad good)
  null_or u x w bad good b g = by_if u x (w == 0) bad good (λ e. b) (λ e. g (λ z. cc (eq-eqb w 0 z, e)))

  -- ---- what places keep

  low_bits : (x : Store) (as' : List Scalar) (ws : List ℕ) → as' ≡ Truth ∷ [] → length ws ≡ length as' → WordsFit p n x as' (map (λ w. w % 256) ws)
  low_bits x as' [] e l = absurd (let l' : 0 ≡ length as' = l in let s : length as' ≡ 1 = ap length e in omega (arith, l', s))
  low_bits x as' (w ∷ []) e l = subst (λ z. WordsFit p n x z (w % 256 ∷ [])) (sym e) (omega arith, tt)
  low_bits x as' (w ∷ v ∷ ws) e l = absurd (let l' : length (w ∷ v ∷ ws) ≡ length as' = l in let s : length as' ≡ 1 = ap length e in omega (arith, l', s))

  -- what is kept of words that fit, or whose number fits a bool
  kept_fit : (x : Store) (t : TExpr) (ws : List ℕ) (b : Bool) → is_bool t ≡ b → length ws ≡ length (scalars_of p t) → (b ≡ false → WordsFit p n x (scalars_of p t) ws) → WordsFit p n x (scalars_of p t) (if b then map (λ w. w % 256) ws else ws)
  kept_fit x t ws true e l f = low_bits x (scalars_of p t) ws (bool_is p t e).scalars l
  kept_fit x t ws false e l f = f refl

  -- the test of a place on a value of the right kind and length
  pub kept_passes : (u : ℕ) (x : Store) (t : TExpr) (l : Kind) (ws : List ℕ) (k : List ℕ → Left) → l ≡ kind_of p t → length ws ≡ words_of p t → Runs u x (k (kept t ws)) → Runs u x (keeps p t (Plain l ws) k)
  kept_passes u x t l ws k e f g =
      let a : same_kind l (kind_of p t) ≡ true = same_kind_is p l (kind_of p t) e in
      let b : (length ws == words_of p t) ≡ true = eq-eqb (length ws) (words_of p t) f in
      where_true u x (same_kind l (kind_of p t) && (length ws == words_of p t)) (k (kept t ws)) Stuck (rw (a, b) refl) g

  pub keeps_fits : (u : ℕ) (x : Store) (env : List Holds) (s : Sort) (t : TExpr) (v : Value) (k : List ℕ → Left) → IntoType p s t → ValueFits p n x env s v → ((ws : List ℕ) → WordsFit p n x (scalars_of p t) ws → Runs u x (k ws)) → Runs u x (keeps p t v k)
  keeps_fits u x env s t v k (as_is wide) h go = by_value v (value_wide p n x env s (value_sort p t) v wide h)
    where
      by_value : (v : Value) → ValueFits p n x env (value_sort p t) v → Runs u x (keeps p t v k)
      by_value (Plain l ws) f =
          let long : length ws ≡ length (scalars_of p t) = as_long p n x (scalars_of p t) ws f.1 in
          kept_passes u x t l ws k f.0 (long ∙ length-scalars_of p t) (go (kept t ws) (kept_fit x t ws (is_bool t) refl long (λ e. f.1)))
      by_value (Managed q) f = absurd f
  keeps_fits u x env s t v k (low is e) h go = by_value v (subst (λ z. ValueFits p n x env z v) e h)
    where
      by_value : (v : Value) → ValueFits p n x env (Words kind.Int32 (Number32 ∷ [])) v → Runs u x (keeps p t v k)
      by_value (Plain l ws) f =
          let b = bool_is p t is in
          let one : length (scalars_of p t) ≡ 1 = ap length b.scalars in
          let long : length ws ≡ length (scalars_of p t) = as_long p n x (Number32 ∷ []) ws f.1 ∙ sym one in
          kept_passes u x t l ws k (f.0 ∙ sym b.int32) (long ∙ length-scalars_of p t) (go (kept t ws) (kept_fit x t ws (is_bool t) refl long (λ e'. absurd (cc (is, e')))))
      by_value (Managed q) f = absurd f

  pub place_fits : (u : ℕ) (x : Store) (env : List Holds) (s : Sort) (t : PType) (v : Value) (k : Value → Left) → IntoPlace p s t → ValueFits p n x env s v → ((w : Value) → ValueFits p n x env (place_sort p t) w → Runs u x (k w)) → Runs u x (fits_place p t v k)
  place_fits u x env s (ptype.Value t) v k into h go = keeps_fits u x env s t v (λ words. k (Plain (kind_of p t) words)) into h (λ ws f. go (Plain (kind_of p t) ws) (refl, f))
  place_fits u x env s (ptype.Pointer t) v k into h go = pointer_popped u x env (scalars_of p t) v (λ q. k (Managed q)) (subst (λ z. ValueFits p n x env z v) into h) (λ q f. go (Managed q) f)
  place_fits u x env s ptype.Native v k into h go = word_popped u x env kind.Native Length v (λ l w. if same_kind l kind.Native then k (Plain kind.Native (w ∷ [])) else Stuck) (subst (λ z. ValueFits p n x env z v) into h) (λ w f. go (Plain kind.Native (w ∷ [])) (refl, (f, tt)))

  -- ---- limits and mentions

  pub within_fits : (u : ℕ) (x : Store) (l : Option Limit) (q : Left) → (l ≡ None → Runs u x q) → Runs u x (within l q)
  within_fits u x None q f = f refl
  within_fits u x (Some l) q f = stop p n u x (cause_of l)

  -- the numbers that entries have, none of which passes a limit
  abbrev pub Settled : MethodTree → List Entry → List ℕ → Type 0
  Settled m [] [] = Unit {0}
  Settled m [] (v ∷ vs) = ⊥
  Settled m (e ∷ es) [] = ⊥
  Settled m (e ∷ es) (v ∷ vs) = (limit_of_entry p (put_entry m e) ≡ None) × (n.value_of (OfEntry m e) ≡ Some v) × Settled m es vs

  -- all entries of an instruction
  pub settles_fits : (u : ℕ) (x : Store) (m : MethodTree) (es : List Entry) (k : List ℕ → Left) → ((numbers : List ℕ) → Settled m es numbers → Runs u x (k numbers)) → Runs u x (settles_all p m es k)
  settles_fits u x m [] k go = go [] tt
  settles_fits u x m (e ∷ es) k go = within_fits u x (limit_of_entry p (put_entry m e)) (Settle (OfEntry m e) (λ v. settles_all p m es (λ vs. k (v ∷ vs)))) (λ l v is. settles_fits u x m es (λ vs. k (v ∷ vs)) (λ vs sets. go (v ∷ vs) (l, is, sets)))

  pub spelled : (u : ℕ) (x : Store) (v : ℕ) (e : TExpr) (k : TExpr → Left) → n.tree_at v ≡ Some e → Runs u x (k e) → Runs u x (Spell v k)
  spelled u x v e k is go = ((e, is), λ t is'. subst (λ z. Runs u x (k z)) (same_tree t is') go)
    where
      same_tree : (t : TExpr) → n.tree_at v ≡ Some t → e ≡ t
      same_tree t is' = cc (is, is')

  -- ---- the search

  module _ (handlers : HasHandlers p n) where
    -- an exception under way: an object of just this type
    pub record IsThrown (x : Store) (e : TExpr) (t : Thrown) : Type 0 where
      pub tree : n.tree_at t.kind ≡ Some e
      pub is : ObjectOf p n x e t.object
      pub thrown : passes_as p e exception ≡ true

    -- the frame goes on at a handler
    handled_fits : (u : ℕ) (x : Store) (e : TExpr) (t : Thrown) (f : Frame) (fs : List Frame) (pl : List Places) (h : Holds) (hs : List Holds) (d : MethodDef) (c : TExpr) (at : ℕ) → IsThrown x e t → IsFrame p n f h d → Waits p n x (result_of p n f.method d) fs hs → PlacesFit p n x (h ∷ hs) pl →
        passes_as p e (put_type f.method c) ≡ true → GoesOn p n f.method d at (Words kind.Reference (Ref (put_type f.method c) ∷ []) ∷ []) → Runs u x (handled t f fs pl at)
    handled_fits u x e t f fs [] h hs d c at thrown frame waits places pass g = absurd places
    handled_fits u x e t f fs (q ∷ qs) h hs d c at thrown frame waits places pass g = record {
      env = inside h ∷ hs;
      tops = record { definition = d; frame = record { instance = frame.instance; held = frame.held }; fresh = refl; op = g.op; code = g.code; stack = values_wide p n x (inside h ∷ hs) (Words kind.Reference (Ref (put_type f.method c) ∷ []) ∷ []) (sorts_at p n f.method d at) (Plain kind.Reference (t.object ∷ []) ∷ []) g.wide ((refl, (object e thrown.is pass, tt)), tt); waits = waits };
      places = (places.0, tt, places.2);
    }

    tries_fit : (u : ℕ) (x : Store) (e : TExpr) (t : Thrown) (f : Frame) (fs : List Frame) (pl : List Places) (h : Holds) (hs : List Holds) (d : MethodDef) (cs : List Clause) (rest : Left) → IsThrown x e t → IsFrame p n f h d → Waits p n x (result_of p n f.method d) fs hs → PlacesFit p n x (h ∷ hs) pl →
        ((k : ℕ) (c : Clause) → slice_get cs k ≡ Some c → CatchesWell p n f.method d c) → Runs u x rest → Runs u x (tries_all p t f fs pl cs rest)
    tries_fit u x e t f fs pl h hs d [] rest thrown frame waits places each go = go
    tries_fit u x e t f fs pl h hs d (c ∷ cs) rest thrown frame waits places each go =
        let other : Runs u x (tries_all p t f fs pl cs rest) = tries_fit u x e t f fs pl h hs d cs rest thrown frame waits places (λ k b is. each (suc k) b is) go in
        let first : CatchesWell p n f.method d c = each 0 c refl in
        by_if u x (covers c f.at) (tests p t f fs pl c c.sort (tries_all p t f fs pl cs rest)) (tries_all p t f fs pl cs rest)
        (λ inside'. subst (λ z. Runs u x (tests p t f fs pl c z (tries_all p t f fs pl cs rest))) (sym first.sort_is)
        (within_fits u x (limit_of_entry p (put_entry f.method (entry.Kind first.caught))) (Settle (OfClause f.method (entry.Kind first.caught)) (λ v. Spell t.kind (λ exact. if passes_as p exact (put_type f.method first.caught) then handled t f fs pl c.handler else tries_all p t f fs pl cs rest)))
        (λ l v is. spelled u x t.kind e (λ exact. if passes_as p exact (put_type f.method first.caught) then handled t f fs pl c.handler else tries_all p t f fs pl cs rest) thrown.tree
        (by_if u x (passes_as p e (put_type f.method first.caught)) (handled t f fs pl c.handler) (tries_all p t f fs pl cs rest)
        (λ pass. handled_fits u x e t f fs pl h hs d first.caught c.handler thrown frame waits places pass (first.goes e thrown.is.exact thrown.thrown pass)) (λ other'. other)))))
        (λ outside'. other)

    clauses_are : (m : MethodTree) (d : MethodDef) → IsInstance p n m d → clauses_of p m ≡ clauses_in d.body
    clauses_are m d is = ap (λ (o : Option MethodDef). clauses_in (option_and_then (λ (z : MethodDef). z.body) o)) is.is

    in_frame : (u : ℕ) (x : Store) (e : TExpr) (t : Thrown) (f : Frame) (fs : List Frame) (pl : List Places) (h : Holds) (hs : List Holds) (d : MethodDef) → IsThrown x e t → IsFrame p n f h d → Waits p n x (result_of p n f.method d) fs hs → PlacesFit p n x (h ∷ hs) pl → Runs u x (searches p t fs (outer pl)) → Runs u x (searches p t (f ∷ fs) pl)
    in_frame u x e t f fs pl h hs d thrown frame waits places go =
        subst (λ cs. Runs u x (tries_all p t f fs pl cs (searches p t fs (outer pl)))) (sym (clauses_are f.method d frame.instance))
        (tries_fit u x e t f fs pl h hs d (clauses_in d.body) (searches p t fs (outer pl)) thrown frame waits places (handlers.each f.method d frame.instance) go)

    outer_fits : (x : Store) (h : Holds) (hs : List Holds) (pl : List Places) → PlacesFit p n x (h ∷ hs) pl → PlacesFit p n x hs (outer pl)
    outer_fits x h hs [] f = absurd f
    outer_fits x h hs (q ∷ qs) f = f.2

    search_out : (u : ℕ) (x : Store) (e : TExpr) (t : Thrown) (r : Option TExpr) (fs : List Frame) (hs : List Holds) (pl : List Places) → IsThrown x e t → Waits p n x r fs hs → PlacesFit p n x hs pl → Runs u x (searches p t fs pl)
    search_out u x e t r [] hs pl thrown w f = fall p n u x t.kind
    search_out u x e t r (g ∷ fs) [] pl thrown w f = absurd w
    search_out u x e t r (g ∷ fs) (h ∷ hs) pl thrown w f =
        in_frame u x e t g fs pl h hs w.0 thrown w.1.frame w.2 f
        (search_out u x e t (result_of p n g.method w.0) fs hs (outer pl) thrown w.2 (outer_fits x h hs pl f))

    pub search_fits : (u : ℕ) (x : Store) (e : TExpr) (t : Thrown) (s : Site) (h : Holds) (hs : List Holds) → IsThrown x e t → Sits x s h hs → Runs u x (searches p t (s.frame ∷ s.around) s.places)
    search_fits u x e t s h hs thrown c =
        in_frame u x e t s.frame s.around s.places h hs s.definition thrown c.frame c.waits c.places
        (search_out u x e t (result_of p n s.frame.method s.definition) s.around hs (outer s.places) thrown c.waits (outer_fits x h hs s.places c.places))

    -- an instruction throws a new exception of a class of the library, whose objects have no words
    pub throws_fit : (u : ℕ) (x : Store) (s : Site) (h : Holds) (hs : List Holds) (class : ℕ) → IsFault p class → Sits x s h hs → Runs u x (throws p s class)
    throws_fit u x s h hs class fault c = λ v is. alloc p n u x v 0 0 (plain class) (λ o. searches p (record { object = o; kind = v }) (s.frame ∷ s.around) s.places) (names.rightly (OfFault class) v (plain class) is refl) fault.exact (sym fault.empty) (omega arith)
        (λ y o g made e. search_fits u y (plain class) (record { object = o; kind = v }) s h hs (record { tree = names.rightly (OfFault class) v (plain class) is refl; is = made; thrown = fault.thrown }) (sits_later x y s h hs g c))
