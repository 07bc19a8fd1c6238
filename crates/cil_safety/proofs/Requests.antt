-- The requests: what a typed store replies, and that it stays typed.
use Rattle.std.proofs.Common.{◌≡◌, ◌≢◌, ◌⊎◌, inl, inr, ⊎_elim, ℕ, zero, suc, ◌+◌, ◌-◌, ◌*◌, ◌^◌, ◌<◌, ◌≤◌, List, [], ◌∷◌, ◌++◌, length, Bool, true, false, Option, Some, None, refl, sym, ap, ◌∙◌, subst, arith, eqb-true, eq-eqb}
use Rattle.std.proofs.lemmas.Bool.Decides.{nat_tests}
use Rattle.std.proofs.lemmas.List.Sums.{sum_by-cons}
use Rattle.std.specs.Prelude.{◌==◌, ◌&&◌, nat_lt, if◌then◌else◌, is_some, unwrap_or, option_and_then, slice_get}
use Rattle.type_tree.specs.declared.tree.TExpr.{TExpr}
use Rattle.il_model.specs.declared.program.Program.{Program}
use Rattle.interaction.specs.Process.{Naming, Ask, Over}
use Rattle.interaction.specs.Safety.{Language, FitsBegun, IsKept, Safe}
use Rattle.store_object.specs.declared.limits.TheConstants.{HEAP_LIMIT, OBJECT_COST}
use Rattle.store_object.specs.declared.place.Place.{Place}
use Rattle.store_object.specs.declared.place.Place.TheVariants as at
use Rattle.store_object.specs.declared.request.Request.{Request}
use Rattle.store_object.specs.declared.request.Request.TheVariants as ask
use Rattle.store_object.specs.declared.request.Form.{Form}
use Rattle.store_object.specs.declared.request.Cause.{Cause}
use Rattle.store_object.specs.declared.request.Cause.TheVariants as cause
use Rattle.store_object.specs.declared.reply.Reply.{Reply}
use Rattle.store_object.specs.declared.reply.Reply.TheVariants as says
use Rattle.store_object.specs.Store.{Store, Shape, shape_at, shape_of, is_object, is_live, heap_of, word_at, with_word, with_object, summed, without_thread, ended}
use Rattle.store_object.specs.Answer.{is_named, served, answer}
use Rattle.store_object.specs.Replay.{is_halted, is_improper}
use Rattle.store_object.specs.Growth.{Grows}
use Rattle.store_object.proofs.StoreLaws.{grows_self, grows_then, grows_after}
use Rattle.cil_meaning.specs.Naming.{Mention}
use Rattle.cil_meaning.specs.Frames.{Frames}
use Rattle.cil_meaning.specs.Replies.{Left, on_object, on_kind, on_word, on_done, on_stopped}
use Rattle.cil_meaning.specs.Pieces.{loads, saves, next_place}
use Rattle.cil_meaning.specs.Threads.{starts}
use Rattle.cil_meaning.specs.Language.{language}
use Rattle.cil_safety.proofs.Sorts.{Scalar}
use Rattle.cil_safety.proofs.Fit.{Spans, IsExact, ObjectOf, WordFits, WordsFit, size_of, in_shape, scalar_at, Typed, FramesFit}
use Rattle.cil_safety.proofs.Words.{word_later, words_later, scalar_later, has_word, zero_fits}

and_true : (a b : Bool) → a ≡ true → b ≡ true → (a && b) ≡ true
and_true true b e f = f
and_true false b e f = e

-- the tests of an answer, one after the other
abbrev pub tested : Store → Reply × Store → Bool → Reply × Store
tested y go b = if b then go else (says.Improper, y)

abbrev pub unless_over : Store → Reply × Store → Bool → Reply × Store
unless_over y go b = if b then (says.Halted, y) else go

-- the shape of a new object, and what an allocation comes to
abbrev pub shape_with : (k l w : ℕ) → Shape
shape_with k l w = record { kind = k; length = l; words = w }

abbrev pub made_or_stopped : Store → Shape → (is_full : Bool) → Reply × Store
made_or_stopped y shape is_full = if is_full then (says.Stopped cause.Heap, ended y) else (says.Object (length y.shapes + 1), with_object y shape)

module _ (p : Program) (n : Naming Mention TExpr) where
  -- the language with what fits
  abbrev pub safety : Language Mention TExpr Request Reply Frames Store
  safety = language p n (Typed p n) (FramesFit p n)

  abbrev pub Sound : ℕ → Store → Left → Type 0
  Sound u x a = Safe safety u x a

  -- what a request of a live thread owes, while the history goes on: with this reply, and this store after it
  pub record Answered (u : ℕ) (r : Request) (k : Reply → Left) (a : Reply) (z : Store) : Type 0 where
    pub proper : is_improper a ≡ false
    pub typed : Typed p n z
    pub begun : FitsBegun safety z (starts p r a)
    pub ready : (k a ≡ Over) ⊎ (is_live z u ≡ true)
    pub safe : Sound u z (k a)

  abbrev pub Whole : ℕ → Request → (Reply → Left) → Reply × Store → Type 0
  Whole u r k a = (is_improper a.0 ≡ false) × (is_halted a.0 ≡ false → IsKept safety u a.1 r a.0 (k a.0) (Safe safety u a.1 (k a.0)))

  -- the tests on the whole store are passed, or the history has ended
  pub answers : (u : ℕ) (x : Store) (r : Request) (k : Reply → Left) → ((y : Store) → Grows x y → Typed p n y → is_live y u ≡ true → (is_named y r ≡ true) × (Grows y (served y u r).1 → Answered u r k (served y u r).0 (served y u r).1)) → Sound u x (Ask r k)
  answers u x r k go = λ y g t l. by_end y (go y g t l) l y.is_over refl
    where
      by_end : (y : Store) → (is_named y r ≡ true) × (Grows y (served y u r).1 → Answered u r k (served y u r).0 (served y u r).1) → is_live y u ≡ true → (over : Bool) → y.is_over ≡ over → Whole u r k (answer y u r)
      by_end y h l true e = subst (λ b. Whole u r k (unless_over y (tested y (served y u r) (is_live y u && is_named y r)) b)) (sym e) ((refl, λ go'. absurd (cc go')))
      by_end y h l false e =
          let named : is_named y r ≡ true = h.0 in
          let tests : (is_live y u && is_named y r) ≡ true = and_true (is_live y u) (is_named y r) l named in
          let is : answer y u r ≡ served y u r = ap (unless_over y (tested y (served y u r) (is_live y u && is_named y r))) e ∙ ap (tested y (served y u r)) tests in
          let a : Answered u r k (served y u r).0 (served y u r).1 = h.1 (subst (λ (z : Reply × Store). Grows y z.1) is (grows_after y u r)) in
          subst (λ z. Whole u r k z) (sym is) ((a.proper, λ go'. (a.typed, a.begun, a.ready, a.safe)))

  -- ---- words

  -- what stands where, after a word was put
  scalar_stays : (x : Store) (pl : Place) (w : ℕ) (other : Place) (c : Scalar) → scalar_at p n (with_word x pl w) other ≡ Some c → scalar_at p n x other ≡ Some c
  scalar_stays x (at.Object o i) w (at.Object o' j) c h = h
  scalar_stays x (at.Object o i) w (at.Fixed k j) c h = h
  scalar_stays x (at.Fixed k i) w (at.Object o' j) c h = h
  scalar_stays x (at.Fixed k i) w (at.Fixed k' j) c h = h

  same_scalar : {a c : Scalar} {o : Option Scalar} → o ≡ Some a → o ≡ Some c → a ≡ c
  same_scalar e f = cc (e, f)

  put_there : (x : Store) (a b i j w old : ℕ) (f : ℕ → ℕ → Option Scalar) (s c : Scalar) → f a i ≡ Some s → f b j ≡ Some c → WordFits p n x s w → WordFits p n x c old → WordFits p n x c (if (a == b) && (i == j) then w else old)
  put_there x a b i j w old f s c is is' fits other = by_tests (a == b) (i == j) refl refl
    where
      by_tests : (d e : Bool) → (a == b) ≡ d → (i == j) ≡ e → WordFits p n x c (if d && e then w else old)
      by_tests true true p1 p2 =
          let q1 : a ≡ b = eqb-true a b p1 in
          let q2 : i ≡ j = eqb-true i j p2 in
          let q3 : f b j ≡ Some s = subst (λ z. f z j ≡ Some s) q1 (subst (λ z. f a z ≡ Some s) q2 is) in
          subst (λ z. WordFits p n x z w) (same_scalar q3 is') fits
      by_tests true false p1 p2 = other
      by_tests false e p1 p2 = other

  word_there : (x : Store) (pl : Place) (a : Scalar) (w : ℕ) → Typed p n x → scalar_at p n x pl ≡ Some a → WordFits p n x a w → (other : Place) (c : Scalar) → scalar_at p n x other ≡ Some c → WordFits p n x c (word_at (with_word x pl w) other)
  word_there x (at.Object o i) a w t is fits (at.Object o' j) c h = put_there x o o' i j w (x.word o' j) (λ z k. scalar_at p n x (at.Object z k)) a c is h fits (t.words (at.Object o' j) c h)
  word_there x (at.Object o i) a w t is fits (at.Fixed k j) c h = t.words (at.Fixed k j) c h
  word_there x (at.Fixed k i) a w t is fits (at.Object o' j) c h = t.words (at.Object o' j) c h
  word_there x (at.Fixed k i) a w t is fits (at.Fixed k' j) c h = put_there x k k' i j w (x.fixed k' j) (λ z k''. scalar_at p n x (at.Fixed z k'')) a c is h fits (t.words (at.Fixed k' j) c h)

  -- a word that fits is put
  pub saved : (x : Store) (pl : Place) (a : Scalar) (w : ℕ) → Grows x (with_word x pl w) → Typed p n x → scalar_at p n x pl ≡ Some a → WordFits p n x a w → Typed p n (with_word x pl w)
  saved x pl a w g t is fits = record { words = λ other c h. word_later p n x (with_word x pl w) c _ g (word_there x pl a w t is fits other c (scalar_stays x pl w other c h)) }

  live_with_word : (x : Store) (pl : Place) (w u : ℕ) → is_live x u ≡ true → is_live (with_word x pl w) u ≡ true
  live_with_word x (at.Object o i) w u l = l
  live_with_word x (at.Fixed k i) w u l = l

  -- the reply of a load fits, whoever put the word
  pub load_word : (u : ℕ) (x : Store) (pl : Place) (a : Scalar) (k : ℕ → Left) → scalar_at p n x pl ≡ Some a → ((y : Store) (w : ℕ) → Grows x y → WordFits p n y a w → Sound u y (k w)) → Sound u x (Ask (ask.Load pl) (on_word k))
  load_word u x pl a k is go = answers u x (ask.Load pl) (on_word k) (λ y g t l.
      let is' : scalar_at p n y pl ≡ Some a = scalar_later p n x y pl a g is in
      (has_word p n y pl a is', λ g'. record { proper = refl; typed = t; begun = tt; ready = inr l; safe = go y (word_at y pl) g (t.words pl a is') }))

  -- a word that is put in any way that leaves one that fits, and replied with the one that stood there or another that fits
  pub save_word : (u : ℕ) (x : Store) (pl : Place) (a : Scalar) (w : ℕ) (q : Left) → scalar_at p n x pl ≡ Some a → WordFits p n x a w → ((y : Store) → Grows x y → Sound u y q) → Sound u x (Ask (ask.Save pl w) (on_done q))
  save_word u x pl a w q is fits go = answers u x (ask.Save pl w) (on_done q) (λ y g t l.
      let is' : scalar_at p n y pl ≡ Some a = scalar_later p n x y pl a g is in
      (has_word p n y pl a is', λ g'. record { proper = refl; typed = saved y pl a w g' t is' (word_later p n x y a w g fits); begun = tt; ready = inr (live_with_word y pl w u l); safe = go (with_word y pl w) (grows_then x y (with_word y pl w) g g') }))

  pub exchange_word : (u : ℕ) (x : Store) (pl : Place) (a : Scalar) (w : ℕ) (k : ℕ → Left) → scalar_at p n x pl ≡ Some a → WordFits p n x a w → ((y : Store) (v : ℕ) → Grows x y → WordFits p n y a v → Sound u y (k v)) → Sound u x (Ask (ask.Exchange pl w) (on_word k))
  exchange_word u x pl a w k is fits go = answers u x (ask.Exchange pl w) (on_word k) (λ y g t l.
      let is' : scalar_at p n y pl ≡ Some a = scalar_later p n x y pl a g is in
      (has_word p n y pl a is', λ g'. record { proper = refl; typed = saved y pl a w g' t is' (word_later p n x y a w g fits); begun = tt; ready = inr (live_with_word y pl w u l); safe = go (with_word y pl w) (word_at y pl) (grows_then x y (with_word y pl w) g g') (word_later p n y (with_word y pl w) a (word_at y pl) g' (t.words pl a is')) }))

  pub compare_word : (u : ℕ) (x : Store) (pl : Place) (a : Scalar) (w c : ℕ) (k : ℕ → Left) → scalar_at p n x pl ≡ Some a → WordFits p n x a w → ((y : Store) (v : ℕ) → Grows x y → WordFits p n y a v → Sound u y (k v)) → Sound u x (Ask (ask.CompareExchange pl w c) (on_word k))
  compare_word u x pl a w c k is fits go = answers u x (ask.CompareExchange pl w c) (on_word k) (λ y g t l.
      let is' : scalar_at p n y pl ≡ Some a = scalar_later p n x y pl a g is in
      (has_word p n y pl a is', λ g'. by_test y g t l is' (word_at y pl == c) g'))
    where
      by_test : (y : Store) → Grows x y → Typed p n y → is_live y u ≡ true → scalar_at p n y pl ≡ Some a → (b : Bool) → Grows y (if b then with_word y pl w else y) → Answered u (ask.CompareExchange pl w c) (on_word k) (says.Word (word_at y pl)) (if b then with_word y pl w else y)
      by_test y g t l is' true g' = record { proper = refl; typed = saved y pl a w g' t is' (word_later p n x y a w g fits); begun = tt; ready = inr (live_with_word y pl w u l); safe = go (with_word y pl w) (word_at y pl) (grows_then x y (with_word y pl w) g g') (word_later p n y (with_word y pl w) a (word_at y pl) g' (t.words pl a is')) }
      by_test y g t l is' false g' = record { proper = refl; typed = t; begun = tt; ready = inr l; safe = go y (word_at y pl) g (t.words pl a is') }

  -- `fits` says that each sum of such words is one
  pub add_word : (u : ℕ) (x : Store) (pl : Place) (a : Scalar) (w : ℕ) (narrow : Bool) (k : ℕ → Left) → scalar_at p n x pl ≡ Some a → ((y : Store) (old : ℕ) → WordFits p n y a (summed narrow old w)) → ((y : Store) (v : ℕ) → Grows x y → WordFits p n y a v → Sound u y (k v)) → Sound u x (Ask (ask.Add pl w narrow) (on_word k))
  add_word u x pl a w narrow k is fits go = answers u x (ask.Add pl w narrow) (on_word k) (λ y g t l.
      let is' : scalar_at p n y pl ≡ Some a = scalar_later p n x y pl a g is in
      (has_word p n y pl a is', λ g'. record { proper = refl; typed = saved y pl a (summed narrow (word_at y pl) w) g' t is' (fits y (word_at y pl)); begun = tt; ready = inr (live_with_word y pl (summed narrow (word_at y pl) w) u l); safe = go (with_word y pl (summed narrow (word_at y pl) w)) (summed narrow (word_at y pl) w) (grows_then x y (with_word y pl (summed narrow (word_at y pl) w)) g g') (fits (with_word y pl (summed narrow (word_at y pl) w)) (word_at y pl)) }))

  -- ---- the words of a value: another thread may come between any two

  -- these scalars stand from a place on
  abbrev pub Along : Store → Place → List Scalar → Type 0
  Along x pl [] = Unit {0}
  Along x pl (a ∷ as') = (scalar_at p n x pl ≡ Some a) × Along x (next_place pl) as'

  pub along_later : (x y : Store) (pl : Place) (as' : List Scalar) → Grows x y → Along x pl as' → Along y pl as'
  along_later x y pl [] g h = tt
  along_later x y pl (a ∷ as') g h = (scalar_later p n x y pl a g h.0, along_later x y (next_place pl) as' g h.1)

  pub along_object : (x : Store) (o i : ℕ) (as' : List Scalar) → Spans (λ j. scalar_at p n x (at.Object o j)) i as' → Along x (at.Object o i) as'
  along_object x o i [] h = tt
  along_object x o i (a ∷ as') h = (h.0, along_object x o (suc i) as' h.1)

  pub along_fixed : (x : Store) (v i : ℕ) (as' : List Scalar) → Spans (λ j. scalar_at p n x (at.Fixed v j)) i as' → Along x (at.Fixed v i) as'
  along_fixed x v i [] h = tt
  along_fixed x v i (a ∷ as') h = (h.0, along_fixed x v (suc i) as' h.1)

  pub load_words : (u : ℕ) (x : Store) (pl : Place) (as' : List Scalar) (k : List ℕ → Left) → Along x pl as' → ((y : Store) (ws : List ℕ) → Grows x y → WordsFit p n y as' ws → Sound u y (k ws)) → Sound u x (loads (length as') pl k)
  load_words u x pl [] k s go = go x [] (grows_self x) tt
  load_words u x pl (a ∷ as') k s go =
      load_word u x pl a (λ w. loads (length as') (next_place pl) (λ ws. k (w ∷ ws))) s.0
      (λ y w g h. load_words u y (next_place pl) as' (λ ws. k (w ∷ ws)) (along_later x y (next_place pl) as' g s.1)
      (λ z ws g' h'. go z (w ∷ ws) (grows_then x y z g g') (word_later p n y z a w g' h, h')))

  pub save_words : (u : ℕ) (x : Store) (pl : Place) (as' : List Scalar) (ws : List ℕ) (q : Left) → Along x pl as' → WordsFit p n x as' ws → ((y : Store) → Grows x y → Sound u y q) → Sound u x (saves ws pl q)
  save_words u x pl [] [] q s f go = go x (grows_self x)
  save_words u x pl [] (w ∷ ws) q s f go = absurd f
  save_words u x pl (a ∷ as') [] q s f go = absurd f
  save_words u x pl (a ∷ as') (w ∷ ws) q s f go =
      save_word u x pl a w (saves ws (next_place pl) q) s.0 f.0
      (λ y g. save_words u y (next_place pl) as' ws q (along_later x y (next_place pl) as' g s.1) (words_later p n x y as' ws g f.1)
      (λ z g'. go z (grows_then x y z g g')))

  -- ---- new objects

  get_there : {A : Type 0} (l : List A) (s : A) (i : ℕ) → slice_get l i ≡ Some s → i < length l
  get_there [] s i h = absurd (cc h)
  get_there (a ∷ l) s zero h = omega arith
  get_there (a ∷ l) s (suc i) h = omega (arith, get_there l s i h)

  get_last : {A : Type 0} (l : List A) (t : A) → slice_get (l ++ t ∷ []) (length l) ≡ Some t
  get_last [] t = refl
  get_last (a ∷ l) t = get_last l t

  get_either : {A : Type 0} (l : List A) (s t : A) (i : ℕ) → slice_get (l ++ t ∷ []) i ≡ Some s → (slice_get l i ≡ Some s) ⊎ (i ≡ length l)
  get_either [] s t zero h = inr refl
  get_either [] s t (suc i) h = absurd (cc h)
  get_either (a ∷ l) s t zero h = inl h
  get_either (a ∷ l) s t (suc i) h = ⊎_elim (λ q. inl q) (λ q. inr (ap suc q)) (get_either l s t i h)

  shape_next : (x : Store) (o k : ℕ) → o ≡ suc k → shape_at x o ≡ slice_get x.shapes k
  shape_next x o k e = by_test (o == 0) refl
    where
      by_test : (b : Bool) → (o == 0) ≡ b → (if b then None else slice_get x.shapes (o - 1)) ≡ slice_get x.shapes k
      by_test true z = let is : o ≡ 0 = eqb-true o 0 z in absurd (omega (arith, is, e))
      by_test false z = let is : o - 1 ≡ k = omega (arith, e) in rw is refl

  -- the scalars of other objects stay
  old_scalar : (x : Store) (s : Shape) (o i : ℕ) (a : Scalar) → (o == length x.shapes + 1) ≡ false → scalar_at p n (with_object x s) (at.Object o i) ≡ Some a → scalar_at p n x (at.Object o i) ≡ Some a
  old_scalar x s o i a ne h = by_zero (o == 0) refl h
    where
      ne' : o - 1 ≡ length x.shapes → (o == 0) ≡ false → ⊥
      ne' e z =
          let pos' : o ≢ 0 = λ q. cc (eq-eqb o 0 q, z) in
          let is : o ≡ length x.shapes + 1 = omega (arith, e, pos') in
          cc (eq-eqb o (length x.shapes + 1) is, ne)

      by_shape : (c : Option Shape) → slice_get (x.shapes ++ s ∷ []) (o - 1) ≡ c → (o == 0) ≡ false → option_and_then (in_shape p n i) c ≡ Some a → option_and_then (in_shape p n i) (slice_get x.shapes (o - 1)) ≡ Some a
      by_shape None e z h' = absurd (cc h')
      by_shape (Some c) e z h' = ⊎_elim (λ q. subst (λ v. option_and_then (in_shape p n i) v ≡ Some a) (sym q) h') (λ q. absurd (ne' q z)) (get_either x.shapes c s (o - 1) e)

      by_zero : (b : Bool) → (o == 0) ≡ b → option_and_then (in_shape p n i) (if b then None else slice_get (x.shapes ++ s ∷ []) (o - 1)) ≡ Some a → option_and_then (in_shape p n i) (if b then None else slice_get x.shapes (o - 1)) ≡ Some a
      by_zero true z h' = absurd (cc h')
      by_zero false z h' = by_shape (slice_get (x.shapes ++ s ∷ []) (o - 1)) refl z h'

  made_new : (x : Store) (s : Shape) → Grows x (with_object x s) → Typed p n x → Typed p n (with_object x s)
  made_new x s g t = record { words = λ pl a h. there pl a h }
    where
      there : (pl : Place) (a : Scalar) → scalar_at p n (with_object x s) pl ≡ Some a → WordFits p n (with_object x s) a (word_at (with_object x s) pl)
      there (at.Fixed k i) a h = word_later p n x (with_object x s) a (x.fixed k i) g (t.words (at.Fixed k i) a h)
      there (at.Object o i) a h = by_test (o == length x.shapes + 1) refl
        where
          by_test : (c : Bool) → (o == length x.shapes + 1) ≡ c → WordFits p n (with_object x s) a (if c then 0 else x.word o i)
          by_test true e = zero_fits p n (with_object x s) a
          by_test false e = word_later p n x (with_object x s) a (x.word o i) g (t.words (at.Object o i) a (old_scalar x s o i a e h))

  ended_typed : (x : Store) → Grows x (ended x) → Typed p n x → Typed p n (ended x)
  ended_typed x g t = record { words = λ pl a h. there pl a h }
    where
      there : (pl : Place) (a : Scalar) → scalar_at p n (ended x) pl ≡ Some a → WordFits p n (ended x) a (word_at (ended x) pl)
      there (at.Fixed k i) a h = word_later p n x (ended x) a (x.fixed k i) g (t.words (at.Fixed k i) a h)
      there (at.Object o i) a h = word_later p n x (ended x) a (x.word o i) g (t.words (at.Object o i) a h)

  -- each object takes two words of the heap at least
  heap_counts : (shapes : List Shape) → 2 * length shapes ≤ heap_of shapes
  heap_counts [] = omega arith
  heap_counts (s ∷ ss) =
      let r : 2 * length ss ≤ heap_of ss = heap_counts ss in
      let e : heap_of (s ∷ ss) ≡ (2 + s.words) + heap_of ss = sum_by-cons (λ (shape : Shape). OBJECT_COST + shape.words) s ss in
      omega (arith, r, e)

  pub alloc : (u : ℕ) (x : Store) (v len size : ℕ) (t : TExpr) (k : ℕ → Left) → n.tree_at v ≡ Some t → IsExact p t → size ≡ size_of p t len → len < 2 ^ 32 → ((y : Store) (o : ℕ) → Grows x y → (is : ObjectOf p n y t o) → is.shape ≡ record { kind = v; length = len; words = size } → Sound u y (k o)) → Sound u x (Ask (ask.Alloc v len size) (on_object k))
  alloc u x v len size t k tree exact fits short go = answers u x (ask.Alloc v len size) (on_object k) (λ y g ty' l. (refl, λ g'. by_room y g ty' l (nat_lt HEAP_LIMIT (heap_of y.shapes + (OBJECT_COST + size))) refl g'))
    where
      by_room : (y : Store) → Grows x y → Typed p n y → is_live y u ≡ true → (c : Bool) → nat_lt HEAP_LIMIT (heap_of y.shapes + (OBJECT_COST + size)) ≡ c → Grows y (made_or_stopped y (shape_with v len size) c).1 → Answered u (ask.Alloc v len size) (on_object k) (made_or_stopped y (shape_with v len size) c).0 (made_or_stopped y (shape_with v len size) c).1
      by_room y g ty' l true is g' = record { proper = refl; typed = ended_typed y g' ty'; begun = tt; ready = inl refl; safe = tt }
      by_room y g ty' l false is g' =
          let is' : nat_lt 4194304 (heap_of y.shapes + (2 + size)) ≡ false = is in
          let room : heap_of y.shapes + (2 + size) ≤ 4194304 = grind (arith, nat_tests) in
          let few : 2 * length y.shapes ≤ heap_of y.shapes = heap_counts y.shapes in
          let there : shape_at (with_object y (shape_with v len size)) (length y.shapes + 1) ≡ Some (shape_with v len size) = shape_next (with_object y (shape_with v len size)) (length y.shapes + 1) (length y.shapes) (omega arith) ∙ get_last y.shapes (shape_with v len size) in
          record {
            proper = refl;
            typed = made_new y (shape_with v len size) g' ty';
            begun = tt;
            ready = inr l;
            safe = go (with_object y (shape_with v len size)) (length y.shapes + 1) (grows_then x y (with_object y (shape_with v len size)) g g') (record { shape = (shape_with v len size); there = there; tree = tree; exact = exact; size = fits; small = omega (arith, few, room); few = omega (arith, room); short = short }) refl;
          }

  -- ---- kinds and lengths

  object_is : (x : Store) (w : ℕ) (s : Shape) → shape_at x w ≡ Some s → is_object x w ≡ true
  object_is x w s there = ap (λ (z : Option Shape). is_some z) there

  shape_is : (x : Store) (w : ℕ) (s : Shape) → shape_at x w ≡ Some s → shape_of x w ≡ s
  shape_is x w s there = ap (λ (z : Option Shape). unwrap_or z (record { kind = 0; length = 0; words = 0 })) there

  pub kind_is : (u : ℕ) (x : Store) (e : TExpr) (w : ℕ) (k : ℕ → Left) (o : ObjectOf p n x e w) → ((y : Store) → Grows x y → Sound u y (k o.shape.kind)) → Sound u x (Ask (ask.TypeOf w) (on_kind k))
  kind_is u x e w k o go = answers u x (ask.TypeOf w) (on_kind k) (λ y g t l.
      let there : shape_at y w ≡ Some o.shape = g.shapes w o.shape o.there in
      (object_is y w o.shape there, λ g'. subst (λ (s : Shape). Answered u (ask.TypeOf w) (on_kind k) (says.Kind s.kind) y) (sym (shape_is y w o.shape there)) (record { proper = refl; typed = t; begun = tt; ready = inr l; safe = go y g })))

  pub length_is : (u : ℕ) (x : Store) (e : TExpr) (w : ℕ) (k : ℕ → Left) (o : ObjectOf p n x e w) → ((y : Store) → Grows x y → Sound u y (k o.shape.length)) → Sound u x (Ask (ask.Length w) (on_word k))
  length_is u x e w k o go = answers u x (ask.Length w) (on_word k) (λ y g t l.
      let there : shape_at y w ≡ Some o.shape = g.shapes w o.shape o.there in
      (object_is y w o.shape there, λ g'. subst (λ (s : Shape). Answered u (ask.Length w) (on_word k) (says.Word s.length) y) (sym (shape_is y w o.shape there)) (record { proper = refl; typed = t; begun = tt; ready = inr l; safe = go y g })))

  -- ---- printing, and the ends

  pub print : (u : ℕ) (x : Store) (form : Form) (w : ℕ) (q : Left) → ((y : Store) → Grows x y → Sound u y q) → Sound u x (Ask (ask.Print form w) (on_done q))
  print u x form w q go = answers u x (ask.Print form w) (on_done q) (λ y g t l. (refl, λ g'. record { proper = refl; typed = t; begun = tt; ready = inr l; safe = go y g }))

  pub finish : (u : ℕ) (x : Store) → Sound u x (Ask ask.Finish (on_done Over))
  finish u x = answers u x ask.Finish (on_done Over) (λ y g t l. (refl, λ g'. record { proper = refl; typed = finish_typed y g' t; begun = tt; ready = inl refl; safe = tt }))
    where
      finish_typed : (y : Store) → Grows y (without_thread y u) → Typed p n y → Typed p n (without_thread y u)
      finish_typed y g t = record { words = λ pl a h. there pl a h }
        where
          there : (pl : Place) (a : Scalar) → scalar_at p n (without_thread y u) pl ≡ Some a → WordFits p n (without_thread y u) a (word_at (without_thread y u) pl)
          there (at.Fixed k i) a h = word_later p n y (without_thread y u) a (y.fixed k i) g (t.words (at.Fixed k i) a h)
          there (at.Object o i) a h = word_later p n y (without_thread y u) a (y.word o i) g (t.words (at.Object o i) a h)

  pub fall : (u : ℕ) (x : Store) (v : ℕ) → Sound u x (Ask (ask.Fall v) (on_done Over))
  fall u x v = answers u x (ask.Fall v) (on_done Over) (λ y g t l. (refl, λ g'. record { proper = refl; typed = ended_typed y g' t; begun = tt; ready = inl refl; safe = tt }))

  pub stop : (u : ℕ) (x : Store) (c : Cause) → Sound u x (Ask (ask.Stop c) on_stopped)
  stop u x c = answers u x (ask.Stop c) on_stopped (λ y g t l. (refl, λ g'. record { proper = refl; typed = ended_typed y g' t; begun = tt; ready = inl refl; safe = tt }))
