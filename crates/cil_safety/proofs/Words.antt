-- Words and values: growth keeps what fits, a wider sort takes it, and parts of values fit.
use Rattle.std.proofs.Common.{◌≡◌, ℕ, zero, suc, ◌+◌, ◌<◌, List, [], ◌∷◌, ◌++◌, length, Bool, true, false, Option, Some, None, refl, sym, ap, ◌∙◌, subst, arith, eqb-true}
use Rattle.std.specs.Prelude.{◌==◌, ◌&&◌, nat_lt, if◌then◌else◌, replicate, is_some, unwrap_or, option_and_then, slice_get, slice_set}
use Rattle.type_tree.specs.declared.tree.TExpr.{TExpr}
use Rattle.il_model.specs.declared.program.Program.{Program}
use Rattle.il_model.specs.Library.{plain}
use Rattle.interaction.specs.Process.{Naming}
use Rattle.store_object.specs.declared.limits.TheConstants.{INDEX_LIMIT}
use Rattle.store_object.specs.declared.place.Place.{Place}
use Rattle.store_object.specs.declared.place.Place.TheVariants as at
use Rattle.store_object.specs.Store.{Store, Shape, shape_at, is_place}
use Rattle.store_object.specs.Growth.{Grows}
use Rattle.cil_meaning.specs.Words.{cut, spliced}
use Rattle.cil_meaning.specs.Values.{Pointer, Null, InFrame, InFresh, InObject, InStatic, Value, Plain, Managed}
use Rattle.cil_meaning.specs.Naming.{Mention}
use Rattle.cil_meaning.specs.Frames.{Places, places_at, with_places}
use Rattle.cil_meaning.specs.Types.{passes_as}
use Rattle.cil_safety.proofs.Sorts.{Scalar, Number32, Number64, Length, Truth, Ref, BoxOf, Nil, Sort, Words, To, static_scalars_of}
use Rattle.cil_safety.proofs.Fit.{plus, Spans, Holds, inside, holds_at, Wide, same, refs, boxes, nil_ref, nil_box, truth, WideWords, WideSort, WideSorts, IsExact, ObjectOf, RefTo, null, object, string, BoxTo, no_box, box, WordFits, WordsFit, scalar_in, in_shape, in_statics, scalar_at, PointerFits, ValueFits, ValuesFit, PlacesFit}

-- what a test lets through
pub if_some : {A : Type 0} (c : Bool) (o : Option A) (a : A) → (if c then o else None) ≡ Some a → c ≡ true
if_some true o a h = refl
if_some false o a h = absurd (cc h)

pub if_gives : {A : Type 0} (c : Bool) (o : Option A) (a : A) → (if c then o else None) ≡ Some a → o ≡ Some a
if_gives true o a h = h
if_gives false o a h = absurd (cc h)

module _ (p : Program) (n : Naming Mention TExpr) where
  -- ---- growth

  pub object_later : {x y : Store} {e : TExpr} {w : ℕ} → Grows x y → ObjectOf p n x e w → ObjectOf p n y e w
  object_later g o = record { shape = o.shape; there = g.shapes _ _ o.there; tree = o.tree; exact = o.exact; size = o.size; small = o.small; few = o.few; short = o.short }

  pub ref_later : {x y : Store} {t : TExpr} {w : ℕ} → Grows x y → RefTo p n x t w → RefTo p n y t w
  ref_later g (null z) = null z
  ref_later g (object e o b) = object e (object_later g o) b
  ref_later g (string l b) = string l b

  box_later : {x y : Store} {t : TExpr} {w : ℕ} → Grows x y → BoxTo p n x t w → BoxTo p n y t w
  box_later g (no_box z) = no_box z
  box_later g (box o) = box (object_later g o)

  pub word_later : (x y : Store) (a : Scalar) (w : ℕ) → Grows x y → WordFits p n x a w → WordFits p n y a w
  word_later x y Number32 w g h = h
  word_later x y Number64 w g h = h
  word_later x y Length w g h = h
  word_later x y Truth w g h = h
  word_later x y (Ref t) w g h = ref_later g h
  word_later x y (BoxOf t) w g h = box_later g h
  word_later x y Nil w g h = h

  pub words_later : (x y : Store) (as' : List Scalar) (ws : List ℕ) → Grows x y → WordsFit p n x as' ws → WordsFit p n y as' ws
  words_later x y [] [] g h = tt
  words_later x y [] (w ∷ ws) g h = h
  words_later x y (a ∷ as') [] g h = h
  words_later x y (a ∷ as') (w ∷ ws) g h = (word_later x y a w g h.0, words_later x y as' ws g h.1)

  -- the scalar of a word of the store stays
  pub scalar_later : (x y : Store) (pl : Place) (a : Scalar) → Grows x y → scalar_at p n x pl ≡ Some a → scalar_at p n y pl ≡ Some a
  scalar_later x y (at.Fixed k i) a g h = h
  scalar_later x y (at.Object o i) a g h = by_shape (shape_at x o) refl h
    where
      by_shape : (s : Option Shape) → shape_at x o ≡ s → option_and_then (in_shape p n i) s ≡ Some a → option_and_then (in_shape p n i) (shape_at y o) ≡ Some a
      by_shape None is h' = absurd (cc h')
      by_shape (Some s) is h' = subst (λ z. option_and_then (in_shape p n i) z ≡ Some a) (sym (g.shapes o s is)) h'

  pub object_spans_later : (x y : Store) (o i : ℕ) (as' : List Scalar) → Grows x y → Spans (λ j. scalar_at p n x (at.Object o j)) i as' → Spans (λ j. scalar_at p n y (at.Object o j)) i as'
  object_spans_later x y o i [] g h = tt
  object_spans_later x y o i (a ∷ as') g h = (scalar_later x y (at.Object o i) a g h.0, object_spans_later x y o (suc i) as' g h.1)

  pub pointer_later : (x y : Store) (env : List Holds) (as' : List Scalar) (q : Pointer) → Grows x y → PointerFits p n x env as' q → PointerFits p n y env as' q
  pointer_later x y env as' Null g h = tt
  pointer_later x y env as' (InFrame l k i) g h = h
  pointer_later x y env as' (InFresh l i) g h = h
  pointer_later x y env as' (InObject o i) g h = object_spans_later x y o i as' g h
  pointer_later x y env as' (InStatic k i) g h = h

  pub value_later : (x y : Store) (env : List Holds) (s : Sort) (v : Value) → Grows x y → ValueFits p n x env s v → ValueFits p n y env s v
  value_later x y env (Words k as') (Plain l ws) g h = (h.0, words_later x y as' ws g h.1)
  value_later x y env (Words k as') (Managed q) g h = h
  value_later x y env (To as') (Plain l ws) g h = h
  value_later x y env (To as') (Managed q) g h = pointer_later x y env as' q g h

  pub values_later : (x y : Store) (env : List Holds) (ss : List Sort) (vs : List Value) → Grows x y → ValuesFit p n x env ss vs → ValuesFit p n y env ss vs
  values_later x y env [] [] g h = tt
  values_later x y env [] (v ∷ vs) g h = h
  values_later x y env (s ∷ ss) [] g h = h
  values_later x y env (s ∷ ss) (v ∷ vs) g h = (value_later x y env s v g h.0, values_later x y env ss vs g h.1)

  pub places_later : (x y : Store) (env : List Holds) (pl : List Places) → Grows x y → PlacesFit p n x env pl → PlacesFit p n y env pl
  places_later x y [] [] g h = tt
  places_later x y [] (q ∷ qs) g h = h
  places_later x y (e ∷ es) [] g h = h
  places_later x y (e ∷ es) (q ∷ qs) g h = (values_later x y (inside e ∷ es) e.held q.held g h.0, words_later x y e.fresh q.fresh g h.1, places_later x y es qs g h.2)

  -- where a word of the store has a scalar, the store has the word
  pub has_word : (x : Store) (pl : Place) (a : Scalar) → scalar_at p n x pl ≡ Some a → is_place x pl ≡ true
  has_word x (at.Object o i) a is = by_shape (shape_at x o) refl is
    where
      by_shape : (s : Option Shape) → shape_at x o ≡ s → option_and_then (in_shape p n i) s ≡ Some a → is_place x (at.Object o i) ≡ true
      by_shape None e h = absurd (cc h)
      by_shape (Some s) e h = subst (λ (z : Option Shape). (is_some z && (nat_lt i (unwrap_or z (record { kind = 0; length = 0; words = 0 })).words && nat_lt i INDEX_LIMIT)) ≡ true) (sym e) (if_some (nat_lt i s.words && nat_lt i INDEX_LIMIT) (option_and_then (λ t. scalar_in p t i) (n.tree_at s.kind)) a h)
  has_word x (at.Fixed k i) a is = by_tree (n.tree_at k) is
    where
      by_tree : (t : Option TExpr) → option_and_then (in_statics p n i) t ≡ Some a → nat_lt i INDEX_LIMIT ≡ true
      by_tree None h = absurd (cc h)
      by_tree (Some t) h = if_some (nat_lt i INDEX_LIMIT) (slice_get (static_scalars_of p t) i) a h

  -- ---- env: an inner frame's values may point where the outer ones' may

  holds_below : (env : List Holds) (level : ℕ) (h : Holds) → holds_at env level ≡ Some h → level < length env
  holds_below [] level h e = absurd (cc e)
  holds_below (g ∷ env) level h e = by_test (λ e'. holds_below env level h e') (level == length env) refl e
    where
      by_test : (holds_at env level ≡ Some h → level < length env) → (b : Bool) → (level == length env) ≡ b → (if b then Some g else holds_at env level) ≡ Some h → level < suc (length env)
      by_test rec true is e' = let same' : level ≡ length env = eqb-true level (length env) is in omega (arith, same')
      by_test rec false is e' = omega (arith, rec e')

  holds_inner : (g : Holds) (env : List Holds) (level : ℕ) (h : Holds) → holds_at env level ≡ Some h → holds_at (g ∷ env) level ≡ Some h
  holds_inner g env level h e = by_test (level == length env) refl
    where
      by_test : (b : Bool) → (level == length env) ≡ b → (if b then Some g else holds_at env level) ≡ Some h
      by_test true is = let same' : level ≡ length env = eqb-true level (length env) is in absurd (omega (arith, same', holds_below env level h e))
      by_test false is = e

  pub value_inner : (x : Store) (g : Holds) (env : List Holds) (s : Sort) (v : Value) → ValueFits p n x env s v → ValueFits p n x (g ∷ env) s v
  value_inner x g env (Words k as') (Plain l ws) h = h
  value_inner x g env (Words k as') (Managed q) h = h
  value_inner x g env (To as') (Plain l ws) h = h
  value_inner x g env (To as') (Managed Null) h = tt
  value_inner x g env (To as') (Managed (InFrame l k i)) h = (h.0, h.1, h.2, holds_inner g env l h.0 h.3, h.4, h.5)
  value_inner x g env (To as') (Managed (InFresh l i)) h = (h.0, holds_inner g env l h.0 h.1, h.2)
  value_inner x g env (To as') (Managed (InObject o i)) h = h
  value_inner x g env (To as') (Managed (InStatic k i)) h = h

  pub values_inner : (x : Store) (g : Holds) (env : List Holds) (ss : List Sort) (vs : List Value) → ValuesFit p n x env ss vs → ValuesFit p n x (g ∷ env) ss vs
  values_inner x g env [] [] h = tt
  values_inner x g env [] (v ∷ vs) h = h
  values_inner x g env (s ∷ ss) [] h = h
  values_inner x g env (s ∷ ss) (v ∷ vs) h = (value_inner x g env s v h.0, values_inner x g env ss vs h.1)

  -- ---- wider sorts

  ref_wide : (x : Store) (s t : TExpr) (w : ℕ) → ((e : TExpr) → IsExact p e → passes_as p e s ≡ true → passes_as p e t ≡ true) → (passes_as p (plain 1) s ≡ true → passes_as p (plain 1) t ≡ true) → RefTo p n x s w → RefTo p n x t w
  ref_wide x s t w b b' (null z) = null z
  ref_wide x s t w b b' (object e o c) = object e o (b e o.exact c)
  ref_wide x s t w b b' (string l c) = string l (b' c)

  box_wide : (x : Store) (s t : TExpr) (w : ℕ) → (IsExact p s → passes_as p s t ≡ true) → BoxTo p n x s w → RefTo p n x t w
  box_wide x s t w b (no_box z) = null z
  box_wide x s t w b (box o) = object s o (b o.exact)

  pub word_wide : (x : Store) {a b : Scalar} (w : ℕ) → Wide p a b → WordFits p n x a w → WordFits p n x b w
  word_wide x w same h = h
  word_wide x w (refs {s = s} {t = t} b b') h = ref_wide x s t w b b' h
  word_wide x w (boxes {s = s} {t = t} b) h = box_wide x s t w b h
  word_wide x w nil_ref h = null h
  word_wide x w nil_box h = no_box h
  word_wide x w truth h = plus (omega (arith, h))

  pub words_wide : (x : Store) (as' bs : List Scalar) (ws : List ℕ) → WideWords p as' bs → WordsFit p n x as' ws → WordsFit p n x bs ws
  words_wide x [] [] [] w h = tt
  words_wide x [] [] (v ∷ ws) w h = h
  words_wide x [] (b ∷ bs) ws w h = absurd w
  words_wide x (a ∷ as') [] ws w h = absurd w
  words_wide x (a ∷ as') (b ∷ bs) [] w h = h
  words_wide x (a ∷ as') (b ∷ bs) (v ∷ ws) w h = (word_wide x v w.0 h.0, words_wide x as' bs ws w.1 h.1)

  pub value_wide : (x : Store) (env : List Holds) (s t : Sort) (v : Value) → WideSort p s t → ValueFits p n x env s v → ValueFits p n x env t v
  value_wide x env (Words k a) (Words l b) (Plain m ws) w h = (h.0 ∙ w.0, words_wide x a b ws w.1 h.1)
  value_wide x env (Words k a) (Words l b) (Managed q) w h = h
  value_wide x env (Words k a) (To b) v w h = absurd w
  value_wide x env (To a) (Words l b) v w h = absurd w
  value_wide x env (To a) (To b) v w h = subst (λ c. ValueFits p n x env (To c) v) w h

  pub values_wide : (x : Store) (env : List Holds) (ss ts : List Sort) (vs : List Value) → WideSorts p ss ts → ValuesFit p n x env ss vs → ValuesFit p n x env ts vs
  values_wide x env [] [] vs w h = h
  values_wide x env [] (t ∷ ts) vs w h = absurd w
  values_wide x env (s ∷ ss) [] vs w h = absurd w
  values_wide x env (s ∷ ss) (t ∷ ts) [] w h = h
  values_wide x env (s ∷ ss) (t ∷ ts) (v ∷ vs) w h = (value_wide x env s t v w.0 h.0, values_wide x env ss ts vs w.1 h.1)

  -- ---- lengths, zeros, lists

  pub as_long : (x : Store) (as' : List Scalar) (ws : List ℕ) → WordsFit p n x as' ws → length ws ≡ length as'
  as_long x [] [] h = refl
  as_long x [] (w ∷ ws) h = absurd h
  as_long x (a ∷ as') [] h = absurd h
  as_long x (a ∷ as') (w ∷ ws) h = ap suc (as_long x as' ws h.1)

  pub zero_fits : (x : Store) (a : Scalar) → WordFits p n x a 0
  zero_fits x Number32 = plus (omega arith)
  zero_fits x Number64 = omega arith
  zero_fits x Length = omega arith
  zero_fits x Truth = omega arith
  zero_fits x (Ref t) = null refl
  zero_fits x (BoxOf t) = no_box refl
  zero_fits x Nil = refl

  pub zeros_fit : (x : Store) (as' : List Scalar) (k : ℕ) → k ≡ length as' → WordsFit p n x as' (replicate k 0)
  zeros_fit x [] zero e = tt
  zeros_fit x [] (suc k) e = absurd (omega (arith, e))
  zeros_fit x (a ∷ as') zero e = absurd (omega (arith, e))
  zeros_fit x (a ∷ as') (suc k) e = (zero_fits x a, zeros_fit x as' k (omega (arith, e)))

  pub values_append : (x : Store) (env : List Holds) (ss ts : List Sort) (us vs : List Value) → ValuesFit p n x env ss us → ValuesFit p n x env ts vs → ValuesFit p n x env (ss ++ ts) (us ++ vs)
  values_append x env [] ts [] vs g h = h
  values_append x env [] ts (u ∷ us) vs g h = absurd g
  values_append x env (s ∷ ss) ts [] vs g h = absurd g
  values_append x env (s ∷ ss) ts (u ∷ us) vs g h = (g.0, values_append x env ss ts us vs g.1 h)

  pub value_there : (x : Store) (env : List Holds) (ss : List Sort) (vs : List Value) (k : ℕ) (s : Sort) → ValuesFit p n x env ss vs → slice_get ss k ≡ Some s → (v : Value) × (slice_get vs k ≡ Some v) × ValueFits p n x env s v
  value_there x env [] vs k s h is = absurd (cc is)
  value_there x env (t ∷ ss) [] k s h is = absurd h
  value_there x env (t ∷ ss) (v ∷ vs) zero s h is = let e : t ≡ s = cc is in (v, refl, subst (λ c. ValueFits p n x env c v) e h.0)
  value_there x env (t ∷ ss) (v ∷ vs) (suc k) s h is = value_there x env ss vs k s h.1 is

  pub put_fits : (x : Store) (env : List Holds) (ss : List Sort) (vs : List Value) (k : ℕ) (s : Sort) (v : Value) → ValuesFit p n x env ss vs → slice_get ss k ≡ Some s → ValueFits p n x env s v → ValuesFit p n x env ss (slice_set vs k v)
  put_fits x env [] vs k s v h is f = absurd (cc is)
  put_fits x env (t ∷ ss) [] k s v h is f = absurd h
  put_fits x env (t ∷ ss) (u ∷ us) zero s v h is f = let e : s ≡ t = cc is in (subst (λ c. ValueFits p n x env c v) e f, h.1)
  put_fits x env (t ∷ ss) (u ∷ us) (suc k) s v h is f = (h.0, put_fits x env ss us k s v h.1 is f)

  -- ---- parts of a value

  span_tail : (u : Scalar) (us : List Scalar) (i : ℕ) (as' : List Scalar) → Spans (slice_get (u ∷ us)) (suc i) as' → Spans (slice_get us) i as'
  span_tail u us i [] h = tt
  span_tail u us i (a ∷ as') h = (h.0, span_tail u us (suc i) as' h.1)

  cut_none : (ws : List ℕ) (i : ℕ) → cut ws i 0 ≡ []
  cut_none [] i = refl
  cut_none (w ∷ ws) zero = refl
  cut_none (w ∷ ws) (suc i) = cut_none ws i

  pub cut_fits : (x : Store) (us : List Scalar) (ws : List ℕ) (i : ℕ) (as' : List Scalar) → WordsFit p n x us ws → Spans (slice_get us) i as' → WordsFit p n x as' (cut ws i (length as'))
  cut_fits x us ws i [] h s = subst (λ l. WordsFit p n x [] l) (sym (cut_none ws i)) tt
  cut_fits x [] ws i (a ∷ as') h s = absurd (cc s.0)
  cut_fits x (u ∷ us) [] i (a ∷ as') h s = absurd h
  cut_fits x (u ∷ us) (w ∷ ws) zero (a ∷ as') h s = let is : u ≡ a = cc s.0 in (subst (λ c. WordFits p n x c w) is h.0, cut_fits x us ws zero as' h.1 (span_tail u us zero as' s.1))
  cut_fits x (u ∷ us) (w ∷ ws) (suc i) (a ∷ as') h s = cut_fits x us ws i (a ∷ as') h.1 (span_tail u us i (a ∷ as') s)

  spliced_none : (ws : List ℕ) (i : ℕ) → spliced ws i [] ≡ ws
  spliced_none [] i = refl
  spliced_none (w ∷ ws) zero = refl
  spliced_none (w ∷ ws) (suc i) = ap (λ l. w ∷ l) (spliced_none ws i)

  pub splice_fits : (x : Store) (us : List Scalar) (ws : List ℕ) (i : ℕ) (as' : List Scalar) (vs : List ℕ) → WordsFit p n x us ws → Spans (slice_get us) i as' → WordsFit p n x as' vs → WordsFit p n x us (spliced ws i vs)
  splice_fits x us ws i [] [] h s v = subst (λ l. WordsFit p n x us l) (sym (spliced_none ws i)) h
  splice_fits x us ws i [] (y ∷ vs) h s v = absurd v
  splice_fits x us ws i (a ∷ as') [] h s v = absurd v
  splice_fits x [] ws i (a ∷ as') (y ∷ vs) h s v = absurd (cc s.0)
  splice_fits x (u ∷ us) [] i (a ∷ as') (y ∷ vs) h s v = absurd h
  splice_fits x (u ∷ us) (w ∷ ws) zero (a ∷ as') (y ∷ vs) h s v = let is : a ≡ u = cc s.0 in (subst (λ c. WordFits p n x c y) is v.0, splice_fits x us ws zero as' vs h.1 (span_tail u us zero as' s.1) v.1)
  splice_fits x (u ∷ us) (w ∷ ws) (suc i) (a ∷ as') (y ∷ vs) h s v = (h.0, splice_fits x us ws i (a ∷ as') (y ∷ vs) h.1 (span_tail u us i (a ∷ as') s) v)

  -- ---- places of frames

  pub lengths : (x : Store) (env : List Holds) (pl : List Places) → PlacesFit p n x env pl → length pl ≡ length env
  lengths x [] [] h = refl
  lengths x [] (q ∷ qs) h = absurd h
  lengths x (e ∷ es) [] h = absurd h
  lengths x (e ∷ es) (q ∷ qs) h = ap suc (lengths x es qs h.2)

  -- the places of the frame at a level, and what they hold
  pub record PlaceThere (x : Store) (h : Holds) (pl : List Places) (level : ℕ) : Type 0 where
    pub places : Places
    pub there : places_at pl level ≡ Some places
    pub env : List Holds
    pub held : ValuesFit p n x env h.held places.held
    pub fresh : WordsFit p n x h.fresh places.fresh

  pub places_there : (x : Store) (env : List Holds) (pl : List Places) (level : ℕ) (h : Holds) → PlacesFit p n x env pl → holds_at env level ≡ Some h → PlaceThere x h pl level
  places_there x [] pl level h f is = absurd (cc is)
  places_there x (e ∷ es) [] level h f is = absurd f
  places_there x (e ∷ es) (q ∷ qs) level h f is = by_test (λ is'. places_there x es qs level h f.2 is') (level == length qs) (subst (λ l. (if level == l then Some e else holds_at es level) ≡ Some h) (sym (lengths x es qs f.2)) is) refl
    where
      by_test : (holds_at es level ≡ Some h → PlaceThere x h qs level) → (b : Bool) → (if b then Some e else holds_at es level) ≡ Some h → (level == length qs) ≡ b → PlaceThere x h (q ∷ qs) level
      by_test rec true is' t =
          let same' : e ≡ h = cc is' in
          record {
            places = q;
            there = subst (λ c. (if c then Some q else places_at qs level) ≡ Some q) (sym t) refl;
            env = inside e ∷ es;
            held = subst (λ (c : Holds). ValuesFit p n x (inside e ∷ es) c.held q.held) same' f.0;
            fresh = subst (λ (c : Holds). WordsFit p n x c.fresh q.fresh) same' f.1;
          }
      by_test rec false is' t =
          let r = rec is' in
          record { places = r.places; there = subst (λ c. (if c then Some q else places_at qs level) ≡ Some r.places) (sym t) r.there; env = r.env; held = r.held; fresh = r.fresh }

  -- other places at a level, if they hold as much under the same env
  pub put_places : (x : Store) (env : List Holds) (pl : List Places) (level : ℕ) (h : Holds) (old new : Places) → PlacesFit p n x env pl → holds_at env level ≡ Some h → places_at pl level ≡ Some old →
      ((inner : List Holds) → ValuesFit p n x inner h.held old.held → ValuesFit p n x inner h.held new.held) → (WordsFit p n x h.fresh old.fresh → WordsFit p n x h.fresh new.fresh) → PlacesFit p n x env (with_places pl level new)
  put_places x [] pl level h old new f is there held fresh = absurd (cc is)
  put_places x (e ∷ es) [] level h old new f is there held fresh = absurd f
  put_places x (e ∷ es) (q ∷ qs) level h old new f is there held fresh = by_test (λ is' there'. put_places x es qs level h old new f.2 is' there' held fresh) (level == length qs) (subst (λ l. (if level == l then Some e else holds_at es level) ≡ Some h) (sym (lengths x es qs f.2)) is) there
    where
      by_test : (holds_at es level ≡ Some h → places_at qs level ≡ Some old → PlacesFit p n x es (with_places qs level new)) → (b : Bool) → (if b then Some e else holds_at es level) ≡ Some h → (if b then Some q else places_at qs level) ≡ Some old → PlacesFit p n x (e ∷ es) (if b then new ∷ qs else q ∷ with_places qs level new)
      by_test rec true is' there' =
          let same' : h ≡ e = cc is' in
          let at' : q ≡ old = cc there' in (
            subst (λ (c : Holds). ValuesFit p n x (inside e ∷ es) c.held new.held) same' (held (inside e ∷ es) (subst (λ (c : Places). ValuesFit p n x (inside e ∷ es) h.held c.held) at' (subst (λ (c : Holds). ValuesFit p n x (inside e ∷ es) c.held q.held) (sym same') f.0))),
            subst (λ (c : Holds). WordsFit p n x c.fresh new.fresh) same' (fresh (subst (λ (c : Places). WordsFit p n x h.fresh c.fresh) at' (subst (λ (c : Holds). WordsFit p n x c.fresh q.fresh) (sym same') f.1))),
            f.2,
          )
      by_test rec false is' there' = (f.0, f.1, rec is' there')

  -- ---- a part of what a pointer goes to

  pub span_part : (g : ℕ → Option Scalar) (j i : ℕ) (bs : List Scalar) (a : Scalar) → Spans g j bs → slice_get bs i ≡ Some a → g (j + i) ≡ Some a
  span_part g j i [] a h is = absurd (cc is)
  span_part g j zero (b ∷ bs) a h is = let e : j + 0 ≡ j = omega arith in rw e (h.0 ∙ is)
  span_part g j (suc i) (b ∷ bs) a h is = let e : j + suc i ≡ suc j + i = omega arith in rw e (span_part g (suc j) i bs a h.1 is)

  pub spans_part : (g : ℕ → Option Scalar) (j i : ℕ) (bs as' : List Scalar) → Spans g j bs → Spans (slice_get bs) i as' → Spans g (j + i) as'
  spans_part g j i bs [] h s = tt
  spans_part g j i bs (a ∷ as') h s = (span_part g j i bs a h s.0, let e : j + suc i ≡ suc (j + i) = omega arith in subst (λ k. Spans g k as') e (spans_part g j (suc i) bs as' h s.1))
