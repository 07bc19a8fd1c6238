-- The frames after a write, after words that no value has changed, after a call, and after a return.
use Rattle.std.proofs.Common.{◌≡◌, ◌≢◌, ◌⊎◌, inl, inr, ℕ, zero, suc, ◌+◌, ◌-◌, ◌<◌, ◌≤◌, Bool, true, false, ◌==◌, cond, List, [], Option, Some, None, refl, sym, ap, ◌∙◌, subst, arith, eqb-true, eq-eqb}
use Rattle.rgctx_words.specs.Memory.{put, Only}
use Rattle.cil_flow.specs.FramePlans.{IsPlan}
use Rattle.cil_meaning.specs.Values.{Value}
use Rattle.rgctx_fill.specs.FrameMaps.{FrameMap, place_count, width_at, spot, frame_end, scratch_at, HasBuilt, Holds, IsKept, Stacked, with_value, IsFree}

-- a choice by whether two numbers are equal
pub by_same : {X : Type 0} (P : X → Type 0) (i j : ℕ) (x y : X) → (j ≡ i → P x) → (j ≢ i → P y) → P (cond (j == i) x y)
by_same P i j x y same other = by_test (j == i) refl
  where
    by_test : (b : Bool) → (j == i) ≡ b → P (cond b x y)
    by_test true e = same (eqb-true j i e)
    by_test false e = other (λ q. cc (eq-eqb j i q))

pub data Order (a b : ℕ) : Type 0 where
  less : a < b → Order a b
  same : a ≡ b → Order a b
  greater : b < a → Order a b

pub order : (a b : ℕ) → Order a b
order zero zero = same refl
order zero (suc b) = less (omega arith)
order (suc a) zero = greater (omega arith)
order (suc a) (suc b) = up (order a b)
  where
    up : Order a b → Order (suc a) (suc b)
    up (less h) = less (omega (arith, h))
    up (same h) = same (ap suc h)
    up (greater h) = greater (omega (arith, h))

module _ {g : FrameMap} {head : ℕ → ℕ → ℕ} {mem : ℕ → ℕ} {end top : ℕ} {value : ℕ → ℕ → Option Value} {fresh : ℕ → List ℕ} (st : Stacked g head mem end top value fresh) where
  -- Where frames lie --------------------------------------------------------

  rises : (l d : ℕ) → suc (l + d) ≤ top → frame_end g l ≤ g.base (suc (l + d))
  rises l zero le =
      let e : l ≡ l + 0 = omega arith in
      let n = st.next l (omega arith) in
      subst (λ m. frame_end g l ≤ g.base (suc m)) e (omega (arith, n))
  rises l (suc d) le =
      let e : suc (l + d) ≡ l + suc d = omega arith in
      let r = rises l d (omega arith) in
      let n = st.next (suc (l + d)) (omega arith) in
      subst (λ m. frame_end g l ≤ g.base (suc m)) e (omega (arith, n, r))

  -- a lower frame ends before a higher one begins
  pub below : (l m : ℕ) → l < m → m ≤ top → frame_end g l ≤ g.base m
  below l m lt le =
      let e : suc (l + (m - suc l)) ≡ m = omega arith in
      subst (λ n. frame_end g l ≤ g.base n) e (rises l (m - suc l) (omega arith))

  -- each frame ends within the words in use
  pub inside : (l : ℕ) → l ≤ top → frame_end g l ≤ end
  inside l le = by_order (order l top)
    where
      by_order : Order l top → frame_end g l ≤ end
      by_order (less h) = let b = below l top h (omega arith) in omega (arith, st.ends, b)
      by_order (same h) = subst (λ m. frame_end g m ≤ end) (sym h) (omega (arith, st.ends))
      by_order (greater h) = absurd (omega arith)

  -- a place lies between its frame's header and scratch words
  pub record Bounds (l p : ℕ) : Type 0 where
    pub low : g.base l + 8 ≤ spot g l p
    pub high : spot g l p + width_at g l p + 16 ≤ frame_end g l

  pub bounds : (l p : ℕ) → l ≤ top → p < place_count g l → Bounds l p
  bounds l p le lt =
      let k = st.plans l le in
      let a = k.above p lt in
      let b = k.below p lt in
      let r = k.room in
      let c = k.all in
      record { low = omega arith; high = omega arith }

  abbrev Apart : ℕ → ℕ → ℕ → ℕ → Type 0
  Apart l p m q = (spot g m q + width_at g m q ≤ spot g l p) ⊎ (spot g l p + width_at g l p ≤ spot g m q)

  -- two places share no word
  pub apart : (l p m q : ℕ) → l ≤ top → p < place_count g l → m ≤ top → q < place_count g m → (m ≡ l → q ≢ p) → Apart l p m q
  apart l p m q ll pp mm qq differ = by_order (order m l)
    where
      one : q < place_count g l → q ≢ p → Order q p → Apart l p l q
      one qq' ne (less h) = let a = (st.plans l ll).apart q p h pp in inl (omega arith)
      one qq' ne (same h) = absurd (ne h)
      one qq' ne (greater h) = let a = (st.plans l ll).apart p q h qq' in inr (omega arith)

      by_order : Order m l → Apart l p m q
      by_order (less h) =
          let b = below m l h ll in
          let x = (bounds m q mm qq).high in
          let y = (bounds l p ll pp).low in
          inl (omega arith)
      by_order (greater h) =
          let b = below l m h mm in
          let x = (bounds l p ll pp).high in
          let y = (bounds m q mm qq).low in
          inr (omega arith)
      by_order (same h) = subst (λ n. Apart l p n q) (sym h) (one (subst (λ n. q < place_count g n) h qq) (differ h) (order q p))

  abbrev ApartScratch : ℕ → ℕ → ℕ → Type 0
  ApartScratch l p m = (scratch_at g m + 16 ≤ spot g l p) ⊎ (spot g l p + width_at g l p ≤ scratch_at g m)

  -- a place shares no word with the scratch words of a frame
  pub apart_scratch : (l p m : ℕ) → l ≤ top → p < place_count g l → m ≤ top → ApartScratch l p m
  apart_scratch l p m ll pp mm = by_order (order m l)
    where
      by_order : Order m l → ApartScratch l p m
      by_order (less h) =
          let b = below m l h ll in
          let k = st.plans m mm in
          let r = k.room in
          let a = k.all in
          let y = (bounds l p ll pp).low in
          inl (omega arith)
      by_order (same h) = subst (ApartScratch l p) (sym h) (inr (let b = (st.plans l ll).below p pp in omega arith))
      by_order (greater h) =
          let b = below l m h mm in
          let x = (bounds l p ll pp).high in
          inr (omega arith)

-- Values that stay ---------------------------------------------------------

-- a value stays where its place's words do
pub stays : (g : FrameMap) (mem mem' : ℕ → ℕ) (l p : ℕ) (v : Option Value) → ((j : ℕ) → j < width_at g l p → mem' (spot g l p + j) ≡ mem (spot g l p + j)) → Holds g mem l p v → Holds g mem' l p v
stays g mem mem' l p None still h = tt
stays g mem mem' l p (Some v) still h = record {
  fits = h.fits;
  leads = h.leads;
  words = λ j lt. still j (let f = h.fits in omega arith) ∙ h.words j lt;
}

-- a struct that is built stays where the scratch words do
pub built_stays : {g : FrameMap} {mem mem' : ℕ → ℕ} (l : ℕ) (words : List ℕ) → ((j : ℕ) → j < 16 → mem' (scratch_at g l + j) ≡ mem (scratch_at g l + j)) → HasBuilt g mem l words → HasBuilt g mem' l words
built_stays l words still h = record {
  fits = h.fits;
  lie = λ j lt. still j (let f = h.fits in omega arith) ∙ h.lie j lt;
}

-- no words lie anywhere
pub built_none : {g : FrameMap} {mem : ℕ → ℕ} (l : ℕ) (words : List ℕ) → words ≡ [] → HasBuilt g mem l words
built_none {g = g} {mem = mem} l words none = subst (HasBuilt g mem l) (sym none) (record { fits = omega arith; lie = λ j lt. absurd (omega arith) })

module _ {g : FrameMap} {head : ℕ → ℕ → ℕ} {mem mem' : ℕ → ℕ} {end top : ℕ} {value : ℕ → ℕ → Option Value} {fresh : ℕ → List ℕ} (st : Stacked g head mem end top value fresh) where
  -- The write: one place of one frame takes a value, and nothing else changes.
  module _ (l p : ℕ) (v : Option Value) (ll : l ≤ top) (pp : p < place_count g l) (only : Only mem mem' (spot g l p) (width_at g l p)) (new : Holds g mem' l p v) where
    write_head : (m k : ℕ) → m ≤ top → k < 6 → Order m l → (g.base m + k < spot g l p) ⊎ (spot g l p + width_at g l p ≤ g.base m + k)
    write_head m k mm kk (less h) =
        let b = below st m l h ll in
        let c = st.plans m mm in
        let c1 = c.behind in
        let c2 = c.room in
        let c3 = c.all in
        let y = (bounds st l p ll pp).low in
        inl (omega arith)
    write_head m k mm kk (same h) =
        let y = (bounds st l p ll pp).low in
        let e : g.base m ≡ g.base l = ap g.base h in
        inl (omega arith)
    write_head m k mm kk (greater h) =
        let b = below st l m h mm in
        let y = (bounds st l p ll pp).high in
        inr (omega arith)

    write_other : (m q : ℕ) → m ≤ top → q < place_count g m → (m ≡ l → q ≢ p) → Holds g mem' m q (value m q)
    write_other m q mm qq ne = stays g mem mem' m q (value m q) (λ j lt. only (spot g m q + j) (far j lt (apart st l p m q ll pp mm qq ne))) (st.held m q mm qq)
      where
        far : (j : ℕ) → j < width_at g m q → (spot g m q + width_at g m q ≤ spot g l p) ⊎ (spot g l p + width_at g l p ≤ spot g m q) → (spot g m q + j < spot g l p) ⊎ (spot g l p + width_at g l p ≤ spot g m q + j)
        far j lt (inl x) = inl (omega arith)
        far j lt (inr x) = inr (omega arith)

    write_held : (m q : ℕ) → m ≤ top → q < place_count g m → Holds g mem' m q (with_value l p v value m q)
    write_held m q mm qq =
        by_same (λ (f : ℕ → Option Value). Holds g mem' m q (f q)) l m (put p v (value l)) (value m)
        (λ e. by_same (Holds g mem' m q) p q v (value l q)
        (λ e2. subst (λ n. Holds g mem' n q v) (sym e) (subst (λ n. Holds g mem' l n v) (sym e2) new))
        (λ ne. subst (λ n. Holds g mem' m q (value n q)) e (write_other m q mm qq (λ z. ne))))
        (λ ne. write_other m q mm qq (λ z. absurd (ne z)))

    write_built : (m j : ℕ) → j < 16 → (scratch_at g m + 16 ≤ spot g l p) ⊎ (spot g l p + width_at g l p ≤ scratch_at g m) → (scratch_at g m + j < spot g l p) ⊎ (spot g l p + width_at g l p ≤ scratch_at g m + j)
    write_built m j lt (inl x) = inl (omega arith)
    write_built m j lt (inr x) = inr (omega arith)

    pub write : Stacked g head mem' end top (with_value l p v value) fresh
    write = record {
      plans = st.plans;
      next = st.next;
      ends = st.ends;
      heads = λ m k mm kept. only (g.base m + k) (write_head m k mm kept.word (order m l)) ∙ st.heads m k mm kept;
      held = write_held;
      built = λ m mm. built_stays m (fresh m) (λ j lt. only (scratch_at g m + j) (write_built m j lt (apart_scratch st l p m ll pp mm))) (st.built m mm);
      clear = λ i le. only i (inr (let a = inside st l ll in let b = (bounds st l p ll pp).high in omega arith)) ∙ st.clear i le;
    }

  -- Words of the current frame that no value has change: the frames are the same.
  module _ (at many : ℕ) (is : IsFree g top at many) (none : fresh top ≡ []) (only : Only mem mem' at many) where
    own : IsPlan (g.plan top)
    own = st.plans top (omega arith)

    free_past : (i : ℕ) → end ≤ i → IsFree g top at many → (i < at) ⊎ (at + many ≤ i)
    free_past i le (inl (inl x)) = inr (let h = x.1 in let e = st.ends in omega arith)
    free_past i le (inl (inr x)) = inr (let a = x.0 in let b = x.1 in let e = st.ends in let c = own.behind in let d = own.room in let f = own.all in omega arith)
    free_past i le (inr x) = inr (let h = x.1 in let e = st.ends in let c = own.behind in let d = own.room in let f = own.all in omega arith)

    -- it begins behind the header of the frame
    free_low : IsFree g top at many → g.base top + 4 ≤ at
    free_low (inl (inl x)) = let a = x.0 in let c = own.behind in omega arith
    free_low (inl (inr x)) = let a = x.0 in omega arith
    free_low (inr x) = let a = x.0 in omega arith

    free_own : (k : ℕ) → k < 6 → k ≢ 4 → IsFree g top at many → Order k 4 → (g.base top + k < at) ⊎ (at + many ≤ g.base top + k)
    free_own k kk ne f (less q) = inl (let a = free_low f in omega arith)
    free_own k kk ne f (same q) = absurd (ne q)
    free_own k kk ne (inl (inl x)) (greater q) = inl (let a = x.0 in let c = own.behind in omega arith)
    free_own k kk ne (inl (inr x)) (greater q) = inr (let a = x.0 in let b = x.1 in omega arith)
    free_own k kk ne (inr x) (greater q) = inl (let a = x.0 in omega arith)

    free_head : (m k : ℕ) → m ≤ top → IsKept top m k → Order m top → (g.base m + k < at) ⊎ (at + many ≤ g.base m + k)
    free_head m k mm kept (less h) =
        let b = below st m top h (omega arith) in
        let c = st.plans m mm in
        let c1 = c.behind in
        let c2 = c.room in
        let c3 = c.all in
        let low = free_low is in
        let kk = kept.word in
        inl (omega arith)
    free_head m k mm kept (same h) = subst (λ n. (g.base n + k < at) ⊎ (at + many ≤ g.base n + k)) (sym h) (free_own k kept.word (kept.instr h) is (order k 4))
    free_head m k mm kept (greater h) = absurd (omega arith)

    free_place : (q j : ℕ) → q < place_count g top → j < width_at g top q → IsFree g top at many → (spot g top q + j < at) ⊎ (at + many ≤ spot g top q + j)
    free_place q j qq lt (inl (inl x)) = inl (let a = x.0 in let b = own.below q qq in omega arith)
    free_place q j qq lt (inl (inr x)) = inr (let a = x.0 in let c = x.1 in let b = own.above q qq in omega arith)
    free_place q j qq lt (inr x) = inr (let c = x.1 in let b = own.above q qq in omega arith)

    free_far : (m q j : ℕ) → m ≤ top → q < place_count g m → j < width_at g m q → Order m top → (spot g m q + j < at) ⊎ (at + many ≤ spot g m q + j)
    free_far m q j mm qq lt (less h) =
        let b = below st m top h (omega arith) in
        let x = (bounds st m q mm qq).high in
        let low = free_low is in
        inl (omega arith)
    free_far m q j mm qq lt (same h) =
        subst (λ n. (spot g n q + j < at) ⊎ (at + many ≤ spot g n q + j)) (sym h)
        (free_place q j (subst (λ n. q < place_count g n) h qq) (subst (λ n. j < width_at g n q) h lt) is)
    free_far m q j mm qq lt (greater h) = absurd (omega arith)

    free_built : (m : ℕ) → m ≤ top → Order m top → HasBuilt g mem' m (fresh m)
    free_built m mm (less h) =
        let b = below st m top h (omega arith) in
        let k = st.plans m mm in
        let r = k.room in
        let a = k.all in
        let low = free_low is in
        built_stays m (fresh m) (λ j lt. only (scratch_at g m + j) (inl (omega arith))) (st.built m mm)
    free_built m mm (same h) = built_none m (fresh m) (ap fresh h ∙ none)
    free_built m mm (greater h) = absurd (omega arith)

    pub free : Stacked g head mem' end top value fresh
    free = record {
      plans = st.plans;
      next = st.next;
      ends = st.ends;
      heads = λ m k mm kept. only (g.base m + k) (free_head m k mm kept (order m top)) ∙ st.heads m k mm kept;
      held = λ m q mm qq. stays g mem mem' m q (value m q) (λ j lt. only (spot g m q + j) (free_far m q j mm qq lt (order m top))) (st.held m q mm qq);
      built = λ m mm. free_built m mm (order m top);
      clear = λ i le. only i (free_past i le is) ∙ st.clear i le;
    }

keeps_or_drops : (g : FrameMap) (mem : ℕ → ℕ) (l p : ℕ) (old new : Option Value) → (new ≡ old) ⊎ (new ≡ None) → Holds g mem l p old → Holds g mem l p new
keeps_or_drops g mem l p old new (inl e) holds = subst (Holds g mem l p) (sym e) holds
keeps_or_drops g mem l p old new (inr e) holds = subst (Holds g mem l p) (sym e) tt

-- the same values, said in another way; some may be forgotten
pub reframe : {g : FrameMap} {head : ℕ → ℕ → ℕ} {mem : ℕ → ℕ} {end top : ℕ} {value : ℕ → ℕ → Option Value} {fresh : ℕ → List ℕ} → Stacked g head mem end top value fresh →
    (other : ℕ → ℕ → Option Value) → ((l p : ℕ) → l ≤ top → (other l p ≡ value l p) ⊎ (other l p ≡ None)) → Stacked g head mem end top other fresh
reframe {g = g} {mem = mem} {value = value} st other is = record {
  plans = st.plans;
  next = st.next;
  ends = st.ends;
  heads = st.heads;
  held = λ l p le pp. keeps_or_drops g mem l p (value l p) (other l p) (is l p le) (st.held l p le pp);
  built = st.built;
  clear = st.clear;
}

-- the same header words, said in another way
pub rehead : {g : FrameMap} {head : ℕ → ℕ → ℕ} {mem : ℕ → ℕ} {end top : ℕ} {value : ℕ → ℕ → Option Value} {fresh : ℕ → List ℕ} → Stacked g head mem end top value fresh →
    (other : ℕ → ℕ → ℕ) → ((l k : ℕ) → l ≤ top → IsKept top l k → other l k ≡ head l k) → Stacked g other mem end top value fresh
rehead st other is = record {
  plans = st.plans;
  next = st.next;
  ends = st.ends;
  heads = λ l k le kept. st.heads l k le kept ∙ sym (is l k le kept);
  held = st.held;
  built = st.built;
  clear = st.clear;
}

-- The return: the current frame goes, and its words with it.
pub leave : {g : FrameMap} {head : ℕ → ℕ → ℕ} {mem mem' : ℕ → ℕ} {end t : ℕ} {value : ℕ → ℕ → Option Value} {fresh : ℕ → List ℕ} → Stacked g head mem end (suc t) value fresh →
    ((i : ℕ) → i < g.base (suc t) → mem' i ≡ mem i) → ((i : ℕ) → g.base (suc t) ≤ i → mem' i ≡ 0) → Stacked g head mem' (g.base (suc t)) t value fresh
leave {g = g} {head = head} {mem = mem} {mem' = mem'} {t = t} {value = value} {fresh = fresh} st kept gone = record {
  plans = λ l le. st.plans l (omega arith);
  next = λ l lt. st.next l (omega arith);
  ends = st.next t (omega arith);
  heads = λ l k le is.
      kept (g.base l + k)
      (let b = below st l (suc t) (omega arith) (omega arith) in
      let c = st.plans l (omega arith) in
      let c1 = c.behind in
      let c2 = c.room in
      let c3 = c.all in
      let kk = is.word in
      omega arith)
      ∙ st.heads l k (omega arith) (record { word = is.word; instr = λ e. absurd (omega arith) });
  held = λ l p le pp.
      stays g mem mem' l p (value l p)
      (λ j lt. kept (spot g l p + j)
      (let b = below st l (suc t) (omega arith) (omega arith) in
      let c = (bounds st l p (omega arith) pp).high in
      omega arith))
      (st.held l p (omega arith) pp);
  built = λ l le.
      built_stays l (fresh l)
      (λ j lt. kept (scratch_at g l + j)
      (let b = below st l (suc t) (omega arith) (omega arith) in
      let c = st.plans l (omega arith) in
      let c2 = c.room in
      let c3 = c.all in
      omega arith))
      (st.built l (omega arith));
  clear = gone;
}
