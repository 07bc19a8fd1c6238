-- The frames after a call: a new frame on top, with zeros in its places.
use Rattle.std.proofs.Common.{◌≡◌, ◌≢◌, ℕ, suc, ◌+◌, ◌<◌, ◌≤◌, List, [], Option, Some, None, length, slice_index, refl, sym, ap, ◌∙◌, subst, arith}
use Rattle.rgctx_words.specs.Memory.{put}
use Rattle.rgctx_words.specs.Frames.{frame_address}
use Rattle.cil_flow.specs.declared.plan.Plan.{Plan}
use Rattle.cil_flow.specs.FramePlans.{IsPlan}
use Rattle.cil_meaning.specs.Values.{Pointer, Null, InFrame, InFresh, InObject, InStatic, Value, Plain, Managed}
use Rattle.rgctx_fill.specs.FrameMaps.{FrameMap, place_count, width_at, spot, frame_end, scratch_at, pointer_word, word_in, PointsDown, Leads, Lies, Holds, HasBuilt, IsKept, Stacked, Agree, Entered, IsBlank}
use Rattle.rgctx_fill.proofs.FrameLemmas.{by_same, Order, less, same, greater, order, inside, bounds, built_none}

-- What is said by maps that agree ------------------------------------------

module _ {g h : FrameMap} {top : ℕ} (a : Agree g h top) where
  offset_same : (l p : ℕ) → l ≤ top → slice_index (h.plan l).offsets p ≡ slice_index (g.plan l).offsets p
  offset_same l p le = ap (λ (k : Plan). slice_index k.offsets p) (a.plan l le)

  width_same : (l p : ℕ) → l ≤ top → width_at h l p ≡ width_at g l p
  width_same l p le = ap (λ (k : Plan). slice_index k.widths p) (a.plan l le)

  count_same : (l : ℕ) → l ≤ top → place_count h l ≡ place_count g l
  count_same l le = ap (λ (k : Plan). length k.offsets) (a.plan l le)

  pub spot_same : (l p : ℕ) → l ≤ top → spot h l p ≡ spot g l p
  spot_same l p le = let b = a.base l le in let o = offset_same l p le in omega arith

  pub scratch_same : (l : ℕ) → l ≤ top → scratch_at h l ≡ scratch_at g l
  scratch_same l le = let b = a.base l le in let s = ap (λ (k : Plan). k.scratch) (a.plan l le) in omega arith

  pointer_same : (l : ℕ) (q : Pointer) → l ≤ top → PointsDown g l q → pointer_word h q ≡ pointer_word g q
  pointer_same l Null le down = refl
  pointer_same l (InFrame m p k) le down = ap (λ i. frame_address (i + k)) (spot_same m p (let x = down.0 in omega arith))
  pointer_same l (InFresh m k) le down = ap (λ i. frame_address (i + k)) (scratch_same m (let x = down.0 in omega arith))
  pointer_same l (InObject object index) le down = refl
  pointer_same l (InStatic kind index) le down = refl

  down_same : (l : ℕ) (q : Pointer) → l ≤ top → PointsDown g l q → PointsDown h l q
  down_same l Null le down = tt
  down_same l (InFrame m p k) le down =
      let x = down.0 in
      let y = down.1 in
      let z = down.2 in
      let c = count_same m (omega arith) in
      let w = width_same m p (omega arith) in
      (down.0, omega arith, omega arith)
  down_same l (InFresh m k) le down = down
  down_same l (InObject object index) le down = tt
  down_same l (InStatic kind index) le down = tt

  word_same : (l : ℕ) (v : Value) (j : ℕ) → l ≤ top → Leads g l v → word_in h v j ≡ word_in g v j
  word_same l (Plain kind words) j le leads = refl
  word_same l (Managed q) j le leads = pointer_same l q le leads

  leads_same : (l : ℕ) (v : Value) → l ≤ top → Leads g l v → Leads h l v
  leads_same l (Plain kind words) le leads = tt
  leads_same l (Managed q) le leads = down_same l q le leads

  module _ (mem mem' : ℕ → ℕ) where
    -- a value that stays, under the other map
    holds_over : (l p : ℕ) (v : Option Value) → l ≤ top → ((j : ℕ) → j < width_at g l p → mem' (spot g l p + j) ≡ mem (spot g l p + j)) → Holds g mem l p v → Holds h mem' l p v
    holds_over l p None le still holds = tt
    holds_over l p (Some v) le still holds = record {
      fits = let f = holds.fits in let w = width_same l p le in omega arith;
      leads = leads_same l v le holds.leads;
      words = λ j lt.
          ap (λ i. mem' (i + j)) (spot_same l p le)
          ∙ still j (let f = holds.fits in omega arith)
          ∙ holds.words j lt
          ∙ sym (word_same l v j le holds.leads);
    }

    built_over : (l : ℕ) (words : List ℕ) → l ≤ top → ((j : ℕ) → j < 16 → mem' (scratch_at g l + j) ≡ mem (scratch_at g l + j)) → HasBuilt g mem l words → HasBuilt h mem' l words
    built_over l words le still built = record {
      fits = built.fits;
      lie = λ j lt. ap (λ i. mem' (i + j)) (scratch_same l le) ∙ still j (let f = built.fits in omega arith) ∙ built.lie j lt;
    }

-- the same frames under another map, which agrees up to the current one
pub remap : {g h : FrameMap} {head : ℕ → ℕ → ℕ} {mem : ℕ → ℕ} {end top : ℕ} {value : ℕ → ℕ → Option Value} {fresh : ℕ → List ℕ} → Agree g h top → Stacked g head mem end top value fresh → Stacked h head mem end top value fresh
remap {g = g} {h = h} {mem = mem} {top = top} {value = value} {fresh = fresh} a st = record {
  plans = λ l le. subst IsPlan (sym (a.plan l le)) (st.plans l le);
  next = λ l lt.
      let x = a.base l (omega arith) in
      let y = a.base (suc l) (omega arith) in
      let z = st.next l lt in
      let f = ap (λ (k : Plan). k.frame) (a.plan l (omega arith)) in
      omega arith;
  ends = let x = a.base top (omega arith) in let z = st.ends in let f = ap (λ (k : Plan). k.frame) (a.plan top (omega arith)) in omega arith;
  heads = λ l k le kept. ap (λ b. mem (b + k)) (a.base l le) ∙ st.heads l k le kept;
  held = λ l p le pp. holds_over a mem mem l p (value l p) le (λ j lt. refl) (st.held l p le (let c = count_same a l le in omega arith));
  built = λ l le. built_over a mem mem l (fresh l) le (λ j lt. refl) (st.built l le);
  clear = st.clear;
}

-- The call -----------------------------------------------------------------

module _ {g h : FrameMap} {head head' : ℕ → ℕ → ℕ} {mem mem' : ℕ → ℕ} {end end' top : ℕ} {value : ℕ → ℕ → Option Value} {fresh : ℕ → List ℕ}
    (st : Stacked g head mem end top value fresh) (four : mem (g.base top + 4) ≡ head top 4) (places : ℕ → Option Value)
    (en : Entered g h head head' mem mem' end end' top)
    (blank : (p : ℕ) → p < place_count h (suc top) → IsBlank (width_at h (suc top) p) (places p)) where
  lower : (l : ℕ) → l ≤ suc top → l ≢ suc top → l ≤ top
  lower l le ne = by_order (order l (suc top))
    where
      by_order : Order l (suc top) → l ≤ top
      by_order (less x) = omega arith
      by_order (same x) = absurd (ne x)
      by_order (greater x) = absurd (omega arith)

  enter_plans : (l : ℕ) → Order l (suc top) → l ≤ suc top → IsPlan (h.plan l)
  enter_plans l (less x) le = subst IsPlan (sym (en.agree.plan l (omega arith))) (st.plans l (omega arith))
  enter_plans l (same x) le = subst (λ n. IsPlan (h.plan n)) (sym x) en.legal
  enter_plans l (greater x) le = absurd (omega arith)

  frame_same : (l : ℕ) → l ≤ top → (h.plan l).frame ≡ (g.plan l).frame
  frame_same l le = ap (λ (k : Plan). k.frame) (en.agree.plan l le)

  enter_next : (l : ℕ) → Order l top → l < suc top → h.base (suc l) ≡ frame_end h l
  enter_next l (less x) lt =
      let a = en.agree.base l (omega arith) in
      let b = en.agree.base (suc l) (omega arith) in
      let c = st.next l x in
      let d = frame_same l (omega arith) in
      omega arith
  enter_next l (same x) lt =
      let a = en.agree.base top (omega arith) in
      let d = frame_same top (omega arith) in
      let e = en.base in
      let f = st.ends in
      subst (λ n. h.base (suc n) ≡ frame_end h n) (sym x) (omega arith)
  enter_next l (greater x) lt = absurd (omega arith)

  was : (l k : ℕ) → l ≤ top → k < 6 → Order l top → Order k 4 → mem (g.base l + k) ≡ head l k
  was l k le kk (less q) o = st.heads l k le (record { word = kk; instr = λ e. absurd (omega arith) })
  was l k le kk (greater q) o = absurd (omega arith)
  was l k le kk (same q) (same e) = subst (λ n. mem (g.base n + k) ≡ head n k) (sym q) (subst (λ n. mem (g.base top + n) ≡ head top n) (sym e) four)
  was l k le kk (same q) (less e) = st.heads l k le (record { word = kk; instr = λ z y. omega arith })
  was l k le kk (same q) (greater e) = st.heads l k le (record { word = kk; instr = λ z y. omega arith })

  enter_heads : (l k : ℕ) → l ≤ suc top → IsKept (suc top) l k → Order l (suc top) → mem' (h.base l + k) ≡ head' l k
  enter_heads l k le kept (same x) = subst (λ n. mem' (h.base n + k) ≡ head' n k) (sym x) (ap (λ b. mem' (b + k)) en.base ∙ en.header k kept.word)
  enter_heads l k le kept (greater x) = absurd (omega arith)
  enter_heads l k le kept (less x) =
      let low : l ≤ top = omega arith in
      let i = inside st l low in
      let c = st.plans l low in
      let c1 = c.behind in
      let c2 = c.room in
      let c3 = c.all in
      let kk = kept.word in
      let lt : g.base l + k < end = omega arith in
      ap (λ b. mem' (b + k)) (en.agree.base l low) ∙ en.kept (g.base l + k) lt ∙ was l k low kk (order l top) (order k 4) ∙ sym (en.same l k low)

  enter_old : (l p : ℕ) → l ≤ top → p < place_count h l → Holds h mem' l p (value l p)
  enter_old l p le pp =
      let c = count_same en.agree l le in
      let pp' : p < place_count g l = omega arith in
      let i = inside st l le in
      let b = (bounds st l p le pp').high in
      holds_over en.agree mem mem' l p (value l p) le (λ j lt. en.kept (spot g l p + j) (omega arith)) (st.held l p le pp')

  zeros : (p : ℕ) → p < place_count h (suc top) → (j : ℕ) → mem' (spot h (suc top) p + j) ≡ 0
  zeros p pp j = en.zero (spot h (suc top) p + j) (let a = en.legal.above p pp in let c = en.base in omega arith)

  enter_new : (p : ℕ) → p < place_count h (suc top) → (v : Option Value) → IsBlank (width_at h (suc top) p) v → Holds h mem' (suc top) p v
  enter_new p pp None b = tt
  enter_new p pp (Some (Plain kind words)) b = record { fits = b.0; leads = tt; words = λ j lt. zeros p pp j ∙ sym (b.1 j lt) }
  enter_new p pp (Some (Managed q)) b = subst (λ r. Lies h mem' (suc top) p (Managed r)) (sym b.1) (record { fits = b.0; leads = tt; words = λ j lt. zeros p pp j })

  enter_built : (l : ℕ) → l ≤ top → HasBuilt h mem' l (fresh l)
  enter_built l le =
      let i = inside st l le in
      let k = st.plans l le in
      let r = k.room in
      let a = k.all in
      built_over en.agree mem mem' l (fresh l) le (λ j lt. en.kept (scratch_at g l + j) (omega arith)) (st.built l le)

  pub enter : Stacked h head' mem' end' (suc top) (put (suc top) places value) (put (suc top) [] fresh)
  enter = record {
    plans = λ l le. enter_plans l (order l (suc top)) le;
    next = λ l lt. enter_next l (order l top) lt;
    ends = let a = en.base in let b = en.size in omega arith;
    heads = λ l k le kept. enter_heads l k le kept (order l (suc top));
    held = λ l p le pp.
        by_same (λ (f : ℕ → Option Value). Holds h mem' l p (f p)) (suc top) l places (value l)
        (λ e. subst (λ n. Holds h mem' n p (places p)) (sym e) (let pp' = subst (λ n. p < place_count h n) e pp in enter_new p pp' (places p) (blank p pp')))
        (λ ne. enter_old l p (lower l le ne) pp);
    built = λ l le.
        by_same (HasBuilt h mem' l) (suc top) l [] (fresh l)
        (λ e. built_none l [] refl)
        (λ ne. enter_built l (lower l le ne));
    clear = λ i le.
        en.zero i
        (let a = en.size in
        let b = en.legal.behind in
        let c = en.legal.room in
        let d = en.legal.all in
        omega arith);
  }
