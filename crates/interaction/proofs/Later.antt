-- Known words only grow, and what was done under them is done under any later ones.
use Rattle.std.proofs.Common.{◌≡◌, ◌≢◌, ℕ, zero, suc, List, [], ◌∷◌, ◌++◌, refl, sym, ap, ◌∙◌, subst, ◌⊎◌, inl, inr, ⊎_elim, append_assoc}
use Rattle.interaction.specs.Thread.{Want, Turn, MayLoad, MayClaim, MayFind, Makes, Turns, request_of, requests_in}
use Rattle.interaction.specs.Thread as thread
use Rattle.interaction.specs.LooseRun.{Told}
use Rattle.interaction.specs.RunLaws.{Grows}

pub grows_self : (w : ℕ → ℕ) → Grows w w
grows_self w i h = refl

pub grows_then : {u v w : ℕ → ℕ} → Grows u v → Grows v w → Grows u w
grows_then g h i nz = let e = g i nz in h i (λ z. nz (sym e ∙ z)) ∙ e

later_load : {w v : ℕ → ℕ} → Grows w v → (i a : ℕ) → MayLoad w i a → MayLoad v i a
later_load g i a (inl z) = inl z
later_load {w = w} {v = v} g i a (inr z) = by_word (w i) refl
  where
    by_word : (n : ℕ) → w i ≡ n → MayLoad v i a
    by_word zero e = inl (z ∙ e)
    by_word (suc n) e = inr (z ∙ sym (g i (λ q. cc (q, e))))

later_claim : {w v : ℕ → ℕ} → Grows w v → (i put a : ℕ) → MayClaim w i put a → MayClaim v i put a
later_claim {w = w} {v = v} g i put a h = (h.0, find h.1)
  where
    find : MayFind w i put a → MayFind v i put a
    find (inl z) = inl (z.0, z.1 ∙ sym (g i (λ q. h.0 (z.1 ∙ q))))
    find (inr z) = inr (z.0, z.1 ∙ sym (g i (λ q. z.0 (z.1 ∙ q))))

-- a turn that was made under these words is one under any later words
pub later_made : {R Y S : Type 0} {w v : ℕ → ℕ} {s : S} → Grows w v → {x : Want R Y S} {turn : Turn R Y} {t : S} → Makes w s x turn t → Makes v s x turn t
later_made g thread.goes = thread.goes
later_made g (thread.loads {i = i} {v = a} h) = thread.loads (later_load g i a h)
later_made g (thread.claims {i = i} {put = put} {v = a} h) = thread.claims (later_claim g i put a h)
later_made g thread.asks = thread.asks
later_made g (thread.tries {i = i} {v = a} h) = thread.tries (later_load g i a h)
later_made {w = w} {v = v} {s = s} g (thread.reads {i = i} {k = k} {turn = turn} {t = t} nz m) =
    let same = g i nz in
    thread.reads (λ z. nz (sym same ∙ z)) (subst (λ n. Makes v s (k n) turn t) (sym same) (later_made g m))

-- and so are the turns of a thread
pub later_turns : {R Y S : Type 0} {want : S → Want R Y S} {w v : ℕ → ℕ} → Grows w v → {s : S} {ts : List (Turn R Y)} {t : S} → Turns want w s ts t → Turns want v s ts t
later_turns g thread.none = thread.none
later_turns g (thread.more m rest) = thread.more (later_made g m) (later_turns g rest)

-- one turn more
pub turns_snoc : {R Y S : Type 0} {want : S → Want R Y S} {w : ℕ → ℕ} {s : S} {ts : List (Turn R Y)} {t : S} {turn : Turn R Y} {u : S} → Turns want w s ts t → Makes w t (want t) turn u → Turns want w s (ts ++ turn ∷ []) u
turns_snoc thread.none m = thread.more m thread.none
turns_snoc (thread.more n rest) m = thread.more n (turns_snoc rest m)

pub requests-append : {R Y : Type 0} (ts us : List (Turn R Y)) → requests_in (ts ++ us) ≡ requests_in ts ++ requests_in us
requests-append [] us = refl
requests-append (t ∷ ts) us = ap (λ l. request_of t ++ l) (requests-append ts us) ∙ sym (append_assoc (request_of t) (requests_in ts) (requests_in us))

made_tells : {R Y S : Type 0} {w : ℕ → ℕ} {s : S} {x : Want R Y S} {turn : Turn R Y} {t : S} → Makes w s x turn t → (ts : List (Turn R Y)) (i : ℕ) → Told (turn ∷ ts) i → (w i ≢ 0) ⊎ Told ts i
made_tells thread.goes ts i told = inr told
made_tells thread.asks ts i told = inr told
made_tells {w = w} (thread.loads h) ts i told = ⊎_elim (λ l. inl (by_load h l)) (λ r. inr r) told
  where
    by_load : {j v : ℕ} → MayLoad w j v → (j ≡ i) × (v ≢ 0) → w i ≢ 0
    by_load (inl z) l e = l.1 z
    by_load (inr z) l e = l.1 (z ∙ ap w l.0 ∙ e)
made_tells {w = w} (thread.tries h) ts i told = ⊎_elim (λ l. inl (by_load h l)) (λ r. inr r) told
  where
    by_load : {j v : ℕ} → MayLoad w j v → (j ≡ i) × (v ≢ 0) → w i ≢ 0
    by_load (inl z) l e = l.1 z
    by_load (inr z) l e = l.1 (z ∙ ap w l.0 ∙ e)
made_tells {w = w} (thread.claims h) ts i told = ⊎_elim (λ l. inl (by_claim h l)) (λ r. inr r) told
  where
    by_claim : {j put v : ℕ} → MayClaim w j put v → j ≡ i → w i ≢ 0
    by_claim (set, inl z) l e = set (z.1 ∙ ap w l ∙ e)
    by_claim (set, inr z) l e = z.0 (z.1 ∙ ap w l ∙ e)
made_tells (thread.reads nz h) ts i told = made_tells h ts i told

-- what a thread's turns put or were told stands
pub told_stands : {R Y S : Type 0} {want : S → Want R Y S} {w : ℕ → ℕ} {s : S} {ts : List (Turn R Y)} {t : S} → Turns want w s ts t → (i : ℕ) → Told ts i → w i ≢ 0
told_stands thread.none i told = absurd told
told_stands (thread.more {turns = ts} h rest) i told = ⊎_elim (λ l. l) (λ r. told_stands rest i r) (made_tells h ts i told)
