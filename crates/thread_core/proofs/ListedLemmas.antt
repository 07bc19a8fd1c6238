-- A claim that found 0 is put into the words, and listed.
use Rattle.std.proofs.Common.{◌≡◌, ◌≢◌, ℕ, zero, suc, ◌+◌, ◌==◌, ◌<◌, ◌≤◌, Bool, true, false, if◌then◌else◌, List, [], ◌∷◌, ◌++◌, length, map, slice_index, slice_set, get_or, refl, sym, ap, ◌∙◌, subst, arith, eq-eqb, eqb-true, length-set, length-append}
use Rattle.std.proofs.lemmas.List.{get_or-set_same, get_or-set_other}
use Rattle.rgctx_words.specs.Regions.{word_count}
use Rattle.thread_core.specs.Listed.{Listed, ArePut, used_in, IsListed, claim_at, claims_of, is_claimed, unclaimed, MayPut, with_put}

-- ---- tests

differs : (m n : ℕ) → m ≢ n → (m == n) ≡ false
differs m n ne = by (m == n) refl
  where
    by : (b : Bool) → (m == n) ≡ b → b ≡ false
    by true e = absurd (ne (eqb-true m n e))
    by false e = refl

-- a word that is read among the words
pub inside_any : (ws : List ℕ) (i d e : ℕ) → i < length ws → get_or ws i d ≡ get_or ws i e
inside_any [] i d e inside = absurd (omega (arith, inside))
inside_any (x ∷ xs) zero d e inside = refl
inside_any (x ∷ xs) (suc i) d e inside = let low : i < length xs = omega (arith, inside) in inside_any xs i d e low

pub free-word : (ws : List ℕ) (i old : ℕ) → i < length ws → old ≡ get_or ws i old → old ≡ 0 → slice_index ws i ≡ 0
free-word ws i old inside is free = inside_any ws i 0 old inside ∙ sym is ∙ free

-- ---- how many words are used

by_word : (b : Bool) (m n : ℕ) → n ≡ suc m → (if b then n else suc n) ≡ suc (if b then m else suc m)
by_word true m n e = e
by_word false m n e = ap suc e

pub used-set : (ws : List ℕ) (i w : ℕ) → i < length ws → slice_index ws i ≡ 0 → w ≢ 0 → used_in (slice_set ws i w) ≡ suc (used_in ws)
used-set [] i w inside free used = absurd (omega (arith, inside))
used-set (x ∷ xs) zero w inside free used =
    ap (λ b. if b then used_in xs else suc (used_in xs)) (differs w 0 used)
    ∙ ap (λ b. suc (if b then used_in xs else suc (used_in xs))) (sym (eq-eqb x 0 free))
used-set (x ∷ xs) (suc i) w inside free used =
    let low : i < length xs = omega (arith, inside) in
    by_word (x == 0) (used_in xs) (used_in (slice_set xs i w)) (used-set xs i w low free used)

-- a word more is used, or not
one_more : (b : Bool) (used count : ℕ) → used ≤ count → (if b then used else suc used) ≤ suc count
one_more true used count e = omega (arith, e)
one_more false used count e = omega (arith, e)

one_below : (b : Bool) (used count : ℕ) → used < count → (if b then used else suc used) < suc count
one_below true used count e = omega (arith, e)
one_below false used count e = omega (arith, e)

at_most : (ws : List ℕ) → used_in ws ≤ length ws
at_most [] = omega arith
at_most (x ∷ xs) = one_more (x == 0) (used_in xs) (length xs) (at_most xs)

pub used-room : (ws : List ℕ) (i : ℕ) → i < length ws → slice_index ws i ≡ 0 → used_in ws < length ws
used-room [] i inside free = absurd (omega (arith, inside))
used-room (x ∷ xs) zero inside free =
    let e : used_in (x ∷ xs) ≡ used_in xs = ap (λ b. if b then used_in xs else suc (used_in xs)) (eq-eqb x 0 free) in
    let m = at_most xs in
    omega (arith, e, m)
used-room (x ∷ xs) (suc i) inside free = let low : i < length xs = omega (arith, inside) in one_below (x == 0) (used_in xs) (length xs) (used-room xs i low free)

-- ---- what was claimed

-- an index without a word was not claimed
free_other : (words is : List ℕ) (i : ℕ) → ArePut words is → slice_index words i ≡ 0 → is_claimed is i ≡ false
free_other words [] i put free = refl
free_other words (j ∷ js) i put free =
    let ne : (i == j) ≡ false = differs i j (λ e. put.0 (ap (slice_index words) (sym e) ∙ free)) in
    ap (λ b. if b then true else is_claimed js i) ne ∙ free_other words js i put.1 free

module _ (words : List ℕ) (i w : ℕ) (inside : i < length words) (free : slice_index words i ≡ 0) (used : w ≢ 0) where
  same : slice_index (slice_set words i w) i ≡ w
  same = get_or-set_same words i w 0 inside

  other : (j : ℕ) → j ≢ i → slice_index (slice_set words i w) j ≡ slice_index words j
  other j ne = get_or-set_other words i j w 0 ne

  -- where words stood they stand
  stays : (j : ℕ) → slice_index words j ≢ 0 → slice_index (slice_set words i w) j ≡ slice_index words j
  stays j stood = other j (λ e. stood (ap (slice_index words) e ∙ free))

  put_more : (is : List ℕ) → ArePut words is → ArePut (slice_set words i w) (is ++ i ∷ [])
  put_more [] put = (λ z. used (sym same ∙ z), tt)
  put_more (j ∷ js) put = (λ z. put.0 (sym (stays j put.0) ∙ z), put_more js put.1)

  claims_more : (is : List ℕ) → ArePut words is → map (claim_at (slice_set words i w)) (is ++ i ∷ []) ≡ map (claim_at words) is ++ (i, w) ∷ []
  claims_more [] put = ap (λ v. (i, v) ∷ []) same
  claims_more (j ∷ js) put =
      ap (λ v. (j, v) ∷ map (claim_at (slice_set words i w)) (js ++ i ∷ [])) (stays j put.0)
      ∙ ap (λ l. claim_at words j ∷ l) (claims_more js put.1)

  claimed_more : (is : List ℕ) (j : ℕ) → is_claimed (is ++ i ∷ []) j ≡ (if j == i then true else is_claimed is j)
  claimed_more [] j = refl
  claimed_more (k ∷ ks) j = ap (λ b. if j == k then true else b) (claimed_more ks j) ∙ swap (j == k) (j == i) (is_claimed ks j)
    where
      swap : (a b c : Bool) → (if a then true else (if b then true else c)) ≡ (if b then true else (if a then true else c))
      swap true true c = refl
      swap true false c = refl
      swap false true c = refl
      swap false false c = refl

  place_at : (is : List ℕ) → ArePut words is → (j : ℕ) → (if is_claimed (is ++ i ∷ []) j then 0 else slice_index (slice_set words i w) j) ≡ (if is_claimed is j then 0 else slice_index words j)
  place_at is put j =
      ap (λ b. if b then 0 else slice_index (slice_set words i w) j) (claimed_more is j) ∙ by (j == i) refl
    where
      by : (b : Bool) → (j == i) ≡ b → (if (if b then true else is_claimed is j) then 0 else slice_index (slice_set words i w) j) ≡ (if is_claimed is j then 0 else slice_index words j)
      by true e =
          let here : j ≡ i = eqb-true j i e in
          let zero_there : slice_index words j ≡ 0 = ap (slice_index words) here ∙ free in
          sym (ap (λ b. if b then 0 else slice_index words j) (free_other words is j put zero_there) ∙ zero_there)
      by false e =
          let ne : j ≢ i = λ h. let t : (j == i) ≡ true = eq-eqb j i h in cc (sym t ∙ e) in
          ap (λ v. if is_claimed is j then 0 else v) (other j ne)

module _ (l : Listed) (i w : ℕ) (is : IsListed l) (may : MayPut l i w) where
  inside : i < length l.words
  inside = let low : i < word_count = may.inside in let e : length l.words ≡ word_count = is.count in subst (λ n. i < n) (sym e) low

  pub listed-put : IsListed (with_put l i w)
  listed-put = record {
    count = length-set l.words i w ∙ is.count;
    few = (let e : used_in (slice_set l.words i w) ≡ suc (used_in l.words) = used-set l.words i w inside may.free may.used in let f : length (l.claimed ++ i ∷ []) ≡ length l.claimed + 1 = length-append l.claimed (i ∷ []) in let few = is.few in omega (arith, e, f, few));
    put = put_more l.words i w inside may.free may.used l.claimed is.put;
  }

  -- there is room for one more
  pub listed-room : length l.claimed < word_count
  listed-room =
      let few = is.few in
      let room : used_in l.words < length l.words = used-room l.words i inside may.free in
      let e : length l.words ≡ word_count = is.count in
      let r : used_in l.words < word_count = subst (λ n. used_in l.words < n) e room in
      omega (arith, few, r)

  pub claims-put : claims_of (with_put l i w) ≡ claims_of l ++ (i, w) ∷ []
  claims-put = claims_more l.words i w inside may.free may.used l.claimed is.put

  pub place-put : unclaimed (with_put l i w) ≡ unclaimed l
  place-put = λ p j. place_at l.words i w inside may.free may.used l.claimed is.put j p
