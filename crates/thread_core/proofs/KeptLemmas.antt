-- What the listed claims tell of the words.
use Rattle.std.proofs.Common.{◌≡◌, ℕ, suc, ◌==◌, Bool, true, false, if◌then◌else◌, List, [], ◌∷◌, ◌++◌, length, map, slice_index, refl, sym, ap, ◌∙◌, arith, eqb-true}
use Rattle.thread_core.specs.Listed.{Listed, IsListed, claim_at, claims_of, is_claimed, unclaimed, MayPut, with_put}
use Rattle.thread_core.proofs.ListedLemmas.{listed-put, claims-put, place-put}

-- lists of one length with the same words
pub same-words : (ws vs : List ℕ) → length ws ≡ length vs → ((j : ℕ) → slice_index ws j ≡ slice_index vs j) → ws ≡ vs
same-words [] [] count each = refl
same-words [] (v ∷ vs) count each = absurd (cc count)
same-words (w ∷ ws) [] count each = absurd (cc count)
same-words (w ∷ ws) (v ∷ vs) count each =
    let rest : length ws ≡ length vs = omega (arith, count) in
    let more : ws ≡ vs = same-words ws vs rest (λ j. each (suc j)) in
    ap (λ x. x ∷ ws) (each 0) ∙ ap (λ l. v ∷ l) more

-- the indexes of claims
abbrev index_of : ℕ × ℕ → ℕ
index_of c = c.0

indexes : (words is : List ℕ) → map index_of (map (claim_at words) is) ≡ is
indexes words [] = refl
indexes words (i ∷ is) = ap (λ l. i ∷ l) (indexes words is)

abbrev first_claim : List (ℕ × ℕ) → ℕ → ℕ
first_claim [] j = 0
first_claim (c ∷ cs) j = if j == c.0 then c.1 else first_claim cs j

-- a claimed word is the claim's
claimed_word : (words is : List ℕ) (j : ℕ) → is_claimed is j ≡ true → slice_index words j ≡ first_claim (map (claim_at words) is) j
claimed_word words [] j e = absurd (cc e)
claimed_word words (i ∷ is) j e = by (j == i) refl e (claimed_word words is j)
  where
    by : (b : Bool) → (j == i) ≡ b → (if b then true else is_claimed is j) ≡ true → (is_claimed is j ≡ true → slice_index words j ≡ first_claim (map (claim_at words) is) j)
        → slice_index words j ≡ (if b then slice_index words i else first_claim (map (claim_at words) is) j)
    by true same e rest = ap (slice_index words) (eqb-true j i same)
    by false other e rest = rest e

module _ (l m : Listed) (a : IsListed l) (b : IsListed m) (place : unclaimed m ≡ unclaimed l) (claims : claims_of m ≡ claims_of l) where
  same_claimed : m.claimed ≡ l.claimed
  same_claimed = sym (indexes m.words m.claimed) ∙ ap (map index_of) claims ∙ indexes l.words l.claimed

  each_word : (j : ℕ) → slice_index m.words j ≡ slice_index l.words j
  each_word j = by (is_claimed l.claimed j) refl
    where
      by : (t : Bool) → is_claimed l.claimed j ≡ t → slice_index m.words j ≡ slice_index l.words j
      by true e =
          claimed_word m.words m.claimed j (ap (λ is. is_claimed is j) same_claimed ∙ e)
          ∙ ap (λ cs. first_claim cs j) claims
          ∙ sym (claimed_word l.words l.claimed j e)
      by false e =
          let here : unclaimed m j ≡ unclaimed l j = ap (λ f. f j) place in
          let old : unclaimed l j ≡ slice_index l.words j = ap (λ t. if t then 0 else slice_index l.words j) e in
          let new : unclaimed m j ≡ slice_index m.words j = ap (λ t. if t then 0 else slice_index m.words j) (ap (λ is. is_claimed is j) same_claimed ∙ e) in
          sym new ∙ here ∙ old

  -- nothing was claimed
  pub kept : m ≡ l
  kept =
      let words : m.words ≡ l.words = same-words m.words l.words (b.count ∙ sym a.count) each_word in
      λ p. record { words = words p; claimed = same_claimed p }

-- one word was claimed, which was 0
pub one-put : (l m : Listed) → IsListed l → IsListed m → unclaimed m ≡ unclaimed l → (i w : ℕ) → MayPut l i w → claims_of m ≡ claims_of l ++ (i, w) ∷ [] → m ≡ with_put l i w
one-put l m a b place i w may claims =
    kept (with_put l i w) m (listed-put l i w a may) b (place ∙ sym (place-put l i w a may)) (claims ∙ sym (claims-put l i w a may))
