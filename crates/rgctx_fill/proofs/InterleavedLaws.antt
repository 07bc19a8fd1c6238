-- Fills that take their turns on the same words in any order stay under way, and those of one entry answer one value.
use Rattle.std.proofs.Common.{◌≡◌, ◌≢◌, ⊎_elim, ℕ, zero, suc, ◌==◌, Bool, true, false, List, [], ◌∷◌, Option, Some, None, if◌then◌else◌, refl, sym, ap, ◌∙◌, subst, eq-eqb, eqb-true}
use Rattle.std.specs.Prelude.{slice_get, slice_set}
use Rattle.std.proofs.lemmas.Bool.{cases_eq}
use Rattle.rgctx_words.specs.Held.{Grows}
use Rattle.rgctx_template.specs.Catalogue.{CatData}
use Rattle.rgctx_fill.specs.declared.stage.Stage.TheVariants as stage
use Rattle.rgctx_fill.specs.declared.stage.FillNext.{FillNext}
use Rattle.rgctx_fill.specs.declared.stage.FillNext.TheVariants as next
use Rattle.rgctx_fill.specs.declared.stage.FillStep.{FillStep}
use Rattle.rgctx_fill.specs.declared.stage.FillStep.TheVariants as step
use Rattle.rgctx_fill.specs.Fitting.{AreFitting}
use Rattle.rgctx_fill.specs.GrowthLaws.{named-grows}
use Rattle.rgctx_fill.specs.LeafLaws.{leaf-used}
use Rattle.rgctx_fill.specs.ClaimLaws.{claim-keeps, claim-grows}
use Rattle.rgctx_fill.specs.Turns.{FillData, next_of, taken}
use Rattle.rgctx_fill.specs.Ready.{IsFilled, IsReady, Knows, IsClaimed, IsAnswered, IsMade, IsTurn}
use Rattle.rgctx_fill.specs.Interleaved.{Shared, with_word, words_after, fill_after, turned_if, turned, interleaved, IsTurned, AreUnderWay}
use Rattle.rgctx_fill.proofs.NodeLaws.{named-only}
use Rattle.rgctx_fill.proofs.TurnLemmas.{MayPut, may-put, ready-loaded, ready-claimed, ready-grows, differ}

-- ---- one value

-- Two fills of one entry that have answered, by whatever each holds of the same words, answered the same value
pub one-value : (cat : CatData) (at one other : ℕ → ℕ) → AreFitting cat at → Grows one at → Grows other at → (node entry v w : ℕ) → IsFilled cat one node entry v → IsFilled cat other node entry w → v ≡ w
one-value cat at one other fits first second node entry v w a b =
    named-only cat at fits node entry v w (named-grows cat one at first node entry v a.named) (named-grows cat other at second node entry w b.named)

-- ---- turns on the same words

grows_all : (at : ℕ → ℕ) → Grows at at
grows_all at j used = refl

module _ (cat : CatData) (at : ℕ → ℕ) (fits : AreFitting cat at) (f : FillData) (ready : IsReady cat at f) where
  -- a word that is put where 0 stands
  module _ (i word : ℕ) (may : MayPut cat at i word) (was : at i ≡ 0) where
    here : with_word at i word i ≡ word
    here = ap (λ (b : Bool). if b then word else at i) (eq-eqb i i refl)

    false_of : (j : ℕ) (b : Bool) → (j == i) ≡ b → j ≢ i → (if b then word else at j) ≡ at j
    false_of j true e ne = absurd (ne (eqb-true j i e))
    false_of j false e ne = refl

    others : (j : ℕ) → j ≢ i → with_word at i word j ≡ at j
    others j ne = false_of j (j == i) refl ne

    put_fits : AreFitting cat (with_word at i word)
    put_fits = claim-keeps cat at (with_word at i word) at i word fits (grows_all at) was may.allowed here others

    put_grows : Grows at (with_word at i word)
    put_grows = claim-grows cat at (with_word at i word) at i word fits (grows_all at) was may.allowed here others

  record Goes (n : FillNext) : Type 0 where
    fits_on : AreFitting cat (words_after at n)
    grows_on : Grows at (words_after at n)
    ready_on : IsReady cat (words_after at n) (fill_after at f n)

  loads : (i : ℕ) → next_of f ≡ next.Load i → Goes (next.Load i)
  loads i is = record {
    fits_on = fits;
    grows_on = grows_all at;
    ready_on = ready-loaded cat at at at f ready (grows_all at) fits (grows_all at) i (at i) is
        (record { again = λ used. refl; has = λ used. refl; always = leaf-used cat at i fits; named = λ shown. shown at fits (grows_all at) });
  }

  claims_if : (i word : ℕ) → next_of f ≡ next.Claim i word → (b : Bool) → (at i == 0) ≡ b
      → AreFitting cat (if b then with_word at i word else at) × Grows at (if b then with_word at i word else at) × IsReady cat (if b then with_word at i word else at) (taken f (at i))
  claims_if i word is true e =
      let was : at i ≡ 0 = eqb-true (at i) 0 e in
      let may : MayPut cat at i word = may-put cat at f ready i word is in (
        put_fits i word may was,
        put_grows i word may was,
        ready-claimed cat at (with_word at i word) (with_word at i word) f ready (put_grows i word may was) (put_fits i word may was) (grows_all (with_word at i word)) i word (at i) is
            (record { has = λ used. absurd (used was); put = λ z. here i word may was }),
      )
  claims_if i word is false e =
      let used : at i ≢ 0 = differ (at i) 0 e in (
        fits,
        grows_all at,
        ready-claimed cat at at at f ready (grows_all at) fits (grows_all at) i word (at i) is (record { has = λ u. refl; put = λ z. absurd (used z) }),
      )

  goes : (n : FillNext) → next_of f ≡ n → Goes n
  goes (next.Load i) is = loads i is
  goes (next.Claim i word) is = let c = claims_if i word is (at i == 0) refl in record { fits_on = c.0; grows_on = c.1; ready_on = c.2 }
  goes (next.Full r key) is = record { fits_on = fits; grows_on = grows_all at; ready_on = ready }
  goes next.Nothing is = record { fits_on = fits; grows_on = grows_all at; ready_on = ready }

  turn_goes : Goes (next_of f)
  turn_goes = goes (next_of f) refl

-- ---- lists of fills

set_same : (xs : List FillData) (k : ℕ) (x y : FillData) → slice_get (slice_set xs k x) k ≡ Some y → x ≡ y
set_same [] k x y e = cc
set_same (z ∷ xs) zero x y e = cc
set_same (z ∷ xs) (suc k) x y e = set_same xs k x y e

set_other : (xs : List FillData) (k j : ℕ) (x : FillData) → j ≢ k → slice_get (slice_set xs k x) j ≡ slice_get xs j
set_other [] k j x ne = refl
set_other (z ∷ xs) zero zero x ne = absurd (ne refl)
set_other (z ∷ xs) zero (suc j) x ne = refl
set_other (z ∷ xs) (suc k) zero x ne = refl
set_other (z ∷ xs) (suc k) (suc j) x ne = set_other xs k j x (λ e. ne (ap suc e))

module _ (cat : CatData) where
  step_on : (s : Shared) (k : ℕ) → AreUnderWay cat s → (found : Option FillData) → slice_get s.fills k ≡ found → AreUnderWay cat (turned_if s k found)
  step_on s k way None is = way
  step_on s k way (Some f) is =
      let g = turn_goes cat s.at way.fits f (way.ready k f is) in
      record {
        fits = g.fits_on;
        ready = λ j h got. ⊎_elim
            (λ (e : j ≡ k). subst (IsReady cat (words_after s.at (next_of f))) (set_same s.fills k (fill_after s.at f (next_of f)) h (ap (slice_get (slice_set s.fills k (fill_after s.at f (next_of f)))) (sym e) ∙ got)) g.ready_on)
            (λ (ne : j ≢ k). ready-grows cat s.at (words_after s.at (next_of f)) h (way.ready j h (sym (set_other s.fills k j (fill_after s.at f (next_of f)) ne) ∙ got)) g.grows_on)
            (cases_eq j k);
      }

  turn_on : (s : Shared) (k : ℕ) → AreUnderWay cat s → AreUnderWay cat (turned s k)
  turn_on s k way = step_on s k way (slice_get s.fills k) refl

  -- whatever the order of their turns, the words fit and the fills are under way
  pub interleaved-on : (ks : List ℕ) (s : Shared) → AreUnderWay cat s → AreUnderWay cat (interleaved s ks)
  interleaved-on [] s way = way
  interleaved-on (k ∷ ks) s way = interleaved-on ks (turned s k) (turn_on s k way)

  done_filled : (at : ℕ → ℕ) (f : FillData) (v : ℕ) → IsReady cat at f → f.stage ≡ stage.Done v → IsFilled cat at f.node f.entry v
  done_filled at f v ready is = subst (Knows cat at f) is ready.knows

  -- Fills of one entry, interleaved turn by turn in any way, all answer one value
  pub interleaved-one : (s : Shared) → AreUnderWay cat s → (ks : List ℕ) (i j : ℕ) (f g : FillData) (v w : ℕ) → slice_get (interleaved s ks).fills i ≡ Some f → slice_get (interleaved s ks).fills j ≡ Some g
      → f.node ≡ g.node → f.entry ≡ g.entry → f.stage ≡ stage.Done v → g.stage ≡ stage.Done w → v ≡ w
  interleaved-one s way ks i j f g v w f_is g_is same_node same_entry f_done g_done =
      let end : Shared = interleaved s ks in
      let on : AreUnderWay cat end = interleaved-on ks s way in
      let a : IsFilled cat end.at f.node f.entry v = done_filled end.at f v (on.ready i f f_is) f_done in
      let b : IsFilled cat end.at g.node g.entry w = done_filled end.at g w (on.ready j g g_is) g_done in
      let c : IsFilled cat end.at f.node f.entry w = subst (λ n. IsFilled cat end.at n f.entry w) (sym same_node) (subst (λ e. IsFilled cat end.at g.node e w) (sym same_entry) b) in
      one-value cat end.at end.at end.at on.fits (grows_all end.at) (grows_all end.at) f.node f.entry v w a c

-- ---- turns that are made

with_here : (at : ℕ → ℕ) (i word j : ℕ) → j ≡ i → with_word at i word j ≡ word
with_here at i word j e = ap (λ (b : Bool). if b then word else at j) (eq-eqb j i e)

with_other_if : (at : ℕ → ℕ) (i word j : ℕ) (b : Bool) → (j == i) ≡ b → j ≢ i → (if b then word else at j) ≡ at j
with_other_if at i word j true e ne = absurd (ne (eqb-true j i e))
with_other_if at i word j false e ne = refl

with_other : (at : ℕ → ℕ) (i word j : ℕ) → j ≢ i → with_word at i word j ≡ at j
with_other at i word j ne = with_other_if at i word j (j == i) refl ne

module _ (before after : ℕ → ℕ) (f new : FillData) where
  claimed_if : (i word answer : ℕ) → IsClaimed true before after i word answer → (b : Bool) → (before i == 0) ≡ b → (j : ℕ) → after j ≡ (if b then with_word before i word else before) j
  claimed_if i word answer h true e j = ⊎_elim
      (λ (same : j ≡ i). ap after same ∙ h.put ((h.only refl).0 ∙ eqb-true (before i) 0 e) ∙ sym (with_here before i word j same))
      (λ (ne : j ≢ i). (h.only refl).1 j ne ∙ sym (with_other before i word j ne))
      (cases_eq j i)
  claimed_if i word answer h false e j = ⊎_elim
      (λ (same : j ≡ i). ap after same ∙ h.held (λ z. differ (before i) 0 e (sym (h.only refl).0 ∙ z)) ∙ (h.only refl).0 ∙ ap before (sym same))
      (λ (ne : j ≢ i). (h.only refl).1 j ne)
      (cases_eq j i)

  answered_turns : (n : FillNext) (answer : ℕ) → IsAnswered true before after n answer → new ≡ taken f answer → (new ≡ fill_after before f n) × ((j : ℕ) → after j ≡ words_after before n j)
  answered_turns (next.Load i) answer h takes = (takes ∙ ap (taken f) (h.only refl).0, (h.only refl).1)
  answered_turns (next.Claim i word) answer h takes = (takes ∙ ap (taken f) (h.only refl).0, claimed_if i word answer h (before i == 0) refl)
  answered_turns (next.Full r key) answer h takes = absurd h
  answered_turns next.Nothing answer h takes = absurd h

  made_turns : (listed relisted : Option (List (ℕ × ℕ))) (gives : FillStep) → IsMade true before after listed relisted f new gives → IsTurned before after f new
  made_turns listed relisted gives m = let p = answered_turns (next_of f) m.answer m.answered m.takes in record { fill = p.0; words = p.1 }

  -- On words that nobody else writes, a turn is the one that the interleaving makes
  pub turn-turned : (listed relisted : Option (List (ℕ × ℕ))) (gives : FillStep) → IsTurn true before after listed relisted f new gives → IsTurned before after f new
  turn-turned listed relisted step.More made = made_turns listed relisted step.More made
  turn-turned listed relisted (step.Value v) made = made_turns listed relisted (step.Value v) made
  turn-turned listed relisted (step.Full r key) end = record {
    fill = end.same ∙ ap (fill_after before f) (sym end.full);
    words = λ j. end.words j ∙ ap (λ n. words_after before n j) (sym end.full);
  }
