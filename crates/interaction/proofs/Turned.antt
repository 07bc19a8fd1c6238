-- What one number of the schedule does to the world: a turn that a loose run may make.
use Rattle.std.proofs.Common.{◌≡◌, ◌≢◌, ℕ, zero, suc, ◌<◌, List, [], ◌∷◌, length, refl, sym, ap, ◌∙◌, subst, inl, inr, eqb-true, eq-eqb, ltb-true, set, get_or, get_or-set_same, get_or-set_other, length-set}
use Rattle.std.specs.Prelude.{Bool, true, false, slice_index, slice_set, if◌then◌else◌, ◌==◌, nat_lt}
use Rattle.interaction.specs.declared.turn.What.TheVariants as noted
use Rattle.interaction.specs.Thread.{Want, Turn, Did, Loaded, Claimed, Asked, Makes, request_of}
use Rattle.interaction.specs.Thread as thread
use Rattle.interaction.specs.Object.{Answers}
use Rattle.interaction.specs.LooseRun.{AnswersNothing}
use Rattle.interaction.specs.Run.{Machine, World, Step, Moves, Ends, StuckAt, Idle, moved_on, spoken, asked, claimed, turned}
use Rattle.interaction.specs.RunLaws.{Grows, Wrote, nothing, one}
use Rattle.interaction.proofs.Later.{grows_self}

as_set : (xs : List ℕ) (i v : ℕ) → slice_set xs i v ≡ set xs i v
as_set [] i v = refl
as_set (x ∷ xs) zero v = refl
as_set (x ∷ xs) (suc i) v = ap (λ l. x ∷ l) (as_set xs i v)

-- the words after one is written
pub index-slice_set : (xs : List ℕ) (i v j : ℕ) → i < length xs → slice_index (slice_set xs i v) j ≡ (if j == i then v else slice_index xs j)
index-slice_set xs i v j lt = rw as_set (by_test (j == i) refl)
  where
    by_test : (b : Bool) → (j == i) ≡ b → get_or (set xs i v) j 0 ≡ (if b then v else get_or xs j 0)
    by_test true e = let same = eqb-true j i e in rw same (get_or-set_same xs i v 0 lt)
    by_test false e = get_or-set_other xs i j v 0 (λ q. cc (eq-eqb j i q))

pub length-slice_set : (xs : List ℕ) (i v : ℕ) → length (slice_set xs i v) ≡ length xs
length-slice_set xs i v = rw as_set (length-set xs i v)

-- a word is put where none stands
pub put_grows : (xs : List ℕ) (i v : ℕ) → i < length xs → slice_index xs i ≡ 0 → Grows (slice_index xs) (slice_index (slice_set xs i v))
put_grows xs i v lt is j nz = index-slice_set xs i v j lt ∙ by_test (j == i) refl
  where
    by_test : (b : Bool) → (j == i) ≡ b → (if b then v else slice_index xs j) ≡ slice_index xs j
    by_test true t = absurd (nz (ap (slice_index xs) (eqb-true j i t) ∙ is))
    by_test false t = refl

pub put_stands : (xs : List ℕ) (i v : ℕ) → i < length xs → slice_index (slice_set xs i v) i ≡ v
put_stands xs i v lt = index-slice_set xs i v i lt ∙ (let t : (i == i) ≡ true = eq-eqb i i refl in rw t refl)

module _ {R Y S X : Type 0} (m : Machine R Y S X) where
  -- what one turn of a thread did to the world; `silent` is that where it found nothing, nothing stood before
  pub data Moved (x : World R Y S X) (u : ℕ) (s : S) (y : Want R Y S) : World R Y S X → Type 0 where
    quiet : (turn : Turn R Y) (t : S) (w : List ℕ) → Makes (slice_index w) s y turn t → Grows (slice_index x.words) (slice_index w) → Wrote x.words w turn → request_of turn ≡ [] → ((i : ℕ) → AnswersNothing turn i → slice_index x.words i ≡ 0) → Moved x u s y (moved_on x u t turn w)
    spoke : (r : R) (z : Y) (t : S) → Makes (slice_index x.words) s y (Asked (record { request = r; reply = z })) t → Answers m.object x.store u r z → Moved x u s y (spoken m x u t r z)

  moved_to : (x : World R Y S X) (u : ℕ) (s : S) (y : Want R Y S) (a b : World R Y S X) → ◌≡◌ {A = Step R Y S X} (Moves a) (Moves b) → Moved x u s y a → Moved x u s y b
  moved_to x u s y a b e h = let same : a ≡ b = cc in subst (Moved x u s y) same h

  claim_moved : (x : World R Y S X) (u : ℕ) (s : S) (i put : ℕ) (k : ℕ → S) (a : ℕ) → slice_index x.words i ≡ a → i < length x.words → put ≢ 0 → (b : Bool) → (a == 0) ≡ b → Moved x u s (thread.Claim i put k) (moved_on x u (k a) (Claimed i put a) (if b then slice_set x.words i put else x.words))
  claim_moved x u s i put k a is lt set true t =
      let z : a ≡ 0 = eqb-true a 0 t in
      let here : put ≡ slice_index (slice_set x.words i put) i = sym (put_stands x.words i put lt) in
      quiet _ _ (slice_set x.words i put) (thread.claims (set, inl (z, here))) (put_grows x.words i put lt (is ∙ z)) (one z lt (is ∙ z) refl) refl (λ j n. ap (slice_index x.words) (sym n.0) ∙ is ∙ z)
  claim_moved x u s i put k a is lt set false t = quiet _ _ x.words (thread.claims (set, inr ((λ z. cc (eq-eqb a 0 z, t)), sym is))) (grows_self (slice_index x.words)) (nothing refl) refl (λ j n. absurd (cc (eq-eqb a 0 n.1, t)))

  read_again : (x : World R Y S X) (u : ℕ) (s : S) (i : ℕ) (k : ℕ → Want R Y S) (x' : World R Y S X) → Moved x u s (k (slice_index x.words i)) x' → slice_index x.words i ≢ 0 → Moved x u s (thread.Read i k) x'
  read_again x u s i k x' (quiet turn t w h g wr r n) nz =
      let same = g i nz in
      quiet turn t w (thread.reads (λ z. nz (sym same ∙ z)) (subst (λ v. Makes (slice_index w) s (k v) turn t) (sym same) h)) g wr r n
  read_again x u s i k x' (spoke r z t h a) nz = spoke r z t (thread.reads nz h) a

  ask_moved : (x : World R Y S X) (u : ℕ) (s : S) (r : R) (k : Y → S) (y : Y) → m.object.reply x.store u r ≡ y → (x' : World R Y S X) → asked m x u s r k y ≡ Moves x' → Moved x u s (thread.Ask r k) x'
  ask_moved x u s r k y is x' e = by_proper (m.object.is_improper y) refl (m.object.is_halted y) refl e
    where
      by_proper : (b : Bool) → m.object.is_improper y ≡ b → (c : Bool) → m.object.is_halted y ≡ c → (if b then Ends (StuckAt u s) else if c then Ends (Idle u) else Moves (spoken m x u (k y) r y)) ≡ Moves x' → Moved x u s (thread.Ask r k) x'
      by_proper true t c t' e' = absurd (cc e')
      by_proper false t true t' e' = absurd (cc e')
      by_proper false t false t' e' = moved_to x u s _ _ x' e' (spoke r y (k y) thread.asks (record { given = is; goes_on = t'; proper = t }))

  -- each turn of the run is one that a loose run may make
  pub turned_moved : (x : World R Y S X) (u : ℕ) (s : S) (y : Want R Y S) (x' : World R Y S X) → turned m x u s y ≡ Moves x' → Moved x u s y x'
  turned_moved x u s (thread.Go a t) x' e = moved_to x u s _ _ x' e (quiet (Did a) t x.words thread.goes (grows_self (slice_index x.words)) (nothing refl) refl (λ i n. absurd n))
  turned_moved x u s (thread.Load a i k) x' e = moved_to x u s _ _ x' e (quiet _ _ x.words (thread.loads (inr refl)) (grows_self (slice_index x.words)) (nothing refl) refl (λ j n. ap (slice_index x.words) (sym n.0) ∙ n.1))
  turned_moved x u s (thread.Claim i put k) x' e = by_range (nat_lt i (length x.words)) refl (put == 0) refl e
    where
      by_range : (b : Bool) → nat_lt i (length x.words) ≡ b → (c : Bool) → (put == 0) ≡ c → (if b then (if c then Ends (StuckAt u s) else claimed x u i put k (slice_index x.words i)) else Ends (StuckAt u s)) ≡ Moves x' → Moved x u s (thread.Claim i put k) x'
      by_range true t true t' e' = absurd (cc e')
      by_range true t false t' e' = moved_to x u s _ _ x' e' (claim_moved x u s i put k (slice_index x.words i) refl (ltb-true i (length x.words) t) (λ z. cc (eq-eqb put 0 z)) (slice_index x.words i == 0) refl)
      by_range false t c t' e' = absurd (cc e')
  turned_moved x u s (thread.Read i k) x' e = by_word (slice_index x.words i == 0) refl e (turned_moved x u s (k (slice_index x.words i)) x')
    where
      by_word : (b : Bool) → (slice_index x.words i == 0) ≡ b → (if b then Moves (moved_on x u s (Loaded (noted.Load i) i 0) x.words) else turned m x u s (k (slice_index x.words i))) ≡ Moves x' → (turned m x u s (k (slice_index x.words i)) ≡ Moves x' → Moved x u s (k (slice_index x.words i)) x') → Moved x u s (thread.Read i k) x'
      by_word true t e' go = moved_to x u s _ _ x' e' (quiet (Loaded (noted.Load i) i 0) s x.words (thread.tries (inl refl)) (grows_self (slice_index x.words)) (nothing refl) refl (λ j n. ap (slice_index x.words) (sym n.0) ∙ eqb-true (slice_index x.words i) 0 t))
      by_word false t e' go = read_again x u s i k x' (go e') (λ z. cc (eq-eqb (slice_index x.words i) 0 z))
  turned_moved x u s (thread.Ask r k) x' e = ask_moved x u s r k (m.object.reply x.store u r) refl x' e
  turned_moved x u s thread.Full x' e = absurd (cc e)
  turned_moved x u s thread.Fault x' e = absurd (cc e)
  turned_moved x u s thread.Over x' e = absurd (cc e)
