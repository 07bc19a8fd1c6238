-- The places of the current frame as its stack changes, and writes of one place.
use Rattle.std.proofs.Common.{◌≡◌, ◌⊎◌, inl, inr, ℕ, zero, suc, ◌+◌, ◌<◌, Bool, true, false, ◌==◌, cond, List, [], ◌∷◌, ◌++◌, length, reverse, slice_get, slice_set, Option, Some, None, refl, sym, ap, ◌∙◌, subst, arith, eqb-true, eq-eqb}
use Rattle.std.proofs.lemmas.List.{length-append, length-reverse, append_assoc, reverse-append}
use Rattle.rgctx_words.specs.Memory.{put}
use Rattle.rgctx_fill.proofs.ValueLemmas.{at_end, front_or_none}
use Rattle.rv_codegen.proofs.FormLemmas.{differ}

module _ {X : Type 0} where
  reverse_push : (x : X) (xs : List X) → reverse (x ∷ xs) ≡ reverse xs ++ x ∷ []
  reverse_push x xs = reverse-append (x ∷ []) xs

  -- an equation or none, at a number where another value is put
  pub chosen : (k n : ℕ) (v : X) (new rest old : Option X) → new ≡ cond (n == k) (Some v) rest → (rest ≡ old) ⊎ (rest ≡ None) → (b : Bool) → (n == k) ≡ b → (new ≡ cond (n == k) (Some v) old) ⊎ (new ≡ None)
  chosen k n v new rest old is e true t = inl (is ∙ ap (λ b. cond b (Some v) rest) t ∙ sym (ap (λ b. cond b (Some v) old) t))
  chosen k n v new rest old is (inl e) false t = inl (is ∙ ap (λ o. cond (n == k) (Some v) o) e)
  chosen k n v new rest old is (inr e) false t = inr (is ∙ ap (λ b. cond b (Some v) rest) t ∙ e)

  -- The stack loses the values on top, and gains one: the place behind those that stay has it, and each other place the value that
  -- it had, or none.
  pub replaced : (held gone stay : List X) (v : X) (n : ℕ) →
      (slice_get (held ++ reverse (v ∷ stay)) n ≡ put (length held + length stay) (Some v) (slice_get (held ++ reverse (gone ++ stay))) n) ⊎ (slice_get (held ++ reverse (v ∷ stay)) n ≡ None)
  replaced held gone stay v n =
      chosen (length held + length stay) n v (slice_get (held ++ reverse (v ∷ stay)) n) (slice_get (held ++ reverse stay) n) (slice_get (held ++ reverse (gone ++ stay)) n)
      (ap (λ (xs : List X). slice_get xs n) (ap (λ (xs : List X). held ++ xs) (reverse_push v stay) ∙ sym (append_assoc held (reverse stay) (v ∷ [])))
      ∙ at_end (held ++ reverse stay) v n
      ∙ ap (λ k. cond (n == k) (Some v) (slice_get (held ++ reverse stay) n)) long)
      front
      (n == length held + length stay) refl
    where
      long : length (held ++ reverse stay) ≡ length held + length stay
      long = length-append held (reverse stay) ∙ ap (λ k. length held + k) (length-reverse stay)

      whole : (held ++ reverse stay) ++ reverse gone ≡ held ++ reverse (gone ++ stay)
      whole = append_assoc held (reverse stay) (reverse gone) ∙ ap (λ (xs : List X). held ++ xs) (sym (reverse-append gone stay))

      front : (slice_get (held ++ reverse stay) n ≡ slice_get (held ++ reverse (gone ++ stay)) n) ⊎ (slice_get (held ++ reverse stay) n ≡ None)
      front = subst (λ (xs : List X). (slice_get (held ++ reverse stay) n ≡ slice_get xs n) ⊎ (slice_get (held ++ reverse stay) n ≡ None)) whole (front_or_none (held ++ reverse stay) (reverse gone) n)

  -- the stack loses values
  pub dropped : (held gone stay : List X) (n : ℕ) → (slice_get (held ++ reverse stay) n ≡ slice_get (held ++ reverse (gone ++ stay)) n) ⊎ (slice_get (held ++ reverse stay) n ≡ None)
  dropped held gone stay n =
      let whole : (held ++ reverse stay) ++ reverse gone ≡ held ++ reverse (gone ++ stay) = append_assoc held (reverse stay) (reverse gone) ∙ ap (λ (xs : List X). held ++ xs) (sym (reverse-append gone stay)) in
      subst (λ (xs : List X). (slice_get (held ++ reverse stay) n ≡ slice_get xs n) ⊎ (slice_get (held ++ reverse stay) n ≡ None)) whole (front_or_none (held ++ reverse stay) (reverse gone) n)

  at_length : (xs ys : List X) (v : X) → slice_get (xs ++ v ∷ ys) (length xs) ≡ Some v
  at_length [] ys v = refl
  at_length (x ∷ xs) ys v = at_length xs ys v

  -- a value of the stack stands in the place behind those below it
  pub value_there : (held above below : List X) (v : X) → slice_get (held ++ reverse (above ++ v ∷ below)) (length held + length below) ≡ Some v
  value_there held above below v =
      let e : held ++ reverse (above ++ v ∷ below) ≡ (held ++ reverse below) ++ v ∷ reverse above =
      ap (λ (xs : List X). held ++ xs) (reverse-append above (v ∷ below) ∙ ap (λ (xs : List X). xs ++ reverse above) (reverse_push v below) ∙ append_assoc (reverse below) (v ∷ []) (reverse above))
      ∙ sym (append_assoc held (reverse below) (v ∷ reverse above)) in
      let long : length (held ++ reverse below) ≡ length held + length below = length-append held (reverse below) ∙ ap (λ k. length held + k) (length-reverse below) in
      ap (λ (xs : List X). slice_get xs (length held + length below)) e
      ∙ ap (slice_get ((held ++ reverse below) ++ v ∷ reverse above)) (sym long)
      ∙ at_length (held ++ reverse below) (reverse above) v

  -- a value among the first ones stands in its own place
  pub held_there : (held rest : List X) (n : ℕ) (v : X) → slice_get held n ≡ Some v → slice_get (held ++ rest) n ≡ Some v
  held_there [] rest n v is = absurd (cc is)
  held_there (x ∷ held) rest zero v is = is
  held_there (x ∷ held) rest (suc n) v is = held_there held rest n v is

  -- another value in one of the first places
  pub held_put : (held rest : List X) (k : ℕ) (v : X) (n : ℕ) → k < length held → slice_get (slice_set held k v ++ rest) n ≡ put k (Some v) (slice_get (held ++ rest)) n
  held_put [] rest k v n low = absurd (omega arith)
  held_put (x ∷ held) rest zero v zero low = refl
  held_put (x ∷ held) rest zero v (suc n) low = ap (λ b. cond b (Some v) (slice_get (held ++ rest) n)) (sym (differ (suc n) 0 (λ e. omega (arith, e))))
  held_put (x ∷ held) rest (suc k) v zero low = ap (λ b. cond b (Some v) (Some x)) (sym (differ 0 (suc k) (λ e. omega (arith, e))))
  held_put (x ∷ held) rest (suc k) v (suc n) low = held_put held rest k v n (omega arith) ∙ ap (λ b. cond b (Some v) (slice_get (held ++ rest) n)) (sym (suc_same n k (n == k) refl))
    where
      suc_same : (a b : ℕ) (t : Bool) → (a == b) ≡ t → (suc a == suc b) ≡ (a == b)
      suc_same a b true e = eq-eqb (suc a) (suc b) (ap suc (eqb-true a b e)) ∙ sym e
      suc_same a b false e = differ (suc a) (suc b) (λ q. cc (eq-eqb a b (omega (arith, q)), e)) ∙ sym e
