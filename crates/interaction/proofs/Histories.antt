-- Histories: their parts, their prefixes, and what the object answered in them.
use Rattle.std.proofs.Common.{◌≡◌, ℕ, List, [], ◌∷◌, ◌++◌, refl, sym, ap, ◌∙◌, subst, append_assoc, append-nil}
use Rattle.std.specs.Prelude.{Bool, true, false, ◌==◌, if◌then◌else◌}
use Rattle.interaction.specs.declared.history.Event.{Event}
use Rattle.interaction.specs.Process.{Exchange}
use Rattle.interaction.specs.Object.{Sequential, Answers, Replays, replayed}
use Rattle.interaction.specs.History.{part, exchange_of}

-- the part of one list after another
pub part-append : {R Y : Type 0} (u : ℕ) (d r : List (Event R Y)) → part u (d ++ r) ≡ part u d ++ part u r
part-append u [] r = refl
part-append u (e ∷ d) r = by_thread (e.thread == u) (part-append u d r)
  where
    by_thread : (b : Bool) → part u (d ++ r) ≡ part u d ++ part u r → (if b then exchange_of e ∷ part u (d ++ r) else part u (d ++ r)) ≡ (if b then exchange_of e ∷ part u d else part u d) ++ part u r
    by_thread true h = ap (λ es. exchange_of e ∷ es) h
    by_thread false h = h

pub replayed-append : {R Y X : Type 0} (o : Sequential R Y X) (x : X) (d r : List (Event R Y)) → replayed o x (d ++ r) ≡ replayed o (replayed o x d) r
replayed-append o x [] r = refl
replayed-append o x (e ∷ d) r = replayed-append o (o.after x e.thread e.request) d r

-- a prefix replays
pub replays_front : {R Y X : Type 0} (o : Sequential R Y X) (x : X) (d r : List (Event R Y)) → Replays o x (d ++ r) → Replays o x d
replays_front o x [] r h = tt
replays_front o x (e ∷ d) r h = (h.0, replays_front o (o.after x e.thread e.request) d r h.1)

-- each event was answered by the object as it stood
pub replays_at : {R Y X : Type 0} (o : Sequential R Y X) (x : X) (d : List (Event R Y)) (e : Event R Y) (r : List (Event R Y)) → Replays o x (d ++ e ∷ r) → Answers o (replayed o x d) e.thread e.request e.reply
replays_at o x [] e r h = h.0
replays_at o x (c ∷ d) e r h = replays_at o (o.after x c.thread c.request) d e r h.1

-- one event more
pub replays_more : {R Y X : Type 0} (o : Sequential R Y X) (x : X) (d : List (Event R Y)) (e : Event R Y) → Replays o x d → Answers o (replayed o x d) e.thread e.request e.reply → Replays o x (d ++ e ∷ [])
replays_more o x [] e h a = (a, tt)
replays_more o x (c ∷ d) e h a = (h.0, replays_more o (o.after x c.thread c.request) d e h.1 a)

-- a list from its front, one element more each time
pub snoc_ind : {A : Type 0} (P : List A → Type 0) → P [] → ((xs : List A) (x : A) → P xs → P (xs ++ x ∷ [])) → (xs : List A) → P xs
snoc_ind P base step xs = go [] xs base
  where
    go : (d r : List _) → P d → P (d ++ r)
    go d [] h = subst P (sym (append-nil d)) h
    go d (x ∷ r) h = subst P (append_assoc d (x ∷ []) r) (go (d ++ x ∷ []) r (step d x h))

-- the history up to an event of thread u, before which its part is this
pub record Before {R Y : Type 0} (u : ℕ) (h : List (Event R Y)) (es : List (Exchange R Y)) : Type 0 where
  pub front : List (Event R Y)
  pub event : Event R Y
  pub back : List (Event R Y)
  pub whole : front ++ event ∷ back ≡ h
  pub its : (event.thread == u) ≡ true
  pub is : part u front ≡ es

-- where a part goes on, the history is cut before the event that goes on
pub cut : {R Y : Type 0} (u : ℕ) (h : List (Event R Y)) (es : List (Exchange R Y)) (x : Exchange R Y) (fs : List (Exchange R Y)) → part u h ≡ es ++ x ∷ fs → Before u h es
cut u [] [] x fs e = absurd (cc e)
cut u [] (y ∷ es) x fs e = absurd (cc e)
cut u (c ∷ h) es x fs e = by_thread (c.thread == u) refl es e (λ gs. cut u h gs x fs)
  where
    later : (gs : List (Exchange _ _)) → Before u h gs → (es : List (Exchange _ _)) → (if c.thread == u then exchange_of c ∷ gs else gs) ≡ es → Before u (c ∷ h) es
    later gs k es same = record { front = c ∷ k.front; event = k.event; back = k.back; whole = ap (λ l. c ∷ l) k.whole; its = k.its; is = ap (λ l. if c.thread == u then exchange_of c ∷ l else l) k.is ∙ same }

    by_thread : (b : Bool) → (c.thread == u) ≡ b → (es : List (Exchange _ _)) → (if b then exchange_of c ∷ part u h else part u h) ≡ es ++ x ∷ fs → ((gs : List (Exchange _ _)) → part u h ≡ gs ++ x ∷ fs → Before u h gs) → Before u (c ∷ h) es
    by_thread true t [] e' go = record { front = []; event = c; back = h; whole = refl; its = t; is = refl }
    by_thread true t (y ∷ es) e' go = later es (go es (cc e')) (y ∷ es) (ap (λ b. if b then exchange_of c ∷ es else es) t ∙ (let s : exchange_of c ≡ y = cc e' in ap (λ z. z ∷ es) s))
    by_thread false t es e' go = later es (go es e') es (ap (λ b. if b then exchange_of c ∷ es else es) t)
