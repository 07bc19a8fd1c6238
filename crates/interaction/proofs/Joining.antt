-- Threads that keep to their processes join to a legal history, by induction over it.
use Rattle.std.proofs.Common.{◌≡◌, ℕ, List, [], ◌∷◌, ◌++◌, Option, Some, None, refl, sym, ap, ◌∙◌, subst, arith, append_assoc, append-nil, eqb-true}
use Rattle.std.specs.Prelude.{Bool, true, false, ◌==◌, if◌then◌else◌}
use Rattle.interaction.specs.declared.history.Event.{Event}
use Rattle.interaction.specs.Process.{Act, Exchange, Talk, rests, begins, settles, spells, Halts}
use Rattle.interaction.specs.Process as process
use Rattle.interaction.specs.Thread.{Want, Turn, Turns, requests_in}
use Rattle.interaction.specs.Simulation.{Sides, Keeps, Onward, GoesOn}
use Rattle.interaction.specs.Simulation as keeps
use Rattle.interaction.specs.Object.{Sequential, Replays, replayed}
use Rattle.interaction.specs.History.{part, exchange_of, Talks, Legal, Begins, NeverStuck}
use Rattle.interaction.specs.Progress.{Advances}
use Rattle.interaction.specs.Starts.{as_process}
use Rattle.interaction.specs.LooseRun.{Leaves, LooseRun, IsStuck, IsSound}
use Rattle.interaction.proofs.Compose.{guard}
use Rattle.interaction.proofs.Talks.{talk_on}
use Rattle.interaction.proofs.Follow.{IsAlive, until_request, until_end}
use Rattle.interaction.proofs.Progress.{IsAliveOn, Paid, progress}
use Rattle.interaction.proofs.Starting.{BothBegin}
use Rattle.interaction.proofs.Histories.{part-append, replays_front, replays_at, snoc_ind, cut}

module _ {M T R Y F S X : Type 0} (on : Sides M T R Y F S) (At : Act M T R Y F → S → Type 0) (o : Sequential R Y X) (begin : List (Event R Y) → ℕ → Option (Act M T R Y F)) where
  -- a thread and its process begin together
  abbrev pub Together : Option (Act M T R Y F) → Option S → Type 0
  Together None None = Unit {0}
  Together None (Some s) = ⊥
  Together (Some p) None = ⊥
  Together (Some p) (Some s) = Keeps on At false 0 p s

  -- the same, from the frames in which the process begins
  pub together_of : (of : Option F) (os : Option S) → BothBegin (λ f s. Keeps on At false 0 (process.Next f) s) of os → Together (as_process of) os
  together_of None None b = tt
  together_of None (Some s) b = b
  together_of (Some f) None b = b
  together_of (Some f) (Some s) b = b

  -- a thread whose process has made the requests `done`, and whose turns to come make the requests `todo`
  record Stands (p : Act M T R Y F) (end : S) (done todo : List (Exchange R Y)) : Type 0 where
    q : Act M T R Y F
    left : ℕ
    mid : S
    rest : List (Turn R Y)
    talk : Talk on.naming on.meaning p done q
    keeps : Keeps on At false left q mid
    turns : Turns on.want on.words mid rest end
    asked : requests_in rest ≡ todo

  abbrev Standing : Option (Act M T R Y F) → S → List (Exchange R Y) → List (Exchange R Y) → Type 0
  Standing None end done todo = (done ≡ []) × (todo ≡ [])
  Standing (Some p) end done todo = Stands p end done todo

  one_event : GoesOn on At → (op : Option (Act M T R Y F)) (end : S) (done todo : List (Exchange R Y)) (e : Exchange R Y) → ((p : Act M T R Y F) → op ≡ Some p → (q : Act M T R Y F) → Talk on.naming on.meaning p done q → Halts on.naming q → ⊥) → Standing op end done (e ∷ todo) → Standing op end (done ++ e ∷ []) todo
  one_event on_from None end done todo e alive st = absurd (cc st.1)
  one_event on_from (Some p) end done todo e alive st =
      let fine : IsAlive on At st.q = λ q t x. alive p refl q (subst (λ es. Talk on.naming on.meaning p es q) (append-nil done) (talk_on st.talk t)) x in
      let r = until_request on At on_from e todo st.turns st.left st.q fine st.keeps st.asked in
      record { q = r.q; left = r.left; mid = r.mid; rest = r.rest; talk = talk_on st.talk r.talk; keeps = r.keeps; turns = r.turns; asked = r.asked }

  -- every thread of the whole history `h`, after its events `d` and before the events `r`
  abbrev Now : List (Event R Y) → (ℕ → S) → List (Event R Y) → List (Event R Y) → Type 0
  Now h end d r = (u : ℕ) → Standing (begin h u) (end u) (part u d) (part u r)

  -- who has not begun has no part
  no_part : Begins o begin → (d : List (Event R Y)) → Replays o o.first d → (u : ℕ) → begin d u ≡ None → part u d ≡ []
  no_part b = snoc_ind (λ d. Replays o o.first d → (u : ℕ) → begin d u ≡ None → part u d ≡ []) (λ h u is. refl) step
    where
      by_thread : (c : Bool) (u : ℕ) (d : List (Event R Y)) (e : Event R Y) → (c ≡ true → ⊥) → part u d ≡ [] → part u d ++ (if c then exchange_of e ∷ [] else []) ≡ []
      by_thread true u d e other h = absurd (other refl)
      by_thread false u d e other h = ap (λ es. es ++ []) h

      earlier : (d : List (Event R Y)) (e : Event R Y) (u : ℕ) → begin (d ++ e ∷ []) u ≡ None → (op : Option (Act M T R Y F)) → begin d u ≡ op → begin d u ≡ None
      earlier d e u is None eq = eq
      earlier d e u is (Some p) eq = absurd (cc (b.grows d (e ∷ []) u p eq))

      not_this : (d : List (Event R Y)) (e : Event R Y) (u : ℕ) → begin (d ++ e ∷ []) u ≡ None → Replays o o.first (d ++ e ∷ []) → (e.thread == u) ≡ true → ⊥
      not_this d e u is h same =
          let k = b.known d e.thread e.request e.reply (replays_front o o.first d (e ∷ []) h) (replays_at o o.first d e [] h) in
          let here = b.grows d (e ∷ []) e.thread k.0 k.1 in
          let t : e.thread ≡ u = eqb-true e.thread u same in
          let there = subst (λ v. begin (d ++ e ∷ []) v ≡ Some k.0) t here in
          cc

      step : (d : List (Event R Y)) (e : Event R Y) → (Replays o o.first d → (u : ℕ) → begin d u ≡ None → part u d ≡ []) → Replays o o.first (d ++ e ∷ []) → (u : ℕ) → begin (d ++ e ∷ []) u ≡ None → part u (d ++ e ∷ []) ≡ []
      step d e ih h u is = part-append u d (e ∷ []) ∙ by_thread (e.thread == u) u d e (not_this d e u is h) (ih (replays_front o o.first d (e ∷ []) h) u (earlier d e u is (begin d u) refl))

  -- what stands of a thread in the whole history stands of it so far
  talks_of : (whole now : Option (Act M T R Y F)) (end : S) (done todo : List (Exchange R Y)) → ((p : Act M T R Y F) → now ≡ Some p → whole ≡ Some p) → (now ≡ None → done ≡ []) → Standing whole end done todo → Talks on.naming on.meaning now done
  talks_of whole None end done todo same none st = none refl
  talks_of None (Some p) end done todo same none st = absurd (cc (same p refl))
  talks_of (Some w) (Some p) end done todo same none st = (st.q, subst (λ v. Talk on.naming on.meaning v done st.q) (cc (same p refl)) st.talk)

  legal_now : Begins o begin → (h : List (Event R Y)) (end : ℕ → S) (d r : List (Event R Y)) → d ++ r ≡ h → Replays o o.first d → Now h end d r → Legal o on.naming on.meaning begin d
  legal_now b h end d r is replays now = record {
    replays = replays;
    talks = λ u. talks_of (begin h u) (begin d u) (end u) (part u d) (part u r) (λ p started. subst (λ l. begin l u ≡ Some p) is (b.grows d r u p started)) (no_part b d replays u) (now u);
  }

  next_event : GoesOn on At → Begins o begin → NeverStuck o on.naming on.meaning begin → (h : List (Event R Y)) (end : ℕ → S) (d r : List (Event R Y)) (e : Event R Y) → d ++ e ∷ r ≡ h → Replays o o.first (d ++ e ∷ r) → Legal o on.naming on.meaning begin d → Now h end d (e ∷ r) → Now h end (d ++ e ∷ []) r
  next_event on_from b safe h end d r e is replays legal now u = subst (λ done. Standing (begin h u) (end u) done (part u r)) (sym (part-append u d (e ∷ []))) (by_thread (e.thread == u) alive (now u))
    where
      alive : (e.thread == u) ≡ true → (p : Act M T R Y F) → begin h u ≡ Some p → (q : Act M T R Y F) → Talk on.naming on.meaning p (part u d) q → Halts on.naming q → ⊥
      alive same p started =
          let k = b.known d e.thread e.request e.reply (replays_front o o.first d (e ∷ r) replays) (replays_at o o.first d e r replays) in
          let here : begin d u ≡ Some k.0 = subst (λ v. begin d v ≡ Some k.0) (eqb-true e.thread u same) k.1 in
          let there : begin h u ≡ Some k.0 = subst (λ l. begin l u ≡ Some k.0) is (b.grows d (e ∷ r) u k.0 here) in
          safe.goes_on d legal u p (here ∙ sym there ∙ started)

      by_thread : (c : Bool) → (c ≡ true → (p : Act M T R Y F) → begin h u ≡ Some p → (q : Act M T R Y F) → Talk on.naming on.meaning p (part u d) q → Halts on.naming q → ⊥) → Standing (begin h u) (end u) (part u d) (if c then exchange_of e ∷ part u r else part u r) → Standing (begin h u) (end u) (part u d ++ (if c then exchange_of e ∷ [] else [])) (part u r)
      by_thread true alive st = one_event on_from (begin h u) (end u) (part u d) (part u r) (exchange_of e) (alive refl) st
      by_thread false alive st = subst (λ done. Standing (begin h u) (end u) done (part u r)) (sym (append-nil (part u d))) st

  -- from the events `d` on, through the events `r`
  events_on : GoesOn on At → Begins o begin → NeverStuck o on.naming on.meaning begin → (h : List (Event R Y)) (end : ℕ → S) → Replays o o.first h → (r s d : List (Event R Y)) → d ++ (r ++ s) ≡ h → Now h end d (r ++ s) → Now h end (d ++ r) s
  events_on on_from b safe h end replays [] s d is now = subst (λ l. Now h end l s) (sym (append-nil d)) now
  events_on on_from b safe h end replays (e ∷ r) s d is now =
      let here = subst (Replays o o.first) (sym is) replays in
      let legal = legal_now b h end d (e ∷ (r ++ s)) is (replays_front o o.first d (e ∷ (r ++ s)) here) now in
      let step = next_event on_from b safe h end d (r ++ s) e is here legal now in
      let rest = events_on on_from b safe h end replays r s (d ++ e ∷ []) (append_assoc d (e ∷ []) (r ++ s) ∙ is) step in
      subst (λ l. Now h end l s) (append_assoc d (e ∷ []) r) rest

  begin_now : (op : Option (Act M T R Y F)) (os : Option S) (turns : List (Turn R Y)) (end : S) (es : List (Exchange R Y)) → Together op os → Leaves on.want on.words os turns end es → Standing op end [] es
  begin_now None None turns end es t l = (refl, l)
  begin_now None (Some s) turns end es t l = absurd t
  begin_now (Some p) None turns end es t l = absurd t
  begin_now (Some p) (Some s) turns end es t l = record { q = p; left = 0; mid = s; rest = turns; talk = rests; keeps = t; turns = l.0; asked = l.1 }

  -- at the end no begun thread is stuck
  not_stuck : (x : Want R Y S) (n u : ℕ) (q : Act M T R Y F) → ((c : Act M T R Y F) → Talk on.naming on.meaning q [] c → Halts on.naming c → ⊥) → (h : List (Event R Y)) → ((r : R) (k : Y → Act M T R Y F) → Talk on.naming on.meaning q [] (process.Ask r k) → o.is_improper (o.reply (replayed o o.first h) u r) ≡ false) → Onward on At n q x → IsStuck o (replayed o o.first h) on.words u x → ⊥
  not_stuck x n u q alive h taken (keeps.goes k) st = st
  not_stuck x n u q alive h taken (keeps.loads k) st = st
  not_stuck x n u q alive h taken (keeps.claims k) st = st
  not_stuck x n u q alive h taken (keeps.reads k) st = not_stuck _ n u q alive h taken (k st.0) st.1
  not_stuck x n u q alive h taken (keeps.asks k) st = cc (taken _ _ rests, st)
  not_stuck x n u q alive h taken keeps.fills st = st
  not_stuck x n u q alive h taken keeps.ends st = st

  end_fine : {n : ℕ} {q : Act M T R Y F} {s : S} (u : ℕ) (h : List (Event R Y)) → Keeps on At true n q s → ((c : Act M T R Y F) → Talk on.naming on.meaning q [] c → Halts on.naming c → ⊥) → ((r : R) (k : Y → Act M T R Y F) → Talk on.naming on.meaning q [] (process.Ask r k) → o.is_improper (o.reply (replayed o o.first h) u r) ≡ false) → IsStuck o (replayed o o.first h) on.words u (on.want s) → ⊥
  end_fine u h (keeps.nowhere x) alive taken st = alive _ rests x
  end_fine u h (keeps.begins m le k) alive taken st = end_fine u h k (λ c t. alive c (begins t)) (λ r f t. taken r f (begins t)) st
  end_fine u h (keeps.settles m le is k) alive taken st = end_fine u h k (λ c t. alive c (settles is t)) (λ r f t. taken r f (settles is t)) st
  end_fine u h (keeps.spells is k) alive taken st = end_fine u h k (λ c t. alive c (spells is t)) (λ r f t. taken r f (spells is t)) st
  end_fine {q = q} {s = s} u h (keeps.turns m le w) alive taken st = not_stuck (on.want s) m u q alive h taken w st

  thread_fine : GoesOn on At → (op : Option (Act M T R Y F)) (os : Option S) (end : S) (u : ℕ) (h : List (Event R Y)) (done : List (Exchange R Y)) → Together op os → Standing op end done [] → ((p : Act M T R Y F) → op ≡ Some p → (q : Act M T R Y F) → Talk on.naming on.meaning p done q → Halts on.naming q → ⊥) → ((p : Act M T R Y F) → op ≡ Some p → (r : R) (k : Y → Act M T R Y F) → Talk on.naming on.meaning p done (process.Ask r k) → o.is_improper (o.reply (replayed o o.first h) u r) ≡ false) → (s : S) → os ≡ Some s → IsStuck o (replayed o o.first h) on.words u (on.want end) → ⊥
  thread_fine on_from None None end u h done t st alive taken s is stuck = cc
  thread_fine on_from None (Some x) end u h done t st alive taken s is stuck = absurd t
  thread_fine on_from (Some p) None end u h done t st alive taken s is stuck = absurd t
  thread_fine on_from (Some p) (Some x) end u h done t st alive taken s is stuck =
      let same = append-nil done in
      let on_done : (r : Act M T R Y F) → Talk on.naming on.meaning st.q [] r → Talk on.naming on.meaning p done r = λ r v. subst (λ es. Talk on.naming on.meaning p es r) same (talk_on st.talk v) in
      let e = until_end on At on_from st.turns st.left st.q (λ c v. alive p refl c (on_done _ v)) st.keeps st.asked in
      end_fine u h (guard on_from e.keeps) (λ c v. alive p refl c (on_done _ (talk_on e.talk v))) (λ r k v. taken p refl r k (on_done _ (talk_on e.talk v))) stuck

  module _ (on_from : GoesOn on At) (b : Begins o begin) (safe : NeverStuck o on.naming on.meaning begin) (begin_s : List (Event R Y) → ℕ → Option S) (together : (h : List (Event R Y)) (u : ℕ) → Together (begin h u) (begin_s h u)) (Known : List (Turn R Y) → ℕ → Type 0) (h : List (Event R Y)) (trail : ℕ → List (Turn R Y)) (end : ℕ → S) (run : LooseRun o on.want begin_s on.words Known h trail end) where
    at_prefix : (d r : List (Event R Y)) → d ++ r ≡ h → Now h end d r
    at_prefix d r is = events_on on_from b safe h end run.replays d r [] is (λ u. subst (λ es. Standing (begin h u) (end u) [] es) (ap (part u) (sym is)) (begin_now (begin h u) (begin_s h u) (trail u) (end u) (part u h) (together h u) (run.leaves u)))

    legal_front : (d r : List (Event R Y)) → d ++ r ≡ h → Legal o on.naming on.meaning begin d
    legal_front d r is = legal_now b h end d r is (replays_front o o.first d r (subst (Replays o o.first) (sym is) run.replays)) (at_prefix d r is)

    legal_at_end : Legal o on.naming on.meaning begin h
    legal_at_end = legal_front h [] (append-nil h)

    -- every loose run of threads that keep to their processes is sound
    pub loose_is_sound : IsSound o on.naming on.meaning on.want begin begin_s on.words h end
    loose_is_sound = record {
      legal = legal_at_end;
      goes_on = λ u s is stuck. thread_fine on_from (begin h u) (begin_s h u) (end u) u h (part u h) (together h u) (at_prefix h [] (append-nil h) u) (λ p started. safe.goes_on h legal_at_end u p started) (λ p started. safe.taken h legal_at_end u p started) s is stuck;
    }

    alive_in : (u : ℕ) (p : Act M T R Y F) → begin h u ≡ Some p → IsAliveOn on At p (part u h)
    alive_in u p started front [] q e talk x = safe.goes_on h legal_at_end u p started q (subst (λ es. Talk on.naming on.meaning p es q) (sym (e ∙ append-nil front)) talk) x
    alive_in u p started front (y ∷ back) q e talk x =
        let c = cut u h front y back e in
        let replays = subst (Replays o o.first) (sym c.whole) run.replays in
        let k = b.known c.front c.event.thread c.event.request c.event.reply (replays_front o o.first c.front (c.event ∷ c.back) replays) (replays_at o o.first c.front c.event c.back replays) in
        let here : begin c.front u ≡ Some k.0 = subst (λ v. begin c.front v ≡ Some k.0) (eqb-true c.event.thread u c.its) k.1 in
        let there : begin h u ≡ Some k.0 = subst (λ l. begin l u ≡ Some k.0) c.whole (b.grows c.front (c.event ∷ c.back) u k.0 here) in
        safe.goes_on c.front (legal_front c.front (c.event ∷ c.back) c.whole) u p (here ∙ sym there ∙ started) q (subst (λ es. Talk on.naming on.meaning p es q) (sym c.is) talk) x

    advanced : (u : ℕ) (p : Act M T R Y F) (s : S) (op : Option (Act M T R Y F)) (os : Option S) → Together op os → Leaves on.want on.words os (trail u) (end u) (part u h) → IsAliveOn on At p (part u h) → op ≡ Some p → os ≡ Some s → Advances on.naming on.meaning on.want on.gain on.words p s (trail u) (end u) (part u h)
    advanced u p s None os t l alive e e' = absurd (cc e)
    advanced u p s (Some a) None t l alive e e' = absurd (cc e')
    advanced u p s (Some a) (Some c) t l alive e e' =
        let ts : Turns on.want on.words s (trail u) (end u) = subst (λ z. Turns on.want on.words z (trail u) (end u)) (cc e') l.0 in
        let k : Keeps on At false 0 p s = subst (λ z. Keeps on At false 0 p z) (cc e') (subst (λ z. Keeps on At false 0 z c) (cc e) t) in
        let r = progress on At on_from ts 0 p (subst (IsAliveOn on At p) (sym l.1) alive) k in
        paid_for u p s ts (part u h) l.1 r
      where
        paid_for : (u : ℕ) (p : Act M T R Y F) (s : S) (ts : Turns on.want on.words s (trail u) (end u)) (es : List (Exchange R Y)) → requests_in (trail u) ≡ es → Paid on At 0 p ts → Advances on.naming on.meaning on.want on.gain on.words p s (trail u) (end u) es
        paid_for u p s ts es e r = subst (λ fs. Advances on.naming on.meaning on.want on.gain on.words p s (trail u) (end u) fs) e (record { turns = ts; to = r.q; talk = r.talk; paid = omega (arith, r.paid) })

    -- the turns of each begun thread are paid for
    pub loose_progress : (u : ℕ) (p : Act M T R Y F) (s : S) → begin h u ≡ Some p → begin_s h u ≡ Some s → Advances on.naming on.meaning on.want on.gain on.words p s (trail u) (end u) (part u h)
    loose_progress u p s e e' = advanced u p s (begin h u) (begin_s h u) (together h u) (run.leaves u) (alive_in u p e) e e'
