-- Talks: one after another, under a larger naming, and that replies leave no choice.
use Rattle.std.proofs.Common.{◌≡◌, ℕ, Option, Some, None, ◌+◌, List, [], ◌∷◌, ◌++◌, sym, ap, subst, arith, ◌⊎◌, inl, inr}
use Rattle.interaction.specs.Process.{Act, Exchange, Naming, Talk, Larger, rests, begins, settles, spells, asks, steps_of}
use Rattle.interaction.specs.Process as process
use Rattle.interaction.specs.declared.history.Event.{Event}
use Rattle.interaction.specs.Object.{Sequential}
use Rattle.interaction.specs.History.{Legal, Talks, part}

-- one talk after another
pub talk_on : {M T R Y F : Type 0} {n : Naming M T} {meaning : F → Act M T R Y F} {p q r : Act M T R Y F} {es fs : List (Exchange R Y)} → Talk n meaning p es q → Talk n meaning q fs r → Talk n meaning p (es ++ fs) r
talk_on rests u = u
talk_on (begins t) u = begins (talk_on t u)
talk_on (settles e t) u = settles e (talk_on t u)
talk_on (spells e t) u = spells e (talk_on t u)
talk_on (asks t) u = asks (talk_on t u)

-- their steps add up
pub steps_of-talk_on : {M T R Y F : Type 0} {n : Naming M T} {meaning : F → Act M T R Y F} {p q r : Act M T R Y F} {es fs : List (Exchange R Y)} (t : Talk n meaning p es q) (u : Talk n meaning q fs r) → steps_of (talk_on t u) ≡ steps_of t + steps_of u
unfolding talk_on
steps_of-talk_on rests u = omega arith
steps_of-talk_on (begins t) u = let e = steps_of-talk_on t u in omega arith
steps_of-talk_on (settles v t) u = let e = steps_of-talk_on t u in omega arith
steps_of-talk_on (spells v t) u = steps_of-talk_on t u
steps_of-talk_on (asks t) u = steps_of-talk_on t u

-- a talk stands under a larger naming
pub talk_larger : {M T R Y F : Type 0} {n n' : Naming M T} {meaning : F → Act M T R Y F} → Larger n n' → {p q : Act M T R Y F} {es : List (Exchange R Y)} → Talk n meaning p es q → Talk n' meaning p es q
talk_larger l rests = rests
talk_larger l (begins t) = begins (talk_larger l t)
talk_larger l (settles {m = m} {v = v} e t) = settles (l.values m v e) (talk_larger l t)
talk_larger l (spells {i = i} {t = a} e t) = spells (l.trees i a e) (talk_larger l t)
talk_larger l (asks t) = asks (talk_larger l t)

first_reply : {R Y : Type 0} (a b : Exchange R Y) (es fs : List (Exchange R Y)) → a ∷ es ≡ b ∷ fs → a.reply ≡ b.reply
first_reply a b es fs e = let h : a ≡ b = cc e in ap (λ x. x.reply) h

-- Two talks of one start with the same replies: one goes on to where the other is, and asks nothing on the way.
pub one_way : {M T R Y F : Type 0} {n : Naming M T} {meaning : F → Act M T R Y F} {p q : Act M T R Y F} {es : List (Exchange R Y)} → Talk n meaning p es q → (o : Act M T R Y F) (fs : List (Exchange R Y)) → es ≡ fs → Talk n meaning p fs o → Talk n meaning q [] o ⊎ Talk n meaning o [] q
one_way {n = n} {meaning = meaning} {p = p} rests o fs e u = inl (subst (λ es. Talk n meaning p es o) (sym e) u)
one_way {n = n} {meaning = meaning} {q = q} (begins {f = f} t) o _ e rests = inr (subst (λ es. Talk n meaning (process.Next f) es q) e (begins t))
one_way (begins t) o fs e (begins u) = one_way t o fs e u
one_way {n = n} {meaning = meaning} {q = q} (settles {m = m} {k = k} v t) o _ e rests = inr (subst (λ es. Talk n meaning (process.Settle m k) es q) e (settles v t))
one_way {n = n} {meaning = meaning} (settles {k = k} v t) o fs e (settles v' u) = one_way t o fs e (subst (λ a. Talk n meaning (k a) fs o) (cc (v, v')) u)
one_way {n = n} {meaning = meaning} {q = q} (spells {i = i} {k = k} v t) o _ e rests = inr (subst (λ es. Talk n meaning (process.Spell i k) es q) e (spells v t))
one_way {n = n} {meaning = meaning} (spells {k = k} v t) o fs e (spells v' u) = one_way t o fs e (subst (λ a. Talk n meaning (k a) fs o) (cc (v, v')) u)
one_way (asks t) o _ e rests = absurd (cc e)
one_way {n = n} {meaning = meaning} (asks {k = k} t) o _ e (asks {es = fs} u) = one_way t o fs (cc e) (subst (λ y. Talk n meaning (k y) fs o) (sym (first_reply _ _ _ _ e)) u)

-- a legal history stays legal under a larger naming
pub legal_larger : {M T R Y F X : Type 0} {o : Sequential R Y X} {n n' : Naming M T} {meaning : F → Act M T R Y F} {begin : List (Event R Y) → ℕ → Option (Act M T R Y F)} {h : List (Event R Y)} → Larger n n' → Legal o n meaning begin h → Legal o n' meaning begin h
legal_larger {n = n} {n' = n'} {meaning = meaning} {begin = begin} {h = h} l legal = record { replays = legal.replays; talks = λ u. by_begun (begin h u) (part u h) (legal.talks u) }
  where
    by_begun : (p : Option (Act _ _ _ _ _)) (es : List (Exchange _ _)) → Talks n meaning p es → Talks n' meaning p es
    by_begun None es t = t
    by_begun (Some p) es t = (t.0, talk_larger l t.1)
