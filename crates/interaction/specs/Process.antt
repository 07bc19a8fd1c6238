-- A process: what is left of one instruction, as a tree, and what the process says when it is answered. This project's own, after interaction trees.
use Rattle.std.specs.Prelude.{◌≡◌, ℕ, suc, List, [], ◌∷◌, Option, Some, None}

-- a request with its reply
pub record Exchange (R Y : Type 0) : Type 0 where
  pub request : R
  pub reply : Y

-- a naming: the number that a mention has, and the tree that a number has
pub record Naming (M T : Type 0) : Type 0 where
  pub value_of : M → Option ℕ
  pub tree_at : ℕ → Option T

-- What is left to do: go on to the next instruction from these frames, settle a mention and use its number,
-- use the tree of a number, make a request and use its reply, or nothing. `Stuck` is where there is no rule.
pub data Act (M T R Y F : Type 0) : Type 0 where
  Next : F → Act M T R Y F
  Settle : M → (ℕ → Act M T R Y F) → Act M T R Y F
  Spell : ℕ → (T → Act M T R Y F) → Act M T R Y F
  Ask : R → (Y → Act M T R Y F) → Act M T R Y F
  Over : Act M T R Y F
  Stuck : Act M T R Y F

-- no rule, or a number that names nothing; a mention without a number only waits
abbrev pub Halts : {M T R Y F : Type 0} → Naming M T → Act M T R Y F → Type 0
Halts n (Next f) = ⊥
Halts n (Settle m k) = ⊥
Halts n (Spell i k) = n.tree_at i ≡ None
Halts n (Ask r k) = ⊥
Halts n Over = ⊥
Halts n Stuck = Unit {0}

-- Under the naming the process goes from `p` to `q`, and makes just these requests when it gets these replies.
pub data Talk {M T R Y F : Type 0} (n : Naming M T) (meaning : F → Act M T R Y F) : Act M T R Y F → List (Exchange R Y) → Act M T R Y F → Type 0 where
  rests : {p : Act M T R Y F} → Talk n meaning p [] p
  begins : {f : F} {q : Act M T R Y F} {es : List (Exchange R Y)} → Talk n meaning (meaning f) es q → Talk n meaning (Next f) es q
  settles : {m : M} {k : ℕ → Act M T R Y F} {v : ℕ} {q : Act M T R Y F} {es : List (Exchange R Y)} → n.value_of m ≡ Some v → Talk n meaning (k v) es q → Talk n meaning (Settle m k) es q
  spells : {i : ℕ} {k : T → Act M T R Y F} {t : T} {q : Act M T R Y F} {es : List (Exchange R Y)} → n.tree_at i ≡ Some t → Talk n meaning (k t) es q → Talk n meaning (Spell i k) es q
  asks : {r : R} {k : Y → Act M T R Y F} {y : Y} {q : Act M T R Y F} {es : List (Exchange R Y)} → Talk n meaning (k y) es q → Talk n meaning (Ask r k) (record { request = r; reply = y } ∷ es) q

-- how many instructions it began, and how many mentions it settled, in all
abbrev pub steps_of : {M T R Y F : Type 0} {n : Naming M T} {meaning : F → Act M T R Y F} {p q : Act M T R Y F} {es : List (Exchange R Y)} → Talk n meaning p es q → ℕ
steps_of rests = 0
steps_of (begins t) = suc (steps_of t)
steps_of (settles e t) = suc (steps_of t)
steps_of (spells e t) = steps_of t
steps_of (asks t) = steps_of t

-- the mentions that it settled, in order
abbrev pub mentions_of : {M T R Y F : Type 0} {n : Naming M T} {meaning : F → Act M T R Y F} {p q : Act M T R Y F} {es : List (Exchange R Y)} → Talk n meaning p es q → List M
mentions_of rests = []
mentions_of (begins t) = mentions_of t
mentions_of (settles {m = m} e t) = m ∷ mentions_of t
mentions_of (spells e t) = mentions_of t
mentions_of (asks t) = mentions_of t

-- the second naming has all that the first one has
pub record Larger {M T : Type 0} (n n' : Naming M T) : Type 0 where
  pub values : (m : M) (v : ℕ) → n.value_of m ≡ Some v → n'.value_of m ≡ Some v
  pub trees : (i : ℕ) (t : T) → n.tree_at i ≡ Some t → n'.tree_at i ≡ Some t
