-- What reading in steps gives: the parts one after another.
use Rattle.std.proofs.Common.{◌≡◌, ℕ, Bool, true, false, if◌then◌else◌, List, [], ◌∷◌, ◌++◌, drop, Ok, Err, refl, sym, ap, subst, ◌∙◌, append_assoc, bytes_eq}
use Rattle.std.proofs.lemmas.Bool.{true≢false}
use Rattle.std.proofs.lemmas.Slice.Eq.{bytes_eq-Decides}
use Rattle.std.specs.List.{AllByRecursion}
use Rattle.il_text.specs.Spelling.{spells}
use Rattle.il_model.specs.Lexemes.{Lexeme, Is}
use Rattle.il_parse.specs.declared.fault.Fault.{Fault}
use Rattle.il_parse.specs.Reading.{Read, Reader, and_then, sees, after, expect, stuck_fault}

-- what was read in front of lexemes is in this relation, and those behind it remain
pub record Took {A : Type 0} (P : List Lexeme → A → Type 0) (ws : List Lexeme) (x : A) (back : List Lexeme) : Type 0 where
  pub front : List Lexeme
  pub split : ws ≡ front ++ back
  pub holds : P front x

abbrev pub Sound : {A : Type 0} → Reader A → (List Lexeme → A → Type 0) → Type 0
Sound {A} r P = (ws : List Lexeme) (x : A) (back : List Lexeme) → r ws ≡ Ok (x, back) → Took P ws x back

-- the first part and the next
pub record Bound {A B : Type 0} (r : Read A) (next : A → Reader B) (y : B) (back : List Lexeme) : Type 0 where
  pub value : A
  pub mid : List Lexeme
  pub first : r ≡ Ok (value, mid)
  pub second : next value mid ≡ Ok (y, back)

abbrev if_ok : {A : Type 0} → A → Read A → A × List Lexeme
if_ok x (Ok p) = p
if_ok x (Err f) = (x, [])

abbrev is_read : {A : Type 0} → Read A → Bool
is_read (Ok p) = true
is_read (Err f) = false

pub refusal : {A : Type 0} {C : Type 0} (f : Fault) (x : A) (back : List Lexeme) → (let r : Read A = Err f in r ≡ Ok (x, back)) → C
refusal f x back e = absurd (true≢false (sym (ap is_read e)))

pub value_of : {A : Type 0} (x y : A) (a b : List Lexeme) → (let r : Read A = Ok (x, a) in r ≡ Ok (y, b)) → x ≡ y
value_of x y a b e = ap (λ r. (if_ok x r).0) e

pub rest_of : {A : Type 0} (x y : A) (a b : List Lexeme) → (let r : Read A = Ok (x, a) in r ≡ Ok (y, b)) → a ≡ b
rest_of x y a b e = ap (λ r. (if_ok x r).1) e

pub bound : {A B : Type 0} (r : Read A) (next : A → Reader B) (y : B) (back : List Lexeme) → and_then r next ≡ Ok (y, back) → Bound r next y back
bound (Ok p) next y back e = record { value = p.0; mid = p.1; first = refl; second = e }
bound (Err f) next y back e = refusal f y back e

-- whether a word or mark stands in front
pub data Seen (m : List ℕ) (ws : List Lexeme) : Type 0 where
  there : (l : Lexeme) (rest : List Lexeme) → ws ≡ l ∷ rest → Is m l → sees m ws ≡ true → after m ws ≡ rest → Seen m ws
  absent : sees m ws ≡ false → after m ws ≡ ws → Seen m ws

seen_first : (m : List ℕ) (l : Lexeme) (ws : List Lexeme) (b : Bool) → bytes_eq m l.bytes ≡ b → Seen m (l ∷ ws)
unfolding sees after
seen_first m l ws true e = there l ws refl (sym ((bytes_eq-Decides m l.bytes).0 e)) e (ap (λ b. if b then ws else l ∷ ws) e)
seen_first m l ws false e = absent e (ap (λ b. if b then ws else l ∷ ws) e)

pub seen : (m : List ℕ) (ws : List Lexeme) → Seen m ws
unfolding sees after
seen m [] = absent refl refl
seen m (l ∷ ws) = seen_first m l ws (bytes_eq m l.bytes) refl

-- a word or mark that must stand in front
pub record Expected (m : List ℕ) (ws mid : List Lexeme) : Type 0 where
  pub token : Lexeme
  pub split : ws ≡ token ∷ mid
  pub same : Is m token

expected_if : (m : List ℕ) (ws : List Lexeme) (u : Unit {0}) (mid : List Lexeme) → Seen m ws →
    if◌then◌else◌ {A = Read (Unit {0})} (sees m ws) (Ok (tt, drop 1 ws)) (Err (stuck_fault ws)) ≡ Ok (u, mid) → Expected m ws mid
expected_if m ws u mid (there l rest split same hit behind) e =
    record { token = l; split = split ∙ ap (λ r. l ∷ r) (sym (ap (drop 1) split) ∙ rest_of tt u (drop 1 ws) mid (rw hit at e)); same = same }
expected_if m ws u mid (absent none stays) e = refusal (stuck_fault ws) u mid (rw none at e)

pub expected : (m : List ℕ) (ws : List Lexeme) (u : Unit {0}) (mid : List Lexeme) → expect m ws ≡ Ok (u, mid) → Expected m ws mid
unfolding expect
expected m ws u mid e = expected_if m ws u mid (seen m ws) e

-- what is read part after part is what is read
pub joined : (ws front mid later back : List Lexeme) → ws ≡ front ++ mid → mid ≡ later ++ back → ws ≡ (front ++ later) ++ back
joined ws front mid later back a b = a ∙ ap (λ r. front ++ r) b ∙ sym (append_assoc front later back)

pub led : (ws : List Lexeme) (l : Lexeme) (mid later back : List Lexeme) → ws ≡ l ∷ mid → mid ≡ later ++ back → ws ≡ (l ∷ later) ++ back
led ws l mid later back a b = a ∙ ap (λ r. l ∷ r) b

-- a fact that follows from what each of two parts gives
pub stepped : {A B C : Type 0} (r : Read A) (next : A → Reader B) (y : B) (back : List Lexeme) → and_then r next ≡ Ok (y, back) →
    ((x : A) (mid : List Lexeme) → r ≡ Ok (x, mid) → next x mid ≡ Ok (y, back) → C) → C
stepped (Ok p) next y back e go = go p.0 p.1 refl e
stepped (Err f) next y back e go = refusal f y back e

-- the same where a word or mark must stand first
pub stepped_over : {B C : Type 0} (m : List ℕ) (ws : List Lexeme) (next : Unit {0} → Reader B) (y : B) (back : List Lexeme) → and_then (expect m ws) next ≡ Ok (y, back) →
    ((l : Lexeme) (mid : List Lexeme) → ws ≡ l ∷ mid → Is m l → next tt mid ≡ Ok (y, back) → C) → C
stepped_over m ws next y back e go =
    stepped (expect m ws) next y back e (λ u mid e1 e2. let x = expected m ws u mid e1 in go x.token mid x.split x.same e2)

-- one step of reading, and what is read behind it
pub by_step : {A B : Type 0} (r : Read A) (next : A → Reader B) (y : Read B) (x : A) (mid : List Lexeme) → r ≡ Ok (x, mid) → next x mid ≡ y → and_then r next ≡ y
by_step r next y x mid first second = ap (λ s. and_then s next) first ∙ second

-- each lexeme spells a token of its kind
abbrev pub AreSpelled : List Lexeme → Type 0
AreSpelled ws = AllByRecursion (λ (l : Lexeme). spells l.kind l.bytes ≡ true) ws

pub spelled-append : (a b : List Lexeme) → AreSpelled (a ++ b) → AreSpelled a × AreSpelled b
spelled-append [] b s = (tt, s)
spelled-append (l ∷ a) b s = let r = spelled-append a b s.1 in ((s.0, r.0), r.1)

-- what remains is spelled where all is
pub spelled_rest : (ws front mid : List Lexeme) → ws ≡ front ++ mid → AreSpelled ws → AreSpelled mid
spelled_rest ws front mid split s = (spelled-append front mid (subst AreSpelled split s)).1

-- what is read behind a step that is known
pub next_of : {A B : Type 0} (r : Read A) (next : A → Reader B) (y : Read B) (x : A) (mid : List Lexeme) → r ≡ Ok (x, mid) → and_then r next ≡ y → next x mid ≡ y
next_of r next y x mid first whole = sym (ap (λ s. and_then s next) first) ∙ whole
