-- What looking up in steps gives: what each step found.
use Rattle.std.proofs.Common.{◌≡◌, Bool, true, false, List, [], ◌∷◌, ◌++◌, Option, Some, None, Ok, Err, refl, sym, ap, subst, ◌∙◌, append_assoc, append-nil}
use Rattle.std.proofs.lemmas.Bool.{true≢false}
use Rattle.il_model.specs.declared.written.WrittenName.{WrittenName}
use Rattle.il_model.specs.Names.{Each, end, both, Perhaps, neither, each}
use Rattle.il_parse.specs.declared.fault.Fault.{Fault}
use Rattle.il_parse.specs.Looking.{Look, ◌>>=◌, found_or_unknown, each_from, each_of, perhaps_of}

abbrev if_found : {A : Type 0} → A → Look A → A
if_found x (Ok y) = y
if_found x (Err f) = x

abbrev is_found : {A : Type 0} → Look A → Bool
is_found (Ok y) = true
is_found (Err f) = false

pub refused : {A : Type 0} {C : Type 0} (f : Fault) (y : A) → (let r : Look A = Err f in r ≡ Ok y) → C
refused f y e = absurd (true≢false (sym (ap is_found e)))

pub given : {A : Type 0} (x y : A) → (let r : Look A = Ok x in r ≡ Ok y) → x ≡ y
given x y e = ap (if_found x) e

-- a fact that follows from what each of two steps found
pub looked : {A B C : Type 0} (r : Look A) (next : A → Look B) (y : B) → r >>= next ≡ Ok y → ((x : A) → r ≡ Ok x → next x ≡ Ok y → C) → C
looked (Ok x) next y e go = go x refl e
looked (Err f) next y e go = refused f y e

-- one step, and what is found behind it
pub by_look : {A B : Type 0} (r : Look A) (next : A → Look B) (y : Look B) (x : A) → r ≡ Ok x → next x ≡ y → r >>= next ≡ y
by_look r next y x first second = ap (λ s. s >>= next) first ∙ second

pub known_is : {A : Type 0} (o : Option A) (name : WrittenName) (x : A) → found_or_unknown o name ≡ Ok x → o ≡ Some x
known_is None name x e = refused _ x e
known_is (Some y) name x e = ap Some (given y x e)

-- what was found behind what was found before
pub record Behind {A B : Type 0} (R : A → B → Type 0) (found : List B) (xs : List A) (ys : List B) : Type 0 where
  pub items : List B
  pub all : ys ≡ found ++ items
  pub are : Each R xs items

pub each_sound : {A B : Type 0} (R : A → B → Type 0) (look : A → Look B) → ((x : A) (y : B) → look x ≡ Ok y → R x y) →
    (found : List B) (xs : List A) (ys : List B) → each_from look found xs ≡ Ok ys → Behind R found xs ys
unfolding each_from
each_sound R look sound found [] ys e = record { items = []; all = sym (given found ys e) ∙ sym (append-nil found); are = end }
each_sound R look sound found (x ∷ xs) ys e =
    looked (look x) _ ys e (λ y e0 e1.
    let rest = each_sound R look sound (found ++ y ∷ []) xs ys e1 in
    record { items = y ∷ rest.items; all = rest.all ∙ append_assoc found (y ∷ []) rest.items; are = both x y xs rest.items (sound x y e0) rest.are })

pub each_of_sound : {A B : Type 0} (R : A → B → Type 0) (look : A → Look B) → ((x : A) (y : B) → look x ≡ Ok y → R x y) →
    (xs : List A) (ys : List B) → each_of look xs ≡ Ok ys → Each R xs ys
unfolding each_of
each_of_sound R look sound xs ys e = let b = each_sound R look sound [] xs ys e in subst (Each R xs) (sym b.all) b.are

pub each_complete : {A B : Type 0} (R : A → B → Type 0) (look : A → Look B) → ((x : A) (y : B) → R x y → look x ≡ Ok y) →
    (found : List B) (xs : List A) (ys : List B) → Each R xs ys → each_from look found xs ≡ Ok (found ++ ys)
unfolding each_from
each_complete R look complete found xs ys end = ap Ok (sym (append-nil found))
each_complete R look complete found xs ys (both x y ws zs is rest) =
    by_look (look x) _ _ y (complete x y is) (each_complete R look complete (found ++ y ∷ []) ws zs rest ∙ ap Ok (append_assoc found (y ∷ []) zs))

pub each_of_complete : {A B : Type 0} (R : A → B → Type 0) (look : A → Look B) → ((x : A) (y : B) → R x y → look x ≡ Ok y) →
    (xs : List A) (ys : List B) → Each R xs ys → each_of look xs ≡ Ok ys
unfolding each_of
each_of_complete R look complete xs ys are = each_complete R look complete [] xs ys are

pub perhaps_sound : {A B : Type 0} (R : A → B → Type 0) (look : A → Look B) (o : Option A) (p : Option B) →
    ((x : A) (y : B) → o ≡ Some x → look x ≡ Ok y → R x y) → perhaps_of look o ≡ Ok p → Perhaps R o p
perhaps_sound R look None p sound e = subst (Perhaps R None) (given None p e) neither
perhaps_sound R look (Some x) p sound e =
    looked (look x) _ p e (λ y e0 e1. subst (Perhaps R (Some x)) (given (Some y) p e1) (each x y (sound x y refl e0)))

pub perhaps_complete : {A B : Type 0} (R : A → B → Type 0) (look : A → Look B) (o : Option A) (p : Option B) →
    ((x : A) (y : B) → o ≡ Some x → R x y → look x ≡ Ok y) → Perhaps R o p → perhaps_of look o ≡ Ok p
perhaps_complete R look o p complete neither = refl
perhaps_complete R look o p complete (each x y is) = by_look (look x) _ _ y (complete x y refl is) refl
