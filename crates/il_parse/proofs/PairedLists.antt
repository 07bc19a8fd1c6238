-- Lists whose items are in a relation place by place.
use Rattle.std.proofs.Common.{◌≡◌, ℕ, suc, ◌+◌, List, [], ◌∷◌, ◌++◌, length, map, refl, sym, ap, subst, ◌∙◌}
use Rattle.il_model.specs.Names.{Each, end, both}
use Rattle.il_model.specs.LookUp.{numbers_from}

-- the first of each, and those behind them
pub record EachFirst {A B : Type 0} (R : A → B → Type 0) (x : A) (xs : List A) (zs : List B) : Type 0 where
  pub first : B
  pub rest : List B
  pub split : zs ≡ first ∷ rest
  pub is : R x first
  pub are : Each R xs rest

pub each_first : {A B : Type 0} (R : A → B → Type 0) (x : A) (xs : List A) (zs : List B) → Each R (x ∷ xs) zs → EachFirst R x xs zs
each_first R x xs zs (both a b us vs is are) = record { first = b; rest = vs; split = refl; is = is; are = are }

pub each_none : {A B : Type 0} (R : A → B → Type 0) (zs : List B) → Each R [] zs → zs ≡ []
each_none R zs end = refl

pub each_joined : {A B : Type 0} (R : A → B → Type 0) (xs ys : List A) (us vs : List B) → Each R xs us → Each R ys vs → Each R (xs ++ ys) (us ++ vs)
each_joined R xs ys us vs end q = q
each_joined R xs ys us vs (both x a xs1 us1 is are) q = both x a (xs1 ++ ys) (us1 ++ vs) is (each_joined R xs1 ys us1 vs are q)

-- those of the front, and those behind them
pub record EachSplit {A B : Type 0} (R : A → B → Type 0) (xs ys : List A) (zs : List B) : Type 0 where
  pub front : List B
  pub back : List B
  pub split : zs ≡ front ++ back
  pub first : Each R xs front
  pub second : Each R ys back

pub each_split : {A B : Type 0} (R : A → B → Type 0) (xs ys : List A) (zs : List B) → Each R (xs ++ ys) zs → EachSplit R xs ys zs
each_split R [] ys zs are = record { front = []; back = zs; split = refl; first = end; second = are }
each_split R (x ∷ xs) ys zs are =
    let f = each_first R x (xs ++ ys) zs are in
    let r = each_split R xs ys f.rest f.are in
    record {
      front = f.first ∷ r.front;
      back = r.back;
      split = f.split ∙ ap (λ us. f.first ∷ us) r.split;
      first = both x f.first xs r.front f.is r.first;
      second = r.second;
    }

pub each_mapped : {A B C : Type 0} (R : C → B → Type 0) (f : A → C) (xs : List A) (ys : List B) → Each (λ x y. R (f x) y) xs ys → Each R (map f xs) ys
each_mapped R f xs ys end = end
each_mapped R f xs ys (both x y us vs is are) = both (f x) y (map f us) vs is (each_mapped R f us vs are)

pub each_unmapped : {A B C : Type 0} (R : C → B → Type 0) (f : A → C) (xs : List A) (ys : List B) → Each R (map f xs) ys → Each (λ x y. R (f x) y) xs ys
each_unmapped R f [] ys are = subst (Each (λ x y. R (f x) y) []) (sym (each_none R ys are)) end
each_unmapped R f (x ∷ xs) ys are =
    let r = each_first R (f x) (map f xs) ys are in
    subst (Each (λ x y. R (f x) y) (x ∷ xs)) (sym r.split) (both x r.first xs r.rest r.is (each_unmapped R f xs r.rest r.are))

pub each_length : {A B : Type 0} (R : A → B → Type 0) (xs : List A) (ys : List B) → Each R xs ys → length xs ≡ length ys
each_length R xs ys end = refl
each_length R xs ys (both x y us vs is are) = ap suc (each_length R us vs are)

-- as many numbers for the one list as for the other
pub each_numbers : {A B : Type 0} (R : A → B → Type 0) (first : ℕ) (xs : List A) (ys : List B) → Each R xs ys → numbers_from first xs ≡ numbers_from first ys
each_numbers R first xs ys end = refl
each_numbers R first xs ys (both x y us vs is are) = ap (λ ns. first ∷ ns) (each_numbers R (first + 1) us vs are)

pub each_weaker : {A B : Type 0} (R S : A → B → Type 0) → ((x : A) (y : B) → R x y → S x y) → (xs : List A) (ys : List B) → Each R xs ys → Each S xs ys
each_weaker R S weaker xs ys end = end
each_weaker R S weaker xs ys (both x y us vs is are) = both x y us vs (weaker x y is) (each_weaker R S weaker us vs are)
