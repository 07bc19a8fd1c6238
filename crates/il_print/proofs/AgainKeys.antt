-- Lexemes whose keys are known, taken apart.
use Rattle.std.proofs.Common.{◌≡◌, List, [], ◌∷◌, ◌++◌, map, refl, ap, ◌∙◌, false}
use Rattle.il_model.specs.Lexemes.{Lexeme, Is, IsName, is_among}
use Rattle.il_model.specs.Canonical.{Word}
use Rattle.il_print.proofs.Keys.{Key, key_of, quoted, name_key}

-- a front with the first keys, and what stands behind it
pub record KeysSplit (ls : List Lexeme) (a b : List Key) : Type 0 where
  pub front : List Lexeme
  pub back : List Lexeme
  pub split : ls ≡ front ++ back
  pub first : map key_of front ≡ a
  pub second : map key_of back ≡ b

-- a lexeme with the first key, and what stands behind it
pub record KeysFirst (ls : List Lexeme) (k : Key) (ks : List Key) : Type 0 where
  pub lexeme : Lexeme
  pub rest : List Lexeme
  pub split : ls ≡ lexeme ∷ rest
  pub is : key_of lexeme ≡ k
  pub are : map key_of rest ≡ ks

first_or : Key → List Key → Key
first_or k [] = k
first_or k (x ∷ xs) = x

behind_first : List Key → List Key
behind_first [] = []
behind_first (x ∷ xs) = xs

pub keys_first : (ls : List Lexeme) (k : Key) (ks : List Key) → map key_of ls ≡ k ∷ ks → KeysFirst ls k ks
unfolding first_or behind_first
keys_first [] k ks e = absurd cc
keys_first (l ∷ ls) k ks e = record { lexeme = l; rest = ls; split = refl; is = ap (first_or k) e; are = ap behind_first e }

pub keys_none : (ls : List Lexeme) → map key_of ls ≡ [] → ls ≡ []
keys_none [] e = refl
keys_none (l ∷ ls) e = absurd cc

pub keys_split : (ls : List Lexeme) (a b : List Key) → map key_of ls ≡ a ++ b → KeysSplit ls a b
keys_split ls [] b e = record { front = []; back = ls; split = refl; first = refl; second = e }
keys_split ls (k ∷ a) b e =
    let f = keys_first ls k (a ++ b) e in
    let r = keys_split f.rest a b f.are in
    record {
      front = f.lexeme ∷ r.front;
      back = r.back;
      split = f.split ∙ ap (λ z. f.lexeme ∷ z) r.split;
      first = ap (λ x. x ∷ map key_of r.front) f.is ∙ ap (λ z. k ∷ z) r.first;
      second = r.second;
    }

-- one lexeme alone
pub record KeysOne (ls : List Lexeme) (k : Key) : Type 0 where
  pub lexeme : Lexeme
  pub split : ls ≡ lexeme ∷ []
  pub is : key_of lexeme ≡ k

pub keys_one : (ls : List Lexeme) (k : Key) → map key_of ls ≡ k ∷ [] → KeysOne ls k
keys_one ls k e =
    let f = keys_first ls k [] e in
    record { lexeme = f.lexeme; split = f.split ∙ ap (λ z. f.lexeme ∷ z) (keys_none f.rest f.are); is = f.is }

-- the lexeme is this word or mark
pub is_quoted : (w : Word) (l : Lexeme) → key_of l ≡ quoted w → Is w l
is_quoted w l e = ap (λ k. k.bytes) e

-- the lexeme is this name, where no quoted word is
pub is_name : (words : List Word) (w : Word) (l : Lexeme) → key_of l ≡ name_key w → is_among words w ≡ false → IsName words l
is_name words w l e free = record { word = ap (λ k. k.kind) e; free = ap (λ k. is_among words k.bytes) e ∙ free }
