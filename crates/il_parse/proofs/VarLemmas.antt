-- Looking up type variables one after another.
use Rattle.std.proofs.Common.{◌≡◌, ◌∙◌, ℕ, Bool, true, false, ◌+◌, ◌<◌, ◌≤◌, if◌then◌else◌, List, [], ◌∷◌, ◌++◌, length, drop, slice_index_or, Ok, Err, refl, sym, ap, arith}
use Rattle.type_tree.specs.declared.tree.TExpr.{TExpr}
use Rattle.std.proofs.lemmas.List.{length-append}
use Rattle.std.proofs.Math.ListN.{drop_of_length-le}
use Rattle.il_model.specs.declared.class.VarDef.{VarDef}
use Rattle.il_model.specs.declared.written.WrittenVar.{WrittenVar}
use Rattle.il_model.specs.Lexemes.{is_among}
use Rattle.il_model.specs.Names.{Scope}
use Rattle.il_parse.specs.Looking.{Look, ◌>>=◌, once, repeated}
use Rattle.il_parse.specs.NamedTypes.{types_named, vars_named_from, vars_named}
use Rattle.il_parse.proofs.EachLemmas.{seam}

by_once : {A : Type 0} (b : Bool) (at : ℕ) (r : Look A) → (if b then repeated at else r) ≡ (once b at >>= (λ _. r))
by_once true at r = refl
by_once false at r = refl

module _ (s : Scope) (met : List (List ℕ)) (found : List VarDef) (xs : List WrittenVar) (i : ℕ) where
  pub vars_end : length xs ≤ i → vars_named_from s met found (drop i xs) ≡ Ok found
  unfolding vars_named_from
  vars_end past = ap (vars_named_from s met found) (drop_of_length-le xs past)

  pub vars_next : (v : WrittenVar) → i < length xs → v ≡ slice_index_or xs i v →
      vars_named_from s met found (drop i xs) ≡
      (once (is_among met v.name.name) v.name.at >>= (λ _. types_named s v.bounds >>= (λ ts.
      vars_named_from s (v.name.name ∷ met) (found ++ record { name = v.name.name; bounds = ts } ∷ []) (drop (i + 1) xs))))
  unfolding vars_named_from
  vars_next v inside is = ap (vars_named_from s met found) (seam xs i v inside is) ∙ by_once (is_among met v.name.name) v.name.at _

vars_from_length : (s : Scope) (met : List (List ℕ)) (found : List VarDef) (ws : List WrittenVar) (vs : List VarDef) →
    vars_named_from s met found ws ≡ Ok vs → length vs ≡ length found + length ws
unfolding vars_named_from
vars_from_length s met found [] vs e = let same : found ≡ vs = cc in let count : length found ≡ length found + 0 = omega arith in sym (ap length same) ∙ count
vars_from_length s met found (v ∷ ws) vs e =
    by (is_among met v.name.name) (types_named s v.bounds)
    (λ ts. vars_from_length s (v.name.name ∷ met) (found ++ record { name = v.name.name; bounds = ts } ∷ []) ws vs) e
  where
    by : (b : Bool) (r : Look (List TExpr)) →
        ((ts : List TExpr) → vars_named_from s (v.name.name ∷ met) (found ++ record { name = v.name.name; bounds = ts } ∷ []) ws ≡ Ok vs →
        length vs ≡ length (found ++ record { name = v.name.name; bounds = ts } ∷ []) + length ws) →
        (if b then repeated v.name.at
        else r >>= (λ ts. vars_named_from s (v.name.name ∷ met) (found ++ record { name = v.name.name; bounds = ts } ∷ []) ws)) ≡ Ok vs →
        length vs ≡ length found + length (v ∷ ws)
    by true r rest e = absurd cc
    by false (Err fault) rest e = absurd cc
    by false (Ok ts) rest e =
        let more : length (found ++ record { name = v.name.name; bounds = ts } ∷ []) ≡ length found + 1 = length-append found (record { name = v.name.name; bounds = ts } ∷ []) in
        let all : length vs ≡ length (found ++ record { name = v.name.name; bounds = ts } ∷ []) + length ws = rest ts e in
        omega (arith, more, all)

-- there are as many type variables as are written
pub vars_length : (s : Scope) (ws : List WrittenVar) (vs : List VarDef) → vars_named s ws ≡ Ok vs → length vs ≡ length ws
unfolding vars_named
vars_length s ws vs e = let count : length vs ≡ 0 + length ws = vars_from_length s [] [] ws vs e in omega (arith, count)
