-- Places in a list stay while it grows at its end.
use Rattle.std.proofs.Common.{◌≡◌, ℕ, zero, suc, ◌+◌, ◌<◌, ◌≤◌, List, [], ◌∷◌, ◌++◌, length, map, take, get_or, slice_get, Option, Some, None, refl, sym, ap, ◌∙◌, subst, append_assoc, arith}
use Rattle.std.proofs.lemmas.List.{map-append, take_more}
use Rattle.type_tree.specs.declared.tree.TExpr.{TExpr}
use Rattle.il_model.specs.declared.program.Program.{Program}
use Rattle.il_model.specs.Layouts.{parts_of}
use Rattle.type_inst.specs.Sizing.{seen_row, found_parts, parts_seen}
use Rattle.type_inst.specs.Opening.{Extends}

append_none : (xs : List TExpr) → xs ++ [] ≡ xs
append_none [] = refl
append_none (x ∷ xs) = ap (λ ys. x ∷ ys) (append_none xs)

pub extends_itself : (xs : List TExpr) → Extends xs xs
extends_itself xs = record { more = []; is = sym (append_none xs) }

pub extends_by : (xs ys : List TExpr) (t : TExpr) → ys ≡ xs ++ t ∷ [] → Extends xs ys
extends_by xs ys t e = record { more = t ∷ []; is = e }

pub extends_both : (xs ys zs : List TExpr) → Extends xs ys → Extends ys zs → Extends xs zs
extends_both xs ys zs a b = record {
  more = a.more ++ b.more;
  is = b.is ∙ ap (λ us. us ++ b.more) a.is ∙ append_assoc xs a.more b.more;
}

get_more : (xs ys : List TExpr) (k : ℕ) (t : TExpr) → slice_get xs k ≡ Some t → slice_get (xs ++ ys) k ≡ Some t
get_more [] ys k t e = cc
get_more (x ∷ xs) ys zero t e = e
get_more (x ∷ xs) ys (suc k) t e = get_more xs ys k t e

pub kept_at : (xs ys : List TExpr) (k : ℕ) (t : TExpr) → Extends xs ys → slice_get xs k ≡ Some t → slice_get ys k ≡ Some t
kept_at xs ys k t x e = subst (λ zs. slice_get zs k ≡ Some t) (sym x.is) (get_more xs x.more k t e)

-- what is put at the end stands where the list ended
pub get_last : (xs : List TExpr) (t : TExpr) → slice_get (xs ++ t ∷ []) (length xs) ≡ Some t
get_last [] t = refl
get_last (x ∷ xs) t = get_last xs t

pub places_kept : (xs ys : List TExpr) → Extends xs ys → (places : List ℕ) (ts : List TExpr) → map (slice_get xs) places ≡ map Some ts →
    map (slice_get ys) places ≡ map Some ts
places_kept xs ys x [] [] e = refl
places_kept xs ys x [] (t ∷ ts) e = cc
places_kept xs ys x (p ∷ ps) [] e = cc
places_kept xs ys x (p ∷ ps) (t ∷ ts) e =
    let first : slice_get xs p ≡ Some t = cc in
    let rest : map (slice_get xs) ps ≡ map Some ts = cc in
    ap (λ o. o ∷ map (slice_get ys) ps) (kept_at xs ys p t x first) ∙ ap (λ os. Some t ∷ os) (places_kept xs ys x ps ts rest)

-- one place more
pub places_more : (xs ys : List TExpr) (places after : List ℕ) (ts : List TExpr) (i place : ℕ) (t : TExpr) → Extends xs ys →
    map (slice_get xs) places ≡ map Some (take i ts) → i < length ts → t ≡ get_or ts i t → slice_get ys place ≡ Some t →
    after ≡ places ++ place ∷ [] → map (slice_get ys) after ≡ map Some (take (i + 1) ts)
places_more xs ys places after ts i place t x before inside is here put =
    ap (map (slice_get ys)) put
    ∙ map-append (slice_get ys) places (place ∷ [])
    ∙ ap (λ os. os ++ slice_get ys place ∷ []) (places_kept xs ys x places (take i ts) before)
    ∙ ap (λ o. map Some (take i ts) ++ o ∷ []) here
    ∙ sym (map-append Some (take i ts) (t ∷ []))
    ∙ ap (map Some) (sym (take_more ts i t inside ∙ ap (λ u. take i ts ++ u ∷ []) (sym is)))

row_kept : (xs ys : List TExpr) → Extends xs ys → (row : Option (List ℕ)) (parts : Option (List TExpr)) →
    seen_row xs row ≡ found_parts parts → seen_row ys row ≡ found_parts parts
row_kept xs ys x None None e = refl
row_kept xs ys x None (Some ts) e = cc
row_kept xs ys x (Some ps) None e = cc
row_kept xs ys x (Some ps) (Some ts) e = let same : map (slice_get xs) ps ≡ map Some ts = cc in ap Some (places_kept xs ys x ps ts same)

take_front : (xs ys : List TExpr) (i : ℕ) → i ≤ length xs → take i (xs ++ ys) ≡ take i xs
take_front xs ys zero le = refl
take_front [] ys (suc i) le = absurd (omega (arith, le))
take_front (x ∷ xs) ys (suc i) le = ap (λ zs. x ∷ zs) (take_front xs ys i (omega (arith, le)))

pub take_kept : (xs ys : List TExpr) (i : ℕ) → Extends xs ys → i ≤ length xs → take i ys ≡ take i xs
take_kept xs ys i x le = ap (take i) x.is ∙ take_front xs x.more i le

module _ (program : Program) where
  rows_kept : (xs ys : List TExpr) → Extends xs ys → (rows : List (Option (List ℕ))) (ts : List TExpr) →
      map (seen_row xs) rows ≡ map (parts_seen program) ts → map (seen_row ys) rows ≡ map (parts_seen program) ts
  rows_kept xs ys x [] [] e = refl
  rows_kept xs ys x [] (t ∷ ts) e = cc
  rows_kept xs ys x (r ∷ rs) [] e = cc
  rows_kept xs ys x (r ∷ rs) (t ∷ ts) e =
      let first : seen_row xs r ≡ parts_seen program t = cc in
      let rest : map (seen_row xs) rs ≡ map (parts_seen program) ts = cc in
      ap (λ o. o ∷ map (seen_row ys) rs) (row_kept xs ys x r (parts_of program t) first) ∙ ap (λ os. parts_seen program t ∷ os) (rows_kept xs ys x rs ts rest)

  -- what is known once the first so many types have their rows
  pub record Opening (asked : List TExpr) (places : List ℕ) (i : ℕ) (kinds : List TExpr) (rows : List (Option (List ℕ))) : Type 0 where
    pub at : map (slice_get kinds) places ≡ map Some asked
    pub parts : map (seen_row kinds) rows ≡ map (parts_seen program) (take i kinds)

  -- one row more
  pub opening_more : (asked : List TExpr) (places : List ℕ) (i : ℕ) (kinds after : List TExpr) (rows new : List (Option (List ℕ))) (row : Option (List ℕ)) (t : TExpr) →
      Opening asked places i kinds rows → Extends kinds after → i < length kinds → t ≡ get_or kinds i t → seen_row after row ≡ parts_seen program t →
      new ≡ rows ++ row ∷ [] → Opening asked places (i + 1) after new
  opening_more asked places i kinds after rows new row t o x inside is here put =
      let whole : take (i + 1) after ≡ take i kinds ++ t ∷ [] =
      take_kept kinds after (i + 1) x (omega (arith, inside)) ∙ take_more kinds i t inside ∙ ap (λ u. take i kinds ++ u ∷ []) (sym is) in
      record {
        at = places_kept kinds after x places asked o.at;
        parts = ap (map (seen_row after)) put
            ∙ map-append (seen_row after) rows (row ∷ [])
            ∙ ap (λ os. os ++ seen_row after row ∷ []) (rows_kept kinds after x rows (take i kinds) o.parts)
            ∙ ap (λ o. map (parts_seen program) (take i kinds) ++ o ∷ []) here
            ∙ sym (map-append (parts_seen program) (take i kinds) (t ∷ []))
            ∙ ap (map (parts_seen program)) (sym whole);
      }
