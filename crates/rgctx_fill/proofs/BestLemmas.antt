-- The best match among rows, as a function, is the only best match.
use Rattle.std.proofs.Common.{◌≡◌, ◌⊎◌, ⊎_elim, inl, inr, ℕ, zero, suc, ◌+◌, ◌<◌, ◌==◌, ◌++◌, Bool, true, false, nat_lt, List, [], ◌∷◌, length, slice_get, fold, Option, Some, None, if◌then◌else◌, refl, sym, ap, ◌∙◌, subst, arith}
use Rattle.std.specs.Prelude.{option_and_then}
use Rattle.std.specs.Bool.{Decides}
use Rattle.std.specs.Cmp.Lexicographic.{pointwise}
use Rattle.std.proofs.lemmas.Bool.Decides.{not_from_Decides, Decides-like, Decides-and, Decides-or, Decides-ltb, Decides-eqb}
use Rattle.std.proofs.lemmas.Option.{same_Some, none-some}
use Rattle.type_tree.specs.declared.tree.TExpr.{TExpr}
use Rattle.type_tree.proofs.SameLemmas.{is_same-Decides}
use Rattle.il_model.specs.declared.key.BodyRow.{BodyRow}
use Rattle.il_model.specs.declared.key.KeyPart.{KeyPart}
use Rattle.il_model.specs.declared.key.KeyPart.TheVariants.{Ref, Any, Exact}
use Rattle.il_model.specs.declared.layout.MethodTree.{MethodTree}
use Rattle.il_model.specs.declared.program.Program.{Program}
use Rattle.il_model.specs.Entries.{arguments_of}
use Rattle.share_canon.specs.Keys.{ServesPart, Serves, IsCloser, exact_parts, reference_parts}
use Rattle.share_canon.specs.Rows.{ServesAt, Picks}
use Rattle.share_canon.proofs.RowLemmas.{picks-only}
use Rattle.rgctx_template.specs.Catalogue.{CatData}
use Rattle.rgctx_fill.specs.NamedValues.{IsEntryWord, entry_in}
use Rattle.rgctx_fill.specs.BestRows.{part_serves, row_serves, is_closer, closer_of, better, best_row, entry_word_of}

-- ---- the tests

module _ (program : Program) where
  part_decides : (p : KeyPart) (t : TExpr) → Decides (part_serves program p t) (ServesPart program p t)
  part_decides Ref t = ((λ e. e), (λ e. e))
  part_decides Any t = ((λ e. tt), (λ u. refl))
  part_decides (Exact tree) t = is_same-Decides t tree

  each_serves : (p : KeyPart) (t : TExpr) (ps : List KeyPart) (ts : List TExpr) → ServesPart program p t → Serves program ps ts → (i : ℕ) (q : KeyPart) (u : TExpr)
      → slice_get (p ∷ ps) i ≡ Some q → slice_get (t ∷ ts) i ≡ Some u → ServesPart program q u
  each_serves p t ps ts first rest zero q u there here = subst (λ x. ServesPart program x u) (same_Some p q there) (subst (λ x. ServesPart program p x) (same_Some t u here) first)
  each_serves p t ps ts first rest (suc i) q u there here = rest.each i q u there here

  fewer : (m n : ℕ) → suc m ≡ suc n → m ≡ n
  fewer m n e = omega arith

  key_decides : (key : List KeyPart) (types : List TExpr) → Decides (pointwise (part_serves program) key types) (Serves program key types)
  key_decides [] [] = ((λ e. record { count = refl; each = λ i p t there here. absurd (none-some p there) }), (λ s. refl))
  key_decides [] (t ∷ ts) = ((λ e. cc), (λ s. let c : 0 ≡ suc (length ts) = s.count in cc))
  key_decides (p ∷ ps) [] = ((λ e. cc), (λ s. let c : suc (length ps) ≡ 0 = s.count in cc))
  key_decides (p ∷ ps) (t ∷ ts) =
      Decides-like (pointwise (part_serves program) (p ∷ ps) (t ∷ ts))
      (λ both. record { count = ap suc both.1.count; each = each_serves p t ps ts both.0 both.1 })
      (λ s. (s.each 0 p t refl refl, record { count = fewer (length ps) (length ts) s.count; each = λ i. s.each (suc i) }))
      (Decides-and (part_serves program p t) (pointwise (part_serves program) ps ts) (part_decides p t) (key_decides ps ts))

  row_decides : (method : ℕ) (types : List TExpr) (row : BodyRow) → Decides (row_serves program method types row) (ServesAt program method types row)
  row_decides method types row =
      Decides-like (row_serves program method types row) (λ both. record { is_of = both.0; by_key = both.1 }) (λ s. (s.is_of, s.by_key))
      (Decides-and (row.method == method) (pointwise (part_serves program) row.key.parts types) (Decides-eqb row.method method) (key_decides row.key.parts types))

closer_decides : (key other : List KeyPart) → Decides (is_closer key other) (IsCloser key other)
closer_decides key other =
    Decides-or (nat_lt (exact_parts other) (exact_parts key)) _ (Decides-ltb (exact_parts other) (exact_parts key))
    (Decides-and (exact_parts other == exact_parts key) (nat_lt (reference_parts other) (reference_parts key)) (Decides-eqb (exact_parts other) (exact_parts key)) (Decides-ltb (reference_parts other) (reference_parts key)))

abbrev Above : (e r f s : ℕ) → Type 0
Above e r f s = (f < e) ⊎ ((f ≡ e) × (s < r))

not_above : (e r : ℕ) → ¬ (Above e r e r)
not_above e r above = ⊎_elim (λ (h : e < e). absurd (omega arith)) (λ h. let less : r < r = h.1 in absurd (omega arith)) above

above_all : (e r f s : ℕ) → (e < f) ⊎ (e ≡ f) ⊎ (f < e)
above_all e r f s = grind arith

-- what is above one is above all that are not
above_chain : (e r f s g t : ℕ) → Above e r f s → ¬ (Above g t f s) → Above e r g t
above_chain e r f s g t above fails = grind (arith, above, fails)

-- ---- one row more

module _ (program : Program) (rows : List BodyRow) (method : ℕ) (types : List TExpr) where
  -- of the first so many rows this one is the best match, if any is
  pub record Chosen (n : ℕ) (best : Option BodyRow) : Type 0 where
    pub place : Option ℕ
    pub picks : Picks program rows method types n place
    pub is : option_and_then (slice_get rows) place ≡ best

  last_or_before : (j n : ℕ) → j < n + 1 → (j < n) ⊎ (j ≡ n)
  last_or_before j n less = grind arith

  module _ (n : ℕ) (x : BodyRow) (item : slice_get rows n ≡ Some x) where
    to_here : (P : BodyRow → Type 0) → ((j : ℕ) (other : BodyRow) → j < n → slice_get rows j ≡ Some other → P other) → P x → (j : ℕ) (other : BodyRow) → j < n + 1 → slice_get rows j ≡ Some other → P other
    to_here P before here j other less is = ⊎_elim
        (λ (low : j < n). before j other low is)
        (λ (same : j ≡ n). subst P (same_Some x other (sym item ∙ ap (slice_get rows) (sym same) ∙ is)) here)
        (last_or_before j n less)

    within : (place : ℕ) → place < n → place < n + 1
    within place low = omega arith

    -- it does not serve
    passed : (place : Option ℕ) → Picks program rows method types n place → ¬ (ServesAt program method types x) → Picks program rows method types (n + 1) place
    passed None p fails = record { none = to_here (λ other. ¬ (ServesAt program method types other)) p.none fails }
    passed (Some i) p fails = record {
      row = p.row;
      is = p.is;
      among = within i p.among;
      serves = p.serves;
      closest = to_here (λ other. ServesAt program method types other → ¬ (IsCloser other.key.parts p.row.key.parts)) p.closest (λ s. absurd (fails s));
      first = p.first;
    }

    first_one : ServesAt program method types x → Picks program rows method types n None → Picks program rows method types (n + 1) (Some n)
    first_one serves p = record {
      row = x;
      is = item;
      among = omega arith;
      serves = serves;
      closest = to_here (λ other. ServesAt program method types other → ¬ (IsCloser other.key.parts x.key.parts)) (λ j other low is s. absurd (p.none j other low is s)) (λ s. not_above (exact_parts x.key.parts) (reference_parts x.key.parts));
      first = λ j other low is s. absurd (p.none j other low is s);
    }

    module _ (i : ℕ) (p : Picks program rows method types n (Some i)) (serves : ServesAt program method types x) where
      above_other : IsCloser x.key.parts p.row.key.parts → (j : ℕ) (other : BodyRow) → j < n → slice_get rows j ≡ Some other → ServesAt program method types other → IsCloser x.key.parts other.key.parts
      above_other closer j other low is s =
          above_chain (exact_parts x.key.parts) (reference_parts x.key.parts) (exact_parts p.row.key.parts) (reference_parts p.row.key.parts) (exact_parts other.key.parts) (reference_parts other.key.parts)
          closer (p.closest j other low is s)

      closer_one : IsCloser x.key.parts p.row.key.parts → Picks program rows method types (n + 1) (Some n)
      closer_one closer = record {
        row = x;
        is = item;
        among = omega arith;
        serves = serves;
        closest = to_here (λ other. ServesAt program method types other → ¬ (IsCloser other.key.parts x.key.parts))
            (λ j other low is s back. not_both (exact_parts x.key.parts) (reference_parts x.key.parts) (exact_parts other.key.parts) (reference_parts other.key.parts) (above_other closer j other low is s) back)
            (λ s. not_above (exact_parts x.key.parts) (reference_parts x.key.parts));
        first = above_other closer;
      }
        where
          not_both : (e r f s : ℕ) → Above e r f s → Above f s e r → ⊥
          not_both e r f s a b = grind (arith, a, b)

      farther_one : ¬ (IsCloser x.key.parts p.row.key.parts) → Picks program rows method types (n + 1) (Some i)
      farther_one fails = record {
        row = p.row;
        is = p.is;
        among = within i p.among;
        serves = p.serves;
        closest = to_here (λ other. ServesAt program method types other → ¬ (IsCloser other.key.parts p.row.key.parts)) p.closest (λ s. fails);
        first = p.first;
      }

    -- it serves
    served : (place : Option ℕ) (best : Option BodyRow) → Picks program rows method types n place → option_and_then (slice_get rows) place ≡ best → ServesAt program method types x → Chosen (n + 1) (closer_of best x)
    served None best p is serves = subst (λ b. Chosen (n + 1) (closer_of b x)) is (record { place = Some n; picks = first_one serves p; is = item })
    served (Some i) best p is serves = subst (λ b. Chosen (n + 1) (closer_of b x)) (sym p.is ∙ is) (by (is_closer x.key.parts p.row.key.parts) refl)
      where
        by : (b : Bool) → is_closer x.key.parts p.row.key.parts ≡ b → Chosen (n + 1) (if b then Some x else Some p.row)
        by true e = record { place = Some n; picks = closer_one i p serves ((closer_decides x.key.parts p.row.key.parts).0 e); is = item }
        by false e = record { place = Some i; picks = farther_one i p serves (not_from_Decides (is_closer x.key.parts p.row.key.parts) (closer_decides x.key.parts p.row.key.parts) e); is = p.is }

    one_more : (best : Option BodyRow) → Chosen n best → Chosen (n + 1) (better program method types best x)
    one_more best c = by (row_serves program method types x) refl
      where
        by : (b : Bool) → row_serves program method types x ≡ b → Chosen (n + 1) (if b then closer_of best x else best)
        by true e = served c.place best c.picks c.is ((row_decides program method types x).0 e)
        by false e = record { place = c.place; picks = passed c.place c.picks (not_from_Decides (row_serves program method types x) (row_decides program method types x) e); is = c.is }

  -- all the rest
  all_chosen : (n : ℕ) (rest : List BodyRow) (best : Option BodyRow) → ((j : ℕ) → slice_get rest j ≡ slice_get rows (n + j)) → Chosen n best → Chosen (n + length rest) (fold (better program method types) best rest)
  all_chosen n [] best same c = subst (λ k. Chosen k best) (plus_none n) c
    where
      plus_none : (k : ℕ) → k ≡ k + 0
      plus_none k = omega arith
  all_chosen n (x ∷ rest) best same c =
      subst (λ k. Chosen k (fold (better program method types) (better program method types best x) rest)) (plus_more n (length rest))
      (all_chosen (n + 1) rest (better program method types best x) (λ j. same (suc j) ∙ ap (slice_get rows) (plus_more_back n j)) (one_more n x (sym (same 0 ∙ ap (slice_get rows) (plus_none n))) best c))
    where
      plus_none : (k : ℕ) → k + 0 ≡ k
      plus_none k = omega arith

      plus_more : (k l : ℕ) → k + 1 + l ≡ k + suc l
      plus_more k l = omega arith

      plus_more_back : (k l : ℕ) → k + suc l ≡ k + 1 + l
      plus_more_back k l = omega arith

  pub best_chosen : Chosen (length rows) (best_row program rows method types)
  best_chosen = subst (λ n. Chosen n (best_row program rows method types)) (sym (none_plus (length rows)))
      (all_chosen 0 rows None (λ j. ap (slice_get rows) (none_plus j)) (record { place = None; picks = record { none = λ j other low is s. absurd (omega arith) }; is = refl }))
    where
      none_plus : (k : ℕ) → k ≡ 0 + k
      none_plus k = omega arith

-- there is one entry word
pub entry-word-only : (cat : CatData) (m : MethodTree) (word : ℕ) → IsEntryWord cat m word → word ≡ entry_word_of cat m
entry-word-only cat m word e =
    let types : List TExpr = arguments_of m.class ++ m.args in
    let c : Chosen cat.program cat.bodies m.method types (length cat.bodies) (best_row cat.program cat.bodies m.method types) = best_chosen cat.program cat.bodies m.method types in
    e.is ∙ ap (λ place. entry_in (option_and_then (slice_get cat.bodies) place)) (picks-only cat.program cat.bodies m.method types (length cat.bodies) e.place c.place e.best c.picks) ∙ ap entry_in c.is
