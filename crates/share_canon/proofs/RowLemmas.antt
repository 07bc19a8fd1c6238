-- There is only one best match.
use Rattle.std.proofs.Common.{◌≡◌, ℕ, ◌<◌, List, Option, Some, None, refl, ap, arith}
use Rattle.type_tree.specs.declared.tree.TExpr.{TExpr}
use Rattle.il_model.specs.declared.program.Program.{Program}
use Rattle.il_model.specs.declared.key.BodyRow.{BodyRow}
use Rattle.share_canon.specs.Rows.{IsBest, Picks}

one_best : (program : Program) (rows : List BodyRow) (method : ℕ) (types : List TExpr) (n i j : ℕ) → IsBest program rows method types n i → IsBest program rows method types n j → ¬ (i < j)
one_best program rows method types n i j a b less = a.closest j b.row b.among b.is b.serves (b.first i a.row less a.is a.serves)

two_orders : (i j : ℕ) → ¬ (i < j) → ¬ (j < i) → i ≡ j
two_orders i j = grind arith

-- there is only one best match
pub picks-only : (program : Program) (rows : List BodyRow) (method : ℕ) (types : List TExpr) (n : ℕ) (a b : Option ℕ) → Picks program rows method types n a → Picks program rows method types n b → a ≡ b
picks-only program rows method types n None None x y = refl
picks-only program rows method types n None (Some j) x y = absurd (x.none j y.row y.among y.is y.serves)
picks-only program rows method types n (Some i) None x y = absurd (y.none i x.row x.among x.is x.serves)
picks-only program rows method types n (Some i) (Some j) x y = ap (λ k. Some k) (two_orders i j (one_best program rows method types n i j x y) (one_best program rows method types n j i y x))
