-- Each leaf holds a word.
use Rattle.std.proofs.Common.{◌≢◌, ℕ, zero, suc, ◌<◌, List, [], ◌∷◌, length, sym, ◌∙◌, arith}
use Rattle.std.specs.Prelude.{slice_index}
use Rattle.std.specs.List.{AllByRecursion}
use Rattle.il_model.specs.declared.program.Program.{Program}
use Rattle.rgctx_template.specs.Catalogue.{CatData}
use Rattle.rgctx_fill.specs.Leaves.{IsLeaf, leaf_words, opening}
use Rattle.rgctx_fill.specs.Fitting.{AreFitting}

used_at : (xs : List ℕ) → AllByRecursion (λ w. w ≢ 0) xs → (k : ℕ) → k < length xs → slice_index xs k ≢ 0
used_at [] all k less = absurd (omega arith)
used_at (x ∷ xs) all zero less = all.0
used_at (x ∷ xs) all (suc k) less = used_at xs all.1 k (omega arith)

infixr 5 ◌▸◌
◌▸◌ : {A B : Type 0} → A → B → A × B
x ▸ y = (x, y)

leaves_used : (program : Program) → AllByRecursion (λ w. w ≢ 0) (leaf_words program)
leaves_used program =
    (λ z. omega arith) ▸ (λ z. omega arith) ▸ (λ z. omega arith) ▸ (λ z. omega arith) ▸ (λ z. omega arith) ▸
    (λ z. omega arith) ▸ (λ z. omega arith) ▸ (λ z. omega arith) ▸ (λ z. omega arith) ▸ (λ z. omega arith) ▸
    (λ z. omega arith) ▸ (λ z. omega arith) ▸ (λ z. omega arith) ▸ (λ z. omega arith) ▸ (λ z. omega arith) ▸
    (λ z. omega arith) ▸ (λ z. omega arith) ▸ (λ z. omega arith) ▸ (λ z. omega arith) ▸ (λ z. omega arith) ▸ tt

pub opening-used : (program : Program) (i : ℕ) → IsLeaf i → opening program i ≢ 0
opening-used program zero leaf = absurd (omega arith)
opening-used program (suc k) leaf = used_at (leaf_words program) (leaves_used program) k (omega arith)

pub leaf-used : (cat : CatData) (at : ℕ → ℕ) (i : ℕ) → AreFitting cat at → IsLeaf i → at i ≢ 0
leaf-used cat at i fits leaf z = opening-used cat.program i leaf (sym (fits.leaves i leaf) ∙ z)
