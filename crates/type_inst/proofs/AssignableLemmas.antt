-- Assignability, one vector at a time.
use Rattle.std.proofs.Common.{◌≡◌, ℕ, zero, suc, Bool, true, false, ◌||◌, ◌&&◌, ◌⊎◌, inl, inr, [], ◌∷◌, Option, Some, None, refl, ap, ◌∙◌, arith}
use Rattle.std.proofs.Math.Bool.{or-false}
use Rattle.type_tree.specs.declared.tree.Head.TheVariants as head
use Rattle.type_tree.specs.declared.tree.TExpr.{TExpr}
use Rattle.type_tree.specs.declared.tree.TNode.{TNode}
use Rattle.type_tree.specs.declared.tree.TNode.TheVariants.{Node, ClassVar, MethodVar}
use Rattle.type_tree.specs.Tree.{top_of, node}
use Rattle.type_tree.specs.Positions.{positions_of}
use Rattle.type_tree.proofs.TreeLemmas.{tree_of-is}
use Rattle.type_tree.proofs.PositionsLemmas.{positions_of-node}
use Rattle.il_model.specs.declared.program.Program.{Program}
use Rattle.il_model.specs.Kinds.{is_reference}
use Rattle.il_model.specs.Assignable.{element_in_top, element_of, pass_both, is_assignable_flat, assignable_within, is_assignable}

-- a top that is a vector's has one argument
one_part : (top : TNode TExpr) (e : TExpr) → element_in_top top ≡ Some e → top ≡ Node head.Vector (e ∷ [])
one_part (Node head.Vector (t ∷ [])) e is = cc
one_part (Node head.Vector []) e is = cc
one_part (Node head.Vector (t ∷ u ∷ ts)) e is = cc
one_part (Node head.Int32 ts) e is = cc
one_part (Node head.Int64 ts) e is = cc
one_part (Node head.Bool ts) e is = cc
one_part (Node (head.Class n) ts) e is = cc
one_part (ClassVar n) e is = cc
one_part (MethodVar n) e is = cc

-- a vector has one position more than its element
pub positions_of-element : (t e : TExpr) → element_of t ≡ Some e → positions_of t ≡ suc (positions_of e)
positions_of-element t e is =
    let vector : t ≡ node head.Vector (e ∷ []) = tree_of-is t (Node head.Vector (e ∷ [])) (one_part (top_of t) e is) in
    ap positions_of vector ∙ (let count = positions_of-node head.Vector (e ∷ []) in omega (arith, count))

no_element : (test : TExpr → TExpr → Bool) (a b : Option TExpr) → (a ≡ None) ⊎ (b ≡ None) → pass_both test a b ≡ false
no_element test None b none = refl
no_element test (Some t) None none = refl
no_element test (Some t) (Some u) none = elim none [ inl left ↦ cc | inr right ↦ cc ]

flat_within : (program : Program) (n : ℕ) (t u : TExpr) → (element_of t ≡ None) ⊎ (element_of u ≡ None) →
    assignable_within program n t u ≡ is_assignable_flat program t u
flat_within program zero t u none = refl
flat_within program (suc n) t u none =
    ap (λ b. is_assignable_flat program t u || b)
    (no_element (λ a b. is_reference program a && (is_reference program b && assignable_within program n a b)) (element_of t) (element_of u) none)
    ∙ or-false (is_assignable_flat program t u)

-- where one type is no vector, nothing but the types themselves counts
pub assignable-flat : (program : Program) (t u : TExpr) → (element_of t ≡ None) ⊎ (element_of u ≡ None) →
    is_assignable program t u ≡ is_assignable_flat program t u
assignable-flat program t u none = flat_within program (positions_of t) t u none

-- two vectors are assignable by themselves or by their elements
pub assignable-vectors : (program : Program) (t u a b : TExpr) → element_of t ≡ Some a → element_of u ≡ Some b →
    is_assignable program t u ≡
    (is_assignable_flat program t u || (is_reference program a && (is_reference program b && is_assignable program a b)))
assignable-vectors program t u a b from to =
    ap (λ n. assignable_within program n t u) (positions_of-element t a from)
    ∙ ap (λ (e : Option TExpr). is_assignable_flat program t u || pass_both (test (positions_of a)) e (element_of u)) from
    ∙ ap (λ (e : Option TExpr). is_assignable_flat program t u || pass_both (test (positions_of a)) (Some a) e) to
  where
    test : ℕ → TExpr → TExpr → Bool
    test n x y = is_reference program x && (is_reference program y && assignable_within program n x y)

-- where all before it is settled, the last test answers
pub last_answers : (flat a b last : Bool) → flat ≡ false → a ≡ true → b ≡ true → (flat || (a && (b && last))) ≡ last
last_answers false true true last f g h = refl
last_answers true a b last f g h = cc
last_answers false false b last f g h = cc
last_answers false true false last f g h = cc
