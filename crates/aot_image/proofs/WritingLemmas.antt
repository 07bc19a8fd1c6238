-- What holds of all holds of each, and what is written piece by piece.
use Rattle.std.proofs.Common.{◌≡◌, ◌∙◌, ℕ, zero, suc, ◌/◌, ◌%◌, ◌<◌, ◌^◌, Bool, ◌&&◌, List, [], ◌∷◌, ◌++◌, length, get_or, map, flat_map, nat_lt, append_assoc, refl, sym, ap, subst, arith}
use Rattle.std.specs.List.{list_all, AllByRecursion}
use Rattle.std.proofs.lemmas.List.Folds.{flat_map-map}
use Rattle.type_tree.specs.declared.tree.Head.{Head}
use Rattle.type_tree.specs.declared.tree.TExpr.{TExpr}
use Rattle.type_tree.specs.declared.tree.TNode.TheVariants.{Node}
use Rattle.type_tree.specs.Tree.{top_of, node}
use Rattle.type_tree.proofs.TreeLemmas.{tree_of-is, folded-node}
use Rattle.aot_image.specs.ImageSpelling.{half, definition_number, level_bytes, tree_bytes}
use Rattle.aot_image.specs.ImageForm.{level_fits, tree_fits}

-- a fact on all is one on each
pub holds_each : {A : Type 0} (P : A → Type 0) (xs : List A) (i : ℕ) (x : A) → i < length xs → x ≡ get_or xs i x → AllByRecursion P xs → P x
holds_each P [] i x inside at all = absurd (omega (arith, inside))
holds_each P (y ∷ ys) zero x inside at all = subst P (sym at) all.0
holds_each P (y ∷ ys) (suc i) x inside at all = holds_each P ys i x (omega (arith, inside)) at all.1

all_map : {A : Type 0} (f : A → Bool) (xs : List A) → list_all (λ b. b) (map f xs) ≡ list_all f xs
all_map f [] = refl
all_map f (x ∷ xs) = ap (λ b. f x && b) (all_map f xs)

pub fits_node : (h : Head) (parts : List TExpr) → tree_fits (node h parts) ≡ (nat_lt (definition_number h) (2 ^ 16) && list_all tree_fits parts)
fits_node h parts = folded-node level_fits h parts ∙ ap (λ b. nat_lt (definition_number h) (2 ^ 16) && b) (all_map tree_fits parts)

pub bytes_node : (h : Head) (parts : List TExpr) → tree_bytes (node h parts) ≡ half (definition_number h) ++ flat_map tree_bytes parts
bytes_node h parts = folded-node level_bytes h parts ∙ ap (λ (bs : List ℕ). half (definition_number h) ++ bs) (flat_map-map (λ (part : List ℕ). part) tree_bytes parts)

module _ (t : TExpr) (h : Head) (parts : List TExpr) (is : top_of t ≡ Node h parts) where
  pub bytes_top : tree_bytes t ≡ half (definition_number h) ++ flat_map tree_bytes parts
  bytes_top = ap tree_bytes (tree_of-is t (Node h parts) is) ∙ bytes_node h parts

  -- a tree is written by its definition and the trees below
  pub node_put : (before mid after : List ℕ) (n : ℕ) (trees : List TExpr) → half n ≡ half (definition_number h) → mid ≡ before ++ half n → trees ≡ parts →
      after ≡ mid ++ flat_map tree_bytes trees → after ≡ before ++ tree_bytes t
  node_put before mid after n trees number first same second =
      second
      ∙ ap (λ (bs : List ℕ). bs ++ flat_map tree_bytes trees) first
      ∙ append_assoc before (half n) (flat_map tree_bytes trees)
      ∙ ap (λ (bs : List ℕ). before ++ bs)
      (ap (λ (bs : List ℕ). bs ++ flat_map tree_bytes trees) number
      ∙ ap (λ (ts : List TExpr). half (definition_number h) ++ flat_map tree_bytes ts) same
      ∙ sym bytes_top)

-- the two bytes of a number are those of its rest
pub half_wrapped : (n : ℕ) → half (n % 65536) ≡ half n
half_wrapped n =
    let low : (n % 65536) % 256 ≡ n % 256 = omega arith in
    let high : ((n % 65536) / 256) % 256 ≡ (n / 256) % 256 = omega arith in
    ap (λ (x : ℕ × ℕ). x.0 ∷ x.1 ∷ []) (λ k. (low k, high k))

-- five pieces, one behind the other
pub put_whole : (a b c d e f head text bodies got code : List ℕ) → b ≡ a ++ head → c ≡ b ++ text → d ≡ c ++ bodies → e ≡ d ++ got → f ≡ e ++ code →
    f ≡ a ++ (head ++ (text ++ (bodies ++ (got ++ code))))
put_whole a b c d e f head text bodies got code p q r s t =
    t
    ∙ ap (λ (x : List ℕ). x ++ code) (s ∙ ap (λ (x : List ℕ). x ++ got) (r ∙ ap (λ (x : List ℕ). x ++ bodies) (q ∙ ap (λ (x : List ℕ). x ++ text) p)))
    ∙ simp append_assoc refl
