-- What is admitted, tree by tree.
use Rattle.std.proofs.Common.{◌≡◌, ◌∙◌, ℕ, zero, suc, ◌+◌, ◌*◌, ◌<◌, ◌≤◌, ◌-◌, ◌⊎◌, inl, inr, Bool, true, false, ◌&&◌, ◌||◌, cond, List, [], ◌∷◌, ◌++◌, length, take, drop, zip, map, flat_map, sum_by, Option, Some, None, option_to_list, is_none, nat_lt, refl, sym, ap, arith}
use Rattle.std.specs.List.{list_any, list_all}
use Rattle.std.proofs.lemmas.Bool.{lt-ltb, le-ltb, cases_lt}
use Rattle.std.proofs.lemmas.List.{append-nil}
use Rattle.std.proofs.lemmas.List.Sums.{sum_by-cons}
use Rattle.std.proofs.lemmas.List.Folds.{list_all-append}
use Rattle.type_tree.specs.declared.tree.TExpr.{TExpr}
use Rattle.type_tree.specs.declared.tree.Head.{Head}
use Rattle.type_tree.specs.declared.tree.TNode.TheVariants.{Node, ClassVar, MethodVar}
use Rattle.type_tree.specs.Tree.{top_of, node, level_below, has_variables_below}
use Rattle.type_tree.specs.Positions.{positions_of}
use Rattle.type_tree.proofs.TreeLemmas.{tree_of-is, folded-node}
use Rattle.type_tree.proofs.PositionsLemmas.{positions_of-node, positions_of-class_var, positions_of-method_var}
use Rattle.type_tree.specs.Substitution.{substituted}
use Rattle.il_model.specs.declared.layout.Limit.{Limit}
use Rattle.il_model.specs.declared.layout.Limit.TheVariants as limit
use Rattle.il_model.specs.declared.method.MethodDef.{MethodDef}
use Rattle.il_model.specs.declared.program.Program.{Program}
use Rattle.il_model.specs.Entries.{arguments_of}
use Rattle.il_model.specs.Trees.{trees_within}
use Rattle.il_model.specs.Layouts.{most_trees}
use Rattle.il_model.specs.Admission.{most_positions, closure_within, closure_of, limited_trees_of, is_large, is_wide, limit_among, limit_of, steps_of}
use Rattle.il_model.specs.Methods.{worse, worst, types_of_places, types_of_body, types_of_method, types_named_by, method_positions}
use Rattle.il_model.specs.declared.class.VarDef.{VarDef}
use Rattle.il_model.specs.declared.key.KeyPart.{KeyPart}
use Rattle.rgctx_template.specs.Admitted.{is_admitted, is_admitted_method}
use Rattle.rgctx_template.specs.BodyRows.{part_meets, class_arguments, method_arguments, key_meets}
use Rattle.aot_image.specs.ImageJudging.{is_admitted_with}

-- ---- a tree that is too large

first_within : (n : ℕ) (t : TExpr) → (ts : List TExpr) × (trees_within n t ≡ t ∷ ts)
first_within zero t = ([], refl)
first_within (suc n) t = (flat_map (λ part. trees_within n part) (arguments_of t), refl)

first_closed : (program : Program) (n : ℕ) (t : TExpr) → (ts : List TExpr) × (closure_within program n t ≡ t ∷ ts)
first_closed program zero t = ([], refl)
first_closed program (suc n) t = (flat_map (λ next. closure_within program n next) (steps_of program t), refl)

-- the limits of a tree are asked of the tree first
limited_first : (program : Program) (t : TExpr) → (ts : List TExpr) × (limited_trees_of program t ≡ t ∷ ts)
limited_first program t =
    let a = first_within (positions_of t) t in
    let b = first_closed program (most_trees * positions_of t) t in (
      b.0 ++ flat_map (closure_of program) a.0,
      ap (flat_map (closure_of program)) a.1 ∙ ap (λ (us : List TExpr). us ++ flat_map (closure_of program) a.0) b.1,
    )

pub large_limited : (program : Program) (t : TExpr) → is_large t ≡ true → is_admitted program t ≡ false
large_limited program t large =
    let first = limited_first program t in
    ap (λ (ts : List TExpr). is_none (limit_among program ts)) first.1
    ∙ ap (λ (b : Bool). is_none (cond (b || list_any is_large first.0) (Some limit.Positions) (cond (list_any (is_wide program) (t ∷ first.0)) (Some limit.ValueWords) None))) large

by_large : (program : Program) (t : TExpr) (b : Bool) → is_large t ≡ b → is_admitted program t ≡ true → b ≡ false
by_large program t true large fits = sym fits ∙ large_limited program t large
by_large program t false large fits = refl

-- a tree that is admitted is not too large
pub admitted_small : (program : Program) (t : TExpr) → is_admitted program t ≡ true → is_large t ≡ false
admitted_small program t fits = by_large program t (is_large t) refl fits

-- ---- methods

worse_none : (l r : Option Limit) → is_none (worse l r) ≡ (is_none l && is_none r)
worse_none (Some limit.Positions) r = refl
worse_none (Some limit.ValueWords) (Some limit.Positions) = refl
worse_none (Some limit.ValueWords) (Some limit.ValueWords) = refl
worse_none (Some limit.ValueWords) None = refl
worse_none None r = refl

-- none of many types passes a limit where none of them does
worst_none : (program : Program) (ts : List TExpr) → is_none (worst (map (limit_of program) ts)) ≡ list_all (is_admitted program) ts
worst_none program [] = refl
worst_none program (t ∷ ts) =
    worse_none (limit_of program t) (worst (map (limit_of program) ts)) ∙ ap (λ b. is_admitted program t && b) (worst_none program ts)

all_with : (program : Program) (class_args args ts : List TExpr) →
    list_all (is_admitted program) (map (λ t. substituted class_args args t) ts) ≡ list_all (is_admitted_with program class_args args) ts
all_with program class_args args [] = refl
all_with program class_args args (t ∷ ts) = ap (λ b. is_admitted_with program class_args args t && b) (all_with program class_args args ts)

named_all : (program : Program) (c : TExpr) (args : List TExpr) (m : MethodDef) →
    list_all (is_admitted program) (types_named_by c args (Some m))
    ≡ (list_all (is_admitted program) (c ∷ args) && list_all (is_admitted_with program (arguments_of c) args) (types_of_method m))
named_all program c args m =
    list_all-append (is_admitted program) (c ∷ args) (map (λ t. substituted (arguments_of c) args t) (types_of_method m ++ []))
    ∙ ap (λ b. list_all (is_admitted program) (c ∷ args) && b)
    (all_with program (arguments_of c) args (types_of_method m ++ []) ∙ ap (λ (ts : List TExpr). list_all (is_admitted_with program (arguments_of c) args) ts) (append-nil (types_of_method m)))

-- a method of too many positions is not admitted
pub method_large : (program : Program) (c : TExpr) (args : List TExpr) (m : MethodDef) → nat_lt most_positions (method_positions c args) ≡ true →
    is_admitted_method program c args m ≡ false
method_large program c args m large =
    ap (λ (b : Bool). is_none (cond b (Some limit.Positions) (worst (map (limit_of program) (types_named_by c args (Some m)))))) large

-- a method of few positions is admitted where its types are
pub method_admitted : (program : Program) (c : TExpr) (args : List TExpr) (m : MethodDef) → nat_lt most_positions (method_positions c args) ≡ false →
    is_admitted_method program c args m
    ≡ ((is_admitted program c && list_all (is_admitted program) args) && list_all (is_admitted_with program (arguments_of c) args) (types_of_method m))
method_admitted program c args m small =
    ap (λ (b : Bool). is_none (cond b (Some limit.Positions) (worst (map (limit_of program) (types_named_by c args (Some m)))))) small
    ∙ worst_none program (types_named_by c args (Some m))
    ∙ named_all program c args m

-- the types of a signature pass a test where those of its parts do
pub signature_all : (test : TExpr → Bool) (m : MethodDef) →
    list_all test (types_of_method m)
    ≡ ((list_all test (types_of_places m.params) && list_all test (option_to_list m.result)) && list_all test (flat_map types_of_body (option_to_list m.body)))
signature_all test m =
    list_all-append test (types_of_places m.params ++ option_to_list m.result) (flat_map types_of_body (option_to_list m.body))
    ∙ ap (λ b. b && list_all test (flat_map types_of_body (option_to_list m.body))) (list_all-append test (types_of_places m.params) (option_to_list m.result))

-- ---- variables

all_map : {A : Type 0} (f : A → Bool) (xs : List A) → list_all (λ b. b) (map f xs) ≡ list_all f xs
all_map f [] = refl
all_map f (x ∷ xs) = ap (λ b. f x && b) (all_map f xs)

-- a tree has no variables where those below its top have none
pub closed_node : (h : Head) (parts : List TExpr) → has_variables_below 0 0 (node h parts) ≡ list_all (has_variables_below 0 0) parts
closed_node h parts = folded-node (level_below 0 0) h parts ∙ all_map (has_variables_below 0 0) parts

-- ---- keys

and_assoc : (a b c : Bool) → (a && (b && c)) ≡ ((a && b) && c)
and_assoc true b c = refl
and_assoc false b c = refl

module _ {A B : Type 0} (test : A × B → Bool) where
  zip_none : (xs : List A) → list_all test (zip xs []) ≡ true
  zip_none [] = refl
  zip_none (x ∷ xs) = refl

  -- what is asked of two lists, one behind the other, is asked of each
  pub zip_split : (xs ys : List A) (zs : List B) →
      list_all test (zip (xs ++ ys) zs) ≡ (list_all test (zip xs (take (length xs) zs)) && list_all test (zip ys (drop (length xs) zs)))
  zip_split [] ys zs = refl
  zip_split (x ∷ xs) ys [] = sym (zip_none ys)
  zip_split (x ∷ xs) ys (z ∷ zs) =
      ap (λ b. test (x, z) && b) (zip_split xs ys zs)
      ∙ and_assoc (test (x, z)) (list_all test (zip xs (take (length xs) zs))) (list_all test (zip ys (drop (length xs) zs)))

module _ (program : Program) (of_class of_method : List VarDef) (parts front back : List KeyPart) (class_args method_args : List TExpr)
    (front_is : front ≡ take (length of_class) parts) (back_is : back ≡ drop (length of_class) parts) (class_is : class_args ≡ class_arguments 0 front) (method_is : method_args ≡ method_arguments 0 back) where
  key_is : key_meets program of_class of_method parts
      ≡ (list_all (part_meets program class_args method_args) (zip of_class front) && list_all (part_meets program class_args method_args) (zip of_method back))
  key_is =
      let c : class_args ≡ class_arguments 0 (take (length of_class) parts) = class_is ∙ ap (class_arguments 0) front_is in
      let m : method_args ≡ method_arguments 0 (drop (length of_class) parts) = method_is ∙ ap (method_arguments 0) back_is in
      zip_split (part_meets program (class_arguments 0 (take (length of_class) parts)) (method_arguments 0 (drop (length of_class) parts))) of_class of_method parts
      ∙ ap (λ (x : (List KeyPart × List KeyPart) × (List TExpr × List TExpr)). list_all (part_meets program x.1.0 x.1.1) (zip of_class x.0.0) && list_all (part_meets program x.1.0 x.1.1) (zip of_method x.0.1))
      (λ k. ((sym front_is k, sym back_is k), (sym c k, sym m k)))

  -- a key whose first parts do not meet their bounds does not
  pub key_fails : list_all (part_meets program class_args method_args) (zip of_class front) ≡ false → false ≡ key_meets program of_class of_method parts
  key_fails fails = sym (key_is ∙ ap (λ b. b && list_all (part_meets program class_args method_args) (zip of_method back)) fails)

  -- where they do, the others are asked
  pub key_rest : list_all (part_meets program class_args method_args) (zip of_class front) ≡ true →
      list_all (part_meets program class_args method_args) (zip of_method back) ≡ key_meets program of_class of_method parts
  key_rest passes = sym (key_is ∙ ap (λ b. b && list_all (part_meets program class_args method_args) (zip of_method back)) passes)

-- ---- positions

pub positions_top : (t : TExpr) (h : Head) (parts : List TExpr) → top_of t ≡ Node h parts → positions_of t ≡ 1 + sum_by positions_of parts
positions_top t h parts is = ap positions_of (tree_of-is t (Node h parts) is) ∙ positions_of-node h parts

pub positions_class_var : (t : TExpr) (n : ℕ) → top_of t ≡ ClassVar n → positions_of t ≡ 1
positions_class_var t n is = ap positions_of (tree_of-is t (ClassVar n) is) ∙ positions_of-class_var n

pub positions_method_var : (t : TExpr) (n : ℕ) → top_of t ≡ MethodVar n → positions_of t ≡ 1
positions_method_var t n is = ap positions_of (tree_of-is t (MethodVar n) is) ∙ positions_of-method_var n

-- what is left behind a node, and behind a variable
pub left_of_node : (t : TExpr) (h : Head) (parts : List TExpr) (most : ℕ) → top_of t ≡ Node h parts → (most - 1) - sum_by positions_of parts ≡ most - positions_of t
left_of_node t h parts most is = omega (arith, positions_top t h parts is)

-- a number that is used up is no larger, and one that is not is larger
pub used_up : (program : Program) (t : TExpr) → (most_positions + 1) - positions_of t ≡ 0 → is_admitted program t ≡ false
used_up program t none = large_limited program t (lt-ltb _ _ (omega (arith, none)))

pub method_used_up : (program : Program) (c : TExpr) (args : List TExpr) (m : MethodDef) → (most_positions - positions_of c) - sum_by positions_of args ≡ 0 →
    is_admitted_method program c args m ≡ false
method_used_up program c args m none = method_large program c args m (lt-ltb _ _ (omega (arith, none, sum_by-cons positions_of c args)))

small_by : (c : TExpr) (args : List TExpr) → ((most_positions - positions_of c) - sum_by positions_of args ≡ 0 → ⊥) →
    (positions_of c + sum_by positions_of args < most_positions) ⊎ (most_positions ≤ positions_of c + sum_by positions_of args) → method_positions c args ≤ most_positions
small_by c args some (inl lt) = omega (arith, lt, sum_by-cons positions_of c args)
small_by c args some (inr le) = absurd (some (omega (arith, le)))

pub method_within : (program : Program) (c : TExpr) (args : List TExpr) (m : MethodDef) → ((most_positions - positions_of c) - sum_by positions_of args ≡ 0 → ⊥) →
    is_admitted_method program c args m
    ≡ ((is_admitted program c && list_all (is_admitted program) args) && list_all (is_admitted_with program (arguments_of c) args) (types_of_method m))
method_within program c args m some =
    method_admitted program c args m (le-ltb _ _ (small_by c args some (cases_lt (positions_of c + sum_by positions_of args) most_positions)))
