-- Types without variables and without classes with arguments: no substitution changes one, and it meets bounds in each scope alike.
use Rattle.std.proofs.Common.{◌≡◌, ℕ, Bool, true, false, ◌&&◌, List, [], ◌∷◌, Option, Some, None, refl, sym, ap, ◌∙◌, subst}
use Rattle.std.specs.Prelude.{map, zip, option_and_then, slice_get}
use Rattle.std.specs.List.{list_any, list_all, AllByRecursion}
use Rattle.std.proofs.lemmas.List.Elements.{All-from_recursion}
use Rattle.type_tree.specs.declared.tree.TExpr.{TExpr}
use Rattle.type_tree.specs.declared.tree.TNode.TheVariants.{Node}
use Rattle.type_tree.specs.declared.tree.Head.{Head}
use Rattle.type_tree.specs.declared.tree.Head.TheVariants as head
use Rattle.type_tree.specs.Tree.{node, class_var, method_var, IsClosed}
use Rattle.type_tree.specs.Substitution.{substituted}
use Rattle.type_tree.proofs.TreeLemmas.{top_of-tree_of, folded-class_var, folded-method_var, holds_of_trees}
use Rattle.type_tree.proofs.VariablesLemmas.{below_node}
use Rattle.type_tree.proofs.SubstitutionLemmas.{substituted-closed}
use Rattle.il_model.specs.declared.program.Program.{Program}
use Rattle.il_model.specs.declared.class.ClassDef.{ClassDef}
use Rattle.il_model.specs.declared.class.VarDef.{VarDef}
use Rattle.il_model.specs.declared.layout.MethodTree.{MethodTree}
use Rattle.il_model.specs.declared.method.PType.{PType}
use Rattle.il_model.specs.declared.method.PType.TheVariants as ptype
use Rattle.il_model.specs.Find.{class_in_top, class_number_of, class_of}
use Rattle.il_model.specs.Library.{plain}
use Rattle.il_model.specs.Entries.{arguments_at, arguments_of, vector_of}
use Rattle.il_model.specs.Methods.{types_of_places}
use Rattle.il_model.specs.Assignable.{Bounded}
use Rattle.il_model.specs.Trees.{trees_in}
use Rattle.il_model.specs.Admission.{has_count}
use Rattle.il_model.specs.ClassRules.{has_counts, vars_in, meets_bounds_of, meets_own_bounds, meets_bounds}
use Rattle.rgctx_fill.proofs.PartLemmas.{trees_in-node}
use Rattle.rgctx_fill.proofs.WholeLists.{all_follows, flat_all}
use Rattle.rgctx_fill.proofs.WholeTypes.{NamesClass, class_named}
use Rattle.cil_verify.specs.Forms.{has_some, is_class_head, is_generic_level, is_generic}
use Rattle.cil_verify.proofs.FormsLemmas.{generic_node}
use Rattle.cil_meaning.specs.Naming.{put_type}
use Rattle.cil_meaning.specs.Types.{put_place}
use Rattle.cil_safety.proofs.Edges.{either_false}

-- ---- lists

pub no_items : {A : Type 0} (xs : List A) → has_some xs ≡ false → xs ≡ []
no_items [] e = refl
no_items (x ∷ xs) e = absurd (cc e)

pub none_of : {A : Type 0} (test : A → Bool) (xs : List A) → list_any test xs ≡ false → AllByRecursion (λ x. test x ≡ false) xs
none_of test [] e = tt
none_of test (x ∷ xs) e = let q = either_false (test x) (list_any test xs) e in (q.0, none_of test xs q.1)

-- ---- one level

abbrev pub IsPlainType : TExpr → Type 0
IsPlainType t = is_generic t ≡ false

pub plain_parts : (h : Head) (parts : List TExpr) → IsPlainType (node h parts) → ((is_class_head h && has_some parts) ≡ false) × AllByRecursion IsPlainType parts
plain_parts h parts e =
    let q = either_false (is_class_head h && has_some parts) (list_any is_generic parts) (generic_node (node h parts) h parts (top_of-tree_of (Node h parts)) ∙ e) in
    (q.0, none_of is_generic parts q.1)

plain_class_var : (n : ℕ) → IsPlainType (class_var n) → ⊥
plain_class_var n e = let q : is_generic (class_var n) ≡ true = folded-class_var is_generic_level n in cc (q, e)

plain_method_var : (n : ℕ) → IsPlainType (method_var n) → ⊥
plain_method_var n e = let q : is_generic (method_var n) ≡ true = folded-method_var is_generic_level n in cc (q, e)

-- ---- no variables

pub plain_closed : (t : TExpr) → IsPlainType t → IsClosed t
plain_closed = holds_of_trees (λ t. IsPlainType t → IsClosed t)
    (λ h parts each e. below_node 0 0 h parts (All-from_recursion IsClosed parts (all_follows IsPlainType IsClosed parts each (plain_parts h parts e).1)))
    (λ n e. absurd (plain_class_var n e))
    (λ n e. absurd (plain_method_var n e))

pub substituted_same : (cs ms : List TExpr) (t : TExpr) → IsPlainType t → substituted cs ms t ≡ t
substituted_same cs ms t e = substituted-closed cs ms t (plain_closed t e)

pub put_same : (m : MethodTree) (t : TExpr) → IsPlainType t → put_type m t ≡ t
put_same m t e = substituted_same (arguments_of m.class) m.args t e

pub all_same : (f : TExpr → TExpr) (ts : List TExpr) → ((t : TExpr) → IsPlainType t → f t ≡ t) → AllByRecursion IsPlainType ts → map f ts ≡ ts
all_same f [] each all = refl
all_same f (t ∷ ts) each all = ap (λ z. z ∷ map f ts) (each t all.0) ∙ ap (λ zs. t ∷ zs) (all_same f ts each all.1)

-- ---- classes, vectors

-- a class that is named has no arguments
pub class_plain : (t : TExpr) (number : ℕ) → IsPlainType t → class_number_of t ≡ Some number → t ≡ plain number
class_plain t number e is =
    let c : NamesClass t number = class_named t number is in
    let q = plain_parts (head.Class number) c.parts (ap is_generic (sym c.is) ∙ e) in
    c.is ∙ ap (node (head.Class number)) (no_items c.parts q.0)

pub plain_is : (number : ℕ) → IsPlainType (plain number)
plain_is number = sym (generic_node (plain number) (head.Class number) [] (top_of-tree_of (Node (head.Class number) [])))

pub vector_is : (t : TExpr) → IsPlainType t → IsPlainType (vector_of t)
vector_is t e =
    sym (generic_node (vector_of t) head.Vector (t ∷ []) (top_of-tree_of (Node head.Vector (t ∷ [])))) ∙ rw e refl

pub number_plain : (number : ℕ) → class_number_of (plain number) ≡ Some number
number_plain number = ap class_in_top (top_of-tree_of (Node (head.Class number) []))

pub class_of_plain : (p : Program) (number : ℕ) → class_of p (plain number) ≡ slice_get p.classes number
class_of_plain p number = ap (option_and_then (λ k. slice_get p.classes k)) (number_plain number)

pub arguments_plain : (number : ℕ) → arguments_of (plain number) ≡ []
arguments_plain number = ap arguments_at (top_of-tree_of (Node (head.Class number) []))

-- ---- bounds

pub plain_trees : (t : TExpr) → IsPlainType t → AllByRecursion IsPlainType (trees_in t)
plain_trees = holds_of_trees (λ t. IsPlainType t → AllByRecursion IsPlainType (trees_in t))
    (λ h parts each e.
    subst (λ ts. AllByRecursion IsPlainType ts) (sym (trees_in-node h parts))
    (e, flat_all IsPlainType trees_in parts (all_follows IsPlainType (λ t. AllByRecursion IsPlainType (trees_in t)) parts each (plain_parts h parts e).1)))
    (λ n e. absurd (plain_class_var n e))
    (λ n e. absurd (plain_method_var n e))

module _ (p : Program) where
  -- a plain type of a class has no arguments that could meet bounds, and any other has no bounds
  no_pairs : (scope : Bounded) (t : TExpr) → IsPlainType t → list_all (meets_bounds_of p scope t) (zip (vars_in (class_of p t)) (arguments_of t)) ≡ true
  no_pairs scope t e = by_number (class_number_of t) refl
    where
      to_none : (vars : List VarDef) → list_all (meets_bounds_of p scope t) (zip vars []) ≡ true
      to_none [] = refl
      to_none (v ∷ vs) = refl

      by_number : (o : Option ℕ) → class_number_of t ≡ o → list_all (meets_bounds_of p scope t) (zip (vars_in (class_of p t)) (arguments_of t)) ≡ true
      by_number None is = ap (λ (c : Option ClassDef). list_all (meets_bounds_of p scope t) (zip (vars_in c) (arguments_of t))) (ap (option_and_then (λ k. slice_get p.classes k)) is)
      by_number (Some number) is =
          ap (λ ts. list_all (meets_bounds_of p scope t) (zip (vars_in (class_of p t)) ts)) (ap arguments_of (class_plain t number e is) ∙ arguments_plain number) ∙ to_none (vars_in (class_of p t))

  own_bounds_plain : (scope : Bounded) (t : TExpr) → IsPlainType t → meets_own_bounds p scope t ≡ has_count p t
  own_bounds_plain scope t e = ap (λ b. has_count p t && b) (no_pairs scope t e) ∙ and_true (has_count p t)
    where
      and_true : (b : Bool) → (b && true) ≡ b
      and_true true = refl
      and_true false = refl

  all_alike : (f g : TExpr → Bool) (ts : List TExpr) → AllByRecursion (λ t. f t ≡ g t) ts → list_all f ts ≡ list_all g ts
  all_alike f g [] all = refl
  all_alike f g (t ∷ ts) all = ap (λ b. b && list_all f ts) all.0 ∙ ap (λ b. g t && b) (all_alike f g ts all.1)

  each_plain : (scope : Bounded) (ts : List TExpr) → AllByRecursion IsPlainType ts → AllByRecursion (λ t. meets_own_bounds p scope t ≡ has_count p t) ts
  each_plain scope [] all = tt
  each_plain scope (t ∷ ts) all = (own_bounds_plain scope t all.0, each_plain scope ts all.1)

  -- a plain type meets bounds where it has its numbers of arguments
  pub bounds_plain : (scope : Bounded) (t : TExpr) → IsPlainType t → meets_bounds p scope t ≡ has_counts p t
  bounds_plain scope t e = all_alike (meets_own_bounds p scope) (has_count p) (trees_in t) (each_plain scope (trees_in t) (plain_trees t e))

-- ---- places

abbrev pub IsPlainPlace : PType → Type 0
IsPlainPlace (ptype.Value t) = IsPlainType t
IsPlainPlace (ptype.Pointer t) = IsPlainType t
IsPlainPlace ptype.Native = Unit {0}

pub put_place_same : (m : MethodTree) (t : PType) → IsPlainPlace t → put_place m t ≡ t
put_place_same m (ptype.Value t) e = ap ptype.Value (put_same m t e)
put_place_same m (ptype.Pointer t) e = ap ptype.Pointer (put_same m t e)
put_place_same m ptype.Native e = refl

pub put_places_same : (m : MethodTree) (ts : List PType) → AllByRecursion IsPlainPlace ts → map (put_place m) ts ≡ ts
put_places_same m [] all = refl
put_places_same m (t ∷ ts) all = ap (λ z. z ∷ map (put_place m) ts) (put_place_same m t all.0) ∙ ap (λ zs. t ∷ zs) (put_places_same m ts all.1)

-- what the types of places say of the places
pub plain_places : (ts : List PType) → AllByRecursion IsPlainType (types_of_places ts) → AllByRecursion IsPlainPlace ts
plain_places [] all = tt
plain_places (ptype.Value t ∷ ts) all = (all.0, plain_places ts all.1)
plain_places (ptype.Pointer t ∷ ts) all = (all.0, plain_places ts all.1)
plain_places (ptype.Native ∷ ts) all = (tt, plain_places ts all)
