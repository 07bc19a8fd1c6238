-- Facts on types without arguments that examples cite.
use Rattle.std.proofs.Common.{◌≡◌, ℕ, zero, suc, Bool, true, false, List, [], ◌∷◌, ◌++◌, Some, None, slice_get, ◌*◌, ◌&&◌, ◌||◌, nat_lt, flat_map, refl, ap, ◌∙◌}
use Rattle.std.specs.List.{list_any}
use Rattle.type_tree.specs.declared.tree.Head.TheVariants as head
use Rattle.type_tree.specs.declared.tree.TExpr.{TExpr}
use Rattle.type_tree.specs.Substitution.{substituted}
use Rattle.type_tree.specs.Positions.{positions_of}
use Rattle.type_tree.specs.Same.{is_same}
use Rattle.type_tree.proofs.TreeLemmas.{top_of-tree_of}
use Rattle.type_tree.proofs.SubstitutionLemmas.{substituted-node}
use Rattle.type_tree.proofs.PositionsLemmas.{positions_of-node}
use Rattle.il_model.proofs.TreesLemmas.{is_same-node}
use Rattle.il_model.specs.declared.class.ClassDef.{ClassDef}
use Rattle.il_model.specs.declared.program.Program.{Program}
use Rattle.il_model.specs.Library.{plain}
use Rattle.il_model.specs.Kinds.{is_struct_kind, is_struct_class, is_value, is_reference}
use Rattle.il_model.specs.Find.{class_of}
use Rattle.il_model.specs.Trees.{trees_in}
use Rattle.il_model.specs.Assignable.{is_assignable_flat, assignable_within}
use Rattle.il_model.specs.Admission.{steps_of, closure_within, closure_of, is_large, is_wide, limited_trees_of, limit_among, limit_of}
use Rattle.il_model.specs.Layouts.{most_trees, words_of, words_within, words_in, parts_if, instance_kinds_of}
use Rattle.cil_meaning.specs.Types.{passes_as, kind_of, is_bool}
use Rattle.cil_meaning.specs.Values.{Int32}
use Rattle.cil_meaning.specs.TypedPrograms.{int32}

pub positions_plain : (c : ℕ) → positions_of (plain c) ≡ 1
positions_plain c = positions_of-node (head.Class c) []

pub substituted_plain : (as' bs : List TExpr) (c : ℕ) → substituted as' bs (plain c) ≡ plain c
substituted_plain as' bs c = substituted-node as' bs (head.Class c) []

-- a type that the test of equality finds equal to itself passes as itself
flat_self : (p : Program) (t : TExpr) → is_same t t ≡ true → is_assignable_flat p t t ≡ true
flat_self p t e = rw e refl

within_self : (p : Program) (levels : ℕ) (t : TExpr) → is_same t t ≡ true → assignable_within p levels t t ≡ true
within_self p zero t e = flat_self p t e
within_self p (suc levels) t e = rw (flat_self p t e) refl

pub passes_self : (p : Program) (t : TExpr) → is_same t t ≡ true → passes_as p t t ≡ true
passes_self p t e = rw (within_self p (positions_of t) t e) refl

-- one step of a closure, where the class has a base alone
pub steps_plain : (p : Program) (c b : ℕ) (d e : ClassDef) → slice_get p.classes c ≡ Some d → d.base ≡ Some (plain b) → d.interfaces ≡ [] → d.fields ≡ [] →
    slice_get p.classes b ≡ Some e → e.vars ≡ [] → steps_of p (plain c) ≡ plain b ∷ []
steps_plain p c b d e is base interfaces fields other vars = simp (top_of-tree_of, is, base, interfaces, fields, substituted-node, other, vars) refl

pub steps_root : (p : Program) (c : ℕ) (d : ClassDef) → slice_get p.classes c ≡ Some d → d.base ≡ None → d.interfaces ≡ [] → d.fields ≡ [] → steps_of p (plain c) ≡ []
steps_root p c d is base interfaces fields = simp (top_of-tree_of, is, base, interfaces, fields) refl

-- a test that no tree of a closure passes
append-nil : {A : Type 0} (xs : List A) → xs ++ [] ≡ xs
append-nil [] = refl
append-nil (x ∷ xs) = ap (λ ys. x ∷ ys) (append-nil xs)

pub none_root : (test : TExpr → Bool) (p : Program) (t : TExpr) → steps_of p t ≡ [] → test t ≡ false → (levels : ℕ) → list_any test (closure_within p levels t) ≡ false
none_root test p t steps fails zero = rw fails refl
none_root test p t steps fails (suc levels) = rw (fails, steps) refl

pub none_above : (test : TExpr → Bool) (p : Program) (t u : TExpr) → steps_of p t ≡ u ∷ [] → test t ≡ false → ((levels : ℕ) → list_any test (closure_within p levels u) ≡ false) →
    (levels : ℕ) → list_any test (closure_within p levels t) ≡ false
none_above test p t u steps fails rest zero = rw fails refl
none_above test p t u steps fails rest (suc levels) = rw (fails, steps, append-nil (closure_within p levels u)) (rest levels)

pub value_plain : (p : Program) (c : ℕ) (d : ClassDef) → slice_get p.classes c ≡ Some d → is_struct_kind d.kind ≡ false → is_value p (plain c) ≡ false
value_plain p c d is no_struct = simp (top_of-tree_of, is, no_struct) refl

pub large_plain : (c : ℕ) → is_large (plain c) ≡ false
large_plain c = rw (positions_plain c) refl

pub trees_plain : (c : ℕ) → trees_in (plain c) ≡ plain c ∷ []
trees_plain c = simp (positions_plain c, top_of-tree_of) refl

pub limited_plain : (p : Program) (c : ℕ) → limited_trees_of p (plain c) ≡ closure_of p (plain c)
limited_plain p c = ap (flat_map (closure_of p)) (trees_plain c) ∙ append-nil (closure_of p (plain c))

none_among : (p : Program) (ts : List TExpr) → list_any is_large ts ≡ false → list_any (is_wide p) ts ≡ false → limit_among p ts ≡ None
none_among p ts large wide = rw (large, wide) refl

-- a class without arguments is admitted where no tree of its closure is large or wide
pub admitted_plain : (p : Program) (c : ℕ) → ((levels : ℕ) → list_any is_large (closure_within p levels (plain c)) ≡ false) →
    ((levels : ℕ) → list_any (is_wide p) (closure_within p levels (plain c)) ≡ false) → limit_of p (plain c) ≡ None
admitted_plain p c large wide = ap (limit_among p) (limited_plain p c) ∙ none_among p (closure_of p (plain c)) (large (most_trees * positions_of (plain c))) (wide (most_trees * positions_of (plain c)))

-- a class that is no struct is no wide value
pub wide_plain : (p : Program) (c : ℕ) (d : ClassDef) → slice_get p.classes c ≡ Some d → is_struct_kind d.kind ≡ false → is_wide p (plain c) ≡ false
wide_plain p c d is no_struct = rw (value_plain p c d is no_struct) refl

pub class_plain : (p : Program) (c : ℕ) (d : ClassDef) → slice_get p.classes c ≡ Some d → class_of p (plain c) ≡ Some d
class_plain p c d is = rw (top_of-tree_of) is

-- int32 ------------------------------------------------------------------

pub substituted_int32 : (as' bs : List TExpr) → substituted as' bs int32 ≡ int32
substituted_int32 as' bs = substituted-node as' bs head.Int32 []

pub same_int32 : is_same int32 int32 ≡ true
same_int32 = is_same-node head.Int32 [] int32 ∙ rw (top_of-tree_of) refl

no_class : (p : Program) → class_of p int32 ≡ None
no_class p = rw (top_of-tree_of) refl

pub words_within_int32 : (p : Program) (levels : ℕ) → words_within p levels int32 ≡ 1
words_within_int32 p zero = refl
words_within_int32 p (suc levels) = ap (λ c. words_in (λ part. words_within p levels part) (parts_if (is_struct_class c) (instance_kinds_of p int32))) (no_class p)

pub words_int32 : (p : Program) → words_of p int32 ≡ 1
words_int32 p = words_within_int32 p (most_trees * positions_of int32)

pub kind_int32 : (p : Program) → kind_of p int32 ≡ Int32
kind_int32 p = rw (top_of-tree_of) refl

pub no_bool_int32 : is_bool int32 ≡ false
no_bool_int32 = rw (top_of-tree_of) refl

pub no_reference_int32 : (p : Program) → is_reference p int32 ≡ false
no_reference_int32 p = rw (top_of-tree_of) refl

value_int32 : (p : Program) → is_value p int32 ≡ true
value_int32 p = rw (top_of-tree_of) refl

large_int32 : is_large int32 ≡ false
large_int32 = rw (positions_of-node head.Int32 []) refl

wide_by : (p : Program) (words : ℕ) → words ≡ 1 → (is_value p int32 && nat_lt 16 words) ≡ false
wide_by p words one = rw (value_int32 p, one) refl

wide_int32 : (p : Program) → is_wide p int32 ≡ false
wide_int32 p = wide_by p (words_of p int32) (words_int32 p)

steps_int32 : (p : Program) → steps_of p int32 ≡ []
steps_int32 p = simp (top_of-tree_of) refl

trees_int32 : trees_in int32 ≡ int32 ∷ []
trees_int32 = simp (positions_of-node, top_of-tree_of) refl

pub admitted_int32 : (p : Program) → limit_of p int32 ≡ None
admitted_int32 p = ap (limit_among p) (ap (flat_map (closure_of p)) trees_int32 ∙ append-nil (closure_of p int32))
    ∙ none_among p (closure_of p int32) (none_root is_large p int32 (steps_int32 p) large_int32 (most_trees * positions_of int32)) (none_root (is_wide p) p int32 (steps_int32 p) (wide_int32 p) (most_trees * positions_of int32))

pub none_int32_large : (p : Program) (levels : ℕ) → list_any is_large (closure_within p levels int32) ≡ false
none_int32_large p = none_root is_large p int32 (steps_int32 p) large_int32

pub none_int32_wide : (p : Program) (levels : ℕ) → list_any (is_wide p) (closure_within p levels int32) ≡ false
none_int32_wide p = none_root (is_wide p) p int32 (steps_int32 p) (wide_int32 p)

-- the closure of a class with a base and a field of int32
pub steps_with_int32 : (p : Program) (c b : ℕ) (d e : ClassDef) (name : List ℕ) (fixed : Bool) → slice_get p.classes c ≡ Some d → d.base ≡ Some (plain b) → d.interfaces ≡ [] →
    d.fields ≡ record { name = name; fixed = fixed; kind = int32 } ∷ [] → slice_get p.classes b ≡ Some e → e.vars ≡ [] → steps_of p (plain c) ≡ plain b ∷ int32 ∷ []
steps_with_int32 p c b d e name fixed is base interfaces fields other vars = simp (top_of-tree_of, is, base, interfaces, fields, substituted-node, other, vars) refl

-- a test that no tree passes of a closure that goes on to two types
by_head : (test : TExpr → Bool) (b : Bool) (xs ys : List TExpr) → (b || list_any test xs) ≡ false → list_any test ys ≡ false → (list_any test xs ≡ false → list_any test (xs ++ ys) ≡ false) → (b || list_any test (xs ++ ys)) ≡ false
by_head test true xs ys none_of others go = none_of
by_head test false xs ys none_of others go = go none_of

pub list_any-append : (test : TExpr → Bool) (xs ys : List TExpr) → list_any test xs ≡ false → list_any test ys ≡ false → list_any test (xs ++ ys) ≡ false
list_any-append test [] ys none_of others = others
list_any-append test (x ∷ xs) ys none_of others = by_head test (test x) xs ys none_of others (λ e. list_any-append test xs ys e others)

pub none_above_two : (test : TExpr → Bool) (p : Program) (t u v : TExpr) → steps_of p t ≡ u ∷ v ∷ [] → test t ≡ false → ((levels : ℕ) → list_any test (closure_within p levels u) ≡ false) →
    ((levels : ℕ) → list_any test (closure_within p levels v) ≡ false) → (levels : ℕ) → list_any test (closure_within p levels t) ≡ false
none_above_two test p t u v steps fails first second zero = rw fails refl
none_above_two test p t u v steps fails first second (suc levels) = rw (fails, steps, append-nil (closure_within p levels v)) (list_any-append test (closure_within p levels u) (closure_within p levels v) (first levels) (second levels))
