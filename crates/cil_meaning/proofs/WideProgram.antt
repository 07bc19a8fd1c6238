-- The small program with a refused mention means what was written by hand.
use Rattle.std.proofs.Common.{◌≡◌, ℕ, zero, suc, ◌*◌, Bool, true, false, ◌&&◌, List, [], ◌∷◌, Some, sum_by, nat_lt, flat_map, refl, ap, ◌∙◌}
use Rattle.std.specs.List.{list_any}
use Rattle.type_tree.specs.declared.tree.TExpr.{TExpr}
use Rattle.type_tree.specs.Positions.{positions_of}
use Rattle.type_tree.specs.Substitution.{substituted}
use Rattle.type_tree.proofs.TreeLemmas.{top_of-tree_of}
use Rattle.type_tree.proofs.SubstitutionLemmas.{substituted-node}
use Rattle.il_model.specs.declared.layout.Limit.TheVariants as limit
use Rattle.il_model.specs.declared.program.Program.{Program}
use Rattle.il_model.specs.Entries.{arguments_of}
use Rattle.il_model.specs.Find.{class_of}
use Rattle.il_model.specs.Kinds.{is_struct_class, is_value}
use Rattle.il_model.specs.Library.{plain}
use Rattle.il_model.specs.Layouts.{most_trees, parts_of, words_in, words_within, words_of, instance_kinds_of}
use Rattle.il_model.specs.Admission.{limit_among, limit_of, steps_of, closure_within, closure_of, is_large, is_wide}
use Rattle.interaction.specs.Process.{rests, begins, asks}
use Rattle.cil_meaning.specs.SmallPrograms.{Means}
use Rattle.cil_meaning.specs.TypedPrograms.{int32, classes_named, wide, wide_history}
use Rattle.cil_meaning.proofs.PlainTypes.{positions_plain, substituted_plain, large_plain, limited_plain, words_within_int32, none_int32_large, list_any-append}
use Rattle.cil_meaning.proofs.Steps.{stops_at}

-- so many times one type
abbrev copies : ℕ → TExpr → List TExpr
copies zero t = []
copies (suc n) t = t ∷ copies n t

abbrev fields14 : List TExpr
fields14 = int32 ∷ int32 ∷ int32 ∷ int32 ∷ int32 ∷ int32 ∷ int32 ∷ int32 ∷ int32 ∷ int32 ∷ int32 ∷ int32 ∷ int32 ∷ int32 ∷ int32 ∷ int32 ∷ int32 ∷ []

kinds14 : instance_kinds_of wide (plain 14) ≡ fields14
kinds14 = simp (top_of-tree_of, substituted-node) refl

steps14 : steps_of wide (plain 14) ≡ fields14
steps14 = simp (top_of-tree_of, substituted-node) refl

class14 : is_struct_class (class_of wide (plain 14)) ≡ true
class14 = simp (top_of-tree_of) refl

parts14 : parts_of wide (plain 14) ≡ Some fields14
parts14 = rw (class14, kinds14) refl

-- its words
sum_of_ones : (f : TExpr → ℕ) → f int32 ≡ 1 → sum_by f fields14 ≡ 17
sum_of_ones f one = rw one refl

words_from : (levels : ℕ) → words_within wide (suc levels) (plain 14) ≡ 17
words_from levels = ap (words_in (λ part. words_within wide levels part)) parts14 ∙ sum_of_ones (λ part. words_within wide levels part) (words_within_int32 wide levels)

levels14 : most_trees * positions_of (plain 14) ≡ 8192
levels14 = ap (λ n. most_trees * n) (positions_plain 14)

words14 : words_of wide (plain 14) ≡ 17
words14 = ap (λ levels. words_within wide levels (plain 14)) levels14 ∙ words_from 8191

value14 : is_value wide (plain 14) ≡ true
value14 = simp (top_of-tree_of) refl

wide_by : (b : Bool) (n : ℕ) → b ≡ true → n ≡ 17 → (b && nat_lt 16 n) ≡ true
wide_by b n is words = rw (is, words) refl

is_wide14 : is_wide wide (plain 14) ≡ true
is_wide14 = wide_by (is_value wide (plain 14)) (words_of wide (plain 14)) value14 words14

-- no tree of its closure is large, and one is wide
some_first : (test : TExpr → Bool) (p : Program) (t : TExpr) → test t ≡ true → (levels : ℕ) → list_any test (closure_within p levels t) ≡ true
some_first test p t is zero = rw is refl
some_first test p t is (suc levels) = rw is refl

none_of_copies : (test : TExpr → Bool) (f : TExpr → List TExpr) → list_any test (f int32) ≡ false → (n : ℕ) → list_any test (flat_map f (copies n int32)) ≡ false
none_of_copies test f fails zero = refl
none_of_copies test f fails (suc n) = list_any-append test (f int32) (flat_map f (copies n int32)) fails (none_of_copies test f fails n)

large_first : is_large (plain 14) ≡ false
large_first = large_plain 14

large14 : (levels : ℕ) → list_any is_large (closure_within wide levels (plain 14)) ≡ false
large14 zero = rw large_first refl
large14 (suc levels) = rw (large_first, steps14) (none_of_copies is_large (closure_within wide levels) (none_int32_large wide levels) 17)

some_wide : (ts : List TExpr) → list_any is_large ts ≡ false → list_any (is_wide wide) ts ≡ true → limit_among wide ts ≡ Some limit.ValueWords
some_wide ts large is = rw (large, is) refl

limit14 : limit_of wide (plain 14) ≡ Some limit.ValueWords
limit14 = ap (limit_among wide) (limited_plain wide 14) ∙ some_wide (closure_of wide (plain 14)) (large14 (most_trees * positions_of (plain 14))) (some_first (is_wide wide) wide (plain 14) is_wide14 (most_trees * positions_of (plain 14)))

limit_here : (as' : List TExpr) → limit_of wide (substituted as' [] (plain 14)) ≡ Some limit.ValueWords
limit_here as' = ap (limit_of wide) (substituted_plain as' [] 14) ∙ limit14

pub wide_means : Means wide classes_named wide_history
wide_means = record {
  replays = (record { given = refl; goes_on = refl; proper = refl }, tt);
  talk = begins (stops_at wide _ _ limit.ValueWords (limit_here (arguments_of (plain 13))) (asks rests));
}
