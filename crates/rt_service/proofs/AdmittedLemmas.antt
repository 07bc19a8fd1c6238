-- The words of a value of an admitted type.
use Rattle.std.proofs.Common.{◌≡◌, ℕ, zero, suc, ◌*◌, ◌≤◌, Bool, true, false, cond, ◌&&◌, ◌||◌, nat_lt, [], flat_map, slice_get, Some, None, option_and_then, refl, ap, ◌∙◌, arith}
use Rattle.std.specs.List.{list_any}
use Rattle.std.proofs.lemmas.Bool.Decides.{nat_tests}
use Rattle.std.proofs.lemmas.List.Folds.{list_any-append}
use Rattle.type_tree.specs.declared.tree.TExpr.{TExpr}
use Rattle.type_tree.specs.declared.tree.TNode.{TNode}
use Rattle.type_tree.specs.declared.tree.TNode.TheVariants.{Node, ClassVar, MethodVar}
use Rattle.type_tree.specs.declared.tree.Head.TheVariants as head
use Rattle.type_tree.specs.Tree.{top_of}
use Rattle.type_tree.specs.Positions.{positions_of}
use Rattle.il_model.specs.declared.layout.Limit.TheVariants as limit
use Rattle.il_model.specs.declared.program.Program.{Program}
use Rattle.il_model.specs.Entries.{arguments_of}
use Rattle.il_model.specs.Find.{class_in_top, class_of}
use Rattle.il_model.specs.Kinds.{is_value, is_value_top, is_struct_class}
use Rattle.il_model.specs.Trees.{trees_within}
use Rattle.il_model.specs.Layouts.{parts_if, words_in, words_within, words_of, most_trees, instance_kinds_of}
use Rattle.il_model.specs.Admission.{steps_of, most_words, is_wide, is_large, closure_within, closure_of, limited_trees_of, limit_of}

-- what begins with a type of which a test holds has one of which it holds
first_within : (test : TExpr → Bool) (program : Program) (n : ℕ) (t : TExpr) → test t ≡ true → list_any test (closure_within program n t) ≡ true
first_within test program zero t holds = ap (λ b. b || false) holds
first_within test program (suc n) t holds = ap (λ b. b || list_any test (flat_map (λ next. closure_within program n next) (steps_of program t))) holds

among_limited : (test : TExpr → Bool) (program : Program) (n : ℕ) (t : TExpr) → test t ≡ true →
    list_any test (flat_map (closure_of program) (trees_within n t)) ≡ true
among_limited test program zero t holds =
    list_any-append test (closure_of program t) [] ∙ ap (λ b. b || false) (first_within test program (most_trees * positions_of t) t holds)
among_limited test program (suc n) t holds =
    let rest = flat_map (closure_of program) (flat_map (λ part. trees_within n part) (arguments_of t)) in
    list_any-append test (closure_of program t) rest
    ∙ ap (λ b. b || list_any test rest) (first_within test program (most_trees * positions_of t) t holds)

not_none : (large wide : Bool) → cond large (Some limit.Positions) (cond wide (Some limit.ValueWords) None) ≡ None → wide ≡ true → ⊥
not_none true wide none is = cc
not_none false true none is = cc
not_none false false none is = cc

module _ (program : Program) (t : TExpr) where
  narrow_from : (b : Bool) → is_wide program t ≡ b → limit_of program t ≡ None → is_wide program t ≡ false
  narrow_from false e none = e
  narrow_from true e none =
      absurd (not_none (list_any is_large (limited_trees_of program t)) (list_any (is_wide program) (limited_trees_of program t)) none (among_limited (is_wide program) program (positions_of t) t e))

  -- what is no value type is no struct
  no_struct : (top : TNode TExpr) → top_of t ≡ top → is_value_top program t top ≡ false → is_struct_class (class_of program t) ≡ false
  no_struct (Node head.Int32 parts) is none = cc
  no_struct (Node head.Int64 parts) is none = cc
  no_struct (Node head.Bool parts) is none = cc
  no_struct (Node head.Vector parts) is none = ap (λ top. is_struct_class (option_and_then (λ number. slice_get program.classes number) (class_in_top top))) is
  no_struct (Node (head.Class number) parts) is none = none
  no_struct (ClassVar n) is none = ap (λ top. is_struct_class (option_and_then (λ number. slice_get program.classes number) (class_in_top top))) is
  no_struct (MethodVar n) is none = ap (λ top. is_struct_class (option_and_then (λ number. slice_get program.classes number) (class_in_top top))) is

  pub one_word : (n : ℕ) → is_struct_class (class_of program t) ≡ false → words_within program n t ≡ 1
  one_word zero none = refl
  one_word (suc n) none = ap (λ b. words_in (λ part. words_within program n part) (parts_if b (instance_kinds_of program t))) none

  few_if : (v : Bool) → is_value program t ≡ v → (v && nat_lt most_words (words_of program t)) ≡ false → words_of program t ≤ most_words
  few_if true is few = grind (arith, nat_tests)
  few_if false is few = let one : words_of program t ≡ 1 = one_word (most_trees * positions_of t) (no_struct (top_of t) refl is) in omega arith

  -- a value of an admitted type has few words
  pub few_words : limit_of program t ≡ None → words_of program t ≤ most_words
  few_words none = few_if (is_value program t) refl (narrow_from (is_wide program t) refl none)
