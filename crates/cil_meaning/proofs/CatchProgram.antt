-- The small program with a caught exception means what was written by hand.
use Rattle.std.proofs.Common.{◌≡◌, ℕ, Bool, true, false, slice_get, List, [], ◌∷◌, Some, None, refl, ap, ◌∙◌}
use Rattle.std.specs.List.{list_any}
use Rattle.type_tree.specs.Same.{is_same}
use Rattle.type_tree.specs.declared.tree.TExpr.{TExpr}
use Rattle.type_tree.specs.declared.tree.Head.TheVariants as head
use Rattle.type_tree.specs.Substitution.{substituted}
use Rattle.type_tree.proofs.TreeLemmas.{top_of-tree_of}
use Rattle.il_model.proofs.TreesLemmas.{is_same-node}
use Rattle.il_model.specs.declared.class.ClassDef.{ClassDef}
use Rattle.il_model.specs.Entries.{arguments_of}
use Rattle.il_model.specs.Library.{plain}
use Rattle.il_model.specs.Kinds.{is_struct_kind}
use Rattle.il_model.specs.Admission.{limit_of, steps_of, closure_within, is_large, is_wide}
use Rattle.interaction.specs.Process.{rests, begins, settles, spells, asks}
use Rattle.cil_meaning.specs.Types.{passes_as}
use Rattle.cil_meaning.specs.SmallPrograms.{Means}
use Rattle.cil_meaning.specs.TypedPrograms.{classes_named, catches, catches_history}
use Rattle.cil_meaning.proofs.PlainTypes.{substituted_plain, passes_self, steps_plain, steps_root, none_root, none_above, large_plain, wide_plain, admitted_plain}
use Rattle.cil_meaning.proofs.Steps.{within_limits, where_true}

same_plain : is_same (plain 5) (plain 5) ≡ true
same_plain = is_same-node (head.Class 5) [] (plain 5) ∙ rw (top_of-tree_of) refl

-- the closure of DivideByZeroException, upwards
up5 : steps_of catches (plain 5) ≡ plain 4 ∷ []
up5 = steps_plain catches 5 4 _ _ refl refl refl refl refl refl

up4 : steps_of catches (plain 4) ≡ plain 3 ∷ []
up4 = steps_plain catches 4 3 _ _ refl refl refl refl refl refl

up3 : steps_of catches (plain 3) ≡ plain 2 ∷ []
up3 = steps_plain catches 3 2 _ _ refl refl refl refl refl refl

up2 : steps_of catches (plain 2) ≡ plain 0 ∷ []
up2 = steps_plain catches 2 0 _ _ refl refl refl refl refl refl

up0 : steps_of catches (plain 0) ≡ []
up0 = steps_root catches 0 _ refl refl refl refl

module _ (test : TExpr → Bool) (f5 : test (plain 5) ≡ false) (f4 : test (plain 4) ≡ false) (f3 : test (plain 3) ≡ false) (f2 : test (plain 2) ≡ false) (f0 : test (plain 0) ≡ false) where
  none5 : (levels : ℕ) → list_any test (closure_within catches levels (plain 5)) ≡ false
  none5 = none_above test catches (plain 5) (plain 4) up5 f5 (none_above test catches (plain 4) (plain 3) up4 f4 (none_above test catches (plain 3) (plain 2) up3 f3 (none_above test catches (plain 2) (plain 0) up2 f2 (none_root test catches (plain 0) up0 f0))))

wide : (c : ℕ) (d : ClassDef) → slice_get catches.classes c ≡ Some d → is_struct_kind d.kind ≡ false → is_wide catches (plain c) ≡ false
wide c d is no_struct = wide_plain catches c d is no_struct

admitted5 : limit_of catches (plain 5) ≡ None
admitted5 = admitted_plain catches 5 (none5 is_large (large_plain 5) (large_plain 4) (large_plain 3) (large_plain 2) (large_plain 0)) (none5 (is_wide catches) (wide 5 _ refl refl) (wide 4 _ refl refl) (wide 3 _ refl refl) (wide 2 _ refl refl) (wide 0 _ refl refl))

clause_admitted : (as' : List TExpr) → limit_of catches (substituted as' [] (plain 5)) ≡ None
clause_admitted as' = ap (limit_of catches) (substituted_plain as' [] 5) ∙ admitted5

clause_passes : (as' : List TExpr) → passes_as catches (plain 5) (substituted as' [] (plain 5)) ≡ true
clause_passes as' = ap (passes_as catches (plain 5)) (substituted_plain as' [] 5) ∙ passes_self catches (plain 5) same_plain

pub catches_mean : Means catches classes_named catches_history
catches_mean = record {
  replays = (record { given = refl; goes_on = refl; proper = refl }, (record { given = refl; goes_on = refl; proper = refl }, (record { given = refl; goes_on = refl; proper = refl }, tt)));
  talk = begins (begins (begins (settles refl (asks (within_limits catches _ (clause_admitted (arguments_of (plain 13))) (settles refl (spells refl (where_true catches _ _ _ (clause_passes (arguments_of (plain 13)))
      (begins (begins (begins (asks (begins (asks rests))))))))))))));
}
