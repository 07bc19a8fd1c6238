-- The small program with a call means what was written by hand.
use Rattle.std.proofs.Common.{◌≡◌, ℕ, List, [], ◌∷◌, Option, Some, None, map, refl, ap, ◌∙◌}
use Rattle.std.specs.Prelude.{option_and_then, option_to_list, ◌+◌, nat_lt, if◌then◌else◌}
use Rattle.type_tree.specs.Positions.{positions_of}
use Rattle.il_model.specs.declared.layout.Limit.{Limit}
use Rattle.il_model.specs.declared.layout.Limit.TheVariants as limit
use Rattle.type_tree.specs.declared.tree.TExpr.{TExpr}
use Rattle.type_tree.specs.Substitution.{substituted}
use Rattle.il_model.specs.Entries.{arguments_of, method_entry, entries_of}
use Rattle.il_model.specs.declared.op.Op.TheVariants as op
use Rattle.il_model.specs.Found.{own_method, method_found}
use Rattle.il_model.specs.Library.{plain}
use Rattle.il_model.specs.Admission.{limit_of, steps_of, is_large, is_wide}
use Rattle.interaction.specs.Process.{rests, begins, settles, asks}
use Rattle.il_model.specs.Methods.{worst, limit_of_method}
use Rattle.cil_meaning.specs.SmallPrograms.{Means}
use Rattle.cil_meaning.specs.TypedPrograms.{classes_named, show, calls, calls_history}
use Rattle.cil_meaning.proofs.PlainTypes.{class_plain, positions_plain, substituted_plain, steps_plain, steps_root, none_root, none_above, large_plain, wide_plain, admitted_plain}
use Rattle.cil_meaning.proofs.Steps.{within_limits, where_entries, main_site, where_given}

found : method_found calls show ≡ Some 13
found = ap (option_and_then (own_method calls show)) (class_plain calls 13 _ refl)

listed : entries_of calls (op.Call show) ≡ method_entry show 13 ∷ []
listed = ap (λ x. map (method_entry show) (option_to_list x)) found

up13 : steps_of calls (plain 13) ≡ plain 0 ∷ []
up13 = steps_plain calls 13 0 _ _ refl refl refl refl refl refl

up0 : steps_of calls (plain 0) ≡ []
up0 = steps_root calls 0 _ refl refl refl refl

admitted13 : limit_of calls (plain 13) ≡ None
admitted13 = admitted_plain calls 13
    (none_above is_large calls (plain 13) (plain 0) up13 (large_plain 13) (none_root is_large calls (plain 0) up0 (large_plain 0)))
    (none_above (is_wide calls) calls (plain 13) (plain 0) up13 (wide_plain calls 13 _ refl refl) (none_root (is_wide calls) calls (plain 0) up0 (wide_plain calls 0 _ refl refl)))

worst_none : (l : Option Limit) → l ≡ None → worst (l ∷ []) ≡ None
worst_none l is = rw is refl

not_many : (n : ℕ) (l : Option Limit) → n ≡ 1 → l ≡ None → (if nat_lt 256 (1 + (0 + n)) then Some limit.Positions else l) ≡ None
not_many n l one none = rw (one, none) refl

method_admitted : limit_of_method calls (record { method = 13; class = plain 13; args = [] }) ≡ None
method_admitted = not_many (positions_of (plain 13)) (worst (limit_of calls (plain 13) ∷ [])) (positions_plain 13) (worst_none (limit_of calls (plain 13)) admitted13)

callee_admitted : (as' : List TExpr) → limit_of_method calls (record { method = 13; class = substituted as' [] (plain 13); args = [] }) ≡ None
callee_admitted as' = ap (λ t. limit_of_method calls (record { method = 13; class = t; args = [] })) (substituted_plain as' [] 13) ∙ method_admitted

pub calls_mean : Means calls classes_named calls_history
calls_mean = record {
  replays = (record { given = refl; goes_on = refl; proper = refl }, (record { given = refl; goes_on = refl; proper = refl }, (record { given = refl; goes_on = refl; proper = refl }, tt)));
  talk = begins (where_entries calls (main_site calls 0 []) (op.Call show) _ listed (within_limits calls _ (callee_admitted (arguments_of (plain 13))) (settles refl (where_given calls _ _ 13 found
      (begins (begins (asks (begins (begins (begins (asks (begins (asks rests)))))))))))));
}
