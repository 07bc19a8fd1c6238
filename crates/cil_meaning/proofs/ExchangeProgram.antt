-- The small program with a static field and an exchange means what was written by hand.
use Rattle.std.proofs.Common.{◌≡◌, ℕ, Bool, true, false, ◌&&◌, ◌==◌, List, [], ◌∷◌, Option, Some, None, pos, slice_get, refl, ap, ◌∙◌}
use Rattle.std.specs.List.{filter}
use Rattle.std.specs.Prelude.{option_and_then, take, length, map, ◌%◌, if◌then◌else◌}
use Rattle.type_tree.specs.declared.tree.TExpr.{TExpr}
use Rattle.type_tree.specs.Tree.{top_of}
use Rattle.type_tree.specs.Substitution.{substituted}
use Rattle.type_tree.proofs.TreeLemmas.{top_of-tree_of}
use Rattle.il_model.specs.declared.class.ClassDef.{ClassDef}
use Rattle.il_model.specs.declared.entry.Entry.TheVariants as entry
use Rattle.il_model.specs.declared.op.Op.TheVariants as op
use Rattle.il_model.specs.Entries.{arguments_of, field_type, field_entries, field_entries_at, size_entries}
use Rattle.il_model.specs.Find.{class_of, most_fields}
use Rattle.il_model.specs.Found.{own_field, field_found}
use Rattle.il_model.specs.Kinds.{is_reference}
use Rattle.il_model.specs.Library.{plain}
use Rattle.il_model.specs.Layouts.{fields_in, kinds_at, static_kinds_of, words_of, offsets_from}
use Rattle.il_model.specs.Admission.{limit_of, steps_of, is_large, is_wide}
use Rattle.interaction.specs.Process.{rests, begins, settles, asks}
use Rattle.cil_meaning.specs.Words.{int32_word}
use Rattle.cil_meaning.specs.Values.{Kind, Int32, InStatic, Plain, same_kind}
use Rattle.cil_meaning.specs.Types.{kind_of, is_bool, kept}
use Rattle.cil_meaning.specs.Offsets.{static_offset, static_fields}
use Rattle.cil_meaning.specs.Site.{Site, goes_with}
use Rattle.cil_meaning.specs.Pieces.{reads, writes}
use Rattle.cil_meaning.specs.Members.{throws_null, pushes, type_here}
use Rattle.cil_meaning.specs.SmallPrograms.{Means}
use Rattle.cil_meaning.specs.TypedPrograms.{int32, number_of_top, classes_named, count, exchanges, exchanges_history}
use Rattle.cil_meaning.proofs.PlainTypes.{class_plain, substituted_plain, steps_root, none_root, none_above_two, large_plain, wide_plain, admitted_plain, substituted_int32, same_int32, words_int32, kind_int32, no_bool_int32, no_reference_int32, admitted_int32, steps_with_int32, none_int32_large, none_int32_wide}
use Rattle.cil_meaning.proofs.Steps.{within_limits, where_entries, main_site, where_given, where_true, where_is}

abbrev args : List TExpr
args = arguments_of (plain 13)

found : field_found exchanges count ≡ Some 0
found = ap (option_and_then (own_field most_fields count)) (class_plain exchanges 13 _ refl) ∙ rw same_int32 refl

no_reference : (as' : List TExpr) → is_reference exchanges (substituted as' [] int32) ≡ false
no_reference as' = ap (is_reference exchanges) (substituted_int32 as' []) ∙ no_reference_int32 exchanges

sized : size_entries exchanges (field_type count) ≡ entry.Size (field_type count) ∷ []
sized = rw (no_reference (arguments_of (plain 13))) refl

listed : field_entries exchanges count ≡ entry.Kind (plain 13) ∷ entry.Offset (plain 13) 0 ∷ entry.Size (field_type count) ∷ []
listed = ap (field_entries_at exchanges count) found ∙ ap (λ es. entry.Kind (plain 13) ∷ entry.Offset (plain 13) 0 ∷ es) sized

up13 : steps_of exchanges (plain 13) ≡ plain 0 ∷ int32 ∷ []
up13 = steps_with_int32 exchanges 13 0 _ _ _ _ refl refl refl refl refl refl

up0 : steps_of exchanges (plain 0) ≡ []
up0 = steps_root exchanges 0 _ refl refl refl refl

admitted13 : limit_of exchanges (plain 13) ≡ None
admitted13 = admitted_plain exchanges 13
    (none_above_two is_large exchanges (plain 13) (plain 0) int32 up13 (large_plain 13) (none_root is_large exchanges (plain 0) up0 (large_plain 0)) (none_int32_large exchanges))
    (none_above_two (is_wide exchanges) exchanges (plain 13) (plain 0) int32 up13 (wide_plain exchanges 13 _ refl refl) (none_root (is_wide exchanges) exchanges (plain 0) up0 (wide_plain exchanges 0 _ refl refl)) (none_int32_wide exchanges))

class_admitted : (as' : List TExpr) → limit_of exchanges (substituted as' [] (plain 13)) ≡ None
class_admitted as' = ap (limit_of exchanges) (substituted_plain as' [] 13) ∙ admitted13

-- the field's type, as it stands in the running body
type_is : (as' bs : List TExpr) → substituted as' [] (substituted bs [] int32) ≡ int32
type_is as' bs = ap (substituted as' []) (substituted_int32 bs []) ∙ substituted_int32 as' []

type_admitted : (as' bs : List TExpr) → limit_of exchanges (substituted as' [] (substituted bs [] int32)) ≡ None
type_admitted as' bs = ap (limit_of exchanges) (type_is as' bs) ∙ admitted_int32 exchanges

one_word_here : (as' bs : List TExpr) → words_of exchanges (substituted as' [] (substituted bs [] int32)) ≡ 1
one_word_here as' bs = ap (words_of exchanges) (type_is as' bs) ∙ words_int32 exchanges

kind_here : (as' bs : List TExpr) → kind_of exchanges (substituted as' [] (substituted bs [] int32)) ≡ Int32
kind_here as' bs = ap (kind_of exchanges) (type_is as' bs) ∙ kind_int32 exchanges

no_bool_here : (as' bs : List TExpr) → is_bool (substituted as' [] (substituted bs [] int32)) ≡ false
no_bool_here as' bs = ap is_bool (type_is as' bs) ∙ no_bool_int32

number_is : Some (number_of_top (top_of (plain 13))) ≡ Some 18
number_is = rw (top_of-tree_of) refl

statics_are : static_kinds_of exchanges (plain 13) ≡ substituted (arguments_of (plain 13)) [] int32 ∷ []
statics_are = ap (λ o. kinds_at (plain 13) (filter (λ f. f.fixed) (fields_in o))) (class_plain exchanges 13 _ refl)

offset_by : (o : Option ClassDef) (d : ClassDef) (ts : List TExpr) (t : TExpr) → o ≡ Some d → ts ≡ t ∷ [] →
    option_and_then (λ (c : ClassDef). slice_get (offsets_from 0 (map (words_of exchanges) ts)) (length (static_fields (take 0 c.fields)))) o ≡ Some 0
offset_by o d ts t is there = rw (is, there) refl

offset13 : static_offset exchanges (plain 13) 0 ≡ Some 0
offset13 = offset_by (class_of exchanges (plain 13)) _ (static_kinds_of exchanges (plain 13)) _ (class_plain exchanges 13 _ refl) statics_are

offset_is : (as' : List TExpr) → static_offset exchanges (substituted as' [] (plain 13)) 0 ≡ Some 0
offset_is as' = ap (λ t. static_offset exchanges t 0) (substituted_plain as' [] 13) ∙ offset13

kind_passes : (k : Kind) → k ≡ Int32 → same_kind Int32 k ≡ true
kind_passes k is = rw is refl

fits_by : (k : Kind) (n : ℕ) → k ≡ Int32 → n ≡ 1 → (same_kind Int32 k && (1 == n)) ≡ true
fits_by k n is one = rw (is, one) refl

kept_by : (b : Bool) (few : List ℕ) (all : List ℕ) → b ≡ false → (if b then few else all) ≡ all
kept_by b few all is = rw is refl

kept_is : (as' bs : List TExpr) (words : List ℕ) → kept (substituted as' [] (substituted bs [] int32)) words ≡ words
kept_is as' bs words = kept_by (is_bool (substituted as' [] (substituted bs [] int32))) (map (λ w. w % 256) words) words (no_bool_here as' bs)

abbrev at_store : Site
at_store = main_site exchanges 1 (Plain Int32 (int32_word (pos 3) ∷ []) ∷ [])

abbrev at_load : Site
at_load = main_site exchanges 6 []

pub exchanges_mean : Means exchanges classes_named exchanges_history
exchanges_mean = record {
  replays = (
    record { given = refl; goes_on = refl; proper = refl },
    (
      record { given = refl; goes_on = refl; proper = refl },
      (
        record { given = refl; goes_on = refl; proper = refl },
        (record { given = refl; goes_on = refl; proper = refl }, (record { given = refl; goes_on = refl; proper = refl }, (record { given = refl; goes_on = refl; proper = refl }, tt))),
      ),
    ),
  );
  talk = begins (begins (where_entries exchanges at_store (op.Stsfld count) _ listed
      (within_limits exchanges _ (class_admitted args) (settles number_is (within_limits exchanges _ (class_admitted args) (settles refl (within_limits exchanges _ (type_admitted args args) (settles refl
      (where_given exchanges _ _ 0 found (where_given exchanges _ _ 0 (offset_is args)
      (where_true exchanges _ _ _ (fits_by _ _ (kind_here args args) (one_word_here args args))
      (where_is exchanges (λ words. writes at_store.places (InStatic 18 0) words (throws_null exchanges at_store) (λ pl. goes_with at_store pl [])) _ (3 ∷ []) (kept_is args args (3 ∷ []))
      (asks (begins (where_entries exchanges (main_site exchanges 2 []) (op.Ldsflda count) _ listed
      (within_limits exchanges _ (class_admitted args) (settles number_is (within_limits exchanges _ (class_admitted args) (settles refl (within_limits exchanges _ (type_admitted args args) (settles refl
      (where_given exchanges _ _ 0 found (where_given exchanges _ _ 0 (offset_is args)
      (begins (begins (asks (begins (asks (begins (where_entries exchanges at_load (op.Ldsfld count) _ listed
      (within_limits exchanges _ (class_admitted args) (settles number_is (within_limits exchanges _ (class_admitted args) (settles refl (within_limits exchanges _ (type_admitted args args) (settles refl
      (where_given exchanges _ _ 0 found (where_given exchanges _ _ 0 (offset_is args)
      (where_is exchanges (λ n. reads at_load.places (InStatic 18 0) n (throws_null exchanges at_load) (pushes exchanges at_load (type_here exchanges at_load count) [])) _ 1 (one_word_here args args)
      (asks (begins (where_true exchanges _ _ _ (kind_passes _ (kind_here args args)) (asks (begins (asks rests)))))))))))))))))))))))))))))))))))))))))))));
}
