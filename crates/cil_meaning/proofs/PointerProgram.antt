-- The small program with a field by pointer means what was written by hand.
use Rattle.std.proofs.Common.{◌≡◌, ℕ, suc, ◌*◌, ◌==◌, ◌&&◌, Bool, true, false, List, [], ◌∷◌, map, Option, Some, None, pos, slice_get, sum_by, nat_lt, refl, ap, ◌∙◌}
use Rattle.std.specs.Prelude.{option_and_then, unwrap_or, replicate, if◌then◌else◌, ◌%◌}
use Rattle.type_tree.specs.declared.tree.TExpr.{TExpr}
use Rattle.type_tree.specs.Substitution.{substituted}
use Rattle.type_tree.proofs.TreeLemmas.{top_of-tree_of}
use Rattle.type_tree.proofs.SubstitutionLemmas.{substituted-node}
use Rattle.il_model.specs.declared.class.ClassDef.{ClassDef}
use Rattle.il_model.specs.declared.entry.Entry.TheVariants as entry
use Rattle.il_model.specs.declared.op.Op.TheVariants as op
use Rattle.il_model.specs.Entries.{arguments_of, field_type, field_entries, field_entries_at, size_entries}
use Rattle.il_model.specs.Find.{class_of, most_fields}
use Rattle.il_model.specs.Found.{own_field, field_found, method_at}
use Rattle.il_model.specs.Kinds.{is_struct_class, is_value, is_reference}
use Rattle.il_model.specs.Library.{plain, thread_entry}
use Rattle.il_model.specs.Layouts.{most_trees, parts_of, words_in, words_within, words_of, instance_kinds_of, offsets_from}
use Rattle.il_model.specs.Admission.{limit_of, steps_of, is_large, is_wide}
use Rattle.interaction.specs.Process.{rests, begins, settles, asks, Next}
use Rattle.cil_meaning.specs.Words.{int32_word}
use Rattle.cil_meaning.specs.Values.{Kind, Int32, InFrame, Value, Plain, Managed, same_kind}
use Rattle.cil_meaning.specs.Frames.{Places}
use Rattle.cil_meaning.specs.Types.{kind_of, is_bool, kept}
use Rattle.cil_meaning.specs.Offsets.{instance_offset, instance_place}
use Rattle.cil_meaning.specs.Site.{Site, moved, goes_with}
use Rattle.cil_meaning.specs.Pieces.{reads, writes}
use Rattle.cil_meaning.specs.Members.{throws_null, pushes, type_here}
use Rattle.cil_meaning.specs.Calls.{first_frame}
use Rattle.cil_meaning.specs.Threads.{method_tree}
use Rattle.cil_meaning.specs.SmallPrograms.{Means}
use Rattle.cil_meaning.specs.TypedPrograms.{int32, classes_named, second, points, points_history}
use Rattle.cil_meaning.proofs.PlainTypes.{class_plain, positions_plain, substituted_plain, large_plain, admitted_plain, same_int32, substituted_int32, words_int32, words_within_int32, kind_int32, no_bool_int32, no_reference_int32, admitted_int32, none_above_two, none_int32_large, none_int32_wide}
use Rattle.cil_meaning.proofs.Steps.{within_limits, where_entries, where_given, where_true, where_is}

abbrev args : List TExpr
args = arguments_of (plain 13)

found : field_found points second ≡ Some 1
found = ap (option_and_then (own_field most_fields second)) (class_plain points 14 _ refl) ∙ rw same_int32 refl

no_reference : (as' : List TExpr) → is_reference points (substituted as' [] int32) ≡ false
no_reference as' = ap (is_reference points) (substituted_int32 as' []) ∙ no_reference_int32 points

sized : size_entries points (field_type second) ≡ entry.Size (field_type second) ∷ []
sized = rw (no_reference (arguments_of (plain 14))) refl

listed : field_entries points second ≡ entry.Kind (plain 14) ∷ entry.Offset (plain 14) 1 ∷ entry.Size (field_type second) ∷ []
listed = ap (field_entries_at points second) found ∙ ap (λ es. entry.Kind (plain 14) ∷ entry.Offset (plain 14) 1 ∷ es) sized

-- the struct has two words and is admitted
kinds14 : instance_kinds_of points (plain 14) ≡ int32 ∷ int32 ∷ []
kinds14 = simp (top_of-tree_of, substituted-node) refl

steps14 : steps_of points (plain 14) ≡ int32 ∷ int32 ∷ []
steps14 = simp (top_of-tree_of, substituted-node) refl

class14 : is_struct_class (class_of points (plain 14)) ≡ true
class14 = simp (top_of-tree_of) refl

parts14 : parts_of points (plain 14) ≡ Some (int32 ∷ int32 ∷ [])
parts14 = rw (class14, kinds14) refl

two_ones : (f : TExpr → ℕ) → f int32 ≡ 1 → sum_by f (int32 ∷ int32 ∷ []) ≡ 2
two_ones f one = rw one refl

words_from : (levels : ℕ) → words_within points (suc levels) (plain 14) ≡ 2
words_from levels = ap (words_in (λ part. words_within points levels part)) parts14 ∙ two_ones (λ part. words_within points levels part) (words_within_int32 points levels)

words14 : words_of points (plain 14) ≡ 2
words14 = ap (λ levels. words_within points levels (plain 14)) (ap (λ n. most_trees * n) (positions_plain 14)) ∙ words_from 8191

not_wide : (b : Bool) (n : ℕ) → b ≡ true → n ≡ 2 → (b && nat_lt 16 n) ≡ false
not_wide b n is words = rw (is, words) refl

value14 : is_value points (plain 14) ≡ true
value14 = simp (top_of-tree_of) refl

wide14 : is_wide points (plain 14) ≡ false
wide14 = not_wide (is_value points (plain 14)) (words_of points (plain 14)) value14 words14

admitted14 : limit_of points (plain 14) ≡ None
admitted14 = admitted_plain points 14
    (none_above_two is_large points (plain 14) int32 int32 steps14 (large_plain 14) (none_int32_large points) (none_int32_large points))
    (none_above_two (is_wide points) points (plain 14) int32 int32 steps14 wide14 (none_int32_wide points) (none_int32_wide points))

class_admitted : (as' : List TExpr) → limit_of points (substituted as' [] (plain 14)) ≡ None
class_admitted as' = ap (limit_of points) (substituted_plain as' [] 14) ∙ admitted14

words_here : (as' : List TExpr) → words_of points (substituted as' [] (plain 14)) ≡ 2
words_here as' = ap (words_of points) (substituted_plain as' [] 14) ∙ words14

-- the field's type, as it stands in the running body
type_is : (as' bs : List TExpr) → substituted as' [] (substituted bs [] int32) ≡ int32
type_is as' bs = ap (substituted as' []) (substituted_int32 bs []) ∙ substituted_int32 as' []

type_admitted : (as' bs : List TExpr) → limit_of points (substituted as' [] (substituted bs [] int32)) ≡ None
type_admitted as' bs = ap (limit_of points) (type_is as' bs) ∙ admitted_int32 points

one_word_here : (as' bs : List TExpr) → words_of points (substituted as' [] (substituted bs [] int32)) ≡ 1
one_word_here as' bs = ap (words_of points) (type_is as' bs) ∙ words_int32 points

kind_here : (as' bs : List TExpr) → kind_of points (substituted as' [] (substituted bs [] int32)) ≡ Int32
kind_here as' bs = ap (kind_of points) (type_is as' bs) ∙ kind_int32 points

no_bool_here : (as' bs : List TExpr) → is_bool (substituted as' [] (substituted bs [] int32)) ≡ false
no_bool_here as' bs = ap is_bool (type_is as' bs) ∙ no_bool_int32

-- the second field lies behind the first
offset_by : (o : Option ClassDef) (d : ClassDef) (ts : List TExpr) (w : TExpr → ℕ) → o ≡ Some d → ts ≡ int32 ∷ int32 ∷ [] → w int32 ≡ 1 → slice_get (offsets_from 0 (1 ∷ 1 ∷ [])) (instance_place (offsets_from 0 (1 ∷ 1 ∷ [])) d.fields 1) ≡ Some 1 →
    option_and_then (λ (c : ClassDef). slice_get (offsets_from 0 (map w ts)) (instance_place (offsets_from 0 (map w ts)) c.fields 1)) o ≡ Some 1
offset_by o d ts w is there one goes = rw (is, there, one) goes

offset14 : instance_offset points (plain 14) 1 ≡ Some 1
offset14 = offset_by (class_of points (plain 14)) _ (instance_kinds_of points (plain 14)) (words_of points) (class_plain points 14 _ refl) kinds14 (words_int32 points) refl

offset_is : (as' : List TExpr) → instance_offset points (substituted as' [] (plain 14)) 1 ≡ Some 1
offset_is as' = ap (λ t. instance_offset points t 1) (substituted_plain as' [] 14) ∙ offset14

kind_passes : (k : Kind) → k ≡ Int32 → same_kind Int32 k ≡ true
kind_passes k is = rw is refl

fits_by : (k : Kind) (n : ℕ) → k ≡ Int32 → n ≡ 1 → (same_kind Int32 k && (1 == n)) ≡ true
fits_by k n is one = rw (is, one) refl

kept_by : (b : Bool) (few : List ℕ) (all : List ℕ) → b ≡ false → (if b then few else all) ≡ all
kept_by b few all is = rw is refl

kept_is : (as' bs : List TExpr) (words : List ℕ) → kept (substituted as' [] (substituted bs [] int32)) words ≡ words
kept_is as' bs words = kept_by (is_bool (substituted as' [] (substituted bs [] int32))) (map (λ w. w % 256) words) words (no_bool_here as' bs)

-- Main's places, where its local has these words
abbrev local_of : List ℕ → List Places
local_of words = record { held = Plain (kind_of points (substituted args [] (plain 14))) words ∷ []; fresh = [] } ∷ []

abbrev site_at : ℕ → List Value → List ℕ → Site
site_at at stack words = record { frame = moved (first_frame (method_tree points 12)) at stack; definition = unwrap_or (method_at points 12) thread_entry; around = []; places = local_of words }

abbrev address : Value
address = Managed (InFrame 0 0 0)

abbrev at_store : Site
at_store = site_at 2 (Plain Int32 (int32_word (pos 5) ∷ []) ∷ address ∷ []) (0 ∷ 0 ∷ [])

abbrev at_load : Site
at_load = site_at 4 (address ∷ []) (0 ∷ 5 ∷ [])

abbrev fields_from : List TExpr
fields_from = arguments_of (plain 14)

pub points_mean : Means points classes_named points_history
points_mean = record {
  replays = (record { given = refl; goes_on = refl; proper = refl }, (record { given = refl; goes_on = refl; proper = refl }, tt));
  talk = where_is points (λ n. Next (record { frames = first_frame (method_tree points 12) ∷ []; places = local_of (replicate n 0) })) _ 2 (words_here args)
      (begins (begins (begins (where_entries points at_store (op.Stfld second) _ listed
      (within_limits points _ (class_admitted args) (settles refl (within_limits points _ (class_admitted args) (settles refl (within_limits points _ (type_admitted args fields_from) (settles refl
      (where_given points _ _ 1 found (where_given points _ _ 1 (offset_is args)
      (where_true points _ _ _ (fits_by _ _ (kind_here args fields_from) (one_word_here args fields_from))
      (where_is points (λ words. writes at_store.places (InFrame 0 0 1) words (throws_null points at_store) (λ pl. goes_with at_store pl [])) _ (5 ∷ []) (kept_is args fields_from (5 ∷ []))
      (begins (begins (where_entries points at_load (op.Ldfld second) _ listed
      (within_limits points _ (class_admitted args) (settles refl (within_limits points _ (class_admitted args) (settles refl (within_limits points _ (type_admitted args fields_from) (settles refl
      (where_given points _ _ 1 found (where_given points _ _ 1 (offset_is args)
      (where_is points (λ n. reads at_load.places (InFrame 0 0 1) n (throws_null points at_load) (pushes points at_load (type_here points at_load second) [])) _ 1 (one_word_here args fields_from)
      (begins (where_true points _ _ _ (kind_passes _ (kind_here args fields_from)) (asks (begins (asks rests)))))))))))))))))))))))))))))));
}
