-- A fill may start over each catalogue of an image.
use Rattle.std.proofs.Common.{◌≡◌, ⊎_elim, ℕ, zero, suc, ◌+◌, ◌<◌, ◌≤◌, ◌==◌, min, Bool, true, false, ◌||◌, List, [], ◌∷◌, ◌++◌, length, flat_map, take, slice_get, Option, Some, None, option_and_then, is_some, refl, sym, ap, ◌∙◌, subst, arith, eqb-true}
use Rattle.std.specs.Prelude.{option_to_list}
use Rattle.std.specs.List.{All, AllByRecursion, list_any, list_all}
use Rattle.std.proofs.lemmas.Bool.{cases_lt}
use Rattle.std.proofs.lemmas.List.{length-map, length-take}
use Rattle.std.proofs.lemmas.List.Elements.{All-nil, recursion_from_All}
use Rattle.type_tree.specs.declared.tree.TExpr.{TExpr}
use Rattle.type_tree.specs.Tree.{has_variables_below, HasVariablesBelow}
use Rattle.il_model.specs.declared.class.ClassDef.{ClassDef}
use Rattle.il_model.specs.declared.class.FieldDef.{FieldDef}
use Rattle.il_model.specs.declared.entry.Def.TheVariants as def
use Rattle.il_model.specs.declared.entry.Entry.{Entry}
use Rattle.il_model.specs.declared.entry.Entry.TheVariants as entry
use Rattle.il_model.specs.declared.layout.MethodTree.{MethodTree}
use Rattle.il_model.specs.declared.method.Body.{Body}
use Rattle.il_model.specs.declared.method.MethodDef.{MethodDef}
use Rattle.il_model.specs.declared.program.Program.{Program}
use Rattle.il_model.specs.Find.{class_number_of}
use Rattle.il_model.specs.Found.{method_at}
use Rattle.il_model.specs.Entries.{arguments_of, mentions_of, mentions_of_method, once, slots_from, template_of}
use Rattle.il_model.specs.Bases.{own_of, own_of_number, definition_of}
use Rattle.il_model.specs.Layouts.{fields_in}
use Rattle.il_model.specs.Slots.{method_tree_at, definition_slots, slots_of}
use Rattle.il_model.specs.ClassRules.{has_counts, is_number}
use Rattle.rgctx_template.specs.Written.{types_of_method}
use Rattle.rgctx_template.specs.GotEntries.{IsKeptEntry, most_closed_entries}
use Rattle.rgctx_template.specs.Catalogue.{CatData}
use Rattle.rgctx_fill.specs.declared.spelled.NodeTree.{NodeTree}
use Rattle.rgctx_fill.specs.declared.spelled.NodeTree.TheVariants as tree
use Rattle.rgctx_fill.specs.Nodes.{IsAdmittedType, IsAdmittedMethod, MayStand}
use Rattle.rgctx_fill.specs.Templates.{class_template, type_template, tree_template}
use Rattle.rgctx_fill.specs.NamedValues.{entry_at}
use Rattle.rgctx_fill.specs.Starting.{IsWholeType, IsWholeMethod, IsWholeSlot, IsWhole, IsNameable, IsFillable}
use Rattle.rgctx_fill.specs.ImageCatalogues.{IsImageCatalogue}
use Rattle.rgctx_fill.proofs.WholeLists.{join_all, item_holds, IsItem, item_at, all_weaker, all_both, flat_all, both_of, all_of_test}
use Rattle.rgctx_fill.proofs.WholeTypes.{IsCounted, IsWritten, IsOf, type-of}
use Rattle.rgctx_fill.proofs.WholeScopes.{BodyHolds, IsScopedMethod, IsScoped}
use Rattle.rgctx_fill.proofs.WholeMentions.{both-body, bodies-of_all}
use Rattle.rgctx_fill.proofs.WholeSlots.{IsSlot, slots-all}
use Rattle.rgctx_fill.proofs.WholeText.{text-scoped}
use Rattle.rgctx_fill.proofs.WholeOffsets.{HasField}
use Rattle.rgctx_fill.proofs.WholeEntries.{HasMethod, IsFound, body-found, once-all, written-vector, found-whole}

-- ---- lists

-- where so many at most stand before each, there are at most so many
few_before : {A : Type 0} (most : ℕ) (xs : List A) → ((k : ℕ) (x : A) → slice_get xs k ≡ Some x → length (take k xs) < most) → length xs ≤ most
few_before most xs each =
    ⊎_elim
    (λ (l : most < length xs).
    let i : IsItem xs most = item_at xs most l in
    let less : length (take most xs) < most = each most i.item i.is in
    let count : length (take most xs) ≡ min most (length xs) = length-take most xs in
    absurd (omega arith))
    (λ (le : length xs ≤ most). le)
    (cases_lt most (length xs))

same_item : {A : Type 0} (o : Option A) (x y : A) → o ≡ Some x → o ≡ Some y → x ≡ y
same_item o x y e d = cc

slots_count : (first n : ℕ) → length (slots_from first n) ≡ n
slots_count first zero = refl
slots_count first (suc n) = ap suc (slots_count (suc first) n)

slots_item : (first n k : ℕ) (e : Entry) → slice_get (slots_from first n) k ≡ Some e → (entry.Slot (first + k) ≡ e) × (k < n)
slots_item first zero k e is = cc
slots_item first (suc n) zero e is =
    let same : entry.Slot first ≡ e = cc in (ap entry.Slot (let d : first + 0 ≡ first = omega arith in d) ∙ same, omega arith)
slots_item first (suc n) (suc k) e is =
    let p : (entry.Slot (suc first + k) ≡ e) × (k < n) = slots_item (suc first) n k e is in
    let low : k < n = p.1 in (ap entry.Slot (let d : first + suc k ≡ suc first + k = omega arith in d) ∙ p.0, omega arith)

-- ---- entries of an image

module _ (program : Program) where
  own_number : (number : ℕ) (o : Option ℕ) → (is_number number o || false) ≡ true → o ≡ Some number
  own_number number None h = cc
  own_number number (Some n) h = ap Some (eqb-true n number (or_false (n == number) h))
    where
      or_false : (b : Bool) → (b || false) ≡ true → b ≡ true
      or_false true h = refl
      or_false false h = h

  method_kept : (number : ℕ) (t : TExpr) (args : List TExpr) (o : Option MethodDef) → method_at program number ≡ o → list_any (λ m. is_number m.owner (class_number_of t)) (option_to_list o) ≡ true
      → list_all (λ m. length args == length m.vars) (option_to_list o) ≡ true → HasMethod program number t args
  method_kept number t args None is own count = cc
  method_kept number t args (Some m) is own count = record {
    method = m;
    is = is;
    owner = own_number m.owner (class_number_of t) own;
    count = eqb-true (length args) (length m.vars) (both_of (length args == length m.vars) true count).0;
  }

  field_last : (t : TExpr) (place k : ℕ) (c : ClassDef) (o : Option FieldDef) → class_number_of t ≡ Some k → slice_get program.classes k ≡ Some c → slice_get c.fields place ≡ o → is_some o ≡ true → HasField program t place
  field_last t place k c None e is at there = cc
  field_last t place k c (Some f) e is at there = record { number = k; number_is = e; class = c; is = is; field = f; field_is = at }

  field_in : (t : TExpr) (place k : ℕ) (d : Option ClassDef) → class_number_of t ≡ Some k → slice_get program.classes k ≡ d → is_some (slice_get (fields_in d) place) ≡ true → HasField program t place
  field_in t place k None e is there = cc
  field_in t place k (Some c) e is there = field_last t place k c (slice_get c.fields place) e is refl there

  field_kept : (t : TExpr) (place : ℕ) (o : Option ℕ) → class_number_of t ≡ o → is_some (slice_get (fields_in (option_and_then (λ k. slice_get program.classes k) o)) place) ≡ true → HasField program t place
  field_kept t place None e there = cc
  field_kept t place (Some k) e there = field_in t place k (slice_get program.classes k) e refl there

  types_kept : (ts : List TExpr) → list_all (has_variables_below 0 0) ts ≡ true → list_all (has_counts program) ts ≡ true → AllByRecursion (IsWritten program 0 0) ts
  types_kept ts closed counts =
      all_both (HasVariablesBelow 0 0) (IsCounted program) (IsWritten program 0 0) (λ t b k. record { below = b; counts = k }) ts (all_of_test (has_variables_below 0 0) ts closed) (all_of_test (has_counts program) ts counts)

  -- an entry of an image's list is found
  kept_found : (earlier : List Entry) (e : Entry) → IsKeptEntry program earlier e → IsFound program (IsWritten program 0 0) e
  kept_found earlier (entry.Kind t) h = (types_kept (t ∷ []) h.closed h.counts).0
  kept_found earlier (entry.Method number t args) h =
      let all : AllByRecursion (IsWritten program 0 0) (t ∷ args) = types_kept (t ∷ args) h.closed h.counts in
      (method_kept number t args (method_at program number) refl h.member h.arguments, all.0, all.1)
  kept_found earlier (entry.Size t) h = tt
  kept_found earlier (entry.Extent t) h = tt
  kept_found earlier (entry.Offset t place) h = (field_kept t place (class_number_of t) refl h.member, (types_kept (t ∷ []) h.closed h.counts).0)
  kept_found earlier (entry.Slot number) h = let no : true ≡ false = h.kind in cc

  admitted_whole : (t : TExpr) → IsAdmittedType program t → IsWholeType program t
  admitted_whole t h = record { closed = h.closed; counts = h.counts }

  slot_whole : (m : MethodTree) → IsSlot program 0 m → IsWholeMethod program m
  slot_whole m h = record {
    method = h.method;
    is = h.is;
    owner = h.owner;
    class = record { closed = h.class.below; counts = h.class.counts };
    count = ap length h.args ∙ sym (ap length h.vars);
    args = subst (All (IsWholeType program)) (sym h.args) (All-nil (IsWholeType program));
  }

-- ---- the catalogue

module _ (cat : CatData) (image : IsImageCatalogue cat) where
  abbrev WholeAt : NodeTree → Entry → Type 0
  WholeAt spells e = IsWhole cat.program spells (entry_at spells e)

  scoped : IsScoped cat.program
  scoped = text-scoped cat.program image.text

  nameable : IsNameable cat.program
  nameable = record {
    classes = scoped.few_classes;
    methods = scoped.few_methods;
    class_vars = λ number c is. (scoped.classes number c is).vars;
    method_vars = λ number m is. (scoped.methods number m is).vars;
  }

  -- ---- types

  slot_at : (t : TExpr) (k : ℕ) → AllByRecursion (IsSlot cat.program 0) (slots_of cat.program t) → k < length (slots_of cat.program t) → IsWholeSlot cat.program (slice_get (slots_of cat.program t) k)
  slot_at t k all low =
      let i : IsItem (slots_of cat.program t) k = item_at (slots_of cat.program t) k low in
      subst (IsWholeSlot cat.program) (sym i.is) (slot_whole cat.program i.item (item_holds (IsSlot cat.program 0) (slots_of cat.program t) k i.item all i.is))

  slots_whole : (t : TExpr) (number : ℕ) → IsAdmittedType cat.program t → class_number_of t ≡ Some number → (k : ℕ) (e : Entry) → slice_get (slots_from 0 (length (slots_of cat.program t))) k ≡ Some e → WholeAt (tree.Kind t) e
  slots_whole t number h is k e at =
      let all : AllByRecursion (IsSlot cat.program 0) (slots_of cat.program t) =
      slots-all cat.program scoped image.catalogue.types image.interfaces 0 t number (record { below = h.closed; counts = h.counts }) is in
      let p : (entry.Slot (0 + k) ≡ e) × (k < length (slots_of cat.program t)) = slots_item 0 (length (slots_of cat.program t)) k e at in
      let own : entry.Slot k ≡ e = ap entry.Slot (let d : k ≡ 0 + k = omega arith in d) ∙ p.0 in
      subst (WholeAt (tree.Kind t)) own (slot_at t k all p.1)

  class_whole : (t : TExpr) (number : ℕ) (c : Option ClassDef) → IsAdmittedType cat.program t → class_number_of t ≡ Some number → (k : ℕ) (e : Entry) → slice_get (class_template cat.program t number c) k ≡ Some e → WholeAt (tree.Kind t) e
  class_whole t number None h is k e at = cc
  class_whole t number (Some c) h is k e at = slots_whole t number h is k e at

  type_whole : (t : TExpr) (o : Option ℕ) → IsAdmittedType cat.program t → class_number_of t ≡ o → (k : ℕ) (e : Entry) → slice_get (type_template cat.program t o) k ≡ Some e → WholeAt (tree.Kind t) e
  type_whole t None h is k e at = cc
  type_whole t (Some number) h is k e at = class_whole t number (slice_get cat.program.classes number) h is k e at

  class_few : (t : TExpr) (number : ℕ) (c : Option ClassDef) → class_number_of t ≡ Some number → slice_get cat.program.classes number ≡ c → length (class_template cat.program t number c) ≤ 1792
  class_few t number None e is = omega arith
  class_few t number (Some c) e is =
      let few : length (definition_slots cat.program (own_of cat.program number)) ≤ 224 = (image.catalogue.slots.each number c is).few in
      let definition : definition_of cat.program t ≡ own_of cat.program number = ap (own_of_number cat.program t) e in
      let same : length (slots_of cat.program t) ≡ length (definition_slots cat.program (own_of cat.program number)) =
      length-map (definition_slots cat.program (definition_of cat.program t)) (method_tree_at t) ∙ ap (λ d. length (definition_slots cat.program d)) definition in
      let count : length (slots_from 0 (length (slots_of cat.program t))) ≡ length (slots_of cat.program t) = slots_count 0 (length (slots_of cat.program t)) in
      omega (arith, few, same, count)

  type_few : (t : TExpr) (o : Option ℕ) → class_number_of t ≡ o → length (type_template cat.program t o) ≤ 1792
  type_few t None e = omega arith
  type_few t (Some number) e = class_few t number (slice_get cat.program.classes number) e refl

  -- ---- methods

  module _ (m : MethodTree) (h : IsAdmittedMethod cat.program m) where
    method_scoped : IsScopedMethod cat.program h.method
    method_scoped = scoped.methods m.method h.method h.is

    of_class : IsOf cat.program 0 0 m.class h.method.owner
    of_class = type-of cat.program 0 0 m.class h.method.owner h.owner h.class.closed h.class.counts

    class_count : length method_scoped.class.vars ≡ length (arguments_of m.class)
    class_count = sym (of_class.count ∙ ap (λ (c : ClassDef). length c.vars) (same_item (slice_get cat.program.classes h.method.owner) of_class.class method_scoped.class of_class.is method_scoped.class_is))

    bodies_below : AllByRecursion (BodyHolds (HasVariablesBelow (length (arguments_of m.class)) (length m.args))) (option_to_list h.method.body)
    bodies_below =
        subst (λ n. AllByRecursion (BodyHolds (HasVariablesBelow (length (arguments_of m.class)) n)) (option_to_list h.method.body)) (sym h.count)
        (subst (λ n. AllByRecursion (BodyHolds (HasVariablesBelow n (length h.method.vars))) (option_to_list h.method.body)) class_count method_scoped.body)

    bodies_counted : AllByRecursion (BodyHolds (IsCounted cat.program)) (option_to_list h.method.body)
    bodies_counted = bodies-of_all (IsCounted cat.program) h.method (all_of_test (has_counts cat.program) (types_of_method h.method) (image.catalogue.counts.each m.method h.method h.is))

    abbrev OwnWritten : TExpr → Type 0
    OwnWritten = IsWritten cat.program (length (arguments_of m.class)) (length m.args)

    bodies_written : AllByRecursion (BodyHolds OwnWritten) (option_to_list h.method.body)
    bodies_written =
        all_both (BodyHolds (HasVariablesBelow (length (arguments_of m.class)) (length m.args))) (BodyHolds (IsCounted cat.program)) (BodyHolds OwnWritten)
        (λ b below counted. both-body (HasVariablesBelow (length (arguments_of m.class)) (length m.args)) (IsCounted cat.program) OwnWritten (λ t x y. record { below = x; counts = y }) b below counted)
        (option_to_list h.method.body) bodies_below bodies_counted

    mentions_found : AllByRecursion (IsFound cat.program OwnWritten) (mentions_of_method cat.program h.method)
    mentions_found =
        flat_all (IsFound cat.program OwnWritten) (mentions_of cat.program) (option_to_list h.method.body)
        (all_weaker (BodyHolds OwnWritten) (λ (b : Body). AllByRecursion (IsFound cat.program OwnWritten) (mentions_of cat.program b))
        (body-found cat.program scoped OwnWritten (written-vector cat.program (length (arguments_of m.class)) (length m.args))) (option_to_list h.method.body) bodies_written)

    template_found : AllByRecursion (IsFound cat.program OwnWritten) (template_of cat.program (def.Method m.method))
    template_found =
        subst (λ (o : Option MethodDef). AllByRecursion (IsFound cat.program OwnWritten) (once [] (flat_map (mentions_of_method cat.program) (option_to_list o)))) (sym h.is)
        (once-all cat.program (IsFound cat.program OwnWritten) [] (mentions_of_method cat.program h.method ++ []) (join_all (IsFound cat.program OwnWritten) (mentions_of_method cat.program h.method) [] mentions_found tt))

    class_args_whole : AllByRecursion (IsWholeType cat.program) (arguments_of m.class)
    class_args_whole = all_both (HasVariablesBelow 0 0) (IsCounted cat.program) (IsWholeType cat.program) (λ t b k. record { closed = b; counts = k }) (arguments_of m.class) of_class.below of_class.counts

    own_args_whole : AllByRecursion (IsWholeType cat.program) m.args
    own_args_whole = all_weaker (IsAdmittedType cat.program) (IsWholeType cat.program) (admitted_whole cat.program) m.args (recursion_from_All (IsAdmittedType cat.program) m.args h.args)

    method_whole : (k : ℕ) (e : Entry) → slice_get (template_of cat.program (def.Method m.method)) k ≡ Some e → WholeAt (tree.Method m) e
    method_whole k e at =
        found-whole cat.program (arguments_of m.class) m.args class_args_whole own_args_whole (tree.Method m) e
        (item_holds (IsFound cat.program OwnWritten) (template_of cat.program (def.Method m.method)) k e template_found at)

  -- ---- all nodes

  entry_whole : (i : ℕ) (spells : NodeTree) (k : ℕ) (e : Entry) → MayStand cat.program i spells → slice_get (tree_template cat spells) k ≡ Some e → WholeAt spells e
  entry_whole i (tree.Kind t) k e stands at = type_whole t (class_number_of t) stands refl k e at
  entry_whole i (tree.Method m) k e stands at = method_whole m stands k e at
  entry_whole i tree.Other k e stands at = found-whole cat.program [] [] tt tt tree.Other e (kept_found cat.program (take k cat.got) e (image.catalogue.got.each k e at))
  entry_whole i (tree.Zero n) k e stands at = absurd stands

  entries_few : (i : ℕ) (spells : NodeTree) → MayStand cat.program i spells → length (tree_template cat spells) ≤ 1792
  entries_few i (tree.Kind t) stands = type_few t (class_number_of t) refl
  entries_few i (tree.Method m) stands = let few : length (template_of cat.program (def.Method m.method)) ≤ 224 = image.catalogue.templates.each m.method in omega (arith, few)
  entries_few i tree.Other stands = few_before most_closed_entries cat.got (λ k e at. (image.catalogue.got.each k e at).few)
  entries_few i (tree.Zero n) stands = absurd stands

  -- a fill may start over it
  pub image-fillable : IsFillable cat
  image-fillable = record {
    types = image.catalogue.types;
    slots = image.catalogue.slots;
    nameable = nameable;
    bodies = image.catalogue.bodies;
    whole = entry_whole;
    few = entries_few;
  }
