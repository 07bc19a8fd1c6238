-- The fields that instructions name: where each lies.
use Rattle.std.proofs.Common.{◌≡◌, ℕ, suc, ◌+◌, ◌*◌, ◌≤◌, Bool, true, false, not, ◌&&◌, inl, inr, List, [], ◌∷◌, length, take, flat_map, filter, sum_by, Option, Some, None, refl, sym, ap, ◌∙◌, subst, arith}
use Rattle.std.specs.Prelude.{slice_get, get_or, option_and_then, nat_lt, bytes_eq, if◌then◌else◌}
use Rattle.std.specs.List.{list_any}
use Rattle.std.proofs.lemmas.Bool.Decides.{nat_tests}
use Rattle.std.proofs.lemmas.List.{length-append, length-map}
use Rattle.std.proofs.lemmas.List.Sums.{sum_by-cons}
use Rattle.std.proofs.lemmas.List.Quantifiers.{position-Some}
use Rattle.std.proofs.lemmas.Option.{get_or_from_slice_get}
use Rattle.type_tree.specs.declared.tree.TExpr.{TExpr}
use Rattle.type_tree.specs.declared.tree.TNode.TheVariants.{Node}
use Rattle.type_tree.specs.declared.tree.Head.TheVariants as head
use Rattle.type_tree.specs.Same.{is_same}
use Rattle.type_tree.proofs.SameLemmas.{is_same-Decides}
use Rattle.type_tree.proofs.TreeLemmas.{top_of-tree_of}
use Rattle.type_tree.specs.Positions.{positions_of}
use Rattle.type_tree.specs.Substitution.{substituted}
use Rattle.il_model.specs.declared.program.Program.{Program}
use Rattle.il_model.specs.declared.class.ClassDef.{ClassDef}
use Rattle.il_model.specs.declared.class.ClassKind.{ClassKind}
use Rattle.il_model.specs.declared.class.FieldDef.{FieldDef}
use Rattle.il_model.specs.declared.member.FRef.{FRef}
use Rattle.il_model.specs.declared.layout.Limit.TheVariants as limit
use Rattle.il_model.specs.Find.{class_number_of, class_of, most_fields}
use Rattle.il_model.specs.Found.{is_field_named, own_field, field_found}
use Rattle.il_model.specs.Kinds.{is_struct_kind, is_reference_kind, is_struct_class, is_value, is_reference}
use Rattle.il_model.specs.Library.{plain}
use Rattle.il_model.specs.Trees.{trees_in}
use Rattle.il_model.specs.Entries.{arguments_of, field_type}
use Rattle.il_model.specs.Bases.{with_args_of, proper_bases_of}
use Rattle.il_model.specs.Layouts.{most_trees, fields_in, instance_kinds_of, kinds_at, static_kinds_of, words_of}
use Rattle.il_model.specs.Admission.{is_wide, is_large, limit_among, limit_of, limited_trees_of, steps_of, closure_of}
use Rattle.il_model.specs.ClassRules.{field_count}
use Rattle.type_inst.proofs.ListLemmas.{Has, has_flat}
use Rattle.type_inst.proofs.ClosureLemmas.{any_of_has, reached_in_more, reached_next}
use Rattle.rgctx_fill.proofs.WholeLists.{IsItem, placed, get_of_take, both_of}
use Rattle.cil_verify.specs.Places.{view_of, stack_in_top, stack_of}
use Rattle.cil_verify.specs.Fits.{is_struct}
use Rattle.cil_verify.specs.Members.{field_named, is_static_field, is_instance_field}
use Rattle.cil_flow.specs.declared.state.StackType.TheVariants as stack
use Rattle.cil_meaning.specs.Naming.{Mention, put_type}
use Rattle.cil_meaning.specs.Site.{Site}
use Rattle.cil_meaning.specs.Types.{kind_of_class, kind_of_top, kind_of, passes_as}
use Rattle.cil_meaning.specs.Values as kind
use Rattle.cil_meaning.specs.Offsets.{static_fields, instance_offset, static_offset}
use Rattle.interaction.specs.Process.{Naming}
use Rattle.cil_safety.proofs.Sorts.{scalars_of, static_scalars_of}
use Rattle.cil_safety.proofs.Fit.{Spans, Lies, IsInstance}
use Rattle.cil_safety.proofs.Pieces.{length-scalars_of}
use Rattle.cil_safety.proofs.MemberForms.{IsField, IsStatic}
use Rattle.cil_safety.proofs.PlainTypes.{class_plain, arguments_plain}
use Rattle.cil_safety.proofs.Built.{IsPlainFieldRef}
use Rattle.cil_safety.proofs.Instances.{IsAccepted, nothing_put, own_plain, put_any}
use Rattle.cil_safety.proofs.NamesClasses.{layout}
use Rattle.cil_safety.proofs.Uppers.{PlainClasses, IsOfClass, of_class}
use Rattle.cil_safety.proofs.Passing.{reference_class, value_class, struct_or_not, no_string}
use Rattle.cil_safety.proofs.WordsSettled.{HasStructs, fields_kept, part_of_class, alone_word, value_is, some_positions, first_tree, struct_scalars}
use Rattle.cil_safety.proofs.FieldsLie.{IsFieldOf, field_lies, static_lies, in_objects, no_object, no_text}

module _ (p : Program) (ok : IsAccepted p) (classes : PlainClasses p) where
  pub has_structs : HasStructs p
  has_structs = record { built = ok.built; classes = classes; layout = record { each = layout p ok } }

  -- ---- the field that is found

  pub record IsFound (f : FRef) : Type 0 where
    pub class : ClassDef
    pub place : ℕ
    pub field : FieldDef
    pub found : field_found p f ≡ Some place
    pub number : ℕ
    pub named : class_number_of f.class ≡ Some number
    pub there : slice_get p.classes number ≡ Some class
    pub of : IsFieldOf p classes f.class class place field
    pub kind : field.kind ≡ f.kind

  kind_named : (f : FRef) (x : FieldDef) → is_field_named f x ≡ true → x.kind ≡ f.kind
  kind_named f x e = (is_same-Decides x.kind f.kind).0 (both_of (bytes_eq x.name f.name) (is_same x.kind f.kind) e).1

  field_there : (f : FRef) (x : FieldDef) → field_named p f ≡ Some x → IsFound f
  field_there f x e = by_found (field_found p f) refl e
    where
      in_class : (c : ClassDef) (place : ℕ) → field_found p f ≡ Some place → IsOfClass p f.class c → class_of p f.class ≡ Some c → own_field most_fields f c ≡ Some place → slice_get c.fields place ≡ Some x → IsFound f
      in_class c place found o class own at =
          let item : IsItem (take most_fields c.fields) place = placed (is_field_named f) (take most_fields c.fields) place own in
          let there : slice_get c.fields place ≡ Some item.item = get_of_take most_fields c.fields place item.item item.is in
          let same : item.item ≡ x = cc (there, at) in
          let test = position-Some (is_field_named f) (take most_fields c.fields) place item.item own in
          let read : get_or (take most_fields c.fields) place item.item ≡ item.item = get_or_from_slice_get (take most_fields c.fields) place item.item item.item item.is in
          let passes : is_field_named f item.item ≡ true = sym (ap (is_field_named f) read) ∙ test.1 in
          record { class = c; place = place; field = x; found = found; number = o.number; named = o.named; there = o.is; of = record { class = class; at = at }; kind = kind_named f x (subst (λ z. is_field_named f z ≡ true) same passes) }

      by_class : (o : Option ClassDef) (place : ℕ) → field_found p f ≡ Some place → class_of p f.class ≡ o → option_and_then (own_field most_fields f) o ≡ Some place → slice_get (fields_in o) place ≡ Some x → IsFound f
      by_class None place found class own at = absurd (cc own)
      by_class (Some c) place found class own at = in_class c place found (of_class p f.class c class) class own at

      by_found : (o : Option ℕ) → field_found p f ≡ o → option_and_then (slice_get (fields_in (class_of p f.class))) o ≡ Some x → IsFound f
      by_found None found e' = absurd (cc e')
      by_found (Some place) found e' = by_class (class_of p f.class) place found refl found e'

  field_instance : (f : FRef) → is_instance_field (field_named p f) ≡ true → (h : IsFound f) × (h.field.fixed ≡ false)
  field_instance f e = by_field (field_named p f) refl e
    where
      no' : (b : Bool) → not b ≡ true → b ≡ false
      no' true g = absurd (cc g)
      no' false g = refl

      same_field : (x : FieldDef) → (e' : field_named p f ≡ Some x) → (field_there f x e').field ≡ x
      same_field x e' = let h = field_there f x e' in
          cc (e', ap (λ place. option_and_then (slice_get (fields_in (class_of p f.class))) place) h.found, ap (λ (o : Option ClassDef). slice_get (fields_in o) h.place) h.of.class, h.of.at)

      by_field : (o : Option FieldDef) → field_named p f ≡ o → is_instance_field o ≡ true → (h : IsFound f) × (h.field.fixed ≡ false)
      by_field None is e' = absurd (cc e')
      by_field (Some x) is e' = (field_there f x is, ap (λ (z : FieldDef). z.fixed) (same_field x is) ∙ no' x.fixed e')

  field_static : (f : FRef) → is_static_field (field_named p f) ≡ true → (h : IsFound f) × (h.field.fixed ≡ true)
  field_static f e = by_field (field_named p f) refl e
    where
      same_field : (x : FieldDef) → (e' : field_named p f ≡ Some x) → (field_there f x e').field ≡ x
      same_field x e' = let h = field_there f x e' in
          cc (e', ap (λ place. option_and_then (slice_get (fields_in (class_of p f.class))) place) h.found, ap (λ (o : Option ClassDef). slice_get (fields_in o) h.place) h.of.class, h.of.at)

      by_field : (o : Option FieldDef) → field_named p f ≡ o → is_static_field o ≡ true → (h : IsFound f) × (h.field.fixed ≡ true)
      by_field None is e' = absurd (cc e')
      by_field (Some x) is e' = (field_there f x is, ap (λ (z : FieldDef). z.fixed) (same_field x is) ∙ e')

  -- ---- the words of a class's static fields are few, where the class passes no limit

  wide_not : (t : TExpr) → is_wide p t ≡ false → is_value p t ≡ true → words_of p t ≤ 16
  wide_not t e value = by_test (nat_lt 16 (words_of p t)) refl (sym (ap (λ b. b && nat_lt 16 (words_of p t)) value) ∙ e)
    where
      by_test : (b : Bool) → nat_lt 16 (words_of p t) ≡ b → b ≡ false → words_of p t ≤ 16
      by_test true is none = absurd (cc none)
      by_test false is none = grind (arith, nat_tests)

  admitted_words : (t x : TExpr) → limit_of p t ≡ None → Has (steps_of p t) x → is_value p x ≡ true → words_of p x ≤ 16
  admitted_words t x none step value =
      let some = some_positions p (has_structs) t in
      let far : 1 ≤ most_trees * positions_of t = omega (arith, some) in
      let closure : Has (closure_of p t) x = reached_in_more p 1 (most_trees * positions_of t) t x far (reached_next p 0 t t x (inl refl) step) in
      let tree = first_tree p (has_structs) (positions_of t) t in
      let among : Has (limited_trees_of p t) x = has_flat (closure_of p) (trees_in t) t x (subst (λ ts. Has ts t) (sym tree.1) (inl refl)) closure in
      wide_not x (by_limit (limited_trees_of p t) none x among) value
    where
      by_limit : (ts : List TExpr) → limit_among p ts ≡ None → (x : TExpr) → Has ts x → is_wide p x ≡ false
      by_limit ts e x h = by_large (list_any is_large ts) (list_any (is_wide p) ts) refl e
        where
          by_large : (a b : Bool) → list_any (is_wide p) ts ≡ b → (if a then Some limit.Positions else (if b then Some limit.ValueWords else None)) ≡ None → is_wide p x ≡ false
          by_large true b is e' = absurd (cc e')
          by_large false true is e' = absurd (cc e')
          by_large false false is e' = by_wide (is_wide p x) refl
            where
              by_wide : (b : Bool) → is_wide p x ≡ b → is_wide p x ≡ false
              by_wide false w = w
              by_wide true w = absurd (let q : list_any (is_wide p) ts ≡ true = any_of_has (is_wide p) ts x h w in cc (q, is))

  part_words : (t : TExpr) (number : ℕ) (c : ClassDef) → slice_get p.classes number ≡ Some c → class_of p t ≡ Some c → limit_of p t ≡ None → (x : TExpr) → Has (kinds_at t c.fields) x → length (scalars_of p x) ≤ 16
  part_words t number c there class none x h = by_struct (is_struct_class (class_of p x)) refl
    where
      by_struct : (b : Bool) → is_struct_class (class_of p x) ≡ b → length (scalars_of p x) ≤ 16
      by_struct false is = let one : length (scalars_of p x) ≡ 1 = ap length (alone_word p (most_trees * positions_of x) x is) in omega (arith, one)
      by_struct true is =
          let part = part_of_class p has_structs t number c there class x h in
          let value = value_is p x is in
          let few = admitted_words t x none (part.step value) value in
          let long = length-scalars_of p x in
          omega (arith, few, long)

  few_together : (ks : List TExpr) → ((x : TExpr) → Has ks x → length (scalars_of p x) ≤ 16) → length (flat_map (scalars_of p) ks) ≤ 16 * length ks
  few_together [] each = omega arith
  few_together (k ∷ ks) each =
      let one = each k (inl refl) in
      let rest = few_together ks (λ x h. each x (inr h)) in
      omega (arith, one, rest, length-append (scalars_of p k) (flat_map (scalars_of p) ks))

  filter_short : (test : FieldDef → Bool) (fs : List FieldDef) → length (filter test fs) ≤ length fs
  filter_short test [] = omega arith
  filter_short test (f ∷ fs) = by_test (filter_short test fs) (test f)
    where
      by_test : length (filter test fs) ≤ length fs → (b : Bool) → length (if b then f ∷ filter test fs else filter test fs) ≤ suc (length fs)
      by_test h true = omega (arith, h)
      by_test h false = omega (arith, h)

  fields_few : (number : ℕ) (c : ClassDef) → slice_get p.classes number ≡ Some c → class_of p (plain number) ≡ Some c → length c.fields ≤ 4096
  fields_few number c there class =
      let most : field_count p (plain number) ≤ 4096 = subst (λ t. field_count p t ≤ 4096) (own_plain p ok number) (layout p ok number c there).few in
      let first : field_count p (plain number) ≡ length (fields_in (class_of p (plain number))) + sum_by (λ base. length (fields_in (class_of p base))) (proper_bases_of p (plain number)) = sum_by-cons (λ base. length (fields_in (class_of p base))) (plain number) (proper_bases_of p (plain number)) in
      let here : length (fields_in (class_of p (plain number))) ≡ length c.fields = ap (λ (o : Option ClassDef). length (fields_in o)) class in
      omega (arith, most, first, here)

  -- ---- what is known of a field that an instruction names

  module _ (n : Naming Mention TExpr) (s : Site) (i : IsInstance p n s.frame.method s.definition) (f : FRef) (plain_ref : IsPlainFieldRef f) where
    put_here : (t : TExpr) → put_type s.frame.method t ≡ t
    put_here t = put_any p ok n s.frame.method s.definition i t

    class_is : (h : IsFound f) → f.class ≡ plain h.number
    class_is h = class_plain f.class h.number plain_ref.class h.named

    type_is : (h : IsFound f) → field_type f ≡ f.kind
    type_is h = ap (λ z. substituted z [] f.kind) (ap arguments_of (class_is h) ∙ arguments_plain h.number) ∙ nothing_put f.kind

    put_field : (h : IsFound f) → with_args_of f.class h.field.kind ≡ put_type s.frame.method (field_type f)
    put_field h =
        ap (λ z. substituted z [] h.field.kind) (ap arguments_of (class_is h) ∙ arguments_plain h.number) ∙ nothing_put h.field.kind ∙ h.kind
        ∙ sym (put_here (field_type f) ∙ type_is h)

    struct_here : (h : IsFound f) → is_struct (view_of p s.definition) f.class ≡ is_struct_kind h.class.kind
    struct_here h = ap is_struct_class h.of.class

    not_struct : (k : ClassKind) → is_struct_kind k ≡ false → is_reference_kind k ≡ true
    not_struct k e = elim (struct_or_not p k) [ inl yes' ↦ absurd (cc (yes', e)) | inr r ↦ r ]

    pub field_named_well : is_instance_field (field_named p f) ≡ true → IsField p s f
    field_named_well e =
        let g = field_instance f e in
        let h = g.0 in
        let l = field_lies p classes f.class h.class h.place h.field h.of g.1 in
        let lies : Lies (flat_map (scalars_of p) (instance_kinds_of p f.class)) l.offset (scalars_of p (put_type s.frame.method (field_type f))) =
        subst (λ x. Lies (flat_map (scalars_of p) (instance_kinds_of p f.class)) l.offset (scalars_of p x)) (put_field h) l.lies in
        record {
          place = h.place;
          offset = l.offset;
          found = h.found;
          at = subst (λ t. instance_offset p t h.place ≡ Some l.offset) (sym (put_here f.class)) l.at;
          in_object = λ e' exact passes. in_objects p classes (record { each = layout p ok }) f.class h.class h.place h.field h.of l.offset (put_type s.frame.method (field_type f)) lies e' (subst (λ t. passes_as p e' t ≡ true) (put_here f.class) passes);
          in_struct = λ is. subst (λ t. Lies (scalars_of p t) l.offset (scalars_of p (put_type s.frame.method (field_type f)))) (sym (put_here f.class))
              (subst (λ us. Lies us l.offset (scalars_of p (put_type s.frame.method (field_type f)))) (sym (struct_scalars p has_structs f.class plain_ref.class is)) lies);
          no_string = subst (λ t. passes_as p (plain 1) t ≡ false) (sym (put_here f.class)) (no_string p classes f.class (no_text p classes f.class h.class h.place h.field h.of) (no_object p classes f.class h.class h.place h.field h.of));
          reference = λ no'. subst (λ t. is_reference p t ≡ true) (sym (put_here f.class)) (reference_class p f.class h.class h.of.class ∙ not_struct h.class.kind (sym (struct_here h) ∙ no'));
          kind = λ is. subst (λ t. kind_of p t ≡ kind.Struct) (sym (put_here f.class)) (ap (kind_of p) (class_is h) ∙ ap (kind_of_top p (plain h.number)) (top_of-tree_of (Node (head.Class h.number) []))
              ∙ ap kind_of_class (sym (ap (is_value p) (class_is h)) ∙ value_class p f.class h.class h.of.class ∙ sym (struct_here h) ∙ is));
          stack_is = ap stack_of (class_is h) ∙ ap (stack_in_top (plain h.number)) (top_of-tree_of (Node (head.Class h.number) [])) ∙ ap stack.Kind (sym (class_is h));
        }

    pub static_named_well : is_static_field (field_named p f) ≡ true → IsStatic p s f
    static_named_well e =
        let g = field_static f e in
        let h = g.0 in
        let l = static_lies p classes f.class h.class h.place h.field h.of g.1 in
        let lies : Lies (static_scalars_of p f.class) l.offset (scalars_of p (put_type s.frame.method (field_type f))) =
        subst (λ x. Lies (static_scalars_of p f.class) l.offset (scalars_of p x)) (put_field h) l.lies in
        record {
          place = h.place;
          offset = l.offset;
          found = h.found;
          at = subst (λ t. static_offset p t h.place ≡ Some l.offset) (sym (put_here f.class)) l.at;
          lies = subst (λ t. Spans (slice_get (static_scalars_of p t)) l.offset (scalars_of p (put_type s.frame.method (field_type f)))) (sym (put_here f.class)) lies.1;
          few = λ none.
              let admitted : limit_of p f.class ≡ None = subst (λ t. limit_of p t ≡ None) (put_here f.class) none in
              let kinds : static_kinds_of p f.class ≡ kinds_at f.class (static_fields h.class.fields) = ap (λ (o : Option ClassDef). kinds_at f.class (static_fields (fields_in o))) h.of.class in
              let each : (x : TExpr) → Has (static_kinds_of p f.class) x → length (scalars_of p x) ≤ 16 =
              λ x has. part_words f.class h.number h.class h.there h.of.class admitted x (fields_kept f.class (λ z. z.fixed) h.class.fields x (subst (λ ks. Has ks x) kinds has)) in
              let words = few_together (static_kinds_of p f.class) each in
              let count : length (static_kinds_of p f.class) ≡ length (static_fields h.class.fields) = ap length kinds ∙ length-map (static_fields h.class.fields) (λ z. with_args_of f.class z.kind) in
              let short = filter_short (λ z. z.fixed) h.class.fields in
              let few = fields_few h.number h.class h.there (sym (ap (class_of p) (class_is h)) ∙ h.of.class) in
              (let m : l.offset + length (scalars_of p (put_type s.frame.method (field_type f))) ≤ 16777216 = omega (arith, lies.0, words, count, short, few) in m);
        }
