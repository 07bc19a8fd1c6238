-- A field that is there has an offset.
use Rattle.std.proofs.Common.{◌≡◌, ℕ, zero, suc, ◌+◌, ◌-◌, ◌<◌, ◌≤◌, Bool, true, false, cond, not, List, [], ◌∷◌, ◌++◌, length, map, flat_map, filter, reverse, take, count_by, Option, Some, if◌then◌else◌, refl, ap, ◌∙◌, arith}
use Rattle.std.specs.Prelude.{slice_get, get_or, option_map, option_and_then}
use Rattle.std.proofs.lemmas.List.{length-append, length-map, append-nil, reverse-append}
use Rattle.std.proofs.lemmas.List.Concat.{flat_map-append}
use Rattle.std.proofs.lemmas.List.Sums.{sum_by-cons, length-filter}
use Rattle.std.proofs.lemmas.Option.{slice_get-get_or}
use Rattle.type_tree.specs.declared.tree.TExpr.{TExpr}
use Rattle.il_model.specs.declared.class.ClassDef.{ClassDef}
use Rattle.il_model.specs.declared.class.FieldDef.{FieldDef}
use Rattle.il_model.specs.declared.layout.Layout.{Layout}
use Rattle.il_model.specs.declared.program.Program.{Program}
use Rattle.il_model.specs.Find.{class_number_of, class_of}
use Rattle.il_model.specs.Bases.{with_args_of, proper_bases_of}
use Rattle.il_model.specs.Layouts.{fields_in, own_kinds_of, instance_kinds_of, static_kinds_of, words_of, offsets_from, layout_of}
use Rattle.rgctx_fill.specs.NamedValues.{is_instance, offset_in}
use Rattle.rgctx_fill.specs.Starting.{HasOffset}

-- ---- counts

module _ (p : FieldDef → Bool) where
  abbrev one_if : FieldDef → ℕ
  one_if f = cond (p f) 1 0

  count_cons : (f : FieldDef) (fs : List FieldDef) → count_by p (f ∷ fs) ≡ one_if f + count_by p fs
  count_cons f fs = sum_by-cons (λ x. cond (p x) 1 0) f fs

  -- before one that passes fewer pass than in all
  count_before : (fs : List FieldDef) (place : ℕ) (f : FieldDef) → slice_get fs place ≡ Some f → p f ≡ true → count_by p (take place fs) < count_by p fs
  count_before [] place f is holds = cc
  count_before (g ∷ fs) zero f is holds =
      let same : g ≡ f = cc in
      let one : one_if g ≡ 1 = ap one_if same ∙ ap (λ b. cond b 1 0) holds in
      let whole : count_by p (g ∷ fs) ≡ one_if g + count_by p fs = count_cons g fs in
      let none : count_by p (take 0 (g ∷ fs)) ≡ 0 = refl in
      omega arith
  count_before (g ∷ fs) (suc place) f is holds =
      let less : count_by p (take place fs) < count_by p fs = count_before fs place f is holds in
      let whole : count_by p (g ∷ fs) ≡ one_if g + count_by p fs = count_cons g fs in
      let front : count_by p (g ∷ take place fs) ≡ one_if g + count_by p (take place fs) = count_cons g (take place fs) in
      omega arith

offsets_count : (at : ℕ) (ws : List ℕ) → length (offsets_from at ws) ≡ length ws
offsets_count at [] = refl
offsets_count at (w ∷ ws) = ap suc (offsets_count (at + w) ws)

last_count : (f : TExpr → List TExpr) (t : TExpr) (ts : List TExpr) → length (f t) ≤ length (flat_map f (reverse (t ∷ ts)))
last_count f t ts =
    let split : reverse (t ∷ ts) ≡ reverse ts ++ t ∷ [] = reverse-append (t ∷ []) ts in
    let joined : flat_map f (reverse (t ∷ ts)) ≡ flat_map f (reverse ts) ++ flat_map f (t ∷ []) = ap (flat_map f) split ∙ flat_map-append f (reverse ts) (t ∷ []) in
    let count : length (flat_map f (reverse (t ∷ ts))) ≡ length (flat_map f (reverse ts)) + length (flat_map f (t ∷ [])) = ap length joined ∙ length-append (flat_map f (reverse ts)) (flat_map f (t ∷ [])) in
    let own : length (flat_map f (t ∷ [])) ≡ length (f t) = ap length (append-nil (f t)) in
    omega arith

-- ---- offsets

record IsAt (layout : Layout) (fields : List FieldDef) (place : ℕ) (f : FieldDef) : Type 0 where
  value : ℕ
  is : offset_in layout fields place f ≡ Some value

at_if : (layout : Layout) (fields : List FieldDef) (place : ℕ) (f : FieldDef) (b : Bool) → f.fixed ≡ b → slice_get fields place ≡ Some f
    → length layout.fixed_offsets ≡ count_by (λ each. each.fixed) fields → count_by is_instance fields ≤ length layout.offsets → IsAt layout fields place f
at_if layout fields place f true e is fixed_count count =
    let less : count_by (λ each. each.fixed) (take place fields) < count_by (λ each. each.fixed) fields = count_before (λ each. each.fixed) fields place f is e in
    let k : ℕ = count_by (λ each. each.fixed) (take place fields) in
    record {
      value = get_or layout.fixed_offsets k 0;
      is = ap (λ b. if b then slice_get layout.fixed_offsets k else slice_get layout.offsets (length layout.offsets - count_by is_instance fields + count_by is_instance (take place fields))) e
          ∙ slice_get-get_or layout.fixed_offsets k 0 (let l : count_by (λ each. each.fixed) (take place fields) < length layout.fixed_offsets = omega arith in l);
    }
at_if layout fields place f false e is fixed_count count =
    let less : count_by is_instance (take place fields) < count_by is_instance fields = count_before is_instance fields place f is (ap not e) in
    let k : ℕ = length layout.offsets - count_by is_instance fields + count_by is_instance (take place fields) in
    record {
      value = get_or layout.offsets k 0;
      is = ap (λ b. if b then slice_get layout.fixed_offsets (count_by (λ each. each.fixed) (take place fields)) else slice_get layout.offsets k) e
          ∙ slice_get-get_or layout.offsets k 0 (let l : length layout.offsets - count_by is_instance fields + count_by is_instance (take place fields) < length layout.offsets = omega arith in l);
    }

module _ (program : Program) where
  -- the class that the type names has a field at this place
  pub record HasField (t : TExpr) (place : ℕ) : Type 0 where
    pub number : ℕ
    pub number_is : class_number_of t ≡ Some number
    pub class : ClassDef
    pub is : slice_get program.classes number ≡ Some class
    pub field : FieldDef
    pub field_is : slice_get class.fields place ≡ Some field

  module _ (t : TExpr) (c : ClassDef) (is : class_of program t ≡ Some c) where
    fixed_count : length (layout_of program t).fixed_offsets ≡ count_by (λ each. each.fixed) c.fields
    fixed_count =
        offsets_count 0 (map (words_of program) (static_kinds_of program t))
        ∙ length-map (static_kinds_of program t) (words_of program)
        ∙ length-map (filter (λ (f : FieldDef). f.fixed) (fields_in (class_of program t))) (λ f. with_args_of t f.kind)
        ∙ ap (λ (d : Option ClassDef). length (filter (λ (f : FieldDef). f.fixed) (fields_in d))) is
        ∙ length-filter (λ (f : FieldDef). f.fixed) c.fields

    own_count : length (own_kinds_of program t) ≡ count_by is_instance c.fields
    own_count =
        length-map (filter (λ (f : FieldDef). not f.fixed) (fields_in (class_of program t))) (λ f. with_args_of t f.kind)
        ∙ ap (λ (d : Option ClassDef). length (filter (λ (f : FieldDef). not f.fixed) (fields_in d))) is
        ∙ length-filter (λ (f : FieldDef). not f.fixed) c.fields

    instance_count : count_by is_instance c.fields ≤ length (layout_of program t).offsets
    instance_count =
        let all : length (layout_of program t).offsets ≡ length (instance_kinds_of program t) = offsets_count 0 (map (words_of program) (instance_kinds_of program t)) ∙ length-map (instance_kinds_of program t) (words_of program) in
        let own : length (own_kinds_of program t) ≤ length (instance_kinds_of program t) = last_count (own_kinds_of program) t (proper_bases_of program t) in
        let count : length (own_kinds_of program t) ≡ count_by is_instance c.fields = own_count in
        omega arith

    offset_at : (place : ℕ) (f : FieldDef) → slice_get c.fields place ≡ Some f → HasOffset program t place
    offset_at place f field =
        let a : IsAt (layout_of program t) c.fields place f = at_if (layout_of program t) c.fields place f f.fixed refl field fixed_count instance_count in
        record {
          value = a.value + 1;
          is = ap (λ (d : Option ClassDef). option_map (λ offset. offset + 1) (option_and_then (offset_in (layout_of program t) (fields_in d) place) (slice_get (fields_in d) place))) is
              ∙ ap (λ (o : Option FieldDef). option_map (λ offset. offset + 1) (option_and_then (offset_in (layout_of program t) c.fields place) o)) field
              ∙ ap (option_map (λ offset. offset + 1)) a.is;
        }

  pub has-offset : (t : TExpr) (place : ℕ) → HasField t place → HasOffset program t place
  has-offset t place h =
      offset_at t h.class (ap (λ (o : Option ℕ). option_and_then (λ k. slice_get program.classes k) o) h.number_is ∙ h.is) place h.field h.field_is
