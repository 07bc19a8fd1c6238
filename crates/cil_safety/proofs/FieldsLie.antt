-- Where fields lie: base fields first, in each object that passes as the class, in a struct, and among static words.
use Rattle.std.proofs.Common.{◌≡◌, ℕ, zero, suc, ◌+◌, ◌≤◌, ◌==◌, Bool, true, false, not, ◌&&◌, ◌||◌, inl, inr, List, [], ◌∷◌, ◌++◌, length, take, map, flat_map, filter, Option, Some, None, refl, sym, ap, ◌∙◌, subst, arith}
use Rattle.std.specs.Prelude.{slice_get, option_to_list, option_and_then, reverse, if◌then◌else◌}
use Rattle.std.proofs.lemmas.List.{append-nil, append_assoc, length-append, length-map, reverse-append}
use Rattle.std.proofs.lemmas.List.Concat.{flat_map-append}
use Rattle.std.proofs.lemmas.Bool.Decides.{nat_tests}
use Rattle.type_tree.specs.declared.tree.TExpr.{TExpr}
use Rattle.type_tree.specs.declared.tree.TNode.{TNode}
use Rattle.type_tree.specs.declared.tree.TNode.TheVariants.{Node, ClassVar, MethodVar}
use Rattle.type_tree.specs.declared.tree.Head.TheVariants as head
use Rattle.type_tree.specs.Tree.{top_of}
use Rattle.il_model.specs.declared.program.Program.{Program}
use Rattle.il_model.specs.declared.class.ClassDef.{ClassDef}
use Rattle.il_model.specs.declared.class.FieldDef.{FieldDef}
use Rattle.il_model.specs.Find.{class_in_top, class_number_of, class_of}
use Rattle.il_model.specs.Kinds.{is_value}
use Rattle.il_model.specs.Library.{plain, library_classes}
use Rattle.il_model.specs.Slots.{is_interface_kind, is_interface_class, is_interface}
use Rattle.il_model.specs.Assignable.{element_in_top, element_of, is_object, is_assignable}
use Rattle.il_model.specs.Bases.{with_args_of, base_of, upwards, proper_bases_of, bases_of}
use Rattle.il_model.specs.Interfaces.{own_interfaces_of}
use Rattle.il_model.specs.Layouts.{fields_in, kinds_at, own_kinds_of, instance_kinds_of, static_kinds_of, words_of, offsets_from, layout_of}
use Rattle.il_model.specs.ClassRules.{HasLayout, EachClass}
use Rattle.type_tree.proofs.TreeLemmas.{top_of-tree_of}
use Rattle.type_inst.proofs.ListLemmas.{Has, has_left, each_passes, true_of_two, second_of_two}
use Rattle.type_inst.proofs.ListingLemmas.{tends}
use Rattle.type_tree.proofs.SameLemmas.{is_same-Decides}
use Rattle.cil_meaning.specs.Offsets.{instance_fields, static_fields, instance_place, instance_offset, static_offset}
use Rattle.cil_meaning.specs.Types.{passes_as}
use Rattle.cil_safety.proofs.Sorts.{Scalar, scalars_of, instance_scalars_top, instance_scalars_of, static_scalars_of}
use Rattle.cil_safety.proofs.Fit.{Spans, Lies}
use Rattle.cil_safety.proofs.Pieces.{length-scalars_of}
use Rattle.cil_safety.proofs.Uppers.{PlainClasses, Based, itself, upward, Met, by_base, own, by_own, Assigns, to_base, to_object, to_interface, vectors, of_class, assigns_of, tends_all, own_interface, base_has}

-- ---- scalars in rows

under : (u : Scalar) (us : List Scalar) (i : ℕ) (as' : List Scalar) → Spans (slice_get us) i as' → Spans (slice_get (u ∷ us)) (suc i) as'
under u us i [] h = tt
under u us i (a ∷ as') h = (h.0, under u us (suc i) as' h.1)

-- scalars that stand in a list stand so with others before or behind it
behind : (us vs : List Scalar) (i : ℕ) (as' : List Scalar) → Spans (slice_get vs) i as' → Spans (slice_get (us ++ vs)) (length us + i) as'
behind [] vs i as' h = let e : i ≡ 0 + i = omega arith in subst (λ z. Spans (slice_get vs) z as') e h
behind (u ∷ us) vs i as' h =
    let e : suc (length us + i) ≡ suc (length us) + i = omega arith in
    subst (λ z. Spans (slice_get (u ∷ (us ++ vs))) z as') e (under u (us ++ vs) (length us + i) as' (behind us vs i as' h))

still_there : (us vs : List Scalar) (i : ℕ) (a : Scalar) → slice_get us i ≡ Some a → slice_get (us ++ vs) i ≡ Some a
still_there [] vs i a e = absurd (cc e)
still_there (u ∷ us) vs zero a e = e
still_there (u ∷ us) vs (suc i) a e = still_there us vs i a e

before : (us vs : List Scalar) (i : ℕ) (as' : List Scalar) → Spans (slice_get us) i as' → Spans (slice_get (us ++ vs)) i as'
before us vs i [] h = tt
before us vs i (a ∷ as') h = (still_there us vs i a h.0, before us vs (suc i) as' h.1)

whole_row : (as' : List Scalar) → Spans (slice_get as') 0 as'
whole_row [] = tt
whole_row (a ∷ as') = (refl, under a as' 0 as' (whole_row as'))

pub lies_before : (us vs : List Scalar) (i : ℕ) (as' : List Scalar) → Lies us i as' → Lies (us ++ vs) i as'
lies_before us vs i as' h = (omega (arith, h.0, length-append us vs), before us vs i as' h.1)

lies_behind : (us vs : List Scalar) (i : ℕ) (as' : List Scalar) → Lies vs i as' → Lies (us ++ vs) (length us + i) as'
lies_behind us vs i as' h = (omega (arith, h.0, length-append us vs), behind us vs i as' h.1)

-- ---- offsets and rows of several types

module _ (p : Program) where
  -- where the words of one of several types lie among those of all
  record HasOffset (ks : List TExpr) (start i : ℕ) (x : TExpr) : Type 0 where
    offset : ℕ
    at : slice_get (offsets_from start (map (words_of p) ks)) i ≡ Some (start + offset)
    lies : Lies (flat_map (scalars_of p) ks) offset (scalars_of p x)

  has_offset : (ks : List TExpr) (start i : ℕ) (x : TExpr) → slice_get ks i ≡ Some x → HasOffset ks start i x
  has_offset [] start i x e = absurd (cc e)
  has_offset (k ∷ ks) start zero x e =
      let same : k ≡ x = cc e in
      let zero_more : start ≡ start + 0 = omega arith in
      record {
        offset = 0;
        at = ap Some zero_more;
        lies = subst (λ z. Lies (scalars_of p k ++ flat_map (scalars_of p) ks) 0 (scalars_of p z)) same
            (lies_before (scalars_of p k) (flat_map (scalars_of p) ks) 0 (scalars_of p k) (omega arith, whole_row (scalars_of p k)));
      }
  has_offset (k ∷ ks) start (suc i) x e =
      let h = has_offset ks (start + words_of p k) i x e in
      let long : length (scalars_of p k) ≡ words_of p k = length-scalars_of p k in
      let sum : (start + words_of p k) + h.offset ≡ start + (length (scalars_of p k) + h.offset) = omega (arith, long) in
      record {
        offset = length (scalars_of p k) + h.offset;
        at = h.at ∙ ap Some sum;
        lies = lies_behind (scalars_of p k) (flat_map (scalars_of p) ks) h.offset (scalars_of p x) h.lies;
      }

  length-offsets : (start : ℕ) (ws : List ℕ) → length (offsets_from start ws) ≡ length ws
  length-offsets start [] = refl
  length-offsets start (w ∷ ws) = ap suc (length-offsets (start + w) ws)

-- ---- a field among the fields of its sort

among_sort : (g : FieldDef → TExpr) (test : FieldDef → Bool) (fs : List FieldDef) (place : ℕ) (f : FieldDef) → slice_get fs place ≡ Some f → test f ≡ true →
    slice_get (map g (filter test fs)) (length (filter test (take place fs))) ≡ Some (g f)
among_sort g test [] place f e is = absurd (cc e)
among_sort g test (x ∷ fs) zero f e is =
    let same : x ≡ f = cc e in
    ap (λ b. slice_get (map g (if b then x ∷ filter test fs else filter test fs)) 0) (ap test same ∙ is) ∙ ap (λ z. Some (g z)) same
among_sort g test (x ∷ fs) (suc place) f e is = by_test (among_sort g test fs place f e is) (test x)
  where
    by_test : slice_get (map g (filter test fs)) (length (filter test (take place fs))) ≡ Some (g f) → (b : Bool) →
        slice_get (map g (if b then x ∷ filter test fs else filter test fs)) (length (if b then x ∷ filter test (take place fs) else filter test (take place fs))) ≡ Some (g f)
    by_test h true = h
    by_test h false = h

at_back : (xs ys : List TExpr) (i : ℕ) (y : TExpr) → slice_get ys i ≡ Some y → slice_get (xs ++ ys) (length xs + i) ≡ Some y
at_back [] ys i y e = let z : i ≡ 0 + i = omega arith in subst (λ k. slice_get ys k ≡ Some y) z e
at_back (x ∷ xs) ys i y e =
    let z : suc (length xs + i) ≡ suc (length xs) + i = omega arith in
    subst (λ k. slice_get (x ∷ (xs ++ ys)) k ≡ Some y) z (at_back xs ys i y e)

-- ---- the fields of bases come first

module _ (p : Program) (classes : PlainClasses p) where
  pub no_upwards : (n : ℕ) → upwards p n None ≡ []
  no_upwards zero = refl
  no_upwards (suc n) = refl

  optional_has : (o : Option TExpr) (b : TExpr) → o ≡ Some b → Has (option_to_list o) b
  optional_has o b e = subst (λ z. Has (option_to_list z) b) (sym e) (inl refl)

  -- past the last base more levels find no other one
  settled_up : (n m : ℕ) (t : TExpr) → tends p n t ≡ true → n ≤ m → upwards p m (Some t) ≡ upwards p n (Some t)
  settled_up zero m t e le = absurd (cc e)
  settled_up (suc n) zero t e le = absurd (omega (arith, le))
  settled_up (suc n) (suc m) t e le =
      ap (λ ts. t ∷ ts) (by_base' (λ b is. settled_up n m b (each_passes (λ v. tends p n v) (option_to_list (base_of p t) ++ own_interfaces_of p t) e b (has_left (option_to_list (base_of p t)) (own_interfaces_of p t) b (optional_has (base_of p t) b is))) (omega (arith, le))) (base_of p t) refl)
    where
      by_base' : ((b : TExpr) → base_of p t ≡ Some b → upwards p m (Some b) ≡ upwards p n (Some b)) → (o : Option TExpr) → base_of p t ≡ o → upwards p m o ≡ upwards p n o
      by_base' go None is = no_upwards m ∙ sym (no_upwards n)
      by_base' go (Some b) is = go b is

  bases_up : (e b : TExpr) → base_of p e ≡ Some b → bases_of p e ≡ e ∷ bases_of p b
  bases_up e b is =
      ap (λ ts. e ∷ ts) (ap (upwards p (length p.classes)) is ∙ sym (settled_up (length p.classes) (suc (length p.classes)) b (tends_all p classes b) (omega arith)))

  pub kinds_up : (e b : TExpr) → base_of p e ≡ Some b → instance_kinds_of p e ≡ instance_kinds_of p b ++ own_kinds_of p e
  kinds_up e b is =
      ap (λ ts. flat_map (own_kinds_of p) (reverse ts)) (bases_up e b is)
      ∙ ap (flat_map (own_kinds_of p)) (reverse-append (e ∷ []) (bases_of p b))
      ∙ flat_map-append (own_kinds_of p) (reverse (bases_of p b)) (e ∷ [])
      ∙ ap (λ ts. instance_kinds_of p b ++ ts) (append-nil (own_kinds_of p e))

  pub record HasFront (t u : TExpr) : Type 0 where
    pub more : List TExpr
    pub is : instance_kinds_of p t ≡ instance_kinds_of p u ++ more

  pub base_front : {t u : TExpr} → Based p t u → HasFront t u
  base_front {t} itself = record { more = []; is = sym (append-nil (instance_kinds_of p t)) }
  base_front {t} {u} (upward {b = b} e h) =
      let f = base_front h in
      record {
        more = f.more ++ own_kinds_of p t;
        is = kinds_up t b e ∙ ap (λ ks. ks ++ own_kinds_of p t) f.is ∙ append_assoc (instance_kinds_of p u) f.more (own_kinds_of p t);
      }

  own_last : (t : TExpr) → instance_kinds_of p t ≡ flat_map (own_kinds_of p) (reverse (proper_bases_of p t)) ++ own_kinds_of p t
  own_last t =
      ap (flat_map (own_kinds_of p)) (reverse-append (t ∷ []) (proper_bases_of p t))
      ∙ flat_map-append (own_kinds_of p) (reverse (proper_bases_of p t)) (t ∷ [])
      ∙ ap (λ ts. flat_map (own_kinds_of p) (reverse (proper_bases_of p t)) ++ ts) (append-nil (own_kinds_of p t))

  -- ---- one field

  -- a field of a class that a type names
  pub record IsFieldOf (t : TExpr) (c : ClassDef) (place : ℕ) (f : FieldDef) : Type 0 where
    pub class : class_of p t ≡ Some c
    pub at : slice_get c.fields place ≡ Some f

  pub own_kinds : (t : TExpr) (c : ClassDef) → class_of p t ≡ Some c → own_kinds_of p t ≡ kinds_at t (instance_fields c.fields)
  own_kinds t c e = ap (λ (o : Option ClassDef). kinds_at t (instance_fields (fields_in o))) e

  record HasPlace (t : TExpr) (c : ClassDef) (place : ℕ) (x : TExpr) : Type 0 where
    index : ℕ
    index_is : instance_place (offsets_from 0 (map (words_of p) (instance_kinds_of p t))) c.fields place ≡ index
    there : slice_get (instance_kinds_of p t) index ≡ Some x

  has_place : (t : TExpr) (c : ClassDef) (place : ℕ) (f : FieldDef) → IsFieldOf t c place f → f.fixed ≡ false → HasPlace t c place (with_args_of t f.kind)
  has_place t c place f h instance =
      let bases : List TExpr = flat_map (own_kinds_of p) (reverse (proper_bases_of p t)) in
      let own' : own_kinds_of p t ≡ kinds_at t (instance_fields c.fields) = own_kinds t c h.class in
      let all : instance_kinds_of p t ≡ bases ++ kinds_at t (instance_fields c.fields) = own_last t ∙ ap (λ ks. bases ++ ks) own' in
      let count : length (instance_kinds_of p t) ≡ length bases + length (instance_fields c.fields) =
      ap length all ∙ length-append bases (kinds_at t (instance_fields c.fields)) ∙ ap (λ k. length bases + k) (length-map (instance_fields c.fields) (λ f. with_args_of t f.kind)) in
      let offsets : length (offsets_from 0 (map (words_of p) (instance_kinds_of p t))) ≡ length bases + length (instance_fields c.fields) =
      length-offsets p 0 (map (words_of p) (instance_kinds_of p t)) ∙ length-map (instance_kinds_of p t) (words_of p) ∙ count in
      record {
        index = length bases + length (instance_fields (take place c.fields));
        index_is = omega (arith, offsets);
        there = ap (λ ks. slice_get ks (length bases + length (instance_fields (take place c.fields)))) all
            ∙ at_back bases (kinds_at t (instance_fields c.fields)) (length (instance_fields (take place c.fields))) (with_args_of t f.kind)
            (among_sort (λ f. with_args_of t f.kind) (λ f. not f.fixed) c.fields place f h.at (ap not instance));
      }

  -- Where an instance field lies among the words of the type's own parts.
  pub record LiesAt (t : TExpr) (place : ℕ) (x : TExpr) : Type 0 where
    pub offset : ℕ
    pub at : instance_offset p t place ≡ Some offset
    pub lies : Lies (flat_map (scalars_of p) (instance_kinds_of p t)) offset (scalars_of p x)

  pub field_lies : (t : TExpr) (c : ClassDef) (place : ℕ) (f : FieldDef) → IsFieldOf t c place f → f.fixed ≡ false → LiesAt t place (with_args_of t f.kind)
  field_lies t c place f h instance =
      let s = has_place t c place f h instance in
      let o = has_offset p (instance_kinds_of p t) 0 s.index (with_args_of t f.kind) s.there in
      let none : 0 + o.offset ≡ o.offset = omega arith in
      record {
        offset = o.offset;
        at = ap (option_and_then (λ (d : ClassDef). slice_get (layout_of p t).offsets (instance_place (layout_of p t).offsets d.fields place))) h.class
            ∙ ap (λ k. slice_get (offsets_from 0 (map (words_of p) (instance_kinds_of p t))) k) s.index_is
            ∙ o.at ∙ ap Some none;
        lies = o.lies;
      }

  -- Where a static field lies among the static words of its class.
  pub record LiesFixed (t : TExpr) (place : ℕ) (x : TExpr) : Type 0 where
    pub offset : ℕ
    pub at : static_offset p t place ≡ Some offset
    pub lies : Lies (static_scalars_of p t) offset (scalars_of p x)

  pub static_lies : (t : TExpr) (c : ClassDef) (place : ℕ) (f : FieldDef) → IsFieldOf t c place f → f.fixed ≡ true → LiesFixed t place (with_args_of t f.kind)
  static_lies t c place f h fixed =
      let kinds : static_kinds_of p t ≡ kinds_at t (static_fields c.fields) = ap (λ (o : Option ClassDef). kinds_at t (static_fields (fields_in o))) h.class in
      let there : slice_get (static_kinds_of p t) (length (static_fields (take place c.fields))) ≡ Some (with_args_of t f.kind) =
      ap (λ ks. slice_get ks (length (static_fields (take place c.fields)))) kinds ∙ among_sort (λ f. with_args_of t f.kind) (λ f. f.fixed) c.fields place f h.at fixed in
      let o = has_offset p (static_kinds_of p t) 0 (length (static_fields (take place c.fields))) (with_args_of t f.kind) there in
      let none : 0 + o.offset ≡ o.offset = omega arith in
      record {
        offset = o.offset;
        at = ap (option_and_then (λ (d : ClassDef). slice_get (layout_of p t).fixed_offsets (length (static_fields (take place d.fields))))) h.class ∙ o.at ∙ ap Some none;
        lies = o.lies;
      }

  -- ---- in objects

  -- what has a field is no interface and not `object`
  has_fields : (fs : List FieldDef) (place : ℕ) (f : FieldDef) → slice_get fs place ≡ Some f → (length fs == 0) ≡ false
  has_fields [] place f e = absurd (cc e)
  has_fields (g ∷ fs) place f e = more (length fs)
    where
      more : (n : ℕ) → (suc n == 0) ≡ false
      more n = grind (arith, nat_tests)

  no_interface : EachClass HasLayout p → (t : TExpr) (c : ClassDef) (place : ℕ) (f : FieldDef) → IsFieldOf t c place f → is_interface p t ≡ false
  no_interface layout t c place f h =
      let o = of_class p t c h.class in
      ap (λ (k : Option ClassDef). is_interface_class k) h.class ∙ by_kind (is_interface_kind c.kind) (length c.fields == 0) (layout.each o.number c o.is).interface (has_fields c.fields place f h.at)
    where
      by_kind : (a b : Bool) → (not a || b) ≡ true → b ≡ false → a ≡ false
      by_kind true true e g = absurd (cc g)
      by_kind true false e g = absurd (cc e)
      by_kind false b e g = refl

  pub no_object : (t : TExpr) (c : ClassDef) (place : ℕ) (f : FieldDef) → IsFieldOf t c place f → ¬ (t ≡ plain 0)
  no_object t c place f h is =
      let named : class_number_of t ≡ Some 0 = ap class_number_of is ∙ ap class_in_top (top_of-tree_of (Node (head.Class 0) [])) in
      let class : class_of p t ≡ slice_get p.classes 0 = ap (option_and_then (λ k. slice_get p.classes k)) named in
      let first : slice_get p.classes 0 ≡ slice_get library_classes 0 = ap (λ cs. slice_get cs 0) classes.library in
      let q : Some c ≡ slice_get library_classes 0 = sym h.class ∙ class ∙ first in
      none_in c (cc q) h.at
    where
      none_in : (c : ClassDef) → c.fields ≡ [] → slice_get c.fields place ≡ Some f → ⊥
      none_in c e at = let r : slice_get [] place ≡ Some f = subst (λ fs. slice_get fs place ≡ Some f) e at in cc r

  -- ..and not `string`
  pub no_text : (t : TExpr) (c : ClassDef) (place : ℕ) (f : FieldDef) → IsFieldOf t c place f → ¬ (t ≡ plain 1)
  no_text t c place f h is =
      let named : class_number_of t ≡ Some 1 = ap class_number_of is ∙ ap class_in_top (top_of-tree_of (Node (head.Class 1) [])) in
      let class : class_of p t ≡ slice_get p.classes 1 = ap (option_and_then (λ k. slice_get p.classes k)) named in
      let first : slice_get p.classes 1 ≡ slice_get library_classes 1 = ap (λ cs. slice_get cs 1) classes.library in
      let q : Some c ≡ slice_get library_classes 1 = sym h.class ∙ class ∙ first in
      none_in c (cc q) h.at
    where
      none_in : (c : ClassDef) → c.fields ≡ [] → slice_get c.fields place ≡ Some f → ⊥
      none_in c e at = let r : slice_get [] place ≡ Some f = subst (λ fs. slice_get fs place ≡ Some f) e at in cc r

  met_interface : {t i : TExpr} → Met p t i → is_interface p i ≡ true
  met_interface (by_base e m) = met_interface m
  met_interface {t} {i} (own h) = own_interface p classes t i h
  met_interface (by_own h m) = met_interface m

  -- the exact type of an object that passes as a class with fields has that class as a base
  based_on_class : EachClass HasLayout p → (e t : TExpr) (c : ClassDef) (place : ℕ) (f : FieldDef) → IsFieldOf t c place f → passes_as p e t ≡ true → Based p e t
  based_on_class layout e t c place f h passes =
      elim (true_of_two (is_assignable p e t) (is_value p e && is_object t) passes) [
        | inl assignable ↦ by_relation (assigns_of p e t assignable)
        | inr boxed ↦ absurd (no_object t c place f h ((is_same-Decides t (plain 0)).0 (second_of_two (is_value p e) (is_object t) boxed)))
      ]
    where
      named : class_number_of t ≡ Some (of_class p t c h.class).number
      named = (of_class p t c h.class).named

      no_element : (top : TNode TExpr) (k : ℕ) (b : TExpr) → class_in_top top ≡ Some k → element_in_top top ≡ Some b → ⊥
      no_element (Node head.Int32 parts) k b e' g = cc g
      no_element (Node head.Int64 parts) k b e' g = cc g
      no_element (Node head.Bool parts) k b e' g = cc g
      no_element (Node head.Vector parts) k b e' g = cc e'
      no_element (Node (head.Class number) parts) k b e' g = cc g
      no_element (ClassVar n) k b e' g = cc g
      no_element (MethodVar n) k b e' g = cc g

      by_relation : Assigns p e t → Based p e t
      by_relation (to_base b) = b
      by_relation (to_object r is) = absurd (no_object t c place f h is)
      by_relation (to_interface m) = absurd (let yes : is_interface p t ≡ true = met_interface m in cc (yes, no_interface layout t c place f h))
      by_relation (vectors {b = b} ea eb ra rb g) = absurd (no_element (top_of t) (of_class p t c h.class).number b named eb)

  -- a type that has a class as a base is one of a class
  base_named : {e t : TExpr} → Based p e t → (k : ℕ) → class_number_of t ≡ Some k → (n : ℕ) × (class_number_of e ≡ Some n)
  base_named itself k named = (k, named)
  base_named {e} (upward is b) k named = let h = base_has p classes e _ is in (h.1.number, h.1.named)

  -- an instance field in each object that passes as its class
  pub in_objects : EachClass HasLayout p → (t : TExpr) (c : ClassDef) (place : ℕ) (f : FieldDef) → IsFieldOf t c place f → (offset : ℕ) (x : TExpr) →
      Lies (flat_map (scalars_of p) (instance_kinds_of p t)) offset (scalars_of p x) → (e : TExpr) → passes_as p e t ≡ true → (element_of e ≡ None) × Lies (instance_scalars_of p e) offset (scalars_of p x)
  in_objects layout t c place f h offset x lies e passes =
      let based = based_on_class layout e t c place f h passes in
      let class = base_named based (of_class p t c h.class).number (of_class p t c h.class).named in
      let front = base_front based in
      let more : Lies (flat_map (scalars_of p) (instance_kinds_of p e)) offset (scalars_of p x) =
      subst (λ us. Lies us offset (scalars_of p x)) (sym (ap (flat_map (scalars_of p)) front.is ∙ flat_map-append (scalars_of p) (instance_kinds_of p t) front.more))
      (lies_before (flat_map (scalars_of p) (instance_kinds_of p t)) (flat_map (scalars_of p) front.more) offset (scalars_of p x) lies) in
      by_top (top_of e) refl class.0 class.1 more
    where
      by_top : (top : TNode TExpr) → top_of e ≡ top → (n : ℕ) → class_in_top (top_of e) ≡ Some n → Lies (flat_map (scalars_of p) (instance_kinds_of p e)) offset (scalars_of p x) →
          (element_of e ≡ None) × Lies (instance_scalars_of p e) offset (scalars_of p x)
      by_top (Node head.Int32 parts) at n named l = absurd (let q : class_in_top (Node head.Int32 parts) ≡ Some n = ap class_in_top (sym at) ∙ named in cc q)
      by_top (Node head.Int64 parts) at n named l = absurd (let q : class_in_top (Node head.Int64 parts) ≡ Some n = ap class_in_top (sym at) ∙ named in cc q)
      by_top (Node head.Bool parts) at n named l = absurd (let q : class_in_top (Node head.Bool parts) ≡ Some n = ap class_in_top (sym at) ∙ named in cc q)
      by_top (Node head.Vector parts) at n named l = absurd (let q : class_in_top (Node head.Vector parts) ≡ Some n = ap class_in_top (sym at) ∙ named in cc q)
      by_top (Node (head.Class number) parts) at n named l = (ap element_in_top at, subst (λ us. Lies us offset (scalars_of p x)) (sym (ap (instance_scalars_top p e) at)) l)
      by_top (ClassVar k) at n named l = absurd (let q : class_in_top (ClassVar k) ≡ Some n = ap class_in_top (sym at) ∙ named in cc q)
      by_top (MethodVar k) at n named l = absurd (let q : class_in_top (MethodVar k) ≡ Some n = ap class_in_top (sym at) ∙ named in cc q)
