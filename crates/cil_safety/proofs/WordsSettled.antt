-- Structs opened further than they nest: no more levels change the scalars of a plain type.
use Rattle.std.proofs.Common.{◌≡◌, ℕ, zero, suc, ◌+◌, ◌*◌, ◌<◌, ◌≤◌, ◌==◌, Bool, true, false, not, ◌&&◌, ◌||◌, inl, inr, List, [], ◌∷◌, ◌++◌, length, map, flat_map, filter, Option, Some, None, refl, sym, ap, ◌∙◌, subst, arith}
use Rattle.std.specs.Prelude.{slice_get, option_to_list, option_and_then, option_map, reverse, if◌then◌else◌}
use Rattle.std.specs.List.{list_any, list_all, AllByRecursion}
use Rattle.std.proofs.lemmas.List.{append-nil}
use Rattle.std.proofs.lemmas.Bool.Decides.{nat_tests}
use Rattle.type_tree.specs.declared.tree.TExpr.{TExpr}
use Rattle.type_tree.specs.declared.tree.TNode.{TNode}
use Rattle.type_tree.specs.declared.tree.TNode.TheVariants.{Node, ClassVar, MethodVar}
use Rattle.type_tree.specs.declared.tree.Head.TheVariants as head
use Rattle.type_tree.specs.Tree.{top_of, node, class_var}
use Rattle.type_tree.specs.Positions.{positions_of}
use Rattle.type_tree.proofs.PositionsLemmas.{positions_of-node, positions_of-positive}
use Rattle.il_model.specs.declared.program.Program.{Program}
use Rattle.il_model.specs.declared.class.ClassDef.{ClassDef}
use Rattle.il_model.specs.declared.class.FieldDef.{FieldDef}
use Rattle.il_model.specs.Find.{class_in_top, class_number_of, class_of}
use Rattle.il_model.specs.LookUp.{numbers_from}
use Rattle.il_model.specs.Kinds.{is_struct_kind, is_struct_class, is_value_top, is_value}
use Rattle.il_model.specs.Library.{plain}
use Rattle.il_model.specs.Trees.{trees_within, without_repeats}
use Rattle.il_model.specs.Entries.{arguments_of}
use Rattle.il_model.specs.Bases.{with_args_of, own_of_class, own_of, base_of, upwards, bases_of}
use Rattle.il_model.specs.Layouts.{fields_in, kinds_at, own_kinds_of, instance_kinds_of, parts_if, most_trees}
use Rattle.il_model.specs.Admission.{has_count, steps_of, value_fields_of, closure_within, closure_of}
use Rattle.il_model.specs.Interfaces.{own_interfaces_of}
use Rattle.il_model.specs.ClassRules.{kinds_written, types_written, bounds_written, has_counts, is_number, HasLayout, EachClass}
use Rattle.type_inst.proofs.ListLemmas.{Has, has_right, has_flat, joined_has, each_passes, first_of_two}
use Rattle.type_inst.proofs.ClosureLemmas.{any_of_has, reached_itself, reached_in_more, reached_next}
use Rattle.cil_verify.proofs.OnceLemmas.{Once, fits_in}
use Rattle.cil_safety.proofs.Sorts.{scalar_in_top, scalar_of, scalars_in, scalars_within, scalars_of, instance_scalars_top, instance_scalars_of}
use Rattle.cil_safety.proofs.PlainTypes.{IsPlainType, class_plain, substituted_same}
use Rattle.il_model.specs.Slots.{is_interface_kind}
use Rattle.cil_safety.proofs.Built.{IsBuilt}
use Rattle.cil_safety.proofs.Uppers.{PlainClasses}

-- ---- lists

all_has : (P : TExpr → Type 0) (xs : List TExpr) (x : TExpr) → AllByRecursion P xs → Has xs x → P x
all_has P [] x all h = absurd h
all_has P (y ∷ ys) x all h = elim h [ inl e ↦ subst P e all.0 | inr r ↦ all_has P ys x all.1 r ]

kept_by : (test : TExpr → Bool) (xs : List TExpr) (x : TExpr) → Has xs x → test x ≡ true → Has (filter test xs) x
kept_by test [] x h e = absurd h
kept_by test (y ∷ ys) x h e = by_test (λ r. kept_by test ys x r e) (test y) refl
  where
    by_test : (Has ys x → Has (filter test ys) x) → (b : Bool) → test y ≡ b → Has (if b then y ∷ filter test ys else filter test ys) x
    by_test again true is = elim h [ inl same ↦ inl same | inr r ↦ inr (again r) ]
    by_test again false is = elim h [ inl same ↦ (let q : test y ≡ true = subst (λ z. test z ≡ true) (sym same) e in absurd (cc (q, is))) | inr r ↦ again r ]

-- what stands in a list of fields without some of them stands in the list
pub fields_kept : (t : TExpr) (test : FieldDef → Bool) (fs : List FieldDef) (x : TExpr) → Has (kinds_at t (filter test fs)) x → Has (kinds_at t fs) x
fields_kept t test [] x h = h
fields_kept t test (f ∷ fs) x h = by_test (λ r. fields_kept t test fs x r) (test f) h
  where
    by_test : (Has (kinds_at t (filter test fs)) x → Has (kinds_at t fs) x) → (b : Bool) → Has (kinds_at t (if b then f ∷ filter test fs else filter test fs)) x → Has (kinds_at t (f ∷ fs)) x
    by_test again true g = elim g [ inl e ↦ inl e | inr r ↦ inr (again r) ]
    by_test again false g = inr (again g)

flat_alike : {A : Type 0} (f g : TExpr → List A) (xs : List TExpr) → ((x : TExpr) → Has xs x → f x ≡ g x) → flat_map f xs ≡ flat_map g xs
flat_alike f g [] each = refl
flat_alike f g (x ∷ xs) each = ap (λ ys. ys ++ flat_map f xs) (each x (inl refl)) ∙ ap (λ ys. g x ++ ys) (flat_alike f g xs (λ y r. each y (inr r)))

-- What is asked of a program so that its structs end: forms without variables, the rules on classes, no struct in its own closure.
pub record HasStructs (p : Program) : Type 0 where
  pub built : IsBuilt p
  pub classes : PlainClasses p
  pub layout : EachClass HasLayout p

-- a type that is a struct of the program
pub record IsStruct (p : Program) (t : TExpr) : Type 0 where
  pub number : ℕ
  pub definition : ClassDef
  pub there : slice_get p.classes number ≡ Some definition
  pub is : t ≡ plain number
  pub named : class_number_of t ≡ Some number
  pub class : class_of p t ≡ Some definition
  pub kind : is_struct_kind definition.kind ≡ true

-- the class that a type names
struct_in : (p : Program) (t : TExpr) → IsPlainType t → (o : Option ℕ) → class_number_of t ≡ o → (c : Option ClassDef) → option_and_then (λ k. slice_get p.classes k) o ≡ c → is_struct_class c ≡ true → IsStruct p t
struct_in p t plain_t None named c at e = absurd (let q : None ≡ c = at in let r : is_struct_class None ≡ true = subst (λ z. is_struct_class z ≡ true) (sym q) e in cc r)
struct_in p t plain_t (Some number) named None at e = absurd (cc e)
struct_in p t plain_t (Some number) named (Some c) at e = record {
  number = number;
  definition = c;
  there = at;
  is = class_plain t number plain_t named;
  named = named;
  class = ap (option_and_then (λ k. slice_get p.classes k)) named ∙ at;
  kind = e;
}

pub struct_is : (p : Program) (t : TExpr) → IsPlainType t → is_struct_class (class_of p t) ≡ true → IsStruct p t
struct_is p t plain_t e = struct_in p t plain_t (class_number_of t) refl (class_of p t) refl e

-- a struct is a value
pub value_is : (p : Program) (t : TExpr) → is_struct_class (class_of p t) ≡ true → is_value p t ≡ true
value_is p t e = by_top (top_of t) refl
  where
    no_class : {top : TNode TExpr} → top_of t ≡ top → class_in_top top ≡ None → is_struct_class (class_of p t) ≡ true → ⊥
    no_class at none e' =
        let q : class_of p t ≡ None = ap (option_and_then (λ k. slice_get p.classes k)) (ap class_in_top at ∙ none) in
        let r : is_struct_class None ≡ true = subst (λ z. is_struct_class z ≡ true) q e' in
        cc r

    by_top : (top : TNode TExpr) → top_of t ≡ top → is_value_top p t top ≡ true
    by_top (Node head.Int32 parts) at = refl
    by_top (Node head.Int64 parts) at = refl
    by_top (Node head.Bool parts) at = refl
    by_top (Node head.Vector parts) at = absurd (no_class at refl e)
    by_top (Node (head.Class number) parts) at = e
    by_top (ClassVar n) at = absurd (no_class at refl e)
    by_top (MethodVar n) at = absurd (no_class at refl e)

module _ (p : Program) where
  -- a type that is no struct is one scalar, however far structs are opened
  pub alone_word : (n : ℕ) (t : TExpr) → is_struct_class (class_of p t) ≡ false → scalars_within p n t ≡ scalar_of t ∷ []
  alone_word zero t e = refl
  alone_word (suc n) t e = ap (λ b. scalars_in (λ part. scalars_within p n part) t (parts_if b (instance_kinds_of p t))) e

  opened : (n : ℕ) (t : TExpr) → is_struct_class (class_of p t) ≡ true → scalars_within p (suc n) t ≡ flat_map (λ part. scalars_within p n part) (instance_kinds_of p t)
  opened n t e = ap (λ b. scalars_in (λ part. scalars_within p n part) t (parts_if b (instance_kinds_of p t))) e

module _ (p : Program) (s : HasStructs p) where
  own_is : (number : ℕ) (c : ClassDef) → slice_get p.classes number ≡ Some c → own_of p number ≡ plain number
  own_is number c there = ap (own_of_class number) there ∙ ap (λ vs. node (head.Class number) (map class_var (numbers_from 0 vs))) (s.built.classes number c there).vars

  -- ---- the fields of a struct

  -- what a struct's class writes as a field's type is plain and has as many arguments as it wants
  pub record IsPart (t x : TExpr) : Type 0 where
    pub plain_type : IsPlainType x
    pub step : is_value p x ≡ true → Has (steps_of p t) x

  pub first_tree : (n : ℕ) (t : TExpr) → (ts : List TExpr) × (trees_within n t ≡ t ∷ ts)
  first_tree zero t = ([], refl)
  first_tree (suc n) t = (flat_map (λ part. trees_within n part) (arguments_of t), refl)

  counted : (t : TExpr) → has_counts p t ≡ true → has_count p t ≡ true
  counted t e =
      let f = first_tree (positions_of t) t in
      first_of_two (has_count p t) (list_all (has_count p) f.0) (sym (ap (list_all (has_count p)) f.1) ∙ e)

  kinds_same : (t : TExpr) (fs : List FieldDef) → AllByRecursion IsPlainType (map (λ f. f.kind) fs) → kinds_at t fs ≡ map (λ f. f.kind) fs
  kinds_same t [] all = refl
  kinds_same t (f ∷ fs) all = ap (λ x. x ∷ kinds_at t fs) (substituted_same (arguments_of t) [] f.kind all.0) ∙ ap (λ xs. f.kind ∷ xs) (kinds_same t fs all.1)

  pub part_of_class : (t : TExpr) (number : ℕ) (c : ClassDef) → slice_get p.classes number ≡ Some c → class_of p t ≡ Some c → (x : TExpr) → Has (kinds_at t c.fields) x → IsPart t x
  part_of_class t number c there class x h =
      let built = s.built.classes number c there in
      let written : Has (kinds_written c) x = subst (λ xs. Has xs x) (kinds_same t c.fields built.fields) h in
      let in_types : Has (types_written c) x = has_right (option_to_list c.base) (c.interfaces ++ (bounds_written c.vars ++ kinds_written c)) x (has_right c.interfaces (bounds_written c.vars ++ kinds_written c) x (has_right (bounds_written c.vars) (kinds_written c) x written)) in
      let count : has_count p x ≡ true = counted x (each_passes (has_counts p) (types_written c) (s.classes.hierarchy.each number c there).counts x in_types) in
      let here : Has (kinds_at t (fields_in (class_of p t))) x = subst (λ (o : Option ClassDef). Has (kinds_at t (fields_in o)) x) (sym class) h in
      record {
        plain_type = all_has IsPlainType (kinds_written c) x built.fields written;
        step = λ value.
            kept_by (has_count p) (option_to_list (base_of p t) ++ (own_interfaces_of p t ++ value_fields_of p t)) x
            (has_right (option_to_list (base_of p t)) (own_interfaces_of p t ++ value_fields_of p t) x
            (has_right (own_interfaces_of p t) (value_fields_of p t) x
            (kept_by (is_value p) (kinds_at t (fields_in (class_of p t))) x here value))) count;
      }

  own_part : (t : TExpr) (number : ℕ) (c : ClassDef) → slice_get p.classes number ≡ Some c → class_of p t ≡ Some c → (x : TExpr) → Has (own_kinds_of p t) x → IsPart t x
  own_part t number c there class x h =
      part_of_class t number c there class x (fields_kept t (λ f. not f.fixed) c.fields x (subst (λ (o : Option ClassDef). Has (kinds_at t (filter (λ f. not f.fixed) (fields_in o))) x) class h))

  no_upwards : (n : ℕ) → upwards p n None ≡ []
  no_upwards zero = refl
  no_upwards (suc n) = refl

  struct_kinds : (t : TExpr) → IsStruct p t → instance_kinds_of p t ≡ own_kinds_of p t
  struct_kinds t h =
      let none : base_of p t ≡ None = ap (option_and_then (λ (c : ClassDef). option_map (with_args_of t) c.base)) h.class ∙ ap (option_map (with_args_of t)) (s.classes.baseless h.number h.definition h.there (ap (λ b. b || is_interface_kind h.definition.kind) h.kind)) in
      let bases : bases_of p t ≡ t ∷ [] = ap (λ ts. t ∷ ts) (ap (upwards p (length p.classes)) none ∙ no_upwards (length p.classes)) in
      ap (λ ts. flat_map (own_kinds_of p) (reverse ts)) bases ∙ append-nil (own_kinds_of p t)

  part_of : (t : TExpr) → IsStruct p t → (x : TExpr) → Has (instance_kinds_of p t) x → IsPart t x
  part_of t h x has = own_part t h.number h.definition h.there h.class x (subst (λ xs. Has xs x) (struct_kinds t h) has)

  -- ---- a way down from a struct, each step to a struct among the parts

  abbrev Way : TExpr → List TExpr → TExpr → Type 0
  Way root [] t = root ≡ t
  Way root (v ∷ vs) t = Way root vs v × (IsStruct p v × Has (steps_of p v) t)

  way_end : (root : TExpr) (vs : List TExpr) (t : TExpr) → Way root vs t → Has (closure_within p (length vs) root) t
  way_end root [] t w = inl w
  way_end root (v ∷ vs) t w = reached_next p (length vs) root v t (way_end root vs v w.0) w.1.1

  way_all : (root : TExpr) (vs : List TExpr) (t v : TExpr) → Way root vs t → Has vs v → Has (closure_within p (length vs) root) v
  way_all root [] t v w h = absurd h
  way_all root (u ∷ vs) t v w h =
      elim h [
        | inl e ↦ reached_in_more p (length vs) (suc (length vs)) root v (omega arith) (subst (Has (closure_within p (length vs) root)) e (way_end root vs u w.0))
        | inr r ↦ reached_in_more p (length vs) (suc (length vs)) root v (omega arith) (way_all root vs u v w.0 r)
      ]

  -- a type is reached again after a first step
  record Later (v t : TExpr) (k : ℕ) : Type 0 where
    next : TExpr
    step : Has (steps_of p v) next
    reached : Has (closure_within p k next) t

  later : (root : TExpr) (vs : List TExpr) (t v : TExpr) → Way root vs t → Has vs v → Later v t (length vs)
  later root [] t v w h = absurd h
  later root (u ∷ vs) t v w h =
      elim h [
        | inl e ↦ record { next = t; step = subst (λ z. Has (steps_of p z) t) e w.1.1; reached = reached_itself p (suc (length vs)) t }
        | inr r ↦ (let l = later root vs u v w.0 r in record { next = l.next; step = l.step; reached = reached_next p (length vs) l.next u t l.reached w.1.1 })
      ]

  pub some_positions : (t : TExpr) → 1 ≤ positions_of t
  some_positions t = positions_of-positive t

  -- no struct is reached from itself
  no_return : (t : TExpr) (k : ℕ) → IsStruct p t → k ≤ 8192 → Later t t k → ⊥
  no_return t k h few l =
      let some = some_positions l.next in
      let far : k ≤ most_trees * positions_of l.next = omega (arith, few, some) in
      let closure : Has (flat_map (closure_of p) (steps_of p t)) t = has_flat (closure_of p) (steps_of p t) l.next t l.step (reached_in_more p k (most_trees * positions_of l.next) l.next t far l.reached) in
      let own : own_of p h.number ≡ t = own_is h.number h.definition h.there ∙ sym h.is in
      let back : list_any (λ z. is_number h.number (class_number_of z)) (flat_map (closure_of p) (steps_of p (own_of p h.number))) ≡ true =
      any_of_has (λ z. is_number h.number (class_number_of z)) (flat_map (closure_of p) (steps_of p (own_of p h.number))) t
      (subst (λ z. Has (flat_map (closure_of p) (steps_of p z)) t) (sym own) closure) (ap (is_number h.number) h.named ∙ same_number h.number) in
      let no : (is_struct_kind h.definition.kind && list_any (λ z. is_number h.number (class_number_of z)) (flat_map (closure_of p) (steps_of p (own_of p h.number)))) ≡ false = (s.layout.each h.number h.definition h.there).no_return in
      both_no (is_struct_kind h.definition.kind) (list_any (λ z. is_number h.number (class_number_of z)) (flat_map (closure_of p) (steps_of p (own_of p h.number)))) h.kind back no
    where
      same_number : (n : ℕ) → (n == n) ≡ true
      same_number n = grind (arith, nat_tests)

      both_no : (a b : Bool) → a ≡ true → b ≡ true → (a && b) ≡ false → ⊥
      both_no true true e f g = cc g
      both_no true false e f g = cc f
      both_no false b e f g = cc e

  once_up : (root : TExpr) (vs : List TExpr) (t : TExpr) → length vs ≤ 8192 → Way root vs t → Once vs
  once_up root [] t few w = tt
  once_up root (v ∷ vs) t few w = (
    λ h. no_return v (length vs) w.1.0 (omega (arith, few)) (later root vs v v w.0 h),
    once_up root vs v (omega (arith, few)) w.0,
  )

  -- a way down has no more structs than a closure has trees
  short : (root : TExpr) → IsStruct p root → (vs : List TExpr) (t : TExpr) → length vs ≤ 8192 → Way root vs t → IsStruct p t → length vs < 8192
  short root from vs t few w h =
      let once : Once (t ∷ vs) = ((λ has. no_return t (length vs) h few (later root vs t t w has)), once_up root vs t few w) in
      let some = some_positions root in
      let far : length vs ≤ most_trees * positions_of root = omega (arith, few, some) in
      let own : own_of p from.number ≡ root = own_is from.number from.definition from.there ∙ sym from.is in
      let all : (x : TExpr) → Has (t ∷ vs) x → Has (without_repeats (closure_of p root)) x =
      λ x has. joined_has [] (closure_of p root) x (reached_in_more p (length vs) (most_trees * positions_of root) root x far (elim has [ inl e ↦ subst (Has (closure_within p (length vs) root)) e (way_end root vs t w) | inr r ↦ way_all root vs t x w r ])) in
      let fits : suc (length vs) ≤ length (without_repeats (closure_of p root)) = fits_in (t ∷ vs) (without_repeats (closure_of p root)) once all in
      let most : length (without_repeats (closure_of p root)) ≤ 8192 = subst (λ z. length (without_repeats (closure_of p z)) ≤ 8192) own (s.classes.hierarchy.each from.number from.definition from.there).few in
      omega (arith, fits, most)

  -- ---- more levels change nothing

  -- a part, where each part that is a struct is settled
  part_same : (t x : TExpr) (n k : ℕ) → IsPart t x → (Has (steps_of p t) x → scalars_within p n x ≡ scalars_within p k x) → scalars_within p n x ≡ scalars_within p k x
  part_same t x n k part again = by_struct (is_struct_class (class_of p x)) refl
    where
      by_struct : (b : Bool) → is_struct_class (class_of p x) ≡ b → scalars_within p n x ≡ scalars_within p k x
      by_struct true is = again (part.step (value_is p x is))
      by_struct false is = alone_word p n x is ∙ sym (alone_word p k x is)

  -- a type, where its parts are settled
  opened_same : (t : TExpr) (n k : ℕ) → IsPlainType t → (IsStruct p t → (x : TExpr) → IsPlainType x → Has (steps_of p t) x → scalars_within p n x ≡ scalars_within p k x) →
      scalars_within p (suc n) t ≡ scalars_within p (suc k) t
  opened_same t n k plain_t again = by_struct (is_struct_class (class_of p t)) refl
    where
      by_struct : (b : Bool) → is_struct_class (class_of p t) ≡ b → scalars_within p (suc n) t ≡ scalars_within p (suc k) t
      by_struct false is = alone_word p (suc n) t is ∙ sym (alone_word p (suc k) t is)
      by_struct true is =
          let h = struct_is p t plain_t is in
          opened p n t is
          ∙ flat_alike (λ part. scalars_within p n part) (λ part. scalars_within p k part) (instance_kinds_of p t)
          (λ x has. let part = part_of t h x has in part_same t x n k part (again h x part.plain_type))
          ∙ sym (opened p k t is)

  -- where no levels are left a way has gone as far as it may, so its end is no struct
  at_end : (root : TExpr) → IsStruct p root → (n k : ℕ) (vs : List TExpr) (t : TExpr) → Way root vs t → IsPlainType t → length vs ≤ 8192 → 8192 ≤ length vs → scalars_within p n t ≡ scalars_within p k t
  at_end root from n k vs t w plain_t few deep = by_struct (is_struct_class (class_of p t)) refl
    where
      by_struct : (b : Bool) → is_struct_class (class_of p t) ≡ b → scalars_within p n t ≡ scalars_within p k t
      by_struct false is = alone_word p n t is ∙ sym (alone_word p k t is)
      by_struct true is = absurd (omega (arith, short root from vs t few w (struct_is p t plain_t is), deep))

  settled : (root : TExpr) → IsStruct p root → (n k : ℕ) (vs : List TExpr) (t : TExpr) → Way root vs t → IsPlainType t → length vs ≤ 8192 → 8192 ≤ n + length vs → 8192 ≤ k + length vs →
      scalars_within p n t ≡ scalars_within p k t
  settled root from zero k vs t w plain_t few deep deep' = at_end root from zero k vs t w plain_t few (omega (arith, deep))
  settled root from (suc n) zero vs t w plain_t few deep deep' = at_end root from (suc n) zero vs t w plain_t few (omega (arith, deep'))
  settled root from (suc n) (suc k) vs t w plain_t few deep deep' =
      opened_same t n k plain_t (λ h x plain_x step.
      let less = short root from vs t few w h in
      settled root from n k (t ∷ vs) x (w, (h, step)) plain_x (omega (arith, less)) (omega (arith, deep)) (omega (arith, deep')))

  -- the parts of a struct, one level further down, take the scalars of their types
  pub struct_scalars : (t : TExpr) → IsPlainType t → is_struct_class (class_of p t) ≡ true → scalars_of p t ≡ flat_map (scalars_of p) (instance_kinds_of p t)
  struct_scalars t plain_t is =
      let h = struct_is p t plain_t is in
      let one : positions_of t ≡ 1 = ap positions_of h.is ∙ positions_of-node (head.Class h.number) [] in
      ap (λ (k : ℕ). scalars_within p (most_trees * k) t) one
      ∙ opened p 8191 t is
      ∙ flat_alike (λ part. scalars_within p 8191 part) (scalars_of p) (instance_kinds_of p t)
      (λ x has.
      let part = part_of t h x has in
      let some = some_positions x in
      let far : 8191 ≤ most_trees * positions_of x = omega (arith, some) in
      part_same t x 8191 (most_trees * positions_of x) part (λ step. settled t h 8191 (most_trees * positions_of x) (t ∷ []) x (refl, (h, step)) part.plain_type (omega arith) (omega arith) (omega (arith, far))))

  -- a box of a value has the scalars of the value
  pub boxed_same : (t : TExpr) → IsPlainType t → is_value p t ≡ true → instance_scalars_of p t ≡ scalars_of p t
  boxed_same t plain_t value = by_top (top_of t) refl
    where
      scalar_alone : (top : TNode TExpr) → top_of t ≡ top → class_in_top top ≡ None → scalars_of p t ≡ scalar_of t ∷ []
      scalar_alone top at none = alone_word p (most_trees * positions_of t) t (ap (λ o. is_struct_class (option_and_then (λ k. slice_get p.classes k) o)) (ap class_in_top at ∙ none))

      by_top : (top : TNode TExpr) → top_of t ≡ top → instance_scalars_top p t top ≡ scalars_of p t
      by_top (Node head.Int32 parts) at = sym (scalar_alone (Node head.Int32 parts) at refl ∙ ap (λ z. scalar_in_top t z ∷ []) at)
      by_top (Node head.Int64 parts) at = sym (scalar_alone (Node head.Int64 parts) at refl ∙ ap (λ z. scalar_in_top t z ∷ []) at)
      by_top (Node head.Bool parts) at = sym (scalar_alone (Node head.Bool parts) at refl ∙ ap (λ z. scalar_in_top t z ∷ []) at)
      by_top (Node head.Vector parts) at = absurd (let q : is_value_top p t (Node head.Vector parts) ≡ true = ap (is_value_top p t) (sym at) ∙ value in cc q)
      by_top (Node (head.Class number) parts) at = sym (struct_scalars t plain_t (ap (is_value_top p t) (sym at) ∙ value))
      by_top (ClassVar n) at = absurd (let q : is_value_top p t (ClassVar n) ≡ true = ap (is_value_top p t) (sym at) ∙ value in cc q)
      by_top (MethodVar n) at = absurd (let q : is_value_top p t (MethodVar n) ≡ true = ap (is_value_top p t) (sym at) ∙ value in cc q)
