-- The methods that `callvirt` names: the exact type of each object that passes has one in the slot, with the signature that is named.
use Rattle.std.proofs.Common.{◌≡◌, ◌⊎◌, inl, inr, ℕ, zero, suc, ◌+◌, ◌<◌, ◌==◌, ◌&&◌, ◌||◌, Bool, true, false, not, List, [], ◌∷◌, ◌++◌, length, Option, Some, None, refl, sym, ap, ◌∙◌, subst, arith, eqb-true, eq-eqb, length-append, lt-ltb}
use Rattle.std.specs.Prelude.{map, flat_map, position, take, slice_get, nat_lt, is_some, unwrap_or, option_map, option_and_then, codes, if◌then◌else◌}
use Rattle.std.specs.List.{list_any, list_all, position_or_len}
use Rattle.std.proofs.lemmas.Bool.{and_parts}
use Rattle.std.proofs.lemmas.List.{append-nil, length-map}
use Rattle.std.proofs.lemmas.List.Sums.{sum_by-cons}
use Rattle.std.proofs.lemmas.Option.{slice_get_within, slice_get-map}
use Rattle.type_tree.specs.declared.tree.TExpr.{TExpr}
use Rattle.type_tree.specs.declared.tree.TNode.TheVariants.{Node}
use Rattle.type_tree.specs.declared.tree.Head.TheVariants as head
use Rattle.type_tree.specs.Tree.{top_of, node}
use Rattle.type_tree.specs.Same.{is_same}
use Rattle.type_tree.proofs.TreeLemmas.{top_of-tree_of}
use Rattle.type_tree.proofs.SameLemmas.{is_same-Decides}
use Rattle.il_model.specs.declared.program.Program.{Program}
use Rattle.il_model.specs.declared.class.ClassKind.{ClassKind}
use Rattle.il_model.specs.declared.class.ClassKind.TheVariants as kind
use Rattle.il_model.specs.declared.class.ClassDef.{ClassDef}
use Rattle.il_model.specs.declared.layout.MethodTree.{MethodTree}
use Rattle.il_model.specs.declared.method.Shape.{Shape}
use Rattle.il_model.specs.declared.method.Shape.TheVariants as shape
use Rattle.il_model.specs.declared.method.PType.{PType}
use Rattle.il_model.specs.declared.method.PType.TheVariants as ptype
use Rattle.il_model.specs.declared.method.MethodDef.{MethodDef}
use Rattle.il_model.specs.declared.member.MRef.{MRef}
use Rattle.il_model.specs.Find.{class_number_of, class_of, takes_object}
use Rattle.il_model.specs.Found.{method_at, is_named_in}
use Rattle.il_model.specs.Kinds.{is_reference, is_struct_kind, is_struct_class, is_value}
use Rattle.il_model.specs.Library.{plain, library_class, constructor_of}
use Rattle.il_model.specs.Entries.{has_slot}
use Rattle.il_model.specs.Bases.{with_args_of, own_of, definition_of, bases_of}
use Rattle.il_model.specs.Interfaces.{interfaces_of}
use Rattle.il_model.specs.Signatures.{Signature, signature_at}
use Rattle.il_model.specs.Slots.{methods_in, own_methods_of, candidates, nearest_match, slot_taken, method_of, method_tree_at, virtual_slots_of, is_interface_kind, is_interface_class, is_interface, places_of, match_of_method, match_of_place, standing, place_holds, definition_slots, slots_of, method_count, implementation_of}
use Rattle.il_model.specs.Trees.{trees_in}
use Rattle.il_model.specs.Assignable.{is_object, element_of}
use Rattle.il_model.specs.Admission.{has_count, has_count_in, has_count_top}
use Rattle.il_model.specs.ClassRules.{is_base_kind, may_be_base, is_abstract_shape, is_abstract_method, is_abstract_slot, has_objects, is_complete, HasImplementations, meets_own_bounds}
use Rattle.interaction.specs.Process.{Naming}
use Rattle.type_inst.proofs.ListLemmas.{Has, among_of_has}
use Rattle.rgctx_fill.proofs.PartLemmas.{trees_in-node}
use Rattle.rgctx_fill.proofs.WholeLists.{item_holds, found_holds}
use Rattle.rgctx_fill.proofs.WholeTypes.{NamesClass, class_named}
use Rattle.rgctx_fill.proofs.TextLeaves.{got_left, got_right}
use Rattle.cil_verify.specs.Places.{view_of}
use Rattle.cil_verify.specs.Fits.{is_struct}
use Rattle.cil_verify.specs.Members.{params_at, result_at}
use Rattle.cil_meaning.specs.Naming.{Mention, put_type}
use Rattle.cil_meaning.specs.Site.{Site}
use Rattle.cil_meaning.specs.Types.{object_place, put_place, arguments_with, passes_as}
use Rattle.cil_meaning.specs.Calls.{slot_by, slot_found}
use Rattle.cil_safety.proofs.Fit.{has_objects_in, may_be_exact_top, IsExact, IsInstance}
use Rattle.cil_safety.proofs.Laws.{BeginsAlone}
use Rattle.cil_safety.proofs.Edges.{none_any}
use Rattle.cil_verify.specs.Forms.{is_generic}
use Rattle.cil_safety.proofs.BoxForms.{IsBoxed}
use Rattle.cil_safety.proofs.SlotForms.{places_called_on, SlotCallee, IsSlotted}
use Rattle.cil_safety.proofs.PlainTypes.{plain_is, number_plain, class_of_plain}
use Rattle.cil_safety.proofs.Built.{IsPlainMethodRef}
use Rattle.cil_safety.proofs.Signatures.{signature_of}
use Rattle.cil_safety.proofs.Instances.{IsAccepted, own_plain, HasCode, code_there, bare_tree, put_any, begins_alone}
use Rattle.cil_safety.proofs.NamesMembers.{map_same, option_same, IsFoundMethod, class_is_plain, params_at_same, result_at_same, struct_same, put_here, put_places_here, put_place_any, callee_named}
use Rattle.cil_safety.proofs.NamesClasses.{reference_kind, no_method_of_string}
use Rattle.cil_safety.proofs.Uppers.{Assigns, IsOfClass, of_class, class_is, Based, itself, upward, Met, to_base, to_object, to_interface, vectors, based_of, has_interface, base_may_be, base_has, base_class}
use Rattle.cil_safety.proofs.Passing.{reference_class, value_class, element_class, base_reference, above_base, met_class, passes_of, passes_as_of, passes_class, string_passes, reference_no_value}
use Rattle.cil_safety.proofs.WordsSettled.{HasStructs, boxed_same}
use Rattle.cil_safety.proofs.Slots.{Among, all_among, signature_here, signatures, IsStanding, HasSignature, IsVirtual, Stands, args_same, signature_plain, tree_made, tree_same, based_plain, IsNearest, nearest_is, definition_same, slots_of_class, slots_above}

-- ---- lists

-- the first item that passes, where some item of the front does
record FirstPlace {A : Type 0} (test : A → Bool) (xs ys : List A) : Type 0 where
  place : ℕ
  item : A
  inside : slice_get xs place ≡ Some item
  passes : test item ≡ true
  first : position_or_len test (xs ++ ys) ≡ place

first_place : {A : Type 0} (test : A → Bool) (xs ys : List A) (q : ℕ) (x : A) → slice_get xs q ≡ Some x → test x ≡ true → FirstPlace test xs ys
first_place test [] ys q x is e = absurd (cc is)
first_place test (y ∷ xs) ys q x is e = by_test (λ r is'. first_place test xs ys r x is' e) (test y) refl q is
  where
    by_test : ((r : ℕ) → slice_get xs r ≡ Some x → FirstPlace test xs ys) → (b : Bool) → test y ≡ b → (q : ℕ) → slice_get (y ∷ xs) q ≡ Some x → FirstPlace test (y ∷ xs) ys
    by_test go true t q' is' = record { place = 0; item = y; inside = refl; passes = t; first = rw t refl }
    by_test go false t zero is' = let z : y ≡ x = cc is' in let w : test x ≡ false = subst (λ i. test i ≡ false) z t in absurd (cc (w, e))
    by_test go false t (suc r) is' = let h = go r is' in record { place = suc h.place; item = h.item; inside = h.inside; passes = h.passes; first = rw t (omega (arith, h.first)) }

place_found : {A : Type 0} (test : A → Bool) (xs ys : List A) (f : FirstPlace test xs ys) → position test (xs ++ ys) ≡ Some f.place
place_found test xs ys f =
    let lt : f.place < length xs = slice_get_within xs f.place f.item f.inside in
    let in_all : nat_lt f.place (length (xs ++ ys)) ≡ true = lt-ltb f.place (length (xs ++ ys)) (omega (arith, lt, length-append xs ys)) in
    ap (λ z. if nat_lt z (length (xs ++ ys)) then Some z else None) f.first ∙ ap (λ b. if b then Some f.place else None) in_all

-- what a map of a list has at a place
unmapped : {A B : Type 0} (f : A → B) (xs : List A) (k : ℕ) (b : B) → slice_get (map f xs) k ≡ Some b → (x : A) × (slice_get xs k ≡ Some x) × (f x ≡ b)
unmapped f [] k b e = absurd (cc e)
unmapped f (x ∷ xs) zero b e = (x, refl, (let q : f x ≡ b = cc e in q))
unmapped f (x ∷ xs) (suc k) b e = unmapped f xs k b e

among_at : (xs : List ℕ) (n : ℕ) → Among xs n → (k : ℕ) × (slice_get xs k ≡ Some n)
among_at [] n h = absurd h
among_at (x ∷ xs) n h = elim h [ inl e ↦ (0, ap Some e) | inr r ↦ let k = among_at xs n r in (suc k.0, k.1) ]

has_at : (xs : List TExpr) (t : TExpr) → Has xs t → (k : ℕ) × (slice_get xs k ≡ Some t)
has_at [] t h = absurd h
has_at (x ∷ xs) t h = elim h [ inl e ↦ (0, ap Some e) | inr r ↦ let k = has_at xs t r in (suc k.0, k.1) ]

-- ---- shapes

slot_takes : (s : Shape) → has_slot s ≡ true → takes_object s ≡ true
slot_takes shape.Fixed e = absurd (cc e)
slot_takes shape.Instance e = absurd (cc e)
slot_takes shape.Virtual e = refl
slot_takes shape.NewSlot e = refl
slot_takes shape.Abstract e = refl

no_slot_no_abstract : (s : Shape) → has_slot s ≡ false → is_abstract_shape s ≡ false
no_slot_no_abstract shape.Fixed e = refl
no_slot_no_abstract shape.Instance e = refl
no_slot_no_abstract shape.Virtual e = absurd (cc e)
no_slot_no_abstract shape.NewSlot e = absurd (cc e)
no_slot_no_abstract shape.Abstract e = absurd (cc e)

objects_no_interface : (k : ClassKind) → has_objects k ≡ true → is_interface_kind k ≡ false
objects_no_interface kind.Plain e = refl
objects_no_interface kind.Abstract e = refl
objects_no_interface kind.Interface e = absurd (cc e)
objects_no_interface kind.Struct e = refl
objects_no_interface kind.Delegate e = absurd (cc e)

not_true : (b : Bool) → not b ≡ true → b ≡ false
not_true true e = absurd (cc e)
not_true false e = refl

module _ (p : Program) (ok : IsAccepted p) where
  structs : HasStructs p
  structs = record { built = ok.built; classes = ok.classes; layout = record { each = λ number c is. (ok.typed.first.each number c is).1.0 } }

  -- ---- exact types of classes

  -- objects are of just a class without arguments that has objects
  pub record IsExactClass (e : TExpr) : Type 0 where
    pub number : ℕ
    pub class : ClassDef
    pub is : e ≡ plain number
    pub there : slice_get p.classes number ≡ Some class
    pub objects : has_objects class.kind ≡ true
    pub no_string : (number == 1) ≡ false

  pub exact_class_is : (e : TExpr) → IsExact p e → (c : ClassDef) → class_of p e ≡ Some c → IsExactClass e
  exact_class_is e x c at =
      let o : IsOfClass p e c = of_class p e c at in
      let n : NamesClass e o.number = class_named e o.number o.named in
      let top : top_of e ≡ Node (head.Class o.number) n.parts = ap top_of n.is ∙ top_of-tree_of (Node (head.Class o.number) n.parts) in
      let met : list_all (meets_own_bounds p (record { of_class = []; of_method = [] })) (node (head.Class o.number) n.parts ∷ flat_map trees_in n.parts) ≡ true =
      ap (list_all (meets_own_bounds p (record { of_class = []; of_method = [] }))) (sym (ap trees_in n.is ∙ trees_in-node (head.Class o.number) n.parts)) ∙ x.bounds in
      let own = (and_parts (meets_own_bounds p (record { of_class = []; of_method = [] }) (node (head.Class o.number) n.parts)) (list_all (meets_own_bounds p (record { of_class = []; of_method = [] })) (flat_map trees_in n.parts)) met).0 in
      let count : has_count p (node (head.Class o.number) n.parts) ≡ true = (and_parts (has_count p (node (head.Class o.number) n.parts)) _ own).0 in
      let counted : (length n.parts == length c.vars) ≡ true = ap (λ d. has_count_in d n.parts) (sym o.is) ∙ ap (has_count_top p) (sym (top_of-tree_of (Node (head.Class o.number) n.parts))) ∙ count in
      let none : length n.parts ≡ 0 = eqb-true (length n.parts) (length c.vars) counted ∙ ap length (ok.built.classes o.number c o.is).vars in
      let both : (has_objects_in p (class_of p e) && not (o.number == 1)) ≡ true = ap (may_be_exact_top p e) (sym top) ∙ x.objects in
      let parts = and_parts (has_objects_in p (class_of p e)) (not (o.number == 1)) both in
      record {
        number = o.number;
        class = c;
        is = n.is ∙ ap (node (head.Class o.number)) (empty n.parts none);
        there = o.is;
        objects = ap (has_objects_in p) (sym at) ∙ parts.0;
        no_string = not_true (o.number == 1) parts.1;
      }
    where
      empty : (ts : List TExpr) → length ts ≡ 0 → ts ≡ []
      empty [] z = refl
      empty (t ∷ ts) z = absurd (omega (arith, z))

  -- the slots of a class without arguments are those of its definition
  pub slots_plain : (k : ℕ) → slots_of p (plain k) ≡ definition_slots p (plain k)
  slots_plain k =
      map_same (method_tree_at (plain k)) (definition_slots p (definition_of p (plain k))) (tree_same k)
      ∙ ap (definition_slots p) (definition_same p ok ok.classes k)

  pub implementations : (number : ℕ) (c : ClassDef) → slice_get p.classes number ≡ Some c → HasImplementations p number c
  implementations number c is = (ok.typed.later.each number c is).1.0

  -- no method in a slot of a class that has objects is abstract
  complete : (e : TExpr) (x : IsExactClass e) (z : ℕ) (m : MethodTree) → slice_get (virtual_slots_of p (plain x.number)).stands z ≡ Some m → is_abstract_slot p m ≡ false
  complete e x z m at =
      let c : is_complete p (own_of p x.number) ≡ true = subst (λ b. (not b || is_complete p (own_of p x.number)) ≡ true) x.objects (implementations x.number x.class x.there).complete in
      let d : is_complete p (plain x.number) ≡ true = subst (λ t. is_complete p t ≡ true) (own_plain p ok x.number) c in
      none_any (is_abstract_slot p) (virtual_slots_of p (plain x.number)).stands z m (not_true (list_any (is_abstract_slot p) (virtual_slots_of p (plain x.number)).stands) d) at

  module _ (r : MRef) (d : MethodDef) (f : IsFoundMethod p ok r d) (named : IsPlainMethodRef r) (n : Naming Mention TExpr) (s : Site) (i : IsInstance p n s.frame.method s.definition) where
    class_here : put_type s.frame.method r.class ≡ plain d.owner
    class_here = put_here p ok r d f named n s i r.class ∙ class_is_plain p ok r d f named

    own_methods : own_methods_of p (plain d.owner) ≡ f.class.methods
    own_methods = ap methods_in (class_of_plain p d.owner ∙ f.class_is)

    listed : Among (own_methods_of p (plain d.owner)) f.number
    listed = subst (λ ns. Among ns f.number) (sym own_methods) (found_holds (Among f.class.methods) (λ j. is_named_in r (method_at p j)) f.class.methods f.number (all_among f.class.methods) f.listed).0

    virtual : has_slot d.shape ≡ true → IsVirtual p f.number
    virtual slots = record { definition = d; there = f.there; slotted = slots }

    -- what stands in a slot that a call is led to
    record IsLed (e : TExpr) (x : IsExactClass e) (slot : ℕ) : Type 0 where
      method : MethodTree
      there : slice_get (slots_of p e) slot ≡ Some method
      place : ℕ
      stands : slice_get (virtual_slots_of p (plain x.number)).stands place ≡ Some method
      signature : signature_here p method ≡ Some (signature_of d)

    -- such a method can be called
    led_callee : (e : TExpr) (exact : IsExact p e) (x : IsExactClass e) (slot : ℕ) → slot_found p e (put_type s.frame.method r.class) f.number ≡ Some slot → IsLed e x slot → SlotCallee p n s r f.number e
    led_callee e exact x slot found l =
        let st : IsStanding p (plain x.number) l.method = item_holds (IsStanding p (plain x.number)) (virtual_slots_of p (plain x.number)).stands l.place l.method (slots_of_class p ok ok.classes x.number).slotted.standing l.stands in
        let no_abstract : is_abstract_shape st.definition.shape ≡ false = ap is_abstract_method (sym st.there) ∙ complete e x l.place l.method l.stands in
        let code : HasCode p ok st.definition = code_there p ok l.method.method st.definition st.there no_abstract in
        let bare : bare_tree p ok l.method.method st.definition ≡ l.method = ap (λ z. tree_made l.method.method z []) (sym st.class) ∙ ap (tree_made l.method.method l.method.class) (sym st.args) in
        let begins : BeginsAlone p n l.method st.definition = subst (λ z. BeginsAlone p n z st.definition) bare (begins_alone p ok n l.method.method st.definition st.there code) in
        let same : signature_of st.definition ≡ signature_of d = (let q : Some (signature_of st.definition) ≡ Some (signature_of d) = sym (ap (λ o. option_map signature_of o) st.there) ∙ l.signature in cc q) in
        let params : st.definition.params ≡ r.params = ap (λ (z : Signature). z.params) same ∙ f.params in
        let result : st.definition.result ≡ r.result = ap (λ (z : Signature). z.gives) same ∙ f.result in
        let put : (t : PType) → put_place l.method t ≡ t = put_place_any p ok r d f named n s i l.method st.definition begins.instance in
        let put_t : (t : TExpr) → put_type l.method t ≡ t = put_any p ok n l.method st.definition begins.instance in
        let above : Based p e l.method.class = subst (λ z. Based p z l.method.class) (sym x.is) st.above in
        record {
          slot = slot;
          found = found;
          method = l.method;
          there = l.there;
          definition = st.definition;
          body = code.body;
          has = code.has;
          begins = begins;
          places_are =
              ap (λ b. arguments_with b (object_place p l.method.class) (map (put_place l.method) st.definition.params)) (slot_takes st.definition.shape st.slotted)
              ∙ ap (λ zs. object_place p l.method.class ∷ zs) (map_same (put_place l.method) st.definition.params put ∙ params ∙ sym (put_places_here p ok r d f named n s i (params_at r) ∙ params_at_same p ok r d f named));
          result_is = option_same (put_type l.method) st.definition.result put_t ∙ result ∙ sym (option_same (put_type s.frame.method) (result_at r) (put_here p ok r d f named n s i) ∙ result_at_same p ok r d f named);
          by_box = λ v. boxed_here e exact x l.method.class above v;
          by_reference = λ v. (reference_here l.method st v, passes_as_of p ok.classes e l.method.class (inl (to_base above)));
          text = λ t. absurd (let q : plain x.number ≡ plain 1 = sym x.is ∙ t in let w : x.number ≡ 1 = (let u : Some x.number ≡ Some 1 = sym (number_plain x.number) ∙ ap class_number_of q ∙ number_plain 1 in cc u) in let y : (x.number == 1) ≡ true = eq-eqb x.number 1 w in cc (y, x.no_string));
        }
      where
        boxed_here : (e : TExpr) → IsExact p e → IsExactClass e → (t : TExpr) → Based p e t → is_value p t ≡ true → (t ≡ e) × IsBoxed p e
        boxed_here e exact x t itself v = (
          refl,
          record {
            exact = exact;
            no_vector = element_class p e x.class (ap (class_of p) x.is ∙ class_of_plain p x.number ∙ x.there);
            same = boxed_same p structs e (subst (λ z. is_generic z ≡ false) (sym x.is) (plain_is x.number)) v;
          },
        )
        boxed_here e exact x t (upward {b = b} is g) v =
            let base : (c : ClassDef) × (class_of p t ≡ Some c) × (is_base_kind c.kind ≡ true) = base_class p ok.classes t (above_base p ok.classes (base_may_be p ok.classes e b is) g) in
            let reference : is_reference p t ≡ true = reference_class p t base.0 base.1 ∙ base_reference p base.0.kind base.2 in
            let no' : is_value p t ≡ false = reference_no_value p t reference in
            absurd (cc (no', v))

        reference_here : (m : MethodTree) → (st : IsStanding p (plain x.number) m) → is_value p m.class ≡ false → is_reference p m.class ≡ true
        reference_here m st v =
            let scoped = ok.scoped.methods m.method st.definition st.there in
            let at : class_of p m.class ≡ Some scoped.class = ap (class_of p) st.class ∙ class_of_plain p st.definition.owner ∙ scoped.class_is in
            let no_struct : is_struct_kind scoped.class.kind ≡ false = sym (value_class p m.class scoped.class at) ∙ v in
            reference_class p m.class scoped.class at ∙ reference_kind scoped.class.kind no_struct

    -- ---- classes

    in_class : (e : TExpr) (x : IsExactClass e) → has_slot d.shape ≡ true → Based p (plain x.number) (plain d.owner) → (slot : ℕ) × (slot_by p false e (plain d.owner) f.number ≡ Some slot) × IsLed e x slot
    in_class e x slots based = (
      first.place,
      found,
      record {
        method = un.0;
        there = ap (λ t. slice_get (slots_of p t) first.place) x.is ∙ ap (λ ms. slice_get ms first.place) (slots_plain x.number) ∙ got_left (virtual_slots_of p (plain x.number)).stands (map (place_holds p (plain x.number) (virtual_slots_of p (plain x.number))) (places_of p (plain x.number))) first.place un.0 un.1;
        place = first.place;
        stands = un.1;
        signature = un.2;
      },
    )
      where
        stands : Stands p (virtual_slots_of p (plain d.owner)) f.number
        stands = (slots_of_class p ok ok.classes d.owner).own f.number listed (virtual slots)

        first : FirstPlace (λ (m : MethodTree). m.method == f.number) (virtual_slots_of p (plain d.owner)).stands (map (place_holds p (plain d.owner) (virtual_slots_of p (plain d.owner))) (places_of p (plain d.owner)))
        first = first_place (λ (m : MethodTree). m.method == f.number) (virtual_slots_of p (plain d.owner)).stands (map (place_holds p (plain d.owner) (virtual_slots_of p (plain d.owner))) (places_of p (plain d.owner))) stands.slot stands.method stands.is (eq-eqb stands.method.method f.number stands.number)

        found : slot_by p false e (plain d.owner) f.number ≡ Some first.place
        found = ap (position (λ (m : MethodTree). m.method == f.number)) (slots_plain d.owner) ∙ place_found (λ (m : MethodTree). m.method == f.number) (virtual_slots_of p (plain d.owner)).stands (map (place_holds p (plain d.owner) (virtual_slots_of p (plain d.owner))) (places_of p (plain d.owner))) first

        signed : signature_here p first.item ≡ Some (signature_of d)
        signed = ap (λ k. option_map signature_of (method_at p k)) (eqb-true first.item.method f.number first.passes) ∙ ap (λ o. option_map signature_of o) f.there

        in_owner : slice_get (signatures p (virtual_slots_of p (plain d.owner))) first.place ≡ Some (Some (signature_of d))
        in_owner = slice_get-map (signature_here p) (virtual_slots_of p (plain d.owner)).stands first.place ∙ ap (λ o. option_map (signature_here p) o) first.inside ∙ ap Some signed

        below : (rest : List (Option Signature)) × (signatures p (virtual_slots_of p (plain x.number)) ≡ signatures p (virtual_slots_of p (plain d.owner)) ++ rest)
        below = slots_above p ok ok.classes (plain x.number) (plain d.owner) based x.number refl

        un : (m : MethodTree) × (slice_get (virtual_slots_of p (plain x.number)).stands first.place ≡ Some m) × (signature_here p m ≡ Some (signature_of d))
        un = unmapped (signature_here p) (virtual_slots_of p (plain x.number)).stands first.place (Some (signature_of d)) (ap (λ gs. slice_get gs first.place) below.1 ∙ got_left (signatures p (virtual_slots_of p (plain d.owner))) below.0 first.place (Some (signature_of d)) in_owner)

    -- ---- interfaces

    abbrev candidate_of : TExpr → ℕ → TExpr × ℕ
    candidate_of t number = (t, number)

    candidate_at : (ts : List TExpr) (q ordinal : ℕ) (t : TExpr) (number : ℕ) → slice_get ts q ≡ Some t → slice_get (own_methods_of p t) ordinal ≡ Some number → slice_get (candidates p ts) (method_count p (take q ts) + ordinal) ≡ Some (t, number)
    candidate_at [] q ordinal t number is at = absurd (cc is)
    candidate_at (y ∷ ts) zero ordinal t number is at =
        let same : y ≡ t = cc is in
        let e : 0 + ordinal ≡ ordinal = omega arith in
        ap (slice_get (map (candidate_of y) (own_methods_of p y) ++ candidates p ts)) e
        ∙ got_left (map (candidate_of y) (own_methods_of p y)) (candidates p ts) ordinal (t, number)
        (slice_get-map (candidate_of y) (own_methods_of p y) ordinal ∙ subst (λ z. option_map (candidate_of y) (slice_get (own_methods_of p y) ordinal) ≡ Some (z, number)) same (ap (λ o. option_map (candidate_of y) o) (ap (λ z. slice_get (own_methods_of p z) ordinal) same ∙ at)))
    candidate_at (y ∷ ts) (suc q) ordinal t number is at =
        let one : length (map (candidate_of y) (own_methods_of p y)) ≡ length (own_methods_of p y) = length-map (own_methods_of p y) (candidate_of y) in
        let sums : method_count p (y ∷ take q ts) ≡ length (own_methods_of p y) + method_count p (take q ts) = sum_by-cons (λ z. length (own_methods_of p z)) y (take q ts) in
        let e : method_count p (y ∷ take q ts) + ordinal ≡ length (map (candidate_of y) (own_methods_of p y)) + (method_count p (take q ts) + ordinal) = omega (arith, one, sums) in
        ap (slice_get (map (candidate_of y) (own_methods_of p y) ++ candidates p ts)) e
        ∙ got_right (map (candidate_of y) (own_methods_of p y)) (candidates p ts) (method_count p (take q ts) + ordinal)
        ∙ candidate_at ts q ordinal t number is at

    all_at : {A : Type 0} (test' : A → Bool) (xs : List A) (k : ℕ) (y : A) → list_all test' xs ≡ true → slice_get xs k ≡ Some y → test' y ≡ true
    all_at test' [] k y all is = absurd (cc is)
    all_at test' (z ∷ zs) zero y all is = let q : z ≡ y = cc is in subst (λ w. test' w ≡ true) q (and_parts (test' z) (list_all test' zs) all).0
    all_at test' (z ∷ zs) (suc k) y all is = all_at test' zs k y (and_parts (test' z) (list_all test' zs) all).1 is

    module _ (e : TExpr) (x : IsExactClass e) (slots : has_slot d.shape ≡ true) (met : Met p (plain x.number) (plain d.owner)) where
      class_is_here : class_of p (plain x.number) ≡ Some x.class
      class_is_here = class_of_plain p x.number ∙ x.there

      no_interface_here : is_interface p (plain x.number) ≡ false
      no_interface_here = ap is_interface_class class_is_here ∙ objects_no_interface x.class.kind x.objects

      ordinal_first : FirstPlace (λ own. own == f.number) (own_methods_of p (plain d.owner)) []
      ordinal_first = let k = among_at (own_methods_of p (plain d.owner)) f.number listed in first_place (λ own. own == f.number) (own_methods_of p (plain d.owner)) [] k.0 f.number k.1 (eq-eqb f.number f.number refl)

      ordinal_found : position (λ own. own == f.number) (own_methods_of p (plain d.owner)) ≡ Some ordinal_first.place
      ordinal_found = ap (position (λ own. own == f.number)) (sym (append-nil (own_methods_of p (plain d.owner)))) ∙ place_found (λ own. own == f.number) (own_methods_of p (plain d.owner)) [] ordinal_first

      interface_first : FirstPlace (λ each. is_same (with_args_of (plain x.number) each) (plain d.owner)) (interfaces_of p (plain x.number)) []
      interface_first =
          let k = has_at (interfaces_of p (plain x.number)) (plain d.owner) (has_interface p ok.classes (plain x.number) (plain d.owner) met) in
          first_place (λ each. is_same (with_args_of (plain x.number) each) (plain d.owner)) (interfaces_of p (plain x.number)) [] k.0 (plain d.owner) k.1 ((is_same-Decides (with_args_of (plain x.number) (plain d.owner)) (plain d.owner)).1 (args_same x.number (plain d.owner)))

      interface_found : position (λ each. is_same (with_args_of (plain x.number) each) (plain d.owner)) (interfaces_of p (plain x.number)) ≡ Some interface_first.place
      interface_found = ap (position (λ each. is_same (with_args_of (plain x.number) each) (plain d.owner))) (sym (append-nil (interfaces_of p (plain x.number)))) ∙ place_found (λ each. is_same (with_args_of (plain x.number) each) (plain d.owner)) (interfaces_of p (plain x.number)) [] interface_first

      interface_item : interface_first.item ≡ plain d.owner
      interface_item = sym (args_same x.number interface_first.item) ∙ (is_same-Decides (with_args_of (plain x.number) interface_first.item) (plain d.owner)).0 interface_first.passes

      abbrev in_places : ℕ
      in_places = method_count p (take interface_first.place (interfaces_of p (plain x.number))) + ordinal_first.place

      implemented : implementation_of p (plain x.number) (plain d.owner) ordinal_first.place ≡ Some (length (virtual_slots_of p (plain x.number)).stands + (method_count p (take interface_first.place (interfaces_of p (plain x.number))) + ordinal_first.place))
      implemented =
          ap (λ t. option_map (λ k. length (virtual_slots_of p t).stands + (method_count p (take k (interfaces_of p t)) + ordinal_first.place)) (position (λ each. is_same (with_args_of (plain x.number) each) (plain d.owner)) (interfaces_of p t))) (definition_same p ok ok.classes x.number)
          ∙ ap (λ o. option_map (λ k. length (virtual_slots_of p (plain x.number)).stands + (method_count p (take k (interfaces_of p (plain x.number))) + ordinal_first.place)) o) interface_found

      place_is : slice_get (places_of p (plain x.number)) in_places ≡ Some (plain d.owner, f.number)
      place_is =
          candidate_at (interfaces_of p (plain x.number)) interface_first.place ordinal_first.place (plain d.owner) f.number (interface_first.inside ∙ ap Some interface_item)
          (ordinal_first.inside ∙ ap Some (eqb-true ordinal_first.item f.number ordinal_first.passes))

      -- the method of the interface finds one
      matched : (c : TExpr × ℕ) × (nearest_match p (signature_at (plain d.owner) d) (bases_of p (plain x.number)) ≡ Some c)
      matched =
          let all : list_all (λ place. is_some (match_of_place p (own_of p x.number) place)) (places_of p (own_of p x.number)) ≡ true =
          subst (λ b. (b || list_all (λ place. is_some (match_of_place p (own_of p x.number) place)) (places_of p (own_of p x.number))) ≡ true) (objects_no_interface x.class.kind x.objects) (implementations x.number x.class x.there).found in
          let all' : list_all (λ place. is_some (match_of_place p (plain x.number) place)) (places_of p (plain x.number)) ≡ true =
          subst (λ t. list_all (λ place. is_some (match_of_place p t place)) (places_of p t) ≡ true) (own_plain p ok x.number) all in
          let one : is_some (match_of_place p (plain x.number) (plain d.owner, f.number)) ≡ true = all_at (λ place. is_some (match_of_place p (plain x.number) place)) (places_of p (plain x.number)) in_places (plain d.owner, f.number) all' place_is in
          some_there (nearest_match p (signature_at (plain d.owner) d) (bases_of p (plain x.number))) (subst (λ o. is_some (match_of_method p (plain x.number) (plain d.owner) o) ≡ true) f.there one)
        where
          some_there : {A : Type 0} (o : Option A) → is_some o ≡ true → (a : A) × (o ≡ Some a)
          some_there None z = absurd (cc z)
          some_there (Some a) z = (a, refl)

      near : IsNearest p ok ok.classes (signature_at (plain d.owner) d) (bases_of p (plain x.number)) matched.0
      near = nearest_is p ok ok.classes (signature_at (plain d.owner) d) (bases_of p (plain x.number)) matched.0 matched.1

      near_based : Based p (plain x.number) matched.0.0
      near_based = based_of p (plain x.number) matched.0.0 (among_of_has (bases_of p (plain x.number)) matched.0.0 near.type)

      near_signature : signature_of near.virtual.definition ≡ signature_of d
      near_signature =
          let j = based_plain p ok ok.classes (plain x.number) matched.0.0 near_based x.number refl in
          sym (signature_plain j.0 near.virtual.definition) ∙ ap (λ t. signature_at t near.virtual.definition) (sym j.1) ∙ sym near.same ∙ signature_plain d.owner d

      taken : (z : ℕ) × (slot_taken (virtual_slots_of p (plain x.number)) matched.0.1 ≡ Some z)
      taken = (slots_of_class p ok ok.classes x.number).taken matched.0.0 matched.0.1 near_based near.own near.virtual

      taken_signature : HasSignature p (signatures p (virtual_slots_of p (plain x.number))) matched.0.1 taken.0
      taken_signature = (slots_of_class p ok ok.classes x.number).slotted.taken matched.0.1 taken.0 taken.1

      implementer : (m : MethodTree) × (slice_get (virtual_slots_of p (plain x.number)).stands taken.0 ≡ Some m) × (signature_here p m ≡ Some (signature_of d))
      implementer =
          let same : taken_signature.definition ≡ near.virtual.definition = (let q : Some taken_signature.definition ≡ Some near.virtual.definition = sym taken_signature.there ∙ near.virtual.there in cc q) in
          unmapped (signature_here p) (virtual_slots_of p (plain x.number)).stands taken.0 (Some (signature_of d)) (taken_signature.at ∙ ap (λ z. Some (Some z)) (ap signature_of same ∙ near_signature))

      held : place_holds p (plain x.number) (virtual_slots_of p (plain x.number)) (plain d.owner, f.number) ≡ implementer.0
      held =
          ap (λ b. if b then method_of (plain d.owner) f.number else unwrap_or (standing (virtual_slots_of p (plain x.number)) (match_of_place p (plain x.number) (plain d.owner, f.number))) (method_of (plain d.owner) f.number)) no_interface_here
          ∙ ap (λ o. unwrap_or (standing (virtual_slots_of p (plain x.number)) (match_of_method p (plain x.number) (plain d.owner) o)) (method_of (plain d.owner) f.number)) f.there
          ∙ ap (λ o. unwrap_or (standing (virtual_slots_of p (plain x.number)) o) (method_of (plain d.owner) f.number)) matched.1
          ∙ ap (λ o. unwrap_or (option_and_then (λ slot. slice_get (virtual_slots_of p (plain x.number)).stands slot) o) (method_of (plain d.owner) f.number)) taken.1
          ∙ ap (λ o. unwrap_or o (method_of (plain d.owner) f.number)) implementer.1

      in_interface : (slot : ℕ) × (slot_by p true e (plain d.owner) f.number ≡ Some slot) × IsLed e x slot
      in_interface = (
        length (virtual_slots_of p (plain x.number)).stands + in_places,
        ap (λ t. slot_by p true t (plain d.owner) f.number) x.is ∙ ap (λ o. option_and_then (λ ordinal. implementation_of p (plain x.number) (plain d.owner) ordinal) o) ordinal_found ∙ implemented,
        record {
          method = implementer.0;
          there =
              ap (λ t. slice_get (slots_of p t) (length (virtual_slots_of p (plain x.number)).stands + in_places)) x.is
              ∙ ap (λ ms. slice_get ms (length (virtual_slots_of p (plain x.number)).stands + in_places)) (slots_plain x.number)
              ∙ got_right (virtual_slots_of p (plain x.number)).stands (map (place_holds p (plain x.number) (virtual_slots_of p (plain x.number))) (places_of p (plain x.number))) in_places
              ∙ slice_get-map (place_holds p (plain x.number) (virtual_slots_of p (plain x.number))) (places_of p (plain x.number)) in_places
              ∙ ap (λ o. option_map (place_holds p (plain x.number) (virtual_slots_of p (plain x.number))) o) place_is
              ∙ ap Some held;
          place = taken.0;
          stands = implementer.1;
          signature = implementer.2;
        },
      )

    -- ---- `callvirt`

    same_number : (a b : ℕ) → plain a ≡ plain b → a ≡ b
    same_number a b e = let q : Some a ≡ Some b = sym (number_plain a) ∙ ap class_number_of e ∙ number_plain b in cc q

    -- `object` has no method with a slot
    no_object : has_slot d.shape ≡ true → d.owner ≡ 0 → ⊥
    no_object slots zero' =
        let object : slice_get p.classes 0 ≡ Some (library_class (codes "object") kind.Plain None (1 ∷ [])) = ap (λ cs. slice_get cs 0) ok.leaves.classes in
        let class : f.class ≡ library_class (codes "object") kind.Plain None (1 ∷ []) = (let at : slice_get p.classes 0 ≡ Some f.class = subst (λ z. slice_get p.classes z ≡ Some f.class) zero' f.class_is in cc (at, object)) in
        let in_list : Among (1 ∷ []) f.number = subst (λ ns. Among ns f.number) (own_methods ∙ ap (λ (c : ClassDef). c.methods) class) listed in
        let first : slice_get p.methods 1 ≡ Some (constructor_of 0) = ap (λ ms. slice_get ms 1) ok.leaves.methods in
        elim in_list [
          | inl e ↦
              let there : slice_get p.methods 1 ≡ Some d = subst (λ z. slice_get p.methods z ≡ Some d) (sym e) f.there in
              let q : d ≡ constructor_of 0 = cc (there, first) in
              let no' : has_slot d.shape ≡ false = ap (λ (m : MethodDef). has_slot m.shape) q in
              cc (no', slots)
          | inr none ↦ none
        ]

    class_named_is : class_of p (plain d.owner) ≡ Some f.class
    class_named_is = class_of_plain p d.owner ∙ f.class_is

    led_by : (e : TExpr) (x : IsExactClass e) (b : Bool) → is_interface_kind f.class.kind ≡ b → (slot : ℕ) × (slot_by p b e (plain d.owner) f.number ≡ Some slot) × IsLed e x slot → IsExact p e → SlotCallee p n s r f.number e
    led_by e x b is l exact =
        led_callee e exact x l.0 (ap (λ t. slot_found p e t f.number) class_here ∙ ap (λ z. slot_by p z e (plain d.owner) f.number) (ap is_interface_class class_named_is ∙ is) ∙ l.1) l.2

    of_class_object : (e : TExpr) → IsExact p e → has_slot d.shape ≡ true → is_interface_kind f.class.kind ≡ false → passes_as p e (plain d.owner) ≡ true → SlotCallee p n s r f.number e
    of_class_object e exact slots kind_is pass = by_way e (plain d.owner) based refl exact
      where
        no_object_type : is_object (plain d.owner) ≡ false
        no_object_type = by_test (is_object (plain d.owner)) refl
          where
            by_test : (b : Bool) → is_object (plain d.owner) ≡ b → b ≡ false
            by_test false t = refl
            by_test true t = absurd (no_object slots (same_number d.owner 0 ((is_same-Decides (plain d.owner) (plain 0)).0 t)))

        based : Based p e (plain d.owner)
        based = passes_class p ok.classes e (plain d.owner) f.class class_named_is kind_is no_object_type pass

        by_way : (t u : TExpr) → Based p t u → u ≡ plain d.owner → IsExact p t → SlotCallee p n s r f.number t
        by_way t u itself is ex =
            let x : IsExactClass t = exact_class_is t ex f.class (ap (class_of p) is ∙ class_named_is) in
            led_by t x false kind_is (in_class t x slots (subst (λ z. Based p z (plain d.owner)) x.is (subst (λ z. Based p t z) is itself))) ex
        by_way t u (upward at g) is ex =
            let c = base_has p ok.classes t _ at in
            let x : IsExactClass t = exact_class_is t ex c.0 (class_is p t c.0 c.1) in
            led_by t x false kind_is (in_class t x slots (subst (λ z. Based p z (plain d.owner)) x.is (subst (λ z. Based p t z) is (upward at g)))) ex

    of_interface_object : (e : TExpr) → IsExact p e → has_slot d.shape ≡ true → is_interface_kind f.class.kind ≡ true → passes_as p e (plain d.owner) ≡ true → SlotCallee p n s r f.number e
    of_interface_object e exact slots kind_is pass = elim (passes_of p ok.classes e (plain d.owner) pass) [ inl a ↦ by_assigned e (plain d.owner) a refl exact | inr v ↦ absurd (no_object slots (same_number d.owner 0 v.1)) ]
      where
        no_base : (t : TExpr) → may_be_base p t ≡ true → t ≡ plain d.owner → ⊥
        no_base t may is =
            let c = base_class p ok.classes t may in
            let same : c.0 ≡ f.class = (let q : class_of p t ≡ Some f.class = ap (class_of p) is ∙ class_named_is in cc (q, c.1)) in
            let no' : is_interface_kind f.class.kind ≡ false = subst (λ (z : ClassDef). is_interface_kind z.kind ≡ false) same (base_no_interface c.0.kind c.2) in
            cc (no', kind_is)
          where
            base_no_interface : (k : ClassKind) → is_base_kind k ≡ true → is_interface_kind k ≡ false
            base_no_interface kind.Plain z = refl
            base_no_interface kind.Abstract z = refl
            base_no_interface kind.Interface z = absurd (cc z)
            base_no_interface kind.Struct z = absurd (cc z)
            base_no_interface kind.Delegate z = absurd (cc z)

        by_assigned : (t u : TExpr) → Assigns p t u → u ≡ plain d.owner → IsExact p t → SlotCallee p n s r f.number t
        by_assigned t u (to_base itself) is ex =
            let x : IsExactClass t = exact_class_is t ex f.class (ap (class_of p) is ∙ class_named_is) in
            let same : x.class ≡ f.class = (let q : class_of p t ≡ Some f.class = ap (class_of p) is ∙ class_named_is in let w : class_of p t ≡ Some x.class = ap (class_of p) x.is ∙ class_of_plain p x.number ∙ x.there in cc (q, w)) in
            let no' : is_interface_kind f.class.kind ≡ false = subst (λ (z : ClassDef). is_interface_kind z.kind ≡ false) same (objects_no_interface x.class.kind x.objects) in
            absurd (cc (no', kind_is))
        by_assigned t u (to_base (upward {b = b} at g)) is ex = absurd (no_base u (above_base p ok.classes (base_may_be p ok.classes t b at) g) is)
        by_assigned t u (to_object ref z) is ex = absurd (no_object slots (same_number d.owner 0 (sym is ∙ z)))
        by_assigned t u (to_interface met) is ex =
            let c = met_class p ok.classes met in
            let x : IsExactClass t = exact_class_is t ex c.0 c.1 in
            led_by t x true kind_is (in_interface t x slots (subst (λ z. Met p z (plain d.owner)) x.is (subst (λ z. Met p t z) is met))) ex
        by_assigned t u (vectors {b = b} ea eb ra rb h) is ex =
            let none : element_of u ≡ None = element_class p u f.class (ap (class_of p) is ∙ class_named_is) in
            absurd (cc (none, eb))

    callee_at : has_slot d.shape ≡ true → (e : TExpr) → (IsExact p e) ⊎ (e ≡ plain 1) → passes_as p e (put_type s.frame.method r.class) ≡ true → SlotCallee p n s r f.number e
    callee_at slots e way pass = by_way way (subst (λ t. passes_as p e t ≡ true) class_here pass)
      where
        by_kind : IsExact p e → passes_as p e (plain d.owner) ≡ true → (b : Bool) → is_interface_kind f.class.kind ≡ b → SlotCallee p n s r f.number e
        by_kind exact pass' true is = of_interface_object e exact slots is pass'
        by_kind exact pass' false is = of_class_object e exact slots is pass'

        by_way : (IsExact p e) ⊎ (e ≡ plain 1) → passes_as p e (plain d.owner) ≡ true → SlotCallee p n s r f.number e
        by_way (inl exact) pass' = by_kind exact pass' (is_interface_kind f.class.kind) refl
        by_way (inr text) pass' = elim (string_passes p ok.classes (plain d.owner) (subst (λ t. passes_as p t (plain d.owner) ≡ true) text pass')) [
          | inl one ↦
              let no' : (d.owner == 1) ≡ false = no_method_of_string p ok r f.number d.owner f.class f.class_is f.listed in
              let yes' : (d.owner == 1) ≡ true = eq-eqb d.owner 1 (same_number d.owner 1 one) in
              absurd (cc (no', yes'))
          | inr zero' ↦ absurd (no_object slots (same_number d.owner 0 zero'))
        ]

    -- the class of a `callvirt` is no struct, and its method takes an object
    pub slotted_named : takes_object d.shape ≡ true → is_struct (view_of p s.definition) r.class ≡ false → IsSlotted p n s r
    slotted_named takes no_struct = record {
      number = f.number;
      definition = d;
      found = f.found;
      there = f.there;
      count = ap length (f.params ∙ sym (params_at_same p ok r d f named));
      no_struct = no_struct;
      reference = subst (λ t. is_reference p t ≡ true) (sym class_here) (reference_class p (plain d.owner) f.class class_named_is ∙ reference_kind f.class.kind no_struct_kind);
      direct = λ no'. callee_named p ok r d f named n s i (code_there p ok f.number d f.there (no_slot_no_abstract d.shape no')) (places_called_on r)
          (ap (λ b. arguments_with b (object_place p r.class) r.params) takes
          ∙ ap (λ b. (if b then ptype.Pointer r.class else ptype.Value r.class) ∷ r.params) (struct_same p ok r d f named ∙ no_struct)
          ∙ ap (λ zs. ptype.Value r.class ∷ zs) (sym (params_at_same p ok r d f named)));
      slotted = callee_at;
    }
      where
        no_struct_kind : is_struct_kind f.class.kind ≡ false
        no_struct_kind = ap is_struct_class (sym (ap (class_of p) (class_is_plain p ok r d f named) ∙ class_named_is)) ∙ no_struct
