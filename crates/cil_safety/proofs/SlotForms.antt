-- `callvirt`: the method in a slot of the exact type, or the one that is named.
use Rattle.std.proofs.Common.{◌≡◌, ◌⊎◌, inl, inr, ℕ, suc, ◌+◌, List, [], ◌∷◌, ◌++◌, length, Bool, true, false, Option, Some, None, refl, sym, ap, ◌∙◌, subst, arith}
use Rattle.std.proofs.lemmas.List.{reverse-append}
use Rattle.std.specs.Prelude.{if◌then◌else◌, map, reverse, option_map, slice_get}
use Rattle.type_tree.specs.declared.tree.TExpr.{TExpr}
use Rattle.il_model.specs.declared.program.Program.{Program}
use Rattle.il_model.specs.declared.member.MRef.{MRef}
use Rattle.il_model.specs.declared.method.PType.{PType}
use Rattle.il_model.specs.declared.method.PType.TheVariants as ptype
use Rattle.il_model.specs.declared.method.Body.{Body}
use Rattle.il_model.specs.declared.method.MethodDef.{MethodDef}
use Rattle.il_model.specs.declared.layout.MethodTree.{MethodTree}
use Rattle.il_model.specs.Found.{method_at, method_found}
use Rattle.il_model.specs.Entries.{has_slot}
use Rattle.il_model.specs.Kinds.{is_reference, is_value}
use Rattle.il_model.specs.Library.{plain}
use Rattle.il_model.specs.Methods.{limit_of_method}
use Rattle.il_model.specs.Slots.{slots_of}
use Rattle.interaction.specs.Process.{Naming, Settle}
use Rattle.store_object.specs.declared.place.Place.TheVariants as at
use Rattle.store_object.specs.Store.{Store}
use Rattle.store_object.specs.Growth.{Grows}
use Rattle.store_object.proofs.StoreLaws.{grows_self}
use Rattle.cil_flow.specs.declared.state.StackType.{StackType}
use Rattle.cil_verify.specs.Places.{View, view_of}
use Rattle.cil_verify.specs.Fits.{fits_place, is_struct}
use Rattle.cil_verify.specs.Members.{params_at, result_at}
use Rattle.cil_verify.specs.Admits.{Operands, take_one, take_places, after_call, is_called_on, push_all}
use Rattle.cil_meaning.specs.Values.{InObject, Value, Plain, Managed}
use Rattle.cil_meaning.specs.Values as kind
use Rattle.cil_meaning.specs.Naming.{Mention, OfSlot, IsNaming, put_type}
use Rattle.cil_meaning.specs.Frames.{Result}
use Rattle.cil_meaning.specs.Types.{argument_places, object_place, put_place, passes_as}
use Rattle.cil_meaning.specs.Mentions.{settles_slot}
use Rattle.cil_meaning.specs.Search.{null_reference}
use Rattle.cil_meaning.specs.Site.{Site, throws}
use Rattle.cil_meaning.specs.Pieces.{given, pops, takes, as_reference, types, spells}
use Rattle.cil_meaning.specs.Groups.{CallsSlot}
use Rattle.cil_meaning.specs.Calls.{callee_here, calls, slot_found, object_for, calls_slot, calls_reference, on_call}
use Rattle.cil_safety.proofs.Sorts.{Ref, Sort, Words, To, scalars_of, sorts_of}
use Rattle.cil_safety.proofs.Fit.{Spans, Holds, WideSort, IsExact, ObjectOf, RefTo, object, string, ValueFits, ValuesFit, GoesOn, result_of, result_sorts, scalar_at}
use Rattle.cil_safety.proofs.Words.{object_later, ref_later, value_wide, values_later}
use Rattle.cil_safety.proofs.Types.{reference_sort, wide_self}
use Rattle.cil_safety.proofs.Pieces.{HasHandlers, as_is, Sits, Runs, sits_later, where_given, reference_popped, null_or, within_fits, spelled}
use Rattle.cil_safety.proofs.PlaceForms.{FitsPlaces}
use Rattle.cil_safety.proofs.CallPieces.{IntoPlaces, inside_is, calls_fit}
use Rattle.cil_safety.proofs.Laws.{BeginsAlone}
use Rattle.cil_safety.proofs.Straight.{HasFaults}
use Rattle.cil_safety.proofs.CallForms.{IsCallee, take_more, pointwise_places, arguments_fit, result_goes}
use Rattle.cil_safety.proofs.References.{Passes, ref_refers, types_fit}
use Rattle.cil_safety.proofs.ObjectForms.{into_reference, fault_later}
use Rattle.cil_safety.proofs.ObjectWords.{object_spans}
use Rattle.cil_safety.proofs.BoxForms.{IsBoxed}

-- the places that a `callvirt` is judged by: a reference, then what is named
abbrev pub places_called_on : MRef → List PType
places_called_on r = ptype.Value r.class ∷ params_at r

one_called_on : (v : View) (r : MRef) (go : Operands → Option Operands) (os : Operands) → is_struct v r.class ≡ false → take_one (is_called_on v r) go os ≡ take_places v (ptype.Value r.class ∷ []) go os
one_called_on v r go [] e = refl
one_called_on v r go (a ∷ os) e = ap (λ b. if (if b then false else fits_place v (ptype.Value r.class) a) then go os else None) e

slot_row : (v : View) (r : MRef) (go : Operands → Option Operands) (os : Operands) → is_struct v r.class ≡ false → after_call v r (take_one (is_called_on v r) go) os ≡ take_places v (reverse (places_called_on r)) go os
slot_row v r go os e =
    pointwise_places v (reverse (params_at r)) (take_one (is_called_on v r) go) (take_places v (ptype.Value r.class ∷ []) go) os (λ os'. one_called_on v r go os' e)
    ∙ sym (take_more v (reverse (params_at r)) (ptype.Value r.class ∷ []) go os)
    ∙ ap (λ z. take_places v z go os) (sym (reverse-append (ptype.Value r.class ∷ []) (params_at r)))

-- the method in the slot of an exact type that a call goes to
pub record SlotCallee (p : Program) (n : Naming Mention TExpr) (s : Site) (r : MRef) (number : ℕ) (e : TExpr) : Type 0 where
  pub slot : ℕ
  pub found : slot_found p e (put_type s.frame.method r.class) number ≡ Some slot
  pub method : MethodTree
  pub there : slice_get (slots_of p e) slot ≡ Some method
  pub definition : MethodDef
  pub body : Body
  pub has : definition.body ≡ Some body
  pub begins : BeginsAlone p n method definition
  pub places_are : argument_places p method definition ≡ object_place p method.class ∷ map (put_place s.frame.method) (params_at r)
  pub result_is : result_of p n method definition ≡ option_map (put_type s.frame.method) (result_at r)
  pub by_box : is_value p method.class ≡ true → (method.class ≡ e) × IsBoxed p e
  pub by_reference : is_value p method.class ≡ false → (is_reference p method.class ≡ true) × (passes_as p e method.class ≡ true)
  pub text : e ≡ plain 1 → is_value p method.class ≡ false

-- what is known of a method that a `callvirt` names
pub record IsSlotted (p : Program) (n : Naming Mention TExpr) (s : Site) (r : MRef) : Type 0 where
  pub number : ℕ
  pub definition : MethodDef
  pub found : method_found p r ≡ Some number
  pub there : method_at p number ≡ Some definition
  pub count : length definition.params ≡ length (params_at r)
  pub no_struct : is_struct (view_of p s.definition) r.class ≡ false
  pub reference : is_reference p (put_type s.frame.method r.class) ≡ true
  pub direct : has_slot definition.shape ≡ false → IsCallee p n s r (places_called_on r) (result_at r)
  pub slotted : has_slot definition.shape ≡ true → (e : TExpr) → (IsExact p e) ⊎ (e ≡ plain 1) → passes_as p e (put_type s.frame.method r.class) ≡ true → SlotCallee p n s r number e

module _ (p : Program) (n : Naming Mention TExpr) (names : IsNaming n) (handlers : HasHandlers p n) (faults : HasFaults p) where
  module _ (u : ℕ) (x : Store) (s : Site) (h : Holds) (hs : List Holds) (c : Sits p n names x s h hs) (well : FitsPlaces p s.definition s.frame.method) where
    abbrev pub Fit : List StackType → List Value → Type 0
    Fit os vs = ValuesFit p n x (h ∷ hs) (sorts_of p s.frame.method os) vs

    abbrev pub Goes : List StackType → Type 0
    Goes os = GoesOn p n s.frame.method s.definition (suc s.frame.at) (sorts_of p s.frame.method os)

    abbrev pub Behind : MRef → List StackType → Type 0
    Behind r os = GoesOn p n s.frame.method s.definition (suc s.frame.at) (result_sorts p n (option_map (put_type s.frame.method) (result_at r)) ++ sorts_of p s.frame.method os)

    -- the method in a slot is called on an object, or on the words of its box
    slot_fits : (r : MRef) (number : ℕ) (y : Store) (e : TExpr) (w : ℕ) (k : SlotCallee p n s r number e) (ss : List Sort) (others rest : List Value) (os : List StackType) → Grows x y → RefTo p n y (put_type s.frame.method r.class) w → ((is_value p k.method.class ≡ true) → ObjectOf p n y e w) → ((is_value p k.method.class ≡ false) → RefTo p n y k.method.class w) →
        IntoPlaces p n names ss (map (put_place s.frame.method) (params_at r)) → ValuesFit p n x (h ∷ hs) ss others → Fit os rest → Behind r os → Runs p n names u y (given (slot_found p e (put_type s.frame.method r.class) number) (λ slot. calls_slot p s e slot (λ m. object_for (is_value p m.class) w) others rest))
    slot_fits r number y e w k ss others rest os gr to boxed referred into fo fr behind =
        where_given p n names u y (slot_found p e (put_type s.frame.method r.class) number) k.slot (λ slot. calls_slot p s e slot (λ m. object_for (is_value p m.class) w) others rest) k.found
        (where_given p n names u y (slice_get (slots_of p e) k.slot) k.method (λ m. settles_slot p e k.slot m (calls p s m (object_for (is_value p m.class) w ∷ others) rest Result [])) k.there
        (within_fits p n names u y (limit_of_method p k.method) (Settle (OfSlot e k.slot) (λ v. calls p s k.method (object_for (is_value p k.method.class) w ∷ others) rest Result [])) (λ l v is. by_value (is_value p k.method.class) refl)))
      where
        c' : Sits p n names y s h hs
        c' = sits_later p n names x y s h hs gr c

        places : (b : Bool) → is_value p k.method.class ≡ b → argument_places p k.method k.definition ≡ (if b then ptype.Pointer k.method.class else ptype.Value k.method.class) ∷ map (put_place s.frame.method) (params_at r)
        places b is = k.places_are ∙ ap (λ z. (if z then ptype.Pointer k.method.class else ptype.Value k.method.class) ∷ map (put_place s.frame.method) (params_at r)) is

        called : (sort : Sort) (v : Value) → IntoPlaces p n names (sort ∷ ss) (argument_places p k.method k.definition) → ValueFits p n y (h ∷ hs) sort v → Runs p n names u y (calls p s k.method (v ∷ others) rest Result [])
        called sort v into' fv =
            calls_fit p n names u y s h hs c' k.method k.definition k.body (sort ∷ ss) (v ∷ others) (sorts_of p s.frame.method os) rest Result [] [] (result_sorts p n (option_map (put_type s.frame.method) (result_at r))) k.begins k.has into'
            (subst (λ z. ValuesFit p n y (z ∷ hs) (sort ∷ ss) (v ∷ others)) (sym (inside_is p n names u y s h hs c')) (fv, values_later p n x y (h ∷ hs) ss others gr fo))
            (values_later p n x y (h ∷ hs) (sorts_of p s.frame.method os) rest gr fr) tt (refl, sym (ap (result_sorts p n) k.result_is)) behind

        by_value : (b : Bool) → is_value p k.method.class ≡ b → Runs p n names u y (calls p s k.method (object_for b w ∷ others) rest Result [])
        by_value true is =
            let own = k.by_box is in
            let spans : Spans (λ j. scalar_at p n y (at.Object w j)) 0 (scalars_of p e) = subst (λ z. Spans (λ j. scalar_at p n y (at.Object w j)) 0 z) own.1.same (object_spans p n y e w (boxed is) own.1.no_vector) in
            let spans' : Spans (λ j. scalar_at p n y (at.Object w j)) 0 (scalars_of p k.method.class) = subst (λ z. Spans (λ j. scalar_at p n y (at.Object w j)) 0 (scalars_of p z)) (sym own.0) spans in
            called (To (scalars_of p k.method.class)) (Managed (InObject w 0)) (subst (λ z. IntoPlaces p n names (To (scalars_of p k.method.class) ∷ ss) z) (sym (places true is)) (refl, into)) spans'
        by_value false is =
            let own = k.by_reference is in
            called (Words kind.Reference (Ref k.method.class ∷ [])) (Plain kind.Reference (w ∷ [])) (subst (λ z. IntoPlaces p n names (Words kind.Reference (Ref k.method.class ∷ []) ∷ ss) z) (sym (places false is)) (as_is (subst (λ z. WideSort p (Words kind.Reference (Ref k.method.class ∷ [])) z) (sym (reference_sort p k.method.class own.0)) (wide_self p (Words kind.Reference (Ref k.method.class ∷ [])))), into)) (refl, (referred is, tt))

    -- with the object's reference at hand
    called_on : (r : MRef) (k : IsSlotted p n s r) (w : ℕ) (ss : List Sort) (others rest : List Value) (os : List StackType) → RefTo p n x (put_type s.frame.method r.class) w → IntoPlaces p n names ss (map (put_place s.frame.method) (params_at r)) → ValuesFit p n x (h ∷ hs) ss others → Fit os rest → Behind r os → (b : Bool) → has_slot k.definition.shape ≡ b → Runs p n names u x (calls_reference p s b r k.number w others rest)
    called_on r k w ss others rest os to into fo fr behind true is =
        null_or p n names u x w (throws p s null_reference) (types p w (λ e. spells e (λ exact. given (slot_found p exact class k.number) (λ slot. calls_slot p s exact slot (λ m. object_for (is_value p m.class) w) others rest)))) (fault_later p n names handlers faults u x s h hs c x null_reference faults.null_reference (grows_self x)) (λ some.
        types_fit p n names u x (Passes p n class) w (λ e. spells e (λ exact. given (slot_found p exact class k.number) (λ slot. calls_slot p s exact slot (λ m. object_for (is_value p m.class) w) others rest))) (ref_refers p n x class w to) some
        (λ y e o gr pass.
        let o' : ObjectOf p n y e w = object_later p n gr o in
        let f : SlotCallee p n s r k.number e = k.slotted is e (inl o.exact) pass in
        spelled p n names u y o.shape.kind e (λ exact. given (slot_found p exact class k.number) (λ slot. calls_slot p s exact slot (λ m. object_for (is_value p m.class) w) others rest)) o.tree
        (slot_fits r k.number y e w f ss others rest os gr (ref_later p n gr to) (λ v. o') (λ v. object e o' (f.by_reference v).1) into fo fr behind))
        (λ text pass.
        let f : SlotCallee p n s r k.number (plain 1) = k.slotted is (plain 1) (inr refl) pass in
        slot_fits r k.number x (plain 1) w f ss others rest os (grows_self x) to (λ v. absurd (let no' : is_value p f.method.class ≡ false = f.text refl in cc (v, no'))) (λ v. string text (f.by_reference v).1) into fo fr behind))
      where
        class : TExpr
        class = put_type s.frame.method r.class
    called_on r k w ss others rest os to into fo fr behind false is =
        let f : IsCallee p n s r (places_called_on r) (result_at r) = k.direct is in
        let same' : k.number ≡ f.number = cc (k.found, f.found) in
        null_or p n names u x w (throws p s null_reference) (calls p s (callee_here p s r k.number) (Plain kind.Reference (w ∷ []) ∷ others) rest Result []) (fault_later p n names handlers faults u x s h hs c x null_reference faults.null_reference (grows_self x)) (λ some.
        subst (λ z. Runs p n names u x (calls p s (callee_here p s r z) (Plain kind.Reference (w ∷ []) ∷ others) rest Result [])) (sym same')
        (calls_fit p n names u x s h hs c (callee_here p s r f.number) f.definition f.body (Words kind.Reference (Ref (put_type s.frame.method r.class) ∷ []) ∷ ss) (Plain kind.Reference (w ∷ []) ∷ others) (sorts_of p s.frame.method os) rest Result [] [] (result_sorts p n (option_map (put_type s.frame.method) (result_at r))) f.begins f.has
        (subst (λ z. IntoPlaces p n names (Words kind.Reference (Ref (put_type s.frame.method r.class) ∷ []) ∷ ss) z) (sym f.places_are) (as_is (subst (λ z. WideSort p (Words kind.Reference (Ref (put_type s.frame.method r.class) ∷ [])) z) (sym (reference_sort p (put_type s.frame.method r.class) k.reference)) (wide_self p (Words kind.Reference (Ref (put_type s.frame.method r.class) ∷ [])))), into))
        (subst (λ z. ValuesFit p n x (z ∷ hs) (Words kind.Reference (Ref (put_type s.frame.method r.class) ∷ []) ∷ ss) (Plain kind.Reference (w ∷ []) ∷ others)) (sym (inside_is p n names u x s h hs c)) ((refl, (to, tt)), fo)) fr tt (refl, sym (ap (result_sorts p n) f.result_is)) behind))

    pub callvirt_row : (numbers : List ℕ) (r : MRef) → IsSlotted p n s r → (os out : Operands) (vs : List Value) → after_call (view_of p s.definition) r (take_one (is_called_on (view_of p s.definition) r) (push_all (result_at r))) os ≡ Some out → Fit os vs → Goes out → Runs p n names u x (on_call p s numbers (CallsSlot r) vs)
    callvirt_row numbers r k os out vs e fit g =
        where_given p n names u x (method_found p r) k.number (λ number. given (method_at p number) (λ d. takes (length d.params + 1) vs [] (λ arguments rest. pops arguments (λ object others. as_reference object (λ w. calls_reference p s (has_slot d.shape) r number w others rest))))) k.found
        (where_given p n names u x (method_at p k.number) k.definition (λ d. takes (length d.params + 1) vs [] (λ arguments rest. pops arguments (λ object others. as_reference object (λ w. calls_reference p s (has_slot d.shape) r k.number w others rest)))) k.there
        (arguments_fit p n names u x s h hs c well (places_called_on r) (push_all (result_at r)) os out vs (length k.definition.params + 1) (λ arguments rest. pops arguments (λ object others. as_reference object (λ w. calls_reference p s (has_slot k.definition.shape) r k.number w others rest))) (let z : length k.definition.params ≡ length (params_at r) = k.count in omega (arith, z)) (sym (slot_row (view_of p s.definition) r (push_all (result_at r)) os k.no_struct) ∙ e) fit
        (λ os' ss arguments rest into fa e' fr. by_arguments os' ss arguments rest into fa (result_goes p n names u x s h hs c well (result_at r) os' out e' g) fr)))
      where
        by_arguments : (os' : List StackType) (ss : List Sort) (arguments rest : List Value) → IntoPlaces p n names ss (map (put_place s.frame.method) (places_called_on r)) → ValuesFit p n x (h ∷ hs) ss arguments → Behind r os' → Fit os' rest → Runs p n names u x (pops arguments (λ object others. as_reference object (λ w. calls_reference p s (has_slot k.definition.shape) r k.number w others rest)))
        by_arguments os' [] arguments rest into fa behind fr = absurd into
        by_arguments os' (t ∷ ss) [] rest into fa behind fr = absurd fa
        by_arguments os' (t ∷ ss) (v ∷ others) rest into fa behind fr =
            reference_popped p n names u x (h ∷ hs) (Ref (put_type s.frame.method r.class)) v (λ w. calls_reference p s (has_slot k.definition.shape) r k.number w others rest) (value_wide p n x (h ∷ hs) t (Words kind.Reference (Ref (put_type s.frame.method r.class) ∷ [])) v (into_reference p t (put_type s.frame.method r.class) k.reference into.0) fa.0) (λ w fw.
            called_on r k w ss others rest os' fw into.1 fa.1 fr behind (has_slot k.definition.shape) refl)
