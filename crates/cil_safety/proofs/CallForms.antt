-- `call` and `newobj`: operands go into the places of the callee, and what is left goes on behind the call.
use Rattle.std.proofs.Common.{◌≡◌, ℕ, zero, suc, List, [], ◌∷◌, ◌++◌, length, eq-eqb, Bool, true, false, Option, Some, None, refl, sym, ap, ◌∙◌, subst, arith}
use Rattle.std.proofs.lemmas.List.{reverse-append, reverse-reverse, length-reverse, length-map, append_assoc}
use Rattle.std.specs.Prelude.{◌==◌, if◌then◌else◌, flat_map, option_to_list, map, reverse, replicate, option_map, slice_get}
use Rattle.type_tree.specs.declared.tree.TExpr.{TExpr}
use Rattle.il_model.specs.declared.program.Program.{Program}
use Rattle.il_model.specs.declared.member.MRef.{MRef}
use Rattle.il_model.specs.declared.method.PType.{PType}
use Rattle.il_model.specs.declared.method.PType.TheVariants as ptype
use Rattle.il_model.specs.declared.method.Body.{Body}
use Rattle.il_model.specs.declared.method.MethodDef.{MethodDef}
use Rattle.il_model.specs.declared.layout.MethodTree.{MethodTree}
use Rattle.il_model.specs.Found.{method_at, method_found}
use Rattle.il_model.specs.declared.entry.Entry.{Entry}
use Rattle.il_model.specs.declared.entry.Entry.TheVariants as entry
use Rattle.il_model.specs.Entries.{new_entries, new_entries_at}
use Rattle.il_model.specs.Methods.{limit_of_entry}
use Rattle.il_model.specs.Assignable.{element_of}
use Rattle.il_model.specs.Kinds.{is_reference, is_value}
use Rattle.il_model.specs.Layouts.{words_of, instance_words_of}
use Rattle.interaction.specs.Process.{Naming, Ask}
use Rattle.store_object.specs.declared.request.Request.TheVariants as ask
use Rattle.store_object.specs.Store.{Store}
use Rattle.cil_flow.specs.declared.state.StackType.{StackType}
use Rattle.cil_verify.specs.Places.{View, view_of, stack_of}
use Rattle.cil_verify.specs.Fits.{fits_place, is_struct, is_object_of}
use Rattle.cil_verify.specs.Members.{params_at, result_at}
use Rattle.cil_verify.specs.Admits.{Operands, take_one, take_places, take_object, after_call, push_all, push}
use Rattle.cil_meaning.specs.Values.{Kind, InFresh, Value, Plain, Managed}
use Rattle.cil_meaning.specs.Values as kind
use Rattle.cil_meaning.specs.Naming.{Mention, OfEntry, IsNaming, put_type, put_entry}
use Rattle.cil_meaning.specs.Frames.{Result, Object, Built}
use Rattle.cil_meaning.specs.Types.{kind_of, argument_places, object_place, put_place, passes_as}
use Rattle.cil_meaning.specs.Replies.{Left, on_object}
use Rattle.cil_meaning.specs.Site.{Site, level_of}
use Rattle.cil_meaning.specs.Pieces.{given, takes}
use Rattle.cil_meaning.specs.Groups.{Calls, Creates}
use Rattle.cil_meaning.specs.Calls.{callee_here, calls, creates, on_call}
use Rattle.cil_safety.proofs.Sorts.{Scalar, Ref, Sort, Words, To, scalars_of, value_sort, sort_of, sorts_of}
use Rattle.cil_safety.proofs.Fit.{Holds, building, holds_at, WideSort, IsExact, size_by, RefTo, object, ValuesFit, GoesOn, result_of, result_sorts}
use Rattle.cil_safety.proofs.Words.{zeros_fit, values_later}
use Rattle.cil_safety.proofs.Requests.{alloc}
use Rattle.cil_safety.proofs.Types.{reference_sort, stands, wide_self, wide_sorts_self}
use Rattle.cil_safety.proofs.Edges.{wide_sorts_then}
use Rattle.cil_safety.proofs.Pieces.{length-scalars_of, IntoPlace, as_is, Settled, Sits, Runs, sits_later, where_given}
use Rattle.cil_safety.proofs.PlaceForms.{lies_whole, waits_length, FitsPlaces}
use Rattle.cil_safety.proofs.CallPieces.{IntoPlaces, values_building, inside_is, calls_fit}
use Rattle.cil_safety.proofs.Laws.{BeginsAlone}

-- the places that a named method's arguments are judged by, the object first
abbrev pub object_written : View → MRef → PType
object_written v r = if is_struct v r.class then ptype.Pointer r.class else ptype.Value r.class

abbrev pub arguments_written : View → MRef → List PType
arguments_written v r = if r.instance then (object_written v r ∷ params_at r) else params_at r

-- ---- the row, as one list of places

pub take_more : (v : View) (xs ys : List PType) (go : Operands → Option Operands) (os : Operands) → take_places v (xs ++ ys) go os ≡ take_places v xs (take_places v ys go) os
take_more v [] ys go os = refl
take_more v (x ∷ xs) ys go [] = refl
take_more v (x ∷ xs) ys go (a ∷ os) = ap (λ z. if fits_place v x a then z else None) (take_more v xs ys go os)

same_object : (v : View) (r : MRef) (a : StackType) → is_object_of v r.class a ≡ fits_place v (object_written v r) a
same_object v r a = by_test (is_struct v r.class) refl
  where
    by_test : (b : Bool) → is_struct v r.class ≡ b → is_object_of v r.class a ≡ fits_place v (if b then ptype.Pointer r.class else ptype.Value r.class) a
    by_test true e = rw e refl
    by_test false e = rw e refl

one_object : (v : View) (r : MRef) (go : Operands → Option Operands) (os : Operands) → take_one (is_object_of v r.class) go os ≡ take_places v (object_written v r ∷ []) go os
one_object v r go [] = refl
one_object v r go (a ∷ os) = ap (λ b. if b then go os else None) (same_object v r a)

pub pointwise_places : (v : View) (xs : List PType) (f g : Operands → Option Operands) (os : Operands) → ((os : Operands) → f os ≡ g os) → take_places v xs f os ≡ take_places v xs g os
pointwise_places v [] f g os e = e os
pointwise_places v (x ∷ xs) f g [] e = refl
pointwise_places v (x ∷ xs) f g (a ∷ os) e = ap (λ z. if fits_place v x a then z else None) (pointwise_places v xs f g os e)

pub row_is : (v : View) (r : MRef) (go : Operands → Option Operands) (os : Operands) → after_call v r (take_object v r go) os ≡ take_places v (reverse (arguments_written v r)) go os
row_is v r go os = by_test r.instance refl
  where
    by_test : (b : Bool) → r.instance ≡ b → after_call v r (take_object v r go) os ≡ take_places v (reverse (if b then (object_written v r ∷ params_at r) else params_at r)) go os
    by_test true e =
        pointwise_places v (reverse (params_at r)) (take_object v r go) (take_places v (object_written v r ∷ []) go) os (λ os'. ap (λ b. if b then take_one (is_object_of v r.class) go os' else go os') e ∙ one_object v r go os')
        ∙ sym (take_more v (reverse (params_at r)) (object_written v r ∷ []) go os)
        ∙ ap (λ z. take_places v z go os) (sym (reverse-append (object_written v r ∷ []) (params_at r)))
    by_test false e = pointwise_places v (reverse (params_at r)) (take_object v r go) go os (λ os'. ap (λ b. if b then take_one (is_object_of v r.class) go os' else go os') e)

-- what is known of the method that an instruction of an instantiated method names: it is there, it has a body that begins, and its
-- places and result are those that are named
pub record IsCallee (p : Program) (n : Naming Mention TExpr) (s : Site) (r : MRef) (places : List PType) (result : Option TExpr) : Type 0 where
  pub number : ℕ
  pub definition : MethodDef
  pub body : Body
  pub found : method_found p r ≡ Some number
  pub there : method_at p number ≡ Some definition
  pub has : definition.body ≡ Some body
  pub begins : BeginsAlone p n (callee_here p s r number) definition
  pub places_are : argument_places p (callee_here p s r number) definition ≡ map (put_place s.frame.method) places
  pub result_is : result_of p n (callee_here p s r number) definition ≡ option_map (put_type s.frame.method) result

-- the same of a constructor, whose class is a struct or has objects
pub record IsConstructor (p : Program) (n : Naming Mention TExpr) (s : Site) (r : MRef) : Type 0 where
  pub number : ℕ
  pub definition : MethodDef
  pub body : Body
  pub found : method_found p r ≡ Some number
  pub there : method_at p number ≡ Some definition
  pub has : definition.body ≡ Some body
  pub begins : BeginsAlone p n (callee_here p s r number) definition
  pub count : length definition.params ≡ length (params_at r)
  pub places_are : argument_places p (callee_here p s r number) definition ≡ object_place p (put_type s.frame.method r.class) ∷ map (put_place s.frame.method) (params_at r)
  pub struct_is : is_value p (put_type s.frame.method r.class) ≡ true → kind_of p (put_type s.frame.method r.class) ≡ kind.Struct
  pub reference_is : is_value p (put_type s.frame.method r.class) ≡ false → is_reference p (put_type s.frame.method r.class) ≡ true
  pub exact : is_value p (put_type s.frame.method r.class) ≡ false → IsExact p (put_type s.frame.method r.class)
  pub no_vector : element_of (put_type s.frame.method r.class) ≡ None
  pub self : passes_as p (put_type s.frame.method r.class) (put_type s.frame.method r.class) ≡ true

module _ (p : Program) (n : Naming Mention TExpr) (names : IsNaming n) where
  -- the number that an entry has
  pub record HasNumber (m : MethodTree) (e : Entry) (numbers : List ℕ) (k : ℕ) : Type 0 where
    pub number : ℕ
    pub is : slice_get numbers k ≡ Some number
    pub value : n.value_of (OfEntry m e) ≡ Some number
    pub limit : limit_of_entry p (put_entry m e) ≡ None

  pub numbered : (m : MethodTree) (es : List Entry) (numbers : List ℕ) (k : ℕ) (e : Entry) → Settled p n names m es numbers → slice_get es k ≡ Some e → HasNumber m e numbers k
  numbered m [] numbers k e st is = absurd (cc is)
  numbered m (f ∷ es) [] k e st is = absurd st
  numbered m (f ∷ es) (v ∷ vs) zero e st is = let q : f ≡ e = cc is in record { number = v; is = refl; value = subst (λ z. n.value_of (OfEntry m z) ≡ Some v) q st.1; limit = subst (λ z. limit_of_entry p (put_entry m z) ≡ None) q st.0 }
  numbered m (f ∷ es) (v ∷ vs) (suc k) e st is = let r = numbered m es vs k e st.2 is in record { number = r.number; is = r.is; value = r.value; limit = r.limit }

  module _ (u : ℕ) (x : Store) (s : Site) (h : Holds) (hs : List Holds) (c : Sits p n names x s h hs) (well : FitsPlaces p s.definition s.frame.method) where
    abbrev pub view : View
    view = view_of p s.definition

    abbrev pub Fit : List StackType → List Value → Type 0
    Fit os vs = ValuesFit p n x (h ∷ hs) (sorts_of p s.frame.method os) vs

    abbrev pub Goes : List StackType → Type 0
    Goes os = GoesOn p n s.frame.method s.definition (suc s.frame.at) (sorts_of p s.frame.method os)

    -- operands for these places, the last of which is on top, above those that were taken
    takes_fit : (ps qs : List PType) (ss : List Sort) (taken : List Value) (go : Operands → Option Operands) (os out : Operands) (vs : List Value) (k : List Value → List Value → Left) → IntoPlaces p n names ss (map (put_place s.frame.method) qs) → ValuesFit p n x (h ∷ hs) ss taken → take_places (view_of p s.definition) ps go os ≡ Some out → Fit os vs →
        ((os' : Operands) (ss' : List Sort) (arguments rest : List Value) → IntoPlaces p n names ss' (map (put_place s.frame.method) (reverse ps ++ qs)) → ValuesFit p n x (h ∷ hs) ss' arguments → go os' ≡ Some out → Fit os' rest → Runs p n names u x (k arguments rest)) → Runs p n names u x (takes (length ps) vs taken k)
    takes_fit [] qs ss taken go os out vs k into ft e fit onward = onward os ss taken vs into ft e fit
    takes_fit (q ∷ ps) qs ss taken go [] out vs k into ft e fit onward = absurd (cc e)
    takes_fit (q ∷ ps) qs ss taken go (a ∷ os) out [] k into ft e fit onward = absurd fit
    takes_fit (q ∷ ps) qs ss taken go (a ∷ os) out (v ∷ vs) k into ft e fit onward =
        by_test (λ i e'. takes_fit ps (q ∷ qs) (sort_of p s.frame.method a ∷ ss) (v ∷ taken) go os out vs k (i, into) (fit.0, ft) e' fit.1 onward') (fits_place (view_of p s.definition) q a) refl e
      where
        onward' : (os' : Operands) (ss' : List Sort) (arguments rest : List Value) → IntoPlaces p n names ss' (map (put_place s.frame.method) (reverse ps ++ (q ∷ qs))) → ValuesFit p n x (h ∷ hs) ss' arguments → go os' ≡ Some out → Fit os' rest → Runs p n names u x (k arguments rest)
        onward' os' ss' arguments rest i =
            let is : reverse ps ++ (q ∷ qs) ≡ reverse (q ∷ ps) ++ qs = sym (append_assoc (reverse ps) (q ∷ []) qs) ∙ ap (λ z. z ++ qs) (sym (reverse-append (q ∷ []) ps)) in
            onward os' ss' arguments rest (subst (λ z. IntoPlaces p n names ss' (map (put_place s.frame.method) z)) is i)

        by_test : (IntoPlace p (sort_of p s.frame.method a) (put_place s.frame.method q) → take_places (view_of p s.definition) ps go os ≡ Some out → Runs p n names u x (takes (length ps) vs (v ∷ taken) k)) → (b : Bool) → fits_place (view_of p s.definition) q a ≡ b → (if b then take_places (view_of p s.definition) ps go os else None) ≡ Some out → Runs p n names u x (takes (length ps) vs (v ∷ taken) k)
        by_test rest true is e' = rest (well.into q a is) e'
        by_test rest false is e' = absurd (cc e')

    -- the arguments of places, the first of which is deepest
    pub arguments_fit : (ps : List PType) (go : Operands → Option Operands) (os out : Operands) (vs : List Value) (count : ℕ) (k : List Value → List Value → Left) → count ≡ length ps → take_places (view_of p s.definition) (reverse ps) go os ≡ Some out → Fit os vs →
        ((os' : Operands) (ss' : List Sort) (arguments rest : List Value) → IntoPlaces p n names ss' (map (put_place s.frame.method) ps) → ValuesFit p n x (h ∷ hs) ss' arguments → go os' ≡ Some out → Fit os' rest → Runs p n names u x (k arguments rest)) → Runs p n names u x (takes count vs [] k)
    arguments_fit ps go os out vs count k long e fit onward =
        let is : length (reverse ps) ≡ count = length-reverse ps ∙ sym long in
        subst (λ z. Runs p n names u x (takes z vs [] k)) is
        (takes_fit (reverse ps) [] [] [] go os out vs k tt tt e fit (λ os' ss' arguments rest i f g f'.
        onward os' ss' arguments rest (subst (λ z. IntoPlaces p n names ss' (map (put_place s.frame.method) z)) (append_none (reverse (reverse ps)) ∙ reverse-reverse ps) i) f g f'))
      where
        append_none : (xs : List PType) → xs ++ [] ≡ xs
        append_none [] = refl
        append_none (y ∷ ys) = ap (λ z. y ∷ z) (append_none ys)

    -- what the return pushes goes on behind the call
    pub result_goes : (result : Option TExpr) (os out : Operands) → push_all result os ≡ Some out → Goes out → GoesOn p n s.frame.method s.definition (suc s.frame.at) (result_sorts p n (option_map (put_type s.frame.method) result) ++ sorts_of p s.frame.method os)
    result_goes None os out e g = let q : os ≡ out = cc e in subst (λ z. Goes z) (sym q) g
    result_goes (Some t) os out e g =
        let q : stack_of t ∷ os ≡ out = cc e in
        let g' : Goes (stack_of t ∷ os) = subst (λ z. Goes z) (sym q) g in
        record {
          op = g'.op;
          code = g'.code;
          wide = wide_sorts_then p (value_sort p (put_type s.frame.method t) ∷ sorts_of p s.frame.method os) (sort_of p s.frame.method (stack_of t) ∷ sorts_of p s.frame.method os) _ (stands p s.frame.method t, wide_sorts_self p (sorts_of p s.frame.method os)) g'.wide;
        }

    -- `call`
    pub call_row : (numbers : List ℕ) (r : MRef) → IsCallee p n s r (arguments_written (view_of p s.definition) r) (result_at r) → (os out : Operands) (vs : List Value) → after_call (view_of p s.definition) r (take_object (view_of p s.definition) r (push_all (result_at r))) os ≡ Some out → Fit os vs → Goes out → Runs p n names u x (on_call p s numbers (Calls r) vs)
    call_row numbers r callee os out vs e fit g =
        where_given p n names u x (method_found p r) callee.number (λ number. given (method_at p number) (λ d. takes (length (argument_places p (callee_here p s r number) d)) vs [] (λ arguments rest. calls p s (callee_here p s r number) arguments rest Result []))) callee.found
        (where_given p n names u x (method_at p callee.number) callee.definition (λ d. takes (length (argument_places p (callee_here p s r callee.number) d)) vs [] (λ arguments rest. calls p s (callee_here p s r callee.number) arguments rest Result [])) callee.there
        (arguments_fit (arguments_written view r) (push_all (result_at r)) os out vs (length (argument_places p (callee_here p s r callee.number) callee.definition)) (λ arguments rest. calls p s (callee_here p s r callee.number) arguments rest Result []) (ap length callee.places_are ∙ length-map (arguments_written view r) (put_place s.frame.method)) (sym (row_is view r (push_all (result_at r)) os) ∙ e) fit
        (λ os' ss arguments rest into fa e' fr.
        calls_fit p n names u x s h hs c (callee_here p s r callee.number) callee.definition callee.body ss arguments (sorts_of p s.frame.method os') rest Result [] [] (result_sorts p n (option_map (put_type s.frame.method) (result_at r))) callee.begins callee.has
        (subst (λ z. IntoPlaces p n names ss z) (sym callee.places_are) into)
        (subst (λ z. ValuesFit p n x (z ∷ hs) ss arguments) (sym (inside_is p n names u x s h hs c)) fa) fr tt (refl, sym (ap (result_sorts p n) callee.result_is))
        (result_goes (result_at r) os' out e' g))))

    -- ---- `newobj`

    level_is : (fr : List Scalar) → holds_at (building h fr ∷ hs) (level_of s) ≡ Some (building h fr)
    level_is fr = let t : (length s.around == length hs) ≡ true = eq-eqb (length s.around) (length hs) (waits_length p n names x (result_of p n s.frame.method s.definition) s.around hs c.waits) in ap (λ b. if b then Some (building h fr) else holds_at hs (level_of s)) t

    -- a new value of the class goes on behind the call
    new_goes : (class : TExpr) (sort : Sort) (os : List StackType) → value_sort p (put_type s.frame.method class) ≡ sort → Goes (stack_of class ∷ os) → GoesOn p n s.frame.method s.definition (suc s.frame.at) (sort ∷ sorts_of p s.frame.method os)
    new_goes class sort os is g = record {
      op = g.op;
      code = g.code;
      wide = wide_sorts_then p (sort ∷ sorts_of p s.frame.method os) (sort_of p s.frame.method (stack_of class) ∷ sorts_of p s.frame.method os) _ (subst (λ z. WideSort p z (sort_of p s.frame.method (stack_of class))) is (stands p s.frame.method class), wide_sorts_self p (sorts_of p s.frame.method os)) g.wide;
    }

    pub new_row : (numbers : List ℕ) (r : MRef) → IsConstructor p n s r → Settled p n names s.frame.method (new_entries p r) numbers → (os out : Operands) (vs : List Value) → after_call (view_of p s.definition) r (push (stack_of r.class)) os ≡ Some out → Fit os vs → Goes out → Runs p n names u x (on_call p s numbers (Creates r) vs)
    new_row numbers r made sets os out vs e fit g =
        where_given p n names u x (method_found p r) made.number (λ number. given (method_at p number) (λ d. takes (length d.params) vs [] (λ arguments rest. creates p s (is_value p class) (callee_here p s r number) numbers arguments rest))) made.found
        (where_given p n names u x (method_at p made.number) made.definition (λ d. takes (length d.params) vs [] (λ arguments rest. creates p s (is_value p class) (callee_here p s r made.number) numbers arguments rest)) made.there
        (arguments_fit (params_at r) (push (stack_of r.class)) os out vs (length made.definition.params) (λ arguments rest. creates p s (is_value p class) (callee_here p s r made.number) numbers arguments rest) made.count e fit
        (λ os' ss arguments rest into fa e' fr. by_value os' ss arguments rest into fa (let q : stack_of r.class ∷ os' ≡ out = cc e' in subst (λ z. Goes z) (sym q) g) fr (is_value p class) refl)))
      where
        class : TExpr
        class = put_type s.frame.method r.class

        callee : MethodTree
        callee = callee_here p s r made.number

        object_there : (b : Bool) → is_value p class ≡ b → argument_places p callee made.definition ≡ (if b then ptype.Pointer class else ptype.Value class) ∷ map (put_place s.frame.method) (params_at r)
        object_there b is = made.places_are ∙ ap (λ z. (if z then ptype.Pointer class else ptype.Value class) ∷ map (put_place s.frame.method) (params_at r)) is

        numbered_class : HasNumber s.frame.method (entry.Kind r.class) numbers 1
        numbered_class = numbered s.frame.method (new_entries p r) numbers 1 (entry.Kind r.class) sets (ap (λ o. slice_get (flat_map (new_entries_at r) (option_to_list o)) 1) made.found)

        by_value : (os' : List StackType) (ss : List Sort) (arguments rest : List Value) → IntoPlaces p n names ss (map (put_place s.frame.method) (params_at r)) → ValuesFit p n x (h ∷ hs) ss arguments → Goes (stack_of r.class ∷ os') → Fit os' rest → (b : Bool) → is_value p class ≡ b → Runs p n names u x (creates p s b callee numbers arguments rest)
        by_value os' ss arguments rest into fa g' fr true is =
            calls_fit p n names u x s h hs c callee made.definition made.body (To (scalars_of p class) ∷ ss) (Managed (InFresh (level_of s) 0) ∷ arguments) (sorts_of p s.frame.method os') rest Built (scalars_of p class) (replicate (words_of p class) 0) (Words kind.Struct (scalars_of p class) ∷ []) made.begins made.has
            (subst (λ z. IntoPlaces p n names (To (scalars_of p class) ∷ ss) z) (sym (object_there true is)) (refl, into))
            ((building h (scalars_of p class), level_is (scalars_of p class), lies_whole (scalars_of p class)), values_building p n names x h (scalars_of p class) hs ss arguments c.fresh fa)
            fr (zeros_fit p n x (scalars_of p class) (words_of p class) (sym (length-scalars_of p class))) refl
            (new_goes r.class (Words kind.Struct (scalars_of p class)) os' (ap (λ z. Words z (scalars_of p class)) (made.struct_is is)) g')
        by_value os' ss arguments rest into fa g' fr false is =
            where_given p n names u x (slice_get numbers 1) numbered_class.number (λ v. Ask (ask.Alloc v 0 (instance_words_of p class)) (on_object (λ o. calls p s callee (Plain kind.Reference (o ∷ []) ∷ arguments) rest (Object o) []))) numbered_class.is
            (alloc p n u x numbered_class.number 0 (instance_words_of p class) class (λ o. calls p s callee (Plain kind.Reference (o ∷ []) ∷ arguments) rest (Object o) []) (names.rightly (OfEntry s.frame.method (entry.Kind r.class)) numbered_class.number class numbered_class.value refl) (made.exact is) (sym (ap (size_by p class 0) made.no_vector)) (omega arith)
            (λ y o gr new_is shape_is.
            let sort : value_sort p class ≡ Words kind.Reference (Ref class ∷ []) = reference_sort p class (made.reference_is is) in
            let c' : Sits p n names y s h hs = sits_later p n names x y s h hs gr c in
            let to_new : RefTo p n y class o = object class new_is made.self in
            calls_fit p n names u y s h hs c' callee made.definition made.body (Words kind.Reference (Ref class ∷ []) ∷ ss) (Plain kind.Reference (o ∷ []) ∷ arguments) (sorts_of p s.frame.method os') rest (Object o) [] [] (Words kind.Reference (Ref class ∷ []) ∷ []) made.begins made.has
            (subst (λ z. IntoPlaces p n names (Words kind.Reference (Ref class ∷ []) ∷ ss) z) (sym (object_there false is)) (as_is (subst (λ z. WideSort p (Words kind.Reference (Ref class ∷ [])) z) (sym sort) (wide_self p (Words kind.Reference (Ref class ∷ [])))), into))
            ((refl, (to_new, tt)), subst (λ z. ValuesFit p n y (z ∷ hs) ss arguments) (sym (inside_is p n names u y s h hs c')) (values_later p n x y (h ∷ hs) ss arguments gr fa))
            (values_later p n x y (h ∷ hs) (sorts_of p s.frame.method os') rest gr fr) tt (class, refl, to_new, refl)
            (new_goes r.class (Words kind.Reference (Ref class ∷ [])) os' sort g')))
