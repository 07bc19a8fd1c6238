-- The methods that instructions name: what is found begins as it is named, and objects of a constructor's class may be made.
use Rattle.std.proofs.Common.{◌≡◌, ℕ, ◌==◌, ◌&&◌, Bool, true, false, not, List, [], ◌∷◌, length, Option, Some, None, refl, sym, ap, ◌∙◌, subst}
use Rattle.std.specs.Prelude.{map, slice_get, option_map, option_and_then, bytes_eq, if◌then◌else◌}
use Rattle.std.specs.Bool.{beq}
use Rattle.std.specs.Cmp.Lexicographic.{pointwise}
use Rattle.std.proofs.lemmas.Bool.{and_parts}
use Rattle.type_tree.specs.declared.tree.TExpr.{TExpr}
use Rattle.il_model.specs.declared.program.Program.{Program}
use Rattle.il_model.specs.declared.class.ClassDef.{ClassDef}
use Rattle.il_model.specs.declared.layout.MethodTree.{MethodTree}
use Rattle.il_model.specs.declared.method.PType.{PType}
use Rattle.il_model.specs.declared.method.PType.TheVariants as ptype
use Rattle.il_model.specs.declared.method.MethodDef.{MethodDef}
use Rattle.il_model.specs.declared.member.MRef.{MRef}
use Rattle.il_model.specs.Find.{class_number_of, class_of, takes_object}
use Rattle.il_model.specs.Found.{same_param, same_result, is_method_named, method_at, is_named_in, own_method, method_found}
use Rattle.il_model.specs.Kinds.{is_struct_class, is_value}
use Rattle.il_model.specs.Library.{plain}
use Rattle.il_model.specs.Entries.{arguments_of}
use Rattle.il_model.specs.ClassRules.{is_abstract_shape}
use Rattle.interaction.specs.Process.{Naming}
use Rattle.type_inst.proofs.SignatureLemmas.{same_params-Decides, same_result-Decides}
use Rattle.type_tree.specs.Substitution.{substituted}
use Rattle.rgctx_fill.proofs.WholeLists.{found_holds}
use Rattle.rgctx_fill.proofs.WholeScopes.{IsOwned}
use Rattle.cil_verify.specs.Places.{view_of}
use Rattle.cil_verify.specs.Members.{called, type_at, place_at, params_at, result_at, may_be_called}
use Rattle.cil_meaning.specs.Naming.{Mention, put_type}
use Rattle.cil_meaning.specs.Site.{Site}
use Rattle.cil_meaning.specs.Types.{object_place, put_place, arguments_with, argument_places}
use Rattle.cil_meaning.specs.Calls.{callee_here}
use Rattle.cil_safety.proofs.Fit.{IsInstance, result_of}
use Rattle.cil_safety.proofs.Laws.{BeginsAlone}
use Rattle.cil_safety.proofs.CallForms.{object_written, arguments_written, IsCallee}
use Rattle.cil_safety.proofs.PlainTypes.{class_plain, class_of_plain, arguments_plain}
use Rattle.cil_safety.proofs.Built.{IsPlainMethodRef}
use Rattle.cil_safety.proofs.Instances.{IsAccepted, nothing_put, value_plain, HasCode, code_there, bare_tree, put_any, begins_alone}

beq_is : (a b : Bool) → beq a b ≡ true → a ≡ b
beq_is true true e = refl
beq_is true false e = absurd (cc e)
beq_is false true e = absurd (cc e)
beq_is false false e = refl

pub map_same : {A : Type 0} (f : A → A) (xs : List A) → ((x : A) → f x ≡ x) → map f xs ≡ xs
map_same f [] each = refl
map_same f (x ∷ xs) each = ap (λ z. z ∷ map f xs) (each x) ∙ ap (λ zs. x ∷ zs) (map_same f xs each)

pub option_same : {A : Type 0} (f : A → A) (o : Option A) → ((x : A) → f x ≡ x) → option_map f o ≡ o
option_same f None each = refl
option_same f (Some x) each = ap Some (each x)

module _ (p : Program) (ok : IsAccepted p) where
  -- ---- the method that is found

  -- a definition that is found for a name is of the class that is named, and as it is named
  pub record IsFoundMethod (r : MRef) (d : MethodDef) : Type 0 where
    pub number : ℕ
    pub found : method_found p r ≡ Some number
    pub there : method_at p number ≡ Some d
    pub owner : class_number_of r.class ≡ Some d.owner
    pub class : ClassDef
    pub class_is : slice_get p.classes d.owner ≡ Some class
    pub listed : own_method p r class ≡ Some number
    pub params : d.params ≡ r.params
    pub result : d.result ≡ r.result
    pub object : takes_object d.shape ≡ r.instance

  record AsNamed (r : MRef) (d : MethodDef) : Type 0 where
    params : d.params ≡ r.params
    result : d.result ≡ r.result
    object : takes_object d.shape ≡ r.instance

  as_named : (r : MRef) (d : MethodDef) → is_method_named r d ≡ true → AsNamed r d
  as_named r d e =
      let a = and_parts (bytes_eq d.name r.name && (length d.vars == length r.args) && pointwise same_param d.params r.params && same_result d.result r.result) (beq (takes_object d.shape) r.instance) e in
      let b = and_parts (bytes_eq d.name r.name && (length d.vars == length r.args) && pointwise same_param d.params r.params) (same_result d.result r.result) a.0 in
      let c = and_parts (bytes_eq d.name r.name && (length d.vars == length r.args)) (pointwise same_param d.params r.params) b.0 in
      record {
        params = (same_params-Decides d.params r.params).0 c.1;
        result = (same_result-Decides d.result r.result).0 b.1;
        object = beq_is (takes_object d.shape) r.instance a.1;
      }

  pub method_there : (r : MRef) (d : MethodDef) → called p r ≡ Some d → IsFoundMethod r d
  method_there r d e = by_found (method_found p r) refl e
    where
      in_class : (number k : ℕ) (c : ClassDef) → method_found p r ≡ Some number → class_number_of r.class ≡ Some k → slice_get p.classes k ≡ Some c → own_method p r c ≡ Some number → method_at p number ≡ Some d → IsFoundMethod r d
      in_class number k c found at is own there =
          let h = found_holds (IsOwned p k) (λ j. is_named_in r (method_at p j)) c.methods number (ok.scoped.classes k c is).methods own in
          let same : h.0.method ≡ d = cc (h.0.is, there) in
          let owner : k ≡ d.owner = sym h.0.owner_is ∙ ap (λ (z : MethodDef). z.owner) same in
          let n : AsNamed r d = as_named r d (subst (λ o. is_named_in r o ≡ true) there h.1) in
          record { number = number; found = found; there = there; owner = at ∙ ap Some owner; class = c; class_is = subst (λ z. slice_get p.classes z ≡ Some c) owner is; listed = own; params = n.params; result = n.result; object = n.object }

      by_class : (number k : ℕ) (o : Option ClassDef) → method_found p r ≡ Some number → class_number_of r.class ≡ Some k → slice_get p.classes k ≡ o → option_and_then (own_method p r) o ≡ Some number → method_at p number ≡ Some d → IsFoundMethod r d
      by_class number k None found at is own there = absurd (cc own)
      by_class number k (Some c) found at is own there = in_class number k c found at is own there

      by_number : (number : ℕ) (o : Option ℕ) → method_found p r ≡ Some number → class_number_of r.class ≡ o → option_and_then (own_method p r) (option_and_then (λ k. slice_get p.classes k) o) ≡ Some number → method_at p number ≡ Some d → IsFoundMethod r d
      by_number number None found at own there = absurd (cc own)
      by_number number (Some k) found at own there = by_class number k (slice_get p.classes k) found at refl own there

      by_found : (o : Option ℕ) → method_found p r ≡ o → option_and_then (method_at p) o ≡ Some d → IsFoundMethod r d
      by_found None found e' = absurd (cc e')
      by_found (Some number) found e' =
          by_number number (class_number_of r.class) found refl found e'

  -- ---- its types, as they are named

  module _ (r : MRef) (d : MethodDef) (f : IsFoundMethod r d) (named : IsPlainMethodRef r) where
    pub class_is_plain : r.class ≡ plain d.owner
    class_is_plain = class_plain r.class d.owner named.class f.owner

    pub type_at_same : (t : TExpr) → type_at r t ≡ t
    type_at_same t = ap (λ z. substituted z r.args t) (ap arguments_of class_is_plain ∙ arguments_plain d.owner) ∙ ap (λ z. substituted [] z t) named.args ∙ nothing_put t

    place_at_same : (t : PType) → place_at r t ≡ t
    place_at_same (ptype.Value t) = ap ptype.Value (type_at_same t)
    place_at_same (ptype.Pointer t) = ap ptype.Pointer (type_at_same t)
    place_at_same ptype.Native = refl

    pub params_at_same : params_at r ≡ r.params
    params_at_same = map_same (place_at r) r.params place_at_same

    pub result_at_same : result_at r ≡ r.result
    result_at_same = option_same (type_at r) r.result type_at_same

    pub struct_same : is_value p r.class ≡ is_struct_class (class_of p r.class)
    struct_same = ap (is_value p) class_is_plain ∙ value_plain p ok d.owner ∙ sym (ap is_struct_class (ap (class_of p) class_is_plain ∙ class_of_plain p d.owner))

    module _ (n : Naming Mention TExpr) (s : Site) (i : IsInstance p n s.frame.method s.definition) where
      pub put_here : (t : TExpr) → put_type s.frame.method t ≡ t
      put_here t = put_any p ok n s.frame.method s.definition i t

      pub callee_is : callee_here p s r f.number ≡ bare_tree p ok f.number d
      callee_is =
          ap (λ z. record { method = f.number; class = z; args = map (put_type s.frame.method) r.args }) (put_here r.class ∙ class_is_plain)
          ∙ ap (λ zs. record { method = f.number; class = plain d.owner; args = map (put_type s.frame.method) zs }) named.args

      pub callee_begins : HasCode p ok d → BeginsAlone p n (callee_here p s r f.number) d
      callee_begins c = subst (λ z. BeginsAlone p n z d) (sym callee_is) (begins_alone p ok n f.number d f.there c)

      pub put_place_any : (m : MethodTree) (e : MethodDef) → IsInstance p n m e → (t : PType) → put_place m t ≡ t
      put_place_any m e j (ptype.Value t) = ap ptype.Value (put_any p ok n m e j t)
      put_place_any m e j (ptype.Pointer t) = ap ptype.Pointer (put_any p ok n m e j t)
      put_place_any m e j ptype.Native = refl

      pub put_places_here : (ts : List PType) → map (put_place s.frame.method) ts ≡ ts
      put_places_here ts = map_same (put_place s.frame.method) ts (put_place_any s.frame.method s.definition i)

      -- the callee's own places: its object, then what is named
      pub callee_places : HasCode p ok d → argument_places p (callee_here p s r f.number) d ≡ arguments_with (takes_object d.shape) (object_place p r.class) r.params
      callee_places c =
          let b = callee_begins c in
          ap (λ z. arguments_with (takes_object d.shape) (object_place p z) (map (put_place (callee_here p s r f.number)) d.params)) (put_here r.class)
          ∙ ap (arguments_with (takes_object d.shape) (object_place p r.class)) (map_same (put_place (callee_here p s r f.number)) d.params (put_place_any (callee_here p s r f.number) d b.instance) ∙ f.params)

      pub callee_result : HasCode p ok d → result_of p n (callee_here p s r f.number) d ≡ option_map (put_type s.frame.method) (result_at r)
      callee_result c =
          let b = callee_begins c in
          option_same (put_type (callee_here p s r f.number)) d.result (put_any p ok n (callee_here p s r f.number) d b.instance) ∙ f.result ∙ sym (option_same (put_type s.frame.method) (result_at r) put_here ∙ result_at_same)

      -- what begins with these places is a callee
      pub callee_named : (c : HasCode p ok d) (places : List PType) → arguments_with (takes_object d.shape) (object_place p r.class) r.params ≡ places → IsCallee p n s r places (result_at r)
      callee_named c places is = record {
        number = f.number;
        definition = d;
        body = c.body;
        found = f.found;
        there = f.there;
        has = c.has;
        begins = callee_begins c;
        places_are = callee_places c ∙ is ∙ sym (put_places_here places);
        result_is = callee_result c;
      }

      object_as_written : object_place p r.class ≡ object_written (view_of p s.definition) r
      object_as_written = ap (λ b. if b then ptype.Pointer r.class else ptype.Value r.class) struct_same

      pub arguments_as_written : arguments_with (takes_object d.shape) (object_place p r.class) r.params ≡ arguments_written (view_of p s.definition) r
      arguments_as_written =
          ap (λ b. arguments_with b (object_place p r.class) r.params) f.object
          ∙ by_object r.instance
        where
          by_object : (b : Bool) → arguments_with b (object_place p r.class) r.params ≡ (if b then (object_written (view_of p s.definition) r ∷ params_at r) else params_at r)
          by_object true = ap (λ z. z ∷ r.params) object_as_written ∙ ap (λ zs. object_written (view_of p s.definition) r ∷ zs) (sym params_at_same)
          by_object false = sym params_at_same

      -- `call`
      pub call_named : may_be_called d.shape ≡ true → IsCallee p n s r (arguments_written (view_of p s.definition) r) (result_at r)
      call_named may = callee_named (code_there p ok f.number d f.there (not_true (is_abstract_shape d.shape) may)) (arguments_written (view_of p s.definition) r) arguments_as_written
        where
          not_true : (b : Bool) → not b ≡ true → b ≡ false
          not_true true e = absurd (cc e)
          not_true false e = refl
