-- Lists of types, parameters, type variables and named members stand for just what their look-up finds.
use Rattle.std.proofs.Common.{◌≡◌, ℕ, Bool, true, false, List, [], ◌∷◌, ◌++◌, length, Option, None, Ok, refl, sym, ap, subst, ◌∙◌, append_assoc, append-nil, bytes_eq, inl, inr}
use Rattle.std.specs.List.{IsDistinct}
use Rattle.std.proofs.lemmas.Bool.{cases_Bool}
use Rattle.type_tree.specs.declared.tree.TExpr.{TExpr}
use Rattle.type_tree.specs.declared.tree.Head.{Head}
use Rattle.type_tree.specs.declared.tree.Head.TheVariants as head
use Rattle.type_tree.specs.declared.tree.TNode.TheVariants.{Node, ClassVar, MethodVar}
use Rattle.type_tree.specs.Tree.{node, class_var, method_var}
use Rattle.type_tree.proofs.TreeLemmas.{top_of-tree_of}
use Rattle.il_model.specs.declared.method.PType.{PType}
use Rattle.il_model.specs.declared.method.PType.TheVariants as ptype
use Rattle.il_model.specs.declared.class.VarDef.{VarDef}
use Rattle.il_model.specs.declared.member.MRef.{MRef}
use Rattle.il_model.specs.declared.member.FRef.{FRef}
use Rattle.il_model.specs.declared.written.WrittenType.{WrittenType}
use Rattle.il_model.specs.declared.written.WrittenType as views
use Rattle.il_model.specs.declared.written.WrittenType.TheOpen.{WrittenType-F}
use Rattle.il_model.specs.declared.written.WrittenType.TheViews.{out-roll-WrittenType}
use Rattle.il_model.specs.declared.written.WrittenParam.{WrittenParam}
use Rattle.il_model.specs.declared.written.WrittenVar.{WrittenVar}
use Rattle.il_model.specs.declared.written.WrittenMethodRef.{WrittenMethodRef}
use Rattle.il_model.specs.declared.written.WrittenFieldRef.{WrittenFieldRef}
use Rattle.il_model.specs.Lexemes.{is_among}
use Rattle.il_model.specs.Names.{Scope, Each, end, both, NamesType, int32, int64, bool, object, string, class_variable, method_variable, class, vector, NamesTypes, no_types, more_types, NamesResult, NamesParam, by_value, by_pointer, NamesParams, NamesVars}
use Rattle.il_model.specs.Find.{class_in_top, class_number_of}
use Rattle.il_model.specs.LookUp.{arity_of, scope_of_member, NamesMethodRef, NamesFieldRef, names_of_vars}
use Rattle.il_parse.specs.NamedTypes.{type_named, types_named, result_named, param_type, param_named, params_named, vars_named_from, vars_named, level_class, written_class, member_scope, method_ref_named, field_ref_named}
use Rattle.il_parse.proofs.FreshLists.{Fresh, fresh_distinct, distinct_fresh}
use Rattle.il_parse.proofs.LookSteps.{refused, given, looked, by_look, each_of_sound, each_of_complete, perhaps_sound, perhaps_complete}
use Rattle.il_parse.proofs.TypesNamed.{type_sound, type_complete}

types_of_each : (s : Scope) (ws : List WrittenType) (ts : List TExpr) → Each (NamesType s) ws ts → NamesTypes s ws ts
types_of_each s ws ts end = no_types s
types_of_each s ws ts (both written t vs us is are) = more_types s written t vs us is (types_of_each s vs us are)

each_of_types : (s : Scope) (ws : List WrittenType) (ts : List TExpr) → NamesTypes s ws ts → Each (NamesType s) ws ts
each_of_types s ws ts (no_types s') = end
each_of_types s ws ts (more_types s' written t vs us is are) = both written t vs us is (each_of_types s vs us are)

pub types_sound : (s : Scope) (ws : List WrittenType) (ts : List TExpr) → types_named s ws ≡ Ok ts → NamesTypes s ws ts
unfolding types_named
types_sound s ws ts e = types_of_each s ws ts (each_of_sound (NamesType s) (type_named s) (type_sound s) ws ts e)

pub types_complete : (s : Scope) (ws : List WrittenType) (ts : List TExpr) → NamesTypes s ws ts → types_named s ws ≡ Ok ts
unfolding types_named
types_complete s ws ts are = each_of_complete (NamesType s) (type_named s) (type_complete s) ws ts (each_of_types s ws ts are)

pub result_sound : (s : Scope) (r : Option WrittenType) (t : Option TExpr) → result_named s r ≡ Ok t → NamesResult s r t
unfolding result_named
result_sound s r t e = perhaps_sound (NamesType s) (type_named s) r t (λ x y is f. type_sound s x y f) e

pub result_complete : (s : Scope) (r : Option WrittenType) (t : Option TExpr) → NamesResult s r t → result_named s r ≡ Ok t
unfolding result_named
result_complete s r t names = perhaps_complete (NamesType s) (type_named s) r t (λ x y is f. type_complete s x y f) names

of_param : (s : Scope) (kind : WrittenType) (pointer : Bool) (t : TExpr) → NamesType s kind t → NamesParam s (record { kind = kind; pointer = pointer }) (param_type pointer t)
of_param s kind true t is = by_pointer kind t is
of_param s kind false t is = by_value kind t is

param_sound : (s : Scope) (p : WrittenParam) (q : PType) → param_named s p ≡ Ok q → NamesParam s p q
unfolding param_named
param_sound s p q e =
    looked (type_named s p.kind) _ q e (λ t e0 e1.
    subst (NamesParam s p) (given (param_type p.pointer t) q e1) (of_param s p.kind p.pointer t (type_sound s p.kind t e0)))

param_complete : (s : Scope) (p : WrittenParam) (q : PType) → NamesParam s p q → param_named s p ≡ Ok q
unfolding param_named
param_complete s p q (by_value kind t is) = by_look (type_named s kind) _ (Ok (ptype.Value t)) t (type_complete s kind t is) refl
param_complete s p q (by_pointer kind t is) = by_look (type_named s kind) _ (Ok (ptype.Pointer t)) t (type_complete s kind t is) refl

pub params_sound : (s : Scope) (ps : List WrittenParam) (qs : List PType) → params_named s ps ≡ Ok qs → NamesParams s ps qs
unfolding params_named
params_sound s ps qs e = each_of_sound (NamesParam s) (param_named s) (param_sound s) ps qs e

pub params_complete : (s : Scope) (ps : List WrittenParam) (qs : List PType) → NamesParams s ps qs → params_named s ps ≡ Ok qs
unfolding params_named
params_complete s ps qs are = each_of_complete (NamesParam s) (param_named s) (param_complete s) ps qs are

-- type variables that were found behind those found before, with names that were not met
record Vars (s : Scope) (met : List (List ℕ)) (found : List VarDef) (vs : List WrittenVar) (ds : List VarDef) : Type 0 where
  items : List VarDef
  all : ds ≡ found ++ items
  are : NamesVars s vs items
  fresh : Fresh bytes_eq met (names_of_vars vs)

vars_from_sound : (s : Scope) (met : List (List ℕ)) (found : List VarDef) (vs : List WrittenVar) (ds : List VarDef) →
    vars_named_from s met found vs ≡ Ok ds → Vars s met found vs ds
unfolding vars_named_from
vars_from_sound s met found [] ds e = record { items = []; all = sym (given found ds e) ∙ sym (append-nil found); are = end; fresh = tt }
vars_from_sound s met found (v ∷ vs) ds e =
    elim (cases_Bool (is_among met v.name.name)) [
      | inl hit ↦ refused _ ds (rw hit at e)
      | inr miss ↦
          looked (types_named s v.bounds) _ ds (rw miss at e) (λ ts e0 e1.
          let made : VarDef = record { name = v.name.name; bounds = ts } in
          let rest = vars_from_sound s (v.name.name ∷ met) (found ++ made ∷ []) vs ds e1 in
          record {
            items = made ∷ rest.items;
            all = rest.all ∙ append_assoc found (made ∷ []) rest.items;
            are = both v made vs rest.items (record { name = refl; bounds = types_sound s v.bounds ts e0 }) rest.are;
            fresh = (miss, rest.fresh);
          })
    ]

vars_from_complete : (s : Scope) (met : List (List ℕ)) (found : List VarDef) (vs : List WrittenVar) (ds : List VarDef) →
    Fresh bytes_eq met (names_of_vars vs) → NamesVars s vs ds → vars_named_from s met found vs ≡ Ok (found ++ ds)
unfolding vars_named_from
vars_from_complete s met found vs ds fresh end = ap Ok (sym (append-nil found))
vars_from_complete s met found vs ds fresh (both v d us bs is are) =
    rw fresh.0 (by_look (types_named s v.bounds) _ (Ok (found ++ d ∷ bs)) d.bounds (types_complete s v.bounds d.bounds is.bounds)
    (ap (λ (name : List ℕ). vars_named_from s (v.name.name ∷ met) (found ++ record { name = name; bounds = d.bounds } ∷ []) us) (sym is.name)
    ∙ vars_from_complete s (v.name.name ∷ met) (found ++ d ∷ []) us bs fresh.1 are ∙ ap Ok (append_assoc found (d ∷ []) bs)))

-- type variables with different names
pub record VarsNamed (s : Scope) (vs : List WrittenVar) (ds : List VarDef) : Type 0 where
  pub distinct : IsDistinct bytes_eq (names_of_vars vs)
  pub are : NamesVars s vs ds

pub vars_sound : (s : Scope) (vs : List WrittenVar) (ds : List VarDef) → vars_named s vs ≡ Ok ds → VarsNamed s vs ds
unfolding vars_named
vars_sound s vs ds e =
    let r = vars_from_sound s [] [] vs ds e in
    record { distinct = fresh_distinct bytes_eq [] (names_of_vars vs) r.fresh; are = subst (NamesVars s vs) (sym r.all) r.are }

pub vars_complete : (s : Scope) (vs : List WrittenVar) (ds : List VarDef) → IsDistinct bytes_eq (names_of_vars vs) → NamesVars s vs ds → vars_named s vs ≡ Ok ds
unfolding vars_named
vars_complete s vs ds distinct are = vars_from_complete s [] [] vs ds (distinct_fresh bytes_eq (names_of_vars vs) distinct) are

-- the class that a written type names is that of what it stands for

number-node : (h : Head) (ts : List TExpr) → class_number_of (node h ts) ≡ class_in_top (Node h ts)
number-node h ts = ap class_in_top (top_of-tree_of (Node h ts))

number-class_var : (n : ℕ) → class_number_of (class_var n) ≡ None
number-class_var n = ap class_in_top (top_of-tree_of (ClassVar n))

number-method_var : (n : ℕ) → class_number_of (method_var n) ≡ None
number-method_var n = ap class_in_top (top_of-tree_of (MethodVar n))

-- the class of a type with this level
class-level : (s : Scope) (level : WrittenType-F WrittenType) (t : WrittenType) → t ≡ views.roll-WrittenType level → written_class s t ≡ level_class s level
unfolding written_class views.roll-WrittenType
class-level s level t e = ap (written_class s) e ∙ ap (level_class s) (out-roll-WrittenType level)

pub class_agrees : (s : Scope) (written : WrittenType) (t : TExpr) → NamesType s written t → written_class s written ≡ class_number_of t
unfolding views.roll-WrittenType denote.Hole.Carrier.roll
class_agrees s written t (int32 s' written' t' e f) = class-level s WrittenType-F.Int32 written e ∙ sym (ap class_number_of f ∙ number-node head.Int32 [])
class_agrees s written t (int64 s' written' t' e f) = class-level s WrittenType-F.Int64 written e ∙ sym (ap class_number_of f ∙ number-node head.Int64 [])
class_agrees s written t (bool s' written' t' e f) = class-level s WrittenType-F.Bool written e ∙ sym (ap class_number_of f ∙ number-node head.Bool [])
class_agrees s written t (object s' written' t' e f) = class-level s WrittenType-F.Object written e ∙ sym (ap class_number_of f ∙ number-node (head.Class 0) [])
class_agrees s written t (string s' written' t' e f) = class-level s WrittenType-F.String written e ∙ sym (ap class_number_of f ∙ number-node (head.Class 1) [])
class_agrees s written t (class_variable s' written' t' v number e is below f) =
    class-level s (WrittenType-F.Variable v) written e ∙ sym (ap class_number_of f ∙ number-class_var number)
class_agrees s written t (method_variable s' written' t' v number e is below f) =
    class-level s (WrittenType-F.Variable v) written e ∙ sym (ap class_number_of f ∙ number-method_var number)
class_agrees s written t (class s' written' t' name args ts number e is are f) =
    class-level s (WrittenType-F.Named name args) written e ∙ is ∙ sym (ap class_number_of f ∙ number-node (head.Class number) ts)
class_agrees s written t (vector s' written' element t' of e is f) =
    class-level s (WrittenType-F.Vector element) written e ∙ sym (ap class_number_of f ∙ number-node head.Vector (of ∷ []))

-- so the types of a member are read in one scope
scope_agrees : (s : Scope) (written : WrittenType) (t : TExpr) (n : ℕ) → NamesType s written t → member_scope s written n ≡ scope_of_member s t n
unfolding member_scope
scope_agrees s written t n is = ap (λ c. record s { of_class = arity_of s.arities c; of_method = n }) (class_agrees s written t is)

pub method_ref_sound : (s : Scope) (m : WrittenMethodRef) (r : MRef) → method_ref_named s m ≡ Ok r → NamesMethodRef s m r
unfolding method_ref_named
method_ref_sound s m r e =
    looked (result_named (member_scope s m.class (length m.args)) m.result) _ r e (λ result e0 f0.
    looked (type_named s m.class) _ r f0 (λ class e1 f1.
    looked (types_named s m.args) _ r f1 (λ args e2 f2.
    looked (params_named (member_scope s m.class (length m.args)) m.params) _ r f2 (λ params e3 f3.
    let is = type_sound s m.class class e1 in
    let same = scope_agrees s m.class class (length m.args) is in
    subst (NamesMethodRef s m) (given (record { instance = m.instance; result = result; class = class; name = m.name; args = args; params = params }) r f3) (record {
      instance = refl;
      class = is;
      name = refl;
      args = types_sound s m.args args e2;
      gives = subst (λ (z : Scope). NamesResult z m.result result) same (result_sound (member_scope s m.class (length m.args)) m.result result e0);
      params = subst (λ (z : Scope). NamesParams z m.params params) same (params_sound (member_scope s m.class (length m.args)) m.params params e3);
    })))))

pub method_ref_complete : (s : Scope) (m : WrittenMethodRef) (r : MRef) → NamesMethodRef s m r → method_ref_named s m ≡ Ok r
unfolding method_ref_named
method_ref_complete s m r names =
    let same = scope_agrees s m.class r.class (length m.args) names.class in
    let z : Scope = scope_of_member s r.class (length m.args) in
    by_look (result_named (member_scope s m.class (length m.args)) m.result) _ (Ok r) r.result
    (ap (λ (z : Scope). result_named z m.result) same ∙ result_complete z m.result r.result names.gives)
    (by_look (type_named s m.class) _ (Ok r) r.class (type_complete s m.class r.class names.class)
    (by_look (types_named s m.args) _ (Ok r) r.args (types_complete s m.args r.args names.args)
    (by_look (params_named (member_scope s m.class (length m.args)) m.params) _ (Ok r) r.params
    (ap (λ (z : Scope). params_named z m.params) same ∙ params_complete z m.params r.params names.params)
    (ap (λ (i : Bool). Ok (record { instance = i; result = r.result; class = r.class; name = m.name; args = r.args; params = r.params })) (sym names.instance)
    ∙ ap (λ (n : List ℕ). Ok (record { instance = r.instance; result = r.result; class = r.class; name = n; args = r.args; params = r.params })) (sym names.name)))))

pub field_ref_sound : (s : Scope) (f : WrittenFieldRef) (r : FRef) → field_ref_named s f ≡ Ok r → NamesFieldRef s f r
unfolding field_ref_named
field_ref_sound s f r e =
    looked (type_named (member_scope s f.class 0) f.kind) _ r e (λ kind e0 f0.
    looked (type_named s f.class) _ r f0 (λ class e1 f1.
    let is = type_sound s f.class class e1 in
    subst (NamesFieldRef s f) (given (record { kind = kind; class = class; name = f.name }) r f1) (record {
      class = is;
      name = refl;
      kind = subst (λ (z : Scope). NamesType z f.kind kind) (scope_agrees s f.class class 0 is) (type_sound (member_scope s f.class 0) f.kind kind e0);
    })))

pub field_ref_complete : (s : Scope) (f : WrittenFieldRef) (r : FRef) → NamesFieldRef s f r → field_ref_named s f ≡ Ok r
unfolding field_ref_named
field_ref_complete s f r names =
    by_look (type_named (member_scope s f.class 0) f.kind) _ (Ok r) r.kind
    (ap (λ (z : Scope). type_named z f.kind) (scope_agrees s f.class r.class 0 names.class) ∙ type_complete (scope_of_member s r.class 0) f.kind r.kind names.kind)
    (by_look (type_named s f.class) _ (Ok r) r.class (type_complete s f.class r.class names.class)
    (ap (λ (n : List ℕ). Ok (record { kind = r.kind; class = r.class; name = n })) (sym names.name)))
