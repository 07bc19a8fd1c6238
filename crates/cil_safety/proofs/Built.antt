-- What a program of built forms writes: plain types alone, and no form that is not built.
use Rattle.std.proofs.Common.{◌≡◌, ℕ, zero, suc, ◌+◌, ◌||◌, Bool, true, false, List, [], ◌∷◌, ◌++◌, flat_map, Some, None, refl, subst}
use Rattle.std.specs.Prelude.{slice_get, option_to_list, if◌then◌else◌}
use Rattle.std.specs.List.{list_any, AllByRecursion}
use Rattle.type_tree.specs.declared.tree.TExpr.{TExpr}
use Rattle.il_model.specs.declared.program.Program.{Program}
use Rattle.il_model.specs.declared.class.ClassDef.{ClassDef}
use Rattle.il_model.specs.declared.method.Clause.{Clause}
use Rattle.il_model.specs.declared.method.MethodDef.{MethodDef}
use Rattle.il_model.specs.declared.member.MRef.{MRef}
use Rattle.il_model.specs.declared.member.FRef.{FRef}
use Rattle.il_model.specs.declared.op.Op.{Op}
use Rattle.il_model.specs.Ops.{Operand, operand_of}
use Rattle.il_model.specs.Ops as operand
use Rattle.il_model.specs.Methods.{types_of_places}
use Rattle.il_model.specs.ClassRules.{bounds_written, kinds_written, types_written}
use Rattle.rgctx_template.specs.Written.{types_of_op, types_of_operand}
use Rattle.rgctx_fill.proofs.WholeLists.{front_all, back_all}
use Rattle.cil_verify.specs.declared.fault.Where.TheVariants as at
use Rattle.cil_verify.specs.Places.{code_of, clauses_of, locals_of}
use Rattle.cil_verify.specs.WellTyped.{types_of_method, type_of_sort}
use Rattle.cil_verify.specs.Forms.{is_generic, is_unbuilt_class, is_catch, is_unbuilt_method, names_generic, is_unbuilt_form, is_unbuilt_instr, unbuilt_instr, unbuilt_in, unbuilt_method, unbuilt_class, first_unbuilt, has_some}
use Rattle.cil_safety.proofs.Edges.{either_false, or_none}
use Rattle.cil_safety.proofs.PlainTypes.{IsPlainType, IsPlainPlace, no_items, none_of, plain_places}

-- ---- the first place that is not built

class_built : (first : ℕ) (cs : List ClassDef) (k : ℕ) (c : ClassDef) → unbuilt_class first cs ≡ None → slice_get cs k ≡ Some c → is_unbuilt_class c ≡ false
class_built first [] k c none e = absurd (cc e)
class_built first (d ∷ cs) k c none e = by_test (λ k' none' e'. class_built (first + 1) cs k' c none' e') (is_unbuilt_class d) refl none k e
  where
    by_test : ((k : ℕ) → unbuilt_class (first + 1) cs ≡ None → slice_get cs k ≡ Some c → is_unbuilt_class c ≡ false) → (b : Bool) → is_unbuilt_class d ≡ b → (if b then Some (at.Class first) else unbuilt_class (first + 1) cs) ≡ None → (k : ℕ) → slice_get (d ∷ cs) k ≡ Some c → is_unbuilt_class c ≡ false
    by_test more true is none' k' e' = absurd (cc none')
    by_test more false is none' zero e' = let q : d ≡ c = cc e' in subst (λ z. is_unbuilt_class z ≡ false) q is
    by_test more false is none' (suc k') e' = more k' none' e'

instr_built : (number first : ℕ) (is : List Op) (k : ℕ) (i : Op) → unbuilt_instr number first is ≡ None → slice_get is k ≡ Some i → is_unbuilt_instr i ≡ false
instr_built number first [] k i none e = absurd (cc e)
instr_built number first (j ∷ js) k i none e = by_test (λ k' none' e'. instr_built number (first + 1) js k' i none' e') (is_unbuilt_instr j) refl none k e
  where
    by_test : ((k : ℕ) → unbuilt_instr number (first + 1) js ≡ None → slice_get js k ≡ Some i → is_unbuilt_instr i ≡ false) → (b : Bool) → is_unbuilt_instr j ≡ b → (if b then Some (at.Instr number first) else unbuilt_instr number (first + 1) js) ≡ None → (k : ℕ) → slice_get (j ∷ js) k ≡ Some i → is_unbuilt_instr i ≡ false
    by_test more true is none' k' e' = absurd (cc none')
    by_test more false is none' zero e' = let q : j ≡ i = cc e' in subst (λ z. is_unbuilt_instr z ≡ false) q is
    by_test more false is none' (suc k') e' = more k' none' e'

record MethodBuilt (m : MethodDef) : Type 0 where
  head : is_unbuilt_method m ≡ false
  code : (k : ℕ) (i : Op) → slice_get (code_of m.body) k ≡ Some i → is_unbuilt_instr i ≡ false

method_built : (first : ℕ) (ms : List MethodDef) (k : ℕ) (m : MethodDef) → unbuilt_method first ms ≡ None → slice_get ms k ≡ Some m → MethodBuilt m
method_built first [] k m none e = absurd (cc e)
method_built first (d ∷ ms) zero m none e =
    let q : d ≡ m = cc e in
    subst (λ z. MethodBuilt z) q (by_test (is_unbuilt_method d) refl (or_none (unbuilt_in first d) (unbuilt_method (first + 1) ms) none).0)
  where
    by_test : (b : Bool) → is_unbuilt_method d ≡ b → (if b then Some (at.Method first) else unbuilt_instr first 0 (code_of d.body)) ≡ None → MethodBuilt d
    by_test true is none' = absurd (cc none')
    by_test false is none' = record { head = is; code = λ k' i at'. instr_built first 0 (code_of d.body) k' i none' at' }
method_built first (d ∷ ms) (suc k) m none e = method_built (first + 1) ms k m (or_none (unbuilt_in first d) (unbuilt_method (first + 1) ms) none).1 e

-- ---- what is written

pub record IsBuiltClass (c : ClassDef) : Type 0 where
  pub vars : c.vars ≡ []
  pub base : AllByRecursion IsPlainType (option_to_list c.base)
  pub interfaces : AllByRecursion IsPlainType c.interfaces
  pub fields : AllByRecursion IsPlainType (kinds_written c)

pub record IsBuiltMethod (m : MethodDef) : Type 0 where
  pub vars : m.vars ≡ []
  pub params : AllByRecursion IsPlainPlace m.params
  pub result : AllByRecursion IsPlainType (option_to_list m.result)
  pub locals : AllByRecursion IsPlainPlace (locals_of m.body)
  pub no_catch : list_any (λ (c : Clause). is_catch c.sort) (clauses_of m.body) ≡ false

pub record IsBuiltInstr (i : Op) : Type 0 where
  pub form : is_unbuilt_form i ≡ false
  pub alone : names_generic (operand_of i) ≡ false
  pub types : AllByRecursion IsPlainType (types_of_op i)

pub record IsBuilt (p : Program) : Type 0 where
  pub classes : (number : ℕ) (c : ClassDef) → slice_get p.classes number ≡ Some c → IsBuiltClass c
  pub methods : (number : ℕ) (m : MethodDef) → slice_get p.methods number ≡ Some m → IsBuiltMethod m
  pub code : (number : ℕ) (m : MethodDef) (at : ℕ) (i : Op) → slice_get p.methods number ≡ Some m → slice_get (code_of m.body) at ≡ Some i → IsBuiltInstr i

class_is_built : (c : ClassDef) → is_unbuilt_class c ≡ false → IsBuiltClass c
class_is_built c e =
    let q = either_false (has_some c.vars) (list_any is_generic (types_written c)) e in
    let all : AllByRecursion IsPlainType (types_written c) = none_of is_generic (types_written c) q.1 in
    let more : AllByRecursion IsPlainType (c.interfaces ++ (bounds_written c.vars ++ kinds_written c)) = back_all IsPlainType (option_to_list c.base) (c.interfaces ++ (bounds_written c.vars ++ kinds_written c)) all in
    record {
      vars = no_items c.vars q.0;
      base = front_all IsPlainType (option_to_list c.base) (c.interfaces ++ (bounds_written c.vars ++ kinds_written c)) all;
      interfaces = front_all IsPlainType c.interfaces (bounds_written c.vars ++ kinds_written c) more;
      fields = back_all IsPlainType (bounds_written c.vars) (kinds_written c) (back_all IsPlainType c.interfaces (bounds_written c.vars ++ kinds_written c) more);
    }

method_is_built : (m : MethodDef) → is_unbuilt_method m ≡ false → IsBuiltMethod m
method_is_built m e =
    let q = either_false (has_some m.vars) (list_any is_generic (types_of_method m) || list_any (λ (c : Clause). is_catch c.sort) (clauses_of m.body)) e in
    let r = either_false (list_any is_generic (types_of_method m)) (list_any (λ (c : Clause). is_catch c.sort) (clauses_of m.body)) q.1 in
    let all : AllByRecursion IsPlainType (types_of_method m) = none_of is_generic (types_of_method m) r.0 in
    let caught : List TExpr = flat_map (λ (c : Clause). type_of_sort c.sort) (clauses_of m.body) in
    let one : AllByRecursion IsPlainType (types_of_places m.params ++ (option_to_list m.result ++ (types_of_places (locals_of m.body) ++ caught))) = back_all IsPlainType (bounds_written m.vars) (types_of_places m.params ++ (option_to_list m.result ++ (types_of_places (locals_of m.body) ++ caught))) all in
    let two : AllByRecursion IsPlainType (option_to_list m.result ++ (types_of_places (locals_of m.body) ++ caught)) = back_all IsPlainType (types_of_places m.params) (option_to_list m.result ++ (types_of_places (locals_of m.body) ++ caught)) one in
    let three : AllByRecursion IsPlainType (types_of_places (locals_of m.body) ++ caught) = back_all IsPlainType (option_to_list m.result) (types_of_places (locals_of m.body) ++ caught) two in
    record {
      vars = no_items m.vars q.0;
      params = plain_places m.params (front_all IsPlainType (types_of_places m.params) (option_to_list m.result ++ (types_of_places (locals_of m.body) ++ caught)) one);
      result = front_all IsPlainType (option_to_list m.result) (types_of_places (locals_of m.body) ++ caught) two;
      locals = plain_places (locals_of m.body) (front_all IsPlainType (types_of_places (locals_of m.body)) caught three);
      no_catch = r.1;
    }

instr_is_built : (i : Op) → is_unbuilt_instr i ≡ false → IsBuiltInstr i
instr_is_built i e =
    let q = either_false (is_unbuilt_form i) (names_generic (operand_of i) || list_any is_generic (types_of_op i)) e in
    let r = either_false (names_generic (operand_of i)) (list_any is_generic (types_of_op i)) q.1 in
    record { form = q.0; alone = r.0; types = none_of is_generic (types_of_op i) r.1 }

pub all_built : (p : Program) → first_unbuilt p ≡ None → IsBuilt p
all_built p none =
    let q = or_none (unbuilt_class 0 p.classes) (unbuilt_method 0 p.methods) none in
    record {
      classes = λ number c is. class_is_built c (class_built 0 p.classes number c q.0 is);
      methods = λ number m is. method_is_built m (method_built 0 p.methods number m q.1 is).head;
      code = λ number m place i is at'. instr_is_built i ((method_built 0 p.methods number m q.1 is).code place i at');
    }

-- ---- members that are named

-- a method that a plain instruction names: no arguments, and plain types
pub record IsPlainMethodRef (r : MRef) : Type 0 where
  pub args : r.args ≡ []
  pub class : IsPlainType r.class
  pub params : AllByRecursion IsPlainPlace r.params
  pub result : AllByRecursion IsPlainType (option_to_list r.result)

pub method_named : (i : Op) (r : MRef) → IsBuiltInstr i → operand_of i ≡ operand.method r → IsPlainMethodRef r
method_named i r b e =
    let alone : has_some r.args ≡ false = subst (λ o. names_generic o ≡ false) e b.alone in
    let types : AllByRecursion IsPlainType ((option_to_list r.result ++ (r.class ∷ r.args)) ++ types_of_places r.params) = subst (λ o. AllByRecursion IsPlainType (types_of_operand o)) e b.types in
    let front : AllByRecursion IsPlainType (option_to_list r.result ++ (r.class ∷ r.args)) = front_all IsPlainType (option_to_list r.result ++ (r.class ∷ r.args)) (types_of_places r.params) types in
    record {
      args = no_items r.args alone;
      class = (back_all IsPlainType (option_to_list r.result) (r.class ∷ r.args) front).0;
      params = plain_places r.params (back_all IsPlainType (option_to_list r.result ++ (r.class ∷ r.args)) (types_of_places r.params) types);
      result = front_all IsPlainType (option_to_list r.result) (r.class ∷ r.args) front;
    }

pub record IsPlainFieldRef (f : FRef) : Type 0 where
  pub kind : IsPlainType f.kind
  pub class : IsPlainType f.class

pub field_is_named : (i : Op) (f : FRef) → IsBuiltInstr i → operand_of i ≡ operand.field f → IsPlainFieldRef f
field_is_named i f b e =
    let types : AllByRecursion IsPlainType (f.kind ∷ f.class ∷ []) = subst (λ o. AllByRecursion IsPlainType (types_of_operand o)) e b.types in
    record { kind = types.0; class = types.1.0 }

pub type_named : (i : Op) (t : TExpr) → IsBuiltInstr i → operand_of i ≡ operand.type t → IsPlainType t
type_named i t b e =
    let types : AllByRecursion IsPlainType (t ∷ []) = subst (λ o. AllByRecursion IsPlainType (types_of_operand o)) e b.types in
    types.0
