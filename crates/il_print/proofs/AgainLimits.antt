-- A written program's types have as many positions as the types that they stand for, and its literals are those of the program.
use Rattle.std.proofs.Common.{◌≡◌, ℕ, ◌≤◌, List, [], ◌∷◌, ◌++◌, length, map, flat_map, Option, option_to_list, refl, sym, ap, ◌∙◌, subst, arith, slice_get}
use Rattle.std.specs.List.{AllByRecursion}
use Rattle.type_tree.specs.declared.tree.TExpr.{TExpr}
use Rattle.type_tree.specs.declared.tree.Head.TheVariants as head
use Rattle.type_tree.specs.Positions.{positions_of, level_positions}
use Rattle.type_tree.proofs.TreeLemmas.{folded-node}
use Rattle.il_model.specs.declared.class.ClassKind.{ClassKind}
use Rattle.il_model.specs.declared.class.ClassDef.{ClassDef}
use Rattle.il_model.specs.declared.class.FieldDef.{FieldDef}
use Rattle.il_model.specs.declared.class.VarDef.{VarDef}
use Rattle.il_model.specs.declared.method.PType.{PType}
use Rattle.il_model.specs.declared.method.PType.TheVariants as ptype
use Rattle.il_model.specs.declared.method.Sort.{Sort}
use Rattle.il_model.specs.declared.method.Sort.TheVariants as sort
use Rattle.il_model.specs.declared.method.Clause.{Clause}
use Rattle.il_model.specs.declared.method.Body.{Body}
use Rattle.il_model.specs.declared.method.MethodDef.{MethodDef}
use Rattle.il_model.specs.declared.member.MRef.{MRef}
use Rattle.il_model.specs.declared.op.Op.{Op}
use Rattle.il_model.specs.declared.written.WrittenType.{WrittenType}
use Rattle.il_model.specs.declared.written.WrittenParam.{WrittenParam}
use Rattle.il_model.specs.declared.written.WrittenVar.{WrittenVar}
use Rattle.il_model.specs.declared.written.WrittenMethodRef.{WrittenMethodRef}
use Rattle.il_model.specs.declared.written.WrittenOperand.{WrittenOperand}
use Rattle.il_model.specs.declared.written.WrittenInstr.{WrittenInstr}
use Rattle.il_model.specs.declared.written.WrittenClause.{WrittenClause}
use Rattle.il_model.specs.declared.written.WrittenBody.{WrittenBody}
use Rattle.il_model.specs.declared.written.WrittenField.{WrittenField}
use Rattle.il_model.specs.declared.written.WrittenMethod.{WrittenMethod}
use Rattle.il_model.specs.declared.written.WrittenClass.{WrittenClass}
use Rattle.il_model.specs.Bounds.{written_positions, types_of_params, types_of_vars, types_of_method_ref, types_of_operand, instrs_of, types_of_body, types_of_method, fields_of, methods_of, types_of_class}
use Rattle.il_model.specs.Library.{plain}
use Rattle.il_model.specs.Ops.{Operand, nothing, int32, int64, literal, place, target, targets, type, method, field, constrained, operand_of}
use Rattle.il_model.specs.Names.{Scope, Each, end, both, Perhaps, neither, each, NamesType, NamesTypes, no_types, more_types, NamesResult, NamesParam, by_value, by_pointer, NamesParams, NamesVar, NamesVars}
use Rattle.il_model.specs.LookUp.{NamesMethodRef, NamesOperand, names_nothing, names_int32, names_int64, names_literal, names_place, names_target, names_targets, names_type, names_method, names_field, names_constrained, labels_from, NamesInstr, NamesClause, NamesBody, Known, scope_of, NamesMethod, NamesField, NamesBase, object_of_plain, object_of_abstract, none_of_struct, none_of_interface, written_base, NamesClass, texts_of, texts_of_method}
use Rattle.il_print.proofs.ProgramReads.{all_joined}
use Rattle.il_print.proofs.AgainSizes.{named_positions}
use Rattle.il_print.proofs.AgainMembers.{all_apart}

-- ---- written types and the types that they stand for: either are within the limit where the others are

abbrev pub AreLow : List WrittenType → Type 0
AreLow ws = AllByRecursion (λ t. written_positions t ≤ 256) ws

abbrev pub AreLowTypes : List TExpr → Type 0
AreLowTypes ts = AllByRecursion (λ t. positions_of t ≤ 256) ts

pub record Alike (ws : List WrittenType) (ts : List TExpr) : Type 0 where
  pub down : AreLow ws → AreLowTypes ts
  pub up : AreLowTypes ts → AreLow ws

none_alike : Alike [] []
none_alike = record { down = λ low. tt; up = λ low. tt }

one_alike : (s : Scope) (written : WrittenType) (t : TExpr) → NamesType s written t → Alike (written ∷ []) (t ∷ [])
one_alike s written t named =
    let same : written_positions written ≡ positions_of t = named_positions s written t named in
    record { down = λ low. (subst (λ n. n ≤ 256) same low.0, tt); up = λ low. (subst (λ n. n ≤ 256) (sym same) low.0, tt) }

joined_alike : (ws us : List WrittenType) (ts vs : List TExpr) → Alike ws ts → Alike us vs → Alike (ws ++ us) (ts ++ vs)
joined_alike ws us ts vs a b = record {
  down = λ low. let parts = all_apart (λ t. written_positions t ≤ 256) ws us low in all_joined (λ t. positions_of t ≤ 256) ts vs (a.down parts.0) (b.down parts.1);
  up = λ low. let parts = all_apart (λ t. positions_of t ≤ 256) ts vs low in all_joined (λ t. written_positions t ≤ 256) ws us (a.up parts.0) (b.up parts.1);
}

flat_alike : {A X : Type 0} (R : A → X → Type 0) (f : A → List WrittenType) (g : X → List TExpr) → ((a : A) (x : X) → R a x → Alike (f a) (g x)) →
    (ls : List A) (xs : List X) → Each R ls xs → Alike (flat_map f ls) (flat_map g xs)
flat_alike R f g step ls xs end = none_alike
flat_alike R f g step ls xs (both a x bs ys is are) = joined_alike (f a) (flat_map f bs) (g x) (flat_map g ys) (step a x is) (flat_alike R f g step bs ys are)

-- where each item has one written type
map_alike : {A X : Type 0} (R : A → X → Type 0) (f : A → WrittenType) (g : X → List TExpr) → ((a : A) (x : X) → R a x → Alike (f a ∷ []) (g x)) →
    (ls : List A) (xs : List X) → Each R ls xs → Alike (map f ls) (flat_map g xs)
map_alike R f g step ls xs end = none_alike
map_alike R f g step ls xs (both a x bs ys is are) = joined_alike (f a ∷ []) (map f bs) (g x) (flat_map g ys) (step a x is) (map_alike R f g step bs ys are)

-- ---- the types of each construct

types_alike : (s : Scope) (written : List WrittenType) (ts : List TExpr) → NamesTypes s written ts → Alike written ts
types_alike s written ts (no_types s') = none_alike
types_alike s written ts (more_types s' w t us vs is are) = joined_alike (w ∷ []) us (t ∷ []) vs (one_alike s w t is) (types_alike s us vs are)

result_alike : (s : Scope) (written : Option WrittenType) (r : Option TExpr) → NamesResult s written r → Alike (option_to_list written) (option_to_list r)
result_alike s written r neither = none_alike
result_alike s written r (each w t is) = one_alike s w t is

abbrev types_in_param : PType → List TExpr
types_in_param (ptype.Value t) = t ∷ []
types_in_param (ptype.Pointer t) = t ∷ []
types_in_param ptype.Native = []

param_alike : (s : Scope) (written : WrittenParam) (p : PType) → NamesParam s written p → Alike (written.kind ∷ []) (types_in_param p)
param_alike s written p (by_value w t is) = one_alike s w t is
param_alike s written p (by_pointer w t is) = one_alike s w t is

params_alike : (s : Scope) (written : List WrittenParam) (ps : List PType) → NamesParams s written ps → Alike (types_of_params written) (flat_map types_in_param ps)
params_alike s = map_alike (NamesParam s) (λ w. w.kind) types_in_param (param_alike s)

vars_alike : (s : Scope) (written : List WrittenVar) (vs : List VarDef) → NamesVars s written vs → Alike (types_of_vars written) (flat_map (λ (v : VarDef). v.bounds) vs)
vars_alike s = flat_alike (NamesVar s) (λ w. w.bounds) (λ v. v.bounds) (λ w v is. types_alike s w.bounds v.bounds is.bounds)

abbrev types_in_ref : MRef → List TExpr
types_in_ref m = option_to_list m.result ++ m.class ∷ m.args ++ flat_map types_in_param m.params

ref_alike : (s : Scope) (written : WrittenMethodRef) (m : MRef) → NamesMethodRef s written m → Alike (types_of_method_ref written) (types_in_ref m)
ref_alike s written m is =
    joined_alike (option_to_list written.result ++ written.class ∷ written.args) (types_of_params written.params) (option_to_list m.result ++ m.class ∷ m.args) (flat_map types_in_param m.params)
    (joined_alike (option_to_list written.result) (written.class ∷ written.args) (option_to_list m.result) (m.class ∷ m.args) (result_alike _ written.result m.result is.gives)
    (joined_alike (written.class ∷ []) written.args (m.class ∷ []) m.args (one_alike s written.class m.class is.class) (types_alike s written.args m.args is.args)))
    (params_alike _ written.params m.params is.params)

abbrev types_in_operand : Operand → List TExpr
types_in_operand nothing = []
types_in_operand (int32 n) = []
types_in_operand (int64 n) = []
types_in_operand (literal number) = []
types_in_operand (place number) = []
types_in_operand (target to) = []
types_in_operand (targets to) = []
types_in_operand (type t) = t ∷ []
types_in_operand (method m) = types_in_ref m
types_in_operand (field f) = f.kind ∷ f.class ∷ []
types_in_operand (constrained t m) = t ∷ types_in_ref m

operand_alike : (s : Scope) (literals : List (List ℕ)) (labels : List (List ℕ × ℕ)) (written : WrittenOperand) (o : Operand) → NamesOperand s literals labels written o →
    Alike (types_of_operand written) (types_in_operand o)
operand_alike s literals labels written o names_nothing = none_alike
operand_alike s literals labels written o (names_int32 n) = none_alike
operand_alike s literals labels written o (names_int64 n) = none_alike
operand_alike s literals labels written o (names_literal bytes number is) = none_alike
operand_alike s literals labels written o (names_place number) = none_alike
operand_alike s literals labels written o (names_target w to is) = none_alike
operand_alike s literals labels written o (names_targets w to are) = none_alike
operand_alike s literals labels written o (names_type w t is) = one_alike s w t is
operand_alike s literals labels written o (names_method w m is) = ref_alike s w m is
operand_alike s literals labels written o (names_field w f is) =
    joined_alike (w.kind ∷ []) (w.class ∷ []) (f.kind ∷ []) (f.class ∷ []) (one_alike _ w.kind f.kind is.kind) (one_alike s w.class f.class is.class)
operand_alike s literals labels written o (names_constrained w named t m is of) =
    joined_alike (w ∷ []) (types_of_method_ref named) (t ∷ []) (types_in_ref m) (one_alike s w t is) (ref_alike s named m of)

abbrev types_in_sort : Sort → List TExpr
types_in_sort (sort.Catch t) = t ∷ []
types_in_sort sort.Finally = []

clause_alike : (s : Scope) (labels : List (List ℕ × ℕ)) (written : WrittenClause) (c : Clause) → NamesClause s labels written c → Alike (written.catches ∷ []) (types_in_sort c.sort)
clause_alike s labels written c is = subst (λ z. Alike (written.catches ∷ []) (types_in_sort z)) (sym is.sort) (one_alike s written.catches is.catches is.kind)

abbrev types_in_body : Body → List TExpr
types_in_body b =
    flat_map types_in_param b.locals ++ flat_map (λ (op : Op). types_in_operand (operand_of op)) b.code ++ flat_map (λ (c : Clause). types_in_sort c.sort) b.clauses

body_alike : (s : Scope) (literals : List (List ℕ)) (written : WrittenBody) (b : Body) → NamesBody s literals written b → Alike (types_of_body written) (types_in_body b)
body_alike s literals written b is =
    let labels = labels_from 0 written.lines in
    let code_of = flat_map (λ (i : WrittenInstr). types_of_operand i.operand) (instrs_of written.lines) in
    let code_in = flat_map (λ (op : Op). types_in_operand (operand_of op)) b.code in
    joined_alike (types_of_params written.locals ++ code_of) (map (λ (c : WrittenClause). c.catches) written.clauses) (flat_map types_in_param b.locals ++ code_in)
    (flat_map (λ (c : Clause). types_in_sort c.sort) b.clauses)
    (joined_alike (types_of_params written.locals) code_of (flat_map types_in_param b.locals) code_in (params_alike s written.locals b.locals is.locals)
    (flat_alike (NamesInstr s literals labels) (λ i. types_of_operand i.operand) (λ op. types_in_operand (operand_of op))
    (λ i op named. operand_alike s literals labels i.operand (operand_of op) named.operand) (instrs_of written.lines) b.code is.code))
    (map_alike (NamesClause s labels) (λ c. c.catches) (λ c. types_in_sort c.sort) (clause_alike s labels) written.clauses b.clauses is.clauses)

bodied_alike : (s : Scope) (literals : List (List ℕ)) (written : Option WrittenBody) (b : Option Body) → Perhaps (NamesBody s literals) written b →
    Alike (flat_map types_of_body (option_to_list written)) (flat_map types_in_body (option_to_list b))
bodied_alike s literals written b neither = none_alike
bodied_alike s literals written b (each w c is) = joined_alike (types_of_body w) [] (types_in_body c) [] (body_alike s literals w c is) none_alike

abbrev types_in_method : MethodDef → List TExpr
types_in_method m =
    option_to_list m.result ++ flat_map (λ (v : VarDef). v.bounds) m.vars ++ flat_map types_in_param m.params ++ flat_map types_in_body (option_to_list m.body)

method_alike : (known : Known) (owner of_class : ℕ) (written : WrittenMethod) (m : MethodDef) → NamesMethod known owner of_class written m →
    Alike (types_of_method written) (types_in_method m)
method_alike known owner of_class written m is =
    let bounds_in = flat_map (λ (v : VarDef). v.bounds) m.vars in
    let params_in = flat_map types_in_param m.params in
    joined_alike (option_to_list written.result ++ types_of_vars written.vars ++ types_of_params written.params) (flat_map types_of_body (option_to_list written.body))
    (option_to_list m.result ++ bounds_in ++ params_in) (flat_map types_in_body (option_to_list m.body))
    (joined_alike (option_to_list written.result ++ types_of_vars written.vars) (types_of_params written.params) (option_to_list m.result ++ bounds_in) params_in
    (joined_alike (option_to_list written.result) (types_of_vars written.vars) (option_to_list m.result) bounds_in (result_alike _ written.result m.result is.gives)
    (vars_alike _ written.vars m.vars is.vars))
    (params_alike _ written.params m.params is.params))
    (bodied_alike _ known.literals written.body m.body is.body)

object_alike : Alike [] (plain 0 ∷ [])
object_alike =
    let size : positions_of (plain 0) ≡ 1 = folded-node level_positions (head.Class 0) [] in
    record { down = λ low. (omega (arith, size), tt); up = λ low. tt }

base_alike : (s : Scope) (k : ClassKind) (written : Option WrittenType) (o : Option TExpr) → NamesBase s k written o → Alike (option_to_list written) (option_to_list o)
base_alike s k written o object_of_plain = object_alike
base_alike s k written o object_of_abstract = object_alike
base_alike s k written o none_of_struct = none_alike
base_alike s k written o none_of_interface = none_alike
base_alike s k written o (written_base v w t is) = one_alike s w t is

-- the types of a class with these methods
abbrev pub types_in_class : ClassDef → List MethodDef → List TExpr
types_in_class c defs =
    flat_map (λ (v : VarDef). v.bounds) c.vars ++ option_to_list c.base ++ c.interfaces ++ flat_map (λ (f : FieldDef). f.kind ∷ []) c.fields ++ flat_map types_in_method defs

pub class_alike : (known : Known) (number first : ℕ) (written : WrittenClass) (c : ClassDef) (of_class : ℕ) (defs : List MethodDef) → NamesClass known first written c →
    Each (NamesMethod known number of_class) (methods_of written.members) defs → Alike (types_of_class written) (types_in_class c defs)
class_alike known number first written c of_class defs is are =
    let s = scope_of known (length written.vars) 0 in
    let bounds_in = flat_map (λ (v : VarDef). v.bounds) c.vars in
    let fields_in = flat_map (λ (f : FieldDef). f.kind ∷ []) c.fields in
    let bounds_of = types_of_vars written.vars in
    let kinds_of = map (λ (f : WrittenField). f.kind) (fields_of written.members) in
    joined_alike (bounds_of ++ option_to_list written.base ++ written.interfaces ++ kinds_of) (flat_map types_of_method (methods_of written.members))
    (bounds_in ++ option_to_list c.base ++ c.interfaces ++ fields_in) (flat_map types_in_method defs)
    (joined_alike (bounds_of ++ option_to_list written.base ++ written.interfaces) kinds_of (bounds_in ++ option_to_list c.base ++ c.interfaces) fields_in
    (joined_alike (bounds_of ++ option_to_list written.base) written.interfaces (bounds_in ++ option_to_list c.base) c.interfaces
    (joined_alike bounds_of (option_to_list written.base) bounds_in (option_to_list c.base) (vars_alike _ written.vars c.vars is.vars) (base_alike _ written.kind written.base c.base is.base))
    (types_alike _ written.interfaces c.interfaces is.interfaces))
    (map_alike (NamesField s) (λ w. w.kind) (λ f. f.kind ∷ []) (λ w f named. one_alike s w.kind f.kind named.kind) (fields_of written.members) c.fields is.fields))
    (flat_alike (NamesMethod known number of_class) types_of_method types_in_method (method_alike known number of_class) (methods_of written.members) defs are)

-- ---- literals

abbrev texts_in_operand : List (List ℕ) → Operand → List (List ℕ)
texts_in_operand literals nothing = []
texts_in_operand literals (int32 n) = []
texts_in_operand literals (int64 n) = []
texts_in_operand literals (literal number) = option_to_list (slice_get literals number)
texts_in_operand literals (place number) = []
texts_in_operand literals (target to) = []
texts_in_operand literals (targets to) = []
texts_in_operand literals (type t) = []
texts_in_operand literals (method m) = []
texts_in_operand literals (field f) = []
texts_in_operand literals (constrained t m) = []

operand_texts : (s : Scope) (literals : List (List ℕ)) (labels : List (List ℕ × ℕ)) (written : WrittenOperand) (o : Operand) → NamesOperand s literals labels written o →
    texts_of written ≡ texts_in_operand literals o
operand_texts s literals labels written o names_nothing = refl
operand_texts s literals labels written o (names_int32 n) = refl
operand_texts s literals labels written o (names_int64 n) = refl
operand_texts s literals labels written o (names_literal bytes number is) = ap option_to_list (sym is)
operand_texts s literals labels written o (names_place number) = refl
operand_texts s literals labels written o (names_target w to is) = refl
operand_texts s literals labels written o (names_targets w to are) = refl
operand_texts s literals labels written o (names_type w t is) = refl
operand_texts s literals labels written o (names_method w m is) = refl
operand_texts s literals labels written o (names_field w f is) = refl
operand_texts s literals labels written o (names_constrained w named t m is of) = refl

pub flat_same : {A X Y : Type 0} (R : A → X → Type 0) (f : A → List Y) (g : X → List Y) → ((a : A) (x : X) → R a x → f a ≡ g x) → (ls : List A) (xs : List X) →
    Each R ls xs → flat_map f ls ≡ flat_map g xs
flat_same R f g step ls xs end = refl
flat_same R f g step ls xs (both a x bs ys is are) = ap (λ z. z ++ flat_map f bs) (step a x is) ∙ ap (λ z. g x ++ z) (flat_same R f g step bs ys are)

abbrev texts_in_body : List (List ℕ) → Body → List (List ℕ)
texts_in_body literals b = flat_map (λ (op : Op). texts_in_operand literals (operand_of op)) b.code

abbrev pub texts_in_method : List (List ℕ) → MethodDef → List (List ℕ)
texts_in_method literals m = flat_map (texts_in_body literals) (option_to_list m.body)

bodied_texts : (s : Scope) (literals : List (List ℕ)) (written : Option WrittenBody) (b : Option Body) → Perhaps (NamesBody s literals) written b →
    flat_map (λ (w : WrittenBody). flat_map (λ (i : WrittenInstr). texts_of i.operand) (instrs_of w.lines)) (option_to_list written)
    ≡ flat_map (texts_in_body literals) (option_to_list b)
bodied_texts s literals written b neither = refl
bodied_texts s literals written b (each w c is) =
    ap (λ z. z ++ [])
    (flat_same (NamesInstr s literals (labels_from 0 w.lines)) (λ i. texts_of i.operand) (λ op. texts_in_operand literals (operand_of op))
    (λ i op named. operand_texts s literals (labels_from 0 w.lines) i.operand (operand_of op) named.operand) (instrs_of w.lines) c.code is.code)

pub method_texts : (known : Known) (owner of_class : ℕ) (written : WrittenMethod) (m : MethodDef) → NamesMethod known owner of_class written m →
    texts_of_method written ≡ texts_in_method known.literals m
method_texts known owner of_class written m is = bodied_texts _ known.literals written.body m.body is.body
