-- What a program that the verifier accepts names is found, and what it writes has its numbers of arguments.
use Rattle.std.proofs.Common.{◌≡◌, ℕ, suc, ◌==◌, Bool, true, false, cond, ◌&&◌, List, [], ◌∷◌, ◌++◌, length, flat_map, take, find, bytes_eq, slice_get, is_some, Option, Some, None, option_map, option_and_then, refl, sym, ap, ◌∙◌, subst}
use Rattle.std.specs.Prelude.{option_to_list}
use Rattle.std.specs.Bool.{beq}
use Rattle.std.specs.Cmp.Lexicographic.{pointwise}
use Rattle.std.specs.List.{AllByRecursion}
use Rattle.std.proofs.lemmas.List.Quantifiers.{position-Some}
use Rattle.std.proofs.lemmas.Option.{option_and_then_some, get_or_from_slice_get, slice_get-map, slice_get_within}
use Rattle.type_tree.specs.declared.tree.TExpr.{TExpr}
use Rattle.type_tree.specs.Same.{is_same}
use Rattle.type_tree.proofs.SameLemmas.{is_same-Decides}
use Rattle.il_model.specs.declared.class.ClassDef.{ClassDef}
use Rattle.il_model.specs.declared.class.FieldDef.{FieldDef}
use Rattle.il_model.specs.declared.member.MRef.{MRef}
use Rattle.il_model.specs.declared.member.FRef.{FRef}
use Rattle.il_model.specs.declared.method.Sort.{Sort}
use Rattle.il_model.specs.declared.method.Sort.TheVariants as sort
use Rattle.il_model.specs.declared.method.Clause.{Clause}
use Rattle.il_model.specs.declared.method.Body.{Body}
use Rattle.il_model.specs.declared.method.MethodDef.{MethodDef}
use Rattle.il_model.specs.declared.op.Op.{Op}
use Rattle.il_model.specs.declared.program.Program.{Program}
use Rattle.il_model.specs.Find.{class_number_of, class_of, takes_object, most_fields}
use Rattle.il_model.specs.Found.{same_param, same_result, is_method_named, is_field_named, method_at, is_named_in, own_method, own_field, method_found, field_found}
use Rattle.il_model.specs.Layouts.{fields_in}
use Rattle.il_model.specs.Methods.{types_of_places}
use Rattle.il_model.specs.Ops.{Operand, operand_of}
use Rattle.il_model.specs.Ops as operand
use Rattle.il_model.specs.ClassRules.{has_counts, bounds_written, kinds_written, types_written, meets_bounds}
use Rattle.type_inst.proofs.SignatureLemmas.{same_params-Decides, same_result-Decides}
use Rattle.rgctx_template.specs.Written.{types_of_method_ref, types_of_operand, types_of_op, types_of_sort, types_of_body, types_of_method, finds_operand, finds_member, HasCounts, FindsMembers}
use Rattle.cil_flow.specs.declared.fault.FlowFault.{FlowFault}
use Rattle.cil_flow.specs.Flow.{first_fault}
use Rattle.cil_verify.specs.Places.{view_of, scope_of, code_of, locals_of, clauses_of}
use Rattle.cil_verify.specs.Members.{called, field_named}
use Rattle.cil_verify.specs.States.{Refusal, first_refused}
use Rattle.cil_verify.specs.WellTyped as judged
use Rattle.cil_verify.specs.WellTyped.{type_of_sort, flow_or_pass, refused_in_body, refused_in, IsWellTyped}
use Rattle.rgctx_fill.proofs.WholeLists.{join_all, front_all, back_all, item_holds, all_weaker, flat_all, parts_all, both_of, all_of_test, test_of_all, IsItem, placed, get_of_take}
use Rattle.rgctx_fill.proofs.WholeTypes.{IsCounted}
use Rattle.aot_image.proofs.CatalogueInstrs.{IsNamed, bounds-counts, judged, judged-names}

pub items_hold : {X : Type 0} (P : X → Type 0) (xs : List X) → ((k : ℕ) (x : X) → slice_get xs k ≡ Some x → P x) → AllByRecursion P xs
items_hold P [] each = tt
items_hold P (x ∷ xs) each = (each 0 x refl, items_hold P xs (λ k y is. each (suc k) y is))

find_if : {X : Type 0} (test : X → Bool) (y x : X) (rest : Option X) (b : Bool) → test y ≡ b → cond b (Some y) rest ≡ Some x → (rest ≡ Some x → test x ≡ true) → test x ≡ true
find_if test y x rest true is e later = let same : y ≡ x = cc in subst (λ z. test z ≡ true) same is
find_if test y x rest false is e later = later e

found_passes : {X : Type 0} (test : X → Bool) (xs : List X) (x : X) → find test xs ≡ Some x → test x ≡ true
found_passes test [] x e = cc
found_passes test (y ∷ xs) x e = find_if test y x (find test xs) (test y) refl e (λ d. found_passes test xs x d)

record IsThere {A : Type 0} (o : Option A) : Type 0 where
  item : A
  is : o ≡ Some item

there : {A : Type 0} (o : Option A) → is_some o ≡ true → IsThere o
there None h = cc
there (Some x) h = record { item = x; is = refl }

some_is : {A : Type 0} (o : Option A) (x : A) → o ≡ Some x → is_some o ≡ true
some_is o x e = ap is_some e

module _ (program : Program) where
  -- ---- members that are named

  record IsNamedMethod (named : MRef) : Type 0 where
    number : ℕ
    found : method_found program named ≡ Some number
    method : MethodDef
    is : method_at program number ≡ Some method

  named_method : (named : MRef) → is_some (called program named) ≡ true → IsNamedMethod named
  named_method named h =
      let t : IsThere (called program named) = there (called program named) h in
      option_and_then_some (method_at program) (method_found program named) t.item t.is (λ number found at. record { number = number; found = found; method = t.item; is = at })

  params_of_named : (a b c d e : Bool) → (a && b && c && d && e) ≡ true → (c ≡ true) × (d ≡ true)
  params_of_named a b c d e h =
      let p : ((a && b && c && d) ≡ true) × (e ≡ true) = both_of (a && b && c && d) e h in
      let q : ((a && b && c) ≡ true) × (d ≡ true) = both_of (a && b && c) d p.0 in
      ((both_of (a && b) c q.0).1, q.1)

  -- the definition has the parameters and the result that are named
  same_signature : (named : MRef) (m : MethodDef) → is_method_named named m ≡ true → (m.params ≡ named.params) × (m.result ≡ named.result)
  same_signature named m h =
      let p : (pointwise same_param m.params named.params ≡ true) × (same_result m.result named.result ≡ true) =
      params_of_named (bytes_eq m.name named.name) (length m.vars == length named.args) (pointwise same_param m.params named.params) (same_result m.result named.result) (beq (takes_object m.shape) named.instance) h in
      ((same_params-Decides m.params named.params).0 p.0, (same_result-Decides m.result named.result).0 p.1)

  named_signature : (named : MRef) (n : IsNamedMethod named) → (n.method.params ≡ named.params) × (n.method.result ≡ named.result)
  named_signature named n =
      option_and_then_some (own_method program named) (class_of program named.class) n.number n.found
      (λ c class own. same_signature named n.method (ap (is_named_in named) (sym n.is) ∙ found_passes (λ number. is_named_in named (method_at program number)) c.methods n.number own))

  record IsNamedField (named : FRef) : Type 0 where
    number : ℕ
    class : ClassDef
    class_is : slice_get program.classes number ≡ Some class
    place : ℕ
    item : FieldDef
    item_is : slice_get class.fields place ≡ Some item
    kind : item.kind ≡ named.kind

  field_in : (most : ℕ) (named : FRef) (place number : ℕ) (c : ClassDef) → slice_get program.classes number ≡ Some c → own_field most named c ≡ Some place → IsNamedField named
  field_in most named place number c is found =
      let i : IsItem (take most c.fields) place = placed (is_field_named named) (take most c.fields) place found in
      let p = position-Some (is_field_named named) (take most c.fields) place i.item found in
      let passes : is_field_named named i.item ≡ true = ap (is_field_named named) (sym (get_or_from_slice_get (take most c.fields) place i.item i.item i.is)) ∙ p.1 in
      let kinds : is_same i.item.kind named.kind ≡ true = (both_of (bytes_eq i.item.name named.name) (is_same i.item.kind named.kind) passes).1 in
      record {
        number = number;
        class = c;
        class_is = is;
        place = place;
        item = i.item;
        item_is = get_of_take most c.fields place i.item i.is;
        kind = (is_same-Decides i.item.kind named.kind).0 kinds;
      }

  field_of : (most : ℕ) (named : FRef) (place : ℕ) → option_and_then (own_field most named) (class_of program named.class) ≡ Some place → IsNamedField named
  field_of most named place found =
      option_and_then_some (own_field most named) (class_of program named.class) place found
      (λ c class own. option_and_then_some (λ k. slice_get program.classes k) (class_number_of named.class) c class (λ number e is. field_in most named place number c is own))

  found_field : (named : FRef) → is_some (field_named program named) ≡ true → is_some (field_found program named) ≡ true
  found_field named h =
      let t : IsThere (field_named program named) = there (field_named program named) h in
      option_and_then_some (slice_get (fields_in (class_of program named.class))) (field_found program named) t.item t.is (λ place found at. some_is (field_found program named) place found)

  named_field : (named : FRef) → is_some (field_named program named) ≡ true → IsNamedField named
  named_field named h =
      let t : IsThere (field_found program named) = there (field_found program named) (found_field named h) in
      field_of most_fields named t.item t.is

  found_method : (named : MRef) → is_some (called program named) ≡ true → is_some (method_found program named) ≡ true
  found_method named h = let n : IsNamedMethod named = named_method named h in some_is (method_found program named) n.number n.found

  -- what is named is found
  operand_found : (o : Operand) → IsNamed program o → finds_operand program o ≡ true
  operand_found operand.nothing h = refl
  operand_found (operand.int32 n) h = refl
  operand_found (operand.int64 n) h = refl
  operand_found (operand.literal n) h = refl
  operand_found (operand.place n) h = refl
  operand_found (operand.target n) h = refl
  operand_found (operand.targets ns) h = refl
  operand_found (operand.type t) h = refl
  operand_found (operand.method m) h = found_method m h.0
  operand_found (operand.field f) h = found_field f h.0
  operand_found (operand.constrained t m) h = found_method m h.0

  module _ (typed : IsWellTyped program) where
    -- ---- heads

    -- all types of a method that is judged have their numbers of arguments
    head_counted : (number : ℕ) (m : MethodDef) → method_at program number ≡ Some m → AllByRecursion (IsCounted program) (judged.types_of_method m)
    head_counted number m is =
        all_weaker (λ (t : TExpr). meets_bounds program (scope_of program m) t ≡ true) (IsCounted program) (λ t h. bounds-counts program (scope_of program m) t h) (judged.types_of_method m)
        (all_of_test (meets_bounds program (scope_of program m)) (judged.types_of_method m) ((typed.methods.each number m is).head.1.1.0.met))

    module _ (number : ℕ) (m : MethodDef) (is : method_at program number ≡ Some m) where
      behind_bounds : AllByRecursion (IsCounted program) (types_of_places m.params ++ (option_to_list m.result ++ (types_of_places (locals_of m.body) ++ flat_map (λ c. type_of_sort c.sort) (clauses_of m.body))))
      behind_bounds = back_all (IsCounted program) (bounds_written m.vars) _ (head_counted number m is)

      behind_params : AllByRecursion (IsCounted program) (option_to_list m.result ++ (types_of_places (locals_of m.body) ++ flat_map (λ c. type_of_sort c.sort) (clauses_of m.body)))
      behind_params = back_all (IsCounted program) (types_of_places m.params) _ behind_bounds

      behind_result : AllByRecursion (IsCounted program) (types_of_places (locals_of m.body) ++ flat_map (λ c. type_of_sort c.sort) (clauses_of m.body))
      behind_result = back_all (IsCounted program) (option_to_list m.result) _ behind_params

      params_counted : AllByRecursion (IsCounted program) (types_of_places m.params)
      params_counted = front_all (IsCounted program) (types_of_places m.params) _ behind_bounds

      result_counted : AllByRecursion (IsCounted program) (option_to_list m.result)
      result_counted = front_all (IsCounted program) (option_to_list m.result) _ behind_params

      pub locals_counted : AllByRecursion (IsCounted program) (types_of_places (locals_of m.body))
      locals_counted = front_all (IsCounted program) (types_of_places (locals_of m.body)) _ behind_result

      clauses_counted : AllByRecursion (IsCounted program) (flat_map (λ c. type_of_sort c.sort) (clauses_of m.body))
      clauses_counted = back_all (IsCounted program) (types_of_places (locals_of m.body)) _ behind_result

    -- ---- operands

    ref_counted : (named : MRef) → is_some (called program named) ≡ true → AllByRecursion (IsCounted program) (named.class ∷ named.args) → AllByRecursion (IsCounted program) (types_of_method_ref named)
    ref_counted named h own =
        let n : IsNamedMethod named = named_method named h in
        let same : (n.method.params ≡ named.params) × (n.method.result ≡ named.result) = named_signature named n in
        join_all (IsCounted program) (option_to_list named.result ++ named.class ∷ named.args) (types_of_places named.params)
        (join_all (IsCounted program) (option_to_list named.result) (named.class ∷ named.args)
        (subst (λ r. AllByRecursion (IsCounted program) (option_to_list r)) same.1 (result_counted n.number n.method n.is)) own)
        (subst (λ ps. AllByRecursion (IsCounted program) (types_of_places ps)) same.0 (params_counted n.number n.method n.is))

    field_counted : (named : FRef) → is_some (field_named program named) ≡ true → IsCounted program named.kind
    field_counted named h =
        let n : IsNamedField named = named_field named h in
        let all : AllByRecursion (IsCounted program) (types_written n.class) = all_of_test (has_counts program) (types_written n.class) ((typed.first.each n.number n.class n.class_is).0.counts) in
        let kinds : AllByRecursion (IsCounted program) (kinds_written n.class) =
        back_all (IsCounted program) (bounds_written n.class.vars) _ (back_all (IsCounted program) n.class.interfaces _ (back_all (IsCounted program) (option_to_list n.class.base) _ all)) in
        subst (IsCounted program) n.kind (item_holds (IsCounted program) (kinds_written n.class) n.place n.item.kind kinds (slice_get-map (λ (f : FieldDef). f.kind) n.class.fields n.place ∙ ap (option_map (λ (f : FieldDef). f.kind)) n.item_is))

    operand_counted : (o : Operand) → IsNamed program o → AllByRecursion (IsCounted program) (types_of_operand o)
    operand_counted operand.nothing h = tt
    operand_counted (operand.int32 n) h = tt
    operand_counted (operand.int64 n) h = tt
    operand_counted (operand.literal n) h = tt
    operand_counted (operand.place n) h = tt
    operand_counted (operand.target n) h = tt
    operand_counted (operand.targets ns) h = tt
    operand_counted (operand.type t) h = (h, tt)
    operand_counted (operand.method m) h = ref_counted m h.0 h.1
    operand_counted (operand.field f) h = (field_counted f h.0, (h.1, tt))
    operand_counted (operand.constrained t m) h = (h.1.0, ref_counted m h.0 h.1.1)

    -- ---- bodies

    no_pass : (flow : Option FlowFault) (pass : Option Refusal) → flow_or_pass flow pass ≡ None → pass ≡ None
    no_pass None pass h = h
    no_pass (Some f) pass h = cc

    code_named : (number : ℕ) (m : MethodDef) (b : Body) → method_at program number ≡ Some m → m.body ≡ Some b → AllByRecursion (λ i. IsNamed program (operand_of i)) b.code
    code_named number m b is body =
        let whole : option_and_then (refused_in_body program m) m.body ≡ None = (typed.methods.each number m is).body.none in
        let own : refused_in_body program m b ≡ None = sym (ap (option_and_then (refused_in_body program m)) body) ∙ whole in
        let none : first_refused (view_of program m) ≡ None = no_pass (first_fault (is_some m.result) b) (first_refused (view_of program m)) own in
        let code : code_of m.body ≡ b.code = ap code_of body in
        items_hold (λ (i : Op). IsNamed program (operand_of i)) b.code
        (λ k i at.
        let item : slice_get (code_of m.body) k ≡ Some i = ap (λ ops. slice_get ops k) code ∙ at in
        judged-names (view_of program m) i (judged (view_of program m) k i none (slice_get_within (code_of m.body) k i item) item))

    -- each member that a body names is found
    pub finds-members : FindsMembers program
    finds-members = record {
      each = λ number m b is body.
          test_of_all (finds_member program) b.code
          (all_weaker (λ (i : Op). IsNamed program (operand_of i)) (λ i. finds_member program i ≡ true) (λ i h. operand_found (operand_of i) h) b.code (code_named number m b is body));
    }

    sort_counted : (s : Sort) → AllByRecursion (IsCounted program) (type_of_sort s) → AllByRecursion (IsCounted program) (types_of_sort s)
    sort_counted (sort.Catch t) h = h
    sort_counted sort.Finally h = h

    body_counted : (number : ℕ) (m : MethodDef) (b : Body) → method_at program number ≡ Some m → m.body ≡ Some b → AllByRecursion (IsCounted program) (types_of_body b)
    body_counted number m b is body =
        let locals : AllByRecursion (IsCounted program) (types_of_places b.locals) = subst (λ o. AllByRecursion (IsCounted program) (types_of_places (locals_of o))) body (locals_counted number m is) in
        let clauses : AllByRecursion (IsCounted program) (flat_map (λ c. type_of_sort c.sort) b.clauses) = subst (λ o. AllByRecursion (IsCounted program) (flat_map (λ c. type_of_sort c.sort) (clauses_of o))) body (clauses_counted number m is) in
        join_all (IsCounted program) (types_of_places b.locals ++ flat_map types_of_op b.code) (flat_map (λ (clause : Clause). types_of_sort clause.sort) b.clauses)
        (join_all (IsCounted program) (types_of_places b.locals) (flat_map types_of_op b.code) locals
        (flat_all (IsCounted program) types_of_op b.code (all_weaker (λ (i : Op). IsNamed program (operand_of i)) (λ i. AllByRecursion (IsCounted program) (types_of_op i)) (λ i h. operand_counted (operand_of i) h) b.code (code_named number m b is body))))
        (flat_all (IsCounted program) (λ (clause : Clause). types_of_sort clause.sort) b.clauses
        (all_weaker (λ (c : Clause). AllByRecursion (IsCounted program) (type_of_sort c.sort)) (λ c. AllByRecursion (IsCounted program) (types_of_sort c.sort)) (λ c h. sort_counted c.sort h) b.clauses
        (parts_all (IsCounted program) (λ (c : Clause). type_of_sort c.sort) b.clauses clauses)))

    bodies_counted : (number : ℕ) (m : MethodDef) (o : Option Body) → method_at program number ≡ Some m → m.body ≡ o → AllByRecursion (IsCounted program) (flat_map types_of_body (option_to_list o))
    bodies_counted number m None is body = tt
    bodies_counted number m (Some b) is body = join_all (IsCounted program) (types_of_body b) [] (body_counted number m b is body) tt

    method_counted : (number : ℕ) (m : MethodDef) → method_at program number ≡ Some m → AllByRecursion (IsCounted program) (types_of_method m)
    method_counted number m is =
        join_all (IsCounted program) (option_to_list m.result ++ bounds_written m.vars ++ types_of_places m.params) (flat_map types_of_body (option_to_list m.body))
        (join_all (IsCounted program) (option_to_list m.result ++ bounds_written m.vars) (types_of_places m.params)
        (join_all (IsCounted program) (option_to_list m.result) (bounds_written m.vars) (result_counted number m is) (front_all (IsCounted program) (bounds_written m.vars) _ (head_counted number m is)))
        (params_counted number m is))
        (bodies_counted number m m.body is refl)

    -- each type that a method writes has its numbers of arguments
    pub has-counts : HasCounts program
    has-counts = record { each = λ number m is. test_of_all (has_counts program) (types_of_method m) (method_counted number m is) }
