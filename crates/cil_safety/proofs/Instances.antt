-- What an accepted program's methods are at an instantiation: no arguments are put, no clause is there, and a method that is called begins.
use Rattle.std.proofs.Common.{◌≡◌, ℕ, ◌<◌, Bool, true, false, List, [], ◌∷◌, length, Option, Some, None, refl, sym, ap, ◌∙◌, subst, arith, ltb-true}
use Rattle.std.specs.Prelude.{map, zip, reverse, slice_get, is_some, is_none, option_and_then, unwrap_or, if◌then◌else◌}
use Rattle.std.specs.List.{list_any, list_all, AllByRecursion}
use Rattle.std.proofs.lemmas.Option.{unwrap_or-slice_get}
use Rattle.std.proofs.lemmas.List.Elements.{All-nil}
use Rattle.type_tree.specs.declared.tree.TExpr.{TExpr}
use Rattle.type_tree.specs.declared.tree.TNode.TheVariants.{Node}
use Rattle.type_tree.specs.declared.tree.Head.TheVariants as head
use Rattle.type_tree.specs.Tree.{node, IsClosed}
use Rattle.type_tree.specs.Substitution.{substituted}
use Rattle.type_tree.proofs.TreeLemmas.{top_of-tree_of, holds_of_trees}
use Rattle.type_tree.proofs.SubstitutionLemmas.{substituted-node, substituted-class_var, substituted-method_var}
use Rattle.il_model.specs.declared.program.Program.{Program}
use Rattle.il_model.specs.declared.class.ClassDef.{ClassDef}
use Rattle.il_model.specs.declared.class.VarDef.{VarDef}
use Rattle.il_model.specs.declared.layout.MethodTree.{MethodTree}
use Rattle.il_model.specs.declared.method.Body.{Body}
use Rattle.il_model.specs.declared.method.Clause.{Clause}
use Rattle.il_model.specs.declared.method.PType.{PType}
use Rattle.il_model.specs.declared.method.PType.TheVariants as ptype
use Rattle.il_model.specs.declared.method.MethodDef.{MethodDef}
use Rattle.il_model.specs.Find.{takes_object}
use Rattle.il_model.specs.Found.{method_at}
use Rattle.il_model.specs.Kinds.{is_struct_class, is_value_top, is_value}
use Rattle.il_model.specs.Library.{plain}
use Rattle.il_model.specs.Bases.{own_of_class, own_of}
use Rattle.il_model.specs.Entries.{arguments_of}
use Rattle.il_model.specs.ClassRules.{vars_in, is_abstract_shape}
use Rattle.il_model.specs.Accepted.{IsOfText}
use Rattle.interaction.specs.Process.{Naming}
use Rattle.cil_flow.specs.declared.fault.FlowFault.{FlowFault}
use Rattle.cil_flow.specs.Regions.{begins_handler}
use Rattle.cil_flow.specs.Flow.{first_fault}
use Rattle.rgctx_fill.specs.Predefined.{HasLeaves}
use Rattle.rgctx_fill.proofs.TextLeaves.{text-leaves}
use Rattle.rgctx_fill.proofs.WholeScopes.{IsScoped}
use Rattle.rgctx_fill.proofs.WholeText.{text-scoped}
use Rattle.rgctx_fill.proofs.WholeTypes.{NamesClass, class_named, arguments-node}
use Rattle.cil_verify.specs.Places.{View, view_of, code_of, clauses_of}
use Rattle.cil_verify.specs.Places as checked
use Rattle.cil_verify.specs.Fits.{fits_place}
use Rattle.cil_verify.specs.States.{stack_at, states_of, handler_stack, arrived, first_refused}
use Rattle.cil_verify.specs.WellTyped.{has_instructions, flow_or_pass, IsGoodMethod, IsWellTyped}
use Rattle.cil_verify.specs.Forms.{is_catch, first_unbuilt}
use Rattle.cil_verify.proofs.StatesLemmas.{state_is_given}
use Rattle.cil_flow.specs.declared.state.StackType.{StackType}
use Rattle.cil_meaning.specs.Naming.{Mention, put_type}
use Rattle.cil_meaning.specs.Search.{clauses_in}
use Rattle.cil_meaning.specs.Threads.{owner_of, method_tree}
use Rattle.cil_meaning.specs.Types.{put_place, object_place, arguments_with}
use Rattle.cil_safety.proofs.Sorts.{sort_of, sorts_of}
use Rattle.cil_safety.proofs.Fit.{IsInstance, meets_put}
use Rattle.cil_safety.proofs.Pieces.{HasHandlers, IntoPlace}
use Rattle.cil_safety.proofs.PlaceForms.{PlacesAlike, FitsPlaces}
use Rattle.cil_safety.proofs.CallPieces.{FitsTypes}
use Rattle.cil_safety.proofs.MemberForms.{pointer_is}
use Rattle.cil_safety.proofs.Laws.{BeginsAlone, BeginsMain}
use Rattle.cil_safety.proofs.ObjectForms.{plain_put}
use Rattle.cil_safety.proofs.PlainTypes.{plain_is, plain_closed, number_plain, class_of_plain, arguments_plain}
use Rattle.cil_safety.proofs.Built.{IsBuilt, all_built}
use Rattle.cil_safety.proofs.Signatures.{AreApart, methods_apart}
use Rattle.cil_safety.proofs.Uppers.{PlainClasses}
use Rattle.cil_safety.proofs.TextClasses.{plain_classes}
use Rattle.cil_safety.proofs.Texts.{HasTextFacts, text_facts}

-- what is known of a program of an accepted text that passed the verifier
pub record IsAccepted (p : Program) : Type 0 where
  pub built : IsBuilt p
  pub typed : IsWellTyped p
  pub scoped : IsScoped p
  pub leaves : HasLeaves p
  pub facts : HasTextFacts p
  pub apart : (number : ℕ) (c : ClassDef) → slice_get p.classes number ≡ Some c → AreApart p c.methods
  pub classes : PlainClasses p

pub accepted : (p : Program) → IsOfText p → first_unbuilt p ≡ None → IsWellTyped p → IsAccepted p
accepted p of none typed = let built = all_built p none in record { built = built; typed = typed; classes = plain_classes p of built typed; scoped = text-scoped p of; leaves = text-leaves p of; facts = text_facts p of; apart = methods_apart p of }

-- ---- no arguments are put

parts_same : (f : TExpr → TExpr) (ts : List TExpr) → AllByRecursion (λ t. f t ≡ t) ts → map f ts ≡ ts
parts_same f [] all = refl
parts_same f (t ∷ ts) all = ap (λ z. z ∷ map f ts) all.0 ∙ ap (λ zs. t ∷ zs) (parts_same f ts all.1)

pub nothing_put : (t : TExpr) → substituted [] [] t ≡ t
nothing_put = holds_of_trees (λ t. substituted [] [] t ≡ t)
    (λ h parts each. substituted-node [] [] h parts ∙ ap (node h) (parts_same (substituted [] []) parts each))
    (λ n. substituted-class_var [] [] n)
    (λ n. substituted-method_var [] [] n)

module _ (p : Program) (ok : IsAccepted p) where
  pub vars_none : (number : ℕ) → vars_in (slice_get p.classes number) ≡ []
  vars_none number = by_class (slice_get p.classes number) refl
    where
      by_class : (o : Option ClassDef) → slice_get p.classes number ≡ o → vars_in o ≡ []
      by_class None is = refl
      by_class (Some c) is = (ok.built.classes number c is).vars

  -- a definition applied to its own variables has none
  pub own_plain : (number : ℕ) → own_of p number ≡ plain number
  own_plain number = by_class (slice_get p.classes number) refl
    where
      by_class : (o : Option ClassDef) → slice_get p.classes number ≡ o → own_of_class number o ≡ plain number
      by_class None is = refl
      by_class (Some c) is = ap (λ (vs : List VarDef). own_of_class number (Some (record c { vars = vs }))) (ok.built.classes number c is).vars

  pub value_plain : (number : ℕ) → is_value p (plain number) ≡ is_struct_class (slice_get p.classes number)
  value_plain number = ap (is_value_top p (plain number)) (top_of-tree_of (Node (head.Class number) [])) ∙ ap is_struct_class (class_of_plain p number)

  -- ---- methods

  pub good : (number : ℕ) (d : MethodDef) → method_at p number ≡ Some d → IsGoodMethod p number d
  good number d is = ok.typed.methods.each number d is

  no_clause : (cs : List Clause) → list_any (λ (c : Clause). is_catch c.sort) cs ≡ false → AllByRecursion (λ (c : Clause). is_catch c.sort ≡ true) cs → cs ≡ []
  no_clause [] none all = refl
  no_clause (c ∷ cs) none all = absurd (let q : list_any (λ (c : Clause). is_catch c.sort) (c ∷ cs) ≡ true = rw all.0 refl in cc (q, none))

  pub no_clauses : (number : ℕ) (d : MethodDef) → method_at p number ≡ Some d → clauses_of d.body ≡ []
  no_clauses number d is = no_clause (clauses_of d.body) (ok.built.methods number d is).no_catch (ok.facts.methods number d is).catches

  same_clauses : (o : Option Body) → clauses_in o ≡ clauses_of o
  same_clauses None = refl
  same_clauses (Some b) = refl

  -- no handler is there
  pub handlers_well : (n : Naming Mention TExpr) → HasHandlers p n
  handlers_well n = record { each = λ m d is k c at. absurd (none_there (clauses_in d.body) (same_clauses d.body ∙ no_clauses m.method d is.is) k c at) }
    where
      none_there : (cs : List Clause) → cs ≡ [] → (k : ℕ) (c : Clause) → slice_get cs k ≡ Some c → ⊥
      none_there [] e k c at = cc at
      none_there (x ∷ xs) e k c at = cc e

  -- what the rules on a body give of the body that is there
  pub record HasGoodCode (d : MethodDef) (b : Body) : Type 0 where
    pub flows : first_fault (is_some d.result) b ≡ None
    pub passed : first_refused (view_of p d) ≡ None

  pub good_code : (number : ℕ) (d : MethodDef) (b : Body) → method_at p number ≡ Some d → d.body ≡ Some b → HasGoodCode d b
  good_code number d b is has = by_flow (first_fault (is_some d.result) b) refl (subst (λ o. option_and_then (λ (b' : Body). flow_or_pass (first_fault (is_some d.result) b') (first_refused (view_of p d))) o ≡ None) has (good number d is).body.none)
    where
      by_flow : (o : Option FlowFault) → first_fault (is_some d.result) b ≡ o → flow_or_pass o (first_refused (view_of p d)) ≡ None → HasGoodCode d b
      by_flow None flows e = record { flows = flows; passed = e }
      by_flow (Some f) flows e = absurd (cc e)

  -- a method that is not abstract has a body with an instruction
  pub record HasCode (d : MethodDef) : Type 0 where
    pub body : Body
    pub has : d.body ≡ Some body
    pub some : 0 < length body.code

  pub code_there : (number : ℕ) (d : MethodDef) → method_at p number ≡ Some d → is_abstract_shape d.shape ≡ false → HasCode d
  code_there number d is no' = by_body d.body refl (subst (λ b. (if b then is_none d.body else has_instructions d.body) ≡ true) no' (good number d is).head.0.body)
    where
      by_body : (o : Option Body) → d.body ≡ o → has_instructions o ≡ true → HasCode d
      by_body None has e = absurd (cc e)
      by_body (Some b) has e = record { body = b; has = has; some = ltb-true 0 (length b.code) e }

  -- nothing is on the stack where a body begins
  pub first_state : (number : ℕ) (d : MethodDef) → method_at p number ≡ Some d → 0 < length (code_of d.body) → stack_at (states_of (view_of p d)) 0 ≡ []
  first_state number d is some =
      unwrap_or-slice_get (states_of (view_of p d)) 0 []
      ∙ state_is_given (view_of p d) 0 some
      ∙ ap (λ cs. if begins_handler cs 0 then handler_stack cs 0 else unwrap_or (arrived (view_of p d) (states_of (view_of p d)) 0 0) []) (no_clauses number d is)

  -- ---- instances

  -- the instantiation of a method without variables
  abbrev pub bare_tree : ℕ → MethodDef → MethodTree
  bare_tree number d = record { method = number; class = plain d.owner; args = [] }

  module _ (n : Naming Mention TExpr) where
    -- an instance is of the class itself, and has no arguments
    pub record IsBareInstance (m : MethodTree) (d : MethodDef) : Type 0 where
      pub class : m.class ≡ plain d.owner
      pub args : m.args ≡ []

    pub bare_instance : (m : MethodTree) (d : MethodDef) → IsInstance p n m d → IsBareInstance m d
    bare_instance m d i =
        let c : NamesClass m.class d.owner = class_named m.class d.owner i.owner in
        let a : arguments_of m.class ≡ c.parts = ap arguments_of c.is ∙ arguments-node (head.Class d.owner) c.parts in
        let count : length c.parts ≡ 0 = ap length (sym a) ∙ i.class_count ∙ ap length (vars_none d.owner) in
        let none : length m.args ≡ 0 = i.count ∙ ap length (ok.built.methods m.method d i.is).vars in
        record { class = c.is ∙ ap (node (head.Class d.owner)) (empty c.parts count); args = empty m.args none }
      where
        empty : (ts : List TExpr) → length ts ≡ 0 → ts ≡ []
        empty [] e = refl
        empty (t ∷ ts) e = absurd (omega (arith, e))

    -- so nothing changes a type
    pub put_any : (m : MethodTree) (d : MethodDef) → IsInstance p n m d → (t : TExpr) → put_type m t ≡ t
    put_any m d i t =
        let b = bare_instance m d i in
        ap (λ z. substituted z m.args t) (ap arguments_of b.class ∙ arguments_plain d.owner) ∙ ap (λ z. substituted [] z t) b.args ∙ nothing_put t

    pub instance_there : (number : ℕ) (d : MethodDef) → method_at p number ≡ Some d → IsInstance p n (bare_tree number d) d
    instance_there number d is = record {
      is = is;
      owner = number_plain d.owner;
      class = plain_closed (plain d.owner) (plain_is d.owner);
      args = All-nil IsClosed;
      class_count = ap length (arguments_plain d.owner) ∙ sym (ap length (vars_none d.owner));
      count = sym (ap length (ok.built.methods number d is).vars);
      class_bounds = ap (λ (vs : List VarDef). list_all (meets_put p n (bare_tree number d)) (zip vs (arguments_of (plain d.owner)))) (vars_none d.owner);
      bounds = ap (λ (vs : List VarDef). list_all (meets_put p n (bare_tree number d)) (zip vs [])) (ok.built.methods number d is).vars;
    }

    first_item : {A : Type 0} (xs : List A) → 0 < length xs → (x : A) × (slice_get xs 0 ≡ Some x)
    first_item [] lt = absurd (omega (arith, lt))
    first_item (x ∷ xs) lt = (x, refl)

    -- a method with code begins alone
    pub begins_alone : (number : ℕ) (d : MethodDef) → method_at p number ≡ Some d → (c : HasCode d) → BeginsAlone p n (bare_tree number d) d
    begins_alone number d is c =
        let first = first_item c.body.code c.some in
        let some : 0 < length (code_of d.body) = subst (λ o. 0 < length (code_of o)) (sym c.has) c.some in
        record {
          instance = instance_there number d is;
          op = first.0;
          code = subst (λ (o : Option Body). option_and_then (λ (b : Body). slice_get b.code 0) o ≡ Some first.0) (sym c.has) first.1;
          empty = ap (λ z. sorts_of p (bare_tree number d) (reverse z)) (first_state number d is some);
        }

    -- ---- Main

    pub begins_main : BeginsMain p n
    begins_main =
        let b = ok.facts.main ok.leaves.main ok.leaves.main_is in
        let c : HasCode ok.leaves.main = code_there p.main ok.leaves.main ok.leaves.main_is (ap is_abstract_shape b.shape) in
        let tree : method_tree p p.main ≡ bare_tree p.main ok.leaves.main = ap (λ (o : Option MethodDef). record { method = p.main; class = plain (owner_of o); args = [] }) ok.leaves.main_is in
        record {
          definition = ok.leaves.main;
          is = ok.leaves.main_is;
          begins = subst (λ z. BeginsAlone p n z ok.leaves.main) (sym tree) (begins_alone p.main ok.leaves.main ok.leaves.main_is c);
          takes = rw (b.shape, b.params) refl;
        }

    -- ---- the places of an instance

    pub places_alike : (m : MethodTree) (d : MethodDef) → IsInstance p n m d → PlacesAlike p d m
    places_alike m d i = record { args_are = by_object (takes_object d.shape) }
      where
        object_same : object_place p m.class ≡ put_place m (checked.object_place p d)
        object_same =
            let b = bare_instance m d i in
            ap (object_place p) b.class
            ∙ ap (λ z. if z then ptype.Pointer (plain d.owner) else ptype.Value (plain d.owner)) (value_plain d.owner)
            ∙ by_struct (is_struct_class (slice_get p.classes d.owner))
          where
            there : plain d.owner ≡ put_type m (own_of p d.owner)
            there = sym (ap (put_type m) (own_plain d.owner) ∙ plain_put p m d.owner)

            by_struct : (b : Bool) → (if b then ptype.Pointer (plain d.owner) else ptype.Value (plain d.owner)) ≡ put_place m (if b then ptype.Pointer (own_of p d.owner) else ptype.Value (own_of p d.owner))
            by_struct true = ap ptype.Pointer there
            by_struct false = ap ptype.Value there

        by_object : (b : Bool) → arguments_with b (object_place p m.class) (map (put_place m) d.params) ≡ map (put_place m) (if b then (checked.object_place p d ∷ d.params) else d.params)
        by_object true = ap (λ z. z ∷ map (put_place m) d.params) object_same
        by_object false = refl

    -- what fits types fits places
    pub places_fit : (m : MethodTree) (d : MethodDef) → FitsTypes p d m → FitsPlaces p d m
    places_fit m d well = record { into = by_place }
      where
        by_place : (t : PType) (a : StackType) → fits_place (view_of p d) t a ≡ true → IntoPlace p (sort_of p m a) (put_place m t)
        by_place (ptype.Value t) a e = well.into t a e
        by_place (ptype.Pointer t) a e = ap (sort_of p m) (pointer_is t a e)
        by_place ptype.Native a e = absurd (cc e)
