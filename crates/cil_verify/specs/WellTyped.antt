-- Well-typed programs, and the first refusal of any other. This project's own.
use Rattle.std.specs.Prelude.{◌≡◌, ◌≤◌, ◌<◌, ℕ, ◌+◌, Bool, true, false, not, ◌&&◌, ◌||◌, List, [], ◌∷◌, ◌++◌, length, map, flat_map, slice_get, max, fold, is_none, is_some, nat_lt, Option, Some, None, option_and_then, option_to_list, if◌then◌else◌, ◌⊎◌}
use Rattle.std.specs.List.{list_all, list_any}
use Rattle.type_tree.specs.declared.tree.TExpr.{TExpr}
use Rattle.il_model.specs.declared.class.ClassDef.{ClassDef}
use Rattle.il_model.specs.declared.method.PType.{PType}
use Rattle.il_model.specs.declared.method.PType.TheVariants as ptype
use Rattle.il_model.specs.declared.method.Sort.{Sort}
use Rattle.il_model.specs.declared.method.Sort.TheVariants as sort
use Rattle.il_model.specs.declared.method.Body.{Body}
use Rattle.il_model.specs.declared.method.MethodDef.{MethodDef}
use Rattle.il_model.specs.declared.entry.Def.TheVariants as def
use Rattle.il_model.specs.declared.program.Program.{Program}
use Rattle.il_model.specs.Bases.{own_of}
use Rattle.il_model.specs.Slots.{is_interface_class}
use Rattle.il_model.specs.Admission.{limit_of}
use Rattle.il_model.specs.Entries.{template_of}
use Rattle.il_model.specs.Methods.{types_of_places}
use Rattle.il_model.specs.ClassRules.{HasHierarchy, HasLayout, HasBounds, HasImplementations, HasFewSlots, meets_bounds, bounds_written, has_counts, is_abstract_shape}
use Rattle.cil_flow.specs.declared.state.StackType.{StackType}
use Rattle.cil_flow.specs.declared.fault.FlowFault.{FlowFault}
use Rattle.cil_flow.specs.declared.fault.FlowCause.{FlowCause}
use Rattle.cil_flow.specs.declared.fault.FlowCause.TheVariants as flow_cause
use Rattle.cil_flow.specs.Flow.{first_fault}
use Rattle.cil_verify.specs.declared.fault.Where.TheVariants as at
use Rattle.cil_verify.specs.declared.fault.VerifyCause.{VerifyCause}
use Rattle.cil_verify.specs.declared.fault.VerifyCause.TheVariants as cause
use Rattle.cil_verify.specs.declared.fault.VerifyFault.{VerifyFault}
use Rattle.cil_verify.specs.Places.{view_of, scope_of, locals_of, clauses_of, argument_places}
use Rattle.cil_verify.specs.States.{Refusal, states_of, first_refused}

-- ---- the shape of a method

abbrev pub is_native_place : PType → Bool
is_native_place (ptype.Value t) = false
is_native_place (ptype.Pointer t) = false
is_native_place ptype.Native = true

abbrev pub has_instructions : Option Body → Bool
has_instructions (Some b) = nat_lt 0 (length b.code)
has_instructions None = false

-- an abstract method has no body, and every other has one with an instruction
abbrev pub has_its_body : MethodDef → Bool
has_its_body m = if is_abstract_shape m.shape then is_none m.body else has_instructions m.body

-- in an interface every method is abstract
abbrev pub suits_class : Program → MethodDef → Bool
suits_class program m = not (is_interface_class (slice_get program.classes m.owner)) || is_abstract_shape m.shape

-- a type with a wrong number of arguments is passed over here, and refused for its bounds
abbrev pub is_not_refused : Program → TExpr → Bool
is_not_refused program t = not (has_counts program t) || is_none (limit_of program t)

-- what Main needs besides: its class and the types of its locals are admitted
abbrev pub is_admitted_main : Program → MethodDef → Bool
is_admitted_main program m =
    is_none (limit_of program (own_of program m.owner)) && list_all (is_not_refused program) (types_of_places (locals_of m.body))

-- the rule on the shape of the method with this number
pub record HasShape (program : Program) (number : ℕ) (m : MethodDef) : Type 0 where
  pub suits : suits_class program m ≡ true
  pub no_native : list_any is_native_place (m.params ++ locals_of m.body) ≡ false
  pub body : has_its_body m ≡ true
  pub main : number ≡ program.main → is_admitted_main program m ≡ true

-- ---- clauses, bounds, flow, places and entries of a method

-- the most clauses of a method
abbrev pub most_clauses : ℕ
most_clauses = 32

pub record HasFewClauses (program : Program) (number : ℕ) (m : MethodDef) : Type 0 where
  pub few : length (clauses_of m.body) ≤ most_clauses

abbrev pub type_of_sort : Sort → List TExpr
type_of_sort (sort.Catch t) = t ∷ []
type_of_sort sort.Finally = []

-- the types that a method's head, locals and clauses write
abbrev pub types_of_method : MethodDef → List TExpr
types_of_method m =
    bounds_written m.vars ++ (types_of_places m.params ++ (option_to_list m.result ++
    (types_of_places (locals_of m.body) ++ flat_map (λ c. type_of_sort c.sort) (clauses_of m.body))))

pub record MeetsBounds (program : Program) (number : ℕ) (m : MethodDef) : Type 0 where
  pub met : list_all (meets_bounds program (scope_of program m)) (types_of_method m) ≡ true

abbrev pub flow_cause_of : FlowCause → VerifyCause
flow_cause_of flow_cause.BadFlow = cause.BadFlow
flow_cause_of flow_cause.Underflow = cause.Underflow

abbrev pub refusal_of_flow : FlowFault → Refusal
refusal_of_flow f = record { instr = f.instr; cause = flow_cause_of f.cause }

abbrev pub flow_or_pass : Option FlowFault → Option Refusal → Option Refusal
flow_or_pass (Some f) pass = Some (refusal_of_flow f)
flow_or_pass None pass = pass

-- the first instruction of a body that is refused, by its flow or else by the forward pass
abbrev pub refused_in_body : Program → MethodDef → Body → Option Refusal
refused_in_body program m b = flow_or_pass (first_fault (is_some m.result) b) (first_refused (view_of program m))

abbrev pub refused_in : Program → MethodDef → Option Refusal
refused_in program m = option_and_then (refused_in_body program m) m.body

-- neither the flow nor the forward pass refuses an instruction
pub record HasGoodBody (program : Program) (number : ℕ) (m : MethodDef) : Type 0 where
  pub none : refused_in program m ≡ None

-- the deepest stack of a body
abbrev pub deepest : List (List StackType) → ℕ
deepest states = fold max 0 (map length states)

-- the places of a method: its arguments, its locals and its deepest stack
abbrev pub place_count : Program → MethodDef → ℕ
place_count program m = length (argument_places program m) + (length (locals_of m.body) + deepest (states_of (view_of program m)))

-- the most places of a method
abbrev pub most_places : ℕ
most_places = 120

pub record HasFewPlaces (program : Program) (number : ℕ) (m : MethodDef) : Type 0 where
  pub few : place_count program m ≤ most_places

-- the most entries of a method's template
abbrev pub most_entries : ℕ
most_entries = 224

pub record HasFewEntries (program : Program) (number : ℕ) (m : MethodDef) : Type 0 where
  pub few : length (template_of program (def.Method number)) ≤ most_entries

-- ---- rules in order

-- a rule on a class or a method, with the cause of its refusal
pub record Rule (D : Type 0) : Type 1 where
  pub cause : VerifyCause
  pub holds : Program → ℕ → D → Type 0

abbrev pub rule : {D : Type 0} → VerifyCause → (Program → ℕ → D → Type 0) → Rule D
rule c h = record { cause = c; holds = h }

-- the rules that all classes are judged by before any other rule
abbrev pub first_class_rules : List (Rule ClassDef)
first_class_rules = rule cause.BadHierarchy HasHierarchy ∷ rule cause.BadLayout HasLayout ∷ []

abbrev pub later_class_rules : List (Rule ClassDef)
later_class_rules =
    rule cause.BadConstraint HasBounds ∷ rule cause.MissingImplementation HasImplementations ∷ rule cause.TooManySlots HasFewSlots ∷ []

-- the rules on a method that come before its body's
abbrev pub head_rules : List (Rule MethodDef)
head_rules =
    rule cause.BadMember HasShape ∷ rule cause.TooManyClauses HasFewClauses ∷ rule cause.BadConstraint MeetsBounds ∷ []

-- the rules on a method that come after its body's
abbrev pub size_rules : List (Rule MethodDef)
size_rules = rule cause.TooManyPlaces HasFewPlaces ∷ rule cause.TooManyEntries HasFewEntries ∷ []

-- all of the rules hold
abbrev pub HoldAll : {D : Type 0} → List (Rule D) → Program → ℕ → D → Type 0
HoldAll [] program number d = Unit {0}
HoldAll (r ∷ rs) program number d = r.holds program number d × HoldAll rs program number d

-- the first of the rules that does not hold has this cause
abbrev pub FirstBroken : {D : Type 0} → List (Rule D) → Program → ℕ → D → VerifyCause → Type 0
FirstBroken [] program number d c = ⊥
FirstBroken (r ∷ rs) program number d c =
    (¬ (r.holds program number d) × (c ≡ r.cause)) ⊎ (r.holds program number d × FirstBroken rs program number d c)

-- the rules on a whole method
pub record IsGoodMethod (program : Program) (number : ℕ) (m : MethodDef) : Type 0 where
  pub head : HoldAll head_rules program number m
  pub body : HasGoodBody program number m
  pub sizes : HoldAll size_rules program number m

-- ---- programs

-- it holds for each of the list, with its number
pub record Each {D : Type 0} (P : ℕ → D → Type 0) (ds : List D) : Type 0 where
  pub each : (number : ℕ) (d : D) → slice_get ds number ≡ Some d → P number d

-- it holds for each of the list before this number
pub record EachBefore {D : Type 0} (P : ℕ → D → Type 0) (ds : List D) (count : ℕ) : Type 0 where
  pub each : (number : ℕ) (d : D) → number < count → slice_get ds number ≡ Some d → P number d

-- a program that is accepted
pub record IsWellTyped (program : Program) : Type 0 where
  pub first : Each (HoldAll first_class_rules program) program.classes
  pub later : Each (HoldAll later_class_rules program) program.classes
  pub methods : Each (IsGoodMethod program) program.methods

-- why a method is refused, and where: by a rule on its head, at an instruction, or by its size
pub data IsRefusedMethod (program : Program) (number : ℕ) (m : MethodDef) : VerifyFault → Type 0 where
  by_head : (c : VerifyCause) → FirstBroken head_rules program number m c →
      IsRefusedMethod program number m (record { at = at.Method number; cause = c })
  by_body : (r : Refusal) → HoldAll head_rules program number m → refused_in program m ≡ Some r →
      IsRefusedMethod program number m (record { at = at.Instr number r.instr; cause = r.cause })
  by_size : (c : VerifyCause) → HoldAll head_rules program number m → HasGoodBody program number m → FirstBroken size_rules program number m c →
      IsRefusedMethod program number m (record { at = at.Method number; cause = c })

-- the first refusal of a program: of a class by its hierarchy or its layout, then of a class by another rule, then of a method
pub data IsFirstRefusal (program : Program) : VerifyFault → Type 0 where
  of_class : (number : ℕ) (c : ClassDef) (why : VerifyCause) → slice_get program.classes number ≡ Some c →
      EachBefore (HoldAll first_class_rules program) program.classes number → FirstBroken first_class_rules program number c why →
      IsFirstRefusal program (record { at = at.Class number; cause = why })
  of_class_later : (number : ℕ) (c : ClassDef) (why : VerifyCause) → slice_get program.classes number ≡ Some c →
      Each (HoldAll first_class_rules program) program.classes →
      EachBefore (HoldAll later_class_rules program) program.classes number → FirstBroken later_class_rules program number c why →
      IsFirstRefusal program (record { at = at.Class number; cause = why })
  of_method : (number : ℕ) (m : MethodDef) (fault : VerifyFault) → slice_get program.methods number ≡ Some m →
      Each (HoldAll first_class_rules program) program.classes → Each (HoldAll later_class_rules program) program.classes →
      EachBefore (IsGoodMethod program) program.methods number → IsRefusedMethod program number m fault →
      IsFirstRefusal program fault
