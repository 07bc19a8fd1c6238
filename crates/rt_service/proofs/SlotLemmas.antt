-- No slot is for a method so far behind the first of its interface.
use Rattle.std.proofs.Common.{◌≡◌, ℕ, ◌≤◌, ◌<◌, Bool, true, false, nat_lt, length, position, Option, Some, None, if◌then◌else◌, refl, sym, ap, subst, arith}
use Rattle.std.specs.Prelude.{IfSome, option_map}
use Rattle.std.proofs.lemmas.Bool.Decides.{nat_tests}
use Rattle.type_tree.specs.declared.tree.TExpr.{TExpr}
use Rattle.type_tree.specs.Same.{is_same}
use Rattle.il_model.specs.declared.program.Program.{Program}
use Rattle.il_model.specs.Bases.{with_args_of, definition_of}
use Rattle.il_model.specs.Interfaces.{interfaces_of}
use Rattle.il_model.specs.Slots.{is_interface, own_methods_of, implementation_of}
use Rattle.il_model.specs.ClassRules.{EachClass, OfClass, HasHierarchy, HasFewSlots}
use Rattle.type_inst.proofs.NumberingLemmas.{number_at, implemented, number_low}
use Rattle.rgctx_fill.specs.TypeServices.{slot_found}

module _ (program : Program) (exact interface : TExpr) (ordinal : ℕ) (rules : EachClass HasHierarchy program) (few : OfClass HasFewSlots program exact) where
  -- the number of its slot would be among so few
  none_placed : (place : Option ℕ) → position (λ each. is_same (with_args_of exact each) interface) (interfaces_of program (definition_of program exact)) ≡ place
      → ordinal < length (own_methods_of program interface) → 224 ≤ ordinal → implementation_of program exact interface ordinal ≡ None
  none_placed None at own far = ap (option_map (number_at program exact ordinal)) at
  none_placed (Some k) at own far =
      let low : number_at program exact ordinal k < 224 = number_low program exact interface k ordinal rules few at
      (subst (λ (o : Option ℕ). IfSome o (λ number. ordinal < length (own_methods_of program interface))) (sym (implemented program exact interface k ordinal at)) own) in
      absurd (omega (arith, low, far))

  pub no_slot : 224 ≤ ordinal → slot_found program exact interface ordinal ≡ None
  no_slot far = by_kind (is_interface program interface)
    where
      by_count : (b : Bool) → nat_lt ordinal (length (own_methods_of program interface)) ≡ b → (if b then implementation_of program exact interface ordinal else None) ≡ None
      by_count true e = none_placed (position (λ each. is_same (with_args_of exact each) interface) (interfaces_of program (definition_of program exact))) refl (grind (arith, nat_tests, e)) far
      by_count false e = refl

      by_kind : (b : Bool) → (if b then (if nat_lt ordinal (length (own_methods_of program interface)) then implementation_of program exact interface ordinal else None) else None) ≡ None
      by_kind true = by_count (nat_lt ordinal (length (own_methods_of program interface))) refl
      by_kind false = refl
