-- The classes that written types name, and how many type variables classes have.
use Rattle.std.proofs.Common.{◌≡◌, ◌∙◌, ℕ, zero, suc, ◌-◌, ◌<◌, ◌≤◌, List, [], ◌∷◌, length, map, slice_get, slice_index_or, Some, None, refl, ap}
use Rattle.std.specs.List.{AllByRecursion}
use Rattle.std.specs.Prelude.{option_map}
use Rattle.std.proofs.Math.ListN.{get_or-append}
use Rattle.std.proofs.Math.Seq.{get_or-append_right}
use Rattle.std.proofs.lemmas.Option.{slice_get-map}
use Rattle.il_model.specs.declared.written.WrittenName.{WrittenName}
use Rattle.il_model.specs.declared.written.WrittenClass.{WrittenClass}
use Rattle.il_model.specs.declared.written.WrittenType.{WrittenType}
use Rattle.il_model.specs.declared.written.WrittenType.TheVariants as w
use Rattle.il_model.specs.declared.written.WrittenType as views
use Rattle.il_model.specs.declared.written.WrittenType.TheViews.{out-roll-WrittenType}
use Rattle.il_model.specs.declared.written.WrittenType.TheOpen.{WrittenType-F}
use Rattle.il_model.specs.Library.{library_classes}
use Rattle.il_model.specs.Names.{Scope, class_number}
use Rattle.il_parse.specs.NamedTypes.{level_class, written_class}
use Rattle.il_parse.specs.Scopes.{declared_arities}

module _ (s : Scope) (t : WrittenType) where
  pub names_object : t ≡ w.Object → written_class s t ≡ Some 0
  unfolding written_class views.roll-WrittenType denote.Hole.Carrier.roll
  names_object is = ap (written_class s) is ∙ ap (level_class s) (out-roll-WrittenType WrittenType-F.Object)

  pub names_string : t ≡ w.String → written_class s t ≡ Some 1
  unfolding written_class views.roll-WrittenType denote.Hole.Carrier.roll
  names_string is = ap (written_class s) is ∙ ap (level_class s) (out-roll-WrittenType WrittenType-F.String)

  pub names_int32 : t ≡ w.Int32 → written_class s t ≡ None
  unfolding written_class views.roll-WrittenType denote.Hole.Carrier.roll
  names_int32 is = ap (written_class s) is ∙ ap (level_class s) (out-roll-WrittenType WrittenType-F.Int32)

  pub names_int64 : t ≡ w.Int64 → written_class s t ≡ None
  unfolding written_class views.roll-WrittenType denote.Hole.Carrier.roll
  names_int64 is = ap (written_class s) is ∙ ap (level_class s) (out-roll-WrittenType WrittenType-F.Int64)

  pub names_bool : t ≡ w.Bool → written_class s t ≡ None
  unfolding written_class views.roll-WrittenType denote.Hole.Carrier.roll
  names_bool is = ap (written_class s) is ∙ ap (level_class s) (out-roll-WrittenType WrittenType-F.Bool)

  pub names_variable : (v : WrittenName) → t ≡ w.Variable v → written_class s t ≡ None
  unfolding written_class views.roll-WrittenType denote.Hole.Carrier.roll
  names_variable v is = ap (written_class s) is ∙ ap (level_class s) (out-roll-WrittenType (WrittenType-F.Variable v))

  pub names_vector : (element : WrittenType) → t ≡ w.Vector element → written_class s t ≡ None
  unfolding written_class views.roll-WrittenType denote.Hole.Carrier.roll
  names_vector element is = ap (written_class s) is ∙ ap (level_class s) (out-roll-WrittenType (WrittenType-F.Vector element))

  pub names_class : (name : WrittenName) (args : List WrittenType) → t ≡ w.Named name args → written_class s t ≡ class_number s.names name.name
  unfolding written_class views.roll-WrittenType denote.Hole.Carrier.roll
  names_class name args is = ap (written_class s) is ∙ ap (level_class s) (out-roll-WrittenType (WrittenType-F.Named name args))

-- whatever item of zeros is looked at is 0
at_zeros : (zs : List ℕ) → AllByRecursion (λ z. z ≡ 0) zs → (n : ℕ) → slice_index_or zs n 0 ≡ 0
at_zeros [] all n = refl
at_zeros (z ∷ zs) all zero = all.0
at_zeros (z ∷ zs) all (suc n) = at_zeros zs all.1 n

-- the item at a place, by whether there is one
at_some : (xs : List ℕ) (k x : ℕ) → slice_get xs k ≡ Some x → slice_index_or xs k 0 ≡ x
at_some [] k x is = absurd cc
at_some (y ∷ xs) zero x is = cc
at_some (y ∷ xs) (suc k) x is = at_some xs k x is

at_none : (xs : List ℕ) (k : ℕ) → slice_get xs k ≡ None → slice_index_or xs k 0 ≡ 0
at_none [] k is = refl
at_none (y ∷ xs) zero is = absurd cc
at_none (y ∷ xs) (suc k) is = at_none xs k is

-- the classes of the library have no variables
library_zeros : AllByRecursion (λ z. z ≡ 0) (map (λ c. length c.vars) library_classes)
library_zeros = (refl, (refl, (refl, (refl, (refl, (refl, (refl, (refl, (refl, (refl, (refl, (refl, (refl, tt)))))))))))))

module _ (classes : List WrittenClass) (number : ℕ) where
  pub arity_library : number < 13 → slice_index_or (declared_arities classes) number 0 ≡ 0
  arity_library inside =
      get_or-append (map (λ c. length c.vars) library_classes) (map (λ c. length c.vars) classes) 0 number inside ∙ at_zeros (map (λ c. length c.vars) library_classes) library_zeros number

  past_library : 13 ≤ number → slice_index_or (declared_arities classes) number 0 ≡ slice_index_or (map (λ c. length c.vars) classes) (number - 13) 0
  past_library past = get_or-append_right (map (λ c. length c.vars) library_classes) (map (λ c. length c.vars) classes) number 0 past

  pub arity_own : (c : WrittenClass) → 13 ≤ number → slice_get classes (number - 13) ≡ Some c → slice_index_or (declared_arities classes) number 0 ≡ length c.vars
  arity_own c past is =
      past_library past ∙ at_some (map (λ c. length c.vars) classes) (number - 13) (length c.vars)
      (slice_get-map (λ (d : WrittenClass). length d.vars) classes (number - 13) ∙ ap (option_map (λ (d : WrittenClass). length d.vars)) is)

  pub arity_past : 13 ≤ number → slice_get classes (number - 13) ≡ None → slice_index_or (declared_arities classes) number 0 ≡ 0
  arity_past past is =
      past_library past ∙ at_none (map (λ c. length c.vars) classes) (number - 13)
      (slice_get-map (λ (d : WrittenClass). length d.vars) classes (number - 13) ∙ ap (option_map (λ (d : WrittenClass). length d.vars)) is)
