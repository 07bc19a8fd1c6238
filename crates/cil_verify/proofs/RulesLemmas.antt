-- The later rules on classes, from the parts that are judged.
use Rattle.std.proofs.Common.{◌≡◌, ℕ, ◌+◌, ◌<◌, ◌≤◌, Bool, true, false, not, ◌||◌, ◌&&◌, inl, inr, nat_le, List, [], ◌∷◌, ◌++◌, length, map, flat_map, take, get_or, slice_get, is_some, refl, sym, ap, ◌∙◌, subst, arith}
use Rattle.std.specs.List.{list_all, list_any}
use Rattle.std.proofs.lemmas.Bool.{leb-false, lt-leb, le-leb}
use Rattle.std.proofs.lemmas.List.{length-append, length-map}
use Rattle.std.proofs.lemmas.List.Folds.{length-flat_map-take}
use Rattle.type_tree.specs.declared.tree.TExpr.{TExpr}
use Rattle.il_model.specs.declared.class.ClassDef.{ClassDef}
use Rattle.il_model.specs.declared.layout.MethodTree.{MethodTree}
use Rattle.il_model.specs.declared.program.Program.{Program}
use Rattle.il_model.specs.Bases.{own_of}
use Rattle.il_model.specs.Slots.{VirtualSlots, virtual_slots_of, own_methods_of, candidates, places_of, match_of_place, place_holds, definition_slots, is_interface_kind}
use Rattle.il_model.specs.ClassRules.{types_written, meets_bounds, is_abstract_slot, has_objects, most_slots, HasBounds, HasImplementations, HasFewSlots}
use Rattle.cil_verify.specs.declared.fault.VerifyCause.TheVariants as cause
use Rattle.cil_verify.specs.WellTyped.{FirstBroken, later_class_rules}

-- one interface more passes the limit
pub over_limit : (program : Program) (listed : List TExpr) (i : ℕ) (t : TExpr) (left most : ℕ) → i < length listed → t ≡ get_or listed i t →
    length (candidates program (take i listed)) + left ≡ most → left < length (own_methods_of program t) → nat_le (length (candidates program listed)) most ≡ false
over_limit program listed i t left most inside is before over =
    let pair : TExpr → ℕ → TExpr × ℕ = λ u number. (u, number) in
    let own : TExpr → List (TExpr × ℕ) = λ u. map (pair u) (own_methods_of program u) in
    let more : length (flat_map own (take i listed)) + length (own (get_or listed i t)) ≤ length (flat_map own listed) = length-flat_map-take own listed i t inside in
    let same : length (own (get_or listed i t)) ≡ length (own_methods_of program t) =
    ap (λ (u : TExpr). length (own u)) (sym is) ∙ length-map (own_methods_of program t) (pair t) in
    lt-leb (length (candidates program listed)) most (omega (arith, more, same, before, over))

module _ (program : Program) (number : ℕ) (c : ClassDef) (own : TExpr) (is : own ≡ own_of program number)
    (bounds : list_all (meets_bounds program (record { of_class = c.vars; of_method = [] })) (types_written c) ≡ true) where
  pub not_found : (is_interface_kind c.kind || list_all (λ place. is_some (match_of_place program own place)) (places_of program own)) ≡ false →
      FirstBroken later_class_rules program number c cause.MissingImplementation
  not_found none = inr (record { met = bounds }, inl (fails, refl))
    where
      fails : ¬ (HasImplementations program number c)
      fails h =
          let no : (is_interface_kind c.kind || list_all (λ place. is_some (match_of_place program (own_of program number) place)) (places_of program (own_of program number))) ≡ false =
          subst (λ (t : TExpr). (is_interface_kind c.kind || list_all (λ place. is_some (match_of_place program t place)) (places_of program t)) ≡ false) is none in
          let yes : (is_interface_kind c.kind || list_all (λ place. is_some (match_of_place program (own_of program number) place)) (places_of program (own_of program number))) ≡ true = h.found in
          cc

  slot_count : (slots : VirtualSlots) → slots ≡ virtual_slots_of program own → length (definition_slots program (own_of program number)) ≡ length slots.stands + length (places_of program own)
  slot_count slots are =
      ap (λ (t : TExpr). length (definition_slots program t)) (sym is)
      ∙ length-append (virtual_slots_of program own).stands (map (place_holds program own (virtual_slots_of program own)) (places_of program own))
      ∙ ap (λ (n : ℕ). length (virtual_slots_of program own).stands + n) (length-map (places_of program own) (place_holds program own (virtual_slots_of program own)))
      ∙ ap (λ (s : VirtualSlots). length s.stands + length (places_of program own)) (sym are)

  pub too_many_slots : (slots : VirtualSlots) → slots ≡ virtual_slots_of program own →
      (is_interface_kind c.kind || list_all (λ place. is_some (match_of_place program own place)) (places_of program own)) ≡ true →
      (not (has_objects c.kind) || not (list_any (is_abstract_slot program) slots.stands)) ≡ true →
      nat_le (length slots.stands + length (places_of program own)) most_slots ≡ false →
      FirstBroken later_class_rules program number c cause.TooManySlots
  too_many_slots slots are found complete many =
      inr (
        record { met = bounds },
        inr (
          record {
            found = subst (λ (t : TExpr). (is_interface_kind c.kind || list_all (λ place. is_some (match_of_place program t place)) (places_of program t)) ≡ true) is found;
            complete =
                subst (λ (t : TExpr). (not (has_objects c.kind) || not (list_any (is_abstract_slot program) (virtual_slots_of program t).stands)) ≡ true) is
                (subst (λ (s : VirtualSlots). (not (has_objects c.kind) || not (list_any (is_abstract_slot program) s.stands)) ≡ true) are complete);
          },
          inl (fails, refl),
        ),
      )
    where
      fails : ¬ (HasFewSlots program number c)
      fails h = absurd (omega (arith, h.few, slot_count slots are, leb-false (length slots.stands + length (places_of program own)) most_slots many))
