use Rattle.std.proofs.Common.{◌≡◌, ◌≤◌, ◌<◌, ◌+◌, ℕ, List, Option, Some, None, length, take, position, option_map, subst, sym, ap, ◌∙◌, arith}
use Rattle.type_tree.specs.declared.tree.TExpr.{TExpr}
use Rattle.type_tree.specs.Same.{is_same}
use Rattle.il_model.specs.Bases.{with_args_of, definition_of}
use Rattle.il_model.specs.Interfaces.{interfaces_of}
use Rattle.il_model.specs.Slots.{VirtualSlots, method_count, virtual_within, virtual_slots_of}
use Rattle.il_model.specs.ClassRules.{most_slots}
use Rattle.type_inst.specs.Matching.{seen}
use Rattle.type_inst.proofs.NumberingLemmas.{Placed, number_at, implemented, few_before, number_low}
use Rattle.type_inst.proofs.numbering.implementation.Goals as goal

pub method_count-before-requires-clause-few : goal.method_count-before-requires-clause-few
method_count-before-requires-clause-few c =
    let p = c.args.program.now in
    let exact = c.args.exact.now in
    let listed : c.as_slice.result.now ≡ interfaces_of p (definition_of p exact) =
    c.as_slice.ensures ∙ (c.in_ok-listed.ensures {u = tt}) ∙ ap (interfaces_of p) (c.in_ok-definition.ensures {u = tt}) in
    let at : Placed p exact c.args.interface.now c.in-Some.place =
    sym (ap (λ (xs : List TExpr). position (λ each. is_same (with_args_of exact each) c.args.interface.now) xs) listed) ∙ sym (c.in_ok-place.ensures {u = tt}) ∙ c.in-Some.is in
    let second : c.as_slice-2.result.now ≡ interfaces_of p (definition_of p exact) =
    c.as_slice-2.ensures ∙ (c.in_ok-listed.ensures {u = tt}) ∙ ap (interfaces_of p) (c.in_ok-definition.ensures {u = tt}) in
    subst (λ (xs : List TExpr). method_count p xs ≤ most_slots) (sym second) (few_before p exact c.args.interface.now c.in-Some.place c.requires.few at)

pub overflow_add-result : goal.overflow_add-result
overflow_add-result c =
    let p = c.args.program.now in
    let exact = c.args.exact.now in
    let listed : c.as_slice.result.now ≡ interfaces_of p (definition_of p exact) =
    c.as_slice.ensures ∙ (c.in_ok-listed.ensures {u = tt}) ∙ ap (interfaces_of p) (c.in_ok-definition.ensures {u = tt}) in
    let at : Placed p exact c.args.interface.now c.in-Some.place =
    sym (ap (λ (xs : List TExpr). position (λ each. is_same (with_args_of exact each) c.args.interface.now) xs) listed) ∙ sym (c.in_ok-place.ensures {u = tt}) ∙ c.in-Some.is in
    let second : c.as_slice-2.result.now ≡ interfaces_of p (definition_of p exact) =
    c.as_slice-2.ensures ∙ (c.in_ok-listed.ensures {u = tt}) ∙ ap (interfaces_of p) (c.in_ok-definition.ensures {u = tt}) in
    let before : c.method_count-before.result ≡ method_count p (take c.in-Some.place (interfaces_of p (definition_of p exact))) =
    c.method_count-before.ensures ∙ ap (λ (xs : List TExpr). method_count p (take c.in-Some.place xs)) second in
    let table : seen c.in_ok-slots.slots ≡ virtual_slots_of p (definition_of p exact) =
    (c.in_ok-slots.ensures {u = tt}) ∙ ap (λ (n : ℕ). virtual_within p n c.in_ok-definition.definition) c.len.ensures ∙ ap (virtual_slots_of p) (c.in_ok-definition.ensures {u = tt}) in
    let stand : c.len-2.result ≡ length (virtual_slots_of p (definition_of p exact)).stands =
    c.len-2.ensures ∙ ap (λ (s : VirtualSlots). length s.stands) table in
    let low : number_at p exact c.args.ordinal c.in-Some.place < 224 =
    number_low p exact c.args.interface.now c.in-Some.place c.args.ordinal c.requires.types.hierarchy c.requires.few at c.requires.among in
    omega (arith, low, stand, before)

pub overflow_add-result-2 : goal.overflow_add-result-2
overflow_add-result-2 c =
    let p = c.args.program.now in
    let exact = c.args.exact.now in
    let listed : c.as_slice.result.now ≡ interfaces_of p (definition_of p exact) =
    c.as_slice.ensures ∙ (c.in_ok-listed.ensures {u = tt}) ∙ ap (interfaces_of p) (c.in_ok-definition.ensures {u = tt}) in
    let at : Placed p exact c.args.interface.now c.in-Some.place =
    sym (ap (λ (xs : List TExpr). position (λ each. is_same (with_args_of exact each) c.args.interface.now) xs) listed) ∙ sym (c.in_ok-place.ensures {u = tt}) ∙ c.in-Some.is in
    let second : c.as_slice-2.result.now ≡ interfaces_of p (definition_of p exact) =
    c.as_slice-2.ensures ∙ (c.in_ok-listed.ensures {u = tt}) ∙ ap (interfaces_of p) (c.in_ok-definition.ensures {u = tt}) in
    let before : c.method_count-before.result ≡ method_count p (take c.in-Some.place (interfaces_of p (definition_of p exact))) =
    c.method_count-before.ensures ∙ ap (λ (xs : List TExpr). method_count p (take c.in-Some.place xs)) second in
    let table : seen c.in_ok-slots.slots ≡ virtual_slots_of p (definition_of p exact) =
    (c.in_ok-slots.ensures {u = tt}) ∙ ap (λ (n : ℕ). virtual_within p n c.in_ok-definition.definition) c.len.ensures ∙ ap (virtual_slots_of p) (c.in_ok-definition.ensures {u = tt}) in
    let stand : c.len-2.result ≡ length (virtual_slots_of p (definition_of p exact)).stands =
    c.len-2.ensures ∙ ap (λ (s : VirtualSlots). length s.stands) table in
    let low : number_at p exact c.args.ordinal c.in-Some.place < 224 =
    number_low p exact c.args.interface.now c.in-Some.place c.args.ordinal c.requires.types.hierarchy c.requires.few at c.requires.among in
    omega (arith, low, stand, before)

pub overflow_cast-result-2 : goal.overflow_cast-result-2
overflow_cast-result-2 c =
    let p = c.args.program.now in
    let exact = c.args.exact.now in
    let listed : c.as_slice.result.now ≡ interfaces_of p (definition_of p exact) =
    c.as_slice.ensures ∙ (c.in_ok-listed.ensures {u = tt}) ∙ ap (interfaces_of p) (c.in_ok-definition.ensures {u = tt}) in
    let at : Placed p exact c.args.interface.now c.in-Some.place =
    sym (ap (λ (xs : List TExpr). position (λ each. is_same (with_args_of exact each) c.args.interface.now) xs) listed) ∙ sym (c.in_ok-place.ensures {u = tt}) ∙ c.in-Some.is in
    let second : c.as_slice-2.result.now ≡ interfaces_of p (definition_of p exact) =
    c.as_slice-2.ensures ∙ (c.in_ok-listed.ensures {u = tt}) ∙ ap (interfaces_of p) (c.in_ok-definition.ensures {u = tt}) in
    let before : c.method_count-before.result ≡ method_count p (take c.in-Some.place (interfaces_of p (definition_of p exact))) =
    c.method_count-before.ensures ∙ ap (λ (xs : List TExpr). method_count p (take c.in-Some.place xs)) second in
    let table : seen c.in_ok-slots.slots ≡ virtual_slots_of p (definition_of p exact) =
    (c.in_ok-slots.ensures {u = tt}) ∙ ap (λ (n : ℕ). virtual_within p n c.in_ok-definition.definition) c.len.ensures ∙ ap (virtual_slots_of p) (c.in_ok-definition.ensures {u = tt}) in
    let stand : c.len-2.result ≡ length (virtual_slots_of p (definition_of p exact)).stands =
    c.len-2.ensures ∙ ap (λ (s : VirtualSlots). length s.stands) table in
    let low : number_at p exact c.args.ordinal c.in-Some.place < 224 =
    number_low p exact c.args.interface.now c.in-Some.place c.args.ordinal c.requires.types.hierarchy c.requires.few at c.requires.among in
    omega (arith, low, stand, before)

pub returns : goal.returns
returns c =
    let p = c.args.program.now in
    let exact = c.args.exact.now in
    let listed : c.as_slice.result.now ≡ interfaces_of p (definition_of p exact) =
    c.as_slice.ensures ∙ (c.in_ok-listed.ensures {u = tt}) ∙ ap (interfaces_of p) (c.in_ok-definition.ensures {u = tt}) in
    let at : Placed p exact c.args.interface.now c.in-Some.place =
    sym (ap (λ (xs : List TExpr). position (λ each. is_same (with_args_of exact each) c.args.interface.now) xs) listed) ∙ sym (c.in_ok-place.ensures {u = tt}) ∙ c.in-Some.is in
    let second : c.as_slice-2.result.now ≡ interfaces_of p (definition_of p exact) =
    c.as_slice-2.ensures ∙ (c.in_ok-listed.ensures {u = tt}) ∙ ap (interfaces_of p) (c.in_ok-definition.ensures {u = tt}) in
    let before : c.method_count-before.result ≡ method_count p (take c.in-Some.place (interfaces_of p (definition_of p exact))) =
    c.method_count-before.ensures ∙ ap (λ (xs : List TExpr). method_count p (take c.in-Some.place xs)) second in
    let table : seen c.in_ok-slots.slots ≡ virtual_slots_of p (definition_of p exact) =
    (c.in_ok-slots.ensures {u = tt}) ∙ ap (λ (n : ℕ). virtual_within p n c.in_ok-definition.definition) c.len.ensures ∙ ap (virtual_slots_of p) (c.in_ok-definition.ensures {u = tt}) in
    let stand : c.len-2.result ≡ length (virtual_slots_of p (definition_of p exact)).stands =
    c.len-2.ensures ∙ ap (λ (s : VirtualSlots). length s.stands) table in
    let whole : c.len-2.result + (c.method_count-before.result + c.args.ordinal) ≡ number_at p exact c.args.ordinal c.in-Some.place = omega (arith, stand, before) in
    ap (λ (n : ℕ). Some n) whole ∙ sym (implemented p exact c.args.interface.now c.in-Some.place c.args.ordinal at)

pub returns-in_default : goal.returns-in_default
returns-in_default c =
    let p = c.args.program.now in
    let exact = c.args.exact.now in
    let listed : c.as_slice.result.now ≡ interfaces_of p (definition_of p exact) =
    c.as_slice.ensures ∙ (c.in_ok-listed.ensures {u = tt}) ∙ ap (interfaces_of p) (c.in_ok-definition.ensures {u = tt}) in
    let none : position (λ each. is_same (with_args_of exact each) c.args.interface.now) (interfaces_of p (definition_of p exact)) ≡ None =
    sym (ap (λ (xs : List TExpr). position (λ each. is_same (with_args_of exact each) c.args.interface.now) xs) listed) ∙ sym (c.in_ok-place.ensures {u = tt}) ∙ c.in_default.is in
    sym (ap (λ (o : Option ℕ). option_map (number_at p exact c.args.ordinal) o) none)
