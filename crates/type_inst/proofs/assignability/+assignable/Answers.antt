use Rattle.std.proofs.Common.{◌≡◌, Bool, true, false, IfOk, Some, subst, sym, ◌∙◌}
use Rattle.il_model.specs.Kinds.{is_reference}
use Rattle.il_model.specs.Assignable.{element_of, is_assignable_flat, is_assignable}
use Rattle.type_inst.proofs.AssignableLemmas.{assignable-vectors, last_answers}
use Rattle.type_inst.proofs.assignability.+assignable.Goals as goal

pub returns : goal.returns
returns t c =
    let p = c.args.program.now in
    let t = c.args.from.now in
    let u = c.args.to.now in
    let a = c.in-Some.element.now in
    let b = c.in-Some-element_of.other.now in
    let from : element_of t ≡ Some a = sym (c.in-Some.ensures {u = tt}) in
    let to : element_of u ≡ Some b = sym (c.in-Some-element_of.ensures {u = tt}) in
    let flat : is_assignable_flat p t u ≡ false = sym (c.in_ok-is_assignable_flat.ensures {u = tt}) ∙ c.if-branch.false in
    let first : is_reference p a ≡ true = sym (c.if-not-is_reference.ensures {u = tt}) in
    let second : is_reference p b ≡ true = sym (c.if-not-is_reference-2.ensures {u = tt}) in
    let whole : is_assignable p t u ≡ is_assignable p a b =
    assignable-vectors p t u a b from to
    ∙ last_answers (is_assignable_flat p t u) (is_reference p a) (is_reference p b) (is_assignable p a b) flat first second in
    subst (λ (answer : Bool). IfOk c.assignable.result (λ given. given ≡ answer)) (sym whole) c.assignable.ensures
