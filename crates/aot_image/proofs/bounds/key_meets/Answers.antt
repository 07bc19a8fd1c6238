use Rattle.std.proofs.Common.{◌≡◌, ◌∙◌, Bool, true, false, IfOk, length, take, drop, zip, sym, subst, rules}
use Rattle.std.specs.List.{list_all}
use Rattle.rgctx_template.specs.BodyRows.{part_meets, class_arguments, method_arguments}
use Rattle.aot_image.proofs.JudgingLemmas.{key_fails, key_rest}
use Rattle.aot_image.proofs.bounds.key_meets.Goals as goal

pub returns-then-not-branch : goal.returns-then-not-branch
returns-then-not-branch c =
    let front : c.split_at.result.0.now ≡ take (length c.args.of_class.now) c.args.parts.now = search rules in
    let back : c.split_at.result.1.now ≡ drop (length c.args.of_class.now) c.args.parts.now = search rules in
    let of_class : c.as_slice.result.now ≡ class_arguments 0 c.split_at.result.0.now = cc (c.in_ok-class_args.ensures {u = tt}) in
    let of_method : c.as_slice-2.result.now ≡ method_arguments 0 c.split_at.result.1.now = cc (c.in_ok-method_args.ensures {u = tt}) in
    let fails : list_all (part_meets c.args.program.now c.as_slice.result.now c.as_slice-2.result.now) (zip c.args.of_class.now c.split_at.result.0.now) ≡ false =
    sym (c.in_ok-parts_meet.ensures {u = tt}) ∙ c.if-not-branch.true in
    key_fails c.args.program.now c.args.of_class.now c.args.of_method.now c.args.parts.now c.split_at.result.0.now c.split_at.result.1.now c.as_slice.result.now c.as_slice-2.result.now front back
    of_class of_method fails

pub returns : goal.returns
returns c =
    let front : c.split_at.result.0.now ≡ take (length c.args.of_class.now) c.args.parts.now = search rules in
    let back : c.split_at.result.1.now ≡ drop (length c.args.of_class.now) c.args.parts.now = search rules in
    let of_class : c.as_slice-3.result.now ≡ class_arguments 0 c.split_at.result.0.now = cc (c.in_ok-class_args.ensures {u = tt}) in
    let of_method : c.as_slice-4.result.now ≡ method_arguments 0 c.split_at.result.1.now = cc (c.in_ok-method_args.ensures {u = tt}) in
    let first : list_all (part_meets c.args.program.now c.as_slice.result.now c.as_slice-2.result.now) (zip c.args.of_class.now c.split_at.result.0.now) ≡ true =
    sym (c.in_ok-parts_meet.ensures {u = tt}) ∙ c.if-not-branch.false in
    let same : c.as_slice.result.now ≡ c.as_slice-3.result.now = cc in
    let other : c.as_slice-2.result.now ≡ c.as_slice-4.result.now = cc in
    let passes : list_all (part_meets c.args.program.now c.as_slice-3.result.now c.as_slice-4.result.now) (zip c.args.of_class.now c.split_at.result.0.now) ≡ true = rw (← same, ← other) first in
    subst (λ (b : Bool). IfOk c.parts_meet-2.result (λ answer. answer ≡ b))
    (key_rest c.args.program.now c.args.of_class.now c.args.of_method.now c.args.parts.now c.split_at.result.0.now c.split_at.result.1.now c.as_slice-3.result.now c.as_slice-4.result.now front back
    of_class of_method passes)
    c.parts_meet-2.ensures
