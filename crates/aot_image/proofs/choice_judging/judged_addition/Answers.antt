use Rattle.std.proofs.Common.{◌≡◌, ◌∙◌, List, Option, ap, subst, take, drop, Some, rules, arith}
use Rattle.std.proofs.lemmas.Grind.{common_steps}
use Rattle.std.specs.Prelude.{◌==◌}
use Rattle.std.specs.List.{position_or_len}
use Rattle.il_model.specs.declared.key.KeyPart.{KeyPart}
use Rattle.aot_image.specs.ChoosingMethods.{full_of}
use Rattle.aot_image.specs.ChoosingSizes.{StandFor, AreSome, AreKeys}
use Rattle.aot_image.specs.ChoosingParts.{parts_behind}
use Rattle.aot_image.specs.ChoosingKeys.{keys_of}
use Rattle.aot_image.specs.declared.choice_keys.Keys.{Keys}
use Rattle.aot_image.specs.ChoosingLines.{added, IsJudged}
use Rattle.aot_image.proofs.ChoosingJudgingLemmas.{no_keys, keys_added}
use Rattle.aot_image.proofs.choice_judging.judged_addition.Goals as goal

pub returns-in-Ok-Some-keys_behind-clause-is : goal.returns-in-Ok-Some-keys_behind-clause-is
returns-in-Ok-Some-keys_behind-clause-is c =
    let first : c.split_at.result.0.now ≡ take (position_or_len (λ b. b == 32) c.args.line.now) c.args.line.now = c.split_at.ensures.front ∙ ap (λ n. take n c.args.line.now) c.part_len.ensures.value in
    let second : c.split_at.result.1.now ≡ drop (position_or_len (λ b. b == 32) c.args.line.now) c.args.line.now = c.split_at.ensures.back ∙ ap (λ n. drop n c.args.line.now) c.part_len.ensures.value in
    let some : Some c.as_slice.result.now ≡ full_of c.split_at.result.0.now = first_of (search rules, grind (arith, common_steps)) in
    let are : AreSome (keys_of c.args.program.now (parts_behind 32 c.split_at.result.1.now)) c.in-Ok-Some-keys_behind.keys =
    subst (λ (o : Option Keys). AreKeys (keys_of c.args.program.now (parts_behind 32 c.split_at.result.1.now)) o) c.in-Ok-Some-keys_behind.field-0-is (c.in-Ok-Some-keys_behind.ensures {u = tt}) in
    let judges : (parts : List KeyPart) → StandFor c.in-Ok-Some-keys_behind.keys parts → IsJudged (added c.args.program.now c.as_slice.result.now (Some parts)) c.added.result = c.added.ensures.is in
    keys_added c.args.program.now c.args.line.now c.split_at.result.0.now c.split_at.result.1.now first second c.as_slice.result.now c.in-Ok-Some-keys_behind.keys c.added.result some are judges

pub returns-in-Ok-None-keys_behind-clause-is : goal.returns-in-Ok-None-keys_behind-clause-is
returns-in-Ok-None-keys_behind-clause-is c =
    let first : c.split_at.result.0.now ≡ take (position_or_len (λ b. b == 32) c.args.line.now) c.args.line.now = c.split_at.ensures.front ∙ ap (λ n. take n c.args.line.now) c.part_len.ensures.value in
    let second : c.split_at.result.1.now ≡ drop (position_or_len (λ b. b == 32) c.args.line.now) c.args.line.now = c.split_at.ensures.back ∙ ap (λ n. drop n c.args.line.now) c.part_len.ensures.value in
    let some : Some c.in-Ok-Some.text.items ≡ full_of c.split_at.result.0.now = first_of (search rules, grind (arith, common_steps)) in
    no_keys c.args.program.now c.args.line.now c.split_at.result.0.now c.split_at.result.1.now first second c.in-Ok-Some.text.items some
    (subst (λ (o : Option Keys). AreKeys (keys_of c.args.program.now (parts_behind 32 c.split_at.result.1.now)) o) c.in-Ok-None-keys_behind.field-0-is (c.in-Ok-None-keys_behind.ensures {u = tt}))
