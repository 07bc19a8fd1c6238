use Rattle.std.proofs.Common.{◌≡◌, ◌∙◌, ap, subst, take, drop, Option}
use Rattle.std.specs.Prelude.{◌==◌}
use Rattle.std.specs.List.{position_or_len}
use Rattle.aot_image.specs.declared.choice_keys.Keys.{Keys}
use Rattle.aot_image.specs.ChoosingKeys.{key_of, with_key}
use Rattle.aot_image.specs.ChoosingSizes.{AreSome, AreKeys}
use Rattle.aot_image.proofs.ChoosingPartLemmas.{nothing_left}
use Rattle.aot_image.proofs.ChoosingKeyLemmas.{words_none, words_go, words_end}
use Rattle.aot_image.proofs.choice_keys.keys_of.Goals as goal

pub returns-in_default : goal.returns-in_default
returns-in_default c =
    let first : c.split_at.result.0.now ≡ take (position_or_len (λ b. b == 32) c.words.rest.now) c.words.rest.now = c.split_at.ensures.front ∙ ap (λ n. take n c.words.rest.now) c.part_len.ensures.value in
    let second : c.split_at.result.1.now ≡ drop (position_or_len (λ b. b == 32) c.words.rest.now) c.words.rest.now = c.split_at.ensures.back ∙ ap (λ n. drop n c.words.rest.now) c.part_len.ensures.value in
    let are : AreKeys (with_key c.words.invariant.found (key_of c.args.program.now c.split_at.result.0.now)) c.in_ok-more.field-0 =
    c.in_ok-more.ensures {u = tt} c.words.invariant.found (key_of c.args.program.now c.split_at.result.0.now) c.words.invariant.stands (c.in_ok-key_of.ensures {u = tt}) in
    words_none c.args.program.now c.args.text.now c.words.keys c.words.rest.now c.split_at.result.0.now c.split_at.result.1.now c.words.invariant first second
    (subst (λ (o : Option Keys). AreKeys (with_key c.words.invariant.found (key_of c.args.program.now c.split_at.result.0.now)) o) c.in_default.is are)

pub words-preserved : goal.words-preserved
words-preserved c =
    let first : c.split_at.result.0.now ≡ take (position_or_len (λ b. b == 32) c.words.rest.now) c.words.rest.now = c.split_at.ensures.front ∙ ap (λ n. take n c.words.rest.now) c.part_len.ensures.value in
    let second : c.split_at.result.1.now ≡ drop (position_or_len (λ b. b == 32) c.words.rest.now) c.words.rest.now = c.split_at.ensures.back ∙ ap (λ n. drop n c.words.rest.now) c.part_len.ensures.value in
    let are : AreKeys (with_key c.words.invariant.found (key_of c.args.program.now c.split_at.result.0.now)) c.in_ok-more.field-0 =
    c.in_ok-more.ensures {u = tt} c.words.invariant.found (key_of c.args.program.now c.split_at.result.0.now) c.words.invariant.stands (c.in_ok-key_of.ensures {u = tt}) in
    let some : AreSome (with_key c.words.invariant.found (key_of c.args.program.now c.split_at.result.0.now)) c.in-Some.more = subst (λ (o : Option Keys). AreKeys (with_key c.words.invariant.found (key_of c.args.program.now c.split_at.result.0.now)) o) c.in-Some.is are in
    words_go c.args.program.now c.args.text.now c.words.keys c.words.rest.now c.split_at.result.0.now c.split_at.result.1.now c.words.invariant first second c.in-Some.more some
    c.in-Some-split_first.field-0-0.now c.in-Some-split_first.next.now (c.in-Some-split_first.ensures {u = tt}).cases.0

pub returns-in-None : goal.returns-in-None
returns-in-None c =
    let first : c.split_at.result.0.now ≡ take (position_or_len (λ b. b == 32) c.words.rest.now) c.words.rest.now = c.split_at.ensures.front ∙ ap (λ n. take n c.words.rest.now) c.part_len.ensures.value in
    let second : c.split_at.result.1.now ≡ drop (position_or_len (λ b. b == 32) c.words.rest.now) c.words.rest.now = c.split_at.ensures.back ∙ ap (λ n. drop n c.words.rest.now) c.part_len.ensures.value in
    let are : AreKeys (with_key c.words.invariant.found (key_of c.args.program.now c.split_at.result.0.now)) c.in_ok-more.field-0 =
    c.in_ok-more.ensures {u = tt} c.words.invariant.found (key_of c.args.program.now c.split_at.result.0.now) c.words.invariant.stands (c.in_ok-key_of.ensures {u = tt}) in
    let some : AreSome (with_key c.words.invariant.found (key_of c.args.program.now c.split_at.result.0.now)) c.in-Some.more = subst (λ (o : Option Keys). AreKeys (with_key c.words.invariant.found (key_of c.args.program.now c.split_at.result.0.now)) o) c.in-Some.is are in
    words_end c.args.program.now c.args.text.now c.words.keys c.words.rest.now c.split_at.result.0.now c.split_at.result.1.now c.words.invariant first second c.in-Some.more some
    (nothing_left c.split_at.result.1.now (c.in-None.ensures {u = tt}).cases)
