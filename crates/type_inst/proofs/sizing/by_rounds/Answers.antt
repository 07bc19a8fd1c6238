use Rattle.std.proofs.Common.{◌≡◌, ℕ, List, map, ap, ◌∙◌}
use Rattle.type_inst.specs.Sizing.{word_in, rounds}
use Rattle.type_inst.proofs.SizingLemmas.{all_settled}
use Rattle.type_inst.proofs.sizing.by_rounds.Goals as goal

pub returns-then-first : goal.returns-then-first
returns-then-first c =
    let most = c.args.most in
    let rows = c.args.rows.now in
    let places = c.args.places.now in
    let first = c.in_ok-first.ensures {u = tt} in
    let words : c.as_slice.result.now ≡ rounds most rows c.args.few = c.as_slice.ensures ∙ first.words in
    λ program o. (c.in_ok-words.ensures {u = tt})
    ∙ ap (λ (ws : List ℕ). map (word_in ws) places) words
    ∙ all_settled program most rows c.args.kinds.now places c.args.few c.requires.few (first.still c.if-first.true) o
