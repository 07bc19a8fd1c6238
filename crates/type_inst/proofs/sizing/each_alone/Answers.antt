use Rattle.std.proofs.Common.{◌≡◌, ◌*◌, ℕ, List, Some, slice_get, ap, ◌∙◌, sym, arith}
use Rattle.std.proofs.lemmas.Option.{slice_get-get_or}
use Rattle.il_model.specs.Layouts.{most_trees}
use Rattle.type_tree.specs.Positions.{positions_of}
use Rattle.type_inst.specs.Sizing.{word_in, rounds}
use Rattle.type_inst.proofs.SizingLemmas.{alone_more}
use Rattle.type_inst.proofs.sizing.each_alone.Goals as goal

pub loop-i-preserved : goal.loop-i-preserved
loop-i-preserved c =
    let most = c.args.most in
    let rows = c.args.rows.now in
    let t = c.index-kinds-i.result in
    let read : slice_get c.args.places.now c.loop-i.i ≡ Some c.in-Some.place.now =
    slice_get-get_or c.args.places.now c.loop-i.i c.in-Some.place.now c.in-Some.ensures.lookup.3.0 ∙ ap Some (sym c.in-Some.ensures.lookup.1) in
    let words : c.as_slice.result.now ≡ rounds most rows (most_trees * positions_of t) =
    c.as_slice.ensures ∙ (c.in_ok-whole.ensures {u = tt}).words ∙ ap (λ (n : ℕ). rounds most rows n) (c.in_ok-levels.ensures {u = tt}) in
    let here : c.word_in.result ≡ word_in (rounds most rows (most_trees * positions_of t)) c.in-Some.place.now =
    c.word_in.ensures ∙ ap (λ (ws : List ℕ). word_in ws c.in-Some.place.now) words in
    λ program o. alone_more program most rows c.args.kinds.now c.args.places.now c.loop-i.i c.in-Some.place.now c.word_in.result t c.loop-i.all c.put_word.new.words
    o (c.loop-i.invariant program o) (omega (arith, c.loop-i-test.true)) c.index-kinds-i.is read here (c.in_ok-put_word.ensures {u = tt})
