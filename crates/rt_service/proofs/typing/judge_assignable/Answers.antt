use Rattle.std.proofs.Common.{refl, sym, ap, ◌∙◌, subst}
use Rattle.type_tree.specs.declared.tree.TExpr.{TExpr}
use Rattle.interaction.specs.declared.turn.What.TheVariants as noted
use Rattle.cil_meaning.specs.Types.{passes_as}
use Rattle.rgctx_template.specs.Catalogue.{CatData, data_of}
use Rattle.rgctx_fill.specs.declared.thread.Want.TheVariants as answers
use Rattle.rgctx_fill.specs.ThreadStates.{ImageData, ThreadData, Move, image_of}
use Rattle.rgctx_fill.specs.ThreadStates as move
use Rattle.rgctx_fill.specs.ServiceReplies.{given, word_of_flag}
use Rattle.rgctx_fill.specs.Moves.{Span, span, Within}
use Rattle.rt_service.specs.declared.typing.Pair.{Pair}
use Rattle.rt_service.specs.Readings.{GoesOnPair}
use Rattle.rt_service.proofs.typing.judge_assignable.Goals as goal

pub returns-in_ok-passes-in-Types-clause-turn : goal.returns-in_ok-passes-in-Types-clause-turn
returns-in_ok-passes-in-Types-clause-turn g c =
    let s : ThreadData = c.args.state.now in
    let im : ImageData = image_of c.args.image.now in
    let cat : CatData = data_of c.args.image.now.cat in
    let h : Span = span (g.W.Words.alone c.args.words.now) (g.W.Words.held c.args.words.now) (g.W.Words.held c.two_types.new.words) (g.W.Words.claims c.args.words.now) (g.W.Words.claims c.two_types.new.words) in
    let within : Within h (g.W.Words.held c.args.words.now) (g.W.Words.held c.two_types.new.words) = record { later = λ j used. refl; sooner = λ j used. refl } in
    let next : TExpr → TExpr → Move = λ t u. move.Goes noted.Action (given s (word_of_flag (passes_as im.cat.program t u))) in
    c.in_ok-exact.ensures.goes h within im s next (answers.Did noted.Action) c.give.new.state
    (subst (λ (p : Pair). GoesOnPair cat h s p next (answers.Did noted.Action) c.give.new.state) (sym c.in-Types.is)
    (record { says = refl; state = c.give.ensures ∙ ap (given s) (c.word_of_flag.ensures ∙ ap word_of_flag (c.in_ok-passes-in-Types.ensures {u = tt})); claims = c.two_types.ensures.claims }))

pub returns-in-Unread-clause-turn : goal.returns-in-Unread-clause-turn
returns-in-Unread-clause-turn g c =
    let s : ThreadData = c.args.state.now in
    let im : ImageData = image_of c.args.image.now in
    let cat : CatData = data_of c.args.image.now.cat in
    let h : Span = span (g.W.Words.alone c.args.words.now) (g.W.Words.held c.args.words.now) (g.W.Words.held c.two_types.new.words) (g.W.Words.claims c.args.words.now) (g.W.Words.claims c.two_types.new.words) in
    let within : Within h (g.W.Words.held c.args.words.now) (g.W.Words.held c.two_types.new.words) = record { later = λ j used. refl; sooner = λ j used. refl } in
    let next : TExpr → TExpr → Move = λ t u. move.Goes noted.Action (given s (word_of_flag (passes_as im.cat.program t u))) in
    c.in_ok-exact.ensures.goes h within im s next c.unread.result s
    (subst (λ (p : Pair). GoesOnPair cat h s p next c.unread.result s) (sym c.in-Unread.is)
    (record { says = c.unread.ensures; state = refl; claims = c.two_types.ensures.claims }))

pub returns-in-Refused-clause-turn : goal.returns-in-Refused-clause-turn
returns-in-Refused-clause-turn g c =
    let s : ThreadData = c.args.state.now in
    let im : ImageData = image_of c.args.image.now in
    let cat : CatData = data_of c.args.image.now.cat in
    let h : Span = span (g.W.Words.alone c.args.words.now) (g.W.Words.held c.args.words.now) (g.W.Words.held c.two_types.new.words) (g.W.Words.claims c.args.words.now) (g.W.Words.claims c.two_types.new.words) in
    let within : Within h (g.W.Words.held c.args.words.now) (g.W.Words.held c.two_types.new.words) = record { later = λ j used. refl; sooner = λ j used. refl } in
    let next : TExpr → TExpr → Move = λ t u. move.Goes noted.Action (given s (word_of_flag (passes_as im.cat.program t u))) in
    c.in_ok-exact.ensures.goes h within im s next c.refuse.result s
    (subst (λ (p : Pair). GoesOnPair cat h s p next c.refuse.result s) (sym c.in-Refused.is)
    (record { says = c.refuse.ensures; state = refl; claims = c.two_types.ensures.claims }))
