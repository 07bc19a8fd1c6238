use Rattle.std.proofs.Common.{◌≡◌, refl, sym, ap, ◌∙◌, subst}
use Rattle.rgctx_template.specs.Catalogue.{CatData, data_of}
use Rattle.interaction.specs.declared.turn.What.TheVariants as noted
use Rattle.rgctx_fill.specs.declared.doing.Doing.{Doing}
use Rattle.rgctx_fill.specs.declared.doing.Doing.TheVariants.{Fills, Searches}
use Rattle.rgctx_fill.specs.ThreadStates.{ImageData, ThreadData, image_of, now_doing}
use Rattle.rgctx_fill.specs.ThreadTurns.{move_of}
use Rattle.rgctx_fill.specs.Moves.{Span, span, IsMade, IsGone}
use Rattle.rt_service.specs.GoingOn.{HasNoFill}
use Rattle.rt_service.proofs.serving.serve.Goals as goal

pub returns-in-Throws-clause-turn : goal.returns-in-Throws-clause-turn
returns-in-Throws-clause-turn g c =
    let cat : CatData = data_of c.args.image.now.cat in
    let im : ImageData = image_of c.args.image.now in
    let now : ThreadData = c.args.state.now in
    let h : Span = span (g.W.Words.alone c.args.words.now) (g.W.Words.held c.args.words.now) (g.W.Words.held c.args.words.now) (g.W.Words.claims c.args.words.now) (g.W.Words.claims c.args.words.now) in
    subst (λ (d : Doing). IsMade cat h now (move_of im now d) c.search.result c.search.new.state) (sym (sym (ap (λ (v : ThreadData). v.doing) c.state.view_is) ∙ c.in-Throws.is))
    (c.search.ensures cat h refl)

pub returns-in-Serves-clause-ready : goal.returns-in-Serves-clause-ready
returns-in-Serves-clause-ready g c = λ f. c.serve_number.ensures.ready f (sym (ap (λ (v : ThreadData). v.doing) c.state.view_is) ∙ c.in-Serves.is)

pub returns-in-Throws-clause-ready : goal.returns-in-Throws-clause-ready
returns-in-Throws-clause-ready g c = λ f is.
    let cat : CatData = data_of c.args.image.now.cat in
    let now : ThreadData = c.args.state.now in
    let h : Span = span (g.W.Words.alone c.args.words.now) (g.W.Words.held c.args.words.now) (g.W.Words.held c.args.words.now) (g.W.Words.claims c.args.words.now) (g.W.Words.claims c.args.words.now) in
    let searched : IsGone h noted.Action (now_doing now (Searches c.in-Throws.thrown)) c.search.result c.search.new.state = c.search.ensures cat h refl in
    let other : Searches c.in-Throws.thrown ≡ Fills f = sym (ap (λ (v : ThreadData). v.doing) searched.state) ∙ is in
    absurd (subst HasNoFill other tt)
