use Rattle.std.proofs.Common.{refl, sym, subst}
use Rattle.rv_machine.specs.Registers.{register_of}
use Rattle.rgctx_template.specs.Catalogue.{CatData, data_of}
use Rattle.rgctx_fill.specs.declared.service.ServiceKind.{ServiceKind}
use Rattle.rgctx_fill.specs.ThreadStates.{ImageData, ThreadData, image_of}
use Rattle.rgctx_fill.specs.StoreServices.{measures, starts, ends}
use Rattle.rgctx_fill.specs.Services.{serves_as}
use Rattle.rgctx_fill.specs.Moves.{Span, span, IsMade}
use Rattle.rt_service.proofs.serving.serve_request.Goals as goal

pub returns-in-Length-clause-turn : goal.returns-in-Length-clause-turn
returns-in-Length-clause-turn g c =
    let cat : CatData = data_of c.args.image.now.cat in
    let im : ImageData = image_of c.args.image.now in
    let now : ThreadData = c.args.state.now in
    let h : Span = span (g.W.Words.alone c.args.words.now) (g.W.Words.held c.args.words.now) (g.W.Words.held c.args.words.now) (g.W.Words.claims c.args.words.now) (g.W.Words.claims c.args.words.now) in
    subst (λ (k : ServiceKind). IsMade cat h now (serves_as im now k) c.length_of.result c.length_of.new.state) (sym c.in-Length.is)
    (subst (λ (v : ThreadData). IsMade cat h now (measures im now (register_of v.core 10)) c.length_of.result c.length_of.new.state) c.state.view_is (c.length_of.ensures cat im h refl))

pub returns-in-Start-clause-turn : goal.returns-in-Start-clause-turn
returns-in-Start-clause-turn g c =
    let cat : CatData = data_of c.args.image.now.cat in
    let im : ImageData = image_of c.args.image.now in
    let now : ThreadData = c.args.state.now in
    let h : Span = span (g.W.Words.alone c.args.words.now) (g.W.Words.held c.args.words.now) (g.W.Words.held c.args.words.now) (g.W.Words.claims c.args.words.now) (g.W.Words.claims c.args.words.now) in
    subst (λ (k : ServiceKind). IsMade cat h now (serves_as im now k) c.start.result c.start.new.state) (sym c.in-Start.is)
    (subst (λ (v : ThreadData). IsMade cat h now (starts im now (register_of v.core 10)) c.start.result c.start.new.state) c.state.view_is (c.start.ensures cat im h refl))

pub returns-in-Ended-clause-turn : goal.returns-in-Ended-clause-turn
returns-in-Ended-clause-turn g c =
    let cat : CatData = data_of c.args.image.now.cat in
    let im : ImageData = image_of c.args.image.now in
    let now : ThreadData = c.args.state.now in
    let h : Span = span (g.W.Words.alone c.args.words.now) (g.W.Words.held c.args.words.now) (g.W.Words.held c.args.words.now) (g.W.Words.claims c.args.words.now) (g.W.Words.claims c.args.words.now) in
    subst (λ (k : ServiceKind). IsMade cat h now (serves_as im now k) c.ended.result c.ended.new.state) (sym c.in-Ended.is)
    (subst (λ (v : ThreadData). IsMade cat h now (ends im now (register_of v.core 10)) c.ended.result c.ended.new.state) c.state.view_is (c.ended.ensures cat im h refl))
