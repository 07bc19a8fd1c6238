use Rattle.rgctx_template.specs.Catalogue.{CatData, data_of}
use Rattle.rgctx_fill.specs.ThreadStates.{ImageData, ThreadData, image_of}
use Rattle.rgctx_fill.specs.Moves.{Span, span}
use Rattle.rt_service.proofs.QuietLemmas.{under_way}
use Rattle.rt_service.proofs.serving.serve_number.Goals as goal

pub returns-in-Some-clause-ready : goal.returns-in-Some-clause-ready
returns-in-Some-clause-ready g c = λ f was.
    let cat : CatData = data_of c.args.image.now.cat in
    let im : ImageData = image_of c.args.image.now in
    let s : ThreadData = c.args.state.now in
    let h : Span = span (g.W.Words.alone c.args.words.now) (g.W.Words.held c.args.words.now) (g.W.Words.held c.serve_as.new.words) (g.W.Words.claims c.args.words.now) (g.W.Words.claims c.serve_as.new.words) in
    under_way im cat h s c.serve_as.new.state (g.W.Words.held c.serve_as.new.words) c.in-Some.kind c.serve_as.result f was (λ fills is. c.serve_as.ensures.ready f fills was is) c.serve_as.ensures.turn
