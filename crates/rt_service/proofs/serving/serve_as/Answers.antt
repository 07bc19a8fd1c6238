use Rattle.std.proofs.Common.{sym, subst}
use Rattle.rv_machine.specs.Registers.{register_of}
use Rattle.rgctx_template.specs.Catalogue.{CatData, data_of}
use Rattle.rgctx_fill.specs.declared.service.ServiceKind.{ServiceKind}
use Rattle.rgctx_fill.specs.ThreadStates.{ImageData, ThreadData, image_of}
use Rattle.rgctx_fill.specs.CallServices.{calls}
use Rattle.rgctx_fill.specs.TypeServices.{finds_slot, judges_assignable}
use Rattle.rgctx_fill.specs.Services.{serves_as}
use Rattle.rgctx_fill.specs.Moves.{Span, span, IsMade}
use Rattle.rt_service.proofs.serving.serve_as.Goals as goal

pub returns-in_ok-want-in-Call-clause-turn : goal.returns-in_ok-want-in-Call-clause-turn
returns-in_ok-want-in-Call-clause-turn g c =
    let cat : CatData = data_of c.args.image.now.cat in
    let im : ImageData = image_of c.args.image.now in
    let now : ThreadData = c.args.state.now in
    let h : Span = span (g.W.Words.alone c.args.words.now) (g.W.Words.held c.args.words.now) (g.W.Words.held c.call.new.words) (g.W.Words.claims c.args.words.now) (g.W.Words.claims c.call.new.words) in
    subst (λ (k : ServiceKind). IsMade cat h now (serves_as im now k) c.in_ok-want-in-Call.want c.call.new.state) (sym c.in-Call.is)
    (subst (λ (v : ThreadData). IsMade cat h now (calls im now (register_of v.core 10) (register_of v.core 11) (register_of v.core 12)) c.in_ok-want-in-Call.want c.call.new.state) c.state.view_is (c.in_ok-want-in-Call.ensures {u = tt}).turn)

pub returns-in_ok-want-in-FindSlot-clause-turn : goal.returns-in_ok-want-in-FindSlot-clause-turn
returns-in_ok-want-in-FindSlot-clause-turn g c =
    let cat : CatData = data_of c.args.image.now.cat in
    let im : ImageData = image_of c.args.image.now in
    let now : ThreadData = c.args.state.now in
    let h : Span = span (g.W.Words.alone c.args.words.now) (g.W.Words.held c.args.words.now) (g.W.Words.held c.find_slot.new.words) (g.W.Words.claims c.args.words.now) (g.W.Words.claims c.find_slot.new.words) in
    subst (λ (k : ServiceKind). IsMade cat h now (serves_as im now k) c.in_ok-want-in-FindSlot.want c.find_slot.new.state) (sym c.in-FindSlot.is)
    (subst (λ (v : ThreadData). IsMade cat h now (finds_slot im now (register_of v.core 10) (register_of v.core 11) (register_of v.core 12)) c.in_ok-want-in-FindSlot.want c.find_slot.new.state) c.state.view_is (c.in_ok-want-in-FindSlot.ensures {u = tt}).turn)

pub returns-in_ok-want-in-Assignable-clause-turn : goal.returns-in_ok-want-in-Assignable-clause-turn
returns-in_ok-want-in-Assignable-clause-turn g c =
    let cat : CatData = data_of c.args.image.now.cat in
    let im : ImageData = image_of c.args.image.now in
    let now : ThreadData = c.args.state.now in
    let h : Span = span (g.W.Words.alone c.args.words.now) (g.W.Words.held c.args.words.now) (g.W.Words.held c.judge_assignable.new.words) (g.W.Words.claims c.args.words.now) (g.W.Words.claims c.judge_assignable.new.words) in
    subst (λ (k : ServiceKind). IsMade cat h now (serves_as im now k) c.in_ok-want-in-Assignable.want c.judge_assignable.new.state) (sym c.in-Assignable.is)
    (subst (λ (v : ThreadData). IsMade cat h now (judges_assignable im now (register_of v.core 10) (register_of v.core 11)) c.in_ok-want-in-Assignable.want c.judge_assignable.new.state) c.state.view_is (c.in_ok-want-in-Assignable.ensures {u = tt}).turn)

pub returns-in_err-want-in-Fill-clause-ready : goal.returns-in_err-want-in-Fill-clause-ready
returns-in_err-want-in-Fill-clause-ready g c = λ f fill was is. c.fill.ensures.ready f was is

pub returns-in_ok-want-in-Fill-clause-ready : goal.returns-in_ok-want-in-Fill-clause-ready
returns-in_ok-want-in-Fill-clause-ready g c = λ f fill was is. c.fill.ensures.ready f was is
