use Rattle.std.proofs.Common.{◌≡◌, sym, subst}
use Rattle.rgctx_fill.specs.declared.doing.Doing.TheVariants.{Fills}
use Rattle.rgctx_fill.specs.ThreadStates.{ThreadData}
use Rattle.rgctx_fill.specs.ThreadTurns.{next_move}
use Rattle.rgctx_fill.specs.Moves.{IsReplied}
use Rattle.rgctx_fill.specs.Turns.{FillData}
use Rattle.rt_service.proofs.KeptLemmas.{no_fill_begins}
use Rattle.rt_service.proofs.ReplyLemmas.{reply_is}
use Rattle.rt_service.proofs.answering.answer.Goals as goal

pub returns : goal.returns
returns c = record {
  turn = λ im. subst (λ (new : ThreadData). IsReplied (next_move im c.args.state.now) c.args.reply new) (sym c.take_reply.ensures) (reply_is im c.args.state.now c.args.reply c.args.state.now.doing);
  fill = subst (λ (new : ThreadData). (f : FillData) → new.doing ≡ Fills f → c.args.state.now.doing ≡ Fills f) (sym c.take_reply.ensures) (no_fill_begins c.args.state.now c.args.reply c.args.state.now.doing);
}
