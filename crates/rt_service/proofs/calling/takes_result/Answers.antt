use Rattle.std.proofs.Common.{sym, ap, ◌∙◌}
use Rattle.std.specs.Option.{option_copied}
use Rattle.il_model.specs.Layouts.{words_of}
use Rattle.rgctx_fill.specs.CallServices.{do_lie, takes_result}
use Rattle.rt_service.proofs.CallLemmas.{lie_is}
use Rattle.rt_service.proofs.calling.takes_result.Goals as goal

pub returns-in_ok-words-in-Some : goal.returns-in_ok-words-in-Some
returns-in_ok-words-in-Some c =
    lie_is c.args.stack.now.words c.lies.result c.args.address c.in_ok-words-in-Some.words c.lies.ensures.0 c.lies.ensures.1
    ∙ ap (do_lie c.args.stack.now.words c.args.address) (c.in_ok-words-in-Some.ensures {u = tt} ∙ ap (words_of c.args.program.now) (c.in_ok-own-in-Some.ensures {u = tt}))
    ∙ sym (ap (λ gives. takes_result c.args.stack.now.words c.args.address c.args.program.now c.args.method.now (option_copied gives)) c.in-Some.is)
