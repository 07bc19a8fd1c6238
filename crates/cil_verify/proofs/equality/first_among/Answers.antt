use Rattle.std.proofs.Common.{◌∙◌, sym}
use Rattle.il_model.specs.Trees.{is_among}
use Rattle.cil_verify.proofs.FindLemmas.{first_passes, none_next}
use Rattle.cil_verify.proofs.equality.first_among.Goals as goal

pub returns-then-is_among : goal.returns-then-is_among
returns-then-is_among c =
    first_passes (is_among c.args.kinds.now) c.args.others.now c.loop-other.other-index c.other-item.result
    c.loop-other-test.true c.other-item.is c.loop-other.invariant (sym c.is_among.ensures ∙ c.if-is_among.true)

pub loop-other-preserved : goal.loop-other-preserved
loop-other-preserved c =
    none_next (is_among c.args.kinds.now) c.args.others.now c.loop-other.other-index c.other-item.result
    c.loop-other-test.true c.other-item.is c.loop-other.invariant (sym c.is_among.ensures ∙ c.if-is_among.false)
