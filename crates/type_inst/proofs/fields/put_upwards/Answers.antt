use Rattle.std.proofs.Common.{◌-◌, length, refl, arith}
use Rattle.il_model.specs.Layouts.{own_kinds_of}
use Rattle.type_inst.proofs.LayingLemmas.{upwards_more}
use Rattle.type_inst.proofs.fields.put_upwards.Goals as goal

pub loop-i-preserved : goal.loop-i-preserved
loop-i-preserved c =
    upwards_more (own_kinds_of c.args.program.now) c.args.chain.now c.args.all.now c.loop-i.all c.put_own_kinds.new.all
    c.loop-i.i (length c.args.chain.now - 1 - c.loop-i.i) c.index-chain-chain.result (omega (arith, c.loop-i-test.true)) refl c.index-chain-chain.is
    c.loop-i.invariant (c.in_ok-put_own_kinds.ensures {u = tt})
