use Rattle.std.proofs.Common.{arith}
use Rattle.type_inst.proofs.OpeningLemmas.{extends_both, places_more}
use Rattle.type_inst.proofs.opening.places_of.Goals as goal

pub loop-kind-preserved : goal.loop-kind-preserved
loop-kind-preserved c =
    let put = c.in_ok-place.ensures {u = tt} in (
      extends_both c.args.all.now c.loop-kind.all c.place_of.new.all c.loop-kind.invariant.0 put.kept,
      places_more c.loop-kind.all c.place_of.new.all c.loop-kind.places c.put_place.new.places c.args.kinds.now c.loop-kind.kind-index c.in_ok-place.place c.kind-item.result
          put.kept c.loop-kind.invariant.1 (omega (arith, c.loop-kind-test.true)) c.kind-item.is put.place (c.in_ok-put_place.ensures {u = tt}),
    )
