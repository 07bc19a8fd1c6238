use Rattle.std.proofs.Common.{◌+◌, ◌<◌, ◌≤◌, arith, vec_len}
use Rattle.store_object.proofs.HeldLemmas.{index_below, object_there, objects_saved}
use Rattle.store_object.proofs.objects.Objects.save.Goals as goal

pub at-requires : goal.at-requires
at-requires g c = (c.requires.0, object_there g.store c.args.object c.args.index c.requires.1)

pub overflow_add-place : goal.overflow_add-place
overflow_add-place g c =
    let below : c.args.index < c.at.result.words = index_below g.store c.args.object c.args.index c.at.result c.at.ensures.shape c.requires.1 in
    let inside : c.at.result.from + c.at.result.words ≤ vec_len c.args.self.now.words = c.requires.0.laid.within _ _ c.at.ensures.stored in
    omega (arith, c.requires.0.limit)

pub index_mut-requires : goal.index_mut-requires
index_mut-requires g c =
    let below : c.args.index < c.at.result.words = index_below g.store c.args.object c.args.index c.at.result c.at.ensures.shape c.requires.1 in
    let inside : c.at.result.from + c.at.result.words ≤ vec_len c.args.self.now.words = c.requires.0.laid.within _ _ c.at.ensures.stored in
    omega arith

pub returns : goal.returns
returns g c =
    let below : c.args.index < c.at.result.words = index_below g.store c.args.object c.args.index c.at.result c.at.ensures.shape c.requires.1 in
    objects_saved c.args.self.now g.store c.args.object c.args.index c.args.word c.at.result c.requires.0 c.at.ensures.stored c.at.ensures.number below
