use Rattle.std.proofs.Common.{◌≡◌, arith, vec_len, refl}
use Rattle.store_object.proofs.HeldLemmas.{objects_added}
use Rattle.store_object.proofs.objects.Objects.add.Goals as goal

pub returns-clause-ok : goal.returns-clause-ok
returns-clause-ok g c =
    let resized = c.in_ok-resize.ensures {u = tt} in
    let at_end : c.len-from.result ≡ vec_len c.args.self.now.words = c.len-from.ensures in
    objects_added c.args.self.now (record { table = c.push_reserved.new.self; words = c.resize.new.self }) g.store
    (record { kind = c.args.kind; length = c.args.len; from = c.len-from.result; words = c.args.words }) c.requires.0
    (rw (c.push_reserved.ensures.items, c.reserve.ensures.items) refl)
    (omega (arith, c.push_reserved.ensures.len, c.reserve.ensures.len))
    (omega (arith, resized.len))
    at_end
    (λ k below. resized.by_index.0 k 0 (omega arith) below)
    (λ k above below. resized.by_index.1 k 0 refl above (omega arith))
    c.requires.1
