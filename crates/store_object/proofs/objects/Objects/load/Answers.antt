use Rattle.std.proofs.Common.{◌≡◌, ◌+◌, ◌-◌, ap, ◌<◌, ◌≤◌, arith, ◌∙◌, vec_len}
use Rattle.std.proofs.lemmas.List.{get_or_read_under}
use Rattle.store_object.proofs.HeldLemmas.{index_below, object_there}
use Rattle.store_object.proofs.objects.Objects.load.Goals as goal

pub at-requires : goal.at-requires
at-requires g c = (c.requires.0, object_there g.store c.args.object c.args.index c.requires.1)

pub overflow_add-at : goal.overflow_add-at
overflow_add-at g c =
    let below : c.args.index < c.at.result.words = index_below g.store c.args.object c.args.index c.at.result c.at.ensures.shape c.requires.1 in
    let inside : c.at.result.from + c.at.result.words ≤ vec_len c.args.self.now.words = c.requires.0.laid.within _ _ c.at.ensures.stored in
    omega (arith, c.requires.0.limit)

pub index-requires : goal.index-requires
index-requires g c =
    let below : c.args.index < c.at.result.words = index_below g.store c.args.object c.args.index c.at.result c.at.ensures.shape c.requires.1 in
    let inside : c.at.result.from + c.at.result.words ≤ vec_len c.args.self.now.words = c.requires.0.laid.within _ _ c.at.ensures.stored in
    omega arith

pub returns : goal.returns
returns g c =
    let below : c.args.index < c.at.result.words = index_below g.store c.args.object c.args.index c.at.result c.at.ensures.shape c.requires.1 in
    let inside : c.at.result.from + c.at.result.words ≤ vec_len c.args.self.now.words = c.requires.0.laid.within _ _ c.at.ensures.stored in
    let number : (c.args.object - 1) + 1 ≡ c.args.object = omega (arith, c.at.ensures.number) in
    get_or_read_under c.args.self.now.words.items _ (vec_len c.args.self.now.words) _ 0 c.index.ensures (omega arith) c.args.self.now.words.ok.0
    ∙ c.requires.0.words (c.args.object - 1) c.args.index c.at.result c.at.ensures.stored below
    ∙ ap (λ n. g.store.word n c.args.index) number
