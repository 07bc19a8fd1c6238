use Rattle.std.proofs.Common.{◌<◌, List, ℕ, length, sym, subst, arith}
use Rattle.rgctx_words.specs.Regions.{word_count}
use Rattle.std.specs.Prelude.{slice_set}
use Rattle.thread_core.specs.Listed.{Listed, IsListed, MayPut, with_put}
use Rattle.thread_core.proofs.ListedLemmas.{listed-put, listed-room}
use Rattle.thread_core.proofs.listed.ListedWords.put.Goals as goal

pub push_reserved-requires : goal.push_reserved-requires
push_reserved-requires c =
    let l : Listed = record { words = c.self.inside.words.items; claimed = c.self.inside.claimed.items } in
    let may : MayPut l c.args.i c.args.new = subst (λ (v : Listed). MayPut v c.args.i c.args.new) (sym c.self.view_is) c.requires in
    let room : length l.claimed < word_count = listed-room l c.args.i c.args.new c.self.invariant.0 may in
    let enough = c.self.invariant.1 in
    omega (arith, room, enough, c.self.inside.claimed.ok.0)

pub invariant_of-self : goal.invariant_of-self
invariant_of-self c =
    let l : Listed = record { words = c.self.inside.words.items; claimed = c.self.inside.claimed.items } in
    let may : MayPut l c.args.i c.args.new = subst (λ (v : Listed). MayPut v c.args.i c.args.new) (sym c.self.view_is) c.requires in
    let put : IsListed (with_put l c.args.i c.args.new) = listed-put l c.args.i c.args.new c.self.invariant.0 may in
    let enough = c.self.invariant.1 in
    let kept = c.push_reserved.ensures.capacity in (
      subst (λ (is : List ℕ). IsListed (record { words = slice_set l.words c.args.i c.args.new; claimed = is })) (sym c.push_reserved.ensures.items) put,
      omega (arith, enough, kept),
    )
