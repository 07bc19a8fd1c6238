use Rattle.std.proofs.Common.{◌≡◌, ◌∙◌, ◌<◌, length, Some, ap, sym, subst}
use Rattle.std.specs.Prelude.{slice_index}
use Rattle.thread_core.specs.Listed.{Listed, IsListed, MayPut, claims_of, unclaimed}
use Rattle.thread_core.proofs.ListedLemmas.{free-word, claims-put, place-put}
use Rattle.thread_core.proofs.listed.ListedWordsWords.claim.Goals as goal

pub returns-then-old-eq0-clause-place : goal.returns-then-old-eq0-clause-place
returns-then-old-eq0-clause-place g c =
    let l : Listed = c.args.self.now in
    let is : IsListed l = subst IsListed c.self.view_is c.self.invariant.0 in
    let low : c.args.i < length c.self.inside.words.items = subst (λ n. c.args.i < n) (sym c.self.invariant.0.count) c.requires.index in
    let free : slice_index l.words c.args.i ≡ 0 = subst (λ (v : Listed). slice_index v.words c.args.i ≡ 0) c.self.view_is (free-word c.self.inside.words.items c.args.i c.index-old.result.now low c.index-old.ensures c.if-old-eq0.true) in
    let may : MayPut l c.args.i c.args.new = record { inside = c.requires.index; free = free; used = c.requires.new } in
    ap unclaimed c.put.ensures ∙ place-put l c.args.i c.args.new is may

pub returns-then-old-eq0-clause-claims : goal.returns-then-old-eq0-clause-claims
returns-then-old-eq0-clause-claims g c =
    let l : Listed = c.args.self.now in
    let is : IsListed l = subst IsListed c.self.view_is c.self.invariant.0 in
    let low : c.args.i < length c.self.inside.words.items = subst (λ n. c.args.i < n) (sym c.self.invariant.0.count) c.requires.index in
    let free : slice_index l.words c.args.i ≡ 0 = subst (λ (v : Listed). slice_index v.words c.args.i ≡ 0) c.self.view_is (free-word c.self.inside.words.items c.args.i c.index-old.result.now low c.index-old.ensures c.if-old-eq0.true) in
    let may : MayPut l c.args.i c.args.new = record { inside = c.requires.index; free = free; used = c.requires.new } in
    (λ zero. ap Some (ap claims_of c.put.ensures ∙ claims-put l c.args.i c.args.new is may), λ other. absurd (other c.if-old-eq0.true))
