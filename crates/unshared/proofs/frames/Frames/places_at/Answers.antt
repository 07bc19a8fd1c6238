use Rattle.std.proofs.Common.{◌≡◌, ◌<◌, ◌≤◌, ◌∙◌, length, ap, sym, rules, arith, subst, slice_index_or}
use Rattle.std.proofs.lemmas.Bool.Decides.{nat_tests}
use Rattle.std.proofs.lemmas.Grind.{common_steps}
use Rattle.unshared.specs.Held.{the_places}
use Rattle.unshared.specs.Silent.{there}
use Rattle.unshared.proofs.FrameLemmas.{there_outer, none_outer}
use Rattle.unshared.proofs.frames.Frames.places_at.Goals as goal

pub returns-in-Some : goal.returns-in-Some
returns-in-Some c =
    let count : c.len.result ≡ length c.args.self.now.outer.items = let e = c.len.ensures in first_of (search rules, grind (arith, common_steps)) in
    let same : c.as_slice.result.now ≡ c.args.self.now.outer.items = c.as_slice.ensures.value in
    let found = (c.in-Some.ensures {u = tt}).lookup in
    let below : c.args.level < length c.as_slice.result.now = let test = found.0 in grind (arith, nat_tests) in
    let inside : c.args.level < length c.args.self.now.outer.items = subst (λ l. c.args.level < length l) same below in
    ap there (there_outer the_places (the_places c.args.self.now.here) c.args.self.now.outer.items c.args.level c.in-Some.places.now c.in-Some.places.now (λ e. c.if-level-len.false (e ∙ sym count)) inside
    (found.1 ∙ ap (λ l. slice_index_or l c.args.level c.in-Some.places.now) same))

pub returns-in-None : goal.returns-in-None
returns-in-None c =
    let count : c.len.result ≡ length c.args.self.now.outer.items = let e = c.len.ensures in first_of (search rules, grind (arith, common_steps)) in
    let same : c.as_slice.result.now ≡ c.args.self.now.outer.items = c.as_slice.ensures.value in
    let found = (c.in-None.ensures {u = tt}).lookup in
    let past : length c.as_slice.result.now ≤ c.args.level = let test = found.0 in grind (arith, nat_tests) in
    let outside : length c.args.self.now.outer.items ≤ c.args.level = subst (λ l. length l ≤ c.args.level) same past in
    ap there (none_outer the_places (the_places c.args.self.now.here) c.args.self.now.outer.items c.args.level (λ e. c.if-level-len.false (e ∙ sym count)) outside)
