use Rattle.std.proofs.Common.{◌≡◌, ◌<◌, ◌≤◌, ◌∙◌, length, sym, rules, arith}
use Rattle.std.proofs.lemmas.Grind.{common_steps}
use Rattle.unshared.specs.Forms.{the_value}
use Rattle.unshared.specs.Held.{the_places}
use Rattle.unshared.proofs.FrameLemmas.{held_outer, held_none}
use Rattle.unshared.proofs.frames.Frames.put_held.Goals as goal

pub returns-then-level-len-2-clause-places : goal.returns-then-level-len-2-clause-places
returns-then-level-len-2-clause-places c =
    let count : c.len.result ≡ length c.args.self.now.outer.items = let e = c.len.ensures in first_of (search rules, grind (arith, common_steps)) in
    let again : c.len-else-level-len.result ≡ length c.args.self.now.outer.items = let e = c.len-else-level-len.ensures in first_of (search rules, grind (arith, common_steps)) in
    let below : c.args.level < length c.args.self.now.outer.items = let test = c.if-level-len-2.true in omega (arith, test, again) in
    held_outer the_places (the_places c.args.self.now.here) c.args.self.now.outer.items c.args.level c.args.place (the_value c.args.value) c.index_mut.result.now c.put-then-level-len-2.new.self _ (λ e. c.if-level-len.false (e ∙ sym count)) below c.index_mut.ensures.value c.put-then-level-len-2.ensures

pub returns-else-level-len-2-clause-places : goal.returns-else-level-len-2-clause-places
returns-else-level-len-2-clause-places c =
    let count : c.len.result ≡ length c.args.self.now.outer.items = let e = c.len.ensures in first_of (search rules, grind (arith, common_steps)) in
    let again : c.len-else-level-len.result ≡ length c.args.self.now.outer.items = let e = c.len-else-level-len.ensures in first_of (search rules, grind (arith, common_steps)) in
    let past : length c.args.self.now.outer.items ≤ c.args.level = let test = c.if-level-len-2.false in omega (arith, test, again) in
    held_none the_places (the_places c.args.self.now.here) c.args.self.now.outer.items c.args.level c.args.place (the_value c.args.value) (λ e. c.if-level-len.false (e ∙ sym count)) past
