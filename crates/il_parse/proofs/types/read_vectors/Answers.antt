use Rattle.std.proofs.Common.{◌≡◌, true, codes, rules, arith}
use Rattle.std.proofs.lemmas.Grind.{common_steps}
use Rattle.il_parse.specs.Reading.{sees}
use Rattle.il_parse.proofs.ReadLemmas.{shorter}
use Rattle.il_parse.proofs.types.read_vectors.Goals as goal

pub loop-alloc-smaller : goal.loop-alloc-smaller
loop-alloc-smaller c =
    let seen : sees (codes "[]") c.loop-alloc.cursor ≡ true = first_of (search rules, grind (arith, common_steps)) in
    let e = shorter (codes "[]") c.loop-alloc.cursor seen in
    first_of (search rules, grind (arith, common_steps))
