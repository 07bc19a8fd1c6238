use Rattle.std.proofs.Common.{◌∙◌, Ok, ap, sym}
use Rattle.unshared.specs.Kept.{changed}
use Rattle.unshared.proofs.WordLemmas.{where_fits}
use Rattle.unshared.proofs.memory.change.Goals as goal

pub returns : goal.returns
unfolding changed
returns c = where_fits c.args.words.now c.args.from c.args.new.now c.if-new-words.false c.if-from-words.false ∙ ap Ok (sym (c.in_ok-joined.ensures {u = tt}))
