use Rattle.std.proofs.Common.{◌++◌, ◌-◌, ◌∙◌, map, take, reverse, length, slice_range, nat_le, Ok, ap, sym}
use Rattle.unshared.specs.Forms.{the_value}
use Rattle.unshared.specs.Silent.{where_so}
use Rattle.unshared.specs.Taken.{values_taken}
use Rattle.unshared.proofs.StackLemmas.{taken_is}
use Rattle.unshared.proofs.calls.values_taken.Goals as goal

pub returns : goal.returns
unfolding values_taken
returns c =
    ap (λ l. where_so (nat_le c.args.count (length (reverse (map the_value l)))) (Ok (reverse (take c.args.count (reverse (map the_value l)))))) (sym c.as_slice-stack.ensures.value)
    ∙ taken_is the_value c.as_slice-stack.result.now c.args.count c.if-count-stack.false
    ∙ ap Ok (sym (c.in_ok-hold_all.ensures {u = tt} ∙ ap (λ l. map the_value l ++ map the_value (slice_range c.as_slice-stack.result.now (length c.as_slice-stack.result.now - c.args.count) (length c.as_slice-stack.result.now))) c.new-held.ensures.items))
