use Rattle.unshared.specs.Listed.{naming_of}
use Rattle.run_top.specs.Written.{meant_output, meant_ending_line}
use Rattle.run_top.proofs.PutLemmas.{grew_wrote, refused}
use Rattle.run_top.proofs.MeantLemmas.{output_is}
use Rattle.run_top.proofs.meant_lines.show_named.Goals as goal

pub returns-in-Err : goal.returns-in-Err
returns-in-Err g c =
    let p = c.args.run.now.program.program in
    let n = naming_of c.args.run.now.meant.trees in
    rw (output_is p n c.args.run.now.meant.history.items)
    (refused _ _ _ _ _ (meant_output p n c.args.run.now.meant.history.items) (meant_ending_line p n c.args.run.now.meant.ending)
    (rw (c.as_slice.ensures.value, c.as_slice-trees.ensures) at (c.in-Err.ensures {u = tt})))

pub returns-in-Ok : goal.returns-in-Ok
returns-in-Ok g c =
    let p = c.args.run.now.program.program in
    let n = naming_of c.args.run.now.meant.trees in
    let w = rw (c.as_slice.ensures.value, c.as_slice-trees.ensures) at (c.in-Ok.ensures {u = tt}) in
    rw (output_is p n c.args.run.now.meant.history.items)
    (grew_wrote _ _ _ _ _ _ _ (meant_output p n c.args.run.now.meant.history.items) (meant_ending_line p n c.args.run.now.meant.ending) (record { grew = w.ok; later = w.cause.later })
    (rw c.as_slice-trees.ensures at c.show_ending.ensures))
