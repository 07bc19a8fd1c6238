use Rattle.run_top.specs.History.{output}
use Rattle.run_top.specs.Written.{ending_line}
use Rattle.run_top.proofs.PutLemmas.{grew_wrote, refused}
use Rattle.run_top.proofs.written.show_run.Goals as goal

pub returns-in-Err : goal.returns-in-Err
returns-in-Err g c = refused _ _ _ _ _ (output c.args.run.now.history.items) (ending_line c.args.run.now.ending) (rw c.as_slice.ensures.value at (c.in-Err.ensures {u = tt}))

pub returns-in-Ok : goal.returns-in-Ok
returns-in-Ok g c =
    let w = rw c.as_slice.ensures.value at (c.in-Ok.ensures {u = tt}) in
    grew_wrote _ _ _ _ _ _ _ (output c.args.run.now.history.items) (ending_line c.args.run.now.ending) (record { grew = w.ok; later = w.cause.later }) c.show_ending.ensures
