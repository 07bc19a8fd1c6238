use Rattle.interaction.specs.declared.history.Event.{Event}
use Rattle.store_object.specs.declared.reply.Reply.{Reply}
use Rattle.store_object.specs.declared.reply.Reply.TheVariants.{Object}
use Rattle.store_object.specs.declared.request.Request.{Request}
use Rattle.store_object.specs.declared.request.Request.TheVariants.{Alloc}
use Rattle.unshared.specs.Listed.{naming_of}
use Rattle.run_top.proofs.PutLemmas.{grew_wrote, refused}
use Rattle.run_top.proofs.MeantLemmas.{meant_at}
use Rattle.run_top.proofs.meant_lines.show_history.Goals as goal

pub returns-in-Err : goal.returns-in-Err
returns-in-Err g c =
    let none : Event Request Reply = record { thread = 0; request = Alloc 0 0 0; reply = Object 0 } in
    rw (meant_at c.args.program.now (naming_of c.args.trees.now) c.args.history.now c.loop-event.event-index none c.loop-event-test.true)
    (refused _ _ _ _ _ _ _ (grew_wrote _ _ _ _ _ _ _ _ _ c.loop-event.invariant (c.in-Err.ensures {u = tt})))
