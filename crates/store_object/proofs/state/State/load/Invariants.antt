use Rattle.store_object.proofs.state.State.load.Given as goal

abbrev pub ghost-load : goal.ghost-load
ghost-load g a = g.store

abbrev pub ghost-load-2 : goal.ghost-load-2
ghost-load-2 g a = g.store
