use Rattle.store_object.proofs.state.State.add.Given as goal

abbrev pub ghost-load : goal.ghost-load
ghost-load g a = g.store

abbrev pub ghost-save : goal.ghost-save
ghost-save g a = g.store
