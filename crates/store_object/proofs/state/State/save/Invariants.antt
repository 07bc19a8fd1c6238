use Rattle.store_object.proofs.state.State.save.Given as goal

abbrev pub ghost-save : goal.ghost-save
ghost-save g a = g.store

abbrev pub ghost-save-2 : goal.ghost-save-2
ghost-save-2 g a = g.store
