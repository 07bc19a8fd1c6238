use Rattle.store_object.proofs.state.State.is_place.Given as goal

abbrev pub ghost-find : goal.ghost-find
ghost-find g a = g.store
