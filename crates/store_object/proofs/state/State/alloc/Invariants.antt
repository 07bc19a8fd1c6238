use Rattle.store_object.proofs.state.State.alloc.Given as goal

abbrev pub ghost-has_heap : goal.ghost-has_heap
ghost-has_heap g a = g.store

abbrev pub ghost-add : goal.ghost-add
ghost-add g a = g.store
