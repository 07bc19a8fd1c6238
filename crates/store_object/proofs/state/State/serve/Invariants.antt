use Rattle.store_object.proofs.state.State.serve.Given as goal

abbrev pub ghost-alloc : goal.ghost-alloc
ghost-alloc g a = g.store

abbrev pub ghost-at : goal.ghost-at
ghost-at g a = g.store

abbrev pub ghost-load : goal.ghost-load
ghost-load g a = g.store

abbrev pub ghost-save : goal.ghost-save
ghost-save g a = g.store

abbrev pub ghost-exchange : goal.ghost-exchange
ghost-exchange g a = g.store

abbrev pub ghost-compare_exchange : goal.ghost-compare_exchange
ghost-compare_exchange g a = g.store

abbrev pub ghost-add : goal.ghost-add
ghost-add g a = g.store

abbrev pub ghost-start : goal.ghost-start
ghost-start g a = g.store

abbrev pub ghost-ended : goal.ghost-ended
ghost-ended g a = g.store

abbrev pub ghost-finish : goal.ghost-finish
ghost-finish g a = g.store
