use Rattle.store_object.proofs.state.State.answer.Given as goal

abbrev pub ghost-is_live : goal.ghost-is_live
ghost-is_live g a = g.store

abbrev pub ghost-is_named : goal.ghost-is_named
ghost-is_named g a = g.store

abbrev pub ghost-serve : goal.ghost-serve
ghost-serve g a = g.store
