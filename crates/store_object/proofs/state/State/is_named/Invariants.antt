use Rattle.store_object.proofs.state.State.is_named.Given as goal

abbrev pub ghost-is_object : goal.ghost-is_object
ghost-is_object g a = g.store

abbrev pub ghost-is_place : goal.ghost-is_place
ghost-is_place g a = g.store
