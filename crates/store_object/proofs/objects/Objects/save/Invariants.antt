use Rattle.store_object.proofs.objects.Objects.save.Given as goal

abbrev pub ghost-at : goal.ghost-at
ghost-at g a = g.store
