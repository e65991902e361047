use Rattle.slot_core.proofs.renewals.start_of.Given as goal

abbrev pub ghost-at : goal.ghost-at
ghost-at g a = g.start
