use Rattle.slot_core.proofs.memory.start_by.Given as goal

abbrev pub ghost-at : goal.ghost-at
ghost-at g a = g.start
