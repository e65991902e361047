use Rattle.log_start.proofs.log_start.beside.Given as goal

abbrev pub ghost-at : goal.ghost-at
ghost-at g a = g.start
