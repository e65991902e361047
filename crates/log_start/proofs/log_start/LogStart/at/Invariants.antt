use Rattle.log_start.proofs.log_start.LogStart.at.Given as goal

abbrev pub ghost-at : goal.ghost-at
ghost-at g a = g.start
