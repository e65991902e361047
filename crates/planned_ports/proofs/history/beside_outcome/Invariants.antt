use Rattle.planned_ports.proofs.history.beside_outcome.Given as goal

abbrev pub ghost-at : goal.ghost-at
ghost-at g a = g.calls
