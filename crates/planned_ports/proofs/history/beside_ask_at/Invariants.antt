use Rattle.planned_ports.proofs.history.beside_ask_at.Given as goal

abbrev pub ghost-at : goal.ghost-at
ghost-at g a = g.calls
