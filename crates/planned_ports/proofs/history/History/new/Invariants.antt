use Rattle.std.proofs.Common.{[]}
use Rattle.planned_ports.proofs.history.History.new.Given as goal

abbrev pub ghost-at : goal.ghost-at
ghost-at a = []
